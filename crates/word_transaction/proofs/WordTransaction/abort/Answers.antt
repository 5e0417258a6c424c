use Rattle.std.proofs.Common.{◌∙◌, inl, ℕ, sym, subst}
use Rattle.pm_model.specs.Words.{reads}
use Rattle.pm_model.specs.Counts.{fault_of}
use Rattle.pm_model.specs.Changes.{Write, Changes, Leaves, Silently, only, written}
use Rattle.pm_model.proofs.Changes.{Changes-wider}
use Rattle.pm_model.proofs.Words.{only_at}
use Rattle.pud_defs.specs.declared.log_words.TheConstants.{CLOSED_GATE}
use Rattle.log_replay.specs.declared.Target.TheVariants.{Puddles}
use Rattle.log_replay.specs.Replaying.{address_map_of, IsReplayable, HasDurableLog, ByLog, IsSettling, SettlesLog}
use Rattle.log_replay.proofs.Applying.{any_wider}
use Rattle.word_transaction.specs.Scope.{saved, saved_in}
use Rattle.word_transaction.proofs.Undone.{AbortsTransaction-empty, Gives-running}
use Rattle.word_transaction.proofs.Settled.{saved_open, replayable, durable_log, named_settled, AbortsTransaction-settled}
use Rattle.word_transaction.proofs.WordTransaction.abort.Goals as goal

pub returns-then-used-eq0-clause-closes : goal.returns-then-used-eq0-clause-closes
returns-then-used-eq0-clause-closes g c =
    rw (← c.self.view_is) (λ t size same scope es before is r places table.
    AbortsTransaction-empty size _ es scope before (fault_of c.close.result) _ _ is r (sym c.used-used.ensures.used ∙ c.if-used-eq0.true) (c.close.ensures.persists t))

pub returns-then-used-eq0-clause-any : goal.returns-then-used-eq0-clause-any
returns-then-used-eq0-clause-any g c = λ t. any_wider _ (fault_of c.close.result) _ _ (c.close.ensures.persists t).changes

pub returns-clause-closes : goal.returns-clause-closes
returns-clause-closes g c =
    let F = c.args.frames in
    let log = c.self.inside.log in
    let old = g.H.Host.state c.args.h.now in
    let new = g.H.Host.state c.settle_log.new.h in
    let fault = fault_of c.settle_log.result in
    let here = c.at.ensures in
    rw (← c.self.view_is) (λ t size same scope es before is r places table.
    let gives = Gives-running size scope log es before old.now.words is r in
    let write = saved scope.place es in
    let may = subst (λ (k : ℕ). IsReplayable (address_map_of (Puddles F) (reads old.now.words)) size k es (reads old.now.words)) (sym here) (replayable size F scope log es write before old is gives places table) in
    let durable = subst (λ (k : ℕ). HasDurableLog (Puddles F) k old.now.words) (sym here) (durable_log size F scope log es write before old is gives places table) in
    let recovers = subst (λ (k : ℕ). SettlesLog (Puddles F) k fault old new) here (c.settle_log.ensures.settles t size same es may) in
    let moments = subst (λ (k : ℕ). Leaves (Silently (IsSettling (Puddles F) k old.now.words)) old new) here (c.settle_log.ensures.moments t size same es may durable) in
    AbortsTransaction-settled size F scope log es write before old is gives places table fault new recovers moments)

-- ---- which words it writes

pub returns-then-used-eq0-clause-names : goal.returns-then-used-eq0-clause-names
returns-then-used-eq0-clause-names g c =
    let log = c.self.inside.log in
    let old = g.H.Host.state c.args.h.now in
    rw (← c.self.view_is) (λ t size same scope es before is r places table.
    Changes-wider (written (only log.gate_at CLOSED_GATE)) (ByLog log.gate_at (saved_in scope.place log.gate_at (reads old.now.words))) (fault_of c.close.result) old (g.H.Host.state c.close.new.h)
    (λ k v new. inl (only_at log.gate_at CLOSED_GATE k v new)) (c.close.ensures.persists t).changes)

pub returns-clause-names : goal.returns-clause-names
returns-clause-names g c =
    let F = c.args.frames in
    let log = c.self.inside.log in
    let old = g.H.Host.state c.args.h.now in
    let new = g.H.Host.state c.settle_log.new.h in
    let fault = fault_of c.settle_log.result in
    let here = c.at.ensures in
    rw (← c.self.view_is) (λ t size same scope es before is r places table.
    let gives = Gives-running size scope log es before old.now.words is r in
    let write = saved scope.place es in
    let may = subst (λ (k : ℕ). IsReplayable (address_map_of (Puddles F) (reads old.now.words)) size k es (reads old.now.words)) (sym here) (replayable size F scope log es write before old is gives places table) in
    let recovers = subst (λ (k : ℕ). SettlesLog (Puddles F) k fault old new) here (c.settle_log.ensures.settles t size same es may) in
    subst (λ (w : Write). Changes (ByLog log.gate_at w) fault old new) (sym (saved_open scope.place log es old.now.words r.opened)) (named_settled size F scope log es write before old is gives places table fault new recovers))
