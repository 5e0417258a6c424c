use Rattle.std.proofs.Common.{ℕ, ◌++◌, None, refl, sym, subst, ◌∙◌}
use Rattle.std.proofs.lemmas.Result.{err_from_is_err_and}
use Rattle.pm_model.specs.Words.{reads}
use Rattle.pm_model.specs.Counts.{fault_of}
use Rattle.log_replay.specs.declared.Target.TheVariants.{Puddles}
use Rattle.log_replay.specs.Replaying.{address_map_of, IsReplayable}
use Rattle.log_replay.proofs.Applying.{any_then, any_wider}
use Rattle.word_transaction.specs.Scope.{saved}
use Rattle.word_transaction.proofs.Undone.{Gives-running}
use Rattle.word_transaction.proofs.Settled.{replayable}
use Rattle.word_transaction.proofs.UndoneTo.{KeepsRunning-undone, KeepsRunning-undone_to, KeepsRunning-undone_short, Undoes-saved, in_gate}
use Rattle.word_transaction.proofs.WordTransaction.undo_to.Goals as goal

pub returns-in_err-undo_past-clause-undoes : goal.returns-in_err-undo_past-clause-undoes
returns-in_err-undo_past-clause-undoes g c =
    let F = c.args.frames in
    let log = c.self.inside.log in
    let old = g.H.Host.state c.args.h.now in
    let here = c.at-at.ensures in
    let p = err_from_is_err_and c.from_residual.result c.from_residual.ensures.1 in
    rw (p.1, p.2, ← c.self.view_is) (λ t size same scope front before is ends back r begun places table.
    let es = front ++ back in
    let may = subst (λ (k : ℕ). IsReplayable (address_map_of (Puddles F) (reads old.now.words)) size k es (reads old.now.words)) (sym here)
    (replayable size F scope log es (saved scope.place es) before old is (Gives-running size scope log es before old.now.words is r) places table) in
    KeepsRunning-undone_short size scope log front back before c.args.to.used _ _ _ is r
    (Undoes-saved F _ scope log front back before _ _ _ here r places (c.in_err-undo_past.ensures.undoes t size same front back may (ends ∙ sym c.from-passed.ensures))))

pub returns-clause-undoes : goal.returns-clause-undoes
returns-clause-undoes g c =
    let F = c.args.frames in
    let log = c.self.inside.log in
    let old = g.H.Host.state c.args.h.now in
    let mid = g.H.Host.state c.undo_past.new.h in
    let fault = fault_of c.cut_back.result in
    let here = c.at-at.ensures in
    rw (← c.self.view_is) (λ t size same scope front before is ends back r begun places table.
    let es = front ++ back in
    let may = subst (λ (k : ℕ). IsReplayable (address_map_of (Puddles F) (reads old.now.words)) size k es (reads old.now.words)) (sym here)
    (replayable size F scope log es (saved scope.place es) before old is (Gives-running size scope log es before old.now.words is r) places table) in
    let undoes = Undoes-saved F _ scope log front back before None old mid here r places (c.in_ok-undo_past.ensures.undoes t size same front back may (ends ∙ sym c.from-passed.ensures)) in
    let running = (KeepsRunning-undone size scope log front back before None old mid is r undoes).running refl in
    KeepsRunning-undone_to size scope log front back before c.args.to.used fault old mid _ is r begun undoes (in_gate log _ fault _ _ (c.cut_back.ensures.persists t)) (c.cut_back.ensures.cuts t front back running.opened ends))

pub returns-clause-any : goal.returns-clause-any
returns-clause-any g c = λ t. any_then (fault_of c.cut_back.result) _ _ _ (c.in_ok-undo_past.ensures.any t) (any_wider _ (fault_of c.cut_back.result) _ _ (c.cut_back.ensures.persists t).changes)
