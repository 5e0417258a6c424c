use Rattle.std.proofs.Common.{◌≡◌, inr, true, [], Some, None, Result, Ok, refl, sym, ap, subst, ◌∙◌}
use Rattle.std.specs.Prelude.{IfOk, is_some, unwrap_or}
use Rattle.std.proofs.lemmas.Option.{none-some}
use Rattle.std.proofs.lemmas.Result.{err_from_is_err_and}
use Rattle.pm_model.proofs.Reading.{still_size}
use Rattle.pm_model.specs.Words.{reads}
use Rattle.pud_defs.specs.declared.machine.Command.TheVariants.{Begin}
use Rattle.pud_defs.specs.declared.machine.Refusal.{Refusal}
use Rattle.pud_defs.specs.StateMachine.Step.{world_by, refusal_of}
use Rattle.daemon_memory.specs.Beginning.{MayBegin}
use Rattle.daemon_memory.specs.PoolKnowledge.{known_puddles_in}
use Rattle.daemon_memory.specs.Owning.{refusal_found}
use Rattle.daemon_memory.specs.declared.finding.FoundPool.{FoundPool}
use Rattle.daemon_memory.specs.declared.finding.Need.TheVariants as needs
use Rattle.daemon_memory.specs.Finding.{needs_graph, IsFound}
use Rattle.daemon_memory.proofs.Commands.Leading.{AppliesWith-still}
use Rattle.pool_transaction.proofs.TransactionLines.Commanding.{begin_is_plain}
use Rattle.daemon_memory.proofs.Commands.CarriedOut.{CarriesOut-refused, CarriesOut-unread, CarriesOut-replied, ready_read, Applies-untouched}
use Rattle.pool_transaction.proofs.TransactionLines.Entering.{there_is}
use Rattle.daemon_memory.proofs.PoolsFound.Found.{finds, may_begin}
use Rattle.daemon_memory.proofs.PoolsFound.Needs.{refused_begin}
use Rattle.daemon_memory.proofs.Commands.Keeping.{KeepsRest-still}
use Rattle.daemon_memory.proofs.Commands.Acting.{unless_reading}
use Rattle.pool_transaction.proofs.TransactionLines.Acted.{own_opened, acts_deeper}
use Rattle.pool_transaction.proofs.lines.begin.Goals as goal
use Rattle.daemon_memory.specs.Leading.{IsStill}
use Rattle.pool_transaction.specs.Ending.{BeginsOn}

pub returns-in_err-refusal-clause-carries : goal.returns-in_err-refusal-clause-carries
returns-in_err-refusal-clause-carries g c =
    let p = err_from_is_err_and c.from_residual.result c.from_residual.ensures.1 in
    rw (p.1, p.2) (λ t size e w ready.
    let k = c.in_err-refusal.ensures in
    let known = ready_read size w c.find_pool.new.self _ _ (k.only_reads.stays t) (k.ready t size w ready) in
    CarriesOut-unread IsStill (BeginsOn w c.args.client c.args.name) size w c.find_pool.new.self _ _ _ _ (Begin c.args.client c.args.name) (begin_is_plain c.args.client c.args.name) (k.only_reads.stays t) known c.in_err-refusal.field-0.0 k.only_reads.never_cut k.only_reads.cause)

pub returns-in-Err-clause-carries : goal.returns-in-Err-clause-carries
returns-in-Err-clause-carries g c = λ t size e w ready.
    let k = c.in_ok-refusal.ensures in
    let known = ready_read size w c.find_pool.new.self _ _ (k.only_reads.stays t) (k.ready t size w ready) in
    let refused = refused_begin w c.args.client c.args.name c.in-Err.refusal (sym (k.refusal t size w ready) ∙ ap refusal_found c.in-Err.is) in
    CarriesOut-refused IsStill (BeginsOn w c.args.client c.args.name) size w c.find_pool.new.self _ _ _ _ (Begin c.args.client c.args.name) (begin_is_plain c.args.client c.args.name) (k.only_reads.stays t) known c.in-Err.refusal refused k.only_reads.cause

-- ---- the client may write the pool

pub returns-in-Some-clause-carries : goal.returns-in-Some-clause-carries
returns-in-Some-clause-carries g c = λ t size e w ready.
    let k = c.in_ok-refusal.ensures in
    let now = c.find_pool.new.self in
    let s = g.H.Host.state c.find_pool.new.h in
    let here = finds size w needs.Write c.args.client c.args.name c.args.memory.now now _ s _ c.in-Ok.found c.in-Ok.is (k.only_reads.stays t) k.sessions (k.ready t size w ready) (k.refusal t size w ready) (k.found t size w ready) k.whose in
    let mine = here.is.own c.in-Some.number c.in-Some.is in
    let n = c.begin_deeper.ensures in
    CarriesOut-replied IsStill (BeginsOn w c.args.client c.args.name) size w c.begin_deeper.new.memory _ _ _ _ _ _ (Begin c.args.client c.args.name) (begin_is_plain c.args.client c.args.name) (k.only_reads.stays t) k.only_reads.cause (KeepsRest-still _ _ refl)
    (Ok c.begin_deeper.result)
    (inr (unless_reading (BeginsOn w c.args.client c.args.name) (λ fault. acts_deeper w c.args.client c.args.name _ (own_opened size w now s here.ready c.args.client c.args.name c.in-Ok.found.slot c.in-Some.number mine) fault s s refl) None refl (refusal_of w (Begin c.args.client c.args.name))))
    (n.reply size w c.args.name s here.ready mine here.free)
    (AppliesWith-still size w _ _ _ _ _ IsStill (Begin c.args.client c.args.name) refl
    (Applies-untouched size w (world_by w (Some (Begin c.args.client c.args.name))) now c.begin_deeper.new.memory s here.ready (n.ready size w c.args.name s here.ready mine here.free))) refl

pub returns-in-None-clause-carries : goal.returns-in-None-clause-carries
returns-in-None-clause-carries g c = λ t size e w ready.
    let slot = c.in-Ok.found.slot in
    let k = c.in_ok-refusal.ensures in
    let now = c.find_pool.new.self in
    let s = g.H.Host.state c.find_pool.new.h in
    let here = finds size w needs.Write c.args.client c.args.name c.args.memory.now now _ s _ c.in-Ok.found c.in-Ok.is (k.only_reads.stays t) k.sessions (k.ready t size w ready) (k.refusal t size w ready) (k.found t size w ready) k.whose in
    let at = unwrap_or (known_puddles_in now.known_pools slot) [] in
    let known = subst (λ (r : Result FoundPool Refusal). IfOk r (λ f. needs_graph needs.Write ≡ true → true ≡ is_some (known_puddles_in now.known_pools f.slot))) c.in-Ok.is k.known refl in
    let there = there_is (known_puddles_in now.known_pools slot) [] known in
    let may = may_begin size w now s here.ready c.args.client c.args.name slot here.is.rec here.is.is at c.requires.known here.free (here.is.known refl) in
    let might = subst (λ F. MayBegin F c.args.client c.args.name (reads s.now.words) slot at) (sym here.ready.frames) may in
    let n = c.begin_on.ensures in
    let d = n.does t size (still_size k.only_reads e) w at here.ready here.free there might in
    CarriesOut-replied IsStill (BeginsOn w c.args.client c.args.name) size w c.begin_on.new.memory _ _ _ _ _ _ (Begin c.args.client c.args.name) (begin_is_plain c.args.client c.args.name) (k.only_reads.stays t) k.only_reads.cause (n.rest t)
    c.begin_on.result d.acts d.reply (AppliesWith-still size w _ _ _ _ _ IsStill (Begin c.args.client c.args.name) refl d.applies) n.cause

-- ---- a transaction is open on the pool

pub returns-in-None-clause-nested : goal.returns-in-None-clause-nested
returns-in-None-clause-nested g c = λ t size w ready running is.
    let k = c.in_ok-refusal.ensures in
    let found = subst (λ (r : Result FoundPool Refusal). IfOk r (IsFound w needs.Write c.args.client c.args.name (reads (g.H.Host.state c.args.h.now).now.words) c.find_pool.new.self)) c.in-Ok.is (k.found t size w ready) in
    absurd (none-some running (sym (found.none c.in-None.is) ∙ is))
