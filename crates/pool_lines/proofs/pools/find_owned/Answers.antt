use Rattle.std.proofs.Common.{Option, Some, None, cond, sym, ap, subst, ◌∙◌}
use Rattle.pm_model.specs.Words.{reads}
use Rattle.pm_model.specs.Moments.{State}
use Rattle.pud_defs.specs.declared.machine.Refusal.TheVariants as refusals
use Rattle.pud_defs.specs.StateMachine.Transactions.{is_own}
use Rattle.pud_defs.specs.StateMachine.World.{Transaction}
use Rattle.daemon_memory.specs.Owning.{refusal_found, IsRecordSlot}
use Rattle.daemon_memory.specs.declared.finding.Need.TheVariants as needs
use Rattle.pool_lines.proofs.FileTransfers.ExportLines.{own_is_open}
use Rattle.daemon_memory.proofs.PoolsFound.Found.{finds, slot_is, its_number, no_number}
use Rattle.daemon_memory.proofs.PoolsFound.Needs.{owner_refused, owner_free}
use Rattle.pool_lines.proofs.pools.find_owned.Goals as goal

pub returns-in-Err-clause-refusal : goal.returns-in-Err-clause-refusal
returns-in-Err-clause-refusal g c = λ t size w ready.
    sym (owner_refused w c.args.client c.args.name c.in-Err.refusal (sym (c.in_ok-refusal.ensures.refusal t size w ready) ∙ ap refusal_found c.in-Err.is))

pub returns-then-is_some-clause-refusal : goal.returns-then-is_some-clause-refusal
returns-then-is_some-clause-refusal g c = λ t size w ready.
    let k = c.in_ok-refusal.ensures in
    let now = c.find_pool.new.self in
    let here = finds size w needs.Owner c.args.client c.args.name c.args.memory.now now _ _ _ c.in-Ok.found c.in-Ok.is (k.only_reads.stays t) k.sessions (k.ready t size w ready) (k.refusal t size w ready) (k.found t size w ready) k.whose in
    let mine = its_number c.in-Ok.found.own (sym c.is_some.ensures ∙ c.if-is_some.true) in
    let own = here.is.own mine.0 mine.1 in
    sym (owner_free w c.args.client c.args.name here.free ∙ ap (λ b. cond b (Some refusals.OpenHere) None) (own_is_open size w now _ here.ready c.args.client c.args.name mine.0 own.own))

pub returns-clause-refusal : goal.returns-clause-refusal
returns-clause-refusal g c = λ t size w ready.
    let k = c.in_ok-refusal.ensures in
    let here = finds size w needs.Owner c.args.client c.args.name c.args.memory.now c.find_pool.new.self _ _ _ c.in-Ok.found c.in-Ok.is (k.only_reads.stays t) k.sessions (k.ready t size w ready) (k.refusal t size w ready) (k.found t size w ready) k.whose in
    sym (owner_free w c.args.client c.args.name here.free ∙ ap (λ (o : Option Transaction). cond (is_own c.args.client o) (Some refusals.OpenHere) None) (here.is.none (no_number c.in-Ok.found.own (sym c.is_some.ensures ∙ c.if-is_some.false))))

pub returns-clause-slot : goal.returns-clause-slot
returns-clause-slot g c = λ t size w ready.
    let k = c.in_ok-refusal.ensures in
    let here = finds size w needs.Owner c.args.client c.args.name c.args.memory.now c.find_pool.new.self _ _ _ c.in-Ok.found c.in-Ok.is (k.only_reads.stays t) k.sessions (k.ready t size w ready) (k.refusal t size w ready) (k.found t size w ready) k.whose in
    subst (λ (s : State). IsRecordSlot w.stored.frames c.args.name (reads s.now.words) c.in-Ok.found.slot) (k.only_reads.stays t)
    (slot_is size w c.find_pool.new.self _ here.ready c.args.client c.args.name c.in-Ok.found.slot here.is.rec here.is.is)
