use Rattle.std.proofs.Common.{◌≡◌, IfOk, sym, subst}
use Rattle.pm_model.specs.Words.{reads}
use Rattle.pud_defs.specs.StateMachine.Step.{refusal_of}
use Rattle.registry.specs.Places.{refusal_in}
use Rattle.pool_transaction.specs.declared.changing.Update.{Update}
use Rattle.pool_transaction.specs.Changing.{command_of_update, IsUpdate}
use Rattle.pool_transaction.proofs.Updates.TransactionRefusals.{refusal_of-later}
use Rattle.pool_transaction.proofs.refusals.find_update.Goals as goal

pub returns-in-Set-clause-refusal : goal.returns-in-Set-clause-refusal
returns-in-Set-clause-refusal g c = λ t size w memory its ready.
    subst (λ (update : Update). IfOk c.find_field.result (λ found. refusal_in found ≡ refusal_of w (command_of_update update c.args.opened.now.client c.args.opened.now.name))) (sym c.in-Set.is)
    (c.find_field.ensures.refusal t size w memory its ready)

pub returns-in-Set-clause-update : goal.returns-in-Set-clause-update
returns-in-Set-clause-update g c = λ t size w memory its ready.
    subst (λ (update : Update). IfOk c.find_field.result (λ found. IfOk found (IsUpdate c.args.frames c.args.opened.now c.args.pool.now w (reads (g.H.Host.state c.args.h.now).now.words) update))) (sym c.in-Set.is)
    (c.find_field.ensures.update t size w memory its ready)

pub returns-in-Later-clause-refusal : goal.returns-in-Later-clause-refusal
returns-in-Later-clause-refusal g c = λ t size w memory its ready.
    subst (λ (update : Update). IfOk c.find_field-in-Later.result (λ found. refusal_in found ≡ refusal_of w (command_of_update update c.args.opened.now.client c.args.opened.now.name))) (sym c.in-Later.is)
    (subst (λ q. IfOk c.find_field-in-Later.result (λ found. refusal_in found ≡ q)) (sym (refusal_of-later w c.args.opened.now.client c.args.opened.now.name c.in-Later.s c.in-Later.f c.in-Later.x))
    (c.find_field-in-Later.ensures.refusal t size w memory its ready))

pub returns-in-Later-clause-update : goal.returns-in-Later-clause-update
returns-in-Later-clause-update g c = λ t size w memory its ready.
    subst (λ (update : Update). IfOk c.find_field-in-Later.result (λ found. IfOk found (IsUpdate c.args.frames c.args.opened.now c.args.pool.now w (reads (g.H.Host.state c.args.h.now).now.words) update))) (sym c.in-Later.is)
    (c.find_field-in-Later.ensures.update t size w memory its ready)

pub returns-in-Root-clause-refusal : goal.returns-in-Root-clause-refusal
returns-in-Root-clause-refusal g c = λ t size w memory its ready.
    subst (λ (update : Update). IfOk c.find_root.result (λ found. refusal_in found ≡ refusal_of w (command_of_update update c.args.opened.now.client c.args.opened.now.name))) (sym c.in-Root.is)
    (c.find_root.ensures.refusal t size w memory its ready)

pub returns-in-Root-clause-update : goal.returns-in-Root-clause-update
returns-in-Root-clause-update g c = λ t size w memory its ready.
    subst (λ (update : Update). IfOk c.find_root.result (λ found. IfOk found (IsUpdate c.args.frames c.args.opened.now c.args.pool.now w (reads (g.H.Host.state c.args.h.now).now.words) update))) (sym c.in-Root.is)
    (c.find_root.ensures.update t size w memory its ready)

pub returns-in-Free-clause-refusal : goal.returns-in-Free-clause-refusal
returns-in-Free-clause-refusal g c = λ t size w memory its ready.
    subst (λ (update : Update). IfOk c.find_free.result (λ found. refusal_in found ≡ refusal_of w (command_of_update update c.args.opened.now.client c.args.opened.now.name))) (sym c.in-Free.is)
    (c.find_free.ensures.refusal t size w memory its ready)

pub returns-in-Free-clause-update : goal.returns-in-Free-clause-update
returns-in-Free-clause-update g c = λ t size w memory its ready.
    subst (λ (update : Update). IfOk c.find_free.result (λ found. IfOk found (IsUpdate c.args.frames c.args.opened.now c.args.pool.now w (reads (g.H.Host.state c.args.h.now).now.words) update))) (sym c.in-Free.is)
    (c.find_free.ensures.update t size w memory its ready)
