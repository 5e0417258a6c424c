use Rattle.std.proofs.Common.{◌≡◌, ℕ, true, Some, is_some, refl, sym, ap, subst, ◌∙◌, arith}
use Rattle.std.proofs.lemmas.Result.{err_from_is_err_and}
use Rattle.pm_model.specs.Counts.{Counts, fault_of}
use Rattle.pud_defs.specs.declared.layout.TheConstants.{DAEMON_LOG}
use Rattle.pud_defs.specs.declared.machine.Command.TheVariants.{Leave}
use Rattle.pud_defs.specs.StateMachine.Step.{after}
use Rattle.pud_defs.specs.StateMachine.Transactions.{without_client}
use Rattle.pud_defs.specs.StateMachine.World.{World}
use Rattle.batch.specs.Batches.{Commits}
use Rattle.log_space.specs.Closed.{ClosesGates}
use Rattle.log_space.specs.Records.{unregistration}
use Rattle.daemon_memory.specs.Sequences.{Then}
use Rattle.daemon_memory.specs.Ready.{Applies, ClosesBefore}
use Rattle.daemon_memory.specs.ActiveTransactions.{AreOfOtherClients}
use Rattle.daemon_memory.specs.Leaving.{AfterTables, world_without}
use Rattle.daemon_memory.specs.Memory.{Memory}
use Rattle.daemon_memory.proofs.Commands.Coming.{ClosesBefore-changes}
use Rattle.daemon_memory.proofs.OpenTransactions.Leaving.{others_left, gone_world, Applies-then, Applies-cut_short, ClosesBefore-then}
use Rattle.daemon_memory.proofs.Commands.Beneath.{ready_gate}
use Rattle.pool_transaction.specs.Ending.{UndoesOwn}
use Rattle.daemon_memory.proofs.Commands.Acting.{Then-failed, Then-done}
use Rattle.puddled.proofs.clients.remove_client.Goals as goal

pub returns-in_err-undo_of-clause-applies : goal.returns-in_err-undo_of-clause-applies
returns-in_err-undo_of-clause-applies g c =
    let p = err_from_is_err_and c.from_residual.result c.from_residual.ensures.1 in
    rw (p.1, p.2) (λ t size e w ready.
    Applies-cut_short size w (after w (Leave c.args.client)) (without_client c.args.client w.transactions) c.undo_of.new.memory c.in_err-undo_of.field-0.0 (g.H.Host.state c.args.h.now) (g.H.Host.state c.undo_of.new.h)
    (c.in_err-undo_of.ensures.does t size e w ready).applies)

pub returns-in_err-undo_of-clause-closes_first : goal.returns-in_err-undo_of-clause-closes_first
returns-in_err-undo_of-clause-closes_first g c = λ t size e w ready present.
    ClosesBefore-changes size w c.args.memory.now c.args.client c.requires.known present (AfterTables w.stored.frames) (Some c.in_err-undo_of.field-0.0) (g.H.Host.state c.args.h.now) (g.H.Host.state c.undo_of.new.h) ready
    (λ k v below may. absurd (omega arith)) (c.in_err-undo_of.ensures.does t size e w ready).after_tables

pub returns-clause-applies : goal.returns-clause-applies
returns-clause-applies g c = λ t size e w ready.
    let first = c.undo_of.new.memory in
    let mid = g.H.Host.state c.undo_of.new.h in
    let new = g.H.Host.state c.close_and_unregister.new.h in
    let fault = fault_of c.close_and_unregister.result in
    let then = e ∙ sym (ap (λ (n : Counts). n.size) c.in_ok-undo_of.ensures.cause) in
    let frames = sym (ap (λ (m : Memory). m.frames) c.memory.view_is) in
    Applies-then size w (after w (Leave c.args.client)) (without_client c.args.client w.transactions) first first fault (g.H.Host.state c.args.h.now) mid new (c.in_ok-undo_of.ensures.does t size e w ready).applies
    (λ ready_mid.
    let others = subst (λ (n : ℕ). AreOfOtherClients n first.active) (sym c.from.ensures) (others_left size w c.args.client first mid ready_mid) in
    subst (λ (v : World). Applies size (world_without c.args.client w) v first fault mid new) (gone_world w c.args.client)
    (subst (λ (n : ℕ). Applies size (world_without c.args.client w) (after (world_without c.args.client w) (Leave n)) first fault mid new) c.from.ensures
    (c.close_and_unregister.ensures.applies t size then (world_without c.args.client w) first frames ready_mid others)))

pub returns-clause-closes_first : goal.returns-clause-closes_first
returns-clause-closes_first g c = λ t size e w ready present.
    let first = (c.in_ok-undo_of.ensures.does t size e w ready).applies in
    let then = e ∙ sym (ap (λ (n : Counts). n.size) c.in_ok-undo_of.ensures.cause) in
    let frames = sym (ap (λ (m : Memory). m.frames) c.memory.view_is) in
    ClosesBefore-then size w c.args.memory.now c.args.client (g.H.Host.state c.args.h.now) (g.H.Host.state c.undo_of.new.h) (g.H.Host.state c.close_and_unregister.new.h) c.requires.known present ready
    (c.in_ok-undo_of.ensures.does t size e w ready).after_tables first.quiet
    (subst (λ (n : ℕ). ClosesBefore w.stored.frames n (g.H.Host.state c.undo_of.new.h) (g.H.Host.state c.close_and_unregister.new.h)) c.from.ensures
    (c.close_and_unregister.ensures.closes_first t size then (world_without c.args.client w) c.undo_of.new.memory frames (first.ready refl) (subst (λ (n : ℕ). true ≡ is_some (w.clients n)) (sym c.from.ensures) present)))

-- ---- what is done on the device

pub returns-in_err-undo_of-clause-acts : goal.returns-in_err-undo_of-clause-acts
returns-in_err-undo_of-clause-acts g c =
    let p = err_from_is_err_and c.from_residual.result c.from_residual.ensures.1 in
    rw (p.1, p.2) (λ t size e w ready.
    Then-failed (UndoesOwn w c.args.client) (Then (ClosesGates w.stored.frames c.args.client) (Commits DAEMON_LOG (unregistration c.args.client))) c.in_err-undo_of.field-0.0 _ _
    (c.in_err-undo_of.ensures.does t size e w ready).undoes)

pub returns-clause-acts : goal.returns-clause-acts
returns-clause-acts g c = λ t size e w ready.
    let frames = sym (ap (λ (m : Memory). m.frames) c.memory.view_is) in
    let mid = g.H.Host.state c.undo_of.new.h in
    let new = g.H.Host.state c.close_and_unregister.new.h in
    let fault = fault_of c.close_and_unregister.result in
    let ready_mid = (c.in_ok-undo_of.ensures.does t size e w ready).applies.ready refl in
    Then-done (UndoesOwn w c.args.client) (Then (ClosesGates w.stored.frames c.args.client) (Commits DAEMON_LOG (unregistration c.args.client))) fault _ mid new (c.in_ok-undo_of.ensures.does t size e w ready).undoes
    (subst (λ (n : ℕ). Then (ClosesGates n c.args.client) (Commits DAEMON_LOG (unregistration c.args.client)) fault mid new) (sym frames ∙ ready_mid.frames)
    (subst (λ (n : ℕ). Then (ClosesGates c.memory.inside.frames n) (Commits DAEMON_LOG (unregistration n)) fault mid new) c.from.ensures
    (c.close_and_unregister.ensures.acts t (ready_gate size (world_without c.args.client w) c.undo_of.new.memory mid ready_mid))))
