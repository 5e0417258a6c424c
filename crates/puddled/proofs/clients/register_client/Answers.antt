use Rattle.std.proofs.Common.{ℕ, Some, None, Ok, Err, refl, sym, subst, ◌∙◌}
use Rattle.std.proofs.lemmas.Result.{err_from_is_err_and}
use Rattle.pud_defs.specs.declared.machine.Command.TheVariants.{Client}
use Rattle.pud_defs.specs.declared.layout.TheConstants.{DAEMON_LOG}
use Rattle.pud_defs.specs.declared.machine.Refusal.TheVariants as refusals
use Rattle.pud_defs.specs.declared.machine.Reply.TheVariants as replies
use Rattle.pud_defs.specs.StateMachine.Step.{world_by}
use Rattle.pud_defs.proofs.StateMachine.Steps.{refused_answer, answer_is_ok}
use Rattle.batch.specs.Batches.{Commits}
use Rattle.log_space.specs.Closed.{ClosesGates}
use Rattle.log_space.specs.Records.{registration}
use Rattle.daemon_memory.specs.Sequences.{Then}
use Rattle.daemon_memory.proofs.Commands.Beneath.{ready_gate}
use Rattle.daemon_memory.proofs.Commands.Applying.{Applies-failed, Applies-refused, Applies-accepted}
use Rattle.daemon_memory.proofs.Commands.Coming.{presence_read, taken, is_new}
use Rattle.daemon_memory.proofs.OpenTransactions.Others.{others_absent}
use Rattle.daemon_memory.specs.declared.line_answer.LineAnswer.TheVariants as answers
use Rattle.daemon_memory.proofs.Commands.Acting.{acts_refused, acts_unread, acts_free, Does-after}
use Rattle.daemon_memory.proofs.Commands.CarriedOut.{ready_read}
use Rattle.puddled.proofs.clients.register_client.Goals as goal
use Rattle.pm_model.proofs.Reading.{still_size}
use Rattle.puddled.specs.Acts.{Acts}

pub returns-in_err-is_registered-clause-applies : goal.returns-in_err-is_registered-clause-applies
returns-in_err-is_registered-clause-applies g c =
    let p = err_from_is_err_and c.from_residual.result c.from_residual.ensures.1 in
    rw (p.1, p.2) (λ t size e w memory frames ready.
    Applies-failed size w (world_by w (Some (Client c.args.client c.args.uid c.args.gid))) memory c.in_err-is_registered.field-0.0 _ _ ready (c.in_err-is_registered.ensures.only_reads.stays t) c.in_err-is_registered.ensures.only_reads.never_cut)

pub returns-then-branch-clause-reply : goal.returns-then-branch-clause-reply
returns-then-branch-clause-reply g c = λ t size e w memory frames ready.
    sym (refused_answer w (Client c.args.client c.args.uid c.args.gid) refusals.Taken (taken w c.args.client c.args.uid c.args.gid (sym c.if-branch.true ∙ presence_read size w memory _ c.args.client _ c.requires.known ready (c.in_ok-is_registered.ensures.registered t))))

pub returns-then-branch-clause-applies : goal.returns-then-branch-clause-applies
returns-then-branch-clause-applies g c = λ t size e w memory frames ready.
    Applies-refused size w memory (Client c.args.client c.args.uid c.args.gid) refusals.Taken _ _ ready
    (taken w c.args.client c.args.uid c.args.gid (sym c.if-branch.true ∙ presence_read size w memory _ c.args.client _ c.requires.known ready (c.in_ok-is_registered.ensures.registered t)))
    (c.in_ok-is_registered.ensures.only_reads.stays t)

pub returns-clause-reply : goal.returns-clause-reply
returns-clause-reply g c = λ t size e w memory frames ready.
    sym (answer_is_ok w (Client c.args.client c.args.uid c.args.gid) refl refl (is_new w c.args.client c.args.uid c.args.gid (sym c.if-branch.false ∙ presence_read size w memory _ c.args.client _ c.requires.known ready (c.in_ok-is_registered.ensures.registered t))))

pub returns-in_err-close_and_register-clause-applies : goal.returns-in_err-close_and_register-clause-applies
returns-in_err-close_and_register-clause-applies g c =
    let p = err_from_is_err_and c.from_residual-in_err-close_and_register.result c.from_residual-in_err-close_and_register.ensures.1 in
    rw (p.1, p.2) (λ t size e w memory frames ready.
    let absent = sym c.if-branch.false ∙ presence_read size w memory _ c.args.client _ c.requires.known ready (c.in_ok-is_registered.ensures.registered t) in
    let after = still_size c.in_ok-is_registered.ensures.only_reads e in
    Applies-accepted size w memory (Client c.args.client c.args.uid c.args.gid) (Some c.in_err-close_and_register.field-0.0) _ _ _
    (is_new w c.args.client c.args.uid c.args.gid absent)
    (c.in_ok-is_registered.ensures.only_reads.stays t) (λ ready_b. c.in_err-close_and_register.ensures.applies t size after w memory frames ready_b (others_absent w memory.active ready.mask _ c.args.client ready.active absent)) ready)

pub returns-clause-applies : goal.returns-clause-applies
returns-clause-applies g c = λ t size e w memory frames ready.
    let absent = sym c.if-branch.false ∙ presence_read size w memory _ c.args.client _ c.requires.known ready (c.in_ok-is_registered.ensures.registered t) in
    let after = still_size c.in_ok-is_registered.ensures.only_reads e in
    Applies-accepted size w memory (Client c.args.client c.args.uid c.args.gid) _ _ _ _
    (is_new w c.args.client c.args.uid c.args.gid absent)
    (c.in_ok-is_registered.ensures.only_reads.stays t) (λ ready_b. c.in_ok-close_and_register.ensures.applies t size after w memory frames ready_b (others_absent w memory.active ready.mask _ c.args.client ready.active absent)) ready

-- ---- what is done on the device

pub returns-in_err-is_registered-clause-acts : goal.returns-in_err-is_registered-clause-acts
returns-in_err-is_registered-clause-acts g c =
    let p = err_from_is_err_and c.from_residual.result c.from_residual.ensures.1 in
    rw (p.1, p.2) (λ t size e w memory frames ready.
    let k = c.in_err-is_registered.ensures.only_reads in
    acts_unread w (Client c.args.client c.args.uid c.args.gid) _ (Err c.in_err-is_registered.field-0.0) tt k.never_cut (k.stays t))

pub returns-then-branch-clause-acts : goal.returns-then-branch-clause-acts
returns-then-branch-clause-acts g c = λ t size e w memory frames ready.
    let refused = taken w c.args.client c.args.uid c.args.gid (sym c.if-branch.true ∙ presence_read size w memory _ c.args.client _ c.requires.known ready (c.in_ok-is_registered.ensures.registered t)) in
    acts_refused w (Client c.args.client c.args.uid c.args.gid) _ refusals.Taken (Ok (answers.Reply (replies.No refusals.Taken))) refused (c.in_ok-is_registered.ensures.only_reads.stays t)

pub returns-in_err-close_and_register-clause-acts : goal.returns-in_err-close_and_register-clause-acts
returns-in_err-close_and_register-clause-acts g c =
    let p = err_from_is_err_and c.from_residual-in_err-close_and_register.result c.from_residual-in_err-close_and_register.ensures.1 in
    rw (p.1, p.2) (λ t size e w memory frames ready.
    let line = Client c.args.client c.args.uid c.args.gid in
    let fault = Some c.in_err-close_and_register.field-0.0 in
    let free = is_new w c.args.client c.args.uid c.args.gid (sym c.if-branch.false ∙ presence_read size w memory _ c.args.client _ c.requires.known ready (c.in_ok-is_registered.ensures.registered t)) in
    let same = c.in_ok-is_registered.ensures.only_reads.stays t in
    let idle = ready_gate size w memory _ (ready_read size w memory _ _ same ready) in
    acts_free w line _ (Err c.in_err-close_and_register.field-0.0) free
    (Does-after (Acts w line) fault _ _ _ same
    (subst (λ (n : ℕ). Then (ClosesGates n c.args.client) (Commits DAEMON_LOG (registration c.args.client c.args.uid c.args.gid)) fault (g.H.Host.state c.is_registered.new.h) (g.H.Host.state c.close_and_register.new.h)) (sym frames ∙ ready.frames) (c.in_err-close_and_register.ensures.acts t idle))))

pub returns-clause-acts : goal.returns-clause-acts
returns-clause-acts g c = λ t size e w memory frames ready.
    let line = Client c.args.client c.args.uid c.args.gid in
    let free = is_new w c.args.client c.args.uid c.args.gid (sym c.if-branch.false ∙ presence_read size w memory _ c.args.client _ c.requires.known ready (c.in_ok-is_registered.ensures.registered t)) in
    let same = c.in_ok-is_registered.ensures.only_reads.stays t in
    let idle = ready_gate size w memory _ (ready_read size w memory _ _ same ready) in
    acts_free w line _ (Ok (answers.Reply replies.Ok)) free
    (Does-after (Acts w line) None _ _ _ same
    (subst (λ (n : ℕ). Then (ClosesGates n c.args.client) (Commits DAEMON_LOG (registration c.args.client c.args.uid c.args.gid)) None (g.H.Host.state c.is_registered.new.h) (g.H.Host.state c.close_and_register.new.h)) (sym frames ∙ ready.frames) (c.in_ok-close_and_register.ensures.acts t idle)))
