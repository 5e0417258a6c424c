use Rattle.std.proofs.Common.{◌≡◌, true, false, Some, None, Ok, Err, refl, sym, ◌∙◌}
use Rattle.std.proofs.lemmas.Result.{err_from_is_err_and}
use Rattle.pud_defs.specs.declared.machine.Command.TheVariants.{Leave}
use Rattle.pud_defs.specs.declared.machine.Refusal.TheVariants as refusals
use Rattle.pud_defs.specs.declared.machine.Reply.TheVariants as replies
use Rattle.pud_defs.specs.StateMachine.Step.{world_by}
use Rattle.pud_defs.proofs.StateMachine.Steps.{refused_answer, answer_is_ok}
use Rattle.daemon_memory.proofs.Commands.Applying.{Applies-failed, Applies-refused}
use Rattle.daemon_memory.proofs.OpenTransactions.Leaving.{presence_of, Applies-accepted_by}
use Rattle.daemon_memory.proofs.Commands.Coming.{is_absent, is_there, ClosesBefore-idle, ClosesBefore-after}
use Rattle.daemon_memory.specs.declared.line_answer.LineAnswer.TheVariants as answers
use Rattle.daemon_memory.proofs.Commands.Acting.{acts_refused, acts_unread, acts_free, Does-after}
use Rattle.daemon_memory.proofs.Commands.CarriedOut.{ready_read}
use Rattle.puddled.proofs.clients.leave.Goals as goal
use Rattle.pm_model.proofs.Reading.{still_size}
use Rattle.puddled.specs.Acts.{Acts}

pub returns-in_err-is_registered-clause-applies : goal.returns-in_err-is_registered-clause-applies
returns-in_err-is_registered-clause-applies g c =
    let p = err_from_is_err_and c.from_residual.result c.from_residual.ensures.1 in
    rw (p.1, p.2) (λ t size e w ready.
    Applies-failed size w (world_by w (Some (Leave c.args.client))) c.args.memory.now c.in_err-is_registered.field-0.0 _ _ ready (c.in_err-is_registered.ensures.only_reads.stays t) c.in_err-is_registered.ensures.only_reads.never_cut)

pub returns-then-not-branch-clause-reply : goal.returns-then-not-branch-clause-reply
returns-then-not-branch-clause-reply g c = λ t size e w ready.
    sym (refused_answer w (Leave c.args.client) refusals.Client (is_absent w c.args.client 0 0 (sym c.if-not-branch.true ∙ presence_of size w c.args.memory.now _ c.args.client _ _ c.from.ensures c.requires.known ready (c.in_ok-is_registered.ensures.registered t))))

pub returns-then-not-branch-clause-applies : goal.returns-then-not-branch-clause-applies
returns-then-not-branch-clause-applies g c = λ t size e w ready.
    Applies-refused size w c.args.memory.now (Leave c.args.client) refusals.Client _ _ ready
    (is_absent w c.args.client 0 0 (sym c.if-not-branch.true ∙ presence_of size w c.args.memory.now _ c.args.client _ _ c.from.ensures c.requires.known ready (c.in_ok-is_registered.ensures.registered t)))
    (c.in_ok-is_registered.ensures.only_reads.stays t)

pub returns-clause-reply : goal.returns-clause-reply
returns-clause-reply g c = λ t size e w ready.
    sym (answer_is_ok w (Leave c.args.client) refl refl (is_there w c.args.client 0 0 (sym c.if-not-branch.false ∙ presence_of size w c.args.memory.now _ c.args.client _ _ c.from.ensures c.requires.known ready (c.in_ok-is_registered.ensures.registered t))))

pub returns-in_err-remove_client-clause-applies : goal.returns-in_err-remove_client-clause-applies
returns-in_err-remove_client-clause-applies g c =
    let p = err_from_is_err_and c.from_residual-in_err-remove_client.result c.from_residual-in_err-remove_client.ensures.1 in
    rw (p.1, p.2) (λ t size e w ready.
    let after = still_size c.in_ok-is_registered.ensures.only_reads e in
    Applies-accepted_by size w c.args.memory.now c.remove_client.new.memory (Leave c.args.client) (Some c.in_err-remove_client.field-0.0) _ _ _
    (is_there w c.args.client 0 0 (sym c.if-not-branch.false ∙ presence_of size w c.args.memory.now _ c.args.client _ _ c.from.ensures c.requires.known ready (c.in_ok-is_registered.ensures.registered t)))
    (c.in_ok-is_registered.ensures.only_reads.stays t) (λ ready_b. c.in_err-remove_client.ensures.applies t size after w ready_b) ready)

pub returns-clause-applies : goal.returns-clause-applies
returns-clause-applies g c = λ t size e w ready.
    let after = still_size c.in_ok-is_registered.ensures.only_reads e in
    Applies-accepted_by size w c.args.memory.now c.remove_client.new.memory (Leave c.args.client) _ _ _ _
    (is_there w c.args.client 0 0 (sym c.if-not-branch.false ∙ presence_of size w c.args.memory.now _ c.args.client _ _ c.from.ensures c.requires.known ready (c.in_ok-is_registered.ensures.registered t)))
    (c.in_ok-is_registered.ensures.only_reads.stays t) (λ ready_b. c.in_ok-remove_client.ensures.applies t size after w ready_b) ready

pub returns-in_err-is_registered-clause-closes_first : goal.returns-in_err-is_registered-clause-closes_first
returns-in_err-is_registered-clause-closes_first g c = λ t size e w ready present.
    ClosesBefore-idle size w c.args.memory.now c.args.client c.requires.known present _ _ ready (c.in_err-is_registered.ensures.only_reads.stays t)

pub returns-then-not-branch-clause-closes_first : goal.returns-then-not-branch-clause-closes_first
returns-then-not-branch-clause-closes_first g c = λ t size e w ready present.
    absurd (let it : true ≡ false = present ∙ sym (sym c.if-not-branch.true ∙ presence_of size w c.args.memory.now _ c.args.client _ _ c.from.ensures c.requires.known ready (c.in_ok-is_registered.ensures.registered t)) in cc)

pub returns-in_err-remove_client-clause-closes_first : goal.returns-in_err-remove_client-clause-closes_first
returns-in_err-remove_client-clause-closes_first g c = λ t size e w ready present.
    let after = still_size c.in_ok-is_registered.ensures.only_reads e in
    ClosesBefore-after size w c.args.memory.now c.args.client c.requires.known present _ _ _ ready (c.in_ok-is_registered.ensures.only_reads.stays t) (λ ready_b. c.in_err-remove_client.ensures.closes_first t size after w ready_b present)

pub returns-clause-closes_first : goal.returns-clause-closes_first
returns-clause-closes_first g c = λ t size e w ready present.
    let after = still_size c.in_ok-is_registered.ensures.only_reads e in
    ClosesBefore-after size w c.args.memory.now c.args.client c.requires.known present _ _ _ ready (c.in_ok-is_registered.ensures.only_reads.stays t) (λ ready_b. c.in_ok-remove_client.ensures.closes_first t size after w ready_b present)

-- ---- what is done on the device

pub returns-in_err-is_registered-clause-acts : goal.returns-in_err-is_registered-clause-acts
returns-in_err-is_registered-clause-acts g c =
    let p = err_from_is_err_and c.from_residual.result c.from_residual.ensures.1 in
    rw (p.1, p.2) (λ t size e w ready.
    let k = c.in_err-is_registered.ensures.only_reads in
    acts_unread w (Leave c.args.client) _ (Err c.in_err-is_registered.field-0.0) tt k.never_cut (k.stays t))

pub returns-then-not-branch-clause-acts : goal.returns-then-not-branch-clause-acts
returns-then-not-branch-clause-acts g c = λ t size e w ready.
    let absent = is_absent w c.args.client 0 0 (sym c.if-not-branch.true ∙ presence_of size w c.args.memory.now _ c.args.client _ _ c.from.ensures c.requires.known ready (c.in_ok-is_registered.ensures.registered t)) in
    acts_refused w (Leave c.args.client) _ refusals.Client (Ok (answers.Reply (replies.No refusals.Client))) absent (c.in_ok-is_registered.ensures.only_reads.stays t)

pub returns-in_err-remove_client-clause-acts : goal.returns-in_err-remove_client-clause-acts
returns-in_err-remove_client-clause-acts g c =
    let p = err_from_is_err_and c.from_residual-in_err-remove_client.result c.from_residual-in_err-remove_client.ensures.1 in
    rw (p.1, p.2) (λ t size e w ready.
    let free = is_there w c.args.client 0 0 (sym c.if-not-branch.false ∙ presence_of size w c.args.memory.now _ c.args.client _ _ c.from.ensures c.requires.known ready (c.in_ok-is_registered.ensures.registered t)) in
    let k = c.in_ok-is_registered.ensures.only_reads in
    acts_free w (Leave c.args.client) _ (Err c.in_err-remove_client.field-0.0) free
    (Does-after (Acts w (Leave c.args.client)) (Some c.in_err-remove_client.field-0.0) _ _ _ (k.stays t) (c.in_err-remove_client.ensures.acts t size (still_size k e) w (ready_read size w c.args.memory.now _ _ (k.stays t) ready))))

pub returns-clause-acts : goal.returns-clause-acts
returns-clause-acts g c = λ t size e w ready.
    let free = is_there w c.args.client 0 0 (sym c.if-not-branch.false ∙ presence_of size w c.args.memory.now _ c.args.client _ _ c.from.ensures c.requires.known ready (c.in_ok-is_registered.ensures.registered t)) in
    let k = c.in_ok-is_registered.ensures.only_reads in
    acts_free w (Leave c.args.client) _ (Ok (answers.Reply replies.Ok)) free
    (Does-after (Acts w (Leave c.args.client)) None _ _ _ (k.stays t) (c.in_ok-remove_client.ensures.acts t size (still_size k e) w (ready_read size w c.args.memory.now _ _ (k.stays t) ready)))
