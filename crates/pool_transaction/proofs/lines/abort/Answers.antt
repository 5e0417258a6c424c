use Rattle.std.proofs.Common.{List, Option, Some, None, refl, sym, ap, subst, ◌∙◌}
use Rattle.std.proofs.lemmas.Result.{err_from_is_err_and}
use Rattle.pud_defs.specs.declared.machine.Command.TheVariants.{Abort}
use Rattle.pud_defs.specs.declared.machine.Reply.TheVariants as replies
use Rattle.pud_defs.proofs.StateMachine.Steps.{answer_is_ok}
use Rattle.daemon_memory.specs.Memory.{ActiveTransaction}
use Rattle.daemon_memory.specs.OwnOnPool.{IsOwnTransactionOn}
use Rattle.daemon_memory.specs.Owning.{refusal_found}
use Rattle.pool_transaction.proofs.TransactionLines.Commanding.{abort_is_plain}
use Rattle.daemon_memory.proofs.Commands.CarriedOut.{CarriesOut-refused, CarriesOut-unread, CarriesOut-stopped, CarriesOut-done, ready_read}
use Rattle.pool_transaction.proofs.Lifetimes.ActiveEnds.{Applies-own}
use Rattle.pool_transaction.proofs.Updates.TransactionRefusals.{refusal_of-abort}
use Rattle.pool_transaction.proofs.TransactionLines.Acted.{acts_undone}
use Rattle.pool_transaction.proofs.lines.abort.Goals as goal
use Rattle.pm_model.proofs.Reading.{still_size}
use Rattle.daemon_memory.specs.Leading.{IsStill}
use Rattle.pool_transaction.specs.Ending.{AbortsOn}

pub returns-in_err-refusal-clause-carries : goal.returns-in_err-refusal-clause-carries
returns-in_err-refusal-clause-carries g c =
    let p = err_from_is_err_and c.from_residual.result c.from_residual.ensures.1 in
    rw (p.1, p.2) (λ t size e w ready.
    let k = c.in_err-refusal.ensures in
    let known = ready_read size w c.find_own.new.self _ _ (k.only_reads.stays t) (k.ready t size w ready) in
    CarriesOut-unread IsStill (AbortsOn w c.args.client c.args.name) size w c.find_own.new.self _ _ _ _ (Abort c.args.client c.args.name) (abort_is_plain c.args.client c.args.name) (k.only_reads.stays t) known c.in_err-refusal.field-0.0 k.only_reads.never_cut k.only_reads.cause)

pub returns-in-Err-clause-carries : goal.returns-in-Err-clause-carries
returns-in-Err-clause-carries g c = λ t size e w ready.
    let k = c.in_ok-refusal.ensures in
    let known = ready_read size w c.find_own.new.self _ _ (k.only_reads.stays t) (k.ready t size w ready) in
    let refused = refusal_of-abort w c.args.client c.args.name ∙ sym (k.refusal t size w ready) ∙ ap refusal_found c.in-Err.is in
    CarriesOut-refused IsStill (AbortsOn w c.args.client c.args.name) size w c.find_own.new.self _ _ _ _ (Abort c.args.client c.args.name) (abort_is_plain c.args.client c.args.name) (k.only_reads.stays t) known c.in-Err.refusal refused k.only_reads.cause

pub returns-in_err-undo-clause-carries : goal.returns-in_err-undo-clause-carries
returns-in_err-undo-clause-carries g c =
    let p = err_from_is_err_and c.from_residual-in_err-undo.result c.from_residual-in_err-undo.ensures.1 in
    rw (p.1, p.2) (λ t size e w ready.
    let k = c.in_ok-refusal.ensures in
    let known = ready_read size w c.find_own.new.self _ _ (k.only_reads.stays t) (k.ready t size w ready) in
    let free = refusal_of-abort w c.args.client c.args.name ∙ sym (k.refusal t size w ready) ∙ ap refusal_found c.in-Ok.is in
    let own = rw c.in-Ok.is at (k.own t size w ready) in
    let mine = subst (λ (active : List (Option ActiveTransaction)). IsOwnTransactionOn c.args.client c.args.name c.in-Ok.own.slot c.in-Ok.own.log_number active) (sym k.active) own in
    let n = c.in_err-undo.ensures in
    let d = n.does t size (still_size k.only_reads e) w known in
    let fault = Some c.in_err-undo.field-0.0 in
    CarriesOut-stopped IsStill (AbortsOn w c.args.client c.args.name) size w c.undo.new.memory _ _ _ _ _ _ (Abort c.args.client c.args.name) (abort_is_plain c.args.client c.args.name) (λ before. refl) free (k.only_reads.stays t) k.only_reads.cause (n.rest t) c.in_err-undo.field-0.0
    (acts_undone size w c.find_own.new.self _ known c.args.client c.args.name c.in-Ok.own.slot c.in-Ok.own.log_number mine mine.own.active mine.own.is fault _ (d.names mine.own.active mine.own.is))
    (Applies-own size w c.args.client c.args.name c.in-Ok.own.log_number c.args.memory.now c.find_own.new.self c.undo.new.memory fault _ _ own.own k.active d.applies) n.cause)

pub returns-clause-carries : goal.returns-clause-carries
returns-clause-carries g c = λ t size e w ready.
    let k = c.in_ok-refusal.ensures in
    let known = ready_read size w c.find_own.new.self _ _ (k.only_reads.stays t) (k.ready t size w ready) in
    let free = refusal_of-abort w c.args.client c.args.name ∙ sym (k.refusal t size w ready) ∙ ap refusal_found c.in-Ok.is in
    let own = rw c.in-Ok.is at (k.own t size w ready) in
    let mine = subst (λ (active : List (Option ActiveTransaction)). IsOwnTransactionOn c.args.client c.args.name c.in-Ok.own.slot c.in-Ok.own.log_number active) (sym k.active) own in
    let n = c.in_ok-undo.ensures in
    let d = n.does t size (still_size k.only_reads e) w known in
    CarriesOut-done IsStill (AbortsOn w c.args.client c.args.name) size w c.undo.new.memory _ _ _ _ _ _ (Abort c.args.client c.args.name) (abort_is_plain c.args.client c.args.name) (λ before. refl) free (k.only_reads.stays t) k.only_reads.cause (n.rest t) replies.Ok
    (acts_undone size w c.find_own.new.self _ known c.args.client c.args.name c.in-Ok.own.slot c.in-Ok.own.log_number mine mine.own.active mine.own.is None _ (d.names mine.own.active mine.own.is))
    (sym (answer_is_ok w (Abort c.args.client c.args.name) refl refl free))
    (Applies-own size w c.args.client c.args.name c.in-Ok.own.log_number c.args.memory.now c.find_own.new.self c.undo.new.memory None _ _ own.own k.active d.applies) n.cause
