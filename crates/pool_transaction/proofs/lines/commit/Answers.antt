use Rattle.std.proofs.Common.{List, Option, refl, sym, ap, subst, ◌∙◌, arith}
use Rattle.std.proofs.lemmas.Result.{err_from_is_err_and}
use Rattle.pud_defs.specs.declared.machine.Command.TheVariants.{Commit}
use Rattle.pud_defs.specs.declared.machine.Reply.TheVariants as replies
use Rattle.pud_defs.proofs.StateMachine.Steps.{answer_is_ok}
use Rattle.daemon_memory.specs.Memory.{ActiveTransaction}
use Rattle.daemon_memory.specs.OwnOnPool.{IsOwnTransactionOn}
use Rattle.daemon_memory.specs.Owning.{refusal_found}
use Rattle.pool_transaction.proofs.TransactionLines.Commanding.{commit_is_plain}
use Rattle.daemon_memory.proofs.Commands.CarriedOut.{CarriesOut-refused, CarriesOut-unread, CarriesOut-stopped, CarriesOut-done, ready_read}
use Rattle.pool_transaction.proofs.TransactionLines.Depth.{depth_by_world}
use Rattle.pool_transaction.proofs.lines.commit.Goals as goal
use Rattle.pm_model.proofs.Reading.{still_size}
use Rattle.daemon_memory.specs.Leading.{IsStill}
use Rattle.pool_transaction.specs.Ending.{CommitsOn}

pub returns-in_err-refusal-clause-carries : goal.returns-in_err-refusal-clause-carries
returns-in_err-refusal-clause-carries g c =
    let p = err_from_is_err_and c.from_residual.result c.from_residual.ensures.1 in
    rw (p.1, p.2) (λ t size e w ready.
    let k = c.in_err-refusal.ensures in
    let known = ready_read size w c.find_own.new.self _ _ (k.only_reads.stays t) (k.ready t size w ready) in
    CarriesOut-unread IsStill (CommitsOn w c.args.client c.args.name) size w c.find_own.new.self _ _ _ _ (Commit c.args.client c.args.name) (commit_is_plain c.args.client c.args.name) (k.only_reads.stays t) known c.in_err-refusal.field-0.0 k.only_reads.never_cut k.only_reads.cause)

pub returns-in-Err-clause-carries : goal.returns-in-Err-clause-carries
returns-in-Err-clause-carries g c = λ t size e w ready.
    let k = c.in_ok-refusal.ensures in
    let known = ready_read size w c.find_own.new.self _ _ (k.only_reads.stays t) (k.ready t size w ready) in
    let refused = sym (k.refusal t size w ready) ∙ ap refusal_found c.in-Err.is in
    CarriesOut-refused IsStill (CommitsOn w c.args.client c.args.name) size w c.find_own.new.self _ _ _ _ (Commit c.args.client c.args.name) (commit_is_plain c.args.client c.args.name) (k.only_reads.stays t) known c.in-Err.refusal refused k.only_reads.cause

pub returns-in_err-commit_own-clause-carries : goal.returns-in_err-commit_own-clause-carries
returns-in_err-commit_own-clause-carries g c =
    let p = err_from_is_err_and c.from_residual-in_err-commit_own.result c.from_residual-in_err-commit_own.ensures.1 in
    rw (p.1, p.2) (λ t size e w ready.
    let k = c.in_ok-refusal.ensures in
    let known = ready_read size w c.find_own.new.self _ _ (k.only_reads.stays t) (k.ready t size w ready) in
    let free = sym (k.refusal t size w ready) ∙ ap refusal_found c.in-Ok.is in
    let found = rw c.in-Ok.is at (k.own t size w ready) in
    let own = subst (λ (active : List (Option ActiveTransaction)). IsOwnTransactionOn c.args.client c.args.name c.in-Ok.own.slot c.in-Ok.own.log_number active) (sym k.active) found in
    let n = c.in_err-commit_own.ensures in
    let d = n.does t size (still_size k.only_reads e) w c.args.name known own in
    CarriesOut-stopped IsStill (CommitsOn w c.args.client c.args.name) size w c.commit_own.new.memory _ _ _ _ _ _ (Commit c.args.client c.args.name) (commit_is_plain c.args.client c.args.name) (λ before. refl) free (k.only_reads.stays t) k.only_reads.cause (n.rest t) c.in_err-commit_own.field-0.0
    d.acts d.applies n.cause)

pub returns-clause-carries : goal.returns-clause-carries
returns-clause-carries g c = λ t size e w ready.
    let k = c.in_ok-refusal.ensures in
    let known = ready_read size w c.find_own.new.self _ _ (k.only_reads.stays t) (k.ready t size w ready) in
    let free = sym (k.refusal t size w ready) ∙ ap refusal_found c.in-Ok.is in
    let found = rw c.in-Ok.is at (k.own t size w ready) in
    let own = subst (λ (active : List (Option ActiveTransaction)). IsOwnTransactionOn c.args.client c.args.name c.in-Ok.own.slot c.in-Ok.own.log_number active) (sym k.active) found in
    let n = c.in_ok-commit_own.ensures in
    let d = n.does t size (still_size k.only_reads e) w c.args.name known own in
    CarriesOut-done IsStill (CommitsOn w c.args.client c.args.name) size w c.commit_own.new.memory _ _ _ _ _ _ (Commit c.args.client c.args.name) (commit_is_plain c.args.client c.args.name) (λ before. refl) free (k.only_reads.stays t) k.only_reads.cause (n.rest t) replies.Ok
    d.acts (sym (answer_is_ok w (Commit c.args.client c.args.name) refl refl free)) d.applies n.cause

-- ---- it was begun more than once

pub returns-in_err-commit_own-clause-nested : goal.returns-in_err-commit_own-clause-nested
returns-in_err-commit_own-clause-nested g c = λ t size w ready running is deep.
    let k = c.in_ok-refusal.ensures in
    let known = ready_read size w c.find_own.new.self _ _ (k.only_reads.stays t) (k.ready t size w ready) in
    let found = rw c.in-Ok.is at (k.own t size w ready) in
    let own = subst (λ (active : List (Option ActiveTransaction)). IsOwnTransactionOn c.args.client c.args.name c.in-Ok.own.slot c.in-Ok.own.log_number active) (sym k.active) found in
    let depth = depth_by_world size w c.find_own.new.self _ c.args.client c.args.name c.in-Ok.own.slot c.in-Ok.own.log_number known own running is in
    ap (λ h. g.H.Host.state h) (c.in_err-commit_own.ensures.nested (omega (arith, depth, deep))) ∙ k.only_reads.stays t

pub returns-clause-nested : goal.returns-clause-nested
returns-clause-nested g c = λ t size w ready running is deep.
    let k = c.in_ok-refusal.ensures in
    let known = ready_read size w c.find_own.new.self _ _ (k.only_reads.stays t) (k.ready t size w ready) in
    let found = rw c.in-Ok.is at (k.own t size w ready) in
    let own = subst (λ (active : List (Option ActiveTransaction)). IsOwnTransactionOn c.args.client c.args.name c.in-Ok.own.slot c.in-Ok.own.log_number active) (sym k.active) found in
    let depth = depth_by_world size w c.find_own.new.self _ c.args.client c.args.name c.in-Ok.own.slot c.in-Ok.own.log_number known own running is in
    ap (λ h. g.H.Host.state h) (c.in_ok-commit_own.ensures.nested (omega (arith, depth, deep))) ∙ k.only_reads.stays t
