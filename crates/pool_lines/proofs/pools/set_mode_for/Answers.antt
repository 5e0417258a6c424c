use Rattle.std.proofs.Common.{ℕ, Some, None, Result, Ok, Err, refl, sym, ap, subst, ◌∙◌}
use Rattle.std.specs.Prelude.{IfOk}
use Rattle.std.proofs.lemmas.Result.{err_from_is_err_and}
use Rattle.pm_model.specs.Words.{reads}
use Rattle.pm_model.specs.Moments.{State}
use Rattle.pud_defs.specs.declared.machine.Command.TheVariants.{Chmod}
use Rattle.pud_defs.specs.declared.machine.Refusal.{Refusal}
use Rattle.pud_defs.specs.StateMachine.Step.{world_by}
use Rattle.pud_defs.proofs.StateMachine.PoolRefusals.{refusal_of-owned}
use Rattle.pud_defs.proofs.StateMachine.Steps.{refused_answer, answer_is_ok}
use Rattle.daemon_memory.specs.Owning.{refusal_found, IsRecordSlot}
use Rattle.daemon_memory.proofs.Commands.Applying.{Applies-failed, Applies-refused}
use Rattle.daemon_memory.proofs.PoolChanges.Pooling.{Applies-after, Applies-mode}
use Rattle.daemon_memory.proofs.Commands.Keeping.{KeepsRest-changes, KeepsRest-still, KeepsRest-then}
use Rattle.pud_defs.specs.declared.machine.Reply.TheVariants as replies
use Rattle.daemon_memory.specs.declared.line_answer.LineAnswer.TheVariants as answers
use Rattle.daemon_memory.proofs.Commands.Acting.{acts_refused, acts_unread, acts_free, OnPool-after}
use Rattle.daemon_memory.proofs.Commands.CarriedOut.{ready_read}
use Rattle.daemon_memory.proofs.Commands.Beneath.{ready_gate}
use Rattle.pool_lines.proofs.pools.set_mode_for.Goals as goal
use Rattle.pm_model.proofs.Reading.{still_size}

pub returns-in_err-refusal-clause-applies : goal.returns-in_err-refusal-clause-applies
returns-in_err-refusal-clause-applies g c =
    let p = err_from_is_err_and c.from_residual.result c.from_residual.ensures.1 in
    rw (p.1, p.2) (λ t size e w ready legal.
    let k = c.in_err-refusal.ensures in
    Applies-failed size w (world_by w (Some (Chmod c.args.client c.args.name c.args.mode))) c.find_owned.new.memory c.in_err-refusal.field-0.0 _ _ (k.ready t size w ready) (k.only_reads.stays t) k.only_reads.never_cut)

pub returns-in-Err-clause-reply : goal.returns-in-Err-clause-reply
returns-in-Err-clause-reply g c = λ t size w ready.
    sym (refused_answer w (Chmod c.args.client c.args.name c.args.mode) c.in-Err.refusal
    (refusal_of-owned w c.args.client c.args.mode c.args.name ∙ (sym (c.in_ok-refusal.ensures.refusal t size w ready) ∙ ap refusal_found c.in-Err.is)))

pub returns-in-Err-clause-applies : goal.returns-in-Err-clause-applies
returns-in-Err-clause-applies g c = λ t size e w ready legal.
    let k = c.in_ok-refusal.ensures in
    Applies-refused size w c.find_owned.new.memory (Chmod c.args.client c.args.name c.args.mode) c.in-Err.refusal _ _ (k.ready t size w ready)
    (refusal_of-owned w c.args.client c.args.mode c.args.name ∙ (sym (k.refusal t size w ready) ∙ ap refusal_found c.in-Err.is)) (k.only_reads.stays t)

pub returns-clause-reply : goal.returns-clause-reply
returns-clause-reply g c = λ t size w ready.
    sym (answer_is_ok w (Chmod c.args.client c.args.name c.args.mode) refl refl
    (refusal_of-owned w c.args.client c.args.mode c.args.name ∙ (sym (c.in_ok-refusal.ensures.refusal t size w ready) ∙ ap refusal_found c.in-Ok.is)))

-- ---- the mode was to be written

pub returns-in_err-change_mode-clause-applies : goal.returns-in_err-change_mode-clause-applies
returns-in_err-change_mode-clause-applies g c =
    let p = err_from_is_err_and c.from_residual-in_err-change_mode.result c.from_residual-in_err-change_mode.ensures.1 in
    rw (p.1, p.2) (λ t size e w ready legal.
    let k = c.in_ok-refusal.ensures in
    let n = c.in_err-change_mode.ensures in
    let now = c.find_owned.new.memory in
    let then = still_size k.only_reads e in
    let at = subst (λ (r : Result ℕ Refusal). IfOk r (IsRecordSlot w.stored.frames c.args.name (reads (g.H.Host.state c.args.h.now).now.words))) c.in-Ok.is (k.slot t size w ready) in
    Applies-after size w (world_by w (Some (Chmod c.args.client c.args.name c.args.mode))) now now (Some c.in_err-change_mode.field-0.0) (g.H.Host.state c.args.h.now) (g.H.Host.state c.find_owned.new.h) (g.H.Host.state c.change_mode.new.h)
    (k.only_reads.stays t)
    (λ ready_then.
    Applies-mode size w now c.args.client c.in-Ok.slot c.args.name (Some c.in_err-change_mode.field-0.0) (g.H.Host.state c.find_owned.new.h) (g.H.Host.state c.change_mode.new.h) ready_then
    (sym (k.refusal t size w ready) ∙ ap refusal_found c.in-Ok.is)
    (subst (λ (s : State). IsRecordSlot w.stored.frames c.args.name (reads s.now.words) c.in-Ok.slot) (sym (k.only_reads.stays t)) at) c.args.mode
    (n.any t).rests (λ idle. n.commits t size then idle) (λ off settled r at. n.changes t size then w.stored ready_then.mask off settled r at legal.3)) (k.ready t size w ready))

pub returns-clause-applies : goal.returns-clause-applies
returns-clause-applies g c = λ t size e w ready legal.
    let k = c.in_ok-refusal.ensures in
    let n = c.in_ok-change_mode.ensures in
    let now = c.find_owned.new.memory in
    let then = still_size k.only_reads e in
    let at = subst (λ (r : Result ℕ Refusal). IfOk r (IsRecordSlot w.stored.frames c.args.name (reads (g.H.Host.state c.args.h.now).now.words))) c.in-Ok.is (k.slot t size w ready) in
    Applies-after size w (world_by w (Some (Chmod c.args.client c.args.name c.args.mode))) now now None (g.H.Host.state c.args.h.now) (g.H.Host.state c.find_owned.new.h) (g.H.Host.state c.change_mode.new.h)
    (k.only_reads.stays t)
    (λ ready_then.
    Applies-mode size w now c.args.client c.in-Ok.slot c.args.name None (g.H.Host.state c.find_owned.new.h) (g.H.Host.state c.change_mode.new.h) ready_then
    (sym (k.refusal t size w ready) ∙ ap refusal_found c.in-Ok.is)
    (subst (λ (s : State). IsRecordSlot w.stored.frames c.args.name (reads s.now.words) c.in-Ok.slot) (sym (k.only_reads.stays t)) at) c.args.mode
    (n.any t).rests (λ idle. n.commits t size then idle) (λ off settled r at. n.changes t size then w.stored ready_then.mask off settled r at legal.3)) (k.ready t size w ready)

pub returns-in_err-change_mode-clause-rest : goal.returns-in_err-change_mode-clause-rest
returns-in_err-change_mode-clause-rest g c = λ t. KeepsRest-then _ _ _ (KeepsRest-still _ _ (c.in_ok-refusal.ensures.only_reads.stays t)) (KeepsRest-changes _ _ _ _ (c.in_err-change_mode.ensures.any t))

pub returns-clause-rest : goal.returns-clause-rest
returns-clause-rest g c = λ t. KeepsRest-then _ _ _ (KeepsRest-still _ _ (c.in_ok-refusal.ensures.only_reads.stays t)) (KeepsRest-changes _ _ _ _ (c.in_ok-change_mode.ensures.any t))

-- ---- what is done on the device

pub returns-in_err-refusal-clause-acts : goal.returns-in_err-refusal-clause-acts
returns-in_err-refusal-clause-acts g c =
    let p = err_from_is_err_and c.from_residual.result c.from_residual.ensures.1 in
    rw (p.1, p.2) (λ t size e w ready.
    let k = c.in_err-refusal.ensures in
    acts_unread w (Chmod c.args.client c.args.name c.args.mode) _ (Err c.in_err-refusal.field-0.0) tt k.only_reads.never_cut (k.only_reads.stays t))

pub returns-in-Err-clause-acts : goal.returns-in-Err-clause-acts
returns-in-Err-clause-acts g c = λ t size e w ready.
    let k = c.in_ok-refusal.ensures in
    let refused = refusal_of-owned w c.args.client c.args.mode c.args.name ∙ (sym (k.refusal t size w ready) ∙ ap refusal_found c.in-Err.is) in
    acts_refused w (Chmod c.args.client c.args.name c.args.mode) _ c.in-Err.refusal (Ok (answers.Reply (replies.No c.in-Err.refusal))) refused (k.only_reads.stays t)

pub returns-in_err-change_mode-clause-acts : goal.returns-in_err-change_mode-clause-acts
returns-in_err-change_mode-clause-acts g c =
    let p = err_from_is_err_and c.from_residual-in_err-change_mode.result c.from_residual-in_err-change_mode.ensures.1 in
    rw (p.1, p.2) (λ t size e w ready.
    let k = c.in_ok-refusal.ensures in
    let n = c.in_err-change_mode.ensures in
    let free = refusal_of-owned w c.args.client c.args.mode c.args.name ∙ (sym (k.refusal t size w ready) ∙ ap refusal_found c.in-Ok.is) in
    let at = subst (λ (r : Result ℕ Refusal). IfOk r (IsRecordSlot w.stored.frames c.args.name (reads (g.H.Host.state c.args.h.now).now.words))) c.in-Ok.is (k.slot t size w ready) in
    let there = ready_read size w c.find_owned.new.memory _ _ (k.only_reads.stays t) (k.ready t size w ready) in
    acts_free w (Chmod c.args.client c.args.name c.args.mode) _ (Err c.in_err-change_mode.field-0.0) free
    (OnPool-after w.stored.frames c.args.name _ c.in-Ok.slot _ _ _ (k.only_reads.stays t) at (n.commits t size (still_size k.only_reads e) (ready_gate size w c.find_owned.new.memory _ there))))

pub returns-clause-acts : goal.returns-clause-acts
returns-clause-acts g c = λ t size e w ready.
    let k = c.in_ok-refusal.ensures in
    let n = c.in_ok-change_mode.ensures in
    let free = refusal_of-owned w c.args.client c.args.mode c.args.name ∙ (sym (k.refusal t size w ready) ∙ ap refusal_found c.in-Ok.is) in
    let at = subst (λ (r : Result ℕ Refusal). IfOk r (IsRecordSlot w.stored.frames c.args.name (reads (g.H.Host.state c.args.h.now).now.words))) c.in-Ok.is (k.slot t size w ready) in
    let there = ready_read size w c.find_owned.new.memory _ _ (k.only_reads.stays t) (k.ready t size w ready) in
    acts_free w (Chmod c.args.client c.args.name c.args.mode) _ (Ok (answers.Reply replies.Ok)) free
    (OnPool-after w.stored.frames c.args.name _ c.in-Ok.slot _ _ _ (k.only_reads.stays t) at (n.commits t size (still_size k.only_reads e) (ready_gate size w c.find_owned.new.memory _ there)))
