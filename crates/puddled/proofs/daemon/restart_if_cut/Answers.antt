use Rattle.std.proofs.Common.{sym, ◌≡◌, ℕ, inl, inr, ⊎_elim, Some, Result, Ok, Err, refl, ap, subst, ◌∙◌, Option}
use Rattle.std.proofs.lemmas.Option.{none-some}
use Rattle.std.proofs.lemmas.Result.{err_from_is_err_and}
use Rattle.pm_model.specs.declared.host.HostFault.{HostFault}
use Rattle.pm_model.specs.declared.host.HostFault.TheVariants as hosts
use Rattle.pm_model.specs.Words.{reads}
use Rattle.pm_model.specs.Counts.{fault_of}
use Rattle.daemon_memory.specs.declared.line_answer.LineAnswer.{LineAnswer}
use Rattle.daemon_memory.specs.declared.line_answer.LineAnswer.TheVariants as answers
use Rattle.daemon_memory.specs.LineAnswers.{IsOneLine}
use Rattle.pud_defs.specs.declared.machine.Reply.{Reply}
use Rattle.pud_defs.specs.StateMachine.World.{world_of}
use Rattle.pud_defs.specs.StateMachine.Grammar.{command_of}
use Rattle.daemon_memory.specs.Memory.{Memory}
use Rattle.puddled.specs.Daemon.{CarriesOut}
use Rattle.puddled.specs.declared.daemon.StartFault.{StartFault}
use Rattle.puddled.specs.Faults.{start_fault, answer_after_loss}
use Rattle.daemon_memory.specs.Counted.{kind_of, IsUncut, CountsCommand}
use Rattle.puddled.proofs.DeviceStarts.Counted.{uncut_reply, kind_done, kind_faulty, kind_restarted, kind_unstarted, no_power_lost}
use Rattle.puddled.proofs.LinesDone.LinesCarriedOut.{Settles-done, Settles-failed, Settles-again, Settles-unstarted, restart_sound, found_world, found_stands, found_shelf}
use Rattle.puddled.proofs.LinesDone.Led.{LeadFrontiers-done, LeadFrontiers-lost, MoveOnTheWay-done, MoveOnTheWay-lost}
use Rattle.std.specs.Prelude.{IfOk}
use Rattle.pud_defs.specs.declared.machine.Command.{Command}
use Rattle.pool_lines.specs.Rewriting.{DoesSteps}
use Rattle.puddled.proofs.daemon.restart_if_cut.Goals as goal

pub returns-in_err-restart-in-Err-Cut-clause-settles : goal.returns-in_err-restart-in-Err-Cut-clause-settles
returns-in_err-restart-in-Err-Cut-clause-settles g c = λ t size e w line counted before of_line shelf carries.
    let p = err_from_is_err_and c.from_residual.result c.from_residual.ensures.1 in
    let is : c.args.done ≡ Err hosts.Cut = c.in-Err-Cut.is ∙ ap Err (rw c.in-Err-Cut.is at c.in-Err-Cut.field-0-is) in
    let mid = g.H.Host.state c.args.h.now in
    let k = subst (λ (r : Result LineAnswer HostFault). CarriesOut size w c.args.memory.now (command_of line) r counted (g.H.Host.counts c.args.h.now) before mid) is carries in
    let fault = c.in_err-restart-in-Err-Cut.field-0.0 in
    let next = found_world size w _ line _ _ before mid k shelf in
    rw (p.1, p.2) (Settles-unstarted size w _ line _ _ before mid k shelf _ _ _ fault
    (λ unsound.
    let none = (c.in_err-restart-in-Err-Cut.ensures.not_sound t (ap (λ (f : StartFault). start_fault {T = Unit} (Err f)) unsound)).0 (ap Err unsound) in
    restart_sound size w _ line _ _ before mid k shelf (ap (λ (n : ℕ). world_of n (reads mid.now.words)) e ∙ none))
    (c.in_err-restart-in-Err-Cut.ensures.recovers t size e next (k.led.applies.applies.rests refl) (found_stands size w _ line _ _ before mid k shelf) (found_shelf size w _ line _ _ before mid k shelf))
    c.in_err-restart-in-Err-Cut.ensures.cause)

pub returns-in_err-restart-in-Err-Cut-clause-cause : goal.returns-in_err-restart-in-Err-Cut-clause-cause
returns-in_err-restart-in-Err-Cut-clause-cause g c = λ counted counts uncut.
    let p = err_from_is_err_and c.from_residual.result c.from_residual.ensures.1 in
    let is : c.args.done ≡ Err hosts.Cut = c.in-Err-Cut.is ∙ ap Err (rw c.in-Err-Cut.is at c.in-Err-Cut.field-0-is) in
    let k = subst (λ (r : Result LineAnswer HostFault). CountsCommand (kind_of (Some c.args.command)) (fault_of r) counted (g.H.Host.counts c.args.h.now)) is counts in
    rw (p.1, p.2) (inl (tt, kind_unstarted (kind_of (Some c.args.command)) c.in_err-restart-in-Err-Cut.field-0.0 _ _ _ k c.in_err-restart-in-Err-Cut.ensures.cause))

pub returns-in-Ok-clause-settles : goal.returns-in-Ok-clause-settles
returns-in-Ok-clause-settles g c = λ t size e w line counted before of_line shelf carries.
    Settles-done size w _ line _ _ before _ c.in-Ok.answered
    (subst (λ (r : Result LineAnswer HostFault). CarriesOut size w c.args.memory.now (command_of line) r counted (g.H.Host.counts c.args.h.now) before (g.H.Host.state c.args.h.now)) c.in-Ok.is carries)

pub returns-in-Ok-clause-cause : goal.returns-in-Ok-clause-cause
returns-in-Ok-clause-cause g c = λ counted counts uncut.
    inl (subst (λ (r : Result LineAnswer HostFault). IfOk r IsUncut) c.in-Ok.is uncut, kind_done (kind_of (Some c.args.command)) _ _ (subst (λ (r : Result LineAnswer HostFault). CountsCommand (kind_of (Some c.args.command)) (fault_of r) counted (g.H.Host.counts c.args.h.now)) c.in-Ok.is counts))

pub returns-in-Ok-clause-restarted : goal.returns-in-Ok-clause-restarted
returns-in-Ok-clause-restarted g c = λ t rested counted counts ok moved.
    absurd (no_power_lost (kind_of (Some c.args.command)) _ _
    (subst (λ (r : Result LineAnswer HostFault). CountsCommand (kind_of (Some c.args.command)) (fault_of r) counted (g.H.Host.counts c.args.h.now)) c.in-Ok.is counts) moved)

pub returns-in-Err-Failed-clause-settles : goal.returns-in-Err-Failed-clause-settles
returns-in-Err-Failed-clause-settles g c = λ t size e w line counted before of_line shelf carries.
    let is : c.args.done ≡ Err hosts.Failed = c.in-Err-Failed.is ∙ ap Err (rw c.in-Err-Failed.is at c.in-Err-Failed.field-0-is) in
    Settles-failed size w _ line _ _ before _ _
    (subst (λ (r : Result LineAnswer HostFault). CarriesOut size w c.args.memory.now (command_of line) r counted (g.H.Host.counts c.args.h.now) before (g.H.Host.state c.args.h.now)) is carries)

pub returns-in-Err-Failed-clause-cause : goal.returns-in-Err-Failed-clause-cause
returns-in-Err-Failed-clause-cause g c = λ counted counts uncut.
    let is : c.args.done ≡ Err hosts.Failed = c.in-Err-Failed.is ∙ ap Err (rw c.in-Err-Failed.is at c.in-Err-Failed.field-0-is) in
    inl (tt, kind_faulty (kind_of (Some c.args.command)) _ _ (subst (λ (r : Result LineAnswer HostFault). CountsCommand (kind_of (Some c.args.command)) (fault_of r) counted (g.H.Host.counts c.args.h.now)) is counts))

pub returns-in_ok-restart-in-Err-Cut-clause-settles : goal.returns-in_ok-restart-in-Err-Cut-clause-settles
returns-in_ok-restart-in-Err-Cut-clause-settles g c = λ t size e w line counted before of_line shelf carries.
    let is : c.args.done ≡ Err hosts.Cut = c.in-Err-Cut.is ∙ ap Err (rw c.in-Err-Cut.is at c.in-Err-Cut.field-0-is) in
    let mid = g.H.Host.state c.args.h.now in
    let k = subst (λ (r : Result LineAnswer HostFault). CarriesOut size w c.args.memory.now (command_of line) r counted (g.H.Host.counts c.args.h.now) before mid) is carries in
    let next = found_world size w _ line _ _ before mid k shelf in
    rw c.reply_after_loss.ensures (Settles-again size w _ line _ _ before mid k shelf _ _ _ (kind_of (Some c.args.command)) (ap kind_of of_line) (c.in_ok-restart-in-Err-Cut.ensures.replays t (k.led.applies.applies.rests refl))
    (c.in_ok-restart-in-Err-Cut.ensures.recovers t size e next (k.led.applies.applies.rests refl) (found_stands size w _ line _ _ before mid k shelf) (found_shelf size w _ line _ _ before mid k shelf))
    c.in_ok-restart-in-Err-Cut.ensures.cause)

pub returns-in_ok-restart-in-Err-Cut-clause-cause : goal.returns-in_ok-restart-in-Err-Cut-clause-cause
returns-in_ok-restart-in-Err-Cut-clause-cause g c = λ counted counts uncut.
    let is : c.args.done ≡ Err hosts.Cut = c.in-Err-Cut.is ∙ ap Err (rw c.in-Err-Cut.is at c.in-Err-Cut.field-0-is) in
    let k = subst (λ (r : Result LineAnswer HostFault). CountsCommand (kind_of (Some c.args.command)) (fault_of r) counted (g.H.Host.counts c.args.h.now)) is counts in
    rw c.reply_after_loss.ensures (⊎_elim
    (λ plain. inl (uncut_reply (answer_after_loss (kind_of (Some c.args.command))) plain.0, plain.1))
    (λ cut. inr (ap (λ (r : Reply). Ok (answers.Reply r)) cut.0, cut.1))
    (kind_restarted (kind_of (Some c.args.command)) _ _ _ k c.in_ok-restart-in-Err-Cut.ensures.cause))

pub returns-in_ok-restart-in-Err-Cut-clause-restarted : goal.returns-in_ok-restart-in-Err-Cut-clause-restarted
returns-in_ok-restart-in-Err-Cut-clause-restarted g c = λ t rested counted counts ok moved.
    let is : c.args.done ≡ Err hosts.Cut = c.in-Err-Cut.is ∙ ap Err (rw c.in-Err-Cut.is at c.in-Err-Cut.field-0-is) in
    c.in_ok-restart-in-Err-Cut.ensures.sound t (rested (ap fault_of is))

pub returns-in-Ok-clause-frontiers : goal.returns-in-Ok-clause-frontiers
returns-in-Ok-clause-frontiers g c = λ t size e w line counted before of_line shelf carries.
    LeadFrontiers-done size w _ (command_of line) _ _ before _ _ _
    (subst (λ (r : Result LineAnswer HostFault). CarriesOut size w c.args.memory.now (command_of line) r counted (g.H.Host.counts c.args.h.now) before (g.H.Host.state c.args.h.now)) c.in-Ok.is carries)

pub returns-in_ok-restart-in-Err-Cut-clause-frontiers : goal.returns-in_ok-restart-in-Err-Cut-clause-frontiers
returns-in_ok-restart-in-Err-Cut-clause-frontiers g c = λ t size e w line counted before of_line shelf carries.
    let is : c.args.done ≡ Err hosts.Cut = c.in-Err-Cut.is ∙ ap Err (rw c.in-Err-Cut.is at c.in-Err-Cut.field-0-is) in
    let mid = g.H.Host.state c.args.h.now in
    let k = subst (λ (r : Result LineAnswer HostFault). CarriesOut size w c.args.memory.now (command_of line) r counted (g.H.Host.counts c.args.h.now) before mid) is carries in
    LeadFrontiers-lost size w _ line _ _ before mid k shelf _ (c.in_ok-restart-in-Err-Cut.ensures.replays t (k.led.applies.applies.rests refl)) c.reply_after_loss.result
    (c.reply_after_loss.ensures ∙ ap (λ (x : Option Command). answer_after_loss (kind_of x)) (sym of_line))

pub returns-in-Ok-clause-steps : goal.returns-in-Ok-clause-steps
returns-in-Ok-clause-steps g c = λ t F name n before does is cut.
    subst (λ (r : Result LineAnswer HostFault). IfOk r (λ _. DoesSteps F name n (reads before.now.words) (reads (g.H.Host.state c.args.h.now).now.words))) c.in-Ok.is does

pub returns-in_ok-restart-in-Err-Cut-clause-steps : goal.returns-in_ok-restart-in-Err-Cut-clause-steps
returns-in_ok-restart-in-Err-Cut-clause-steps g c = λ t F name n before does is cut.
    absurd (cut (ap (λ (r : Reply). answers.Reply r) (c.reply_after_loss.ensures ∙ ap (λ (x : Command). answer_after_loss (kind_of (Some x))) is)))

pub returns-in-Ok-clause-moves : goal.returns-in-Ok-clause-moves
returns-in-Ok-clause-moves g c = λ t size e w line counted before of_line shelf carries.
    MoveOnTheWay-done size w _ (command_of line) _ _ _ before _
    (subst (λ (r : Result LineAnswer HostFault). CarriesOut size w c.args.memory.now (command_of line) r counted (g.H.Host.counts c.args.h.now) before (g.H.Host.state c.args.h.now)) c.in-Ok.is carries)
    _ (λ no. absurd (none-some hosts.Failed no))

pub returns-in-Err-Failed-clause-moves : goal.returns-in-Err-Failed-clause-moves
returns-in-Err-Failed-clause-moves g c = λ t size e w line counted before of_line shelf carries.
    let is : c.args.done ≡ Err hosts.Failed = c.in-Err-Failed.is ∙ ap Err (rw c.in-Err-Failed.is at c.in-Err-Failed.field-0-is) in
    MoveOnTheWay-done size w _ (command_of line) _ _ _ before _
    (subst (λ (r : Result LineAnswer HostFault). CarriesOut size w c.args.memory.now (command_of line) r counted (g.H.Host.counts c.args.h.now) before (g.H.Host.state c.args.h.now)) is carries)
    _ (λ failed. refl)

pub returns-in_err-restart-in-Err-Cut-clause-moves : goal.returns-in_err-restart-in-Err-Cut-clause-moves
returns-in_err-restart-in-Err-Cut-clause-moves g c = λ t size e w line counted before of_line shelf carries.
    let is : c.args.done ≡ Err hosts.Cut = c.in-Err-Cut.is ∙ ap Err (rw c.in-Err-Cut.is at c.in-Err-Cut.field-0-is) in
    let mid = g.H.Host.state c.args.h.now in
    let k = subst (λ (r : Result LineAnswer HostFault). CarriesOut size w c.args.memory.now (command_of line) r counted (g.H.Host.counts c.args.h.now) before mid) is carries in
    MoveOnTheWay-lost size w _ line _ _ before mid k shelf _ _
    (c.in_err-restart-in-Err-Cut.ensures.recovers t size e (found_world size w _ line _ _ before mid k shelf) (k.led.applies.applies.rests refl) (found_stands size w _ line _ _ before mid k shelf) (found_shelf size w _ line _ _ before mid k shelf)) _

pub returns-in_ok-restart-in-Err-Cut-clause-moves : goal.returns-in_ok-restart-in-Err-Cut-clause-moves
returns-in_ok-restart-in-Err-Cut-clause-moves g c = λ t size e w line counted before of_line shelf carries.
    let is : c.args.done ≡ Err hosts.Cut = c.in-Err-Cut.is ∙ ap Err (rw c.in-Err-Cut.is at c.in-Err-Cut.field-0-is) in
    let mid = g.H.Host.state c.args.h.now in
    let k = subst (λ (r : Result LineAnswer HostFault). CarriesOut size w c.args.memory.now (command_of line) r counted (g.H.Host.counts c.args.h.now) before mid) is carries in
    MoveOnTheWay-lost size w _ line _ _ before mid k shelf _ _
    (c.in_ok-restart-in-Err-Cut.ensures.recovers t size e (found_world size w _ line _ _ before mid k shelf) (k.led.applies.applies.rests refl) (found_stands size w _ line _ _ before mid k shelf) (found_shelf size w _ line _ _ before mid k shelf)) _

pub returns-in-Ok-clause-one_line : goal.returns-in-Ok-clause-one_line
returns-in-Ok-clause-one_line g c = subst (λ (r : Result LineAnswer HostFault). IfOk r IsOneLine) c.in-Ok.is
