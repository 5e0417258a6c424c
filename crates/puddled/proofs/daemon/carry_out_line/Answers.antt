use Rattle.std.proofs.Common.{◌≡◌, ◌≤◌, ℕ, inl, Option, Some, None, Result, Ok, Err, refl, sym, ap, subst, ◌∙◌}
use Rattle.std.specs.Result.{result_ok}
use Rattle.pm_model.specs.declared.host.HostFault.TheVariants.{Failed}
use Rattle.pm_model.specs.Counts.{fault_of}
use Rattle.pm_model.specs.Words.{reads}
use Rattle.pud_defs.specs.declared.machine.Command.{Command}
use Rattle.pud_defs.specs.declared.machine.Reply.TheVariants as replies
use Rattle.pud_defs.specs.declared.machine.Refusal.TheVariants as refusals
use Rattle.pud_defs.specs.Formats.Layout.{device_words}
use Rattle.pud_defs.specs.StateMachine.World.{world_of}
use Rattle.pud_defs.specs.StateMachine.Grammar.{command_of}
use Rattle.pud_defs.specs.StateMachine.Changing.{file_in}
use Rattle.puddled.specs.Faults.{CountsLine, CountsReply, HasLostPower}
use Rattle.daemon_memory.specs.Counted.{kind_of}
use Rattle.daemon_memory.specs.declared.line_answer.LineAnswer.{LineAnswer}
use Rattle.daemon_memory.specs.declared.line_answer.LineAnswer.TheVariants as answers
use Rattle.puddled.specs.declared.daemon.RunFault.{RunFault}
use Rattle.puddled.specs.declared.daemon.RunFault.TheVariants as faults
use Rattle.puddled.specs.Daemon.{CarriesOut}
use Rattle.daemon_memory.specs.CarryingOut.{KeepsAllBut}
use Rattle.puddled.proofs.DeviceStarts.Counted.{counted_nothing, bad_loses_nothing, size_of_command}
use Rattle.puddled.proofs.LinesDone.Carrying.{CarriesOut-bad}
use Rattle.daemon_memory.proofs.Commands.CarriedOut.{KeepsAllBut-then}
use Rattle.puddled.proofs.LinesDone.LinesCarriedOut.{Settles-done}
use Rattle.puddled.specs.Frontiers.{LeadFrontiers, MoveOnTheWay}
use Rattle.puddled.proofs.LinesDone.Led.{LeadFrontiers-bad, MoveOnTheWay-done}
use Rattle.std.proofs.lemmas.Option.{none-some, same_Some}
use Rattle.pud_defs.specs.StateMachine.Step.{refusal_of}
use Rattle.pud_defs.specs.declared.machine.Command.TheVariants.{Rewrite}
use Rattle.puddled.proofs.daemon.carry_out_line.Goals as goal

pub returns-in_default-clause-settles : goal.returns-in_default-clause-settles
returns-in_default-clause-settles g c = λ t size e w ready.
    Settles-done size w _ c.args.line.now _ _ _ _ _
    (subst (λ (o : Option Command). CarriesOut size w c.args.memory.now o (Ok (answers.Reply (replies.No refusals.Bad))) (g.H.Host.counts c.args.h.now) (g.H.Host.counts c.args.h.now) (g.H.Host.state c.args.h.now) (g.H.Host.state c.args.h.now)) (ap result_ok (sym c.in_default.is) ∙ c.parse_line.ensures.command) (CarriesOut-bad size w c.args.memory.now _ _ _ _ ready refl refl))

pub returns-clause-settles : goal.returns-clause-settles
returns-clause-settles g c = λ t size e w ready.
    let is : command_of c.args.line.now ≡ Some c.in-Ok.command = sym c.in-Ok.ensures.command in
    let after = e ∙ sym (size_of_command (kind_of (Some c.in-Ok.command)) (fault_of c.apply-done.result) _ _ c.apply-done.ensures.cause) in
    c.restart_if_cut.ensures.settles t size after w c.args.line.now _ _ is ready.shelf
    (subst (λ (o : Option Command). CarriesOut size w c.apply-done.new.memory o c.apply-done.result (g.H.Host.counts c.args.h.now) (g.H.Host.counts c.apply-done.new.h) (g.H.Host.state c.args.h.now) (g.H.Host.state c.apply-done.new.h)) (sym is) (c.apply-done.ensures.carries t size e w ready))

pub returns-in_default-clause-restarted : goal.returns-in_default-clause-restarted
returns-in_default-clause-restarted g c = λ t ok lost.
    absurd (bad_loses_nothing (g.H.Host.counts c.args.h.now) (subst (λ (o : Option Command). HasLostPower o (g.H.Host.counts c.args.h.now) (g.H.Host.counts c.args.h.now)) (sym (ap result_ok (sym c.in_default.is) ∙ c.parse_line.ensures.command)) lost))

pub returns-in_default-clause-cause : goal.returns-in_default-clause-cause
returns-in_default-clause-cause g c =
    inl (λ cut. cc, subst (λ (o : Option Command). CountsLine o None 0 (g.H.Host.counts c.args.h.now) (g.H.Host.counts c.args.h.now)) (ap result_ok (sym c.in_default.is) ∙ c.parse_line.ensures.command) (counted_nothing (g.H.Host.counts c.args.h.now) (g.H.Host.counts c.args.h.now) refl))

pub returns-clause-restarted : goal.returns-clause-restarted
returns-clause-restarted g c = λ t ok moved none.
    let same = size_of_command (kind_of (Some c.in-Ok.command)) (fault_of c.apply-done.result) _ _ c.apply-done.ensures.cause in
    let lost = subst (λ (o : Option Command). HasLostPower o (g.H.Host.counts c.args.h.now) (g.H.Host.counts c.restart_if_cut.new.h)) (sym c.in-Ok.ensures.command) moved in
    c.restart_if_cut.ensures.restarted t (c.apply-done.ensures.rested t) _ c.apply-done.ensures.cause ok lost
    (ap (λ (n : ℕ). world_of n (reads (g.H.Host.state c.restart_if_cut.new.h).now.words)) same ∙ none)

pub returns-clause-not_sound : goal.returns-clause-not_sound
returns-clause-not_sound g c = λ t unsound.
    let same = size_of_command (kind_of (Some c.in-Ok.command)) (fault_of c.apply-done.result) _ _ c.apply-done.ensures.cause in
    ap (λ (n : ℕ). world_of n (reads (g.H.Host.state c.restart_if_cut.new.h).now.words)) (sym same) ∙ c.restart_if_cut.ensures.not_sound t unsound

pub returns-clause-rest : goal.returns-clause-rest
returns-clause-rest g c = λ t.
    subst (λ (o : Option Command). KeepsAllBut (file_in o) (g.H.Host.state c.args.h.now) (g.H.Host.state c.restart_if_cut.new.h)) c.in-Ok.ensures.command (KeepsAllBut-then _ _ _ _ (c.apply-done.ensures.rest t) (c.restart_if_cut.ensures.rest t))

pub returns-clause-cause : goal.returns-clause-cause
returns-clause-cause g c =
    subst (λ (o : Option Command). CountsReply o c.restart_if_cut.result (g.H.Host.counts c.args.h.now) (g.H.Host.counts c.restart_if_cut.new.h)) c.in-Ok.ensures.command (c.restart_if_cut.ensures.cause _ c.apply-done.ensures.cause c.apply-done.ensures.uncut)

pub returns-clause-room : goal.returns-clause-room
returns-clause-room g c =
    let same = size_of_command (kind_of (Some c.in-Ok.command)) (fault_of c.apply-done.result) _ _ c.apply-done.ensures.cause in
    subst (λ (n : ℕ). device_words c.restart_if_cut.new.memory.frames ≤ n) same c.restart_if_cut.ensures.room

pub returns-in_default-clause-frontiers : goal.returns-in_default-clause-frontiers
returns-in_default-clause-frontiers g c = λ t size e w ready.
    let image = reads (g.H.Host.state c.args.h.now).now.words in
    subst (λ (o : Option Command). LeadFrontiers w o (answers.Reply (replies.No refusals.Bad) ≡ answers.Reply replies.Cut → ⊥) image image) (ap result_ok (sym c.in_default.is) ∙ c.parse_line.ensures.command)
    (LeadFrontiers-bad w (answers.Reply (replies.No refusals.Bad) ≡ answers.Reply replies.Cut → ⊥) image)

pub returns-clause-frontiers : goal.returns-clause-frontiers
returns-clause-frontiers g c = λ t size e w ready.
    let is : command_of c.args.line.now ≡ Some c.in-Ok.command = sym c.in-Ok.ensures.command in
    let after = e ∙ sym (size_of_command (kind_of (Some c.in-Ok.command)) (fault_of c.apply-done.result) _ _ c.apply-done.ensures.cause) in
    c.restart_if_cut.ensures.frontiers t size after w c.args.line.now _ _ is ready.shelf
    (subst (λ (o : Option Command). CarriesOut size w c.apply-done.new.memory o c.apply-done.result (g.H.Host.counts c.args.h.now) (g.H.Host.counts c.apply-done.new.h) (g.H.Host.state c.args.h.now) (g.H.Host.state c.apply-done.new.h)) (sym is) (c.apply-done.ensures.carries t size e w ready))

pub returns-in_default-clause-steps : goal.returns-in_default-clause-steps
returns-in_default-clause-steps g c = λ t size e w ready name n is free cut.
    absurd (none-some (Rewrite name n) (ap result_ok (sym c.in_default.is) ∙ c.parse_line.ensures.command ∙ is))

pub returns-clause-steps : goal.returns-clause-steps
returns-clause-steps g c = λ t size e w ready name n is free.
    let asked : c.in-Ok.command ≡ Rewrite name n = same_Some c.in-Ok.command (Rewrite name n) (c.in-Ok.ensures.command ∙ is) in
    c.restart_if_cut.ensures.steps t w.stored.frames name n (g.H.Host.state c.args.h.now) (c.apply-done.ensures.steps t size e w ready name n asked (ap (refusal_of w) asked ∙ free)) asked

pub returns-in_default-clause-moves : goal.returns-in_default-clause-moves
returns-in_default-clause-moves g c = λ t size e w ready.
    let s = g.H.Host.state c.args.h.now in
    let failed : Type 0 = ◌≡◌ {A = Result LineAnswer RunFault} (Ok (answers.Reply (replies.No refusals.Bad))) (Err faults.Failed) in
    subst (λ (o : Option Command). MoveOnTheWay w o failed s s) (ap result_ok (sym c.in_default.is) ∙ c.parse_line.ensures.command)
    (MoveOnTheWay-done size w c.args.memory.now None _ _ _ s s (CarriesOut-bad size w c.args.memory.now (g.H.Host.counts c.args.h.now) (g.H.Host.counts c.args.h.now) s s ready refl refl) failed (λ no. absurd (none-some Failed no)))

pub returns-clause-moves : goal.returns-clause-moves
returns-clause-moves g c = λ t size e w ready.
    let is : command_of c.args.line.now ≡ Some c.in-Ok.command = sym c.in-Ok.ensures.command in
    let after = e ∙ sym (size_of_command (kind_of (Some c.in-Ok.command)) (fault_of c.apply-done.result) _ _ c.apply-done.ensures.cause) in
    c.restart_if_cut.ensures.moves t size after w c.args.line.now _ _ is ready.shelf
    (subst (λ (o : Option Command). CarriesOut size w c.apply-done.new.memory o c.apply-done.result (g.H.Host.counts c.args.h.now) (g.H.Host.counts c.apply-done.new.h) (g.H.Host.state c.args.h.now) (g.H.Host.state c.apply-done.new.h)) (sym is) (c.apply-done.ensures.carries t size e w ready))

pub returns-clause-one_line : goal.returns-clause-one_line
returns-clause-one_line g c = c.restart_if_cut.ensures.one_line c.apply-done.ensures.one_line
