use Rattle.std.proofs.Common.{◌≡◌, ℕ, None, Some, refl, sym, ap, ◌∙◌}
use Rattle.std.specs.Prelude.{is_some}
use Rattle.std.proofs.lemmas.Result.{err_from_is_err_and}
use Rattle.pm_model.specs.Words.{reads}
use Rattle.pm_model.proofs.Reading.{Changes-read, still_size}
use Rattle.log_replay.proofs.Applying.{any_then}
use Rattle.pud_defs.specs.StateMachine.World.{world_of}
use Rattle.pud_defs.proofs.StateMachine.Worlds.{world_of-sound, world_of-unsound}
use Rattle.log_replay.specs.declared.Target.TheVariants as targets
use Rattle.registry.proofs.Applied.{copied_before, settles_sound, stands_then, SettlesLog-failed, AppliesLog-sound, AppliesLog-failed}
use Rattle.registry.proofs.load_sound.Goals as goal

-- a read failed while the device was judged

pub returns-in_err-sound-clause-settles : goal.returns-in_err-sound-clause-settles
returns-in_err-sound-clause-settles g c =
    let p = err_from_is_err_and c.from_residual.result c.from_residual.ensures.1 in
    rw (p.1, p.2) (λ t sound. SettlesLog-failed _ _ _ c.in_err-sound.ensures.only_reads.never_cut (c.in_err-sound.ensures.only_reads.stays t))

pub returns-in_err-sound-clause-applies : goal.returns-in_err-sound-clause-applies
returns-in_err-sound-clause-applies g c =
    let p = err_from_is_err_and c.from_residual.result c.from_residual.ensures.1 in
    rw (p.1, p.2) (λ t size same s rested world. AppliesLog-failed size s _ _ _ rested world (c.in_err-sound.ensures.only_reads.stays t))

pub returns-in_err-sound-clause-unsound_stays : goal.returns-in_err-sound-clause-unsound_stays
returns-in_err-sound-clause-unsound_stays g c = λ t none. c.in_err-sound.ensures.only_reads.stays t

-- the device is refused

pub returns-in_default-clause-unsound_stays : goal.returns-in_default-clause-unsound_stays
returns-in_default-clause-unsound_stays g c = λ t none. c.in_ok-sound.ensures.only_reads.stays t

pub returns-in_default-clause-not_sound : goal.returns-in_default-clause-not_sound
returns-in_default-clause-not_sound g c = λ t none.
    (λ _. world_of-unsound _ _ (sym (c.in_ok-sound.ensures.sound t) ∙ ap is_some c.in_default.is), λ _. refl)

pub returns-in_default-clause-applies : goal.returns-in_default-clause-applies
returns-in_default-clause-applies g c = λ t size same s rested world.
    absurd (let none = world_of-unsound _ _ (sym (c.in_ok-sound.ensures.sound t) ∙ ap is_some c.in_default.is) in
    let it : None ≡ Some s = sym none ∙ ap (λ (n : ℕ). world_of n (reads (g.H.Host.state c.args.h.now).now.words)) (sym same) ∙ world in cc)

pub returns-in_default-clause-any : goal.returns-in_default-clause-any
returns-in_default-clause-any g c = Changes-read c.in_ok-sound.ensures.only_reads

-- the log of the device is applied

pub returns-in_err-settle_copy-clause-settles : goal.returns-in_err-settle_copy-clause-settles
returns-in_err-settle_copy-clause-settles g c =
    let p = err_from_is_err_and c.from_residual-in_err-settle_copy.result c.from_residual-in_err-settle_copy.ensures.1 in
    rw (p.1, p.2) (λ t judged.
    let stays = c.in_ok-sound.ensures.only_reads.stays t in
    let copied = copied_before _ c.in-Some.sound _ (g.H.Host.state c.judge_device.new.h) c.in-Some.is (c.in_ok-sound.ensures.log t) stays in
    settles_sound _ _ _ (g.H.Host.state c.judge_device.new.h) _ stays (sym (c.in_ok-sound.ensures.sound t) ∙ ap is_some c.in-Some.is)
    (λ es r. c.in_err-settle_copy.ensures.settles t _ (still_size c.in_ok-sound.ensures.only_reads refl) targets.Words es r copied))

pub returns-in_err-settle_copy-clause-applies : goal.returns-in_err-settle_copy-clause-applies
returns-in_err-settle_copy-clause-applies g c =
    let p = err_from_is_err_and c.from_residual-in_err-settle_copy.result c.from_residual-in_err-settle_copy.ensures.1 in
    rw (p.1, p.2) (λ t size same s rested world.
    let stays = c.in_ok-sound.ensures.only_reads.stays t in
    let copied = copied_before _ c.in-Some.sound _ (g.H.Host.state c.judge_device.new.h) c.in-Some.is (c.in_ok-sound.ensures.log t) stays in
    let after = still_size c.in_ok-sound.ensures.only_reads same in
    AppliesLog-sound size s _ _ (g.H.Host.state c.judge_device.new.h) _ stays rested world
    (λ es r. c.in_err-settle_copy.ensures.settles t size after targets.Words es r copied) (λ es r. c.in_err-settle_copy.ensures.same t size after es r copied))

pub returns-clause-not_sound : goal.returns-clause-not_sound
returns-clause-not_sound g c = λ t _.
    (λ e. absurd (cc e), λ none. absurd (let no_world = sym none ∙ world_of-sound _ _ (sym (c.in_ok-sound.ensures.sound t) ∙ ap is_some c.in-Some.is) in cc no_world))

pub returns-in_err-settle_copy-clause-unsound_stays : goal.returns-in_err-settle_copy-clause-unsound_stays
returns-in_err-settle_copy-clause-unsound_stays g c = λ t none.
    absurd (let no_world = sym none ∙ world_of-sound _ _ (sym (c.in_ok-sound.ensures.sound t) ∙ ap is_some c.in-Some.is) in cc no_world)

pub returns-clause-unsound_stays : goal.returns-clause-unsound_stays
returns-clause-unsound_stays g c = λ t none. absurd (let no_world = sym none ∙ world_of-sound _ _ (sym (c.in_ok-sound.ensures.sound t) ∙ ap is_some c.in-Some.is) in cc no_world)

pub returns-clause-settles : goal.returns-clause-settles
returns-clause-settles g c = λ t judged.
    let stays = c.in_ok-sound.ensures.only_reads.stays t in
    let copied = copied_before _ c.in-Some.sound _ (g.H.Host.state c.judge_device.new.h) c.in-Some.is (c.in_ok-sound.ensures.log t) stays in
    settles_sound _ None _ (g.H.Host.state c.judge_device.new.h) _ stays (sym (c.in_ok-sound.ensures.sound t) ∙ ap is_some c.in-Some.is)
    (λ es r. c.in_ok-settle_copy.ensures.settles t _ (still_size c.in_ok-sound.ensures.only_reads refl) targets.Words es r copied)

pub returns-clause-applies : goal.returns-clause-applies
returns-clause-applies g c = λ t size same s rested world.
    let stays = c.in_ok-sound.ensures.only_reads.stays t in
    let copied = copied_before _ c.in-Some.sound _ (g.H.Host.state c.judge_device.new.h) c.in-Some.is (c.in_ok-sound.ensures.log t) stays in
    let after = still_size c.in_ok-sound.ensures.only_reads same in
    AppliesLog-sound size s None _ (g.H.Host.state c.judge_device.new.h) _ stays rested world
    (λ es r. c.in_ok-settle_copy.ensures.settles t size after targets.Words es r copied) (λ es r. c.in_ok-settle_copy.ensures.same t size after es r copied)

pub returns-clause-any : goal.returns-clause-any
returns-clause-any g c = λ t.
    any_then None _ (g.H.Host.state c.judge_device.new.h) _ (Changes-read c.in_ok-sound.ensures.only_reads t) (c.in_ok-settle_copy.ensures.any t)

pub returns-clause-stands : goal.returns-clause-stands
returns-clause-stands g c = λ t size same.
    let a = g.H.Host.state c.args.h.now in
    let stays = c.in_ok-sound.ensures.only_reads.stays t in
    let copied = copied_before _ c.in-Some.sound _ (g.H.Host.state c.judge_device.new.h) c.in-Some.is (c.in_ok-sound.ensures.log t) stays in
    let is_sound = sym (c.in_ok-sound.ensures.sound t) ∙ ap is_some c.in-Some.is in
    let settles = settles_sound _ None a (g.H.Host.state c.judge_device.new.h) _ stays is_sound
    (λ es r. c.in_ok-settle_copy.ensures.settles t _ (still_size c.in_ok-sound.ensures.only_reads refl) targets.Words es r copied) in
    stands_then size a _ (world_of size (reads a.now.words)) refl
    (λ none. absurd (let no_world = sym (ap (λ (n : ℕ). world_of n (reads a.now.words)) (sym same) ∙ none) ∙ world_of-sound _ _ is_sound in cc no_world))
    settles
