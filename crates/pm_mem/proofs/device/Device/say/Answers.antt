use Rattle.std.proofs.Common.{arith, ◌∙◌, sym, ap, List, ℕ, get_or, take}
use Rattle.std.proofs.lemmas.List.{take_more}
use Rattle.pm_model.specs.Moments.{all_said, one_said}
use Rattle.pm_mem.specs.Device.{device_state}
use Rattle.pm_mem.proofs.Events.{all_said-push}
use Rattle.pm_mem.proofs.device.Device.say.Goals as goal

pub loop-byte-preserved : goal.loop-byte-preserved
loop-byte-preserved c =
    let before = c.loop-byte.invariant in
    let one = c.say_one.ensures in
    let i = c.loop-byte.byte-index in
    let bytes = c.args.bytes.now in
    let start = device_state c.args.self.now in
    record {
      told = one.told ∙ ap (one_said (get_or bytes i 0)) before.told ∙ sym (ap (λ (l : List ℕ). all_said l start) (take_more bytes i 0 c.loop-byte-test.true) ∙ all_said-push (take i bytes) (get_or bytes i 0) start);
      moved_is = one.moved_is ∙ before.moved_is;
      words = one.words ∙ before.words;
      events = omega arith;
      said = omega arith;
      moment_room = one.moment_room ∙ before.moment_room;
      reply_room = one.reply_room ∙ before.reply_room;
    }
