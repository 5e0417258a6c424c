use Rattle.std.proofs.Common.{take}
use Rattle.pm_model.specs.Moments.{all_said}
use Rattle.pm_mem.specs.Device.{device_state, GoesTo}
use Rattle.pm_mem.proofs.device.Device.say.Given as goal

abbrev pub invariant-loop-byte : goal.invariant-loop-byte
invariant-loop-byte l = GoesTo (all_said (take l.byte-index l.bytes) (device_state l.initial.self)) l.initial.self.moved l.byte-index l.byte-index l.initial.self l.self
