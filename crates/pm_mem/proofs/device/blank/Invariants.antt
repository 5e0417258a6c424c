use Rattle.std.proofs.Common.{◌≡◌, ◌++◌, map, take, drop, vec_len}
use Rattle.std.specs.Vec.{vec_capacity}
use Rattle.pm_mem.specs.Events.{blanked}
use Rattle.pm_mem.proofs.device.blank.Given as goal

abbrev pub invariant-loop-at : goal.invariant-loop-at
invariant-loop-at l = record {
  items : l.events.items ≡ map (blanked l.word) (take l.at l.initial.events.items) ++ drop l.at l.initial.events.items;
  len : vec_len l.events ≡ vec_len l.initial.events;
  capacity : vec_capacity l.events ≡ vec_capacity l.initial.events;
}
