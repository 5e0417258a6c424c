use Rattle.std.proofs.Common.{◌≡◌, ◌-◌, ◌≤◌, ◌++◌, vec_len, replicate}
use Rattle.std.specs.Vec.{vec_capacity}
use Rattle.pm_file.proofs.device_words.pad.Given as goal

abbrev pub invariant-loop-filler : goal.invariant-loop-filler
invariant-loop-filler g l = record {
  longer : vec_len l.initial.row ≤ vec_len l.row;
  within : vec_len l.row ≤ l.length;
  room : l.length ≤ vec_capacity l.row;
  items : l.row.items ≡ l.initial.row.items ++ replicate (vec_len l.row - vec_len l.initial.row) l.filler;
}

abbrev pub decreases-loop-filler : goal.decreases-loop-filler
decreases-loop-filler g l = l.length - vec_len l.row
