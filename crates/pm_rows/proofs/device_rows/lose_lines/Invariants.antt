use Rattle.std.proofs.Common.{◌≡◌, take, vec_len}
use Rattle.pm_rows.specs.Rows.{LosesLines}
use Rattle.pm_rows.proofs.device_rows.lose_lines.Given as goal

abbrev pub invariant-loop-line : goal.invariant-loop-line
invariant-loop-line l = record {
  len : vec_len l.newest ≡ vec_len l.initial.newest;
  lost : LosesLines (take l.line-index l.lines) l.pick l.durable.items l.initial.newest.items l.newest.items;
}
