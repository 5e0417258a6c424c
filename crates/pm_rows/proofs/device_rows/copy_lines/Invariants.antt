use Rattle.std.proofs.Common.{◌≡◌, take, vec_len}
use Rattle.pm_rows.specs.Rows.{TakesLines}
use Rattle.pm_rows.proofs.device_rows.copy_lines.Given as goal

abbrev pub invariant-loop-line : goal.invariant-loop-line
invariant-loop-line l = record {
  len : vec_len l.to ≡ vec_len l.initial.to;
  taken : TakesLines (take l.line-index l.lines) l.from.items l.initial.to.items l.to.items;
}
