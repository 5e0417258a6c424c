use Rattle.std.proofs.Common.{◌≡◌, vec_len}
use Rattle.pm_rows.proofs.Rows.{LosesPart}
use Rattle.pm_rows.proofs.device_rows.lose_line.Given as goal

abbrev pub invariant-loop-word : goal.invariant-loop-word
invariant-loop-word l = record {
  len : vec_len l.newest ≡ vec_len l.initial.newest;
  lost : LosesPart l.first l.word l.pick l.durable.items l.initial.newest.items l.newest.items;
}
