use Rattle.std.proofs.Common.{◌≡◌, ◌*◌, ◌≤◌, length}
use Rattle.std.specs.Prelude.{slice_index_or}
use Rattle.recover.specs.declared.judge.Mark.TheVariants.{Closed}
use Rattle.recover.specs.Verdicts.{is_refused_mark}
use Rattle.puddled.specs.declared.starting.TheConstants.{LINE_LIMIT}
use Rattle.pud_defs.proofs.Output.StartText.{first_lines}
use Rattle.puddled.proofs.starting.refused_text.Given as goal

abbrev pub invariant-loop-number : goal.invariant-loop-number
invariant-loop-number l = record {
  lines : l.text.bytes ≡ first_lines (λ number. is_refused_mark (slice_index_or l.marks number Closed)) l.number;
  within : length l.text.bytes ≤ LINE_LIMIT * l.number;
}
