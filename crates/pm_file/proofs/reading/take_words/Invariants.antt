use Rattle.std.proofs.Common.{◌+◌, ◌≤◌, vec_len}
use Rattle.pm_file.specs.Spelling.{GoesOn}
use Rattle.pm_file.proofs.reading.take_words.Given as goal

abbrev pub invariant-loop-place : goal.invariant-loop-place
invariant-loop-place l = record {
  len : vec_len l.words ≤ l.first + l.place;
  words : GoesOn l.first l.place l.piece l.initial.words.items l.words.items;
}
