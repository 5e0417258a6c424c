use Rattle.std.proofs.Common.{◌≡◌, ◌≤◌, ◌-◌, vec_len, length}
use Rattle.pm_file.proofs.Spelled.{HasRead}
use Rattle.pm_file.proofs.reading.read_words.Given as goal

abbrev pub invariant-loop-first : goal.invariant-loop-first
invariant-loop-first g l = record {
  within : vec_len l.words ≤ l.first;
  upto : l.first ≤ l.count;
  piece : length l.piece ≡ 65536;
  read : HasRead l.first (g.F.Read.remaining l.initial.file) (g.F.Read.remaining l.file) l.words.items;
}

abbrev pub decreases-loop-first : goal.decreases-loop-first
decreases-loop-first g l = l.count - l.first
