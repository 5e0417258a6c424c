use Rattle.std.proofs.Common.{◌≡◌, length, take, map}
use Rattle.std.specs.List.{range_with_len}
use Rattle.pud_import.specs.declared.bases.TheConstants.{PUDDLES}
use Rattle.pud_import.specs.Answers.{frame_and_puddle}
use Rattle.pud_import.specs.Sized.{image_of_file}
use Rattle.pud_import.proofs.sized_file.SizedFile.pool.Given as goal

abbrev pub invariant-loop-ordinal : goal.invariant-loop-ordinal
invariant-loop-ordinal l = record {
  whole : length l.pool ≡ PUDDLES;
  so_far : take l.ordinal l.pool ≡ map (frame_and_puddle (image_of_file l.self) l.self.version l.self.types l.self.puddles) (range_with_len 0 l.ordinal);
}
