use Rattle.std.proofs.Common.{◌≡◌, None, [], length, map}
use Rattle.std.specs.List.{range_with_len}
use Rattle.pm_model.specs.Words.{reads}
use Rattle.pm_model.specs.Reads.{OnlyReads}
use Rattle.pud_defs.specs.PoolGraphs.ExportFile.{file_puddle}
use Rattle.pud_defs.specs.Formats.Image.{Image}
use Rattle.pud_defs.specs.RegistryTables.Placement.{ArePlacedFrom}
use Rattle.pud_defs.specs.RegistryTables.Tables.{tables_of}
use Rattle.registry.specs.Placing.{puddle_of_added, added_classes}
use Rattle.pud_import.specs.Contents.{file_image, version_read, type_count_read, puddle_count_read}
use Rattle.pud_import.proofs.FilesPlaced.FreeFrames.{HasCounted}
use Rattle.pud_import.proofs.FilesPlaced.PlacedPuddles.{AreFound}
use Rattle.pud_import.proofs.new_places.find_places.Given as goal

abbrev pub invariant-loop-ordinal : goal.invariant-loop-ordinal
invariant-loop-ordinal g l = record {
  count : length l.puddles.items ≡ l.ordinal;
  many : length l.bases.items ≡ l.ordinal;
  found : AreFound l.frames l.slot l.number l.ordinal l.from l.bases.items l.puddles.items;
  only_reads : OnlyReads g.H.Host.tells g.H.Host.state g.H.Host.counts None l.initial.h l.h;
  counted : g.H.Host.tells → (image : Image) → reads (g.H.Host.state l.initial.h).now.words ≡ image → HasCounted (tables_of l.frames image).puddles l.frames l.ordinal l.from;
  classes : added_classes l.puddles.items ≡ map (λ d. d.class) (map (file_puddle (file_image l.view) (version_read l.view) (type_count_read l.view) (puddle_count_read l.view)) (range_with_len 0 l.ordinal));
  turn : g.H.Host.tells → (image : Image) → reads (g.H.Host.state l.initial.h).now.words ≡ image
      → ArePlacedFrom (tables_of l.frames image) 0 [] (map (λ d. d.base) (map (file_puddle (file_image l.view) (version_read l.view) (type_count_read l.view) (puddle_count_read l.view)) (range_with_len 0 l.ordinal))) (map puddle_of_added l.puddles.items);
}
