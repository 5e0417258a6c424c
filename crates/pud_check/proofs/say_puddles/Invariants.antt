use Rattle.std.proofs.Common.{◌≡◌, None, take}
use Rattle.std.specs.List.{flat_map, range_with_len}
use Rattle.pm_model.specs.Words.{reads}
use Rattle.pm_model.specs.Calls.{Says}
use Rattle.pud_defs.specs.Formats.Image.{Image}
use Rattle.pud_defs.specs.RegistryTables.Tables.{tables_of}
use Rattle.puddle_table.specs.Placed.{HoldsPlaces}
use Rattle.pud_check.specs.LayoutListed.{puddle_listed}
use Rattle.pud_check.proofs.say_puddles.Given as goal

abbrev pub invariant-loop-ordinal : goal.invariant-loop-ordinal
invariant-loop-ordinal g l = record {
  counts : g.H.Host.counts l.h ≡ g.H.Host.counts l.initial.h;
  says : g.H.Host.tells → (image : Image) → reads (g.H.Host.state l.initial.h).now.words ≡ image → HoldsPlaces (tables_of l.places.count image) l.places
      → Says (flat_map (puddle_listed l.id (tables_of l.places.count image) l.slot) (take l.ordinal (range_with_len 0 16))) None (g.H.Host.state l.initial.h) (g.H.Host.state l.h);
}
