use Rattle.std.proofs.Common.{◌≡◌, None, take}
use Rattle.std.specs.List.{flat_map}
use Rattle.pm_model.specs.Words.{reads}
use Rattle.pm_model.specs.Calls.{Says}
use Rattle.pud_defs.specs.Formats.Image.{Image}
use Rattle.pud_defs.specs.RegistryTables.Tables.{tables_of}
use Rattle.puddle_table.specs.Placed.{HoldsPlaces}
use Rattle.pud_check.specs.Checked.{pool_checked}
use Rattle.pud_check.proofs.check.say_pools.Given as goal

abbrev pub invariant-loop-slot : goal.invariant-loop-slot
invariant-loop-slot g l = record {
  counts : g.H.Host.counts l.h ≡ g.H.Host.counts l.initial.h;
  says : g.H.Host.tells → (image : Image) → reads (g.H.Host.state l.initial.h).now.words ≡ image → HoldsPlaces (tables_of l.frames image) l.places
      → Says (flat_map (pool_checked l.frames image) (take l.slot-index l.records)) None (g.H.Host.state l.initial.h) (g.H.Host.state l.h);
}
