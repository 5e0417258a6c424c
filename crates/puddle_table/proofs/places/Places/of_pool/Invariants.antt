use Rattle.std.proofs.Common.{None, ◌≡◌, ◌<◌, ◌≤◌, length, All}
use Rattle.pm_model.specs.Words.{reads}
use Rattle.pud_defs.specs.Formats.Image.{Image}
use Rattle.pud_defs.specs.RegistryTables.Tables.{tables_of}
use Rattle.puddle_table.specs.Placed.{HoldsPlaces}
use Rattle.puddle_table.proofs.Turning.{ReadsOn}
use Rattle.pm_model.specs.Reads.{OnlyReads}
use Rattle.puddle_table.proofs.places.Places.of_pool.Given as goal

abbrev pub invariant-loop-ordinal : goal.invariant-loop-ordinal
invariant-loop-ordinal g l = record {
  few : length l.found ≤ l.ordinal;
  frames : All (λ e. e.0 < l.self.count) l.found;
  only_reads : OnlyReads g.H.Host.tells g.H.Host.state g.H.Host.counts None l.initial.h l.h;
  found : g.H.Host.tells → (image : Image) → reads (g.H.Host.state l.initial.h).now.words ≡ image → HoldsPlaces (tables_of l.self.count image) l.self → ReadsOn (tables_of l.self.count image) l.pool l.ordinal l.found;
}
