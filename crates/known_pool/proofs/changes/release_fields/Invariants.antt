use Rattle.std.proofs.Common.{◌≡◌, Some, None, option_map}
use Rattle.pm_model.specs.Words.{reads}
use Rattle.pm_model.specs.Reads.{OnlyReads}
use Rattle.pud_defs.specs.Formats.Image.{Image}
use Rattle.pud_defs.specs.PoolGraphs.Stored.{stored_in}
use Rattle.pud_defs.specs.PoolGraphs.Graph.{place_map}
use Rattle.pud_defs.specs.RegistryTables.Types.{types_of}
use Rattle.puddle_header.specs.Places.{place_of_slot}
use Rattle.graph_read.specs.declared.index.Index.{Index}
use Rattle.graph_read.specs.Indexed.{IsIndexOf}
use Rattle.known_pool.specs.Known.{index_entries}
use Rattle.known_pool.specs.Indexes.{FollowsPlaces, same_place}
use Rattle.known_pool.proofs.Releasing.{ReleasesFirst}
use Rattle.known_pool.proofs.changes.release_fields.Given as goal

abbrev pub invariant-loop-f : goal.invariant-loop-f
invariant-loop-f g l = record {
  only_reads : OnlyReads g.H.Loads.tells g.H.Loads.state g.H.Loads.counts None l.initial.h l.h;
  places : FollowsPlaces same_place (option_map index_entries l.initial.index) (option_map index_entries l.index);
  lets : g.H.Loads.tells → (image : Image) → reads (g.H.Loads.state l.initial.h).now.words ≡ image → place_map (types_of image) (stored_in l.frames l.pool image) (place_of_slot l.at) ≡ Some l.map
      → ((x : Index) → l.initial.index ≡ Some x → IsIndexOf l.frames l.pool (types_of image) image x) → ReleasesFirst l.frames l.pool image (place_of_slot l.at) l.map l.f (option_map index_entries l.index);
}
