-- What is kept in memory about a pool that was found to have a graph, and when that is true of the device.
use Rattle.std.specs.Prelude.{◌≡◌, ℕ, ◌≤◌, Bool, cond, is_some, List, Option, Some, None, option_map}
use Rattle.pud_defs.specs.declared.records.Puddle.{Puddle}
use Rattle.pud_defs.specs.Formats.Image.{Image}
use Rattle.pud_defs.specs.PoolGraphs.Stored.{stored_in}
use Rattle.pud_defs.specs.RegistryTables.Types.{types_of}
use Rattle.puddle_header.specs.Places.{places_in}
use Rattle.object_alloc.specs.Alloc.{AreLiveBefore}
use Rattle.graph_read.specs.declared.index.Index.{Index}
use Rattle.graph_read.specs.declared.index.Kept.{Kept}
use Rattle.graph_read.specs.Index.{kept_under, place_kept}
use Rattle.graph_read.specs.Indexed.{slot_at_place, IsIndexOf}
use Rattle.graph_read.specs.Reading.{place_in_pool}
use Rattle.known_pool.specs.declared.searches.FullBelow.{FullBelow}
use Rattle.known_pool.specs.Searches.{none_full, full_of}

-- What an index keeps about each serial, in the order of its map.
abbrev pub index_entries : Index → List (ℕ × Kept)
index_entries x = x.map.entries

-- The same, if the reference counts of the index are known.
abbrev pub counted_entries : (counted : Bool) → Option Index → Option (List (ℕ × Kept))
counted_entries counted index = cond counted (option_map index_entries index) None

-- Where the object of a serial stands, by an index: its ordinal and its slot.
abbrev pub place_under : Index → ℕ → Option (ℕ × ℕ)
place_under x s = option_map place_kept (kept_under x s)

-- The index has exactly the serials that have a place, each with its place. Nothing is stated about its counts.
pub record HasPlaces (place : ℕ → Option ℕ) (x : Index) : Type 0 where
  pub each : (q : ℕ) → place_under x q ≡ option_map slot_at_place (place q)

pub record Known : Type 0 where
  -- its puddles by their ordinals, each with its frame
  pub puddles : List (ℕ × Puddle)
  -- the entries of its index, if one is kept whose reference counts are known
  pub index : Option (List (ℕ × Kept))
  -- the entries of its index, if one is kept
  pub placed : Option (List (ℕ × Kept))
  -- the places from which free slots are looked for
  pub full_below : FullBelow

-- What is kept about these puddles alone.
abbrev pub by_puddles : List (ℕ × Puddle) → Known
by_puddles at = record { puddles = at; index = None; placed = None; full_below = none_full }

-- The same about other puddles.
abbrev pub with_puddles : List (ℕ × Puddle) → Known → Known
with_puddles at known = record known { puddles = at }

-- The same, but the reference counts of the index are not known.
abbrev pub without_counts : Known → Known
without_counts known = record known { index = None }

-- What is kept after a transaction on the pool has ended. If it was undone, only the puddles are kept. If it was
-- committed with deferred values, the reference counts of the index are not known.
abbrev pub after_end : (undone deferred : Bool) → Known → Known
after_end undone deferred known = cond undone (by_puddles known.puddles) (cond deferred (without_counts known) known)

-- An index is kept, and with `counts` its reference counts are known.
abbrev pub has_index : (counts : Bool) → Known → Bool
has_index counts known = cond counts (is_some known.index) (is_some known.placed)

-- What is kept is true: the index is what a scan of the pool gives, as far as it is known, and no slot of a class is free
-- before the place from which one is looked for. That place is at most the place after the pool's last one.
pub record IsKnown (F : ℕ) (image : Image) (known : Known) : Type 0 where
  pub indexed : (x : Index) → known.index ≡ Some (index_entries x) → IsIndexOf F known.puddles (types_of image) image x
  pub placed : (x : Index) → known.placed ≡ Some (index_entries x) → HasPlaces (place_in_pool F known.puddles image) x
  pub within : (class : ℕ) → full_of class known.full_below ≤ places_in known.puddles
  pub full : (class : ℕ) → AreLiveBefore class (stored_in F known.puddles image) (full_of class known.full_below)
