-- What becomes of the index that is kept about a pool when the pool is changed.
use Rattle.std.specs.Prelude.{◌≡◌, ◌≢◌, ℕ, nat_eq, cond, List, [], Option, Some, None}
use Rattle.pud_defs.specs.declared.objects.FieldValue.{FieldValue}
use Rattle.pud_defs.specs.declared.records.Slot.{Slot}
use Rattle.pud_defs.specs.PoolGraphs.Graph.{Graph}
use Rattle.graph_read.specs.declared.index.Index.{Index}
use Rattle.graph_read.specs.declared.index.Kept.{Kept}
use Rattle.graph_read.specs.Index.{kept_under, KeepsBut, unreferenced_at, after_retarget, HasReference, MayBeReferenced}
use Rattle.known_pool.specs.Known.{index_entries, place_under}
use Rattle.graph_read.specs.Indexed.{IsIndexBy, serial_named, references_left}

-- The index comes from the one that was kept: about each serial it has what `change` makes of what that one had.
pub record ComesFrom (change : ℕ → Option Kept → Option Kept) (old : Option (List (ℕ × Kept))) (now : Index) : Type 0 where
  pub before : Index
  pub was : old ≡ Some (index_entries before)
  pub each : (q : ℕ) → kept_under now q ≡ change q (kept_under before q)

-- If an index is kept afterwards, it comes from the one that was kept.
pub record Follows (change : ℕ → Option Kept → Option Kept) (old new : Option (List (ℕ × Kept))) : Type 0 where
  pub each : (now : Index) → new ≡ Some (index_entries now) → ComesFrom change old now

-- A pointer that named the one value names the other.
abbrev pub after_move : (was now : FieldValue) → (q : ℕ) → Option Kept → Option Kept
after_move was now q kept = after_retarget (serial_named was) (serial_named now) q kept

-- An object of this serial is kept in a slot, without a reference.
abbrev pub after_made : (s : ℕ) → Slot → (q : ℕ) → Option Kept → Option Kept
after_made s slot q kept = cond (nat_eq s q) (Some (unreferenced_at (slot.ordinal, slot.slot))) kept

-- The index comes from the one that was kept: about the place of each serial it has what `change` makes of what that
-- one had.
pub record HasPlacesFrom (change : ℕ → Option (ℕ × ℕ) → Option (ℕ × ℕ)) (old : Option (List (ℕ × Kept))) (now : Index) : Type 0 where
  pub before : Index
  pub was : old ≡ Some (index_entries before)
  pub each : (q : ℕ) → place_under now q ≡ change q (place_under before q)

-- If an index is kept afterwards, its places come from the one that was kept.
pub record FollowsPlaces (change : ℕ → Option (ℕ × ℕ) → Option (ℕ × ℕ)) (old new : Option (List (ℕ × Kept))) : Type 0 where
  pub each : (now : Index) → new ≡ Some (index_entries now) → HasPlacesFrom change old now

-- Each object stands where it stood.
abbrev pub same_place : (q : ℕ) → Option (ℕ × ℕ) → Option (ℕ × ℕ)
same_place q place = place

-- An object of this serial stands in a slot.
abbrev pub with_place : (s : ℕ) → Slot → (q : ℕ) → Option (ℕ × ℕ) → Option (ℕ × ℕ)
with_place s slot q place = cond (nat_eq s q) (Some (slot.ordinal, slot.slot)) place

-- No object has this serial.
abbrev pub without_place : (s : ℕ) → (q : ℕ) → Option (ℕ × ℕ) → Option (ℕ × ℕ)
without_place s q place = cond (nat_eq s q) None place

-- The index can count that a pointer which named the one value names the other.
pub record MayMove (was now : FieldValue) (x : Index) : Type 0 where
  pub held : serial_named was ≢ 0 → HasReference (kept_under x (serial_named was))
  pub room : serial_named now ≢ 0 → MayBeReferenced (kept_under x (serial_named now))

-- Each index that is kept has released what the object of this serial names.
pub record HasReleased (place : ℕ → Option ℕ) (g : Graph) (s : ℕ) (index : Option (List (ℕ × Kept))) : Type 0 where
  pub each : (x : Index) → index ≡ Some (index_entries x) → IsIndexBy place (references_left g s []) x

-- The index has released what the object of this serial names, and then the object. What it had between the two is the
-- places, and the references without the object's.
pub record Releases (place : ℕ → Option ℕ) (g : Graph) (s : ℕ) (now : Index) : Type 0 where
  pub before : Index
  pub left : IsIndexBy place (references_left g s []) before
  pub gone : KeepsBut before now s None
