-- What tells the puddles of a device apart: the keys of used records, and where the ordinals of a pool are marked.
use Rattle.std.specs.Prelude.{◌≡◌, ℕ, ◌+◌, ◌*◌, ◌%◌, ◌<◌, Bool, true, false, not, ◌&&◌, ◌||◌, List, ◌∷◌, Option, Some, None, option_map, is_some, is_none, slice_index_or, slice_set}
use Rattle.std.specs.Ordering.{nat_cmp}
use Rattle.pud_defs.specs.RegistryTables.Keyed.{first_from, are_distinct}
use Rattle.pud_defs.specs.RegistryTables.Puddles.{Member}
use Rattle.pud_defs.specs.RegistryTables.Spaces.{all_below}
use Rattle.pud_defs.specs.RegistryTables.Tables.{Tables}
use Rattle.pud_defs.specs.RegistryTables.SoundTables.{has_distinct_bases, has_distinct_old_bases, has_distinct_ordinals, has_counted_puddles}
use Rattle.soundness.specs.declared.distinct.Key.{Key}
use Rattle.soundness.specs.declared.distinct.Key.TheVariants.{Base, OldBase}
use Rattle.soundness.specs.declared.distinct.TheConstants.{POOL_NUMBERS, OLD_BASES, PLACES}
use Rattle.pud_defs.specs.declared.records.TheConstants.{MAX_PUDDLES, PUDDLE_BASE_WORD, PUDDLE_OLD_BASE_WORD}

-- one key that is made of a pool and of a number below n; as long as the pool is below 64, no other pair has the same
-- key
abbrev pub joined_key : (n pool low : ℕ) → ℕ
joined_key n pool low = pool % POOL_NUMBERS * n + low % n

-- the word of a record that has the base or the old base
abbrev pub key_word : Key → ℕ
key_word Base = PUDDLE_BASE_WORD
key_word OldBase = PUDDLE_OLD_BASE_WORD

-- the key of a puddle of a pool: its base, or one made of its pool and its old base
abbrev pub key_by : Key → (pool base : ℕ) → ℕ
key_by Base pool base = base
key_by OldBase pool base = joined_key OLD_BASES pool base

-- the key of a record
abbrev pub key_of : Key → Member → ℕ
key_of Base m = key_by Base m.pool m.puddle.base
key_of OldBase m = key_by OldBase m.pool m.puddle.old_base

-- the index of a record's mark, made of its pool and its ordinal
abbrev pub mark_index : Member → ℕ
mark_index m = joined_key MAX_PUDDLES m.pool m.ordinal

-- the frame of a used record, under a key of the record
abbrev pub by_key : (Member → ℕ) → Tables → ℕ → Option (ℕ × ℕ)
by_key number t frame = option_map (λ m. (number m, frame)) (t.puddles frame)

-- no two used records have the same key
abbrev pub has_distinct_numbers : (Member → ℕ) → Tables → Bool
has_distinct_numbers number t = are_distinct nat_cmp (by_key number t) 0 t.frames

-- the list with the number before it, if there is one
abbrev pub with_number : Option ℕ → List ℕ → List ℕ
with_number None numbers = numbers
with_number (Some n) numbers = n ∷ numbers

-- ---- marks of places

-- the place is not marked, if there is one
abbrev pub is_apart_from : List Bool → Option ℕ → Bool
is_apart_from marks None = true
is_apart_from marks (Some n) = not (slice_index_or marks n false)

abbrev pub with_mark : List Bool → Option ℕ → List Bool
with_mark marks None = marks
with_mark marks (Some n) = slice_set marks n true

-- one more place is marked, if there is one, and the answer is whether it was not marked before
pub record MarksMore (before : List Bool) (place : Option ℕ) (answer : Bool) (after : List Bool) : Type 0 where
  pub apart : answer ≡ is_apart_from before place
  pub marks : answer ≡ true → after ≡ with_mark before place

-- exactly the places of the used records among `count` records from one frame on are marked
pub record IsMarked (t : Tables) (from count : ℕ) (marks : List Bool) : Type 0 where
  pub each : (n : ℕ) → n < PLACES → slice_index_or marks n false ≡ is_some (first_from nat_cmp n (by_key mark_index t) from count)

-- there are marks if no two records have the same place, and none otherwise
abbrev pub AreMarked : Tables → Option (List Bool) → Type 0
AreMarked t None = has_distinct_numbers mark_index t ≡ false
AreMarked t (Some marks) = (has_distinct_numbers mark_index t ≡ true) × IsMarked t 0 t.frames marks

-- the mark of an ordinal of a slot's pool
abbrev pub is_marked_at : List Bool → (slot ordinal : ℕ) → Bool
is_marked_at marks slot ordinal = slice_index_or marks ((slot + 1) * MAX_PUDDLES + ordinal) false

-- ordinal 0 is marked, and for each other marked ordinal the one before it is marked too
abbrev pub counts_up : (ℕ → Bool) → Bool
counts_up mark = all_below 15 (λ k. mark k || not (mark (k + 1))) && mark 0

-- the slot is free, or the ordinals of its pool count up from 0, by their marks
abbrev pub is_counted_by : List Bool → Tables → ℕ → Bool
is_counted_by marks t slot = is_none (t.pools slot) || counts_up (is_marked_at marks slot)

-- ---- the whole

-- the ordinals of each pool are distinct and count up from 0
abbrev pub has_counted_ordinals : Tables → Bool
has_counted_ordinals t = has_distinct_ordinals t && has_counted_puddles t

-- no two puddles have the same base, no two of one pool have the same old base or ordinal, and the ordinals of each
-- pool count up from 0
abbrev pub are_distinct_puddles : Tables → Bool
are_distinct_puddles t = has_distinct_bases t && has_distinct_old_bases t && has_distinct_ordinals t && has_counted_puddles t
