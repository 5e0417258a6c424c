-- The ranges of puddles in the global space: where an address lies, and which base is free.
use Rattle.std.specs.Prelude.{◌≡◌, ℕ, zero, suc, ◌+◌, ◌-◌, ◌/◌, ◌<◌, Bool, true, false, not, ◌&&◌, nat_le, nat_lt, ◌==◌, cond, List, Option, Some, None, option_map}
use Rattle.std.specs.List.{list_all}
use Rattle.std.specs.Option.{option_or}
use Rattle.pud_defs.specs.declared.space.TheConstants.{RANGE_BYTES, WORD_BYTES}
use Rattle.pud_defs.specs.RegistryTables.Spaces.{all_below}
use Rattle.pud_defs.specs.Formats.Bases.{is_legal_base}
use Rattle.pud_defs.specs.RegistryTables.Puddles.{Member}
use Rattle.pud_defs.specs.RegistryTables.Tables.{Tables}

-- ---- the place of an address

-- the word in which an address lies, if the range from this base on has the address
abbrev pub word_in : (base address : ℕ) → Option ℕ
word_in base address = cond (nat_le base address && nat_lt address (base + RANGE_BYTES)) (Some ((address - base) / WORD_BYTES)) None

-- the frame of a record, and the word of it in which an address lies, if the range of the record's puddle has the
-- address
abbrev pub place_in_puddle : (address frame : ℕ) → Option Member → Option (ℕ × ℕ)
place_in_puddle address frame None = None
place_in_puddle address frame (Some m) = option_map (λ word. (frame, word)) (word_in m.puddle.base address)

-- the first thing that `count` places from a given one on give
unfoldable pub first_some : {A : Type 0} → (ℕ → Option A) → ℕ → ℕ → Option A
first_some at from zero = None
first_some at from (suc count) = let later = first_some at (from + 1) count in option_or (at from) later

-- The frame and its word in which an address lies. In sound tables no two ranges have the same address. In other tables
-- the lowest frame counts.
abbrev pub located : Tables → ℕ → Option (ℕ × ℕ)
located t address = first_some (λ frame. place_in_puddle address frame (t.puddles frame)) 0 t.frames

-- ---- free bases

-- neither the base nor the old base of the record's puddle is this one
abbrev pub has_other_bases : ℕ → Option Member → Bool
has_other_bases base None = true
has_other_bases base (Some m) = not (m.puddle.base == base) && not (m.puddle.old_base == base)

-- a base is not among these, and no puddle has it as its base or its old base
abbrev pub is_free_base : Tables → List ℕ → ℕ → Bool
is_free_base t taken base = list_all (λ other. not (other == base)) taken && all_below t.frames (λ frame. has_other_bases base (t.puddles frame))

-- the base is legal and free, and no legal base below it is free
pub record IsLowestBase (t : Tables) (taken : List ℕ) (base : ℕ) : Type 0 where
  pub legal : is_legal_base base ≡ true
  pub free : is_free_base t taken base ≡ true
  pub lowest : (lower : ℕ) → is_legal_base lower ≡ true → lower < base → is_free_base t taken lower ≡ false
