-- Where the puddles of a file are placed on a device: in which frames, at which bases, and with which frontiers.
use Rattle.std.specs.Prelude.{◌≡◌, ◌⊎◌, ℕ, ◌+◌, ◌-◌, Bool, true, false, not, ◌||◌, ◌==◌, cond, List, [], ◌∷◌, ◌++◌, map, slice_get, Option, Some, None, ⊤, bytes_eq}
use Rattle.std.specs.List.{list_any}
use Rattle.pud_defs.specs.declared.records.Puddle.{Puddle}
use Rattle.pud_defs.specs.Formats.Geometry.{steps_of}
use Rattle.pud_defs.specs.RegistryTables.Spaces.{all_below}
use Rattle.pud_defs.specs.RegistryTables.Keyed.{first_free}
use Rattle.pud_defs.specs.RegistryTables.Puddles.{Member}
use Rattle.pud_defs.specs.RegistryTables.Places.{IsLowestBase}
use Rattle.pud_defs.specs.RegistryTables.Tables.{Tables}

-- ---- bases

-- the base of the record's puddle is not this one
abbrev pub has_another_base : ℕ → Option Member → Bool
has_another_base base None = true
has_another_base base (Some m) = not (m.puddle.base == base)

-- the base is one of these, or some puddle has it as its base
abbrev pub is_taken_base : Tables → (taken : List ℕ) → ℕ → Bool
is_taken_base t taken base = list_any (λ other. other == base) taken || not (all_below t.frames (λ frame. has_another_base base (t.puddles frame)))

-- The base that a puddle of a file gets after others got these bases. It is the base in the file, unless that one is
-- taken. Then it is the lowest free one.
abbrev pub IsBaseFor : Tables → (taken : List ℕ) → (wanted base : ℕ) → Type 0
IsBaseFor t taken wanted base = ((is_taken_base t taken wanted ≡ false) × (base ≡ wanted)) ⊎ ((is_taken_base t taken wanted ≡ true) × IsLowestBase t taken base)

-- ---- places in turn

-- The puddles are placed, by ordinals, for these bases of a file, which are their old bases. The first puddle is in the
-- lowest free frame that is at least `frame`. Each other puddle is in the lowest free frame after that of the puddle
-- before it. Each has the base that it gets after the puddles before it.
abbrev pub ArePlacedFrom : Tables → (frame : ℕ) → (taken : List ℕ) → (wanted : List ℕ) → List (ℕ × Puddle) → Type 0
ArePlacedFrom t frame taken [] [] = ⊤
ArePlacedFrom t frame taken [] (e ∷ at) = ⊥
ArePlacedFrom t frame taken (base ∷ wanted) [] = ⊥
ArePlacedFrom t frame taken (base ∷ wanted) (e ∷ at) =
    (first_free t.puddles frame (t.frames - frame) ≡ Some e.0) × IsBaseFor t taken base e.1.base × (e.1.old_base ≡ base) × ArePlacedFrom t (e.0 + 1) (taken ++ e.1.base ∷ []) wanted at

-- the frontier of a puddle: all its steps if each puddle kept its base in the file; else 0, so no pointer is rewritten
-- yet
abbrev pub placed_frontier : (wanted : List ℕ) → List (ℕ × Puddle) → Puddle → ℕ
placed_frontier wanted at d = cond (bytes_eq (map (λ e. e.1.base) at) wanted) (steps_of d) 0

-- These are the puddles, with their frames, of a pool that is placed for these bases and classes of a file. `next` is
-- the next UUID number and becomes the pool's. The puddles have the numbers after it, by ordinals.
pub record ArePlaced (t : Tables) (next : ℕ) (wanted classes : List ℕ) (at : List (ℕ × Puddle)) : Type 0 where
  pub turn : ArePlacedFrom t 0 [] wanted at
  pub alike : map (λ e. e.1.class) at ≡ classes
  pub frontier : (o : ℕ) (e : ℕ × Puddle) → slice_get at o ≡ Some e → e.1.frontier ≡ placed_frontier wanted at e.1
  pub number : (o : ℕ) (e : ℕ × Puddle) → slice_get at o ≡ Some e → e.1.number ≡ next + 1 + o
