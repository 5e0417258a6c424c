-- The free records of the type table, the lowest first.
use Rattle.std.specs.Prelude.{◌≡◌, ℕ, zero, suc, ◌+◌, ◌-◌, cond, List, [], ◌∷◌, Option, Some, is_none, ⊤}
use Rattle.pud_defs.specs.declared.layout.TheConstants.{TYPE_RECORDS}
use Rattle.pud_defs.specs.Formats.Image.{Image}
use Rattle.pud_defs.specs.RegistryTables.Keyed.{first_free}
use Rattle.pud_defs.specs.RegistryTables.Types.{type_at}

-- The free places among `count` places from `from` on.
unfoldable pub free_places : {A : Type 0} → (ℕ → Option A) → (from count : ℕ) → List ℕ
free_places at from zero = []
free_places at from (suc count) = let later = free_places at (from + 1) count in cond (is_none (at from)) (from ∷ later) later

-- The free records of an image.
abbrev pub free_records : Image → List ℕ
free_records image = free_places (type_at image) 0 TYPE_RECORDS

-- The first is the lowest free record from `from` on, and each later one is the lowest after the one before it.
abbrev pub AreFreeRecords : (ℕ → Option (ℕ × ℕ)) → (from : ℕ) → List ℕ → Type 0
AreFreeRecords at from [] = ⊤
AreFreeRecords at from (n ∷ ns) = (first_free at from (TYPE_RECORDS - from) ≡ Some n) × AreFreeRecords at (n + 1) ns
