-- The names of pools: 1 to 16 bytes, filled with zeros to 16, so that two words store them.
use Rattle.std.specs.Prelude.{◌≡◌, ℕ, ◌<◌, Bool, true, false, ◌&&◌, ◌||◌, nat_le, ◌==◌, List, [], ◌∷◌, ◌++◌, length, slice_index}
use Rattle.std.specs.Ordering.{nat_cmp}
use Rattle.std.specs.List.{list_all}
use Rattle.std.specs.Int.{to_le_bytes, w64}
use Rattle.std.specs.Cmp.Lexicographic.{slice_cmp}
use Rattle.std.specs.declared.cmp.Ordering.{Ordering}

-- the list has 16 bytes
pub record IsName (name : List ℕ) : Type 0 where
  pub sixteen : length name ≡ 16
  pub bytes : (i : ℕ) → slice_index name i < 256

-- the 16 bytes that two words store, lowest first
unfoldable pub name_by : ℕ → ℕ → List ℕ
name_by w0 w1 = to_le_bytes w64 w0 ++ to_le_bytes w64 w1

-- names in the order of their bytes
abbrev pub name_cmp : List ℕ → List ℕ → Ordering
name_cmp = slice_cmp nat_cmp

-- a small letter, a digit, or `_`
abbrev pub is_name_byte : ℕ → Bool
is_name_byte b = (nat_le 97 b && nat_le b 122) || (nat_le 48 b && nat_le b 57) || b == 95

-- such bytes, and then only zeros
unfoldable pub is_filled : List ℕ → Bool
is_filled [] = true
is_filled (b ∷ bytes) = (is_name_byte b && is_filled bytes) || list_all (λ c. c == 0) (b ∷ bytes)

-- at least one such byte, and only zeros after the last one
unfoldable pub is_legal_name : List ℕ → Bool
is_legal_name [] = false
is_legal_name (b ∷ bytes) = is_name_byte b && is_filled bytes
