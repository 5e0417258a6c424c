-- The map word of a type, and which ids a type may have.
use Rattle.std.specs.Prelude.{ℕ, ◌+◌, ◌*◌, ◌/◌, ◌%◌, ◌^◌, Bool, ◌&&◌, nat_le, nat_lt, ◌==◌, List, sum_by}
use Rattle.pud_defs.specs.declared.layout.TheConstants.{MAX_TYPE_ID, MAX_FIELDS}

-- the number of fields, in bits 32 to 36
abbrev pub map_fields : ℕ → ℕ
map_fields v = v / 2 ^ 32 % 32

-- whether bit f is set: field f is a pointer
abbrev pub is_pointer : ℕ → ℕ → Bool
is_pointer v f = (v / 2 ^ f % 2) == 1

-- 1 to 30 fields, nothing above bit 36, and no bit set from the number of fields up to bit 31
abbrev pub is_legal_map : ℕ → Bool
is_legal_map v =
    nat_le 1 (map_fields v) && nat_le (map_fields v) MAX_FIELDS
    && (v / 2 ^ 32) == map_fields v && nat_lt (v % 2 ^ 32) (2 ^ map_fields v)

-- the map word of n fields of which those listed are pointers
abbrev pub map_word : ℕ → List ℕ → ℕ
map_word n pointers = n * 2 ^ 32 + sum_by (λ f. 2 ^ f) pointers

abbrev pub is_legal_type_id : ℕ → Bool
is_legal_type_id v = nat_le 1 v && nat_le v MAX_TYPE_ID
