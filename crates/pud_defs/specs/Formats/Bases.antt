-- The ranges of the global space: where each begins, and which values are bases.
use Rattle.std.specs.Prelude.{ℕ, ◌+◌, ◌*◌, ◌%◌, Bool, ◌&&◌, nat_le, nat_lt, ◌==◌}
use Rattle.pud_defs.specs.declared.space.TheConstants.{SPACE_START, SPACE_BYTES, RANGE_BYTES}

-- the first address of range k
abbrev pub base_at : ℕ → ℕ
base_at k = SPACE_START + RANGE_BYTES * k

-- the value is the first address of a range of the space
abbrev pub is_legal_base : ℕ → Bool
is_legal_base v = nat_le SPACE_START v && nat_lt v (SPACE_START + SPACE_BYTES) && (v % RANGE_BYTES) == 0
