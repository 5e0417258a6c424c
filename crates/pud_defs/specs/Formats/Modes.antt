-- The mode of a pool: which class may read and write it.
use Rattle.std.specs.Prelude.{ℕ, ◌/◌, ◌%◌, Bool, ◌&&◌, nat_le, ◌==◌}
use Rattle.pud_defs.specs.declared.records.TheConstants.{MAX_MODE}

-- three octal digits out of 0, 2, 4, 6, for the owner, the group and others
abbrev pub is_legal_mode : ℕ → Bool
is_legal_mode v = nat_le v MAX_MODE && (v % 2) == 0 && (v / 8 % 2) == 0 && (v / 64 % 2) == 0
