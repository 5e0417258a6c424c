-- What the mode of a pool allows to whom.
use Rattle.std.specs.Prelude.{ℕ, ◌/◌, ◌%◌, Bool, ◌==◌, cond}
use Rattle.pud_defs.specs.RegistryTables.Spaces.{Owner}

-- The digit of the one class that fits: the owner's if the users are equal, else the group's if the groups are equal,
-- else that of the others.
abbrev pub digit_for : (mode : ℕ) → (pool who : Owner) → ℕ
digit_for mode pool who = cond (pool.uid == who.uid) (mode / 64 % 8) (cond (pool.gid == who.gid) (mode / 8 % 8) (mode % 8))

-- the class that fits may read: its digit has the bit 4
abbrev pub may_read : (mode : ℕ) → (pool who : Owner) → Bool
may_read mode pool who = (digit_for mode pool who / 4 % 2) == 1

-- the class that fits may write: its digit has the bit 2
abbrev pub may_write : (mode : ℕ) → (pool who : Owner) → Bool
may_write mode pool who = (digit_for mode pool who / 2 % 2) == 1
