-- What some modes of a pool of user 5 and group 6 allow: the one class that fits decides.
use Rattle.std.proofs.Common.{◌≡◌, ℕ, Bool, true, false, refl}
use Rattle.pud_defs.specs.RegistryTables.Spaces.{owner}
use Rattle.pud_defs.specs.Formats.Rights.{may_read, may_write}

-- whether a user of a group may read the pool of this mode, and whether the user may write it
abbrev allowed : (mode uid gid : ℕ) → Bool × Bool
allowed mode uid gid = (may_read mode (owner 5 6) (owner uid gid), may_write mode (owner 5 6) (owner uid gid))

-- the owner may read and write, whatever the group
mode_600 : (allowed 384 5 6 ≡ (true, true)) × (allowed 384 5 7 ≡ (true, true)) × (allowed 384 7 6 ≡ (false, false)) × (allowed 384 7 7 ≡ (false, false))
mode_600 = (refl, refl, refl, refl)

mode_640 : (allowed 416 5 7 ≡ (true, true)) × (allowed 416 7 6 ≡ (true, false)) × (allowed 416 7 7 ≡ (false, false))
mode_640 = (refl, refl, refl)

-- the owner may not do what the group may, even if the owner is in the group
mode_060 : (allowed 48 5 6 ≡ (false, false)) × (allowed 48 7 6 ≡ (true, true)) × (allowed 48 7 7 ≡ (false, false))
mode_060 = (refl, refl, refl)

-- the others may do what the owner and the group may not
mode_006 : (allowed 6 5 7 ≡ (false, false)) × (allowed 6 7 6 ≡ (false, false)) × (allowed 6 7 7 ≡ (true, true))
mode_006 = (refl, refl, refl)

-- the right to write is not the right to read
mode_020 : allowed 16 7 6 ≡ (false, true)
mode_020 = refl

-- a user whose number equals that of the group is not in the group
user_is_no_group : allowed 48 6 7 ≡ (false, false)
user_is_no_group = refl
