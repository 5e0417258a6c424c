-- Addresses around one that was located.
use Rattle.std.specs.Prelude.{◌≡◌, ℕ, ◌-◌, ◌/◌, ◌<◌, ◌≤◌, Some, All}
use Rattle.pud_defs.specs.declared.space.TheConstants.{WORD_BYTES}
use Rattle.pud_defs.specs.RegistryTables.Places.{located}
use Rattle.pud_defs.specs.RegistryTables.Puddles.{Member}
use Rattle.pud_defs.specs.RegistryTables.Tables.{Tables}
use Rattle.puddle_space.specs.declared.addresses.Gap.{Gap}
use Rattle.puddle_space.specs.declared.addresses.Nearby.{Nearby}
use Rattle.puddle_space.specs.declared.addresses.Neighbours.{Neighbours}

abbrev pub base_of_member : Member → ℕ
base_of_member m = m.puddle.base

-- The address lies in the gap.
pub record IsInGap (gap : Gap) (address : ℕ) : Type 0 where
  pub low : gap.low ≤ address
  pub high : address < gap.high

-- By these tables, each address from `from` to before `end` lies in the puddle of this frame.
pub record AreNeighbours (t : Tables) (n : Neighbours) : Type 0 where
  pub each : (address : ℕ) → n.from ≤ address → address < n.end → located t address ≡ Some (n.frame, (address - n.base) / WORD_BYTES)

-- This holds of each of the ranges that are kept.
abbrev pub IsNearby : Tables → Nearby → Type 0
IsNearby t n = All (AreNeighbours t) n.known
