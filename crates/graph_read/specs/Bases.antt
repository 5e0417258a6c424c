-- The bases of a pool.
use Rattle.std.specs.Prelude.{ℕ, ◌+◌, ◌^◌, ◌≤◌, List, All}
use Rattle.pud_defs.specs.declared.space.TheConstants.{RANGE_BYTES}
use Rattle.pud_defs.specs.declared.records.Puddle.{Puddle}

-- Each base is so low that each address of its range fits in 64 bits. Legal bases are low.
pub record HasLowBases (at : List (ℕ × Puddle)) : Type 0 where
  pub low : All (λ e. e.1.base + RANGE_BYTES ≤ 2 ^ 64) at
