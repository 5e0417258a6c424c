-- Ranges of words, written word by word and flushed line by line.
use Rattle.std.specs.Prelude.{◌≡◌, ℕ, ◌+◌, ◌/◌, ◌<◌, ◌≤◌, ◌&&◌, nat_le, nat_lt, cond, [], Option, Some, None}
use Rattle.pm_model.specs.declared.host.HostFault.{HostFault}
use Rattle.pm_model.specs.Moments.{State}
use Rattle.pm_model.specs.Changes.{Changes, Footprint, Write, written}

-- The n words from w on get the value 0.
abbrev pub zeroed : ℕ → ℕ → Write
zeroed w n k = cond (nat_le w k && nat_lt k (w + n)) (Some 0) None

abbrev pub Nothing : Footprint
Nothing k v = ⊥

-- Without a fault, each of these words that is below `below` has its value as the newest.
pub record StoresBelow (write : Write) (below : ℕ) (fault : Option HostFault) (old new : State) : Type 0 where
  pub changes : Changes (written write) fault old new
  pub newest : fault ≡ None → (k v : ℕ) → k < below → write k ≡ Some v → (new.now.words k).newest ≡ v

-- No word gets a value. Without a fault, each word of the lines `from` to `to - 1` is marked.
pub record FlushesLines (from to : ℕ) (fault : Option HostFault) (old new : State) : Type 0 where
  pub changes : Changes Nothing fault old new
  pub marked : fault ≡ None → (k : ℕ) → from ≤ k / 8 → k / 8 < to → (new.now.words k).kept ≡ []
