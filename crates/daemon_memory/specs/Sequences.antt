-- One call and then another, and calls that only load words.
use Rattle.std.specs.Prelude.{◌≡◌, ◌≢◌, ◌⊎◌, Option, Some, None}
use Rattle.pm_model.specs.declared.host.HostFault.{HostFault}
use Rattle.pm_model.specs.declared.host.HostFault.TheVariants as hosts
use Rattle.pm_model.specs.Moments.{State}

-- One call came, and after it, if it did not fail, another.
pub record Then (First Second : Option HostFault → State → State → Type 0) (fault : Option HostFault) (old new : State) : Type 0 where
  pub mid : State
  pub first : Option HostFault
  pub does : First first old mid
  pub then : ((first ≢ None) × ((fault ≡ first) × (new ≡ mid))) ⊎ ((first ≡ None) × Second fault mid new)

-- Words were loaded, and nothing else was done.
pub record OnlyLoads (fault : Option HostFault) (old new : State) : Type 0 where
  pub same : new ≡ old
  pub uncut : fault ≢ Some hosts.Cut

-- A load failed, and nothing else was done.
pub record Unread (fault : Option HostFault) (old new : State) : Type 0 where
  pub same : new ≡ old
  pub failed : fault ≡ Some hosts.Failed
