-- What a call that only reads may change in a host, or in anything else that words are loaded from.
use Rattle.std.specs.Prelude.{◌≡◌, ◌≢◌, Option, Some}
use Rattle.pm_model.specs.declared.host.HostFault.{HostFault}
use Rattle.pm_model.specs.declared.host.HostFault.TheVariants.{Cut}
use Rattle.pm_model.specs.Moments.{State}
use Rattle.pm_model.specs.Counts.{Counts, after_fault}

-- Nothing that is told changed. The fault that the call returned is counted, and that fault is no cut.
pub record OnlyReads {H : Type 0} (tells : Type 0) (state : H → State) (counts : H → Counts) (fault : Option HostFault) (old new : H) : Type 0 where
  pub stays : tells → state new ≡ state old
  pub cause : counts new ≡ after_fault fault (counts old)
  pub never_cut : fault ≢ Some Cut
