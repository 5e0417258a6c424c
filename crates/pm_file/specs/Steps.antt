-- What a device step does to the armed cut and to the words.
use Rattle.std.specs.Prelude.{◌≡◌, ℕ, Option, Some}
use Rattle.pm_model.specs.declared.losses.Armed.{Armed}
use Rattle.pm_model.specs.Calls.{IsDue}
use Rattle.pm_model.specs.declared.host.HostFault.{HostFault}
use Rattle.pm_model.specs.declared.host.HostFault.TheVariants.{Failed, Cut}
use Rattle.pm_rows.specs.Rows.{Loses}
use Rattle.pm_file.specs.declared.device_words.DeviceWords.{DeviceWords}
use Rattle.pm_file.specs.Reach.{KeepsWords}

-- After a power loss each of the three rows has the values that the pick gives.
pub record LosesWords (pick : ℕ) (old new : DeviceWords) : Type 0 where
  pub durable : Loses pick old.rows.durable.items old.rows.newest.items new.rows.durable.items
  pub marked : Loses pick old.rows.durable.items old.rows.newest.items new.rows.marked.items
  pub newest : Loses pick old.rows.durable.items old.rows.newest.items new.rows.newest.items

-- A step that fails keeps the words. A step that is cut was due to be, and it loses power with the armed pick.
pub record Stops (fault : Option HostFault) (armed : Option Armed) (old new : DeviceWords) : Type 0 where
  pub failed : fault ≡ Some Failed → KeepsWords old.rows new.rows
  pub due : fault ≡ Some Cut → IsDue armed
  pub cut : fault ≡ Some Cut → (cut : Armed) → armed ≡ Some cut → LosesWords cut.pick old new
