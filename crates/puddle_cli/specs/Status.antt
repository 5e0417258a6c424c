-- The status that the program ends with.
use Rattle.std.specs.Prelude.{ℕ, ◌≡◌, ◌≢◌, ◌⊎◌, ◌≤◌, ◌==◌, Bool, cond, Option, Some, None}
use Rattle.pm_model.specs.declared.host.HostFault.{HostFault}
use Rattle.pm_model.specs.declared.host.HostFault.TheVariants.{Failed, Cut}
use Rattle.pm_model.specs.Counts.{Counts, Rose}
use Rattle.puddled.specs.declared.daemon.RunFault.{RunFault}
use Rattle.puddled.specs.declared.daemon.RunFault.TheVariants as faults
use Rattle.puddle_cli.specs.declared.status.TheConstants.{DONE, NOT_USABLE, DEVICE_FAULT, POWER_LOST, TOO_LONG}

-- The host's fault that a status stands for.
abbrev pub status_fault : ℕ → Option HostFault
status_fault status = cond (status == DEVICE_FAULT) (Some Failed) (cond (status == POWER_LOST) (Some Cut) None)

-- Why a run did not start or could not go on, by its status.
abbrev pub run_fault_at : ℕ → Option RunFault
run_fault_at status =
    cond (status == DEVICE_FAULT) (Some faults.Failed) (cond (status == POWER_LOST) (Some faults.CutInStart) (cond (status == NOT_USABLE) (Some faults.NotSound) None))

-- The status of a run that cannot go on.
abbrev pub status_at : RunFault → ℕ
status_at faults.Failed = DEVICE_FAULT
status_at faults.CutInStart = POWER_LOST
status_at faults.NotSound = NOT_USABLE

-- The status of a run that could go on, by whether its script was read to its end.
abbrev pub status_to : (ended : Bool) → ℕ
status_to ended = cond ended DONE TOO_LONG

-- The statuses that a mode ends with.
abbrev pub IsStatusOfMode : ℕ → Type 0
IsStatusOfMode status = (status ≡ DONE) ⊎ (status ≡ NOT_USABLE) ⊎ (status ≡ DEVICE_FAULT) ⊎ (status ≡ POWER_LOST) ⊎ (status ≡ TOO_LONG)

-- The count of faults rose at status 5 and did not change at any other status. The count of cuts rose at status 6. No
-- other count falls, and the size does not change.
pub record Causes (status : ℕ) (old new : Counts) : Type 0 where
  pub faults : status ≡ DEVICE_FAULT → Rose old.faults new.faults
  pub no_faults : status ≢ DEVICE_FAULT → new.faults ≡ old.faults
  pub cuts : status ≡ POWER_LOST → Rose old.cuts new.cuts
  pub kept : old.cuts ≤ new.cuts
  pub arms : old.arms ≤ new.arms
  pub losses : old.losses ≤ new.losses
  pub size : new.size ≡ old.size
