-- What every host tells: its size in words, its counts of faults and cuts, and what was armed and lost.
use Rattle.std.specs.Prelude.{ℕ, ◌+◌, ◌-◌, ◌^◌, ◌≤◌, Option, Some, None, Result, Ok, Err, cond, nat_lt}
use Rattle.pm_model.specs.declared.host.HostFault.{HostFault}
use Rattle.pm_model.specs.declared.host.HostFault.TheVariants.{Failed, Cut}
use Rattle.pm_model.specs.declared.host.FileFault.{FileFault}
use Rattle.pm_model.specs.declared.tally.Tally.{Tally}
use Rattle.pm_model.specs.declared.host.FileFault.TheVariants as file_faults

pub record Counts : Type 0 where
  pub size : ℕ
  pub faults : ℕ
  pub cuts : ℕ
  pub arms : ℕ
  pub arm_steps : ℕ
  pub arm_pick : ℕ
  pub losses : ℕ
  pub loss_pick : ℕ

-- One more. A count that reached 2^64 - 1 stays there.
abbrev pub risen : ℕ → ℕ
risen n = cond (nat_lt n (2 ^ 64 - 1)) (n + 1) n

-- The count rose, or it had reached 2^64 - 1.
abbrev pub Rose : ℕ → ℕ → Type 0
Rose before now = risen before ≤ now

-- The counts of a host, by its size and the tally that it keeps.
abbrev pub counts_of : ℕ → Tally → Counts
counts_of size t = record { size = size; faults = t.faults; cuts = t.cuts; arms = t.arms; arm_steps = t.arm_steps; arm_pick = t.arm_pick; losses = t.losses; loss_pick = t.loss_pick }

-- The counts of a host that has counted nothing yet.
abbrev pub fresh_counts : ℕ → Counts
fresh_counts size = record { size = size; faults = 0; cuts = 0; arms = 0; arm_steps = 0; arm_pick = 0; losses = 0; loss_pick = 0 }

abbrev pub after_fault : Option HostFault → Counts → Counts
after_fault None c = c
after_fault (Some Failed) c = record c { faults = risen c.faults }
after_fault (Some Cut) c = record c { cuts = risen c.cuts }

abbrev pub after_arm : ℕ → ℕ → Counts → Counts
after_arm steps pick c = record c { arms = risen c.arms; arm_steps = steps; arm_pick = pick }

abbrev pub after_loss_of : ℕ → Counts → Counts
after_loss_of pick c = record c { losses = risen c.losses; loss_pick = pick }

-- The host's fault that a call returned, if there is one.
abbrev pub fault_of : {T : Type 0} → Result T HostFault → Option HostFault
fault_of (Ok x) = None
fault_of (Err fault) = Some fault

-- The same for a call on files. Failed allocation is no fault of the host.
abbrev pub file_fault_of : {T : Type 0} → Result T FileFault → Option HostFault
file_fault_of (Ok x) = None
file_fault_of (Err file_faults.Memory) = None
file_fault_of (Err (file_faults.Host fault)) = Some fault
