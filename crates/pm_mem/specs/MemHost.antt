-- What a host in memory tells.
use Rattle.std.specs.Prelude.{◌≡◌, ℕ, ◌+◌, ◌-◌, ◌*◌, ◌≤◌, Bool, cond, List, [], ◌∷◌, drop, Option, Some, None, Result, Ok, Err, vec_len, vec_capacity}
use Rattle.pm_model.specs.declared.host.HostFault.{HostFault}
use Rattle.pm_model.specs.declared.host.HostFault.TheVariants as faults
use Rattle.pm_model.specs.Moments.{State, Shelf}
use Rattle.pm_model.specs.Counts.{Counts, counts_of}
use Rattle.pm_model.specs.declared.losses.Armed.{Armed}
use Rattle.pm_mem.specs.declared.turns.Turns.{Turns}
use Rattle.pm_mem.specs.declared.watch.Watch.{Watch}
use Rattle.pm_mem.specs.declared.mem_host.MemHost.{MemHost}
use Rattle.pm_mem.specs.Device.{device_state}
use Rattle.pm_mem.specs.Shelves.{shelf_of}

-- The same moments, with this to read and these files.
abbrev pub told : State → List ℕ → Shelf → State
told s script shelf = record s { script = script; shelf = shelf }

-- The host tells everything.
abbrev pub mem_tells : Type 0
mem_tells = Unit {0}

abbrev pub mem_state : MemHost → State
mem_state m = told (device_state m.device) (drop m.taken m.script.items) (shelf_of m.shelf)

abbrev pub mem_counts : MemHost → Counts
mem_counts m = counts_of m.device.words m.tally

-- The plan, the calls and device steps so far, the room, and what is armed.
abbrev pub mem_turns : MemHost → Turns
mem_turns m = m.turns

abbrev pub mem_armed : MemHost → Option Armed
mem_armed m = m.turns.armed

-- The watched word and the count of its loads.
abbrev pub mem_watch : MemHost → Watch
mem_watch m = m.watch

-- The result of a call that fails by the plan, or else gives this value.
abbrev pub call_result : {T : Type 0} → Bool → T → Result T HostFault
call_result fails value = cond fails (Err faults.Failed) (Ok value)

-- The next byte to read.
abbrev pub next_byte : List ℕ → Option ℕ
next_byte [] = None
next_byte (byte ∷ bytes) = Some byte

-- The bytes to read after it.
abbrev pub after_byte : List ℕ → List ℕ
after_byte [] = []
after_byte (byte ∷ bytes) = bytes

-- There is room for one more step, which was counted, and for the rest.
pub record HasStepRoom (m : MemHost) : Type 0 where
  pub moments : vec_len m.device.events + 2 * (m.turns.limit - m.turns.steps) + 2 + m.turns.room ≤ vec_capacity m.device.events

-- Only what the host tells about moments, about bytes to read and about files may differ.
pub record KeepsCounts (old new : MemHost) : Type 0 where
  pub counts : mem_counts new ≡ mem_counts old
  pub turns : mem_turns new ≡ mem_turns old
  pub watch : mem_watch new ≡ mem_watch old
