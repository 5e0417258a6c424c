-- What a device in memory tells, and how a call changes that.
use Rattle.std.specs.Prelude.{◌≡◌, ℕ, ◌+◌, Bool, vec_len, vec_capacity}
use Rattle.pm_model.specs.Moments.{State}
use Rattle.pm_mem.specs.declared.device.Device.{Device}
use Rattle.pm_mem.specs.Events.{told_events}

abbrev pub device_state : Device → State
device_state d = told_events d.initial.items d.events.items

-- The device tells that state, with so many more events and so many more printed bytes. The reserved room does not
-- change.
pub record GoesTo (state : State) (moved : Bool) (moments replies : ℕ) (old new : Device) : Type 0 where
  pub told : device_state new ≡ state
  pub moved_is : new.moved ≡ moved
  pub words : new.words ≡ old.words
  pub events : vec_len new.events ≡ vec_len old.events + moments
  pub said : vec_len new.said ≡ vec_len old.said + replies
  pub moment_room : vec_capacity new.events ≡ vec_capacity old.events
  pub reply_room : vec_capacity new.said ≡ vec_capacity old.said
