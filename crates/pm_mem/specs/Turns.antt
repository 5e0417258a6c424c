-- Which call comes next, and what becomes of it by the plan, the room and an armed cut.
use Rattle.std.specs.Prelude.{ℕ, ◌+◌, ◌-◌, ◌^◌, Bool, ◌&&◌, ◌||◌, ◌==◌, nat_lt, nat_le, min, cond, List, [], ◌∷◌, Option, Some, None}
use Rattle.std.specs.List.{list_any}
use Rattle.pm_model.specs.declared.host.HostFault.{HostFault}
use Rattle.pm_model.specs.declared.host.HostFault.TheVariants as faults
use Rattle.pm_model.specs.Words.{Words}
use Rattle.pm_model.specs.Moments.{State, stepped}
use Rattle.pm_model.specs.declared.losses.Armed.{Armed}
use Rattle.pm_model.specs.Calls.{counted_down}
use Rattle.pm_mem.specs.Events.{after_pick}
use Rattle.pm_mem.specs.declared.turns.Turns.{Turns}
use Rattle.pm_mem.specs.declared.turns.Turn.{Turn}
use Rattle.pm_mem.specs.declared.turns.Turn.TheVariants.{Done, Failed, Cut}

-- The number of the next call. At the type's end the count stops.
abbrev pub call_number : Turns → ℕ
call_number t = min (t.calls + 1) (2 ^ 32 - 1)

-- The plan lists the call of that number. No plan lists the last number.
abbrev pub is_listed : List ℕ → ℕ → Bool
is_listed fails n = list_any (λ x. x == n) fails && nat_lt n (2 ^ 32 - 1)

-- The next call fails by the plan.
abbrev pub call_fails : Turns → Bool
call_fails t = is_listed t.plan.fails.items (call_number t)

abbrev pub after_call : Turns → Turns
after_call t = record t { calls = call_number t }

-- The next call, which prints so many bytes, fails by the plan or for lack of room.
abbrev pub say_fails : ℕ → Turns → Bool
say_fails count t = call_fails t || nat_lt t.room count

abbrev pub after_say : ℕ → Turns → Turns
after_say count t = cond (say_fails count t) (after_call t) (record (after_call t) { room = t.room - count })

-- The pick of the first entry that lists the step.
abbrev pub planned : List (ℕ × ℕ) → ℕ → Option ℕ
planned [] step = None
planned (cut ∷ cuts) step = cond (cut.0 == step) (Some cut.1) (planned cuts step)

-- The pick of an armed cut that falls on the next step.
abbrev pub armed_now : Option Armed → Option ℕ
armed_now None = None
armed_now (Some a) = cond (nat_le a.steps 1) (Some a.pick) None

abbrev pub first_of : Option ℕ → Option ℕ → Option ℕ
first_of None other = other
first_of (Some x) other = Some x

-- The pick of the cut that falls on the next step. The plan's cut comes before an armed one.
abbrev pub pick_due : Turns → Option ℕ
pick_due t = first_of (planned t.plan.cuts.items (t.steps + 1)) (armed_now t.armed)

abbrev pub cut_or_done : Option ℕ → Turn
cut_or_done None = Done
cut_or_done (Some pick) = Cut pick

-- What becomes of the next device step: it fails by the plan or for lack of room, or it is cut, or it is carried out.
abbrev pub turn_of : Turns → Turn
turn_of t = cond (call_fails t || t.steps == t.limit) Failed (cut_or_done (pick_due t))

-- A step that fails does not count as a step. After a cut nothing is armed.
abbrev pub after_step : Turn → Turns → Turns
after_step Failed t = after_call t
after_step Done t = record (after_call t) { steps = t.steps + 1; armed = counted_down t.armed }
after_step (Cut pick) t = record (after_call t) { steps = t.steps + 1; armed = None }

-- A device step applies f to the words, or power is lost in its place, or nothing happens.
abbrev pub after_turn : (Words → Words) → Turn → State → State
after_turn f Done s = stepped f s
after_turn f Failed s = s
after_turn f (Cut pick) s = after_pick pick s

-- The same before f is applied, if the step is to be carried out.
abbrev pub before_step : Turn → State → State
before_step Done s = s
before_step Failed s = s
before_step (Cut pick) s = after_pick pick s

-- The fault that a device step returns.
abbrev pub turn_fault : Turn → Option HostFault
turn_fault Done = None
turn_fault Failed = Some faults.Failed
turn_fault (Cut pick) = Some faults.Cut

-- The fault that any other call returns.
abbrev pub call_fault : Bool → Option HostFault
call_fault fails = cond fails (Some faults.Failed) None
