-- Lemmas on what is told after one more event.
use Rattle.std.proofs.Common.{◌≡◌, ℕ, List, [], ◌∷◌, ◌++◌, refl, ap, ◌∙◌}
use Rattle.pm_model.specs.Moments.{State, one_said, all_said}
use Rattle.pm_mem.specs.declared.event.Event.{Event}
use Rattle.pm_mem.specs.Events.{after_event, after_events, start, told_events}

pub after_events-push : (events : List Event) (event : Event) (s : State) → after_events (events ++ event ∷ []) s ≡ after_event event (after_events events s)
unfolding after_events
after_events-push [] event s = refl
after_events-push (e ∷ events) event s = after_events-push events event (after_event e s)

pub told_events-push : (initial : List ℕ) (events : List Event) (event : Event) → told_events initial (events ++ event ∷ []) ≡ after_event event (told_events initial events)
unfolding told_events
told_events-push initial events event = after_events-push events event (start initial)

pub told_after : (initial : List ℕ) (events new : List Event) (event : Event) → new ≡ events ++ event ∷ [] → told_events initial new ≡ after_event event (told_events initial events)
told_after initial events new event is = ap (told_events initial) is ∙ told_events-push initial events event

-- With no event yet, the start is told.
pub told_events-none : (initial : List ℕ) → told_events initial [] ≡ start initial
unfolding told_events after_events
told_events-none initial = refl

pub all_said-push : (bytes : List ℕ) (byte : ℕ) (s : State) → all_said (bytes ++ byte ∷ []) s ≡ one_said byte (all_said bytes s)
all_said-push [] byte s = refl
all_said-push (b ∷ bytes) byte s = all_said-push bytes byte (one_said b s)
