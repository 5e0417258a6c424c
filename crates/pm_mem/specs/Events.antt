-- What is told about the moments so far, from the words at the start and the events since.
use Rattle.std.specs.Prelude.{ℕ, ◌==◌, cond, List, [], ◌∷◌, None, slice_index}
use Rattle.pm_model.specs.Picking.{keeps_newest}
use Rattle.pm_model.specs.Words.{durable, single, Words, Image, after_store, after_flush, after_fence, after_loss}
use Rattle.pm_model.specs.Moments.{Moment, State, stepped, one_said}
use Rattle.pm_mem.specs.declared.event.Event.{Event}
use Rattle.pm_mem.specs.declared.event.Event.TheVariants.{Store, Flush, Fence, Lost, Said, Blank}

-- What a power loss with that pick leaves: of each word the newest value or the durable one.
abbrev pub image_picked : ℕ → Words → Image
image_picked pick words k = cond (keeps_newest pick k) (words k).newest (durable (words k))

-- Each word has its value at the start and no other.
abbrev pub words_of_list : List ℕ → Words
words_of_list initial k = single (slice_index initial k)

abbrev pub no_change : Words → Words
no_change words = words

-- Power is lost with that pick.
abbrev pub after_pick : ℕ → State → State
after_pick pick s = stepped (after_loss (image_picked pick s.now.words)) s

abbrev pub after_event : Event → State → State
after_event (Store w v) s = stepped (after_store w v) s
after_event (Flush line) s = stepped (after_flush line) s
after_event Fence s = stepped after_fence s
after_event (Lost pick) s = after_pick pick s
after_event (Said byte) s = one_said byte s
after_event Blank s = stepped no_change s

unfoldable pub after_events : List Event → State → State
after_events [] s = s
after_events (event ∷ events) s = after_events events (after_event event s)

-- Nothing was printed, and there is nothing to read and no file.
abbrev pub start : List ℕ → State
start initial = record { now = record { said = []; words = words_of_list initial }; past = []; script = []; shelf = λ name. None }

-- All words are zero and durable, nothing happened yet, and there is this to read.
abbrev pub fresh_state : List ℕ → State
fresh_state script = record { now = record { said = []; words = λ k. single 0 }; past = []; script = script; shelf = λ name. None }

unfoldable pub told_events : List ℕ → List Event → State
told_events initial events = after_events events (start initial)

-- The event, or one that changes nothing if the event is a store to word w.
abbrev pub blanked : ℕ → Event → Event
blanked w (Store word v) = cond (word == w) Blank (Store word v)
blanked w (Flush line) = Flush line
blanked w Fence = Fence
blanked w (Lost pick) = Lost pick
blanked w (Said byte) = Said byte
blanked w Blank = Blank

abbrev pub with_value : ℕ → ℕ → Words → Words
with_value w v words k = cond (k == w) (single v) (words k)

abbrev pub moment_with_value : ℕ → ℕ → Moment → Moment
moment_with_value w v m = record m { words = with_value w v m.words }

abbrev pub moments_with_value : ℕ → ℕ → List Moment → List Moment
moments_with_value w v [] = []
moments_with_value w v (m ∷ ms) = moment_with_value w v m ∷ moments_with_value w v ms

-- The state as if word w had had that value at each moment, and no other.
abbrev pub always : ℕ → ℕ → State → State
always w v s = record s { now = moment_with_value w v s.now; past = moments_with_value w v s.past }
