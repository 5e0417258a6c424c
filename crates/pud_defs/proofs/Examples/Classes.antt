-- Puddles of two classes: what they store, what is made in them, and when a pool grows by one.
use Rattle.std.proofs.Common.{◌≡◌, ℕ, ◌+◌, ◌*◌, ◌^◌, ◌==◌, cond, true, false, List, [], ◌∷◌, ◌++◌, map, replicate, Some, None, refl}
use Rattle.std.specs.List.{range_with_len}
use Rattle.pud_defs.specs.declared.space.TheConstants.{NEXT_SERIAL_WORD}
use Rattle.pud_defs.specs.declared.objects.FieldValue.TheVariants.{Num, Ref}
use Rattle.pud_defs.specs.declared.records.Puddle.{Puddle}
use Rattle.pud_defs.specs.Formats.Image.{Image, image_with}
use Rattle.pud_defs.specs.Formats.Bases.{base_at}
use Rattle.pud_defs.specs.Formats.Geometry.{class_slots, class_slot_words, class_slot_at}
use Rattle.pud_defs.specs.RegistryTables.Spaces.{owner}
use Rattle.pud_defs.specs.RegistryTables.Puddles.{puddle_record_at, frontier_with_class, frontier_part, class_part}
use Rattle.pud_defs.specs.PoolGraphs.Stored.{Stored}
use Rattle.pud_defs.specs.PoolGraphs.Graph.{Object, Graph, slot_address, place_in, graph_of}
use Rattle.pud_defs.specs.PoolGraphs.Holdings.Holding.{Sound}
use Rattle.pud_defs.specs.RegistryTables.Registry.{is_sound}
use Rattle.pud_defs.specs.StateMachine.World.{World, nothing_open, blank_world}
use Rattle.pud_defs.specs.StateMachine.Step.{grows, lacks_room}
use Rattle.pud_defs.proofs.Examples.Image.{blank}
use Rattle.pud_defs.proofs.Examples.Tables.{pool_there, puddle_there}
use Rattle.pud_defs.proofs.Examples.Graph.{types, fresh}
use Rattle.pud_defs.proofs.Examples.Opened.{opened}
use Rattle.pud_defs.proofs.Examples.Transactions.{name_of}

-- the slots of each class end where the frame does
sizes : (class_slots 0 ≡ 62) × (class_slots 1 ≡ 248) × (class_slot_words 0 ≡ 32) × (class_slot_words 1 ≡ 8) × (class_slot_at 0 61 + 31 ≡ 2047) × (class_slot_at 1 247 + 7 ≡ 2047)
unfolding class_slots class_slot_words class_slot_at
sizes = (refl, refl, refl, refl, refl, refl)

last_word_of_a_record : (frontier_with_class 249 1 ≡ 4294967545) × (frontier_part 4294967545 ≡ 249) × (class_part 4294967545 ≡ 1) × (frontier_part 63 ≡ 63) × (class_part 63 ≡ 0)
last_word_of_a_record = (refl, refl, refl, refl, refl)

-- ---- a pool of a large puddle and a small one

abbrev puddle : (number base old_base frontier class : ℕ) → Puddle
puddle number base old_base frontier class = record { number = number; base = base_at base; old_base = base_at old_base; frontier = frontier; class = class }

abbrev large : Puddle
large = puddle 7 2 2 63 0

abbrev small : Puddle
small = puddle 8 1 1 249 1

-- slot 3 of the large puddle and slot 247 of the small one are found by their addresses; an address within a slot is none
places : (place_in 0 (large ∷ small ∷ []) (slot_address large 3) ≡ Some 3) × (place_in 0 (large ∷ small ∷ []) (slot_address small 247) ≡ Some 495)
    × (place_in 0 (large ∷ small ∷ []) (slot_address small 247 + 64) ≡ None) × (place_in 0 (large ∷ small ∷ []) (slot_address large 3 + 64) ≡ None)
unfolding opened
places = (refl, refl, refl, refl)

-- the frame of a puddle of a class, with an object of type 1 in a slot
abbrev with_object : (class slot serial value pointer : ℕ) → Image → Image
with_object class slot serial value pointer frame =
    image_with (class_slot_at class slot) serial (image_with (class_slot_at class slot + 1) 1 (image_with (class_slot_at class slot + 2) value (image_with (class_slot_at class slot + 3) pointer frame)))

-- object 1 is in slot 3 of the first puddle, which is large, and object 2 in slot 247 of the second, which is small; each
-- stores this pointer
abbrev mixed : List Puddle → (first second : ℕ) → Stored
mixed puddles first second = record {
  puddles = puddles;
  word = λ o. cond (o == 0) (image_with NEXT_SERIAL_WORD 3 (with_object 0 3 1 10 first (fresh 7 0))) (with_object 1 247 2 20 second (fresh 8 1));
}

abbrev object : (class value serial : ℕ) → Object
object class value serial = record { type_id = 1; class = class; fields = Num value ∷ Ref serial ∷ [] }

-- the two objects name each other
abbrev both : Graph
both = record { next_serial = 3; root = 0; objects = (1, object 0 10 2) ∷ (2, object 1 20 1) ∷ [] }

of_both_classes : graph_of types (mixed (large ∷ small ∷ []) (slot_address small 247) (slot_address large 3)) ≡ Some both
unfolding opened
of_both_classes = refl

-- The pool is moved, and the large puddle is rewritten up to slot 2. So the pointer in its slot 3 still stands over the old
-- bases, and that of the small puddle, which is finished, over the new ones.
half_rewritten : graph_of types (mixed (puddle 7 3 2 4 0 ∷ puddle 8 4 1 249 1 ∷ []) (slot_address small 247) (slot_address (puddle 7 3 2 4 0) 3)) ≡ Some both
unfolding opened
half_rewritten = refl

-- if the frontier passes slot 3 and the pointer does not change, it names nothing
rewritten_too_far : graph_of types (mixed (puddle 7 3 2 5 0 ∷ puddle 8 4 1 249 1 ∷ []) (slot_address small 247) (slot_address (puddle 7 3 2 5 0) 3)) ≡ None
unfolding opened
rewritten_too_far = refl

-- an object of seven fields has room in the large puddle alone
abbrev seven : List (ℕ × ℕ)
seven = (1, 7 * 2 ^ 32) ∷ []

abbrev alone_in : Puddle → (class : ℕ) → Stored
alone_in d class = record { puddles = d ∷ []; word = λ o. image_with NEXT_SERIAL_WORD 2 (with_object class 0 1 10 0 (fresh d.number 0)) }

room_for_seven : (graph_of seven (alone_in large 0) ≡ Some (record { next_serial = 2; root = 0; objects = (1, record { type_id = 1; class = 0; fields = Num 10 ∷ replicate 6 (Num 0) }) ∷ [] }))
    × (graph_of seven (alone_in small 1) ≡ None)
unfolding opened
room_for_seven = (refl, refl)

-- ---- which classes are sound

-- the pool `a` with one puddle, whose record has this last word
abbrev with_last_word : (word : ℕ) → Image → Image
with_last_word word image = image_with (puddle_record_at 0 + 4) word (pool_there 0 97 384 1 (puddle_there 0 0 0 2 (base_at 0) (base_at 0) 63 (image_with 4 3 image)))

of_the_present_version : (is_sound 42528 (with_last_word (frontier_with_class 63 0) blank) ≡ true) × (is_sound 42528 (with_last_word (frontier_with_class 64 0) blank) ≡ false)
    × (is_sound 42528 (with_last_word (frontier_with_class 249 1) blank) ≡ true) × (is_sound 42528 (with_last_word (frontier_with_class 250 1) blank) ≡ false)
    × (is_sound 42528 (with_last_word (frontier_with_class 0 2) blank) ≡ false)
unfolding opened
of_the_present_version = (refl, refl, refl, refl, refl)

of_the_first_version : (is_sound 42528 (with_last_word 63 (image_with 1 1 blank)) ≡ true) × (is_sound 42528 (with_last_word (frontier_with_class 63 1) (image_with 1 1 blank)) ≡ false)
unfolding opened
of_the_first_version = (refl, refl)

-- ---- room by class

-- a transaction is open on the pool `a`, which has puddles of these classes and this graph
abbrev world : (classes : List ℕ) → Graph → World
world classes g = record {
  stored = record (blank_world 4 7) { next_number = 3; types = types; pools = (name_of 97, record { owner = owner 5 5; mode = 384; number = 1; classes = classes; holding = Sound g }) ∷ [] };
  clients = λ _. Some (owner 5 5);
  shelf = λ _. None;
  transactions = nothing_open;
}

-- a graph of so many objects that live in small puddles
abbrev small_objects : (count : ℕ) → Graph
small_objects count = record { next_serial = count + 1; root = 0; objects = map (λ s. (s, object 1 0 0)) (range_with_len 1 count) }

-- if all small slots are live, the pool grows by a small puddle, and the large puddle has room
grows_by_class : (grows (world (1 ∷ 0 ∷ []) (small_objects 247)) (name_of 97) 1 ≡ false) × (grows (world (1 ∷ 0 ∷ []) (small_objects 248)) (name_of 97) 1 ≡ true) × (grows (world (1 ∷ 0 ∷ []) (small_objects 248)) (name_of 97) 0 ≡ false)
unfolding opened
grows_by_class = (refl, refl, refl)

-- a pool of 16 puddles has no room for one more small object, and has room for a large one
full_by_class : (lacks_room (world (replicate 15 0 ++ 1 ∷ []) (small_objects 248)) (name_of 97) 1 ≡ true) × (lacks_room (world (replicate 15 0 ++ 1 ∷ []) (small_objects 248)) (name_of 97) 0 ≡ false)
unfolding opened
full_by_class = (refl, refl)
