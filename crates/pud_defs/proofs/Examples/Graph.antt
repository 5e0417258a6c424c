-- Small pools as they are stored: the graphs that they are read as, and pools that have no graph.
use Rattle.std.proofs.Common.{◌≡◌, ℕ, ◌+◌, ◌^◌, ◌==◌, cond, true, false, List, [], ◌∷◌, Some, None, refl}
use Rattle.pud_defs.specs.declared.space.TheConstants.{FRAME_MAGIC, FRAME_MAGIC_WORD, FRAME_NUMBER_WORD, FRAME_ORDINAL_WORD, NEXT_SERIAL_WORD, ROOT_WORD}
use Rattle.pud_defs.specs.declared.objects.FieldValue.TheVariants.{Num, Ref}
use Rattle.pud_defs.specs.Formats.Image.{Image, image_with}
use Rattle.pud_defs.specs.Formats.TypeMap.{map_fields, is_pointer}
use Rattle.pud_defs.specs.Formats.Bases.{base_at}
use Rattle.pud_defs.specs.Formats.Geometry.{class_slot_at}
use Rattle.pud_defs.specs.Formats.Frames.{first_serial}
use Rattle.pud_defs.specs.PoolGraphs.Stored.{Stored}
use Rattle.pud_defs.specs.PoolGraphs.Graph.{Object, Graph, slot_address, graph_of, is_referenced, empty_graph}
use Rattle.pud_defs.specs.PoolGraphs.Holdings.{Sound, Wild, held_by, read_again}
use Rattle.pud_defs.proofs.Examples.Opened.{opened}

-- ---- small pools

-- type 1 has two fields; the second is a pointer
abbrev pub types : List (ℕ × ℕ)
types = (1, 8589934594) ∷ []

map_of_type_1 : (map_fields 8589934594 ≡ 2) × (is_pointer 8589934594 0 ≡ false) × (is_pointer 8589934594 1 ≡ true)
map_of_type_1 = (refl, refl, refl)

-- the words of the frame of a new puddle
abbrev pub fresh : (number ordinal : ℕ) → Image
fresh number ordinal = image_with FRAME_MAGIC_WORD FRAME_MAGIC (image_with FRAME_NUMBER_WORD number (image_with FRAME_ORDINAL_WORD ordinal (image_with NEXT_SERIAL_WORD (first_serial ordinal) (λ _. 0))))

-- the frame with an object of type 1 in this slot
abbrev pub with_slot : (slot serial value pointer : ℕ) → Image → Image
with_slot slot serial value pointer frame = image_with (class_slot_at 0 slot) serial (image_with (class_slot_at 0 slot + 1) 1 (image_with (class_slot_at 0 slot + 2) value (image_with (class_slot_at 0 slot + 3) pointer frame)))

-- a pool of one puddle, which has number 7 and lies in range 2
abbrev pub alone : Image → Stored
alone frame = record { puddles = record { number = 7; base = base_at 2; old_base = base_at 2; frontier = 63; class = 0 } ∷ []; word = λ o. frame }

-- the address of a slot of a puddle in a range
abbrev pub address_in_range : (range slot : ℕ) → ℕ
address_in_range range slot = slot_address (record { number = 0; base = base_at range; old_base = base_at range; frontier = 0; class = 0 }) slot

-- the address of a slot of the puddle in range 2
abbrev address : (slot : ℕ) → ℕ
address slot = address_in_range 2 slot

-- an object of type 1
abbrev pub object : (value serial : ℕ) → Object
object value serial = record { type_id = 1; class = 0; fields = Num value ∷ Ref serial ∷ [] }

-- ---- graphs

nothing_yet : graph_of types (alone (fresh 7 0)) ≡ Some empty_graph
unfolding opened
nothing_yet = refl

-- a pool of one object with this pointer, and with this next serial
abbrev one : (next pointer : ℕ) → Stored
one next pointer = alone (image_with NEXT_SERIAL_WORD next (with_slot 0 1 10 pointer (fresh 7 0)))

abbrev one_graph : (next serial : ℕ) → Graph
one_graph next serial = record { next_serial = next; root = 0; objects = (1, object 10 serial) ∷ [] }

one_object : graph_of types (one 2 0) ≡ Some (one_graph 2 0)
unfolding opened
one_object = refl

names_itself : graph_of types (one 2 (address 0)) ≡ Some (one_graph 2 1)
unfolding opened
names_itself = refl

-- two objects that name each other; the younger one is in the lower slot, and the root names it
abbrev ring : Stored
ring = alone (image_with NEXT_SERIAL_WORD 3 (image_with ROOT_WORD (address 3) (with_slot 3 2 20 (address 5) (with_slot 5 1 10 (address 3) (fresh 7 0)))))

abbrev ring_graph : Graph
ring_graph = record { next_serial = 3; root = 2; objects = (1, object 10 2) ∷ (2, object 20 1) ∷ [] }

ring_of_two : graph_of types ring ≡ Some ring_graph
unfolding opened
ring_of_two = refl

holders : (is_referenced 2 ring_graph ≡ true) × (is_referenced 1 ring_graph ≡ true) × (is_referenced 3 ring_graph ≡ false) × (is_referenced 1 (one_graph 2 0) ≡ false) × (is_referenced 1 (one_graph 2 1) ≡ true)
unfolding opened
holders = (refl, refl, refl, refl, refl)

-- ---- pools that have no graph, each for one reason

into_a_middle : graph_of types (one 2 (address 0 + 8)) ≡ None
unfolding opened
into_a_middle = refl

into_a_free_slot : graph_of types (one 2 (address 1)) ≡ None
unfolding opened
into_a_free_slot = refl

into_the_header : graph_of types (one 2 (base_at 2)) ≡ None
unfolding opened
into_the_header = refl

after_the_last_slot : graph_of types (one 2 (address 62)) ≡ None
unfolding opened
after_the_last_slot = refl

into_another_pool : graph_of types (one 2 (address_in_range 3 0)) ≡ None
unfolding opened
into_another_pool = refl

root_is_wild : graph_of types (alone (image_with ROOT_WORD (address 0) (fresh 7 0))) ≡ None
unfolding opened
root_is_wild = refl

serial_twice : graph_of types (alone (image_with NEXT_SERIAL_WORD 3 (with_slot 0 2 10 0 (with_slot 61 2 20 0 (fresh 7 0))))) ≡ None
unfolding opened
serial_twice = refl

serial_is_the_next : graph_of types (one 1 0) ≡ None
unfolding opened
serial_is_the_next = refl

next_serials : (graph_of types (one 0 0) ≡ None) × (graph_of types (one (2 ^ 63) 0) ≡ Some (one_graph (2 ^ 63) 0)) × (graph_of types (one (2 ^ 63 + 1) 0) ≡ None)
unfolding opened
next_serials = (refl, refl, refl)

headers_of_others : (graph_of types (alone (fresh 8 0)) ≡ None) × (graph_of types (alone (image_with NEXT_SERIAL_WORD 1 (fresh 7 1))) ≡ None) × (graph_of types (alone (image_with FRAME_MAGIC_WORD 0 (fresh 7 0))) ≡ None)
unfolding opened
headers_of_others = (refl, refl, refl)

-- ---- types that are defined later

type_not_defined : held_by [] (one 2 0) ≡ Wild (one 2 0)
unfolding opened
type_not_defined = refl

then_defined : read_again types (held_by [] (one 2 0)) ≡ Sound (one_graph 2 0)
unfolding opened
then_defined = refl

another_type_defined : read_again ((2, 8589934594) ∷ []) (held_by [] (one 2 0)) ≡ Wild (one 2 0)
unfolding opened
another_type_defined = refl

-- ---- a pool that moved

-- Two puddles that moved up by one range, so that the base of the first is the old base of the second. The first stores
-- object 1 in its slot 0 and object 2 in its slot 1. The second stores object 3 in its slot 0. The root and the
-- pointers of the objects 1, 2 and 3 are given.
abbrev pub moved : (frontier root first second third : ℕ) → Stored
moved frontier root first second third = record {
  puddles =
      record { number = 7; base = base_at 1; old_base = base_at 0; frontier = frontier; class = 0 }
      ∷ record { number = 8; base = base_at 2; old_base = base_at 1; frontier = 0; class = 0 } ∷ [];
  word = λ o. cond (o == 0) (image_with NEXT_SERIAL_WORD 4 (image_with ROOT_WORD root (with_slot 0 1 10 first (with_slot 1 2 20 second (fresh 7 0))))) (with_slot 0 3 30 third (fresh 8 1));
}

abbrev moved_graph : (root first second third : ℕ) → Graph
moved_graph root first second third = record { next_serial = 4; root = root; objects = (1, object 10 first) ∷ (2, object 20 second) ∷ (3, object 30 third) ∷ [] }

-- the address of slot 0: of the first puddle by its base, and of the second puddle by its old base
abbrev pub of_both : ℕ
of_both = address_in_range 1 0

-- no pointer is rewritten: all of them stand over the old bases
not_rewritten : graph_of types (moved 0 of_both of_both of_both of_both) ≡ Some (moved_graph 3 3 3 3)
unfolding opened
not_rewritten = refl

-- the root and the pointer of object 1 are rewritten, and the graph is the same
two_steps_rewritten : graph_of types (moved 2 (address_in_range 2 0) (address_in_range 2 0) of_both of_both) ≡ Some (moved_graph 3 3 3 3)
unfolding opened
two_steps_rewritten = refl

-- the same word names an object of the first puddle at a step below the frontier, and one of the second puddle at later
-- steps
frontier_decides : graph_of types (moved 2 of_both of_both of_both of_both) ≡ Some (moved_graph 1 1 3 3)
unfolding opened
frontier_decides = refl

-- an old address at a step below the frontier, and a new address at a later step
over_the_wrong_bases : (graph_of types (moved 2 (address_in_range 0 0) 0 0 0) ≡ None) × (graph_of types (moved 2 0 0 (address_in_range 2 0) 0) ≡ None)
unfolding opened
over_the_wrong_bases = (refl, refl)
