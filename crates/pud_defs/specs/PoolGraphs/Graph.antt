-- The graph of a pool: what its bytes stand for, by the defined types.
use Rattle.std.specs.Prelude.{ℕ, ◌+◌, ◌-◌, ◌*◌, ◌/◌, Bool, true, false, ◌&&◌, ◌||◌, nat_le, nat_lt, ◌==◌, cond, List, [], ◌∷◌, map, length, slice_get, Option, Some, None, option_map}
use Rattle.std.specs.Ordering.{nat_cmp}
use Rattle.std.specs.List.{list_all, list_any, range_with_len}
use Rattle.std.specs.Option.{option_or}
use Rattle.std.specs.FinMap.Entries.{find}
use Rattle.pud_defs.specs.declared.layout.TheConstants.{MAX_FIELDS}
use Rattle.pud_defs.specs.declared.space.TheConstants.{WORD_BYTES, SLOT_TYPE_WORD, SLOT_FIELDS_WORD, NEXT_SERIAL_WORD, ROOT_WORD, FRAME_MAGIC_WORD, FRAME_NUMBER_WORD, FRAME_ORDINAL_WORD}
use Rattle.pud_defs.specs.declared.records.Puddle.{Puddle}
use Rattle.pud_defs.specs.declared.objects.FieldValue.{FieldValue}
use Rattle.pud_defs.specs.declared.objects.FieldValue.TheVariants.{Num, Ref}
use Rattle.pud_defs.specs.Formats.TypeMap.{map_fields, is_pointer}
use Rattle.pud_defs.specs.Formats.Geometry.{class_slot_words, slots_of, slot_words_of, slot_at, ordinal_of, slot_of, places_among}
use Rattle.pud_defs.specs.RegistryTables.Types.{map_of}
use Rattle.pud_defs.specs.RegistryTables.Spaces.{all_below}
use Rattle.pud_defs.specs.RegistryTables.Keyed.{keyed, are_distinct, first_from}
use Rattle.pud_defs.specs.Formats.Identifiers.{is_number}
use Rattle.pud_defs.specs.Formats.Headers.{is_header}
use Rattle.pud_defs.specs.PoolGraphs.Stored.{Stored, places_of, class_at, place_word, place_serial, slot_state}

-- ---- what a stored word stands for

-- a number, a null pointer, a pointer to the slot at a place, or a pointer to no slot
pub data Content : Type 0 where
  Number : ℕ → Content
  Null : Content
  At : ℕ → Content
  Nowhere : Content

-- the address of a slot of a puddle
abbrev pub slot_address : Puddle → (slot : ℕ) → ℕ
slot_address puddle slot = puddle.base + WORD_BYTES * slot_at puddle slot

-- the slot of a puddle that has the address v
abbrev pub slot_in : Puddle → (v : ℕ) → Option ℕ
slot_in puddle v =
    let slot = (v - slot_address puddle 0) / (WORD_BYTES * slot_words_of puddle) in
    cond (nat_lt slot (slots_of puddle) && slot_address puddle slot == v) (Some slot) None

-- the place of the slot that has the address v, among these puddles, whose first place is `first`
unfoldable pub place_in : ℕ → List Puddle → ℕ → Option ℕ
place_in first [] v = None
place_in first (puddle ∷ puddles) v = let later = place_in (first + places_among 1) puddles v in option_or (option_map (λ slot. first + slot) (slot_in puddle v)) later

abbrev pub at_place : Option ℕ → Content
at_place None = Nowhere
at_place (Some p) = At p

-- what a pointer stands for, if it is read over the bases of these puddles
unfoldable pub target : List Puddle → ℕ → Content
target puddles v = cond (v == 0) Null (at_place (place_in 0 puddles v))

-- a puddle with its old base as its base
abbrev pub over_old : Puddle → Puddle
over_old p = record p { base = p.old_base }

-- the puddles as the pointers of a step are read: over their bases if the step is below the frontier, else over the old
-- bases
abbrev pub puddles_for : List Puddle → (frontier step : ℕ) → List Puddle
puddles_for puddles frontier step = cond (nat_lt step frontier) puddles (map over_old puddles)

-- the same, given the puddle that stores the pointer; without such a puddle there are none
abbrev pub puddles_by : List Puddle → Option Puddle → ℕ → List Puddle
puddles_by puddles None step = []
puddles_by puddles (Some p) step = puddles_for puddles p.frontier step

-- what a pointer at a step of the puddle of an ordinal stands for; step 0 is the header, and step s + 1 is slot s
abbrev pub pointee_at : List Puddle → (ordinal step v : ℕ) → Content
pointee_at puddles ordinal step v = target (puddles_by puddles (slice_get puddles ordinal) step) v

-- what a field of a slot stands for, given the slot's place, the map of its type and the field's word
abbrev pub content : List Puddle → (map place field v : ℕ) → Content
content puddles map place field v = cond (is_pointer map field) (pointee_at puddles (ordinal_of place) (slot_of place + 1) v) (Number v)

-- how many fields an object of a type has, at most 30: the word of a map that is not legal may count more than a slot
-- has room for
abbrev pub field_count : ℕ → ℕ
field_count m = cond (nat_le (map_fields m) MAX_FIELDS) (map_fields m) MAX_FIELDS

-- an object of a type with this map has room in a slot of a puddle of this class
abbrev pub fits_class : (class map : ℕ) → Bool
fits_class class m = nat_le (SLOT_FIELDS_WORD + field_count m) (class_slot_words class)

-- the map, if an object of its type has room there
abbrev pub fitting : (class : ℕ) → Option ℕ → Option ℕ
fitting class None = None
fitting class (Some m) = cond (fits_class class m) (Some m) None

-- the map of the type at a place, if the type is defined and an object of it has room there
abbrev pub place_map : List (ℕ × ℕ) → Stored → ℕ → Option ℕ
place_map types st p = fitting (class_at st p) (map_of (place_word st p SLOT_TYPE_WORD) types)

-- ---- the slots as a table

-- The serial, the class and the type id of each place. Also what the fields there stand for, if the type is defined and
-- an object of it has room there.
pub record Table : Type 0 where
  pub serial : ℕ → ℕ
  pub class : ℕ → ℕ
  pub type_id : ℕ → ℕ
  pub contents : ℕ → Option (List Content)

-- what the fields at a place stand for, given the map of the type
abbrev pub slot_contents : Stored → ℕ → Option ℕ → Option (List Content)
slot_contents st p None = None
slot_contents st p (Some m) = Some (map (λ f. content st.puddles m p f (place_word st p (SLOT_FIELDS_WORD + f))) (range_with_len 0 (field_count m)))

abbrev pub table_of : List (ℕ × ℕ) → Stored → Table
table_of types st = record {
  serial = λ p. place_serial st p;
  class = λ p. class_at st p;
  type_id = λ p. place_word st p SLOT_TYPE_WORD;
  contents = λ p. slot_contents st p (place_map types st p);
}

-- what a place has, under its serial, if the place is live
abbrev pub under_serial : {A : Type 0} → (ℕ → ℕ) → (ℕ → A) → ℕ → Option (ℕ × A)
under_serial serial value p = cond (slot_state (serial p)).is_live (Some (serial p, value p)) None

-- the live places, each under its serial
abbrev pub serial_and_place : Table → ℕ → Option (ℕ × ℕ)
serial_and_place t = under_serial t.serial (λ p. p)

-- the lowest of the first n places that has this serial
abbrev pub place_of_serial : ℕ → Table → ℕ → Option ℕ
place_of_serial s t n = first_from nat_cmp s (serial_and_place t) 0 n

-- ---- objects and graphs

-- the type of an object, the class of the puddle in which it lives, and its fields
pub record Object : Type 0 where
  pub type_id : ℕ
  pub class : ℕ
  pub fields : List FieldValue

-- the next serial, the serial of the root, which is 0 if there is none, and the objects by ascending serials
pub record Graph : Type 0 where
  pub next_serial : ℕ
  pub root : ℕ
  pub objects : List (ℕ × Object)

-- the serial that a pointer names; 0 if it names none
abbrev pub named_by : (ℕ → ℕ) → Content → ℕ
named_by serial (Number v) = 0
named_by serial Null = 0
named_by serial (At p) = serial p
named_by serial Nowhere = 0

abbrev pub value_of : (ℕ → ℕ) → Content → FieldValue
value_of serial (Number v) = Num v
value_of serial Null = Ref 0
value_of serial (At p) = Ref (serial p)
value_of serial Nowhere = Ref 0

abbrev pub contents_or_none : Option (List Content) → List Content
contents_or_none None = []
contents_or_none (Some contents) = contents

-- the object at a place
abbrev pub object_at : Table → ℕ → Object
object_at t p = record { type_id = t.type_id p; class = t.class p; fields = map (value_of t.serial) (contents_or_none (t.contents p)) }

-- the live objects, each under its serial
abbrev pub live : Table → ℕ → Option (ℕ × Object)
live t = under_serial t.serial (object_at t)

abbrev pub graph_by : (next : ℕ) → Content → Table → ℕ → Graph
graph_by next top t n = record { next_serial = next; root = named_by t.serial top; objects = keyed nat_cmp (live t) 0 n }

-- ---- when there is one

-- the content is a number, null, or a pointer to a live slot
abbrev pub stands : (ℕ → ℕ) → Content → Bool
stands serial (Number v) = true
stands serial Null = true
stands serial (At p) = (slot_state (serial p)).is_live
stands serial Nowhere = false

-- the type is defined, and each field stands for something
abbrev pub all_stand : (ℕ → ℕ) → Option (List Content) → Bool
all_stand serial None = false
all_stand serial (Some contents) = list_all (stands serial) contents

-- the place is free; or its serial is below the next one, its type is defined, and each of its fields stands for
-- something
abbrev pub is_sound_place : (next : ℕ) → Table → ℕ → Bool
is_sound_place next t p = (slot_state (t.serial p)).is_free || (nat_lt (t.serial p) next && all_stand t.serial (t.contents p))

-- the next serial is from 1 to 2^63
abbrev pub is_next_serial : ℕ → Bool
is_next_serial v = is_number v

-- the slots at the first n places are a graph, with this next serial and this root
unfoldable pub is_graph : (next : ℕ) → Content → Table → ℕ → Bool
is_graph next top t n = is_next_serial next && stands t.serial top && are_distinct nat_cmp (serial_and_place t) 0 n && all_below n (is_sound_place next t)

-- the frame of an ordinal, which has these words, has the header of its puddle
abbrev pub has_header : (ordinal : ℕ) → (ℕ → ℕ) → Option Puddle → Bool
has_header ordinal word None = false
has_header ordinal word (Some p) = is_header p.number ordinal (word FRAME_MAGIC_WORD) (word FRAME_NUMBER_WORD) (word FRAME_ORDINAL_WORD)

-- each frame has the header of its puddle
unfoldable pub headers_fit : Stored → Bool
headers_fit st = all_below (length st.puddles) (λ o. has_header o (st.word o) (slice_get st.puddles o))

abbrev pub next_serial_of : Stored → ℕ
next_serial_of st = st.word 0 NEXT_SERIAL_WORD

-- what the root pointer stands for
abbrev pub root_of : Stored → Content
root_of st = pointee_at st.puddles 0 0 (st.word 0 ROOT_WORD)

abbrev pub has_graph : List (ℕ × ℕ) → Stored → Bool
has_graph types st = headers_fit st && is_graph (next_serial_of st) (root_of st) (table_of types st) (places_of st)

abbrev pub graph_stored : List (ℕ × ℕ) → Stored → Graph
graph_stored types st = graph_by (next_serial_of st) (root_of st) (table_of types st) (places_of st)

-- the graph of what is stored, if it has one
unfoldable pub graph_of : List (ℕ × ℕ) → Stored → Option Graph
graph_of types st = cond (has_graph types st) (Some (graph_stored types st)) None

-- ---- objects of a graph and what references them

-- the object of a serial
abbrev pub object_in : ℕ → Graph → Option Object
object_in s g = find nat_cmp s g.objects

-- the value is a pointer to the object of this serial
abbrev pub names_serial : ℕ → FieldValue → Bool
names_serial s (Num v) = false
names_serial s (Ref r) = r == s

-- the object of the serial is referenced: the root or a field of an object names it
unfoldable pub is_referenced : ℕ → Graph → Bool
is_referenced s g = g.root == s || list_any (λ e. list_any (names_serial s) e.1.fields) g.objects

-- the graph of a pool in which nothing has been made yet
abbrev pub empty_graph : Graph
empty_graph = record { next_serial = 1; root = 0; objects = [] }
