-- The words that store a graph, and how they change.
use Rattle.std.specs.Prelude.{◌≡◌, ℕ, ◌+◌, ◌%◌, ◌<◌, ◌≤◌, true, ◌&&◌, ◌==◌, cond, List, map, slice_get, Some}
use Rattle.pud_defs.specs.declared.space.TheConstants.{RANGE_BYTES, SLOT_SERIAL_WORD, SLOT_TYPE_WORD, SLOT_FIELDS_WORD, NEXT_SERIAL_WORD, ROOT_WORD}
use Rattle.pud_defs.specs.declared.records.Puddle.{Puddle}
use Rattle.pud_defs.specs.Formats.TypeMap.{is_pointer}
use Rattle.pud_defs.specs.Formats.Geometry.{slots_of, ordinal_of, slot_of}
use Rattle.pud_defs.specs.RegistryTables.Types.{map_of}
use Rattle.pud_defs.specs.PoolGraphs.Stored.{Stored, places_of, class_at, is_slot, place_word, place_begins, place_words, IsFreePlace}
use Rattle.pud_defs.specs.PoolGraphs.Graph.{Graph, graph_of, slot_address, field_count, fits_class, place_map, table_of, place_of_serial, next_serial_of}

-- ---- words

-- The words, with word k of the frame of ordinal o changed to v.
abbrev pub with_word : (o k v : ℕ) → (ℕ → ℕ → ℕ) → ℕ → ℕ → ℕ
with_word o k v word other at = cond (other == o && at == k) v (word other at)

-- The same puddles with these words.
abbrev pub with_words : (ℕ → ℕ → ℕ) → Stored → Stored
with_words word st = record { puddles = st.puddles; word = word }

-- What is stored, with word k of the frame of ordinal o changed to v.
abbrev pub with_frame_word : (o k v : ℕ) → Stored → Stored
with_frame_word o k v st = with_words (with_word o k v st.word) st

-- What is stored, with word j of the slot at place p changed to v.
abbrev pub with_slot_word : (p j v : ℕ) → Stored → Stored
with_slot_word p j v st = with_words (with_word (ordinal_of p) (place_begins st p + j) v st.word) st

-- The same with the slot's serial changed.
abbrev pub with_serial_word : (p v : ℕ) → Stored → Stored
with_serial_word p v st = with_slot_word p SLOT_SERIAL_WORD v st

-- What is stored, with the word of field f of the slot at place p changed to v.
abbrev pub with_field_word : (p f v : ℕ) → Stored → Stored
with_field_word p f v st = with_words (with_word (ordinal_of p) (place_begins st p + SLOT_FIELDS_WORD + f) v st.word) st

-- What is stored, with the root pointer changed to v.
abbrev pub with_root_word : ℕ → Stored → Stored
with_root_word v st = with_words (with_word 0 ROOT_WORD v st.word) st

-- Bases as a pool has them: no two of the pool's ranges overlap.
pub record AreBases (bases : List ℕ) : Type 0 where
  pub multiples : (i base : ℕ) → slice_get bases i ≡ Some base → base % RANGE_BYTES ≡ 0
  pub distinct : (i j base : ℕ) → slice_get bases i ≡ Some base → slice_get bases j ≡ Some base → i ≡ j

-- The value is the address of the slot at place q over the pool's bases. The pointer at this step of the ordinal's
-- puddle is read over these bases.
pub record IsAddress (puddles : List Puddle) (ordinal step q v : ℕ) : Type 0 where
  pub bases : AreBases (map (λ d. d.base) puddles)
  pub home : Puddle
  pub here : slice_get puddles ordinal ≡ Some home
  pub rewritten : step < home.frontier
  pub away : Puddle
  pub there : slice_get puddles (ordinal_of q) ≡ Some away
  pub slot : slot_of q < slots_of away
  pub address : v ≡ slot_address away (slot_of q)

-- ---- where words are stored

-- The object of serial s stands at place p.
abbrev pub StandsAt : List (ℕ × ℕ) → Stored → (s p : ℕ) → Type 0
StandsAt types st s p = place_of_serial s (table_of types st) (places_of st) ≡ Some p

-- The object of serial s stands at place p. Its type has map m, and it has a field f.
pub record IsField (types : List (ℕ × ℕ)) (st : Stored) (s p m f : ℕ) : Type 0 where
  pub place : place_of_serial s (table_of types st) (places_of st) ≡ Some p
  pub defined : place_map types st p ≡ Some m
  pub below : f < field_count m

-- The promise holds if g is the graph, and field f of the object of serial s at place p is a pointer by the type's map m.
abbrev pub IfPointerField : List (ℕ × ℕ) → Stored → Graph → (s p m f : ℕ) → (Promise : Type 0) → Type 0
IfPointerField types st g s p m f Promise = graph_of types st ≡ Some g → IsField types st s p m f → is_pointer m f ≡ true → Promise

-- With these words, a free slot has a new object under the next serial. Each field of the object is 0, and the next
-- serial is one more. No other word changes.
pub record IsMade (types : List (ℕ × ℕ)) (st : Stored) (word : ℕ → ℕ → ℕ) (p type_id m : ℕ) : Type 0 where
  pub within : p < places_of st
  pub slot : is_slot st p ≡ true
  pub free : IsFreePlace st p
  pub serial_word : place_word (with_words word st) p SLOT_SERIAL_WORD ≡ next_serial_of st
  pub type_word : place_word (with_words word st) p SLOT_TYPE_WORD ≡ type_id
  pub defined : map_of type_id types ≡ Some m
  pub room : fits_class (class_at st p) m ≡ true
  pub fields : (f : ℕ) → f < field_count m → place_word (with_words word st) p (SLOT_FIELDS_WORD + f) ≡ 0
  pub next_word : word 0 NEXT_SERIAL_WORD ≡ next_serial_of st + 1
  pub others : (o k : ℕ) → (o ≡ ordinal_of p → place_begins st p ≤ k → k < place_begins st p + place_words st p → ⊥) → (o ≡ 0 → k ≡ NEXT_SERIAL_WORD → ⊥) → word o k ≡ st.word o k
