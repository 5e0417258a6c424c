-- Steps of rewriting: the pointers at the frontier of a puddle are stored over the pool's bases, and then the frontier
-- is past them.
use Rattle.std.specs.Prelude.{◌≡◌, ℕ, ◌+◌, ◌<◌, ◌≤◌, Bool, true, ◌&&◌, nat_le, nat_lt, ◌==◌, cond, List, map, set, slice_get, Option, Some, None, option_map}
use Rattle.pud_defs.specs.declared.space.TheConstants.{FRAME_HEADER_WORDS, ROOT_WORD, SLOT_TYPE_WORD, SLOT_FIELDS_WORD}
use Rattle.pud_defs.specs.declared.records.Puddle.{Puddle}
use Rattle.pud_defs.specs.Formats.TypeMap.{is_pointer}
use Rattle.pud_defs.specs.Formats.Geometry.{ordinal_of, slot_of}
use Rattle.pud_defs.specs.RegistryTables.Puddles.{moved_to}
use Rattle.pud_defs.specs.PoolGraphs.Stored.{Stored, places_of, place_word, place_serial, IsLivePlace}
use Rattle.pud_defs.specs.PoolGraphs.Graph.{target, over_old, content, field_count, place_map, stands, root_of}
use Rattle.pud_defs.specs.PoolGraphs.Exported.{address_of}
use Rattle.graph_laws.specs.Changes.{with_words, AreBases}

-- ---- pointers

-- The value over the pool's bases of a pointer that stands over the old bases.
abbrev pub rewritten : List Puddle → ℕ → ℕ
rewritten puddles v = address_of puddles (target (map over_old puddles) v)

-- The word of a field over the pool's bases. A number does not change.
abbrev pub rewritten_field : List Puddle → (map field v : ℕ) → ℕ
rewritten_field puddles map field v = cond (is_pointer map field) (rewritten puddles v) v

-- ---- frontiers

-- The puddles with this one at the ordinal, if there is one.
abbrev pub with_some_puddle : ℕ → Option Puddle → List Puddle → List Puddle
with_some_puddle o None puddles = puddles
with_some_puddle o (Some d) puddles = set puddles o d

-- The puddles, in which the puddle of the ordinal has another frontier.
abbrev pub with_frontier : (o n : ℕ) → List Puddle → List Puddle
with_frontier o n puddles = with_some_puddle o (option_map (moved_to n) (slice_get puddles o)) puddles

-- What is stored after the frontier of the ordinal's puddle has moved to m.
abbrev pub advanced : (o m : ℕ) → (ℕ → ℕ → ℕ) → Stored → Stored
advanced o m word st = record { puddles = with_frontier o m st.puddles; word = word }

-- The promise holds if the frontier of this puddle, of ordinal o, moves to m and not backwards, and no two ranges of the pool
-- overlap.
abbrev pub IfFrontierMoves : Stored → (o m : ℕ) → Puddle → (Promise : Type 0) → Type 0
IfFrontierMoves st o m home Promise = AreBases (map (λ d. d.base) st.puddles) → slice_get st.puddles o ≡ Some home → home.frontier ≤ m → Promise

-- ---- what a frontier passes

-- a frontier that moves from n to m passes the step of the slot
abbrev pub passes_slot : (n m slot : ℕ) → Bool
passes_slot n m slot = nat_le n (slot + 1) && nat_lt (slot + 1) m

-- The frontier of the ordinal's puddle passes the slot at the place.
abbrev pub is_passed : (o n m place : ℕ) → Bool
is_passed o n m p = ordinal_of p == o && passes_slot n m (slot_of p)

-- The frontier passes the root, which stands at the first step of ordinal 0.
abbrev pub passes_root : (o n m : ℕ) → Bool
passes_root o n m = o == 0 && (n == 0 && nat_lt 0 m)

-- With these words, the pointers that a frontier passes stand over the pool's bases. Nothing else that is read changes.
pub record RewritesSteps (types : List (ℕ × ℕ)) (st : Stored) (word : ℕ → ℕ → ℕ) (o n m : ℕ) : Type 0 where
  pub headers : (i k : ℕ) → k < FRAME_HEADER_WORDS → (i ≡ 0 → k ≡ ROOT_WORD → ⊥) → word i k ≡ st.word i k
  pub root : word 0 ROOT_WORD ≡ cond (passes_root o n m) (rewritten st.puddles (st.word 0 ROOT_WORD)) (st.word 0 ROOT_WORD)
  pub serials : (p : ℕ) → p < places_of st → place_serial (with_words word st) p ≡ place_serial st p
  pub type_ids : (p : ℕ) → p < places_of st → IsLivePlace st p → place_word (with_words word st) p SLOT_TYPE_WORD ≡ place_word st p SLOT_TYPE_WORD
  pub fields : (p map f : ℕ) → p < places_of st → IsLivePlace st p → place_map types st p ≡ Some map → f < field_count map
      → place_word (with_words word st) p (SLOT_FIELDS_WORD + f)
      ≡ cond (is_passed o n m p) (rewritten_field st.puddles map f (place_word st p (SLOT_FIELDS_WORD + f))) (place_word st p (SLOT_FIELDS_WORD + f))

-- A serial for each place, so that each pointer that leads to some slot stands for something.
abbrev pub anywhere : ℕ → ℕ
anywhere place = 1

-- Each pointer that the frontier passes is null or leads to a slot, live or not.
pub record LeadSomewhere (types : List (ℕ × ℕ)) (st : Stored) (o n m : ℕ) : Type 0 where
  pub root : passes_root o n m ≡ true → stands anywhere (root_of st) ≡ true
  pub fields : (p map f : ℕ) → p < places_of st → IsLivePlace st p → place_map types st p ≡ Some map → f < field_count map → is_passed o n m p ≡ true
      → stands anywhere (content st.puddles map p f (place_word st p (SLOT_FIELDS_WORD + f))) ≡ true
