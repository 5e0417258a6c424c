-- What is written when the frontier of a puddle moves: the pointers that it passes, over the pool's bases, and the
-- frontier.
use Rattle.std.specs.Prelude.{◌≡◌, ℕ, ◌+◌, ◌-◌, ◌/◌, ◌%◌, ◌<◌, ◌≤◌, Bool, ◌&&◌, nat_le, nat_lt, ◌==◌, cond, List, map, set, slice_get, Option, Some, None, unwrap_or}
use Rattle.pud_defs.specs.declared.layout.TheConstants.{FRAME_WORDS}
use Rattle.pud_defs.specs.declared.space.TheConstants.{FRAME_HEADER_WORDS, ROOT_WORD, SLOT_SERIAL_WORD, SLOT_TYPE_WORD, SLOT_FIELDS_WORD}
use Rattle.pud_defs.specs.declared.records.Puddle.{Puddle}
use Rattle.pud_defs.specs.Formats.TypeMap.{is_pointer}
use Rattle.pud_defs.specs.Formats.Geometry.{class_slot_words, class_slot_at}
use Rattle.pud_defs.specs.Formats.Image.{Image}
use Rattle.pud_defs.specs.Formats.Frames.{frame_at}
use Rattle.pud_defs.specs.RegistryTables.Puddles.{moved_to, frontier_word, frontier_with_class}
use Rattle.pud_defs.specs.RegistryTables.Types.{map_of}
use Rattle.pud_defs.specs.PoolGraphs.Stored.{Stored, stored_in, class_of, slot_state}
use Rattle.pud_defs.specs.PoolGraphs.Graph.{Graph, graph_of, field_count, fitting}
use Rattle.pud_defs.specs.Logging.Replay.{overwritten}
use Rattle.graph_laws.specs.Changes.{AreBases}
use Rattle.graph_laws.specs.Reads.{HasDistinctFrames}
use Rattle.graph_laws.specs.Rewriting.{rewritten, passes_slot, passes_root}

-- ---- the words of a frame

-- Word j of a slot is a pointer field, by the map of the object's type.
abbrev pub is_pointer_word : (map j : ℕ) → Bool
is_pointer_word map j = nat_le SLOT_FIELDS_WORD j && nat_lt j (SLOT_FIELDS_WORD + field_count map) && is_pointer map (j - SLOT_FIELDS_WORD)

-- The new value of word j over the pool's bases, if the type is defined and the word is a pointer.
abbrev pub pointer_by : List Puddle → Option ℕ → (j v : ℕ) → Option ℕ
pointer_by puddles None j v = None
pointer_by puddles (Some map) j v = cond (is_pointer_word map j) (Some (rewritten puddles v)) None

-- The new value of word j of a slot over the pool's bases, if an object lives there and the word is a pointer. `word`
-- has the words of the slot's frame.
abbrev pub slot_pointer : List (ℕ × ℕ) → List Puddle → (class : ℕ) → (ℕ → ℕ) → (slot j : ℕ) → Option ℕ
slot_pointer types puddles class word slot j =
    cond (slot_state (word (class_slot_at class slot + SLOT_SERIAL_WORD))).is_live
    (pointer_by puddles (fitting class (map_of (word (class_slot_at class slot + SLOT_TYPE_WORD)) types)) j (word (class_slot_at class slot + j)))
    None

-- The new value of word k of a header over the pool's bases, if it is the root and the frontier passes it.
abbrev pub header_pointer : List Puddle → (ℕ → ℕ) → (o n m k : ℕ) → Option ℕ
header_pointer puddles word o n m k = cond (k == ROOT_WORD && passes_root o n m) (Some (rewritten puddles (word k))) None

-- The new value of word k of a frame when the frontier of its puddle moves from n to m. The puddle has ordinal o. There
-- is none if the word is no pointer that the frontier passes.
abbrev pub passed_word : List (ℕ × ℕ) → List Puddle → (class : ℕ) → (ℕ → ℕ) → (o n m k : ℕ) → Option ℕ
passed_word types puddles class word o n m k =
    let slot = (k - FRAME_HEADER_WORDS) / class_slot_words class in
    cond (nat_lt k FRAME_HEADER_WORDS) (header_pointer puddles word o n m k)
    (cond (passes_slot n m slot) (slot_pointer types puddles class word slot ((k - FRAME_HEADER_WORDS) % class_slot_words class)) None)

-- The words of a pool, with the new values of ordinal o over them.
abbrev pub with_passed : List (ℕ × ℕ) → Stored → (o n m : ℕ) → ℕ → ℕ → ℕ
with_passed types st o n m q k = cond (q == o) (unwrap_or (passed_word types st.puddles (class_of (slice_get st.puddles o)) (st.word o) o n m k) (st.word q k)) (st.word q k)

-- ---- the words of a device

-- the word of the device lies in the frame
abbrev pub is_in_frame : (F frame k : ℕ) → Bool
is_in_frame F frame k = nat_le (frame_at F frame) k && nat_lt k (frame_at F frame + FRAME_WORDS)

-- What is written when the frontier of a puddle moves to m, by the words of its frame. The puddle is given with its
-- frame, and it has ordinal o.
unfoldable pub steps_write : (F : ℕ) → List (ℕ × ℕ) → List Puddle → (ℕ → ℕ) → (o m : ℕ) → ℕ × Puddle → ℕ → Option ℕ
steps_write F types puddles word o m e k =
    cond (is_in_frame F e.0 k) (passed_word types puddles e.1.class word o e.1.frontier m (k - frame_at F e.0))
    (cond (k == frontier_word e.0) (Some (frontier_with_class m e.1.class)) None)

-- The same by the words of an image.
abbrev pub steps_in : (F : ℕ) → List (ℕ × ℕ) → List (ℕ × Puddle) → Image → (o m : ℕ) → ℕ × Puddle → ℕ → Option ℕ
steps_in F types at image o m e = steps_write F types (map (λ d. d.1) at) ((stored_in F at image).word o) o m e

-- The puddles of a pool after the frontier of this one, of ordinal o, has moved to m.
abbrev pub with_steps : (o m : ℕ) → ℕ × Puddle → List (ℕ × Puddle) → List (ℕ × Puddle)
with_steps o m e at = set at o (e.0, moved_to m e.1)

-- What an image stores of a pool after the steps of this puddle, of ordinal o, up to m are written to it.
abbrev pub stored_after : (F : ℕ) → List (ℕ × ℕ) → List (ℕ × Puddle) → Image → (o m : ℕ) → ℕ × Puddle → Stored
stored_after F types at image o m e = stored_in F (with_steps o m e at) (overwritten (steps_in F types at image o m e) image)

-- What had a graph before these steps has it after them.
abbrev pub KeepsGraphAfter : (F : ℕ) → List (ℕ × ℕ) → List (ℕ × Puddle) → Image → (o m : ℕ) → ℕ × Puddle → Type 0
KeepsGraphAfter F types at image o m e =
    (g : Graph) → graph_of types (stored_in F at image) ≡ Some g → graph_of types (stored_after F types at image o m e) ≡ Some g

-- After these steps there is the graph that there was, or there is none either.
abbrev pub HasSameGraphAfter : (F : ℕ) → List (ℕ × ℕ) → List (ℕ × Puddle) → Image → (o m : ℕ) → ℕ × Puddle → Type 0
HasSameGraphAfter F types at image o m e = graph_of types (stored_after F types at image o m e) ≡ graph_of types (stored_in F at image)

-- The promise holds if the steps of this puddle, of ordinal o, up to m may be written: no two puddles have the same frame, the
-- puddle's frame is one of the device, no two ranges of the pool overlap, and the frontier does not move backwards.
abbrev pub IfStepsMayBeWritten : (F : ℕ) → List (ℕ × Puddle) → (o m : ℕ) → ℕ × Puddle → (Promise : Type 0) → Type 0
IfStepsMayBeWritten F at o m e Promise =
    HasDistinctFrames at → slice_get at o ≡ Some e → e.0 < F → AreBases (map (λ d. d.base) (map (λ e. e.1) at)) → e.1.frontier ≤ m → Promise
