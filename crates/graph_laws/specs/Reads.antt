-- The words of a pool that are read for its graph.
use Rattle.std.specs.Prelude.{◌≡◌, ℕ, ◌+◌, ◌<◌, ◌≤◌, true, List, [], ◌∷◌, ◌++◌, length, slice_get, Some}
use Rattle.pud_defs.specs.declared.layout.TheConstants.{FRAME_WORDS}
use Rattle.pud_defs.specs.declared.space.TheConstants.{FRAME_MAGIC_WORD, FRAME_NUMBER_WORD, FRAME_ORDINAL_WORD, NEXT_SERIAL_WORD, ROOT_WORD, SLOT_TYPE_WORD, SLOT_FIELDS_WORD}
use Rattle.pud_defs.specs.declared.records.Puddle.{Puddle}
use Rattle.pud_defs.specs.Formats.Geometry.{places_among}
use Rattle.pud_defs.specs.Formats.Image.{Image}
use Rattle.pud_defs.specs.Formats.Frames.{frame_word}
use Rattle.pud_defs.specs.Formats.Headers.{is_header}
use Rattle.pud_defs.specs.PoolGraphs.Stored.{Stored, places_of, place_word, place_serial, IsFreePlace, IsLivePlace}
use Rattle.pud_defs.specs.PoolGraphs.Graph.{field_count, place_map}
use Rattle.graph_laws.specs.Changes.{with_words}

-- These words are the stored ones wherever a place tells what stands there: its serial, and if it is live, its type and
-- its fields.
pub record KeepsSlots (types : List (ℕ × ℕ)) (st : Stored) (word : ℕ → ℕ → ℕ) : Type 0 where
  pub serials : (p : ℕ) → p < places_of st → place_serial (with_words word st) p ≡ place_serial st p
  pub type_ids : (p : ℕ) → p < places_of st → IsLivePlace st p → place_word (with_words word st) p SLOT_TYPE_WORD ≡ place_word st p SLOT_TYPE_WORD
  pub fields : (p m f : ℕ) → p < places_of st → IsLivePlace st p → place_map types st p ≡ Some m → f < field_count m
      → place_word (with_words word st) p (SLOT_FIELDS_WORD + f) ≡ place_word st p (SLOT_FIELDS_WORD + f)

-- These words are the stored ones wherever they are read.
pub record ReadsSame (types : List (ℕ × ℕ)) (st : Stored) (word : ℕ → ℕ → ℕ) : Type 0 where
  pub headers : (o k : ℕ) → o < length st.puddles → k ≤ FRAME_ORDINAL_WORD → word o k ≡ st.word o k
  pub next : word 0 NEXT_SERIAL_WORD ≡ st.word 0 NEXT_SERIAL_WORD
  pub root : word 0 ROOT_WORD ≡ st.word 0 ROOT_WORD
  pub slots : KeepsSlots types st word

-- What is stored with one more puddle, after the others.
abbrev pub with_puddle : Puddle → (ℕ → ℕ → ℕ) → Stored → Stored
with_puddle d word st = record { puddles = st.puddles ++ d ∷ []; word = word }

-- What is stored in one puddle alone.
abbrev pub puddle_alone : Puddle → (ℕ → ℕ → ℕ) → Stored
puddle_alone d word = record { puddles = d ∷ []; word = word }

-- With these words, there is one more puddle after the others, of which there is at least one. The puddle has its
-- header, and no slot of it is live. The frames of the others do not change.
pub record IsGrown (st : Stored) (d : Puddle) (word : ℕ → ℕ → ℕ) : Type 0 where
  pub some : 0 < length st.puddles
  pub others : (o k : ℕ) → o < length st.puddles → word o k ≡ st.word o k
  pub header : is_header d.number (length st.puddles) (word (length st.puddles) FRAME_MAGIC_WORD) (word (length st.puddles) FRAME_NUMBER_WORD) (word (length st.puddles) FRAME_ORDINAL_WORD) ≡ true
  pub free : (p : ℕ) → places_of st ≤ p → p < places_of st + places_among 1 → IsFreePlace (with_puddle d word st) p

-- ---- images

-- The two images have the same words in this frame.
abbrev pub AgreeOnFrame : (F frame : ℕ) → (i j : Image) → Type 0
AgreeOnFrame F frame i j = (k : ℕ) → k < FRAME_WORDS → frame_word F frame k j ≡ frame_word F frame k i

-- The two images have the same words in the frames of these puddles.
pub record AgreeOnFrames (F : ℕ) (at : List (ℕ × Puddle)) (i j : Image) : Type 0 where
  pub each : (o k : ℕ) (e : ℕ × Puddle) → slice_get at o ≡ Some e → k < FRAME_WORDS → frame_word F e.0 k j ≡ frame_word F e.0 k i

-- No two of these puddles have the same frame.
pub record HasDistinctFrames (at : List (ℕ × Puddle)) : Type 0 where
  pub each : (i j : ℕ) (e d : ℕ × Puddle) → slice_get at i ≡ Some e → slice_get at j ≡ Some d → e.0 ≡ d.0 → i ≡ j
