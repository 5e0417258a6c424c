-- Words as the entries of a batch. Each word is an entry of its own.
use Rattle.std.specs.Prelude.{◌≡◌, ℕ, zero, suc, ◌+◌, ◌-◌, ◌*◌, ◌≤◌, cond, List, [], ◌∷◌, ◌++◌, map, slice_get, Option, Some, None}
use Rattle.pud_defs.specs.declared.layout.TheConstants.{LOG_ENTRY_WORDS}
use Rattle.pud_defs.specs.declared.space.TheConstants.{FRAME_HEADER_WORDS, SLOT_FIELDS_WORD}
use Rattle.pud_defs.specs.declared.records.Puddle.{Puddle}
use Rattle.pud_defs.specs.declared.records.Slot.{Slot}
use Rattle.pud_defs.specs.Formats.TypeMap.{is_pointer}
use Rattle.pud_defs.specs.Formats.Geometry.{class_slot_words, class_slot_at}
use Rattle.pud_defs.specs.Formats.Image.{Image}
use Rattle.pud_defs.specs.Formats.Frames.{frame_at}
use Rattle.pud_defs.specs.RegistryTables.Puddles.{frontier_word, frontier_with_class}
use Rattle.pud_defs.specs.Logging.Entries.{Entry}
use Rattle.pud_defs.specs.RegistryTables.Types.{types_of}
use Rattle.pud_defs.specs.PoolGraphs.Stored.{stored_in}
use Rattle.pud_defs.specs.PoolGraphs.Graph.{field_count}
use Rattle.graph_laws.specs.Rewriting.{rewritten}
use Rattle.graph_laws.specs.Steps.{pointer_by, slot_pointer, passed_word}
use Rattle.graph_read.specs.Bases.{HasLowBases}
use Rattle.batch.specs.Batches.{batch_entry, word_count_of}

-- The entry of a word, if the word gets a value.
abbrev pub word_entry : (w : ℕ) → Option ℕ → List Entry
word_entry w None = []
word_entry w (Some v) = batch_entry w (v ∷ []) ∷ []

-- The entries of `count` words, from word at + from on, by the value that each of them gets.
unfoldable pub words_batch : (at : ℕ) → (ℕ → Option ℕ) → (from count : ℕ) → List Entry
words_batch at new from zero = []
words_batch at new from (suc count) = word_entry (at + from) (new from) ++ words_batch at new (from + 1) count

-- The pointers at a step of the ordinal's puddle stand over the old bases, and the pool's bases are low.
pub record IsToRewrite (at : List (ℕ × Puddle)) (o step : ℕ) : Type 0 where
  pub bases : HasLowBases at
  pub old : (e : ℕ × Puddle) → slice_get at o ≡ Some e → e.1.frontier ≤ step

-- The promise holds if the pointers at a step are to be rewritten, and the batch has room for this many more words of the log.
abbrev pub IfFits : List (ℕ × Puddle) → (o step : ℕ) → List Entry → (words : ℕ) → (Promise : Type 0) → Type 0
IfFits at o step es words Promise = IsToRewrite at o step → word_count_of es + words ≤ LOG_ENTRY_WORDS → Promise

-- The puddle of an ordinal has P, if there is one.
abbrev pub ForPuddle : List (ℕ × Puddle) → (o : ℕ) → (ℕ × Puddle → Type 0) → Type 0
ForPuddle at o P = (e : ℕ × Puddle) → slice_get at o ≡ Some e → P e

-- ---- the pointers of a slot

-- The first word of a slot on the device.
abbrev pub slot_begins : (F : ℕ) → Slot → ℕ
slot_begins F s = frame_at F s.frame + class_slot_at s.class s.slot

-- The new value of field f by the map of its object's type: none if the field is no pointer.
abbrev pub new_field : List Puddle → (type_map f v : ℕ) → Option ℕ
new_field puddles m f v = cond (is_pointer m f) (Some (rewritten puddles v)) None

-- The entries of the pointers of the object in a slot, by the map of its type.
abbrev pub object_batch : (F : ℕ) → List (ℕ × Puddle) → Image → Slot → (type_map : ℕ) → List Entry
object_batch F at image s m =
    words_batch (slot_begins F s)
    (λ j. pointer_by (map (λ e. e.1) at) (Some m) j ((stored_in F at image).word s.ordinal (class_slot_at s.class s.slot + j)))
    SLOT_FIELDS_WORD (field_count m)

-- The entries of the pointers of a slot.
abbrev pub slot_batch : (F : ℕ) → List (ℕ × Puddle) → Image → Slot → List Entry
slot_batch F at image s =
    words_batch (slot_begins F s) (slot_pointer (types_of image) (map (λ e. e.1) at) s.class ((stored_in F at image).word s.ordinal) s.slot) 0 (class_slot_words s.class)

-- ---- the steps of a puddle

-- The value that each word of a frame gets when the frontier of its puddle, of this class and of ordinal o, moves from n
-- to m.
abbrev pub rewritten_words : (F : ℕ) → List (ℕ × Puddle) → Image → (class o n m : ℕ) → ℕ → Option ℕ
rewritten_words F at image class o n m = passed_word (types_of image) (map (λ d. d.1) at) class ((stored_in F at image).word o) o n m

-- The entries of the pointers of a header when the frontier of this puddle, of ordinal o, moves from n to m.
abbrev pub header_batch : (F : ℕ) → List (ℕ × Puddle) → Image → (o n m : ℕ) → ℕ × Puddle → List Entry
header_batch F at image o n m e = words_batch (frame_at F e.0) (rewritten_words F at image e.1.class o n m) 0 FRAME_HEADER_WORDS

-- The first slot that a frontier passes from n on. The first step may be that of the header.
abbrev pub first_slot : (n : ℕ) → ℕ
first_slot zero = 0
first_slot (suc n) = n

-- The batch by which the frontier of a frame's puddle, of this class, moves from n to m: the words of the header, the
-- words of the slots that it passes, and the frontier.
abbrev pub steps_batch : (F frame class : ℕ) → (ℕ → Option ℕ) → (n m : ℕ) → List Entry
steps_batch F frame class new n m =
    words_batch (frame_at F frame) new 0 FRAME_HEADER_WORDS
    ++ (words_batch (frame_at F frame) new (class_slot_at class (first_slot n)) (class_slot_words class * (m - 1 - first_slot n))
    ++ batch_entry (frontier_word frame) (frontier_with_class m class ∷ []) ∷ [])

-- The batch by which the frontier of this puddle, of ordinal o, moves from n to m.
abbrev pub puddle_batch : (F : ℕ) → List (ℕ × Puddle) → Image → (o n m : ℕ) → ℕ × Puddle → List Entry
puddle_batch F at image o n m e = steps_batch F e.0 e.1.class (rewritten_words F at image e.1.class o n m) n m
