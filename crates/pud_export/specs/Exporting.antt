-- What is read from a pool to write it into a file.
use Rattle.std.specs.Prelude.{◌≡◌, ℕ, Bool, ◌==◌, cond, List, [], ◌∷◌, ◌++◌, length, map, slice_get, take, flat_map, Option, Some, None, Result, Ok, Err}
use Rattle.std.specs.List.{list_any, filter_map, range_with_len}
use Rattle.std.specs.Ordering.{nat_cmp}
use Rattle.std.specs.FinMap.Entries.{where_key}
use Rattle.pm_model.specs.declared.host.HostFault.{HostFault}
use Rattle.pud_defs.specs.declared.files.TheConstants.{FILE_MAGIC, FILE_VERSION}
use Rattle.pud_defs.specs.declared.layout.TheConstants.{MACHINE_WORD}
use Rattle.pud_defs.specs.declared.records.Puddle.{Puddle}
use Rattle.pud_defs.specs.declared.records.Slot.{Slot}
use Rattle.pud_defs.specs.declared.space.TheConstants.{SLOT_SERIAL_WORD, SLOT_TYPE_WORD}
use Rattle.pud_defs.specs.PoolGraphs.Exported.{type_words, exported_slot, exported_words}
use Rattle.pud_defs.specs.PoolGraphs.ExportFile.{FileContents, types_used}
use Rattle.pud_defs.specs.PoolGraphs.Graph.{Graph, graph_of}
use Rattle.pud_defs.specs.Formats.Image.{Image}
use Rattle.pud_defs.specs.Formats.Geometry.{class_slots, class_slot_words, place_at}
use Rattle.pud_defs.specs.Formats.Headers.{slot_word}
use Rattle.pud_defs.specs.PoolGraphs.Stored.{Stored, stored_in, places_of, class_of, place_word, place_serial, slot_state}
use Rattle.pud_defs.specs.RegistryTables.Types.{types_of}
use Rattle.pud_export.specs.declared.faults.ExportFault.{ExportFault}
use Rattle.pud_export.specs.declared.faults.ExportFault.TheVariants as faults

-- the host's fault that an export returned
abbrev pub fault_in : {A : Type 0} → Result A ExportFault → Option HostFault
fault_in (Ok x) = None
fault_in (Err faults.Memory) = None
fault_in (Err (faults.Host fault)) = Some fault

-- ---- the file

-- what comes before the frames in the file that a machine with this id writes for these puddles of a pool with this
-- UUID number, with these types
abbrev pub front_words : (machine number : ℕ) → List (ℕ × ℕ) → List Puddle → List ℕ
front_words machine number types puddles =
    (FILE_MAGIC ∷ FILE_VERSION ∷ length types ∷ length puddles ∷ machine ∷ number ∷ 0 ∷ 0 ∷ []) ++ (flat_map type_words types ++ (map (λ d. d.base) puddles ++ map (λ d. d.class) puddles))

-- by what a device of F frames has, the pool in these frames stores this graph, read by the defined types
abbrev pub StoresGraph : (F : ℕ) → List (ℕ × Puddle) → Image → Graph → Type 0
StoresGraph F at image g = graph_of (types_of image) (stored_in F at image) ≡ Some g

-- the words of the export file of such a pool, with this UUID number: it lists the types that the graph uses
abbrev pub pool_words : (F number : ℕ) → List (ℕ × Puddle) → Image → Graph → List ℕ
pool_words F number at image g = exported_words (image MACHINE_WORD) number (types_of image) (types_used (types_of image) g) (stored_in F at image)

-- what that file contains
abbrev pub pool_contents : List (ℕ × Puddle) → Image → Graph → FileContents
pool_contents at image g = record { types = types_used (types_of image) g; classes = map (λ e. e.1.class) at; graph = g }

-- ---- slots

-- how many slots the puddle of an ordinal has
abbrev pub slots_at : List Puddle → (ordinal : ℕ) → ℕ
slots_at puddles o = class_slots (class_of (slice_get puddles o))

-- word k of a slot, on a device of F frames
abbrev pub word_of : (F : ℕ) → Slot → (k : ℕ) → Image → ℕ
word_of F s k image = slot_word F s.frame s.class s.slot k image

-- the words of a slot of this class, with which these words begin
abbrev pub slot_part : (class : ℕ) → List ℕ → List ℕ
slot_part class words = take (class_slot_words class) words

-- this is promised if these are the serial and the type id in the slot at a place
abbrev pub IfReadAt : Stored → (place serial id : ℕ) → Type 0 → Type 0
IfReadAt st p serial id Promised = serial ≡ place_word st p SLOT_SERIAL_WORD → id ≡ place_word st p SLOT_TYPE_WORD → Promised

-- ---- frames

-- the first `count` slots of the frame of an ordinal
unfoldable pub slots_to : List (ℕ × ℕ) → Stored → (ordinal count : ℕ) → List ℕ
slots_to types st o n = flat_map (λ s. exported_slot types st (place_at o s)) (range_with_len 0 n)

-- ---- types

-- the type id of a slot, if an object lives there, by the words of its serial and its type
abbrev pub type_by : (serial id : ℕ) → Option ℕ
type_by serial id = cond (slot_state serial).is_free None (Some id)

-- the type id at a place, if an object lives there
abbrev pub live_type : Stored → ℕ → Option ℕ
live_type st p = type_by (place_serial st p) (place_word st p SLOT_TYPE_WORD)

-- the type ids of the live ones of the first `count` places, place by place
abbrev pub live_types_to : Stored → (count : ℕ) → List ℕ
live_types_to st n = filter_map (live_type st) (range_with_len 0 n)

-- the type ids of all live places
abbrev pub live_types : Stored → List ℕ
live_types st = live_types_to st (places_of st)

-- the id is one of these
abbrev pub is_among : ℕ → List ℕ → Bool
is_among id ids = list_any (λ other. other == id) ids

-- the types whose ids are among these
abbrev pub types_among : List (ℕ × ℕ) → List ℕ → List (ℕ × ℕ)
types_among types ids = where_key nat_cmp (λ id. is_among id ids) types
