-- What the calls and the laws promise about a pool with a graph that is changed.
use Rattle.std.specs.Prelude.{◌≡◌, ◌<◌, ℕ, List, Option, Some}
use Rattle.pm_model.specs.Words.{reads}
use Rattle.pm_model.specs.Moments.{State}
use Rattle.pud_defs.specs.declared.objects.FieldValue.{FieldValue}
use Rattle.pud_defs.specs.declared.records.Puddle.{Puddle}
use Rattle.pud_defs.specs.declared.records.Slot.{Slot}
use Rattle.pud_defs.specs.Formats.Geometry.{class_slots}
use Rattle.pud_defs.specs.Formats.Image.{Image}
use Rattle.pud_defs.specs.PoolGraphs.Graph.{Graph, graph_of}
use Rattle.pud_defs.specs.PoolGraphs.Stored.{stored_in}
use Rattle.pud_defs.specs.RegistryTables.Types.{types_of}
use Rattle.graph_laws.specs.Slots.{IsLowestFreeSlot}
use Rattle.puddle_header.specs.Places.{place_of_slot, IsSlotOf}
use Rattle.graph_read.specs.declared.index.Index.{Index}
use Rattle.graph_read.specs.declared.index.Kept.{Kept}
use Rattle.graph_read.specs.Indexed.{IsIndexOf}
use Rattle.graph_read.specs.Reading.{place_in_pool}
use Rattle.known_pool.specs.Searches.{full_after_made, full_after_freed}
use Rattle.known_pool.specs.Known.{Known, IsKnown, index_entries, with_puddles}
use Rattle.known_pool.specs.Indexes.{Follows, FollowsPlaces, same_place, with_place, without_place, after_move, after_made, Releases}
use Rattle.known_pool.specs.Serials.{serial_in, KeepsSerials, KeepsOtherSerials}

-- By these types the pool of these puddles stores this graph.
abbrev pub StoresGraph : List (ℕ × ℕ) → (F : ℕ) → List (ℕ × Puddle) → Image → Graph → Type 0
StoresGraph types F at image g = graph_of types (stored_in F at image) ≡ Some g

-- The object of this serial is in the slot.
abbrev pub IsInSlot : (F : ℕ) → List (ℕ × Puddle) → Image → (s : ℕ) → Slot → Type 0
IsInSlot F at image s slot = place_in_pool F at image s ≡ Some (place_of_slot slot)

-- ---- calls that read

-- `Promise` holds for the image that is read and for the graph that the pool of these puddles stores by it, if the host
-- tells what is read.
abbrev pub ForGraphRead : (tells : Type 0) → State → (F : ℕ) → List (ℕ × Puddle) → (Image → Graph → Type 0) → Type 0
ForGraphRead tells s F at Promise =
    tells → (image : Image) → reads s.now.words ≡ image → (g : Graph) → StoresGraph (types_of image) F at image g → Promise image g

-- The index, if one is kept, is that of the pool of these puddles.
abbrev pub IsOwnIndex : (F : ℕ) → List (ℕ × Puddle) → Image → Option Index → Type 0
IsOwnIndex F at image index = (x : Index) → index ≡ Some x → IsIndexOf F at (types_of image) image x

-- The index, if one is kept, has released what the object of this serial names, and then the object.
abbrev pub HasReleasedObject : (F : ℕ) → List (ℕ × Puddle) → Image → Graph → (s : ℕ) → Option (List (ℕ × Kept)) → Type 0
HasReleasedObject F at image g s index = (x : Index) → index ≡ Some (index_entries x) → Releases (place_in_pool F at image) g s x

-- ---- laws

-- If the pool stores the same graph before and after, and its places stay in this sense, what is kept stays true.
abbrev pub StaysKnownWhile : ((F : ℕ) → (at later : List (ℕ × Puddle)) → (before after : Image) → Type 0) → Type 0
StaysKnownWhile Keeps =
    (frames : ℕ) (known : Known) (later : List (ℕ × Puddle)) (before after : Image) (g : Graph)
    → StoresGraph (types_of before) frames known.puddles before g → StoresGraph (types_of after) frames later after g
    → Keeps frames known.puddles later before after → IsKnown frames before known → IsKnown frames after (with_puddles later known)

-- `Promise` holds for a change of a pool. Before the change the pool stores this graph, and what is known about it is
-- true. What is known next has the same puddles, and the types stay.
abbrev pub ForChange : (ℕ → (known next : Known) → (before after : Image) → Graph → Type 0) → Type 0
ForChange Promise =
    (frames : ℕ) (known next : Known) (before after : Image) (g : Graph) → next.puddles ≡ known.puddles → types_of after ≡ types_of before
    → StoresGraph (types_of before) frames known.puddles before g → IsKnown frames before known → Promise frames known next before after g

-- If the graph becomes this one, no serial changes, and the references move from the one value to the other, what is
-- known next is true.
abbrev pub IsKnownMoved : ℕ → (known next : Known) → (before after : Image) → Graph → (was now : FieldValue) → Type 0
IsKnownMoved frames known next before after g was now =
    StoresGraph (types_of before) frames known.puddles after g → KeepsSerials frames known.puddles known.puddles before after
    → Follows (after_move was now) known.index next.index → FollowsPlaces same_place known.placed next.placed → next.full_below ≡ known.full_below → IsKnown frames after next

-- `Promise` holds if the serial in the slot becomes this one and no other serial changes.
abbrev pub WithSerial : ℕ → List (ℕ × Puddle) → (before after : Image) → Slot → (s : ℕ) → Type 0 → Type 0
WithSerial frames at before after slot s Promise =
    serial_in frames at after (place_of_slot slot) ≡ s → KeepsOtherSerials frames at (place_of_slot slot) before after → Promise

-- If the slot was the lowest free one of its class, and the object of the next serial was made in it, what is known next
-- is true.
abbrev pub IsKnownMade : ℕ → (known next : Known) → (before after : Image) → Graph → Slot → Type 0
IsKnownMade frames known next before after g slot =
    IsLowestFreeSlot slot.class (stored_in frames known.puddles before) (place_of_slot slot) → slot.slot < class_slots slot.class
    → WithSerial frames known.puddles before after slot g.next_serial
    (Follows (after_made g.next_serial slot) known.index next.index → FollowsPlaces (with_place g.next_serial slot) known.placed next.placed → next.full_below ≡ full_after_made slot known.full_below → IsKnown frames after next)

-- If the object of this serial was in the slot, which is one of these puddles, and was released and freed, what is known next is true.
abbrev pub IsKnownFreed : ℕ → (known next : Known) → (before after : Image) → Graph → (s : ℕ) → Slot → Type 0
IsKnownFreed frames known next before after g s slot =
    IsSlotOf known.puddles slot → IsInSlot frames known.puddles before s slot → WithSerial frames known.puddles before after slot 0
    (HasReleasedObject frames known.puddles before g s next.index → FollowsPlaces (without_place s) known.placed next.placed → next.full_below ≡ full_after_freed slot known.full_below → IsKnown frames after next)
