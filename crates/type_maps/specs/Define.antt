-- What a definition does to the type table.
use Rattle.std.specs.Prelude.{◌≡◌, ◌⊎◌, ℕ, ◌+◌, ◌<◌, ◌==◌, Bool, ◌&&◌, nat_le, cond, Option, Some, None, is_some, is_none, Result, Ok, Err}
use Rattle.pm_model.specs.declared.host.HostFault.{HostFault}
use Rattle.pm_model.specs.Words.{Words, Picks}
use Rattle.pm_model.specs.Moments.{State}
use Rattle.pm_model.specs.Changes.{Leaves, Silently, Write, Persists}
use Rattle.pud_defs.specs.declared.layout.TheConstants.{TYPE_RECORDS}
use Rattle.pud_defs.specs.declared.machine.Refusal.{Refusal}
use Rattle.pud_defs.specs.declared.machine.Refusal.TheVariants as refusals
use Rattle.pud_defs.specs.Formats.Image.{Image, image_with}
use Rattle.pud_defs.specs.RegistryTables.Types.{type_record_at, types_of, free_type, used_types, map_of}
use Rattle.pud_defs.specs.StateMachine.Step.{is_clash}
use Rattle.type_maps.specs.declared.TypeFault.{TypeFault}
use Rattle.type_maps.specs.declared.TypeFault.TheVariants as faults
use Rattle.type_maps.specs.declared.Lookup.{Lookup}
use Rattle.type_maps.specs.declared.Lookup.TheVariants as places

-- The host's fault that a definition returned, if there was one.
abbrev pub fault_in : Result (Unit {0}) TypeFault → Option HostFault
fault_in (Ok x) = None
fault_in (Err (faults.Host fault)) = Some fault
fault_in (Err faults.Clash) = None
fault_in (Err faults.Full) = None

-- The refusal that a definition returned, if there was one.
abbrev pub refusal_in : Result (Unit {0}) TypeFault → Option Refusal
refusal_in (Ok x) = None
refusal_in (Err (faults.Host fault)) = None
refusal_in (Err faults.Clash) = Some refusals.Clash
refusal_in (Err faults.Full) = Some refusals.Full

-- The image does not define this type, and each record is used.
abbrev pub has_no_room : Image → ℕ → Bool
has_no_room image id = is_none (map_of id (types_of image)) && nat_le TYPE_RECORDS (used_types image)

-- Why the table of an image refuses a definition, if it does.
abbrev pub table_refusal : Image → ℕ → ℕ → Option Refusal
table_refusal image id map = cond (is_clash (types_of image) id map) (Some refusals.Clash) (cond (has_no_room image id) (Some refusals.Full) None)

-- The record that a definition writes: the lowest free one, or None if the type is defined.
abbrev pub place_for : Image → ℕ → Option ℕ
place_for image id = cond (is_some (map_of id (types_of image))) None (free_type image)

abbrev pub lookup_by : Option ℕ → Option ℕ → Lookup
lookup_by (Some map) free = places.Defined map
lookup_by None (Some record_number) = places.Free record_number
lookup_by None None = places.Full

-- Where a type is in the table, or would be.
abbrev pub lookup_of : Image → ℕ → Lookup
lookup_of image id = lookup_by (map_of id (types_of image)) (free_type image)

-- A free record is one of the table.
abbrev pub IsInTable : Lookup → Type 0
IsInTable (places.Defined map) = Unit {0}
IsInTable (places.Free r) = r < TYPE_RECORDS
IsInTable places.Full = Unit {0}

-- The write of the two words of record r.
abbrev pub record_write : ℕ → ℕ → ℕ → Write
record_write r id map k = cond (k == type_record_at r) (Some id) (cond (k == type_record_at r + 1) (Some map) None)

-- The image with the map word of record r written.
abbrev pub half_defined : ℕ → ℕ → Image → Image
half_defined r map image = image_with (type_record_at r + 1) map image

-- The image with record r written.
abbrev pub defined : ℕ → ℕ → ℕ → Image → Image
defined r id map image = image_with (type_record_at r) id (half_defined r map image)

-- An image of these words, or one with the map word of record r written, or one with the whole record written.
pub record IsDefining (words : Words) (r id map : ℕ) (image : Image) : Type 0 where
  pub before : Image
  pub picked : Picks words before
  pub is : (image ≡ before) ⊎ (image ≡ half_defined r map before) ⊎ (image ≡ defined r id map before)

-- An image of these words with record r written.
pub record IsDefined (words : Words) (r id map : ℕ) (image : Image) : Type 0 where
  pub before : Image
  pub picked : Picks words before
  pub is : image ≡ defined r id map before

-- Record r is written, and its map word is durable before its id word. Each image that may be left has the table of
-- before, or also the map word of the free record, or the whole record. At Ok each image that may be left has the
-- record.
pub record Defines (r id map : ℕ) (fault : Option HostFault) (old new : State) : Type 0 where
  pub persists : Persists (record_write r id map) fault old new
  pub moments : Leaves (Silently (IsDefining old.now.words r id map)) old new
  pub done : fault ≡ None → (image : Image) → Picks new.now.words image → IsDefined old.now.words r id map image
