-- The type table of an image, and the defined types by their ids.
use Rattle.std.specs.Prelude.{ℕ, ◌+◌, ◌*◌, Bool, true, cond, ◌&&◌, ◌==◌, List, Option, Some, None}
use Rattle.std.specs.Ordering.{nat_cmp}
use Rattle.std.specs.FinMap.Entries.{put, find}
use Rattle.pud_defs.specs.declared.layout.TheConstants.{TYPE_TABLE, TYPE_RECORDS, TYPE_RECORD_WORDS}
use Rattle.pud_defs.specs.Formats.Image.{Image}
use Rattle.pud_defs.specs.Formats.TypeMap.{is_legal_map, is_legal_type_id}
use Rattle.pud_defs.specs.RegistryTables.Spaces.{all_below}
use Rattle.pud_defs.specs.RegistryTables.Keyed.{first_free, count_used, keyed, are_distinct}

-- the word of record i that stores the type id, 0 if the record is free; the map word follows it
abbrev pub type_record_at : ℕ → ℕ
type_record_at i = TYPE_TABLE + TYPE_RECORD_WORDS * i

-- the map of these two words under its id, if the record is used
abbrev pub type_by : ℕ → ℕ → Option (ℕ × ℕ)
type_by id map = cond (id == 0) None (Some (id, map))

-- the map in record i, under its id
abbrev pub type_at : Image → ℕ → Option (ℕ × ℕ)
type_at image i = type_by (image (type_record_at i)) (image (type_record_at i + 1))

-- the defined types: the map of each id, by ascending ids; of two records with one id the first counts
abbrev pub types_of : Image → List (ℕ × ℕ)
types_of image = keyed nat_cmp (type_at image) 0 TYPE_RECORDS

-- the lowest free record
abbrev pub free_type : Image → Option ℕ
free_type image = first_free (type_at image) 0 TYPE_RECORDS

-- how many records are used
abbrev pub used_types : Image → ℕ
used_types image = count_used (type_at image) 0 TYPE_RECORDS

-- the map of a type, if it is defined
abbrev pub map_of : ℕ → List (ℕ × ℕ) → Option ℕ
map_of id types = find nat_cmp id types

-- the types with this one defined
abbrev pub with_type : ℕ → ℕ → List (ℕ × ℕ) → List (ℕ × ℕ)
with_type id map types = put nat_cmp id map types

-- the record is free, or its id and its map are legal
abbrev pub is_sound_type : Option (ℕ × ℕ) → Bool
is_sound_type None = true
is_sound_type (Some t) = is_legal_type_id t.0 && is_legal_map t.1

-- each used record is legal, and no two have the same id
abbrev pub are_legal_types : (ℕ → Option (ℕ × ℕ)) → Bool
are_legal_types at = all_below TYPE_RECORDS (λ i. is_sound_type (at i)) && are_distinct nat_cmp at 0 TYPE_RECORDS
