-- What the mode `layout` prints: which pools a device has, and where their puddles lie.
use Rattle.std.specs.Prelude.{ℕ, ◌==◌, cond, List, ◌∷◌, ◌++◌, codes, decimal, flat_map}
use Rattle.pud_defs.specs.declared.layout.TheConstants.{MACHINE_WORD, NEXT_NUMBER_WORD}
use Rattle.pud_defs.specs.declared.space.TheConstants.{SMALL}
use Rattle.pud_defs.specs.declared.records.PoolRecord.{PoolRecord}
use Rattle.pud_defs.specs.declared.records.Puddle.{Puddle}
use Rattle.pud_defs.specs.Formats.Image.{Image}
use Rattle.pud_defs.specs.Formats.Identifiers.{hex_digits, puddle_uuid, uuid_text}
use Rattle.pud_defs.specs.RegistryTables.Keyed.{count_used}
use Rattle.pud_defs.specs.RegistryTables.Tables.{Tables, tables_of, puddles_of, records_of}
use Rattle.pud_defs.specs.RegistryTables.Registry.{frames_of}
use Rattle.pud_defs.specs.Output.Texts.{line_of}
use Rattle.pud_defs.specs.Output.Listing.{space, name_text, mode_text}

-- an address as twelve hexadecimal digits
abbrev pub address_text : ℕ → List ℕ
address_text address = hex_digits 12 0 address

-- `frames F used U next N`: how many frames there are, how many of them have a puddle, and the next UUID number
abbrev pub frames_line : (frames used next : ℕ) → List ℕ
frames_line frames used next = line_of (codes "frames " ++ decimal frames ++ codes " used " ++ decimal used ++ codes " next " ++ decimal next)

-- the line of a pool record, on the machine with this id: `pool NAME uid gid mode identifier`
abbrev pub pool_line : ℕ → PoolRecord → List ℕ
pool_line id r =
    line_of (codes "pool " ++ name_text r.name ++ space ∷ decimal r.uid ++ space ∷ decimal r.gid ++ space ∷ mode_text r.mode ++ space ∷ uuid_text (puddle_uuid id r.number))

-- the name of a class
abbrev pub class_text : ℕ → List ℕ
class_text class = cond (class == SMALL) (codes "small") (codes "large")

-- the line of a puddle, given its ordinal and its frame: `puddle ordinal frame base old_base frontier identifier class`
abbrev pub puddle_line : ℕ → ℕ × (ℕ × Puddle) → List ℕ
puddle_line id (ordinal, (frame, p)) =
    line_of (codes "puddle " ++ decimal ordinal ++ space ∷ decimal frame ++ space ∷ address_text p.base ++ space ∷ address_text p.old_base ++ space ∷ decimal p.frontier
    ++ space ∷ uuid_text (puddle_uuid id p.number) ++ space ∷ class_text p.class)

-- the lines of the pool in a slot, and of its puddles by ascending ordinals
abbrev pub pool_lines : ℕ → Tables → ℕ × PoolRecord → List ℕ
pool_lines id t (slot, r) = pool_line id r ++ flat_map (puddle_line id) (puddles_of t slot)

-- the line on the frames, and then the lines of each pool by ascending names, on the machine with this id and with this
-- next UUID number
unfoldable pub tables_text : (id next : ℕ) → Tables → List ℕ
tables_text id next t = frames_line t.frames (count_used t.puddles 0 t.frames) next ++ flat_map (λ e. pool_lines id t e.1) (records_of t)

-- the whole text for a device with this image
abbrev pub layout_text : Image → List ℕ
layout_text image = tables_text (image MACHINE_WORD) (image NEXT_NUMBER_WORD) (tables_of (frames_of image) image)
