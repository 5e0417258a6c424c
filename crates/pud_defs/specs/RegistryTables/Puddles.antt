-- The records of the puddle table, as functions of their words.
use Rattle.std.specs.Prelude.{ℕ, ◌+◌, ◌*◌, ◌/◌, ◌%◌, ◌^◌, Bool, ◌&&◌, ◌==◌, cond, List, [], ◌∷◌, Option, Some, None}
use Rattle.pud_defs.specs.declared.layout.TheConstants.{PUDDLE_TABLE, PUDDLE_RECORD_WORDS}
use Rattle.pud_defs.specs.declared.records.TheConstants.{PUDDLE_NUMBER_WORD, PUDDLE_BASE_WORD, PUDDLE_OLD_BASE_WORD, PUDDLE_FRONTIER_WORD}
use Rattle.pud_defs.specs.declared.records.Puddle.{Puddle}
use Rattle.pud_defs.specs.declared.records.PuddleRecord.{PuddleRecord}
use Rattle.pud_defs.specs.Formats.Image.{Image}
use Rattle.pud_defs.specs.Formats.Bases.{is_legal_base}
use Rattle.pud_defs.specs.Formats.Geometry.{is_legal_class, is_legal_frontier}
use Rattle.pud_defs.specs.RegistryTables.Pools.{is_given}

-- the parts of a member word: the pool's slot plus 1, and the ordinal
abbrev pub member_pool : ℕ → ℕ
member_pool v = v % 2 ^ 32

abbrev pub member_ordinal : ℕ → ℕ
member_ordinal v = v / 2 ^ 32

abbrev pub member_word : ℕ → ℕ → ℕ
member_word pool ordinal = pool + ordinal * 2 ^ 32

-- the parts of the last word of a record: the frontier, and the class
abbrev pub frontier_part : ℕ → ℕ
frontier_part v = v % 2 ^ 32

abbrev pub class_part : ℕ → ℕ
class_part v = v / 2 ^ 32

-- the word of these two parts
abbrev pub frontier_with_class : (frontier class : ℕ) → ℕ
frontier_with_class frontier class = frontier + class * 2 ^ 32

-- the first word of the record of a frame
abbrev pub puddle_record_at : ℕ → ℕ
puddle_record_at frame = PUDDLE_TABLE + PUDDLE_RECORD_WORDS * frame

-- What a used record states: whose puddle it is, by the pool's slot plus 1 and the place in the pool, and the puddle.
-- The slot is kept plus 1, because else a record that names no pool would name slot 0.
pub record Member : Type 0 where
  pub pool : ℕ
  pub ordinal : ℕ
  pub puddle : Puddle

-- the puddle with another frontier
abbrev pub moved_to : ℕ → Puddle → Puddle
moved_to n d = record d { frontier = n }

-- the record of the puddle with another frontier
abbrev pub member_moved : ℕ → Member → Member
member_moved n m = record { pool = m.pool; ordinal = m.ordinal; puddle = moved_to n m.puddle }

-- the word that stores the frontier of the puddle in a frame, and its class
abbrev pub frontier_word : (frame : ℕ) → ℕ
frontier_word frame = puddle_record_at frame + PUDDLE_FRONTIER_WORD

-- The record of these five words, if it is used.
unfoldable pub puddle_by : (w0 w1 w2 w3 w4 : ℕ) → Option Member
puddle_by w0 w1 w2 w3 w4 =
    cond (w0 == 0) None
    (Some (record { pool = member_pool w0; ordinal = member_ordinal w0; puddle = record { number = w1; base = w2; old_base = w3; frontier = frontier_part w4; class = class_part w4 } }))

-- the record of a frame, if it is used
unfoldable pub puddle_at : Image → ℕ → Option Member
puddle_at image frame =
    puddle_by (image (puddle_record_at frame)) (image (puddle_record_at frame + PUDDLE_NUMBER_WORD)) (image (puddle_record_at frame + PUDDLE_BASE_WORD))
    (image (puddle_record_at frame + PUDDLE_OLD_BASE_WORD)) (image (puddle_record_at frame + PUDDLE_FRONTIER_WORD))

-- the words that spell a record
abbrev pub puddle_words : PuddleRecord → List ℕ
puddle_words r = member_word (r.pool + 1) r.ordinal ∷ r.number ∷ r.base ∷ r.old_base ∷ frontier_with_class r.frontier r.class ∷ []

-- the puddle is that of a legal record; whose puddle it is plays no part
abbrev pub is_legal_puddle : ℕ → Puddle → Bool
is_legal_puddle next p = is_given next p.number && is_legal_base p.base && is_legal_base p.old_base && (is_legal_class p && is_legal_frontier p)

-- the record of a pool's puddle
abbrev pub puddle_read : (slot ordinal : ℕ) → Puddle → PuddleRecord
puddle_read slot ordinal p = record { pool = slot; ordinal = ordinal; number = p.number; base = p.base; old_base = p.old_base; frontier = p.frontier; class = p.class }
