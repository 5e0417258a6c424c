-- What a client may write, by the words of the tables.
use Rattle.std.proofs.Common.{◌≡◌, inl, inr, ℕ, ◌+◌, ◌-◌, ◌%◌, ◌<◌, ◌≤◌, Bool, false, not, ◌&&◌, leb, eqb, length, Some, ne_eqb, eq-eqb, sym, ap, ◌∙◌}
use Rattle.std.proofs.lemmas.Bool.{cond-false, cases_eq}
use Rattle.pud_defs.specs.declared.layout.TheConstants.{FRAME_WORDS}
use Rattle.pud_defs.specs.declared.space.TheConstants.{WORD_BYTES}
use Rattle.pud_defs.specs.declared.records.TheConstants.{POOL_RECORDS, POOL_OWNER_WORD, POOL_MODE_WORD}
use Rattle.pud_defs.specs.declared.records.PoolRecord.{PoolRecord}
use Rattle.pud_defs.specs.Formats.Image.{Image}
use Rattle.pud_defs.specs.Logging.Entries.{Entry}
use Rattle.pud_defs.specs.RegistryTables.Spaces.{Owner, owner}
use Rattle.pud_defs.specs.Formats.Names.{name_by}
use Rattle.pud_defs.specs.RegistryTables.Pools.{owner_uid, owner_gid, pool_record_at, pool_at, pool_by}
use Rattle.pud_defs.specs.RegistryTables.Puddles.{member_pool, puddle_record_at}
use Rattle.pud_defs.specs.Formats.Rights.{may_write}
use Rattle.pud_defs.specs.RegistryTables.Tables.{Tables, tables_of}
use Rattle.pud_defs.specs.RegistryTables.Places.{located}
use Rattle.pud_defs.specs.Logging.Allowed.{may_write_record, may_write_puddle, are_writable, is_allowed_entry}
use Rattle.pud_defs.proofs.RegistryTables.TablesOf.{pools_below, pools_beyond, puddles_below, pool_at-free, puddle_at-free}
use Rattle.puddle_space.proofs.Records.{used_record}

-- ---- the pool of a slot

-- the pool that a used record describes
read_of : Image → ℕ → PoolRecord
read_of image at = record {
  name = name_by (image at) (image (at + 1));
  uid = owner_uid (image (at + POOL_OWNER_WORD));
  gid = owner_gid (image (at + POOL_OWNER_WORD));
  mode = image (at + POOL_MODE_WORD);
  number = image (at + 4);
}

used_pool : (image : Image) (slot : ℕ) → (image (pool_record_at slot) ≡ 0 → ⊥) → pool_at image slot ≡ Some (read_of image (pool_record_at slot))
unfolding pool_at pool_by read_of
used_pool image slot used = cond-false _ _ _ (ne_eqb (image (pool_record_at slot)) 0 used)

-- the owner word and the mode word of a pool decide whether it may be written
pub may_write_used : (F : ℕ) (image : Image) (who : Owner) (slot : ℕ) → slot < POOL_RECORDS → (image (pool_record_at slot) ≡ 0 → ⊥)
    → may_write_record who ((tables_of F image).pools slot)
    ≡ may_write (image (pool_record_at slot + POOL_MODE_WORD)) (owner (owner_uid (image (pool_record_at slot + POOL_OWNER_WORD))) (owner_gid (image (pool_record_at slot + POOL_OWNER_WORD)))) who
unfolding read_of
may_write_used F image who slot below used = ap (may_write_record who) (pools_below F image slot below ∙ used_pool image slot used)

pub may_write_free : (F : ℕ) (image : Image) (who : Owner) (slot : ℕ) → slot < POOL_RECORDS → image (pool_record_at slot) ≡ 0 → may_write_record who ((tables_of F image).pools slot) ≡ false
may_write_free F image who slot below free = ap (may_write_record who) (pools_below F image slot below ∙ pool_at-free image slot free)

pub may_write_beyond : (F : ℕ) (image : Image) (who : Owner) (slot : ℕ) → POOL_RECORDS ≤ slot → may_write_record who ((tables_of F image).pools slot) ≡ false
may_write_beyond F image who slot beyond = ap (may_write_record who) (pools_beyond F image slot beyond)

-- ---- the puddle of a frame

-- the pool, given by its slot plus 1, exists and may be written; no pool has the number 0
abbrev pub may_write_pool : (F : ℕ) → Image → Owner → (pool : ℕ) → Bool
may_write_pool F image who pool = not (eqb pool 0) && may_write_record who ((tables_of F image).pools (pool - 1))

-- the member word of a puddle's record decides whether the puddle may be written; that of a free record names no pool
pub may_write_member : (F : ℕ) (image : Image) (who : Owner) (frame : ℕ) → frame < F
    → may_write_pool F image who (member_pool (image (puddle_record_at frame))) ≡ may_write_puddle (tables_of F image) who ((tables_of F image).puddles frame)
may_write_member F image who frame below = elim (cases_eq (image (puddle_record_at frame)) 0) [
  | inl free ↦ ap (λ (w : ℕ). may_write_pool F image who (member_pool w)) free
      ∙ sym (ap (may_write_puddle (tables_of F image) who) (puddles_below F image frame below ∙ puddle_at-free image frame free))
  | inr used ↦ sym (ap (may_write_puddle (tables_of F image) who) (puddles_below F image frame below ∙ used_record image frame used))
]

-- ---- an entry

-- the frame of the word that an entry addresses decides whether the entry is allowed
pub allowed_by_place : (t : Tables) (who : Owner) (e : Entry) (place : ℕ × ℕ) → e.address % WORD_BYTES ≡ 0 → located t e.address ≡ Some place
    → is_allowed_entry t who e ≡ (leb (place.1 + length e.vals) FRAME_WORDS && may_write_puddle t who (t.puddles place.0))
allowed_by_place t who e place whole there =
    ap (λ (b : Bool). b && are_writable t who (length e.vals) (located t e.address)) (eq-eqb (e.address % WORD_BYTES) 0 whole)
    ∙ ap (are_writable t who (length e.vals)) there
