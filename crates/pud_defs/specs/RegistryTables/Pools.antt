-- The records of the pool table, as functions of their words.
use Rattle.std.specs.Prelude.{◌≡◌, ℕ, ◌+◌, ◌*◌, ◌/◌, ◌%◌, ◌^◌, ◌<◌, Bool, true, ◌&&◌, nat_le, nat_lt, ◌==◌, cond, List, [], ◌∷◌, drop, Option, Some, None}
use Rattle.std.specs.Int.{from_le_bytes, w64}
use Rattle.pud_defs.specs.declared.layout.TheConstants.{POOL_TABLE, MAX_OWNER_ID}
use Rattle.pud_defs.specs.declared.records.TheConstants.{POOL_RECORD_WORDS, POOL_OWNER_WORD, POOL_MODE_WORD, POOL_NUMBER_WORD}
use Rattle.pud_defs.specs.declared.records.PoolRecord.{PoolRecord}
use Rattle.pud_defs.specs.Formats.Image.{Image}
use Rattle.pud_defs.specs.Formats.Names.{IsName, name_by, is_legal_name}
use Rattle.pud_defs.specs.Formats.Modes.{is_legal_mode}

-- the parts of an owner word
abbrev pub owner_uid : ℕ → ℕ
owner_uid v = v % 2 ^ 32

abbrev pub owner_gid : ℕ → ℕ
owner_gid v = v / 2 ^ 32

abbrev pub owner_word : ℕ → ℕ → ℕ
owner_word uid gid = uid + gid * 2 ^ 32

-- the first word of the record of a slot
abbrev pub pool_record_at : ℕ → ℕ
pool_record_at slot = POOL_TABLE + POOL_RECORD_WORDS * slot

-- The record of these five words, if it is used. The mode is the whole word, so a word beyond 32 bits is no legal mode.
unfoldable pub pool_by : (w0 w1 w2 w3 w4 : ℕ) → Option PoolRecord
pool_by w0 w1 w2 w3 w4 = cond (w0 == 0) None (Some (record { name = name_by w0 w1; uid = owner_uid w2; gid = owner_gid w2; mode = w3; number = w4 }))

-- the record of a slot, if it is used
unfoldable pub pool_at : Image → ℕ → Option PoolRecord
pool_at image slot =
    pool_by (image (pool_record_at slot)) (image (pool_record_at slot + 1)) (image (pool_record_at slot + POOL_OWNER_WORD))
    (image (pool_record_at slot + POOL_MODE_WORD)) (image (pool_record_at slot + POOL_NUMBER_WORD))

-- the two words that store a name
abbrev pub name_word : List ℕ → ℕ
name_word name = from_le_bytes w64 name

abbrev pub next_name_word : List ℕ → ℕ
next_name_word name = from_le_bytes w64 (drop 8 name)

-- the words that spell a record
abbrev pub pool_words : PoolRecord → List ℕ
pool_words r = name_word r.name ∷ next_name_word r.name ∷ owner_word r.uid r.gid ∷ r.mode ∷ r.number ∷ []

-- words can spell the record: it has a legal name, and its uid fits the uid's half of a word
pub record IsEncodable (r : PoolRecord) : Type 0 where
  pub name : IsName r.name
  pub legal : is_legal_name r.name ≡ true
  pub uid : r.uid < 2 ^ 32

-- the UUID number was given out, if `next` is the next one
abbrev pub is_given : (next number : ℕ) → Bool
is_given next number = nat_le 1 number && nat_lt number next

abbrev pub is_legal_pool : ℕ → PoolRecord → Bool
is_legal_pool next r = is_legal_name r.name && nat_le r.uid MAX_OWNER_ID && nat_le r.gid MAX_OWNER_ID && is_legal_mode r.mode && is_given next r.number

-- the record as it is read into numbers of 32 bits; a legal record is read unchanged
abbrev pub pool_read : PoolRecord → PoolRecord
pool_read r = record r { mode = r.mode % 2 ^ 32 }
