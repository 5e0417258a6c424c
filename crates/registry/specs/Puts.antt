-- Changes of records as entries of a batch, and what such a batch makes of an image.
use Rattle.std.specs.Prelude.{◌⊎◌, ℕ, ◌+◌, ◌≤◌, List, [], ◌∷◌, length, take, map, ⊤}
use Rattle.pm_model.specs.Changes.{Footprint}
use Rattle.pud_defs.specs.declared.layout.TheConstants.{NEXT_NUMBER_WORD, DAEMON_LOG, TYPE_TABLE, POOL_TABLE, SPACE_TABLE, PUDDLE_TABLE}
use Rattle.pud_defs.specs.declared.records.Put.{Put}
use Rattle.pud_defs.specs.Formats.Image.{Image}
use Rattle.pud_defs.specs.Formats.Layout.{IsWithin, tables_end, frames_at, device_words}
use Rattle.pud_defs.specs.Logging.Entries.{Entry}
use Rattle.pud_defs.specs.Logging.Replay.{IsInLog}
use Rattle.pud_defs.specs.RegistryTables.Puts.{put_of, with_put}
use Rattle.batch.specs.Batches.{batch_entry}

-- a change as the entry of a batch
abbrev pub put_entry : Put → Entry
put_entry put = batch_entry put.w (take put.n put.vals)

-- the batch of these changes, in their order
abbrev pub puts_batch : List Put → List Entry
puts_batch puts = map put_entry puts

-- the image with all of these changes
unfoldable pub with_puts : List Put → Image → Image
with_puts [] image = image
with_puts (put ∷ puts) image = with_puts puts (with_put put image)

-- the change that sets the next UUID number
abbrev pub number_put : ℕ → Put
number_put number = put_of NEXT_NUMBER_WORD (number ∷ [])

-- the change has at least one word, and all of its words lie from word `from` on and before word `end`
pub record LiesWithin (from end : ℕ) (put : Put) : Type 0 where
  pub low : from ≤ put.w
  pub high : put.w + put.n ≤ end
  pub some : 1 ≤ put.n
  pub fits : put.n ≤ length put.vals

-- the words of the change lie in the next number, in the pool table, or in the puddle table of F frames
abbrev pub IsOfPools : ℕ → Put → Type 0
IsOfPools F put = LiesWithin NEXT_NUMBER_WORD (NEXT_NUMBER_WORD + 1) put ⊎ (LiesWithin POOL_TABLE SPACE_TABLE put ⊎ LiesWithin PUDDLE_TABLE (tables_end F) put)

abbrev pub AreOfPools : ℕ → List Put → Type 0
AreOfPools F [] = ⊤
AreOfPools F (put ∷ puts) = IsOfPools F put × AreOfPools F puts

-- the word is the next number, or lies in the pool table or in the puddle table of F frames
abbrev pub IsPoolsWord : ℕ → ℕ → Type 0
IsPoolsWord F k = IsWithin NEXT_NUMBER_WORD (NEXT_NUMBER_WORD + 1) k ⊎ (IsWithin POOL_TABLE SPACE_TABLE k ⊎ IsWithin PUDDLE_TABLE (tables_end F) k)

-- the words of the change are such words, or lie in the type table
abbrev pub IsOfTables : ℕ → Put → Type 0
IsOfTables F put = IsOfPools F put ⊎ LiesWithin TYPE_TABLE POOL_TABLE put

abbrev pub AreOfTables : ℕ → List Put → Type 0
AreOfTables F [] = ⊤
AreOfTables F (put ∷ puts) = IsOfTables F put × AreOfTables F puts

-- Any value may be written to the daemon log, to the words of pools, to the frames, and to the type table, because a
-- pool may bring types.
abbrev pub ByPools : ℕ → Footprint
ByPools F k v = IsInLog DAEMON_LOG k ⊎ (IsPoolsWord F k ⊎ (IsWithin (frames_at F) (device_words F) k ⊎ IsWithin TYPE_TABLE POOL_TABLE k))
