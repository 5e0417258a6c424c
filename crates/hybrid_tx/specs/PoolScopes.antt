-- The scope of a transaction on a pool: its words are those of its puddles' frames, and global addresses name them.
use Rattle.std.specs.Prelude.{◌≡◌, ℕ, ◌+◌, ◌*◌, ◌%◌, ◌<◌, Bool, true, ◌&&◌, nat_le, nat_lt, ◌==◌, List, [], ◌∷◌, All, map, slice_get, Option, Some, None, option_map}
use Rattle.std.specs.List.{list_any, filter}
use Rattle.std.specs.Option.{option_or}
use Rattle.pud_defs.specs.declared.layout.TheConstants.{FRAME_WORDS}
use Rattle.pud_defs.specs.declared.space.TheConstants.{RANGE_BYTES, WORD_BYTES}
use Rattle.pud_defs.specs.declared.records.Puddle.{Puddle}
use Rattle.pud_defs.specs.Formats.Bases.{is_legal_base}
use Rattle.pud_defs.specs.Formats.Geometry.{IsFinished, is_finished}
use Rattle.pud_defs.specs.Formats.Frames.{frame_at}
use Rattle.pud_defs.specs.RegistryTables.Places.{word_in}
use Rattle.pud_defs.specs.Logging.Replay.{AddressMap}
use Rattle.graph_laws.specs.Changes.{AreBases}
use Rattle.graph_laws.specs.Reads.{HasDistinctFrames}
use Rattle.word_transaction.specs.Scope.{Scope}

-- ---- addresses

-- the device word in which an address lies, if the range of this puddle has it
abbrev pub word_by : (F address : ℕ) → ℕ × Puddle → Option ℕ
word_by F address e = option_map (λ k. frame_at F e.0 + k) (word_in e.1.base address)

-- the same for the first of these puddles whose range has it
unfoldable pub pool_place : ℕ → List (ℕ × Puddle) → AddressMap
pool_place F [] address = None
pool_place F (e ∷ at) address = let later = pool_place F at address in option_or (word_by F address e) later

-- the range of this puddle has this many words from an address on
abbrev pub has_words : (address count : ℕ) → ℕ × Puddle → Bool
has_words address count e = nat_le e.1.base address && nat_le (address + WORD_BYTES * count) (e.1.base + RANGE_BYTES)

-- the address is that of a word, the count is at least 1, and the range of one of these puddles has this many words
-- from it on
unfoldable pub pool_may_name : List (ℕ × Puddle) → (address count : ℕ) → Bool
pool_may_name at address count = (address % WORD_BYTES) == 0 && nat_le 1 count && list_any (has_words address count) at

-- ---- words

-- the word is one of this puddle's frame
abbrev pub is_in_puddle : (F k : ℕ) → ℕ × Puddle → Bool
is_in_puddle F k e = nat_le (frame_at F e.0) k && nat_lt k (frame_at F e.0 + FRAME_WORDS)

-- the word is one of the frames of these puddles
unfoldable pub pool_has_word : ℕ → List (ℕ × Puddle) → ℕ → Bool
pool_has_word F at k = list_any (is_in_puddle F k) at

-- the scope of a transaction on these puddles
abbrev pub pool_scope : ℕ → List (ℕ × Puddle) → Scope
pool_scope F at = record { place = pool_place F at; may_name = pool_may_name at; has_word = pool_has_word F at }

-- ---- how puddles lie

-- Puddles of one pool or of several: they are in frames of the device, no two in one frame. Their ranges are in the
-- space, and no two of them meet.
pub record ArePlacedPuddles (F : ℕ) (at : List (ℕ × Puddle)) : Type 0 where
  pub below : All (λ e. e.0 < F) at
  pub frames : HasDistinctFrames at
  pub legal : All (λ e. is_legal_base e.1.base ≡ true) at
  pub bases : AreBases (map (λ d. d.base) (map (λ e. e.1) at))

-- each pointer in the puddle of this ordinal stands over the pool's bases
pub record IsRewrittenAt (at : List (ℕ × Puddle)) (ordinal : ℕ) : Type 0 where
  pub each : (e : ℕ × Puddle) → slice_get at ordinal ≡ Some e → IsFinished e.1

-- each pointer in the puddle stands over the pool's bases
abbrev pub holds_finished : ℕ × Puddle → Bool
holds_finished e = is_finished e.1

-- the finished ones among these puddles
abbrev pub finished_of : List (ℕ × Puddle) → List (ℕ × Puddle)
finished_of at = filter holds_finished at
