-- The words that bytes spell, eight bytes each, with the lowest byte first.
use Rattle.std.specs.Prelude.{◌≡◌, ℕ, ◌+◌, ◌*◌, ◌<◌, ◌≤◌, List, Option, length, take, slice_index, slice_range}
use Rattle.std.specs.Io.KnownBytes.{Consumes, IsAtEnd}
use Rattle.std.specs.Int.{from_le_bytes}
use mir.Syntax.{w64}

-- The word of that number. A byte beyond the end counts as zero.
unfoldable pub word_of : List ℕ → ℕ → ℕ
word_of bytes word = from_le_bytes w64 (slice_range bytes (8 * word) (8 * word + 8))

-- A row continues, from the word `first` on, with so many words that a piece spells.
pub record GoesOn (first count : ℕ) (piece old new : List ℕ) : Type 0 where
  pub before : (word : ℕ) → word < first → slice_index new word ≡ slice_index old word
  pub spelled : (place : ℕ) → place < count → slice_index new (first + place) ≡ word_of piece place

-- A piece has the next bytes of a reader, so many, and zeroes after them. If they do not fill the piece, the reader is
-- at its end.
pub record Fills (old new : Option (List ℕ)) (filled : ℕ) (piece : List ℕ) : Type 0 where
  pub within : filled ≤ length piece
  pub taken : Consumes old new (take filled piece)
  pub ended : filled < length piece → IsAtEnd new
  pub zeroes : (at : ℕ) → filled ≤ at → slice_index piece at ≡ 0

-- A row has so many words that the bytes of a reader spell. These bytes are all that the reader had, or enough for all
-- the words.
pub record ReadsWords (count : ℕ) (old new : Option (List ℕ)) (row : List ℕ) : Type 0 where
  pub bytes : List ℕ
  pub taken : Consumes old new bytes
  pub ended : length bytes < 8 * count → IsAtEnd new
  pub spelled : (word : ℕ) → word < count → slice_index row word ≡ word_of bytes word
