-- What a host has told at each moment of its clock, and the images that a power loss may have left.
use Rattle.std.specs.Prelude.{◌≡◌, ℕ, ◌-◌, List, [], ◌∷◌, ◌++◌, Option, length, take}
use Rattle.pm_model.specs.Words.{Has, Image, Words, Picks}

-- A moment: the bytes printed so far, and the words.
pub record Moment : Type 0 where
  pub said : List ℕ
  pub words : Words

-- The files: for each name, by its bytes, the contents of the file, or None if there is no such file.
abbrev pub Shelf : Type 0
Shelf = List ℕ → Option (List ℕ)

-- What a host tells: the current moment, the earlier moments with the newest first, the bytes left to read, and the
-- shelf.
pub record State : Type 0 where
  pub now : Moment
  pub past : List Moment
  pub script : List ℕ
  pub shelf : Shelf

-- The clock: how many moments came before the current one.
abbrev pub clock : State → ℕ
clock s = length s.past

-- The moments from clock t on, the newest first.
abbrev pub since : ℕ → State → List Moment
since t s = take (length (s.now ∷ s.past) - t) (s.now ∷ s.past)

-- At some moment since `start`, exactly these bytes had been printed since `start`, and the image has for each word one
-- of the values that the word had at that moment.
pub record MayLeave (start now : State) (said : List ℕ) (image : Image) : Type 0 where
  pub moment : Moment
  pub since : Has (since (clock start) now) moment
  pub bytes : moment.said ≡ start.now.said ++ said
  pub picks : Picks moment.words image

-- One more moment, at which the words have changed.
abbrev pub stepped : (Words → Words) → State → State
stepped f s = record s { now = record { said = s.now.said; words = f s.now.words }; past = s.now ∷ s.past }

-- One more moment, at which one more byte is printed.
abbrev pub one_said : ℕ → State → State
one_said b s = record s { now = record { said = s.now.said ++ b ∷ []; words = s.now.words }; past = s.now ∷ s.past }

-- One more moment for each byte that is printed.
abbrev pub all_said : List ℕ → State → State
all_said [] s = s
all_said (b ∷ bytes) s = all_said bytes (one_said b s)

abbrev pub with_script : List ℕ → State → State
with_script bytes s = record s { script = bytes }

abbrev pub with_shelf : Shelf → State → State
with_shelf shelf s = record s { shelf = shelf }
