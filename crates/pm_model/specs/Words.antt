-- The model of the device: a row of words, each with the values that it has had since it was last made durable.
use Rattle.std.specs.Prelude.{◌≡◌, ◌⊎◌, ℕ, ◌/◌, ◌==◌, cond, List, [], ◌∷◌, ◌++◌}

-- The list has x.
abbrev pub Has : {X : Type 0} → List X → X → Type 0
Has [] x = ⊥
Has (y ∷ ys) x = (x ≡ y) ⊎ Has ys x

-- A word: its newest value, the older values from the mark on, and the values before the mark, which a fence drops.
-- Each list has the newest value first. If a word was not marked since it was last made durable, its mark is at the
-- durable value.
pub record Cell : Type 0 where
  pub newest : ℕ
  pub kept : List ℕ
  pub passed : List ℕ

-- The values of a word, the newest first and the durable one last.
abbrev pub values : Cell → List ℕ
values c = c.newest ∷ c.kept ++ c.passed

-- The last of the list, or x if the list is empty.
abbrev pub last_or : ℕ → List ℕ → ℕ
last_or x [] = x
last_or x (y ∷ ys) = last_or y ys

-- The durable value, which is the oldest one. A power loss leaves this value or a newer one.
abbrev pub durable : Cell → ℕ
durable c = last_or c.newest (c.kept ++ c.passed)

-- a word with one value
abbrev pub single : ℕ → Cell
single v = record { newest = v; kept = []; passed = [] }

-- a store appends a value
abbrev pub stored : ℕ → Cell → Cell
stored v c = record { newest = v; kept = c.newest ∷ c.kept; passed = c.passed }

-- a flush marks the newest value
abbrev pub marked : Cell → Cell
marked c = record { newest = c.newest; kept = []; passed = c.kept ++ c.passed }

-- a fence drops all values before the mark
abbrev pub fenced : Cell → Cell
fenced c = record { newest = c.newest; kept = c.kept; passed = [] }

-- the device's words by their numbers
abbrev pub Words : Type 0
Words = ℕ → Cell

-- one value for each word
abbrev pub Image : Type 0
Image = ℕ → ℕ

abbrev pub after_store : ℕ → ℕ → Words → Words
after_store w v words k = cond (k == w) (stored v (words k)) (words k)

-- a line is eight words
abbrev pub after_flush : ℕ → Words → Words
after_flush line words k = cond (k / 8 == line) (marked (words k)) (words k)

abbrev pub after_fence : Words → Words
after_fence words k = fenced (words k)

-- a power loss leaves one value of each word
abbrev pub after_loss : Image → Words → Words
after_loss image words k = single (image k)

-- what the device reads: the newest values
abbrev pub reads : Words → Image
reads words k = (words k).newest

-- For each word the image has one of the word's values.
pub record Picks (words : Words) (image : Image) : Type 0 where
  pub each : (k : ℕ) → Has (values (words k)) (image k)

-- the word has this value and no other
pub record HasOnly (c : Cell) (v : ℕ) : Type 0 where
  pub each : (x : ℕ) → Has (values c) x → x ≡ v

-- each word has one value
pub record IsRested (words : Words) : Type 0 where
  pub each : (k : ℕ) → HasOnly (words k) (words k).newest
