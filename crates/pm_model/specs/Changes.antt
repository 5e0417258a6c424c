-- Relations between the states before and after some calls. They compose.
use Rattle.std.specs.Prelude.{◌≡◌, ◌⊎◌, ℕ, ◌-◌, Bool, true, ◌==◌, nat_le, cond, List, [], ◌∷◌, ◌++◌, slice_get, Option, Some, None}
use Rattle.pm_model.specs.declared.host.HostFault.{HostFault}
use Rattle.pm_model.specs.declared.host.HostFault.TheVariants.{Cut}
use Rattle.pm_model.specs.Words.{Has, Cell, values, Image, Picks, HasOnly, IsRested}
use Rattle.pm_model.specs.Moments.{Moment, State}

-- At this moment some bytes had been printed since `start`. Each image that may be left then has P with these bytes.
pub record LeavesAt (P : List ℕ → Image → Type 0) (start : List ℕ) (moment : Moment) : Type 0 where
  pub bytes : List ℕ
  pub said : moment.said ≡ start ++ bytes
  pub each : (image : Image) → Picks moment.words image → P bytes image

-- Each image that may be left at some moment from `old` on has P with the bytes printed since `old`.
pub record Leaves (P : List ℕ → Image → Type 0) (old new : State) : Type 0 where
  pub added : List Moment
  pub history : new.now ∷ new.past ≡ added ++ old.now ∷ old.past
  pub start : (image : Image) → Picks old.now.words image → P [] image
  pub later : (moment : Moment) → Has added moment → LeavesAt P old.now.said moment

-- The image has P, and nothing was printed.
abbrev pub Silently : (Image → Type 0) → List ℕ → Image → Type 0
Silently P bytes image = (bytes ≡ []) × P image

-- What these calls leave passes the test, with the bytes printed since `old`.
abbrev pub LeavesPassing : (List ℕ → Image → Bool) → (old new : State) → Type 0
LeavesPassing test old new = Leaves (λ said image. test said image ≡ true) old new

-- What passes the first test passes the joined one, in which these bytes come before its own.
abbrev pub PassesAfter : (bytes : List ℕ) → (test joined : List ℕ → Image → Bool) → Type 0
PassesAfter bytes test joined = (said : List ℕ) (image : Image) → test said image ≡ true → joined (bytes ++ said) image ≡ true

-- Which value may be written to which word.
abbrev pub Footprint : Type 1
Footprint = ℕ → ℕ → Type 0

-- The word's newest value stays, and so does the mark on it.
pub record IsKept (old new : Cell) : Type 0 where
  pub newest : new.newest ≡ old.newest
  pub marked : old.kept ≡ [] → new.kept ≡ []

-- Nothing was printed. At each moment a word has values that it had before, or that may be written to it. A word to
-- which no value may be written keeps its newest value and its mark, unless power was lost. A power loss leaves each
-- word with one value. The script and the shelf do not change.
pub record Changes (may : Footprint) (fault : Option HostFault) (old new : State) : Type 0 where
  pub added : List Moment
  pub history : new.now ∷ new.past ≡ added ++ old.now ∷ old.past
  pub quiet : (moment : Moment) → Has added moment → moment.said ≡ old.now.said
  pub within : (moment : Moment) → Has added moment → (k v : ℕ) → Has (values (moment.words k)) v → Has (values (old.now.words k)) v ⊎ may k v
  pub keeps : (fault ≡ Some Cut → ⊥) → (k : ℕ) → ((v : ℕ) → may k v → ⊥) → IsKept (old.now.words k) (new.now.words k)
  pub rests : fault ≡ Some Cut → IsRested new.now.words
  pub script : new.script ≡ old.script
  pub shelf : new.shelf ≡ old.shelf

-- Each word of the image has its value of the image before, or a value that may be written to it.
pub record IsFrom (may : Footprint) (before image : Image) : Type 0 where
  pub each : (k : ℕ) → (image k ≡ before k) ⊎ may k (image k)

-- The value that is to be written to each word, if there is one.
abbrev pub Write : Type 0
Write = ℕ → Option ℕ

-- One word gets this value.
abbrev pub only : ℕ → ℕ → Write
only w v k = cond (k == w) (Some v) None

-- The words from w on get these values in turn.
abbrev pub placed : ℕ → List ℕ → Write
placed w vals k = cond (nat_le w k) (slice_get vals (k - w)) None

abbrev pub written : Write → Footprint
written write k v = write k ≡ Some v

-- These words are written, and no others. Without a fault each of them has its value as the newest, and marked.
pub record Writes (write : Write) (fault : Option HostFault) (old new : State) : Type 0 where
  pub changes : Changes (written write) fault old new
  pub newest : fault ≡ None → (k v : ℕ) → write k ≡ Some v → (new.now.words k).newest ≡ v
  pub marked : fault ≡ None → (k v : ℕ) → write k ≡ Some v → (new.now.words k).kept ≡ []

-- These words are written, and no others. Without a fault each of them has its value and no other value.
pub record Persists (write : Write) (fault : Option HostFault) (old new : State) : Type 0 where
  pub changes : Changes (written write) fault old new
  pub durable : fault ≡ None → (k v : ℕ) → write k ≡ Some v → HasOnly (new.now.words k) v
