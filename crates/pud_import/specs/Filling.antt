-- Frames that are filled with what the frames of a file store.
use Rattle.std.specs.Prelude.{◌≡◌, ℕ, ◌+◌, ◌<◌, ◌==◌, cond, List, slice_get, Option, Some, None}
use Rattle.pm_model.specs.declared.host.HostFault.{HostFault}
use Rattle.pm_model.specs.Words.{Words, HasOnly}
use Rattle.pm_model.specs.Moments.{State}
use Rattle.pm_model.specs.Changes.{Footprint, Changes}
use Rattle.pud_defs.specs.declared.layout.TheConstants.{FRAME_WORDS}
use Rattle.pud_defs.specs.declared.space.TheConstants.{FRAME_NUMBER_WORD}
use Rattle.pud_defs.specs.Formats.Layout.{IsWithin}
use Rattle.pud_defs.specs.Formats.Frames.{frame_at}
use Rattle.pud_defs.specs.PoolGraphs.Stored.{Stored}
use Rattle.registry.specs.declared.adding.NewPuddle.{NewPuddle}

-- ---- one frame

-- the value of word k of a frame that is filled for a puddle of a file: the puddle's own UUID number at its word, and
-- at each other word what the file has
abbrev pub filled_value : Stored → (ordinal number k : ℕ) → ℕ
filled_value file o number k = cond (k == FRAME_NUMBER_WORD) number (file.word o k)

-- any value may be written to the words of a frame
abbrev pub ByFrame : (F frame : ℕ) → Footprint
ByFrame F frame k v = IsWithin (frame_at F frame) (frame_at F frame + FRAME_WORDS) k

-- A frame gets these values, and no other word changes. Without a fault each value is durable.
pub record FillsFrame (F frame : ℕ) (value : ℕ → ℕ) (fault : Option HostFault) (old new : State) : Type 0 where
  pub changes : Changes (ByFrame F frame) fault old new
  pub durable : fault ≡ None → (k : ℕ) → k < FRAME_WORDS → HasOnly (new.now.words (frame_at F frame + k)) (value k)

-- ---- the frames of puddles

-- the word lies in the frame of one of these puddles
pub record IsFrameWord (F : ℕ) (puddles : List NewPuddle) (k : ℕ) : Type 0 where
  pub ordinal : ℕ
  pub added : NewPuddle
  pub there : slice_get puddles ordinal ≡ Some added
  pub word : IsWithin (frame_at F added.frame) (frame_at F added.frame + FRAME_WORDS) k

-- any value may be written to the frames of these puddles
abbrev pub ByFrames : (F : ℕ) → List NewPuddle → Footprint
ByFrames F puddles k v = IsFrameWord F puddles k

-- the frames of these puddles store what the file's frames store, durably, except for the puddles' own UUID numbers
pub record AreFilled (F : ℕ) (file : Stored) (puddles : List NewPuddle) (words : Words) : Type 0 where
  pub each : (o k : ℕ) (a : NewPuddle) → slice_get puddles o ≡ Some a → k < FRAME_WORDS → HasOnly (words (frame_at F a.frame + k)) (filled_value file o a.puddle.number k)
