-- What formatting prints and what it leaves, at every moment.
use Rattle.std.specs.Prelude.{◌≡◌, ◌≢◌, ◌⊎◌, ℕ, ◌<◌, ◌≤◌, Bool, false, ◌||◌, nat_lt, List, [], Option, Some, None}
use Rattle.pm_model.specs.declared.host.HostFault.{HostFault}
use Rattle.pm_model.specs.declared.host.HostFault.TheVariants.{Cut}
use Rattle.pm_model.specs.Words.{Has, values, Words, Picks, HasOnly, IsRested, reads}
use Rattle.pm_model.specs.Moments.{State, MayLeave}
use Rattle.pm_model.specs.Changes.{IsKept, Changes, Leaves, Silently}
use Rattle.pud_defs.specs.declared.layout.TheConstants.{DEVICE_MAGIC, VERSION, MAGIC_WORD, VERSION_WORD, MACHINE_WORD, FRAMES_WORD, NEXT_NUMBER_WORD}
use Rattle.pud_defs.specs.Formats.Layout.{frames_at, device_words}
use Rattle.pud_defs.specs.Formats.Image.{Image}
use Rattle.pud_defs.specs.RegistryTables.Registry.{has_magic}
use Rattle.pud_defs.specs.StateMachine.World.{world_of, blank_world, IsBlank}
use Rattle.pud_defs.specs.Output.Texts.{formatted_text}
use Rattle.puddled.specs.Saying.{SaysPart}
use Rattle.puddle_cli.specs.declared.format.TheConstants.{FIRST_NUMBER}

-- Formatting is refused: the device is formatted already, or it has too few words.
abbrev pub is_format_refused : (size F : ℕ) → Image → Bool
is_format_refused size F image = nat_lt size (device_words F) || has_magic image

-- No value of word 0 is the device magic.
pub record HasNoMagic (words : Words) : Type 0 where
  pub each : (v : ℕ) → Has (values (words MAGIC_WORD)) v → v ≢ DEVICE_MAGIC

-- A word below the frames may get any value.
abbrev pub BelowFrames : ℕ → ℕ → ℕ → Type 0
BelowFrames F k v = k < frames_at F

-- Each word below the frames has exactly one value. Word 0 has the value `first`, the words after it describe the
-- device, and all others are 0.
pub record IsLaidOut (first F id : ℕ) (words : Words) : Type 0 where
  pub magic : HasOnly (words MAGIC_WORD) first
  pub version : HasOnly (words VERSION_WORD) VERSION
  pub machine : HasOnly (words MACHINE_WORD) id
  pub frames : HasOnly (words FRAMES_WORD) F
  pub number : HasOnly (words NEXT_NUMBER_WORD) FIRST_NUMBER
  pub rest : (k : ℕ) → NEXT_NUMBER_WORD < k → k < frames_at F → HasOnly (words k) 0

-- Each word of the image from the frames on has one of the values that these words have there.
pub record HasFramesOf (F : ℕ) (words : Words) (image : Image) : Type 0 where
  pub each : (k : ℕ) → frames_at F ≤ k → Has (values (words k)) (image k)

-- No word from the frames on ever gets a value. If power was not lost, none of these words changes.
pub record KeepsFrames (F : ℕ) (fault : Option HostFault) (old new : State) : Type 0 where
  pub within : (said : List ℕ) (image : Image) → MayLeave old new said image → HasFramesOf F old.now.words image
  pub kept : fault ≢ Some Cut → (k : ℕ) → frames_at F ≤ k → IsKept (old.now.words k) (new.now.words k)

-- The words below the frames are laid out. If no value of word 0 was the magic, each image that a power loss may leave
-- at any moment has no magic, or is the image of the blank device. Without a fault each word below the frames has its
-- one value, each image left is that of the blank device, and a rested device stays rested.
pub record LaysOut (F id : ℕ) (fault : Option HostFault) (old new : State) : Type 0 where
  pub changes : Changes (BelowFrames F) fault old new
  pub moments : HasNoMagic old.now.words → Leaves (Silently (λ image. (has_magic image ≡ false) ⊎ IsBlank F id image)) old new
  pub laid : fault ≡ None → IsLaidOut DEVICE_MAGIC F id new.now.words
  pub blank : fault ≡ None → (image : Image) → Picks new.now.words image → IsBlank F id image
  pub rested : fault ≡ None → IsRested old.now.words → IsRested new.now.words

-- A device was formatted. If it was rested and without the magic, each image that a power loss may leave at any moment
-- is not sound or stands for the empty world. On a rested device each image left after a byte was printed stands for
-- the empty world. No word from the frames on gets a value. Without a fault the text is printed whole, each word below
-- the frames has its one value, what the device reads stands for the empty world, and a rested device stays rested.
pub record Formats (size F id : ℕ) (fault : Option HostFault) (old new : State) : Type 0 where
  pub says : SaysPart formatted_text fault old new
  pub moments : IsRested old.now.words → has_magic (reads old.now.words) ≡ false → (said : List ℕ) (image : Image) → MayLeave old new said image
      → (world_of size image ≡ None) ⊎ (world_of size image ≡ Some (blank_world F id))
  pub acknowledged : IsRested old.now.words → (said : List ℕ) (image : Image) → MayLeave old new said image → (said ≡ []) ⊎ (world_of size image ≡ Some (blank_world F id))
  pub frames : KeepsFrames F fault old new
  pub laid : fault ≡ None → IsLaidOut DEVICE_MAGIC F id new.now.words
  pub world : fault ≡ None → world_of size (reads new.now.words) ≡ Some (blank_world F id)
  pub rested : fault ≡ None → IsRested old.now.words → IsRested new.now.words
  pub script : new.script ≡ old.script
  pub shelf : new.shelf ≡ old.shelf
