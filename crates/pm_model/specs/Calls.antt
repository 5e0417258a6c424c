-- How each call of a host changes what the host tells.
use Rattle.std.specs.Prelude.{◌≡◌, ◌⊎◌, ℕ, ◌-◌, ◌≤◌, List, [], ◌∷◌, Option, Some, None, length, take, cond}
use Rattle.std.specs.Str.{bytes_eq}
use Rattle.pm_model.specs.declared.host.HostFault.{HostFault}
use Rattle.pm_model.specs.declared.host.HostFault.TheVariants.{Failed, Cut}
use Rattle.pm_model.specs.declared.losses.Armed.{Armed}
use Rattle.pm_model.specs.Words.{Image, Words, Picks, IsRested, after_loss}
use Rattle.pm_model.specs.Moments.{State, Shelf, stepped, all_said, with_script, with_shelf}

-- Power is lost. Each word keeps one of its values and has no other.
pub record LosesPower (old new : State) : Type 0 where
  pub image : Image
  pub picked : Picks old.now.words image
  pub is : new ≡ stepped (after_loss image) old

-- Power is lost. If each word has one value, this changes nothing, and then it may take no moment.
abbrev pub LosesAtOnce : State → State → Type 0
LosesAtOnce old new = LosesPower old new ⊎ (IsRested old.now.words × (new ≡ old))

-- A device step. It was carried out, it failed, or a power loss cut it.
pub record Steps (f : Words → Words) (fault : Option HostFault) (old new : State) : Type 0 where
  pub done : fault ≡ None → new ≡ stepped f old
  pub failed : fault ≡ Some Failed → new ≡ old
  pub cut : fault ≡ Some Cut → LosesPower old new

-- What is armed after a step that was carried out.
abbrev pub counted_down : Option Armed → Option Armed
counted_down None = None
counted_down (Some a) = Some (record a { steps = a.steps - 1 })

-- The armed cut comes at the next step.
abbrev pub IsDue : Option Armed → Type 0
IsDue None = ⊥
IsDue (Some a) = a.steps ≤ 1

-- A step that is carried out counts an armed cut down. If the cut is due, the step is not carried out. A step that
-- failed changes nothing here. After a cut nothing is armed.
pub record CountsDown (fault : Option HostFault) (old new : Option Armed) : Type 0 where
  pub done : fault ≡ None → new ≡ counted_down old
  pub not_due : fault ≡ None → IsDue old → ⊥
  pub failed : fault ≡ Some Failed → new ≡ old
  pub cut : fault ≡ Some Cut → new ≡ None

-- The next byte of the script is taken, or none is left.
abbrev pub TakesByte : Option ℕ → State → State → Type 0
TakesByte None old new = (old.script ≡ []) × (new ≡ old)
TakesByte (Some byte) old new = (old.script ≡ byte ∷ new.script) × (new ≡ with_script new.script old)

-- The bytes are printed. With a fault a prefix of them is printed.
pub record Says (bytes : List ℕ) (fault : Option HostFault) (old new : State) : Type 0 where
  pub count : ℕ
  pub within : count ≤ length bytes
  pub is : new ≡ all_said (take count bytes) old
  pub whole : fault ≡ None → count ≡ length bytes

-- The shelf with this entry under the name. None stands for no file.
abbrev pub shelved : List ℕ → Option (List ℕ) → Shelf → Shelf
shelved name entry shelf other = cond (bytes_eq other name) entry (shelf other)

-- The file of this name was left in some state. No other file changed.
pub record LeavesFile (name : List ℕ) (old new : State) : Type 0 where
  pub entry : Option (List ℕ)
  pub is : new ≡ with_shelf (shelved name entry old.shelf) old
