-- A pool that is placed, word by word: its frames are filled, and after that its batch is written.
use Rattle.std.proofs.Common.{◌≡◌, inl, inr, ⊎_elim, ℕ, List, map, Option, Some, None, refl, ap, subst, arith}
use Rattle.pm_model.specs.declared.host.HostFault.{HostFault}
use Rattle.pm_model.specs.Moments.{State}
use Rattle.pm_model.specs.Changes.{Changes}
use Rattle.pm_model.proofs.Changes.{Changes-now}
use Rattle.pud_defs.specs.declared.layout.TheConstants.{DAEMON_LOG, NEXT_NUMBER_WORD}
use Rattle.pud_defs.specs.declared.records.PoolRecord.{PoolRecord}
use Rattle.pud_defs.specs.Formats.Image.{Image}
use Rattle.pud_defs.specs.PoolGraphs.Stored.{Stored}
use Rattle.batch.specs.Batches.{HasIdleGate}
use Rattle.registry.specs.declared.adding.NewPuddle.{NewPuddle}
use Rattle.registry.specs.declared.placing.NewType.{NewType}
use Rattle.registry.specs.Placing.{placing, IsPlacedFor}
use Rattle.registry.specs.Pools.{new_record, CommitsPuts}
use Rattle.pud_import.specs.Filling.{ByFrames, AreFilled}
use Rattle.pud_import.specs.Places.{FramesRise}
use Rattle.pud_import.specs.Placing.{Placement, PlacesSomewhere}
use Rattle.pud_import.proofs.FilesPlaced.PlacedPuddles.{placed_rise}

-- filling frames does not change the daemon log
pub HasIdleGate-frames : (F : ℕ) (puddles : List NewPuddle) (fault : Option HostFault) (a b : State) → Changes (ByFrames F puddles) fault a b → HasIdleGate DAEMON_LOG a.now.words → HasIdleGate DAEMON_LOG b.now.words
HasIdleGate-frames F puddles fault a b c idle = record {
  each = λ v had. ⊎_elim (λ was. idle.each v was) (λ of. let low = of.word.low in absurd (omega arith)) (Changes-now (ByFrames F puddles) fault a b c DAEMON_LOG v had);
}

module _ (F : ℕ) (image : Image) (file : Stored) (types : List (ℕ × ℕ)) (slot : ℕ) (r : PoolRecord) (new : List NewType) (puddles : List NewPuddle) (is : IsPlacedFor F image types (map (λ d. d.base) file.puddles) (map (λ d. d.class) file.puddles) slot r new puddles) where
  abbrev p : Placement
  p = record { slot = slot; types = new; puddles = puddles }

  abbrev drawn : PoolRecord
  drawn = new_record r.name r.uid r.gid r.mode (image NEXT_NUMBER_WORD)

  is_drawn : r ≡ drawn
  is_drawn = ap (new_record r.name r.uid r.gid r.mode) is.number

  placed_so : IsPlacedFor F image types (map (λ d. d.base) file.puddles) (map (λ d. d.class) file.puddles) slot drawn new puddles
  placed_so = subst (λ (r : PoolRecord). IsPlacedFor F image types (map (λ d. d.base) file.puddles) (map (λ d. d.class) file.puddles) slot r new puddles) is_drawn is

  -- the frames could not be filled, so the batch is not written
  pub PlacesSomewhere-unfilled : (fault : HostFault) (old mid : State) → Changes (ByFrames F puddles) (Some fault) old mid → PlacesSomewhere F image file types r.name r.uid r.gid r.mode (Some fault) old mid
  PlacesSomewhere-unfilled fault old mid c = record {
    placement = p;
    is = placed_so;
    mid = mid;
    first = Some fault;
    fills = c;
    filled = λ none. absurd (let no : Some fault ≡ None = none in cc);
    then = inl (refl, refl, λ none. let no : Some fault ≡ None = none in cc);
  }

  -- they were filled, and after that the batch is written
  pub PlacesSomewhere-filled : (fault : Option HostFault) (old mid later : State) → Changes (ByFrames F puddles) None old mid → (FramesRise puddles → ◌≡◌ {A = Option HostFault} None None → AreFilled F file puddles mid.now.words) → HasIdleGate DAEMON_LOG old.now.words
      → (HasIdleGate DAEMON_LOG mid.now.words → CommitsPuts (placing slot r new puddles) fault mid later) → PlacesSomewhere F image file types r.name r.uid r.gid r.mode fault old later
  PlacesSomewhere-filled fault old mid later c filled idle commits = record {
    placement = p;
    is = placed_so;
    mid = mid;
    first = None;
    fills = c;
    filled = λ none. filled (placed_rise F image types (map (λ d. d.base) file.puddles) (map (λ d. d.class) file.puddles) slot r new puddles is) refl;
    then = inr (refl, subst (λ (r : PoolRecord). CommitsPuts (placing slot r new puddles) fault mid later) is_drawn (commits (HasIdleGate-frames F puddles None old mid c idle)));
  }

-- the same from the state before, if only reads came in between
pub PlacesSomewhere-after : {F : ℕ} {image : Image} {file : Stored} {types : List (ℕ × ℕ)} {name : List ℕ} {uid gid mode : ℕ} {fault : Option HostFault} {old read new : State} → read ≡ old
    → (HasIdleGate DAEMON_LOG read.now.words → PlacesSomewhere F image file types name uid gid mode fault read new) → HasIdleGate DAEMON_LOG old.now.words → PlacesSomewhere F image file types name uid gid mode fault old new
PlacesSomewhere-after {F = F} {image = image} {file = file} {types = types} {name = name} {uid = uid} {gid = gid} {mode = mode} {fault = fault} {new = new} same =
    subst (λ (s : State). HasIdleGate DAEMON_LOG s.now.words → PlacesSomewhere F image file types name uid gid mode fault s new) same
