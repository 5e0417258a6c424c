-- Lemmas on why each status comes, by the counts.
use Rattle.std.proofs.Common.{◌≡◌, inl, inr, ℕ, Option, Some, None, refl, sym, ap, subst, ◌∙◌, arith}
use Rattle.pm_model.specs.declared.host.HostFault.{HostFault}
use Rattle.pm_model.specs.declared.host.HostFault.TheVariants as hosts
use Rattle.pm_model.specs.Counts.{Counts, Rose, risen, after_fault}
use Rattle.pud_defs.specs.Formats.Image.{Image}
use Rattle.pud_defs.specs.StateMachine.World.{StoredWorld, world_of}
use Rattle.puddled.specs.declared.daemon.RunFault.{RunFault}
use Rattle.puddled.specs.declared.daemon.RunFault.TheVariants as faults
use Rattle.puddled.specs.Faults.{Grows, CountsToEnd}
use Rattle.puddled.proofs.DeviceStarts.Counted.{Grows-still, risen_least}
use Rattle.puddle_cli.specs.declared.status.TheConstants.{DONE, NOT_USABLE, DEVICE_FAULT, POWER_LOST, TOO_LONG}
use Rattle.puddle_cli.specs.Status.{status_fault, run_fault_at, status_at, IsStatusOfMode, Causes}

module _ (old new : Counts) where
  -- The run went on over lines, and the counts grew.
  pub Causes-grows : (status : ℕ) → (status ≡ DEVICE_FAULT → ⊥) → (status ≡ POWER_LOST → Rose old.cuts new.cuts) → Grows old new → Causes status old new
  Causes-grows status no_fault lost g =
      record { faults = λ e. absurd (no_fault e); no_faults = λ _. g.faults; cuts = lost; kept = g.cuts; arms = g.arms; losses = g.losses; size = g.size }

  -- Nothing was counted.
  pub Causes-nothing : (status : ℕ) → (status ≡ DEVICE_FAULT → ⊥) → (status ≡ POWER_LOST → ⊥) → new ≡ old → Causes status old new
  Causes-nothing status no_fault no_cut same = Causes-grows status no_fault (λ e. absurd (no_cut e)) (Grows-still old new same)

  Causes-failed : (mid : Counts) → Grows old mid → new ≡ after_fault (Some hosts.Failed) mid → Causes DEVICE_FAULT old new
  Causes-failed mid g last =
      let rose : new.faults ≡ risen old.faults = ap (λ (x : Counts). x.faults) last ∙ ap risen g.faults in
      let cuts : new.cuts ≡ mid.cuts = ap (λ (x : Counts). x.cuts) last in
      let arms : new.arms ≡ mid.arms = ap (λ (x : Counts). x.arms) last in
      let losses : new.losses ≡ mid.losses = ap (λ (x : Counts). x.losses) last in
      let more_cuts = g.cuts in
      let more_arms = g.arms in
      let more_losses = g.losses in
      record {
        faults = λ _. omega arith;
        no_faults = λ no. absurd (no refl);
        cuts = λ e. absurd (let no : DEVICE_FAULT ≡ POWER_LOST = e in cc);
        kept = omega arith;
        arms = omega arith;
        losses = omega arith;
        size = ap (λ (x : Counts). x.size) last ∙ g.size;
      }

  -- A mode without lines.
  pub Causes-after : (status : ℕ) → IsStatusOfMode status → new ≡ after_fault (status_fault status) old → Causes status old new
  Causes-after status (inl done) e =
      Causes-nothing status (λ f. let no : DONE ≡ DEVICE_FAULT = sym done ∙ f in cc) (λ f. let no : DONE ≡ POWER_LOST = sym done ∙ f in cc) (e ∙ ap (λ (s : ℕ). after_fault (status_fault s) old) done)
  Causes-after status (inr (inl refused)) e =
      Causes-nothing status (λ f. let no : NOT_USABLE ≡ DEVICE_FAULT = sym refused ∙ f in cc) (λ f. let no : NOT_USABLE ≡ POWER_LOST = sym refused ∙ f in cc) (e ∙ ap (λ (s : ℕ). after_fault (status_fault s) old) refused)
  Causes-after status (inr (inr (inl failed))) e =
      subst (λ (s : ℕ). Causes s old new) (sym failed) (Causes-failed old (Grows-still old old refl) (e ∙ ap (λ (s : ℕ). after_fault (status_fault s) old) failed))
  Causes-after status (inr (inr (inr (inl cut)))) e =
      let last : new ≡ after_fault (Some hosts.Cut) old = e ∙ ap (λ (s : ℕ). after_fault (status_fault s) old) cut in
      let rose : new.cuts ≡ risen old.cuts = ap (λ (x : Counts). x.cuts) last in
      let arms : new.arms ≡ old.arms = ap (λ (x : Counts). x.arms) last in
      let losses : new.losses ≡ old.losses = ap (λ (x : Counts). x.losses) last in
      let least = risen_least old.cuts in
      Causes-grows status (λ f. let no : POWER_LOST ≡ DEVICE_FAULT = sym cut ∙ f in cc) (λ _. omega arith)
      (record { size = ap (λ (x : Counts). x.size) last; faults = ap (λ (x : Counts). x.faults) last; cuts = omega arith; arms = omega arith; losses = omega arith })
  Causes-after status (inr (inr (inr (inr long)))) e =
      Causes-nothing status (λ f. let no : TOO_LONG ≡ DEVICE_FAULT = sym long ∙ f in cc) (λ f. let no : TOO_LONG ≡ POWER_LOST = sym long ∙ f in cc) (e ∙ ap (λ (s : ℕ). after_fault (status_fault s) old) long)

  -- A run that could not go on.
  pub Causes-run : (fault : RunFault) → CountsToEnd (Some fault) old new → Causes (status_at fault) old new
  Causes-run faults.Failed c = Causes-failed c.before c.grows c.last
  Causes-run faults.CutInStart c =
      let cuts : new.cuts ≡ c.before.cuts = ap (λ (x : Counts). x.cuts) c.last in
      let rose = c.cuts in
      Causes-grows POWER_LOST (λ f. let no : POWER_LOST ≡ DEVICE_FAULT = f in cc) (λ _. omega arith) (subst (λ (x : Counts). Grows old x) (sym c.last) c.grows)
  Causes-run faults.NotSound c =
      Causes-grows NOT_USABLE (λ f. let no : NOT_USABLE ≡ DEVICE_FAULT = f in cc) (λ f. absurd (let no : NOT_USABLE ≡ POWER_LOST = f in cc)) (subst (λ (x : Counts). Grows old x) (sym c.last) c.grows)

  -- If neither count rose and the device stays sound, a run goes on.
  pub goes_on : (Rose old.faults new.faults → ⊥) → (Rose old.cuts new.cuts → ⊥) → (fault : RunFault) → CountsToEnd (Some fault) old new → (Some fault ≡ Some faults.NotSound → ⊥) → ⊥
  goes_on no_fault no_cut faults.Failed c sound = no_fault ((Causes-run faults.Failed c).faults refl)
  goes_on no_fault no_cut faults.CutInStart c sound = no_cut ((Causes-run faults.CutInStart c).cuts refl)
  goes_on no_fault no_cut faults.NotSound c sound = sound refl

-- A mode without lines is done if it is not refused and neither count rose.
pub done_by : (old new : Counts) (status : ℕ) → IsStatusOfMode status → (status ≡ TOO_LONG → ⊥) → new ≡ after_fault (status_fault status) old → (Rose old.faults new.faults → ⊥) → (Rose old.cuts new.cuts → ⊥) → (status ≡ NOT_USABLE → ⊥) → status ≡ DONE
done_by old new status (inl done) short last no_fault no_cut usable = done
done_by old new status (inr (inl refused)) short last no_fault no_cut usable = absurd (usable refused)
done_by old new status (inr (inr (inl failed))) short last no_fault no_cut usable = absurd (no_fault ((Causes-after old new status (inr (inr (inl failed))) last).faults failed))
done_by old new status (inr (inr (inr (inl cut)))) short last no_fault no_cut usable = absurd (no_cut ((Causes-after old new status (inr (inr (inr (inl cut)))) last).cuts cut))
done_by old new status (inr (inr (inr (inr long)))) short last no_fault no_cut usable = absurd (short long)

-- A run from a device that stands for a world never ends with the device not sound.
pub stays_sound : (size : ℕ) (image : Image) (world : Option StoredWorld) → world_of size image ≡ world → (world_of size image ≡ None → ⊥) → (fault : RunFault)
    → ((s : StoredWorld) → world_of size image ≡ Some s → Some fault ≡ Some faults.NotSound → ⊥) → Some fault ≡ Some faults.NotSound → ⊥
stays_sound size image None e some fault sound is = some e
stays_sound size image (Some s) e some fault sound is = sound s e is

-- A run that could not go on ends with status 4 only if the device is not sound.
pub usable_by : (size : ℕ) (image : Image) (world : Option StoredWorld) → world_of size image ≡ world → (fault : RunFault)
    → ((s : StoredWorld) → world_of size image ≡ Some s → Some fault ≡ Some faults.NotSound → ⊥) → status_at fault ≡ NOT_USABLE → world_of size image ≡ None
usable_by size image None e fault sound is = e
usable_by size image (Some s) e faults.Failed sound is = absurd (let no : DEVICE_FAULT ≡ NOT_USABLE = is in cc)
usable_by size image (Some s) e faults.CutInStart sound is = absurd (let no : POWER_LOST ≡ NOT_USABLE = is in cc)
usable_by size image (Some s) e faults.NotSound sound is = absurd (sound s e refl)

-- The status tells why a run could not go on. It is no status of a run that could.
pub fault_at_status : (fault : RunFault) → run_fault_at (status_at fault) ≡ Some fault
fault_at_status faults.Failed = refl
fault_at_status faults.CutInStart = refl
fault_at_status faults.NotSound = refl

pub not_whole_at : (fault : RunFault) (status : ℕ) → run_fault_at status ≡ None → status_at fault ≡ status → ⊥
not_whole_at fault status none is = let no : Some fault ≡ None = sym (fault_at_status fault) ∙ ap run_fault_at is ∙ none in cc

-- The status of a host that failed is 5.
pub failed_status : (status : ℕ) → IsStatusOfMode status → status_fault status ≡ Some hosts.Failed → status ≡ DEVICE_FAULT
failed_status status (inl done) is = absurd (let no : None ≡ Some hosts.Failed = ap status_fault (sym done) ∙ is in cc)
failed_status status (inr (inl refused)) is = absurd (let no : None ≡ Some hosts.Failed = ap status_fault (sym refused) ∙ is in cc)
failed_status status (inr (inr (inl failed))) is = failed
failed_status status (inr (inr (inr (inl cut)))) is = absurd (let no : Some hosts.Cut ≡ Some hosts.Failed = ap status_fault (sym cut) ∙ is in cc)
failed_status status (inr (inr (inr (inr long)))) is = absurd (let no : None ≡ Some hosts.Failed = ap status_fault (sym long) ∙ is in cc)

-- A status that tells of a host's fault is none at which a run is whole.
pub not_whole_of : (status : ℕ) (fault : HostFault) → IsStatusOfMode status → status_fault status ≡ Some fault → run_fault_at status ≡ None → ⊥
not_whole_of status fault (inl done) is none = absurd (let it : None ≡ Some fault = ap status_fault (sym done) ∙ is in cc)
not_whole_of status fault (inr (inl refused)) is none = absurd (let it : None ≡ Some fault = ap status_fault (sym refused) ∙ is in cc)
not_whole_of status fault (inr (inr (inl failed))) is none = absurd (let it : Some faults.Failed ≡ None = ap run_fault_at (sym failed) ∙ none in cc)
not_whole_of status fault (inr (inr (inr (inl cut)))) is none = absurd (let it : Some faults.CutInStart ≡ None = ap run_fault_at (sym cut) ∙ none in cc)
not_whole_of status fault (inr (inr (inr (inr long)))) is none = absurd (let it : None ≡ Some fault = ap status_fault (sym long) ∙ is in cc)

-- A status that tells of a host's fault is not 4.
pub fault_is_usable : (status : ℕ) (fault : HostFault) → status_fault status ≡ Some fault → status ≡ NOT_USABLE → ⊥
fault_is_usable status fault is unusable = let no : None ≡ Some fault = ap status_fault (sym unusable) ∙ is in cc

pub unsound_by : (fault : RunFault) → status_at fault ≡ NOT_USABLE → fault ≡ faults.NotSound
unsound_by faults.Failed is = absurd (let no : DEVICE_FAULT ≡ NOT_USABLE = is in cc)
unsound_by faults.CutInStart is = absurd (let no : POWER_LOST ≡ NOT_USABLE = is in cc)
unsound_by faults.NotSound is = refl
