-- Calls that only read, one after the other.
use Rattle.std.proofs.Common.{◌≡◌, ℕ, Option, None, refl, ap, sym, ◌∙◌}
use Rattle.std.proofs.lemmas.Option.{none-some}
use Rattle.pm_model.specs.declared.host.HostFault.{HostFault}
use Rattle.pm_model.specs.declared.host.HostFault.TheVariants.{Cut}
use Rattle.pm_model.specs.Words.{Image, reads}
use Rattle.pm_model.specs.Moments.{State}
use Rattle.pm_model.specs.Counts.{Counts, after_fault}
use Rattle.pm_model.specs.Changes.{Footprint, Changes}
use Rattle.pm_model.specs.Reads.{OnlyReads}
use Rattle.pm_model.proofs.Changes.{Changes-still}

-- If there is no call, nothing changes.
pub OnlyReads-none : {H : Type 0} {tells : Type 0} {state : H → State} {counts : H → Counts} {h : H} → OnlyReads tells state counts None h h
OnlyReads-none = record { stays = λ t. refl; cause = refl; never_cut = none-some Cut }

-- If a call that only reads succeeds, and one more follows it, then both together only read.
pub OnlyReads-then : {H : Type 0} {tells : Type 0} {state : H → State} {counts : H → Counts} {fault : Option HostFault} {a b c : H} → OnlyReads tells state counts None a b → OnlyReads tells state counts fault b c → OnlyReads tells state counts fault a c
OnlyReads-then {fault = fault} first second = record {
  stays = λ t. second.stays t ∙ first.stays t;
  cause = second.cause ∙ ap (after_fault fault) first.cause;
  never_cut = second.never_cut;
}

-- The image that is read does not change.
pub still_reads : {H : Type 0} {tells : Type 0} {state : H → State} {counts : H → Counts} {fault : Option HostFault} {old new : H} {image : Image} → OnlyReads tells state counts fault old new → tells → reads (state old).now.words ≡ image → reads (state new).now.words ≡ image
still_reads only t same = ap (λ (s : State). reads s.now.words) (only.stays t) ∙ same

-- The size of the device does not change.
pub still_size : {H : Type 0} {tells : Type 0} {state : H → State} {counts : H → Counts} {old new : H} {size : ℕ} → OnlyReads tells state counts None old new → size ≡ (counts old).size → size ≡ (counts new).size
still_size only same = same ∙ sym (ap (λ (c : Counts). c.size) only.cause)

-- No word changes.
pub Changes-read : {H : Type 0} {tells : Type 0} {state : H → State} {counts : H → Counts} {fault : Option HostFault} {old new : H} {may : Footprint} → OnlyReads tells state counts fault old new → tells → Changes may fault (state old) (state new)
Changes-read {state = state} {fault = fault} {old = old} {new = new} {may = may} only t = Changes-still may fault (state old) (state new) only.never_cut (only.stays t)
