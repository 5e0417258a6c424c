-- Words overwritten entry by entry.
use Rattle.std.proofs.Common.{◌≡◌, ◌⊎◌, inl, inr, ℕ, true, eqb, Option, Some, None, refl, sym, ap, subst, ◌∙◌}
use Rattle.std.specs.Option.{option_or}
use Rattle.std.proofs.lemmas.Bool.{and_from, cond-true, eq-eqb}
use Rattle.pm_model.specs.declared.host.HostFault.{HostFault}
use Rattle.pm_model.specs.declared.host.HostFault.TheVariants.{Cut}
use Rattle.pm_model.specs.Moments.{State}
use Rattle.pm_model.specs.Counts.{Counts}
use Rattle.pm_model.specs.Changes.{Footprint, Write, Writes, Changes, placed, written}
use Rattle.pm_model.proofs.Changes.{Changes-still, Changes-wider, Changes-then}
use Rattle.pud_defs.specs.Logging.Entries.{Entry, Log}
use Rattle.pud_defs.specs.Logging.Replay.{AddressMap, is_in_range, given_by, value_from, over}
use Rattle.log_replay.specs.Replaying.{Anything, IsNamed, Named, AppliesEntries}

-- The write names no word, and nothing changed.
pub AppliesEntries-nothing : (write : Write) (s t : State) → ((w : ℕ) → write w ≡ None) → t ≡ s → AppliesEntries write None s t
AppliesEntries-nothing write s t none same =
    record {
      changes = Changes-still (Named write) None s t (λ cut. cc) same;
      newest = λ e k v is. absurd (let it : None ≡ Some v = sym (none k) ∙ is in cc);
      marked = λ e k v is. absurd (let it : None ≡ Some v = sym (none k) ∙ is in cc);
    }

-- The words were written and marked.
pub AppliesEntries-writes : (write placing : Write) (fault : Option HostFault) (s t : State) → ((w : ℕ) → write w ≡ placing w) → Writes placing fault s t → AppliesEntries write fault s t
AppliesEntries-writes write placing fault s t same writes =
    record {
      changes = Changes-wider (written placing) (Named write) fault s t (λ k v may. record { value = v; is = same k ∙ may }) writes.changes;
      newest = λ e k v is. writes.newest e k v (sym (same k) ∙ is);
      marked = λ e k v is. writes.marked e k v (sym (same k) ∙ is);
    }

-- An entry that counts gives its values to the words from the first that it names on.
pub given_by-counts : (place : AddressMap) (log : Log) (order : ℕ) (e : Entry) (first w : ℕ) → is_in_range log e ≡ true → e.order ≡ order → place e.address ≡ Some first
    → given_by place log order e w ≡ placed first e.vals w
given_by-counts place log order e first w counts same there =
    cond-true _ _ _ (and_from (is_in_range log e) (eqb e.order order) counts (eq-eqb e.order order same))
    ∙ ap (λ (o : Option ℕ). value_from o e.vals w) there

-- ---- one after the other

pub AppliesEntries-same : (f g : Write) (fault : Option HostFault) (s t : State) → ((w : ℕ) → g w ≡ f w) → AppliesEntries f fault s t → AppliesEntries g fault s t
AppliesEntries-same f g fault s t same a =
    record {
      changes = Changes-wider (Named f) (Named g) fault s t (λ k v named. record { value = named.value; is = same k ∙ named.is }) a.changes;
      newest = λ e k v is. a.newest e k v (sym (same k) ∙ is);
      marked = λ e k v is. a.marked e k v (sym (same k) ∙ is);
    }

-- A word that one of two writes names is named by both together.
named_first : (f g : Write) (k : ℕ) (o : Option ℕ) → g k ≡ o → IsNamed f k → IsNamed (over f g) k
named_first f g k None none named = record { value = named.value; is = ap (λ (x : Option ℕ). option_or x (f k)) none ∙ named.is }
named_first f g k (Some v) some named = record { value = v; is = ap (λ (x : Option ℕ). option_or x (f k)) some }

named_later : (f g : Write) (k : ℕ) → IsNamed g k → IsNamed (over f g) k
named_later f g k named = record { value = named.value; is = ap (λ (x : Option ℕ). option_or x (f k)) named.is }

not_named : (g : Write) (k : ℕ) → g k ≡ None → (v : ℕ) → Named g k v → ⊥
not_named g k none v named = absurd (let it : None ≡ Some named.value = sym none ∙ named.is in cc)

-- A value of both together is the later write's, or the first write's if the later one does not name the word.
record Either (f g : Write) (k v : ℕ) : Type 0 where
  which : (g k ≡ Some v) ⊎ ((g k ≡ None) × (f k ≡ Some v))

either : (f g : Write) (k v : ℕ) (o : Option ℕ) → g k ≡ o → over f g k ≡ Some v → Either f g k v
either f g k v None none is = record { which = inr (none, ap (λ (x : Option ℕ). option_or x (f k)) (sym none) ∙ is) }
either f g k v (Some y) some is = record { which = inl (some ∙ (ap (λ (x : Option ℕ). option_or x (f k)) (sym some) ∙ is)) }

pub AppliesEntries-then : (f g : Write) (fault : Option HostFault) (a b c : State) → AppliesEntries f None a b → AppliesEntries g fault b c → AppliesEntries (over f g) fault a c
AppliesEntries-then f g fault a b c first later =
    let still : fault ≡ None → fault ≡ Some Cut → ⊥ = λ none cut. absurd (let it : None ≡ Some Cut = sym none ∙ cut in cc) in
    record {
      changes = Changes-then (Named (over f g)) fault a b c
          (Changes-wider (Named f) (Named (over f g)) None a b (λ k v named. named_first f g k (g k) refl named) first.changes)
          (Changes-wider (Named g) (Named (over f g)) fault b c (λ k v named. named_later f g k named) later.changes);
      newest = λ e k v is. elim (either f g k v (g k) refl is).which [
        | inl there ↦ later.newest e k v there
        | inr before ↦ (later.changes.keeps (still e) k (not_named g k before.0)).newest ∙ first.newest refl k v before.1
      ];
      marked = λ e k v is. elim (either f g k v (g k) refl is).which [
        | inl there ↦ later.marked e k v there
        | inr before ↦ (later.changes.keeps (still e) k (not_named g k before.0)).marked (first.marked refl k v before.1)
      ];
    }

-- A fault came before all words were written.
pub AppliesEntries-failed : (f write : Write) (fault : HostFault) (s t : State) → ((k : ℕ) → IsNamed f k → IsNamed write k) → Changes (Named f) (Some fault) s t → AppliesEntries write (Some fault) s t
AppliesEntries-failed f write fault s t wider changes =
    record {
      changes = Changes-wider (Named f) (Named write) (Some fault) s t (λ k v named. wider k named) changes;
      newest = λ e. absurd (let it : None ≡ Some fault = sym e in cc);
      marked = λ e. absurd (let it : None ≡ Some fault = sym e in cc);
    }

-- A fault came while the first part was written.
pub AppliesEntries-failed_first : (f g : Write) (fault : HostFault) (s t : State) → AppliesEntries f (Some fault) s t → AppliesEntries (over f g) (Some fault) s t
AppliesEntries-failed_first f g fault s t a = AppliesEntries-failed f (over f g) fault s t (λ k named. named_first f g k (g k) refl named) a.changes

-- A call failed and changed at most words that the write names.
pub AppliesEntries-failed_still : (write : Write) (fault : HostFault) (s t : State) → Changes (Named write) (Some fault) s t → AppliesEntries write (Some fault) s t
AppliesEntries-failed_still write fault s t changes = AppliesEntries-failed write write fault s t (λ k named. named) changes

-- A call after one that changed nothing.
pub AppliesEntries-after : (write : Write) (fault : Option HostFault) (s t u : State) → t ≡ s → AppliesEntries write fault t u → AppliesEntries write fault s u
AppliesEntries-after write fault s t u same a = subst (λ (x : State). AppliesEntries write fault x u) same a

-- ---- after a call that changed nothing: some words are written, and then others

-- Both parts were written.
pub AppliesEntries-joined : (f g both : Write) (fault : Option HostFault) (s t mid end : State) → t ≡ s → ((w : ℕ) → both w ≡ over f g w) → AppliesEntries f None t mid → AppliesEntries g fault mid end → AppliesEntries both fault s end
AppliesEntries-joined f g both fault s t mid end same gives first later =
    AppliesEntries-same (over f g) both fault s end gives (AppliesEntries-then f g fault s mid end (AppliesEntries-after f None s t mid same first) later)

-- A fault came while the first part was written.
pub AppliesEntries-cut_short : (f g both : Write) (fault : HostFault) (s t end : State) → t ≡ s → ((w : ℕ) → both w ≡ over f g w) → AppliesEntries f (Some fault) t end → AppliesEntries both (Some fault) s end
AppliesEntries-cut_short f g both fault s t end same gives first =
    AppliesEntries-same (over f g) both (Some fault) s end gives (AppliesEntries-failed_first f g fault s end (AppliesEntries-after f (Some fault) s t end same first))

-- The size of the device does not change.
pub size_then : (size : ℕ) (old new : Counts) → size ≡ old.size → new ≡ old → size ≡ new.size
size_then size old new same stays = same ∙ sym (ap (λ (n : Counts). n.size) stays)

-- ---- whatever the words store

pub any_then : (fault : Option HostFault) (a b c : State) → Changes Anything None a b → Changes Anything fault b c → Changes Anything fault a c
any_then fault a b c p q = Changes-then Anything fault a b c p q

pub any_wider : (may : Footprint) (fault : Option HostFault) (s t : State) → Changes may fault s t → Changes Anything fault s t
any_wider may fault s t changes = Changes-wider may Anything fault s t (λ k v m. tt) changes
