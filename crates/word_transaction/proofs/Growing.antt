-- A transaction on words during other calls, and over more words than before.
use Rattle.std.proofs.Common.{◌≡◌, inl, inr, ℕ, true, false, ◌&&◌, cond, eqb, List, [], ◌∷◌, length, Option, None, sym, ap, ap₂, subst, ◌∙◌}
use Rattle.std.specs.Prelude.{All}
use Rattle.std.specs.Option.{option_or}
use Rattle.std.proofs.lemmas.Bool.{cases_Bool}
use Rattle.std.proofs.lemmas.List.Elements.{All-head, All-tail, All-nil, All-cons}
use Rattle.pm_model.specs.declared.host.HostFault.{HostFault}
use Rattle.pm_model.specs.Words.{Words, HasOnly}
use Rattle.pm_model.specs.Moments.{State}
use Rattle.pm_model.specs.Changes.{Footprint, Write, Changes, Leaves, Silently}
use Rattle.pm_model.proofs.Words.{HasOnly-own}
use Rattle.pm_model.proofs.Leaves.{Leaves-changes}
use Rattle.pud_defs.specs.declared.log_words.TheConstants.{UNDO_ORDER, REDO_ORDER}
use Rattle.pud_defs.specs.Formats.Image.{Image}
use Rattle.pud_defs.specs.Logging.Entries.{Entry, Log}
use Rattle.pud_defs.specs.Logging.Replay.{AddressMap, is_in_range, value_from, undo_value, redo_value}
use Rattle.pud_defs.proofs.Logging.Replay.{undo_value-first, undo_value-none, redo_value-first, redo_value-none}
use Rattle.log_store.specs.Store.{OpenLog, InLog}
use Rattle.word_transaction.specs.Scope.{Scope, IsScope, IsInScope, running_range, committing_range, saved, pending}
use Rattle.word_transaction.specs.Running.{IsRunning, IsCovered, RecoversTo}
use Rattle.word_transaction.proofs.Saved.{saved_is_mine}
use Rattle.word_transaction.proofs.Images.{RecoversTo-local, IsRunning-recovers}

-- ---- during other calls

-- Each image left by calls that write no value to a word of the log or to an own word recovers to the values from the
-- beginning.
pub settles_beside : (g : Scope) (log : OpenLog) (es : List Entry) (before : Image) (may : Footprint) (fault : Option HostFault) (old new : State) → Changes may fault old new
    → ((k v : ℕ) → InLog log.gate_at k v → may k v → ⊥) → ((k v : ℕ) → g.has_word k ≡ true → may k v → ⊥) → IsRunning g log es before old.now.words
    → Leaves (Silently (RecoversTo g log.gate_at before)) old new
settles_beside g log es before may fault old new c in_log own r =
    Leaves-changes (RecoversTo g log.gate_at before) may fault old new
    (λ was image picked from.
    RecoversTo-local g log.gate_at before was image
    (λ k inside. (let it : image k ≡ was k = elim (from.each k) [ inl same ↦ same | inr new ↦ absurd (in_log k (image k) inside new) ] in it))
    (λ k mine. (let it : image k ≡ was k = elim (from.each k) [ inl same ↦ same | inr new ↦ absurd (own k (image k) mine new) ] in it))
    (IsRunning-recovers g log es before was old.now.words r picked)) c

-- ---- the values from the beginning

-- They matter only on the transaction's own words.
pub IsRunning-values : (size : ℕ) (g : Scope) (log : OpenLog) (es : List Entry) (before values : Image) (words : Words) → IsScope size log.gate_at g → ((k : ℕ) → g.has_word k ≡ true → before k ≡ values k)
    → IsRunning g log es before words → IsRunning g log es values words
IsRunning-values size g log es before values words scope same r =
    record {
      opened = r.opened;
      lo = r.lo;
      hi = r.hi;
      own = r.own;
      saves = λ k v is. r.saves k v is ∙ same k (saved_is_mine size log.gate_at g es k v scope r.own is);
      single = λ k mine none. subst (λ (v : ℕ). HasOnly (words k) v) (same k mine) (r.single k mine none);
      marked = r.marked;
    }

-- ---- over more words

-- The wide scope may name all that the other may name, at the same places, and it has all words of the other.
pub record IsWider (g wide : Scope) : Type 0 where
  pub may : (address count : ℕ) → g.may_name address count ≡ true → wide.may_name address count ≡ true
  pub place : (address count : ℕ) → g.may_name address count ≡ true → wide.place address ≡ g.place address
  pub has_word : (k : ℕ) → g.has_word k ≡ true → wide.has_word k ≡ true

-- Entries give the same values by two address maps that agree on their addresses.
pub undo_value-places : (place other : AddressMap) (log : Log) (es : List Entry) (k : ℕ) → All (λ e. other e.address ≡ place e.address) es → undo_value other log es k ≡ undo_value place log es k
undo_value-places place other log [] k same = undo_value-none other log k ∙ sym (undo_value-none place log k)
undo_value-places place other log (e ∷ es) k same =
    undo_value-first other log e es k
    ∙ ap₂ option_or
    (ap (λ (o : Option ℕ). cond (is_in_range log e && eqb e.order UNDO_ORDER) (value_from o e.vals k) None) (All-head (λ x. other x.address ≡ place x.address) e es same))
    (undo_value-places place other log es k (All-tail (λ x. other x.address ≡ place x.address) e es same))
    ∙ sym (undo_value-first place log e es k)

pub redo_value-places : (place other : AddressMap) (log : Log) (es : List Entry) (k : ℕ) → All (λ e. other e.address ≡ place e.address) es → redo_value other log es k ≡ redo_value place log es k
redo_value-places place other log [] k same = redo_value-none other log k ∙ sym (redo_value-none place log k)
redo_value-places place other log (e ∷ es) k same =
    redo_value-first other log e es k
    ∙ ap₂ option_or (redo_value-places place other log es k (All-tail (λ x. other x.address ≡ place x.address) e es same))
    (ap (λ (o : Option ℕ). cond (is_in_range log e && eqb e.order REDO_ORDER) (value_from o e.vals k) None) (All-head (λ x. other x.address ≡ place x.address) e es same))
    ∙ sym (redo_value-first place log e es k)

own_wider : (g wide : Scope) (es : List Entry) → IsWider g wide → All (IsInScope g) es → All (IsInScope wide) es
own_wider g wide [] wider own = All-nil (IsInScope wide)
own_wider g wide (e ∷ es) wider own =
    let first = All-head (IsInScope g) e es own in
    All-cons (IsInScope wide) e es (record { may = wider.may e.address (length e.vals) first.may; kind = first.kind }) (own_wider g wide es wider (All-tail (IsInScope g) e es own))

places_wider : (g wide : Scope) (es : List Entry) → IsWider g wide → All (IsInScope g) es → All (λ e. wide.place e.address ≡ g.place e.address) es
places_wider g wide [] wider own = All-nil (λ e. wide.place e.address ≡ g.place e.address)
places_wider g wide (e ∷ es) wider own =
    All-cons (λ x. wide.place x.address ≡ g.place x.address) e es (wider.place e.address (length e.vals) (All-head (IsInScope g) e es own).may)
    (places_wider g wide es wider (All-tail (IsInScope g) e es own))

-- In the wide scope the same words are saved with the same values.
pub saved-wider : (g wide : Scope) (es : List Entry) (k : ℕ) → IsWider g wide → All (IsInScope g) es → saved wide.place es k ≡ saved g.place es k
saved-wider g wide es k wider own = undo_value-places g.place wide.place running_range es k (places_wider g wide es wider own)

-- In the wide scope the same values are deferred.
pub pending-wider : (g wide : Scope) (es : List Entry) (k : ℕ) → IsWider g wide → All (IsInScope g) es → pending wide.place es k ≡ pending g.place es k
pending-wider g wide es k wider own = redo_value-places g.place wide.place committing_range es k (places_wider g wide es wider own)

-- A transaction stays open if its scope gets more words, each of which has only one value, the one from the beginning.
pub IsRunning-wider : (g wide : Scope) (log : OpenLog) (es : List Entry) (before : Image) (words : Words) → IsWider g wide
    → ((k : ℕ) → wide.has_word k ≡ true → g.has_word k ≡ false → HasOnly (words k) (before k)) → IsRunning g log es before words → IsRunning wide log es before words
IsRunning-wider g wide log es before words wider fresh r =
    record {
      opened = r.opened;
      lo = r.lo;
      hi = r.hi;
      own = own_wider g wide es wider r.own;
      saves = λ k v is. r.saves k v (sym (saved-wider g wide es k wider r.own) ∙ is);
      single = λ k mine none. elim (cases_Bool (g.has_word k)) [
        | inl was ↦ r.single k was (sym (saved-wider g wide es k wider r.own) ∙ none)
        | inr new ↦ fresh k mine new
      ];
      marked = λ k mine. elim (cases_Bool (g.has_word k)) [
        | inl was ↦ r.marked k was
        | inr new ↦ inr (HasOnly-own (words k) (before k) (fresh k mine new))
      ];
    }

-- What was covered is still covered.
pub IsCovered-wider : (g wide : Scope) (es : List Entry) (write : Write) → IsWider g wide → All (IsInScope g) es → IsCovered g es write → IsCovered wide es write
IsCovered-wider g wide es write wider own c =
    record { has_word = λ k v is. wider.has_word k (c.has_word k v is); kept = λ k v is none. c.kept k v is (sym (saved-wider g wide es k wider own) ∙ none) }
