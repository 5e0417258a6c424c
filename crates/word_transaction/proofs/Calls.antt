-- What calls within a transaction on words do, one after the other.
use Rattle.std.proofs.Common.{◌≡◌, ◌⊎◌, inl, inr, ℕ, true, List, [], Option, Some, None, refl, sym, ap, subst, ◌∙◌}
use Rattle.std.specs.Prelude.{unwrap_or}
use Rattle.std.proofs.lemmas.List.{append-nil}
use Rattle.pm_model.specs.declared.host.HostFault.{HostFault}
use Rattle.pm_model.specs.declared.host.HostFault.TheVariants.{Failed, Cut}
use Rattle.pm_model.specs.Words.{reads, HasOnly}
use Rattle.pm_model.specs.Moments.{State}
use Rattle.pm_model.specs.Changes.{Footprint, Write, Changes, Leaves, Silently}
use Rattle.pm_model.proofs.Words.{HasOnly-own}
use Rattle.pm_model.proofs.Changes.{Changes-still, Changes-then, Changes-said, HasOnly-kept}
use Rattle.pm_model.proofs.Leaves.{Leaves-still, Leaves-then}
use Rattle.pud_defs.specs.Formats.Image.{Image}
use Rattle.pud_defs.specs.Logging.Entries.{Entry}
use Rattle.pud_defs.specs.Logging.Replay.{over, is_in_log}
use Rattle.pud_defs.proofs.Logging.Replay.{overwritten-then, or_none}
use Rattle.log_store.specs.Store.{OpenLog, InLog}
use Rattle.log_store.proofs.Open.{IsOpen-kept}
use Rattle.word_transaction.specs.Scope.{Scope}
use Rattle.word_transaction.specs.Running.{IsRunning, no_write, RecoversTo, ByTransaction, KeepsRunning}
use Rattle.word_transaction.proofs.Images.{IsRunning-recovers}

pub some_fault : (fault : HostFault) → Some fault ≡ None → ⊥
some_fault fault e = absurd (cc)

pub not_cut : (fault : Option HostFault) → fault ≡ None → fault ≡ Some Cut → ⊥
not_cut fault none cut = absurd (let it : None ≡ Some Cut = sym none ∙ cut in cc)

-- ---- words to which no value is written

-- A word that is marked or has only one value is still so if no value may be written to it.
pub marked_still : (may : Footprint) (fault : Option HostFault) (old new : State) (k : ℕ) → Changes may fault old new → ((v : ℕ) → may k v → ⊥)
    → ((old.now.words k).kept ≡ []) ⊎ HasOnly (old.now.words k) (old.now.words k).newest → ((new.now.words k).kept ≡ []) ⊎ HasOnly (new.now.words k) (new.now.words k).newest
marked_still may (Some Cut) old new k c none was = inr (record { each = ((c.rests refl).each k).each })
marked_still may None old new k c none (inl marked) = inl ((c.keeps (λ cut. cc) k none).marked marked)
marked_still may None old new k c none (inr one) = inr (HasOnly-own (new.now.words k) _ (HasOnly-kept may None old new k _ c none one))
marked_still may (Some Failed) old new k c none (inl marked) = inl ((c.keeps (λ cut. cc) k none).marked marked)
marked_still may (Some Failed) old new k c none (inr one) = inr (HasOnly-own (new.now.words k) _ (HasOnly-kept may (Some Failed) old new k _ c none one))

-- A transaction is still open after calls that write no value to a word of its log or to one of its own words.
pub IsRunning-kept : (g : Scope) (log : OpenLog) (es : List Entry) (before : Image) (may : Footprint) (fault : Option HostFault) (old new : State) → Changes may fault old new
    → ((k v : ℕ) → InLog log.gate_at k v → may k v → ⊥) → ((k v : ℕ) → g.has_word k ≡ true → may k v → ⊥) → IsRunning g log es before old.now.words → IsRunning g log es before new.now.words
IsRunning-kept g log es before may fault old new c in_log own r =
    record {
      opened = IsOpen-kept may fault old new log es c in_log r.opened;
      lo = r.lo;
      hi = r.hi;
      own = r.own;
      saves = r.saves;
      single = λ k mine none. HasOnly-kept may fault old new k (before k) c (λ v. own k v mine) (r.single k mine none);
      marked = λ k mine. marked_still may fault old new k c (λ v. own k v mine) (r.marked k mine);
    }

-- ---- calls that do nothing, and calls one after the other

-- A call did nothing.
pub KeepsRunning-still : (g : Scope) (log : OpenLog) (es : List Entry) (before : Image) (fault : Option HostFault) (old new : State) → (fault ≡ Some Cut → ⊥) → new ≡ old
    → IsRunning g log es before old.now.words → KeepsRunning g log es before no_write fault old new
KeepsRunning-still g log es before fault old new uncut same r =
    record {
      changes = Changes-still (ByTransaction g log.gate_at) fault old new uncut same;
      moments = Leaves-still (Silently (RecoversTo g log.gate_at before)) old new (λ image picked. (refl, IsRunning-recovers g log es before image old.now.words r picked)) same;
      running = λ _. subst (λ (x : State). IsRunning g log es before x.now.words) (sym same) r;
      now = λ _ k out. ap (λ (x : State). reads x.now.words k) same;
    }

-- If a call fails, the log, the entries and the write that were to follow do not matter.
pub KeepsRunning-failed : (g : Scope) (log following : OpenLog) (es es_after : List Entry) (before : Image) (write write_after : Write) (fault : HostFault) (old new : State) → following.gate_at ≡ log.gate_at
    → KeepsRunning g log es before write (Some fault) old new → KeepsRunning g following es_after before write_after (Some fault) old new
KeepsRunning-failed g log following es es_after before write write_after fault old new at r =
    record {
      changes = subst (λ (k : ℕ). Changes (ByTransaction g k) (Some fault) old new) (sym at) r.changes;
      moments = subst (λ (k : ℕ). Leaves (Silently (RecoversTo g k before)) old new) (sym at) r.moments;
      running = λ none. absurd (some_fault fault none);
      now = λ none. absurd (some_fault fault none);
    }

-- A call failed before it did anything.
pub KeepsRunning-stopped : (g : Scope) (log following : OpenLog) (es es_after : List Entry) (before : Image) (write : Write) (fault : HostFault) (old new : State) → following.gate_at ≡ log.gate_at
    → (Some fault ≡ Some Cut → ⊥) → new ≡ old → IsRunning g log es before old.now.words → KeepsRunning g following es_after before write (Some fault) old new
KeepsRunning-stopped g log following es es_after before write fault old new at uncut same r =
    KeepsRunning-failed g log following es es_after before no_write write fault old new at (KeepsRunning-still g log es before (Some fault) old new uncut same r)

-- One call and then another: they write one after the other.
pub KeepsRunning-then : (g : Scope) (log following : OpenLog) (es es_after : List Entry) (before : Image) (first later : Write) (fault : Option HostFault) (a b c : State) → following.gate_at ≡ log.gate_at
    → KeepsRunning g log es before first None a b → KeepsRunning g following es_after before later fault b c → KeepsRunning g following es_after before (over first later) fault a c
KeepsRunning-then g log following es es_after before first later fault a b c at p q =
    let P = Silently (RecoversTo g following.gate_at before) in
    let changes : Changes (ByTransaction g following.gate_at) None a b = subst (λ (k : ℕ). Changes (ByTransaction g k) None a b) (sym at) p.changes in
    let moments : Leaves P a b = subst (λ (k : ℕ). Leaves (Silently (RecoversTo g k before)) a b) (sym at) p.moments in
    let said = Changes-said (ByTransaction g following.gate_at) None a b changes in
    record {
      changes = Changes-then (ByTransaction g following.gate_at) fault a b c changes q.changes;
      moments = Leaves-then P P P [] a b c (said ∙ sym (append-nil a.now.said)) (λ front image x. x) (λ more image x. x) moments q.moments;
      running = q.running;
      now = λ none k out.
          q.now none k out
          ∙ ap (unwrap_or (later k)) (p.now refl k (ap (λ (n : ℕ). is_in_log n k) (sym at) ∙ out))
          ∙ ap (λ (i : Image). i k) (overwritten-then first later (reads a.now.words));
    }

-- A write matters only by its values.
pub KeepsRunning-writes : (g : Scope) (log : OpenLog) (es : List Entry) (before : Image) (write same : Write) (fault : Option HostFault) (old new : State) → ((k : ℕ) → write k ≡ same k)
    → KeepsRunning g log es before write fault old new → KeepsRunning g log es before same fault old new
KeepsRunning-writes g log es before write same fault old new each r =
    record {
      changes = r.changes;
      moments = r.moments;
      running = r.running;
      now = λ none k out. r.now none k out ∙ ap (λ (o : Option ℕ). unwrap_or o (reads old.now.words k)) (each k);
    }

-- A call after one that wrote nothing.
pub KeepsRunning-after : (g : Scope) (log following : OpenLog) (es es_after : List Entry) (before : Image) (write : Write) (fault : Option HostFault) (a b c : State) → following.gate_at ≡ log.gate_at
    → KeepsRunning g log es before no_write None a b → KeepsRunning g following es_after before write fault b c → KeepsRunning g following es_after before write fault a c
KeepsRunning-after g log following es es_after before write fault a b c at p q =
    KeepsRunning-writes g following es_after before (over no_write write) write fault a c (λ k. sym (or_none (write k)))
    (KeepsRunning-then g log following es es_after before no_write write fault a b c at p q)
