-- Gates are written one after the other, and what it leaves when they are closed.
use Rattle.std.proofs.Common.{◌≡◌, inl, inr, ⊎_elim, ℕ, ◌+◌, ◌<◌, [], ◌∷◌, Option, Some, None, refl, sym, ap, subst, ◌∙◌, arith}
use Rattle.std.proofs.lemmas.List.{append-nil}
use Rattle.std.proofs.lemmas.Option.{same_Some}
use Rattle.std.proofs.lemmas.Bool.{cases_eq}
use Rattle.pm_model.specs.declared.host.HostFault.{HostFault}
use Rattle.pm_model.specs.Words.{HasOnly, after_fence}
use Rattle.pm_model.specs.Moments.{State}
use Rattle.pm_model.specs.Calls.{Steps}
use Rattle.pm_model.specs.Changes.{Changes, Writes, Write, placed, written, IsFrom, IsKept, Silently}
use Rattle.pm_model.specs.Masks.{masked_state, IsOff}
use Rattle.pm_model.proofs.Masks.{IsOff-none, HasOnly-masked, Changes-masked}
use Rattle.pm_model.proofs.Changes.{Changes-still, Changes-then, Changes-wider, Changes-fence, Changes-now, Changes-said}
use Rattle.pm_model.proofs.Words.{HasOnly-fenced}
use Rattle.pm_persist.proofs.Ranges.{placed_at, placed_within}
use Rattle.pm_model.proofs.Leaves.{Leaves-changes, Leaves-now}
use Rattle.pud_defs.specs.declared.layout.TheConstants.{CLIENTS, CLIENT_LOGS, DAEMON_LOG}
use Rattle.pud_defs.specs.declared.log_words.TheConstants.{CLOSED_GATE}
use Rattle.pud_defs.specs.Formats.Image.{Image}
use Rattle.pud_defs.specs.Formats.Layout.{log_at}
use Rattle.pud_defs.specs.StateMachine.World.{StoredWorld, idle_world_of}
use Rattle.pud_defs.proofs.Logging.ClosedLogs.{IsClosedAgain, idle_world_of-again, has_closed_logs-gates}
use Rattle.batch.specs.Worlds.{IsQuiescent}
use Rattle.log_space.specs.Closed.{ByClosing, WritesGates, ClosesGates, ClosesClientLogs}

-- No gate is written yet.
pub WritesGates-none : (F slot : ℕ) (s : State) → WritesGates F slot 0 None s s
WritesGates-none F slot s = record {
  changes = Changes-still (ByClosing F slot) None s s (λ cut. cc) refl;
  newest = λ none m low. absurd (omega arith);
  marked = λ none m low. absurd (omega arith);
}

-- The write of a gate names only this word, with the value of a closed log's gate.
gate_placed : (at k v : ℕ) → placed at (CLOSED_GATE ∷ []) k ≡ Some v → (k ≡ at) × (v ≡ CLOSED_GATE)
gate_placed at k v is =
    let within = placed_within at k v (CLOSED_GATE ∷ []) is in
    let low = within.0 in
    let high = within.1 in
    let here : k ≡ at = omega arith in
    let same : Some CLOSED_GATE ≡ Some v = sym (placed_at at 0 k (CLOSED_GATE ∷ []) (omega (arith, here)) (omega arith)) ∙ is in
    (here, sym (same_Some CLOSED_GATE v same))

gate_there : (at : ℕ) → placed at (CLOSED_GATE ∷ []) at ≡ Some CLOSED_GATE
gate_there at = placed_at at 0 at (CLOSED_GATE ∷ []) (omega arith) (omega arith)

module _ (F slot : ℕ) where
  one_more : (n : ℕ) (fault : Option HostFault) (a b c : State) → n < CLIENT_LOGS → Changes (ByClosing F slot) None a b → Writes (placed (log_at F slot n) (CLOSED_GATE ∷ [])) fault b c
      → Changes (ByClosing F slot) fault a c
  one_more n fault a b c few p q =
      Changes-then (ByClosing F slot) fault a b c p
      (Changes-wider (written (placed (log_at F slot n) (CLOSED_GATE ∷ []))) (ByClosing F slot) fault b c
      (λ k v may. let at = gate_placed (log_at F slot n) k v may in (record { number = n; below = few; is = at.0 }, at.1)) q.changes)

  -- A gate that is already written does not change.
  gate_kept : (n m : ℕ) (b c : State) → (m ≡ n → ⊥) → Writes (placed (log_at F slot n) (CLOSED_GATE ∷ [])) None b c → IsKept (b.now.words (log_at F slot m)) (c.now.words (log_at F slot m))
  gate_kept n m b c apart q =
      q.changes.keeps (λ cut. cc) (log_at F slot m) (λ v may. let at = (gate_placed (log_at F slot n) (log_at F slot m) v may).0 in apart (omega (arith, at)))

  -- The next gate is written.
  pub WritesGates-more : (n : ℕ) (a b c : State) → n < CLIENT_LOGS → WritesGates F slot n None a b → Writes (placed (log_at F slot n) (CLOSED_GATE ∷ [])) None b c → WritesGates F slot (n + 1) None a c
  WritesGates-more n a b c few p q = record {
    changes = one_more n None a b c few p.changes q;
    newest = λ none m low. ⊎_elim
        (λ here. ap (λ i. (c.now.words (log_at F slot i)).newest) here ∙ q.newest refl (log_at F slot n) CLOSED_GATE (gate_there (log_at F slot n)))
        (λ apart. (gate_kept n m b c apart q).newest ∙ p.newest refl m (omega (arith, apart)))
        (cases_eq m n);
    marked = λ none m low. ⊎_elim
        (λ here. ap (λ i. (c.now.words (log_at F slot i)).kept) here ∙ q.marked refl (log_at F slot n) CLOSED_GATE (gate_there (log_at F slot n)))
        (λ apart. (gate_kept n m b c apart q).marked (p.marked refl m (omega (arith, apart))))
        (cases_eq m n);
  }

  -- The next gate was not written, because of a fault.
  pub WritesGates-failed : (n : ℕ) (fault : HostFault) (a b c : State) → n < CLIENT_LOGS → WritesGates F slot n None a b → Writes (placed (log_at F slot n) (CLOSED_GATE ∷ [])) (Some fault) b c
      → WritesGates F slot CLIENT_LOGS (Some fault) a c
  WritesGates-failed n fault a b c few p q = record {
    changes = one_more n (Some fault) a b c few p.changes q;
    newest = λ none. absurd (let it : None ≡ Some fault = sym none in cc);
    marked = λ none. absurd (let it : None ≡ Some fault = sym none in cc);
  }

  -- All gates are written, and then made durable.
  pub ClosesGates-fence : (fault : Option HostFault) (a b c : State) → WritesGates F slot CLIENT_LOGS None a b → Steps after_fence fault b c → ClosesGates F slot fault a c
  ClosesGates-fence fault a b c p step = record {
    changes = Changes-then (ByClosing F slot) fault a b c p.changes (Changes-fence (ByClosing F slot) fault b c step);
    durable = λ none m low. subst (λ (s : State). HasOnly (s.now.words (log_at F slot m)) CLOSED_GATE) (sym (step.done none))
        (HasOnly-fenced (b.now.words (log_at F slot m)) CLOSED_GATE (p.newest refl m low) (p.marked refl m low));
  }

  pub ClosesGates-failed : (fault : HostFault) (a b : State) → WritesGates F slot CLIENT_LOGS (Some fault) a b → ClosesGates F slot (Some fault) a b
  ClosesGates-failed fault a b p = record { changes = p.changes; durable = λ none. absurd (let it : None ≡ Some fault = sym none in cc) }

  closes_again : (before image : Image) → IsFrom (ByClosing F slot) before image → IsClosedAgain F slot before image
  closes_again before image from = record { at = from.each }

-- The same holds with words masked that are none of the gates.
pub ClosesGates-masked : (mask : Write) (F slot : ℕ) (fault : Option HostFault) (a b : State) → IsOff mask (ByClosing F slot) → ClosesGates F slot fault a b
    → ClosesGates F slot fault (masked_state mask a) (masked_state mask b)
ClosesGates-masked mask F slot fault a b off p = record {
  changes = Changes-masked mask (ByClosing F slot) fault a b p.changes;
  durable = λ none m low. HasOnly-masked mask b.now.words (log_at F slot m) CLOSED_GATE
      (IsOff-none mask (ByClosing F slot) (log_at F slot m) CLOSED_GATE off (record { number = m; below = low; is = refl }, refl)) (p.durable none m low);
}

-- What closing the gates does to a device that stands for a world.
pub ClosesClientLogs-gates : (size : ℕ) (s : StoredWorld) (slot : ℕ) (fault : Option HostFault) (a b : State) → slot < CLIENTS → IsQuiescent size s a.now.words → ClosesGates s.frames slot fault a b → ClosesClientLogs size s slot fault a b
ClosesClientLogs-gates size s slot fault a b known settled p =
    let moments = Leaves-changes (λ (image : Image). idle_world_of size image ≡ Some s) (ByClosing s.frames slot) fault a b
    (λ before image picked from.
    idle_world_of-again size slot before image s known (settled.idle (before DAEMON_LOG) (picked.each DAEMON_LOG)) (settled.stands before picked) (closes_again s.frames slot before image from))
    p.changes in
    record {
      changes = p.changes;
      moments = moments;
      settled = λ none. record {
        stands = λ image picked.
            (Leaves-now (Silently (λ (i : Image). idle_world_of size i ≡ Some s)) [] a b (Changes-said (ByClosing s.frames slot) fault a b p.changes ∙ sym (append-nil a.now.said)) moments image picked).1;
        idle = λ v had. elim (Changes-now (ByClosing s.frames slot) fault a b p.changes DAEMON_LOG v had) [
          | inl was ↦ settled.idle v was
          | inr gate ↦ absurd (let is = gate.0.is in omega arith)
        ];
      };
      closed = λ none. record {
        each = λ image picked. has_closed_logs-gates s.frames slot image
            (λ m low. (p.durable none m low).each (image (log_at s.frames slot m)) (picked.each (log_at s.frames slot m)));
      };
    }
