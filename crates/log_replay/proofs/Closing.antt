-- A log is replayed and then closed: what is left at each moment, and at the end.
use Rattle.std.proofs.Common.{◌≡◌, inl, inr, ℕ, ◌≤◌, false, [], Option, Some, None, refl, sym, ap, subst, ◌∙◌, arith}
use Rattle.std.specs.Prelude.{List}
use Rattle.std.proofs.lemmas.Bool.{eq-eqb}
use Rattle.std.proofs.lemmas.List.{append-nil}
use Rattle.pm_model.specs.declared.host.HostFault.{HostFault}
use Rattle.pm_model.specs.declared.host.HostFault.TheVariants.{Cut}
use Rattle.pm_model.specs.Words.{reads, Picks}
use Rattle.pm_model.specs.Moments.{State}
use Rattle.pm_model.specs.Changes.{Write, Changes, Leaves, Silently, Persists, only, written}
use Rattle.pm_model.proofs.Words.{only_at}
use Rattle.pm_model.proofs.Changes.{Changes-said, Changes-wider, Changes-then, HasOnly-kept}
use Rattle.pm_model.proofs.OneWord.{one_word}
use Rattle.pm_model.proofs.Leaves.{Leaves-changes, Leaves-now, Leaves-then, Leaves-weaker}
use Rattle.pud_defs.specs.declared.layout.TheConstants.{LOG_ENTRY_WORDS}
use Rattle.pud_defs.specs.declared.log_words.TheConstants.{CLOSED_GATE}
use Rattle.pud_defs.specs.Formats.Image.{Image}
use Rattle.pud_defs.specs.Logging.Entries.{Entry, Log, log_of, gate_used, is_idle_gate}
use Rattle.pud_defs.specs.Logging.Replay.{device_word, new_value, overwritten, replayed, IsInLog, is_in_log}
use Rattle.pud_defs.proofs.Logging.Entries.{log_of-same, used_within}
use Rattle.pud_defs.proofs.Logging.Replay.{overwritten-stays, overwritten-there, settled_by-outside, settled_by-same, settled_by-idle, not_inside}
use Rattle.log_replay.specs.declared.Target.{Target}
use Rattle.log_replay.specs.declared.Target.TheVariants as targets
use Rattle.log_replay.specs.Replaying.{address_map_of, IsReplayable, HasDurableLog, new_values, Named, ReplaysSame, Replays, ReplaysAgain, ByLog, IsSettling, SettlesSame, SettlesLog}
use Rattle.log_replay.proofs.Whole.{log_of_picked, new_values_picked, new_values-apart}

pub gate_apart : (at k : ℕ) → is_in_log at k ≡ false → k ≡ at → ⊥
gate_apart at k outside here = not_inside at k outside (record { low = omega arith; high = omega arith })

-- ---- what changes, and what is there at the end

module _ (to : Target) (at : ℕ) (b : State) where
  replay_changes : (fault : Option HostFault) (c : State) → Replays to at fault b c → Changes (ByLog at (new_values to at (reads b.now.words))) fault b c
  replay_changes fault c r = Changes-wider (Named (new_values to at (reads b.now.words))) (ByLog at (new_values to at (reads b.now.words))) fault b c (λ k v named. inr named) r.changes

  pub SettlesLog-replay : (fault : HostFault) (c : State) → Replays to at (Some fault) b c → SettlesLog to at (Some fault) b c
  SettlesLog-replay fault c r =
      record {
        changes = replay_changes (Some fault) c r;
        durable = λ e. absurd (let it : None ≡ Some fault = sym e in cc);
        closed = λ e. absurd (let it : None ≡ Some fault = sym e in cc);
        reads_so = λ e. absurd (let it : None ≡ Some fault = sym e in cc);
      }

pub SettlesLog-close : (to : Target) (size at : ℕ) (es : List Entry) (b : State) → IsReplayable (address_map_of to (reads b.now.words)) size at es (reads b.now.words) → (fault : Option HostFault) (c d : State)
    → Replays to at None b c → Persists (only at CLOSED_GATE) fault c d → SettlesLog to at fault b d
SettlesLog-close to size at es b replayable fault c d r close =
    let write = new_values to at (reads b.now.words) in
    let still : fault ≡ None → fault ≡ Some Cut → ⊥ = λ none cut. absurd (let it : None ≡ Some Cut = sym none ∙ cut in cc) in
    record {
      changes = Changes-then (ByLog at write) fault b c d (replay_changes to at b None c r)
          (Changes-wider (written (only at CLOSED_GATE)) (ByLog at write) fault c d
          (λ k v new. inl (only_at at CLOSED_GATE k v new)) close.changes);
      durable = λ none k v is.
          HasOnly-kept (written (only at CLOSED_GATE)) fault c d k v close.changes
          (λ x new. let here = only_at at CLOSED_GATE k x new in
          absurd (let it : None ≡ Some v = sym (new_values-apart to size at es (reads b.now.words) replayable k (record { low = omega arith; high = omega arith })) ∙ is in cc))
          (r.durable refl k v is);
      closed = λ none. close.durable none at CLOSED_GATE (rw (eq-eqb at at refl) refl);
      reads_so = λ none k other. (close.changes.keeps (still none) k (λ x new. other (only_at at CLOSED_GATE k x new))).newest ∙ ap (λ (i : Image). i k) (r.reads_so refl);
    }

-- ---- what is left at each moment

module _ (to : Target) (size at : ℕ) (es : List Entry) (b : State) (replayable : IsReplayable (address_map_of to (reads b.now.words)) size at es (reads b.now.words)) (durable : HasDurableLog to at b.now.words) where
  -- The log gives no value to its own gate.
  nothing_at_gate : (before : Image) → Picks b.now.words before → new_values to at before at ≡ None
  nothing_at_gate before picked =
      ap (λ (w : Write). w at) (new_values_picked to at b.now.words before durable picked)
      ∙ new_values-apart to size at es (reads b.now.words) replayable at (record { low = omega arith; high = omega arith })

  -- An image left while the log is replayed lies between the two.
  replaying : (image : Image) → ReplaysSame to at b.now.words image → IsSettling to at b.now.words image
  replaying image p =
      record { before = p.before; picked = p.picked; closing = record { stays = λ k other none. p.stays k none; gate = inl (p.stays at (nothing_at_gate p.before p.picked)) } }

  pub moments-replay : (c : State) → ReplaysAgain to size at es b c → Leaves (Silently (IsSettling to at b.now.words)) b c
  moments-replay c again = Leaves-weaker (Silently (ReplaysSame to at b.now.words)) (Silently (IsSettling to at b.now.words)) b c (λ bytes image p. (p.0, replaying image p.1)) again.moments

  -- After a whole replay the words that the log names have their values.
  replayed_now : (c : State) → Replays to at None b c → ReplaysAgain to size at es b c → (image : Image) → Picks c.now.words image → ReplaysSame to at b.now.words image
  replayed_now c r again image picked =
      (Leaves-now (Silently (ReplaysSame to at b.now.words)) [] b c (Changes-said (Named (new_values to at (reads b.now.words))) None b c r.changes ∙ sym (append-nil b.now.said)) again.moments image picked).1

  close_left : (fault : Option HostFault) (c d : State) → Replays to at None b c → ReplaysAgain to size at es b c → Changes (written (only at CLOSED_GATE)) fault c d
      → Leaves (Silently (IsSettling to at b.now.words)) c d
  close_left fault c d r again changes =
      Leaves-changes (IsSettling to at b.now.words) (written (only at CLOSED_GATE)) fault c d
      (λ following image picked from.
      let p = replayed_now c r again following picked in
      let gate = nothing_at_gate p.before p.picked in
      elim (one_word at CLOSED_GATE following image from) [
        | inl same ↦ record {
          before = p.before;
          picked = p.picked;
          closing = record {
            stays = λ k other none. ap (λ (i : Image). i k) same ∙ p.stays k none;
            gate = inl (ap (λ (i : Image). i at) same ∙ p.stays at gate);
          };
        }
        | inr shut ↦ record {
          before = p.before;
          picked = p.picked;
          closing = record {
            stays = λ k other none. shut.others k other ∙ p.stays k none;
            gate = inr (
              shut.there,
              λ k v is.
                  shut.others k (λ here. absurd (let it : None ≡ Some v = sym gate ∙ (ap (new_values to at p.before) (sym here) ∙ is) in cc))
                  ∙ (r.durable refl k v (sym (ap (λ (w : Write). w k) (new_values_picked to at b.now.words p.before durable p.picked)) ∙ is)).each (following k) (picked.each k),
            );
          };
        }
      ]) changes

  pub moments-close : (fault : Option HostFault) (c d : State) → Replays to at None b c → ReplaysAgain to size at es b c → Persists (only at CLOSED_GATE) fault c d
      → Leaves (Silently (IsSettling to at b.now.words)) b d
  moments-close fault c d r again close =
      let P = Silently (IsSettling to at b.now.words) in
      let said = Changes-said (ByLog at (new_values to at (reads b.now.words))) None b c (replay_changes to at b None c r) in
      Leaves-then P P P [] b c d (said ∙ sym (append-nil b.now.said)) (λ front image p. p) (λ more image p. p) (moments-replay c again) (close_left fault c d r again close.changes)

-- ---- for device words the image with the log replayed is as it was

module _ (size at : ℕ) (es : List Entry) (b : State) (replayable : IsReplayable device_word size at es (reads b.now.words)) (durable : HasDurableLog targets.Words at b.now.words)
    (image : Image) (p : IsSettling targets.Words at b.now.words image) where
  log_before : log_of p.before at ≡ log_of (reads b.now.words) at
  log_before = log_of_picked targets.Words at b.now.words p.before durable p.picked

  gives_log_nothing : (k : ℕ) → IsInLog at k → new_values targets.Words at p.before k ≡ None
  gives_log_nothing k inside = ap (λ (l : Log). new_value device_word l k) log_before ∙ new_values-apart targets.Words size at es (reads b.now.words) replayable k inside

  -- If the gate is as it was, the log is as it was.
  log_still : image at ≡ p.before at → log_of image at ≡ log_of p.before at
  log_still gate =
      let used : gate_used (image at) ≤ LOG_ENTRY_WORDS =
      subst (λ (v : ℕ). gate_used v ≤ LOG_ENTRY_WORDS) (sym (gate ∙ durable.gate.each (p.before at) (p.picked.each at))) (used_within (reads b.now.words) at es replayable.spells) in
      log_of-same image p.before at gate (λ k low high. p.closing.stays k (λ here. absurd (omega arith)) (gives_log_nothing k (record { low = omega arith; high = omega arith })))

  -- With the values of the log written over both images, a word other than the gate is the same in both.
  made_still : (w : ℕ) (o : Option ℕ) → new_values targets.Words at p.before w ≡ o → (w ≡ at → ⊥)
      → overwritten (new_values targets.Words at p.before) image w ≡ overwritten (new_values targets.Words at p.before) p.before w
  made_still w None none other = overwritten-stays (new_values targets.Words at p.before) image w none ∙ p.closing.stays w other none ∙ sym (overwritten-stays (new_values targets.Words at p.before) p.before w none)
  made_still w (Some v) some other = overwritten-there (new_values targets.Words at p.before) image w v some ∙ sym (overwritten-there (new_values targets.Words at p.before) p.before w v some)

  made_closed : ((k v : ℕ) → new_values targets.Words at p.before k ≡ Some v → image k ≡ v) → (w : ℕ) (o : Option ℕ) → new_values targets.Words at p.before w ≡ o → (w ≡ at → ⊥)
      → image w ≡ overwritten (new_values targets.Words at p.before) p.before w
  made_closed there w None none other = p.closing.stays w other none ∙ sym (overwritten-stays (new_values targets.Words at p.before) p.before w none)
  made_closed there w (Some v) some other = there w v some ∙ sym (overwritten-there (new_values targets.Words at p.before) p.before w v some)

  same_outside : (w : ℕ) → is_in_log at w ≡ false → replayed device_word (log_of image at) image w ≡ replayed device_word (log_of p.before at) p.before w
  same_outside w out = elim p.closing.gate [
    | inl gate ↦ ap (λ (l : Log). replayed device_word l image w) (log_still gate) ∙ made_still w (new_values targets.Words at p.before w) refl (gate_apart at w out)
    | inr closed ↦
        sym (settled_by-outside at image w out)
        ∙ settled_by-idle at image w (ap is_idle_gate closed.0) out
        ∙ made_closed closed.1 w (new_values targets.Words at p.before w) refl (gate_apart at w out)
  ]

  pub settles_same : SettlesSame b.now.words at (log_of (reads b.now.words) at) image
  settles_same =
      record {
        before = p.before;
        picked = p.picked;
        outside = λ k out none. p.closing.stays k (gate_apart at k out) (ap (λ (l : Log). new_value device_word l k) log_before ∙ none);
        same = settled_by-same at image p.before same_outside;
        gate = elim p.closing.gate [ inl gate ↦ inl (log_still gate ∙ log_before) | inr closed ↦ inr (ap is_idle_gate closed.0) ];
      }

pub moments-same : (to : Target) (size at : ℕ) (es : List Entry) (b c : State) → to ≡ targets.Words → IsReplayable device_word size at es (reads b.now.words) → HasDurableLog targets.Words at b.now.words
    → (IsReplayable (address_map_of to (reads b.now.words)) size at es (reads b.now.words) → HasDurableLog to at b.now.words → Leaves (Silently (IsSettling to at b.now.words)) b c)
    → Leaves (Silently (SettlesSame b.now.words at (log_of (reads b.now.words) at))) b c
moments-same (targets.Puddles F) size at es b c words replayable durable left = absurd (cc)
moments-same targets.Words size at es b c words replayable durable left =
    Leaves-weaker (Silently (IsSettling targets.Words at b.now.words)) (Silently (SettlesSame b.now.words at (log_of (reads b.now.words) at))) b c
    (λ bytes image p. (p.0, settles_same size at es b replayable durable image p.1)) (left replayable durable)
