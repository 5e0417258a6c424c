-- One log that is replayed and closed, or left alone: what changes, what is there at the end, and what a rested device
-- leaves at each moment.
use Rattle.std.proofs.Common.{◌≡◌, inl, inr, ℕ, true, false, Option, Some, None, refl, sym, ap, subst, ◌∙◌}
use Rattle.std.proofs.lemmas.Bool.{cases_eq, eq-eqb}
use Rattle.std.proofs.lemmas.Option.{none-some}
use Rattle.pm_model.specs.declared.host.HostFault.{HostFault}
use Rattle.pm_model.specs.declared.host.HostFault.TheVariants.{Cut}
use Rattle.pm_model.specs.Words.{Words, reads, Picks, HasOnly, IsRested}
use Rattle.pm_model.specs.Moments.{State}
use Rattle.pm_model.specs.Changes.{Write, Leaves, Silently, Persists, only, written}
use Rattle.pm_model.proofs.Words.{only_at, reads_only, HasOnly-newest, HasOnly-own}
use Rattle.pm_model.proofs.Changes.{Changes-still, Changes-wider, HasOnly-kept}
use Rattle.pm_model.proofs.Leaves.{Leaves-still, Leaves-weaker, Leaves-changes}
use Rattle.pm_model.proofs.OneWord.{one_word}
use Rattle.pud_defs.specs.declared.log_words.TheConstants.{CLOSED_GATE}
use Rattle.pud_defs.specs.Formats.Image.{Image}
use Rattle.pud_defs.specs.Logging.Entries.{log_of, is_idle_gate}
use Rattle.pud_defs.specs.RegistryTables.Tables.{tables_of}
use Rattle.pud_defs.specs.RegistryTables.Spaces.{owner_of}
use Rattle.pud_defs.specs.Logging.Settled.{client_of_log, log_number_at, given_by_log, is_refused_log, is_accepted_log}
use Rattle.pud_defs.specs.Logging.LogsReplayed.{ReplaysClientLog}
use Rattle.pud_defs.proofs.Logging.Replay.{overwritten-stays, empty_range_of}
use Rattle.pud_defs.proofs.Logging.Settled.{gives_to-closed}
use Rattle.pud_defs.proofs.Logging.Accepted.{gives_to-accepted, accepted_not_refused}
use Rattle.log_replay.specs.declared.Target.{Target}
use Rattle.log_replay.specs.declared.Target.TheVariants.{Puddles}
use Rattle.log_replay.specs.Replaying.{HasDurableLog, new_values, ByLog as ByOneLog, IsSettling, SettlesLog}
use Rattle.recover.specs.RecoveredLogs.{ByClientLog, RecoversLog, RecoversLogAtEachMoment}

-- a log with an idle gate gives no word a value
pub idle_gives_nothing : (F number : ℕ) (image : Image) (w : ℕ) → is_idle_gate (image (log_number_at F number)) ≡ true → given_by_log F image number w ≡ None
idle_gives_nothing F number image w idle =
    gives_to-closed (tables_of F image) (owner_of image (client_of_log number)) (log_of image (log_number_at F number)) w (empty_range_of (image (log_number_at F number)) idle)

-- on a rested device, each word that is read of a log has one value
pub durable_log : (to : Target) (at : ℕ) (words : Words) → IsRested words → HasDurableLog to at words
durable_log to at words rested = record { gate = rested.each at; counted = λ k low high. rested.each k; table = λ k placing. rested.each k }

-- the image itself is one in which nothing of the log was replayed
ReplaysClientLog-itself : (F number : ℕ) (image other : Image) → other ≡ image → ReplaysClientLog F number image other
ReplaysClientLog-itself F number image other same = record {
  stays = λ k apart none. ap (λ (i : Image). i k) same;
  gate = inl (ap (λ (i : Image). i (log_number_at F number)) same);
}

module _ (F number : ℕ) (image : Image) (old : State) (is : reads old.now.words ≡ image) where
  abbrev at : ℕ
  at = log_number_at F number

  not_refused : is_accepted_log F image number ≡ true → is_refused_log F image number ≡ false
  not_refused accepted = accepted_not_refused (tables_of F image) (owner_of image (client_of_log number)) (log_of image at) accepted

  -- whatever a power loss leaves of a rested device is what the device reads
  pub the_image : IsRested old.now.words → (other : Image) → Picks old.now.words other → other ≡ image
  the_image rested other picked = reads_only old.now.words other rested picked ∙ is

  -- ---- nothing happens to the log

  pub RecoversLog-still : (fault : Option HostFault) (new : State) → (fault ≡ Some Cut → ⊥) → new ≡ old → ((w : ℕ) → given_by_log F image number w ≡ None)
      → (fault ≡ None → is_accepted_log F image number ≡ true → image at ≡ CLOSED_GATE) → RecoversLog F number image fault old new
  RecoversLog-still fault new uncut same nothing closed =
      let now : reads new.now.words ≡ image = ap (λ (s : State). reads s.now.words) same ∙ is in
      record {
        changes = Changes-still (ByClientLog F number image) fault old new uncut same;
        takes = λ none. ReplaysClientLog-itself F number image (reads new.now.words) now;
        gone = λ none w. ap (λ (i : Image). given_by_log F i number w) now ∙ nothing w;
        closed = λ none accepted. ap (λ (i : Image). i at) now ∙ closed none accepted;
      }

  pub RecoversLogAtEachMoment-still : IsRested old.now.words → (fault : Option HostFault) (new : State) → new ≡ old → RecoversLogAtEachMoment F number image fault old new
  RecoversLogAtEachMoment-still rested fault new same = record {
    moments = Leaves-still (Silently (ReplaysClientLog F number image)) old new (λ other picked. (refl, ReplaysClientLog-itself F number image other (the_image rested other picked))) same;
    rested = λ none. subst (λ (s : State). IsRested s.now.words) (sym same) rested;
  }

  -- ---- the gate of a log that gives nothing is written

  module _ (fault : Option HostFault) (new : State) (p : Persists (only at CLOSED_GATE) fault old new) (accepted : is_accepted_log F image number ≡ true)
      (nothing : (w : ℕ) → given_by_log F image number w ≡ None) where
    shut_gate : fault ≡ None → reads new.now.words at ≡ CLOSED_GATE
    shut_gate none = HasOnly-newest (new.now.words at) CLOSED_GATE (p.durable none at CLOSED_GATE (rw (eq-eqb at at refl) refl))

    uncut : fault ≡ None → fault ≡ Some Cut → ⊥
    uncut none cut = absurd (let it : None ≡ Some Cut = sym none ∙ cut in cc)

    pub RecoversLog-closed : RecoversLog F number image fault old new
    RecoversLog-closed = record {
      changes = Changes-wider (written (only at CLOSED_GATE)) (ByClientLog F number image) fault old new (λ k v new. record { accepted = accepted; place = inl (only_at at CLOSED_GATE k v new) }) p.changes;
      takes = λ none. record {
        stays = λ k apart gives. (p.changes.keeps (uncut none) k (λ v new. apart (only_at at CLOSED_GATE k v new))).newest ∙ ap (λ (i : Image). i k) is;
        gate = inr (record { gate = shut_gate none; there = λ k v some. absurd (none-some v (sym (nothing k) ∙ some)); allowed = not_refused accepted });
      };
      gone = λ none w. idle_gives_nothing F number (reads new.now.words) w (ap is_idle_gate (shut_gate none));
      closed = λ none a. shut_gate none;
    }

    pub RecoversLogAtEachMoment-closed : IsRested old.now.words → RecoversLogAtEachMoment F number image fault old new
    RecoversLogAtEachMoment-closed rested = record {
      moments = Leaves-changes (ReplaysClientLog F number image) (written (only at CLOSED_GATE)) fault old new (λ before other picked from.
          elim (one_word at CLOSED_GATE before other from) [
            | inl same ↦ ReplaysClientLog-itself F number image other (same ∙ the_image rested before picked)
            | inr shut ↦ record {
              stays = λ k apart none. shut.others k apart ∙ ap (λ (i : Image). i k) (the_image rested before picked);
              gate = inr (record { gate = shut.there; there = λ k v some. absurd (none-some v (sym (nothing k) ∙ some)); allowed = not_refused accepted });
            }
          ]) p.changes;
      rested = λ none. record {
        each = λ k. elim (cases_eq k at) [
          | inl here ↦ HasOnly-own (new.now.words k) CLOSED_GATE (p.durable none k CLOSED_GATE (rw (eq-eqb k at here) refl))
          | inr apart ↦ HasOnly-own (new.now.words k) (old.now.words k).newest
              (HasOnly-kept (written (only at CLOSED_GATE)) fault old new k (old.now.words k).newest p.changes (λ x new. apart (only_at at CLOSED_GATE k x new)) (rested.each k))
        ];
      };
    }

  -- ---- it is replayed and closed

  -- the log gives the values that the replay to puddles gives
  given_values : is_accepted_log F image number ≡ true → (k : ℕ) → given_by_log F image number k ≡ new_values (Puddles F) at (reads old.now.words) k
  given_values accepted k =
      gives_to-accepted (tables_of F image) (owner_of image (client_of_log number)) (log_of image at) k accepted ∙ ap (λ (i : Image). new_values (Puddles F) at i k) (sym is)

  module _ (fault : Option HostFault) (new : State) (accepted : is_accepted_log F image number ≡ true) (s : SettlesLog (Puddles F) at fault old new) where
    abbrev write : Write
    write = new_values (Puddles F) at (reads old.now.words)

    settled_gate : fault ≡ None → reads new.now.words at ≡ CLOSED_GATE
    settled_gate none = HasOnly-newest (new.now.words at) CLOSED_GATE (s.closed none)

    pub RecoversLog-settled : RecoversLog F number image fault old new
    RecoversLog-settled = record {
      changes = Changes-wider (ByOneLog at write) (ByClientLog F number image) fault old new (λ k v by. record {
        accepted = accepted;
        place = elim by [ inl here ↦ inl here | inr named ↦ inr (record { value = named.value; is = given_values accepted k ∙ named.is }) ];
      }) s.changes;
      takes = λ none. record {
        stays = λ k apart gives. s.reads_so none k apart ∙ overwritten-stays write (reads old.now.words) k (sym (given_values accepted k) ∙ gives) ∙ ap (λ (i : Image). i k) is;
        gate = inr (record {
          gate = settled_gate none;
          there = λ k v some. HasOnly-newest (new.now.words k) v (s.durable none k v (sym (given_values accepted k) ∙ some));
          allowed = not_refused accepted;
        });
      };
      gone = λ none w. idle_gives_nothing F number (reads new.now.words) w (ap is_idle_gate (settled_gate none));
      closed = λ none a. settled_gate none;
    }

    pub RecoversLogAtEachMoment-settled : IsRested old.now.words → Leaves (Silently (IsSettling (Puddles F) at old.now.words)) old new → RecoversLogAtEachMoment F number image fault old new
    RecoversLogAtEachMoment-settled rested moments = record {
      moments = Leaves-weaker (Silently (IsSettling (Puddles F) at old.now.words)) (Silently (ReplaysClientLog F number image)) old new (λ bytes other q.
          let p = q.1 in
          let from : p.before ≡ image = the_image rested p.before p.picked in
          let values : (k : ℕ) → new_values (Puddles F) at p.before k ≡ given_by_log F image number k = λ k.
          ap (λ (i : Image). new_values (Puddles F) at i k) (from ∙ sym is) ∙ sym (given_values accepted k) in (
            q.0,
            record {
              stays = λ k apart none. p.closing.stays k apart (values k ∙ none) ∙ ap (λ (i : Image). i k) from;
              gate = elim p.closing.gate [
                | inl was ↦ inl (was ∙ ap (λ (i : Image). i at) from)
                | inr shut ↦ inr (record { gate = shut.0; there = λ k v some. shut.1 k v (values k ∙ some); allowed = not_refused accepted })
              ];
            },
          )) moments;
      rested = λ none. record {
        each = λ k. elim (cases_eq k at) [
          | inl here ↦ subst (λ n. HasOnly (new.now.words n) (new.now.words n).newest) (sym here) (HasOnly-own (new.now.words at) CLOSED_GATE (s.closed none))
          | inr apart ↦ elim (write k) as (λ o. write k ≡ o → HasOnly (new.now.words k) (new.now.words k).newest) [
            | Some v ↦ λ some. HasOnly-own (new.now.words k) v (s.durable none k v some)
            | None ↦ λ nothing. HasOnly-own (new.now.words k) (old.now.words k).newest
                (HasOnly-kept (ByOneLog at write) fault old new k (old.now.words k).newest s.changes
                (λ x by. elim by [ inl here ↦ apart here | inr named ↦ none-some named.value (sym nothing ∙ named.is) ]) (rested.each k))
          ] refl
        ];
      };
    }
