-- The first logs are replayed and closed in turn, and then one more.
use Rattle.std.proofs.Common.{◌≡◌, inl, inr, ℕ, ◌+◌, ◌<◌, ◌≤◌, [], Option, Some, None, refl, sym, ap, subst, ◌∙◌, arith}
use Rattle.std.proofs.lemmas.Bool.{cases_eq}
use Rattle.std.proofs.lemmas.List.{append-nil}
use Rattle.pm_model.specs.declared.host.HostFault.{HostFault}
use Rattle.pm_model.specs.Words.{reads, IsRested}
use Rattle.pm_model.specs.Moments.{State}
use Rattle.pm_model.specs.Changes.{Changes, Silently}
use Rattle.pm_model.proofs.Words.{reads_only}
use Rattle.pm_model.proofs.Changes.{Changes-still, Changes-said, Changes-wider, Changes-then}
use Rattle.pm_model.proofs.Leaves.{Leaves-still, Leaves-then, Leaves-weaker}
use Rattle.pud_defs.specs.declared.layout.TheConstants.{CLIENTS}
use Rattle.pud_defs.specs.declared.log_words.TheConstants.{CLOSED_GATE}
use Rattle.pud_defs.specs.Formats.Image.{Image}
use Rattle.pud_defs.specs.Logging.Entries.{log_of}
use Rattle.pud_defs.specs.RegistryTables.Tables.{tables_of}
use Rattle.pud_defs.specs.RegistryTables.Spaces.{owner_of, has_closed_logs}
use Rattle.pud_defs.specs.Logging.Allowed.{is_accepted}
use Rattle.pud_defs.specs.Logging.Settled.{gives_to, ALL_LOGS, client_of_log, log_number_at, given_by_log, is_refused_log, is_accepted_log, settled_over}
use Rattle.pud_defs.specs.Logging.LogsReplayed.{ReplaysClientLog}
use Rattle.pud_defs.proofs.RegistryTables.Spaces.{owner_of-same}
use Rattle.pud_defs.proofs.RegistryTables.TablesOf.{tables_of-same}
use Rattle.pud_defs.proofs.Logging.LogsReplayed.{beside_gate, below_logs, other_log, settled_same, refused_same, nothing_below_next, logs_still_closed}
use Rattle.recover.specs.Verdicts.{verdict_by, verdict_of}
use Rattle.recover.specs.RecoveredLogs.{ByClientLog, ByClientLogs, RecoversLog, RecoversLogAtEachMoment, IsRecoveredAlike, RecoversLogs, RecoversLogsAtEachMoment}

-- ---- images that are alike

module _ (F : ℕ) (image now : Image) (alike : IsRecoveredAlike F image now) where
  alike_tables : tables_of F now ≡ tables_of F image
  alike_tables = tables_of-same F now image (λ k low high. alike.below k (omega arith)) (λ k low high. alike.below k high)

  alike_owner : (client : ℕ) → client < CLIENTS → owner_of now client ≡ owner_of image client
  alike_owner client few = owner_of-same now image client few (λ k low high. alike.below k (omega arith))

  module _ (number : ℕ) (known : number < ALL_LOGS) (log : log_of now (log_number_at F number) ≡ log_of image (log_number_at F number)) where
    pub alike_gives : (w : ℕ) → given_by_log F now number w ≡ given_by_log F image number w
    alike_gives w = λ p. gives_to (alike_tables p) (alike_owner (client_of_log number) (omega arith) p) (log p) w

    pub alike_accepted : is_accepted_log F now number ≡ is_accepted_log F image number
    alike_accepted = λ p. is_accepted (alike_tables p) (alike_owner (client_of_log number) (omega arith) p) (log p)

    pub alike_verdict : verdict_of F now number ≡ verdict_of F image number
    unfolding verdict_of
    alike_verdict = λ p. verdict_by (alike_tables p) (alike_owner (client_of_log number) (omega arith) p) (log p)

pub IsRecoveredAlike-itself : (F : ℕ) (image now : Image) → now ≡ image → IsRecoveredAlike F image now
IsRecoveredAlike-itself F image now same = record {
  below = λ k high. ap (λ (i : Image). i k) same;
  settled = ap (settled_over F) same;
  refused = λ number few. ap (λ (i : Image). is_refused_log F i number) same;
  closed = λ client few was. ap (λ (i : Image). has_closed_logs i F client) same ∙ was;
}

-- ---- no log yet, and one more

pub RecoversLogs-start : (F : ℕ) (image : Image) (old : State) → reads old.now.words ≡ image → RecoversLogs F 0 image None old old
RecoversLogs-start F image old is = record {
  changes = Changes-still (ByClientLogs F 0 image) None old old (λ cut. absurd (let it : None ≡ Some _ = cut in cc)) refl;
  alike = λ none. IsRecoveredAlike-itself F image (reads old.now.words) is;
  gone = λ none. record { each = λ other w below. absurd (omega arith) };
  closed = λ none number below. absurd (omega arith);
  left = λ none number low few. ap (λ (i : Image). log_of i (log_number_at F number)) is;
}

pub RecoversLogsAtEachMoment-still : (F : ℕ) (image : Image) (fault : Option HostFault) (old new : State) → IsRested old.now.words → reads old.now.words ≡ image → new ≡ old → RecoversLogsAtEachMoment F image fault old new
RecoversLogsAtEachMoment-still F image fault old new rested is same = record {
  moments = Leaves-still (Silently (IsRecoveredAlike F image)) old new (λ other picked. (refl, IsRecoveredAlike-itself F image other (reads_only old.now.words other rested picked ∙ is))) same;
  rested = λ none. subst (λ (s : State). IsRested s.now.words) (sym same) rested;
}

module _ (F number : ℕ) (image : Image) (old mid : State) (known : number < ALL_LOGS) (first : RecoversLogs F number image None old mid) where
  abbrev m : Image
  m = reads mid.now.words

  said_mid : mid.now.said ≡ old.now.said
  said_mid = Changes-said (ByClientLogs F number image) None old mid first.changes

  alike_mid : IsRecoveredAlike F image m
  alike_mid = first.alike refl

  log_mid : log_of m (log_number_at F number) ≡ log_of image (log_number_at F number)
  log_mid = first.left refl number (omega arith) known

  -- the next log is judged as it was at the start
  pub verdict_mid : verdict_of F m number ≡ verdict_of F image number
  verdict_mid = alike_verdict F image m alike_mid number known log_mid

  alike_then : (other : Image) → ReplaysClientLog F number m other → IsRecoveredAlike F image other
  alike_then other takes = record {
    below = λ k high. below_logs F number m other known takes k high ∙ alike_mid.below k high;
    settled = settled_same F number m other known takes (first.gone refl) ∙ alike_mid.settled;
    refused = λ n few. refused_same F number m other known takes n few ∙ alike_mid.refused n few;
    closed = λ client few was. logs_still_closed F number m other known takes client few (alike_mid.closed client few was);
  }

  widened : (k v : ℕ) → ByClientLogs F number image k v → ByClientLogs F (number + 1) image k v
  widened k v by = record { number = by.number; below = let low = by.below in omega arith; of_log = by.of_log }

  of_this : (k v : ℕ) → ByClientLog F number m k v → ByClientLogs F (number + 1) image k v
  of_this k v by = record {
    number = number;
    below = omega arith;
    of_log = record {
      accepted = sym (alike_accepted F image m alike_mid number known log_mid) ∙ by.accepted;
      place = elim by.place [
        | inl here ↦ inl here
        | inr named ↦ inr (record { value = named.value; is = sym (alike_gives F image m alike_mid number known log_mid k) ∙ named.is })
      ];
    };
  }

  module _ (fault : Option HostFault) (new : State) (turn : RecoversLog F number m fault mid new) where
    still_closed : fault ≡ None → (n : ℕ) → n < number → m (log_number_at F n) ≡ CLOSED_GATE → reads new.now.words (log_number_at F n) ≡ CLOSED_GATE
    still_closed none n below was = beside_gate F number m (reads new.now.words) known (turn.takes none) (log_number_at F n) (omega arith) (λ same. absurd (omega arith)) ∙ was

    pub RecoversLogs-turn : RecoversLogs F (number + 1) image fault old new
    RecoversLogs-turn = record {
      changes = Changes-then (ByClientLogs F (number + 1) image) fault old mid new
          (Changes-wider (ByClientLogs F number image) (ByClientLogs F (number + 1) image) None old mid widened first.changes)
          (Changes-wider (ByClientLog F number m) (ByClientLogs F (number + 1) image) fault mid new of_this turn.changes);
      alike = λ none. alike_then (reads new.now.words) (turn.takes none);
      gone = λ none. nothing_below_next F number m (reads new.now.words) known (turn.takes none) (first.gone refl) (turn.gone none);
      closed = λ none n below accepted. elim (cases_eq n number) [
        | inl here ↦ ap (λ (x : ℕ). reads new.now.words (log_number_at F x)) here
            ∙ turn.closed none (alike_accepted F image m alike_mid number known log_mid ∙ ap (is_accepted_log F image) (sym here) ∙ accepted)
        | inr apart ↦ still_closed none n (omega arith) (first.closed refl n (omega arith) accepted)
      ];
      left = λ none n low few. other_log F number m (reads new.now.words) known (turn.takes none) n few (λ same. absurd (omega arith)) ∙ first.left refl n (omega arith) few;
    }

    pub RecoversLogsAtEachMoment-turn : RecoversLogsAtEachMoment F image None old mid → RecoversLogAtEachMoment F number m fault mid new → RecoversLogsAtEachMoment F image fault old new
    RecoversLogsAtEachMoment-turn so_far last = record {
      moments = Leaves-then (Silently (IsRecoveredAlike F image)) (Silently (IsRecoveredAlike F image)) (Silently (IsRecoveredAlike F image)) [] old mid new (said_mid ∙ sym (append-nil old.now.said))
          (λ front other q. q) (λ more other q. q) so_far.moments
          (Leaves-weaker (Silently (ReplaysClientLog F number m)) (Silently (IsRecoveredAlike F image)) mid new (λ bytes other q. (q.0, alike_then other q.1)) last.moments);
      rested = last.rested;
    }

pub none_of_fault : {A : Type 0} (fault : HostFault) → Some fault ≡ None → A
none_of_fault fault none = absurd (let it : None ≡ Some fault = sym none in cc)

-- after a fault nothing is stated about the end
pub RecoversLogs-failed : (F count all : ℕ) (image : Image) (fault : HostFault) (old new : State) → count ≤ all → RecoversLogs F count image (Some fault) old new → RecoversLogs F all image (Some fault) old new
RecoversLogs-failed F count all image fault old new few t =
    record {
      changes = Changes-wider (ByClientLogs F count image) (ByClientLogs F all image) (Some fault) old new (λ k v by. record { number = by.number; below = let low = by.below in omega arith; of_log = by.of_log }) t.changes;
      alike = λ none. none_of_fault fault none;
      gone = λ none. none_of_fault fault none;
      closed = λ none. none_of_fault fault none;
      left = λ none. none_of_fault fault none;
    }

-- nor is anything stated about the end of one log that was only read
pub RecoversLog-unread : (F number : ℕ) (image : Image) (fault : HostFault) (old new : State) → Changes (ByClientLog F number image) (Some fault) old new → RecoversLog F number image (Some fault) old new
RecoversLog-unread F number image fault old new changes = record {
  changes = changes;
  takes = λ none. none_of_fault fault none;
  gone = λ none. none_of_fault fault none;
  closed = λ none. none_of_fault fault none;
}
