-- A device that is recovered stage by stage: the daemon log is applied, and then the clients' logs are replayed and
-- closed.
use Rattle.std.proofs.Common.{◌≡◌, inl, inr, ⊎_elim, ℕ, ◌<◌, ◌≤◌, true, false, [], List, Option, Some, None, Err, refl, sym, ap, subst, ◌∙◌, arith}
use Rattle.std.proofs.lemmas.Bool.{cases_Bool, cond-false}
use Rattle.std.proofs.lemmas.List.{append-nil}
use Rattle.std.proofs.lemmas.Option.{none-some}
use Rattle.pm_model.specs.declared.host.HostFault.{HostFault}
use Rattle.pm_model.specs.Words.{reads, IsRested}
use Rattle.pm_model.specs.Moments.{State}
use Rattle.pm_model.specs.Changes.{Changes, Leaves, Silently}
use Rattle.pm_model.proofs.Words.{reads_only, HasOnly-newest}
use Rattle.pm_model.proofs.Changes.{Changes-said, Changes-wider, Changes-then, HasOnly-kept}
use Rattle.pm_model.proofs.Leaves.{Leaves-both, Leaves-changes, Leaves-then, Leaves-weaker}
use Rattle.pud_defs.specs.declared.layout.TheConstants.{DAEMON_LOG, TYPE_TABLE}
use Rattle.pud_defs.specs.declared.log_words.TheConstants.{CLOSED_GATE}
use Rattle.pud_defs.specs.Formats.Image.{Image}
use Rattle.pud_defs.specs.Formats.Layout.{tables_end, frames_at}
use Rattle.pud_defs.specs.Logging.Entries.{log_of, is_idle_gate}
use Rattle.pud_defs.specs.Logging.Replay.{device_word, new_value, IsInLog, is_in_log, settled_by}
use Rattle.pud_defs.specs.RegistryTables.Spaces.{owner_of, are_legal_spaces, space_record_at}
use Rattle.pud_defs.specs.RegistryTables.Tables.{tables_of}
use Rattle.pud_defs.specs.Logging.Settled.{ALL_LOGS, client_of_log, log_number_at, given_by_log, is_refused_log, is_accepted_log, is_in_logs, beside_logs, settled_over, settled}
use Rattle.pud_defs.specs.RegistryTables.Registry.{frames_of}
use Rattle.pud_defs.specs.StateMachine.World.{StoredWorld, world_of}
use Rattle.pud_defs.proofs.Logging.Replay.{overwritten-stays, settled_by-inside, settled_by-outside, settled_by-idle, outside_log, within_log}
use Rattle.pud_defs.proofs.RegistryTables.Spaces.{has_closed_logs-same, are_legal_spaces-same}
use Rattle.pud_defs.proofs.Logging.Settled.{settled_over-none}
use Rattle.pud_defs.proofs.Logging.Accepted.{accepted_not_refused}
use Rattle.pud_defs.proofs.Logging.LogsReplayed.{given_by_log-below}
use Rattle.pud_defs.proofs.Logging.LogsBeside.{agree_tables, agree_owner, agree_log, idle_given, idle_refused, idle_accepted, idle_settled, world_again}
use Rattle.pud_defs.proofs.Logging.Logged.{settled_by-client_logs}
use Rattle.pud_defs.proofs.StateMachine.Parts.{HoldsWorld}
use Rattle.pud_defs.proofs.StateMachine.Worlds.{settled-below, legal_log_of_world, holding_of_world, frames_of_world}
use Rattle.pud_defs.proofs.StateMachine.IdleWorlds.{legal_log_idle}
use Rattle.log_replay.specs.declared.Target.TheVariants as targets
use Rattle.log_replay.specs.Replaying.{ByLog as ByOneLog, SettlesLog}
use Rattle.registry.specs.declared.LoadFault.{LoadFault}
use Rattle.registry.specs.declared.LoadFault.TheVariants as loads
use Rattle.registry.specs.Registry.{load_fault, StillStands, AppliesLog}
use Rattle.recover.specs.declared.recovery.Report.{Report}
use Rattle.recover.specs.Verdicts.{verdict_by, verdict_of}
use Rattle.recover.specs.RecoveredLogs.{ByClientLogs, IsRecoveredAlike, RecoversLogs, RecoversLogsAtEachMoment}
use Rattle.recover.specs.Recovery.{recover_fault, of_load, ByRecovery, DiffersByRecovery, StandsAsStart, ReplaysLogs, RecoversDevice}
use Rattle.recover.proofs.LogsRecovered.{none_of_fault}

-- a word other than the gate of the daemon log is as in another image, if the daemon log of that one gives it no value
record StaysUnnamed (start image : Image) : Type 0 where
  each : (k : ℕ) → (k ≡ DAEMON_LOG → ⊥) → new_value device_word (log_of start DAEMON_LOG) k ≡ None → image k ≡ start k

module _ (size : ℕ) (s : StoredWorld) (a : State) (world : world_of size (reads a.now.words) ≡ Some s) where
  abbrev F : ℕ
  F = s.frames

  abbrev i : Image
  i = reads a.now.words

  abbrev Still : List ℕ → Image → Type 0
  Still = Silently (StandsAsStart size s i)

  -- ---- the daemon log

  frames_i : frames_of i ≡ F
  frames_i = frames_of_world size i s world

  -- the daemon log changes no word of the clients' logs
  logs_stay : (image : Image) → StillStands size s i image → (k : ℕ) → tables_end F ≤ k → k < frames_at F → image k ≡ i k
  logs_stay image p k low high =
      let frames : frames_of image ≡ F = frames_of_world size image s p.stands in
      sym (settled_by-client_logs image k (legal_log_of_world size image s p.stands) (rw frames low) (rw frames high)) ∙ ap (λ (x : Image). x k) p.settled
      ∙ settled_by-client_logs i k (legal_log_of_world size i s world) (rw frames_i low) (rw frames_i high)

  first_still : (image : Image) → StillStands size s i image → StaysUnnamed i image → StandsAsStart size s i image
  unfolding settled
  first_still image p stays = record {
    stands = p.stands;
    settles = λ k. ap (λ (x : Image). settled_over F x k) p.settled;
    refused = record { each = λ number few. ap (λ (x : Image). is_refused_log F x number) p.settled };
    closed = λ client few was. has_closed_logs-same image i F client few (logs_stay image p) ∙ was;
    records = λ client few. record {
      replayed = ap (λ (x : Image). x (space_record_at client)) p.settled;
      now = stays.each (space_record_at client) (λ same. absurd (omega arith));
    };
  }

  first_may : (k v : ℕ) → ByOneLog DAEMON_LOG (new_value device_word (log_of i DAEMON_LOG)) k v → ByRecovery F i k v
  first_may k v (inl here) = inl (record { low = omega arith; high = omega arith })
  first_may k v (inr named) = inr (inl named)

  first_changes : (fault : Option HostFault) (b : State) → SettlesLog targets.Words DAEMON_LOG fault a b → Changes (ByRecovery F i) fault a b
  first_changes fault b settles = Changes-wider (ByOneLog DAEMON_LOG (new_value device_word (log_of i DAEMON_LOG))) (ByRecovery F i) fault a b first_may settles.changes

  -- after a fault nothing is stated about the end
  broken_off : (fault : HostFault) (c : State) → Changes (ByRecovery F i) (Some fault) a c → ReplaysLogs F (Some fault) a c
  broken_off fault c changes = record {
    changes = changes;
    reads_so = λ none. none_of_fault fault none;
    daemon_log = λ none. none_of_fault fault none;
    closed = λ none. none_of_fault fault none;
    untouched = λ none. none_of_fault fault none;
  }

  -- this also holds if the load failed without a refusal
  pub ReplaysLogs-loaded : (fault : LoadFault) (b : State) → (fault ≡ loads.NotSound → ⊥) → SettlesLog targets.Words DAEMON_LOG (load_fault {T = ℕ} (Err fault)) a b
      → ReplaysLogs F (recover_fault {T = Report} (Err (of_load fault))) a b
  ReplaysLogs-loaded loads.NotSound b sound settles = absurd (sound refl)
  ReplaysLogs-loaded (loads.Host fault) b sound settles = broken_off fault b (first_changes (Some fault) b settles)

  module _ (b : State) (settles : SettlesLog targets.Words DAEMON_LOG None a b) (stands : world_of size (reads b.now.words) ≡ Some s) where
    abbrev m : Image
    m = reads b.now.words

    gate_b : m DAEMON_LOG ≡ CLOSED_GATE
    gate_b = HasOnly-newest (b.now.words DAEMON_LOG) CLOSED_GATE (settles.closed refl)

    idle_b : is_idle_gate (m DAEMON_LOG) ≡ true
    idle_b = ap is_idle_gate gate_b

    -- with the daemon log replayed, what is read now is the same as before
    settled_b : (k : ℕ) → settled_by DAEMON_LOG m k ≡ settled_by DAEMON_LOG i k
    settled_b k = elim (cases_Bool (is_in_log DAEMON_LOG k)) [
      | inl inside ↦ settled_by-inside DAEMON_LOG m k inside ∙ sym (settled_by-inside DAEMON_LOG i k inside)
      | inr outside ↦ settled_by-idle DAEMON_LOG m k idle_b outside
          ∙ settles.reads_so refl k (λ here. let it : false ≡ true = sym outside ∙ ap (is_in_log DAEMON_LOG) here in absurd (cc))
          ∙ sym (settled_by-outside DAEMON_LOG i k outside)
    ]

    now_b : StillStands size s i m
    now_b = record { settled = λ p k. settled_b k p; stands = stands }

    -- what is stated about the logs once the daemon log is replayed holds of what is read now
    accepted_b : (number : ℕ) → number < ALL_LOGS → is_accepted_log F m number ≡ is_accepted_log F (settled_by DAEMON_LOG i) number
    accepted_b number few = sym (idle_accepted F m idle_b number few) ∙ ap (λ (x : Image). is_accepted_log F x number) now_b.settled

    refused_b : (number : ℕ) → number < ALL_LOGS → is_refused_log F m number ≡ is_refused_log F (settled_by DAEMON_LOG i) number
    refused_b number few = sym (idle_refused F m idle_b number few) ∙ ap (λ (x : Image). is_refused_log F x number) now_b.settled

    given_b : (number w : ℕ) → number < ALL_LOGS → given_by_log F m number w ≡ given_by_log F (settled_by DAEMON_LOG i) number w
    given_b number w few = sym (idle_given F m idle_b number w few) ∙ ap (λ (x : Image). given_by_log F x number w) now_b.settled

    -- the words of the log-space table are as the replay of the daemon log makes them; they do not change if that log
    -- gives them no value
    plain_b : (k : ℕ) → is_in_log DAEMON_LOG k ≡ false → m k ≡ settled_by DAEMON_LOG i k
    plain_b k outside = sym (settled_by-idle DAEMON_LOG m k idle_b outside) ∙ settled_b k

    unnamed_b : (k : ℕ) → (k ≡ DAEMON_LOG → ⊥) → new_value device_word (log_of i DAEMON_LOG) k ≡ None → m k ≡ i k
    unnamed_b k apart nothing = settles.reads_so refl k apart ∙ overwritten-stays (new_value device_word (log_of i DAEMON_LOG)) i k nothing

    -- ---- the clients' logs

    held_i : HoldsWorld size (settled F i) s
    held_i = subst (λ (n : ℕ). HoldsWorld size (settled n i) s) (frames_of_world size i s world) (holding_of_world size i s world)

    module _ (image : Image) (alike : IsRecoveredAlike F m image) where
      idle_j : is_idle_gate (image DAEMON_LOG) ≡ true
      idle_j = ap is_idle_gate (alike.below DAEMON_LOG (omega arith)) ∙ idle_b

      alike_settles : (k : ℕ) → settled F image k ≡ settled F i k
      unfolding settled
      alike_settles k = elim (cases_Bool (is_in_log DAEMON_LOG k)) [
        | inl inside ↦
            let low = (within_log DAEMON_LOG k inside).low in
            let high = (within_log DAEMON_LOG k inside).high in
            settled-below F image k (omega arith) ∙ settled_by-inside DAEMON_LOG image k inside
            ∙ sym (settled-below F i k (omega arith) ∙ settled_by-inside DAEMON_LOG i k inside)
        | inr outside ↦
            idle_settled F image idle_j k outside ∙ ap (λ (x : Image). x k) alike.settled ∙ sym (idle_settled F m idle_b k outside) ∙ ap (λ (x : Image). settled_over F x k) now_b.settled
      ]

      alike_spaces : are_legal_spaces (settled F image) ≡ true
      alike_spaces = are_legal_spaces-same (settled F image) (settled F i) (λ k low high. alike_settles k) ∙ held_i.spaces

      alike_still : StandsAsStart size s i image
      alike_still = record {
        stands = world_again size s i image world (legal_log_idle image idle_j) (λ k read. alike_settles k) alike_spaces;
        settles = alike_settles;
        refused = record { each = λ number few. idle_refused F image idle_j number few ∙ alike.refused number few ∙ refused_b number few };
        closed = λ client few was. alike.closed client few (has_closed_logs-same m i F client few (logs_stay m now_b) ∙ was);
        records = λ client few.
            let at = space_record_at client in
            let outside : is_in_log DAEMON_LOG at ≡ false = outside_log DAEMON_LOG at (inr (omega arith)) in
            let same : image at ≡ m at = alike.below at (omega arith) in
            record {
              replayed = settled_by-idle DAEMON_LOG image at idle_j outside ∙ same ∙ plain_b at outside;
              now = λ nothing. same ∙ unnamed_b at (λ gate. absurd (omega arith)) nothing;
            };
      }

    second_may : (k v : ℕ) → ByClientLogs F ALL_LOGS m k v → ByRecovery F i k v
    second_may k v by = inr (inr (record {
      number = by.number;
      below = by.below;
      of_log = record {
        accepted = sym (accepted_b by.number by.below) ∙ by.of_log.accepted;
        place = elim by.of_log.place [
          | inl here ↦ inl here
          | inr named ↦ inr (record { value = named.value; is = sym (given_b by.number k by.below) ∙ named.is })
        ];
      };
    }))

    second_changes : (fault : Option HostFault) (c : State) → RecoversLogs F ALL_LOGS m fault b c → Changes (ByRecovery F i) fault a c
    second_changes fault c turns = Changes-then (ByRecovery F i) fault a b c (first_changes None b settles) (Changes-wider (ByClientLogs F ALL_LOGS m) (ByRecovery F i) fault b c second_may turns.changes)

    pub ReplaysLogs-failed : (fault : HostFault) (c : State) → RecoversLogs F ALL_LOGS m (Some fault) b c → ReplaysLogs F (Some fault) a c
    ReplaysLogs-failed fault c turns = broken_off fault c (second_changes (Some fault) c turns)

    module _ (c : State) (turns : RecoversLogs F ALL_LOGS m None b c) where
      abbrev n : Image
      n = reads c.now.words

      gate_c : n DAEMON_LOG ≡ CLOSED_GATE
      gate_c = (turns.alike refl).below DAEMON_LOG (omega arith) ∙ gate_b

      idle_c : is_idle_gate (n DAEMON_LOG) ≡ true
      idle_c = ap is_idle_gate gate_c

      -- no log gives a value any more, so the settled image is what the device has
      plain_c : settled F n ≡ beside_logs F (settled_by DAEMON_LOG n)
      unfolding settled
      plain_c = settled_over-none F (settled_by DAEMON_LOG n) (λ number w few. idle_given F n idle_c number w few ∙ (turns.gone refl).each number w few)

      -- a refused log is not written
      kept_c : (number : ℕ) → number < ALL_LOGS → is_refused_log F m number ≡ true → (k : ℕ) → IsInLog (log_number_at F number) k → n k ≡ m k
      kept_c number few refused k inside =
          let low = inside.low in
          let high = inside.high in
          (turns.changes.keeps (λ cut. absurd (let it : None ≡ Some _ = cut in cc)) k (λ v by.
          let known = by.below in
          elim by.of_log.place [
            | inl here ↦
                let same : by.number ≡ number = omega arith in
                let accepted = ap (is_accepted_log F m) (sym same) ∙ by.of_log.accepted in
                let it = accepted_not_refused (tables_of F m) (owner_of m (client_of_log number)) (log_of m (log_number_at F number)) accepted in
                absurd (let no : false ≡ true = sym it ∙ refused in cc)
            | inr named ↦ none-some named.value (sym (given_by_log-below F m by.number k (omega arith)) ∙ named.is)
          ])).newest

      kept_b : (number : ℕ) → number < ALL_LOGS → (k : ℕ) → IsInLog (log_number_at F number) k → m k ≡ i k
      kept_b number few k inside =
          let low = inside.low in
          let high = inside.high in
          logs_stay m now_b k (omega arith) (omega arith)

      pub ReplaysLogs-done : ReplaysLogs F None a c
      ReplaysLogs-done = record {
        changes = second_changes None c turns;
        reads_so = λ none k outside beside.
            sym (settled_by-idle DAEMON_LOG n k idle_c outside) ∙ sym (cond-false (is_in_logs F k) 0 (settled_by DAEMON_LOG n k) beside) ∙ sym (ap (λ (x : Image). x k) plain_c)
            ∙ alike_settles n (turns.alike refl) k;
        daemon_log = λ none. HasOnly-kept (ByClientLogs F ALL_LOGS m) None b c DAEMON_LOG CLOSED_GATE turns.changes (λ x by.
            let known = by.below in
            elim by.of_log.place [
              | inl here ↦ absurd (omega arith)
              | inr named ↦ none-some named.value (sym (given_by_log-below F m by.number DAEMON_LOG (omega arith)) ∙ named.is)
            ]) (settles.closed refl);
        closed = λ none number few accepted. turns.closed refl number few (accepted_b number few ∙ accepted);
        untouched = λ none number few refused k inside. kept_c number few (refused_b number few ∙ refused) k inside ∙ kept_b number few k inside;
      }

  -- ---- if the device was rested

  module _ (rested : IsRested a.now.words) where
    first_words : (fault : Option HostFault) (b : State) → SettlesLog targets.Words DAEMON_LOG fault a b → Leaves (Silently (StaysUnnamed i)) a b
    first_words fault b settles = Leaves-changes (StaysUnnamed i) (ByOneLog DAEMON_LOG (new_value device_word (log_of i DAEMON_LOG))) fault a b (λ before image picked from. record {
      each = λ k apart nothing. elim (from.each k) [
        | inl same ↦ same ∙ ap (λ (x : Image). x k) (reads_only a.now.words before rested picked)
        | inr by ↦ absurd (⊎_elim (λ gate. apart gate) (λ named. none-some named.value (sym nothing ∙ named.is)) by)
      ];
    }) settles.changes

    first_moments : (fault : Option HostFault) (b : State) → AppliesLog size s fault a b → SettlesLog targets.Words DAEMON_LOG fault a b → Leaves Still a b
    first_moments fault b applies settles = Leaves-weaker (Silently (λ image. StillStands size s i image × StaysUnnamed i image)) Still a b (λ bytes image p. (p.0, first_still image p.1.0 p.1.1))
        (Leaves-both (StillStands size s i) (StaysUnnamed i) a b applies.moments (first_words fault b settles))

    -- at each moment an image differs from what was read only where a recovery may write
    rights_by : (fault : Option HostFault) (c : State) → Changes (ByRecovery F i) fault a c → Leaves (Silently (DiffersByRecovery F i)) a c
    rights_by fault c changes = Leaves-changes (DiffersByRecovery F i) (ByRecovery F i) fault a c (λ before image picked from. record {
      each = λ k. elim (from.each k) [
        | inl same ↦ inl (same ∙ ap (λ (x : Image). x k) (reads_only a.now.words before rested picked))
        | inr may ↦ inr may
      ];
    }) changes

    pub RecoversDevice-loaded : (fault : LoadFault) (b : State) → (fault ≡ loads.NotSound → ⊥) → AppliesLog size s (load_fault {T = ℕ} (Err fault)) a b
        → SettlesLog targets.Words DAEMON_LOG (load_fault {T = ℕ} (Err fault)) a b → RecoversDevice size s (recover_fault {T = Report} (Err (of_load fault))) a b
    RecoversDevice-loaded loads.NotSound b sound applies settles = absurd (sound refl)
    RecoversDevice-loaded (loads.Host fault) b sound applies settles = record {
      rights = rights_by (Some fault) b (first_changes (Some fault) b settles);
      moments = first_moments (Some fault) b applies settles;
      rested = λ none. none_of_fault fault none;
    }

    pub RecoversDevice-taken : (b : State) → AppliesLog size s None a b → (settles : SettlesLog targets.Words DAEMON_LOG None a b) → (stands : world_of size (reads b.now.words) ≡ Some s)
        → (fault : Option HostFault) (c : State) → RecoversLogs F ALL_LOGS (reads b.now.words) fault b c → RecoversLogsAtEachMoment F (reads b.now.words) fault b c → RecoversDevice size s fault a c
    RecoversDevice-taken b applies settles stands fault c turns leaves =
        let said : b.now.said ≡ a.now.said = Changes-said (ByOneLog DAEMON_LOG (new_value device_word (log_of i DAEMON_LOG))) None a b settles.changes in
        record {
          rights = rights_by fault c (second_changes b settles stands fault c turns);
          moments = Leaves-then Still Still Still [] a b c (said ∙ sym (append-nil a.now.said)) (λ front image p. p) (λ more image p. p) (first_moments None b applies settles)
              (Leaves-weaker (Silently (IsRecoveredAlike F (reads b.now.words))) Still b c (λ bytes image p. (p.0, alike_still b settles stands image p.1)) leaves.moments);
          rested = leaves.rested;
        }

-- ---- for any content of the device

-- the verdict once the daemon log is replayed is the verdict by what is read after that log is applied
pub verdict_after : (F : ℕ) (a b : State) (number : ℕ) → SettlesLog targets.Words DAEMON_LOG None a b → number < ALL_LOGS
    → verdict_of F (reads b.now.words) number ≡ verdict_of F (settled_by DAEMON_LOG (reads a.now.words)) number
unfolding verdict_of
verdict_after F a b number settles few =
    let i = settled_by DAEMON_LOG (reads a.now.words) in
    let j = reads b.now.words in
    let same : (k : ℕ) → TYPE_TABLE ≤ k → j k ≡ i k = λ k low.
    settles.reads_so refl k (λ here. absurd (omega arith)) ∙ sym (settled_by-outside DAEMON_LOG (reads a.now.words) k (outside_log DAEMON_LOG k (inr (omega arith)))) in
    λ p. verdict_by (agree_tables F i j same p) (agree_owner F i j same (client_of_log number) (omega arith) p) (agree_log F i j same number few p)
