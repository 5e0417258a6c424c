-- A client's logs are closed again: images that differ only in the gates of these logs.
use Rattle.std.proofs.Common.{◌≡◌, ◌⊎◌, ◌&&◌, inl, inr, ⊎_elim, ℕ, ◌+◌, ◌<◌, ◌≤◌, Bool, true, false, ◌||◌, cond, eqb, [], Some, sym, ap, ◌∙◌, arith}
use Rattle.std.specs.Prelude.{is_some}
use Rattle.std.proofs.lemmas.Bool.{cases_Bool, cases_eq, or_left, or_right}
use Rattle.pud_defs.specs.declared.layout.TheConstants.{DAEMON_LOG, CLIENTS, CLIENT_LOGS, LOG_WORDS}
use Rattle.pud_defs.specs.declared.log_words.TheConstants.{CLOSED_GATE}
use Rattle.pud_defs.specs.Formats.Image.{Image}
use Rattle.pud_defs.specs.Formats.Layout.{tables_end, log_at, frames_at}
use Rattle.pud_defs.specs.Logging.Entries.{is_idle_gate, entries_of}
use Rattle.pud_defs.specs.Logging.Replay.{IsInLog, is_in_log, beside_log}
use Rattle.pud_defs.specs.RegistryTables.Spaces.{space_record_at, is_closed_range, is_closed_log, has_closed_logs, are_closed_logs, IsGateOf}
use Rattle.pud_defs.specs.StateMachine.World.{StoredWorld, idle_world_of}
use Rattle.pud_defs.proofs.Logging.Replay.{entries_of-idle, beside_log-outside, outside_log}
use Rattle.pud_defs.proofs.RegistryTables.Spaces.{all_below-from, all_below-each, is_closed_log-same}
use Rattle.pud_defs.proofs.StateMachine.Parts.{StandsFor}
use Rattle.pud_defs.proofs.StateMachine.Parts.Part.{Spaces}
use Rattle.pud_defs.proofs.StateMachine.IdleWorlds.{standing_logs, standing_idle, idle_world_of-beside, idle_registry_standing}

-- the second image differs from the first only in gates of this client's logs, which are closed in it
pub record IsClosedAgain (F client : ℕ) (i j : Image) : Type 0 where
  pub at : (k : ℕ) → (j k ≡ i k) ⊎ (IsGateOf F client k × (j k ≡ CLOSED_GATE))

-- a log with the closed gate is closed
pub closed_by_gate : (image : Image) (at : ℕ) → image at ≡ CLOSED_GATE → is_closed_log image at ≡ true
closed_by_gate image at gate =
    let empty : entries_of image at ≡ Some [] = entries_of-idle image at (ap is_idle_gate gate) in
    λ p. is_closed_range (gate p) && is_some (empty p)

above : (n k : ℕ) → n ≤ k → (k ≡ n → ⊥) → n < k
above n k low apart = omega (arith, apart)

of_used : (a b : Bool) → a ≡ false → (a || b) ≡ true → b ≡ true
of_used true b h either = absurd (let it : true ≡ false = h in cc)
of_used false b _ either = either

module _ (F client : ℕ) (i j : Image) (renewed : IsClosedAgain F client i j) where
  no_gate : (k : ℕ) → (IsGateOf F client k → ⊥) → j k ≡ i k
  no_gate k not = ⊎_elim (λ same. same) (λ gate. absurd (not gate.0)) (renewed.at k)

  -- no word before the logs differs
  pub below_logs : (k : ℕ) → k < tables_end F → j k ≡ i k
  below_logs k below = no_gate k (λ g. let is = g.is in omega arith)

  -- no word after the logs differs
  pub beyond_logs : client < CLIENTS → (k : ℕ) → frames_at F ≤ k → j k ≡ i k
  beyond_logs known k above = no_gate k (λ g. let is = g.is in let few = g.below in omega arith)

  -- no word of a log after its gate differs
  after_gate : (c n k : ℕ) → log_at F c n < k → k < log_at F c n + LOG_WORDS → j k ≡ i k
  after_gate c n k low high = no_gate k (λ g. let is = g.is in omega arith)

  same_log : (c n : ℕ) → j (log_at F c n) ≡ i (log_at F c n) → (k : ℕ) → IsInLog (log_at F c n) k → j k ≡ i k
  same_log c n gate k inside = ⊎_elim
      (λ here. ap j here ∙ gate ∙ sym (ap i here))
      (λ apart. after_gate c n k (above (log_at F c n) k inside.low apart) inside.high)
      (cases_eq k (log_at F c n))

  -- a log that was closed is still closed
  still_closed : (c n : ℕ) → is_closed_log i (log_at F c n) ≡ true → is_closed_log j (log_at F c n) ≡ true
  still_closed c n closed = ⊎_elim
      (λ same. is_closed_log-same j i (log_at F c n) (same_log c n same) ∙ closed)
      (λ gate. closed_by_gate j (log_at F c n) gate.1)
      (renewed.at (log_at F c n))

  all_still_closed : (c : ℕ) → has_closed_logs i F c ≡ true → has_closed_logs j F c ≡ true
  all_still_closed c closed =
      all_below-from CLIENT_LOGS (λ n. is_closed_log j (log_at F c n))
      (λ n few. still_closed c n (all_below-each CLIENT_LOGS (λ m. is_closed_log i (log_at F c m)) closed n few))

  registered : (c : ℕ) → c < CLIENTS → (eqb (i (space_record_at c)) 0 || has_closed_logs i F c) ≡ true → (eqb (j (space_record_at c)) 0 || has_closed_logs j F c) ≡ true
  registered c low closed = elim (cases_Bool (eqb (i (space_record_at c)) 0)) [
    | inl free ↦ or_left (eqb (j (space_record_at c)) 0) _ (ap (λ v. eqb v 0) (below_logs (space_record_at c) (omega arith)) ∙ free)
    | inr used ↦ or_right (eqb (j (space_record_at c)) 0) _ (all_still_closed c (of_used (eqb (i (space_record_at c)) 0) (has_closed_logs i F c) used closed))
  ]

  -- the registered logs stay closed
  pub logs_stay_closed : are_closed_logs i F ≡ true → are_closed_logs j F ≡ true
  logs_stay_closed closed =
      all_below-from CLIENTS (λ c. eqb (j (space_record_at c)) 0 || has_closed_logs j F c)
      (λ c low. registered c low (all_below-each CLIENTS (λ d. eqb (i (space_record_at d)) 0 || has_closed_logs i F d) closed c low))

-- so the second image stands for the same world
pub standing_again : (size client : ℕ) (i j : Image) (s : StoredWorld) → client < CLIENTS → StandsFor size i s → IsClosedAgain s.frames client i j → StandsFor size j s
standing_again size client i j s known h renewed =
    standing_logs size i j s h (record { at = λ k below. sym (below_logs s.frames client i j renewed k below) }) (λ k low high. beyond_logs s.frames client i j renewed known k low) (logs_stay_closed s.frames client i j renewed (h.holds Spaces).logs)

again_beside : (F client : ℕ) (i j : Image) → IsClosedAgain F client i j → IsClosedAgain F client (beside_log DAEMON_LOG i) (beside_log DAEMON_LOG j)
again_beside F client i j renewed = record {
  at = λ k. ⊎_elim
      (λ same. inl (ap (λ v. cond (is_in_log DAEMON_LOG k) 0 v) same))
      (λ gate. inr (gate.0, beside_log-outside DAEMON_LOG j k (outside_log DAEMON_LOG k (inr (let is = gate.0.is in omega arith))) ∙ gate.1))
      (renewed.at k);
}

-- the same for an image whose daemon log is closed and counts no word
pub idle_world_of-again : (size client : ℕ) (i j : Image) (s : StoredWorld) → client < CLIENTS → is_idle_gate (i DAEMON_LOG) ≡ true → idle_world_of size i ≡ Some s → IsClosedAgain s.frames client i j → idle_world_of size j ≡ Some s
idle_world_of-again size client i j s known closed world renewed =
    let gate : is_idle_gate (j DAEMON_LOG) ≡ true = ap is_idle_gate (below_logs s.frames client i j renewed DAEMON_LOG (omega arith)) ∙ closed in
    idle_world_of-beside size j gate
    ∙ idle_registry_standing size (beside_log DAEMON_LOG j) s
    (standing_again size client (beside_log DAEMON_LOG i) (beside_log DAEMON_LOG j) s known (standing_idle size i s closed world) (again_beside s.frames client i j renewed))

-- if each of the client's logs has the closed gate, its logs are closed
pub has_closed_logs-gates : (F client : ℕ) (image : Image) → ((n : ℕ) → n < CLIENT_LOGS → image (log_at F client n) ≡ CLOSED_GATE) → has_closed_logs image F client ≡ true
has_closed_logs-gates F client image gates =
    all_below-from CLIENT_LOGS (λ n. is_closed_log image (log_at F client n)) (λ n few. closed_by_gate image (log_at F client n) (gates n few))
