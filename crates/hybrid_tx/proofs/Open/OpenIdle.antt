-- If the log of a transaction is closed and its frames are as at the beginning, an image and the masked one stand for
-- the same world.
use Rattle.std.proofs.Common.{◌≡◌, inl, inr, ℕ, ◌+◌, ◌*◌, ◌<◌, ◌≤◌, true, false, ◌||◌, eqb, leb, Some, None, sym, ap, subst, ◌∙◌, arith}
use Rattle.std.proofs.lemmas.Bool.{cases_eq, or_cases, or_left, or_right, and_from, le-leb, lt-ltb}
use Rattle.pm_model.specs.Changes.{Write}
use Rattle.pm_model.specs.Masks.{masked_image}
use Rattle.pud_defs.specs.declared.layout.TheConstants.{DAEMON_LOG, POOL_TABLE, CLIENTS, CLIENT_LOGS}
use Rattle.pud_defs.specs.declared.log_words.TheConstants.{CLOSED_GATE}
use Rattle.pud_defs.specs.Logging.Allowed.{puddle_word}
use Rattle.pud_defs.specs.Logging.Entries.{log_of, is_idle_gate}
use Rattle.pud_defs.specs.Formats.Image.{Image}
use Rattle.pud_defs.specs.Formats.Layout.{tables_end, log_at}
use Rattle.pud_defs.specs.Logging.Replay.{device_word, new_value, IsInLog, is_in_log, settled_by}
use Rattle.pud_defs.specs.Logging.Settled.{ALL_LOGS, client_of_log, log_number_at}
use Rattle.pud_defs.specs.RegistryTables.SoundTables.{HasSoundTables}
use Rattle.pud_defs.specs.RegistryTables.Spaces.{space_record_at, is_closed_log, has_closed_logs, are_closed_logs}
use Rattle.pud_defs.specs.RegistryTables.Tables.{Tables, tables_of}
use Rattle.pud_defs.specs.StateMachine.World.{StoredWorld, idle_world_of}
use Rattle.pud_defs.proofs.StateMachine.IdleWorlds.{standing_logs, standing_of_idle_world, idle_world_of_standing, legal_log_of_idle_world}
use Rattle.pud_defs.proofs.Logging.LogsBeside.{agree_tables}
use Rattle.pud_defs.proofs.StateMachine.Parts.{StandsFor}
use Rattle.pud_defs.proofs.StateMachine.Parts.Part.{Spaces}
use Rattle.pud_defs.proofs.Logging.Replay.{new_value-closed, empty_range_of, settled_by-idle, outside_log}
use Rattle.pud_defs.proofs.RegistryTables.Spaces.{all_below-from, all_below-each, is_closed_log-same, owner_of-same}
use Rattle.pud_defs.proofs.RegistryTables.TablesOf.{tables_of-same}
use Rattle.word_transaction.specs.Running.{HasPlaces}
use Rattle.pud_defs.proofs.Logging.ClosedLogs.{closed_by_gate}
use Rattle.hybrid_tx.specs.PoolScopes.{pool_has_word, pool_scope, finished_of}
use Rattle.hybrid_tx.specs.Open.Masks.{OpenPool, is_open_record, open_mask, ArePuddlesOf, IsOpenPool}
use Rattle.hybrid_tx.specs.Open.ManyOpen.{OpenTransaction, Opens, AreOpenPools, HasRecords, MasksAll}
use Rattle.hybrid_tx.proofs.Open.OpenMasks.{mask_of_log, mask_of_gate, mask_cases, mask_below}
use Rattle.hybrid_tx.proofs.Open.OpenSettled.{other_log_apart}
use Rattle.hybrid_tx.proofs.Open.OpenImages.{masked_word_stays, masked_word, masked_same, same_legal}
use Rattle.hybrid_tx.proofs.Open.OpenPools.{open_on_device, open_places}
use Rattle.hybrid_tx.proofs.Open.OpenWorlds.{sound_with_masked}
use Rattle.hybrid_tx.proofs.Open.OpenAlone.{alone, are_alone, masks_alone, records_alone}

-- ---- images that differ in one log, which is closed

module _ (F number : ℕ) (a b : Image) (known : number < ALL_LOGS) (same : (k : ℕ) → is_in_log (log_number_at F number) k ≡ false → b k ≡ a k) (shut : is_closed_log b (log_number_at F number) ≡ true) where
  below_same : (k : ℕ) → k < tables_end F → b k ≡ a k
  below_same k below = same k (outside_log (log_number_at F number) k (inl (omega arith)))

  closed_one : (other : ℕ) → is_closed_log a (log_number_at F other) ≡ true → is_closed_log b (log_number_at F other) ≡ true
  closed_one other was = elim (cases_eq other number) [
    | inl here ↦ ap (λ (n : ℕ). is_closed_log b (log_number_at F n)) here ∙ shut
    | inr apart ↦ is_closed_log-same b a (log_number_at F other) (λ k inside. same k (other_log_apart F number other k apart inside)) ∙ was
  ]

  closed_again : are_closed_logs a F ≡ true → are_closed_logs b F ≡ true
  closed_again closed = all_below-from CLIENTS (λ c. eqb (b (space_record_at c)) 0 || has_closed_logs b F c) (λ c few.
      elim (or_cases (eqb (a (space_record_at c)) 0) (has_closed_logs a F c) (all_below-each CLIENTS (λ c. eqb (a (space_record_at c)) 0 || has_closed_logs a F c) closed c few)) [
        | inl free ↦ or_left (eqb (b (space_record_at c)) 0) (has_closed_logs b F c) (ap (λ (v : ℕ). eqb v 0) (below_same (space_record_at c) (omega arith)) ∙ free)
        | inr logs ↦ or_right (eqb (b (space_record_at c)) 0) (has_closed_logs b F c) (all_below-from CLIENT_LOGS (λ n. is_closed_log b (log_at F c n)) (λ n below.
            let at : log_at F c n ≡ log_number_at F (CLIENT_LOGS * c + n) = omega arith in
            ap (is_closed_log b) at ∙ closed_one (CLIENT_LOGS * c + n) (ap (is_closed_log a) (sym at) ∙ all_below-each CLIENT_LOGS (λ n. is_closed_log a (log_at F c n)) logs n below)))
      ])

-- if the second image differs from the first only in a log that is closed in it, it stands for the same world
standing_beside_own : (size number : ℕ) (a b : Image) (s : StoredWorld) → number < ALL_LOGS → ((k : ℕ) → is_in_log (log_number_at s.frames number) k ≡ false → b k ≡ a k)
    → is_closed_log b (log_number_at s.frames number) ≡ true → StandsFor size a s → StandsFor size b s
standing_beside_own size number a b s known same shut h =
    standing_logs size a b s h (record { at = λ k below. sym (below_same s.frames number a b known same shut k below) })
    (λ k low high. same k (outside_log (log_number_at s.frames number) k (inr (omega arith))))
    (closed_again s.frames number a b known same shut (h.holds Spaces).logs)

is_in : (at k : ℕ) → IsInLog at k → is_in_log at k ≡ true
is_in at k inside = and_from (leb at k) _ (le-leb _ _ inside.low) (lt-ltb _ _ inside.high)

-- ---- a closed daemon log

-- a closed daemon log names no word
pub unnamed_idle : (j : Image) (k : ℕ) → is_idle_gate (j DAEMON_LOG) ≡ true → new_value device_word (log_of j DAEMON_LOG) k ≡ None
unnamed_idle j k idle = new_value-closed device_word (log_of j DAEMON_LOG) k (empty_range_of (j DAEMON_LOG) idle)

-- so the tables of an image that is left are sound, and each transaction's places are those of the tables
module _ (size F : ℕ) (s : StoredWorld) (opens : Opens) (mask : Write) (j : Image) (frames : F ≡ s.frames) (are : AreOpenPools F opens) (all : MasksAll F opens mask)
    (idle : is_idle_gate (j DAEMON_LOG) ≡ true) (records : HasRecords opens j) (world : idle_world_of size (masked_image mask j) ≡ Some s) where
  pub sound_masked : HasSoundTables s.next_number (tables_of F j)
  sound_masked =
      subst (λ (t : Tables). HasSoundTables s.next_number t)
      (agree_tables F j (settled_by DAEMON_LOG j) (λ k low. settled_by-idle DAEMON_LOG j k idle (outside_log DAEMON_LOG k (inr (omega arith)))))
      (sound_with_masked size F s opens mask j frames are all world (λ k v is. unnamed_idle j k idle) records)

  pub places_masked : (n : ℕ) (o : OpenTransaction) → opens n ≡ Some o → HasPlaces (pool_scope F (finished_of o.pool.puddles)) (puddle_word (tables_of F j))
  places_masked n o there = open_places F o.pool o.before j (are.pool n o there) (records.each n o there) s.next_number sound_masked

-- the same for a transaction that is open alone
module _ (size F : ℕ) (s : StoredWorld) (p : OpenPool) (before j : Image) (frames : F ≡ s.frames) (opened : IsOpenPool F p before) (idle : is_idle_gate (j DAEMON_LOG) ≡ true)
    (records : (k : ℕ) → is_open_record p k ≡ true → j k ≡ before k) (world : idle_world_of size (masked_image (open_mask F p before) j) ≡ Some s) where
  pub sound_now : HasSoundTables s.next_number (tables_of F j)
  sound_now = sound_masked size F s (alone p before) (open_mask F p before) j frames (are_alone p before F opened) (masks_alone p before F) idle (records_alone p before j records) world

  pub places_now : HasPlaces (pool_scope F (finished_of p.puddles)) (puddle_word (tables_of F j))
  places_now = open_places F p before j opened records s.next_number sound_now

-- ---- with the frames as they were at the beginning

module _ (size : ℕ) (s : StoredWorld) (p : OpenPool) (before j : Image) (opened : IsOpenPool s.frames p before)
    (unnamed : (k v : ℕ) → open_mask s.frames p before k ≡ Some v → new_value device_word (log_of j DAEMON_LOG) k ≡ None)
    (records : (k : ℕ) → is_open_record p k ≡ true → j k ≡ before k) (mine : (k : ℕ) → pool_has_word s.frames (finished_of p.puddles) k ≡ true → j k ≡ before k) where
  abbrev mask : Write
  mask = open_mask s.frames p before

  abbrev masked_j : Image
  masked_j = masked_image mask j

  front : (k : ℕ) → k < POOL_TABLE → mask k ≡ None
  front = mask_below s.frames p before opened.slot opened.known (open_on_device s.frames p before opened)

  -- a masked word outside the log has the value with which it is masked
  as_masked : (k : ℕ) → is_in_log (log_number_at s.frames p.log_number) k ≡ false → (v : ℕ) → mask k ≡ Some v → j k ≡ v
  as_masked k outside v is = elim (mask_cases s.frames p before k v is) [
    | inl inside ↦ absurd (let it : true ≡ false = sym inside ∙ outside in cc)
    | inr own ↦ elim (or_cases (pool_has_word s.frames (finished_of p.puddles) k) (is_open_record p k) own.0) [
      | inl of_frame ↦ mine k of_frame ∙ own.1
      | inr of_record ↦ records k of_record ∙ own.1
    ]
  ]

  -- each word outside the log is the same in the masked image
  same_words : (k : ℕ) → is_in_log (log_number_at s.frames p.log_number) k ≡ false → settled_by DAEMON_LOG masked_j k ≡ settled_by DAEMON_LOG j k
  same_words k outside = masked_same mask front j unnamed k (as_masked k outside)

  masked_is_closed : is_closed_log (settled_by DAEMON_LOG masked_j) (log_number_at s.frames p.log_number) ≡ true
  masked_is_closed =
      closed_by_gate (settled_by DAEMON_LOG masked_j) (log_number_at s.frames p.log_number)
      (masked_word mask front j unnamed (log_number_at s.frames p.log_number) CLOSED_GATE (mask_of_gate s.frames p before))

  -- As a transaction begins: if an image stands for a world with each log closed, it does so masked too.
  pub idle_world_masked : idle_world_of size j ≡ Some s → idle_world_of size masked_j ≡ Some s
  idle_world_masked world =
      idle_world_of_standing size masked_j s
      (same_legal mask front j unnamed ∙ legal_log_of_idle_world size j s world)
      (standing_beside_own size p.log_number (settled_by DAEMON_LOG j) (settled_by DAEMON_LOG masked_j) s opened.known same_words masked_is_closed (standing_of_idle_world size j s world))

  own_is_closed : is_closed_log j (log_number_at s.frames p.log_number) ≡ true → is_closed_log (settled_by DAEMON_LOG j) (log_number_at s.frames p.log_number) ≡ true
  own_is_closed shut =
      is_closed_log-same (settled_by DAEMON_LOG j) j (log_number_at s.frames p.log_number) (λ k inside.
      let v = mask_of_log s.frames p before k (is_in (log_number_at s.frames p.log_number) k inside) in
      masked_word_stays mask front j unnamed k v.0 v.1)
      ∙ shut

  -- As it ends, with its log closed: if an image stands for a world masked, it does so as it is.
  pub idle_world_unmasked : is_closed_log j (log_number_at s.frames p.log_number) ≡ true → idle_world_of size masked_j ≡ Some s → idle_world_of size j ≡ Some s
  idle_world_unmasked shut world =
      idle_world_of_standing size j s
      (sym (same_legal mask front j unnamed) ∙ legal_log_of_idle_world size masked_j s world)
      (standing_beside_own size p.log_number (settled_by DAEMON_LOG masked_j) (settled_by DAEMON_LOG j) s opened.known (λ k outside. sym (same_words k outside)) (own_is_closed shut)
      (standing_of_idle_world size masked_j s world))

-- ---- an image with the same tables

-- an image with the same tables is one of the beginning too, as that of the values that a transaction commits
pub IsOpenPool-same : (F : ℕ) (p : OpenPool) (before after : Image) → ((k : ℕ) → POOL_TABLE ≤ k → k < tables_end F → after k ≡ before k) → IsOpenPool F p before → IsOpenPool F p after
IsOpenPool-same F p before after same opened =
    let few = opened.known in
    let tables : tables_of F after ≡ tables_of F before = tables_of-same F after before (λ k low high. same k low (omega arith)) (λ k low high. same k (omega arith) high) in
    record {
      known = opened.known;
      slot = opened.slot;
      used = ap (λ (t : Tables). t.pools p.slot) tables ∙ opened.used;
      puddles = subst (λ (t : Tables). ArePuddlesOf t p.slot (finished_of p.puddles)) (sym tables) opened.puddles;
      owned = owner_of-same after before (client_of_log p.log_number) (omega arith) (λ k low high. same k (omega arith) (omega arith)) ∙ opened.owned;
      right = opened.right;
    }
