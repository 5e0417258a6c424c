-- The log-space table is emptied after a recovery: what is left at each moment, and what is there at the end.
use Rattle.std.proofs.Common.{◌≡◌, ◌⊎◌, inl, inr, ⊎_elim, ℕ, ◌+◌, ◌*◌, ◌<◌, ◌≤◌, Bool, true, false, not, ◌&&◌, eqb, leb, ltb, List, [], ◌++◌, Option, Some, None, refl, sym, ap, subst, ◌∙◌, arith, eqb-true}
use Rattle.std.proofs.lemmas.Bool.{cases_lt, cases_eq, cond-false, lt-leb, le-ltb, or_cases}
use Rattle.std.proofs.lemmas.List.{append-nil}
use Rattle.std.proofs.lemmas.Option.{none-some}
use Rattle.pm_model.specs.declared.host.HostFault.{HostFault}
use Rattle.pm_model.specs.declared.host.HostFault.TheVariants.{Cut}
use Rattle.pm_model.specs.Words.{Words, reads, Picks, HasOnly, IsRested}
use Rattle.pm_model.specs.Moments.{State}
use Rattle.pm_model.specs.Changes.{Silently, Leaves, IsFrom}
use Rattle.pm_model.proofs.Words.{Picks-reads, reads_only, HasOnly-newest, HasOnly-own}
use Rattle.pm_model.proofs.Changes.{Changes-said, HasOnly-kept}
use Rattle.pm_model.proofs.Leaves.{Leaves-now, Leaves-changes}
use Rattle.pud_defs.specs.declared.layout.TheConstants.{VERSION, FIRST_VERSION, VERSION_WORD, DAEMON_LOG, FRAMES_WORD, TYPE_TABLE, SPACE_TABLE, PUDDLE_TABLE, CLIENTS, CLIENT_LOGS}
use Rattle.pud_defs.specs.declared.log_words.TheConstants.{CLOSED_GATE}
use Rattle.pud_defs.specs.Formats.Image.{Image, image_with}
use Rattle.pud_defs.specs.Formats.Layout.{IsWithin, tables_end, log_at, frames_at}
use Rattle.pud_defs.specs.Logging.Entries.{Entry, log_of, is_idle_gate}
use Rattle.pud_defs.specs.Logging.Replay.{overwritten, is_in_log, settled_by}
use Rattle.pud_defs.specs.RegistryTables.Spaces.{Owner, owner, owner_by, owner_of, is_closed_log, has_closed_logs, space_record_at}
use Rattle.pud_defs.specs.RegistryTables.Tables.{tables_of}
use Rattle.pud_defs.specs.Logging.Allowed.{is_allowed_log, is_refused, is_accepted}
use Rattle.pud_defs.specs.Logging.Settled.{ALL_LOGS, client_of_log, log_number_at, is_refused_log, is_accepted_log, is_in_logs, beside_logs, settled_over, settled}
use Rattle.pud_defs.specs.RegistryTables.Registry.{frames_of, is_version, has_legal_log}
use Rattle.pud_defs.specs.StateMachine.World.{StoredWorld, world_of}
use Rattle.pud_defs.proofs.Logging.Replay.{overwritten-stays, overwritten-there, settled_by-idle, outside_log, not_inside}
use Rattle.pud_defs.proofs.RegistryTables.Spaces.{all_below-from, has_closed_logs-same, are_legal_spaces-same, are_legal_spaces-none}
use Rattle.pud_defs.proofs.Logging.Settled.{settled_over-none}
use Rattle.pud_defs.proofs.Logging.LogsBeside.{IsReadBeside, world_again}
use Rattle.pud_defs.proofs.Logging.Logged.{settled_by-unlogged, has_legal_log-of}
use Rattle.pud_defs.proofs.Logging.ClosedLogs.{closed_by_gate}
use Rattle.pud_defs.proofs.StateMachine.Parts.{HoldsWorld}
use Rattle.pud_defs.proofs.RegistryTables.TablesOf.{tables_of-same}
use Rattle.pud_defs.proofs.StateMachine.Worlds.{settled-below, holding_of_world, frames_of_world, legal_log_of_world}
use Rattle.pud_defs.proofs.StateMachine.Upgraded.{world_of-upgraded, owner_of-upgraded, tables_of-upgraded, has_closed_logs-upgraded}
use Rattle.pud_defs.proofs.Formats.Images.{written_there, written_other}
use Rattle.pud_defs.proofs.StateMachine.IdleWorlds.{legal_log_idle}
use Rattle.pud_defs.proofs.Logging.Idle.{given_by_log-unowned, idle_world_of-unowned}
use Rattle.batch.specs.Batches.{HasIdleGate, batch_write, ByBatch, committed, IsBatched}
use Rattle.batch.specs.Worlds.{IsQuiescent}
use Rattle.log_space.specs.Clearing.{clearing, Empties}
use Rattle.log_space.proofs.Cleared.{clearing-there, clearing-outside, clearing-allowed}
use Rattle.recover.specs.Recovery.{ByRecovery, StandsAsStart, ReplaysLogs, RecoversDevice}
use Rattle.recover.specs.Upgrading.{ByUpgrade, Upgrades}
use Rattle.puddled.specs.Starting.{ByStart, UpgradesLast}

abbrev emptied : List Entry
emptied = clearing CLIENTS

never_both : (b : Bool) → b && false ≡ false
never_both true = refl
never_both false = refl

not_false : (b : Bool) → not b ≡ false → b ≡ true
not_false true never = refl
not_false false never = absurd (let it : true ≡ false = never in cc)

-- A free record has no owner.
free_record : (image : Image) (client : ℕ) → image (space_record_at client) ≡ 0 → owner_of image client ≡ None
free_record image client free = ap (λ (used : ℕ). owner_by used (image (space_record_at client + 1)) (image (space_record_at client + 2))) free

-- If a log's client has no owner, the log is not refused.
unowned_not_refused : (F : ℕ) (image : Image) (number : ℕ) → owner_of image (client_of_log number) ≡ None → is_refused_log F image number ≡ false
unowned_not_refused F image number none = ap (λ (who : Option Owner). is_refused (tables_of F image) who (log_of image (log_number_at F number))) none

-- If a record is used and its log is not refused, the log is accepted.
accepted_owner : (F : ℕ) (image : Image) (number : ℕ) (who : Option Owner) (used uid gid : ℕ) → who ≡ owner_by used uid gid → used ≡ 1
    → is_refused (tables_of F image) who (log_of image (log_number_at F number)) ≡ false → is_accepted (tables_of F image) who (log_of image (log_number_at F number)) ≡ true
accepted_owner F image number None used uid gid of_record is allowed = absurd (none-some (owner uid gid) (of_record ∙ ap (λ (v : ℕ). owner_by v uid gid) is))
accepted_owner F image number (Some who) used uid gid of_record is allowed = not_false (is_allowed_log (tables_of F image) who (log_of image (log_number_at F number))) allowed

allowed_accepted : (F : ℕ) (image : Image) (number : ℕ) → image (space_record_at (client_of_log number)) ≡ 1 → is_refused_log F image number ≡ false → is_accepted_log F image number ≡ true
allowed_accepted F image number used allowed =
    let at = space_record_at (client_of_log number) in
    accepted_owner F image number (owner_of image (client_of_log number)) (image at) (image (at + 1)) (image (at + 2)) refl used allowed

-- The batch names only words of the log-space table.
in_table : (k v : ℕ) → batch_write emptied k ≡ Some v → IsWithin SPACE_TABLE PUDDLE_TABLE k
in_table k v is = elim (cases_lt k SPACE_TABLE) [
  | inl below ↦ absurd (none-some v (sym (clearing-outside CLIENTS k (omega arith) (inl below)) ∙ is))
  | inr low ↦ elim (cases_lt k PUDDLE_TABLE) [
    | inl high ↦ record { low = low; high = high }
    | inr beyond ↦ absurd (none-some v (sym (clearing-outside CLIENTS k (omega arith) (inr beyond)) ∙ is))
  ]
]

-- If the settled images of two images agree outside the log-space table, the images have the same pools and puddles.
pub settled_tables : (F : ℕ) (i j : Image) → ((k : ℕ) → IsReadBeside F k → settled F j k ≡ settled F i k) → tables_of F (settled_by DAEMON_LOG j) ≡ tables_of F (settled_by DAEMON_LOG i)
settled_tables F i j same = tables_of-same F (settled_by DAEMON_LOG j) (settled_by DAEMON_LOG i) (λ k low high. word k (inl high) (omega arith) (omega arith)) (λ k low high. word k (inr low) (omega arith) high)
  where
    word : (k : ℕ) → (k < SPACE_TABLE) ⊎ (PUDDLE_TABLE ≤ k) → TYPE_TABLE ≤ k → k < tables_end F → settled_by DAEMON_LOG j k ≡ settled_by DAEMON_LOG i k
    word k spaces low below = sym (settled-below F j k below) ∙ same k (record { beside = inr low; spaces = spaces; logs = inl below }) ∙ settled-below F i k below

-- Words that a recovery left of a rested device that read as this image and stood for this world.
pub record IsAfterRecovery (size : ℕ) (s : StoredWorld) (i : Image) (words : Words) : Type 0 where
  pub rested : IsRested words
  pub still : StandsAsStart size s i (reads words)
  pub gate : HasOnly (words DAEMON_LOG) CLOSED_GATE
  pub reads_so : (k : ℕ) → is_in_log DAEMON_LOG k ≡ false → is_in_logs s.frames k ≡ false → reads words k ≡ settled s.frames i k
  pub closed : (number : ℕ) → number < ALL_LOGS → is_accepted_log s.frames (settled_by DAEMON_LOG i) number ≡ true → reads words (log_number_at s.frames number) ≡ CLOSED_GATE

pub after_recovery : (size : ℕ) (s : StoredWorld) (a b : State) → ReplaysLogs s.frames None a b → RecoversDevice size s None a b → IsAfterRecovery size s (reads a.now.words) b.now.words
after_recovery size s a b p r =
    let said = Changes-said (ByRecovery s.frames (reads a.now.words)) None a b p.changes ∙ sym (append-nil a.now.said) in
    record {
      rested = r.rested refl;
      still = (Leaves-now (Silently (StandsAsStart size s (reads a.now.words))) [] a b said r.moments (reads b.now.words) (Picks-reads b.now.words)).1;
      gate = p.daemon_log refl;
      reads_so = p.reads_so refl;
      closed = p.closed refl;
    }

-- An image that is left while the log-space table is emptied. It stands for the world and has the same pools and
-- puddles. A log is refused only if it was refused before. A client's logs are closed exactly if they were closed when
-- it began.
pub record IsEmptying (size : ℕ) (s : StoredWorld) (i n image : Image) : Type 0 where
  pub stands : world_of size image ≡ Some s
  pub tables : tables_of s.frames (settled_by DAEMON_LOG image) ≡ tables_of s.frames (settled_by DAEMON_LOG i)
  pub refused : (number : ℕ) → number < ALL_LOGS → is_refused_log s.frames (settled_by DAEMON_LOG i) number ≡ false → is_refused_log s.frames (settled_by DAEMON_LOG image) number ≡ false
  pub closed : (client : ℕ) → client < CLIENTS → has_closed_logs image s.frames client ≡ has_closed_logs n s.frames client
  pub version : image VERSION_WORD ≡ i VERSION_WORD

-- An image that is left while the present version is made durable. It stands for the world and has the same pools and
-- puddles. No log is registered in it. A client's logs are closed exactly if they were closed before. Its version is the
-- one from before or the present one.
pub record IsUpgrading (size : ℕ) (s : StoredWorld) (i n image : Image) : Type 0 where
  pub stands : world_of size image ≡ Some s
  pub tables : tables_of s.frames (settled_by DAEMON_LOG image) ≡ tables_of s.frames (settled_by DAEMON_LOG i)
  pub nobody : (client : ℕ) → client < CLIENTS → owner_of (settled_by DAEMON_LOG image) client ≡ None
  pub closed : (client : ℕ) → client < CLIENTS → has_closed_logs image s.frames client ≡ has_closed_logs n s.frames client
  pub version : (image VERSION_WORD ≡ i VERSION_WORD) ⊎ (image VERSION_WORD ≡ VERSION)

-- It is one too with the present version.
upgrading_after : (size : ℕ) (s : StoredWorld) (i n image : Image) → IsUpgrading size s i n image → IsUpgrading size s i n (image_with VERSION_WORD VERSION image)
upgrading_after size s i n image h = record {
  stands = world_of-upgraded size image s h.stands;
  tables = tables_of-upgraded image s.frames ∙ h.tables;
  nobody = λ client few. owner_of-upgraded image client few ∙ h.nobody client few;
  closed = λ client few. has_closed_logs-upgraded image s.frames client few ∙ h.closed client few;
  version = inr (written_there VERSION_WORD VERSION image);
}

-- So the version is the one from before, or no log is registered.
pub upgrades_last : (size : ℕ) (s : StoredWorld) (i n image : Image) → IsUpgrading size s i n image → UpgradesLast i image
upgrades_last size s i n image h = elim h.version [ inl same ↦ inl same | inr is ↦ inr (is, record { each = h.nobody }) ]

-- In such an image no log is refused.
pub upgrading_refuses_none : (size : ℕ) (s : StoredWorld) (i n image : Image) → IsUpgrading size s i n image → (number : ℕ) → number < ALL_LOGS → is_refused_log s.frames (settled_by DAEMON_LOG image) number ≡ false
upgrading_refuses_none size s i n image h number few = unowned_not_refused s.frames (settled_by DAEMON_LOG image) number (h.nobody (client_of_log number) (omega arith))

module _ (size : ℕ) (s : StoredWorld) (i : Image) (world : world_of size i ≡ Some s) (c : State) (following : IsAfterRecovery size s i c.now.words) where
  abbrev F : ℕ
  F = s.frames

  abbrev n : Image
  n = reads c.now.words

  idle_c : is_idle_gate (n DAEMON_LOG) ≡ true
  idle_c = ap is_idle_gate (HasOnly-newest (c.now.words DAEMON_LOG) CLOSED_GATE following.gate)

  -- The daemon log counts nothing.
  pub idle_gate : HasIdleGate DAEMON_LOG c.now.words
  idle_gate = record { each = λ v had. ap is_idle_gate (following.gate.each v had) }

  frames_c : n FRAMES_WORD ≡ F
  frames_c = frames_of_world size n s following.still.stands

  -- If no log is refused, each log of a client whose record is used is closed.
  pub used_closed : ((number : ℕ) → number < ALL_LOGS → is_refused_log F (settled_by DAEMON_LOG i) number ≡ false) → (client : ℕ) → client < CLIENTS
      → settled_by DAEMON_LOG i (space_record_at client) ≡ 1 → has_closed_logs n F client ≡ true
  used_closed none client few used = all_below-from CLIENT_LOGS (λ k. is_closed_log n (log_at F client k)) (λ k below.
      let number = CLIENT_LOGS * client + k in
      let at : log_at F client k ≡ log_number_at F number = omega arith in
      let of_client : client_of_log number ≡ client = omega arith in
      let accepted : is_accepted_log F (settled_by DAEMON_LOG i) number ≡ true = allowed_accepted F (settled_by DAEMON_LOG i) number
      (ap (λ (c : ℕ). settled_by DAEMON_LOG i (space_record_at c)) of_client ∙ used) (none number (omega arith)) in
      ap (is_closed_log n) at ∙ closed_by_gate n (log_number_at F number) (following.closed number (omega arith) accepted))

  active_i : HoldsWorld size (settled F i) s
  active_i = subst (λ (n : ℕ). HoldsWorld size (settled n i) s) (frames_of_world size i s world) (holding_of_world size i s world)

  module _ (image : Image) (batched : IsBatched c.now.words DAEMON_LOG emptied image) where
    before_c : batched.before ≡ n
    before_c = reads_only c.now.words batched.before following.rested batched.picked

    frames_j : frames_of image ≡ F
    frames_j =
        batched.outside FRAMES_WORD (outside_log DAEMON_LOG FRAMES_WORD (inl (omega arith))) (clearing-outside CLIENTS FRAMES_WORD (omega arith) (inl (omega arith)))
        ∙ ap (λ (x : Image). x FRAMES_WORD) before_c ∙ frames_c

    legal_j : has_legal_log image ≡ true
    legal_j = elim batched.log [
      | inl idle ↦ legal_log_idle image idle
      | inr full ↦ has_legal_log-of image F (committed emptied) frames_j full (clearing-allowed F CLIENTS (committed emptied) (omega arith))
    ]

    -- The batch writes no word of the clients' logs.
    logs_j : (client : ℕ) → client < CLIENTS → has_closed_logs image F client ≡ has_closed_logs n F client
    logs_j client few =
        has_closed_logs-same image n F client few (λ k low high.
        batched.outside k (outside_log DAEMON_LOG k (inr (omega arith))) (clearing-outside CLIENTS k (omega arith) (inr (omega arith))) ∙ ap (λ (x : Image). x k) before_c)

    -- No batch changes the version.
    same_version : settled F image VERSION_WORD ≡ settled F i VERSION_WORD → image VERSION_WORD ≡ i VERSION_WORD
    same_version same =
        sym (settled_by-unlogged image VERSION_WORD legal_j (omega arith)) ∙ sym (settled-below F image VERSION_WORD (omega arith)) ∙ same
        ∙ settled-below F i VERSION_WORD (omega arith) ∙ settled_by-unlogged i VERSION_WORD (legal_log_of_world size i s world) (omega arith)

    -- The image is such an image if it has the table as it was.
    same_still : settled_by DAEMON_LOG image ≡ settled_by DAEMON_LOG batched.before → IsEmptying size s i n image
    unfolding settled
    same_still same =
        let is : settled_by DAEMON_LOG image ≡ settled_by DAEMON_LOG n = same ∙ ap (settled_by DAEMON_LOG) before_c in
        let settles_so : (k : ℕ) → settled F image k ≡ settled F i k = λ k. ap (λ (x : Image). settled_over F x k) is ∙ following.still.settles k in
        record {
          stands = world_again size s i image world legal_j (λ k read. settles_so k)
              (are_legal_spaces-same (settled F image) (settled F i) (λ k low high. settles_so k) ∙ active_i.spaces);
          tables = settled_tables F i image (λ k read. settles_so k);
          refused = λ number few not_refused. ap (λ (x : Image). is_refused_log F x number) is ∙ following.still.refused.each number few ∙ not_refused;
          closed = logs_j;
          version = same_version (settles_so VERSION_WORD);
        }

    outside_logs : (k : ℕ) → (k < tables_end F) ⊎ (frames_at F ≤ k) → is_in_logs F k ≡ false
    outside_logs k (inl below) = ap (λ (b : Bool). b && ltb k (frames_at F)) (lt-leb (tables_end F) k below)
    outside_logs k (inr above) = ap (λ (b : Bool). leb (tables_end F) k && b) (le-ltb k (frames_at F) above) ∙ never_both (leb (tables_end F) k)

    module _ (all : settled_by DAEMON_LOG image ≡ overwritten (batch_write emptied) (settled_by DAEMON_LOG batched.before)) where
      over_n : settled_by DAEMON_LOG image ≡ overwritten (batch_write emptied) (settled_by DAEMON_LOG n)
      over_n = all ∙ ap (λ (x : Image). overwritten (batch_write emptied) (settled_by DAEMON_LOG x)) before_c

      record_free : (client : ℕ) → client < CLIENTS → settled_by DAEMON_LOG image (space_record_at client) ≡ 0
      record_free client few =
          ap (λ (x : Image). x (space_record_at client)) over_n
          ∙ overwritten-there (batch_write emptied) (settled_by DAEMON_LOG n) (space_record_at client) 0 (clearing-there CLIENTS client few)

      nobody : (client : ℕ) → client < CLIENTS → owner_of (settled_by DAEMON_LOG image) client ≡ None
      nobody client few = free_record (settled_by DAEMON_LOG image) client (record_free client few)

      -- Outside the table its settled image is the same.
      settles_beside : (k : ℕ) → IsReadBeside F k → settled F image k ≡ settled F i k
      unfolding settled
      settles_beside k read =
          let outside : is_in_log DAEMON_LOG k ≡ false = outside_log DAEMON_LOG k (⊎_elim (λ low. inl low) (λ high. inr (omega arith)) read.beside) in
          let beside : is_in_logs F k ≡ false = outside_logs k read.logs in
          let plain : settled F image ≡ beside_logs F (settled_by DAEMON_LOG image) = settled_over-none F (settled_by DAEMON_LOG image)
          (λ number w few. given_by_log-unowned F (settled_by DAEMON_LOG image) number w nobody few) in
          ap (λ (x : Image). x k) plain ∙ cond-false (is_in_logs F k) 0 (settled_by DAEMON_LOG image k) beside
          ∙ ap (λ (x : Image). x k) over_n ∙ overwritten-stays (batch_write emptied) (settled_by DAEMON_LOG n) k (clearing-outside CLIENTS k (omega arith) read.spaces)
          ∙ settled_by-idle DAEMON_LOG n k idle_c outside ∙ following.reads_so k outside beside

      -- The image is such an image if it has the table emptied.
      emptied_still : IsEmptying size s i n image
      emptied_still = record {
        stands = world_again size s i image world legal_j settles_beside
            (are_legal_spaces-none (settled F image) (λ client few. settled-below F image (space_record_at client) (omega arith) ∙ record_free client few));
        tables = settled_tables F i image settles_beside;
        refused = λ number few not_refused. unowned_not_refused F (settled_by DAEMON_LOG image) number (nobody (client_of_log number) (omega arith));
        closed = logs_j;
        version = same_version (settles_beside VERSION_WORD (record { beside = inl (omega arith); spaces = inl (omega arith); logs = inl (omega arith) }));
      }

    pub batched_still : IsEmptying size s i n image
    batched_still = elim batched.settled [ inl same ↦ same_still same | inr all ↦ emptied_still all ]

  pub third_may : (k v : ℕ) → ByBatch DAEMON_LOG emptied k v → ByStart F i k v
  third_may k v (inl inside) = inl (inl inside)
  third_may k v (inr named) = inr (inl (in_table k named.value named.is))

  -- ---- at the end

  module _ (d : State) (empties : Empties None c d) where
    -- A word outside the daemon log that the batch does not write keeps its value.
    kept_d : (k : ℕ) → is_in_log DAEMON_LOG k ≡ false → batch_write emptied k ≡ None → reads d.now.words k ≡ n k
    kept_d k outside nothing = (empties.commits.changes.keeps (λ cut. absurd (let it : None ≡ Some Cut = cut in cc)) k (λ v by. elim by [
      | inl inside ↦ not_inside DAEMON_LOG k outside inside
      | inr named ↦ none-some named.value (sym nothing ∙ named.is)
    ])).newest

    pub single_d : (k : ℕ) → is_in_log DAEMON_LOG k ≡ false → HasOnly (d.now.words k) (reads d.now.words k)
    single_d k outside = elim (batch_write emptied k) as (λ o. batch_write emptied k ≡ o → HasOnly (d.now.words k) (reads d.now.words k)) [
      | Some v ↦ λ some. HasOnly-own (d.now.words k) v (empties.commits.durable refl k v some)
      | None ↦ λ nothing. HasOnly-own (d.now.words k) (n k) (HasOnly-kept (ByBatch DAEMON_LOG emptied) None c d k (n k) empties.commits.changes (λ x by. elim by [
        | inl inside ↦ not_inside DAEMON_LOG k outside inside
        | inr named ↦ none-some named.value (sym nothing ∙ named.is)
      ]) (following.rested.each k))
    ] refl

    -- Outside the logs and the table the device reads as the settled image.
    pub reads_d : (k : ℕ) → is_in_log DAEMON_LOG k ≡ false → is_in_logs F k ≡ false → (k < SPACE_TABLE) ⊎ (PUDDLE_TABLE ≤ k) → reads d.now.words k ≡ settled F i k
    reads_d k outside beside spaces = kept_d k outside (clearing-outside CLIENTS k (omega arith) spaces) ∙ following.reads_so k outside beside

    -- Each image is one that is left while the table is emptied, and no log is registered in it.
    unowned_d : (image : Image) → Picks d.now.words image → IsEmptying size s i n image × ((client : ℕ) → client < CLIENTS → owner_of (settled_by DAEMON_LOG image) client ≡ None)
    unowned_d image picked =
        let said = Changes-said (ByBatch DAEMON_LOG emptied) None c d empties.commits.changes ∙ sym (append-nil c.now.said) in
        let batched = (Leaves-now (Silently (IsBatched c.now.words DAEMON_LOG emptied)) [] c d said empties.commits.moments image picked).1 in
        (batched_still image batched, λ client few. (empties.done refl image picked).each client few)

    below_tables : (k : ℕ) → k < tables_end F → is_in_logs F k ≡ false
    below_tables k below = ap (λ (b : Bool). b && ltb k (frames_at F)) (lt-leb (tables_end F) k below)

    -- The version is still the one that was read first.
    version_d : reads d.now.words VERSION_WORD ≡ i VERSION_WORD
    version_d =
        reads_d VERSION_WORD (outside_log DAEMON_LOG VERSION_WORD (inl (omega arith))) (below_tables VERSION_WORD (omega arith)) (inl (omega arith))
        ∙ settled-below F i VERSION_WORD (omega arith) ∙ settled_by-unlogged i VERSION_WORD (legal_log_of_world size i s world) (omega arith)

    -- If it is not the present version, it is the first.
    first_version : (reads d.now.words VERSION_WORD ≡ VERSION → ⊥) → i VERSION_WORD ≡ FIRST_VERSION
    first_version other =
        let settles : settled F i VERSION_WORD ≡ i VERSION_WORD =
        settled-below F i VERSION_WORD (omega arith) ∙ settled_by-unlogged i VERSION_WORD (legal_log_of_world size i s world) (omega arith) in
        let legal : is_version (i VERSION_WORD) ≡ true = sym (ap is_version settles) ∙ active_i.header.version in
        ⊎_elim (λ current. absurd (other (version_d ∙ eqb-true (i VERSION_WORD) VERSION current))) (λ first. eqb-true (i VERSION_WORD) FIRST_VERSION first)
        (or_cases (eqb (i VERSION_WORD) VERSION) (eqb (i VERSION_WORD) FIRST_VERSION) legal)

    pub upgrade_may : (k v : ℕ) → ByUpgrade (reads d.now.words) k v → ByStart F i k v
    upgrade_may k v by = inr (inr (by.0, (by.1.0, first_version by.1.1)))

    -- ---- while the present version is made durable

    upgrading_before : (image : Image) → Picks d.now.words image → IsUpgrading size s i n image
    upgrading_before image picked =
        let of = unowned_d image picked in
        record { stands = of.0.stands; tables = of.0.tables; nobody = of.1; closed = of.0.closed; version = inl of.0.version }

    -- Each image that is left is one from before, with the present version or without it.
    upgrading : (before image : Image) → Picks d.now.words before → IsFrom (ByUpgrade (reads d.now.words)) before image → IsUpgrading size s i n image
    upgrading before image picked from = elim (from.each VERSION_WORD) [
      | inl kept ↦
          let is : image ≡ before = λ p k. at_each k (λ e. ap image e ∙ kept ∙ sym (ap before e)) p in
          subst (λ (x : Image). IsUpgrading size s i n x) (sym is) (upgrading_before before picked)
      | inr by ↦
          let is : image ≡ image_with VERSION_WORD VERSION before = λ p k. with_version k by.1.0 p in
          subst (λ (x : Image). IsUpgrading size s i n x) (sym is) (upgrading_after size s i n before (upgrading_before before picked))
    ]
      where
        at_each : (k : ℕ) → (k ≡ VERSION_WORD → image k ≡ before k) → image k ≡ before k
        at_each k there = elim (from.each k) [ inl same ↦ same | inr by ↦ there by.0 ]

        with_version : (k : ℕ) → image VERSION_WORD ≡ VERSION → image k ≡ image_with VERSION_WORD VERSION before k
        with_version k version = elim (cases_eq k VERSION_WORD) [
          | inl e ↦ ap image e ∙ version ∙ sym (written_there VERSION_WORD VERSION before) ∙ sym (ap (image_with VERSION_WORD VERSION before) e)
          | inr other ↦ at_each k (λ e. absurd (other e)) ∙ sym (written_other VERSION_WORD VERSION before k other)
        ]

    module _ (fault : Option HostFault) (e : State) (upgrades : Upgrades fault d e) where
      pub still_e : Leaves (Silently (IsUpgrading size s i n)) d e
      still_e = Leaves-changes (IsUpgrading size s i n) (ByUpgrade (reads d.now.words)) fault d e upgrading upgrades.changes

      -- So is each image at the end.
      pub upgrading_e : (image : Image) → Picks e.now.words image → IsUpgrading size s i n image
      upgrading_e image picked =
          let said = Changes-said (ByUpgrade (reads d.now.words)) fault d e upgrades.changes ∙ sym (append-nil d.now.said) in
          (Leaves-now (Silently (IsUpgrading size s i n)) [] d e said still_e image picked).1

    module _ (e : State) (upgrades : Upgrades None d e) where
      -- Without a fault the present version is durable.
      pub version_e : HasOnly (e.now.words VERSION_WORD) VERSION
      version_e = upgrades.done refl (single_d VERSION_WORD (outside_log DAEMON_LOG VERSION_WORD (inl (omega arith))))

      -- Each other word has what it had.
      kept_e : (k v : ℕ) → (k ≡ VERSION_WORD → ⊥) → HasOnly (d.now.words k) v → HasOnly (e.now.words k) v
      kept_e k v apart had = HasOnly-kept (ByUpgrade (reads d.now.words)) None d e k v upgrades.changes (λ x by. apart by.0) had

      pub single_e : (k : ℕ) → is_in_log DAEMON_LOG k ≡ false → HasOnly (e.now.words k) (reads e.now.words k)
      single_e k outside = elim (cases_eq k VERSION_WORD) [
        | inl is ↦ subst (λ (j : ℕ). HasOnly (e.now.words j) (reads e.now.words j)) (sym is) (HasOnly-own (e.now.words VERSION_WORD) VERSION version_e)
        | inr other ↦ HasOnly-own (e.now.words k) (reads d.now.words k) (kept_e k (reads d.now.words k) other (single_d k outside))
      ]

      pub cleared_e : (client : ℕ) → client < CLIENTS → reads e.now.words (space_record_at client) ≡ 0
      cleared_e client few = HasOnly-newest (e.now.words (space_record_at client)) 0 (kept_e (space_record_at client) 0 (λ is. absurd (omega arith))
          (empties.commits.durable refl (space_record_at client) 0 (clearing-there CLIENTS client few)))

      -- Outside the logs, the table and the version the device reads as the settled image.
      pub reads_e : (k : ℕ) → (k ≡ VERSION_WORD → ⊥) → is_in_log DAEMON_LOG k ≡ false → is_in_logs F k ≡ false → (k < SPACE_TABLE) ⊎ (PUDDLE_TABLE ≤ k) → reads e.now.words k ≡ settled F i k
      reads_e k apart outside beside spaces =
          HasOnly-newest (e.now.words k) (reads d.now.words k) (kept_e k (reads d.now.words k) apart (single_d k outside)) ∙ reads_d k outside beside spaces

      -- Each image stands for the world, with nothing under way.
      pub settled_e : IsQuiescent size s e.now.words
      settled_e = record {
        stands = λ image picked.
            let of = upgrading_e None e upgrades image picked in
            idle_world_of-unowned size image s of.stands (version_e.each (image VERSION_WORD) (picked.each VERSION_WORD)) of.nobody;
        idle = λ v had. ap is_idle_gate ((kept_e DAEMON_LOG CLOSED_GATE (λ same. absurd (omega arith)) (empties.commits.closed refl)).each v had);
      }
