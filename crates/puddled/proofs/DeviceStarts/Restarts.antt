-- A device that is brought up to date after a power loss or at a start, as the daemon has it.
use Rattle.std.proofs.Common.{◌≡◌, ◌≢◌, ◌⊎◌, ◌↔◌, inl, inr, ⊎_elim, ℕ, ◌<◌, ◌≤◌, Bool, true, false, ◌&&◌, ltb, [], List, ◌++◌, Option, Some, None, Result, Ok, Err, IfOk, refl, sym, ap, subst, ◌∙◌, arith}
use Rattle.std.proofs.lemmas.Bool.{lt-leb}
use Rattle.std.proofs.lemmas.List.{append-nil}
use Rattle.pm_model.specs.declared.host.HostFault.{HostFault}
use Rattle.pm_model.specs.Words.{reads}
use Rattle.pm_model.specs.Moments.{State}
use Rattle.pm_model.specs.Changes.{Changes, Leaves, Silently}
use Rattle.pm_model.specs.Masks.{no_mask}
use Rattle.pm_model.proofs.Words.{Picks-reads, HasOnly-newest}
use Rattle.pm_model.proofs.Changes.{Changes-said}
use Rattle.pm_model.proofs.Leaves.{Leaves-changes, Leaves-now, Leaves-then, Leaves-weaker}
use Rattle.pud_defs.specs.declared.layout.TheConstants.{VERSION, VERSION_WORD, DAEMON_LOG, FRAMES_WORD, SPACE_TABLE, PUDDLE_TABLE, CLIENTS}
use Rattle.pud_defs.specs.declared.records.TheConstants.{POOL_RECORDS}
use Rattle.pud_defs.specs.Formats.Image.{Image}
use Rattle.pud_defs.specs.Formats.Layout.{tables_end, frames_at}
use Rattle.pud_defs.specs.Logging.Entries.{log_of}
use Rattle.pud_defs.specs.RegistryTables.Spaces.{owner_by, space_record_at, has_closed_logs}
use Rattle.pud_defs.specs.Logging.Replay.{device_word, new_value, is_in_log, settled_by}
use Rattle.pud_defs.specs.RegistryTables.Registry.{frames_of}
use Rattle.pud_defs.specs.Logging.Settled.{ALL_LOGS, is_refused_log, is_in_logs, settled}
use Rattle.pud_defs.specs.StateMachine.World.{World, StoredWorld, world_of, closed, restart}
use Rattle.pud_defs.proofs.Logging.Replay.{overwritten-stays, settled_by-outside, outside_log}
use Rattle.pud_defs.proofs.Logging.Logged.{settled_by-unlogged}
use Rattle.pud_defs.proofs.StateMachine.Worlds.{legal_log_of_world, frames_of_world, settled-below}
use Rattle.pud_defs.proofs.Logging.Idle.{world_of_idle}
use Rattle.log_replay.specs.Replaying.{Anything}
use Rattle.batch.specs.Batches.{HasIdleGate, ByBatch, IsBatched}
use Rattle.log_space.specs.Clearing.{clearing, Empties}
use Rattle.recover.specs.declared.recovery.Report.{Report}
use Rattle.recover.specs.declared.recovery.RecoverFault.{RecoverFault}
use Rattle.recover.specs.declared.recovery.RecoverFault.TheVariants as recoveries
use Rattle.recover.specs.Upgrading.{ByUpgrade, Upgrades}
use Rattle.recover.specs.Recovery.{recover_fault, DiffersByRecovery, StandsAsStart, ReplaysLogs, RecoversDevice}
use Rattle.puddled.specs.declared.daemon.StartFault.{StartFault}
use Rattle.puddled.specs.declared.daemon.StartFault.TheVariants as starts
use Rattle.puddled.specs.Faults.{start_fault, of_recover}
use Rattle.daemon_memory.specs.Memory.{Memory, first_memory}
use Rattle.daemon_memory.specs.Ready.{IsReady, IsUsedAlone, IsClosedIfFree, IsClosedIfNamed, RefusesNone}
use Rattle.daemon_memory.proofs.PoolsKnown.KnownOpen.{KnowsPools-none}
use Rattle.daemon_memory.proofs.OpenTransactions.NoneActive.{AreActive-none, HasSessions-none}
use Rattle.puddled.specs.Starting.{ByStart, DiffersByStart, HasTablesOf, UpgradesLast, IsReplayed, Recovers}
use Rattle.puddled.proofs.DeviceStarts.Emptied.{settled_tables, IsAfterRecovery, IsEmptying, IsUpgrading, after_recovery, idle_gate, used_closed, batched_still, third_may, upgrade_may, upgrades_last, upgrading_refuses_none, still_e, version_e, single_e, cleared_e, reads_e, settled_e}

-- At a start too, a recovery's fault is that of the host, or none.
pub fault_of_recover : (fault : RecoverFault) → start_fault {T = Memory} (Err (of_recover fault)) ≡ recover_fault {T = Report} (Err fault)
fault_of_recover recoveries.NotSound = refl
fault_of_recover (recoveries.Host fault) = refl

-- A recovery that answered a fault answered this one, and one that went well answered none.
pub recovery_fault_is : {fault other : RecoverFault} → ◌≡◌ {A = Result Report RecoverFault} (Err fault) (Err other) → fault ≡ other
recovery_fault_is e = cc

pub recovered : {report : Report} {fault : RecoverFault} → ◌≡◌ {A = Result Report RecoverFault} (Ok report) (Err fault) → ⊥
recovered e = cc

-- If the recovery answered that the device is not sound, nothing changed, as on each device that is not sound.
pub refused_stays : (stands : Option StoredWorld) (a b : State) (fault : RecoverFault)
    → (recover_fault {T = Report} (Err fault) ≡ None → (◌≡◌ {A = Result Report RecoverFault} (Err fault) (Err recoveries.NotSound)) ↔ (stands ≡ None)) → (stands ≡ None → b ≡ a)
    → ◌≡◌ {A = Result Memory StartFault} (Err (of_recover fault)) (Err starts.NotSound) → b ≡ a
refused_stays stands a b recoveries.NotSound known stays is = stays ((known refl).0 refl)
refused_stays stands a b (recoveries.Host fault) known stays is = absurd (let no : ◌≡◌ {A = Result Memory StartFault} (Err (starts.Host fault)) (Err starts.NotSound) = is in cc)

-- A free record has no owner.
nobody_there : (used uid gid : ℕ) → used ≡ 0 → owner_by used uid gid ≡ None
nobody_there used uid gid free = ap (λ (v : ℕ). owner_by v uid gid) free

-- If a client's record is used and the daemon log gives it no value, the record is used also once that log is replayed.
used_settles : (client : ℕ) (image : Image) → IsUsedAlone client image → settled_by DAEMON_LOG image (space_record_at client) ≡ 1
used_settles client image used =
    let at = space_record_at client in
    settled_by-outside DAEMON_LOG image at (outside_log DAEMON_LOG at (inr (omega arith)))
    ∙ overwritten-stays (new_value device_word (log_of image DAEMON_LOG)) image at used.unnamed ∙ used.now

-- So logs that are closed before a batch names the record are closed before the record is free.
pub closed_if_free : (F client : ℕ) (image : Image) → IsClosedIfNamed F client image → IsClosedIfFree F client image
closed_if_free F client image (inl used) = inl (record { now = used.now; replayed = used_settles client image used })
closed_if_free F client image (inr shut) = inr shut

-- ---- a rested device that stands for a world

module _ (size : ℕ) (w : World) (a : State) (world : world_of size (reads a.now.words) ≡ Some (closed w)) where
  abbrev i : Image
  i = reads a.now.words

  abbrev F : ℕ
  F = w.stored.frames

  abbrev Still : List ℕ → Image → Type 0
  Still = Silently (StandsAsStart size (closed w) i)

  pub tables_still : (image : Image) → StandsAsStart size (closed w) i image → HasTablesOf F i image
  tables_still image still = settled_tables F i image (λ k read. still.settles k)

  none_refused : RefusesNone i → (number : ℕ) → number < ALL_LOGS → is_refused_log F (settled_by DAEMON_LOG i) number ≡ false
  none_refused none number few = ap (λ (n : ℕ). is_refused_log n (settled_by DAEMON_LOG i) number) (sym (frames_of_world size i (closed w) world)) ∙ none.each number few

  -- An image that stands for the world refuses no log, if none is refused by the world's number of frames.
  pub refuses_none : (image : Image) → world_of size image ≡ Some (closed w) → ((number : ℕ) → number < ALL_LOGS → is_refused_log F (settled_by DAEMON_LOG image) number ≡ false) → RefusesNone image
  refuses_none image stands none = record {
    each = λ number few. ap (λ (n : ℕ). is_refused_log n (settled_by DAEMON_LOG image) number) (frames_of_world size image (closed w) stands) ∙ none number few;
  }

  -- In such an image a client's logs are closed, unless its record is still used. They were closed at the start, unless
  -- the record was used and no batch named it.
  closed_still : (image : Image) → StandsAsStart size (closed w) i image → (client : ℕ) → client < CLIENTS → IsClosedIfNamed F client i → IsClosedIfFree F client image
  closed_still image still client few (inr was) = inr (still.closed client few was)
  closed_still image still client few (inl used) =
      let kept = still.records client few in
      inl (record { now = kept.now used.unnamed ∙ used.now; replayed = kept.replayed ∙ used_settles client i used })

  -- A recovery does not change the version.
  pub version_still : (image : Image) → StandsAsStart size (closed w) i image → image VERSION_WORD ≡ i VERSION_WORD
  version_still image still =
      sym (settled_by-unlogged image VERSION_WORD (legal_log_of_world size image (closed w) still.stands) (omega arith)) ∙ sym (settled-below F image VERSION_WORD (omega arith))
      ∙ still.settles VERSION_WORD ∙ settled-below F i VERSION_WORD (omega arith) ∙ settled_by-unlogged i VERSION_WORD (legal_log_of_world size i (closed w) world) (omega arith)

  pub wider_rights : (image : Image) → DiffersByRecovery F i image → DiffersByStart F i image
  wider_rights image differs = record { each = λ k. elim (differs.each k) [ inl same ↦ inl same | inr may ↦ inr (inl may) ] }

  -- ---- if the recovery did not come to its end

  pub Recovers-failed : (b : State) (fault : RecoverFault) → (fault ≡ recoveries.NotSound → ⊥) → Changes Anything (recover_fault {T = Report} (Err fault)) a b
      → RecoversDevice size (closed w) (recover_fault {T = Report} (Err fault)) a b → Recovers size w (Err (of_recover fault)) a b
  Recovers-failed b recoveries.NotSound sound any r = absurd (sound refl)
  Recovers-failed b (recoveries.Host fault) sound any r = record {
    moments = Leaves-weaker Still (Silently (λ image. world_of size image ≡ Some (closed w))) a b (λ bytes image m. (m.0, m.1.stands)) r.moments;
    tables = Leaves-weaker Still (λ bytes image. HasTablesOf F i image) a b (λ bytes image m. tables_still image m.1) r.moments;
    rights = Leaves-weaker (Silently (DiffersByRecovery F i)) (λ bytes image. DiffersByStart F i image) a b (λ bytes image m. wider_rights image m.1) r.rights;
    allowed = λ none. Leaves-weaker Still (λ bytes image. RefusesNone image) a b (λ bytes image m.
        refuses_none image m.1.stands (λ number few. m.1.refused.each number few ∙ none_refused none number few)) r.moments;
    logs = λ none client few was. Leaves-weaker Still (λ bytes image. IsClosedIfFree F client image) a b (λ bytes image m. closed_still image m.1 client few was) r.moments;
    upgraded = Leaves-weaker Still (λ bytes image. UpgradesLast i image) a b (λ bytes image m. inl (version_still image m.1)) r.moments;
    quiet = Changes-said Anything (Some fault) a b any;
    ready = tt;
    script = any.script;
    shelf = any.shelf;
  }

  -- ---- the log-space table is emptied after the recovery

  module _ (b c : State) (said : b.now.said ≡ a.now.said) (p : ReplaysLogs F None a b) (r : RecoversDevice size (closed w) None a b) where
    following : IsAfterRecovery size (closed w) i b.now.words
    following = after_recovery size (closed w) a b p r

    pub idle_gate_after : HasIdleGate DAEMON_LOG b.now.words
    idle_gate_after = idle_gate size (closed w) i world b following

    still_b : StandsAsStart size (closed w) i (reads b.now.words)
    still_b = following.still

    closed_b : RefusesNone i → (client : ℕ) → client < CLIENTS → IsClosedIfNamed F client i → has_closed_logs (reads b.now.words) F client ≡ true
    closed_b none client few was = elim was [
      | inl used ↦ used_closed size (closed w) i world b following (none_refused none) client few (used_settles client i used)
      | inr shut ↦ still_b.closed client few shut
    ]

    module _ (fault : Option HostFault) (empties : Empties fault b c) where
      abbrev Batched : List ℕ → Image → Type 0
      Batched = Silently (IsBatched b.now.words DAEMON_LOG (clearing CLIENTS))

      emptying : (image : Image) → IsBatched b.now.words DAEMON_LOG (clearing CLIENTS) image → IsEmptying size (closed w) i (reads b.now.words) image
      emptying = batched_still size (closed w) i world b following

      both : {P : List ℕ → Image → Type 0} → ((image : Image) → StandsAsStart size (closed w) i image → P [] image)
          → ((image : Image) → IsEmptying size (closed w) i (reads b.now.words) image → P [] image) → Leaves P a c
      both {P} early late = Leaves-then Still Batched P [] a b c (said ∙ sym (append-nil a.now.said)) (λ front image m. subst (λ (l : List ℕ). P l image) (sym m.0) (early image m.1))
          (λ more image m. subst (λ (l : List ℕ). P l image) (sym m.0) (late image (emptying image m.1))) r.moments empties.commits.moments

      rights_c : Leaves (λ bytes image. DiffersByStart F i image) a c
      rights_c = Leaves-weaker (Silently (DiffersByStart F i)) (λ bytes image. DiffersByStart F i image) a c (λ bytes image m. m.1)
          (Leaves-then (Silently (DiffersByRecovery F i)) (Silently (λ image. DiffersByStart F i image)) (Silently (DiffersByStart F i)) [] a b c (said ∙ sym (append-nil a.now.said))
          (λ front image m. (m.0, wider_rights image m.1)) (λ more image m. m) r.rights
          (Leaves-changes (DiffersByStart F i) (ByBatch DAEMON_LOG (clearing CLIENTS)) fault b c (λ before image picked from. record {
            each = λ k. elim (from.each k) [
              | inl same ↦
                  let was = (Leaves-now (Silently (DiffersByRecovery F i)) [] a b (said ∙ sym (append-nil a.now.said)) r.rights before picked).1 in
                  elim (was.each k) [
                    | inl kept ↦ inl (same ∙ kept)
                    | inr may ↦ inr (subst (λ (v : ℕ). ByStart F i k v) (sym same) (inl may))
                  ]
              | inr by ↦ inr (third_may size (closed w) i world b following k (image k) by)
            ];
          }) empties.commits.changes))

      moments_c : Leaves (Silently (λ image. world_of size image ≡ Some (closed w))) a c
      moments_c = both (λ image still. (refl, still.stands)) (λ image still. (refl, still.stands))

      allowed_c : RefusesNone i → Leaves (λ bytes image. RefusesNone image) a c
      allowed_c none = both {P = λ bytes image. RefusesNone image}
          (λ image still. refuses_none image still.stands (λ number few. still.refused.each number few ∙ none_refused none number few))
          (λ image still. refuses_none image still.stands (λ number few. still.refused number few (none_refused none number few)))

      tables_c : Leaves (λ bytes image. HasTablesOf F i image) a c
      tables_c = both {P = λ bytes image. HasTablesOf F i image} tables_still (λ image still. still.tables)

      logs_c : RefusesNone i → (client : ℕ) → client < CLIENTS → IsClosedIfNamed F client i → Leaves (λ bytes image. IsClosedIfFree F client image) a c
      logs_c none client few was = both {P = λ bytes image. IsClosedIfFree F client image} (λ image still. closed_still image still client few was)
          (λ image still. inr (still.closed client few ∙ closed_b none client few was))

      upgraded_c : Leaves (λ bytes image. UpgradesLast i image) a c
      upgraded_c = both {P = λ bytes image. UpgradesLast i image} (λ image still. inl (version_still image still)) (λ image still. inl still.version)

      pub Recovers-by : (result : Result Memory StartFault) → c.script ≡ a.script → c.shelf ≡ a.shelf → IfOk result (λ memory. IsReady size (restart w) memory c) → Recovers size w result a c
      Recovers-by result script shelf ready = record {
        moments = moments_c;
        tables = tables_c;
        rights = rights_c;
        allowed = allowed_c;
        logs = logs_c;
        upgraded = upgraded_c;
        quiet = Changes-said (ByBatch DAEMON_LOG (clearing CLIENTS)) fault b c empties.commits.changes ∙ said;
        ready = ready;
        script = script;
        shelf = shelf;
      }

    -- ---- the present version is made durable after that

    module _ (empties : Empties None b c) (d : State) (fault : Option HostFault) (upgrades : Upgrades fault c d) where
      said_c : c.now.said ≡ a.now.said ++ []
      said_c = Changes-said (ByBatch DAEMON_LOG (clearing CLIENTS)) None b c empties.commits.changes ∙ said ∙ sym (append-nil a.now.said)

      abbrev Upgrading : List ℕ → Image → Type 0
      Upgrading = Silently (IsUpgrading size (closed w) i (reads b.now.words))

      upgraded_too : {P : List ℕ → Image → Type 0} → Leaves P a c → ((image : Image) → IsUpgrading size (closed w) i (reads b.now.words) image → P [] image) → Leaves P a d
      upgraded_too {P} before late = Leaves-then P Upgrading P [] a c d said_c (λ front image m. m)
          (λ more image m. subst (λ (l : List ℕ). P l image) (sym m.0) (late image m.1)) before (still_e size (closed w) i world b following c empties fault d upgrades)

      rights_d : Leaves (λ bytes image. DiffersByStart F i image) a d
      rights_d = Leaves-then (λ bytes image. DiffersByStart F i image) (Silently (DiffersByStart F i)) (λ bytes image. DiffersByStart F i image) [] a c d said_c (λ front image m. m) (λ more image m. m.1)
          (rights_c None empties)
          (Leaves-changes (DiffersByStart F i) (ByUpgrade (reads c.now.words)) fault c d (λ before image picked from. record {
            each = λ k. elim (from.each k) [
              | inl same ↦ elim ((Leaves-now (λ bytes image. DiffersByStart F i image) [] a c said_c (rights_c None empties) before picked).each k) [
                | inl kept ↦ inl (same ∙ kept)
                | inr may ↦ inr (subst (λ (v : ℕ). ByStart F i k v) (sym same) may)
              ]
              | inr by ↦ inr (upgrade_may size (closed w) i world b following c empties k (image k) by)
            ];
          }) upgrades.changes)

      pub Recovers-upgraded : (result : Result Memory StartFault) → d.script ≡ a.script → d.shelf ≡ a.shelf → IfOk result (λ memory. IsReady size (restart w) memory d) → Recovers size w result a d
      Recovers-upgraded result script shelf ready = record {
        moments = upgraded_too {P = Silently (λ image. world_of size image ≡ Some (closed w))} (moments_c None empties) (λ image h. (refl, h.stands));
        tables = upgraded_too {P = λ bytes image. HasTablesOf F i image} (tables_c None empties) (λ image h. h.tables);
        rights = rights_d;
        allowed = λ none. upgraded_too {P = λ bytes image. RefusesNone image} (allowed_c None empties none)
            (λ image h. refuses_none image h.stands (upgrading_refuses_none size (closed w) i (reads b.now.words) image h));
        logs = λ none client few was. upgraded_too {P = λ bytes image. IsClosedIfFree F client image} (logs_c None empties none client few was)
            (λ image h. inr (h.closed client few ∙ closed_b none client few was));
        upgraded = upgraded_too {P = λ bytes image. UpgradesLast i image} (upgraded_c None empties) (upgrades_last size (closed w) i (reads b.now.words));
        quiet = Changes-said (ByUpgrade (reads c.now.words)) fault c d upgrades.changes ∙ Changes-said (ByBatch DAEMON_LOG (clearing CLIENTS)) None b c empties.commits.changes ∙ said;
        ready = ready;
        script = script;
        shelf = shelf;
      }

-- The daemon is ready after it.
pub ready_after : (size : ℕ) (w : World) (i : Image) → (world : world_of size i ≡ Some (closed w)) → (b c d : State) → (following : IsAfterRecovery size (closed w) i b.now.words) → (empties : Empties None b c)
    → (upgrades : Upgrades None c d) → (frames : ℕ) → frames ≡ frames_of i → d.shelf ≡ w.shelf → IsReady size (restart w) (first_memory frames) d
ready_after size w i world b c d following empties upgrades frames counted shelf =
    let single = single_e size (closed w) i world b following c empties d upgrades in
    record {
      mask = no_mask;
      settled = settled_e size (closed w) i world b following c empties d upgrades;
      tables = record { each = λ k beside below. single k (outside_log DAEMON_LOG k (⊎_elim (λ low. inl low) (λ high. inr (omega arith)) beside)) };
      clients = λ client few. nobody_there _ _ _ (cleared_e size (closed w) i world b following c empties d upgrades client few);
      frames = counted ∙ frames_of_world size i (closed w) world;
      shelf = shelf;
      active = AreActive-none (restart w) ALL_LOGS d.now.words refl;
      sessions = HasSessions-none (restart w) ALL_LOGS POOL_RECORDS;
      logs = record { each = λ client number low few present. absurd (let it : false ≡ true = present in cc) };
      rest = record { each = λ k above. single k (outside_log DAEMON_LOG k (inr (omega arith))) };
      knows = KnowsPools-none w.stored.frames POOL_RECORDS (reads d.now.words);
    }

-- A recovery does not refuse a device that stands for a world.
pub sound_recovery : (size : ℕ) (w : World) (fault : RecoverFault) (a : State) → world_of size (reads a.now.words) ≡ Some (closed w)
    → (recover_fault {T = Report} (Err fault) ≡ None → (◌≡◌ {A = Result Report RecoverFault} (Err fault) (Err recoveries.NotSound)) ↔ (world_of size (reads a.now.words) ≡ None)) → fault ≡ recoveries.NotSound → ⊥
sound_recovery size w fault a world exact is =
    let none = (exact (ap (λ (f : RecoverFault). recover_fault {T = Report} (Err f)) is)).0 (ap Err is) in
    let it : Some (closed w) ≡ None = sym world ∙ none in
    cc

-- ---- whatever the device stands for

pub below_logs : (F k : ℕ) → k < tables_end F → is_in_logs F k ≡ false
below_logs F k below = ap (λ (b : Bool). b && ltb k (frames_at F)) (lt-leb (tables_end F) k below)

-- What a start that went well leaves of a rested device that read as this image.
pub record IsRecovered (size : ℕ) (i : Image) (c : State) : Type 0 where
  pub sound : world_of size (reads c.now.words) ≢ None
  pub replayed : IsReplayed i (reads c.now.words)
  pub frames : frames_of i ≡ frames_of (reads c.now.words)

module _ (size : ℕ) (i : Image) (b c d : State) where
  recovered_world : (s : StoredWorld) → world_of size i ≡ Some s → IsAfterRecovery size s i b.now.words → Empties None b c → Upgrades None c d → IsRecovered size i d
  recovered_world s world following empties upgrades =
      let frames : frames_of i ≡ s.frames = frames_of_world size i s world in
      let reads_so = reads_e size s i world b following c empties d upgrades in
      let now : (k : ℕ) → k ≢ VERSION_WORD → is_in_log DAEMON_LOG k ≡ false → is_in_logs (frames_of i) k ≡ false → (k < SPACE_TABLE) ⊎ (PUDDLE_TABLE ≤ k) → reads d.now.words k ≡ settled (frames_of i) i k = λ k apart outside beside spaces.
      reads_so k apart outside (ap (λ (F : ℕ). is_in_logs F k) (sym frames) ∙ beside) spaces ∙ ap (λ (F : ℕ). settled F i k) (sym frames) in
      record {
        sound = λ none. let it : Some s ≡ None = sym (world_of_idle size (reads d.now.words) s ((settled_e size s i world b following c empties d upgrades).stands (reads d.now.words) (Picks-reads d.now.words))) ∙ none in cc;
        replayed = record { version = HasOnly-newest (d.now.words VERSION_WORD) VERSION (version_e size s i world b following c empties d upgrades); each = now };
        frames = sym (reads_so FRAMES_WORD (λ e. absurd (omega arith)) (outside_log DAEMON_LOG FRAMES_WORD (inl (omega arith))) (below_logs s.frames FRAMES_WORD (omega arith)) (inl (omega arith))
            ∙ settled-below s.frames i FRAMES_WORD (omega arith) ∙ settled_by-unlogged i FRAMES_WORD (legal_log_of_world size i s world) (omega arith));
      }

  recovered_by : (report : Report) (o : Option StoredWorld) → world_of size i ≡ o → (◌≡◌ {A = Result Report RecoverFault} (Ok report) (Err recoveries.NotSound)) ↔ (world_of size i ≡ None)
      → ((s : StoredWorld) → world_of size i ≡ Some s → IsAfterRecovery size s i b.now.words × Empties None b c) → Upgrades None c d → IsRecovered size i d
  recovered_by report None world exact r upgrades = absurd (recovered (exact.1 world))
  recovered_by report (Some s) world exact r upgrades = let all = r s world in recovered_world s world all.0 all.1 upgrades

  pub recovered_any : (report : Report) → (◌≡◌ {A = Result Report RecoverFault} (Ok report) (Err recoveries.NotSound)) ↔ (world_of size i ≡ None)
      → ((s : StoredWorld) → world_of size i ≡ Some s → IsAfterRecovery size s i b.now.words) → (HasIdleGate DAEMON_LOG b.now.words → Empties None b c) → Upgrades None c d → IsRecovered size i d
  recovered_any report exact following empties upgrades = recovered_by report (world_of size i) refl exact (λ s world.
      let there = following s world in
      (there, empties (idle_gate size s i world b there))) upgrades
