-- Changes of pools beside the records of puddles: no used record is written, except those of a pool that is dropped.
use Rattle.std.proofs.Common.{◌≡◌, ◌⊎◌, inl, inr, ℕ, ◌+◌, ◌<◌, ◌≤◌, Bool, true, false, eqb, cond, List, [], ◌∷◌, Option, Some, None, refl, sym, ap, ◌∙◌, arith}
use Rattle.std.proofs.lemmas.Option.{none-some}
use Rattle.pm_model.specs.declared.host.HostFault.{HostFault}
use Rattle.pm_model.specs.declared.host.HostFault.TheVariants.{Cut}
use Rattle.pm_model.specs.Words.{IsRested, reads}
use Rattle.pm_model.specs.Moments.{State}
use Rattle.pm_model.specs.Changes.{Write, written, Silently}
use Rattle.pm_model.specs.Masks.{IsOff}
use Rattle.pm_model.proofs.Leaves.{Leaves-still, Leaves-weaker}
use Rattle.pm_persist.proofs.Ranges.{placed_within}
use Rattle.pud_defs.specs.declared.layout.TheConstants.{DAEMON_LOG, PUDDLE_TABLE}
use Rattle.pud_defs.specs.declared.records.TheConstants.{POOL_RECORDS}
use Rattle.pud_defs.specs.declared.records.Put.{Put}
use Rattle.pud_defs.specs.Formats.Image.{Image}
use Rattle.pud_defs.specs.Formats.Frames.{frame_at, fresh_frame}
use Rattle.pud_defs.specs.RegistryTables.Keyed.{first_free}
use Rattle.pud_defs.specs.RegistryTables.Puddles.{Member, puddle_record_at}
use Rattle.pud_defs.specs.RegistryTables.Puts.{is_of_pool, without_pool_at}
use Rattle.pud_defs.specs.Logging.Replay.{settled_by}
use Rattle.pud_defs.specs.RegistryTables.Tables.{Tables, tables_of}
use Rattle.pud_defs.proofs.KeyedTables.Keyed.{first_free_some}
use Rattle.pud_defs.proofs.RegistryTables.TablesOf.{frames_of_tables}
use Rattle.batch.specs.Batches.{HasIdleGate, ByBatch, IsBatched}
use Rattle.batch.specs.Tables.{HasDurableTables}
use Rattle.registry.specs.declared.adding.NewPuddle.{NewPuddle}
use Rattle.registry.specs.Adding.{filling, PersistsThenCommits, IsOffAdding}
use Rattle.registry.specs.Growth.{growing}
use Rattle.registry.specs.Pools.{making, new_record, changing, dropping, OrStill, CommitsPuts, MakesSomewhere, IsOffMaking}
use Rattle.registry.specs.Puts.{puts_batch, AreOfPools}
use Rattle.registry.proofs.PutBatches.{overwritten-puts}
use Rattle.registry.proofs.Moved.{tables_picked}
use Rattle.registry.proofs.Changed.{changing_of, dropping_of, drop_tables}
use Rattle.registry.proofs.Made.{making_of}
use Rattle.registry.proofs.NewPuddles.{adding_of}
use Rattle.daemon_memory.specs.Moves.{Stays, IsOnTheWay, MovesTo, LeavesPuddles, still, freed_in}
use Rattle.daemon_memory.proofs.PoolChanges.Goals.{stays_still}
use Rattle.daemon_memory.proofs.PoolChanges.PoolsApart.{AreOff, puts_off, LeavesMasked-adds, LeavesMasked-makes, LeavesMasked-puts}
use Rattle.daemon_memory.proofs.PoolChanges.PuddlesLeft.{record_mask, record_masked, unmasked_record, IsOff-record, used_below, stays_picked, LeavesPuddles-beside}

-- ---- one record, and changes that do not touch it

module _ (F frame : ℕ) (image : Image) (m : Member) (used : (tables_of F image).puddles frame ≡ Some m) where
  abbrev t : Tables
  t = tables_of F image

  abbrev mask : Write
  mask = record_mask frame image

  known : frame < F
  known = used_below F image frame m used

  in_front : (k : ℕ) → k < PUDDLE_TABLE → mask k ≡ None
  in_front k low = unmasked_record frame image k (λ from to. absurd (omega arith))

  other_record : (f k : ℕ) → (f ≡ frame → ⊥) → puddle_record_at f ≤ k → k < puddle_record_at (f + 1) → mask k ≡ None
  other_record f k differ low high = unmasked_record frame image k (λ from to. differ (omega arith))

  IsOff-put_record : (puts : List Put) → AreOfPools F puts → AreOff mask puts → IsOff mask (ByBatch DAEMON_LOG (puts_batch puts))
  IsOff-put_record puts of off = IsOff-record frame image (ByBatch DAEMON_LOG (puts_batch puts))
      (λ k v low high may. elim may [
        | inl log ↦ let to = log.high in absurd (omega arith)
        | inr named ↦ none-some (image k) (sym (puts_off F mask puts k named.value of off named.is) ∙ record_masked frame image k low high)
      ])

  -- The lowest free frame is not the record's frame.
  free_differs : (f : ℕ) → first_free t.puddles 0 t.frames ≡ Some f → f ≡ frame → ⊥
  free_differs f first same = none-some m (sym (ap t.puddles (sym same) ∙ (first_free_some t.puddles 0 t.frames f first).free) ∙ used)

  free_below : (f : ℕ) → first_free t.puddles 0 t.frames ≡ Some f → f < F
  free_below f first = let high = (first_free_some t.puddles 0 t.frames f first).high in omega (arith, frames_of_tables F image)

  filling_off : (n : ℕ) → n ≡ F → (a : NewPuddle) → IsOff mask (written (filling n a))
  filling_off n same a = IsOff-record frame image (written (filling n a))
      (λ k v low high may.
      let within = placed_within (frame_at n a.frame) k v (fresh_frame a.puddle.number a.puddle.ordinal) may in
      let from = within.0 in
      let below = known in
      absurd (omega arith))

  -- A puddle is added.
  pub off_growing_record : (a : NewPuddle) → first_free t.puddles 0 t.frames ≡ Some a.frame → a.puddle.pool < POOL_RECORDS → IsOffAdding mask F a (growing a)
  off_growing_record a first slot = record {
    frame = filling_off F refl a;
    records = IsOff-put_record (growing a) (adding_of F (a.puddle.number + 1) (a ∷ []) (free_below a.frame first, slot, tt))
        (λ k low high. in_front k (omega arith), (λ k low high. other_record a.frame k (free_differs a.frame first) low (omega arith), tt));
  }

  -- A pool is made.
  pub off_making_record : (next : ℕ) (name : List ℕ) (uid gid mode : ℕ) → IsOffMaking mask t next name uid gid mode
  off_making_record next name uid gid mode = record {
    each = λ a for.
        let r = new_record name uid gid mode next in
        let below = (first_free_some t.pools 0 POOL_RECORDS a.puddle.pool for.slot).high in
        let slot : a.puddle.pool < POOL_RECORDS = omega arith in
        record {
          frame = filling_off t.frames (frames_of_tables F image) a;
          records = IsOff-put_record (making r a) (making_of F r a (free_below a.frame for.puddle.frame) slot) (
            λ k low high. in_front k (omega arith),
            (λ k low high. in_front k (omega arith), (λ k low high. other_record a.frame k (free_differs a.frame for.puddle.frame) low (omega arith), tt)),
          );
        };
  }

  -- A pool's mode is changed.
  pub off_changing_record : (slot mode : ℕ) → slot < POOL_RECORDS → IsOff mask (ByBatch DAEMON_LOG (puts_batch (changing slot mode)))
  off_changing_record slot mode within = IsOff-put_record (changing slot mode) (changing_of F slot mode within) (λ k low high. in_front k (omega arith), tt)

-- ---- what the calls leave of all records

-- A record that is not to be freed stays. A record that is to be freed stays or is free.
freed_by : (own : Bool) (m : Member) (now : Option Member) → Stays m now ⊎ (now ≡ cond own None (Some m)) → IsOnTheWay (cond own None (still m)) m now
freed_by true m now so = so
freed_by false m now (inl stays) = stays_still m now stays
freed_by false m now (inr stays) = stays_still m now stays

module _ (F : ℕ) (fault : Option HostFault) (old new : State) (tables : HasDurableTables F old.now.words) (idle : HasIdleGate DAEMON_LOG old.now.words) where
  abbrev image : Image
  image = reads old.now.words

  -- A puddle was added.
  pub LeavesPuddles-adds : (a : NewPuddle) → first_free (tables_of F image).puddles 0 (tables_of F image).frames ≡ Some a.frame → a.puddle.pool < POOL_RECORDS
      → PersistsThenCommits (filling F a) (puts_batch (growing a)) fault old new → LeavesPuddles F Stays old new
  LeavesPuddles-adds a first slot commits =
      LeavesPuddles-beside F fault old new tables
      (λ frame m used. LeavesMasked-adds (record_mask frame image) F a (growing a) fault old new (off_growing_record F frame image m used a first slot) idle commits)

  module _ (rests : fault ≡ Some Cut → IsRested new.now.words) where
    -- A pool was made.
    pub LeavesPuddles-makes : (next : ℕ) (name : List ℕ) (uid gid mode : ℕ) → OrStill (MakesSomewhere (tables_of F image) next name uid gid mode) fault old new → LeavesPuddles F Stays old new
    LeavesPuddles-makes next name uid gid mode does =
        LeavesPuddles-beside F fault old new tables
        (λ frame m used.
        LeavesMasked-makes (record_mask frame image) (tables_of F image) next name uid gid mode fault old new (off_making_record F frame image m used next name uid gid mode) idle rests does)

    -- A pool's mode was changed.
    pub LeavesPuddles-mode : (slot mode : ℕ) → slot < POOL_RECORDS → OrStill (CommitsPuts (changing slot mode)) fault old new → LeavesPuddles F Stays old new
    LeavesPuddles-mode slot mode within does =
        LeavesPuddles-beside F fault old new tables
        (λ frame m used. LeavesMasked-puts (record_mask frame image) (changing slot mode) fault old new (off_changing_record F frame image m used slot mode within) idle rests does)

  -- A pool was dropped.
  module _ (slot : ℕ) (within : slot < POOL_RECORDS) where
    abbrev puts : List Put
    puts = dropping (tables_of F image) slot

    -- An image has the tables that were read, or the tables without the pool.
    tables_dropped : (i : Image) → IsBatched old.now.words DAEMON_LOG (puts_batch puts) i
        → (tables_of F (settled_by DAEMON_LOG i) ≡ tables_of F image) ⊎ (tables_of F (settled_by DAEMON_LOG i) ≡ without_pool_at slot (tables_of F image))
    tables_dropped i b =
        let before = tables_picked F old.now.words b.before idle tables b.picked in
        elim b.settled [
          | inl same ↦ inl (ap (tables_of F) same ∙ before)
          | inr all ↦
              let of = dropping_of F (tables_of F image) slot within (omega (arith, frames_of_tables F image)) in
              let i_before = settled_by DAEMON_LOG b.before in
              inr (ap (tables_of F) (all ∙ overwritten-puts F puts i_before of) ∙ drop_tables F image slot within i_before before)
        ]

    drops_record : (frame : ℕ) (m : Member) → (tables_of F image).puddles frame ≡ Some m → (i : Image) → IsBatched old.now.words DAEMON_LOG (puts_batch puts) i
        → MovesTo (freed_in slot) m ((tables_of F (settled_by DAEMON_LOG i)).puddles frame)
    drops_record frame m used i b = freed_by (eqb m.pool (slot + 1)) m ((tables_of F (settled_by DAEMON_LOG i)).puddles frame) (elim (tables_dropped i b) [
      | inl same ↦ inl (ap (λ (t : Tables). t.puddles frame) same ∙ used)
      | inr less ↦ inr (ap (λ (t : Tables). t.puddles frame) less ∙ ap (λ (d : Option Member). cond (is_of_pool slot d) None d) used)
    ])

    pub LeavesPuddles-drops : OrStill (CommitsPuts puts) fault old new → LeavesPuddles F (MovesTo (freed_in slot)) old new
    LeavesPuddles-drops does = record {
      each = λ frame m used.
          let at : Image → Option Member = λ i. (tables_of F (settled_by DAEMON_LOG i)).puddles frame in
          elim does [
            | inl still ↦
                Leaves-still (Silently (λ i. MovesTo (freed_in slot) m (at i))) old new
                (λ i picked. (refl, freed_by (eqb m.pool (slot + 1)) m (at i) (inl (stays_picked F old.now.words tables frame m used idle i picked)))) still.0
            | inr commits ↦
                Leaves-weaker (Silently (IsBatched old.now.words DAEMON_LOG (puts_batch puts))) (Silently (λ i. MovesTo (freed_in slot) m (at i))) old new
                (λ bytes i is. (is.0, drops_record frame m used i is.1)) commits.moments
          ];
    }
