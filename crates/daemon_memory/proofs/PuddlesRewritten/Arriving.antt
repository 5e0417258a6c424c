-- A pool whose puddles are known after calls that move its frontiers has the frontiers at their goals.
use Rattle.std.proofs.Common.{◌≡◌, inl, inr, ℕ, zero, suc, ◌+◌, ◌-◌, ◌<◌, ◌≤◌, Bool, true, false, not, eqb, cond, List, [], ◌∷◌, map, Option, Some, None, is_some, nat_cmp, refl, sym, ap, subst, ◌∙◌, arith, eq-eqb, eqb-true, ne_eqb}
use Rattle.std.specs.Prelude.{max, slice_get}
use Rattle.std.specs.FinMap.Entries.{find}
use Rattle.std.proofs.lemmas.Bool.{and_parts, cases_eq, cond-true, cond-false}
use Rattle.std.proofs.lemmas.Cmp.{nat_cmp_total}
use Rattle.std.proofs.lemmas.List.{append-nil}
use Rattle.std.proofs.lemmas.Option.{none-some}
use Rattle.pm_model.specs.declared.host.HostFault.{HostFault}
use Rattle.pm_model.specs.Words.{reads}
use Rattle.pm_model.specs.Moments.{State}
use Rattle.pm_model.specs.Changes.{Silently}
use Rattle.pm_model.proofs.Words.{Picks-reads}
use Rattle.pm_model.proofs.Leaves.{Leaves-now, Leaves-weaker}
use Rattle.pud_defs.specs.declared.layout.TheConstants.{DAEMON_LOG}
use Rattle.pud_defs.specs.declared.records.PoolRecord.{PoolRecord}
use Rattle.pud_defs.specs.declared.records.Puddle.{Puddle}
use Rattle.pud_defs.specs.declared.records.TheConstants.{POOL_RECORDS}
use Rattle.pud_defs.specs.RegistryTables.Puddles.{Member, member_moved}
use Rattle.pud_defs.specs.Logging.Replay.{settled_by}
use Rattle.pud_defs.specs.RegistryTables.SoundTables.{count_up, is_pool, is_sound_puddle, is_legal_member, HasSoundTables}
use Rattle.pud_defs.specs.RegistryTables.Tables.{Tables, tables_of, member_of, members, puddles_of, puddles_in_turn}
use Rattle.pud_defs.specs.StateMachine.World.{World}
use Rattle.pud_defs.proofs.KeyedTables.Keyed.{find-keyed_place}
use Rattle.pud_defs.proofs.RegistryTables.PoolsCounted.{few_members}
use Rattle.pud_defs.proofs.RegistryTables.PuddlesListed.{puddles_in_turn-listed, passed_by, found_in_front}
use Rattle.pud_defs.proofs.Logging.Replay.{outside_log, settled_by-idle}
use Rattle.pud_defs.proofs.RegistryTables.SoundChanged.{legal_puddle, distinct_ordinals}
use Rattle.pud_defs.proofs.RegistryTables.TablesOf.{tables_of-same, frames_of_tables}
use Rattle.lazy_rewrite.specs.Frontiers.{frontiers_of}
use Rattle.daemon_memory.specs.PoolKnowledge.{known_puddles_in}
use Rattle.daemon_memory.specs.Memory.{Memory}
use Rattle.daemon_memory.specs.Moves.{MovesTo, led_to, led_in}
use Rattle.daemon_memory.specs.Ready.{IsReady, AppliesBy}
use Rattle.daemon_memory.proofs.Commands.Beneath.{ready_gate}
use Rattle.daemon_memory.proofs.PoolChanges.InTurn.{known_in_turn}
use Rattle.daemon_memory.proofs.PoolChanges.PuddlesLeft.{used_below}
use Rattle.daemon_memory.proofs.PoolChanges.TablesBeside.{sound_read}
use Rattle.daemon_memory.specs.Arriving.{Arrives, AppliesTo}

-- ---- a used record stands under its ordinal

-- In a list whose keys count up, the entry with key `from + i` stands at position `i`.
listed_there : (i from : ℕ) (x : ℕ × Puddle) (es : List (ℕ × (ℕ × Puddle))) → count_up from (map (λ e. e.0) es) ≡ true → find nat_cmp (from + i) es ≡ Some x → slice_get (map (λ e. e.1) es) i ≡ Some x
unfolding count_up
listed_there i from x [] up found = absurd (none-some x found)
listed_there zero from x (e ∷ es) up found =
    let first = eqb-true e.0 from (and_parts (eqb e.0 from) (count_up (from + 1) (map (λ d. d.0) es)) up).0 in
    sym (found_in_front (from + 0) e es (omega (arith, first))) ∙ found
listed_there (suc i) from x (e ∷ es) up found =
    let parts = and_parts (eqb e.0 from) (count_up (from + 1) (map (λ d. d.0) es)) up in
    let first = eqb-true e.0 from parts.0 in
    let same : from + 1 + i ≡ from + suc i = omega arith in
    listed_there i (from + 1) x es parts.1 (ap (λ (n : ℕ). find nat_cmp n es) same ∙ sym (passed_by (from + suc i) e es (omega (arith, first))) ∙ found)

some_record : (r : Option PoolRecord) → is_some r ≡ true → (rec : PoolRecord) × (r ≡ Some rec)
some_record None some = absurd (let it : false ≡ true = some in cc)
some_record (Some rec) some = (rec, refl)

module _ (next : ℕ) (t : Tables) (sound : HasSoundTables next t) (slot : ℕ) (within : slot < POOL_RECORDS) (frame : ℕ) (m : Member) (below : frame < t.frames) (used : t.puddles frame ≡ Some m)
    (pool : m.pool ≡ slot + 1) where
  -- The record's pool is in the table.
  pub pool_used : (rec : PoolRecord) × (t.pools slot ≡ Some rec)
  pool_used =
      let legal : is_legal_member next t m ≡ true = sym (ap (is_sound_puddle next t) used) ∙ legal_puddle next t sound frame below in
      let some = and_parts (not (eqb m.pool 0)) (is_some (t.pools (m.pool - 1))) (and_parts (is_pool t m.pool) _ (and_parts _ _ legal).0).0 in
      let its : m.pool - 1 ≡ slot = omega arith in
      some_record (t.pools slot) (ap (λ (i : ℕ). is_some (t.pools i)) (sym its) ∙ some.1)

  member_here : members t slot frame ≡ Some (m.ordinal, (frame, m.puddle))
  member_here = ap (member_of slot frame) used ∙ cond-true (eqb m.pool (slot + 1)) (Some (m.ordinal, (frame, m.puddle))) None (eq-eqb m.pool (slot + 1) pool)

  member_found : find nat_cmp m.ordinal (puddles_of t slot) ≡ Some (frame, m.puddle)
  unfolding puddles_of
  member_found = find-keyed_place nat_cmp nat_cmp_total (members t slot) 0 t.frames frame (m.ordinal, (frame, m.puddle)) (distinct_ordinals next t sound slot within) (omega arith) (omega arith) member_here

  pub member_in_turn : slice_get (puddles_in_turn t slot) m.ordinal ≡ Some (frame, m.puddle)
  member_in_turn =
      let rec = pool_used in
      let up = (few_members next t sound slot rec.0 within rec.1).ordinals in
      ap (λ (ps : List (ℕ × Puddle)). slice_get ps m.ordinal) (puddles_in_turn-listed next t slot rec.0 sound within rec.1)
      ∙ listed_there m.ordinal 0 (frame, m.puddle) (puddles_of t slot) up (ap (λ (n : ℕ). find nat_cmp n (puddles_of t slot)) (let it : 0 + m.ordinal ≡ m.ordinal = omega arith in it) ∙ member_found)

-- If the daemon knows the pool, a used record of the pool stands under its ordinal.
pub listed_member : (size : ℕ) (w : World) (memory : Memory) (s : State) → IsReady size w memory s → (slot : ℕ) → slot < POOL_RECORDS → (at : List (ℕ × Puddle)) → known_puddles_in memory.known_pools slot ≡ Some at
    → (frame : ℕ) (m : Member) → (tables_of w.stored.frames (reads s.now.words)).puddles frame ≡ Some m → m.pool ≡ slot + 1 → slice_get at m.ordinal ≡ Some (frame, m.puddle)
listed_member size w memory s ready slot within at known frame m used pool =
    let t = tables_of w.stored.frames (reads s.now.words) in
    let below = used_below w.stored.frames (reads s.now.words) frame m used in
    ap (λ (ps : List (ℕ × Puddle)). slice_get ps m.ordinal) (sym (known_in_turn size w memory s ready slot at known))
    ∙ member_in_turn w.stored.next_number t (sound_read size w memory s ready) slot within frame m (omega (arith, below, frames_of_tables w.stored.frames (reads s.now.words))) used pool

-- ---- records after calls

-- If the daemon is ready, the tables with this many frames are read as they are with its log replayed.
pub settled_gate : (size : ℕ) (w : World) (memory : Memory) (s : State) (F : ℕ) → IsReady size w memory s → tables_of F (settled_by DAEMON_LOG (reads s.now.words)) ≡ tables_of F (reads s.now.words)
settled_gate size w memory s F ready =
    let image = reads s.now.words in
    let idle = (ready_gate size w memory s ready).each (image DAEMON_LOG) ((Picks-reads s.now.words).each DAEMON_LOG) in
    tables_of-same F (settled_by DAEMON_LOG image) image
    (λ k low high. settled_by-idle DAEMON_LOG image k idle (outside_log DAEMON_LOG k (inr (omega arith)))) (λ k low high. settled_by-idle DAEMON_LOG image k idle (outside_log DAEMON_LOG k (inr (omega arith))))

-- What has become of each record holds for the tables as they are read.
pub became : (becomes : Member → Option Member → Type 0) (size : ℕ) (w next : World) (memory : Memory) (old new : State) → AppliesBy becomes size w next memory None old new → (frame : ℕ) (m : Member)
    → (tables_of w.stored.frames (reads old.now.words)).puddles frame ≡ Some m → becomes m ((tables_of w.stored.frames (reads new.now.words)).puddles frame)
became becomes size w next memory old new a frame m used =
    subst (λ (t : Tables). becomes m (t.puddles frame)) (settled_gate size next memory new w.stored.frames (a.ready refl))
    (Leaves-now (Silently (λ image. becomes m ((tables_of w.stored.frames (settled_by DAEMON_LOG image)).puddles frame))) [] old new (a.quiet ∙ sym (append-nil old.now.said)) (a.puddles.each frame m used)
    (reads new.now.words) (Picks-reads new.now.words)).1

-- A weaker statement about the used records may take the place of a stronger one.
pub AppliesBy-used : (early becomes : Member → Option Member → Type 0) (size : ℕ) (w next : World) (memory : Memory) (fault : Option HostFault) (old new : State)
    → ((frame : ℕ) (m : Member) → (tables_of w.stored.frames (reads old.now.words)).puddles frame ≡ Some m → (now : Option Member) → early m now → becomes m now)
    → AppliesBy early size w next memory fault old new → AppliesBy becomes size w next memory fault old new
AppliesBy-used early becomes size w next memory fault old new weaker a = record {
  moments = a.moments;
  puddles = record {
    each = λ frame m used.
        let F = w.stored.frames in
        Leaves-weaker (Silently (λ image. early m ((tables_of F (settled_by DAEMON_LOG image)).puddles frame))) (Silently (λ image. becomes m ((tables_of F (settled_by DAEMON_LOG image)).puddles frame))) old new
        (λ bytes image p. (p.0, weaker frame m used ((tables_of F (settled_by DAEMON_LOG image)).puddles frame) p.1)) (a.puddles.each frame m used);
  };
  quiet = a.quiet;
  ready = a.ready;
  rests = a.rests;
  script = a.script;
}

-- ---- goals of the pool in a slot

-- These puddles have the frontiers that the goals ask for from the puddles before, and none is short of its goal.
pub record HaveReached (at final : List (ℕ × Puddle)) (goal : ℕ → ℕ) : Type 0 where
  pub each : (o : ℕ) (e : ℕ × Puddle) → slice_get at o ≡ Some e → frontiers_of final o ≡ max e.1.frontier (goal o)
  pub none_after : (o : ℕ) (e : ℕ × Puddle) → slice_get final o ≡ Some e → goal o ≤ e.1.frontier

-- The puddles have reached their goals, and no goal lies further than they are.
pub record AreEnds (at final : List (ℕ × Puddle)) (far goal : ℕ → ℕ) : Type 0 where
  pub reached : HaveReached at final goal
  pub near : (o : ℕ) → far o ≤ frontiers_of final o

-- A frontier that is on the way to its goal, and not short of it, is at its goal.
at_goal : (own : Bool) (f n g : ℕ) → f ≤ n → n ≤ cond own (max f g) f → cond own (max n g) n ≡ n → n ≡ cond own (max f g) f
at_goal true f n g least most there = omega arith
at_goal false f n g least most there = omega arith

module _ (size : ℕ) (w : World) (memory : Memory) (old : State) (ready : IsReady size w memory old) (slot : ℕ) (low : slot < POOL_RECORDS) (at : List (ℕ × Puddle)) (known : known_puddles_in memory.known_pools slot ≡ Some at)
    (goal : ℕ → ℕ) (final : List (ℕ × Puddle)) (reached : HaveReached at final goal) where
  abbrev F : ℕ
  F = w.stored.frames

  abbrev t : Tables
  t = tables_of F (reads old.now.words)

  -- The goal of a record of the pool is where its puddle then is.
  goal_there : (frame : ℕ) (m : Member) → t.puddles frame ≡ Some m → m.pool ≡ slot + 1 → led_to slot goal m ≡ frontiers_of final m.ordinal
  goal_there frame m used pool =
      cond-true _ _ _ (eq-eqb m.pool (slot + 1) pool) ∙ sym (reached.each m.ordinal (frame, m.puddle) (listed_member size w memory old ready slot low at known frame m used pool))

  goal_elsewhere : (m : Member) → (m.pool ≡ slot + 1 → ⊥) → led_to slot goal m ≡ m.puddle.frontier
  goal_elsewhere m other = cond-false _ _ _ (ne_eqb m.pool (slot + 1) other)

  -- A record that is on the way to those frontiers is on the way to the goals.
  module _ (far : ℕ → ℕ) (near : (o : ℕ) → far o ≤ frontiers_of final o) where
    nearer : (frame : ℕ) (m : Member) → t.puddles frame ≡ Some m → led_to slot far m ≤ led_to slot goal m
    nearer frame m used = elim (cases_eq m.pool (slot + 1)) [
      | inl own ↦
          let is = goal_there frame m used own in
          let here = listed_member size w memory old ready slot low at known frame m used own in
          let least = reached.each m.ordinal (frame, m.puddle) here in
          let so : led_to slot far m ≡ max m.puddle.frontier (far m.ordinal) = cond-true _ _ _ (eq-eqb m.pool (slot + 1) own) in
          let within = near m.ordinal in
          omega (arith, is, least, so, within)
      | inr other ↦
          let so : led_to slot far m ≡ m.puddle.frontier = cond-false _ _ _ (ne_eqb m.pool (slot + 1) other) in
          omega (arith, so, goal_elsewhere m other)
    ]

    pub narrowed : (frame : ℕ) (m : Member) → t.puddles frame ≡ Some m → (now : Option Member) → MovesTo (led_in slot far) m now → MovesTo (led_in slot goal) m now
    narrowed frame m used now so =
        let most = so.most in
        record { frontier = so.frontier; least = so.least; most = omega (arith, most, nearer frame m used); is = so.is }

  -- If the pool is then known by those puddles, each record is at its goal, whether it was used before or not.
  module _ (next : World) (following : Memory) (new : State) (frames : next.stored.frames ≡ F) (after : known_puddles_in following.known_pools slot ≡ Some final) (a : AppliesBy (MovesTo (led_in slot goal)) size w next following None old new) where
    goal_then : (frame : ℕ) (m : Member) → (tables_of F (reads new.now.words)).puddles frame ≡ Some m → led_to slot goal m ≡ m.puddle.frontier
    goal_then frame m used = elim (cases_eq m.pool (slot + 1)) [
      | inl own ↦
          let there = subst (λ (n : ℕ). (tables_of n (reads new.now.words)).puddles frame ≡ Some m) (sym frames) used in
          let least = reached.none_after m.ordinal (frame, m.puddle) (listed_member size next following new (a.ready refl) slot low final after frame m there own) in
          let is : led_to slot goal m ≡ max m.puddle.frontier (goal m.ordinal) = cond-true _ _ _ (eq-eqb m.pool (slot + 1) own) in
          omega (arith, is, least)
      | inr other ↦ goal_elsewhere m other
    ]

    pub arrives_known : Arrives F (led_in slot goal) (reads old.now.words) (reads new.now.words)
    arrives_known = record {
      each = λ frame m used.
          let so = became (MovesTo (led_in slot goal)) size w next following old new a frame m used in
          let there = goal_then frame (member_moved so.frontier m) so.is in
          so.is ∙ ap (λ (n : ℕ). Some (member_moved n m)) (at_goal (eqb m.pool (slot + 1)) m.puddle.frontier so.frontier (goal m.ordinal) so.least so.most there);
      come = λ frame m used. ap (λ (n : ℕ). Some (member_moved n m)) (sym (goal_then frame m used));
    }

  pub AppliesTo-known : (next : World) (following : Memory) (fault : Option HostFault) (new : State) → next.stored.frames ≡ F → (fault ≡ None → known_puddles_in following.known_pools slot ≡ Some final)
      → AppliesBy (MovesTo (led_in slot goal)) size w next following fault old new → AppliesTo (led_in slot goal) size w next following fault old new
  AppliesTo-known next following fault new frames after a = record {
    applies = a;
    arrives = λ done. arrives_known next following new frames (after done) (subst (λ (f : Option HostFault). AppliesBy (MovesTo (led_in slot goal)) size w next following f old new) done a);
  }
