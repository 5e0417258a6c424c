-- A batch of steps of a known pool, beside active transactions, also beside one on that pool: it writes no masked word,
-- and the world stays the same.
use Rattle.std.proofs.Common.{◌≡◌, ◌≢◌, ◌⊎◌, inl, inr, ℕ, ◌+◌, ◌<◌, ◌≤◌, true, eqb, cond, List, Option, Some, None, refl, sym, ap, subst, ◌∙◌, arith, eq-eqb, ne_eqb, ◌%◌, ◌^◌, ◌&&◌, leb, ltb}
use Rattle.std.specs.Prelude.{slice_get}
use Rattle.std.proofs.lemmas.Bool.{cases_Bool, cases_eq, cond-true, cond-false, le-leb, and_parts, ltb-true}
use Rattle.std.proofs.lemmas.Option.{none-some, same_Some}
use Rattle.pm_model.specs.declared.host.HostFault.{HostFault}
use Rattle.pm_model.specs.Words.{Cell, Words, reads}
use Rattle.pm_model.specs.Moments.{State}
use Rattle.pm_model.specs.Changes.{Write, Changes, Silently}
use Rattle.pm_model.specs.Masks.{masked, masked_state, IsOff}
use Rattle.pm_model.proofs.Leaves.{Leaves-weaker}
use Rattle.pm_model.proofs.Masks.{Changes-masked, masked-there, masked-elsewhere}
use Rattle.pm_model.proofs.Words.{HasOnly-newest}
use Rattle.pud_defs.specs.declared.layout.TheConstants.{DAEMON_LOG, SPACE_TABLE, PUDDLE_TABLE}
use Rattle.pud_defs.specs.declared.records.TheConstants.{POOL_RECORDS}
use Rattle.pud_defs.specs.declared.records.PoolRecord.{PoolRecord}
use Rattle.pud_defs.specs.declared.records.Puddle.{Puddle}
use Rattle.pud_defs.specs.Formats.Geometry.{class_slots, steps_of, is_legal_frontier}
use Rattle.pud_defs.specs.Formats.Image.{Image}
use Rattle.pud_defs.specs.Formats.Frames.{frame_at}
use Rattle.pud_defs.specs.PoolGraphs.Graph.{Graph, graph_of}
use Rattle.pud_defs.specs.Formats.Layout.{tables_end, frames_at}
use Rattle.pud_defs.specs.RegistryTables.Puddles.{moved_to}
use Rattle.pud_defs.specs.RegistryTables.Puts.{is_of_pool}
use Rattle.pud_defs.specs.PoolGraphs.Stored.{stored_in}
use Rattle.pud_defs.specs.RegistryTables.Tables.{Tables, tables_of, puddles_in_turn}
use Rattle.pud_defs.specs.RegistryTables.Types.{types_of}
use Rattle.pud_defs.specs.StateMachine.World.{World, idle_world_of, closed}
use Rattle.pud_defs.proofs.RegistryTables.PoolMembers.{IsMemberOf}
use Rattle.pud_defs.proofs.RegistryTables.Spaces.{owner_of-same}
use Rattle.pud_defs.proofs.RegistryTables.TablesOf.{frames_of_tables}
use Rattle.batch.specs.Batches.{ByBatch}
use Rattle.batch.proofs.Tables.{HasDurableTables-committed, reads_kept}
use Rattle.nesting.specs.declared.Session.{Session}
use Rattle.nesting.specs.Sessions.{session_in}
use Rattle.lazy_rewrite.specs.Batches.{IsRewritten, ByRewriting, AreNextSteps, CommitsSteps}
use Rattle.lazy_rewrite.specs.Graphs.{IsRewritableIn}
use Rattle.lazy_rewrite.proofs.Stepped.{member_of_pool, types_of-same}
use Rattle.lazy_rewrite.proofs.Turns.{by_batch}
use Rattle.lazy_rewrite.proofs.Worlds.{batch_keeps_world}
use Rattle.lazy_rewrite.proofs.WorldTurns.{steps_masked}
use Rattle.hybrid_tx.specs.PoolScopes.{pool_has_word, finished_of, ArePlacedPuddles}
use Rattle.hybrid_tx.proofs.Objects.Opening.{stored_in-has_word}
use Rattle.hybrid_tx.proofs.Open.OpenMasks.{mask_of_mine}
use Rattle.hybrid_tx.proofs.Open.OpenPools.{placed_by_tables}
use Rattle.hybrid_tx.proofs.PoolScope.{pool_has_word-each}
use Rattle.daemon_memory.specs.Memory.{ActiveTransaction, Memory, active_under}
use Rattle.daemon_memory.specs.ActiveTransactions.{open_pool_of, IsActiveOn, LeavesMasked}
use Rattle.daemon_memory.specs.PoolKnowledge.{known_puddles_in}
use Rattle.daemon_memory.specs.Ready.{IsReady, AppliesMasked}
use Rattle.daemon_memory.proofs.Commands.Beneath.{IsOff-each, LeavesMasked-commits, logs_kept, ready_gate}
use Rattle.daemon_memory.proofs.Commands.Beside.{active_is, unmasked_before}
use Rattle.daemon_memory.proofs.PoolChanges.InTurn.{known_in_turn, active_known}
use Rattle.daemon_memory.proofs.PoolsKnown.KnownKept.{HasGraphIn, graph_parts}
use Rattle.daemon_memory.proofs.PoolChanges.PoolsBeside.{unmasked_frame, unmasked_moving_record, unmasked_moving_frame}
use Rattle.daemon_memory.proofs.PoolChanges.RestBeside.{rest_unmasked}
use Rattle.daemon_memory.proofs.PoolChanges.TablesBeside.{tables_read, read_beside, under_durable, types_read, sound_read}
use Rattle.std.proofs.lemmas.List.Elements.{All-weaker}
use Rattle.pud_defs.specs.declared.space.TheConstants.{SPACE_START, SPACE_BYTES, RANGE_BYTES}
use Rattle.pud_defs.specs.Formats.Bases.{is_legal_base}
use Rattle.graph_read.specs.Bases.{HasLowBases}

-- No transaction is active on the pool in the slot.
pub record IsClosedIn (active : List (Option ActiveTransaction)) (slot : ℕ) : Type 0 where
  pub each : (number : ℕ) (h : ActiveTransaction) → active_under active number ≡ Some h → h.slot ≢ slot

-- The goals of these steps alone.
abbrev its_goal : (o m : ℕ) → ℕ → ℕ
its_goal o m i = cond (eqb i o) m 0

its_steps : (at : List (ℕ × Puddle)) (goal : ℕ → ℕ) (o m : ℕ) (e : ℕ × Puddle) → AreNextSteps at goal o m e → AreNextSteps at (its_goal o m) o m e
its_steps at goal o m e next =
    let here : its_goal o m o ≡ m = cond-true _ _ _ (eq-eqb o o refl) in
    record {
      here = next.here;
      some = next.some;
      few = next.few;
      within = omega (arith, here);
      last = next.last;
      before = λ q d below there. let none : its_goal o m q ≡ 0 = cond-false _ _ _ (ne_eqb q o (omega arith)) in inl (omega (arith, none));
    }

module _ (size : ℕ) (w : World) (memory : Memory) (slot : ℕ) (at : List (ℕ × Puddle)) (old : State) (ready : IsReady size w memory old) (known : known_puddles_in memory.known_pools slot ≡ Some at) where
  abbrev F : ℕ
  F = w.stored.frames

  abbrev mask : Write
  mask = ready.mask

  abbrev image : Image
  image = reads old.now.words

  abbrev t : Tables
  t = tables_of F image

  abbrev under : Words
  under = masked mask old.now.words

  turn : puddles_in_turn t slot ≡ at
  turn = known_in_turn size w memory old ready slot at known

  pub known_graph : HasGraphIn F slot image at
  known_graph = graph_parts F slot image at (ready.knows.known_pools.each slot at known)

  pub known_placed : ArePlacedPuddles F at
  known_placed = placed_by_tables w.stored.next_number F image slot at (sound_read size w memory old ready) turn

  member : (o : ℕ) (e : ℕ × Puddle) → slice_get at o ≡ Some e → IsMemberOf t slot o e
  member o e there = member_of_pool F slot at image turn o e there

  -- Either a transaction is active on the pool, or none is.
  active_or_shut : (session : Option Session) → session_in memory.sessions slot ≡ session → ((s : Session) × IsActiveOn memory.active slot s.log_number) ⊎ IsClosedIn memory.active slot
  active_or_shut None none = inr (record {
    each = λ number h there same.
        let is = active_is w memory.active mask old.now.words ready.active number h there in
        let session = ready.sessions.each number h is.own.transaction there is.own.is in
        none-some (record { client = is.own.transaction.client; log_number = number; depth = is.own.transaction.depth }) (sym none ∙ sym (ap (session_in memory.sessions) same) ∙ session);
  })
  active_or_shut (Some s) some = inl (s, ready.sessions.only slot s some)

  pub cases_active : ((s : Session) × IsActiveOn memory.active slot s.log_number) ⊎ IsClosedIn memory.active slot
  cases_active = active_or_shut (session_in memory.sessions slot) refl

  -- ---- the pool's graph, with the mask applied

  types_masked : types_of (reads under) ≡ types_of image
  types_masked = types_of-same image (reads under) (λ k low high. read_beside size w memory old ready k (omega arith))

  -- If no transaction is active on the pool, the mask changes no word of its frames.
  shut_word : IsClosedIn memory.active slot → (k : ℕ) → pool_has_word F at k ≡ true → reads under k ≡ image k
  shut_word shut k mine =
      let own = pool_has_word-each F at k mine in
      let from = own.low in
      let to = own.high in
      let of = member own.ordinal own.puddle own.there in
      let below : own.puddle.0 < F = let low = of.below in omega (arith, low, frames_of_tables F image) in
      let none : mask k ≡ None =
      unmasked_frame w memory.active mask old.now.words ready.active own.puddle.0 k below
      (λ number h there.
      ap (is_of_pool h.slot) of.used
      ∙ ne_eqb of.member.pool (h.slot + 1) (λ same. shut.each number h there (let pool = of.pool in omega (arith, pool, same))))
      (omega arith) (omega arith) in
      ap (λ (c : Cell). c.newest) (masked-elsewhere mask old.now.words k none)

  -- If a transaction is active on the pool, each word of the pool is read, with the mask applied, as at its beginning:
  -- its own words by the mask, and the others because they have only that value.
  active_word : (number : ℕ) (h : ActiveTransaction) (there : active_under memory.active number ≡ Some h) (k : ℕ) → pool_has_word F (active_is w memory.active mask old.now.words ready.active number h there).puddles k ≡ true
      → reads under k ≡ (active_is w memory.active mask old.now.words ready.active number h there).before k
  active_word number h there k mine =
      let is = active_is w memory.active mask old.now.words ready.active number h there in
      elim (cases_Bool (pool_has_word F (finished_of is.puddles) k)) [
        | inl own ↦
            ap (λ (c : Cell). c.newest) (masked-there mask old.now.words k (is.before k) (is.masked k (is.before k) (mask_of_mine F (open_pool_of h is.puddles is.rec is.own.who) is.before k is.pool.known own)))
        | inr other ↦
            ap (λ (c : Cell). c.newest) (masked-elsewhere mask old.now.words k (rest_unmasked size w memory old ready number h there k mine other))
            ∙ HasOnly-newest (old.now.words k) (is.before k) (is.running.rests.each k mine other)
      ]

  -- So the pool has a graph.
  pub graph_masked : (g : Graph) × (graph_of (types_of (reads under)) (stored_in F at (reads under)) ≡ Some g)
  graph_masked = elim cases_active [
    | inr shut ↦
        (known_graph.graph, ap (λ (ts : List (ℕ × ℕ)). graph_of ts (stored_in F at (reads under))) types_masked ∙ ap (graph_of (types_of image)) (stored_in-has_word F at image (reads under) (shut_word shut)) ∙ known_graph.stored)
    | inl on ↦
        let active = on.1 in
        let is = active_is w memory.active mask old.now.words ready.active on.0.log_number active.active active.is in
        let same : is.puddles ≡ at = active_known size w memory old ready on.0.log_number active.active active.is at (ap (known_puddles_in memory.known_pools) active.slot_is ∙ known) in (
          is.graph_before,
          ap (λ (ts : List (ℕ × ℕ)). graph_of ts (stored_in F at (reads under))) (types_masked ∙ (types_read size w memory old ready).types)
              ∙ ap (λ (ps : List (ℕ × Puddle)). graph_of w.stored.types (stored_in F ps (reads under))) (sym same)
              ∙ ap (graph_of w.stored.types) (stored_in-has_word F is.puddles is.before (reads under) (active_word on.0.log_number active.active active.is))
              ∙ is.running.was,
        )
  ]

  -- With the mask applied, the pool may be rewritten.
  pub rewritable_masked : (rec : PoolRecord) → slot < POOL_RECORDS → t.pools slot ≡ Some rec → IsRewritableIn size (closed w) slot at graph_masked.0 under
  rewritable_masked rec low used = record {
    settled = ready.settled;
    pool = record {
      idle = record { each = λ v had. ready.settled.idle v had };
      tables = under_durable size w memory old ready;
      turn = ap (λ (u : Tables). puddles_in_turn u slot) (tables_read size w memory old ready) ∙ turn;
      bases = known_placed.bases;
      graph = graph_masked.1;
      frames = λ o e there unfinished k below. ready.rest.each (frame_at F e.0 + k) (omega arith);
    };
    rec = rec;
    below = low;
    used = ap (λ (u : Tables). u.pools slot) (tables_read size w memory old ready) ∙ used;
    whole = λ o e there k below. ready.rest.each (frame_at F e.0 + k) (omega arith);
  }

  -- ---- a batch

  module _ (goal : ℕ → ℕ) (o m : ℕ) (e : ℕ × Puddle) (next : AreNextSteps at goal o m e) (rec : PoolRecord) (low : slot < POOL_RECORDS) (used : t.pools slot ≡ Some rec) where
    next_its : AreNextSteps at (its_goal o m) o m e
    next_its = its_steps at goal o m e next

    below : e.0 < F
    below = let of = (member o e next.here).below in omega (arith, of, frames_of_tables F image)

    -- Steps of the puddle are left.
    moving : (member o e next.here).member.puddle.frontier ≡ steps_of (member o e next.here).member.puddle → ⊥
    moving finished =
        let puddle = (member o e next.here).puddle in
        absurd (omega (arith, next.some, next.last, finished, ap (λ (d : Puddle). d.frontier) puddle, ap (λ (d : Puddle). class_slots d.class) puddle))

    -- What is written is not masked.
    rewritten_unmasked : (k : ℕ) → IsRewritten F at (its_goal o m) k → mask k ≡ None
    rewritten_unmasked k r = elim (cases_eq r.ordinal o) [
      | inr other ↦ absurd (let never : its_goal o m r.ordinal ≡ 0 = cond-false _ _ _ (ne_eqb r.ordinal o other) in omega (arith, r.moves, never))
      | inl same ↦
          let one : r.puddle ≡ e = same_Some r.puddle e (sym r.here ∙ ap (slice_get at) same ∙ next.here) in
          let frame : r.puddle.0 ≡ e.0 = ap (λ (x : ℕ × Puddle). x.0) one in
          let of = member o e next.here in
          elim r.word [
            | inl inside ↦
                let from = inside.low in
                let to = inside.high in
                unmasked_moving_frame w memory.active mask old.now.words ready.active e.0 k of.member below of.used moving (omega (arith, from, frame)) (omega (arith, to, frame))
            | inr frontier ↦ unmasked_moving_record w memory.active mask old.now.words ready.active e.0 k of.member below of.used moving (omega (arith, frontier, frame)) (omega (arith, frontier, frame))
          ]
    ]

    by_rewriting : (k v : ℕ) → ByRewriting F at (its_goal o m) k v → mask k ≡ None
    by_rewriting k v (inl log) = let high = log.high in unmasked_before w memory.active mask old.now.words ready.active k (omega arith)
    by_rewriting k v (inr r) = rewritten_unmasked k r

    off : IsOff mask (ByRewriting F at (its_goal o m))
    off = IsOff-each mask (ByRewriting F at (its_goal o m)) by_rewriting

    module _ (fault : Option HostFault) (new : State) (c : CommitsSteps F at o m e fault old new) where
      pub steps_beside : LeavesMasked mask fault old new
      steps_beside =
          LeavesMasked-commits mask c.es fault old new
          (IsOff-each mask (ByBatch DAEMON_LOG c.es) (λ k v may. by_rewriting k v (by_batch F (its_goal o m) at o m e fault old new k v next_its c may))) c.batched c.commits

      -- The batch, with the mask applied.
      c_masked : CommitsSteps F at o m e fault (masked_state mask old) (masked_state mask new)
      c_masked =
          steps_masked F (its_goal o m) mask (record { each = λ k from to. unmasked_before w memory.active mask old.now.words ready.active k to }) at off o m e fault old new next_its
          (ready_gate size w memory old ready) c

      -- A batch of steps writes no word outside the daemon log, the puddle table and the frames.
      not_written : (k v : ℕ) → (k < PUDDLE_TABLE) ⊎ (tables_end F ≤ k) → k < frames_at F → (k < DAEMON_LOG) ⊎ (SPACE_TABLE ≤ k) → ByBatch DAEMON_LOG c.es k v → ⊥
      not_written k v outside before beside may = elim (by_batch F (its_goal o m) at o m e fault old new k v next_its c may) [
        | inl log ↦ let from = log.low in let to = log.high in elim beside [ inl under_it ↦ absurd (omega arith) | inr over ↦ absurd (omega arith) ]
        | inr r ↦ elim r.word [
          | inl inside ↦ let from = inside.low in absurd (omega arith)
          | inr frontier ↦
              let frame = (member r.ordinal r.puddle r.here).below in
              elim outside [ inl under_it ↦ absurd (omega (arith, frontier, frame, frames_of_tables F image)) | inr over ↦ absurd (omega (arith, frontier, frame, frames_of_tables F image)) ]
        ]
      ]

      space_kept : fault ≡ None → (k : ℕ) → SPACE_TABLE ≤ k → k < PUDDLE_TABLE → reads new.now.words k ≡ image k
      space_kept none k from to =
          reads_kept (ByBatch DAEMON_LOG c.es) old new k (subst (λ (f : Option HostFault). Changes (ByBatch DAEMON_LOG c.es) f old new) none c.commits.changes)
          (λ v may. not_written k v (inl to) (omega arith) (inr from) may)

      legal : is_legal_frontier (moved_to m e.1) ≡ true
      legal = le-leb m (steps_of e.1) next.last

      -- With the mask applied, the world stays the same at every moment.
      pub steps_apply : AppliesMasked size w w mask fault old new
      steps_apply =
          let keeps = batch_keeps_world size (closed w) slot at (its_goal o m) graph_masked.0 o m e fault (masked_state mask old) (masked_state mask new) next_its c_masked (rewritable_masked rec low used) legal in
          record {
            beside = steps_beside;
            moments = Leaves-weaker (Silently (λ image. idle_world_of size image ≡ Some (closed w)))
                (Silently (λ image. (idle_world_of size image ≡ Some (closed w)) ⊎ (idle_world_of size image ≡ Some (closed w)))) (masked_state mask old) (masked_state mask new) (λ bytes i p. (p.0, inl p.1)) keeps.moments;
            settled = keeps.settled;
            tables = λ none. HasDurableTables-committed F c.es fault old new c.commits.changes (c.commits.durable none) ready.tables;
            clients = λ none client small. owner_of-same (reads new.now.words) image client small (λ k from to. space_kept none k from to) ∙ ready.clients client small;
            logs = λ none. logs_kept F w.clients (ByBatch DAEMON_LOG c.es) fault (masked_state mask old) (masked_state mask new)
                (Changes-masked mask (ByBatch DAEMON_LOG c.es) fault old new c.commits.changes)
                (λ k v from to may. not_written k v (inr from) to (inr (omega arith)) may) ready.logs;
            shelf = refl;
          }

low_base : (v : ℕ) → is_legal_base v ≡ true → v + RANGE_BYTES ≤ 2 ^ 64
low_base v legal =
    let parts = and_parts (leb SPACE_START v && ltb v (SPACE_START + SPACE_BYTES)) (eqb (v % RANGE_BYTES) 0) legal in
    let below = ltb-true v (SPACE_START + SPACE_BYTES) (and_parts (leb SPACE_START v) (ltb v (SPACE_START + SPACE_BYTES)) parts.0).1 in
    omega arith

-- Placed puddles have low bases, because legal bases are low.
pub low_of_placed : (F : ℕ) (at : List (ℕ × Puddle)) → ArePlacedPuddles F at → HasLowBases at
low_of_placed F at placed = record { low = All-weaker (λ (e : ℕ × Puddle). is_legal_base e.1.base ≡ true) (λ (e : ℕ × Puddle). e.1.base + RANGE_BYTES ≤ 2 ^ 64) (λ e. low_base e.1.base) at placed.legal }
