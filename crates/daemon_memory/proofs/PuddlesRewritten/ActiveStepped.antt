-- An active transaction while steps of a puddle of its pool are rewritten. The puddle is not finished before, and may
-- be finished afterwards. The transaction stays open, and its own words are then those of the puddles that are finished
-- then.
use Rattle.std.proofs.Common.{◌≡◌, inl, inr, ℕ, ◌+◌, ◌-◌, ◌<◌, true, false, List, map, Option, Some, None, refl, sym, ap, subst, ◌∙◌, arith}
use Rattle.std.specs.Prelude.{slice_get, unwrap_or}
use Rattle.std.proofs.lemmas.Bool.{cases_Bool, eqb-true}
use Rattle.std.proofs.lemmas.Option.{same_Some}
use Rattle.pm_model.specs.Words.{HasOnly, reads}
use Rattle.pm_model.specs.Moments.{State}
use Rattle.pm_model.specs.Changes.{Write, Changes}
use Rattle.pm_model.proofs.Words.{HasOnly-own, HasOnly-newest}
use Rattle.pud_defs.specs.declared.layout.TheConstants.{DAEMON_LOG, FRAME_WORDS}
use Rattle.pud_defs.specs.declared.records.Puddle.{Puddle}
use Rattle.pud_defs.specs.Formats.Geometry.{class_slots, steps_of, IsFinished}
use Rattle.pud_defs.specs.Formats.Image.{Image}
use Rattle.pud_defs.specs.Formats.Frames.{frame_at, frame_word}
use Rattle.pud_defs.specs.PoolGraphs.Graph.{Graph, graph_of}
use Rattle.pud_defs.specs.Formats.Layout.{device_words}
use Rattle.pud_defs.specs.RegistryTables.Puddles.{moved_to}
use Rattle.pud_defs.specs.Logging.Replay.{overwritten}
use Rattle.pud_defs.specs.RegistryTables.SoundTables.{HasSoundTables}
use Rattle.pud_defs.specs.RegistryTables.Spaces.{owner_of}
use Rattle.pud_defs.specs.PoolGraphs.Stored.{stored_in}
use Rattle.pud_defs.specs.RegistryTables.Tables.{tables_of, puddles_in_turn}
use Rattle.pud_defs.specs.RegistryTables.Types.{types_of}
use Rattle.pud_defs.specs.StateMachine.World.{World}
use Rattle.pud_defs.proofs.Logging.Replay.{overwritten-stays, outside_log}
use Rattle.graph_laws.specs.Steps.{steps_in, with_steps}
use Rattle.graph_laws.proofs.RewritingSteps.Rewritten.{slice_get-set_other}
use Rattle.graph_laws.proofs.RewritingSteps.StepsStored.{write-other, graph_of-written, steps_in-same}
use Rattle.batch.specs.Batches.{batch_write}
use Rattle.batch.proofs.Tables.{reads_kept}
use Rattle.lazy_rewrite.specs.Batches.{AreNextSteps, CommitsSteps}
use Rattle.lazy_rewrite.proofs.Kept.{read_after}
use Rattle.lazy_rewrite.proofs.Spared.{AreFrames, HaveMoved-steps, batch_spares, place_in_pool-spared}
use Rattle.lazy_rewrite.proofs.Turns.{ComesFrom, ComesFrom-steps}
use Rattle.word_transaction.specs.Scope.{IsScope}
use Rattle.word_transaction.proofs.Calls.{IsRunning-kept}
use Rattle.word_transaction.proofs.Growing.{IsWider, IsRunning-values, IsRunning-wider}
use Rattle.hybrid_tx.specs.PoolScopes.{pool_has_word, pool_scope, ArePlacedPuddles, holds_finished, finished_of}
use Rattle.hybrid_tx.specs.Open.Masks.{OpenPool, open_mask}
use Rattle.hybrid_tx.specs.Open.ManyOpen.{OpenTransaction}
use Rattle.hybrid_tx.specs.Objects.Transactions.{IsOpenOn, RestsAs}
use Rattle.hybrid_tx.proofs.FinishedPuddles.{stood, finished_there, finished_placed, mine_of_finished}
use Rattle.hybrid_tx.proofs.PoolScope.{all_there, pool_has_word-each, pool_has_word-from, is_scope}
use Rattle.hybrid_tx.proofs.Objects.DeferredKept.{KeepsFinished, KeepsObjects-same, AreDeferredEntries-wider}
use Rattle.hybrid_tx.proofs.Objects.Opening.{stored_in-has_word}
use Rattle.hybrid_tx.proofs.Open.OpenPools.{placed_by_tables}
use Rattle.daemon_memory.specs.Memory.{ActiveTransaction}
use Rattle.daemon_memory.specs.ActiveTransactions.{open_pool_of, open_transaction_of, IsActive, StaysSingle, ByOthers}
use Rattle.daemon_memory.proofs.Commands.Beside.{own_masked, log_masked}
use Rattle.daemon_memory.proofs.PuddlesRewritten.OwnMore.{OpensAgain, begun, own_begun, other_begun, FinishesMore, mine_later, wider_ground, comes_open}

-- ---- finished puddles stay finished, where they are

module _ (F : ℕ) (at : List (ℕ × Puddle)) (goal : ℕ → ℕ) (o m : ℕ) (e : ℕ × Puddle) (next : AreNextSteps at goal o m e) where
  abbrev pub stepped : List (ℕ × Puddle)
  stepped = with_steps o m e at

  comes : ComesFrom at stepped
  comes = ComesFrom-steps at goal o m e next

  -- A finished puddle is not the one that moves.
  finished_apart : (i : ℕ) (d : ℕ × Puddle) → slice_get at i ≡ Some d → IsFinished d.1 → i ≡ o → ⊥
  finished_apart i d there finished same =
      let is : d ≡ e = same_Some d e (sym there ∙ ap (slice_get at) same ∙ next.here) in
      absurd (omega (arith, next.some, next.last, finished, ap (λ (x : ℕ × Puddle). x.1.frontier) is, ap (λ (x : ℕ × Puddle). class_slots x.1.class) is))

  pub finished_stays : (i : ℕ) (d : ℕ × Puddle) → slice_get at i ≡ Some d → IsFinished d.1 → slice_get stepped i ≡ Some d
  finished_stays i d there finished = slice_get-set_other at o i (e.0, moved_to m e.1) (finished_apart i d there finished) ∙ there

  -- A finished puddle is among those that are finished afterwards.
  pub finished_later : (i : ℕ) (d : ℕ × Puddle) → slice_get (finished_of at) i ≡ Some d → (j : ℕ) × (slice_get (finished_of stepped) j ≡ Some d)
  finished_later i d there =
      let s = stood holds_finished at i d there in
      let finished : IsFinished d.1 = eqb-true d.1.frontier (steps_of d.1) s.passes in
      finished_there F stepped s.index d (finished_stays s.index d s.there finished) finished

  pub later : FinishesMore at stepped
  later = record { each = finished_later }

  -- The words of all the puddles are the same.
  pub mine_before : (k : ℕ) → pool_has_word F stepped k ≡ true → pool_has_word F at k ≡ true
  mine_before k mine =
      let own = pool_has_word-each F stepped k mine in
      let from = comes.each own.ordinal own.puddle own.there in
      let frame = from.frame in
      let low = own.low in
      let high = own.high in
      pool_has_word-from F at k (record { ordinal = own.ordinal; puddle = from.puddle; there = from.here; low = omega arith; high = omega arith })

  keeps : KeepsFinished at stepped
  keeps = record {
    slots = λ i d there. let moved = (HaveMoved-steps at goal o m e next).each i d there in record { puddle = (d.0, moved_to moved.frontier d.1); there = moved.there; addresses = λ slot. refl };
    finished = finished_stays;
  }

-- ---- one transaction

module _ (w : World) (active : ActiveTransaction) (mask : Write) (old new : State) (is : IsActive w active mask old.now.words) (goal : ℕ → ℕ) (o m : ℕ) (e : ℕ × Puddle) (next : AreNextSteps is.puddles goal o m e)
    (c : CommitsSteps w.stored.frames is.puddles o m e None old new) (types : types_of (reads old.now.words) ≡ w.stored.types) (beside : Changes (ByOthers mask) None old new) (single : StaysSingle old new) where
  abbrev F : ℕ
  F = w.stored.frames

  abbrev now : Image
  now = reads new.now.words

  -- Its puddles with these steps.
  abbrev pub at : List (ℕ × Puddle)
  at = stepped F is.puddles goal o m e next

  abbrev q : OpenPool
  q = open_pool_of active at is.rec is.own.who

  -- The own words have the values of the beginning, and the other words have the values that are read.
  abbrev pub before : Image
  before = begun F is.puddles is.before now

  abbrev pub opened_stepped : OpenTransaction
  opened_stepped = open_transaction_of active at is.rec is.own.who before

  own_word : (k : ℕ) → pool_has_word F (finished_of is.puddles) k ≡ true → before k ≡ is.before k
  own_word = own_begun F is.puddles is.before now

  other_word : (k : ℕ) → pool_has_word F (finished_of is.puddles) k ≡ false → before k ≡ now k
  other_word = other_begun F is.puddles is.before now

  -- A masked word is read as it was.
  masked_word : (k : ℕ) → (mask k ≡ None → ⊥) → now k ≡ reads old.now.words k
  masked_word k masked = reads_kept (ByOthers mask) old new k beside (λ v none. masked none)

  -- Each word of the pool that is not its own has one value.
  rest_single : (k : ℕ) → pool_has_word F is.puddles k ≡ true → pool_has_word F (finished_of is.puddles) k ≡ false → HasOnly (new.now.words k) (before k)
  rest_single k mine other =
      let low = (pool_has_word-each F is.puddles k mine).low in
      let was = is.running.rests.each k mine other in
      let one = single.each k (outside_log DAEMON_LOG k (inr (omega arith))) (HasOnly-own (old.now.words k) (is.before k) was) in
      subst (λ (v : ℕ). HasOnly (new.now.words k) v) (sym (other_word k other)) one

  module _ (number : ℕ) (sound : HasSoundTables number (tables_of F now)) (same_pools : (tables_of F now).pools active.slot ≡ (tables_of F (reads old.now.words)).pools active.slot)
      (owners : owner_of now active.client ≡ w.clients active.client) (placed_was : ArePlacedPuddles F is.puddles) (listed : puddles_in_turn (tables_of F now) active.slot ≡ at) where
    placed : ArePlacedPuddles F at
    placed = placed_by_tables number F now active.slot at sound listed

    placed_before : ArePlacedPuddles F (finished_of is.puddles)
    placed_before = finished_placed F is.puddles placed_was

    frames : AreFrames F is.puddles
    frames = record { distinct = placed_was.frames; below = λ i d there. all_there (λ (x : ℕ × Puddle). x.0 < F) is.puddles i d placed_was.below there }

    pub comes_stepped : OpensAgain F (open_transaction_of active is.puddles is.rec is.own.who is.before) opened_stepped new.now.words
    comes_stepped = comes_open w active mask old.now.words new.now.words is masked_word at (later F is.puddles goal o m e next) number sound same_pools owners listed

    -- ---- what is open

    wider : IsWider (pool_scope F (finished_of is.puddles)) (pool_scope F (finished_of at))
    wider = wider_ground F is.puddles at (later F is.puddles goal o m e next) placed_before (finished_placed F at placed)

    fresh_word : (k : ℕ) → pool_has_word F (finished_of at) k ≡ true → pool_has_word F (finished_of is.puddles) k ≡ false → HasOnly (new.now.words k) (before k)
    fresh_word k own other = rest_single k (mine_before F is.puddles goal o m e next k (mine_of_finished F at k own)) other

    rests_stepped : RestsAs F at before new.now.words
    rests_stepped = record {
      each = λ k mine other.
          rest_single k (mine_before F is.puddles goal o m e next k mine) (elim (cases_Bool (pool_has_word F (finished_of is.puddles) k)) [
            | inr none ↦ none
            | inl own ↦ absurd (let no : true ≡ false = sym (mine_later F is.puddles at (later F is.puddles goal o m e next) k own) ∙ other in cc)
          ]);
    }

    scope : IsScope (device_words F) active.tx.log.gate_at (pool_scope F (finished_of is.puddles))
    scope =
        let gate = is.own.gate in
        let known = is.pool.known in
        is_scope F (device_words F) active.tx.log.gate_at (finished_of is.puddles) placed_before (omega arith) (omega arith)

    -- ---- the graphs

    -- An image has the frame of the puddle as it was read. With the steps written over it, it has the same graph.
    graph_over : (i j : Image) (g : Graph) → ((k : ℕ) → k < FRAME_WORDS → frame_word F e.0 k i ≡ frame_word F e.0 k (reads old.now.words))
        → ((k : ℕ) → pool_has_word F at k ≡ true → j k ≡ overwritten (batch_write c.es) i k) → graph_of w.stored.types (stored_in F is.puddles i) ≡ Some g → graph_of w.stored.types (stored_in F at j) ≡ Some g
    graph_over i j g frame same graph =
        let image = reads old.now.words in
        let write : steps_in F w.stored.types is.puddles i o m e ≡ batch_write c.es =
        steps_in-same F w.stored.types is.puddles image i o m e next.here frame ∙ ap (λ (ts : List (ℕ × ℕ)). steps_in F ts is.puddles image o m e) (sym types) ∙ sym c.write in
        ap (graph_of w.stored.types) (stored_in-has_word F at (overwritten (batch_write c.es) i) j same)
        ∙ ap (λ (x : ℕ → Option ℕ). graph_of w.stored.types (stored_in F at (overwritten x i))) (sym write)
        ∙ graph_of-written F w.stored.types is.puddles i o m e placed_was.frames next.here (frames.below o e next.here) placed_was.bases (omega (arith, next.some)) g graph

    -- A word of the frame is none of its own words.
    frame_other : (k : ℕ) → k < FRAME_WORDS → pool_has_word F (finished_of is.puddles) (frame_at F e.0 + k) ≡ false
    frame_other k low = elim (cases_Bool (pool_has_word F (finished_of is.puddles) (frame_at F e.0 + k))) [
      | inr other ↦ other
      | inl own ↦
          let n = pool_has_word-each F (finished_of is.puddles) (frame_at F e.0 + k) own in
          let from = n.low in
          let to = n.high in
          let s = stood holds_finished is.puddles n.ordinal n.puddle n.there in
          let finished : IsFinished n.puddle.1 = eqb-true n.puddle.1.frontier (steps_of n.puddle.1) s.passes in
          absurd (finished_apart F is.puddles goal o m e next s.index n.puddle s.there finished (placed_was.frames.each s.index o n.puddle e s.there next.here (omega arith)))
    ]

    frame_mine : (k : ℕ) → k < FRAME_WORDS → pool_has_word F is.puddles (frame_at F e.0 + k) ≡ true
    frame_mine k low = pool_has_word-from F is.puddles (frame_at F e.0 + k) (record { ordinal = o; puddle = e; there = next.here; low = omega arith; high = omega arith })

    frame_was : (k : ℕ) → k < FRAME_WORDS → frame_word F e.0 k is.before ≡ frame_word F e.0 k (reads old.now.words)
    frame_was k low = sym (HasOnly-newest (old.now.words (frame_at F e.0 + k)) (is.before (frame_at F e.0 + k)) (is.running.rests.each (frame_at F e.0 + k) (frame_mine k low) (frame_other k low)))

    -- What is read of the pool is what was read, with the steps written over it.
    read_over : (k : ℕ) → pool_has_word F at k ≡ true → now k ≡ overwritten (batch_write c.es) (reads old.now.words) k
    read_over k mine = let low = (pool_has_word-each F at k mine).low in read_after F is.puddles goal o m e old new next c k (inr (omega arith))

    -- The same is true of the values of the beginning.
    over_before : (k : ℕ) → pool_has_word F at k ≡ true → before k ≡ overwritten (batch_write c.es) is.before k
    over_before k mine = elim (cases_Bool (pool_has_word F (finished_of is.puddles) k)) [
      | inl own ↦ own_word k own ∙ sym (overwritten-stays (batch_write c.es) is.before k (unwritten k own))
      | inr other ↦
          other_word k other
          ∙ read_over k mine
          ∙ ap (λ (v : ℕ). unwrap_or (batch_write c.es k) v) (HasOnly-newest (old.now.words k) (is.before k) (is.running.rests.each k (mine_before F is.puddles goal o m e next k mine) other))
    ]
      where
        unwritten : (k : ℕ) → pool_has_word F (finished_of is.puddles) k ≡ true → batch_write c.es k ≡ None
        unwritten k own =
            let n = pool_has_word-each F (finished_of is.puddles) k own in
            let from = n.low in
            let to = n.high in
            ap (λ (x : ℕ → Option ℕ). x k) c.write
            ∙ write-other F (types_of (reads old.now.words)) (map (λ (d : ℕ × Puddle). d.1) is.puddles) ((stored_in F is.puddles (reads old.now.words)).word o) o m e k
            (λ low high.
            let back : frame_at F e.0 + (k - frame_at F e.0) ≡ k = omega arith in
            let no : true ≡ false = sym own ∙ ap (λ (j : ℕ). pool_has_word F (finished_of is.puddles) j) (sym back) ∙ frame_other (k - frame_at F e.0) (omega arith) in
            cc)
            (λ frontier. let below = frames.below o e next.here in absurd (omega arith))

    pub running_stepped : IsOpenOn F at w.stored.types active.tx.log before is.graph_before is.own.transaction.now is.own.transaction.deferred new.now.words
    running_stepped =
        let r = is.running in
        let g = pool_scope F (finished_of is.puddles) in
        record {
          redo = r.redo;
          saving = record {
            es = r.saving.es;
            running = IsRunning-wider g (pool_scope F (finished_of at)) active.tx.log r.saving.es before new.now.words wider fresh_word
                (IsRunning-values (device_words F) g active.tx.log r.saving.es is.before before new.now.words scope (λ k own. sym (own_word k own))
                (IsRunning-kept g active.tx.log r.saving.es is.before (ByOthers mask) None old new beside (λ k v inside none. log_masked w active mask old.now.words is k inside none)
                (λ k v own none. own_masked w active mask old.now.words is k own none) r.saving.running));
            defers = r.saving.defers;
          };
          rests = rests_stepped;
          was = graph_over is.before before is.graph_before frame_was over_before r.was;
          is = graph_over (reads old.now.words) now is.own.transaction.now (λ k low. refl) read_over r.is;
          are = AreDeferredEntries-wider F is.puddles at w.stored.types w.stored.types (reads old.now.words) now is.own.transaction.now is.own.transaction.now (keeps F is.puddles goal o m e next) (record { each = λ id x there. there })
              (record { each = λ s object live. place_in_pool-spared F is.puddles at (reads old.now.words) now (batch_spares F is.puddles goal o m e old new next c frames) s }) (KeepsObjects-same is.own.transaction.now)
              is.own.transaction.deferred r.redo r.are;
        }

    -- The transaction is active with these steps, if its words are masked.
    abbrev pub active_stepped : (renewed : Write) → ((k v : ℕ) → open_mask F q before k ≡ Some v → renewed k ≡ Some v) → IsActive w active renewed new.now.words
    active_stepped renewed masks = record {
      rec = is.rec;
      own = record {
        who = is.own.who;
        transaction = is.own.transaction;
        is = is.own.is;
        client = is.own.client;
        units = is.own.units;
        present = is.own.present;
        owner = is.own.owner;
        gate = is.own.gate;
      };
      puddles = at;
      before = before;
      graph_before = is.graph_before;
      name = is.name;
      stored = is.stored;
      pool = comes_stepped.pool;
      records = comes_stepped.records;
      running = running_stepped;
      masked = masks;
    }
