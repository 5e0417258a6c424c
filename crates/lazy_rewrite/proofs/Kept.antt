-- The graph of a pool at each moment of its batches, and what holds for its words after them.
use Rattle.std.proofs.Common.{◌≡◌, ◌⊎◌, inl, inr, ℕ, zero, suc, ◌+◌, ◌<◌, ◌≤◌, List, [], map, set, Option, Some, None, option_map, refl, sym, ap, ◌∙◌, subst, ⊎_elim, arith, append-nil}
use Rattle.std.proofs.lemmas.Option.{slice_get-map}
use Rattle.pm_model.specs.declared.host.HostFault.{HostFault}
use Rattle.pm_model.specs.Words.{Words, HasOnly, reads, Picks}
use Rattle.pm_model.specs.Moments.{State}
use Rattle.pm_model.specs.Changes.{Leaves, Silently}
use Rattle.pm_model.proofs.Words.{HasOnly-own}
use Rattle.pm_model.proofs.Changes.{Changes-said, HasOnly-kept}
use Rattle.pm_model.proofs.Leaves.{Leaves-still, Leaves-weaker, Leaves-then, Leaves-now}
use Rattle.pud_defs.specs.declared.layout.TheConstants.{DAEMON_LOG, FRAME_WORDS, TYPE_TABLE}
use Rattle.pud_defs.specs.declared.records.Puddle.{Puddle}
use Rattle.pud_defs.specs.Formats.Geometry.{class_slots, steps_of}
use Rattle.pud_defs.specs.Formats.Image.{Image}
use Rattle.pud_defs.specs.Formats.Layout.{tables_end}
use Rattle.pud_defs.specs.Formats.Frames.{frame_at, frame_word}
use Rattle.pud_defs.specs.Logging.Entries.{is_idle_gate}
use Rattle.pud_defs.specs.Logging.Replay.{overwritten, settled_by}
use Rattle.pud_defs.specs.RegistryTables.Puddles.{moved_to}
use Rattle.pud_defs.specs.RegistryTables.Puts.{with_frontier_at}
use Rattle.pud_defs.specs.RegistryTables.Types.{types_of}
use Rattle.pud_defs.specs.RegistryTables.Tables.{tables_of, puddles_in_turn}
use Rattle.pud_defs.specs.PoolGraphs.Stored.{stored_in}
use Rattle.pud_defs.specs.PoolGraphs.Graph.{Graph, graph_of}
use Rattle.pud_defs.proofs.RegistryTables.TablesOf.{tables_of-same}
use Rattle.pud_defs.proofs.Logging.Replay.{settled_by-idle, outside_log}
use Rattle.graph_laws.specs.Changes.{AreBases}
use Rattle.graph_laws.specs.Steps.{with_steps}
use Rattle.graph_laws.proofs.RewritingSteps.Rewritten.{map-set}
use Rattle.graph_laws.proofs.SameReads.StoredImages.{stored_in-same}
use Rattle.batch.specs.Batches.{batch_write, HasIdleGate, ByBatch, IsBatched}
use Rattle.batch.proofs.Tables.{HasDurableTables-committed, reads_committed}
use Rattle.lazy_rewrite.specs.Batches.{IsRewritten, ByRewriting, AreNextSteps, CommitsSteps, RewritesOnce, RewritesInTurn, Rewrites}
use Rattle.lazy_rewrite.specs.Graphs.{graph_at, KeepsGraphAt, IsRewritable}
use Rattle.lazy_rewrite.proofs.Moved.{set-same}
use Rattle.lazy_rewrite.proofs.Turns.{ComesFrom, IsRewritten-from, steps_named, turns_come, turns_change, ComesFrom-steps}
use Rattle.lazy_rewrite.proofs.Stepped.{write, types_of-same, types_after, tables_after, turn_after, graph_at-after, graph_after}

-- ---- images of a device whose daemon log counts nothing

module _ (F : ℕ) (words : Words) (idle : HasIdleGate DAEMON_LOG words) (image : Image) (picked : Picks words image) where
  -- A word that has one value has it in each image.
  pub settled_single : (k : ℕ) → (k < DAEMON_LOG) ⊎ (TYPE_TABLE ≤ k) → HasOnly (words k) (words k).newest → settled_by DAEMON_LOG image k ≡ reads words k
  settled_single k outside one =
      settled_by-idle DAEMON_LOG image k (idle.each (image DAEMON_LOG) (picked.each DAEMON_LOG)) (outside_log DAEMON_LOG k (⊎_elim (λ low. inl low) (λ high. inr (omega arith)) outside))
      ∙ one.each (image k) (picked.each k)

-- ---- one batch

module _ (F slot : ℕ) (at : List (ℕ × Puddle)) (goal : ℕ → ℕ) (g : Graph) (o m : ℕ) (e : ℕ × Puddle) (fault : Option HostFault) (old new : State) (next : AreNextSteps at goal o m e) (c : CommitsSteps F at o m e fault old new) (r : IsRewritable F slot at g old.now.words) where
  abbrev image : Image
  image = reads old.now.words

  unfinished : e.1.frontier < steps_of e.1
  unfinished = omega (arith, next.some, next.last)

  -- In the tables each image has the words that it has with the daemon log replayed.
  tables_read : (i : Image) → Picks old.now.words i → (k : ℕ) → TYPE_TABLE ≤ k → k < tables_end F → settled_by DAEMON_LOG i k ≡ image k
  tables_read i picked k low high = settled_single F old.now.words r.idle i picked k (inr low) (r.tables.each k (inr low) high)

  frame_read : (i : Image) → Picks old.now.words i → (k : ℕ) → k < FRAME_WORDS → frame_word F e.0 k (settled_by DAEMON_LOG i) ≡ frame_word F e.0 k image
  frame_read i picked k low = settled_single F old.now.words r.idle i picked (frame_at F e.0 + k) (inr (omega arith)) (r.frames o e next.here unfinished k low)

  -- Each image that is left has the graph that it had.
  pub batch_keeps : (i : Image) → IsBatched old.now.words DAEMON_LOG c.es i → KeepsGraphAt F slot at goal old.now.words i
  batch_keeps i b = record {
    before = b.before;
    picked = b.picked;
    outside = λ k beside not. b.outside k beside (none_or (batch_write c.es k) refl not);
    same = elim b.settled [
      | inl still ↦ ap (graph_at F slot) still
      | inr all ↦
          ap (graph_at F slot) (all ∙ ap (λ (w : ℕ → Option ℕ). overwritten w (settled_by DAEMON_LOG b.before)) c.write)
          ∙ graph_at-after F slot at goal o m e image next r.turn (settled_by DAEMON_LOG b.before) (tables_read b.before b.picked) (frame_read b.before b.picked) r.bases g r.graph
    ];
  }
    where
      none_or : {k : ℕ} (v : Option ℕ) → batch_write c.es k ≡ v → (IsRewritten F at goal k → ⊥) → batch_write c.es k ≡ None
      none_or None is not = is
      none_or {k = k} (Some v) is not = absurd (not (steps_named F goal at o m e fault old new k v next c is))

  pub batch_moments : Leaves (Silently (KeepsGraphAt F slot at goal old.now.words)) old new
  batch_moments = Leaves-weaker (Silently (IsBatched old.now.words DAEMON_LOG c.es)) (Silently (KeepsGraphAt F slot at goal old.now.words)) old new (λ bytes i p. (p.0, batch_keeps i p.1)) c.commits.moments

-- ---- after it

module _ (F : ℕ) (at : List (ℕ × Puddle)) (goal : ℕ → ℕ) (o m : ℕ) (e : ℕ × Puddle) (old new : State) (next : AreNextSteps at goal o m e) (c : CommitsSteps F at o m e None old new) where
  -- A word that had one value still has one value.
  pub single_after : (k : ℕ) → (k < DAEMON_LOG) ⊎ (TYPE_TABLE ≤ k) → HasOnly (old.now.words k) (old.now.words k).newest → HasOnly (new.now.words k) (new.now.words k).newest
  single_after k outside one = by_write (batch_write c.es k) refl
    where
      beside : batch_write c.es k ≡ None → (v : ℕ) → ByBatch DAEMON_LOG c.es k v → ⊥
      beside none v (inl log) = let from = log.low in let to = log.high in ⊎_elim (λ low. absurd (omega arith)) (λ high. absurd (omega arith)) outside
      beside none v (inr named) = absurd (let no : None ≡ Some named.value = sym none ∙ named.is in cc)

      by_write : (w : Option ℕ) → batch_write c.es k ≡ w → HasOnly (new.now.words k) (new.now.words k).newest
      by_write None is = HasOnly-own (new.now.words k) (reads old.now.words k) (HasOnly-kept (ByBatch DAEMON_LOG c.es) None old new k (reads old.now.words k) c.commits.changes (beside is) one)
      by_write (Some v) is = HasOnly-own (new.now.words k) v (c.commits.durable refl k v is)

  -- What is read afterwards is what was read before, with the steps written.
  pub read_after : (k : ℕ) → (k < DAEMON_LOG) ⊎ (TYPE_TABLE ≤ k) → reads new.now.words k ≡ overwritten (batch_write c.es) (reads old.now.words) k
  read_after k outside = reads_committed c.es old new k outside c.commits.changes (c.commits.durable refl)

  module _ (slot : ℕ) (g : Graph) (r : IsRewritable F slot at g old.now.words) where
    abbrev read : Image
    read = reads old.now.words

    abbrev steps : Image
    steps = overwritten (λ k. batch_write c.es k) read

    same_bases : AreBases (map (λ d. d.base) (map (λ d. d.1) (with_steps o m e at)))
    same_bases =
        let puddles = map (λ (d : ℕ × Puddle). d.1) at in
        let moved : map (λ (d : ℕ × Puddle). d.1) (with_steps o m e at) ≡ set puddles o (moved_to m e.1) = map-set (λ (d : ℕ × Puddle). d.1) at o (e.0, moved_to m e.1) in
        let there = slice_get-map (λ (d : Puddle). d.base) puddles o ∙ ap (option_map (λ (d : Puddle). d.base)) (slice_get-map (λ (d : ℕ × Puddle). d.1) at o ∙ ap (option_map (λ (d : ℕ × Puddle). d.1)) next.here) in
        let same : map (λ (d : Puddle). d.base) (map (λ (d : ℕ × Puddle). d.1) (with_steps o m e at)) ≡ map (λ (d : Puddle). d.base) puddles =
        ap (map (λ (d : Puddle). d.base)) moved ∙ map-set (λ (d : Puddle). d.base) puddles o (moved_to m e.1) ∙ set-same (map (λ (d : Puddle). d.base) puddles) o e.1.base there in
        subst (λ (bs : List ℕ). AreBases bs) (sym same) r.bases

    image_after : steps ≡ overwritten (write F slot at goal o m e read next r.turn) read
    image_after = ap (λ (w : ℕ → Option ℕ). overwritten w read) c.write

    types_read : types_of (reads new.now.words) ≡ types_of read
    types_read =
        types_of-same steps (reads new.now.words) (λ k low high. read_after k (inr low))
        ∙ ap types_of image_after
        ∙ types_after F slot at goal o m e read next r.turn read (λ k low high. refl) (λ k low. refl)

    pub tables_stepped : tables_of F (reads new.now.words) ≡ with_frontier_at e.0 m (tables_of F read)
    tables_stepped =
        tables_of-same F (reads new.now.words) steps (λ k low high. read_after k (inr (omega arith))) (λ k low high. read_after k (inr (omega arith)))
        ∙ ap (tables_of F) image_after
        ∙ tables_after F slot at goal o m e read next r.turn read (λ k low high. refl) (λ k low. refl)

    turn_read : puddles_in_turn (tables_of F (reads new.now.words)) slot ≡ with_steps o m e at
    turn_read =
        ap (λ u. puddles_in_turn u slot) (tables_of-same F (reads new.now.words) steps (λ k low high. read_after k (inr (omega arith))) (λ k low high. read_after k (inr (omega arith))))
        ∙ ap (λ (j : Image). puddles_in_turn (tables_of F j) slot) image_after
        ∙ turn_after F slot at goal o m e read next r.turn read (λ k low high. refl) (λ k low. refl)

    graph_read : graph_of (types_of (reads new.now.words)) (stored_in F (with_steps o m e at) (reads new.now.words)) ≡ Some g
    graph_read =
        (λ p. graph_of (types_read p) (stored_in F (with_steps o m e at) (reads new.now.words)))
        ∙ ap (graph_of (types_of read)) (stored_in-same F (with_steps o m e at) steps (reads new.now.words) (record { each = λ i k d there low. read_after (frame_at F d.0 + k) (inr (omega arith)) }))
        ∙ ap (λ (j : Image). graph_of (types_of read) (stored_in F (with_steps o m e at) j)) image_after
        ∙ graph_after F slot at goal o m e read next r.turn read (λ k low high. refl) (λ k low. refl) r.bases g r.graph r.graph

    pub rewritable_after : IsRewritable F slot (with_steps o m e at) g new.now.words
    rewritable_after = record {
      idle = record { each = λ v has. ap is_idle_gate ((c.commits.closed refl).each v has) };
      tables = HasDurableTables-committed F c.es None old new c.commits.changes (c.commits.durable refl) r.tables;
      turn = turn_read;
      bases = same_bases;
      graph = graph_read;
      frames = λ i d there unfinished k low.
          let from = (ComesFrom-steps at goal o m e next).each i d there in
          let was = r.frames i from.puddle from.here (omega (arith, unfinished, from.frontier, ap class_slots from.class)) k low in
          single_after (frame_at F d.0 + k) (inr (omega arith)) (subst (λ (frame : ℕ). HasOnly (old.now.words (frame_at F frame + k)) (old.now.words (frame_at F frame + k)).newest) from.frame was);
    }

-- ---- batches in turn

module _ (F slot : ℕ) (goal : ℕ → ℕ) (g : Graph) where
  -- An image that does not change keeps its graph.
  still_kept : (at : List (ℕ × Puddle)) (words : Words) (i : Image) → Picks words i → KeepsGraphAt F slot at goal words i
  still_kept at words i picked = record { before = i; picked = picked; outside = λ k beside not. refl; same = refl }

  -- What is left of later batches comes from the start.
  kept_from : (at later : List (ℕ × Puddle)) (a b : Words) (i : Image) → ComesFrom at later → (k : KeepsGraphAt F slot later goal b i) → KeepsGraphAt F slot at goal a k.before → KeepsGraphAt F slot at goal a i
  kept_from at later a b i comes k was = record {
    before = was.before;
    picked = was.picked;
    outside = λ w beside not. k.outside w beside (λ of. not (IsRewritten-from F goal at later w comes of)) ∙ was.outside w beside not;
    same = k.same ∙ was.same;
  }

  once_keeps : (at later : List (ℕ × Puddle)) (fault : Option HostFault) (old new : State) → RewritesOnce F goal at later fault old new → IsRewritable F slot at g old.now.words → Leaves (Silently (KeepsGraphAt F slot at goal old.now.words)) old new
  once_keeps at later fault old new one r = elim one.does [
    | inl still ↦ Leaves-still (Silently (KeepsGraphAt F slot at goal old.now.words)) old new (λ i picked. (refl, still_kept at old.now.words i picked)) still.0
    | inr c ↦ batch_moments F slot at goal g one.ordinal one.to one.puddle fault old new one.next c r
  ]

  once_rewritable : (at later : List (ℕ × Puddle)) (old new : State) → RewritesOnce F goal at later None old new → IsRewritable F slot at g old.now.words → IsRewritable F slot later g new.now.words
  once_rewritable at later old new one r = elim one.does [
    | inl still ↦ absurd (still.1.0 refl)
    | inr c ↦ subst (λ (ds : List (ℕ × Puddle)). IsRewritable F slot ds g new.now.words) (sym one.pool) (rewritable_after F at goal one.ordinal one.to one.puddle old new one.next c slot g r)
  ]

  pub turns_rewritable : (batches : ℕ) (at later : List (ℕ × Puddle)) (old new : State) → RewritesInTurn F goal batches at later None old new → IsRewritable F slot at g old.now.words → IsRewritable F slot later g new.now.words
  turns_rewritable zero at later old new turns r =
      subst (λ (ds : List (ℕ × Puddle)). IsRewritable F slot ds g new.now.words) (sym turns.0) (subst (λ (s : State). IsRewritable F slot at g s.now.words) (sym turns.1.1) r)
  turns_rewritable (suc batches) at later old new turns r = once_rewritable turns.1.0 later turns.0 new turns.1.1.1 (turns_rewritable batches at turns.1.0 old turns.0 turns.1.1.0 r)

  turns_keep : (batches : ℕ) (at later : List (ℕ × Puddle)) (fault : Option HostFault) (old new : State) → RewritesInTurn F goal batches at later fault old new → IsRewritable F slot at g old.now.words
      → Leaves (Silently (KeepsGraphAt F slot at goal old.now.words)) old new
  turns_keep zero at later fault old new turns r = Leaves-still (Silently (KeepsGraphAt F slot at goal old.now.words)) old new (λ i picked. (refl, still_kept at old.now.words i picked)) turns.1.1
  turns_keep (suc batches) at later fault old new turns r =
      let mid = turns.0 in
      let between = turns.1.0 in
      let front = turns.1.1.0 in
      let P = Silently (KeepsGraphAt F slot at goal old.now.words) in
      let Q = Silently (KeepsGraphAt F slot between goal mid.now.words) in
      let quiet = Changes-said (ByRewriting F at goal) None old mid (turns_change F goal batches at between None old mid front) ∙ sym (append-nil old.now.said) in
      let early = turns_keep batches at between None old mid front r in
      Leaves-then P Q P [] old mid new quiet (λ bytes i p. p)
      (λ bytes i q. (q.0, kept_from at between old.now.words mid.now.words i (turns_come F goal batches at between None old mid front) q.1 (Leaves-now P [] old mid quiet early q.1.before q.1.picked).1))
      early (once_keeps between later fault mid new turns.1.1.1 (turns_rewritable batches at between old mid front r))

  -- At each moment the graph of the pool is that of the image at the start.
  pub Rewrites-keeps : (at later : List (ℕ × Puddle)) (fault : Option HostFault) (old new : State) → Rewrites F goal at later fault old new → IsRewritable F slot at g old.now.words
      → Leaves (Silently (KeepsGraphAt F slot at goal old.now.words)) old new
  Rewrites-keeps at later fault old new r rewritable = turns_keep r.batches at later fault old new r.in_turn rewritable
