-- What a batch of steps of a known pool leaves: the pool has its graph, with the frontiers that it has then, and each
-- other pool stays.
use Rattle.std.proofs.Common.{◌≡◌, ◌≢◌, ◌⊎◌, inl, inr, ℕ, ◌+◌, ◌<◌, ◌≤◌, List, Some, None, option_map, sym, ap, subst, ◌∙◌, arith, eq-eqb, ne_eqb}
use Rattle.std.specs.Prelude.{slice_get}
use Rattle.std.proofs.lemmas.Bool.{cases_eq, cond-true, cond-false, le-leb}
use Rattle.pm_model.specs.Words.{Cell, HasOnly, reads}
use Rattle.pm_model.specs.Moments.{State}
use Rattle.pm_model.proofs.Masks.{masked-elsewhere}
use Rattle.pud_defs.specs.declared.layout.TheConstants.{DAEMON_LOG, LOG_WORDS, FRAME_WORDS}
use Rattle.pud_defs.specs.declared.records.Puddle.{Puddle}
use Rattle.pud_defs.specs.Formats.Geometry.{class_slots, steps_of, is_legal_frontier}
use Rattle.pud_defs.specs.Formats.Image.{Image}
use Rattle.pud_defs.specs.Formats.Frames.{frame_at}
use Rattle.pud_defs.specs.PoolGraphs.Stored.{stored_in}
use Rattle.pud_defs.specs.PoolGraphs.Graph.{graph_of}
use Rattle.pud_defs.specs.Formats.Layout.{tables_end}
use Rattle.pud_defs.specs.RegistryTables.Puddles.{Member, member_moved, moved_to, frontier_word}
use Rattle.pud_defs.specs.RegistryTables.Puts.{with_frontier_at}
use Rattle.pud_defs.specs.RegistryTables.SoundTables.{HasSoundTables}
use Rattle.pud_defs.specs.RegistryTables.Tables.{Tables, tables_of, member_of, members, puddles_in_turn}
use Rattle.pud_defs.specs.RegistryTables.Types.{types_of}
use Rattle.pud_defs.specs.StateMachine.World.{World}
use Rattle.pud_defs.proofs.RegistryTables.FrontiersMoved.{sound_moved}
use Rattle.pud_defs.proofs.RegistryTables.PoolMembers.{IsMemberOf}
use Rattle.pud_defs.proofs.RegistryTables.TablesOf.{frames_of_tables}
use Rattle.graph_laws.specs.Steps.{with_steps}
use Rattle.batch.specs.Batches.{ByBatch}
use Rattle.batch.proofs.Tables.{reads_kept}
use Rattle.lazy_rewrite.specs.Batches.{AreNextSteps, CommitsSteps}
use Rattle.lazy_rewrite.specs.Graphs.{IsRewritable}
use Rattle.lazy_rewrite.proofs.Kept.{tables_stepped, rewritable_after}
use Rattle.lazy_rewrite.proofs.Stepped.{member_of_pool, types_of-same}
use Rattle.lazy_rewrite.proofs.Turns.{by_batch}
use Rattle.hybrid_tx.specs.PoolScopes.{pool_has_word}
use Rattle.hybrid_tx.proofs.PoolScope.{all_there, pool_has_word-from}
use Rattle.daemon_memory.specs.Memory.{Memory}
use Rattle.known_pool.specs.Known.{Known, IsKnown, with_puddles}
use Rattle.known_pool.specs.Serials.{KeepsSerials}
use Rattle.known_pool.proofs.KnownKept.{IsKnown-kept}
use Rattle.lazy_rewrite.proofs.Spared.{batch_spares, class_moved}
use Rattle.daemon_memory.specs.PoolKnowledge.{known_puddles_in}
use Rattle.daemon_memory.specs.Ready.{IsReady}
use Rattle.daemon_memory.proofs.Commands.Beneath.{ready_gate}
use Rattle.daemon_memory.proofs.PoolChanges.InTurn.{known_in_turn}
use Rattle.daemon_memory.proofs.PoolsKnown.KnownKept.{HasGraphIn, KeepsGraphs, KeepsPool, KeepsPools, KeepsPools-each, own_word, words_apart}
use Rattle.daemon_memory.proofs.PoolChanges.PoolsBeside.{unmasked_moving_frame}
use Rattle.daemon_memory.proofs.PoolChanges.TablesBeside.{sound_read}
use Rattle.daemon_memory.proofs.PuddlesRewritten.StepsBeside.{known_graph, known_placed}

-- The members of another pool do not depend on the frontier of the puddle.
members_moved : (t : Tables) (frame n slot other f : ℕ) (m : Member) → t.puddles frame ≡ Some m → m.pool ≡ slot + 1 → other ≢ slot → members (with_frontier_at frame n t) other f ≡ members t other f
members_moved t frame n slot other f m used of apart = elim (cases_eq f frame) [
  | inr elsewhere ↦ ap (member_of other f) (cond-false _ _ _ (ne_eqb f frame elsewhere))
  | inl here ↦
      let none : (x : Member) → x.pool ≡ slot + 1 → member_of other f (Some x) ≡ None =
      λ x is. cond-false _ _ _ (ne_eqb x.pool (other + 1) (λ same. apart (let it : other ≡ slot = omega arith in it))) in
      ap (member_of other f) (cond-true _ _ _ (eq-eqb f frame here) ∙ ap (option_map (member_moved n)) used)
      ∙ none (member_moved n m) of
      ∙ sym (ap (member_of other f) (ap t.puddles here ∙ used) ∙ none m of)
]

module _ (size : ℕ) (w : World) (memory : Memory) (slot : ℕ) (at : List (ℕ × Puddle)) (old new : State) (ready : IsReady size w memory old) (known : known_puddles_in memory.known_pools slot ≡ Some at)
    (goal : ℕ → ℕ) (o m : ℕ) (e : ℕ × Puddle) (next : AreNextSteps at goal o m e) (c : CommitsSteps w.stored.frames at o m e None old new) where
  abbrev F : ℕ
  F = w.stored.frames

  abbrev image : Image
  image = reads old.now.words

  abbrev now : Image
  now = reads new.now.words

  abbrev t : Tables
  t = tables_of F image

  abbrev with_them : List (ℕ × Puddle)
  with_them = with_steps o m e at

  turn : puddles_in_turn t slot ≡ at
  turn = known_in_turn size w memory old ready slot at known

  member : (i : ℕ) (d : ℕ × Puddle) → slice_get at i ≡ Some d → IsMemberOf t slot i d
  member i d there = member_of_pool F slot at image turn i d there

  -- Each word of a puddle in which steps are left has one value.
  single : (i : ℕ) (d : ℕ × Puddle) → slice_get at i ≡ Some d → d.1.frontier < steps_of d.1 → (k : ℕ) → k < FRAME_WORDS → HasOnly (old.now.words (frame_at F d.0 + k)) (old.now.words (frame_at F d.0 + k)).newest
  single i d there left k below =
      let of = member i d there in
      let frame : d.0 < F = let low = of.below in omega (arith, low, frames_of_tables F image) in
      let none = unmasked_moving_frame w memory.active ready.mask old.now.words ready.active d.0 (frame_at F d.0 + k) of.member frame of.used
      (λ finished. let puddle = of.puddle in absurd (omega (arith, left, finished, ap (λ (x : Puddle). x.frontier) puddle, ap (λ (x : Puddle). class_slots x.class) puddle))) (omega arith) (omega arith) in
      subst (λ (x : Cell). HasOnly x x.newest) (masked-elsewhere ready.mask old.now.words (frame_at F d.0 + k) none) (ready.rest.each (frame_at F d.0 + k) (omega arith))

  rewritable : IsRewritable F slot at (known_graph size w memory slot at old ready known).graph old.now.words
  rewritable = record {
    idle = ready_gate size w memory old ready;
    tables = ready.tables;
    turn = turn;
    bases = (known_placed size w memory slot at old ready known).bases;
    graph = (known_graph size w memory slot at old ready known).stored;
    frames = single;
  }

  following : IsRewritable F slot with_them (known_graph size w memory slot at old ready known).graph new.now.words
  following = rewritable_after F at goal o m e old new next c slot (known_graph size w memory slot at old ready known).graph rewritable

  pub listed_then : puddles_in_turn (tables_of F now) slot ≡ with_them
  listed_then = following.turn

  -- The pool has its graph.
  pub graph_then : HasGraphIn F slot now with_them
  graph_then = record { graph = (known_graph size w memory slot at old ready known).graph; turn = following.turn; stored = following.graph }

  -- What the daemon knows about the pool holds, with the puddles as they are then.
  pub known_then : (kept : Known) → kept.puddles ≡ at → IsKnown F image kept → IsKnown F now (with_puddles with_them kept)
  known_then kept same is =
      let placed = known_placed size w memory slot at old ready known in
      let spares = batch_spares F at goal o m e old new next c (record { distinct = placed.frames; below = λ i d here. all_there (λ (x : ℕ × Puddle). x.0 < F) at i d placed.below here }) in
      IsKnown-kept F kept with_them image now (known_graph size w memory slot at old ready known).graph
      (subst (λ (ps : List (ℕ × Puddle)). graph_of (types_of image) (stored_in F ps image) ≡ Some (known_graph size w memory slot at old ready known).graph) (sym same) (known_graph size w memory slot at old ready known).stored)
      following.graph
      (subst (λ (ps : List (ℕ × Puddle)). KeepsSerials F ps with_them image now) (sym same) (record { count = spares.moved.count; classes = class_moved F at with_them image now spares.moved; each = spares.serials })) is

  -- In the tables only this frontier changes.
  pub tables_then : tables_of F now ≡ with_frontier_at e.0 m t
  tables_then = tables_stepped F at goal o m e old new next c slot (known_graph size w memory slot at old ready known).graph rewritable

  pub sound_then : HasSoundTables w.stored.next_number (tables_of F now)
  sound_then =
      let of = member o e next.here in
      subst (λ (u : Tables). HasSoundTables w.stored.next_number u) (sym tables_then)
      (sound_moved t e.0 m w.stored.next_number of.member (sound_read size w memory old ready) of.used
      (ap (λ (d : Puddle). is_legal_frontier (moved_to m d)) of.puddle ∙ le-leb m (steps_of e.1) next.last))

  -- ---- each other pool stays

  not_written : (k v : ℕ) → (k < DAEMON_LOG) ⊎ (DAEMON_LOG + LOG_WORDS ≤ k) → ((i : ℕ) (d : ℕ × Puddle) → slice_get at i ≡ Some d → frame_at F d.0 ≤ k → k < frame_at F d.0 + FRAME_WORDS → ⊥)
      → ((i : ℕ) (d : ℕ × Puddle) → slice_get at i ≡ Some d → k ≡ frontier_word d.0 → ⊥) → ByBatch DAEMON_LOG c.es k v → ⊥
  not_written k v beside frames frontiers may = elim (by_batch F goal at o m e None old new k v next c may) [
    | inl log ↦ let from = log.low in let to = log.high in elim beside [ inl under_it ↦ absurd (omega arith) | inr over ↦ absurd (omega arith) ]
    | inr r ↦ elim r.word [ inl inside ↦ frames r.ordinal r.puddle r.here inside.low inside.high | inr frontier ↦ frontiers r.ordinal r.puddle r.here frontier ]
  ]

  frontier_below : (i : ℕ) (d : ℕ × Puddle) → slice_get at i ≡ Some d → frontier_word d.0 < tables_end F
  frontier_below i d there = let below = (member i d there).below in omega (arith, below, frames_of_tables F image)

  types_then : types_of now ≡ types_of image
  types_then = types_of-same image now (λ k from to.
      reads_kept (ByBatch DAEMON_LOG c.es) old new k c.commits.changes
      (λ v may. not_written k v (inr (omega arith)) (λ i d there low high. absurd (omega arith)) (λ i d there same. absurd (omega arith)) may))

  pub graphs_then : KeepsGraphs image now
  graphs_then = record { each = λ st g is. ap (λ (ts : List (ℕ × ℕ)). graph_of ts st) types_then ∙ is }

  other_pool : (s : ℕ) → s ≢ slot → KeepsPool F s image now
  other_pool s apart = record {
    puddles = λ frame below. ap (λ (u : Tables). members u s frame) tables_then ∙ members_moved t e.0 m slot s frame (member o e next.here).member (member o e next.here).used (member o e next.here).pool apart;
    words = λ k mine.
        let own = own_word F s image k mine in
        let low = own.low in
        reads_kept (ByBatch DAEMON_LOG c.es) old new k c.commits.changes
        (λ v may. not_written k v (inr (omega arith))
        (λ i d there from to.
        apart (words_apart F s slot image k own
        (own_word F slot image k (ap (λ (ps : List (ℕ × Puddle)). pool_has_word F ps k) turn ∙ pool_has_word-from F at k (record { ordinal = i; puddle = d; there = there; low = from; high = to })))))
        (λ i d there same. let before = frontier_below i d there in absurd (omega arith)) may);
  }

  pub KeepsPools-steps : KeepsPools F (Some slot) image now
  KeepsPools-steps = KeepsPools-each F (Some slot) image now graphs_then (λ s ps apart has. other_pool s (λ same. apart (ap (λ (n : ℕ). Some n) (sym same))))
