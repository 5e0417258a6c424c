-- A batch of steps moves the frontier of its puddle towards its goal, and changes no other record.
use Rattle.std.proofs.Common.{◌≡◌, inl, inr, ℕ, ◌+◌, ◌<◌, ◌≤◌, eqb, List, Option, Some, sym, ap, subst, ◌∙◌, arith, eq-eqb, ne_eqb}
use Rattle.std.specs.Prelude.{min, option_map}
use Rattle.std.proofs.lemmas.Bool.{cases_eq, cond-true, cond-false}
use Rattle.std.proofs.lemmas.Option.{same_Some}
use Rattle.pm_model.specs.declared.host.HostFault.{HostFault}
use Rattle.pm_model.specs.Words.{reads, Picks}
use Rattle.pm_model.specs.Moments.{State}
use Rattle.pm_model.specs.Changes.{Silently}
use Rattle.pm_model.proofs.Leaves.{Leaves-weaker}
use Rattle.pud_defs.specs.declared.layout.TheConstants.{DAEMON_LOG}
use Rattle.pud_defs.specs.declared.records.Puddle.{Puddle}
use Rattle.pud_defs.specs.declared.space.TheConstants.{MAX_SLOTS}
use Rattle.pud_defs.proofs.Formats.Geometry.{few_slots}
use Rattle.pud_defs.specs.Formats.Image.{Image}
use Rattle.pud_defs.specs.RegistryTables.Puddles.{Member, member_moved, frontier_word, frontier_with_class}
use Rattle.pud_defs.specs.RegistryTables.Puts.{with_frontier_at}
use Rattle.pud_defs.specs.Logging.Replay.{overwritten, settled_by}
use Rattle.pud_defs.specs.RegistryTables.Tables.{Tables, tables_of, puddles_in_turn}
use Rattle.pud_defs.specs.StateMachine.World.{World}
use Rattle.pud_defs.proofs.RegistryTables.FrontiersMoved.{tables_of-moved}
use Rattle.pud_defs.proofs.RegistryTables.PoolMembers.{IsMemberOf}
use Rattle.pud_defs.proofs.Logging.Replay.{overwritten-there, overwritten-stays}
use Rattle.pud_defs.proofs.RegistryTables.TablesOf.{frames_of_tables}
use Rattle.batch.specs.Batches.{batch_write, IsBatched}
use Rattle.registry.proofs.Moved.{tables_picked}
use Rattle.lazy_rewrite.specs.Batches.{AreNextSteps, CommitsSteps}
use Rattle.lazy_rewrite.proofs.Stepped.{write, member_of_pool, class_of_pool, unwritten, frontier_written, frontier_fits}
use Rattle.daemon_memory.specs.PoolKnowledge.{known_puddles_in}
use Rattle.daemon_memory.specs.Memory.{Memory}
use Rattle.daemon_memory.specs.Moves.{MovesTo, LeavesPuddles, led_in}
use Rattle.daemon_memory.specs.Ready.{IsReady}
use Rattle.daemon_memory.proofs.Commands.Beneath.{ready_gate}
use Rattle.daemon_memory.proofs.PoolChanges.Goals.{led_stays, led_moved}
use Rattle.daemon_memory.proofs.PoolChanges.InTurn.{known_in_turn}

-- The goal, or the most steps that a puddle has if they are fewer.
abbrev pub upto : (ℕ → ℕ) → ℕ → ℕ
upto goal o = min (goal o) (MAX_SLOTS + 1)

module _ (size : ℕ) (w : World) (memory : Memory) (slot : ℕ) (at : List (ℕ × Puddle)) (old new : State) (ready : IsReady size w memory old) (known : known_puddles_in memory.known_pools slot ≡ Some at)
    (goal : ℕ → ℕ) (o m : ℕ) (e : ℕ × Puddle) (next : AreNextSteps at goal o m e) (fault : Option HostFault) (c : CommitsSteps w.stored.frames at o m e fault old new) where
  abbrev F : ℕ
  F = w.stored.frames

  abbrev image : Image
  image = reads old.now.words

  abbrev t : Tables
  t = tables_of F image

  turn : puddles_in_turn t slot ≡ at
  turn = known_in_turn size w memory old ready slot at known

  member : IsMemberOf t slot o e
  member = member_of_pool F slot at image turn o e next.here

  -- With the daemon log replayed, each image has the tables that are read.
  tables_before : (before : Image) → Picks old.now.words before → tables_of F (settled_by DAEMON_LOG before) ≡ t
  tables_before before picked = tables_picked F old.now.words before (ready_gate size w memory old ready) ready.tables picked

  -- With the batch written too, only the frontier is another.
  tables_batched : (before : Image) → Picks old.now.words before → tables_of F (overwritten (batch_write c.es) (settled_by DAEMON_LOG before)) ≡ with_frontier_at e.0 m t
  tables_batched before picked =
      let i = settled_by DAEMON_LOG before in
      let steps = write F slot at goal o m e image next turn in
      let below : e.0 < F = let low = member.below in omega (arith, low, frames_of_tables F image) in
      let class = class_of_pool F slot at i (ap (λ (u : Tables). puddles_in_turn u slot) (tables_before before picked) ∙ turn) o e next.here in
      ap (λ (wr : ℕ → Option ℕ). tables_of F (overwritten wr i)) c.write
      ∙ tables_of-moved F i (overwritten steps i) e.0 m below (frontier_fits F slot at goal o m e image next turn)
      (overwritten-there steps i (frontier_word e.0) (frontier_with_class m e.1.class) (frontier_written F slot at goal o m e image next turn) ∙ ap (frontier_with_class m) (sym class))
      (λ k low high other. overwritten-stays steps i k (unwritten F slot at goal o m e image next turn k (omega arith) other))
      ∙ ap (with_frontier_at e.0 m) (tables_before before picked)

  -- A record in these tables is as it was, or it moved.
  module _ (frame : ℕ) (d : Member) (used : t.puddles frame ≡ Some d) where
    moved : MovesTo (led_in slot (upto goal)) d ((with_frontier_at e.0 m t).puddles frame)
    moved = elim (cases_eq frame e.0) [
      | inr elsewhere ↦ led_stays slot (upto goal) d ((with_frontier_at e.0 m t).puddles frame) (cond-false (eqb frame e.0) (option_map (member_moved m) (t.puddles e.0)) (t.puddles frame) (ne_eqb frame e.0 elsewhere) ∙ used)
      | inl here ↦
          let one : d ≡ member.member = same_Some d member.member (sym used ∙ ap t.puddles here ∙ member.used) in
          let pool : d.pool ≡ slot + 1 = ap (λ (x : Member). x.pool) one ∙ member.pool in
          let ordinal : d.ordinal ≡ o = ap (λ (x : Member). x.ordinal) one ∙ member.ordinal_is in
          let puddle : d.puddle ≡ e.1 = ap (λ (x : Member). x.puddle) one ∙ member.puddle in
          let some = next.some in
          let last = next.last in
          let near = next.within in
          let within : m ≤ upto goal d.ordinal = subst (λ (n : ℕ). m ≤ upto goal n) (sym ordinal) (let few = few_slots e.1.class in let it : m ≤ min (goal o) (MAX_SLOTS + 1) = omega arith in it) in
          led_moved slot (upto goal) d m ((with_frontier_at e.0 m t).puddles frame) pool (omega (arith, ap (λ (x : Puddle). x.frontier) puddle)) within
          (cond-true (eqb frame e.0) (option_map (member_moved m) (t.puddles e.0)) (t.puddles frame) (eq-eqb frame e.0 here)
          ∙ ap (option_map (member_moved m)) (ap t.puddles (sym here) ∙ used))
    ]

    of_image : (i : Image) → IsBatched old.now.words DAEMON_LOG c.es i → MovesTo (led_in slot (upto goal)) d ((tables_of F (settled_by DAEMON_LOG i)).puddles frame)
    of_image i b = elim b.settled [
      | inl same ↦
          led_stays slot (upto goal) d ((tables_of F (settled_by DAEMON_LOG i)).puddles frame)
          (ap (λ (x : Image). (tables_of F x).puddles frame) same ∙ ap (λ (u : Tables). u.puddles frame) (tables_before b.before b.picked) ∙ used)
      | inr all ↦
          subst (λ (u : Tables). MovesTo (led_in slot (upto goal)) d (u.puddles frame)) (sym (ap (tables_of F) all ∙ tables_batched b.before b.picked)) moved
    ]

  pub LeavesPuddles-steps : LeavesPuddles F (MovesTo (led_in slot (upto goal))) old new
  LeavesPuddles-steps = record {
    each = λ frame d used.
        Leaves-weaker (Silently (IsBatched old.now.words DAEMON_LOG c.es)) (Silently (λ i. MovesTo (led_in slot (upto goal)) d ((tables_of F (settled_by DAEMON_LOG i)).puddles frame))) old new
        (λ bytes i is. (is.0, of_image frame d used i is.1)) c.commits.moments;
  }
