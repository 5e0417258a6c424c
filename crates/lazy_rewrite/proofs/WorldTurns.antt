-- The world during batches in turn, with words masked that the batches do not write.
use Rattle.std.proofs.Common.{◌≡◌, inl, inr, ℕ, zero, suc, ◌+◌, ◌<◌, leb, true, List, [], Option, Some, None, refl, sym, ap, ◌∙◌, subst, arith, append-nil}
use Rattle.pm_model.specs.declared.host.HostFault.{HostFault}
use Rattle.pm_model.specs.Words.{Has, Cell, values, Words, reads}
use Rattle.pm_model.specs.Moments.{State}
use Rattle.pm_model.specs.Changes.{Write, Silently}
use Rattle.pm_model.specs.Masks.{masked, masked_state, masked_image, IsOff}
use Rattle.pm_model.proofs.Changes.{Changes-said}
use Rattle.pm_model.proofs.Leaves.{Leaves-still, Leaves-then}
use Rattle.pm_model.proofs.Masks.{IsOff-none, masked-elsewhere, masked_image-elsewhere, reads-masked}
use Rattle.pud_defs.specs.declared.layout.TheConstants.{DAEMON_LOG, FRAME_WORDS}
use Rattle.pud_defs.specs.declared.records.Puddle.{Puddle}
use Rattle.pud_defs.specs.Formats.Geometry.{class_slots, class_steps, is_legal_frontier}
use Rattle.pud_defs.specs.Formats.Image.{Image}
use Rattle.pud_defs.specs.Formats.Frames.{frame_at, frame_word}
use Rattle.pud_defs.specs.RegistryTables.Puddles.{moved_to}
use Rattle.pud_defs.specs.RegistryTables.Types.{types_of}
use Rattle.pud_defs.specs.PoolGraphs.Graph.{Graph}
use Rattle.pud_defs.specs.StateMachine.World.{StoredWorld, idle_world_of}
use Rattle.graph_laws.specs.Steps.{steps_in}
use Rattle.graph_laws.proofs.RewritingSteps.StepsStored.{steps_in-same}
use Rattle.batch.specs.Batches.{HasIdleGate, ByBatch}
use Rattle.batch.specs.Worlds.{IsQuiescent}
use Rattle.batch.proofs.Masked.{Commits-masked}
use Rattle.lazy_rewrite.specs.Batches.{ByRewriting, AreNextSteps, CommitsSteps, RewritesOnce, RewritesInTurn, Rewrites}
use Rattle.lazy_rewrite.specs.Graphs.{IsOffTypes, MayStop, MayRewrite, IsRewritableIn, KeepsWorld}
use Rattle.lazy_rewrite.proofs.Turns.{ComesFrom, ComesFrom-steps, ByRewriting-from, by_batch, turns_come, turns_change, turns_idle}
use Rattle.lazy_rewrite.proofs.Stepped.{types_of-same}
use Rattle.lazy_rewrite.proofs.Worlds.{batch_keeps_world, rewritable_in_after}

-- ---- batches in turn

module _ (size : ℕ) (s : StoredWorld) (slot : ℕ) (goal : ℕ → ℕ) (g : Graph) where
  -- If frontiers may stop after some steps, they may stop after more steps.
  MayStop-from : (at later : List (ℕ × Puddle)) → ComesFrom at later → MayStop at goal → MayStop later goal
  MayStop-from at later comes stop = record {
    each = λ o m d there more within last.
        let from = comes.each o d there in
        ap (λ (c : ℕ). leb m (class_steps c)) (sym from.class) ∙ stop.each o m from.puddle from.here (omega (arith, from.frontier, more)) within (omega (arith, last, ap class_slots from.class));
  }

  legal_next : (at : List (ℕ × Puddle)) (o m : ℕ) (e : ℕ × Puddle) → AreNextSteps at goal o m e → MayStop at goal → is_legal_frontier (moved_to m e.1) ≡ true
  legal_next at o m e next stop = stop.each o m e next.here next.some next.within next.last

  once_world : (at later : List (ℕ × Puddle)) (fault : Option HostFault) (old new : State) → RewritesOnce s.frames goal at later fault old new → IsRewritableIn size s slot at g old.now.words → MayStop at goal → KeepsWorld size s fault old new
  once_world at later fault old new one r stop = elim one.does [
    | inl still ↦ record {
      moments = Leaves-still (Silently (λ image. idle_world_of size image ≡ Some s)) old new (λ image picked. (refl, r.settled.stands image picked)) still.0;
      settled = λ none. absurd (still.1.0 none);
    }
    | inr c ↦ batch_keeps_world size s slot at goal g one.ordinal one.to one.puddle fault old new one.next c r (legal_next at one.ordinal one.to one.puddle one.next stop)
  ]

  once_rewritable_in : (at later : List (ℕ × Puddle)) (old new : State) → RewritesOnce s.frames goal at later None old new → IsRewritableIn size s slot at g old.now.words → MayStop at goal → IsRewritableIn size s slot later g new.now.words
  once_rewritable_in at later old new one r stop = elim one.does [
    | inl still ↦ absurd (still.1.0 refl)
    | inr c ↦ subst (λ (ds : List (ℕ × Puddle)). IsRewritableIn size s slot ds g new.now.words) (sym one.pool)
        (rewritable_in_after size s slot at goal g one.ordinal one.to one.puddle old new one.next c r (legal_next at one.ordinal one.to one.puddle one.next stop) (ComesFrom-steps at goal one.ordinal one.to one.puddle one.next))
  ]

  turns_rewritable_in : (batches : ℕ) (at later : List (ℕ × Puddle)) (old new : State) → RewritesInTurn s.frames goal batches at later None old new → IsRewritableIn size s slot at g old.now.words → MayStop at goal
      → IsRewritableIn size s slot later g new.now.words
  turns_rewritable_in zero at later old new turns r stop =
      subst (λ (ds : List (ℕ × Puddle)). IsRewritableIn size s slot ds g new.now.words) (sym turns.0) (subst (λ (x : State). IsRewritableIn size s slot at g x.now.words) (sym turns.1.1) r)
  turns_rewritable_in (suc batches) at later old new turns r stop =
      once_rewritable_in turns.1.0 later turns.0 new turns.1.1.1 (turns_rewritable_in batches at turns.1.0 old turns.0 turns.1.1.0 r stop)
      (MayStop-from at turns.1.0 (turns_come s.frames goal batches at turns.1.0 None old turns.0 turns.1.1.0) stop)

  turns_world : (batches : ℕ) (at later : List (ℕ × Puddle)) (fault : Option HostFault) (old new : State) → RewritesInTurn s.frames goal batches at later fault old new → IsRewritableIn size s slot at g old.now.words → MayStop at goal
      → KeepsWorld size s fault old new
  turns_world zero at later fault old new turns r stop = record {
    moments = Leaves-still (Silently (λ image. idle_world_of size image ≡ Some s)) old new (λ image picked. (refl, r.settled.stands image picked)) turns.1.1;
    settled = λ none. subst (λ (x : State). IsQuiescent size s x.now.words) (sym turns.1.1) r.settled;
  }
  turns_world (suc batches) at later fault old new turns r stop =
      let mid = turns.0 in
      let between = turns.1.0 in
      let front = turns.1.1.0 in
      let P = Silently (λ (image : Image). idle_world_of size image ≡ Some s) in
      let quiet = Changes-said (ByRewriting s.frames at goal) None old mid (turns_change s.frames goal batches at between None old mid front) ∙ sym (append-nil old.now.said) in
      let last = once_world between later fault mid new turns.1.1.1 (turns_rewritable_in batches at between old mid front r stop) (MayStop-from at between (turns_come s.frames goal batches at between None old mid front) stop) in
      record {
        moments = Leaves-then P P P [] old mid new quiet (λ bytes image p. p) (λ bytes image p. p) (turns_world batches at between None old mid front r stop).moments last.moments;
        settled = last.settled;
      }

-- ---- with words masked

module _ (F : ℕ) (goal : ℕ → ℕ) (mask : Write) (types : IsOffTypes mask) where
  types_masked : (image : Image) → types_of (masked_image mask image) ≡ types_of image
  types_masked image = types_of-same image (masked_image mask image) (λ k low high. masked_image-elsewhere mask image k (types.each k low high))

  module _ (at : List (ℕ × Puddle)) (off : IsOff mask (ByRewriting F at goal)) where
    off_log : mask DAEMON_LOG ≡ None
    off_log = IsOff-none mask (ByRewriting F at goal) DAEMON_LOG 0 off (inl (record { low = omega arith; high = omega arith }))

    pub idle_unmasked : (words : Words) → HasIdleGate DAEMON_LOG (masked mask words) → HasIdleGate DAEMON_LOG words
    idle_unmasked words idle = record { each = λ v has. idle.each v (subst (λ (c : Cell). Has (values c) v) (sym (masked-elsewhere mask words DAEMON_LOG off_log)) has) }

    pub steps_masked : (o m : ℕ) (e : ℕ × Puddle) (fault : Option HostFault) (old new : State) → AreNextSteps at goal o m e → HasIdleGate DAEMON_LOG old.now.words → CommitsSteps F at o m e fault old new
        → CommitsSteps F at o m e fault (masked_state mask old) (masked_state mask new)
    steps_masked o m e fault old new next idle c =
        let image = reads old.now.words in
        let apart : IsOff mask (ByBatch DAEMON_LOG c.es) = record { apart = λ k x v is may. off.apart k x v is (by_batch F goal at o m e fault old new k v next c may) } in
        let frame : (k : ℕ) → k < FRAME_WORDS → frame_word F e.0 k (masked_image mask image) ≡ frame_word F e.0 k image =
        λ k low. masked_image-elsewhere mask image (frame_at F e.0 + k)
        (IsOff-none mask (ByRewriting F at goal) (frame_at F e.0 + k) 0 off (inr (record { ordinal = o; puddle = e; here = next.here; moves = omega (arith, next.some, next.within); word = inl (record { low = omega arith; high = omega arith }) }))) in
        record {
          es = c.es;
          batched = c.batched;
          few = c.few;
          allowed = c.allowed;
          write =
              c.write
              ∙ sym (steps_in-same F (types_of image) at image (masked_image mask image) o m e next.here frame)
              ∙ ap (λ ts. steps_in F ts at (masked_image mask image) o m e) (sym (types_masked image))
              ∙ ap (λ (i : Image). steps_in F (types_of i) at i o m e) (sym (reads-masked mask old.now.words));
          commits = Commits-masked mask DAEMON_LOG c.es apart fault old new c.batched idle.each c.commits;
        }

    once_masked : (later : List (ℕ × Puddle)) (fault : Option HostFault) (old new : State) → HasIdleGate DAEMON_LOG old.now.words → RewritesOnce F goal at later fault old new
        → RewritesOnce F goal at later fault (masked_state mask old) (masked_state mask new)
    once_masked later fault old new idle one = record {
      ordinal = one.ordinal;
      to = one.to;
      puddle = one.puddle;
      next = one.next;
      pool = one.pool;
      does = elim one.does [
        | inl still ↦ inl (ap (masked_state mask) still.0, still.1)
        | inr c ↦ inr (steps_masked one.ordinal one.to one.puddle fault old new one.next idle c)
      ];
    }

  turns_masked : (batches : ℕ) (at later : List (ℕ × Puddle)) (fault : Option HostFault) (old new : State) → IsOff mask (ByRewriting F at goal) → HasIdleGate DAEMON_LOG old.now.words
      → RewritesInTurn F goal batches at later fault old new → RewritesInTurn F goal batches at later fault (masked_state mask old) (masked_state mask new)
  turns_masked zero at later fault old new off idle turns = (turns.0, (turns.1.0, ap (masked_state mask) turns.1.1))
  turns_masked (suc batches) at later fault old new off idle turns =
      let mid = turns.0 in
      let between = turns.1.0 in
      let front = turns.1.1.0 in
      let comes = turns_come F goal batches at between None old mid front in
      let off_later : IsOff mask (ByRewriting F between goal) =
      record { apart = λ k x v is may. off.apart k x v is (ByRewriting-from F goal at between k v comes may) } in
      (masked_state mask mid, (between, (turns_masked batches at between None old mid off idle front, once_masked between off_later later fault mid new (turns_idle F goal batches at between old mid front idle) turns.1.1.1)))

-- The world stays, with words masked that the steps do not write.
pub Rewrites-world : (size : ℕ) (s : StoredWorld) (slot : ℕ) (at later : List (ℕ × Puddle)) (goal : ℕ → ℕ) (g : Graph) (mask : Write) (fault : Option HostFault) (old new : State)
    → (HasIdleGate DAEMON_LOG old.now.words → Rewrites s.frames goal at later fault old new) → MayRewrite size s slot at goal g mask old.now.words → KeepsWorld size s fault (masked_state mask old) (masked_state mask new)
Rewrites-world size s slot at later goal g mask fault old new does may =
    let idle = idle_unmasked s.frames goal mask may.types at may.off old.now.words may.pool.pool.idle in
    let r = does idle in
    turns_world size s slot goal g r.batches at later fault (masked_state mask old) (masked_state mask new) (turns_masked s.frames goal mask may.types r.batches at later fault old new may.off idle r.in_turn) may.pool may.stop
