-- The line that rewrites the pointers of a pool: why it is refused, and what its steps leave.
use Rattle.std.proofs.Common.{◌≡◌, ℕ, ◌<◌, Bool, true, false, is_some, refl, List, Option, Some, None, option_map, Result, Ok, Err, sym, ap, ap₂, subst, ◌∙◌, arith}
use Rattle.std.specs.Prelude.{min, cond, is_none, set, IfOk}
use Rattle.std.proofs.lemmas.Option.{none-some, same_Some}
use Rattle.pm_model.specs.declared.host.HostFault.{HostFault}
use Rattle.pm_model.specs.Counts.{fault_of}
use Rattle.pm_model.specs.Words.{reads}
use Rattle.pm_model.specs.Moments.{State}
use Rattle.pud_defs.specs.declared.layout.TheConstants.{DAEMON_LOG}
use Rattle.pud_defs.specs.declared.machine.Command.TheVariants.{Rewrite}
use Rattle.pud_defs.specs.declared.machine.Refusal.TheVariants as refusals
use Rattle.pud_defs.specs.declared.records.Puddle.{Puddle}
use Rattle.pud_defs.specs.declared.records.TheConstants.{POOL_RECORDS}
use Rattle.pud_defs.specs.RegistryTables.Tables.{Pool}
use Rattle.pud_defs.specs.StateMachine.PoolChanges.{pool_named}
use Rattle.pud_defs.specs.StateMachine.Step.{graph_in, refusal_of, cause_holds, after, world_by}
use Rattle.pud_defs.specs.StateMachine.World.{World}
use Rattle.pud_defs.proofs.StateMachine.Steps.{done_world}
use Rattle.batch.specs.Batches.{HasIdleGate}
use Rattle.lazy_rewrite.specs.Batches.{Rewrites}
use Rattle.lazy_rewrite.specs.Frontiers.{steps_from, left_among, frontiers_of}
use Rattle.nesting.specs.declared.Session.{Session}
use Rattle.known_pool.specs.Known.{Known, with_puddles}
use Rattle.daemon_memory.specs.PoolKnowledge.{puddles_known, known_pool_in, known_puddles_in}
use Rattle.daemon_memory.proofs.PoolsKnown.KnownOpen.{known_within}
use Rattle.daemon_memory.proofs.PoolsKnown.Known.{known_kept_there}
use Rattle.daemon_memory.proofs.PoolsKnown.KnownKept.{graph_parts}
use Rattle.daemon_memory.specs.Memory.{ActiveTransaction, Memory}
use Rattle.daemon_memory.specs.Owning.{IsRecordSlot}
use Rattle.daemon_memory.specs.Moves.{MovesTo, led_in}
use Rattle.daemon_memory.specs.Ready.{IsReady, AppliesBy}
use Rattle.daemon_memory.proofs.Commands.Applying.{AppliesBy-weaker}
use Rattle.daemon_memory.proofs.PoolChanges.Goals.{led_further}
use Rattle.pud_defs.specs.declared.machine.Reply.{Reply}
use Rattle.pud_defs.specs.Formats.Image.{Image}
use Rattle.graph_read.specs.Bases.{HasLowBases}
use Rattle.daemon_memory.specs.declared.line_answer.LineAnswer.{LineAnswer}
use Rattle.daemon_memory.specs.LineAnswers.{as_line_answer}
use Rattle.pool_lines.specs.Rewriting.{DoesSteps, DoesStepsInTurn}
use Rattle.daemon_memory.specs.Doing.{OnPool}
use Rattle.daemon_memory.proofs.Commands.Acting.{OnPool-after}
use Rattle.daemon_memory.proofs.Commands.Beneath.{ready_gate}
use Rattle.daemon_memory.proofs.PuddlesRewritten.StepsBeside.{low_of_placed, known_placed}
use Rattle.daemon_memory.proofs.PuddlesRewritten.Rewriting.{Applies-rewrites}
use Rattle.daemon_memory.proofs.PuddlesRewritten.StepsMoved.{upto}

-- ---- why it is refused

module _ (w : World) (name : List ℕ) (n : ℕ) where
  -- If no pool has the name, the line is refused for that.
  pub refused_unnamed : pool_named name w.stored ≡ None → refusal_of w (Rewrite name n) ≡ Some refusals.Pool
  unfolding refusal_of cause_holds
  refused_unnamed none = ap (λ (found : Option Pool). cond (is_none found) (Some refusals.Pool) (cond (is_none (graph_in found)) (Some refusals.Wild) None)) none

  -- The pool has a graph, or the line is refused.
  pub refused_by_graph : (pool : Pool) (lacks : Bool) → pool_named name w.stored ≡ Some pool → lacks ≡ is_none (graph_in (pool_named name w.stored))
      → refusal_of w (Rewrite name n) ≡ cond lacks (Some refusals.Wild) None
  unfolding refusal_of cause_holds
  refused_by_graph pool lacks there is = ap₂ (λ (none lacks : Bool). cond none (Some refusals.Pool) (cond lacks (Some refusals.Wild) None)) (ap is_none there) (sym is)

  -- The line leaves the world as it was.
  pub world_of_rewrite : refusal_of w (Rewrite name n) ≡ None → world_by w (Some (Rewrite name n)) ≡ w
  unfolding after
  world_of_rewrite free = done_world w (Rewrite name n) free

-- ---- its steps

-- A pool whose puddles are known is known.
pub is_there : (o : Option Known) → true ≡ is_some (option_map (λ (k : Known). k.puddles) o) → (kept : Known) × (o ≡ Some kept)
is_there None there = absurd (let no : true ≡ false = there in cc)
is_there (Some kept) there = (kept, refl)

-- At most as many steps were done as the known pool has.
pub steps_known : (result : Result ℕ HostFault) (known_pools now : List (Option Known)) (slot n : ℕ) (at : List (ℕ × Puddle)) → known_pools ≡ now → known_puddles_in known_pools slot ≡ Some at → IfOk result (λ done. done ≡ min n (left_among at))
    → IfOk result (λ done. (here : List (ℕ × Puddle)) → known_puddles_in now slot ≡ Some here → done ≡ min n (left_among here))
steps_known (Err fault) known_pools now slot n at same known counted = tt
steps_known (Ok done) known_pools now slot n at same known counted = λ here is.
    counted ∙ ap (λ (ps : List (ℕ × Puddle)). min n (left_among ps)) (same_Some at here (sym known ∙ ap (λ (js : List (Option Known)). known_puddles_in js slot) same ∙ is))

-- They are the steps of the known pool.
pub moves_known : (result : Result ℕ HostFault) (known_pools now : List (Option Known)) (slot n : ℕ) (pool later : Known) → known_pools ≡ now → known_pool_in known_pools slot ≡ Some pool → later ≡ with_puddles later.puddles pool
    → IfOk result (λ done. later.puddles ≡ steps_from n pool.puddles)
    → IfOk result (λ done. (here : Known) → known_pool_in now slot ≡ Some here → set known_pools slot (Some later) ≡ set now slot (Some (with_puddles (steps_from n here.puddles) here)))
moves_known (Err fault) known_pools now slot n pool later same known rest moved = tt
moves_known (Ok done) known_pools now slot n pool later same known rest moved = λ here is.
    let one : pool ≡ here = same_Some pool here (sym known ∙ ap (λ (js : List (Option Known)). known_pool_in js slot) same ∙ is) in
    ap₂ (λ (js : List (Option Known)) (k : Known). set js slot (Some k)) same (rest ∙ ap (λ (ps : List (ℕ × Puddle)). with_puddles ps pool) moved ∙ ap (λ (k : Known). with_puddles (steps_from n k.puddles) k) one)

-- They are done in turn, one batch after another.
pub does_steps : {T : Type 0} (F n : ℕ) (at later : List (ℕ × Puddle)) (result : Result T HostFault) (old new : State) → IfOk result (λ done. later ≡ steps_from n at)
    → Rewrites F (frontiers_of (steps_from n at)) at later (fault_of result) old new → DoesStepsInTurn F n at (fault_of result) old new
does_steps F n at later (Ok done) old new moved rewrites = record { later = later; whole = λ none. moved; rewrites = rewrites }
does_steps F n at later (Err fault) old new moved rewrites = record { later = later; whole = λ none. absurd (none-some fault (sym none)); rewrites = rewrites }

-- If the pool is not known, no steps are done.
pub moves_none : (known_pools now next : List (Option Known)) (slot n : ℕ) → known_pools ≡ now → known_pool_in known_pools slot ≡ None
    → (here : Known) → known_pool_in now slot ≡ Some here → next ≡ set now slot (Some (with_puddles (steps_from n here.puddles) here))
moves_none known_pools now next slot n same none here is = absurd (none-some here (sym none ∙ ap (λ (js : List (Option Known)). known_pool_in js slot) same ∙ is))

pub steps_none : (known_pools now : List (Option Known)) (slot n done : ℕ) → known_pools ≡ now → known_puddles_in known_pools slot ≡ None → (here : List (ℕ × Puddle)) → known_puddles_in now slot ≡ Some here → done ≡ min n (left_among here)
steps_none known_pools now slot n done same none here is = absurd (none-some here (sym none ∙ ap (λ (js : List (Option Known)). known_puddles_in js slot) same ∙ is))

-- Afterwards the pool is known with what they made of it.
pub stepped_known : (known_pools now : List (Option Known)) (slot : ℕ) (at : List (ℕ × Puddle)) (later : Known) → known_puddles_in known_pools slot ≡ Some at → now ≡ set known_pools slot (Some later) → known_puddles_in now slot ≡ Some later.puddles
stepped_known known_pools now slot at later known moves = ap (λ (js : List (Option Known)). known_puddles_in js slot) moves ∙ known_kept_there known_pools slot later (known_within known_pools slot at known)

module _ (size : ℕ) (w : World) (F : ℕ) (active : List (Option ActiveTransaction)) (sessions : List (Option Session)) (known_pools : List (Option Known)) (old : State)
    (ready : IsReady size w (record { frames = F; active = active; sessions = sessions; known_pools = known_pools }) old) (slot : ℕ) (low : slot < POOL_RECORDS) (kept : Known) (is_kept : known_pool_in known_pools slot ≡ Some kept) where
  abbrev memory : Memory
  memory = record { frames = F; active = active; sessions = sessions; known_pools = known_pools }

  abbrev at : List (ℕ × Puddle)
  at = kept.puddles

  known : known_puddles_in known_pools slot ≡ Some at
  known = ap puddles_known is_kept

  -- The daemon is ready after them.
  pub Applies-stepped : (goal : ℕ → ℕ) (later : List (ℕ × Puddle)) (fault : Option HostFault) (new : State) → (HasIdleGate DAEMON_LOG old.now.words → HasLowBases at → Rewrites F goal at later fault old new)
      → AppliesBy (MovesTo (led_in slot goal)) size w w (record { frames = F; active = active; sessions = sessions; known_pools = set known_pools slot (Some (with_puddles later kept)) }) fault old new
  Applies-stepped goal later fault new does =
      let placed = known_placed size w memory slot at old ready known in
      AppliesBy-weaker (MovesTo (led_in slot (upto goal))) (MovesTo (led_in slot goal)) (led_further slot (upto goal) goal (λ o. omega arith)) size w w (record memory { known_pools = set known_pools slot (Some (with_puddles later kept)) }) fault old new
      (Applies-rewrites size w memory slot kept later goal fault old new ready low is_kept
      (subst (λ (n : ℕ). Rewrites n goal at later fault old new) ready.frames (does (ready_gate size w memory old ready) (low_of_placed w.stored.frames at placed))))

  -- The pool's puddles are those before the steps, moved.
  pub DoesSteps-stepped : (name : List ℕ) (n : ℕ) (now : List (Option Known)) (new : State) → IsRecordSlot w.stored.frames name (reads old.now.words) slot → now ≡ set known_pools slot (Some (with_puddles (steps_from n at) kept))
      → IsReady size w (record { frames = F; active = active; sessions = sessions; known_pools = now }) new → DoesSteps w.stored.frames name n (reads old.now.words) (reads new.now.words)
  DoesSteps-stepped name n now new is moves then = record {
    slot = slot;
    is = is;
    at = at;
    before = ready.knows.known_pools.each slot at known;
    stepped = then.knows.known_pools.each slot (steps_from n at) (stepped_known known_pools now slot at (with_puddles (steps_from n at) kept) known moves);
  }

-- They are done on the pool of the name, as it is read, after calls that only read.
pub acts_stepping : (size : ℕ) (w : World) (memory : Memory) (a b d : State) → b ≡ a → IsReady size w memory a → (name : List ℕ) (n slot : ℕ) (at : List (ℕ × Puddle)) → known_puddles_in memory.known_pools slot ≡ Some at
    → IsRecordSlot w.stored.frames name (reads a.now.words) slot → (fault : Option HostFault)
    → (HasIdleGate DAEMON_LOG b.now.words → HasLowBases at → DoesStepsInTurn memory.frames n at fault b d) → OnPool w.stored.frames name (λ s ps x y. DoesStepsInTurn w.stored.frames n ps fault x y) a d
acts_stepping size w memory a b d same ready name n slot at known is fault does =
    let F = w.stored.frames in
    let turn = (graph_parts F slot (reads a.now.words) at (ready.knows.known_pools.each slot at known)).turn in
    let idle = ready_gate size w memory b (subst (IsReady size w memory) (sym same) ready) in
    OnPool-after F name (λ (s : ℕ) (ps : List (ℕ × Puddle)) (x y : State). DoesStepsInTurn F n ps fault x y) slot a b d same is
    (subst (λ (ps : List (ℕ × Puddle)). DoesStepsInTurn F n ps fault b d) (sym turn)
    (subst (λ (m : ℕ). DoesStepsInTurn m n at fault b d) ready.frames (does idle (low_of_placed F at (known_placed size w memory slot at a ready known)))))

-- If the call did the steps, so did the line that is answered.
pub steps_answered : (F : ℕ) (name : List ℕ) (n : ℕ) (old new : Image) (done : Result Reply HostFault) (result : Result LineAnswer HostFault) → result ≡ as_line_answer done
    → IfOk done (λ _. DoesSteps F name n old new) → IfOk result (λ _. DoesSteps F name n old new)
steps_answered F name n old new (Ok reply) result is does = subst (λ (r : Result LineAnswer HostFault). IfOk r (λ _. DoesSteps F name n old new)) (sym is) does
steps_answered F name n old new (Err fault) result is does = subst (λ (r : Result LineAnswer HostFault). IfOk r (λ _. DoesSteps F name n old new)) (sym is) tt
