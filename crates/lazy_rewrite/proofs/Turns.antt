-- Batches in turn: what they write, and how they are joined.
use Rattle.std.proofs.Common.{◌≡◌, inl, inr, ℕ, zero, suc, ◌+◌, ◌<◌, ◌≤◌, List, map, Option, Some, None, refl, sym, ap, ◌∙◌, subst, ⊎_elim, arith}
use Rattle.std.specs.Prelude.{slice_get}
use Rattle.std.proofs.lemmas.Bool.{cases_eq, cases_lt}
use Rattle.std.proofs.lemmas.Option.{none-some, same_Some, slice_get_within}
use Rattle.pm_model.specs.declared.host.HostFault.{HostFault}
use Rattle.pm_model.specs.declared.host.HostFault.TheVariants.{Cut}
use Rattle.pm_model.specs.Words.{reads}
use Rattle.pm_model.specs.Moments.{State}
use Rattle.pm_model.specs.Changes.{Changes}
use Rattle.pm_model.proofs.Changes.{Changes-still, Changes-then, Changes-wider}
use Rattle.pud_defs.specs.declared.layout.TheConstants.{DAEMON_LOG, FRAME_WORDS}
use Rattle.pud_defs.specs.declared.records.Puddle.{Puddle}
use Rattle.pud_defs.specs.Formats.Frames.{frame_at}
use Rattle.pud_defs.specs.Logging.Entries.{is_idle_gate}
use Rattle.pud_defs.specs.RegistryTables.Puddles.{moved_to, frontier_word}
use Rattle.pud_defs.specs.RegistryTables.Types.{types_of}
use Rattle.pud_defs.specs.PoolGraphs.Stored.{stored_in}
use Rattle.graph_laws.specs.Steps.{steps_write, with_steps}
use Rattle.graph_laws.proofs.RewritingSteps.Rewritten.{slice_get-set_there, slice_get-set_other}
use Rattle.graph_laws.proofs.RewritingSteps.StepsStored.{write-other}
use Rattle.batch.specs.Batches.{batch_write, HasIdleGate, ByBatch}
use Rattle.lazy_rewrite.specs.Batches.{IsStepsWord, IsRewritten, ByRewriting, AreNextSteps, CommitsSteps, pool_after, RewritesOnce, RewritesInTurn, Rewrites}

-- ---- puddles that come from others

-- The puddle was there before, in the same frame and of the same class, with a frontier that is not greater.
pub record HasOriginIn (at : List (ℕ × Puddle)) (o : ℕ) (d : ℕ × Puddle) : Type 0 where
  pub puddle : ℕ × Puddle
  pub here : slice_get at o ≡ Some puddle
  pub frame : puddle.0 ≡ d.0
  pub class : puddle.1.class ≡ d.1.class
  pub frontier : puddle.1.frontier ≤ d.1.frontier

-- Each of the puddles was there before.
pub record ComesFrom (at later : List (ℕ × Puddle)) : Type 0 where
  pub each : (o : ℕ) (d : ℕ × Puddle) → slice_get later o ≡ Some d → HasOriginIn at o d

pub ComesFrom-same : (at : List (ℕ × Puddle)) → ComesFrom at at
ComesFrom-same at = record { each = λ o d here. record { puddle = d; here = here; frame = refl; class = refl; frontier = omega arith } }

ComesFrom-then : (a b c : List (ℕ × Puddle)) → ComesFrom a b → ComesFrom b c → ComesFrom a c
ComesFrom-then a b c first later = record {
  each = λ o d here.
      let y = later.each o d here in
      let x = first.each o y.puddle y.here in
      record { puddle = x.puddle; here = x.here; frame = x.frame ∙ y.frame; class = x.class ∙ y.class; frontier = omega (arith, x.frontier, y.frontier) };
}

pub ComesFrom-steps : (at : List (ℕ × Puddle)) (goal : ℕ → ℕ) (o m : ℕ) (e : ℕ × Puddle) → AreNextSteps at goal o m e → ComesFrom at (with_steps o m e at)
ComesFrom-steps at goal o m e next = record {
  each = λ i d there. ⊎_elim
      (λ same.
      let now : ℕ × Puddle = (e.0, moved_to m e.1) in
      let is : d ≡ now = same_Some d now (sym there ∙ ap (slice_get (with_steps o m e at)) same ∙ slice_get-set_there at o now (slice_get_within at o e next.here)) in
      record { puddle = e; here = ap (slice_get at) same ∙ next.here; frame = sym (ap (λ (x : ℕ × Puddle). x.0) is); class = sym (ap (λ (x : ℕ × Puddle). x.1.class) is); frontier = omega (arith, next.some, ap (λ (x : ℕ × Puddle). x.1.frontier) is) })
      (λ other. record { puddle = d; here = sym (slice_get-set_other at o i (e.0, moved_to m e.1) other) ∙ there; frame = refl; class = refl; frontier = omega arith })
      (cases_eq i o);
}

comes_after : (fault : Option HostFault) (at later now : List (ℕ × Puddle)) → ComesFrom at later → now ≡ pool_after fault later at → ComesFrom at now
comes_after None at later now comes is = subst (λ (ds : List (ℕ × Puddle)). ComesFrom at ds) (sym is) comes
comes_after (Some fault) at later now comes is = subst (λ (ds : List (ℕ × Puddle)). ComesFrom at ds) (sym is) (ComesFrom-same at)

module _ (F : ℕ) (goal : ℕ → ℕ) where
  pub once_comes : (at later : List (ℕ × Puddle)) (fault : Option HostFault) (old new : State) → RewritesOnce F goal at later fault old new → ComesFrom at later
  once_comes at later fault old new one = comes_after fault at (with_steps one.ordinal one.to one.puddle at) later (ComesFrom-steps at goal one.ordinal one.to one.puddle one.next) one.pool

  pub turns_come : (batches : ℕ) (at later : List (ℕ × Puddle)) (fault : Option HostFault) (old new : State) → RewritesInTurn F goal batches at later fault old new → ComesFrom at later
  turns_come zero at later fault old new turns = subst (λ (ds : List (ℕ × Puddle)). ComesFrom at ds) (sym turns.0) (ComesFrom-same at)
  turns_come (suc batches) at later fault old new turns =
      let mid = turns.0 in
      let between = turns.1.0 in
      ComesFrom-then at between later (turns_come batches at between None old mid turns.1.1.0) (once_comes between later fault mid new turns.1.1.1)

  -- ---- the words

  -- A word of a later batch is a word of the whole.
  pub IsRewritten-from : (at later : List (ℕ × Puddle)) (k : ℕ) → ComesFrom at later → IsRewritten F later goal k → IsRewritten F at goal k
  IsRewritten-from at later k comes w =
      let from = comes.each w.ordinal w.puddle w.here in
      record {
        ordinal = w.ordinal;
        puddle = from.puddle;
        here = from.here;
        moves = omega (arith, from.frontier, w.moves);
        word = subst (λ (frame : ℕ). IsStepsWord F frame k) (sym from.frame) w.word;
      }

  pub ByRewriting-from : (at later : List (ℕ × Puddle)) (k v : ℕ) → ComesFrom at later → ByRewriting F later goal k v → ByRewriting F at goal k v
  ByRewriting-from at later k v comes (inl log) = inl log
  ByRewriting-from at later k v comes (inr w) = inr (IsRewritten-from at later k comes w)

  -- What one batch writes.
  written_word : (types : List (ℕ × ℕ)) (puddles : List Puddle) (word : ℕ → ℕ) (at : List (ℕ × Puddle)) (o m : ℕ) (e : ℕ × Puddle) (k v : ℕ) → AreNextSteps at goal o m e
      → steps_write F types puddles word o m e k ≡ Some v → IsRewritten F at goal k
  written_word types puddles word at o m e k v next is =
      let by : IsStepsWord F e.0 k → IsRewritten F at goal k = λ w. record { ordinal = o; puddle = e; here = next.here; moves = omega (arith, next.some, next.within); word = w } in
      let none = λ (out : frame_at F e.0 ≤ k → k < frame_at F e.0 + FRAME_WORDS → ⊥) (other : k ≡ frontier_word e.0 → ⊥). none-some v (sym (write-other F types puddles word o m e k out other) ∙ is) in
      ⊎_elim
      (λ frontier. by (inr frontier))
      (λ other. ⊎_elim
      (λ before. absurd (none (λ from end. absurd (omega arith)) other))
      (λ from. ⊎_elim
      (λ inside. by (inl (record { low = from; high = inside })))
      (λ following. absurd (none (λ low end. absurd (omega arith)) other))
      (cases_lt k (frame_at F e.0 + FRAME_WORDS)))
      (cases_lt k (frame_at F e.0)))
      (cases_eq k (frontier_word e.0))

  pub steps_named : (at : List (ℕ × Puddle)) (o m : ℕ) (e : ℕ × Puddle) (fault : Option HostFault) (old new : State) (k v : ℕ) → AreNextSteps at goal o m e → (c : CommitsSteps F at o m e fault old new) → batch_write c.es k ≡ Some v → IsRewritten F at goal k
  steps_named at o m e fault old new k v next c is =
      written_word (types_of (reads old.now.words)) (map (λ d. d.1) at) ((stored_in F at (reads old.now.words)).word o) at o m e k v next (sym (ap (λ (write : ℕ → Option ℕ). write k) c.write) ∙ is)

  pub by_batch : (at : List (ℕ × Puddle)) (o m : ℕ) (e : ℕ × Puddle) (fault : Option HostFault) (old new : State) (k v : ℕ) → AreNextSteps at goal o m e → (c : CommitsSteps F at o m e fault old new) → ByBatch DAEMON_LOG c.es k v → ByRewriting F at goal k v
  by_batch at o m e fault old new k v next c (inl log) = inl log
  by_batch at o m e fault old new k v next c (inr named) = inr (steps_named at o m e fault old new k named.value next c named.is)

  pub once_changes : (at later : List (ℕ × Puddle)) (fault : Option HostFault) (old new : State) → RewritesOnce F goal at later fault old new → Changes (ByRewriting F at goal) fault old new
  once_changes at later fault old new one = elim one.does [
    | inl still ↦ Changes-still (ByRewriting F at goal) fault old new still.1.1 still.0
    | inr c ↦ Changes-wider (ByBatch DAEMON_LOG c.es) (ByRewriting F at goal) fault old new (λ k v may. by_batch at one.ordinal one.to one.puddle fault old new k v one.next c may) c.commits.changes
  ]

  pub turns_change : (batches : ℕ) (at later : List (ℕ × Puddle)) (fault : Option HostFault) (old new : State) → RewritesInTurn F goal batches at later fault old new → Changes (ByRewriting F at goal) fault old new
  turns_change zero at later fault old new turns =
      Changes-still (ByRewriting F at goal) fault old new (λ cut. let no : None ≡ Some Cut = sym turns.1.0 ∙ cut in cc) turns.1.1
  turns_change (suc batches) at later fault old new turns =
      let mid = turns.0 in
      let between = turns.1.0 in
      let comes = turns_come batches at between None old mid turns.1.1.0 in
      Changes-then (ByRewriting F at goal) fault old mid new (turns_change batches at between None old mid turns.1.1.0)
      (Changes-wider (ByRewriting F between goal) (ByRewriting F at goal) fault mid new (λ k v may. ByRewriting-from at between k v comes may) (once_changes between later fault mid new turns.1.1.1))

  -- ---- the daemon log

  pub once_idle : (at later : List (ℕ × Puddle)) (old new : State) → RewritesOnce F goal at later None old new → HasIdleGate DAEMON_LOG new.now.words
  once_idle at later old new one = elim one.does [
    | inl still ↦ absurd (still.1.0 refl)
    | inr c ↦ record { each = λ v has. ap is_idle_gate ((c.commits.closed refl).each v has) }
  ]

  pub turns_idle : (batches : ℕ) (at later : List (ℕ × Puddle)) (old new : State) → RewritesInTurn F goal batches at later None old new → HasIdleGate DAEMON_LOG old.now.words → HasIdleGate DAEMON_LOG new.now.words
  turns_idle zero at later old new turns idle = subst (λ (s : State). HasIdleGate DAEMON_LOG s.now.words) (sym turns.1.1) idle
  turns_idle (suc batches) at later old new turns idle = once_idle turns.1.0 later turns.0 new turns.1.1.1

  -- ---- turns joined

  turns_end : (batches : ℕ) (a b c : List (ℕ × Puddle)) (fault : Option HostFault) (s t u : State) → RewritesInTurn F goal batches a b None s t → c ≡ b → fault ≡ None → u ≡ t → RewritesInTurn F goal batches a c fault s u
  turns_end batches a b c fault s t u turns same none still =
      subst (λ (x : List (ℕ × Puddle)). RewritesInTurn F goal batches a x fault s u) (sym same)
      (subst (λ (f : Option HostFault). RewritesInTurn F goal batches a b f s u) (sym none)
      (subst (λ (x : State). RewritesInTurn F goal batches a b None s x) (sym still) turns))

  turns_then : (more batches : ℕ) (a b c : List (ℕ × Puddle)) (fault : Option HostFault) (s t u : State) → RewritesInTurn F goal batches a b None s t → RewritesInTurn F goal more b c fault t u → Rewrites F goal a c fault s u
  turns_then zero batches a b c fault s t u first later = record { batches = batches; in_turn = turns_end batches a b c fault s t u first later.0 later.1.0 later.1.1 }
  turns_then (suc more) batches a b c fault s t u first later =
      let front = turns_then more batches a b later.1.0 None s t later.0 first later.1.1.0 in
      record { batches = suc front.batches; in_turn = (later.0, (later.1.0, (front.in_turn, later.1.1.1))) }

  pub Rewrites-none : (at later : List (ℕ × Puddle)) (s : State) → later ≡ at → Rewrites F goal at later None s s
  Rewrites-none at later s same = record { batches = zero; in_turn = (same, (refl, refl)) }

  pub Rewrites-then : (a b c : List (ℕ × Puddle)) (fault : Option HostFault) (s t u : State) → Rewrites F goal a b None s t → Rewrites F goal b c fault t u → Rewrites F goal a c fault s u
  Rewrites-then a b c fault s t u first later = turns_then later.batches first.batches a b c fault s t u first.in_turn later.in_turn

  pub Rewrites-more : (a b c : List (ℕ × Puddle)) (fault : Option HostFault) (s t u : State) → Rewrites F goal a b None s t → RewritesOnce F goal b c fault t u → Rewrites F goal a c fault s u
  Rewrites-more a b c fault s t u first one = record { batches = suc first.batches; in_turn = (t, (b, (first.in_turn, one))) }

  pub Rewrites-idle : (at later : List (ℕ × Puddle)) (old new : State) → Rewrites F goal at later None old new → HasIdleGate DAEMON_LOG old.now.words → HasIdleGate DAEMON_LOG new.now.words
  Rewrites-idle at later old new r idle = turns_idle r.batches at later old new r.in_turn idle

  pub Rewrites-changes : (at later : List (ℕ × Puddle)) (fault : Option HostFault) (old new : State) → Rewrites F goal at later fault old new → Changes (ByRewriting F at goal) fault old new
  Rewrites-changes at later fault old new r = turns_change r.batches at later fault old new r.in_turn

-- ---- a goal that is further away

-- The goal `far` is not nearer than `near`, and each puddle of a lower ordinal than one that moves has already reached
-- it.
pub record IsFurther (near far : ℕ → ℕ) (at : List (ℕ × Puddle)) : Type 0 where
  pub further : (o : ℕ) → near o ≤ far o
  pub before : (o q : ℕ) (d : ℕ × Puddle) → 0 < near o → q < o → slice_get at q ≡ Some d → far q ≤ d.1.frontier

-- This still holds after frontiers have moved.
IsFurther-after : (near far : ℕ → ℕ) (at later : List (ℕ × Puddle)) → ComesFrom at later → IsFurther near far at → IsFurther near far later
IsFurther-after near far at later comes is = record {
  further = is.further;
  before = λ o q d moves below here.
      let from = comes.each q d here in
      omega (arith, is.before o q from.puddle moves below from.here, from.frontier);
}

module _ (F : ℕ) (near far : ℕ → ℕ) where
  once_further : (at later : List (ℕ × Puddle)) (fault : Option HostFault) (old new : State) → IsFurther near far at → RewritesOnce F near at later fault old new → RewritesOnce F far at later fault old new
  once_further at later fault old new is one = record {
    ordinal = one.ordinal;
    to = one.to;
    puddle = one.puddle;
    next = record {
      here = one.next.here;
      some = one.next.some;
      few = one.next.few;
      within = omega (arith, one.next.within, is.further one.ordinal);
      last = one.next.last;
      before = λ q d below here. inl (is.before one.ordinal q d (omega (arith, one.next.some, one.next.within)) below here);
    };
    pool = one.pool;
    does = one.does;
  }

  turns_further : (batches : ℕ) (at later : List (ℕ × Puddle)) (fault : Option HostFault) (old new : State) → IsFurther near far at → RewritesInTurn F near batches at later fault old new → RewritesInTurn F far batches at later fault old new
  turns_further zero at later fault old new is turns = turns
  turns_further (suc batches) at later fault old new is turns =
      let between = turns.1.0 in
      let comes = turns_come F near batches at between None old turns.0 turns.1.1.0 in
      (turns.0, (between, (turns_further batches at between None old turns.0 is turns.1.1.0, once_further between later fault turns.0 new (IsFurther-after near far at between comes is) turns.1.1.1)))

  pub Rewrites-further : (at later : List (ℕ × Puddle)) (fault : Option HostFault) (old new : State) → IsFurther near far at → Rewrites F near at later fault old new → Rewrites F far at later fault old new
  Rewrites-further at later fault old new is r = record { batches = r.batches; in_turn = turns_further r.batches at later fault old new is r.in_turn }
