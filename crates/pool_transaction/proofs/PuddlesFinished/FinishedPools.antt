-- A pool whose puddles are rewritten to their ends: where its slots stand, which of its puddles are finished, and that
-- nothing happens if all are.
use Rattle.std.proofs.Common.{◌≡◌, inl, inr, ℕ, zero, suc, ◌+◌, ◌≤◌, Bool, true, false, cond, ◌==◌, List, length, get_or, Option, Some, None, option_map, refl, sym, ap, ◌∙◌, subst, arith}
use Rattle.std.specs.Prelude.{slice_get}
use Rattle.std.proofs.lemmas.Bool.{cases_eq, cases_lt}
use Rattle.std.proofs.lemmas.List.{length-set}
use Rattle.std.proofs.lemmas.Option.{none-some, same_Some, slice_get_within, slice_get_past, slice_get-map, slice_get-get_or}
use Rattle.pm_model.specs.declared.host.HostFault.{HostFault}
use Rattle.pm_model.specs.Moments.{State}
use Rattle.pud_defs.specs.declared.layout.TheConstants.{DAEMON_LOG}
use Rattle.pud_defs.specs.declared.records.Puddle.{Puddle}
use Rattle.pud_defs.specs.declared.records.Slot.{Slot}
use Rattle.pud_defs.specs.Formats.Geometry.{steps_of, IsFinished}
use Rattle.pud_defs.specs.RegistryTables.Puddles.{moved_to}
use Rattle.graph_laws.proofs.RewritingSteps.Rewritten.{slice_get-set_there, slice_get-set_other}
use Rattle.pud_defs.specs.PoolGraphs.Stored.{class_of}
use Rattle.puddle_header.specs.Places.{IsSlotOf}
use Rattle.graph_read.proofs.Pointed.{no_puddle}
use Rattle.graph_read.specs.Bases.{HasLowBases}
use Rattle.batch.specs.Batches.{HasIdleGate}
use Rattle.lazy_rewrite.specs.Frontiers.{steps_left, moved_at, finished_at, frontier_in, frontiers_of, frontier_at}
use Rattle.lazy_rewrite.specs.Batches.{RewritesInTurn, Rewrites}
use Rattle.lazy_rewrite.proofs.Moved.{with_steps-none, frontier_at-other, low_bases-steps}
use Rattle.lazy_rewrite.proofs.Spared.{HaveMoved, HaveMoved-same, HaveMoved-then}
use Rattle.lazy_rewrite.proofs.Turns.{IsFurther, Rewrites-further, Rewrites-then, Rewrites-idle}
use Rattle.hybrid_tx.specs.PoolScopes.{IsRewrittenAt}
use Rattle.pool_transaction.specs.Changing.{both_finished}
use Rattle.graph_read.specs.Reading.{class_in}

-- Each frontier is at most at the end of its puddle.
pub record HasLegalFrontiers (at : List (ℕ × Puddle)) : Type 0 where
  pub each : (o : ℕ) (e : ℕ × Puddle) → slice_get at o ≡ Some e → e.1.frontier ≤ steps_of e.1

-- ---- classes

class_by : (at later : List (ℕ × Puddle)) (o : ℕ) (d : Option (ℕ × Puddle)) → HaveMoved at later → slice_get at o ≡ d → class_of (option_map (λ (e : ℕ × Puddle). e.1) (slice_get later o)) ≡ class_of (option_map (λ (e : ℕ × Puddle). e.1) d)
class_by at later o None moved there = elim (cases_lt o (length at)) [
  | inl within ↦ absurd (none-some (get_or at o no_puddle) (sym there ∙ slice_get-get_or at o no_puddle within))
  | inr past ↦ let count = moved.count in ap (λ (d : Option (ℕ × Puddle)). class_of (option_map (λ (e : ℕ × Puddle). e.1) d)) (slice_get_past later o (omega (arith, past, count)))
]
class_by at later o (Some e) moved there = ap (λ (d : Option (ℕ × Puddle)). class_of (option_map (λ (e : ℕ × Puddle). e.1) d)) (moved.each o e there).there

-- Each puddle keeps its class when frontiers move.
pub class_after : (at later : List (ℕ × Puddle)) → HaveMoved at later → (o : ℕ) → class_in later o ≡ class_in at o
class_after at later moved o =
    ap class_of (slice_get-map (λ (e : ℕ × Puddle). e.1) later o)
    ∙ class_by at later o (slice_get at o) moved refl
    ∙ sym (ap class_of (slice_get-map (λ (e : ℕ × Puddle). e.1) at o))

-- ---- one puddle

module _ (at : List (ℕ × Puddle)) (o : ℕ) where
  -- The pool afterwards, by what is found under the ordinal.
  abbrev then : Option (ℕ × Puddle) → List (ℕ × Puddle)
  then found = moved_at o (λ d. d.frontier + steps_left d) found at

  -- Another puddle stays, and this one is at its end.
  there_then : (e : ℕ × Puddle) → slice_get at o ≡ Some e → slice_get (then (Some e)) o ≡ Some (e.0, moved_to (e.1.frontier + steps_left e.1) e.1)
  there_then e here = slice_get-set_there at o (e.0, moved_to (e.1.frontier + steps_left e.1) e.1) (slice_get_within at o e here)

  moved_by : (found : Option (ℕ × Puddle)) → slice_get at o ≡ found → HaveMoved at (then found)
  moved_by None here = HaveMoved-same at
  moved_by (Some e) here = record {
    count = length-set at o (e.0, moved_to (e.1.frontier + steps_left e.1) e.1);
    each = λ i d there. elim (cases_eq i o) [
      | inl same ↦
          let is : d ≡ e = same_Some d e (sym there ∙ ap (slice_get at) same ∙ here) in
          record {
            frontier = d.1.frontier + steps_left d.1;
            there = ap (slice_get (then (Some e))) same ∙ there_then e here ∙ ap (λ (x : ℕ × Puddle). Some (x.0, moved_to (x.1.frontier + steps_left x.1) x.1)) (sym is);
            no_lower = omega arith;
          }
      | inr other ↦ record { frontier = d.1.frontier; there = slice_get-set_other at o i (e.0, moved_to (e.1.frontier + steps_left e.1) e.1) other ∙ there; no_lower = omega arith }
    ];
  }

  pub HaveMoved-finished : HaveMoved at (finished_at o at)
  HaveMoved-finished = moved_by (slice_get at o) refl

  other_by : (found : Option (ℕ × Puddle)) (i : ℕ) → (i ≡ o → ⊥) → slice_get (then found) i ≡ slice_get at i
  other_by None i apart = refl
  other_by (Some e) i apart = slice_get-set_other at o i (e.0, moved_to (e.1.frontier + steps_left e.1) e.1) apart

  -- The other puddles stay.
  pub finished-other : (i : ℕ) → (i ≡ o → ⊥) → slice_get (finished_at o at) i ≡ slice_get at i
  finished-other = other_by (slice_get at o)

  low_by : (F : ℕ) → HasLowBases at → (found : Option (ℕ × Puddle)) → slice_get at o ≡ found → HasLowBases (then found)
  low_by F low None here = low
  low_by F low (Some e) here = low_bases-steps F at o (e.1.frontier + steps_left e.1) e here low

  pub low_bases-finished : (F : ℕ) → HasLowBases at → HasLowBases (finished_at o at)
  low_bases-finished F low = low_by F low (slice_get at o) refl

  -- Each puddle of the pool is as it was, or it is the one at its end.
  module _ (i : ℕ) (e : ℕ × Puddle) where
    end_by : (P : ℕ × Puddle → Type 0) → ((d : ℕ × Puddle) → slice_get at i ≡ Some d → P d) → ((d : ℕ × Puddle) → slice_get at o ≡ Some d → i ≡ o → P (d.0, moved_to (d.1.frontier + steps_left d.1) d.1))
        → (found : Option (ℕ × Puddle)) → slice_get at o ≡ found → slice_get (then found) i ≡ Some e → P e
    end_by P still end None here there = still e there
    end_by P still end (Some d) here there = elim (cases_eq i o) [
      | inl same ↦ subst P (same_Some _ e (sym (there_then d here) ∙ ap (slice_get (then (Some d))) (sym same) ∙ there)) (end d here same)
      | inr other ↦ still e (sym (slice_get-set_other at o i (d.0, moved_to (d.1.frontier + steps_left d.1) d.1) other) ∙ there)
    ]

  module _ (legal : HasLegalFrontiers at) where
    pub legal-finished : HasLegalFrontiers (finished_at o at)
    legal-finished = record {
      each = λ i e there.
          end_by i e (λ (d : ℕ × Puddle). d.1.frontier ≤ steps_of d.1) (λ d here. legal.each i d here) (λ d here same. let low = legal.each o d here in omega arith) (slice_get at o) refl there;
    }

    -- This puddle is finished.
    pub IsRewrittenAt-finished : IsRewrittenAt (finished_at o at) o
    IsRewrittenAt-finished = record { each = λ e there. its_end e (slice_get at o) refl there }
      where
        its_end : (e : ℕ × Puddle) (found : Option (ℕ × Puddle)) → slice_get at o ≡ found → slice_get (then found) o ≡ Some e → IsFinished e.1
        its_end e None here there = absurd (none-some e (sym here ∙ there))
        its_end e (Some d) here there =
            let low = legal.each o d here in
            let same = same_Some _ e (sym (there_then d here) ∙ there) in
            omega (arith, low, ap (λ (x : ℕ × Puddle). x.1.frontier) same, ap (λ (x : ℕ × Puddle). steps_of x.1) same)

  -- Puddles that are finished stay finished.
  pub IsRewrittenAt-still : (i : ℕ) → IsRewrittenAt at i → IsRewrittenAt (finished_at o at) i
  IsRewrittenAt-still i rewritten = record {
    each = λ e there.
        end_by i e (λ (d : ℕ × Puddle). IsFinished d.1) (λ d here. rewritten.each d here)
        (λ d here same. let end = rewritten.each d (ap (slice_get at) same ∙ here) in omega (arith, end)) (slice_get at o) refl there;
  }

  none_by : IsRewrittenAt at o → (found : Option (ℕ × Puddle)) → slice_get at o ≡ found → then found ≡ at
  none_by rewritten None here = refl
  none_by rewritten (Some e) here = let end = rewritten.each e here in with_steps-none at o e here (e.1.frontier + steps_left e.1) (omega (arith, end))

  -- If this puddle is finished, nothing moves.
  pub finished_at-none : IsRewrittenAt at o → finished_at o at ≡ at
  finished_at-none rewritten = none_by rewritten (slice_get at o) refl

-- ---- both puddles that a new object writes

module _ (o : ℕ) (at : List (ℕ × Puddle)) where
  pub HaveMoved-both : HaveMoved at (both_finished o at)
  HaveMoved-both = HaveMoved-then at (finished_at 0 at) (both_finished o at) (HaveMoved-finished at 0) (HaveMoved-finished (finished_at 0 at) o)

  pub first_finished : HasLegalFrontiers at → IsRewrittenAt (both_finished o at) 0
  first_finished legal = IsRewrittenAt-still (finished_at 0 at) o 0 (IsRewrittenAt-finished at 0 legal)

  pub other_finished : HasLegalFrontiers at → IsRewrittenAt (both_finished o at) o
  other_finished legal = IsRewrittenAt-finished (finished_at 0 at) o (legal-finished at 0 legal)

  pub both_finished-none : IsRewrittenAt at 0 → IsRewrittenAt at o → both_finished o at ≡ at
  both_finished-none first other = ap (finished_at o) (finished_at-none at 0 first) ∙ finished_at-none at o other

-- A slot is still one of the pool's slots.
pub IsSlotOf-moved : (at later : List (ℕ × Puddle)) (slot : Slot) → HaveMoved at later → IsSlotOf at slot → IsSlotOf later slot
IsSlotOf-moved at later slot moved of =
    let m = moved.each slot.ordinal (slot.frame, of.puddle) of.there in
    record { puddle = moved_to m.frontier of.puddle; there = m.there; alike = of.alike; below = of.below }

-- ---- their batches

frontier_no_lower : (later : List (ℕ × Puddle)) (o : ℕ) (at : List (ℕ × Puddle)) → HaveMoved at later → (found : Option (ℕ × Puddle)) → slice_get at o ≡ found → frontier_in found ≤ frontiers_of later o
frontier_no_lower later o at moved None here = omega arith
frontier_no_lower later o at moved (Some e) here =
    let m = moved.each o e here in
    omega (arith, m.no_lower, ap frontier_in m.there)

-- The frontiers of a pool are no lower after they have moved.
pub frontiers_no_lower : (at later : List (ℕ × Puddle)) → HaveMoved at later → (o : ℕ) → frontiers_of at o ≤ frontiers_of later o
frontiers_no_lower at later moved o = frontier_no_lower later o at moved (slice_get at o) refl

one_or_none : (b : Bool) (near far : ℕ) → near ≤ far → cond b near 0 ≤ far
one_or_none true near far below = below
one_or_none false near far below = omega arith

-- The frontier of one puddle alone is no lower either.
pub one_no_lower : (at later : List (ℕ × Puddle)) (o : ℕ) → HaveMoved at later → (i : ℕ) → frontier_at o at i ≤ frontiers_of later i
one_no_lower at later o moved i = one_or_none (i == o) (frontiers_of at i) (frontiers_of later i) (frontiers_no_lower at later moved i)

module _ (F o : ℕ) (at : List (ℕ × Puddle)) where
  abbrev both : List (ℕ × Puddle)
  both = both_finished o at

  -- The batches of the first puddle, before which there is no other.
  pub Rewrites-first : (later : List (ℕ × Puddle)) (fault : Option HostFault) (old new : State) → Rewrites F (frontier_at 0 (finished_at 0 at)) at later fault old new → Rewrites F (frontiers_of both) at later fault old new
  Rewrites-first later fault old new r =
      Rewrites-further F (frontier_at 0 (finished_at 0 at)) (frontiers_of both) at later fault old new
      (record {
        further = one_no_lower (finished_at 0 at) both 0 (HaveMoved-finished (finished_at 0 at) o);
        before = λ i q d moves below here. elim (cases_eq i 0) [
          | inl same ↦ absurd (omega arith)
          | inr other ↦ absurd (omega (arith, frontier_at-other (finished_at 0 at) 0 i other))
        ];
      })
      r

  -- Then the batches of the other puddle. The puddles before it stay, so each is where it is to be.
  its_further : (between : List (ℕ × Puddle)) → between ≡ finished_at 0 at → IsFurther (frontier_at o (finished_at o between)) (frontiers_of both) between
  its_further between is =
      let all : IsFurther (frontier_at o both) (frontiers_of both) (finished_at 0 at) = record {
        further = one_no_lower both both o (HaveMoved-same both);
        before = λ i q d moves below here. elim (cases_eq i o) [
          | inl same ↦
              let stays = ap frontier_in (finished-other (finished_at 0 at) o q (omega arith) ∙ here) in
              omega (arith, stays)
          | inr other ↦ absurd (omega (arith, frontier_at-other both o i other))
        ];
      } in
      subst (λ (ds : List (ℕ × Puddle)). IsFurther (frontier_at o (finished_at o ds)) (frontiers_of both) ds) (sym is) all

  pub Rewrites-both : (between later : List (ℕ × Puddle)) (fault : Option HostFault) (old mid new : State) → between ≡ finished_at 0 at → Rewrites F (frontier_at 0 (finished_at 0 at)) at between None old mid
      → HasIdleGate DAEMON_LOG old.now.words → HasLowBases at → (HasIdleGate DAEMON_LOG mid.now.words → HasLowBases between → Rewrites F (frontier_at o (finished_at o between)) between later fault mid new)
      → Rewrites F (frontiers_of both) at later fault old new
  Rewrites-both between later fault old mid new is first idle low other =
      let front = Rewrites-first between None old mid first in
      let idle_then = Rewrites-idle F (frontiers_of both) at between old mid front idle in
      let low_then = subst HasLowBases (sym is) (low_bases-finished at 0 F low) in
      Rewrites-then F (frontiers_of both) at between later fault old mid new front
      (Rewrites-further F (frontier_at o (finished_at o between)) (frontiers_of both) between later fault mid new (its_further between is) (other idle_then low_then))

-- Nothing happened, and no call failed.
pub record HasNoneLeft (at later : List (ℕ × Puddle)) (fault : Option HostFault) (old new : State) : Type 0 where
  pub pool : later ≡ at
  pub done : fault ≡ None
  pub still : new ≡ old

none_in_turn : (F : ℕ) (at later : List (ℕ × Puddle)) (batches : ℕ) (fault : Option HostFault) (old new : State) → RewritesInTurn F (frontiers_of at) batches at later fault old new → HasNoneLeft at later fault old new
none_in_turn F at later zero fault old new turns = record { pool = turns.0; done = turns.1.0; still = turns.1.1 }
none_in_turn F at later (suc batches) fault old new turns =
    let between = turns.1.0 in
    let front = none_in_turn F at between batches None old turns.0 turns.1.1.0 in
    let next = turns.1.1.1.next in
    let reached : frontiers_of at turns.1.1.1.ordinal ≡ turns.1.1.1.puddle.1.frontier = ap (λ (ds : List (ℕ × Puddle)). frontier_in (slice_get ds turns.1.1.1.ordinal)) (sym front.pool) ∙ ap frontier_in next.here in
    absurd (omega (arith, next.some, next.within, reached))

-- Rewriting towards the frontiers that the pool already has takes no batch.
pub Rewrites-none_left : (F : ℕ) (at later : List (ℕ × Puddle)) (fault : Option HostFault) (old new : State) → Rewrites F (frontiers_of at) at later fault old new → HasNoneLeft at later fault old new
Rewrites-none_left F at later fault old new r = none_in_turn F at later r.batches fault old new r.in_turn
