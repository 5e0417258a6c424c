-- Lines that lead frontiers of a pool to goals, call by call.
use Rattle.std.proofs.Common.{◌≡◌, inl, inr, ℕ, ◌+◌, ◌<◌, ◌≤◌, Bool, true, false, cond, eqb, ltb, List, length, Option, Some, None, refl, sym, ap, subst, ◌∙◌, arith, eq-eqb, ne_eqb}
use Rattle.std.specs.Prelude.{max, slice_get}
use Rattle.std.proofs.lemmas.Bool.{cases_eq, cases_lt, cond-true, cond-false, lt-ltb}
use Rattle.std.proofs.lemmas.List.{length-map}
use Rattle.std.proofs.lemmas.Option.{none-some}
use Rattle.pm_model.specs.declared.host.HostFault.{HostFault}
use Rattle.pm_model.specs.declared.host.HostFault.TheVariants.{Cut}
use Rattle.pm_model.specs.Words.{reads}
use Rattle.pm_model.specs.Moments.{State}
use Rattle.pud_defs.specs.declared.machine.Refusal.{Refusal}
use Rattle.pud_defs.specs.declared.objects.FieldValue.{FieldValue}
use Rattle.pud_defs.specs.declared.records.Puddle.{Puddle}
use Rattle.pud_defs.specs.declared.records.Slot.{Slot}
use Rattle.pud_defs.specs.Formats.Geometry.{class_slots, class_steps, ordinal_of, slot_of}
use Rattle.pud_defs.specs.Formats.Image.{Image}
use Rattle.pud_defs.specs.RegistryTables.Puddles.{Member, member_moved, moved_to}
use Rattle.pud_defs.specs.PoolGraphs.Stored.{stored_in, class_at, places_of}
use Rattle.pud_defs.specs.RegistryTables.Tables.{tables_of}
use Rattle.pud_defs.specs.declared.machine.Command.{Command}
use Rattle.pud_defs.specs.StateMachine.Step.{refusal_of, after, world_by}
use Rattle.pud_defs.specs.StateMachine.World.{World, closed}
use Rattle.pud_defs.proofs.StateMachine.Steps.{done_world}
use Rattle.graph_laws.specs.Slots.{IsSlotOfClass, AreAllLive, IsLowestFreeSlot}
use Rattle.graph_read.specs.Reading.{class_in, place_in_pool}
use Rattle.puddle_header.specs.Places.{place_of_slot, places_in, IsSlotOf}
use Rattle.puddle_header.proofs.Placed.{place_ordinal, class_there}
use Rattle.lazy_rewrite.specs.Frontiers.{frontier_in, frontiers_of, frontier_at, finished_at}
use Rattle.lazy_rewrite.proofs.Spared.{HaveMoved-same}
use Rattle.hybrid_tx.specs.PoolScopes.{IsRewrittenAt}
use Rattle.daemon_memory.specs.Memory.{Memory}
use Rattle.daemon_memory.specs.Moves.{Stays, MovesTo, still, led_to, led_in}
use Rattle.daemon_memory.specs.Ready.{Applies}
use Rattle.daemon_memory.proofs.Commands.Applying.{AppliesBy-then, AppliesBy-weaker}
use Rattle.daemon_memory.proofs.PoolChanges.Goals.{led_stays, failed_alone}
use Rattle.daemon_memory.proofs.PoolChanges.PuddlesLeft.{Joins-stays}
use Rattle.pool_transaction.specs.declared.changing.Update.{Update}
use Rattle.pool_transaction.specs.declared.changing.FoundUpdate.{FoundUpdate}
use Rattle.pool_transaction.specs.declared.changing.FoundUpdate.TheVariants.{Field, Root, Object}
use Rattle.pool_transaction.specs.Changing.{both_finished, field_change, IsFoundBy, IsFoundWithin, ordinal_written}
use Rattle.pool_transaction.specs.Finishing.{end_of, end_in, end_of_both, end_of_more, no_end, FinishesObject, FinishesFor, FinishesLowest, FinishesTaken, IsLonger, FinishesUnless, AppliesFinishing}
use Rattle.daemon_memory.specs.Arriving.{UnlessFailed, AppliesTo}
use Rattle.daemon_memory.proofs.PuddlesRewritten.Arriving.{HaveReached, AreEnds, became}
use Rattle.pool_transaction.proofs.PuddlesFinished.FinishedPools.{HasLegalFrontiers, class_after, HaveMoved-finished, HaveMoved-both, finished-other, legal-finished, IsRewrittenAt-finished, first_finished, other_finished, one_no_lower}
use Rattle.daemon_memory.proofs.PuddlesRewritten.StepsMoved.{upto}
use Rattle.pool_transaction.proofs.SlotClasses.{some_slots}

-- ---- puddles at their ends

-- A puddle that is at its end is not short of the goal.
end_not_after : (ds : List (ℕ × Puddle)) (o class : ℕ) → class_in ds o ≡ class → IsRewrittenAt ds o → (i : ℕ) (e : ℕ × Puddle) → slice_get ds i ≡ Some e → end_of o class i ≤ e.1.frontier
end_not_after ds o class is rewritten i e there = elim (cases_eq i o) [
  | inl same ↦
      let here : slice_get ds o ≡ Some e = ap (slice_get ds) (sym same) ∙ there in
      let end = rewritten.each e here in
      let steps = ap class_steps (sym (class_there ds o e here) ∙ is) in
      omega (arith, end, steps, cond-true (eqb i o) (class_steps class) 0 (eq-eqb i o same))
  | inr other ↦ omega (arith, cond-false (eqb i o) (class_steps class) 0 (ne_eqb i o other))
]

module _ (at : List (ℕ × Puddle)) (o : ℕ) (legal : HasLegalFrontiers at) where
  -- Rewriting the puddle with the ordinal to its end reaches the goals.
  HaveReached-finished : HaveReached at (finished_at o at) (end_in at o)
  HaveReached-finished = record {
    each = λ i e there. elim (cases_eq i o) [
      | inl same ↦
          let m = (HaveMoved-finished at o).each i e there in
          let end = (IsRewrittenAt-finished at o legal).each (e.0, moved_to m.frontier e.1) (ap (slice_get (finished_at o at)) (sym same) ∙ m.there) in
          let goal : end_in at o i ≡ class_steps (class_in at o) = cond-true (eqb i o) (class_steps (class_in at o)) 0 (eq-eqb i o same) in
          let steps : class_steps (class_in at o) ≡ class_steps e.1.class = ap class_steps (class_there at o e (ap (slice_get at) (sym same) ∙ there)) in
          let low = legal.each i e there in
          omega (arith, ap frontier_in m.there, end, goal, steps, low)
      | inr other ↦
          let goal : end_in at o i ≡ 0 = cond-false (eqb i o) (class_steps (class_in at o)) 0 (ne_eqb i o other) in
          omega (arith, ap frontier_in (finished-other at o i other ∙ there), goal)
    ];
    none_after = end_not_after (finished_at o at) o (class_in at o) (class_after at (finished_at o at) (HaveMoved-finished at o) o) (IsRewrittenAt-finished at o legal);
  }

  pub ends_finished : AreEnds at (finished_at o at) (upto (frontier_at o (finished_at o at))) (end_in at o)
  ends_finished = record {
    reached = HaveReached-finished;
    near = λ i. let least = one_no_lower (finished_at o at) (finished_at o at) o (HaveMoved-same (finished_at o at)) i in omega (arith, least);
  }

module _ (at : List (ℕ × Puddle)) (o : ℕ) (legal : HasLegalFrontiers at) where
  -- The same is true of this puddle and the first one.
  pub ends_both : AreEnds at (both_finished o at) (upto (frontiers_of (both_finished o at))) (end_of_both at o)
  ends_both = record {
    reached = record {
      each = λ i e there.
          let m = (HaveMoved-finished at 0).each i e there in
          let first = (HaveReached-finished at 0 legal).each i e there in
          let then = (HaveReached-finished (finished_at 0 at) o (legal-finished at 0 legal)).each i (e.0, moved_to m.frontier e.1) m.there in
          let same : end_in (finished_at 0 at) o i ≡ end_in at o i = ap (λ (class : ℕ). end_of o class i) (class_after at (finished_at 0 at) (HaveMoved-finished at 0) o) in
          omega (arith, first, then, same, ap frontier_in m.there);
      none_after = λ i e there.
          let class = class_after at (both_finished o at) (HaveMoved-both o at) in
          let first = end_not_after (both_finished o at) 0 (class_in at 0) (class 0) (first_finished o at legal) i e there in
          let other = end_not_after (both_finished o at) o (class_in at o) (class o) (other_finished o at legal) i e there in
          omega (arith, first, other);
    };
    near = λ i. omega arith;
  }

-- ---- what was found for an update

finishes_object : (F : ℕ) (at : List (ℕ × Puddle)) (image : Image) (s : ℕ) (slot : Slot) → IsSlotOf at slot → place_in_pool F at image s ≡ Some (place_of_slot slot) → FinishesObject F at image s (end_in at slot.ordinal)
finishes_object F at image s slot of there =
    record { place = place_of_slot slot; is = there; goal_is = ap (end_in at) (sym (place_ordinal slot.ordinal slot.slot of.puddle of.below)) }

finishes_field : (F : ℕ) (at : List (ℕ × Puddle)) (image : Image) (later : Bool) (s f : ℕ) (x : FieldValue) (goal : ℕ → ℕ) → FinishesObject F at image s goal → FinishesFor F at image (field_change later s f x) goal
finishes_field F at image true s f x goal so = so
finishes_field F at image false s f x goal so = so

-- The puddle that the update writes is that of its object, or of the root.
pub finishes_found : (F : ℕ) (at : List (ℕ × Puddle)) (image : Image) (update : Update) (found : FoundUpdate) → IsFoundWithin at found → IsFoundBy F at image update found
    → FinishesFor F at image update (end_in at (ordinal_written found))
finishes_found F at image update (Field slot f word read x later) within by =
    subst (λ (u : Update). FinishesFor F at image u (end_in at slot.ordinal)) (sym by.is) (finishes_field F at image later by.s f by.x (end_in at slot.ordinal) (finishes_object F at image by.s slot within.0 by.found.0))
finishes_found F at image update (Root word was s) within by = subst (λ (u : Update). FinishesFor F at image u (end_in at 0)) (sym by.is) refl
finishes_found F at image update (Object slot s) within by =
    subst (λ (u : Update). FinishesFor F at image u (end_in at slot.ordinal)) (sym by.is) (finishes_object F at image by.s slot within by.found)

-- An object in the lowest free slot finishes its puddle and the first one.
pub finishes_lowest : (F class : ℕ) (at : List (ℕ × Puddle)) (image : Image) (slot : Slot) → IsSlotOf at slot → IsLowestFreeSlot class (stored_in F at image) (place_of_slot slot) → FinishesLowest F class at image (end_of_both at slot.ordinal)
finishes_lowest F class at image slot of lowest =
    record { place = place_of_slot slot; lowest = lowest; goal_is = ap (end_of_both at) (sym (place_ordinal slot.ordinal slot.slot of.puddle of.below)) }

-- If each slot of the class is live, the new object finishes the puddle by which the pool grows and the first one.
pub finishes_more : (F class : ℕ) (at : List (ℕ × Puddle)) (image : Image) → AreAllLive class (stored_in F at image) → FinishesTaken F class at image (end_of_more class at)
finishes_more F class at image live = inr (live, refl)

-- A place that is a slot of the class in the grown pool, and lies in a puddle that the pool had, was one.
slot_before : (F slot class : ℕ) (at later : List (ℕ × Puddle)) (before after : Image) → IsLonger F slot class at later before after → (p : ℕ) → p < places_in at → IsSlotOfClass class (stored_in F later after) p → IsSlotOfClass class (stored_in F at before) p
slot_before F slot class at later before after longer p below is =
    let same : class_at (stored_in F at before) p ≡ class_at (stored_in F later after) p = sym (longer.classes (ordinal_of p) (omega arith)) in
    record { slot = ap (λ (class : ℕ). ltb (slot_of p) (class_slots class)) same ∙ is.slot; of_class = same ∙ is.of_class }

-- Each slot of the class that the pool had is live, and the first slot of the new puddle is the lowest free one.
pub lowest_grown : (F slot class : ℕ) (at later : List (ℕ × Puddle)) (before after : Image) → IsLonger F slot class at later before after → AreAllLive class (stored_in F at before) → IsLowestFreeSlot class (stored_in F later after) (places_in at)
lowest_grown F slot class at later before after longer live = record {
  within = let count = longer.count in omega (arith, count, length-map later (λ (e : ℕ × Puddle). e.1));
  slot = record {
    slot = let some = some_slots (class_in later (ordinal_of (places_in at))) in lt-ltb (slot_of (places_in at)) (class_slots (class_in later (ordinal_of (places_in at)))) (let first : slot_of (places_in at) ≡ 0 = omega arith in omega arith);
    of_class = ap (class_in later) (let here : ordinal_of (places_in at) ≡ length at = omega arith in here) ∙ longer.of_class;
  };
  free = longer.free;
  live_before = λ p below is free. live.each p (omega (arith, below, length-map at (λ (e : ℕ × Puddle). e.1))) (slot_before F slot class at later before after longer p below is) (sym (longer.each p below) ∙ free);
}

-- The lowest free slot of the grown pool lies in the new puddle.
pub finishes_grown : (F slot class : ℕ) (at later : List (ℕ × Puddle)) (before after : Image) → IsLonger F slot class at later before after → 1 ≤ length at → AreAllLive class (stored_in F at before) → (goal : ℕ → ℕ) → FinishesLowest F class later after goal
    → FinishesTaken F class at before goal
finishes_grown F slot class at later before after longer some live goal so = elim (cases_lt so.place (places_of (stored_in F at before))) [
  | inl old ↦
      let below : so.place < places_in at = omega (arith, old, length-map at (λ (e : ℕ × Puddle). e.1)) in
      absurd (live.each so.place old (slot_before F slot class at later before after longer so.place below so.lowest.slot) (sym (longer.each so.place below) ∙ so.lowest.free))
  | inr past ↦
      let count = longer.count in
      let within = so.lowest.within in
      let here : ordinal_of so.place ≡ length at = omega (arith, past, within, count, length-map at (λ (e : ℕ × Puddle). e.1), length-map later (λ (e : ℕ × Puddle). e.1)) in
      let first : class_in later 0 ≡ class_in at 0 = longer.classes 0 (omega arith) in
      inr (live, so.goal_is ∙ ap (end_of_both later) here ∙ (λ i q. max (end_of 0 (first i) q) (end_of (length at) (longer.of_class i) q)))
]

-- ---- calls in turn

not_done : {A : Type 0} (fault : HostFault) → Some fault ≡ None → A
not_done fault done = absurd (none-some fault (sym done))

unled : (own : Bool) (f : ℕ) → cond own (max f 0) f ≡ f
unled true f = omega arith
unled false f = refl

-- Without goals no puddle is led anywhere.
pub led_none : (slot : ℕ) → led_in slot no_end ≡ still
led_none slot = λ i m. Some (unled (eqb m.pool (slot + 1)) m.puddle.frontier i)

-- What follows from the known statement may take its place.
pub known_so : {failed known more unled : Type 0} → (known → more) → UnlessFailed failed known unled → UnlessFailed failed more unled
known_so so (inl known) = inl (so known)
known_so so (inr not_known) = inr not_known

module _ (slot : ℕ) where
  -- A call that moves no frontier leads no puddle anywhere.
  pub AppliesTo-still : (size : ℕ) (w next : World) (memory : Memory) (fault : Option HostFault) (old new : State) → Applies size w next memory fault old new
      → AppliesTo (led_in slot no_end) size w next memory fault old new
  AppliesTo-still size w next memory fault old new a = record {
    applies = AppliesBy-weaker Stays (MovesTo (led_in slot no_end)) (led_stays slot no_end) size w next memory fault old new a;
    arrives = λ done. record {
      each = λ frame m used. became Stays size w next memory old new (subst (λ (f : Option HostFault). Applies size w next memory f old new) done a) frame m used ∙ at_none m;
      come = λ frame m used. at_none m;
    };
  }
    where
      at_none : (m : Member) → Some m ≡ Some (member_moved (led_to slot no_end m) m)
      at_none m = ap (λ (n : ℕ). Some (member_moved n m)) (sym (unled (eqb m.pool (slot + 1)) m.puddle.frontier))

  module _ (goal : ℕ → ℕ) where
    abbrev Led : Member → Option ℕ
    Led = led_in slot goal

    -- A call that moves no frontier and failed is on the way to any goals.
    pub AppliesTo-unmoved : (size : ℕ) (w next : World) (memory : Memory) (fault : HostFault) (old new : State) → Applies size w next memory (Some fault) old new
        → AppliesTo (led_in slot goal) size w next memory (Some fault) old new
    AppliesTo-unmoved size w next memory fault old new a = record {
      applies = AppliesBy-weaker Stays (MovesTo Led) (led_stays slot goal) size w next memory (Some fault) old new a;
      arrives = not_done fault;
    }

    -- Calls that only read may come first.
    pub AppliesTo-after_reads : (size : ℕ) (w : World) (memory : Memory) (c : Command) (fault : Option HostFault) (a b d : State) → refusal_of w c ≡ None → b ≡ a
        → AppliesTo (led_in slot goal) size w (after w c) memory fault b d → AppliesTo (led_in slot goal) size w (world_by w (Some c)) memory fault a d
    AppliesTo-after_reads size w memory c fault a b d free same applies =
        subst (λ (v : World). AppliesTo Led size w v memory fault a d) (sym (done_world w c free)) (subst (λ (s : State). AppliesTo Led size w (after w c) memory fault s d) same applies)

    -- The frontiers first stay, and are then led to the goals.
    pub AppliesTo-then : (size : ℕ) (w mid next : World) (first following : Memory) (fault : Option HostFault) (a b c : State) → closed mid ≡ closed next → w.stored.frames ≡ mid.stored.frames → Applies size w mid first None a b
        → AppliesTo (led_in slot goal) size mid next following fault b c → AppliesTo (led_in slot goal) size w next following fault a c
    AppliesTo-then size w mid next first following fault a b c same frames p q = record {
      applies = AppliesBy-then Stays (MovesTo Led) (MovesTo Led) (Joins-stays (MovesTo Led) (led_stays slot goal)) size w mid next first following fault a b c same frames p q.applies;
      arrives = λ done. record {
        each = λ frame m used.
            let there = subst (λ (n : ℕ). (tables_of n (reads b.now.words)).puddles frame ≡ Some m) frames (became Stays size w mid first a b p frame m used) in
            subst (λ (n : ℕ). (tables_of n (reads c.now.words)).puddles frame ≡ Some (member_moved (led_to slot goal m) m)) (sym frames) ((q.arrives done).each frame m there);
        come = λ frame m used. (q.arrives done).come frame m (subst (λ (n : ℕ). (tables_of n (reads c.now.words)).puddles frame ≡ Some m) frames used);
      };
    }

  -- ---- lines

  -- An object that is made in a free slot has the goals of the line.
  pub finishing_taken : (F class : ℕ) (at : List (ℕ × Puddle)) (image : Image) (size : ℕ) (w next : World) (memory : Memory) (fault : Option HostFault) (old new : State) → AppliesFinishing slot (FinishesLowest F class at image) size w next memory fault old new
      → AppliesFinishing slot (FinishesTaken F class at image) size w next memory fault old new
  finishing_taken F class at image size w next memory fault old new a = record { goal = a.goal; finishing = known_so (λ known. inl known) a.finishing; applies = a.applies }

  module _ (finishes : (ℕ → ℕ) → Type 0) where
    -- If a read failed before the goals were known, what the line owes holds.
    pub finishing_failed : (size : ℕ) (w next : World) (memory : Memory) (fault : HostFault) (old new : State) → (Some fault ≡ Some Cut → ⊥) → Applies size w next memory (Some fault) old new
        → AppliesFinishing slot finishes size w next memory (Some fault) old new
    finishing_failed size w next memory fault old new never_cut a = record {
      goal = no_end;
      finishing = inr (failed_alone fault never_cut, refl);
      applies = AppliesTo-still size w next memory (Some fault) old new a;
    }

    -- If the line is refused, what the line owes holds without goals.
    pub finishing_refused : (why : Option Refusal) (r : Refusal) → why ≡ Some r → (size : ℕ) (w next : World) (memory : Memory) (fault : Option HostFault) (old new : State) → Applies size w next memory fault old new
        → AppliesFinishing slot (FinishesUnless why finishes) size w next memory fault old new
    finishing_refused why r refused size w next memory fault old new a = record {
      goal = no_end;
      finishing = inl (subst (λ (o : Option Refusal). FinishesUnless o finishes no_end) (sym refused) refl);
      applies = AppliesTo-still size w next memory fault old new a;
    }

    -- If the line is not refused, what the line owes holds with its goals.
    pub finishing_free : (why : Option Refusal) → why ≡ None → (goal : ℕ → ℕ) → finishes goal → (size : ℕ) (w next : World) (memory : Memory) (fault : Option HostFault) (old new : State)
        → AppliesTo (led_in slot goal) size w next memory fault old new → AppliesFinishing slot (FinishesUnless why finishes) size w next memory fault old new
    finishing_free why free goal so size w next memory fault old new a = record {
      goal = goal;
      finishing = inl (subst (λ (o : Option Refusal). FinishesUnless o finishes goal) (sym free) so);
      applies = a;
    }

    -- If the goals are known, what the line owes holds.
    pub finishing_led : (goal : ℕ → ℕ) → finishes goal → (size : ℕ) (w next : World) (memory : Memory) (fault : Option HostFault) (old new : State) → AppliesTo (led_in slot goal) size w next memory fault old new
        → AppliesFinishing slot finishes size w next memory fault old new
    finishing_led goal so size w next memory fault old new a = record { goal = goal; finishing = inl so; applies = a }

    -- If the line is not refused, the goals are those of a line that may be refused too.
    pub finishing_unless : (why : Option Refusal) → why ≡ None → (size : ℕ) (w next : World) (memory : Memory) (fault : Option HostFault) (old new : State) → AppliesFinishing slot finishes size w next memory fault old new
        → AppliesFinishing slot (FinishesUnless why finishes) size w next memory fault old new
    finishing_unless why free size w next memory fault old new a = record {
      goal = a.goal;
      finishing = known_so (λ known. subst (λ (o : Option Refusal). FinishesUnless o finishes a.goal) (sym free) known) a.finishing;
      applies = a.applies;
    }

    -- If the line stopped before any frontier moved, what it owes holds. The goals are known if it is not refused.
    pub finishing_stopped : (why : Option Refusal) (goal : ℕ → ℕ) → finishes goal → (size : ℕ) (w next : World) (memory : Memory) (fault : HostFault) (old new : State) → Applies size w next memory (Some fault) old new
        → AppliesFinishing slot (FinishesUnless why finishes) size w next memory (Some fault) old new
    finishing_stopped None goal so size w next memory fault old new a = record { goal = goal; finishing = inl so; applies = AppliesTo-unmoved goal size w next memory fault old new a }
    finishing_stopped (Some r) goal so size w next memory fault old new a = record { goal = no_end; finishing = inl refl; applies = AppliesTo-still size w next memory (Some fault) old new a }
