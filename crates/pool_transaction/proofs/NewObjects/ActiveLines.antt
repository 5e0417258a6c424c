-- The line that makes an object in an active transaction, call by call.
use Rattle.std.proofs.Common.{◌≡◌, inl, inr, ℕ, ◌≤◌, true, false, List, length, Option, Some, None, Result, Ok, Err, refl, sym, ap, ap₂, subst, ◌∙◌}
use Rattle.std.specs.Prelude.{IfOk, IfSome, IfNone}
use Rattle.std.proofs.lemmas.Bool.{cases_Bool}
use Rattle.std.proofs.lemmas.List.{set-set}
use Rattle.pm_model.specs.declared.host.HostFault.{HostFault}
use Rattle.pm_model.specs.declared.host.HostFault.TheVariants.{Cut}
use Rattle.pm_model.specs.Words.{reads}
use Rattle.pm_model.specs.Moments.{State}
use Rattle.pud_defs.specs.declared.machine.Command.{Command}
use Rattle.pud_defs.specs.declared.machine.Command.TheVariants.{New}
use Rattle.pud_defs.specs.declared.machine.Reply.{Reply}
use Rattle.pud_defs.specs.declared.machine.Reply.TheVariants as replies
use Rattle.pud_defs.specs.declared.machine.Refusal.{Refusal}
use Rattle.pud_defs.specs.declared.records.Puddle.{Puddle}
use Rattle.pud_defs.specs.declared.records.Slot.{Slot}
use Rattle.pud_defs.specs.Formats.Image.{Image}
use Rattle.pud_defs.specs.StateMachine.Step.{class_made, grows, refusal_of, answer_by, world_by}
use Rattle.pud_defs.specs.StateMachine.Step.Answer.{of_reply}
use Rattle.pud_defs.specs.PoolGraphs.Graph.{next_serial_of}
use Rattle.pud_defs.specs.PoolGraphs.Stored.{stored_in}
use Rattle.pud_defs.specs.RegistryTables.Types.{map_of, types_of}
use Rattle.pud_defs.specs.StateMachine.World.{World, closed}
use Rattle.pud_defs.proofs.StateMachine.Steps.{refused_answer}
use Rattle.graph_laws.specs.Slots.{AreAllLive, IsLowestFreeSlot}
use Rattle.puddle_header.specs.Places.{place_of_slot, places_in}
use Rattle.object_alloc.specs.Alloc.{AreLiveBefore}
use Rattle.known_pool.specs.Known.{Known}
use Rattle.known_pool.specs.Searches.{full_of}
use Rattle.hybrid_tx.proofs.Objects.LowestSlot.{lowest_is_free}
use Rattle.daemon_memory.specs.PoolKnowledge.{puddles_known}
use Rattle.daemon_memory.proofs.PoolsKnown.Known.{pool_kept}
use Rattle.daemon_memory.specs.Memory.{ActiveTransaction, Memory}
use Rattle.registry.specs.declared.adding.NewPuddle.{NewPuddle}
use Rattle.registry.specs.Places.{refusal_in}
use Rattle.pool_transaction.specs.Changing.{RunsWith, MayMakeObject, with_known, refusal_to_make, refusal_by_tables, GrowsBy, with_puddle_added, with_made}
use Rattle.daemon_memory.specs.Moves.{led_in}
use Rattle.daemon_memory.specs.Ready.{IsReady, Applies}
use Rattle.daemon_memory.proofs.Commands.Applying.{Applies-refused, Applies-stopped, Applies-closed}
use Rattle.daemon_memory.proofs.PoolsKnown.KnownOpen.{known_within}
use Rattle.daemon_memory.proofs.OpenTransactions.ActiveUnder.{active_within, active_here}
use Rattle.pool_transaction.specs.Finishing.{end_of_more, FinishesLowest, FinishesTaken, FinishesOfType, FinishesUnless, AppliesFinishing, IsLonger}
use Rattle.daemon_memory.specs.Arriving.{AppliesTo}
use Rattle.pool_transaction.specs.Premises.{DoesLine}
use Rattle.pool_transaction.proofs.WordsWritten.OpenLogs.{does_refused, does_unread}
use Rattle.pool_transaction.proofs.Lifetimes.ActiveKnown.{known_on, known_so as is_known_so}
use Rattle.pool_transaction.proofs.Lifetimes.ActiveRuns.{is_active}
use Rattle.pool_transaction.proofs.NewObjects.ActivePools.{some_active}
use Rattle.pool_transaction.proofs.NewObjects.ActiveGrows.{grown_frames, grown_types}
use Rattle.pool_transaction.proofs.NewObjects.ActiveMakes.{all_live, not_live}
use Rattle.pool_transaction.proofs.PuddlesFinished.ActiveFinishes.{its_puddles}
use Rattle.pool_transaction.proofs.PuddlesFinished.Leading.{known_so, AppliesTo-then, finishes_more, finishes_grown, lowest_grown, finishing_failed, finishing_refused, finishing_taken, finishing_unless, finishing_stopped}
use Rattle.pool_transaction.proofs.NewObjects.ActiveNew.{refusal_found, class_read, serial_read, refused_whatever, refused_less, refused_more, answer_new, world_less, world_more, grown_refusal, grown_next}

-- Calls that only read leave the transaction running.
pub runs_still : {F words later size : ℕ} {w : World} {memory : Memory} {active : ActiveTransaction} {kept : Known} {old new : State} → RunsWith F words active kept size w memory old → new ≡ old → size ≡ later → RunsWith F later active kept size w memory new
runs_still {F} {words} {later} {size} {w} {memory} runs same sized = record { words_are = sized; its = runs.its; ready = subst (λ (s : State). IsReady size w memory s) (sym same) runs.ready }

-- The slot that was found is of the class.
pub making_at : (w : World) (active : ActiveTransaction) (id class serial n : ℕ) → n ≡ class → MayMakeObject w active id class serial → MayMakeObject w active id n serial
making_at w active id class serial n same making = record { free = making.free; of_class = same ∙ making.of_class; next = making.next }

pub lowest_at : (F : ℕ) (at : List (ℕ × Puddle)) (image : Image) (class : ℕ) (slot : Slot) → slot.class ≡ class → IsLowestFreeSlot class (stored_in F at image) (place_of_slot slot) → IsLowestFreeSlot slot.class (stored_in F at image) (place_of_slot slot)
lowest_at F at image class slot same lowest = subst (λ (n : ℕ). IsLowestFreeSlot n (stored_in F at image) (place_of_slot slot)) (sym same) lowest

-- What the line that makes an object owes.
abbrev pub OwesNew : (F size : ℕ) → World → ActiveTransaction → Known → (id : ℕ) → Memory → Option HostFault → (old new : State) → Type 0
OwesNew F size w active kept id memory fault old new =
    AppliesFinishing active.slot (FinishesUnless (refusal_of w (New active.client active.name id)) (FinishesOfType F id kept.puddles (reads old.now.words))) size w (world_by w (Some (New active.client active.name id))) memory fault old new

-- The pool in the slot may grow for an object, by this puddle, which is of this class.
pub record MayGrow (F slot class : ℕ) (at : List (ℕ × Puddle)) (image : Image) (a : NewPuddle) : Type 0 where
  pub free : refusal_by_tables F at image ≡ None
  pub by : GrowsBy F slot class at image a

-- The pool may grow by the puddle that was found.
pub may_grow : (F slot class : ℕ) (lent at : List (ℕ × Puddle)) → lent ≡ at → (image : Image) (found : Result NewPuddle Refusal) → refusal_in found ≡ refusal_by_tables F lent image → IfOk found (GrowsBy F slot class lent image) → (a : NewPuddle) → found ≡ Ok a
    → MayGrow F slot class at image a
may_grow F slot class lent at same image found read by a is = record {
  free = ap (λ (ps : List (ℕ × Puddle)). refusal_by_tables F ps image) (sym same) ∙ sym read ∙ ap refusal_in is;
  by = subst (λ (ps : List (ℕ × Puddle)). GrowsBy F slot class ps image a) same (subst (λ (f : Result NewPuddle Refusal). IfOk f (GrowsBy F slot class lent image)) is by);
}

module _ {F words size : ℕ} {w : World} {memory : Memory} {active : ActiveTransaction} {kept : Known} {old : State} (runs : RunsWith F words active kept size w memory old) (id : ℕ) where
  on : F ≡ w.stored.frames
  on = sym runs.its.frames ∙ runs.ready.frames

  abbrev image : Image
  image = reads old.now.words

  listed : kept.puddles ≡ (is_active size w memory active old active.log_number runs.its.there runs.ready).puddles
  listed = its_puddles size w memory active old active.log_number runs.its.there runs.ready F on kept runs.its.known

  abbrev line : Command
  line = New active.client active.name id

  abbrev given : World
  given = world_by w (Some line)

  -- The class in which an object of the type is made, by what is read.
  abbrev made : ℕ
  made = class_made (types_of image) id

  -- The pool has a puddle.
  pub some_known : 1 ≤ length kept.puddles
  some_known = subst (λ (ps : List (ℕ × Puddle)). 1 ≤ length ps) (sym listed) (some_active size w memory active old active.log_number runs.its.there runs.ready)

  -- What the line owes, from the state where these calls begin.
  abbrev pub AppliesNew : ActiveTransaction → Known → Option HostFault → State → Type 0
  AppliesNew following later fault new = OwesNew F size w active kept id (with_known active.log_number active.slot following later memory) fault old new

  -- ---- whatever slots are free

  module _ (lent : List (ℕ × Puddle)) (same : lent ≡ kept.puddles) (found : Result (ℕ × ℕ) Refusal) (read : refusal_in found ≡ refusal_to_make (map_of id (types_of image)) active.tx.units (next_serial_of (stored_in F lent image))) where
    pub found_refused : (why : Refusal) → found ≡ Err why → refusal_of w line ≡ Some why
    found_refused why is =
        refused_whatever size w memory active old active.log_number runs.its.there runs.ready id why
        (refusal_found size w memory active old active.log_number runs.its.there runs.ready id F on lent (same ∙ listed) (refusal_in found) (Some why) read (ap refusal_in is))

    pub found_making : IfOk found (λ m. m.0 ≡ made) → IfOk found (λ m. m.1 ≡ next_serial_of (stored_in F lent image)) → (m : ℕ × ℕ) → found ≡ Ok m → MayMakeObject w active id m.0 m.1
    found_making told_class told m is = record {
      free = refusal_found size w memory active old active.log_number runs.its.there runs.ready id F on lent (same ∙ listed) (refusal_in found) None read (ap refusal_in is);
      of_class = subst (λ (f : Result (ℕ × ℕ) Refusal). IfOk f (λ (n : ℕ × ℕ). n.0 ≡ made)) is told_class ∙ class_read size w memory active old active.log_number runs.its.there runs.ready id;
      next = serial_read size w memory active old active.log_number runs.its.there runs.ready id F on lent (same ∙ listed) m.1
          (subst (λ (f : Result (ℕ × ℕ) Refusal). IfOk f (λ (n : ℕ × ℕ). n.1 ≡ next_serial_of (stored_in F lent image))) is told);
    }

  -- ---- a slot of a class was looked for, and each slot of the class before the start of the search is live

  module _ (class : ℕ) (lent : List (ℕ × Puddle)) (same : lent ≡ kept.puddles) (from : ℕ) (is_from : from ≡ full_of class kept.full_below) (found : Option Slot) where
    before : AreLiveBefore class (stored_in F lent image) from
    before =
        subst (λ (ps : List (ℕ × Puddle)). AreLiveBefore class (stored_in F ps image) from) (sym same)
        (subst (AreLiveBefore class (stored_in F kept.puddles image)) (sym is_from) ((is_known_so F active kept memory runs.its size w old runs.ready).full class))

    pub free_found : (AreLiveBefore class (stored_in F lent image) from → IfSome found (λ at. IsLowestFreeSlot class (stored_in F lent image) (place_of_slot at))) → (at : Slot) → found ≡ Some at → IsLowestFreeSlot class (stored_in F kept.puddles image) (place_of_slot at)
    free_found told at is =
        subst (λ (ps : List (ℕ × Puddle)). IsLowestFreeSlot class (stored_in F ps image) (place_of_slot at)) same
        (subst (λ (o : Option Slot). IfSome o (λ s. IsLowestFreeSlot class (stored_in F lent image) (place_of_slot s))) is (told before))

    pub none_found : (AreLiveBefore class (stored_in F lent image) from → IfNone found (AreAllLive class (stored_in F lent image))) → found ≡ None → AreAllLive class (stored_in F kept.puddles image)
    none_found told is =
        subst (λ (ps : List (ℕ × Puddle)). AreAllLive class (stored_in F ps image)) same
        (subst (λ (o : Option Slot). IfNone o (AreAllLive class (stored_in F lent image))) is (told before))

  -- If a read failed, what the line owes holds.
  new_failed : (following : ActiveTransaction) (later : Known) (fault : HostFault) (new : State) → new ≡ old → (Some fault ≡ Some Cut → ⊥) → AppliesNew following later (Some fault) new
  new_failed following later fault new same never_cut =
      finishing_failed active.slot (FinishesUnless (refusal_of w line) (FinishesTaken F made kept.puddles image)) size w given (with_known active.log_number active.slot following later memory) fault old new never_cut
      (Applies-stopped size w given memory (with_known active.log_number active.slot following later memory) fault old new runs.ready same (λ cut. absurd (never_cut cut)))

  -- If the line is refused and nothing changed, what the line owes holds.
  new_refused : (why : Refusal) (new : State) → refusal_of w line ≡ Some why → new ≡ old → AppliesNew active kept None new
  new_refused why new refused same =
      finishing_refused active.slot (FinishesTaken F made kept.puddles image) (refusal_of w line) why refused size w given (with_known active.log_number active.slot active kept memory) None old new
      (subst (λ (m : Memory). Applies size w given m None old new) (sym (known_on F active kept memory runs.its)) (Applies-refused size w memory line why old new runs.ready refused same))

  -- The line, whatever it writes if it is not refused.
  abbrev Does : (Writes : Option HostFault → State → State → Type 0) → ActiveTransaction → Known → Result Reply HostFault → State → Type 0
  Does Writes following later done new = DoesLine active following later line (FinishesOfType F id kept.puddles) Writes size w memory done old new

  pub does_unread_new : {Writes : Option HostFault → State → State → Type 0} (following : ActiveTransaction) (later : Known) (fault : HostFault) (new : State) → new ≡ old → (Some fault ≡ Some Cut → ⊥) → Does Writes following later (Err fault) new
  does_unread_new {Writes} following later fault new same never_cut =
      record { reply = tt; applies = new_failed following later fault new same never_cut; writes = does_unread Writes (refusal_of w line) fault never_cut same }

  pub does_refused_new : {Writes : Option HostFault → State → State → Type 0} (why : Refusal) (new : State) → refusal_of w line ≡ Some why → new ≡ old → Does Writes active kept (Ok (replies.No why)) new
  does_refused_new {Writes} why new refused same =
      record { reply = sym (refused_answer w line why refused); applies = new_refused why new refused same; writes = does_refused Writes (refusal_of w line) why None refused same }

  module _ (class serial : ℕ) (making : MayMakeObject w active id class serial) where
    -- The class is the one that the type has by what is read.
    pub is_made : class ≡ made
    is_made = making.of_class ∙ sym (class_read size w memory active old active.log_number runs.its.there runs.ready id)

    same_growth : grows w active.name (class_made w.stored.types id) ≡ grows w active.name class
    same_growth = ap (grows w active.name) (sym making.of_class)

    pub free_less : grows w active.name class ≡ false → refusal_of w line ≡ None
    free_less less = refused_less size w memory active old active.log_number runs.its.there runs.ready id making.free (same_growth ∙ less)

    -- If an object was made in a free slot, what the line owes holds.
    pub new_made : (following : ActiveTransaction) (later : Known) (fault : Option HostFault) (new : State) → grows w active.name class ≡ false
        → AppliesFinishing active.slot (FinishesLowest F class kept.puddles image) size w (with_made active.name id w) (with_known active.log_number active.slot following later memory) fault old new → AppliesNew following later fault new
    new_made following later fault new less a =
        let free = free_less less in
        finishing_unless active.slot (FinishesTaken F made kept.puddles image) (refusal_of w line) free size w given (with_known active.log_number active.slot following later memory) fault old new
        (subst (λ (v : World). AppliesFinishing active.slot (FinishesTaken F made kept.puddles image) size w v (with_known active.log_number active.slot following later memory) fault old new)
        (sym (world_less size w memory active old active.log_number runs.its.there runs.ready id free (same_growth ∙ less)))
        (finishing_taken active.slot F made kept.puddles image size w (with_made active.name id w) (with_known active.log_number active.slot following later memory) fault old new
        (subst (λ (n : ℕ). AppliesFinishing active.slot (FinishesLowest F n kept.puddles image) size w (with_made active.name id w) (with_known active.log_number active.slot following later memory) fault old new) is_made a)))

    pub reply_made : grows w active.name class ≡ false → of_reply (replies.Ref serial) ≡ answer_by w (Some line)
    reply_made less =
        ap (λ (n : ℕ). of_reply (replies.Ref n)) making.next
        ∙ sym (answer_new size w memory active old active.log_number runs.its.there runs.ready id (free_less less))

    -- If a slot of the class is free, the pool is not to grow.
    pub was_free : (p : ℕ) → IsLowestFreeSlot class (stored_in F kept.puddles image) p → grows w active.name class ≡ false
    was_free p lowest = elim (cases_Bool (grows w active.name class)) [
      | inl more ↦ absurd (lowest_is_free class (stored_in F kept.puddles image) p lowest (all_live size w memory active old active.log_number runs.its.there runs.ready F kept.puddles on listed class more))
      | inr less ↦ less
    ]

    pub was_full : AreAllLive class (stored_in F kept.puddles image) → grows w active.name class ≡ true
    was_full live = elim (cases_Bool (grows w active.name class)) [
      | inl more ↦ more
      | inr less ↦ absurd (not_live size w memory active old active.log_number runs.its.there runs.ready F kept.puddles on listed class less live)
    ]

    -- ---- each slot of the class is live

    module _ (more : grows w active.name class ≡ true) where
      -- The tables tell why the line is refused.
      pub by_tables : refusal_of w line ≡ refusal_by_tables F kept.puddles image
      by_tables =
          refused_more size w memory active old active.log_number runs.its.there runs.ready id making.free (same_growth ∙ more)
          ∙ (λ p. refusal_by_tables (sym on p) (sym listed p) image)

      pub all_were_live : AreAllLive class (stored_in F kept.puddles image)
      all_were_live = all_live size w memory active old active.log_number runs.its.there runs.ready F kept.puddles on listed class more

      -- If the pool does not grow, the line is refused for the reason that was found.
      pub refused_by_tables : (lent : List (ℕ × Puddle)) → lent ≡ kept.puddles → (found : Result NewPuddle Refusal) → refusal_in found ≡ refusal_by_tables F lent image → (why : Refusal) → found ≡ Err why → refusal_of w line ≡ Some why
      refused_by_tables lent same found read why is = by_tables ∙ ap (λ (ps : List (ℕ × Puddle)). refusal_by_tables F ps image) (sym same) ∙ sym read ∙ ap refusal_in is

      module _ {a : NewPuddle} (may : MayGrow F active.slot class kept.puddles image a) where
        pub free_more : refusal_of w line ≡ None
        free_more = by_tables ∙ may.free

        -- The world that the line gives.
        pub world_grown : given ≡ with_made active.name id (with_puddle_added active.name class w)
        world_grown =
            world_more size w memory active old active.log_number runs.its.there runs.ready id free_more (same_growth ∙ more)
            ∙ ap (λ (n : ℕ). with_made active.name id (with_puddle_added active.name n w)) (sym making.of_class)

        -- If the call that makes the pool grow failed, what the line owes holds.
        pub new_ungrown : (following : ActiveTransaction) (given_up later : Known) (fault : HostFault) (new : State)
            → Applies size w (with_puddle_added active.name class w) (with_known active.log_number active.slot active given_up memory) (Some fault) old new → AppliesNew following later (Some fault) new
        new_ungrown following given_up later fault new grows =
            finishing_stopped active.slot (FinishesTaken F made kept.puddles image) (refusal_of w line) (end_of_more class kept.puddles)
            (subst (λ (n : ℕ). FinishesTaken F n kept.puddles image (end_of_more class kept.puddles)) is_made (finishes_more F class kept.puddles image all_were_live)) size w given
            (with_known active.log_number active.slot following later memory) fault old new
            (Applies-closed size w (with_puddle_added active.name class w) given (with_known active.log_number active.slot active given_up memory) (with_known active.log_number active.slot following later memory) fault old new
            (sym (ap closed world_grown)) grows)

-- ---- the pool grew

-- Each slot of the class was live, and the pool has one more puddle for the object. The daemon is ready, and this is what it
-- knows about the pool.
pub record GrownFor (F words size : ℕ) (w : World) (memory : Memory) (active : ActiveTransaction) (kept : Known) (old : State) (id class serial : ℕ) (added : NewPuddle) (later : Known) (mid : State) : Type 0 where
  pub runs : RunsWith F words active kept size w memory old
  pub making : MayMakeObject w active id class serial
  pub more : grows w active.name class ≡ true
  pub may : MayGrow F active.slot class kept.puddles (reads old.now.words) added
  pub grew : Applies size w (with_puddle_added active.name class w) (with_known active.log_number active.slot active later memory) None old mid
  pub longer : IsLonger F active.slot class kept.puddles later.puddles (reads old.now.words) (reads mid.now.words)

pub grown_for : {F words size : ℕ} {w : World} {memory : Memory} {active : ActiveTransaction} {kept : Known} {old : State} {id class serial : ℕ} → RunsWith F words active kept size w memory old → MayMakeObject w active id class serial → grows w active.name class ≡ true
    → {added : NewPuddle} → MayGrow F active.slot class kept.puddles (reads old.now.words) added → (later : Known) (mid : State)
    → Applies size w (with_puddle_added active.name class w) (with_known active.log_number active.slot active later memory) None old mid → IsLonger F active.slot class kept.puddles later.puddles (reads old.now.words) (reads mid.now.words)
    → GrownFor F words size w memory active kept old id class serial added later mid
grown_for runs making more may later mid grew longer = record { runs = runs; making = making; more = more; may = may; grew = grew; longer = longer }

module _ {F words size : ℕ} {w : World} {memory : Memory} {active : ActiveTransaction} {kept : Known} {old : State} {id class serial : ℕ} {added : NewPuddle} {later : Known} {mid : State} (g : GrownFor F words size w memory active kept old id class serial added later mid) where
  abbrev pub grown : World
  grown = with_puddle_added active.name class w

  abbrev pub memory_grown : Memory
  memory_grown = with_known active.log_number active.slot active later memory

  -- The transaction is then active in the grown world.
  pub runs_grown : {then : ℕ} → size ≡ then → RunsWith F then active later size grown memory_grown mid
  runs_grown sized = record {
    words_are = sized;
    its = record {
      frames = g.runs.its.frames;
      there = active_here memory.active active.log_number (Some active) (active_within memory.active active.log_number active g.runs.its.there);
      known = pool_kept memory.known_pools active.slot (Some later) (known_within memory.known_pools active.slot kept.puddles (ap puddles_known g.runs.its.known));
    };
    ready = g.grew.ready refl;
  }

  -- The object may be made in the grown world, in a slot of the class.
  pub making_grown : (n : ℕ) → n ≡ class → MayMakeObject grown active id n serial
  making_grown n same = record {
    free = grown_refusal size w memory active old active.log_number g.runs.its.there g.runs.ready id class active refl refl g.making.free;
    of_class = same ∙ g.making.of_class ∙ ap (λ (ts : List (ℕ × ℕ)). class_made ts id) (sym (grown_types active.name class w.stored));
    next = g.making.next ∙ sym (grown_next size w memory active old active.log_number g.runs.its.there g.runs.ready id class);
  }

  -- The first slot of the new puddle is the lowest free one.
  pub lowest_slot : (slot : Slot) → slot.class ≡ class → place_of_slot slot ≡ places_in kept.puddles → IsLowestFreeSlot slot.class (stored_in F later.puddles (reads mid.now.words)) (place_of_slot slot)
  lowest_slot slot same first =
      subst (λ (n : ℕ). IsLowestFreeSlot n (stored_in F later.puddles (reads mid.now.words)) (place_of_slot slot)) (sym same)
      (subst (λ (p : ℕ). IsLowestFreeSlot class (stored_in F later.puddles (reads mid.now.words)) p) (sym first)
      (lowest_grown F active.slot class kept.puddles later.puddles (reads old.now.words) (reads mid.now.words) g.longer (all_were_live g.runs id class serial g.making g.more)))

  -- Another transaction and other knowledge about the pool then take their places in memory, as if the pool had not
  -- grown.
  instead : (following : ActiveTransaction) (after : Known) → with_known active.log_number active.slot following after memory_grown ≡ with_known active.log_number active.slot following after memory
  instead following after =
      ap₂ (λ (l : List (Option ActiveTransaction)) (js : List (Option Known)). record memory { active = l; known_pools = js }) (set-set memory.active active.log_number (Some active) (Some following)) (set-set memory.known_pools active.slot (Some later) (Some after))

  pub new_in_grown : (following : ActiveTransaction) (after : Known) (fault : Option HostFault) (new : State)
      → AppliesFinishing active.slot (FinishesLowest F class later.puddles (reads mid.now.words)) size grown (with_made active.name id grown) (with_known active.log_number active.slot following after memory_grown) fault mid new
      → AppliesNew g.runs id following after fault new
  new_in_grown following after fault new made =
      let line = New active.client active.name id in
      let free = free_more g.runs id class serial g.making g.more g.may in
      let longer_by = finishes_grown F active.slot class kept.puddles later.puddles (reads old.now.words) (reads mid.now.words) g.longer (some_known g.runs id) (all_were_live g.runs id class serial g.making g.more) in
      finishing_unless active.slot (FinishesOfType F id kept.puddles (reads old.now.words)) (refusal_of w line) free size w (world_by w (Some line)) (with_known active.log_number active.slot following after memory) fault old new
      (record {
        goal = made.goal;
        finishing = known_so (λ known. subst (λ (n : ℕ). FinishesTaken F n kept.puddles (reads old.now.words) made.goal) (is_made g.runs id class serial g.making) (longer_by made.goal known)) made.finishing;
        applies = subst (λ (v : World). AppliesTo (led_in active.slot made.goal) size w v (with_known active.log_number active.slot following after memory) fault old new)
            (sym (world_grown g.runs id class serial g.making g.more g.may))
            (AppliesTo-then active.slot made.goal size w grown (with_made active.name id grown) memory_grown (with_known active.log_number active.slot following after memory) fault old mid new
            refl (sym (grown_frames active.name class w.stored)) g.grew
            (subst (λ (m : Memory). AppliesTo (led_in active.slot made.goal) size grown (with_made active.name id grown) m fault mid new) (instead following after) made.applies));
      })

  pub reply_in_grown : of_reply (replies.Ref serial) ≡ answer_by w (Some (New active.client active.name id))
  reply_in_grown =
      ap (λ (n : ℕ). of_reply (replies.Ref n)) g.making.next
      ∙ sym (answer_new size w memory active old active.log_number g.runs.its.there g.runs.ready id (free_more g.runs id class serial g.making g.more g.may))
