-- What a line that makes an object in an active transaction writes: in the lowest free slot of its class, or after the
-- pool has grown by one puddle.
use Rattle.std.proofs.Common.{◌≡◌, inl, inr, ℕ, true, List, Option, Some, None, Result, Err, refl, sym, subst, ◌∙◌}
use Rattle.std.specs.Prelude.{IfOk}
use Rattle.std.proofs.lemmas.Option.{none-some}
use Rattle.pm_model.specs.declared.host.HostFault.{HostFault}
use Rattle.pm_model.specs.Counts.{fault_of}
use Rattle.pm_model.specs.Words.{reads}
use Rattle.pm_model.specs.Moments.{State}
use Rattle.pud_defs.specs.declared.machine.Command.{Command}
use Rattle.pud_defs.specs.declared.machine.Command.TheVariants.{New}
use Rattle.pud_defs.specs.declared.machine.Reply.{Reply}
use Rattle.pud_defs.specs.declared.machine.Reply.TheVariants as replies
use Rattle.pud_defs.specs.declared.records.Puddle.{Puddle}
use Rattle.pud_defs.specs.declared.records.Slot.{Slot}
use Rattle.pud_defs.specs.PoolGraphs.Stored.{stored_in}
use Rattle.pud_defs.specs.StateMachine.Step.{grows, refusal_of}
use Rattle.pud_defs.specs.StateMachine.World.{World}
use Rattle.graph_laws.specs.Slots.{IsLowestFreeSlot}
use Rattle.puddle_header.specs.Places.{place_of_slot, IsSlotOf}
use Rattle.known_pool.specs.Known.{Known}
use Rattle.registry.specs.declared.adding.NewPuddle.{NewPuddle}
use Rattle.registry.specs.Adding.{filling, PersistsThenCommits}
use Rattle.registry.specs.Growth.{growing}
use Rattle.registry.specs.Puts.{puts_batch}
use Rattle.daemon_memory.specs.Memory.{ActiveTransaction, Memory}
use Rattle.daemon_memory.specs.Ready.{Applies}
use Rattle.pool_transaction.specs.Changing.{RunsWith, MayMakeObject, with_known, with_puddle_added}
use Rattle.pool_transaction.specs.Premises.{AppliesMaking, MakesFor, DoesNew, DoesNewGrown}
use Rattle.pool_transaction.specs.Writing.{IsOpenLogOf, MakesLowest, GrowsThenMakes, MakesOfClass, MakesObject}
use Rattle.pool_transaction.proofs.NewObjects.ActiveLines.{MayGrow, GrownFor, is_made, was_free, free_less, free_more, all_were_live, new_made, reply_made, new_ungrown, grown, memory_grown, new_in_grown, reply_in_grown}
use Rattle.pool_transaction.proofs.Updates.ChangeAnswers.{reply_as}
use Rattle.pool_transaction.proofs.WordsWritten.OpenLogs.{open_log, does_free, does_more}

module _ {F words size : ℕ} {w : World} {memory : Memory} {active : ActiveTransaction} {kept : Known} {old : State} (runs : RunsWith F words active kept size w memory old) (id : ℕ) where
  abbrev line : Command
  line = New active.client active.name id

  abbrev gate : ℕ
  gate = active.tx.log.gate_at

  its_log : IsOpenLogOf F active.client (reads old.now.words) gate
  its_log = open_log size w memory active old active.log_number runs.its.there runs.ready F (sym runs.its.frames ∙ runs.ready.frames)

  -- What the line does.
  abbrev Does : Option HostFault → State → State → Type 0
  Does = MakesObject F active.client id active.slot kept.puddles

  module _ (class serial : ℕ) (making : MayMakeObject w active id class serial) where
    -- What the line does if no slot of the class is free.
    abbrev Grown : Option HostFault → State → State → Type 0
    Grown = GrowsThenMakes F id class active.slot gate kept.puddles

    -- An object that is made so in the class is what the line makes.
    makes_object : (fault : Option HostFault) (new : State) → MakesOfClass F id class active.slot gate kept.puddles fault old new → Does fault old new
    makes_object fault new makes = record {
      gate = gate;
      is = its_log;
      makes = subst (λ (n : ℕ). MakesOfClass F id n active.slot gate kept.puddles fault old new) (is_made runs id class serial making) makes;
    }

    -- What is done if no slot of the class is free is what the line does.
    pub new_in_more : (following : ActiveTransaction) (later : Known) (done : Result Reply HostFault) (new : State) → DoesNewGrown F active following kept later id class size w memory done old new → DoesNew F active following kept later id size w memory done old new
    new_in_more following later done new d = record {
      reply = d.reply;
      applies = d.applies;
      writes = does_more Grown Does (refusal_of w line) (fault_of done) old new (λ grown. makes_object (fault_of done) new (inr grown)) d.writes;
    }

    -- If a slot of the class is free, the object is made there.
    pub new_in_slot : (following : ActiveTransaction) (later : Known) (slot : Slot) → IsSlotOf kept.puddles slot → slot.class ≡ class → (done : Result Reply HostFault) → IfOk done (λ reply. reply ≡ replies.Ref serial) → (new : State)
        → IsLowestFreeSlot class (stored_in F kept.puddles (reads old.now.words)) (place_of_slot slot)
        → AppliesMaking F id slot.class active following kept later size w memory (fault_of done) old new × MakesFor F active kept later slot id (fault_of done) old new → DoesNew F active following kept later id size w memory done old new
    new_in_slot following later slot of same done told new lowest made =
        let less = was_free runs id class serial making (place_of_slot slot) lowest in
        record {
          reply = reply_as done told (reply_made runs id class serial making less);
          applies = new_made runs id class serial making following later (fault_of done) new less
              (subst (λ (n : ℕ). AppliesMaking F id n active following kept later size w memory (fault_of done) old new) same made.0);
          writes = does_free Does (refusal_of w line) (fault_of done) (free_less runs id class serial making less)
              (makes_object (fault_of done) new (inl (record { slot = slot; of = of; lowest = lowest; later = later.puddles; makes = made.1 })));
        }

    -- If the puddle was not added, the line did what it may.
    pub new_not_grown : (more : grows w active.name class ≡ true) (a : NewPuddle) (may : MayGrow F active.slot class kept.puddles (reads old.now.words) a) (later : Known) (fault : HostFault) (new : State)
        → Applies size w (with_puddle_added active.name class w) (with_known active.log_number active.slot active later memory) (Some fault) old new → PersistsThenCommits (filling F a) (puts_batch (growing a)) (Some fault) old new
        → DoesNewGrown F active active kept later id class size w memory (Err fault) old new
    new_not_grown more a may later fault new grows commits = record {
      reply = tt;
      applies = new_ungrown runs id class serial making more may active later later fault new grows;
      writes = does_free Grown (refusal_of w line) (Some fault) (free_more runs id class serial making more may)
          (record {
            mid = new;
            first = Some fault;
            does = record { live = all_were_live runs id class serial making more; added = a; is = may.by; commits = commits };
            then = inl ((λ no. none-some fault (sym no)), (refl, refl));
          });
    }

-- If the puddle was added, the object is made in a slot of the pool as it is read.
pub new_in_puddle : {F words size : ℕ} {w : World} {memory : Memory} {active : ActiveTransaction} {kept : Known} {old : State} {id class serial : ℕ} {added : NewPuddle} {later : Known} {mid : State} (g : GrownFor F words size w memory active kept old id class serial added later mid)
    → PersistsThenCommits (filling F added) (puts_batch (growing added)) None old mid → (slot : Slot) → IsSlotOf later.puddles slot → slot.class ≡ class → IsLowestFreeSlot slot.class (stored_in F later.puddles (reads mid.now.words)) (place_of_slot slot)
    → (following : ActiveTransaction) (after : Known) (done : Result Reply HostFault) → IfOk done (λ reply. reply ≡ replies.Ref serial) → (new : State)
    → AppliesMaking F id slot.class active following later after size (grown g) (memory_grown g) (fault_of done) mid new × MakesFor F active later after slot id (fault_of done) mid new → DoesNewGrown F active following kept after id class size w memory done old new
new_in_puddle {F} {words} {size} {w} {memory} {active} {kept} {old} {id} {class} {serial} {added} {later} {mid} g commits slot of same lowest following after done told new made = record {
  reply = reply_as done told (reply_in_grown g);
  applies = new_in_grown g following after (fault_of done) new
      (subst (λ (n : ℕ). AppliesMaking F id n active following later after size (grown g) (memory_grown g) (fault_of done) mid new) same made.0);
  writes = does_free (GrowsThenMakes F id class active.slot active.tx.log.gate_at kept.puddles) (refusal_of w (New active.client active.name id)) (fault_of done) (free_more g.runs id class serial g.making g.more g.may)
      (record {
        mid = mid;
        first = None;
        does = record { live = all_were_live g.runs id class serial g.making g.more; added = added; is = g.may.by; commits = commits };
        then = inr (
          refl,
          subst (λ (ps : List (ℕ × Puddle)). MakesLowest F id class active.tx.log.gate_at ps (fault_of done) mid new) g.longer.turn
              (record { slot = slot; of = of; lowest = subst (λ (n : ℕ). IsLowestFreeSlot n (stored_in F later.puddles (reads mid.now.words)) (place_of_slot slot)) same lowest; later = after.puddles; makes = made.1 }),
        );
      });
}
