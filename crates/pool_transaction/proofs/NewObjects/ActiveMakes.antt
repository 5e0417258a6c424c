-- An object is made within an active transaction, if a slot is free.
use Rattle.std.proofs.Common.{◌≡◌, inl, inr, ℕ, ◌+◌, ◌<◌, ◌≤◌, Bool, true, false, leb, ltb, cond, List, Option, Some, None, is_none, refl, sym, ap, subst, ◌∙◌, arith}
use Rattle.std.specs.Prelude.{unwrap_or, set}
use Rattle.std.proofs.lemmas.List.{set-set}
use Rattle.std.proofs.lemmas.Bool.{leb-false, ltb-false}
use Rattle.std.proofs.lemmas.Option.{none-some}
use Rattle.pm_model.specs.declared.host.HostFault.{HostFault}
use Rattle.pm_model.specs.Words.{reads}
use Rattle.pm_model.specs.Moments.{State}
use Rattle.pud_defs.specs.declared.layout.TheConstants.{DAEMON_LOG, LOG_WORDS, LOG_ENTRY_WORDS, NUMBER_LIMIT}
use Rattle.pud_defs.specs.declared.machine.Refusal.{Refusal}
use Rattle.pud_defs.specs.declared.machine.Refusal.TheVariants as refusals
use Rattle.pud_defs.specs.declared.records.Puddle.{Puddle}
use Rattle.pud_defs.specs.declared.records.Slot.{Slot}
use Rattle.pud_defs.specs.Formats.Image.{Image}
use Rattle.pud_defs.specs.PoolGraphs.DeferredValues.{DeferredValue}
use Rattle.pud_defs.specs.Formats.Geometry.{new_units, ordinal_of}
use Rattle.pud_defs.specs.PoolGraphs.Graph.{Graph, fits_class, graph_of}
use Rattle.pud_defs.specs.PoolGraphs.GraphChanges.{with_new, blank_object}
use Rattle.pud_defs.specs.StateMachine.PoolChanges.{pool_named}
use Rattle.pud_defs.specs.StateMachine.Step.{graph_seen, next_in, class_made, grows, object_made}
use Rattle.pud_defs.specs.PoolGraphs.Stored.{stored_in, IsFreePlace}
use Rattle.pud_defs.specs.Formats.Layout.{frames_at}
use Rattle.pud_defs.specs.StateMachine.Transactions.{charged}
use Rattle.pud_defs.specs.RegistryTables.Types.{map_of}
use Rattle.pud_defs.specs.StateMachine.World.{Transaction, World, open_on}
use Rattle.graph_laws.specs.Slots.{AreAllLive, IsLowestFreeSlot}
use Rattle.puddle_header.specs.Places.{place_of_slot, IsSlotOf}
use Rattle.log_store.specs.Store.{OpenLog}
use Rattle.graph_read.specs.Bases.{HasLowBases}
use Rattle.batch.specs.Batches.{HasIdleGate}
use Rattle.lazy_rewrite.specs.Batches.{Rewrites}
use Rattle.lazy_rewrite.specs.Frontiers.{frontiers_of}
use Rattle.known_pool.specs.Known.{Known, IsKnown, by_puddles, with_puddles}
use Rattle.known_pool.proofs.KnownKept.{IsKnown-puddles}
use Rattle.hybrid_tx.specs.PoolScopes.{ArePlacedPuddles, IsRewrittenAt}
use Rattle.pool_transaction.proofs.SlotClasses.{room_made}
use Rattle.hybrid_tx.specs.Objects.Transactions.{OpenTx, IsOpenOn, KeepsOpenOn, MakesIn}
use Rattle.daemon_memory.specs.PoolKnowledge.{puddles_known, known_pool_in}
use Rattle.daemon_memory.specs.Memory.{ActiveTransaction, Memory, active_under}
use Rattle.daemon_memory.specs.ActiveTransactions.{IsActive, IsActiveWithin}
use Rattle.pool_transaction.specs.Changing.{RunsWith, MayMakeObject, with_known, class_by_map, refusal_to_make, refusal_by_world, IsNextSerial, with_made, both_finished, MakesAfter}
use Rattle.pool_transaction.specs.Finishing.{end_of_both, FinishesLowest, AppliesFinishing}
use Rattle.daemon_memory.specs.Arriving.{AppliesTo}
use Rattle.daemon_memory.specs.Moves.{led_in}
use Rattle.daemon_memory.specs.Ready.{IsReady, Applies}
use Rattle.daemon_memory.proofs.Commands.Beneath.{ready_gate}
use Rattle.daemon_memory.proofs.PoolsKnown.Known.{known_kept_there}
use Rattle.daemon_memory.proofs.PoolsKnown.KnownOpen.{known_within}
use Rattle.pool_transaction.proofs.Lifetimes.ActiveRuns.{with_tx, is_active, active_placed, Applies-runs}
use Rattle.pool_transaction.proofs.Updates.ActiveSets.{OwesRuns, owed}
use Rattle.daemon_memory.proofs.OpenTransactions.OpenNames.{Charges-charged}
use Rattle.daemon_memory.proofs.PoolChanges.TablesBeside.{types_read}
use Rattle.pool_transaction.proofs.NewObjects.ActivePools.{grows_live, grows_not}
use Rattle.pool_transaction.proofs.NewObjects.MadeKept.{FollowsMade, Known-made, lowest_kept}
use Rattle.daemon_memory.proofs.PuddlesRewritten.Arriving.{AreEnds}
use Rattle.pool_transaction.proofs.PuddlesFinished.ActiveFinishes.{MayMakeAt, its_puddles, its_placed, its_frontiers, memory_finished, Applies-unfinished, Applies-after, ready_finished, known_finished, spared_finished, may_make_at}
use Rattle.daemon_memory.proofs.PuddlesRewritten.StepsBeside.{low_of_placed}
use Rattle.pool_transaction.proofs.PuddlesFinished.FinishedPools.{class_after, HaveMoved-both, IsSlotOf-moved}
use Rattle.pool_transaction.proofs.PuddlesFinished.Leading.{ends_both, finishes_lowest, finishing_led}
use Rattle.daemon_memory.proofs.PuddlesRewritten.StepsMoved.{upto}

-- ---- what is not refused

not_so : (b : Bool) (r : Refusal) (rest : Option Refusal) → cond b (Some r) rest ≡ None → (b ≡ false) × (rest ≡ None)
not_so true r rest none = absurd (none-some r (sym none))
not_so false r rest none = (refl, none)

some_there : {A : Type 0} (o : Option A) → is_none o ≡ false → (x : A) × (o ≡ Some x)
some_there None there = absurd (let no : true ≡ false = there in cc)
some_there (Some x) there = (x, refl)

-- The type is defined, the units fit, and a serial is left.
pub record MayMake (map : Option ℕ) (units next : ℕ) : Type 0 where
  pub is : ℕ
  pub defined : map ≡ Some is
  pub fits : units + new_units (class_by_map map) ≤ LOG_ENTRY_WORDS
  pub left : next < NUMBER_LIMIT

pub may_make : (map : Option ℕ) (units next : ℕ) → refusal_to_make map units next ≡ None → MayMake map units next
may_make map units next none =
    let type = not_so (is_none map) refusals.NoType _ none in
    let big = not_so (ltb LOG_ENTRY_WORDS (units + new_units (class_by_map map))) refusals.TooBig _ type.1 in
    let full = not_so (leb NUMBER_LIMIT next) refusals.Full None big.1 in
    let there = some_there map type.0 in
    record { is = there.0; defined = there.1; fits = ltb-false LOG_ENTRY_WORDS (units + new_units (class_by_map map)) big.0; left = leb-false NUMBER_LIMIT next full.0 }

-- The units of an object that is not refused fit.
pub units_fit : (w : World) (active : ActiveTransaction) (id : ℕ) → refusal_by_world w active id ≡ None → active.tx.units + new_units (class_made w.stored.types id) ≤ LOG_ENTRY_WORDS
units_fit w active id none = (may_make (map_of id w.stored.types) active.tx.units (next_in (graph_seen (open_on active.name w) (pool_named active.name w.stored))) none).fits

module _ (size : ℕ) (w : World) (memory : Memory) (active : ActiveTransaction) (old : State) (number : ℕ) (there : active_under memory.active number ≡ Some active) (ready : IsReady size w memory old) where
  abbrev is : IsActive w active ready.mask old.now.words
  is = is_active size w memory active old number there ready

  -- The next serial is that of the transaction's graph.
  pub next_serial : next_in (graph_seen (open_on active.name w) (pool_named active.name w.stored)) ≡ is.own.transaction.now.next_serial
  next_serial = ap (λ (o : Option Transaction). next_in (graph_seen o (pool_named active.name w.stored))) is.own.is

  module _ (F : ℕ) (at : List (ℕ × Puddle)) (same : F ≡ w.stored.frames) (listed : at ≡ is.puddles) where
    live_there : (class : ℕ) → AreAllLive class (stored_in F at (reads old.now.words)) → AreAllLive class (stored_in w.stored.frames is.puddles (reads old.now.words))
    live_there class live =
        subst (λ (n : ℕ). AreAllLive class (stored_in n is.puddles (reads old.now.words))) same (subst (λ (puddles : List (ℕ × Puddle)). AreAllLive class (stored_in F puddles (reads old.now.words))) listed live)

    -- If the pool is to grow, each slot of the class is live. If it is not to grow, not each slot of the class is live.
    pub all_live : (class : ℕ) → grows w active.name class ≡ true → AreAllLive class (stored_in F at (reads old.now.words))
    all_live class more =
        subst (λ (puddles : List (ℕ × Puddle)). AreAllLive class (stored_in F puddles (reads old.now.words))) (sym listed)
        (subst (λ (n : ℕ). AreAllLive class (stored_in n is.puddles (reads old.now.words))) (sym same) (grows_live size w memory active old number there ready class more))

    pub not_live : (class : ℕ) → grows w active.name class ≡ false → AreAllLive class (stored_in F at (reads old.now.words)) → ⊥
    not_live class less live = grows_not size w memory active old number there ready class less (live_there class live)

    -- What a call that makes an object in a slot owes, on these puddles.
    abbrev OwesMakes : (slot : Slot) (id serial : ℕ) → Option HostFault → State → List (ℕ × Puddle) → Type 0
    OwesMakes slot id serial fault new puddles =
        ArePlacedPuddles F puddles → IsOpenOn F puddles w.stored.types active.tx.log is.before is.graph_before is.own.transaction.now is.own.transaction.deferred old.now.words → serial ≡ is.own.transaction.now.next_serial → is.own.transaction.now.next_serial < NUMBER_LIMIT
        → MakesIn F puddles active.tx.log.gate_at slot id fault old new

    -- The call makes the object in this slot.
    pub made_there : (id : ℕ) → refusal_by_world w active id ≡ None → (serial : ℕ) → IsNextSerial w active serial → (fault : Option HostFault) (new : State) (slot : Slot) → OwesMakes slot id serial fault new at
        → MakesIn F at active.tx.log.gate_at slot id fault old new
    made_there id none serial is_next fault new slot owes =
        let may = may_make (map_of id w.stored.types) active.tx.units (next_in (graph_seen (open_on active.name w) (pool_named active.name w.stored))) none in
        owes
        (subst (ArePlacedPuddles F) (sym listed) (subst (λ (n : ℕ). ArePlacedPuddles n is.puddles) (sym same) (active_placed size w memory active old number there ready)))
        (subst (λ (puddles : List (ℕ × Puddle)). IsOpenOn F puddles w.stored.types active.tx.log is.before is.graph_before is.own.transaction.now is.own.transaction.deferred old.now.words) (sym listed)
        (subst (λ (n : ℕ). IsOpenOn n is.puddles w.stored.types active.tx.log is.before is.graph_before is.own.transaction.now is.own.transaction.deferred old.now.words) (sym same) is.running))
        (is_next ∙ next_serial)
        (subst (λ (n : ℕ). n < NUMBER_LIMIT) next_serial may.left)

    module _ (id : ℕ) (none : refusal_by_world w active id ≡ None) (tx : OpenTx) (new : State) (gate : tx.log.gate_at ≡ active.tx.log.gate_at) where
      may : MayMake (map_of id w.stored.types) active.tx.units (next_in (graph_seen (open_on active.name w) (pool_named active.name w.stored)))
      may = may_make (map_of id w.stored.types) active.tx.units (next_in (graph_seen (open_on active.name w) (pool_named active.name w.stored))) none

      -- The class in which it is made.
      abbrev class : ℕ
      class = class_made w.stored.types id

      the_object : with_new (blank_object class id may.is) ≡ with_new (object_made w id)
      the_object = ap (λ (o : Option ℕ). with_new (blank_object class id (unwrap_or o 0))) (sym may.defined)

      pub Applies-made : (kept : Known) → kept.puddles ≡ is.puddles → (fault : Option HostFault)
          → ((m : ℕ) → map_of id w.stored.types ≡ Some m → is.own.transaction.now.next_serial < NUMBER_LIMIT
          → OwesRuns size w memory active old number there ready F at same listed tx new gate F at (charged (new_units class) (with_new (blank_object class id m))) fault)
          → (fault ≡ None → tx.units ≡ active.tx.units + new_units class) → (fault ≡ None → IsKnown F (reads new.now.words) kept)
          → Applies size w (with_made active.name id w) (with_known number active.slot (with_tx tx active) kept memory) fault old new
      Applies-made kept same_puddles fault runs used so =
          let left = subst (λ (n : ℕ). n < NUMBER_LIMIT) next_serial may.left in
          let at_first = owed size w memory active old number there ready F at same listed tx new gate (charged (new_units class) (with_new (blank_object class id may.is))) fault (runs may.is may.defined left) in
          Applies-runs size w memory active old number there ready kept same_puddles tx (new_units class) (charged (new_units class) (with_new (object_made w id))) (Charges-charged (new_units class) (with_new (object_made w id))) fault new gate used
          (subst (λ (change : Graph → Graph). KeepsOpenOn w.stored.frames is.puddles w.stored.types tx.log is.before is.graph_before (change is.own.transaction.now) is.own.transaction.deferred fault old new) the_object at_first)
          (λ none. subst (λ (n : ℕ). IsKnown n (reads new.now.words) kept) same (so none))

      -- What the daemon knows about the pool then holds, if the object is kept too.
      pub Known-active : (fault : Option HostFault)
          → ((m : ℕ) → map_of id w.stored.types ≡ Some m → is.own.transaction.now.next_serial < NUMBER_LIMIT
          → OwesRuns size w memory active old number there ready F at same listed tx new gate F at (charged (new_units class) (with_new (blank_object class id m))) fault)
          → (fault ≡ None → tx.units ≡ active.tx.units + new_units class) → fault ≡ None → (slot : Slot) → IsSlotOf at slot → slot.class ≡ class → active.tx.log.gate_at + LOG_WORDS ≤ frames_at F
          → IsLowestFreeSlot slot.class (stored_in F at (reads old.now.words)) (place_of_slot slot) → MakesIn F at active.tx.log.gate_at slot id None old new → (kept : Known) → kept.puddles ≡ at → IsKnown F (reads old.now.words) kept
          → (serial : ℕ) → IsNextSerial w active serial → (next : Known) → FollowsMade serial slot kept next → IsKnown F (reads new.now.words) next
      Known-active fault runs used none_failed slot of is_class apart lowest makes kept puddles so serial is_serial next follows =
          let left = subst (λ (n : ℕ). n < NUMBER_LIMIT) next_serial may.left in
          let ran = owed size w memory active old number there ready F at same listed tx new gate (charged (new_units class) (with_new (blank_object class id may.is))) fault (runs may.is may.defined left) in
          let ready_new = (Applies-made (by_puddles at) listed fault runs used (λ _. IsKnown-puddles F at (reads new.now.words))).ready none_failed in
          let placed = subst (ArePlacedPuddles F) (sym listed) (subst (λ (n : ℕ). ArePlacedPuddles n is.puddles) (sym same) (active_placed size w memory active old number there ready)) in
          let room = ap (λ (n : ℕ). fits_class n may.is) is_class ∙ room_made w.stored.types id may.is may.defined in
          Known-made w.stored.types F at active.tx.log.gate_at slot of id may.is old new placed apart makes lowest may.defined room kept puddles so
          (types_read size w memory old ready).types
          (types_read size (with_made active.name id w) (with_known number active.slot (with_tx tx active) (by_puddles at) memory) new ready_new).types
          is.own.transaction.now
          ((λ i. graph_of w.stored.types (stored_in (same i) (listed i) (reads old.now.words))) ∙ is.running.is)
          ((λ i. graph_of w.stored.types (stored_in (same i) (listed i) (reads new.now.words))) ∙ ran.is none_failed ∙ ap (λ (n : ℕ). Some (with_new (blank_object n id may.is) is.own.transaction.now)) (sym is_class))
          serial (is_serial ∙ next_serial) next follows

-- ---- the calls that make an object in a slot

-- What the call that makes the object owes, on these puddles.
abbrev pub RunsMaking : (F : ℕ) → List (ℕ × Puddle) → Slot → (id serial : ℕ) → (log now : OpenLog) → Option HostFault → State → State → Type 0
RunsMaking F at slot id serial log now fault old new =
    (types : List (ℕ × ℕ)) (m : ℕ) (before : Image) (graph_before : Graph) (seen : Graph) (deferred : List DeferredValue) → ArePlacedPuddles F at → IsOpenOn F at types log before graph_before seen deferred old.now.words → map_of id types ≡ Some m → fits_class slot.class m ≡ true
    → serial ≡ seen.next_serial → seen.next_serial < NUMBER_LIMIT → IsRewrittenAt at 0 → IsRewrittenAt at slot.ordinal → IsFreePlace (stored_in F at (reads old.now.words)) (place_of_slot slot)
    → KeepsOpenOn F at types now before graph_before (with_new (blank_object slot.class id m) seen) deferred fault old new

-- What the call owes about the words that it writes.
abbrev pub WritesMaking : (F : ℕ) → List (ℕ × Puddle) → Slot → (id serial : ℕ) → OpenLog → Option HostFault → State → State → Type 0
WritesMaking F at slot id serial log fault old new =
    (types : List (ℕ × ℕ)) (before : Image) (graph_before : Graph) (seen : Graph) (deferred : List DeferredValue) → ArePlacedPuddles F at → IsOpenOn F at types log before graph_before seen deferred old.now.words
    → serial ≡ seen.next_serial → seen.next_serial < NUMBER_LIMIT → IsRewrittenAt at 0 → IsRewrittenAt at slot.ordinal → MakesIn F at log.gate_at slot id fault old new

-- What is stated about both calls: the object is made in the slot, and this is what the daemon then knows about the
-- pool.
abbrev pub IsMade : (F size : ℕ) → World → Memory → ActiveTransaction → Known → (old : State) → (id : ℕ) → Slot → (now : ActiveTransaction) → (more : Known) → (later : List (ℕ × Puddle)) → Option HostFault → (new : State) → Type 0
IsMade F size w memory active kept old id slot now more later fault new =
    AppliesFinishing active.slot (FinishesLowest F slot.class kept.puddles (reads old.now.words)) size w (with_made active.name id w) (with_known active.log_number active.slot now more memory) fault old new
    × MakesAfter F kept.puddles later active.tx.log.gate_at slot id fault old new

-- The statement about both calls holds if the transaction runs, the object may be made, and the slot is the pool's
-- lowest free one of its class.
abbrev pub MakesIt : (F words size : ℕ) → World → Memory → (old : State) → (id serial : ℕ) → Slot → (now : ActiveTransaction) → (more : Known) → (later : List (ℕ × Puddle)) → Option HostFault → (new : State) → ActiveTransaction → Known → Type 0
MakesIt F words size w memory old id serial slot now more later fault new active kept =
    RunsWith F words active kept size w memory old → MayMakeObject w active id slot.class serial → IsActiveWithin F active → IsSlotOf kept.puddles slot → IsLowestFreeSlot slot.class (stored_in F kept.puddles (reads old.now.words)) (place_of_slot slot)
    → IsMade F size w memory active kept old id slot now more later fault new

-- The same is true of a transaction and of knowledge that equal these.
pub seen_as : (F words size : ℕ) (w : World) (memory : Memory) (old : State) (id serial : ℕ) (slot : Slot) (now : ActiveTransaction) (more : Known) (later : List (ℕ × Puddle)) (fault : Option HostFault) (new : State) (active seen : ActiveTransaction) (kept known : Known)
    → active ≡ seen → kept ≡ known → MakesIt F words size w memory old id serial slot now more later fault new active kept → MakesIt F words size w memory old id serial slot now more later fault new seen known
seen_as F words size w memory old id serial slot now more later fault new active seen kept known same view makes =
    subst (λ (o : ActiveTransaction). MakesIt F words size w memory old id serial slot now more later fault new o known) same
    (subst (λ (k : Known). MakesIt F words size w memory old id serial slot now more later fault new active k) view makes)

module _ {F words size : ℕ} {w : World} {memory : Memory} {active : ActiveTransaction} {kept : Known} {old : State} (runs : RunsWith F words active kept size w memory old) (id serial : ℕ)
    (slot : Slot) (making : MayMakeObject w active id slot.class serial) (of : IsSlotOf kept.puddles slot) (lowest : IsLowestFreeSlot slot.class (stored_in F kept.puddles (reads old.now.words)) (place_of_slot slot)) where
  on : F ≡ w.stored.frames
  on = sym runs.its.frames ∙ runs.ready.frames

  abbrev at : List (ℕ × Puddle)
  at = kept.puddles

  -- The class of the type.
  abbrev of_type : ℕ
  of_type = class_made w.stored.types id

  abbrev goal : ℕ → ℕ
  goal = frontiers_of (both_finished slot.ordinal at)

  -- What the call that rewrites the puddles owes.
  abbrev pub OwesFinish : List (ℕ × Puddle) → Option HostFault → State → Type 0
  OwesFinish later fault mid = HasIdleGate DAEMON_LOG old.now.words → HasLowBases at → Rewrites F goal at later fault old mid

  -- What is stated about both calls.
  abbrev Made : ActiveTransaction → Known → List (ℕ × Puddle) → Option HostFault → State → Type 0
  Made now more later fault new = IsMade F size w memory active kept old id slot now more later fault new

  abbrev Led : Memory → Option HostFault → State → Type 0
  Led following fault new = AppliesTo (led_in active.slot (end_of_both at slot.ordinal)) size w (with_made active.name id w) following fault old new

  led_there : (following : Memory) (fault : Option HostFault) (new : State) → Led following fault new → AppliesFinishing active.slot (FinishesLowest F slot.class at (reads old.now.words)) size w (with_made active.name id w) following fault old new
  led_there following fault new led =
      finishing_led active.slot (FinishesLowest F slot.class at (reads old.now.words)) (end_of_both at slot.ordinal) (finishes_lowest F slot.class at (reads old.now.words) slot of lowest) size w (with_made active.name id w) following fault old new led

  its_ends : AreEnds at (both_finished slot.ordinal at) (upto goal) (end_of_both at slot.ordinal)
  its_ends = ends_both at slot.ordinal (its_frontiers size w memory active old active.log_number runs.its.there runs.ready F on kept runs.its.known)

  rewrites_at : (later : List (ℕ × Puddle)) (fault : Option HostFault) (mid : State) → OwesFinish later fault mid → Rewrites F goal at later fault old mid
  rewrites_at later fault mid owes = owes (ready_gate size w memory old runs.ready) (low_of_placed F at (its_placed size w memory active old active.log_number runs.its.there runs.ready F on kept runs.its.known))

  -- If the puddles were not rewritten to their ends, the statement about both calls holds.
  pub not_finished : (later : List (ℕ × Puddle)) (fault : HostFault) (mid : State) → OwesFinish later (Some fault) mid → (now : ActiveTransaction) (more : Known) → Made now more later (Some fault) mid
  not_finished later fault mid owes now more = (
    led_there (with_known active.log_number active.slot now more memory) (Some fault) mid
        (Applies-unfinished size w memory active old active.log_number runs.its.there runs.ready F on kept runs.its.known goal later (both_finished slot.ordinal at) (end_of_both at slot.ordinal) its_ends fault mid owes
        (with_made active.name id w) (with_known active.log_number active.slot now more memory) refl),
    record {
      mid = mid;
      first = Some fault;
      does = record { rewrites = rewrites_at later (Some fault) mid owes; whole = λ none. absurd (none-some fault (sym none)) };
      then = inl ((λ no. none-some fault (sym no)), (refl, refl));
    },
  )

  -- The puddles were rewritten to their ends.
  module _ (later : List (ℕ × Puddle)) (mid : State) (owes : OwesFinish later None mid) (is_both : later ≡ both_finished slot.ordinal at) where
    abbrev following : Memory
    following = memory_finished size w memory active old active.log_number runs.its.there runs.ready F on kept runs.its.known goal later

    abbrev left : Known
    left = with_puddles later kept

    ready_then : IsReady size w following mid
    ready_then = ready_finished size w memory active old active.log_number runs.its.there runs.ready F on kept runs.its.known goal later mid owes

    known_then : known_pool_in following.known_pools active.slot ≡ Some left
    known_then = known_finished size w memory active old active.log_number runs.its.there runs.ready F on kept runs.its.known goal later mid owes

    so_then : IsKnown F (reads mid.now.words) left
    so_then = subst (λ (n : ℕ). IsKnown n (reads mid.now.words) left) (sym on) (ready_then.knows.known_pools.known active.slot left known_then)

    free_then : MayMakeAt F later (reads mid.now.words) slot
    free_then = may_make_at size w memory active old active.log_number runs.its.there runs.ready F on kept runs.its.known goal later mid owes slot is_both lowest

    lowest_then : IsLowestFreeSlot slot.class (stored_in F later (reads mid.now.words)) (place_of_slot slot)
    lowest_then =
        let spares = spared_finished size w memory active old active.log_number runs.its.there runs.ready F on kept runs.its.known goal later mid owes in
        lowest_kept F slot.class at later (reads old.now.words) (reads mid.now.words) (record { count = spares.moved.count; classes = λ p below. class_after at later spares.moved (ordinal_of p); each = spares.serials }) (place_of_slot slot) lowest

    of_then : IsSlotOf later slot
    of_then = subst (λ (ds : List (ℕ × Puddle)). IsSlotOf ds slot) (sym is_both) (IsSlotOf-moved at (both_finished slot.ordinal at) slot (HaveMoved-both slot.ordinal at) of)

    listed : later ≡ (is_active size w following active mid active.log_number runs.its.there ready_then).puddles
    listed = its_puddles size w following active mid active.log_number runs.its.there ready_then F on left known_then

    next_then : next_in (graph_seen (open_on active.name w) (pool_named active.name w.stored)) ≡ (is_active size w following active mid active.log_number runs.its.there ready_then).own.transaction.now.next_serial
    next_then = next_serial size w following active mid active.log_number runs.its.there ready_then

    -- The call that makes the object was made on these puddles.
    module _ (tx : OpenTx) (fault : Option HostFault) (new : State) (gate : tx.log.gate_at ≡ active.tx.log.gate_at) (within : IsActiveWithin F active) (lent : List (ℕ × Puddle)) (is_lent : lent ≡ later)
        (owes_runs : RunsMaking F lent slot id serial active.tx.log tx.log fault mid new) (owes_writes : WritesMaking F lent slot id serial active.tx.log fault mid new) (used : fault ≡ None → tx.units ≡ active.tx.units + new_units slot.class) where
      owed_runs : (m : ℕ) → map_of id w.stored.types ≡ Some m → (is_active size w following active mid active.log_number runs.its.there ready_then).own.transaction.now.next_serial < NUMBER_LIMIT
          → OwesRuns size w following active mid active.log_number runs.its.there ready_then F later on listed tx new gate F later (charged (new_units of_type) (with_new (blank_object of_type id m))) fault
      owed_runs m defined low placed running =
          let one = is_active size w following active mid active.log_number runs.its.there ready_then in
          let room = ap (λ (n : ℕ). fits_class n m) making.of_class ∙ room_made w.stored.types id m defined in
          subst (λ (n : ℕ). KeepsOpenOn F later w.stored.types tx.log one.before one.graph_before (with_new (blank_object n id m) one.own.transaction.now) one.own.transaction.deferred fault mid new) making.of_class
          (subst (λ (ds : List (ℕ × Puddle)). RunsMaking F ds slot id serial active.tx.log tx.log fault mid new) is_lent owes_runs w.stored.types m _ _ _ _ placed running defined room (making.next ∙ next_then) low free_then.first free_then.its free_then.free)

      -- The object took the units of its class.
      used_then : fault ≡ None → tx.units ≡ active.tx.units + new_units of_type
      used_then done = used done ∙ ap (λ (n : ℕ). active.tx.units + new_units n) making.of_class

      makes_then : MakesIn F later active.tx.log.gate_at slot id fault mid new
      makes_then =
          made_there size w following active mid active.log_number runs.its.there ready_then F later on listed id making.free serial making.next fault new slot
          (λ placed running is low. subst (λ (ds : List (ℕ × Puddle)). WritesMaking F ds slot id serial active.tx.log fault mid new) is_lent owes_writes w.stored.types _ _ _ _ placed running is low free_then.first free_then.its)

      -- If what the daemon knows follows the new object, the statement about both calls holds.
      pub was_made : (more : Known) → more.puddles ≡ later → (fault ≡ None → FollowsMade serial slot left more) → Made (with_tx tx active) more later fault new
      was_made more puddles follows =
          let at_gate = within.gate in
          let at_number = within.number in
          let so : fault ≡ None → IsKnown F (reads new.now.words) more =
          λ done. Known-active size w following active mid active.log_number runs.its.there ready_then F later on listed id making.free tx new gate fault owed_runs used_then done slot of_then making.of_class (omega (arith, at_gate, at_number)) lowest_then
          (subst (λ (f : Option HostFault). MakesIn F later active.tx.log.gate_at slot id f mid new) done makes_then) left refl so_then serial making.next more (follows done) in
          let applies : Applies size w (with_made active.name id w) (with_known active.log_number active.slot (with_tx tx active) more memory) fault mid new =
          subst (λ (js : List (Option Known)). Applies size w (with_made active.name id w) (record memory { active = set memory.active active.log_number (Some (with_tx tx active)); known_pools = js }) fault mid new)
          (set-set memory.known_pools active.slot (Some left) (Some more))
          (Applies-made size w following active mid active.log_number runs.its.there ready_then F later on listed id making.free tx new gate more (puddles ∙ listed) fault owed_runs used_then so) in (
            led_there (with_known active.log_number active.slot (with_tx tx active) more memory) fault new
                (Applies-after size w memory active old active.log_number runs.its.there runs.ready F on kept runs.its.known goal later (both_finished slot.ordinal at) (end_of_both at slot.ordinal) its_ends mid owes
                (with_made active.name id w) (with_known active.log_number active.slot (with_tx tx active) more memory) fault new refl
                (known_kept_there memory.known_pools active.slot more (known_within memory.known_pools active.slot at (ap puddles_known runs.its.known)) ∙ ap (λ (ds : List (ℕ × Puddle)). Some ds) (puddles ∙ is_both)) applies),
            record {
              mid = mid;
              first = None;
              does = record { rewrites = rewrites_at later None mid owes; whole = λ _. is_both };
              then = inr (refl, makes_then);
            },
          )
