-- Which lines on an active transaction are refused.
use Rattle.std.proofs.Common.{◌≡◌, inl, inr, ℕ, ◌+◌, Bool, true, false, not, cond, ◌&&◌, ◌||◌, ltb, eqb, Option, Some, None, is_none, option_map, refl, sym, ap, subst, ◌∙◌}
use Rattle.std.specs.Prelude.{slice_get, List, IfSome}
use Rattle.std.specs.Option.{option_or}
use Rattle.std.proofs.lemmas.Option.{none-some}
use Rattle.pm_model.specs.Words.{reads}
use Rattle.pm_model.specs.Moments.{State}
use Rattle.pud_defs.specs.declared.layout.TheConstants.{LOG_ENTRY_WORDS, SET_UNITS}
use Rattle.pud_defs.specs.declared.objects.FieldValue.{FieldValue}
use Rattle.pud_defs.specs.declared.records.Puddle.{Puddle}
use Rattle.pud_defs.specs.declared.records.Slot.{Slot}
use Rattle.pud_defs.specs.declared.objects.FieldValue.TheVariants.{Num, Ref}
use Rattle.pud_defs.specs.declared.machine.Command.TheVariants.{Commit, Set, Root, Free}
use Rattle.pud_defs.specs.declared.machine.Refusal.{Refusal}
use Rattle.pud_defs.specs.declared.machine.Refusal.TheVariants as refusals
use Rattle.pud_defs.specs.Formats.Image.{Image}
use Rattle.pud_defs.specs.RegistryTables.Types.{types_of}
use Rattle.pud_defs.specs.PoolGraphs.Stored.{stored_in}
use Rattle.pud_defs.specs.PoolGraphs.Graph.{Graph, Object, object_at, object_in, is_referenced, graph_of}
use Rattle.pud_defs.specs.PoolGraphs.DeferredValues.{deferred_set_names}
use Rattle.pud_defs.specs.StateMachine.PoolChanges.{pool_named}
use Rattle.pud_defs.specs.StateMachine.World.{Transaction, World, open_on}
use Rattle.pud_defs.specs.StateMachine.Transactions.{units_of, deferred_of}
use Rattle.pud_defs.specs.StateMachine.Step.{graph_seen, field_of, is_dangling, differ_in_kind, refusal_of}
use Rattle.puddle_header.specs.Places.{place_of_slot}
use Rattle.graph_read.specs.declared.fields.FieldRead.{FieldRead}
use Rattle.graph_read.specs.declared.fields.FieldRead.TheVariants.{NoObject, NoField, Value}
use Rattle.graph_read.specs.Reading.{table_in, place_in_pool, read_value, read_by}
use Rattle.daemon_memory.specs.Memory.{ActiveTransaction, Memory, active_under}
use Rattle.daemon_memory.specs.ActiveTransactions.{IsActive}
use Rattle.log_store.specs.Store.{OpenLog}
use Rattle.hybrid_tx.specs.PoolScopes.{ArePlacedPuddles}
use Rattle.hybrid_tx.specs.Objects.Stores.{address_at, word_for, IsPlaceAndWord, LacksPlaceOrWord}
use Rattle.hybrid_tx.specs.Objects.Transactions.{IsOpenOn}
use Rattle.hybrid_tx.proofs.Objects.FieldsSet.{object_by_place}
use Rattle.pool_transaction.specs.declared.changing.Update.{Update}
use Rattle.pool_transaction.specs.declared.changing.Update.TheVariants as changes
use Rattle.pool_transaction.specs.Changing.{command_of_update}
use Rattle.pool_transaction.specs.Refusing.{room_refusal, field_refusal, refusal_to_free}
use Rattle.daemon_memory.specs.Ready.{IsReady}
use Rattle.daemon_memory.proofs.Commands.Beside.{active_is}
use Rattle.pool_transaction.proofs.Lifetimes.ActiveRuns.{active_placed}
use Rattle.daemon_memory.proofs.PoolChanges.TablesBeside.{types_read}
use Rattle.pool_transaction.proofs.Updates.TransactionRefusals.{change_refusal, refusal_of-change}
use Rattle.daemon_memory.proofs.PoolsFound.OwnRefusals.{own_is_open}

-- ---- what was read of a field, as the machine's causes

by_field : (o : Option FieldValue) (x : FieldValue) (units : ℕ)
    → field_refusal (read_value o) x units ≡ cond (is_none o) (Some refusals.Field) (cond (differ_in_kind o x) (Some refusals.Kind) (cond (ltb LOG_ENTRY_WORDS (units + SET_UNITS)) (Some refusals.TooBig) None))
by_field None x units = refl
by_field (Some v) x units = refl

-- If a field is set, a value was read of it.
pub value_read : (read : FieldRead) (x : FieldValue) (units : ℕ) → field_refusal read x units ≡ None → (was : FieldValue) × (read ≡ Value was)
value_read NoObject x units none = absurd (none-some refusals.Object (sym none))
value_read NoField x units none = absurd (none-some refusals.Field (sym none))
value_read (Value was) x units none = (was, refl)

-- Why a field is not set: by what is read where the object stands, if it does, and by whether the value's object is
-- missing.
abbrev by_places : (missed : Bool) (o : Option Object) (f : ℕ) (x : FieldValue) (units : ℕ) → Option Refusal
by_places missed o f x units =
    cond (missed || is_none o) (Some refusals.Object)
    (cond (is_none (field_of f o)) (Some refusals.Field)
    (cond (differ_in_kind (field_of f o) x) (Some refusals.Kind)
    (cond (ltb LOG_ENTRY_WORDS (units + SET_UNITS)) (Some refusals.TooBig) None)))

missing : (missed : Bool) (f : ℕ) (x : FieldValue) (units : ℕ) → Some refusals.Object ≡ by_places missed None f x units
missing true f x units = refl
missing false f x units = refl

missed_when : {A : Type 0} (null : Bool) (place : Option ℕ) (object : ℕ → A) (address : ℕ → ℕ) → (not null && is_none (option_map object place)) ≡ is_none (cond null (Some 0) (option_map address place))
missed_when true place object address = refl
missed_when false None object address = refl
missed_when false (Some p) object address = refl

-- ---- on a ready device

module _ (size : ℕ) (w : World) (memory : Memory) (s : State) (ready : IsReady size w memory s) (active : ActiveTransaction) (number : ℕ) (there : active_under memory.active number ≡ Some active) where
  abbrev image : Image
  image = reads s.now.words

  abbrev is : IsActive w active ready.mask s.now.words
  is = active_is w memory.active ready.mask s.now.words ready.active number active there

  -- No line on the transaction is refused before its request is looked at.
  pub own_active : refusal_of w (Commit active.client active.name) ≡ None
  own_active = own_is_open w memory.active ready.mask s.now.words active.client active.name number ready.active (record { active = active; is = there; whose = refl; pool = refl })

  -- Its puddles have the graph that its client sees.
  pub graph_active : (frames : ℕ) → frames ≡ w.stored.frames → graph_of (types_of image) (stored_in frames is.puddles image) ≡ Some is.own.transaction.now
  graph_active frames on = (λ p. graph_of ((types_read size w memory s ready).types p) (stored_in (on p) is.puddles image)) ∙ is.running.is

  -- Its puddles are placed as a scope needs them.
  pub placed_at : (frames : ℕ) → frames ≡ w.stored.frames → ArePlacedPuddles frames is.puddles
  placed_at frames on = subst (λ (n : ℕ). ArePlacedPuddles n is.puddles) (sym on) (active_placed size w memory active s number there ready)

  -- A change in the transaction is refused only for its own causes.
  refused_by : (change : Update) → change_refusal change (Some is.own.transaction.now) is.own.transaction.deferred is.own.transaction.units ≡ refusal_of w (command_of_update change active.client active.name)
  refused_by change =
      ap (λ (o : Option Transaction). change_refusal change (graph_seen o (pool_named active.name w.stored)) (deferred_of o) (units_of o)) (sym is.own.is)
      ∙ ap (λ (r : Option Refusal). option_or r (change_refusal change (graph_seen (open_on active.name w) (pool_named active.name w.stored)) (deferred_of (open_on active.name w)) (units_of (open_on active.name w)))) (sym own_active)
      ∙ sym (refusal_of-change w active.client active.name change)

  module _ (frames : ℕ) (at : List (ℕ × Puddle)) (on : frames ≡ w.stored.frames) (same : at ≡ is.puddles) where
    abbrev now : Graph
    now = is.own.transaction.now

    graph_at : graph_of (types_of image) (stored_in frames at image) ≡ Some now
    graph_at = ap (λ puddles. graph_of (types_of image) (stored_in frames puddles image)) same ∙ graph_active frames on

    object_is : (serial : ℕ) → object_in serial now ≡ option_map (object_at (table_in frames at image)) (place_in_pool frames at image serial)
    object_is = object_by_place (types_of image) frames at image now graph_at

    -- A value is dangling exactly if no word stands for it.
    missed_is : (x : FieldValue) → is_dangling (Some now) x ≡ is_none (word_for frames at image x)
    missed_is (Num v) = refl
    missed_is (Ref r) =
        ap (λ (o : Option Object). not (eqb r 0) && is_none o) (object_is r) ∙ missed_when (eqb r 0) (place_in_pool frames at image r) (object_at (table_in frames at image)) (address_at at)

    -- Why a field is not set, by where the object stands and by the word of the value.
    by_found : (serial f units : ℕ) (x : FieldValue) → units ≡ active.tx.units
        → by_places (is_none (word_for frames at image x)) (option_map (object_at (table_in frames at image)) (place_in_pool frames at image serial)) f x units ≡ refusal_of w (Set active.client active.name serial f x)
    by_found serial f units x used =
        (λ p. by_places (sym (missed_is x) p) (sym (object_is serial) p) f x ((used ∙ sym is.own.units) p)) ∙ refused_by (changes.Set serial f x)

    abbrev Placed : Type 0
    Placed = ArePlacedPuddles frames at

    placed : Placed
    placed = subst (ArePlacedPuddles frames) (sym same) (placed_at frames on)

    -- If one of the two is not there, the line is refused.
    pub refused_unfound : (serial f : ℕ) (x : FieldValue) → (Placed → LacksPlaceOrWord frames at image serial x) → Some refusals.Object ≡ refusal_of w (Set active.client active.name serial f x)
    refused_unfound serial f x lacks =
        elim (lacks placed) [
          | inl none ↦
              missing (is_none (word_for frames at image x)) f x active.tx.units
              ∙ ap (λ (p : Option ℕ). by_places (is_none (word_for frames at image x)) (option_map (object_at (table_in frames at image)) p) f x active.tx.units) (sym none)
          | inr none ↦ ap (λ (v : Option ℕ). by_places (is_none v) (option_map (object_at (table_in frames at image)) (place_in_pool frames at image serial)) f x active.tx.units) (sym none)
        ]
        ∙ by_found serial f active.tx.units x refl

    -- If both are there, what was read of the field decides.
    pub refused_to_set : (serial f units : ℕ) (x : FieldValue) (slot : Slot) (word : ℕ) (read : FieldRead) (found : Option (Slot × ℕ)) → found ≡ Some (slot, word)
        → (Placed → IfSome found (IsPlaceAndWord frames at image serial x)) → read ≡ read_by (Some (object_at (table_in frames at image) (place_of_slot slot))) f → units ≡ active.tx.units
        → field_refusal read x units ≡ refusal_of w (Set active.client active.name serial f x)
    refused_to_set serial f units x slot word read found is_found found_so is_read used =
        let there = subst (λ (o : Option (Slot × ℕ)). IfSome o (IsPlaceAndWord frames at image serial x)) is_found (found_so placed) in
        ap (λ (r : FieldRead). field_refusal r x units) is_read
        ∙ by_field (slice_get (object_at (table_in frames at image) (place_of_slot slot)).fields f) x units
        ∙ (λ p. by_places (is_none (sym there.1 p)) (option_map (object_at (table_in frames at image)) (sym there.0 p)) f x units)
        ∙ by_found serial f units x used

    -- Why an object is not made the root: no word stands for it, or too few units are left.
    by_word : (serial : ℕ) → cond (is_none (word_for frames at image (Ref serial))) (Some refusals.Object) (room_refusal active.tx.units) ≡ refusal_of w (Root active.client active.name serial)
    by_word serial = (λ p. cond (sym (missed_is (Ref serial)) p) (Some refusals.Object) (room_refusal (sym is.own.units p))) ∙ refused_by (changes.Root serial)

    pub refused_unrooted : (serial : ℕ) → (Placed → word_for frames at image (Ref serial) ≡ None) → Some refusals.Object ≡ refusal_of w (Root active.client active.name serial)
    refused_unrooted serial none = (λ p. cond (is_none (sym (none placed) p)) (Some refusals.Object) (room_refusal active.tx.units)) ∙ by_word serial

    -- If a word stands for it, only the units decide.
    pub refused_to_root : (serial units word : ℕ) → (Placed → word_for frames at image (Ref serial) ≡ Some word) → units ≡ active.tx.units → room_refusal units ≡ refusal_of w (Root active.client active.name serial)
    refused_to_root serial units word is_word used = (λ p. cond (is_none (sym (is_word placed) p)) (Some refusals.Object) (room_refusal (used p))) ∙ by_word serial

    -- An object that is not there is not freed.
    pub refused_none_to_free : (serial : ℕ) → place_in_pool frames at image serial ≡ None → Some refusals.Object ≡ refusal_of w (Free active.client active.name serial)
    refused_none_to_free serial none =
        ap (λ (o : Option Object). cond (is_none o) (Some refusals.Object) (refusal_to_free (is_referenced serial now) (deferred_set_names serial is.own.transaction.deferred) is.own.transaction.units))
        (sym (object_is serial ∙ ap (option_map (object_at (table_in frames at image))) none))
        ∙ refused_by (changes.Free serial)

  -- In this state the transaction is open on these puddles, with these types and this log.
  abbrev pub IsOpenIn : State → ℕ → List (ℕ × Puddle) → List (ℕ × ℕ) → OpenLog → Type 0
  IsOpenIn then frames at types log = IsOpenOn frames at types log is.before is.graph_before is.own.transaction.now is.own.transaction.deferred then.now.words

  -- The transaction is open with the types that are read, and its puddles are placed as a scope needs them.
  open_read : (then : State) (frames : ℕ) (at : List (ℕ × Puddle)) (log : OpenLog) → then ≡ s → frames ≡ w.stored.frames → at ≡ is.puddles → log ≡ active.tx.log
      → ArePlacedPuddles frames at × IsOpenIn then frames at (types_of image) log
  open_read then frames at log still on same logged =
      let typed = subst (λ (types : List (ℕ × ℕ)). IsOpenIn s w.stored.frames is.puddles types log) (sym (types_read size w memory s ready).types) (subst (IsOpenIn s w.stored.frames is.puddles w.stored.types) (sym logged) is.running) in
      let opened = subst (λ (x : State). IsOpenIn x w.stored.frames is.puddles (types_of image) log) (sym still) typed in
      subst (λ (n : ℕ). ArePlacedPuddles n at × IsOpenIn then n at (types_of image) log) (sym on)
      (subst (λ (puddles : List (ℕ × Puddle)). ArePlacedPuddles w.stored.frames puddles × IsOpenIn then w.stored.frames puddles (types_of image) log) (sym same) (active_placed size w memory active s number there ready, opened))

  -- If the object is there, what names it and the units decide whether it is freed.
  pub refused_to_free : (then : State) (frames serial units place : ℕ) (at : List (ℕ × Puddle)) (log : OpenLog) (named asked : Bool) → then ≡ s → (on : frames ≡ w.stored.frames) (same : at ≡ is.puddles) → log ≡ active.tx.log
      → place_in_pool frames at image serial ≡ Some place
      → ((g : Graph) → graph_of (types_of image) (stored_in frames at image) ≡ Some g → named ≡ is_referenced serial g)
      → (ArePlacedPuddles frames at → IsOpenIn then frames at (types_of image) log → asked ≡ deferred_set_names serial is.own.transaction.deferred) → units ≡ active.tx.units
      → refusal_to_free named asked units ≡ refusal_of w (Free active.client active.name serial)
  refused_to_free then frames serial units place at log named asked still on same logged found names deferred used =
      let now : Graph = is.own.transaction.now in
      let object = object_is frames at on same serial ∙ ap (option_map (object_at (table_in frames at image))) found in
      let opened = open_read then frames at log still on same logged in
      (λ p. cond (is_none (sym object p)) (Some refusals.Object) (refusal_to_free (names now (graph_at frames at on same) p) (deferred opened.0 opened.1 p) ((used ∙ sym is.own.units) p)))
      ∙ refused_by (changes.Free serial)
