-- Which refusal a line of a transaction meets: first the causes of all lines on an open transaction, and then its own
-- causes.
use Rattle.std.proofs.Common.{◌≡◌, ℕ, ◌+◌, ◌≤◌, Bool, true, false, not, cond, ◌&&◌, ◌||◌, ltb, List, Option, Some, None, is_some, is_none, refl, sym, ap, ◌∙◌}
use Rattle.std.specs.Prelude.{slice_get}
use Rattle.std.specs.Option.{option_or}
use Rattle.std.proofs.lemmas.Bool.{ltb-false, or_parts}
use Rattle.std.proofs.lemmas.Option.{none-some}
use Rattle.pud_defs.specs.declared.layout.TheConstants.{LOG_ENTRY_WORDS, SET_UNITS}
use Rattle.pud_defs.specs.Formats.Geometry.{new_units}
use Rattle.pud_defs.specs.declared.objects.FieldValue.{FieldValue}
use Rattle.pud_defs.specs.declared.objects.FieldValue.TheVariants.{Ref}
use Rattle.pud_defs.specs.declared.machine.Command.TheVariants.{Commit, Abort, New, Set}
use Rattle.pud_defs.specs.declared.machine.Command.TheVariants as commands
use Rattle.pud_defs.specs.declared.machine.Refusal.{Refusal}
use Rattle.pud_defs.specs.declared.machine.Refusal.TheVariants as refusals
use Rattle.pud_defs.specs.RegistryTables.Types.{map_of}
use Rattle.pud_defs.specs.RegistryTables.Spaces.{Owner}
use Rattle.pud_defs.specs.PoolGraphs.Graph.{Graph, Object, object_in}
use Rattle.pud_defs.specs.PoolGraphs.DeferredValues.{DeferredValue, deferred_set_names}
use Rattle.pud_defs.specs.RegistryTables.Tables.{Pool}
use Rattle.pud_defs.specs.StateMachine.PoolChanges.{pool_named, lacks_frames}
use Rattle.pud_defs.specs.StateMachine.World.{Transaction, World, open_on}
use Rattle.pud_defs.specs.StateMachine.Transactions.{is_own, is_others, units_of, deferred_of}
use Rattle.pud_defs.specs.StateMachine.Step.{graph_in, graph_seen, object_of, field_of, is_dangling, differ_in_kind, is_referenced_in, class_made, grows, lacks_room, cause_holds, refusal_of}
use Rattle.pool_transaction.specs.declared.changing.Update.{Update}
use Rattle.pool_transaction.specs.declared.changing.Update.TheVariants as changes
use Rattle.pool_transaction.specs.Changing.{command_of_update, field_change, class_by_map}
use Rattle.daemon_memory.proofs.PoolsFound.Causes.{following, unless}
use Rattle.daemon_memory.proofs.PoolsFound.OwnRefusals.{own_refusal, refusal_of-commit}

-- ---- refusals by their parts

-- The refusal of `set`, if the client's own transaction is open, by the graph that is seen and the units that are used.
abbrev pub setting_refusal : Option Graph → (units s f : ℕ) → FieldValue → Option Refusal
setting_refusal g units s f x =
    cond (is_dangling g x || is_none (object_of s g)) (Some refusals.Object)
    (cond (is_none (field_of f (object_of s g))) (Some refusals.Field)
    (cond (differ_in_kind (field_of f (object_of s g)) x) (Some refusals.Kind)
    (cond (ltb LOG_ENTRY_WORDS (units + SET_UNITS)) (Some refusals.TooBig) None)))

-- The refusal of `root`.
abbrev pub rooting_refusal : Option Graph → (units s : ℕ) → Option Refusal
rooting_refusal g units s = cond (is_dangling g (Ref s)) (Some refusals.Object) (cond (ltb LOG_ENTRY_WORDS (units + SET_UNITS)) (Some refusals.TooBig) None)

-- The refusal of `free`, also by the deferred set.
abbrev pub freeing_refusal : Option Graph → List DeferredValue → (units s : ℕ) → Option Refusal
freeing_refusal g deferred units s =
    cond (is_none (object_of s g)) (Some refusals.Object)
    (cond (is_referenced_in s g || deferred_set_names s deferred) (Some refusals.Held)
    (cond (ltb LOG_ENTRY_WORDS (units + SET_UNITS)) (Some refusals.TooBig) None))

-- The refusal of any such line.
abbrev pub change_refusal : Update → Option Graph → List DeferredValue → (units : ℕ) → Option Refusal
change_refusal (changes.Set s f x) g deferred units = setting_refusal g units s f x
change_refusal (changes.Later s f x) g deferred units = setting_refusal g units s f x
change_refusal (changes.Root s) g deferred units = rooting_refusal g units s
change_refusal (changes.Free s) g deferred units = freeing_refusal g deferred units s

-- The refusal of `new`, if the client's own transaction is open, by the map of the type and by what is full.
abbrev pub making_refusal : (map : Option ℕ) → (units : ℕ) → (full lacks : Bool) → Option Refusal
making_refusal map units full lacks =
    cond (is_none map) (Some refusals.NoType)
    (cond (ltb LOG_ENTRY_WORDS (units + new_units (class_by_map map))) (Some refusals.TooBig)
    (cond full (Some refusals.Full)
    (cond lacks (Some refusals.Space) None)))

module _ (w : World) (client : ℕ) (name : List ℕ) where
  abbrev acts : Option Owner
  acts = w.clients client

  abbrev found : Option Pool
  found = pool_named name w.stored

  abbrev opened : Option Transaction
  opened = open_on name w

  pub refusal_of-abort : refusal_of w (Abort client name) ≡ refusal_of w (Commit client name)
  unfolding refusal_of cause_holds
  refusal_of-abort = refl

  -- A deferred value is refused for the same reasons as a value that is set.
  pub refusal_of-later : (s f : ℕ) (x : FieldValue) → refusal_of w (commands.Later client name s f x) ≡ refusal_of w (Set client name s f x)
  unfolding refusal_of cause_holds
  refusal_of-later s f x = refl

  -- So the refusal is the same whether a field's value is set at once or deferred.
  pub refusal_of-field : (later : Bool) (s f : ℕ) (x : FieldValue) → refusal_of w (command_of_update (field_change later s f x) client name) ≡ refusal_of w (Set client name s f x)
  refusal_of-field true s f x = refusal_of-later s f x
  refusal_of-field false s f x = refl

  abbrev its_own : Update → Option Refusal
  its_own change = change_refusal change (graph_seen opened found) (deferred_of opened) (units_of opened)

  after_own : (rest : Option Refusal)
      → cond (not (is_some acts)) (Some refusals.Client)
      (cond (is_none found) (Some refusals.Pool)
      (cond (is_none (graph_in found)) (Some refusals.Wild) (cond (is_others client opened) (Some refusals.Busy) (cond (not (is_own client opened)) (Some refusals.Tx) rest))))
      ≡ option_or (own_refusal acts found client opened) rest
  after_own rest = following refusals.Client refusals.Pool refusals.Wild refusals.Busy refusals.Tx (not (is_some acts)) (is_none found) (is_none (graph_in found)) (is_others client opened) (not (is_own client opened)) rest

  change_by : (change : Update) → refusal_of w (command_of_update change client name) ≡ option_or (own_refusal acts found client opened) (its_own change)
  unfolding refusal_of cause_holds
  change_by (changes.Set s f x) = after_own (its_own (changes.Set s f x))
  change_by (changes.Later s f x) = after_own (its_own (changes.Later s f x))
  change_by (changes.Root s) = after_own (its_own (changes.Root s))
  change_by (changes.Free s) = after_own (its_own (changes.Free s))

  pub refusal_of-change : (change : Update) → refusal_of w (command_of_update change client name) ≡ option_or (refusal_of w (Commit client name)) (its_own change)
  refusal_of-change change = change_by change ∙ ap (λ (r : Option Refusal). option_or r (its_own change)) (sym (refusal_of-commit w client name))

  -- The refusal of `new` alone, by the class in which an object of the type is made.
  abbrev pub its_making : (t : ℕ) → Option Refusal
  its_making t =
      making_refusal (map_of t w.stored.types) (units_of opened) (lacks_room w name (class_made w.stored.types t)) (grows w name (class_made w.stored.types t) && lacks_frames w.stored 1)

  new_by : (t : ℕ) → refusal_of w (New client name t) ≡ option_or (own_refusal acts found client opened) (its_making t)
  unfolding refusal_of cause_holds
  new_by t = after_own (its_making t)

  pub refusal_of-new : (t : ℕ) → refusal_of w (New client name t) ≡ option_or (refusal_of w (Commit client name)) (its_making t)
  refusal_of-new t = new_by t ∙ ap (λ (r : Option Refusal). option_or r (its_making t)) (sym (refusal_of-commit w client name))

  -- A line is refused before its request is looked at.
  module _ (r : Refusal) (refused : refusal_of w (Commit client name) ≡ Some r) where
    pub refused_change : (change : Update) → refusal_of w (command_of_update change client name) ≡ Some r
    refused_change change = refusal_of-change change ∙ ap (λ (o : Option Refusal). option_or o (its_own change)) refused

    pub refused_new : (t : ℕ) → refusal_of w (New client name t) ≡ Some r
    refused_new t = refusal_of-new t ∙ ap (λ (o : Option Refusal). option_or o (its_making t)) refused

-- ---- the client's own transaction is open

-- ---- what a line that is not refused has

neither : (first rest : Option Refusal) → option_or first rest ≡ None → (first ≡ None) × (rest ≡ None)
neither None rest none = (refl, none)
neither (Some r) rest none = absurd (none-some r (sym none))

pub some_there : {A : Type 0} (o : Option A) → is_none o ≡ false → (x : A) × (o ≡ Some x)
some_there None there = absurd (let no : true ≡ false = there in cc)
some_there (Some x) there = (x, refl)

-- The object is live and has the field, which is of the value's kind. What is to be named is live or null. The units
-- fit.
pub record IsSettable (g : Graph) (units s f : ℕ) (x : FieldValue) : Type 0 where
  pub object : Object
  pub live : object_in s g ≡ Some object
  pub was : FieldValue
  pub there : slice_get object.fields f ≡ Some was
  pub named : is_dangling (Some g) x ≡ false
  pub kind : differ_in_kind (Some was) x ≡ false
  pub fits : units + SET_UNITS ≤ LOG_ENTRY_WORDS

pub settable_by : (g : Graph) (units s f : ℕ) (x : FieldValue) → setting_refusal (Some g) units s f x ≡ None → IsSettable g units s f x
settable_by g units s f x none =
    let object = unless (is_dangling (Some g) x || is_none (object_in s g)) refusals.Object _ none in
    let names = or_parts (is_dangling (Some g) x) (is_none (object_in s g)) object.0 in
    let field = unless (is_none (field_of f (object_in s g))) refusals.Field _ object.1 in
    let kind = unless (differ_in_kind (field_of f (object_in s g)) x) refusals.Kind _ field.1 in
    let big = unless (ltb LOG_ENTRY_WORDS (units + SET_UNITS)) refusals.TooBig None kind.1 in
    let o = some_there (object_in s g) names.1 in
    let v = some_there (field_of f (object_in s g)) field.0 in
    let there : slice_get o.0.fields f ≡ Some v.0 = sym (ap (field_of f) o.1) ∙ v.1 in
    record {
      object = o.0;
      live = o.1;
      was = v.0;
      there = there;
      named = names.0;
      kind = ap (λ (d : Option FieldValue). differ_in_kind d x) (sym v.1) ∙ kind.0;
      fits = ltb-false LOG_ENTRY_WORDS (units + SET_UNITS) big.0;
    }

module _ (w : World) (client : ℕ) (name : List ℕ) (t : Transaction) (open_there : open_on name w ≡ Some t) where
  -- No cause of its own refuses it.
  pub change_parts : (change : Update) → refusal_of w (command_of_update change client name) ≡ None → change_refusal change (Some t.now) t.deferred t.units ≡ None
  change_parts change none =
      ap (λ (o : Option Transaction). change_refusal change (graph_seen o (pool_named name w.stored)) (deferred_of o) (units_of o)) (sym open_there)
      ∙ (neither (refusal_of w (Commit client name)) _ (sym (refusal_of-change w client name change) ∙ none)).1
