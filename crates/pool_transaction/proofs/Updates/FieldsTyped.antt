-- Fields of a graph's objects: they are fields of a defined type, and have its kinds. Also what may then be changed.
use Rattle.std.proofs.Common.{◌≡◌, ◌⊎◌, inl, inr, ℕ, ◌+◌, ◌<◌, ◌≤◌, Bool, true, false, not, cond, ◌&&◌, ◌||◌, eqb, List, map, nat_cmp, Option, Some, None, option_map, is_none, is_some, refl, sym, ap, subst, ◌∙◌, arith, ne_eqb}
use Rattle.std.specs.Prelude.{slice_get}
use Rattle.std.specs.List.{range_with_len}
use Rattle.std.specs.Ordering.{eq_by_cmp}
use Rattle.std.specs.FinMap.Entries.{find}
use Rattle.std.proofs.lemmas.Bool.{cases_eq, cases_lt, or_parts}
use Rattle.std.proofs.lemmas.Cmp.{nat_cmp_total}
use Rattle.std.proofs.lemmas.List.{length-map}
use Rattle.std.proofs.lemmas.List.FromFn.{get_or-range_with_len, length-range_with_len}
use Rattle.std.proofs.lemmas.Option.{none-some, same_Some, cond_some, slice_get-map, slice_get-get_or, slice_get_past}
use Rattle.pud_defs.specs.declared.space.TheConstants.{SLOT_FIELDS_WORD}
use Rattle.pud_defs.specs.declared.objects.FieldValue.{FieldValue}
use Rattle.pud_defs.specs.declared.objects.FieldValue.TheVariants.{Num, Ref}
use Rattle.pud_defs.specs.declared.records.Puddle.{Puddle}
use Rattle.pud_defs.specs.declared.machine.Refusal.TheVariants as refusals
use Rattle.pud_defs.specs.Formats.TypeMap.{is_pointer}
use Rattle.pud_defs.specs.Formats.Geometry.{ordinal_of, slot_of}
use Rattle.pud_defs.specs.RegistryTables.Types.{map_of}
use Rattle.pud_defs.specs.RegistryTables.Keyed.{keyed, under}
use Rattle.pud_defs.specs.PoolGraphs.Stored.{Stored, places_of, class_at, place_words, place_word}
use Rattle.pud_defs.specs.PoolGraphs.Graph.{Content, Number, Null, at_place, place_in, target, puddles_by, content, field_count, fits_class, fitting, place_map, Table, table_of, slot_contents, contents_or_none, value_of, object_at, live, all_stand, Graph, Object, object_in, is_referenced, graph_of}
use Rattle.pud_defs.specs.PoolGraphs.DeferredValues.{deferred_set_names}
use Rattle.pud_defs.specs.StateMachine.Step.{is_dangling, differ_in_kind, refusal_of}
use Rattle.pud_defs.specs.StateMachine.World.{Transaction, World, open_on}
use Rattle.pud_defs.proofs.KeyedTables.Keyed.{find-keyed, first_from_some}
use Rattle.pud_defs.proofs.PoolGraphs.Graphs.{graph_of-each, under_serial-free, under_serial-used}
use Rattle.graph_laws.proofs.SameReads.Words.{room_of_map}
use Rattle.graph_read.specs.declared.fields.FieldRead.TheVariants.{NoField}
use Rattle.graph_read.specs.Reading.{read_value, read_by}
use Rattle.hybrid_tx.specs.Objects.Transactions.{MayHold, MaySet, MayFree}
use Rattle.pool_transaction.specs.declared.changing.Update.{Update}
use Rattle.pool_transaction.specs.declared.changing.Update.TheVariants.{Set, Later, Root, Free}
use Rattle.pool_transaction.specs.Changing.{command_of_update, MayChange}
use Rattle.pool_transaction.proofs.Updates.TransactionRefusals.{IsSettable, freeing_refusal, change_refusal, settable_by, change_parts, some_there}
use Rattle.daemon_memory.proofs.PoolsFound.Causes.{unless}

-- ---- the kind of a field

-- The value is a reference: null, or the serial of an object.
abbrev pub is_reference : FieldValue → Bool
is_reference (Num v) = false
is_reference (Ref r) = true

refers : (serial : ℕ → ℕ) (null : Bool) (place : Option ℕ) → is_reference (value_of serial (cond null Null (at_place place))) ≡ true
refers serial true place = refl
refers serial false None = refl
refers serial false (Some p) = refl

target_refers : (serial : ℕ → ℕ) (puddles : List Puddle) (v : ℕ) → is_reference (value_of serial (target puddles v)) ≡ true
unfolding target
target_refers serial puddles v = refers serial (eqb v 0) (place_in 0 puddles v)

kind_of_content : (serial : ℕ → ℕ) (puddles : List Puddle) (m p f v : ℕ) → is_reference (value_of serial (content puddles m p f v)) ≡ is_pointer m f
kind_of_content serial puddles m p f v =
    let read : List Puddle = puddles_by puddles (slice_get puddles (ordinal_of p)) (slot_of p + 1) in
    elim (is_pointer m f) as (λ b. is_reference (value_of serial (cond b (target read v) (Number v))) ≡ b) [
      | true ↦ target_refers serial read v
      | false ↦ refl
    ]

-- ---- fields of an object

-- The object's type is defined and has the field. The field is a pointer exactly if the value is a reference.
pub record IsTypedField (types : List (ℕ × ℕ)) (o : Object) (f : ℕ) (v : FieldValue) : Type 0 where
  pub type_map : ℕ
  pub defined : map_of o.type_id types ≡ Some type_map
  pub below : f < field_count type_map
  pub kind : is_reference v ≡ is_pointer type_map f

nth : {X Y : Type 0} (g : X → Y) (h : ℕ → X) (n f : ℕ) → f < n → slice_get (map g (map h (range_with_len 0 n))) f ≡ Some (g (h f))
nth g h n f below =
    let there : slice_get (range_with_len 0 n) f ≡ Some f =
    slice_get-get_or (range_with_len 0 n) f 0 (omega (arith, below, length-range_with_len 0 n)) ∙ ap (λ k. Some k) (get_or-range_with_len 0 n f 0 below ∙ (let e : 0 + f ≡ f = omega arith in e)) in
    slice_get-map g (map h (range_with_len 0 n)) f ∙ ap (option_map g) (slice_get-map h (range_with_len 0 n) f ∙ ap (option_map h) there)

past : {X Y : Type 0} (g : X → Y) (h : ℕ → X) (n f : ℕ) → n ≤ f → slice_get (map g (map h (range_with_len 0 n))) f ≡ None
past g h n f beyond =
    slice_get_past (map g (map h (range_with_len 0 n))) f (omega (arith, beyond, length-map (map h (range_with_len 0 n)) g, length-map (range_with_len 0 n) h, length-range_with_len 0 n))

defined_of : (class : ℕ) (o : Option ℕ) (m : ℕ) → fitting class o ≡ Some m → o ≡ Some m
defined_of class None m is = absurd (none-some m is)
defined_of class (Some k) m is = ap Some (cond_some (fits_class class k) k m is).1

module _ (types : List (ℕ × ℕ)) (st : Stored) where
  abbrev t : Table
  t = table_of types st

  -- The same holds by the map of the type at a place.
  typed_by : (p f : ℕ) (v : FieldValue) (found : Option ℕ) → place_map types st p ≡ found → all_stand t.serial (slot_contents st p found) ≡ true
      → slice_get (map (value_of t.serial) (contents_or_none (slot_contents st p found))) f ≡ Some v → IsTypedField types (object_at t p) f v
  typed_by p f v None is stand there = absurd (let no : false ≡ true = stand in cc)
  typed_by p f v (Some m) is stand there =
      let at : ℕ → Content = λ k. content st.puddles m p k (place_word st p (SLOT_FIELDS_WORD + k)) in
      elim (cases_lt f (field_count m)) [
        | inl below ↦
            let same : value_of t.serial (at f) ≡ v = same_Some _ v (sym (nth (value_of t.serial) at (field_count m) f below) ∙ there) in
            record {
              type_map = m;
              defined = defined_of (class_at st p) (map_of (t.type_id p) types) m is;
              below = below;
              kind = ap is_reference (sym same) ∙ kind_of_content t.serial st.puddles m p f (place_word st p (SLOT_FIELDS_WORD + f));
            }
        | inr beyond ↦ absurd (none-some v (sym (past (value_of t.serial) at (field_count m) f beyond) ∙ there))
      ]

  -- An object has no field that comes after the words of its slot.
  none_by : (p f : ℕ) (found : Option ℕ) → place_map types st p ≡ found → place_words st p ≤ SLOT_FIELDS_WORD + f → slice_get (map (value_of t.serial) (contents_or_none (slot_contents st p found))) f ≡ None
  none_by p f None is after = refl
  none_by p f (Some m) is after =
      let room = room_of_map types st p m is in
      past (value_of t.serial) (λ (k : ℕ). content st.puddles m p k (place_word st p (SLOT_FIELDS_WORD + k))) (field_count m) f (omega (arith, room, after))

  pub no_field : (p f : ℕ) → place_words st p ≤ SLOT_FIELDS_WORD + f → read_by (Some (object_at t p)) f ≡ NoField
  no_field p f after = ap read_value (none_by p f (place_map types st p) refl after)

  -- The object with this serial stands at this place.
  record StandsAt (s : ℕ) (o : Object) (p : ℕ) : Type 0 where
    used : t.serial p ≡ 0 → ⊥
    is : object_at t p ≡ o

  stands_at : (s : ℕ) (o : Object) (p : ℕ) → under nat_cmp s (live t p) ≡ Some o → StandsAt s o p
  stands_at s o p here = elim (cases_eq (t.serial p) 0) [
    | inl free ↦ absurd (none-some o (sym (ap (under nat_cmp s) (under_serial-free t.serial (object_at t) p free)) ∙ here))
    | inr used ↦ record {
      used = used;
      is = (cond_some (eq_by_cmp nat_cmp s (t.serial p)) (object_at t p) o (sym (ap (under nat_cmp s) (under_serial-used t.serial (object_at t) p used)) ∙ here)).1;
    }
  ]

  pub typed_field : (g : Graph) (s f : ℕ) (o : Object) (v : FieldValue) → graph_of types st ≡ Some g → object_in s g ≡ Some o → slice_get o.fields f ≡ Some v → IsTypedField types o f v
  typed_field g s f o v is lives there =
      let has = graph_of-each types st g is in
      let n = places_of st in
      let found : find nat_cmp s (keyed nat_cmp (live t) 0 n) ≡ Some o = ap (object_in s) has.is ∙ lives in
      let first = first_from_some nat_cmp s (live t) 0 n o (sym (find-keyed nat_cmp nat_cmp_total s (live t) 0 n) ∙ found) in
      let high = first.1.high in
      let place = stands_at s o first.0 first.1.here in
      let sound = has.graph.sound first.0 (omega arith) place.used in
      subst (λ (x : Object). IsTypedField types x f v) place.is
      (typed_by first.0 f v (place_map types st first.0) refl sound.stand (ap (λ (x : Object). slice_get x.fields f) place.is ∙ there))

-- ---- what may be set

live_or_null : (s : ℕ) (o : Option Object) → (not (eqb s 0) && is_none o) ≡ false → (s ≡ 0) ⊎ (is_some o ≡ true)
live_or_null s None named = elim (cases_eq s 0) [
  | inl null ↦ inl null
  | inr other ↦ absurd (let no : true ≡ false = ap (λ b. not b && true) (sym (ne_eqb s 0 other)) ∙ named in cc)
]
live_or_null s (Some x) named = inr refl

may_hold : (g : Graph) (m f : ℕ) (was x : FieldValue) → is_reference was ≡ is_pointer m f → differ_in_kind (Some was) x ≡ false → is_dangling (Some g) x ≡ false → MayHold m f g x
may_hold g m f (Num v) (Num n) kind same named = sym kind
may_hold g m f (Ref r) (Num n) kind same named = absurd (let no : true ≡ false = same in cc)
may_hold g m f (Num v) (Ref s) kind same named = absurd (let no : true ≡ false = same in cc)
may_hold g m f (Ref r) (Ref s) kind same named = (sym kind, live_or_null s (object_in s g) named)

-- A field that the graph allows to be set may be set by the types that the graph has.
may_set : (types : List (ℕ × ℕ)) (st : Stored) (g : Graph) (units s f : ℕ) (x : FieldValue) → graph_of types st ≡ Some g → IsSettable g units s f x → MaySet types g s f x
may_set types st g units s f x is settable =
    let typed = typed_field types st g s f settable.object settable.was is settable.live settable.there in
    record {
      object = settable.object;
      live = settable.live;
      map = typed.type_map;
      defined = typed.defined;
      below = typed.below;
      holds = may_hold g typed.type_map f settable.was x typed.kind settable.kind settable.named;
    }

may_free : (t : Transaction) (s : ℕ) → freeing_refusal (Some t.now) t.deferred t.units s ≡ None → MayFree t.now s × (deferred_set_names s t.deferred ≡ false)
may_free t s none =
    let object = unless (is_none (object_in s t.now)) refusals.Object _ none in
    let held = unless (is_referenced s t.now || deferred_set_names s t.deferred) refusals.Held _ object.1 in
    let spared = or_parts (is_referenced s t.now) (deferred_set_names s t.deferred) held.0 in
    let o = some_there (object_in s t.now) object.0 in
    (record { object = o.0; live = o.1; spared = spared.0 }, spared.1)

may_change : (types : List (ℕ × ℕ)) (st : Stored) (t : Transaction) (change : Update) → graph_of types st ≡ Some t.now → change_refusal change (Some t.now) t.deferred t.units ≡ None → MayChange types t change
may_change types st t (Set s f x) is none = may_set types st t.now t.units s f x is (settable_by t.now t.units s f x none)
may_change types st t (Later s f x) is none = may_set types st t.now t.units s f x is (settable_by t.now t.units s f x none)
may_change types st t (Root s) is none = live_or_null s (object_in s t.now) (unless (is_dangling (Some t.now) (Ref s)) refusals.Object _ none).0
may_change types st t (Free s) is none = may_free t s none

-- A line that is not refused makes a change that may be made.
pub may_change_unrefused : (w : World) (client : ℕ) (name : List ℕ) (change : Update) (st : Stored) (t : Transaction) → open_on name w ≡ Some t → graph_of w.stored.types st ≡ Some t.now
    → refusal_of w (command_of_update change client name) ≡ None → MayChange w.stored.types t change
may_change_unrefused w client name change st t there is none = may_change w.stored.types st t change is (change_parts w client name t there change none)
