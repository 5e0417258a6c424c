-- What the daemon knows about a pool still holds after an update of the pool, if it followed the update.
use Rattle.std.proofs.Common.{◌≡◌, ℕ, Bool, true, false, List, Option, Some, None, refl, sym, ap, subst, ◌∙◌}
use Rattle.std.specs.Prelude.{slice_get}
use Rattle.pud_defs.specs.declared.objects.FieldValue.{FieldValue}
use Rattle.pud_defs.specs.declared.objects.FieldValue.TheVariants.{Ref}
use Rattle.pud_defs.specs.declared.records.Puddle.{Puddle}
use Rattle.pud_defs.specs.declared.records.Slot.{Slot}
use Rattle.pud_defs.specs.PoolGraphs.Graph.{Graph, Object, object_in, graph_of}
use Rattle.pud_defs.specs.PoolGraphs.GraphChanges.{with_field, with_root, without_object}
use Rattle.pud_defs.specs.Formats.Image.{Image}
use Rattle.pud_defs.specs.PoolGraphs.Stored.{stored_in}
use Rattle.pud_defs.specs.RegistryTables.Types.{types_of}
use Rattle.pud_defs.specs.StateMachine.World.{Transaction}
use Rattle.graph_read.specs.declared.fields.FieldRead.{FieldRead}
use Rattle.graph_read.specs.declared.fields.FieldRead.TheVariants.{NoObject, NoField, Value}
use Rattle.puddle_header.specs.Places.{place_of_slot, IsSlotOf}
use Rattle.graph_read.specs.Reading.{place_in_pool, read_value, read_by}
use Rattle.known_pool.specs.Known.{Known, IsKnown, by_puddles, with_puddles}
use Rattle.known_pool.specs.Indexes.{Follows, after_move, Releases}
use Rattle.known_pool.specs.Serials.{KeepsSerials}
use Rattle.known_pool.proofs.KnownKept.{IsKnown-puddles, IsKnown-kept}
use Rattle.known_pool.proofs.KnownChanged.{IsKnown-set, IsKnown-rooted, IsKnown-freed}
use Rattle.pool_transaction.specs.declared.changing.FoundUpdate.{FoundUpdate}
use Rattle.pool_transaction.specs.declared.changing.FoundUpdate.TheVariants.{Field, Root, Object as Freed}
use Rattle.pool_transaction.specs.declared.changing.Update.{Update}
use Rattle.pool_transaction.specs.declared.changing.Update.TheVariants.{Set, Later, Root as SetRoot, Free}
use Rattle.pool_transaction.specs.Changing.{changed_by, IsObjectFound, IsFoundBy, IsFoundWithin, IsFieldRead, IsRootRead, IsReadOf, FreesSlot, SparesSerials, FollowsMove, FollowsField, FollowsFree, FollowsUpdate}

-- There is an object, and its field has the value that was read.
record HoldsValue (o : Option Object) (f : ℕ) (was : FieldValue) : Type 0 where
  pub object : Object
  pub there : o ≡ Some object
  pub field : slice_get object.fields f ≡ Some was

value_there : (o : Object) (v : Option FieldValue) (f : ℕ) (was : FieldValue) → slice_get o.fields f ≡ v → Value was ≡ read_value v → HoldsValue (Some o) f was
value_there o None f was is none = absurd (let it : Value was ≡ NoField = none in cc)
value_there o (Some x) f was is same = record { object = o; there = refl; field = is ∙ (let it : Value was ≡ Value x = same in cc) }

holds_read : (o : Option Object) (f : ℕ) (was : FieldValue) → Value was ≡ read_by o f → HoldsValue o f was
holds_read None f was none = absurd (let it : Value was ≡ NoObject = none in cc)
holds_read (Some o) f was is = value_there o (slice_get o.fields f) f was refl is

-- The serial of the object that is freed, or 0.
abbrev pub freed_serial : Update → ℕ
freed_serial (Set s f x) = 0
freed_serial (Later s f x) = 0
freed_serial (SetRoot s) = 0
freed_serial (Free s) = s

module _ (F : ℕ) (known : Known) (image later : Image) (g : Graph) (stored : graph_of (types_of image) (stored_in F known.puddles image) ≡ Some g) (types : types_of later ≡ types_of image) (is : IsKnown F image known) where
  -- If only the puddles are left, what is known holds.
  alone : (next : Known) → next ≡ by_puddles known.puddles → IsKnown F later next
  alone next same = subst (IsKnown F later) (sym same) (IsKnown-puddles F known.puddles later)

  module _ (update : Update) (t : Transaction) (same : t.now ≡ g) (after : graph_of (types_of image) (stored_in F known.puddles later) ≡ Some (changed_by update t).now) (next : Known) where
    -- What is known holds after a field was set of which a value was read, or after its value was deferred.
    by_field : (later_is : Bool) (f : ℕ) (read : FieldRead) (x : FieldValue) → IsFieldRead g update f read x later_is → KeepsSerials F known.puddles known.puddles image later → FollowsField later_is read x known next → IsKnown F later next
    by_field true f read x r keeps follows =
        let graph : (changed_by update t).now ≡ g = ap (λ (u : Update). (changed_by u t).now) r.is ∙ same in
        let there : graph_of (types_of later) (stored_in F known.puddles later) ≡ Some g =
        ap (λ (ts : List (ℕ × ℕ)). graph_of ts (stored_in F known.puddles later)) types ∙ after ∙ ap (λ (k : Graph). Some k) graph in
        subst (IsKnown F later) (sym follows) (IsKnown-kept F known known.puddles image later g stored there keeps is)
    by_field false f NoObject x r keeps follows = alone next follows
    by_field false f NoField x r keeps follows = alone next follows
    by_field false f (Value was) x r keeps follows =
        let o = holds_read (object_in r.s g) f was r.holds in
        let graph : graph_of (types_of image) (stored_in F known.puddles later) ≡ Some (with_field r.s f x t.now) = after ∙ ap (λ (u : Update). Some (changed_by u t).now) r.is in
        IsKnown-set F known next image later g follows.puddles types stored is r.s f x was o.object o.there o.field (graph ∙ ap (λ (k : Graph). Some (with_field r.s f x k)) same) keeps follows.index follows.placed follows.full

    -- What is known holds after the root was set.
    by_root : (was s : ℕ) → IsRootRead g update was s → KeepsSerials F known.puddles known.puddles image later → FollowsMove (Ref was) (Ref s) known next → IsKnown F later next
    by_root was s r keeps follows =
        let graph : graph_of (types_of image) (stored_in F known.puddles later) ≡ Some (with_root s g) =
        after ∙ ap (λ (u : Update). Some (changed_by u t).now) r.is ∙ ap (λ (k : Graph). Some (with_root s k)) same in
        IsKnown-rooted F known next image later g follows.puddles types stored is s graph keeps (subst (λ (root : ℕ). Follows (after_move (Ref root) (Ref s)) known.index next.index) r.holds follows.index) follows.placed follows.full

    -- What is known holds after an object was freed.
    by_free : (slot : Slot) (s : ℕ) → IsSlotOf known.puddles slot → update ≡ Free s → IsObjectFound F known.puddles image update slot → FreesSlot F known.puddles slot image later → FollowsFree F known.puddles image g slot s known next → IsKnown F later next
    by_free slot s of is_free found frees follows =
        let graph : graph_of (types_of image) (stored_in F known.puddles later) ≡ Some (without_object s g) =
        after ∙ ap (λ (u : Update). Some (changed_by u t).now) is_free ∙ ap (λ (k : Graph). Some (without_object s k)) same in
        let serial : found.s ≡ s = ap freed_serial (sym found.is ∙ is_free) in
        IsKnown-freed F known next image later g follows.puddles types stored is s slot of graph (subst (λ (n : ℕ). place_in_pool F known.puddles image n ≡ Some (place_of_slot slot)) serial found.found) frees.free frees.others
        follows.index follows.placed follows.full

    pub IsKnown-followed : (found : FoundUpdate) → IsFoundWithin known.puddles found → IsReadOf g update found → IsFoundBy F known.puddles image update found → SparesSerials F known.puddles found image later → FollowsUpdate F known.puddles image g found known next → IsKnown F later next
    IsKnown-followed (Field slot f word read x later_is) within r by spares follows = by_field later_is f read x r (record { count = refl; classes = λ p below. refl; each = spares }) follows
    IsKnown-followed (Root word was s) within r by spares follows = by_root was s r (record { count = refl; classes = λ p below. refl; each = spares }) follows
    IsKnown-followed (Freed slot s) within r by spares follows = by_free slot s within r by spares follows

-- ---- the puddles were rewritten on the way

module _ (F : ℕ) (at later : List (ℕ × Puddle)) (image mid : Image) (g : Graph) (places : (s : ℕ) → place_in_pool F later mid s ≡ place_in_pool F at image s) (known next : Known) where
  field_then : (later_is : Bool) (read : FieldRead) (x : FieldValue) → FollowsField later_is read x known next → FollowsField later_is read x (with_puddles later known) (with_puddles later next)
  field_then true read x follows = ap (with_puddles later) follows
  field_then false NoObject x follows = ap (with_puddles later) follows
  field_then false NoField x follows = ap (with_puddles later) follows
  field_then false (Value was) x follows = record { puddles = refl; index = follows.index; placed = follows.placed; full = follows.full }

  -- What is known then follows the update in the same way.
  pub followed_after : (found : FoundUpdate) → FollowsUpdate F at image g found known next → FollowsUpdate F later mid g found (with_puddles later known) (with_puddles later next)
  followed_after (Field slot f word read x later_is) follows = field_then later_is read x follows
  followed_after (Root word was s) follows = record { puddles = refl; index = follows.index; placed = follows.placed; full = follows.full }
  followed_after (Freed slot s) follows = record {
    puddles = refl;
    index = λ x kept. subst (λ (place : ℕ → Option ℕ). Releases place g s x) (λ q s. sym (places s) q) (follows.index x kept);
    placed = follows.placed;
    full = follows.full;
  }
