-- What is known about a pool is true after a change of it, if the index changed in the same way.
use Rattle.std.proofs.Common.{◌≡◌, ℕ, ◌+◌, ◌<◌, ◌≤◌, cond, nat_eq, min, List, map, Option, Some, None, option_map, sym, ap, subst, ◌∙◌, arith, inl, inr, eq-eqb, ne_eqb}
use Rattle.std.specs.Prelude.{slice_get}
use Rattle.std.proofs.lemmas.Bool.{cases_eq, cond-true, cond-false}
use Rattle.std.proofs.lemmas.List.{length-map}
use Rattle.pud_defs.specs.declared.records.Puddle.{Puddle}
use Rattle.pud_defs.specs.declared.records.Slot.{Slot}
use Rattle.pud_defs.specs.declared.objects.FieldValue.{FieldValue}
use Rattle.pud_defs.specs.declared.objects.FieldValue.TheVariants.{Ref}
use Rattle.pud_defs.specs.Formats.Geometry.{class_slots}
use Rattle.pud_defs.specs.Formats.Image.{Image}
use Rattle.pud_defs.specs.PoolGraphs.Stored.{stored_in, class_of, class_at, IsLivePlace}
use Rattle.pud_defs.specs.RegistryTables.Types.{types_of}
use Rattle.pud_defs.specs.PoolGraphs.Graph.{Object, Graph, graph_of, object_in}
use Rattle.pud_defs.specs.PoolGraphs.GraphChanges.{blank_object, with_field, with_new, without_object, with_root}
use Rattle.graph_laws.specs.Slots.{IsSlotOfClass, IsLowestFreeSlot}
use Rattle.puddle_header.proofs.Placed.{place_ordinal, class_there}
use Rattle.puddle_header.specs.Places.{place_of_slot, places_in, IsSlotOf}
use Rattle.graph_read.specs.declared.index.Index.{Index}
use Rattle.graph_read.specs.Indexed.{slot_at_place, IsIndexOf}
use Rattle.graph_read.specs.Reading.{place_in_pool}
use Rattle.graph_read.proofs.IndexKept.{index_set, index_rooted, index_made, index_freed}
use Rattle.object_alloc.specs.Alloc.{AreLiveBefore}
use Rattle.known_pool.specs.declared.searches.FullBelow.{FullBelow}
use Rattle.known_pool.specs.Searches.{full_of, full_after_made, full_after_freed}
use Rattle.known_pool.specs.Known.{Known, IsKnown, HasPlaces, place_under, index_entries, with_puddles}
use Rattle.known_pool.specs.Indexes.{Follows, FollowsPlaces, same_place, with_place, without_place, after_move, after_made, Releases}
use Rattle.known_pool.specs.Serials.{serial_in, KeepsSerials, KeepsPrefix}
use Rattle.known_pool.proofs.KnownKept.{place_kept, live_within, slot_again, IsKnown-placed}
use Rattle.known_pool.proofs.FullPlaces.{full_of-with, full_of-within}
use Rattle.known_pool.proofs.Slots.{place_front, freed_gone, freed_others, made_there, made_others, made_live}
use Rattle.known_pool.proofs.Bounded.{next_unnamed, slot_of_place, slot_at_slot}

-- ---- places

-- A place before one that is at most the next one is before that one, or is that one.
before_next : (p n place : ℕ) → p < n → n ≤ place + 1 → (p ≡ place → ⊥) → p < place
before_next p n place low most other = omega (arith, low, most, other)

next_within : (place end : ℕ) → place < end → place + 1 ≤ end
next_within place end within = omega (arith, within)

lower_within : (n place end : ℕ) → n ≤ end → min n place ≤ end
lower_within n place end few = omega (arith, few)

before_lower : (p n full place : ℕ) → p < n → n ≤ min full place → (p < full) × (p ≡ place → ⊥)
before_lower p n full place low most = (omega (arith, low, most), λ same. absurd (omega (arith, low, most, same)))

-- The class at the place of a slot is that of the slot.
class_of_slot : (F : ℕ) (at : List (ℕ × Puddle)) (image : Image) (slot : Slot) → IsSlotOf at slot → class_at (stored_in F at image) (place_of_slot slot) ≡ slot.class
class_of_slot F at image slot of =
    ap (λ (o : ℕ). class_of (slice_get (map (λ (e : ℕ × Puddle). e.1) at) o)) (place_ordinal slot.ordinal slot.slot of.puddle of.below)
    ∙ class_there at slot.ordinal (slot.frame, of.puddle) of.there
    ∙ sym of.alike

-- ---- what is kept

-- what is kept afterwards about the same pool
module _ (F : ℕ) (known next : Known) (image later : Image) (g : Graph) (puddles : next.puddles ≡ known.puddles) (types : types_of later ≡ types_of image) (stored : graph_of (types_of image) (stored_in F known.puddles image) ≡ Some g)
    (k : IsKnown F image known) where
  abbrev at : List (ℕ × Puddle)
  at = known.puddles

  -- The index is one of the same puddles and types.
  indexed_then : (x : Index) → IsIndexOf F at (types_of image) later x → IsIndexOf F next.puddles (types_of later) later x
  indexed_then x is = subst (λ (ps : List (ℕ × Puddle)). IsIndexOf F ps (types_of later) later x) (sym puddles) (subst (λ (ts : List (ℕ × ℕ)). IsIndexOf F at ts later x) (sym types) is)

  -- From these places the slots of the same puddles are looked for.
  within_then : (full : FullBelow) → next.full_below ≡ full → (class : ℕ) → full_of class full ≤ places_in at → full_of class next.full_below ≤ places_in next.puddles
  within_then full is class few = subst (λ (b : FullBelow). full_of class b ≤ places_in next.puddles) (sym is) (subst (λ (ps : List (ℕ × Puddle)). full_of class full ≤ places_in ps) (sym puddles) few)

  full_then : (full : FullBelow) → next.full_below ≡ full → (class : ℕ) → ((p : ℕ) → p < full_of class full → IsSlotOfClass class (stored_in F at later) p → IsLivePlace (stored_in F at later) p)
      → AreLiveBefore class (stored_in F next.puddles later) (full_of class next.full_below)
  full_then full is class live =
      subst (λ (b : FullBelow). AreLiveBefore class (stored_in F next.puddles later) (full_of class b)) (sym is)
      (subst (λ (ps : List (ℕ × Puddle)). AreLiveBefore class (stored_in F ps later) (full_of class full)) (sym puddles) (record { each = live }))

  live_then : KeepsSerials F at at image later → (class p : ℕ) → p < full_of class known.full_below → IsSlotOfClass class (stored_in F at later) p → IsLivePlace (stored_in F at later) p
  live_then keeps class p below slot =
      let live = (k.full class).each p below (slot_again F at image later class p slot) in
      λ free. live (sym (keeps.each p (live_within F at image p live)) ∙ free)

  -- The index has the places of the same puddles.
  placed_then : (x : Index) → ((q : ℕ) → place_under x q ≡ option_map slot_at_place (place_in_pool F at later q)) → HasPlaces (place_in_pool F next.puddles later) x
  placed_then x each = subst (λ (ps : List (ℕ × Puddle)). HasPlaces (place_in_pool F ps later) x) (sym puddles) (record { each = each })

  -- Each object stands where it stood.
  placed_still : KeepsSerials F at at image later → FollowsPlaces same_place known.placed next.placed → (x : Index) → next.placed ≡ Some (index_entries x) → HasPlaces (place_in_pool F next.puddles later) x
  placed_still keeps places x kept =
      let from = places.each x kept in
      placed_then x (λ q. from.each q ∙ (k.placed from.before from.was).each q ∙ ap (option_map slot_at_place) (sym (place_kept F at at image later keeps q)))

  -- The object of one serial stands here now, or nowhere, and each other stands where it stood.
  placed_but : (s : ℕ) (here : Option (ℕ × ℕ)) → here ≡ option_map slot_at_place (place_in_pool F at later s) → ((q : ℕ) → (q ≡ s → ⊥) → place_in_pool F at later q ≡ place_in_pool F at image q)
      → (x before : Index) → ((q : ℕ) → place_under x q ≡ cond (nat_eq s q) here (place_under before q)) → known.placed ≡ Some (index_entries before) → HasPlaces (place_in_pool F next.puddles later) x
  placed_but s here is others x before each was =
      placed_then x (λ q. each q ∙ elim (cases_eq q s) [
        | inl same ↦ cond-true _ _ _ (eq-eqb s q (sym same)) ∙ is ∙ ap (λ (n : ℕ). option_map slot_at_place (place_in_pool F at later n)) (sym same)
        | inr other ↦ cond-false _ _ _ (ne_eqb s q (λ same. other (sym same))) ∙ (k.placed before was).each q ∙ ap (option_map slot_at_place) (sym (others q other))
      ])

  -- A field was set.
  pub IsKnown-set : (s f : ℕ) (now was : FieldValue) (o : Object) → object_in s g ≡ Some o → slice_get o.fields f ≡ Some was → graph_of (types_of image) (stored_in F at later) ≡ Some (with_field s f now g)
      → KeepsSerials F at at image later → Follows (after_move was now) known.index next.index → FollowsPlaces same_place known.placed next.placed → next.full_below ≡ known.full_below → IsKnown F later next
  IsKnown-set s f now was o there field after keeps follows places full = record {
    indexed = λ y kept.
        let from = follows.each y kept in
        indexed_then y (index_set F at (types_of image) image g stored from.before (k.indexed from.before from.was) later s f now was o y there field after (place_kept F at at image later keeps) from.each);
    placed = placed_still keeps places;
    within = λ class. within_then known.full_below full class (k.within class);
    full = λ class. full_then known.full_below full class (live_then keeps class);
  }

  -- The root was set.
  pub IsKnown-rooted : (r : ℕ) → graph_of (types_of image) (stored_in F at later) ≡ Some (with_root r g) → KeepsSerials F at at image later → Follows (after_move (Ref g.root) (Ref r)) known.index next.index
      → FollowsPlaces same_place known.placed next.placed → next.full_below ≡ known.full_below → IsKnown F later next
  IsKnown-rooted r after keeps follows places full = record {
    indexed = λ y kept.
        let from = follows.each y kept in
        indexed_then y (index_rooted F at (types_of image) image g stored from.before (k.indexed from.before from.was) later r y after (place_kept F at at image later keeps) from.each);
    placed = placed_still keeps places;
    within = λ class. within_then known.full_below full class (k.within class);
    full = λ class. full_then known.full_below full class (live_then keeps class);
  }

  -- Each slot before the place from which slots of its class are looked for next was live, but for the one that was the lowest free slot.
  live_before : (slot : Slot) → IsLowestFreeSlot slot.class (stored_in F at image) (place_of_slot slot)
      → (class p : ℕ) → p < full_of class (full_after_made slot known.full_below) → (p ≡ place_of_slot slot → ⊥) → IsSlotOfClass class (stored_in F at image) p → IsLivePlace (stored_in F at image) p
  live_before slot lowest class p low other here_slot = elim (full_of-with class slot.class (place_of_slot slot + 1) known.full_below) [
    | inl same ↦ lowest.live_before p (before_next p _ (place_of_slot slot) low same.1 other) (record { slot = here_slot.slot; of_class = here_slot.of_class ∙ same.0 })
    | inr apart ↦ (k.full class).each p (subst (λ (n : ℕ). p < n) apart.1 low) here_slot
  ]

  -- An object was made in the lowest free slot of a class.
  pub IsKnown-made : (class type_id m : ℕ) (slot : Slot) → graph_of (types_of image) (stored_in F at later) ≡ Some (with_new (blank_object class type_id m) g) → IsLowestFreeSlot slot.class (stored_in F at image) (place_of_slot slot)
      → serial_in F at later (place_of_slot slot) ≡ g.next_serial → ((p : ℕ) → (p ≡ place_of_slot slot → ⊥) → serial_in F at later p ≡ serial_in F at image p)
      → Follows (after_made g.next_serial slot) known.index next.index → FollowsPlaces (with_place g.next_serial slot) known.placed next.placed → next.full_below ≡ full_after_made slot known.full_below → slot.slot < class_slots slot.class → IsKnown F later next
  IsKnown-made class type_id m slot after lowest made serials follows places full below =
      let low = lowest.within in
      let many = length-map at (λ (e : ℕ × Puddle). e.1) in
      let within : place_of_slot slot < places_in at = omega (arith, low, many) in
      record {
        indexed = λ y kept.
            let from = follows.each y kept in
            indexed_then y (index_made F at (types_of image) image g stored from.before (k.indexed from.before from.was) later class type_id m (place_of_slot slot) y after (next_unnamed (types_of image) (stored_in F at image) g stored)
            (made_there F at image later g stored (place_of_slot slot) serials within lowest.free made) (made_others F at image later g stored (place_of_slot slot) serials within lowest.free made)
            (slot_at_slot from.before y g.next_serial slot below from.each));
        placed = λ y kept.
            let from = places.each y kept in
            placed_but g.next_serial (Some (slot.ordinal, slot.slot))
            (ap Some (sym (slot_of_place slot below)) ∙ ap (option_map slot_at_place) (sym (made_there F at image later g stored (place_of_slot slot) serials within lowest.free made)))
            (made_others F at image later g stored (place_of_slot slot) serials within lowest.free made) y from.before from.each from.was;
        within = λ class. within_then (full_after_made slot known.full_below) full class
            (full_of-within class slot.class (place_of_slot slot + 1) (places_in at) known.full_below (next_within (place_of_slot slot) (places_in at) within) (k.within class));
        full = λ class. full_then (full_after_made slot known.full_below) full class (λ p low here_slot. elim (cases_eq p (place_of_slot slot)) [
          | inl here ↦ subst (IsLivePlace (stored_in F at later)) (sym here) (made_live F at image later g stored (place_of_slot slot) serials within lowest.free made)
          | inr other ↦ λ free. live_before slot lowest class p low other (slot_again F at image later class p here_slot) (sym (serials p other) ∙ free)
        ]);
      }

  -- Each slot before the place from which slots of its class are looked for next was before that place already, and is not the one that was freed.
  still_before : (slot : Slot) → IsSlotOf at slot → (class p : ℕ) → p < full_of class (full_after_freed slot known.full_below) → IsSlotOfClass class (stored_in F at image) p
      → (p < full_of class known.full_below) × (p ≡ place_of_slot slot → ⊥)
  still_before slot of class p low here_slot = elim (full_of-with class slot.class (min (full_of slot.class known.full_below) (place_of_slot slot)) known.full_below) [
    | inl same ↦
        let both = before_lower p _ (full_of slot.class known.full_below) (place_of_slot slot) low same.1 in
        (subst (λ (c : ℕ). p < full_of c known.full_below) (sym same.0) both.0, both.1)
    | inr apart ↦ (subst (λ (n : ℕ). p < n) apart.1 low, λ here. apart.0 (sym here_slot.of_class ∙ ap (class_at (stored_in F at image)) here ∙ class_of_slot F at image slot of))
  ]

  -- An object was freed.
  pub IsKnown-freed : (s : ℕ) (slot : Slot) → IsSlotOf at slot → graph_of (types_of image) (stored_in F at later) ≡ Some (without_object s g) → place_in_pool F at image s ≡ Some (place_of_slot slot)
      → serial_in F at later (place_of_slot slot) ≡ 0 → ((p : ℕ) → (p ≡ place_of_slot slot → ⊥) → serial_in F at later p ≡ serial_in F at image p)
      → ((x : Index) → next.index ≡ Some (index_entries x) → Releases (place_in_pool F at image) g s x) → FollowsPlaces (without_place s) known.placed next.placed → next.full_below ≡ full_after_freed slot known.full_below → IsKnown F later next
  IsKnown-freed s slot of after there freed serials lets places full = record {
    indexed = λ y kept.
        let released = lets y kept in
        indexed_then y (index_freed F at (types_of image) image later g s released.before y after (freed_gone F at image later g stored (place_of_slot slot) serials s there freed)
        (freed_others F at image later g stored (place_of_slot slot) serials s there freed) released.gone released.left);
    placed = λ y kept.
        let from = places.each y kept in
        placed_but s None (ap (option_map slot_at_place) (sym (freed_gone F at image later g stored (place_of_slot slot) serials s there freed)))
        (freed_others F at image later g stored (place_of_slot slot) serials s there freed) y from.before from.each from.was;
    within = λ class. within_then (full_after_freed slot known.full_below) full class
        (full_of-within class slot.class (min (full_of slot.class known.full_below) (place_of_slot slot)) (places_in at) known.full_below
        (lower_within (full_of slot.class known.full_below) (place_of_slot slot) (places_in at) (k.within slot.class)) (k.within class));
    full = λ class. full_then (full_after_freed slot known.full_below) full class (λ p low here_slot free.
        let was = still_before slot of class p low (slot_again F at image later class p here_slot) in
        (k.full class).each p was.0 (slot_again F at image later class p here_slot) (sym (serials p was.1) ∙ free));
  }

-- Puddles were added after the others, and the graph stays.
pub IsKnown-grown : (F : ℕ) (known : Known) (later : List (ℕ × Puddle)) (before after : Image) (g : Graph) → graph_of (types_of before) (stored_in F known.puddles before) ≡ Some g → graph_of (types_of after) (stored_in F later after) ≡ Some g
    → KeepsPrefix F known.puddles later before after → IsKnown F before known → IsKnown F after (with_puddles later known)
IsKnown-grown F known later before after g was is keeps k =
    IsKnown-placed F known later before after g was is keeps.more (place_front F known.puddles later before after keeps g was is) keeps.classes
    (λ p live free. live (sym (keeps.each p (live_within F known.puddles before p live)) ∙ free)) k
