-- What the daemon knows about a pool still holds after an object is made in the lowest free slot of its class, and after a
-- puddle is added.
use Rattle.std.proofs.Common.{◌≡◌, inl, inr, ℕ, ◌+◌, ◌<◌, ◌≤◌, true, ltb, List, Some, None, Result, Ok, Err, refl, sym, ap, subst, ◌∙◌, arith}
use Rattle.std.specs.Prelude.{slice_get, IfOk}
use Rattle.std.proofs.lemmas.Bool.{cases_lt}
use Rattle.std.proofs.lemmas.List.{length-map}
use Rattle.pm_model.specs.declared.host.HostFault.{HostFault}
use Rattle.pm_model.specs.Words.{reads}
use Rattle.pm_model.specs.Moments.{State}
use Rattle.pud_defs.specs.declared.layout.TheConstants.{LOG_WORDS}
use Rattle.pud_defs.specs.declared.records.Puddle.{Puddle}
use Rattle.pud_defs.specs.declared.records.Slot.{Slot}
use Rattle.pud_defs.specs.declared.space.TheConstants.{SLOT_SERIAL_WORD}
use Rattle.pud_defs.specs.Formats.Geometry.{class_slots, class_slot_at, ordinal_of, slot_of}
use Rattle.pud_defs.proofs.Formats.Geometry.{slot_low, some_words, slots_apart}
use Rattle.pud_defs.specs.Formats.Image.{Image}
use Rattle.pud_defs.specs.Formats.Layout.{device_words, frames_at}
use Rattle.pud_defs.specs.Logging.Replay.{overwritten}
use Rattle.pud_defs.specs.PoolGraphs.Graph.{Graph, fits_class, graph_of, next_serial_of}
use Rattle.pud_defs.specs.PoolGraphs.GraphChanges.{blank_object, with_new}
use Rattle.pud_defs.specs.PoolGraphs.Stored.{Stored, stored_in, class_of, class_at, place_begins, place_words, place_serial}
use Rattle.pud_defs.specs.RegistryTables.Types.{map_of, types_of}
use Rattle.pud_defs.proofs.PoolGraphs.Graphs.{graph_of-each}
use Rattle.graph_laws.specs.Changes.{IsMade}
use Rattle.graph_laws.specs.Slots.{IsSlotOfClass, IsLowestFreeSlot}
use Rattle.graph_laws.proofs.SameReads.Words.{serial_there, serial-same}
use Rattle.puddle_header.specs.Places.{places_in, place_of_slot, IsSlotOf}
use Rattle.hybrid_tx.proofs.Objects.SlotPlaces.{below_of_slot}
use Rattle.hybrid_tx.specs.PoolScopes.{ArePlacedPuddles}
use Rattle.hybrid_tx.specs.Objects.Stores.{new_object_write}
use Rattle.hybrid_tx.specs.Objects.Transactions.{MakesIn}
use Rattle.hybrid_tx.proofs.PoolScope.{is_scope}
use Rattle.hybrid_tx.proofs.Objects.ObjectsMade.{made}
use Rattle.hybrid_tx.proofs.Objects.Opening.{stored_in-has_word}
use Rattle.known_pool.specs.Known.{Known, IsKnown}
use Rattle.known_pool.proofs.KnownChanged.{IsKnown-made}
use Rattle.known_pool.specs.Serials.{KeepsSerials}
use Rattle.known_pool.specs.Indexes.{Follows, FollowsPlaces, with_place, after_made}
use Rattle.known_pool.specs.Searches.{full_after_made}

-- What the daemon knows also has the object with the serial in the slot, before which each slot of its class is live.
pub record FollowsMade (serial : ℕ) (slot : Slot) (old new : Known) : Type 0 where
  pub puddles : new.puddles ≡ old.puddles
  pub index : Follows (after_made serial slot) old.index new.index
  pub placed : FollowsPlaces (with_place serial slot) old.placed new.placed
  pub full : new.full_below ≡ full_after_made slot old.full_below

-- What a call owes about its result holds if it holds for each result.
pub ok_there : {X : Type 0} (done : Result X HostFault) (P : X → Type 0) → ((x : X) → done ≡ Ok x → P x) → IfOk done P
ok_there (Ok x) P told = told x refl
ok_there (Err fault) P told = tt

-- A place is a slot of the class if it was one and lies in a puddle of the same class.
slot_kept : (class : ℕ) (st later : Stored) (p : ℕ) → class_at later p ≡ class_at st p → IsSlotOfClass class st p → IsSlotOfClass class later p
slot_kept class st later p same is = record { slot = ap (λ (c : ℕ). ltb (slot_of p) (class_slots c)) same ∙ is.slot; of_class = same ∙ is.of_class }

-- The lowest free slot stays the same if each puddle keeps its class, and each slot has the serial that it had.
pub lowest_kept : (F class : ℕ) (at later : List (ℕ × Puddle)) (before after : Image) → KeepsSerials F at later before after → (p : ℕ) → IsLowestFreeSlot class (stored_in F at before) p → IsLowestFreeSlot class (stored_in F later after) p
lowest_kept F class at later before after keeps p lowest =
    let low = lowest.within in
    let many = length-map at (λ (e : ℕ × Puddle). e.1) in
    let later_many = length-map later (λ (e : ℕ × Puddle). e.1) in
    let count = keeps.count in
    record {
      within = omega (arith, low, many, later_many, count);
      slot = slot_kept class (stored_in F at before) (stored_in F later after) p (keeps.classes p (omega (arith, low, many))) lowest.slot;
      free = keeps.each p (omega (arith, low, many)) ∙ lowest.free;
      live_before = λ q below is free.
          let within : q < places_in at = omega (arith, below, low, many) in
          lowest.live_before q below (slot_kept class (stored_in F later after) (stored_in F at before) q (sym (keeps.classes q within)) is) (sym (keeps.each q within) ∙ free);
    }

-- The word of a serial lies in one slot only.
one_place : (st : Stored) (q p : ℕ) → ordinal_of q ≡ ordinal_of p → place_begins st p ≤ place_begins st q + SLOT_SERIAL_WORD → place_begins st q + SLOT_SERIAL_WORD < place_begins st p + place_words st p → q ≡ p
one_place st q p same low high =
    let class = class_at st p in
    let alike : class_at st q ≡ class = ap (λ (o : ℕ). class_of (slice_get st.puddles o)) same in
    let begins : place_begins st q ≡ class_slot_at class (slot_of q) = ap (λ (c : ℕ). class_slot_at c (slot_of q)) alike in
    let some = some_words class in
    elim (cases_lt (slot_of p) (slot_of q)) [
      | inl below ↦ let apart = slots_apart class (slot_of p) (slot_of q) below in absurd (omega (arith, apart, begins, high))
      | inr up ↦ elim (cases_lt (slot_of q) (slot_of p)) [
        | inl below ↦ let apart = slots_apart class (slot_of q) (slot_of p) below in absurd (omega (arith, apart, begins, low, some))
        | inr down ↦ omega (arith, same, up, down)
      ]
    ]

module _ (types : List (ℕ × ℕ)) (F : ℕ) (at : List (ℕ × Puddle)) (log : ℕ) (slot : Slot) (of : IsSlotOf at slot) (type_id m : ℕ) (old new : State) (placed : ArePlacedPuddles F at) (apart : log + LOG_WORDS ≤ frames_at F)
    (makes : MakesIn F at log slot type_id None old new) (lowest : IsLowestFreeSlot slot.class (stored_in F at (reads old.now.words)) (place_of_slot slot)) (defined : map_of type_id types ≡ Some m) (room : fits_class slot.class m ≡ true) where
  abbrev image : Image
  image = reads old.now.words

  abbrev st : Stored
  st = stored_in F at image

  abbrev p : ℕ
  p = place_of_slot slot

  abbrev after : Image
  after = overwritten (new_object_write F makes.first.0 slot (next_serial_of st) type_id) image

  same_stored : stored_in F at (reads new.now.words) ≡ stored_in F at after
  same_stored = stored_in-has_word F at after (reads new.now.words) (λ k mine. makes.now refl k ((is_scope F (device_words F) log at placed (omega arith) apart).apart k mine))

  its : IsMade types st (stored_in F at after).word p type_id m
  its = made types F at image placed makes.first makes.head slot of (next_serial_of st) type_id m lowest.free refl defined room

  serial_now : place_serial (stored_in F at (reads new.now.words)) p ≡ next_serial_of st
  serial_now = ap (λ (s : Stored). place_serial s p) same_stored ∙ serial_there (stored_in F at after) p its.slot ∙ its.serial_word

  serials_stay : (q : ℕ) → (q ≡ p → ⊥) → place_serial (stored_in F at (reads new.now.words)) q ≡ place_serial st q
  serials_stay q other =
      ap (λ (s : Stored). place_serial s q) same_stored
      ∙ serial-same st (stored_in F at after).word q (λ is.
      its.others (ordinal_of q) (place_begins st q + SLOT_SERIAL_WORD) (λ ordinal low high. other (one_place st q p ordinal low high))
      (λ first next. let begins = slot_low (class_at st q) (slot_of q) in absurd (omega (arith, next, begins))))

  -- What the daemon knows about the pool then holds, if the object is kept too.
  pub Known-made : (known : Known) → known.puddles ≡ at → IsKnown F image known → types_of image ≡ types → types_of (reads new.now.words) ≡ types → (g : Graph) → graph_of types st ≡ Some g
      → graph_of types (stored_in F at (reads new.now.words)) ≡ Some (with_new (blank_object slot.class type_id m) g) → (serial : ℕ) → serial ≡ g.next_serial → (next : Known) → FollowsMade serial slot known next → IsKnown F (reads new.now.words) next
  Known-made known puddles so types_old types_new g stored grown serial is next follows =
      let same_next : next_serial_of st ≡ g.next_serial = ap (λ (k : Graph). k.next_serial) (graph_of-each types st g stored).is in
      let lent : at ≡ known.puddles = sym puddles in
      let stored_old : graph_of (types_of image) (stored_in F known.puddles image) ≡ Some g = (λ i. graph_of (types_old i) (stored_in F (puddles i) image)) ∙ stored in
      let grown_old : graph_of (types_of image) (stored_in F known.puddles (reads new.now.words)) ≡ Some (with_new (blank_object slot.class type_id m) g) = (λ i. graph_of (types_old i) (stored_in F (puddles i) (reads new.now.words))) ∙ grown in
      IsKnown-made F known next image (reads new.now.words) g follows.puddles (types_new ∙ sym types_old) stored_old so slot.class type_id m slot grown_old
      (subst (λ (ps : List (ℕ × Puddle)). IsLowestFreeSlot slot.class (stored_in F ps image) p) lent lowest)
      (ap (λ (ps : List (ℕ × Puddle)). place_serial (stored_in F ps (reads new.now.words)) p) puddles ∙ serial_now ∙ same_next)
      (λ q other. ap (λ (ps : List (ℕ × Puddle)). place_serial (stored_in F ps (reads new.now.words)) q) puddles ∙ serials_stay q other ∙ sym (ap (λ (ps : List (ℕ × Puddle)). place_serial (stored_in F ps image) q) puddles))
      (subst (λ (n : ℕ). FollowsMade n slot known next) is follows).index (subst (λ (n : ℕ). FollowsMade n slot known next) is follows).placed follows.full (below_of_slot at slot of)
