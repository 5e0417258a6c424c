-- Whether the redo entry of a deferred value names an object, by its address and its value; and the same for all
-- entries in turn.
use Rattle.std.proofs.Common.{◌≡◌, ◌⊎◌, inl, inr, ℕ, ◌+◌, ◌*◌, ◌%◌, ◌<◌, Bool, true, false, ◌||◌, cond, eqb, List, [], ◌∷◌, map, length, Option, Some, None, option_map, refl, sym, ap, ap₂, subst, ◌∙◌, arith, eq-eqb, ne_eqb}
use Rattle.std.specs.Prelude.{slice_get}
use Rattle.std.proofs.lemmas.Bool.{cases_eq, cond-true, cond-false}
use Rattle.std.proofs.lemmas.Option.{none-some, same_Some, slice_get-map}
use Rattle.pud_defs.specs.declared.log_words.TheConstants.{REDO_ORDER}
use Rattle.pud_defs.specs.declared.space.TheConstants.{RANGE_BYTES, WORD_BYTES, SLOT_SERIAL_WORD, SLOT_TYPE_WORD, SLOT_FIELDS_WORD}
use Rattle.pud_defs.specs.declared.records.Puddle.{Puddle}
use Rattle.pud_defs.specs.declared.records.Slot.{Slot}
use Rattle.pud_defs.specs.declared.objects.FieldValue.{FieldValue}
use Rattle.pud_defs.specs.declared.objects.FieldValue.TheVariants.{Num, Ref}
use Rattle.pud_defs.specs.Formats.Geometry.{class_slot_words, class_slot_at, slot_at, slot_begins, ordinal_of, slot_of}
use Rattle.pud_defs.proofs.Formats.Geometry.{some_words, slot_low, slot_end, same_slot}
use Rattle.pud_defs.specs.Formats.Image.{Image}
use Rattle.pud_defs.specs.Formats.TypeMap.{is_pointer}
use Rattle.pud_defs.specs.RegistryTables.Types.{map_of}
use Rattle.pud_defs.specs.Formats.Headers.{slot_word}
use Rattle.pud_defs.specs.Logging.Entries.{Entry, entries_of, words_from}
use Rattle.pud_defs.specs.PoolGraphs.Stored.{Stored, stored_in, place_word, place_serial}
use Rattle.pud_defs.specs.PoolGraphs.Graph.{slot_address, At, target, Object, Graph, names_serial, graph_of}
use Rattle.pud_defs.specs.PoolGraphs.DeferredValues.{DeferredValue, deferred_value_names, deferred_set_names}
use Rattle.pud_defs.proofs.Logging.Entries.{words_from-length, words_from-step}
use Rattle.log_entry.specs.declared.Entry.{Entry as Found}
use Rattle.log_entry.specs.Reading.{Reading, entries_left, entry_from, left_before}
use Rattle.log_entry.proofs.Left.{entries_left-start, taken, none_left}
use Rattle.graph_laws.specs.Changes.{AreBases}
use Rattle.graph_laws.proofs.SameReads.Pointers.{target-there}
use Rattle.graph_laws.proofs.SameReads.Words.{IsLive, live_in_slot, place_of_serial-some}
use Rattle.puddle_header.specs.Places.{places_in, is_slot_in, place_of_slot, IsSlotOf}
use Rattle.graph_read.specs.Reading.{place_in_pool, table_in}
use Rattle.puddle_header.proofs.Placed.{slot_at_place}
use Rattle.log_store.specs.Store.{is_redo}
use Rattle.word_transaction.specs.Scope.{redo_entry, deferred_entries}
use Rattle.hybrid_tx.specs.PoolScopes.{ArePlacedPuddles}
use Rattle.hybrid_tx.specs.Objects.FieldAddresses.{IsFieldAddress, IsFieldOf}
use Rattle.hybrid_tx.specs.Objects.Stores.{address_at, word_for}
use Rattle.hybrid_tx.specs.Objects.Transactions.{MayHold, IsDeferredEntry, AreDeferredEntries}
use Rattle.hybrid_tx.proofs.PoolScope.{bases_of, base_there}
use Rattle.hybrid_tx.proofs.Objects.SlotPlaces.{below_there, serial_of_slot}
use Rattle.hybrid_tx.proofs.Objects.FieldsSet.{object_at_place, room_for_field}
use Rattle.hybrid_tx.proofs.Objects.DeferredKept.{some_element, address_by}

-- ---- which field has an address

one_base : (puddle other : Puddle) (address slot f guess g : ℕ) → puddle.base % RANGE_BYTES ≡ 0 → other.base % RANGE_BYTES ≡ 0 → IsFieldAddress puddle address slot f → IsFieldAddress other address guess g → puddle.base ≡ other.base
one_base puddle other address slot f guess g multiple others one another =
    let a = one.field_below in
    let low = slot_low puddle.class slot in
    let end = slot_end puddle.class slot one.slot_below in
    let b = another.field_below in
    let other_low = slot_low other.class guess in
    let other_end = slot_end other.class guess another.slot_below in
    let here = one.is in
    let there = another.is in
    omega arith

-- in the range of one puddle, an address is that of one field alone
one_slot : (puddle : Puddle) (address slot f guess g : ℕ) → IsFieldAddress puddle address slot f → IsFieldAddress puddle address guess g → slot ≡ guess
one_slot puddle address slot f guess g one another =
    let here = one.is in
    let there = another.is in
    same_slot puddle.class slot guess (SLOT_FIELDS_WORD + f) (SLOT_FIELDS_WORD + g) one.field_below another.field_below (omega arith)

one_field : (puddle : Puddle) (address slot f guess g : ℕ) → IsFieldAddress puddle address slot f → IsFieldAddress puddle address guess g → f ≡ g
one_field puddle address slot f guess g one another =
    let begins = ap (slot_at puddle) (one_slot puddle address slot f guess g one another) in
    let here = one.is in
    let there = another.is in
    omega arith

-- in all ranges of a pool, an address is that of one field alone
pub field_unique : (at : List (ℕ × Puddle)) (address : ℕ) (slot guess : Slot) (f g : ℕ) → AreBases (bases_of at) → IsFieldOf at address slot f → IsFieldOf at address guess g → (slot ≡ guess) × (f ≡ g)
field_unique at address slot guess f g bases one another =
    let base = one.of.puddle.base in
    let there = base_there at slot.ordinal (slot.frame, one.of.puddle) one.of.there in
    let also = base_there at guess.ordinal (guess.frame, another.of.puddle) another.of.there in
    let same : base ≡ another.of.puddle.base =
    one_base one.of.puddle another.of.puddle address slot.slot f guess.slot g (bases.multiples slot.ordinal base there) (bases.multiples guess.ordinal another.of.puddle.base also) one.address_is another.address_is in
    let ordinal : slot.ordinal ≡ guess.ordinal = bases.distinct slot.ordinal guess.ordinal base there (also ∙ ap (λ (b : ℕ). Some b) (sym same)) in
    let puddle : (slot.frame, one.of.puddle) ≡ (guess.frame, another.of.puddle) =
    same_Some _ _ (sym one.of.there ∙ ap (λ (o : ℕ). slice_get at o) ordinal ∙ another.of.there) in
    let frame : slot.frame ≡ guess.frame = ap (λ (e : ℕ × Puddle). e.0) puddle in
    let class : slot.class ≡ guess.class = one.of.alike ∙ ap (λ (e : ℕ × Puddle). e.1.class) puddle ∙ sym another.of.alike in
    let here = subst (λ (e : ℕ × Puddle). IsFieldAddress e.1 address guess.slot g) (sym puddle) another.address_is in
    let number = one_slot one.of.puddle address slot.slot f guess.slot g one.address_is here in
    (λ i. record { frame = frame i; ordinal = ordinal i; slot = number i; class = class i }, one_field one.of.puddle address slot.slot f guess.slot g one.address_is here)

-- ---- addresses of slots

module _ (at : List (ℕ × Puddle)) (bases : AreBases (bases_of at)) where
  abbrev puddles : List Puddle
  puddles = map (λ (e : ℕ × Puddle). e.1) at

  place_read : (p : ℕ) → p < places_in at → is_slot_in at p ≡ true → target puddles (address_at at p) ≡ At p
  place_read p below slot =
      let within : ordinal_of p < length at = omega arith in
      let e = some_element at (ordinal_of p) within in
      ap (target puddles) (address_by at p e.0 e.1)
      ∙ target-there puddles p e.0.1 bases (slice_get-map (λ (d : ℕ × Puddle). d.1) at (ordinal_of p) ∙ ap (option_map (λ (d : ℕ × Puddle). d.1)) e.1) (below_there at p e.0 e.1 slot)

  -- slots with the same address are at the same place
  place_unique : (p q : ℕ) → p < places_in at → q < places_in at → is_slot_in at p ≡ true → is_slot_in at q ≡ true → address_at at p ≡ address_at at q → p ≡ q
  place_unique p q low high slot also same = let it : At p ≡ At q = sym (place_read p low slot) ∙ ap (target puddles) same ∙ place_read q high also in cc

-- ---- one entry

-- a deferred value names the object of its field
pub names-object : (s : ℕ) (l : DeferredValue) → l.s ≡ s → deferred_value_names s l ≡ true
names-object s l same = ap (λ (b : Bool). b || names_serial s l.x) (eq-eqb l.s s same)

module _ (F : ℕ) (at : List (ℕ × Puddle)) (types : List (ℕ × ℕ)) (image : Image) (now : Graph) (l : DeferredValue) (e : Entry) (later : IsDeferredEntry F at types image now l e) (is : graph_of types (stored_in F at image) ≡ Some now) where
  -- the entry has the address of the field
  pub address_of_later : IsFieldOf at e.address later.slot l.f
  address_of_later =
      let room = room_for_field types F at image now is l.s l.f l.x later.slot later.of later.place later.may in
      let begins : later.of.puddle.base + WORD_BYTES * (slot_begins later.slot + SLOT_FIELDS_WORD + l.f) ≡ later.of.puddle.base + WORD_BYTES * (slot_at later.of.puddle later.slot.slot + SLOT_FIELDS_WORD + l.f) =
      ap (λ (c : ℕ). later.of.puddle.base + WORD_BYTES * (class_slot_at c later.slot.slot + SLOT_FIELDS_WORD + l.f)) later.of.alike in
      record {
        of = later.of;
        address_is = record {
          slot_below = later.of.below;
          field_below = subst (λ (c : ℕ). SLOT_FIELDS_WORD + l.f < class_slot_words c) later.of.alike room;
          is = ap (λ (d : Entry). d.address) later.is ∙ begins;
        };
      }

  -- what is found by the address is the slot and the field, and the slot's serial is that of the object
  pub read_of_later : (found : Option (Slot × ℕ)) (guess : Slot) (f serial : ℕ) → ((slot : Slot) (g : ℕ) → IsFieldOf at e.address slot g → found ≡ Some (slot, g)) → found ≡ Some (guess, f) → IsSlotOf at guess
      → serial ≡ slot_word F guess.frame guess.class guess.slot SLOT_SERIAL_WORD image → (guess ≡ later.slot) × (f ≡ l.f) × (serial ≡ l.s)
  read_of_later found guess f serial each same of word =
      let some = some_words of.puddle.class in
      let it : ◌≡◌ {A = Slot × ℕ} (guess, f) (later.slot, l.f) = same_Some (guess, f) (later.slot, l.f) (sym same ∙ each later.slot l.f address_of_later) in
      let slot : guess ≡ later.slot = ap (λ (x : Slot × ℕ). x.0) it in (
        slot,
        ap (λ (x : Slot × ℕ). x.1) it,
        word
            ∙ slot_at_place F at image SLOT_SERIAL_WORD guess of (omega arith)
            ∙ sym (serial_of_slot F at image guess of)
            ∙ ap (λ (k : Slot). place_serial (stored_in F at image) (place_of_slot k)) slot
            ∙ (place_of_serial-some (table_in F at image) (places_in at) l.s (place_of_slot later.slot) later.place).is,
      )

  -- the type that the slot has is that of the object
  pub map_of_later : (guess : Slot) (id : ℕ) → guess ≡ later.slot → IsSlotOf at guess → id ≡ slot_word F guess.frame guess.class guess.slot SLOT_TYPE_WORD image → map_of id types ≡ Some later.may.map
  map_of_later guess id slot of word =
      let some = some_words of.puddle.class in
      let there = object_at_place types F at image now is l.s (place_of_slot later.slot) later.place in
      ap (λ (n : ℕ). map_of n types)
      (word ∙ slot_at_place F at image SLOT_TYPE_WORD guess of (omega arith) ∙ ap (λ (k : Slot). place_word (stored_in F at image) (place_of_slot k) SLOT_TYPE_WORD) slot)
      ∙ ap (λ (o : Object). map_of o.type_id types) (same_Some _ _ (sym there ∙ later.may.live))
      ∙ later.may.defined

  -- the object of this serial stands at this place
  module _ (is_placed : ArePlacedPuddles F at) (s p : ℕ) (used : s ≡ 0 → ⊥) (place : place_in_pool F at image s ≡ Some p) where
    abbrev st : Stored
    st = stored_in F at image

    named : IsLive (table_in F at image) (places_in at) s p
    named = place_of_serial-some (table_in F at image) (places_in at) s p place

    null_apart : 0 ≡ address_at at p → ⊥
    null_apart same =
        let below = named.within in
        let within : ordinal_of p < length at = omega arith in
        let e = some_element at (ordinal_of p) within in
        let zero : 0 ≡ slot_address e.0.1 (slot_of p) = same ∙ address_by at p e.0 e.1 in
        let low = slot_low e.0.1.class (slot_of p) in
        absurd (omega arith)

    -- a reference names the object if its word is the object's address
    same_address : (r q v : ℕ) → place_in_pool F at image r ≡ Some q → address_at at q ≡ v → v ≡ address_at at p → r ≡ s
    same_address r q v there its same =
        let live = place_of_serial-some (table_in F at image) (places_in at) r q there in
        let one = place_unique at is_placed.bases q p live.within named.within (live_in_slot st q live.used) (live_in_slot st p named.used) (its ∙ same) in
        sym live.is ∙ ap (λ (k : ℕ). place_serial st k) one ∙ named.is

    reference_by : (r v : ℕ) (o : Option ℕ) → (r ≡ 0 → ⊥) → place_in_pool F at image r ≡ o → cond (eqb r 0) (Some 0) (option_map (address_at at) o) ≡ Some v → v ≡ address_at at p → r ≡ s
    reference_by r v None other there word same = absurd (none-some v (sym (cond-false _ _ _ (ne_eqb r 0 other)) ∙ word))
    reference_by r v (Some q) other there word same = same_address r q v there (same_Some _ _ (sym (cond-false _ _ _ (ne_eqb r 0 other)) ∙ word)) same

    named_by_word : (r v : ℕ) → word_for F at image (Ref r) ≡ Some v → v ≡ address_at at p → r ≡ s
    named_by_word r v word same = elim (cases_eq r 0) [
      | inl null ↦ absurd (null_apart (same_Some 0 v (sym (cond-true _ _ _ (eq-eqb r 0 null)) ∙ word) ∙ same))
      | inr other ↦ reference_by r v (place_in_pool F at image r) other refl word same
    ]

    word_of_named : (r v : ℕ) → word_for F at image (Ref r) ≡ Some v → r ≡ s → v ≡ address_at at p
    word_of_named r v word same =
        sym (same_Some (address_at at p) v
        (sym (ap (λ (o : Option ℕ). cond (eqb r 0) (Some 0) (option_map (address_at at) o)) (ap (place_in_pool F at image) same ∙ place) ∙ cond-false _ _ _ (ne_eqb r 0 (λ null. used (sym same ∙ null)))) ∙ word))

    -- if the value is the object's address, it names the object exactly if the field is a pointer
    value_by : (x : FieldValue) (v m f : ℕ) → MayHold m f now x → word_for F at image x ≡ Some v → v ≡ address_at at p → is_pointer m f ≡ names_serial s x
    value_by (Num n) v m f holds word same = holds
    value_by (Ref r) v m f holds word same = holds.0 ∙ sym (eq-eqb r s (named_by_word r v word same))

    value_apart : (x : FieldValue) (v m f : ℕ) → MayHold m f now x → word_for F at image x ≡ Some v → (v ≡ address_at at p → ⊥) → names_serial s x ≡ false
    value_apart (Num n) v m f holds word apart = refl
    value_apart (Ref r) v m f holds word apart = ne_eqb r s (λ same. apart (word_of_named r v word same))

    pub names-value : (l.s ≡ s → ⊥) → later.value ≡ address_at at p → deferred_value_names s l ≡ is_pointer later.may.map l.f
    names-value other same = ap (λ (b : Bool). b || names_serial s l.x) (ne_eqb l.s s other) ∙ sym (value_by l.x later.value later.may.map l.f later.may.holds later.word same)

    pub names-neither : (l.s ≡ s → ⊥) → (later.value ≡ address_at at p → ⊥) → deferred_value_names s l ≡ false
    names-neither other apart = ap (λ (b : Bool). b || names_serial s l.x) (ne_eqb l.s s other) ∙ value_apart l.x later.value later.may.map l.f later.may.holds later.word apart

-- if the entry found in an image has one value, its first word has this value
pub value_found : (image : Image) (found : Found) (address v : ℕ) → entry_from image found ≡ redo_entry address (v ∷ []) → image found.at ≡ v
value_found image found address v is =
    let vals : words_from image found.at found.n ≡ v ∷ [] = ap (λ (e : Entry). e.vals) is in
    let count : found.n ≡ 1 = sym (words_from-length image found.at found.n) ∙ ap length vals in
    let one : words_from image found.at found.n ≡ image found.at ∷ words_from image (found.at + 1) 0 = words_from-step image found.at found.n 0 count in
    let front : image found.at ∷ words_from image (found.at + 1) 0 ≡ v ∷ [] = sym one ∙ vals in
    cc

-- ---- all entries, in turn

-- The entries that are left to read have the last of the deferred values. These alone decide whether any of all the
-- values names the serial.
pub record NamesRest (F : ℕ) (at : List (ℕ × Puddle)) (types : List (ℕ × ℕ)) (image : Image) (now : Graph) (s : ℕ) (r : Reading) (whole : Bool) : Type 0 where
  pub rest : List Entry
  pub left : entries_left image r ≡ Some rest
  pub ls : List DeferredValue
  pub are : AreDeferredEntries F at types image now ls (deferred_entries rest)
  pub same : deferred_set_names s ls ≡ whole

-- the entry defers one of them: this value and those of the entries after it decide
pub record NamesOne (F : ℕ) (at : List (ℕ × Puddle)) (types : List (ℕ × ℕ)) (image : Image) (now : Graph) (s : ℕ) (r : Reading) (e : Entry) (whole : Bool) : Type 0 where
  pub l : DeferredValue
  pub later : IsDeferredEntry F at types image now l e
  pub following : Bool
  pub is : (deferred_value_names s l || following) ≡ whole
  pub rest : NamesRest F at types image now s r following

module _ (F : ℕ) (at : List (ℕ × Puddle)) (types : List (ℕ × ℕ)) (image : Image) (now : Graph) (s : ℕ) where
  pub NamesRest-start : (log_at : ℕ) (r : Reading) (es redo : List Entry) (deferred : List DeferredValue) → r ≡ record { log_at = log_at; passed = 0 } → entries_of image log_at ≡ Some es → deferred_entries es ≡ redo
      → AreDeferredEntries F at types image now deferred redo → NamesRest F at types image now s r (deferred_set_names s deferred)
  NamesRest-start log_at r es redo deferred start spells defers are =
      record {
        rest = es;
        left = entries_left-start image log_at r start ∙ spells;
        ls = deferred;
        are = subst (λ (ds : List Entry). AreDeferredEntries F at types image now deferred ds) (sym defers) are;
        same = refl;
      }

  one_by : (r : Reading) (e : Entry) (following : List Entry) (ls : List DeferredValue) (whole : Bool) → entries_left image r ≡ Some following → AreDeferredEntries F at types image now ls (e ∷ deferred_entries following) → deferred_set_names s ls ≡ whole
      → NamesOne F at types image now s r e whole
  one_by r e following [] whole left are same = absurd are
  one_by r e following (l ∷ ls) whole left are same =
      record { l = l; later = are.0; following = deferred_set_names s ls; is = same; rest = record { rest = following; left = left; ls = ls; are = are.1; same = refl } }

  pub NamesRest-more : (found : Option Found) (e : Found) (old new : Reading) (whole : Bool) → NamesRest F at types image now s old whole → found ≡ Some e → entries_left image old ≡ left_before image found new
      → (NamesOne F at types image now s new (entry_from image e) whole) ⊎ ((e.order ≡ REDO_ORDER → ⊥) × NamesRest F at types image now s new whole)
  NamesRest-more found e old new whole names one before =
      let next = taken image found e old new names.rest one before names.left in
      let it = entry_from image e in
      let are = subst (λ (es : List Entry). AreDeferredEntries F at types image now names.ls (deferred_entries es)) next.is names.are in
      elim (cases_eq e.order REDO_ORDER) [
        | inl redo ↦ inl (one_by new it next.following names.ls whole next.left
            (subst (λ (es : List Entry). AreDeferredEntries F at types image now names.ls es) (cond-true (is_redo it) (it ∷ deferred_entries next.following) (deferred_entries next.following) (eq-eqb e.order REDO_ORDER redo)) are) names.same)
        | inr other ↦ inr (
          other,
          record {
            rest = next.following;
            left = next.left;
            ls = names.ls;
            are = subst (λ (es : List Entry). AreDeferredEntries F at types image now names.ls es) (cond-false (is_redo it) (it ∷ deferred_entries next.following) (deferred_entries next.following) (ne_eqb e.order REDO_ORDER other)) are;
            same = names.same;
          },
        )
      ]

  -- an entry that does not name the serial is passed by, and one that names it decides
  pub NamesRest-passed : (r : Reading) (e : Entry) (whole : Bool) → NamesOne F at types image now s r e whole → ((l : DeferredValue) → IsDeferredEntry F at types image now l e → false ≡ deferred_value_names s l) → NamesRest F at types image now s r whole
  NamesRest-passed r e whole one apart =
      subst (λ (b : Bool). NamesRest F at types image now s r b) (ap (λ (b : Bool). b || one.following) (apart one.l one.later) ∙ one.is) one.rest

  pub NamesOne-decided : (r : Reading) (e : Entry) (whole : Bool) → NamesOne F at types image now s r e whole → ((l : DeferredValue) → IsDeferredEntry F at types image now l e → true ≡ deferred_value_names s l) → true ≡ whole
  NamesOne-decided r e whole one names = ap (λ (b : Bool). b || one.following) (names one.l one.later) ∙ one.is

  no_laters : (ls : List DeferredValue) → AreDeferredEntries F at types image now ls [] → ls ≡ []
  no_laters [] are = refl
  no_laters (l ∷ ls) are = absurd are

  pub NamesRest-end : (found : Option Found) (old new : Reading) (whole : Bool) → NamesRest F at types image now s old whole → found ≡ None → entries_left image old ≡ left_before image found new → false ≡ whole
  NamesRest-end found old new whole names none before =
      let empty = none_left image found old new names.rest none before names.left in
      let are = subst (λ (es : List Entry). AreDeferredEntries F at types image now names.ls (deferred_entries es)) empty names.are in
      sym (ap (deferred_set_names s) (no_laters names.ls are)) ∙ names.same

-- ---- an object that is not live

module _ (F : ℕ) (at : List (ℕ × Puddle)) (types : List (ℕ × ℕ)) (image : Image) (now : Graph) (s : ℕ) (used : s ≡ 0 → ⊥) (none : place_in_pool F at image s ≡ None) where
  reference_of_none : (r v : ℕ) → word_for F at image (Ref r) ≡ Some v → r ≡ s → ⊥
  reference_of_none r v word same =
      let null : r ≡ 0 → ⊥ = λ zero. used (sym same ∙ zero) in
      let place : place_in_pool F at image r ≡ None = ap (place_in_pool F at image) same ∙ none in
      let nothing : None ≡ Some v = sym (ap (λ (o : Option ℕ). cond (eqb r 0) (Some 0) (option_map (address_at at) o)) place ∙ cond-false _ _ _ (ne_eqb r 0 null)) ∙ word in
      none-some v nothing

  value_of_none : (x : FieldValue) (v : ℕ) → word_for F at image x ≡ Some v → names_serial s x ≡ false
  value_of_none (Num n) v word = refl
  value_of_none (Ref r) v word = ne_eqb r s (reference_of_none r v word)

  pub none_named : (deferred : List DeferredValue) (redo : List Entry) → AreDeferredEntries F at types image now deferred redo → deferred_set_names s deferred ≡ false
  none_named [] redo are = refl
  none_named (l ∷ ls) [] are = absurd are
  none_named (l ∷ ls) (e ∷ es) are =
      let later = are.0 in
      let object : eqb l.s s ≡ false = ne_eqb l.s s (λ same. none-some (place_of_slot later.slot) (sym none ∙ sym (ap (place_in_pool F at image) same) ∙ later.place)) in
      ap₂ (λ (a b : Bool). a || b) (ap₂ (λ (a b : Bool). a || b) object (value_of_none l.x later.value later.word)) (none_named ls es are.1)
