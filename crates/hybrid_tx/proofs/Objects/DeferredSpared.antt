-- The redo entries stay those of the deferred values when an object is freed that none of these values names.
use Rattle.std.proofs.Common.{◌≡◌, inl, inr, ℕ, ◌+◌, false, not, cond, eqb, List, [], ◌∷◌, Option, Some, None, is_some, nat_cmp, refl, sym, ap, ◌∙◌, arith, eq-eqb, ne_eqb}
use Rattle.std.specs.Ordering.{eq_by_cmp}
use Rattle.std.specs.List.{list_any}
use Rattle.std.specs.FinMap.Entries.{find-where_key}
use Rattle.std.proofs.lemmas.Bool.{cond-true, cond-false, or_parts, eqb-false}
use Rattle.std.proofs.lemmas.Option.{none-some}
use Rattle.pm_model.specs.Changes.{placed}
use Rattle.pud_defs.specs.declared.space.TheConstants.{SLOT_SERIAL_WORD}
use Rattle.pud_defs.specs.declared.records.Puddle.{Puddle}
use Rattle.pud_defs.specs.declared.records.Slot.{Slot}
use Rattle.pud_defs.specs.declared.objects.FieldValue.{FieldValue}
use Rattle.pud_defs.specs.declared.objects.FieldValue.TheVariants.{Num, Ref}
use Rattle.pud_defs.specs.Formats.Geometry.{ordinal_of}
use Rattle.pud_defs.proofs.Formats.Geometry.{some_words}
use Rattle.pud_defs.specs.Formats.Image.{Image}
use Rattle.pud_defs.specs.Logging.Entries.{Entry}
use Rattle.pud_defs.specs.Logging.Replay.{overwritten}
use Rattle.pud_defs.specs.PoolGraphs.Stored.{Stored, stored_in, place_begins, place_serial, class_at}
use Rattle.pud_defs.specs.PoolGraphs.Graph.{Object, Graph, object_in, names_serial, graph_of}
use Rattle.pud_defs.specs.PoolGraphs.GraphChanges.{without_object}
use Rattle.pud_defs.specs.PoolGraphs.DeferredValues.{DeferredValue, deferred_value_names, deferred_set_names}
use Rattle.pud_defs.proofs.RegistryTables.TypeLists.{same_test, same_number}
use Rattle.graph_laws.specs.Changes.{with_word, with_serial_word}
use Rattle.graph_laws.proofs.SameReads.Words.{place_of_serial-some, serial_there, serial-same, slot_word-there, slot_word-other}
use Rattle.puddle_header.specs.Places.{places_in, place_of_slot, IsSlotOf}
use Rattle.graph_read.specs.Reading.{place_in_pool, table_in}
use Rattle.object_alloc.specs.Alloc.{serial_word_at}
use Rattle.hybrid_tx.specs.PoolScopes.{ArePlacedPuddles}
use Rattle.hybrid_tx.specs.Objects.Transactions.{MayHold, IsDeferredEntry, AreDeferredEntries}
use Rattle.hybrid_tx.proofs.Objects.SlotPlaces.{is_slot_of_slot}
use Rattle.hybrid_tx.proofs.Objects.ObjectsFreed.{stored_in-cleared}
use Rattle.hybrid_tx.proofs.Objects.DeferredKept.{KeepsPlaces, KeepsObjects-same, AreDeferredEntries-kept}
use Rattle.hybrid_tx.proofs.Objects.DeferredAfter.{serial_of_live, serial_at_place, place_beside}

-- ---- the objects without one

module _ (s : ℕ) (g : Graph) where
  found_without : (r : ℕ) → object_in r (without_object s g) ≡ cond (not (eq_by_cmp nat_cmp s r)) (object_in r g) None
  found_without r = find-where_key nat_cmp (λ x. not (eq_by_cmp nat_cmp s x)) r (λ x same. ap (λ k. not (eq_by_cmp nat_cmp s k)) (sym (same_number r x same))) g.objects

  -- each other object is as it was
  found_beside : (r : ℕ) → (r ≡ s → ⊥) → object_in r (without_object s g) ≡ object_in r g
  found_beside r other = found_without r ∙ cond-true _ _ _ (ap not (same_test s r ∙ ne_eqb s r (λ same. other (sym same))))

  -- no object has the serial any more
  not_found : object_in s (without_object s g) ≡ None
  not_found = found_without s ∙ cond-false _ _ _ (ap not (same_test s s ∙ eq-eqb s s refl))

-- ---- what may still be set

module _ (F : ℕ) (at : List (ℕ × Puddle)) (types : List (ℕ × ℕ)) (image : Image) (s : ℕ) (g : Graph) where
  MayHold-spared : (m f : ℕ) (x : FieldValue) → names_serial s x ≡ false → MayHold m f g x → MayHold m f (without_object s g) x
  MayHold-spared m f (Num v) other holds = holds
  MayHold-spared m f (Ref r) other holds = (
    holds.0,
    elim holds.1 [
      | inl null ↦ inl null
      | inr live ↦ inr (ap (λ (o : Option Object). is_some o) (found_beside s g r (eqb-false r s other)) ∙ live)
    ],
  )

  IsDeferredEntry-spared : (l : DeferredValue) (e : Entry) → deferred_value_names s l ≡ false → IsDeferredEntry F at types image g l e → IsDeferredEntry F at types image (without_object s g) l e
  IsDeferredEntry-spared l e other later =
      let parts = or_parts (eqb l.s s) (names_serial s l.x) other in
      let may = later.may in
      record {
        slot = later.slot;
        of = later.of;
        finished = later.finished;
        place = later.place;
        value = later.value;
        word = later.word;
        may = record {
          object = may.object;
          live = found_beside s g l.s (eqb-false l.s s parts.0) ∙ may.live;
          map = may.map;
          defined = may.defined;
          below = may.below;
          holds = MayHold-spared may.map l.f l.x parts.1 may.holds;
        };
        is = later.is;
      }

  AreDeferredEntries-spared : (deferred : List DeferredValue) (redo : List Entry) → deferred_set_names s deferred ≡ false → AreDeferredEntries F at types image g deferred redo → AreDeferredEntries F at types image (without_object s g) deferred redo
  AreDeferredEntries-spared [] [] other are = tt
  AreDeferredEntries-spared [] (e ∷ es) other are = absurd are
  AreDeferredEntries-spared (l ∷ ls) [] other are = absurd are
  AreDeferredEntries-spared (l ∷ ls) (e ∷ es) other are =
      let parts = or_parts (deferred_value_names s l) (list_any (deferred_value_names s) ls) other in
      (IsDeferredEntry-spared l e parts.0 are.0, AreDeferredEntries-spared ls es parts.1 are.1)

-- ---- when the slot is freed

module _ (types : List (ℕ × ℕ)) (F : ℕ) (at : List (ℕ × Puddle)) (image : Image) (now : Graph) (is : graph_of types (stored_in F at image) ≡ Some now) (is_placed : ArePlacedPuddles F at) (s : ℕ) (slot : Slot)
    (of : IsSlotOf at slot) (found : place_in_pool F at image s ≡ Some (place_of_slot slot)) where
  abbrev freed : Image
  freed = overwritten (placed (serial_word_at F slot) (0 ∷ [])) image

  serial_after : (q v : ℕ) → place_serial (with_serial_word (place_of_slot slot) 0 (stored_in F at image)) q ≡ v → serial_at_place F at freed q ≡ v
  serial_after q v is_so = ap (λ (st : Stored). place_serial st q) (stored_in-cleared F at image is_placed.frames slot of) ∙ is_so

  other_serial : (q : ℕ) → (q ≡ place_of_slot slot → ⊥) → serial_at_place F at freed q ≡ serial_at_place F at image q
  other_serial q other =
      let st = stored_in F at image in
      let p = place_of_slot slot in
      let some = some_words (class_at st p) in
      let also = some_words (class_at st q) in
      serial_after q (serial_at_place F at image q)
      (serial-same st (with_word (ordinal_of p) (place_begins st p + SLOT_SERIAL_WORD) 0 st.word) q (λ is. slot_word-other p SLOT_SERIAL_WORD 0 st (omega arith) q SLOT_SERIAL_WORD (omega arith) (λ same word. other same)))

  now_free : serial_at_place F at freed (place_of_slot slot) ≡ 0
  now_free =
      let st = stored_in F at image in
      let p = place_of_slot slot in
      let some = some_words (class_at st p) in
      serial_after p 0 (serial_there (with_serial_word p 0 st) p (is_slot_of_slot F at image slot of) ∙ slot_word-there p SLOT_SERIAL_WORD 0 st (omega arith))

  KeepsPlaces-freed : KeepsPlaces F at at image freed (without_object s now)
  KeepsPlaces-freed =
      let there = place_of_serial-some (table_in F at image) (places_in at) s (place_of_slot slot) found in
      record {
        each = λ r o live.
            let apart : r ≡ s → ⊥ = λ same. none-some o (sym (not_found s now) ∙ ap (λ (k : ℕ). object_in k (without_object s now)) (sym same) ∙ live) in
            let known = serial_of_live types (stored_in F at image) now is r o (sym (found_beside s now r apart) ∙ live) in
            place_beside F at image freed (place_of_slot slot) other_serial r (λ same. apart (sym same ∙ there.is)) (λ same. known.used (sym same ∙ now_free));
      }

  pub AreDeferredEntries-freed : (deferred : List DeferredValue) (redo : List Entry) → deferred_set_names s deferred ≡ false → AreDeferredEntries F at types image now deferred redo → AreDeferredEntries F at types freed (without_object s now) deferred redo
  AreDeferredEntries-freed deferred redo unnamed are =
      AreDeferredEntries-kept F at types image freed (without_object s now) (without_object s now) KeepsPlaces-freed (KeepsObjects-same (without_object s now)) deferred redo
      (AreDeferredEntries-spared F at types image s now deferred redo unnamed are)
