-- A transaction on a pool with deferred values is committed: its redo entries make the graph with these values.
use Rattle.std.proofs.Common.{◌≡◌, ℕ, ◌+◌, ◌<◌, List, [], ◌∷◌, Option, Some, refl, sym, ap, subst, ◌∙◌, arith}
use Rattle.std.proofs.lemmas.Option.{same_Some}
use Rattle.pm_model.specs.Changes.{placed}
use Rattle.pud_defs.specs.declared.space.TheConstants.{SLOT_FIELDS_WORD}
use Rattle.pud_defs.specs.declared.records.Puddle.{Puddle}
use Rattle.pud_defs.specs.Formats.Image.{Image}
use Rattle.pud_defs.specs.Logging.Entries.{Entry}
use Rattle.pud_defs.specs.Formats.Geometry.{class_slot_words, IsFinished}
use Rattle.pud_defs.specs.Formats.Frames.{frame_at}
use Rattle.pud_defs.specs.Logging.Replay.{value_in, value_from, overwritten}
use Rattle.pud_defs.specs.PoolGraphs.Stored.{stored_in}
use Rattle.pud_defs.specs.PoolGraphs.Graph.{Graph, graph_of}
use Rattle.pud_defs.specs.PoolGraphs.DeferredValues.{DeferredValue, with_deferred_value, with_deferred_set}
use Rattle.word_transaction.specs.Scope.{written_in_turn}
use Rattle.hybrid_tx.specs.PoolScopes.{pool_place, finished_of, ArePlacedPuddles, IsRewrittenAt}
use Rattle.hybrid_tx.specs.Objects.Stores.{field_word}
use Rattle.hybrid_tx.specs.Objects.Transactions.{IsDeferredEntry, AreDeferredEntries}
use Rattle.hybrid_tx.proofs.PoolScope.{place_of_word}
use Rattle.hybrid_tx.proofs.FinishedPuddles.{finished_placed, finished_there}
use Rattle.hybrid_tx.proofs.Objects.SlotPlaces.{slot_in_frame}
use Rattle.hybrid_tx.proofs.Objects.FieldsSet.{room_for_field, set_value}
use Rattle.hybrid_tx.proofs.Objects.DeferredKept.{KeepsPlaces, AreDeferredEntries-kept}
use Rattle.hybrid_tx.proofs.Objects.DeferredAfter.{serial_at_place, serials-field, KeepsObjects-field, KeepsPlaces-field}

module _ (F : ℕ) (at : List (ℕ × Puddle)) (types : List (ℕ × ℕ)) (is_placed : ArePlacedPuddles F at) where
  module _ (image : Image) (now : Graph) (l : DeferredValue) (e : Entry) (later : IsDeferredEntry F at types image now l e) (is : graph_of types (stored_in F at image) ≡ Some now) where
    abbrev word : ℕ
    word = frame_at F later.slot.frame + field_word later.slot l.f

    -- the slot has the word of the field
    room : SLOT_FIELDS_WORD + l.f < class_slot_words later.slot.class
    room = room_for_field types F at image now is l.s l.f l.x later.slot later.of later.place later.may

    -- the entry writes the word of the field
    entry_writes : (k : ℕ) → value_in (pool_place F (finished_of at)) e k ≡ placed word (later.value ∷ []) k
    entry_writes k =
        let few = room in
        let end = slot_in_frame at later.slot later.of in
        let there = finished_there F at later.slot.ordinal (later.slot.frame, later.of.puddle) later.of.there later.finished in
        ap (λ (d : Entry). value_in (pool_place F (finished_of at)) d k) later.is
        ∙ ap (λ (o : Option ℕ). value_from o (later.value ∷ []) k)
        (place_of_word F (finished_of at) (finished_placed F at is_placed) there.0 (field_word later.slot l.f) (later.slot.frame, later.of.puddle) there.1 (omega arith))

    abbrev following : Image
    following = overwritten (placed word (later.value ∷ [])) image

    entry_image : overwritten (value_in (pool_place F (finished_of at)) e) image ≡ following
    entry_image =
        let same : value_in (pool_place F (finished_of at)) e ≡ placed word (later.value ∷ []) = λ i k. entry_writes k i in
        ap (λ (w : ℕ → Option ℕ). overwritten w image) same

    -- each pointer in the puddle of the field stands over the pool's bases
    rewritten : IsRewrittenAt at later.slot.ordinal
    rewritten =
        record {
          each = λ d there. subst (λ (c : ℕ × Puddle). IsFinished c.1) (same_Some (later.slot.frame, later.of.puddle) d (sym later.of.there ∙ there)) later.finished;
        }

    entry_graph : graph_of types (stored_in F at following) ≡ Some (with_deferred_value l now)
    entry_graph =
        set_value types F at image now is is_placed l.s l.f later.slot rewritten later.of later.place l.x later.value later.may later.word

    places_stay : KeepsPlaces F at at image following now
    places_stay = KeepsPlaces-field F at image is_placed.frames later.slot later.of l.f later.value room now

    serial_stays : (p : ℕ) → serial_at_place F at following p ≡ serial_at_place F at image p
    serial_stays p = serials-field F at image is_placed.frames later.slot later.of l.f later.value room p

    others_stay : (ls : List DeferredValue) (es : List Entry) → AreDeferredEntries F at types image now ls es → AreDeferredEntries F at types following (with_deferred_value l now) ls es
    others_stay ls es are = AreDeferredEntries-kept F at types image following now (with_deferred_value l now) places_stay (KeepsObjects-field l.s l.f l.x now) ls es are

  -- the entries, written in turn, make the graph with the deferred values
  pub deferred_applied : (deferred : List DeferredValue) (redo : List Entry) (image : Image) (now : Graph) → graph_of types (stored_in F at image) ≡ Some now → AreDeferredEntries F at types image now deferred redo
      → graph_of types (stored_in F at (written_in_turn (pool_place F (finished_of at)) redo image)) ≡ Some (with_deferred_set deferred now)
  deferred_applied [] [] image now is are = is
  deferred_applied [] (e ∷ es) image now is are = absurd are
  deferred_applied (l ∷ ls) [] image now is are = absurd are
  deferred_applied (l ∷ ls) (e ∷ es) image now is are =
      ap (λ (i : Image). graph_of types (stored_in F at (written_in_turn (pool_place F (finished_of at)) es i))) (entry_image image now l e are.0 is)
      ∙ deferred_applied ls es (following image now l e are.0 is) (with_deferred_value l now) (entry_graph image now l e are.0 is)
      (others_stay image now l e are.0 is ls es are.1)

  -- the entries, written in turn, leave each slot its serial
  pub serials_applied : (deferred : List DeferredValue) (redo : List Entry) (image : Image) (now : Graph) → graph_of types (stored_in F at image) ≡ Some now → AreDeferredEntries F at types image now deferred redo → (p : ℕ)
      → serial_at_place F at (written_in_turn (pool_place F (finished_of at)) redo image) p ≡ serial_at_place F at image p
  serials_applied [] [] image now is are p = refl
  serials_applied [] (e ∷ es) image now is are p = absurd are
  serials_applied (l ∷ ls) [] image now is are p = absurd are
  serials_applied (l ∷ ls) (e ∷ es) image now is are p =
      ap (λ (i : Image). serial_at_place F at (written_in_turn (pool_place F (finished_of at)) es i) p) (entry_image image now l e are.0 is)
      ∙ serials_applied ls es (following image now l e are.0 is) (with_deferred_value l now) (entry_graph image now l e are.0 is) (others_stay image now l e are.0 is ls es are.1) p
      ∙ serial_stays image now l e are.0 is p
