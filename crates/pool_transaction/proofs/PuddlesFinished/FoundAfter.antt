-- What was found for an update still holds after frontiers of its pool moved: objects stand where they stood, and
-- values are stored as the same words.
use Rattle.std.proofs.Common.{◌≡◌, inl, inr, ℕ, eqb, List, length, get_or, cond, Option, Some, None, option_map, refl, sym, ap, ◌∙◌, arith}
use Rattle.std.specs.Prelude.{slice_get}
use Rattle.std.proofs.lemmas.Bool.{cases_lt}
use Rattle.std.proofs.lemmas.Option.{none-some, slice_get-map, slice_get-get_or, slice_get_past}
use Rattle.pud_defs.specs.declared.objects.FieldValue.{FieldValue}
use Rattle.pud_defs.specs.declared.objects.FieldValue.TheVariants.{Num, Ref}
use Rattle.pud_defs.specs.declared.records.Puddle.{Puddle}
use Rattle.pud_defs.specs.PoolGraphs.Exported.{address_in}
use Rattle.pud_defs.specs.Formats.Geometry.{ordinal_of, slot_of}
use Rattle.pud_defs.specs.Formats.Image.{Image}
use Rattle.graph_read.proofs.Pointed.{no_puddle}
use Rattle.lazy_rewrite.proofs.Spared.{HaveMoved, SparesObjects, place_in_pool-spared}
use Rattle.hybrid_tx.specs.Objects.Stores.{address_at, word_for}
use Rattle.pool_transaction.specs.declared.changing.FoundUpdate.{FoundUpdate}
use Rattle.pool_transaction.specs.declared.changing.FoundUpdate.TheVariants.{Field, Root, Object}
use Rattle.pool_transaction.specs.declared.changing.Update.{Update}
use Rattle.pool_transaction.specs.Changing.{IsFoundBy, IsFoundWithin}
use Rattle.pool_transaction.proofs.PuddlesFinished.FinishedPools.{IsSlotOf-moved}

-- What was found still lies within the puddles.
pub found_within_after : (at later : List (ℕ × Puddle)) (found : FoundUpdate) → HaveMoved at later → IsFoundWithin at found → IsFoundWithin later found
found_within_after at later (Field slot f word read x deferred) moved within = (IsSlotOf-moved at later slot moved within.0, within.1)
found_within_after at later (Root word was s) moved within = within
found_within_after at later (Object slot s) moved within = IsSlotOf-moved at later slot moved within

address_by : (at later : List (ℕ × Puddle)) (o s : ℕ) (d : Option (ℕ × Puddle)) → HaveMoved at later → slice_get at o ≡ d → address_in (option_map (λ (e : ℕ × Puddle). e.1) (slice_get later o)) s ≡ address_in (option_map (λ (e : ℕ × Puddle). e.1) d) s
address_by at later o s None moved there = elim (cases_lt o (length at)) [
  | inl within ↦ absurd (none-some (get_or at o no_puddle) (sym there ∙ slice_get-get_or at o no_puddle within))
  | inr past ↦ let count = moved.count in ap (λ (d : Option (ℕ × Puddle)). address_in (option_map (λ (e : ℕ × Puddle). e.1) d) s) (slice_get_past later o (omega (arith, past, count)))
]
address_by at later o s (Some e) moved there = ap (λ (d : Option (ℕ × Puddle)). address_in (option_map (λ (e : ℕ × Puddle). e.1) d) s) (moved.each o e there).there

-- The address of a place stays, because it depends on the bases.
address_after : (at later : List (ℕ × Puddle)) → HaveMoved at later → (p : ℕ) → address_at later p ≡ address_at at p
address_after at later moved p =
    ap (λ (d : Option Puddle). address_in d (slot_of p)) (slice_get-map (λ (e : ℕ × Puddle). e.1) later (ordinal_of p))
    ∙ address_by at later (ordinal_of p) (slot_of p) (slice_get at (ordinal_of p)) moved refl
    ∙ sym (ap (λ (d : Option Puddle). address_in d (slot_of p)) (slice_get-map (λ (e : ℕ × Puddle). e.1) at (ordinal_of p)))

module _ (F : ℕ) (at later : List (ℕ × Puddle)) (i j : Image) (spares : SparesObjects F at later i j) where
  -- A value is stored as the same word.
  pub word_after : (x : FieldValue) → word_for F later j x ≡ word_for F at i x
  word_after (Num v) = refl
  word_after (Ref r) =
      let addresses : (p : ℕ) → address_at later p ≡ address_at at p = address_after at later spares.moved in
      let place = place_in_pool-spared F at later i j spares r in
      λ q. cond (eqb r 0) (Some 0) (option_map (λ (p : ℕ). addresses p q) (place q))

  -- What was found is still true of the update.
  pub found_after : (update : Update) (found : FoundUpdate) → IsFoundBy F at i update found → IsFoundBy F later j update found
  found_after update (Field slot f word read x deferred) by = record { s = by.s; x = by.x; is = by.is; found = (place_in_pool-spared F at later i j spares by.s ∙ by.found.0, word_after by.x ∙ by.found.1) }
  found_after update (Root word was s) by = record { s = by.s; is = by.is; found = word_after (Ref by.s) ∙ by.found }
  found_after update (Object slot s) by = record { s = by.s; is = by.is; found = place_in_pool-spared F at later i j spares by.s ∙ by.found }
