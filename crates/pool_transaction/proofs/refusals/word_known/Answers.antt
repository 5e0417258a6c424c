use Rattle.std.proofs.Common.{◌≡◌, ◌≢◌, ℕ, true, List, All, Some, option_map, sym, ap, subst, ◌∙◌}
use Rattle.std.proofs.lemmas.Bool.{cond-false, ne_eqb}
use Rattle.pud_defs.specs.declared.objects.FieldValue.TheVariants.{Ref}
use Rattle.pud_defs.specs.declared.records.Puddle.{Puddle}
use Rattle.pud_defs.specs.declared.records.Slot.{Slot}
use Rattle.pud_defs.specs.Formats.Bases.{is_legal_base}
use Rattle.pud_defs.specs.Formats.Image.{Image}
use Rattle.puddle_header.specs.Places.{place_of_slot}
use Rattle.graph_read.specs.Reading.{place_in_pool}
use Rattle.hybrid_tx.specs.Objects.Stores.{address_at, word_for}
use Rattle.pool_transaction.proofs.refusals.word_known.Goals as goal

-- The word of an object that stands in a slot is the address of the slot.
word_there : (F : ℕ) (ps : List (ℕ × Puddle)) (image : Image) (r : ℕ) (slot : Slot) → r ≢ 0 → place_in_pool F ps image r ≡ Some (place_of_slot slot) → word_for F ps image (Ref r) ≡ Some (address_at ps (place_of_slot slot))
word_there F ps image r slot other there = cond-false _ _ _ (ne_eqb r 0 other) ∙ ap (option_map (address_at ps)) there

pub returns-in-Some-clause-word : goal.returns-in-Some-clause-word
returns-in-Some-clause-word g c = λ t legal image same known.
    let F = c.args.frames in
    let ps = c.args.pool.now.puddles in
    let there = sym (c.in_ok-at-in-Ref.ensures.found t image same known) ∙ ap (option_map place_of_slot) c.in-Some.is in
    let address =
    subst (λ (qs : List (ℕ × Puddle)). All (λ e. is_legal_base e.1.base ≡ true) qs → c.slot_address.result ≡ address_at qs (place_of_slot c.in-Some.at)) c.as_slice.ensures.puddles c.slot_address.ensures.address legal in
    ap (λ (a : ℕ). Some a) address ∙ sym (word_there F ps image c.in-Ref.r c.in-Some.at c.if-r-eq0.false there) ∙ ap (word_for F ps image) (sym c.in-Ref.is)
