use Rattle.std.proofs.Common.{◌≡◌, ℕ, sym, ap, ◌∙◌, arith}
use Rattle.std.proofs.lemmas.Option.{get_or_from_slice_get}
use Rattle.pud_defs.specs.declared.records.Puddle.{Puddle}
use Rattle.pud_defs.specs.Formats.Geometry.{slot_at}
use Rattle.pud_defs.proofs.Formats.Geometry.{some_words, slot_end}
use Rattle.hybrid_tx.proofs.Objects.FieldPut.{slot_address-by}
use Rattle.hybrid_tx.proofs.changing.slot_address.Goals as goal

pub word_address-requires : goal.word_address-requires
word_address-requires c =
    let of = c.requires.within in
    let same = get_or_from_slice_get c.args.pool.now c.args.at.now.ordinal (c.args.at.now.frame, of.puddle) _ of.there in
    let is : c.slot_at.result ≡ slot_at of.puddle c.args.at.now.slot = c.slot_at.ensures ∙ ap (λ (e : ℕ × Puddle). slot_at e.1 c.args.at.now.slot) same in
    let end = slot_end of.puddle.class c.args.at.now.slot of.below in
    let some = some_words of.puddle.class in
    omega arith

pub returns : goal.returns
returns c =
    let of = c.requires.within in
    let same = get_or_from_slice_get c.args.pool.now c.args.at.now.ordinal (c.args.at.now.frame, of.puddle) _ of.there in
    record { address = λ legal. rw (c.word_address.ensures, c.slot_at.ensures) (slot_address-by c.args.pool.now c.args.at.now of _ (sym same) legal) }
