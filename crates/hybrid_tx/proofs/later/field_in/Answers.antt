use Rattle.std.proofs.Common.{ℕ, ◌-◌, ap, ap₂, Some, ◌∙◌, arith}
use Rattle.pud_defs.proofs.Formats.Geometry.{few_words}
use Rattle.hybrid_tx.proofs.Objects.FieldFound.{address_low, address_whole, some_bytes, slot_of_address, word_of_address, word_below, field_there}
use Rattle.hybrid_tx.proofs.later.field_in.Goals.{then-address-base-via-then-address-base, then-address-base-via-else-address-base+then-address-base-lt-HEADER_BYTES, then-offset-ne0-via-then-offset-ne0, then-offset-ne0-via-else-offset-ne0+then-slot-from, then-offset-ne0-via-else-offset-ne0+else-slot-from+then-word-lt-BEFORE_FIELDS}
use Rattle.hybrid_tx.proofs.later.field_in.Goals as goal

pub returns-then-address-base-clause-found : goal.returns-then-address-base-clause-found
returns-then-address-base-clause-found c = λ slot f is.
    let low = address_low c.args.puddle.now c.args.address slot f is in
    elim c.then-address-base.branch [
      | then-address-base-via-then-address-base w ↦ absurd (omega (arith, low, w.if-address-base.true))
      | then-address-base-via-else-address-base+then-address-base-lt-HEADER_BYTES w ↦ absurd (omega (arith, low, w.if-address-base-lt-HEADER_BYTES.true))
    ]

pub nonzero_div-slot : goal.nonzero_div-slot
nonzero_div-slot c = some_bytes c.args.puddle.now c.args.address _ c.slot_bytes_of-slot_bytes.ensures

pub nonzero_rem-word : goal.nonzero_rem-word
nonzero_rem-word c = some_bytes c.args.puddle.now c.args.address _ c.slot_bytes_of-slot_bytes.ensures

pub returns-then-offset-ne0-clause-found : goal.returns-then-offset-ne0-clause-found
returns-then-offset-ne0-clause-found c = λ slot f is.
    let whole = address_whole c.args.puddle.now c.args.address slot f is in
    let number = slot_of_address c.args.puddle.now c.args.address _ c.slot_bytes_of-slot_bytes.ensures slot f is in
    let word = word_of_address c.args.puddle.now c.args.address _ c.slot_bytes_of-slot_bytes.ensures slot f is in
    let below = is.slot_below in
    elim c.then-offset-ne0.branch [
      | then-offset-ne0-via-then-offset-ne0 w ↦ absurd (w.if-offset-ne0.true whole)
      | then-offset-ne0-via-else-offset-ne0+then-slot-from w ↦ absurd (omega (arith, number, below, w.slots_of.ensures, w.from.ensures, w.if-slot-from.true))
      | then-offset-ne0-via-else-offset-ne0+else-slot-from+then-word-lt-BEFORE_FIELDS w ↦ absurd (omega (arith, word, w.if-word-lt-BEFORE_FIELDS.true))
    ]

pub overflow_cast-result-2 : goal.overflow_cast-result-2
overflow_cast-result-2 c =
    let low = word_below c.args.puddle.now c.args.address _ c.slot_bytes_of-slot_bytes.ensures in
    let few = few_words c.args.puddle.now.class in
    omega arith

pub returns-clause-found : goal.returns-clause-found
returns-clause-found c = λ slot f is.
    let number = slot_of_address c.args.puddle.now c.args.address _ c.slot_bytes_of-slot_bytes.ensures slot f is in
    let word = word_of_address c.args.puddle.now c.args.address _ c.slot_bytes_of-slot_bytes.ensures slot f is in
    ap₂ (λ (s g : ℕ). Some (s, g)) number (ap (λ (n : ℕ). n - 2) word ∙ omega arith)

pub returns-clause-is : goal.returns-clause-is
returns-clause-is c =
    let low = c.if-address-base-lt-HEADER_BYTES.false in
    let base = c.if-address-base.false in
    field_there c.args.puddle.now c.args.address _ c.slot_bytes_of-slot_bytes.ensures (omega arith) (c.if-offset-ne0.false) (omega (arith, c.slots_of.ensures, c.from.ensures, c.if-slot-from.false)) c.if-word-lt-BEFORE_FIELDS.false
