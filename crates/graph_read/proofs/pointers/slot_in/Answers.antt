use Rattle.std.proofs.Common.{◌≤◌, ◌+◌, refl, sym, arith}
use Rattle.pud_defs.specs.declared.space.TheConstants.{HEADER_BYTES}
use Rattle.pud_defs.proofs.Formats.Geometry.{some_words}
use Rattle.graph_read.proofs.Pointed.{slot_in-low, slot_in-far, slot_in-between, slot_in-past, slot_in-there}
use Rattle.graph_read.proofs.pointers.slot_in.Goals.{then-value-base-via-then-value-base, then-value-base-via-else-value-base+then-value-base-lt-HEADER_BYTES, then-offset-slot_bytes-ne0-via-then-offset-slot_bytes-ne0, then-offset-slot_bytes-ne0-via-else-offset-slot_bytes-ne0+then-slot-from}
use Rattle.graph_read.proofs.pointers.slot_in.Goals as goal

pub returns-then-value-base-clause-slot : goal.returns-then-value-base-clause-slot
returns-then-value-base-clause-slot c = sym (slot_in-low c.args.puddle.now c.args.value (elim c.then-value-base.branch [
  | then-value-base-via-then-value-base w ↦ let low = w.if-value-base.true in omega (arith, low)
  | then-value-base-via-else-value-base+then-value-base-lt-HEADER_BYTES w ↦ let low = w.if-value-base-lt-HEADER_BYTES.true in omega (arith, low)
]))

pub returns-then-value-base-ge-RANGE_BYTES-clause-slot : goal.returns-then-value-base-ge-RANGE_BYTES-clause-slot
returns-then-value-base-ge-RANGE_BYTES-clause-slot c = let past = c.if-value-base-ge-RANGE_BYTES.true in sym (slot_in-far c.args.puddle.now c.args.value (omega (arith, past)))

pub nonzero_div-slot : goal.nonzero_div-slot
nonzero_div-slot c = let some = some_words c.args.puddle.now.class in let is = c.slot_bytes_of-slot_bytes.ensures in omega (arith, some, is)

pub nonzero_rem-offset : goal.nonzero_rem-offset
nonzero_rem-offset c = let some = some_words c.args.puddle.now.class in let is = c.slot_bytes_of-slot_bytes.ensures in omega (arith, some, is)

pub returns-then-offset-slot_bytes-ne0-clause-slot : goal.returns-then-offset-slot_bytes-ne0-clause-slot
returns-then-offset-slot_bytes-ne0-clause-slot c =
    let d = c.args.puddle.now in
    let is = c.slot_bytes_of-slot_bytes.ensures in
    let low : d.base + HEADER_BYTES ≤ c.args.value = omega arith in
    elim c.then-offset-slot_bytes-ne0.branch [
      | then-offset-slot_bytes-ne0-via-then-offset-slot_bytes-ne0 w ↦ sym (slot_in-between d c.args.value _ _ is low refl w.if-offset-slot_bytes-ne0.true)
      | then-offset-slot_bytes-ne0-via-else-offset-slot_bytes-ne0+then-slot-from w ↦
          let past = w.if-slot-from.true in
          let count = w.slots_of.ensures in
          let same = w.from.ensures in
          sym (slot_in-past d c.args.value _ _ is refl (omega (arith, past, count, same)))
    ]

pub returns-clause-slot : goal.returns-clause-slot
returns-clause-slot c =
    let d = c.args.puddle.now in
    let is = c.slot_bytes_of-slot_bytes.ensures in
    let low : d.base + HEADER_BYTES ≤ c.args.value = omega arith in
    let few = c.if-slot-from.false in
    let count = c.slots_of.ensures in
    let same = c.from.ensures in
    sym (slot_in-there d c.args.value _ _ is low refl c.if-offset-slot_bytes-ne0.false (omega (arith, few, count, same)))
