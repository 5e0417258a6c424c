use Rattle.std.proofs.Common.{◌≡◌, ◌<◌, ℕ, length, subst, refl, sym, ap, ◌∙◌, arith}
use Rattle.pud_defs.specs.declared.records.Puddle.{Puddle}
use Rattle.pud_defs.specs.Formats.Geometry.{class_slots}
use Rattle.pud_defs.specs.PoolGraphs.Graph.{slot_in}
use Rattle.graph_read.specs.Reading.{class_in, pointee_of}
use Rattle.graph_read.proofs.Pointed.{no_puddle, pointer-null, pointer_from-start, pointer_from-here, pointer_from-other, pointer_from-end, pointee_of-slot, same_class}
use Rattle.graph_read.proofs.Slots.{entry_class}
use Rattle.graph_read.proofs.pointers.read_pointer.Goals as goal

pub returns-then-value-eq0-clause-pointee : goal.returns-then-value-eq0-clause-pointee
returns-then-value-eq0-clause-pointee c = ap pointee_of (sym (pointer-null c.args.pool.now c.args.ordinal c.args.step c.args.value c.if-value-eq0.true))

pub loop-other-init : goal.loop-other-init
loop-other-init c = record {
  pointee = pointer_from-start c.args.pool.now c.args.ordinal c.args.step c.args.value _ c.if-value-eq0.false c.requires.known refl;
}

pub returns-in-Some-clause-pointee : goal.returns-in-Some-clause-pointee
returns-in-Some-clause-pointee c =
    let is = sym (ap (λ (d : Puddle). slot_in d c.args.value) c.read_over.ensures) ∙ sym c.slot_in.ensures.slot ∙ c.in-Some.is in
    sym (ap pointee_of (c.loop-other.invariant.pointee ∙ pointer_from-here c.args.pool.now _ c.args.value c.loop-other.other c.in-Some.slot (omega arith) is)
    ∙ pointee_of-slot c.loop-other.other c.in-Some.slot c.read_over.result c.in-Some.ensures.within)

pub returns-in-Some-clause-within : goal.returns-in-Some-clause-within
returns-in-Some-clause-within c =
    let below : c.loop-other.other < length c.args.pool.now = omega arith in
    let class : c.read_over.result.class ≡ class_in c.args.pool.now c.loop-other.other =
    ap (λ (d : Puddle). d.class) c.read_over.ensures ∙ same_class _ _ ∙ sym (entry_class c.args.pool.now c.loop-other.other no_puddle below) in
    record { ordinal_below = below; slot_below = subst (λ (k : ℕ). c.in-Some.slot < class_slots k) class c.in-Some.ensures.within }

pub loop-other-preserved : goal.loop-other-preserved
loop-other-preserved c = record {
  pointee =
      let is = sym (ap (λ (d : Puddle). slot_in d c.args.value) c.read_over.ensures) ∙ sym c.slot_in.ensures.slot ∙ c.in_default.is in
      c.loop-other.invariant.pointee ∙ pointer_from-other c.args.pool.now _ c.args.value c.loop-other.other (omega arith) is;
}

pub returns-clause-pointee : goal.returns-clause-pointee
returns-clause-pointee c = ap pointee_of (sym (c.loop-other.invariant.pointee ∙ pointer_from-end c.args.pool.now _ c.args.value c.loop-other.other (omega arith)))
