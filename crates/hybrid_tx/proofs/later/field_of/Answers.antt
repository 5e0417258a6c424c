use Rattle.std.proofs.Common.{ℕ, ◌<◌, length, Some, refl, sym, subst, arith, below_more}
use Rattle.std.proofs.lemmas.Option.{slice_get-get_or, get_or_from_slice_get, slice_get_within}
use Rattle.pud_defs.specs.declared.records.Puddle.{Puddle}
use Rattle.hybrid_tx.specs.Objects.FieldAddresses.{IsFieldAddress}
use Rattle.hybrid_tx.proofs.Objects.DeferredNamed.{field_unique}
use Rattle.hybrid_tx.proofs.later.field_of.Goals as goal

pub returns-in-Some-clause-is : goal.returns-in-Some-clause-is
returns-in-Some-clause-is c =
    let is = c.in-Some.ensures.is in
    record {
      of = record { puddle = _; there = slice_get-get_or c.args.pool.now c.loop-ordinal.ordinal _ c.loop-ordinal-test.true; alike = refl; below = is.slot_below };
      address_is = is;
    }

pub returns-in-Some-clause-found : goal.returns-in-Some-clause-found
returns-in-Some-clause-found c = λ bases slot f is.
    let same = field_unique c.args.pool.now c.args.address _ slot c.in-Some.f f bases (returns-in-Some-clause-is c) is in
    λ i. Some (same.0 i, same.1 i)

pub loop-ordinal-preserved : goal.loop-ordinal-preserved
loop-ordinal-preserved c =
    below_more _ _ c.loop-ordinal.invariant
    (λ e slot f there is.
    let same = get_or_from_slice_get c.args.pool.now c.loop-ordinal.ordinal e _ there in
    c.in_default.not-Some _ (c.field_in.ensures.found slot f (subst (λ (d : ℕ × Puddle). IsFieldAddress d.1 c.args.address slot f) (sym same) is)))

pub returns-clause-found : goal.returns-clause-found
returns-clause-found c = λ bases slot f is.
    let within : slot.ordinal < length c.args.pool.now = slice_get_within c.args.pool.now slot.ordinal (slot.frame, is.of.puddle) is.of.there in
    absurd (c.loop-ordinal.invariant slot.ordinal (omega arith) (slot.frame, is.of.puddle) slot.slot f is.of.there is.address_is)
