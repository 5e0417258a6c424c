use Rattle.std.proofs.Common.{◌∙◌, ap, refl, sym}
use Rattle.gen_work.specs.GenLines.{next_number, number_at}
use Rattle.gen_work.proofs.WholeScript.{number_at-next}
use Rattle.gen_work.proofs.places.number_at.Goals as goal

pub loop-object-init : goal.loop-object-init
unfolding number_at
loop-object-init c = (refl, c.requires)

pub loop-object-preserved : goal.loop-object-preserved
loop-object-preserved c =
    (c.next_number-number.ensures.next ∙ ap next_number c.loop-object.invariant.0 ∙ sym (number_at-next c.args.seed c.loop-object._object), c.next_number-number.ensures.within)
