use Rattle.std.proofs.Common.{◌∙◌, ◌+◌, ap, arith}
use Rattle.gen_work.specs.Parts.{to_come}
use Rattle.gen_work.proofs.WholeScript.{to_come-end, to_come-next}
use Rattle.gen_work.proofs.places.Place.ahead.Goals as goal

pub returns-then-self-clause-same : goal.returns-then-self-clause-same
returns-then-self-clause-same c =
    let p = c.args.self in
    ap (λ x. to_come p.count (p.part + 1) x 0) c.next_number.ensures.next
    ∙ to_come-next p.count p.part p.number p.step c.if-self.true (omega (arith, c.part_length.ensures p.number))

pub returns-else-self-clause-none : goal.returns-else-self-clause-none
returns-else-self-clause-none c =
    let p = c.args.self in
    to_come-end p.count p.part p.number p.step (omega arith) (omega (arith, c.part_length.ensures p.number))
