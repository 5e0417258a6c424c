use Rattle.std.proofs.Common.{ap, not, arith, ne_eqb}
use Rattle.pud_defs.specs.Formats.Bases.{base_at}
use Rattle.puddle_space.proofs.Kept.{LeavesFree-all, LeavesFree-one, one_less}
use Rattle.puddle_space.proofs.bases.mark.Goals as goal

pub returns-in-Some-clause-left : goal.returns-in-Some-clause-left
returns-in-Some-clause-left c = LeavesFree-one c.args.base c.in-Some.range c.args.free.now c.in-Some.ensures.found (let tried = c.in-Some.ensures.found.tried in omega arith)

pub returns-in-Some-clause-few : goal.returns-in-Some-clause-few
returns-in-Some-clause-few c = one_less c.args.free.now c.in-Some.range (let tried = c.in-Some.ensures.found.tried in omega arith)

pub returns-in_default-clause-left : goal.returns-in_default-clause-left
returns-in_default-clause-left c =
    let apart = rw c.in_default.is at c.range_of.ensures.none in
    LeavesFree-all _ c.args.free.now (λ k tried. ap not (ne_eqb c.args.base (base_at k) (apart k tried)))
