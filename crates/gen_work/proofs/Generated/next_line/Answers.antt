use Rattle.std.proofs.Common.{take}
use Rattle.gen_work.proofs.WholeScript.{to_come-line}
use Rattle.gen_work.proofs.Generated.next_line.Goals as goal

pub returns-clause-line : goal.returns-clause-line
returns-clause-line c =
    let p = c.in_ok-place.place in
    let line = to_come-line p.count p.part p.number p.step (take c.write.result c.write.new.out) c.write.ensures.line in
    let same = c.in_ok-place.ensures.same in
    let following = c.advanced-self-inside.ensures in
    let view = c.self.view_is in
    cc
