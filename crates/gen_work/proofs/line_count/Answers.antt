use Rattle.gen_work.proofs.WholeScript.{length-gen_lines}
use Rattle.gen_work.proofs.line_count.Goals as goal

pub returns : goal.returns
returns c = λ seed. length-gen_lines seed c.args.count
