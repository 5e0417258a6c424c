use Rattle.pud_defs.proofs.Output.DumpText.{in_one_line-dump_text}
use Rattle.pud_defs.proofs.laws.graph_is_dumped_in_one_line.Goals as goal

pub returns : goal.returns
returns c = λ g. in_one_line-dump_text g
