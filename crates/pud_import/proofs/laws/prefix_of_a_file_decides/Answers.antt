use Rattle.pud_import.proofs.FileChecks.FileParts.{file_graph-limit}
use Rattle.pud_import.proofs.laws.prefix_of_a_file_decides.Goals as goal

pub returns : goal.returns
returns c = file_graph-limit
