use Rattle.pud_check.proofs.Summarized.{listed_sum-sound, listed_summary-sound}
use Rattle.pud_check.proofs.laws.sound_tables_are_summed_up.Goals as goal

pub returns-clause-line : goal.returns-clause-line
returns-clause-line c = listed_sum-sound

pub returns-clause-summary : goal.returns-clause-summary
returns-clause-summary c = λ frames next image sound all lines refused. listed_summary-sound frames next image lines refused sound all
