use Rattle.pud_check.proofs.Laid.{laid_out}
use Rattle.pud_check.proofs.laws.sound_tables_are_laid_out.Goals as goal

pub returns : goal.returns
returns c = laid_out
