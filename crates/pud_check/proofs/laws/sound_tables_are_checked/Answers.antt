use Rattle.pud_check.proofs.Checking.{listed_check-sound}
use Rattle.pud_check.proofs.laws.sound_tables_are_checked.Goals as goal

pub returns : goal.returns
returns c = listed_check-sound
