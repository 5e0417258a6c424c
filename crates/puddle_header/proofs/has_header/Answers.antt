use Rattle.std.proofs.Common.{◌∙◌}
use Rattle.puddle_header.proofs.Fits.{is_header-words}
use Rattle.pm_model.proofs.Reading.{still_reads}
use Rattle.puddle_header.proofs.has_header.Goals as goal

pub returns-clause-fits : goal.returns-clause-fits
returns-clause-fits g c = λ t image same.
    let second = still_reads c.frame_magic.ensures.only_reads t same in
    let third = still_reads c.frame_number.ensures.only_reads t second in
    c.is_header.ensures
    ∙ is_header-words c.args.given c.args.place c.in_ok-magic.magic c.in_ok-number.number c.in_ok-ordinal.ordinal _ _ _ (c.in_ok-magic.ensures.word t image same) (c.in_ok-number.ensures.word t image second)
    (c.in_ok-ordinal.ensures.word t image third)
