use Rattle.pud_defs.proofs.Logging.Settled.{given_by_others-beside}
use Rattle.pud_defs.proofs.settling.images_beside_one_log_have_the_same_from_the_others.Goals as goal

pub returns : goal.returns
returns c = given_by_others-beside
