use Rattle.pm_file.proofs.Told.{Keeps-refl, Keeps-then}
use Rattle.pm_file.proofs.reading.read_once.Goals as goal

pub loop-init : goal.loop-init
loop-init g c = Keeps-refl _

pub loop-preserved : goal.loop-preserved
loop-preserved g c = Keeps-then _ _ _ c.loop.invariant c.in-Err.ensures.bytes

pub returns-in_default-clause-bytes : goal.returns-in_default-clause-bytes
returns-in_default-clause-bytes g c = Keeps-then _ _ _ c.loop.invariant c.in-Err.ensures.bytes
