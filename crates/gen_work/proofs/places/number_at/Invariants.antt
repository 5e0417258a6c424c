use Rattle.std.proofs.Common.{◌≡◌, ◌<◌}
use Rattle.gen_work.specs.GenLines.{number_at}
use Rattle.gen_work.proofs.places.number_at.Given as goal

abbrev pub invariant-loop-object : goal.invariant-loop-object
invariant-loop-object l = (l.number ≡ number_at l.fn.seed l._object) × (l.number < 65536)
