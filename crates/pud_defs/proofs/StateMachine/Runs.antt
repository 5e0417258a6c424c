-- Runs turn by turn.
use Rattle.std.proofs.Common.{◌≡◌, List, [], ◌∷◌, ◌++◌, refl}
use Rattle.pud_defs.specs.StateMachine.World.{World}
use Rattle.pud_defs.specs.StateMachine.Run.{Turn, IsRun, last_world}

pub last_world-append : (w : World) (turns more : List Turn) → last_world w (turns ++ more) ≡ last_world (last_world w turns) more
last_world-append w [] more = refl
last_world-append w (t ∷ turns) more = last_world-append t.next turns more

pub IsRun-append : (w : World) (turns more : List Turn) → IsRun w turns → IsRun (last_world w turns) more → IsRun w (turns ++ more)
IsRun-append w [] more h k = k
IsRun-append w (t ∷ turns) more h k = (h.0, IsRun-append t.next turns more h.1 k)
