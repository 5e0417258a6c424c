-- What lines on pools promise, where several clauses say it. Each stands for the function type that it unfolds to.
use Rattle.std.specs.Prelude.{◌≡◌, ℕ, List, Option, Some, Result}
use Rattle.pm_model.specs.declared.host.HostFault.{HostFault}
use Rattle.pm_model.specs.Counts.{Counts}
use Rattle.pm_model.specs.Moments.{State}
use Rattle.pud_defs.specs.declared.machine.Command.TheVariants.{Import}
use Rattle.pud_defs.specs.declared.machine.Reply.{Reply}
use Rattle.pud_defs.specs.declared.records.Puddle.{Puddle}
use Rattle.pud_defs.specs.StateMachine.World.{World}
use Rattle.lazy_rewrite.specs.Frontiers.{steps_from, frontiers_of}
use Rattle.nesting.specs.declared.Session.{Session}
use Rattle.known_pool.specs.Known.{Known}
use Rattle.daemon_memory.specs.CarryingOut.{CarriesOutWith}
use Rattle.daemon_memory.specs.Leading.{IsStill}
use Rattle.daemon_memory.specs.LineAnswers.{as_line_answer}
use Rattle.daemon_memory.specs.Memory.{ActiveTransaction, Memory}
use Rattle.daemon_memory.specs.Moves.{MovesTo, led_in}
use Rattle.daemon_memory.specs.PoolKnowledge.{known_puddles_in}
use Rattle.daemon_memory.specs.Ready.{IsReady, AppliesBy}
use Rattle.pool_lines.specs.Effects.{ImportsFile}

-- The line that makes a pool of a file was carried out, or refused.
abbrev pub CarriesOutImport : (size : ℕ) → World → Memory → (client : ℕ) → (name file : List ℕ) → (mode : ℕ) → Result Reply HostFault → (before after : Counts) → State → State → Type 0
CarriesOutImport size w memory client name file mode done before after old new =
    CarriesOutWith IsStill (ImportsFile w client name file mode) size w memory (Import client name file mode) (as_line_answer done) before after old new

-- This holds for each world in which the daemon is ready with this known about pools, if the pool in the slot is known by these puddles. The function
-- makes a memory of what is known.
abbrev pub ForKnown : (words F slot : ℕ) → List (Option Known) → State → (Promise : (size : ℕ) → World → List (ℕ × Puddle) → (List (Option Known) → Memory) → Type 0) → Type 0
ForKnown words F slot known_pools s Promise =
    (size : ℕ) → size ≡ words → (at : List (ℕ × Puddle)) → known_puddles_in known_pools slot ≡ Some at → (w : World) → (active : List (Option ActiveTransaction)) → (sessions : List (Option Session))
    → IsReady size w (record { frames = F; active = active; sessions = sessions; known_pools = known_pools }) s → Promise size w at (λ known. record { frames = F; active = active; sessions = sessions; known_pools = known })

-- The frontiers of the pool in the slot are led to where its next n steps end, and the world stays.
abbrev pub AppliesSteps : (slot n : ℕ) → List (ℕ × Puddle) → (size : ℕ) → World → Memory → Option HostFault → State → State → Type 0
AppliesSteps slot n at size w memory fault old new = AppliesBy (MovesTo (led_in slot (frontiers_of (steps_from n at)))) size w w memory fault old new
