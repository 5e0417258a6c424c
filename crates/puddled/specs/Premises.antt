-- Premises that the clauses of a line share. Each stands for the function type that it unfolds to.
use Rattle.std.specs.Prelude.{◌≡◌, ℕ, List, None, Some, Result}
use Rattle.pm_model.specs.declared.host.HostFault.{HostFault}
use Rattle.pm_model.specs.Counts.{Counts}
use Rattle.pm_model.specs.Moments.{State}
use Rattle.pud_defs.specs.declared.machine.Command.{Command}
use Rattle.pud_defs.specs.declared.machine.Command.TheVariants.{Rewrite}
use Rattle.pud_defs.specs.StateMachine.Grammar.{command_of}
use Rattle.pud_defs.specs.StateMachine.Step.{refusal_of}
use Rattle.pud_defs.specs.StateMachine.World.{World}
use Rattle.daemon_memory.specs.declared.line_answer.LineAnswer.{LineAnswer}
use Rattle.daemon_memory.specs.Memory.{Memory}
use Rattle.puddled.specs.Daemon.{CarriesOut}

-- This holds for each line of the command that was carried out, from a state before it, and ended so.
abbrev pub WhenCarriedOut : (words : ℕ) → Memory → Command → Result LineAnswer HostFault → Counts → State → (Promise : (size : ℕ) → World → (line : List ℕ) → Counts → State → Type 0) → Type 0
WhenCarriedOut words memory command done counts s Promise =
    (size : ℕ) → size ≡ words → (w : World) → (line : List ℕ) → (counted : Counts) → (before : State) → command_of line ≡ Some command → before.shelf ≡ w.shelf
    → CarriesOut size w memory (command_of line) done counted counts before s → Promise size w line counted before

-- This holds if the line rewrites and is not refused.
abbrev pub IfRewrites : World → (line : List ℕ) → (Promise : (name : List ℕ) → (n : ℕ) → Type 0) → Type 0
IfRewrites w line Promise = (name : List ℕ) (n : ℕ) → command_of line ≡ Some (Rewrite name n) → refusal_of w (Rewrite name n) ≡ None → Promise name n
