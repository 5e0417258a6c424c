-- Premises that the clauses of many calls share. Each stands for the function type that it unfolds to.
use Rattle.std.specs.Prelude.{◌≡◌, ℕ, List}
use Rattle.pm_model.specs.Words.{reads}
use Rattle.pm_model.specs.Moments.{State}
use Rattle.pud_defs.specs.declared.records.Puddle.{Puddle}
use Rattle.pud_defs.specs.RegistryTables.Tables.{tables_of, puddles_in_turn}
use Rattle.pud_defs.specs.StateMachine.World.{World}
use Rattle.daemon_memory.specs.Memory.{Memory}
use Rattle.daemon_memory.specs.Ready.{IsReady}

-- This holds for each world in which the daemon is ready, on a device of so many words.
abbrev pub WhenReady : (words : ℕ) → Memory → State → (Promise : (size : ℕ) → World → Type 0) → Type 0
WhenReady words memory s Promise = (size : ℕ) → size ≡ words → (w : World) → IsReady size w memory s → Promise size w

-- The same for each memory of a device of so many frames.
abbrev pub ForReady : (words F : ℕ) → State → (Promise : (size : ℕ) → World → Memory → Type 0) → Type 0
ForReady words F s Promise = (size : ℕ) → size ≡ words → (w : World) → (memory : Memory) → memory.frames ≡ F → IsReady size w memory s → Promise size w memory

-- The puddles of the pool whose record has this slot, in turn, as the device reads.
abbrev pub puddles_at : (F slot : ℕ) → State → List (ℕ × Puddle)
puddles_at F slot s = puddles_in_turn (tables_of F (reads s.now.words)) slot
