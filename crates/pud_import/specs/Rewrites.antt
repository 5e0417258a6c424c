-- A world after lines that rewrite a pool.
use Rattle.std.specs.Prelude.{◌≡◌, ℕ, List, [], ◌∷◌, Option, Some}
use Rattle.pud_defs.specs.declared.machine.Command.TheVariants.{Rewrite}
use Rattle.pud_defs.specs.PoolGraphs.ExportFile.{FileContents}
use Rattle.pud_defs.specs.StateMachine.World.{World}
use Rattle.pud_defs.specs.StateMachine.Step.{world_by, contents_in}
use Rattle.pud_defs.specs.StateMachine.Gives.{Shelf, Exports}

-- the world after one line `rewrite` for each of these numbers of steps, on the pool of the name
abbrev pub after_rewrites : List ℕ → (steps : List ℕ) → World → World
after_rewrites name [] w = w
after_rewrites name (n ∷ steps) w = after_rewrites name steps (world_by w (Some (Rewrite name n)))

-- Each file into which the pool of the name is exported, after any number of rewrites, contains this.
abbrev pub EachExportHas : List ℕ → World → Option FileContents → Type 0
EachExportHas name w contents = (steps : List ℕ) (again : List ℕ) (shelf : Shelf) → Exports (after_rewrites name steps w) name again shelf → contents_in (shelf again) ≡ contents
