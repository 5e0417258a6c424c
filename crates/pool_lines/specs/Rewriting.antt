-- What a line that rewrites pointers does to the frontiers of its pool.
use Rattle.std.specs.Prelude.{◌≡◌, ℕ, List, Some, Option, None}
use Rattle.pud_defs.specs.declared.records.Puddle.{Puddle}
use Rattle.pud_defs.specs.Formats.Image.{Image}
use Rattle.lazy_rewrite.specs.Frontiers.{steps_from, frontiers_of}
use Rattle.daemon_memory.specs.PoolKnowledge.{puddles_with_graph}
use Rattle.daemon_memory.specs.Owning.{IsRecordSlot}
use Rattle.pm_model.specs.declared.host.HostFault.{HostFault}
use Rattle.pm_model.specs.Moments.{State}
use Rattle.lazy_rewrite.specs.Batches.{Rewrites}

-- The pool of the name has a graph before and after. Its puddles are as they were, with the next n steps done, or all
-- that were left.
pub record DoesSteps (F : ℕ) (name : List ℕ) (n : ℕ) (old new : Image) : Type 0 where
  pub slot : ℕ
  pub is : IsRecordSlot F name old slot
  pub at : List (ℕ × Puddle)
  pub before : puddles_with_graph F old slot ≡ Some at
  pub stepped : puddles_with_graph F new slot ≡ Some (steps_from n at)

-- The next n steps of the pool are done in turn, or all that are left.
pub record DoesStepsInTurn (F n : ℕ) (at : List (ℕ × Puddle)) (fault : Option HostFault) (old new : State) : Type 0 where
  pub later : List (ℕ × Puddle)
  pub whole : fault ≡ None → later ≡ steps_from n at
  pub rewrites : Rewrites F (frontiers_of (steps_from n at)) at later fault old new
