-- The laws that pools are independent of each other. What a pool is and how its lines are answered depends only on its
-- own lines, the types, the clients and the files that it imports.
use Rattle.std.specs.Prelude.{◌≡◌, ℕ, true, false, List, map}
use Rattle.pud_defs.specs.StateMachine.World.{World}
use Rattle.pud_defs.specs.StateMachine.Run.{Turn, is_cut, IsRun, last_world}
use Rattle.independence.specs.Own.{Names, only_pool, is_line_of_set, lines_of_set, answers_to}
use Rattle.independence.specs.Shares.{share, IsSamePool}
use Rattle.independence.specs.Limits.{MeetNoLimit, MeetNoneAtAll}
use Rattle.independence.specs.Premises.{DefinesNone, OthersDefineNone, is_imported, OthersLeaveFiles, OthersWriteNone}

-- ---- a line

-- A line names a pool outside a set, defines no type, and is not cut off by a power loss. Then the share of each pool
-- of the set stays the same: the pool without its UUID number, and the transaction that is open on it.
pub record LeavesOthers (w : World) (t : Turn) : Type 0 where
  pub others : (S : Names) → is_line_of_set S t.line ≡ false → is_cut t.answer ≡ false → DefinesNone w t → (name : List ℕ) → S name ≡ true → share t.next name ≡ share w name

-- ---- a run

-- Both runs answer the lines that name a pool of the set the same. Their last worlds have the same share under each
-- name of the set.
pub record IsSameFor (S : Names) (w : World) (turns : List Turn) (v : World) (others : List Turn) : Type 0 where
  pub answers : answers_to S others ≡ answers_to S turns
  pub shares : (name : List ℕ) → S name ≡ true → share (last_world v others) name ≡ share (last_world w turns) name

-- For every set of pools, the turns over all lines and each run over the set's own lines alone are the same. The
-- premises are: in both runs no own line met a shared limit. In the turns of the other lines power was not lost, no
-- type was defined, and no file that the set imports changed.
pub record AreIndependent (w : World) (lines : List (List ℕ)) (turns : List Turn) : Type 0 where
  pub alone : (S : Names) → MeetNoLimit S w turns → OthersDefineNone S w turns → OthersLeaveFiles S (is_imported S lines) w turns
      → (others : List Turn) → IsRun w others → map (λ t. t.line) others ≡ lines_of_set S lines → MeetNoLimit S w others → IsSameFor S w turns w others

-- The same for one pool and whole runs. The premises are: in neither run a shared limit was met. No line of another
-- pool defines a type, or writes a file that a line of this pool imports.
pub record IsPoolByItself (w : World) (lines : List (List ℕ)) (turns : List Turn) : Type 0 where
  pub alone : (name : List ℕ) → MeetNoneAtAll w turns → OthersDefineNone (only_pool name) w turns → OthersWriteNone (only_pool name) (is_imported (only_pool name) lines) turns
      → (others : List Turn) → IsRun w others → map (λ t. t.line) others ≡ lines_of_set (only_pool name) lines → MeetNoneAtAll w others
      → (answers_to (only_pool name) others ≡ answers_to (only_pool name) turns) × IsSamePool name (last_world w others) (last_world w turns)
