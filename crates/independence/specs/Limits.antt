-- Limits that pools share, and the answers that show that one was met.
use Rattle.std.specs.Prelude.{◌≡◌, Bool, true, false, not, ◌||◌, cond, List, [], ◌∷◌, Option, Some, None, ⊤}
use Rattle.pud_defs.specs.declared.machine.Command.{Command}
use Rattle.pud_defs.specs.declared.machine.Command.TheVariants.{New}
use Rattle.pud_defs.specs.declared.machine.Reply.TheVariants as replies
use Rattle.pud_defs.specs.declared.machine.Refusal.TheVariants as refusals
use Rattle.pud_defs.specs.StateMachine.World.{World}
use Rattle.pud_defs.specs.StateMachine.PoolChanges.{pool_named}
use Rattle.pud_defs.specs.StateMachine.Grammar.{command_of}
use Rattle.pud_defs.specs.StateMachine.Step.{Answer, is_last_serial, has_all_puddles, graph_for}
use Rattle.pud_defs.specs.StateMachine.Step.Answer.{of_reply, of_text}
use Rattle.pud_defs.specs.StateMachine.Run.{Turn, is_cut}
use Rattle.independence.specs.Own.{Names, is_line_of_set}

-- The command makes an object in a pool whose room for more depends on no other pool. The pool has as many puddles as a
-- pool can have, or no serial is left.
abbrev pub is_full_by_itself : World → Option Command → Bool
is_full_by_itself w None = false
is_full_by_itself w (Some (New client name t)) = is_last_serial (graph_for w (New client name t)) || has_all_puddles (pool_named name w.stored)
is_full_by_itself w (Some c) = false

-- The answer shows a power loss, or a limit that pools share: frames, logs, memory, room in the tables, or UUID
-- numbers. `full` tells whether the pool is full by itself: then the refusal `full` shows no shared limit.
abbrev pub is_limit : (full : Bool) → Answer → Bool
is_limit full (of_reply replies.Cut) = true
is_limit full (of_reply (replies.No refusals.Space)) = true
is_limit full (of_reply (replies.No refusals.Logs)) = true
is_limit full (of_reply (replies.No refusals.Memory)) = true
is_limit full (of_reply (replies.No refusals.Full)) = not full
is_limit full (of_reply reply) = false
is_limit full (of_text text) = false

-- a shared limit was met in this turn, or a power loss cut it off
abbrev pub is_at_limit : World → Turn → Bool
is_at_limit w t = is_limit (is_full_by_itself w (command_of t.line)) t.answer

-- an own line of the set met a shared limit or was cut off by a power loss, or a power loss cut off another line
abbrev pub meets_limit : Names → World → Turn → Bool
meets_limit S w t = cond (is_line_of_set S t.line) (is_at_limit w t) (is_cut t.answer)

-- no turn meets a limit in this sense
abbrev pub MeetNoLimit : Names → World → List Turn → Type 0
MeetNoLimit S w [] = ⊤
MeetNoLimit S w (t ∷ turns) = (meets_limit S w t ≡ false) × MeetNoLimit S t.next turns

-- no turn met a shared limit or was cut off by a power loss, whatever pool its line names
abbrev pub MeetNoneAtAll : World → List Turn → Type 0
MeetNoneAtAll w [] = ⊤
MeetNoneAtAll w (t ∷ turns) = (is_at_limit w t ≡ false) × MeetNoneAtAll t.next turns
