-- A run: the turns of the machine over the lines of a script.
use Rattle.std.specs.Prelude.{◌≡◌, ◌⊎◌, ℕ, Bool, true, false, cond, not, ◌==◌, List, [], ◌∷◌, length, take, filter, count_by, ⊤}
use Rattle.std.specs.List.{after_last}
use Rattle.pud_defs.specs.declared.machine.Reply.TheVariants as replies
use Rattle.pud_defs.specs.StateMachine.World.{World, restart}
use Rattle.pud_defs.specs.StateMachine.Grammar.{split_at, command_of}
use Rattle.pud_defs.specs.StateMachine.Step.{Answer}
use Rattle.pud_defs.specs.StateMachine.Step.Answer.{of_reply, of_text}
use Rattle.pud_defs.specs.StateMachine.Gives.{Gives, Step}

-- A line with its answer, the world that the line gives, and the world from which the run goes on.
pub record Turn : Type 0 where
  pub line : List ℕ
  pub answer : Answer
  pub under : World
  pub next : World

-- the turn is a step of the machine, and the run goes on from the world that it gives
pub record IsStep (w : World) (t : Turn) : Type 0 where
  pub step : Step w t.line t.answer t.under
  pub goes_on : t.next ≡ t.under

-- Power was lost while the line was carried out. The run goes on after a restart: from the world before the line, or
-- from the world that the line gives.
pub record IsCutOff (w : World) (t : Turn) : Type 0 where
  pub answered : t.answer ≡ of_reply replies.Cut
  pub given : Gives w (command_of t.line) t.under
  pub goes_on : (t.next ≡ restart w) ⊎ (t.next ≡ restart t.under)

abbrev pub IsTurn : World → Turn → Type 0
IsTurn w t = IsStep w t ⊎ IsCutOff w t

-- whether the answer is the reply `cut`
abbrev pub is_cut : Answer → Bool
is_cut (of_reply replies.Cut) = true
is_cut (of_reply reply) = false
is_cut (of_text text) = false

-- how many replies are `cut`
abbrev pub cuts_of : List Turn → ℕ
cuts_of turns = count_by (λ t. is_cut t.answer) turns

-- each is a turn from the world that the one before it left; the first is one from this world
abbrev pub IsRun : World → List Turn → Type 0
IsRun w [] = ⊤
IsRun w (t ∷ turns) = IsTurn w t × IsRun t.next turns

-- the world after the turns
abbrev pub last_world : World → List Turn → World
last_world w [] = w
last_world w (t ∷ turns) = last_world t.next turns

-- how many newlines there are among the bytes
abbrev pub newlines : List ℕ → ℕ
newlines bytes = count_by (λ b. b == 10) bytes

-- the pieces of the bytes between newlines: those that a newline closes, and then the open rest
abbrev pub pieces : List ℕ → List (List ℕ)
pieces bytes = split_at 10 bytes

-- the pieces that a newline closes
unfoldable pub closed_pieces : List ℕ → List (List ℕ)
closed_pieces bytes = take (newlines bytes) (pieces bytes)

-- what follows the last newline, or all bytes if there is none
unfoldable pub open_rest : List ℕ → List ℕ
open_rest bytes = after_last (λ b. b == 10) bytes

-- the lines among some pieces: all but the empty ones
abbrev pub lines_among : List (List ℕ) → List (List ℕ)
lines_among lines = filter (λ line. not (length line == 0)) lines

-- the lines among the bytes taken: the closed pieces, and also the rest if the input ended
unfoldable pub lines_taken : List ℕ → Bool → List (List ℕ)
lines_taken bytes ended = lines_among (cond ended (pieces bytes) (closed_pieces bytes))
