-- The turns of a line of input.
use Rattle.std.proofs.Common.{◌≡◌, ◌⊎◌, inl, inr, ℕ, ◌+◌, Bool, cond, List, [], ◌∷◌, refl, ap}
use Rattle.pud_defs.specs.declared.machine.Reply.TheVariants.{Cut}
use Rattle.pud_defs.specs.StateMachine.World.{World, restart}
use Rattle.pud_defs.specs.StateMachine.Grammar.{command_of}
use Rattle.pud_defs.specs.StateMachine.Step.{Answer}
use Rattle.pud_defs.specs.StateMachine.Step.Answer.{of_reply}
use Rattle.pud_defs.specs.StateMachine.Gives.{Gives, Step}
use Rattle.pud_defs.specs.StateMachine.Run.{Turn, IsTurn, cuts_of}
use Rattle.pud_defs.proofs.StateMachine.Steps.{step_is_no_cut}

-- The turn of a line that was carried out or refused.
abbrev pub turn_of : List ℕ → Answer → World → Turn
turn_of line said under = record { line = line; answer = said; under = under; next = under }

pub is_turn_of : (w : World) (line : List ℕ) (said : Answer) (under : World) → Step w line said under → IsTurn w (turn_of line said under)
is_turn_of w line said under step = inl (record { step = step; goes_on = refl })

-- The turn of a line that was cut off.
abbrev pub cut_turn : List ℕ → (under next : World) → Turn
cut_turn line under next = record { line = line; answer = of_reply Cut; under = under; next = next }

pub is_cut_turn : (w : World) (line : List ℕ) (under next : World) → Gives w (command_of line) under → (next ≡ restart w) ⊎ (next ≡ restart under) → IsTurn w (cut_turn line under next)
is_cut_turn w line under next gives goes_on = inr (record { answered = refl; given = gives; goes_on = goes_on })

-- A line that was carried out or refused is not answered with `cut`.
pub no_cut_reply : (w : World) (line : List ℕ) (said : Answer) (under : World) → Step w line said under → cuts_of (turn_of line said under ∷ []) ≡ 0
no_cut_reply w line said under step = ap (λ (b : Bool). 0 + cond b 1 0) (step_is_no_cut w (command_of line) said under step)
