-- Lemmas about arguments that are there, and about arguments that are not.
use Rattle.std.proofs.Common.{◌≡◌, ℕ, ◌<◌, ◌==◌, List, [], ◌∷◌, length, Option, Some, None, option_and_then, refl, arith}
use Rattle.std.proofs.lemmas.List.Splits.{length-slice_split}
use Rattle.pud_defs.specs.declared.machine.Command.{Command}
use Rattle.pud_defs.specs.StateMachine.Grammar.{split_at, Parser, taking, at_end}

pub taking-front : {A : Type 0} (kind : List ℕ → Option A) (next : A → Parser) (argument : List ℕ) (arguments : List (List ℕ)) → taking kind next (argument ∷ arguments) ≡ option_and_then (λ v. next v arguments) (kind argument)
unfolding taking
taking-front kind next argument arguments = refl

pub taking-none : {A : Type 0} (kind : List ℕ → Option A) (next : A → Parser) → taking kind next [] ≡ None
unfolding taking
taking-none kind next = refl

-- a split always gives a piece
pub has_piece : (separator : ℕ) (bytes : List ℕ) → 0 < length (split_at separator bytes)
has_piece separator bytes = omega (arith, length-slice_split (λ x. x == separator) bytes)

pub at_end-none : (command : Command) → at_end command [] ≡ Some command
unfolding at_end
at_end-none command = refl

at_end-more : (command : Command) (arguments : List (List ℕ)) → 0 < length arguments → at_end command arguments ≡ None
unfolding at_end
at_end-more command [] h = absurd (omega arith)
at_end-more command (argument ∷ arguments) h = refl

pub at_end-split : (command : Command) (bytes : List ℕ) → at_end command (split_at 32 bytes) ≡ None
at_end-split command bytes = at_end-more command (split_at 32 bytes) (has_piece 32 bytes)

-- the lemmas about an argument at the front and about the end
pub ruleset taken = (taking-front, taking-none, at_end-none, at_end-split)
