-- The numbers of each mode are in their ranges.
use Rattle.std.proofs.Common.{◌≡◌, ◌^◌, ◌+◌, ◌<◌, ◌≤◌, ℕ, Bool, cond, codes, true, false, refl, subst, List, [], ◌∷◌, Option, Some, None, Result, Ok, Err, IfOk, IfSome, arith}
use Rattle.std.specs.Prelude.{bytes_eq, option_and_then, option_map}
use Rattle.pud_defs.specs.declared.layout.TheConstants.{MIN_FRAMES, MAX_FRAMES}
use Rattle.pud_defs.specs.StateMachine.Grammar.{number_within}
use Rattle.pud_defs.proofs.StateMachine.Commands.{number_within-bounds}
use Rattle.command_line.specs.declared.WordsFault.{WordsFault}
use Rattle.command_line.specs.declared.modes.Mode.{Mode}
use Rattle.command_line.specs.declared.modes.Mode.TheVariants.{Format, Run, Layout, Check, Gen}
use Rattle.command_line.specs.declared.modes.TheConstants.{MAX_SEED, MAX_OBJECTS}
use Rattle.command_line.specs.CommandLine.{IsLegalMode, format_of, gen_of, mode_alone, mode_by, mode_of, without_dashes}

abbrev IsLegal : Option Mode → Type 0
IsLegal mode = IfSome mode IsLegalMode

either : (is : Bool) (mode other : Option Mode) → IsLegal mode → IsLegal other → IsLegal (cond is mode other)
either true mode other legal others = legal
either false mode other legal others = others

-- two numbers, each in its range
module _ (made : ℕ → ℕ → Mode) (least end other_least other_end : ℕ)
    (legal : (m n : ℕ) → least ≤ m → m < end → other_least ≤ n → n < other_end → IsLegalMode (made m n)) where
  of_values : (first second : List ℕ) (a b : Option ℕ) → number_within least end first ≡ a → number_within other_least other_end second ≡ b
      → IsLegal (option_and_then (λ m. option_map (made m) b) a)
  of_values first second None b is_first is_second = tt
  of_values first second (Some m) None is_first is_second = tt
  of_values first second (Some m) (Some n) is_first is_second =
      let bounds = number_within-bounds least end first m is_first in
      let others = number_within-bounds other_least other_end second n is_second in
      legal m n bounds.0 bounds.1 others.0 others.1

  of_numbers : (first second : List ℕ) → IsLegal (option_and_then (λ m. option_map (made m) (number_within other_least other_end second)) (number_within least end first))
  of_numbers first second = of_values first second (number_within least end first) (number_within other_least other_end second) refl refl

format_legal : (frames id : List ℕ) → IsLegal (format_of frames id)
format_legal frames id = of_numbers Format MIN_FRAMES (MAX_FRAMES + 1) 0 (2 ^ 64) (λ F machine least below all few. (least, omega arith, few)) frames id

gen_legal : (seed count : List ℕ) → IsLegal (gen_of seed count)
gen_legal seed count = of_numbers Gen 0 (MAX_SEED + 1) 1 (MAX_OBJECTS + 1) (λ S N all below least few. (omega arith, least, omega arith)) seed count

alone_legal : (word : List ℕ) → IsLegal (mode_alone word)
alone_legal word = either (bytes_eq word (codes "run")) (Some Run) _ tt (either (bytes_eq word (codes "layout")) (Some Layout) _ tt (either (bytes_eq word (codes "check")) (Some Check) None tt tt))

by_legal : (word : List ℕ) (words : List (List ℕ)) → IsLegal (mode_by word words)
by_legal word [] = alone_legal word
by_legal word (first ∷ []) = tt
by_legal word (first ∷ second ∷ []) =
    either (bytes_eq word (codes "format")) (format_of first second) _ (format_legal first second)
    (either (bytes_eq word (codes "gen")) (gen_of first second) None (gen_legal first second) tt)
by_legal word (first ∷ second ∷ third ∷ words) = tt

mode_of-legal : (words : List (List ℕ)) → IsLegal (mode_of words)
mode_of-legal [] = tt
mode_of-legal (name ∷ []) = tt
mode_of-legal (name ∷ word ∷ words) = by_legal word (without_dashes words)

-- a mode that is read from words is legal
pub legal_of : (words : List (List ℕ)) (read : Result Mode WordsFault) → IfOk read (λ mode. mode_of words ≡ Some mode) → IfOk read IsLegalMode
legal_of words (Ok mode) is = subst IsLegal is (mode_of-legal words)
legal_of words (Err fault) is = tt
