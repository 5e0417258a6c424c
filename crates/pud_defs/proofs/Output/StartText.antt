-- What a start prints, given which logs are refused.
use Rattle.std.proofs.Common.{◌≡◌, ℕ, zero, suc, ◌+◌, ◌%◌, ◌<◌, ◌≤◌, Bool, cond, List, [], ◌∷◌, ◌++◌, length, flat_map, refl, ap, ap₂, ◌∙◌, arith, add-one, append-nil}
use Rattle.std.specs.Prelude.{decimal}
use Rattle.std.specs.List.{range_with_len}
use Rattle.std.proofs.lemmas.Fmt.{length-decimal-le}
use Rattle.std.proofs.lemmas.Grind.{flat_map-append}
use Rattle.pud_defs.specs.declared.layout.TheConstants.{CLIENT_LOGS}
use Rattle.pud_defs.specs.Logging.Settled.{ALL_LOGS, client_of_log}
use Rattle.pud_defs.specs.Output.StartText.{refused_line, said_of_log, refused_lines}

-- the numbers in the line of a log have one digit each
pub digits_of_log : (number : ℕ) → number < ALL_LOGS → (length (decimal (client_of_log number)) ≤ 1) × (length (decimal (number % CLIENT_LOGS)) ≤ 1)
digits_of_log number below =
    (length-decimal-le 1 (client_of_log number) (omega arith) (omega arith) (omega arith), length-decimal-le 1 (number % CLIENT_LOGS) (omega arith) (omega arith) (omega arith))

-- ---- the lines of the first logs

unfoldable pub first_lines : (ℕ → Bool) → (count : ℕ) → List ℕ
first_lines refused count = flat_map (said_of_log refused) (range_with_len 0 count)

pub first_lines-none : (refused : ℕ → Bool) → first_lines refused 0 ≡ []
unfolding first_lines
first_lines-none refused = refl

pub first_lines-all : (refused : ℕ → Bool) → first_lines refused ALL_LOGS ≡ refused_lines refused
unfolding first_lines refused_lines
first_lines-all refused = refl

range_more : (from count : ℕ) → range_with_len from (suc count) ≡ range_with_len from count ++ (from + count) ∷ []
range_more from zero = ap (λ (n : ℕ). n ∷ []) (omega arith)
range_more from (suc count) =
    ap (λ (l : List ℕ). from ∷ l) (range_more (from + 1) count ∙ ap (λ (n : ℕ). range_with_len (from + 1) count ++ n ∷ []) (omega arith))

pub first_lines-more : (refused : ℕ → Bool) (count : ℕ) → first_lines refused (count + 1) ≡ first_lines refused count ++ said_of_log refused count
unfolding first_lines
first_lines-more refused count =
    rw add-one (ap (flat_map (said_of_log refused)) (range_more 0 count)
    ∙ flat_map-append (said_of_log refused) (range_with_len 0 count) ((0 + count) ∷ [])
    ∙ ap (λ (l : List ℕ). flat_map (said_of_log refused) (range_with_len 0 count) ++ l) (append-nil (said_of_log refused (0 + count)) ∙ ap (said_of_log refused) (omega arith)))

-- ---- verdicts that agree

lines_same : (f g : ℕ → Bool) (from count : ℕ) → ((number : ℕ) → number < from + count → f number ≡ g number)
    → flat_map (said_of_log f) (range_with_len from count) ≡ flat_map (said_of_log g) (range_with_len from count)
lines_same f g from zero same = refl
lines_same f g from (suc count) same =
    ap₂ (λ (front rest : List ℕ). front ++ rest) (ap (λ b. cond b (refused_line from) []) (same from (omega arith))) (lines_same f g (from + 1) count (λ number low. same number (omega arith)))

-- they give the same text
pub refused_lines-same : (f g : ℕ → Bool) → ((number : ℕ) → number < ALL_LOGS → f number ≡ g number) → refused_lines f ≡ refused_lines g
unfolding refused_lines
refused_lines-same f g same = lines_same f g 0 ALL_LOGS (λ number low. same number (omega arith))
