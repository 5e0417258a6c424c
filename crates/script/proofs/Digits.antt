-- How one more digit changes the value of decimal digits.
use Rattle.std.proofs.Common.{◌≡◌, ℕ, ◌+◌, ◌-◌, ◌*◌, ◌^◌, ◌<◌, ◌≤◌, Bool, true, false, cond, ◌&&◌, nat_le, nat_lt, List, [], ◌∷◌, length, drop, get_or, Option, Some, None, option_and_then, refl, sym, ap, ◌∙◌, add-one, arith, drop-cons}
use Rattle.std.proofs.lemmas.List.{drop_all}
use Rattle.std.specs.List.{list_all}
use Rattle.std.proofs.lemmas.Bool.Decides.{nat_tests}
use Rattle.pud_defs.specs.StateMachine.Grammar.{begins_as_number, is_digit, value_after, decimal_of, in_range}

-- the number, if it fits into a word
abbrev pub word_of : Option ℕ → Option ℕ
word_of number = option_and_then (in_range 0 (2 ^ 64)) number

-- the number of the digits so far, whose value is `above`, and of one more digit
abbrev pub next_value : ℕ → ℕ → Option ℕ
next_value above digit = cond (is_digit digit) (word_of (Some (above * 10 + (digit - 48)))) None

-- the number of the digits so far, whose value is `above`, and of the digits that are left
unfoldable pub number_after : ℕ → List ℕ → Option ℕ
number_after above digits = word_of (cond (list_all is_digit digits) (Some (value_after above digits)) None)

too_large : (n : ℕ) → 2 ^ 64 ≤ n → word_of (Some n) ≡ None
too_large n h = grind (arith, nat_tests)

fits : (n : ℕ) → n < 2 ^ 64 → word_of (Some n) ≡ Some n
fits n h = grind (arith, nat_tests)

value_after-ge : (above : ℕ) (digits : List ℕ) → above ≤ value_after above digits
value_after-ge above [] = omega arith
value_after-ge above (digit ∷ digits) = omega (arith, value_after-ge (above * 10 + (digit - 48)) digits)

-- a value that is too large stays too large with more digits
stays_too_large : (b : Bool) (above : ℕ) (digits : List ℕ) → 2 ^ 64 ≤ above → word_of (cond b (Some (value_after above digits)) None) ≡ None
stays_too_large true above digits h = too_large (value_after above digits) (omega (arith, value_after-ge above digits))
stays_too_large false above digits h = refl

-- if one more byte gives a number, then the byte is a digit, and the value fits and is this number
digit_cases : (is fits : Bool) (v w : ℕ) → cond is (cond fits (Some v) None) None ≡ Some w → (is ≡ true) × (fits ≡ true) × (v ≡ w)
digit_cases true true v w e = (refl, refl, cc)
digit_cases true false v w e = cc
digit_cases false fits v w e = cc

after_digit : (is others : Bool) (a b : Option ℕ) → is ≡ true → word_of (cond (is && others) a b) ≡ word_of (cond others a b)
after_digit true others a b e = refl
after_digit false others a b e = cc

number_after-cons : (above digit v : ℕ) (digits : List ℕ) → next_value above digit ≡ Some v → number_after above (digit ∷ digits) ≡ number_after v digits
unfolding number_after
number_after-cons above digit v digits e =
    let value = above * 10 + (digit - 48) in
    let known = digit_cases (is_digit digit) (nat_le 0 value && nat_lt value (2 ^ 64)) value v e in
    after_digit (is_digit digit) (list_all is_digit digits) (Some (value_after value digits)) None known.0
    ∙ ap (λ w. word_of (cond (list_all is_digit digits) (Some (value_after w digits)) None)) known.2

value_fits : (n v : ℕ) → (nat_le 0 n && nat_lt n (2 ^ 64)) ≡ true → n ≡ v → v < 2 ^ 64
value_fits n v e same = grind (arith, nat_tests)

-- a value with one more digit fits into a word
pub next_value_fits : (above digit v : ℕ) → next_value above digit ≡ Some v → v < 2 ^ 64
next_value_fits above digit v e =
    let value = above * 10 + (digit - 48) in
    let known = digit_cases (is_digit digit) (nat_le 0 value && nat_lt value (2 ^ 64)) value v e in
    value_fits value v known.1 known.2

no_digit_cases : (is others : Bool) (value : ℕ) (digits : List ℕ) → cond is (word_of (Some value)) None ≡ None → word_of (cond (is && others) (Some (value_after value digits)) None) ≡ None
no_digit_cases false others value digits e = refl
no_digit_cases true others value digits e = stays_too_large others value digits (grind (arith, nat_tests))

number_after-none : (above digit : ℕ) (digits : List ℕ) → next_value above digit ≡ None → number_after above (digit ∷ digits) ≡ None
unfolding number_after
number_after-none above digit digits e = no_digit_cases (is_digit digit) (list_all is_digit digits) (above * 10 + (digit - 48)) digits e

cut_off : (digits : List ℕ) (i : ℕ) → i < length digits → drop i digits ≡ get_or digits i 0 ∷ drop (i + 1) digits
cut_off digits i h = rw add-one (drop-cons digits i 0 h)

-- taking the digit at i into the value does not change the number of all digits
pub digit_taken : (above v : ℕ) (digits : List ℕ) (i : ℕ) → i < length digits → next_value above (get_or digits i 0) ≡ Some v → number_after v (drop (i + 1) digits) ≡ number_after above (drop i digits)
digit_taken above v digits i h e = sym (rw (cut_off digits i h) (number_after-cons above (get_or digits i 0) v (drop (i + 1) digits) e))

-- there is no number if the byte at i is no digit or makes the value too large
pub digit_refused : (above : ℕ) (digits : List ℕ) (i : ℕ) → i < length digits → next_value above (get_or digits i 0) ≡ None → number_after above (drop i digits) ≡ None
digit_refused above digits i h e = rw (cut_off digits i h) (number_after-none above (get_or digits i 0) (drop (i + 1) digits) e)

-- if no digit is left, the number is the value so far
pub nothing_left : (above : ℕ) (digits : List ℕ) (i : ℕ) → above < 2 ^ 64 → length digits ≤ i → Some above ≡ number_after above (drop i digits)
unfolding number_after
nothing_left above digits i h e = rw (drop_all i digits e) (sym (fits above h))

begun_cases : (begins digits : Bool) (v : ℕ) → begins ≡ true → word_of (cond (begins && digits) (Some v) None) ≡ word_of (cond digits (Some v) None)
begun_cases true digits v e = refl
begun_cases false digits v e = cc

not_begun_cases : (begins digits : Bool) (v : ℕ) → begins ≡ false → word_of (cond (begins && digits) (Some v) None) ≡ None
not_begun_cases true digits v e = cc
not_begun_cases false digits v e = refl

pub decimal_of-begun : (digits : List ℕ) → begins_as_number digits ≡ true → number_after 0 digits ≡ word_of (decimal_of digits)
unfolding number_after decimal_of
decimal_of-begun digits e = sym (begun_cases (begins_as_number digits) (list_all is_digit digits) (value_after 0 digits) e)

pub decimal_of-not_begun : (digits : List ℕ) → begins_as_number digits ≡ false → word_of (decimal_of digits) ≡ None
unfolding decimal_of
decimal_of-not_begun digits e = not_begun_cases (begins_as_number digits) (list_all is_digit digits) (value_after 0 digits) e

-- the lemmas that the loop over the digits uses
pub ruleset read = (next_value_fits, digit_taken, digit_refused, nothing_left, decimal_of-begun, decimal_of-not_begun)
