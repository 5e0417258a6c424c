-- How the pieces of a split begin at the first separator.
use Rattle.std.proofs.Common.{◌≡◌, ℕ, ◌+◌, ◌-◌, ◌<◌, ◌≤◌, ◌==◌, cond, nat_lt, false, List, [], ◌∷◌, length, take, drop, Some, None, position, arith}
use Rattle.std.specs.List.{position_or_len, All}
use Rattle.std.proofs.lemmas.Bool.Decides.{nat_tests}
use Rattle.std.proofs.lemmas.List.{take_rest}
use Rattle.std.proofs.lemmas.List.Splits.{slice_split_first, slice_split_none}
use Rattle.std.proofs.lemmas.List.Sums.{fails_before_first}
use Rattle.pud_defs.specs.StateMachine.Grammar.{split_at}

found_at : (n m i : ℕ) → cond (nat_lt n m) (Some n) None ≡ Some i → (n ≡ i) × (n < m)
found_at n m i e = grind (arith, nat_tests)

not_found : (n m : ℕ) → cond (nat_lt n m) (Some n) None ≡ None → m ≤ n
not_found n m e = grind (arith, nat_tests)

-- the index of a found separator is within the bytes
pub is_within : (separator : ℕ) (bytes : List ℕ) (i : ℕ) → position (λ b. b == separator) bytes ≡ Some i → i < length bytes
is_within separator bytes i e =
    let found = found_at (position_or_len (λ b. b == separator) bytes) (length bytes) i e in
    omega (arith, found.0, found.1)

-- with a separator: the bytes before it, then the pieces of the bytes after it, as the code cuts them out
pub cut_there : (separator : ℕ) (bytes : List ℕ) (i : ℕ) → position (λ b. b == separator) bytes ≡ Some i
    → split_at separator bytes ≡ take i bytes ∷ split_at separator (take (length bytes - (i + 1)) (drop (i + 1) bytes))
cut_there separator bytes i e =
    let found = found_at (position_or_len (λ b. b == separator) bytes) (length bytes) i e in
    rw (take_rest bytes (i + 1), ← found.0) (slice_split_first (λ b. b == separator) bytes 0 found.1)

-- without a separator: all bytes are one piece
pub cut_nowhere : (separator : ℕ) (bytes : List ℕ) → position (λ b. b == separator) bytes ≡ None → split_at separator bytes ≡ bytes ∷ []
cut_nowhere separator bytes e =
    let beyond = not_found (position_or_len (λ b. b == separator) bytes) (length bytes) e in
    let none : All (λ x. (x == separator) ≡ false) bytes = λ k d h. fails_before_first (λ b. b == separator) bytes k d (omega arith) in
    slice_split_none (λ b. b == separator) bytes none
