-- What the operators of the code give for a map word.
use Rattle.std.proofs.Common.{◌≡◌, ℕ, ◌*◌, ◌/◌, ◌%◌, ◌^◌, ◌<◌, ◌≤◌, false, nat_eq, nat_lt, bit_and, ap, ◌∙◌, arith, pow_mono, pow_pos, div-lt_iff_lt-mul}
use Rattle.std.proofs.Math.Nat.{div-eq_of_lt}
use Rattle.std.proofs.lemmas.Nat.{and_mask}
use Rattle.std.proofs.lemmas.Bool.Decides.{nat_tests}
use Rattle.pud_defs.specs.Formats.TypeMap.{is_pointer}

zero_or_more : (n m : ℕ) → 0 < m → (n / m < 1 → n < 1 * m) → (n < 1 * m → n / m < 1) → nat_eq (n / m) 0 ≡ nat_lt n m
zero_or_more n m h p q = grind (arith, nat_tests)

-- the lower half has no bit set from bit n on exactly if it is below 2^n
pub no_bit_from : (v n : ℕ) → nat_eq (bit_and v 4294967295 / 2 ^ n) 0 ≡ nat_lt (v % 2 ^ 32) (2 ^ n)
no_bit_from v n =
    let low : bit_and v 4294967295 ≡ v % 2 ^ 32 = and_mask v 32 in
    let below = div-lt_iff_lt-mul {k = 2 ^ n} {x = v % 2 ^ 32} {y = 1} (pow_pos n) in
    ap (λ w. nat_eq (w / 2 ^ n) 0) low ∙ zero_or_more (v % 2 ^ 32) (2 ^ n) (pow_pos n) below.0 below.1

zero_bit : (n : ℕ) → n ≡ 0 → nat_eq (n % 2) 1 ≡ false
zero_bit n e = ap (λ m. nat_eq (m % 2) 1) e

-- a word of 64 bits has no bit beyond bit 63
pub no_bit_beyond : (v f : ℕ) → v < 2 ^ 64 → 64 ≤ f → is_pointer v f ≡ false
no_bit_beyond v f small far =
    let far_enough : 2 ^ 64 ≤ 2 ^ f = pow_mono {i = 64} {j = f} far in
    zero_bit (v / 2 ^ f) (div-eq_of_lt (omega arith))
