-- The text that the library of identifiers writes, digit by digit.
use Rattle.std.proofs.Common.{◌≡◌, ℕ, ◌/◌, ◌%◌, refl, arith}
use Rattle.std.proofs.Math.Nat.{div-div-eq-div-mul}
use Rattle.std.proofs.lemmas.Bool.Decides.{nat_tests}
use Rattle.std.specs.Int.{w128, to_be_bytes}
use Rattle.uuid.specs.Text.{by_index, lower, hyphenated_text}
use Rattle.uuid.specs.Text as theirs
use Rattle.pud_defs.specs.Formats.Identifiers.{hex_digit, hex_digits, uuid_text}

digit_same : (d : ℕ) → theirs.hex_digit lower d ≡ hex_digit d
digit_same d = grind (arith, nat_tests)

-- The two digits of a byte, taken from a number whose lowest byte it is.
low_half : (q : ℕ) → q % 256 % 16 ≡ q % 16
low_half q = omega arith

high_half : (q : ℕ) → q % 256 / 16 % 16 ≡ q / 16 % 16
high_half q = omega arith

over_one : (u : ℕ) → u / 1 ≡ u
over_one u = omega arith

pub hyphenated_is : (u : ℕ) → hyphenated_text lower (to_be_bytes w128 u) ≡ uuid_text u
unfolding by_index hex_digits uuid_text
hyphenated_is u = simp (high_half, low_half, over_one, div-div-eq-div-mul, digit_same) refl
