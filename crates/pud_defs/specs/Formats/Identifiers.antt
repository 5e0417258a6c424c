-- The numbers that identifiers are made of, the identifiers of pools and puddles, and their text.
use Rattle.std.specs.Prelude.{ℕ, zero, suc, ◌+◌, ◌*◌, ◌/◌, ◌%◌, ◌^◌, Bool, ◌&&◌, nat_le, nat_lt, if◌then◌else◌, List, [], ◌∷◌, ◌++◌}
use Rattle.pud_defs.specs.declared.layout.TheConstants.{NUMBER_LIMIT}

-- the value may be the next number to be given out, such as the next UUID number or serial: it is from 1 to 2^63
abbrev pub is_number : ℕ → Bool
is_number v = nat_le 1 v && nat_le v NUMBER_LIMIT

-- the machine id above the UUID number, each of 64 bits; no version or variant bits are forced in
abbrev pub puddle_uuid : ℕ → ℕ → ℕ
puddle_uuid id n = id * 2 ^ 64 + n

-- the code of a digit: `0` to `9`, then `a` to `f`
abbrev pub hex_digit : ℕ → ℕ
hex_digit d = if nat_lt d 10 then 48 + d else 87 + d

-- `count` hexadecimal digits of a number, the highest first; its lowest `low` digits are left out
unfoldable pub hex_digits : (count low u : ℕ) → List ℕ
hex_digits zero low u = []
hex_digits (suc n) low u = hex_digit (u / 16 ^ (low + n) % 16) ∷ hex_digits n low u

abbrev pub hyphen : ℕ
hyphen = 45

-- a number of 128 bits as 32 lower-case hexadecimal digits, in groups of 8-4-4-4-12 that hyphens join
unfoldable pub uuid_text : ℕ → List ℕ
uuid_text u = hex_digits 8 24 u ++ (hyphen ∷ (hex_digits 4 20 u ++ (hyphen ∷ (hex_digits 4 16 u ++ (hyphen ∷ (hex_digits 4 12 u ++ (hyphen ∷ hex_digits 12 0 u)))))))
