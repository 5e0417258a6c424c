-- Texts of identifiers.
use Rattle.std.proofs.Common.{◌≡◌, refl}
use Rattle.std.specs.Prelude.{codes}
use Rattle.pud_defs.specs.Formats.Identifiers.{puddle_uuid, hex_digits, uuid_text}

-- machine 7, number 1
lowest_number : uuid_text (puddle_uuid 7 1) ≡ codes "00000000-0000-0007-0000-000000000001"
unfolding hex_digits uuid_text
lowest_number = refl

-- each digit in its place
every_digit : uuid_text (puddle_uuid 0x0123456789abcdef 0xfedcba9876543210) ≡ codes "01234567-89ab-cdef-fedc-ba9876543210"
unfolding hex_digits uuid_text
every_digit = refl

-- no bit is forced
greatest : uuid_text (puddle_uuid 0xffffffffffffffff 0xffffffffffffffff) ≡ codes "ffffffff-ffff-ffff-ffff-ffffffffffff"
unfolding hex_digits uuid_text
greatest = refl
