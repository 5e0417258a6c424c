-- Parts of lines: how long they are, where an address is in an identifier, and texts that are added one by one.
use Rattle.std.proofs.Common.{◌≡◌, ℕ, List, ◌++◌, length, take, drop, refl, ap, ◌∙◌, append_assoc}
use Rattle.pud_defs.specs.Formats.Identifiers.{hex_digits, uuid_text}
use Rattle.pud_defs.specs.Output.LayoutText.{address_text}

pub length_uuid_text : (u : ℕ) → length (uuid_text u) ≡ 36
unfolding uuid_text hex_digits
length_uuid_text u = refl

-- The last group of an identifier is the address with the same number.
pub last_group : (u : ℕ) → take 12 (drop 24 (uuid_text u)) ≡ address_text u
unfolding uuid_text hex_digits
last_group u = refl

-- Four texts that are added one after the other are the same as all four added at once.
pub four_added : (old a b c d : List ℕ) → old ++ a ++ b ++ c ++ d ≡ old ++ (a ++ b ++ c ++ d)
four_added old a b c d = ap (λ front. front ++ d) (ap (λ front. front ++ c) (append_assoc old a b) ∙ append_assoc old (a ++ b) c) ∙ append_assoc old (a ++ b ++ c) d
