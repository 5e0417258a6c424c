-- The name of a file is ASCII.
use Rattle.std.proofs.Common.{◌≡◌, inl, inr, ℕ, ◌<◌, ◌≤◌, Bool, true, false, not, cond, ◌&&◌, ◌||◌, eqb, List, [], ◌∷◌, refl, sym, ap, subst, ◌∙◌, arith, ne_eqb}
use Rattle.std.specs.List.{list_all}
use Rattle.std.specs.Str.{IsAscii, IsUtf8}
use Rattle.std.proofs.lemmas.Bool.{cases_lt, cases_Bool, and_parts}
use Rattle.std.proofs.lemmas.Str.{IsUtf8-from_ascii}
use Rattle.std.proofs.lemmas.Str.Ascii.{IsAscii-nil, IsAscii-cons}
use Rattle.pud_defs.specs.Formats.Names.{is_name_byte, is_filled, is_legal_name}
use Rattle.pud_defs.specs.Output.Listing.{name_text}

name_byte_low : (b : ℕ) → is_name_byte b ≡ true → b < 128
name_byte_low b is = elim (cases_lt b 128) [
  | inl low ↦ low
  | inr high ↦ absurd (let it : false ≡ true = sym (not_name b high) ∙ is in cc)
]
  where
    not_name : (b : ℕ) → 128 ≤ b → is_name_byte b ≡ false
    not_name b high = grind (arith)

name_byte_shows : (b : ℕ) → is_name_byte b ≡ true → eqb b 0 ≡ false
name_byte_shows b is = ne_eqb b 0 (λ zero. let no : is_name_byte 0 ≡ true = ap is_name_byte (sym zero) ∙ is in cc)

-- The text of a name shows none of its zeros.
zeros_hide : (bytes : List ℕ) → list_all (λ c. eqb c 0) bytes ≡ true → name_text bytes ≡ []
zeros_hide [] all = refl
zeros_hide (b ∷ bytes) all =
    let parts = and_parts (eqb b 0) (list_all (λ c. eqb c 0) bytes) all in
    ap (λ t. cond (not t) (b ∷ name_text bytes) (name_text bytes)) parts.0 ∙ zeros_hide bytes parts.1

shown_front : (b : ℕ) (bytes : List ℕ) → is_name_byte b ≡ true → IsAscii (name_text bytes) → IsAscii (name_text (b ∷ bytes))
shown_front b bytes is rest =
    subst IsAscii (sym (ap (λ t. cond (not t) (b ∷ name_text bytes) (name_text bytes)) (name_byte_shows b is))) (IsAscii-cons b (name_text bytes) (name_byte_low b is) rest)

-- If one of two tests holds and the first one does not, the second one does.
either : (a b : Bool) → (a || b) ≡ true → a ≡ false → b ≡ true
either a b holds first = sym (ap (λ x. x || b) first) ∙ holds

filled_shows : (bytes : List ℕ) → is_filled bytes ≡ true → IsAscii (name_text bytes)
unfolding is_filled
filled_shows [] filled = IsAscii-nil
filled_shows (b ∷ bytes) filled = elim (cases_Bool (is_name_byte b && is_filled bytes)) [
  | inl named ↦ let parts = and_parts (is_name_byte b) (is_filled bytes) named in shown_front b bytes parts.0 (filled_shows bytes parts.1)
  | inr none ↦ subst IsAscii (sym (zeros_hide (b ∷ bytes) (either (is_name_byte b && is_filled bytes) (list_all (λ c. eqb c 0) (b ∷ bytes)) filled none))) IsAscii-nil
]

pub IsUtf8-name_text : (name : List ℕ) → is_legal_name name ≡ true → IsUtf8 (name_text name)
unfolding is_legal_name
IsUtf8-name_text [] legal = absurd (cc)
IsUtf8-name_text (b ∷ bytes) legal =
    let parts = and_parts (is_name_byte b) (is_filled bytes) legal in
    IsUtf8-from_ascii (name_text (b ∷ bytes)) (shown_front b bytes parts.0 (filled_shows bytes parts.1))
