-- Names and modes that a line gives are legal.
use Rattle.std.proofs.Common.{◌≡◌, ℕ, zero, suc, ◌+◌, ◌-◌, ◌*◌, ◌/◌, ◌%◌, ◌<◌, ◌≤◌, true, false, ◌&&◌, leb, eqb, List, [], ◌∷◌, ◌++◌, length, get_or, Some, inl, inr, refl, sym, ◌∙◌, subst, arith, length-append, le-leb, leb-true, eq-eqb, eqb-true}
use Rattle.std.specs.Prelude.{IsTrue, replicate}
use Rattle.std.specs.List.{list_all}
use Rattle.std.proofs.lemmas.Bool.{cases_lt, and_parts, and_from, or_left, or_right}
use Rattle.std.proofs.lemmas.Option.{none-some, cond_some}
use Rattle.std.proofs.lemmas.List.{length-replicate}
use Rattle.pud_defs.specs.declared.records.TheConstants.{NAME_BYTES, MAX_MODE}
use Rattle.pud_defs.specs.Formats.Modes.{is_legal_mode}
use Rattle.pud_defs.specs.Formats.Names.{IsName, is_name_byte, is_filled, is_legal_name}
use Rattle.pud_defs.specs.StateMachine.Grammar.{pool_name, is_mode_digit, mode_of_digits, pool_mode}

-- ---- names

all_zero : (n : ℕ) → list_all (λ c. eqb c 0) (replicate n 0) ≡ true
all_zero zero = refl
all_zero (suc n) = all_zero n

zeros_filled : (n : ℕ) → is_filled (replicate n 0) ≡ true
unfolding is_filled
zeros_filled zero = refl
zeros_filled (suc n) = or_right (is_name_byte 0 && is_filled (replicate n 0)) (list_all (λ c. eqb c 0) (0 ∷ replicate n 0)) (all_zero n)

-- bytes of a name with zeros after them
filled : (bytes : List ℕ) (n : ℕ) → list_all is_name_byte bytes ≡ true → is_filled (bytes ++ replicate n 0) ≡ true
unfolding is_filled
filled [] n all = zeros_filled n
filled (b ∷ bytes) n all = let parts = and_parts (is_name_byte b) (list_all is_name_byte bytes) all in or_left _ _ (and_from _ _ parts.0 (filled bytes n parts.1))

legal : (bytes : List ℕ) (n : ℕ) → 1 ≤ length bytes → list_all is_name_byte bytes ≡ true → is_legal_name (bytes ++ replicate n 0) ≡ true
unfolding is_legal_name
legal [] n some all = absurd (omega arith)
legal (b ∷ bytes) n some all = let parts = and_parts (is_name_byte b) (list_all is_name_byte bytes) all in and_from _ _ parts.0 (filled bytes n parts.1)

name_byte_fits : (b : ℕ) → is_name_byte b ≡ true → b < 256
name_byte_fits b is = elim (cases_lt b 256) [
  | inl fits ↦ fits
  | inr wide ↦ absurd (let no : false ≡ true = sym (not_name b wide) ∙ is in cc)
]
  where
    not_name : (b : ℕ) → 256 ≤ b → is_name_byte b ≡ false
    not_name b wide = grind (arith)

zero_fits : (n i : ℕ) → get_or (replicate n 0) i 0 < 256
zero_fits zero i = omega arith
zero_fits (suc n) zero = omega arith
zero_fits (suc n) (suc i) = zero_fits n i

byte_fits : (bytes : List ℕ) (n i : ℕ) → list_all is_name_byte bytes ≡ true → get_or (bytes ++ replicate n 0) i 0 < 256
byte_fits [] n i all = zero_fits n i
byte_fits (b ∷ bytes) n zero all = name_byte_fits b (and_parts (is_name_byte b) (list_all is_name_byte bytes) all).0
byte_fits (b ∷ bytes) n (suc i) all = byte_fits bytes n i (and_parts (is_name_byte b) (list_all is_name_byte bytes) all).1

-- the name that a line gives is legal
pub pool_name-legal : (bytes name : List ℕ) → pool_name bytes ≡ Some name → IsName name × IsTrue (is_legal_name name)
unfolding pool_name
pool_name-legal bytes name e =
    let parts = cond_some (leb 1 (length bytes) && leb (length bytes) NAME_BYTES && list_all is_name_byte bytes) (bytes ++ replicate (NAME_BYTES - length bytes) 0) name e in
    let all = and_parts (leb 1 (length bytes) && leb (length bytes) NAME_BYTES) (list_all is_name_byte bytes) parts.0 in
    let bounds = and_parts (leb 1 (length bytes)) (leb (length bytes) NAME_BYTES) all.0 in
    let some = leb-true 1 (length bytes) bounds.0 in
    let few = leb-true (length bytes) NAME_BYTES bounds.1 in
    subst (λ n. IsName n × IsTrue (is_legal_name n)) parts.1
    (record { sixteen = omega (arith, length-append bytes (replicate (NAME_BYTES - length bytes) 0), length-replicate {A = ℕ} (NAME_BYTES - length bytes) 0); bytes = λ i. byte_fits bytes (NAME_BYTES - length bytes) i all.1 }, legal bytes (NAME_BYTES - length bytes) some all.1)

-- ---- modes

record IsDigit (b : ℕ) : Type 0 where
  low : 48 ≤ b
  high : b ≤ 54
  even : (b % 2) ≡ 0

digit : (b : ℕ) → is_mode_digit b ≡ true → IsDigit b
digit b is =
    let parts = and_parts (leb 48 b && leb b 54) (eqb (b % 2) 0) is in
    let bounds = and_parts (leb 48 b) (leb b 54) parts.0 in
    record { low = leb-true 48 b bounds.0; high = leb-true b 54 bounds.1; even = eqb-true (b % 2) 0 parts.1 }

digits_legal : (a b c : ℕ) → IsDigit a → IsDigit b → IsDigit c → is_legal_mode ((a - 48) * 64 + (b - 48) * 8 + (c - 48)) ≡ true
digits_legal a b c x y z =
    let v = (a - 48) * 64 + (b - 48) * 8 + (c - 48) in
    let xl = x.low in let xh = x.high in let xe = x.even in
    let yl = y.low in let yh = y.high in let ye = y.even in
    let zl = z.low in let zh = z.high in let ze = z.even in
    and_from _ _ (and_from _ _ (and_from _ _
    (le-leb v MAX_MODE (omega arith))
    (eq-eqb (v % 2) 0 (omega arith)))
    (eq-eqb (v / 8 % 2) 0 (omega arith)))
    (eq-eqb (v / 64 % 2) 0 (omega arith))

mode_of_digits-legal : (a b c mode : ℕ) → mode_of_digits a b c ≡ Some mode → IsTrue (is_legal_mode mode)
mode_of_digits-legal a b c mode e =
    let parts = cond_some (is_mode_digit a && is_mode_digit b && is_mode_digit c) ((a - 48) * 64 + (b - 48) * 8 + (c - 48)) mode e in
    let two = and_parts (is_mode_digit a && is_mode_digit b) (is_mode_digit c) parts.0 in
    let one = and_parts (is_mode_digit a) (is_mode_digit b) two.0 in
    subst (λ m. IsTrue (is_legal_mode m)) parts.1 (digits_legal a b c (digit a one.0) (digit b one.1) (digit c two.1))

-- the mode that a line gives is legal
pub pool_mode-legal : (bytes : List ℕ) (mode : ℕ) → pool_mode bytes ≡ Some mode → IsTrue (is_legal_mode mode)
unfolding pool_mode
pool_mode-legal [] mode e = absurd (none-some mode e)
pool_mode-legal (a ∷ []) mode e = absurd (none-some mode e)
pool_mode-legal (a ∷ b ∷ []) mode e = absurd (none-some mode e)
pool_mode-legal (a ∷ b ∷ c ∷ []) mode e = mode_of_digits-legal a b c mode e
pool_mode-legal (a ∷ b ∷ c ∷ d ∷ bytes) mode e = absurd (none-some mode e)
