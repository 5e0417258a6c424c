-- Lemmas: generated lines are short and have no newline.
use Rattle.std.proofs.Common.{◌≡◌, ℕ, zero, suc, ◌+◌, ◌/◌, ◌%◌, ◌<◌, ◌≤◌, Bool, true, false, cond, eqb, List, [], ◌∷◌, ◌++◌, length, codes, refl, arith, length-append}
use Rattle.std.specs.Prelude.{All, decimal, flat_map, ⊤}
use Rattle.std.specs.Fmt.{digits, digits_onto, digit_glyph}
use Rattle.std.specs.List.{range_with_len}
use Rattle.std.proofs.lemmas.List.Elements.{All-append}
use Rattle.pud_defs.specs.declared.machine.Reply.TheVariants as replies
use Rattle.pud_defs.specs.StateMachine.Run.{newlines}
use Rattle.pud_defs.specs.Output.Texts.{line_of, reply_text}
use Rattle.pud_defs.proofs.StateMachine.Lines.{newlines-append}
use Rattle.pud_defs.proofs.Output.Said.{newlines-reply_text}
use Rattle.gen_work.specs.GenLines.{opening_lines, object_lines, closing_lines, number_at, gen_lines}
use Rattle.puddle_cli.proofs.GeneratedLines.{IsPlainLine}

-- ---- a number in decimal digits

newlines-decimal : (n : ℕ) → newlines (decimal n) ≡ 0
unfolding reply_text
newlines-decimal n =
    let whole : newlines (line_of (codes "ok " ++ decimal n)) ≡ 1 = newlines-reply_text (replies.Num n) in
    omega (arith, whole, newlines-append (codes "ok " ++ decimal n) (10 ∷ []), newlines-append (codes "ok ") (decimal n))

longer_of : (b : Bool) (xs ys : List ℕ) (n : ℕ) → length xs ≤ n → length ys ≤ n → length (cond b xs ys) ≤ n
longer_of true xs ys n here there = here
longer_of false xs ys n here there = there

length-digits_onto : (k n : ℕ) (following : List ℕ) → length (digits_onto k 10 false n following) ≤ k + length following
length-digits_onto zero n following = omega arith
length-digits_onto (suc k) n following =
    let more = length-digits_onto k (n / 10) (digit_glyph false (n % 10) ∷ following) in
    longer_of (eqb (n / 10) 0) _ _ (suc k + length following) (omega arith) (omega (arith, more))

length-decimal : (n : ℕ) → length (decimal n) ≤ 64
unfolding digits
length-decimal n = omega (arith, length-digits_onto 64 n [])

-- ---- the lines

plain_none : All IsPlainLine []
plain_none k d below = absurd (omega arith)

plain_cons : (line : List ℕ) (lines : List (List ℕ)) → IsPlainLine line → All IsPlainLine lines → All IsPlainLine (line ∷ lines)
plain_cons line lines first rest zero d below = first
plain_cons line lines first rest (suc k) d below = rest k d (omega (arith, below))

-- Each of the lines in turn is plain.
abbrev InTurn : List (List ℕ) → Type 0
InTurn [] = ⊤
InTurn (line ∷ lines) = IsPlainLine line × InTurn lines

plain_in_turn : (lines : List (List ℕ)) → InTurn lines → All IsPlainLine lines
plain_in_turn [] plain = plain_none
plain_in_turn (line ∷ lines) plain = plain_cons line lines plain.0 (plain_in_turn lines plain.1)

number_line : (i x : ℕ) → IsPlainLine (codes "set 0 gen " ++ decimal i ++ codes ".1 " ++ decimal x)
number_line i x =
    let a = length-append (codes "set 0 gen " ++ decimal i ++ codes ".1 ") (decimal x) in
    let b = length-append (codes "set 0 gen " ++ decimal i) (codes ".1 ") in
    let c = length-append (codes "set 0 gen ") (decimal i) in
    let p = newlines-append (codes "set 0 gen " ++ decimal i ++ codes ".1 ") (decimal x) in
    let q = newlines-append (codes "set 0 gen " ++ decimal i) (codes ".1 ") in
    let r = newlines-append (codes "set 0 gen ") (decimal i) in
    record {
      some = λ none. absurd (omega (arith, a, b, c, none));
      short = omega (arith, a, b, c, length-decimal i, length-decimal x);
      plain = omega (arith, p, q, r, newlines-decimal i, newlines-decimal x);
    }

pointer_line : (i t : ℕ) → IsPlainLine (codes "set 0 gen " ++ decimal i ++ codes ".0 @" ++ decimal t)
pointer_line i t =
    let a = length-append (codes "set 0 gen " ++ decimal i ++ codes ".0 @") (decimal t) in
    let b = length-append (codes "set 0 gen " ++ decimal i) (codes ".0 @") in
    let c = length-append (codes "set 0 gen ") (decimal i) in
    let p = newlines-append (codes "set 0 gen " ++ decimal i ++ codes ".0 @") (decimal t) in
    let q = newlines-append (codes "set 0 gen " ++ decimal i) (codes ".0 @") in
    let r = newlines-append (codes "set 0 gen ") (decimal i) in
    record {
      some = λ none. absurd (omega (arith, a, b, c, none));
      short = omega (arith, a, b, c, length-decimal i, length-decimal t);
      plain = omega (arith, p, q, r, newlines-decimal i, newlines-decimal t);
    }

fixed_line : (line : List ℕ) → 0 < length line → length line < 64 → newlines line ≡ 0 → IsPlainLine line
fixed_line line some short plain = record { some = λ none. absurd (omega (arith, some, none)); short = omega (arith, short); plain = plain }

plain_opening : All IsPlainLine opening_lines
plain_opening =
    plain_in_turn opening_lines (
      fixed_line (codes "client 0 0 0") (omega arith) (omega arith) refl,
      (
        fixed_line (codes "type 1 2 0") (omega arith) (omega arith) refl,
        (
          fixed_line (codes "pool 0 gen 600") (omega arith) (omega arith) refl,
          tt,
        ),
      ),
    )

plain_object : (i x : ℕ) → All IsPlainLine (object_lines i x)
plain_object i x =
    plain_in_turn (object_lines i x) (
      fixed_line (codes "begin 0 gen") (omega arith) (omega arith) refl,
      (
        fixed_line (codes "new 0 gen 1") (omega arith) (omega arith) refl,
        (
          pointer_line i (x % i + 1),
          (
            number_line i x,
            (
              fixed_line (codes "commit 0 gen") (omega arith) (omega arith) refl,
              tt,
            ),
          ),
        ),
      ),
    )

plain_closing : All IsPlainLine closing_lines
plain_closing =
    plain_in_turn closing_lines (
      fixed_line (codes "begin 0 gen") (omega arith) (omega arith) refl,
      (
        fixed_line (codes "root 0 gen 1") (omega arith) (omega arith) refl,
        (
          fixed_line (codes "commit 0 gen") (omega arith) (omega arith) refl,
          (
            fixed_line (codes "cut 0") (omega arith) (omega arith) refl,
            (
              fixed_line (codes "client 0 0 0") (omega arith) (omega arith) refl,
              (
                fixed_line (codes "export 0 gen gen") (omega arith) (omega arith) refl,
                (
                  fixed_line (codes "import 0 copy gen 600") (omega arith) (omega arith) refl,
                  (
                    fixed_line (codes "rewrite copy 1008") (omega arith) (omega arith) refl,
                    tt,
                  ),
                ),
              ),
            ),
          ),
        ),
      ),
    )

plain_objects : (seed : ℕ) (objects : List ℕ) → All IsPlainLine (flat_map (λ i. object_lines i (number_at seed i)) objects)
plain_objects seed [] = plain_none
plain_objects seed (i ∷ objects) = All-append IsPlainLine (object_lines i (number_at seed i)) (flat_map (λ j. object_lines j (number_at seed j)) objects) (plain_object i (number_at seed i)) (plain_objects seed objects)

pub plain_lines : (seed n : ℕ) → All IsPlainLine (gen_lines seed n)
unfolding gen_lines
plain_lines seed n =
    let objects = flat_map (λ i. object_lines i (number_at seed i)) (range_with_len 1 n) in
    All-append IsPlainLine (opening_lines ++ objects) closing_lines
    (All-append IsPlainLine opening_lines objects plain_opening (plain_objects seed (range_with_len 1 n))) plain_closing
