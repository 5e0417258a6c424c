-- Lemmas: the bytes of lines with their newlines make these lines again.
use Rattle.std.proofs.Common.{◌≡◌, ℕ, suc, ◌+◌, ◌*◌, ◌<◌, ◌≤◌, Bool, true, false, List, [], ◌∷◌, ◌++◌, length, inl, inr, refl, sym, ap, ◌∙◌, arith, append_assoc, length-append}
use Rattle.std.specs.Prelude.{All, get_or}
use Rattle.std.proofs.lemmas.Bool.{cases_eq}
use Rattle.std.proofs.lemmas.List.{append-nil}
use Rattle.pud_defs.specs.StateMachine.Run.{newlines, open_rest, lines_taken, lines_among}
use Rattle.pud_defs.proofs.StateMachine.Lines.{newlines-append, newlines_one, newlines_other, open_rest-newline, open_rest-other, open_rest-nothing, lines_taken-nothing, lines_taken-newline, lines_taken-other, lines_taken-end, lines_among_empty, lines_among_line}
use Rattle.puddle_cli.specs.Generated.{bytes_of}

-- ---- a prefix of the bytes closes a prefix of the lines that all bytes close

lines_step : (taken : List ℕ) (b : ℕ) → (more : List (List ℕ)) × (lines_taken (taken ++ b ∷ []) false ≡ lines_taken taken false ++ more)
lines_step taken b = elim (cases_eq b 10) [
  | inl newline ↦ (lines_among (open_rest taken ∷ []), lines_taken-newline taken b newline)
  | inr other ↦ ([], lines_taken-other taken b other ∙ sym (append-nil (lines_taken taken false)))
]

lines_front : (taken left : List ℕ) → (more : List (List ℕ)) × (lines_taken (taken ++ left) false ≡ lines_taken taken false ++ more)
lines_front taken [] = ([], ap (λ (l : List ℕ). lines_taken l false) (append-nil taken) ∙ sym (append-nil (lines_taken taken false)))
lines_front taken (b ∷ left) =
    let step = lines_step taken b in
    let rest = lines_front (taken ++ b ∷ []) left in (
      step.0 ++ rest.0,
      ap (λ (l : List ℕ). lines_taken l false) (sym (append_assoc taken (b ∷ []) left)) ∙ rest.1 ∙ ap (λ (l : List (List ℕ)). l ++ rest.0) step.1 ∙ append_assoc (lines_taken taken false) step.0 rest.0,
    )

-- ---- lines with their newlines

-- A line of at least one byte and fewer than 192, none of them a newline.
pub record IsPlainLine (line : List ℕ) : Type 0 where
  pub some : length line ≡ 0 → ⊥
  pub short : length line < 192
  pub plain : newlines line ≡ 0

-- Bytes without a newline lengthen the line under way and close no line.
open_longer : (taken line : List ℕ) → newlines line ≡ 0 → (open_rest (taken ++ line) ≡ open_rest taken ++ line) × (lines_taken (taken ++ line) false ≡ lines_taken taken false)
open_longer taken [] plain = (ap open_rest (append-nil taken) ∙ sym (append-nil (open_rest taken)), ap (λ (l : List ℕ). lines_taken l false) (append-nil taken))
open_longer taken (b ∷ line) plain =
    let all : newlines (b ∷ line) ≡ newlines (b ∷ []) + newlines line = newlines-append (b ∷ []) line in
    let other : b ≡ 10 → ⊥ = λ is. let one = newlines_one b is in absurd (omega arith) in
    let none = newlines_other b other in
    let rest = open_longer (taken ++ b ∷ []) line (omega arith) in
    let joined = append_assoc taken (b ∷ []) line in (
      ap open_rest (sym joined) ∙ rest.0 ∙ ap (λ (l : List ℕ). l ++ line) (open_rest-other taken b other) ∙ append_assoc (open_rest taken) (b ∷ []) line,
      ap (λ (l : List ℕ). lines_taken l false) (sym joined) ∙ rest.1 ∙ lines_taken-other taken b other,
    )

-- If no line is under way, the bytes of lines close these lines.
lines_after : (lines : List (List ℕ)) → ((k : ℕ) (d : List ℕ) → k < length lines → IsPlainLine (get_or lines k d)) → (taken : List ℕ) → open_rest taken ≡ []
    → (lines_taken (taken ++ bytes_of lines) false ≡ lines_taken taken false ++ lines) × (open_rest (taken ++ bytes_of lines) ≡ [])
lines_after [] plain taken closed =
    (ap (λ (l : List ℕ). lines_taken l false) (append-nil taken) ∙ sym (append-nil (lines_taken taken false)), ap open_rest (append-nil taken) ∙ closed)
lines_after (line ∷ lines) plain taken closed =
    let first = plain 0 [] (omega arith) in
    let longer = open_longer taken line first.plain in
    let before = taken ++ line in
    let under : open_rest before ≡ line = longer.0 ∙ ap (λ (l : List ℕ). l ++ line) closed in
    let rest = lines_after lines (λ k d below. plain (suc k) d (omega (arith, below))) (before ++ 10 ∷ []) (open_rest-newline before 10 refl) in
    let joined : taken ++ ((line ++ 10 ∷ []) ++ bytes_of lines) ≡ (before ++ 10 ∷ []) ++ bytes_of lines =
    sym (append_assoc taken (line ++ 10 ∷ []) (bytes_of lines)) ∙ ap (λ (l : List ℕ). l ++ bytes_of lines) (sym (append_assoc taken line (10 ∷ []))) in
    let one : lines_taken (before ++ 10 ∷ []) false ≡ lines_taken taken false ++ line ∷ [] =
    lines_taken-newline before 10 refl ∙ (λ i. longer.1 i ++ lines_among (under i ∷ [])) ∙ ap (λ (l : List (List ℕ)). lines_taken taken false ++ l) (lines_among_line line first.some) in (
      ap (λ (l : List ℕ). lines_taken l false) joined ∙ rest.0 ∙ ap (λ (l : List (List ℕ)). l ++ lines) one ∙ append_assoc (lines_taken taken false) (line ∷ []) lines,
      ap open_rest joined ∙ rest.1,
    )

-- How many bytes there are at most: 192 for each line.
length-bytes_of : (lines : List (List ℕ)) → ((k : ℕ) (d : List ℕ) → k < length lines → IsPlainLine (get_or lines k d)) → length (bytes_of lines) ≤ 192 * length lines
length-bytes_of [] plain = omega arith
length-bytes_of (line ∷ lines) plain =
    let first : length line < 192 = (plain 0 [] (omega arith)).short in
    let rest = length-bytes_of lines (λ k d below. plain (suc k) d (omega (arith, below))) in
    omega (arith, first, rest, length-append (line ++ 10 ∷ []) (bytes_of lines), length-append line (10 ∷ []))

module _ (lines : List (List ℕ)) (plain : All IsPlainLine lines) where
  made : (lines_taken (bytes_of lines) false ≡ lines) × (open_rest (bytes_of lines) ≡ [])
  made =
      let all = lines_after lines plain [] open_rest-nothing in
      (all.0 ∙ ap (λ (l : List (List ℕ)). l ++ lines) (lines_taken-nothing false), all.1)

  -- All the bytes make all the lines.
  pub lines_made : (ended : Bool) → lines_taken (bytes_of lines) ended ≡ lines
  lines_made true =
      lines_taken-end (bytes_of lines) ∙ (λ i. made.0 i ++ lines_among (made.1 i ∷ [])) ∙ ap (λ (l : List (List ℕ)). lines ++ l) (lines_among_empty [] refl) ∙ append-nil lines
  lines_made false = made.0

  -- A prefix of the bytes makes a prefix of the lines.
  lines_made_front : (taken left : List ℕ) → bytes_of lines ≡ taken ++ left → (more : List (List ℕ)) × (lines ≡ lines_taken taken false ++ more)
  lines_made_front taken left is =
      let front = lines_front taken left in
      (front.0, sym made.0 ∙ ap (λ (l : List ℕ). lines_taken l false) is ∙ front.1)

  -- Which of the lines come after those taken: none if the end was reached.
  pub lines_left : (taken left : List ℕ) (ended : Bool) → bytes_of lines ≡ taken ++ left → (ended ≡ true → left ≡ []) → (more : List (List ℕ)) × (lines ≡ lines_taken taken ended ++ more) × (ended ≡ true → more ≡ [])
  lines_left taken left true is none_left =
      let all : bytes_of lines ≡ taken = is ∙ ap (λ (l : List ℕ). taken ++ l) (none_left refl) ∙ append-nil taken in
      ([], sym (lines_made true) ∙ ap (λ (l : List ℕ). lines_taken l true) all ∙ sym (append-nil (lines_taken taken true)), λ _. refl)
  lines_left taken left false is none_left =
      let front = lines_made_front taken left is in
      (front.0, front.1, λ no. absurd (let it : false ≡ true = no in cc))

  pub few_bytes : length (bytes_of lines) ≤ 192 * length lines
  few_bytes = length-bytes_of lines plain
