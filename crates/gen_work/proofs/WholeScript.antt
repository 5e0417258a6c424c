-- The lines of a generated script that are to come, from each of its lines on.
use Rattle.std.proofs.Common.{◌≡◌, ◌∙◌, ℕ, zero, suc, ◌+◌, ◌-◌, ◌*◌, ◌<◌, ◌≤◌, List, [], ◌∷◌, ◌++◌, length, take, drop, Option, Some, None, refl, sym, ap, ap₂, arith, add-one, append_assoc, get_or}
use Rattle.std.specs.Prelude.{IfNone, IfSome, flat_map, slice_get, unwrap_or}
use Rattle.std.specs.List.{range_with_len}
use Rattle.std.proofs.lemmas.List.{append-nil, drop-drop, drop_at, drop_all, drop_more, drop-append-le, length-append, length-drop, get_or-drop}
use Rattle.std.proofs.lemmas.Option.{slice_get-get_or, slice_get_within, get_or_from_slice_get}
use Rattle.std.proofs.lemmas.Bool.Decides.{nat_tests}
use Rattle.gen_work.specs.GenLines.{next_number, number_at, opening_lines, object_lines, closing_lines, gen_lines, line_count}
use Rattle.gen_work.specs.Parts.{part_lines, parts_after, to_come, lines_before}

pub number_at-next : (seed i : ℕ) → number_at seed (i + 1) ≡ next_number (number_at seed i)
unfolding number_at
number_at-next seed i = ap (number_at seed) (add-one i)

-- ---- parts

object_part : (n i x : ℕ) → i < n → part_lines n (i + 1) x ≡ object_lines (i + 1) x
object_part n i x within = grind (arith, nat_tests)

last_part : (n i x : ℕ) → i ≡ n → part_lines n (i + 1) x ≡ closing_lines
last_part n i x is = grind (arith, nat_tests)

pub parts_have_lines : (n i x : ℕ) → 0 < length (part_lines n i x)
parts_have_lines n i x = grind (arith, nat_tests)

lines_before-next : (n i x : ℕ) → i ≤ n → lines_before (i + 1) ≡ lines_before i + length (part_lines n i x)
lines_before-next n i x within = grind (arith, nat_tests)

parts_after-more : (parts n i x : ℕ) → parts_after (parts + 1) n i x ≡ part_lines n (i + 1) (next_number x) ++ parts_after parts n (i + 1) (next_number x)
unfolding parts_after
parts_after-more parts n i x = ap (λ p. parts_after p n i x) (add-one parts)

-- after each part but the last comes the next part
parts_after-next : (n i x : ℕ) → i ≤ n → parts_after (n + 1 - i) n i x ≡ to_come n (i + 1) (next_number x) 0
parts_after-next n i x within =
    let count : n + 1 - i ≡ n + 1 - (i + 1) + 1 = omega arith in
    ap (λ parts. parts_after parts n i x) count ∙ parts_after-more (n + 1 - (i + 1)) n i x

-- if all lines of a part are done, the next part is to come
pub to_come-next : (n i x step : ℕ) → i ≤ n → length (part_lines n i x) ≤ step → to_come n (i + 1) (next_number x) 0 ≡ to_come n i x step
to_come-next n i x step within done =
    sym (ap (λ lines. lines ++ parts_after (n + 1 - i) n i x) (drop_all step (part_lines n i x) done) ∙ parts_after-next n i x within)

-- after the last part nothing is to come
pub to_come-end : (n i x step : ℕ) → n < i → length (part_lines n i x) ≤ step → to_come n i x step ≡ []
unfolding parts_after
to_come-end n i x step last done =
    let none : n + 1 - i ≡ 0 = omega arith in
    ap₂ (λ (lines : List (List ℕ)) parts. lines ++ parts_after parts n i x) (drop_all step (part_lines n i x) done) none

-- the next line is the part's first line that is not done
pub to_come-line : (n i x step : ℕ) (line : List ℕ) → slice_get (part_lines n i x) step ≡ Some line → to_come n i x step ≡ line ∷ to_come n i x (step + 1)
to_come-line n i x step line is =
    let front : drop step (part_lines n i x) ≡ get_or (part_lines n i x) step line ∷ drop (step + 1) (part_lines n i x) =
    drop_more (part_lines n i x) step line (slice_get_within (part_lines n i x) step line is) in
    ap (λ lines. lines ++ parts_after (n + 1 - i) n i x) (front ∙ ap (λ l. l ∷ drop (step + 1) (part_lines n i x)) (get_or_from_slice_get (part_lines n i x) step line line is))

-- ---- the whole script

module _ (seed : ℕ) where
  abbrev lines_of : ℕ → List (List ℕ)
  lines_of i = object_lines i (number_at seed i)

  -- after part i come the objects from the next one on, and then the last part
  following : (n k i : ℕ) → i + k ≡ n → parts_after (k + 1) n i (number_at seed i) ≡ flat_map lines_of (range_with_len (i + 1) k) ++ closing_lines
  unfolding parts_after
  following n zero i is = append-nil _ ∙ last_part n i (next_number (number_at seed i)) (omega arith)
  following n (suc k) i is =
      parts_after-more (suc k) n i (number_at seed i)
      ∙ ap (λ x. part_lines n (i + 1) x ++ parts_after (suc k) n (i + 1) x) (sym (number_at-next seed i))
      ∙ ap₂ (λ (lines : List (List ℕ)) others. lines ++ others) (object_part n i (number_at seed (i + 1)) (omega arith))
      (ap (λ parts. parts_after parts n (i + 1) (number_at seed (i + 1))) (sym (add-one k)) ∙ following n k (i + 1) (omega arith))
      ∙ sym (append_assoc (lines_of (i + 1)) (flat_map lines_of (range_with_len (i + 1 + 1) k)) closing_lines)

  whole : (n : ℕ) → gen_lines seed n ≡ to_come n 0 (number_at seed 0) 0
  unfolding gen_lines
  whole n =
      let count : n + 1 - 0 ≡ n + 1 = omega arith in
      sym (ap (λ parts. opening_lines ++ parts_after parts n 0 (number_at seed 0)) count ∙ ap (λ lines. opening_lines ++ lines) (following n n 0 (omega arith)))

  -- the script without the lines before part i is what is to come at the start of part i
  from_part : (n i : ℕ) → i ≤ n + 1 → drop (lines_before i) (gen_lines seed n) ≡ to_come n i (number_at seed i) 0
  from_part n zero within = whole n
  from_part n (suc i) within =
      ap (λ part. drop (lines_before part) (gen_lines seed n)) (sym (add-one i))
      ∙ ap (λ count. drop count (gen_lines seed n)) (lines_before-next n i (number_at seed i) (omega arith))
      ∙ sym (drop-drop (length (part_lines n i (number_at seed i))) (lines_before i) (gen_lines seed n))
      ∙ ap (drop (length (part_lines n i (number_at seed i)))) (from_part n i (omega arith))
      ∙ drop_at (part_lines n i (number_at seed i)) (parts_after (n + 1 - i) n i (number_at seed i)) (length (part_lines n i (number_at seed i))) refl
      ∙ parts_after-next n i (number_at seed i) (omega arith)
      ∙ ap (λ x. to_come n (i + 1) x 0) (sym (number_at-next seed i))
      ∙ ap (λ part. to_come n part (number_at seed part) 0) (add-one i)

  -- the script without the lines before a line of part i is what is to come at that line
  pub from_line : (n i step : ℕ) → i ≤ n + 1 → step ≤ length (part_lines n i (number_at seed i))
      → drop (lines_before i + step) (gen_lines seed n) ≡ to_come n i (number_at seed i) step
  from_line n i step within known =
      sym (drop-drop step (lines_before i) (gen_lines seed n)) ∙ ap (drop step) (from_part n i within)
      ∙ drop-append-le step (part_lines n i (number_at seed i)) (parts_after (n + 1 - i) n i (number_at seed i)) known

  length_objects : (a k : ℕ) → length (flat_map lines_of (range_with_len a k)) ≡ 5 * k
  length_objects a zero = refl
  length_objects a (suc k) = length-append (lines_of a) (flat_map lines_of (range_with_len (a + 1) k)) ∙ omega (arith, length_objects (a + 1) k)

  pub length-gen_lines : (n : ℕ) → length (gen_lines seed n) ≡ line_count n
  unfolding gen_lines
  length-gen_lines n = omega (arith, length_objects 1 n, length-append (opening_lines ++ flat_map lines_of (range_with_len 1 n)) closing_lines)

-- the line with index i is the first line of the rest from i on
slice_get-front : (lines : List (List ℕ)) (i : ℕ) (line : List ℕ) (following : List (List ℕ)) → i < length lines → drop i lines ≡ line ∷ following → slice_get lines i ≡ Some line
slice_get-front lines i line following known is =
    let here : i + 0 ≡ i = omega arith in
    slice_get-get_or lines i line known
    ∙ ap Some (sym (ap (λ k. get_or lines k line) here) ∙ sym (get_or-drop i lines 0 line) ∙ ap (λ rest. get_or rest 0 line) is)

-- the line that was written is the line with index i
pub line_written : (lines left following : List (List ℕ)) (i : ℕ) (out : List ℕ) (written : Option ℕ) → i < length lines → left ≡ drop i lines
    → IfSome written (λ bytes. left ≡ take bytes out ∷ following) → IfNone written (left ≡ []) → slice_get lines i ≡ Some (take (unwrap_or written 0) out)
line_written lines left following i out (Some bytes) known is line end = slice_get-front lines i (take bytes out) following known (sym is ∙ line)
line_written lines left following i out None known is line end = absurd (omega (arith, length-drop i lines, ap length (sym is ∙ end)))
