-- The text of a graph is one line: no byte of it is a newline.
use Rattle.std.proofs.Common.{◌≡◌, ℕ, zero, suc, ◌+◌, ◌/◌, ◌%◌, ◌≤◌, true, false, eqb, cond, List, [], ◌∷◌, ◌++◌, map, not, refl, ap, ap₂, ◌∙◌, arith, ne_eqb}
use Rattle.std.specs.Prelude.{codes, decimal}
use Rattle.std.specs.Fmt.{digits, digits_onto, digit_glyph}
use Rattle.std.specs.List.{AllByRecursion}
use Rattle.std.proofs.lemmas.Bool.{cond-true, lt-ltb}
use Rattle.std.proofs.lemmas.List.Elements.{filter-append}
use Rattle.pud_defs.specs.declared.objects.FieldValue.{FieldValue}
use Rattle.pud_defs.specs.declared.objects.FieldValue.TheVariants.{Num, Ref}
use Rattle.pud_defs.specs.PoolGraphs.Graph.{Object, Graph}
use Rattle.pud_defs.specs.Output.Texts.{in_one_line}
use Rattle.pud_defs.specs.Output.DumpText.{joined_after, joined, pointer_text, value_text, object_text, dump_text}

-- ---- digits

-- a byte from `0` to `9`
pub record IsDigit (byte : ℕ) : Type 0 where
  pub low : 48 ≤ byte
  pub high : byte ≤ 57

digit : (n : ℕ) → IsDigit (digit_glyph false (n % 10))
digit n = rw (cond-true _ (48 + n % 10) (87 + n % 10) (lt-ltb (n % 10) 10 (omega arith))) (record { low = omega arith; high = omega arith })

digits_in_front : (k n : ℕ) (following : List ℕ) → AllByRecursion IsDigit following → AllByRecursion IsDigit (digits_onto k 10 false n following)
digits_in_front zero n following all = all
digits_in_front (suc k) n following all =
    let here : ℕ = digit_glyph false (n % 10) in
    elim (eqb (n / 10) 0) as (λ b. AllByRecursion IsDigit (cond b (here ∷ following) (digits_onto k 10 false (n / 10) (here ∷ following)))) [
      | true ↦ (digit n, all)
      | false ↦ digits_in_front k (n / 10) (here ∷ following) (digit n, all)
    ]

-- a number is written with digits only
pub decimal-digits : (n : ℕ) → AllByRecursion IsDigit (decimal n)
unfolding digits
decimal-digits n = digits_in_front 64 n [] tt

-- ---- one line

abbrev IsOneLine : List ℕ → Type 0
IsOneLine text = in_one_line text ≡ text

append_in_line : (xs ys : List ℕ) → IsOneLine xs → IsOneLine ys → IsOneLine (xs ++ ys)
append_in_line xs ys front following = filter-append (λ b. not (eqb b 10)) xs ys ∙ ap₂ (λ (a b : List ℕ). a ++ b) front following

digits_in_line : (ds : List ℕ) → AllByRecursion IsDigit ds → IsOneLine ds
digits_in_line [] all = refl
digits_in_line (d ∷ ds) all =
    let low = all.0.low in
    ap (λ b. cond (not b) (d ∷ in_one_line ds) (in_one_line ds)) (ne_eqb d 10 (λ e. omega arith)) ∙ ap (λ (l : List ℕ). d ∷ l) (digits_in_line ds all.1)

number_in_line : (n : ℕ) (following : List ℕ) → IsOneLine following → IsOneLine (decimal n ++ following)
number_in_line n following = append_in_line (decimal n) following (digits_in_line (decimal n) (decimal-digits n))

pointer_in_line : (s : ℕ) → IsOneLine (pointer_text s)
pointer_in_line s = elim (eqb s 0) as (λ b. IsOneLine (cond b (codes "null") (codes "\"@" ++ (decimal s ++ codes "\"")))) [
  | true ↦ refl
  | false ↦ append_in_line (codes "\"@") (decimal s ++ codes "\"") refl (number_in_line s (codes "\"") refl)
]

field_in_line : (v : FieldValue) → IsOneLine (value_text v)
field_in_line (Num v) = digits_in_line (decimal v) (decimal-digits v)
field_in_line (Ref s) = pointer_in_line s

module _ {X : Type 0} (text : X → List ℕ) (each : (x : X) → IsOneLine (text x)) where
  joined_after_in_line : (xs : List X) → IsOneLine (joined_after (map text xs))
  joined_after_in_line [] = refl
  joined_after_in_line (x ∷ xs) =
      append_in_line (codes ",") (text x ++ joined_after (map text xs)) refl (append_in_line (text x) (joined_after (map text xs)) (each x) (joined_after_in_line xs))

  joined_in_line : (xs : List X) → IsOneLine (joined (map text xs))
  joined_in_line [] = refl
  joined_in_line (x ∷ xs) = append_in_line (text x) (joined_after (map text xs)) (each x) (joined_after_in_line xs)

object_in_line : (e : ℕ × Object) → IsOneLine (object_text e)
object_in_line e =
    let type_id : List ℕ = decimal e.1.type_id ++ codes "}" in
    let serial : List ℕ = decimal e.0 ++ (codes ",\"type\":" ++ type_id) in
    let fields : List ℕ = joined (map value_text e.1.fields) ++ (codes "],\"serial\":" ++ serial) in
    append_in_line (codes "{\"fields\":[") fields refl
    (append_in_line (joined (map value_text e.1.fields)) (codes "],\"serial\":" ++ serial) (joined_in_line value_text field_in_line e.1.fields)
    (append_in_line (codes "],\"serial\":") serial refl
    (number_in_line e.0 (codes ",\"type\":" ++ type_id) (append_in_line (codes ",\"type\":") type_id refl (number_in_line e.1.type_id (codes "}") refl)))))

pub in_one_line-dump_text : (g : Graph) → in_one_line (dump_text g) ≡ dump_text g
unfolding dump_text
in_one_line-dump_text g =
    let root : List ℕ = pointer_text g.root ++ codes "}" in
    let objects : List ℕ = joined (map object_text g.objects) ++ (codes "],\"root\":" ++ root) in
    append_in_line (codes "{\"next\":") (decimal g.next_serial ++ (codes ",\"objects\":[" ++ objects)) refl
    (number_in_line g.next_serial (codes ",\"objects\":[" ++ objects)
    (append_in_line (codes ",\"objects\":[") objects refl
    (append_in_line (joined (map object_text g.objects)) (codes "],\"root\":" ++ root) (joined_in_line object_text object_in_line g.objects)
    (append_in_line (codes "],\"root\":") root refl (append_in_line (pointer_text g.root) (codes "}") (pointer_in_line g.root) refl)))))
