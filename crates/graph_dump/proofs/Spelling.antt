-- Pointers, lists of fields and objects as JSON values, and the text of these values.
use Rattle.std.proofs.Common.{◌≡◌, ◌≢◌, ℕ, true, false, cond, List, [], ◌∷◌, ◌++◌, map, ◌||◌, String, string_bytes, refl, sym, ap, ap₂, ◌∙◌, arith, rules, ne_eqb, append_assoc}
use Rattle.std.specs.Prelude.{codes, decimal}
use Rattle.std.specs.List.{AllByRecursion}
use Rattle.std.specs.declared.alloc.Global.{Global}
use Rattle.std.proofs.lemmas.Bool.Decides.{nat_tests}
use Rattle.json.specs.Print.{escape_byte, escape, quoted}
use Rattle.serde_json.specs.Data as json_data
use Rattle.serde_json.specs.View.{view, items_of}
use Rattle.serde_json.specs.Written.{has_float, items_have_float, compact_text, items_text}
use Rattle.serde_json.specs.declared.value.Value.{Value, the_lemmas}
use Rattle.serde_json.specs.declared.value.Value as value
use Rattle.serde_json.proofs.OnLiterals.{serde_json_on_literals}
use Rattle.pud_defs.specs.PoolGraphs.Graph.{Object}
use Rattle.pud_defs.specs.Output.DumpText.{joined_after, joined, pointer_text, value_text, object_text}
use Rattle.pud_defs.proofs.Output.DumpText.{IsDigit, decimal-digits}
use Rattle.graph_dump.specs.Spelled.{Spells, SpellsEach}

-- ---- pointers

plain_digit : (d : ℕ) → IsDigit d → escape_byte d ≡ d ∷ []
unfolding escape_byte
plain_digit d is = let low = is.low in let high = is.high in grind (arith, nat_tests)

-- Digits need no escape in a string.
escape-digits : (ds : List ℕ) → AllByRecursion IsDigit ds → escape ds ≡ ds
escape-digits [] all = refl
escape-digits (d ∷ ds) all = ap₂ (λ (a b : List ℕ). a ++ b) (plain_digit d all.0) (escape-digits ds all.1)

quoted_pointer : (s : ℕ) → s ≢ 0 → quoted (codes "@" ++ decimal s) ≡ pointer_text s
unfolding serde_json_on_literals
quoted_pointer s some =
    ap (λ (l : List ℕ). 34 ∷ 64 ∷ (l ++ 34 ∷ [])) (escape-digits (decimal s) (decimal-digits s))
    ∙ sym (ap (λ b. cond b (codes "null") (codes "\"@" ++ (decimal s ++ codes "\""))) (ne_eqb s 0 some))

pub Spells-pointer : (serial : ℕ) (s : String Global) → serial ≢ 0 → string_bytes s ≡ codes "@" ++ decimal serial → Spells (pointer_text serial) (value.String s)
Spells-pointer serial s some bytes =
    let viewed : view (value.String s) ≡ json_data.string (string_bytes s) = search (rules, the_lemmas) in
    record { floatless = ap has_float viewed; text_is = ap compact_text viewed ∙ ap quoted bytes ∙ quoted_pointer serial some }

-- ---- lists

pub SpellsEach-more : (texts : List (List ℕ)) (values : List Value) (text : List ℕ) (v : Value) → SpellsEach texts values → Spells text v → SpellsEach (texts ++ text ∷ []) (values ++ v ∷ [])
SpellsEach-more [] [] text v each last = (last, tt)
SpellsEach-more [] (w ∷ values) text v each last = absurd each
SpellsEach-more (t ∷ texts) [] text v each last = absurd each
SpellsEach-more (t ∷ texts) (w ∷ values) text v each last = (each.0, SpellsEach-more texts values text v each.1 last)

-- Values that spell texts have no float.
items_floatless : (texts : List (List ℕ)) (values : List Value) → SpellsEach texts values → items_have_float (items_of (map view values)) ≡ false
items_floatless [] [] each = refl
items_floatless [] (v ∷ values) each = absurd each
items_floatless (t ∷ texts) [] each = absurd each
items_floatless (t ∷ texts) (v ∷ values) each = ap₂ (λ a b. a || b) each.0.floatless (items_floatless texts values each.1)

-- The rest of a list is written as its texts, with a comma before each, and the closing bracket.
items_after : (texts : List (List ℕ)) (values : List Value) → SpellsEach texts values → items_text true (items_of (map view values)) ≡ joined_after texts ++ codes "]"
items_after [] [] each = refl
items_after [] (v ∷ values) each = absurd each
items_after (t ∷ texts) [] each = absurd each
items_after (t ∷ texts) (v ∷ values) each =
    ap (λ (l : List ℕ). 44 ∷ l) (ap₂ (λ (a b : List ℕ). a ++ b) each.0.text_is (items_after texts values each.1) ∙ sym (append_assoc t (joined_after texts) (codes "]")))

items_joined : (texts : List (List ℕ)) (values : List Value) → SpellsEach texts values → items_text false (items_of (map view values)) ≡ joined texts ++ codes "]"
items_joined [] [] each = refl
items_joined [] (v ∷ values) each = absurd each
items_joined (t ∷ texts) [] each = absurd each
items_joined (t ∷ texts) (v ∷ values) each =
    ap₂ (λ (a b : List ℕ). a ++ b) each.0.text_is (items_after texts values each.1) ∙ sym (append_assoc t (joined_after texts) (codes "]"))

-- ---- objects

abbrev pub object_data : (serial type_id : ℕ) → json_data.Items → json_data.Data
object_data serial type_id fields =
    json_data.object (json_data.member (codes "fields") (json_data.array fields) (json_data.member (codes "serial") (json_data.number (json_data.unsigned serial)) (json_data.member (codes "type") (json_data.number (json_data.unsigned type_id)) json_data.no_members)))

module _ (serial : ℕ) (o : Object) (values : List Value) (each : SpellsEach (map value_text o.fields) values) where
  object_floatless : has_float (object_data serial o.type_id (items_of (map view values))) ≡ false
  object_floatless = ap (λ b. b || false) (items_floatless (map value_text o.fields) values each)

  object_spelled : compact_text (object_data serial o.type_id (items_of (map view values))) ≡ object_text (serial, o)
  unfolding serde_json_on_literals
  object_spelled =
      let texts : List (List ℕ) = map value_text o.fields in
      let following : List ℕ = codes ",\"serial\":" ++ (decimal serial ++ (codes ",\"type\":" ++ (decimal o.type_id ++ codes "}"))) in
      ap (λ (l : List ℕ). codes "{\"fields\":[" ++ (l ++ following)) (items_joined texts values each) ∙ ap (λ (l : List ℕ). codes "{\"fields\":[" ++ l) (append_assoc (joined texts) (codes "]") following)

  -- The value of an object with these fields spells the object's text.
  pub Spells-object : (v : Value) → view v ≡ object_data serial o.type_id (items_of (map view values)) → Spells (object_text (serial, o)) v
  Spells-object v is = record { floatless = ap has_float is ∙ object_floatless; text_is = ap compact_text is ∙ object_spelled }
