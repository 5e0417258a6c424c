-- A graph as the compact text of one JSON object.
use Rattle.std.specs.Prelude.{ℕ, ◌==◌, cond, List, [], ◌∷◌, ◌++◌, map, codes, decimal}
use Rattle.pud_defs.specs.declared.objects.FieldValue.{FieldValue}
use Rattle.pud_defs.specs.declared.objects.FieldValue.TheVariants.{Num, Ref}
use Rattle.pud_defs.specs.PoolGraphs.Graph.{Object, Graph}

-- texts, each after a comma
abbrev pub joined_after : List (List ℕ) → List ℕ
joined_after [] = []
joined_after (text ∷ texts) = codes "," ++ (text ++ joined_after texts)

-- texts with commas between them
abbrev pub joined : List (List ℕ) → List ℕ
joined [] = []
joined (text ∷ texts) = text ++ joined_after texts

-- `"@s"`, or `null`
abbrev pub pointer_text : (serial : ℕ) → List ℕ
pointer_text s = cond (s == 0) (codes "null") (codes "\"@" ++ (decimal s ++ codes "\""))

abbrev pub value_text : FieldValue → List ℕ
value_text (Num v) = decimal v
value_text (Ref s) = pointer_text s

-- an object and its serial: `{"fields":[..],"serial":s,"type":t}`
abbrev pub object_text : ℕ × Object → List ℕ
object_text e =
    codes "{\"fields\":[" ++ (joined (map value_text e.1.fields)
    ++ (codes "],\"serial\":" ++ (decimal e.0 ++ (codes ",\"type\":" ++ (decimal e.1.type_id ++ codes "}")))))

-- `{"next":n,"objects":[..],"root":r}`, the objects by ascending serials
unfoldable pub dump_text : Graph → List ℕ
dump_text g =
    codes "{\"next\":" ++ (decimal g.next_serial ++ (codes ",\"objects\":[" ++ (joined (map object_text g.objects)
    ++ (codes "],\"root\":" ++ (pointer_text g.root ++ codes "}")))))
