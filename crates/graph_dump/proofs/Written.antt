-- Whatever was read, what is written is one line.
use Rattle.std.proofs.Common.{◌≡◌, ℕ, Bool, true, false, List, [], ◌∷◌, ◌++◌, map, refl, sym, ap, ◌∙◌, append_assoc, append-nil}
use Rattle.std.specs.Prelude.{codes, decimal}
use Rattle.std.proofs.lemmas.List.{map-append}
use Rattle.pud_defs.specs.PoolGraphs.Graph.{Object, Graph}
use Rattle.pud_defs.specs.Output.DumpText.{dump_text, joined, object_text, pointer_text}
use Rattle.pud_defs.specs.Output.Texts.{in_one_line}
use Rattle.pud_defs.proofs.Output.DumpText.{in_one_line-dump_text}
use Rattle.graph_dump.specs.Written.{AppendsObject, AppendsObjects}
use Rattle.graph_dump.proofs.Joining.{joined_from, joined_from-more}
use Rattle.graph_dump.proofs.Dumped.{text_of-pieces, dump_text-parts}

-- The texts of some objects were appended. More texts may follow.
pub record HasAppended (is_first : Bool) (before after : List ℕ) : Type 0 where
  pub objects : List (ℕ × Object)
  pub goes_on : (texts : List (List ℕ)) → after ++ joined_from is_first texts ≡ before ++ joined (map object_text objects ++ texts)

pub HasAppended-start : (text : List ℕ) → HasAppended true text text
HasAppended-start text = record { objects = []; goes_on = λ texts. refl }

-- One more object is appended.
pub HasAppended-more : (is_first : Bool) (before now after : List ℕ) → HasAppended is_first before now → AppendsObject is_first now after → HasAppended false before after
HasAppended-more is_first before now after h more =
    let text = object_text more.object in
    record {
      objects = h.objects ++ more.object ∷ [];
      goes_on = λ texts.
          joined_from-more is_first now after text (text ∷ texts) texts (before ++ joined (map object_text h.objects ++ text ∷ texts)) more.is refl (h.goes_on (text ∷ texts))
          ∙ ap (λ (ts : List (List ℕ)). before ++ joined ts)
          (sym (ap (λ (ts : List (List ℕ)). ts ++ texts) (map-append object_text h.objects (more.object ∷ [])) ∙ append_assoc (map object_text h.objects) (text ∷ []) texts));
    }

nothing_left : (is_first : Bool) → joined_from is_first [] ≡ []
nothing_left true = refl
nothing_left false = refl

-- No object is left: the texts of some objects were appended.
pub HasAppended-end : (is_first : Bool) (before after : List ℕ) → HasAppended is_first before after → AppendsObjects before after
HasAppended-end is_first before after h = record {
  objects = h.objects;
  is = sym (ap (λ (l : List ℕ). after ++ l) (nothing_left is_first) ∙ append-nil after) ∙ h.goes_on []
      ∙ ap (λ (ts : List (List ℕ)). before ++ joined ts) (append-nil (map object_text h.objects));
}

-- The pieces make the text of some graph, which is one line.
pub in_one_line-written : (next root : ℕ) (front objects whole : List ℕ) → front ≡ codes "{\"next\":" ++ (decimal next ++ codes ",\"objects\":[") → AppendsObjects front objects
    → whole ≡ objects ++ (codes "],\"root\":" ++ (pointer_text root ++ codes "}")) → in_one_line whole ≡ whole
in_one_line-written next root front objects whole is_front some is_whole =
    let g : Graph = record { next_serial = next; root = root; objects = some.objects } in
    let is : whole ≡ dump_text g = text_of-pieces next (map object_text some.objects) root front objects whole is_front some.is is_whole ∙ sym (dump_text-parts g) in
    ap in_one_line is ∙ in_one_line-dump_text g ∙ sym is
