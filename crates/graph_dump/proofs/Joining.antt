-- Texts that are written one after the other, with commas between them.
use Rattle.std.proofs.Common.{◌≡◌, ℕ, Bool, true, false, List, ◌∷◌, ◌++◌, sym, ap, ◌∙◌, append_assoc}
use Rattle.std.specs.Prelude.{codes}
use Rattle.pud_defs.specs.Output.DumpText.{joined_after, joined}
use Rattle.graph_dump.specs.Spelled.{separator}

-- The joined texts that are still to be written. Only the first of all texts has no comma before it.
abbrev pub joined_from : (is_first : Bool) → List (List ℕ) → List ℕ
joined_from true texts = joined texts
joined_from false texts = joined_after texts

written_one : (is_first : Bool) (before text : List ℕ) (texts : List (List ℕ)) → (before ++ (separator is_first ++ text)) ++ joined_from false texts ≡ before ++ joined_from is_first (text ∷ texts)
written_one true before text texts = append_assoc before text (joined_after texts)
written_one false before text texts = append_assoc before (codes "," ++ text) (joined_after texts)

-- The next text is written. With the texts that are left it still makes the whole.
pub joined_from-more : (is_first : Bool) (before after text : List ℕ) (left texts : List (List ℕ)) (whole : List ℕ) → after ≡ before ++ (separator is_first ++ text) → left ≡ text ∷ texts
    → before ++ joined_from is_first left ≡ whole → after ++ joined_from false texts ≡ whole
joined_from-more is_first before after text left texts whole is are so_far =
    ap (λ (l : List ℕ). l ++ joined_from false texts) is ∙ written_one is_first before text texts ∙ ap (λ (ts : List (List ℕ)). before ++ joined_from is_first ts) (sym are) ∙ so_far
