use Rattle.std.proofs.Common.{List, ℕ, ◌++◌, codes, decimal, ap, ◌∙◌}
use Rattle.pud_check.proofs.Lines.{four_added}
use Rattle.pud_check.proofs.text.add_objects.Goals as goal

pub returns-in-Some-clause-objects : goal.returns-in-Some-clause-objects
returns-in-Some-clause-objects c =
    let sound = c.add-in-Some.ensures in
    let objects = c.add_number.ensures.number ∙ ap (λ (front : List ℕ). front ++ decimal c.in-Some.objects) sound in
    let words = c.add-in-Some-2.ensures ∙ ap (λ (front : List ℕ). front ++ codes " puddles ") objects in
    let all = c.add_number-in-Some.ensures.number ∙ ap (λ (front : List ℕ). front ++ decimal c.args.puddles) words in
    rw c.in-Some.is (all ∙ four_added c.args.text.now.items (codes " sound objects ") (decimal c.in-Some.objects) (codes " puddles ") (decimal c.args.puddles))
