use Rattle.std.proofs.Common.{List, ℕ, ◌∷◌, [], ◌++◌, drop, take, ap, ap₂, ◌∙◌, append_assoc}
use Rattle.pud_defs.specs.Output.LayoutText.{address_text}
use Rattle.pud_check.proofs.Lines.{last_group}
use Rattle.pud_check.proofs.text.add_address.Goals as goal

pub returns-clause-address : goal.returns-clause-address
returns-clause-address c =
    let digits = ap (λ (ds : List ℕ). take 12 (drop 24 ds)) c.print_uuid.ensures ∙ last_group c.from.result ∙ ap address_text c.from.ensures in
    c.add.ensures ∙ ap₂ (λ (front back : List ℕ). front ++ back) c.push.ensures.items digits ∙ append_assoc c.args.text.now.items (32 ∷ []) (address_text c.args.address)
