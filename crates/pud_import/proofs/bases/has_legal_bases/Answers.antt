use Rattle.std.proofs.Common.{◌&&◌, sym, ap, ◌∙◌}
use Rattle.pud_import.proofs.FileChecks.BasesApart.{both_tests}
use Rattle.pud_import.proofs.bases.has_legal_bases.Goals as goal

pub returns-then-legal : goal.returns-then-legal
returns-then-legal c =
    let apart = c.are_apart-apart in
    ap (λ b. b && apart.result) (sym c.if-legal.true) ∙ both_tests c.args.pool.now c.are_legal-legal.result apart.result c.are_legal-legal.ensures apart.ensures

pub returns-else-legal : goal.returns-else-legal
returns-else-legal c =
    let apart = c.are_apart-apart in
    c.if-legal.false
    ∙ ap (λ b. b && apart.result) (sym c.if-legal.false) ∙ both_tests c.args.pool.now c.are_legal-legal.result apart.result c.are_legal-legal.ensures apart.ensures
