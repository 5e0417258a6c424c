use Rattle.std.proofs.Common.{◌≡◌, OnOk, subst}
use Rattle.pud_export.proofs.FrontRead.{prefix_whole}
use Rattle.pud_export.proofs.front.push_front.Goals as goal

pub returns : goal.returns
returns c =
    subst (λ words. OnOk c.push_classes.result (c.push_classes.new.words ≡ words))
    (prefix_whole c.args.machine c.args.number c.args.types.now c.args.pool.now c.args.words.now c.push_header.new.words c.push_types.new.words c.push_bases.new.words c.in_ok-push_header.ensures c.in_ok-push_types.ensures c.in_ok-push_bases.ensures)
    c.push_classes.ensures
