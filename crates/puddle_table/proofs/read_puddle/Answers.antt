use Rattle.std.proofs.Common.{◌+◌, ap, ◌∙◌}
use Rattle.pm_model.proofs.Reading.{still_reads}
use Rattle.pud_defs.specs.Formats.Image.{Image}
use Rattle.puddle_table.proofs.Search.{words_read}
use Rattle.puddle_table.proofs.read_puddle.Goals as goal

pub returns-clause-puddle : goal.returns-clause-puddle
returns-clause-puddle g c = λ t image e.
    let at = c.puddle_record_at-at.result in
    let e1 = still_reads c.load.ensures.only_reads t e in
    let e2 = still_reads c.load-2.ensures.only_reads t e1 in
    let e3 = still_reads c.load-3.ensures.only_reads t e2 in
    let whole = words_read image c.args.frame at c.in_ok-number.number c.in_ok-base.base c.in_ok-old_base.old_base c.in_ok-last.last c.puddle_record_at-at.ensures
    (c.in_ok-number.ensures.value t ∙ ap (λ (f : Image). f (at + 1)) e)
    (c.in_ok-base.ensures.value t ∙ ap (λ (f : Image). f (at + 2)) e1)
    (c.in_ok-old_base.ensures.value t ∙ ap (λ (f : Image). f (at + 3)) e2)
    (c.in_ok-last.ensures.value t ∙ ap (λ (f : Image). f (at + 4)) e3) in
    (λ i. record { number = c.in_ok-number.number; base = c.in_ok-base.base; old_base = c.in_ok-old_base.old_base; frontier = c.frontier_part.ensures i; class = c.class_part.ensures i }) ∙ whole
