use Rattle.std.proofs.Common.{◌≡◌, ◌+◌, not, eqb, ap, sym, ◌∙◌, arith}
use Rattle.pm_model.specs.Words.{reads}
use Rattle.pud_defs.specs.declared.records.TheConstants.{PUDDLE_BASE_WORD}
use Rattle.pud_defs.specs.RegistryTables.Placement.{has_another_base}
use Rattle.pud_defs.specs.RegistryTables.Puddles.{puddle_record_at}
use Rattle.pud_defs.proofs.RegistryTables.TablesOf.{puddle_at-free}
use Rattle.puddle_space.proofs.Records.{used_record}
use Rattle.puddle_space.proofs.HasBase.{not_twice}
use Rattle.pm_model.proofs.Reading.{still_reads}
use Rattle.puddle_space.proofs.taken.frame_has_base.Goals as goal

pub returns-then-branch-eq0-clause-has : goal.returns-then-branch-eq0-clause-has
returns-then-branch-eq0-clause-has g c = λ t image same.
    let word : c.in_ok-load.field-0 ≡ image (puddle_record_at c.args.frame) = c.in_ok-load.ensures.value t ∙ (λ x. same x (c.puddle_record_at-record.ensures x)) in
    sym (ap (λ o. not (has_another_base c.args.base o)) (puddle_at-free image c.args.frame (omega arith)))

pub returns-clause-has : goal.returns-clause-has
returns-clause-has g c = λ t image same.
    let record_word = puddle_record_at c.args.frame in
    let first : reads (g.H.Host.state c.load.new.self).now.words ≡ image = still_reads c.load.ensures.only_reads t same in
    let word : c.in_ok-load.field-0 ≡ image record_word = c.in_ok-load.ensures.value t ∙ (λ x. same x (c.puddle_record_at-record.ensures x)) in
    let base : c.in_ok-load-2.field-0 ≡ image (record_word + PUDDLE_BASE_WORD) = c.in_ok-load-2.ensures.value t ∙ (λ x. first x (c.puddle_record_at-record.ensures x + PUDDLE_BASE_WORD)) in
    ap (λ b. eqb b c.args.base) base
    ∙ sym (ap (λ o. not (has_another_base c.args.base o)) (used_record image c.args.frame (λ zero. absurd (omega arith))) ∙ not_twice (eqb (image (record_word + PUDDLE_BASE_WORD)) c.args.base))
