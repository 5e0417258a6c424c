use Rattle.std.proofs.Common.{◌≡◌, ◌+◌, Some, ap, sym, ◌∙◌, option_map, arith}
use Rattle.pm_model.proofs.Reading.{still_reads}
use Rattle.pud_defs.specs.declared.records.TheConstants.{PUDDLE_BASE_WORD}
use Rattle.pud_defs.specs.RegistryTables.Puddles.{puddle_record_at}
use Rattle.pud_defs.proofs.RegistryTables.TablesOf.{puddle_at-free}
use Rattle.puddle_space.specs.Nearby.{base_of_member}
use Rattle.puddle_space.proofs.Records.{used_record}
use Rattle.puddle_space.proofs.addresses.base_of.Goals as goal

pub returns-then-branch-eq0-clause-base : goal.returns-then-branch-eq0-clause-base
returns-then-branch-eq0-clause-base g c = λ t image same.
    let word : c.in_ok-load.field-0 ≡ image (puddle_record_at c.args.frame) = c.in_ok-load.ensures.value t ∙ (λ x. same x (c.puddle_record_at-record.ensures x)) in
    sym (ap (option_map base_of_member) (puddle_at-free image c.args.frame (omega arith)))

pub returns-clause-base : goal.returns-clause-base
returns-clause-base g c = λ t image same.
    let record_word = puddle_record_at c.args.frame in
    let word : c.in_ok-load.field-0 ≡ image record_word = c.in_ok-load.ensures.value t ∙ (λ x. same x (c.puddle_record_at-record.ensures x)) in
    let base : c.in_ok-base.base ≡ image (record_word + PUDDLE_BASE_WORD) =
    c.in_ok-base.ensures.value t ∙ (λ x. (still_reads c.load.ensures.only_reads t same) x (c.puddle_record_at-record.ensures x + PUDDLE_BASE_WORD)) in
    ap Some base ∙ sym (ap (option_map base_of_member) (used_record image c.args.frame (λ zero. absurd (omega arith))))
