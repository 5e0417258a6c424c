use Rattle.std.proofs.Common.{◌≡◌, ◌+◌, not, ◌&&◌, eqb, ap, ap₂, sym, ◌∙◌, arith}
use Rattle.pm_model.specs.Words.{reads}
use Rattle.pud_defs.specs.declared.records.TheConstants.{PUDDLE_BASE_WORD, PUDDLE_OLD_BASE_WORD}
use Rattle.pud_defs.specs.Formats.Bases.{base_at}
use Rattle.pud_defs.specs.RegistryTables.Puddles.{puddle_record_at, puddle_at}
use Rattle.pud_defs.specs.RegistryTables.Places.{has_other_bases}
use Rattle.pud_defs.proofs.RegistryTables.TablesOf.{puddle_at-free}
use Rattle.puddle_space.proofs.Records.{used_record}
use Rattle.puddle_space.proofs.Kept.{LeavesFree-all, LeavesFree-then}
use Rattle.pm_model.proofs.Reading.{still_reads}
use Rattle.puddle_space.proofs.bases.mark_puddle.Goals as goal

pub returns-then-branch-eq0-clause-left : goal.returns-then-branch-eq0-clause-left
returns-then-branch-eq0-clause-left g c = λ t image same.
    let word : c.in_ok-load.field-0 ≡ image (puddle_record_at c.args.frame) = c.in_ok-load.ensures.value t ∙ (λ x. same x (c.puddle_record_at-record.ensures x)) in
    LeavesFree-all _ c.args.free.now (λ k tried. ap (has_other_bases (base_at k)) (puddle_at-free image c.args.frame (omega arith)))

pub returns-clause-left : goal.returns-clause-left
returns-clause-left g c = λ t image same.
    let record_word = puddle_record_at c.args.frame in
    let first : reads (g.H.Host.state c.load.new.self).now.words ≡ image = still_reads c.load.ensures.only_reads t same in
    let second : reads (g.H.Host.state c.load-2.new.self).now.words ≡ image = still_reads c.load-2.ensures.only_reads t first in
    let word : c.in_ok-load.field-0 ≡ image record_word = c.in_ok-load.ensures.value t ∙ (λ x. same x (c.puddle_record_at-record.ensures x)) in
    let base : c.in_ok-base.base ≡ image (record_word + PUDDLE_BASE_WORD) = c.in_ok-base.ensures.value t ∙ (λ x. first x (c.puddle_record_at-record.ensures x + PUDDLE_BASE_WORD)) in
    let old_base : c.in_ok-old_base.old_base ≡ image (record_word + PUDDLE_OLD_BASE_WORD) = c.in_ok-old_base.ensures.value t ∙ (λ x. second x (c.puddle_record_at-record.ensures x + PUDDLE_OLD_BASE_WORD)) in
    LeavesFree-then (λ other. not (eqb c.in_ok-base.base other)) (λ other. not (eqb c.in_ok-old_base.old_base other)) (λ base. has_other_bases base (puddle_at image c.args.frame))
    c.args.free.now c.mark.new.free c.mark-2.new.free c.mark.ensures.left c.mark-2.ensures.left
    (λ k tried. ap (has_other_bases (base_at k)) (used_record image c.args.frame (λ zero. absurd (omega arith)))
    ∙ sym (ap₂ (λ x y. not (eqb x (base_at k)) && not (eqb y (base_at k))) base old_base))
