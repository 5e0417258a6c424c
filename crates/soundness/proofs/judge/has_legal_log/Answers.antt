use Rattle.std.proofs.Common.{ℕ, sym, ap, ap₂, ◌∙◌}
use Rattle.std.specs.Prelude.{is_some}
use Rattle.std.specs.List.{list_all}
use Rattle.pud_defs.specs.Logging.Entries.{Log}
use Rattle.pud_defs.specs.RegistryTables.Registry.{is_loggable}
use Rattle.soundness.proofs.Judged.{not_legal, is_well_formed}
use Rattle.soundness.proofs.judge.has_legal_log.Goals as goal

pub returns-then-not-is_well_formed : goal.returns-then-not-is_well_formed
returns-then-not-is_well_formed c = λ image same frames.
    let answer = c.is_well_formed.ensures ∙ ap (λ (l : Log). is_some l.entries) same in
    sym (not_legal image (sym answer ∙ c.if-not-is_well_formed.true))

pub returns : goal.returns
returns c = λ image same frames.
    let answer = c.is_well_formed.ensures ∙ ap (λ (l : Log). is_some l.entries) same in
    let formed = is_well_formed image (sym answer ∙ c.if-not-is_well_formed.false) in
    c.are_allowed.ensures formed.entries (ap (λ (l : Log). l.entries) same ∙ formed.are)
    ∙ ap₂ (λ (F : ℕ) (log : Log). list_all (is_loggable F log) formed.entries) frames same
    ∙ formed.legal
