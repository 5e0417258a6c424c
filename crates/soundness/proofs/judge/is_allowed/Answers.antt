use Rattle.std.proofs.Common.{not, ◌||◌, Bool, length, sym, ap, ◌∙◌}
use Rattle.pud_defs.specs.RegistryTables.Registry.{may_be_logged}
use Rattle.pud_defs.proofs.Logging.Entries.{words_from-length}
use Rattle.log_entry.specs.Reading.{entry_from}
use Rattle.log_entry.specs.Copying.{image_of_copy, log_copied}
use Rattle.soundness.proofs.judge.is_allowed.Goals as goal

pub returns-then-not-counts : goal.returns-then-not-counts
returns-then-not-counts c =
    let image = image_of_copy c.args.overlay.now.log in
    let e = entry_from image c.args.entry.now in
    let counts = c.counts.ensures image (log_copied c.args.overlay.now.log) c.range.ensures in
    ap not c.if-not-counts.true ∙ sym (ap (λ (b : Bool). not b || may_be_logged c.args.frames e.address (length e.vals)) (sym counts ∙ c.if-not-counts.true))

pub returns-else-not-counts : goal.returns-else-not-counts
returns-else-not-counts c =
    let image = image_of_copy c.args.overlay.now.log in
    let e = entry_from image c.args.entry.now in
    let counts = c.counts.ensures image (log_copied c.args.overlay.now.log) c.range.ensures in
    c.may_be_logged.ensures
    ∙ ap (may_be_logged c.args.frames e.address) (sym (words_from-length image c.args.entry.now.at c.args.entry.now.n))
    ∙ sym (ap (λ (b : Bool). not b || may_be_logged c.args.frames e.address (length e.vals)) (sym counts ∙ c.if-not-counts.false))
