use Rattle.std.proofs.Common.{◌≡◌, false, is_some, sym, ap, ◌∙◌}
use Rattle.std.proofs.lemmas.Bool.{and_left}
use Rattle.pud_defs.specs.Formats.Image.{Image}
use Rattle.pud_defs.specs.Logging.Entries.{entries_of}
use Rattle.pud_defs.specs.RegistryTables.Spaces.{is_closed_range}
use Rattle.log_entry.proofs.closed.is_closed_log.Goals as goal

pub returns-then-not-is_closed_range-clause-closed : goal.returns-then-not-is_closed_range-clause-closed
returns-then-not-is_closed_range-clause-closed g c = λ t image same.
    let at = c.args.at in
    let gate = c.in_ok-load.ensures.value t ∙ ap (λ (i : Image). i at) same in
    let other : is_closed_range (image at) ≡ false = ap is_closed_range (sym gate) ∙ sym c.is_closed_range.ensures ∙ c.if-not-is_closed_range.true in
    sym (and_left (is_closed_range (image at)) (is_some (entries_of image at)) other)
