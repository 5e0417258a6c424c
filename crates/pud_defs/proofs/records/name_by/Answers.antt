use Rattle.std.proofs.Common.{refl}
use Rattle.pud_defs.specs.Formats.Names.{name_by}
use Rattle.pud_defs.proofs.records.name_by.Goals as goal

pub returns : goal.returns
unfolding name_by
returns c =
    let low = c.copy_from_slice.ensures.after in
    let high = c.copy_from_slice-2.ensures.after in
    rw (low, high, c.to_le_bytes.ensures, c.to_le_bytes-2.ensures) refl
