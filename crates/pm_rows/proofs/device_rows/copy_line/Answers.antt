use Rattle.std.proofs.Common.{◌≡◌, ◌+◌, ◌-◌, ◌*◌, slice_range, refl, ◌∙◌, arith}
use Rattle.std.proofs.lemmas.List.{with_items_is}
use borrow.Rule.Slice.PartMut.{put_mid}
use Rattle.pm_rows.proofs.Rows.{TakesLine-copied, length-copied}
use Rattle.pm_rows.proofs.device_rows.copy_line.Goals as goal

pub returns-clause-taken : goal.returns-clause-taken
returns-clause-taken c =
    let first = c.args.line * 8 in
    let from = c.args.from.now.items in
    let part = c.copy_from_slice.new.self in
    let is : part ≡ slice_range from first (first + 8) = rw (← c.deref.ensures.value) c.copy_from_slice.ensures.after in
    let len = length-copied first from c.args.to.now.items part (omega arith) (omega arith) is in
    rw (c.as_mut_slice-row.ensures.value, with_items_is c.args.to.now (put_mid first (first + 8 - first) c.args.to.now.items part) (len ∙ omega arith))
    (TakesLine-copied c.args.line first from c.args.to.now.items part refl (omega arith) (omega arith) is)
