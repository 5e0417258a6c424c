use Rattle.pm_rows.specs.Rows.{TakesLines, LosesLines}
use Rattle.pm_rows.proofs.Settled.{AreSame-taken, AreSameOutside-then, AreSameOutside-back, LosesLines-outside, Loses-lines, Loses-same}
use Rattle.pm_rows.proofs.device_rows.DeviceRows.choose.Goals as goal

pub returns-clause-marked : goal.returns-clause-marked
returns-clause-marked c =
    let d = c.args.self.now in
    let left = c.lose_lines.new.newest.items in
    let loses : LosesLines d.unsettled.lines.items c.args.pick d.durable.items d.newest.items left = rw (← c.as_slice.ensures.value) c.lose_lines.ensures.lost in
    let taken : TakesLines d.unsettled.lines.items left d.marked.items c.copy_lines.new.to.items = rw (← c.as_slice-2.ensures.value) c.copy_lines.ensures.taken in
    let outside = AreSameOutside-then _ _ _ _ (LosesLines-outside _ _ _ _ _ loses) (AreSameOutside-then _ _ _ _ d.settled_newest (AreSameOutside-back _ _ _ d.settled_marks)) in
    Loses-same _ _ _ _ _ (AreSame-taken _ _ _ _ taken outside) (Loses-lines _ _ _ _ _ loses d.settled_newest)
