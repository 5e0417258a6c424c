use Rattle.pm_rows.proofs.Settled.{AreSameOutside-more, AreSameOutside-set}
use Rattle.pm_rows.proofs.device_rows.DeviceRows.store.Goals as goal

pub returns-clause-unsettled : goal.returns-clause-unsettled
returns-clause-unsettled c = c.add.ensures.listed

pub invariant_of-self-clause-settled_marks : goal.invariant_of-self-clause-settled_marks
invariant_of-self-clause-settled_marks c = AreSameOutside-more _ _ _ _ _ c.add.ensures.listed c.args.self.now.settled_marks

pub invariant_of-self-clause-settled_newest : goal.invariant_of-self-clause-settled_newest
invariant_of-self-clause-settled_newest c = AreSameOutside-set _ _ _ _ c.args.word c.args.value c.add.ensures.listed c.args.self.now.settled_newest
