use Rattle.pm_rows.proofs.Settled.{AreSame-taken}
use Rattle.pm_rows.proofs.device_rows.DeviceRows.take_marked.Goals as goal

pub returns-clause-durable : goal.returns-clause-durable
returns-clause-durable c = AreSame-taken _ _ _ _ c.copy_lines.ensures.taken (rw c.as_slice.ensures.value c.args.self.now.settled_marks)
