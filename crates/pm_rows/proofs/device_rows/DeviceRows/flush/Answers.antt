use Rattle.pm_rows.proofs.device_rows.DeviceRows.flush.Goals as goal

pub returns-clause-marked : goal.returns-clause-marked
returns-clause-marked c = c.copy_line.ensures.taken
