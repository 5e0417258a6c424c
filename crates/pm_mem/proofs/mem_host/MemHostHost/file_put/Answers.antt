use Rattle.std.proofs.Common.{drop, ap, ◌∙◌}
use Rattle.pm_model.specs.Moments.{Shelf}
use Rattle.pm_mem.specs.Device.{device_state}
use Rattle.pm_mem.specs.MemHost.{told}
use Rattle.pm_mem.proofs.mem_host.MemHostHost.file_put.Goals as goal
use Rattle.pm_model.proofs.Saying.{LeavesFile-same}

pub returns-in-Err-clause-failed : goal.returns-in-Err-clause-failed
returns-in-Err-clause-failed c = λ _. LeavesFile-same _ _ _ c.call.ensures.state

pub returns-in-Err-put-clause-failed : goal.returns-in-Err-put-clause-failed
returns-in-Err-put-clause-failed c =
    let m = c.call.new.self in
    λ _. LeavesFile-same _ _ _ (ap (λ (shelf : Shelf). told (device_state m.device) (drop m.taken m.script.items) shelf) c.in-Err-put.ensures.err ∙ c.call.ensures.state)
