use Rattle.std.proofs.Common.{inl, ap, drop}
use Rattle.pm_model.specs.Moments.{State}
use Rattle.pm_mem.specs.Shelves.{shelf_of}
use Rattle.pm_mem.specs.MemHost.{told}
use Rattle.pm_mem.proofs.Losses.{LosesPower-pick}
use Rattle.pm_mem.proofs.mem_host.MemHostHost.cut.Goals as goal

pub returns-then-self-clause-state : goal.returns-then-self-clause-state
returns-then-self-clause-state c =
    let m = c.args.self.now in
    λ _. inl (LosesPower-pick c.args.pick _ _ (ap (λ (s : State). told s (drop m.taken m.script.items) (shelf_of m.shelf)) c.lose.ensures.told))
