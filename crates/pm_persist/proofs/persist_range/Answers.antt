use Rattle.pm_model.specs.Counts.{fault_of}
use Rattle.pm_model.specs.Changes.{placed}
use Rattle.pm_model.proofs.Changes.{Persists-fence}
use Rattle.pm_persist.proofs.persist_range.Goals as goal

pub returns-clause-persists : goal.returns-clause-persists
returns-clause-persists g c = λ t. Persists-fence (placed c.args.w c.args.vals.now) (fault_of c.fence.result) _ _ _ (c.in_ok-write_range.ensures.writes t) (c.fence.ensures.state t)
