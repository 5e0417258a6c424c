use Rattle.hybrid_tx.proofs.Objects.DeferredApplied.{deferred_applied}
use Rattle.hybrid_tx.proofs.laws.deferred_entries_make_the_graph.Goals as goal

pub returns : goal.returns
returns c = deferred_applied
