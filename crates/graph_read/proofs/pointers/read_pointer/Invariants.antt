use Rattle.std.proofs.Common.{◌≡◌}
use Rattle.std.specs.Prelude.{map}
use Rattle.pud_defs.specs.PoolGraphs.Graph.{pointee_at}
use Rattle.graph_read.proofs.Pointed.{pointer_from}
use Rattle.graph_read.proofs.pointers.read_pointer.Given as goal

abbrev pub invariant-loop-other : goal.invariant-loop-other
invariant-loop-other l = record { pointee : pointee_at (map (λ e. e.1) l.pool) l.ordinal l.step l.value ≡ pointer_from l.pool l.rewritten l.value l.other }
