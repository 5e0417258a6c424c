use Rattle.std.proofs.Common.{◌+◌, length, arith}
use Rattle.pm_model.specs.Counts.{fault_of}
use Rattle.pm_model.specs.Changes.{placed}
use Rattle.pm_persist.proofs.Ranges.{Writes-flushed, placed_within, in_lines}
use Rattle.pm_persist.proofs.write_range.Goals as goal

pub returns-clause-writes : goal.returns-clause-writes
returns-clause-writes g c = λ t.
    Writes-flushed (placed c.args.w c.args.vals.now) (c.args.w + length c.args.vals.now) _ _ (fault_of c.flush_lines.result) _ _ _
    (λ k v is. (placed_within c.args.w k v c.args.vals.now is).1)
    (λ k v is.
    let within = placed_within c.args.w k v c.args.vals.now is in
    in_lines c.args.w k _ _ _ within.0 (omega arith) c.line_of-from.ensures.line c.line_of-to.ensures.line)
    (c.in_ok-store_all.ensures.stores t) (c.flush_lines.ensures.flushes t)
