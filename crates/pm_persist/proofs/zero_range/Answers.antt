use Rattle.std.proofs.Common.{◌+◌, None, arith}
use Rattle.std.proofs.lemmas.Result.{err_from_is_err_and}
use Rattle.pm_model.specs.Counts.{fault_of}
use Rattle.pm_model.proofs.Changes.{Persists-fence, Persists-failed}
use Rattle.pm_persist.specs.Ranges.{zeroed}
use Rattle.pm_persist.proofs.Ranges.{Writes-flushed, zeroed_within, in_lines}
use Rattle.pm_persist.proofs.zero_range.Goals as goal

pub returns-in_err-flush_lines-clause-persists : goal.returns-in_err-flush_lines-clause-persists
returns-in_err-flush_lines-clause-persists g c =
    let p = err_from_is_err_and c.from_residual-in_err-flush_lines.result c.from_residual-in_err-flush_lines.ensures.1 in
    rw (p.1, p.2) (λ t.
    let writes = Writes-flushed (zeroed c.args.w c.args.n) (c.args.w + c.args.n) _ _ _ _ _ _
    (λ k v is. (zeroed_within c.args.w c.args.n k v is).1)
    (λ k v is.
    let within = zeroed_within c.args.w c.args.n k v is in
    in_lines c.args.w k _ _ _ within.0 (omega arith) c.line_of-from.ensures.line c.line_of-to.ensures.line)
    (c.in_ok-store_zeroes.ensures.stores t) (c.in_err-flush_lines.ensures.flushes t) in
    Persists-failed (zeroed c.args.w c.args.n) _ _ _ writes.changes)

pub returns-clause-persists : goal.returns-clause-persists
returns-clause-persists g c = λ t.
    let writes = Writes-flushed (zeroed c.args.w c.args.n) (c.args.w + c.args.n) _ _ None _ _ _
    (λ k v is. (zeroed_within c.args.w c.args.n k v is).1)
    (λ k v is.
    let within = zeroed_within c.args.w c.args.n k v is in
    in_lines c.args.w k _ _ _ within.0 (omega arith) c.line_of-from.ensures.line c.line_of-to.ensures.line)
    (c.in_ok-store_zeroes.ensures.stores t) (c.in_ok-flush_lines.ensures.flushes t) in
    Persists-fence (zeroed c.args.w c.args.n) (fault_of c.fence.result) _ _ _ writes (c.fence.ensures.state t)
