use Rattle.std.proofs.Common.{◌∙◌}
use Rattle.std.proofs.lemmas.Result.{err_from_is_err_and}
use Rattle.pm_persist.proofs.Ranges.{FlushesLines-more, FlushesLines-failed_step}
use Rattle.pm_persist.proofs.flush_lines.Goals as goal

pub returns-in_err-flush-clause-flushes : goal.returns-in_err-flush-clause-flushes
returns-in_err-flush-clause-flushes g c =
    let p = err_from_is_err_and c.from_residual.result c.from_residual.ensures.1 in
    rw (p.1, p.2) (λ t. FlushesLines-failed_step c.args.from _ c.args.to _ _ _ _ (c.loop-line.invariant.flushed t) (c.in_err-flush.ensures.state t))

pub loop-line-preserved : goal.loop-line-preserved
loop-line-preserved g c = record {
  counts = c.in_ok-flush.ensures.cause ∙ c.loop-line.invariant.counts;
  flushed = λ t. FlushesLines-more c.args.from _ _ _ _ (c.loop-line.invariant.flushed t) (c.in_ok-flush.ensures.state t);
}
