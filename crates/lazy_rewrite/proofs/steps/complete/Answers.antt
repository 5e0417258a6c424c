use Rattle.std.proofs.Common.{ℕ, List, Some, None, subst, ◌∙◌}
use Rattle.std.proofs.lemmas.Result.{err_from_is_err_and}
use Rattle.pud_defs.specs.declared.records.Puddle.{Puddle}
use Rattle.lazy_rewrite.specs.Frontiers.{frontier_at}
use Rattle.lazy_rewrite.specs.Batches.{Rewrites}
use Rattle.lazy_rewrite.proofs.Moved.{stepped_at-end}
use Rattle.lazy_rewrite.proofs.steps.complete.Goals as goal

pub returns-in_err-_done-clause-rewrites : goal.returns-in_err-_done-clause-rewrites
returns-in_err-_done-clause-rewrites g c =
    let p = err_from_is_err_and c.from_residual.result c.from_residual.ensures.1 in
    rw (p.1, p.2) (λ t size same idle low.
    subst (λ (ds : List (ℕ × Puddle)). Rewrites c.args.frames (frontier_at c.args.ordinal ds) c.args.pool.now c.advance.new.pool (Some c.in_err-_done.field-0.0) (g.H.Host.state c.args.h.now) (g.H.Host.state c.advance.new.h))
    (stepped_at-end c.args.pool.now c.args.ordinal) (c.in_err-_done.ensures.rewrites t size same idle low))

pub returns-in_ok-_done-clause-pool : goal.returns-in_ok-_done-clause-pool
returns-in_ok-_done-clause-pool g c = c.in_ok-_done.ensures.pool ∙ stepped_at-end c.args.pool.now c.args.ordinal

pub returns-in_ok-_done-clause-rewrites : goal.returns-in_ok-_done-clause-rewrites
returns-in_ok-_done-clause-rewrites g c = λ t size same idle low.
    subst (λ (ds : List (ℕ × Puddle)). Rewrites c.args.frames (frontier_at c.args.ordinal ds) c.args.pool.now c.advance.new.pool None (g.H.Host.state c.args.h.now) (g.H.Host.state c.advance.new.h))
    (stepped_at-end c.args.pool.now c.args.ordinal) (c.in_ok-_done.ensures.rewrites t size same idle low)
