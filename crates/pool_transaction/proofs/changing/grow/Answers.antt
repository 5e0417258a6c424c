use Rattle.std.proofs.lemmas.Result.{err_from_is_err_and}
use Rattle.pool_transaction.specs.Changing.{with_known}
use Rattle.pool_transaction.proofs.NewObjects.ActiveGrows.{grows_failed, grows_done, grows_longer, slot_added}
use Rattle.daemon_memory.proofs.Commands.Keeping.{KeepsRest-changes}
use Rattle.pool_transaction.proofs.changing.grow.Goals as goal

pub returns-in_err-grow_pool-clause-grows : goal.returns-in_err-grow_pool-clause-grows
returns-in_err-grow_pool-clause-grows g c =
    let p = err_from_is_err_and c.from_residual.result c.from_residual.ensures.1 in
    rw (p.1, p.2) (λ t size w memory runs class by.
    let active = c.args.opened.now in
    grows_failed runs c.args.added by (with_known active.log_number active.slot active c.args.pool.now memory) c.in_err-grow_pool.field-0.0 (g.H.Host.state c.grow_pool.new.h)
    (c.in_err-grow_pool.ensures.commits t, c.in_err-grow_pool.ensures.grows t size runs.words_are w.stored _))

pub returns-clause-grows : goal.returns-clause-grows
returns-clause-grows g c = λ t size w memory runs class by.
    grows_done runs c.args.added by (g.H.Host.state c.grow_pool.new.h)
    (c.in_ok-grow_pool.ensures.commits t, c.in_ok-grow_pool.ensures.grows t size runs.words_are w.stored _) c.added_puddle.result c.added_puddle.ensures c.grown.new.self c.grown.ensures.grown

pub returns-clause-longer : goal.returns-clause-longer
returns-clause-longer g c = λ t size w memory runs class by.
    grows_longer runs c.args.added by (g.H.Host.state c.grow_pool.new.h)
    (c.in_ok-grow_pool.ensures.commits t, c.in_ok-grow_pool.ensures.grows t size runs.words_are w.stored _) c.added_puddle.result c.added_puddle.ensures c.grown.new.self c.grown.ensures.grown

pub returns-in_err-grow_pool-clause-rest : goal.returns-in_err-grow_pool-clause-rest
returns-in_err-grow_pool-clause-rest g c = λ t. KeepsRest-changes _ _ _ _ (c.in_err-grow_pool.ensures.any t)

pub returns-clause-rest : goal.returns-clause-rest
returns-clause-rest g c = λ t. KeepsRest-changes _ _ _ _ (c.in_ok-grow_pool.ensures.any t)

pub returns-clause-slot : goal.returns-clause-slot
returns-clause-slot g c = slot_added c.args.pool.now c.grown.new.self c.args.added.frame c.added_puddle.result c.grown.result c.grown.ensures.grown c.grown.ensures.slot
