use Rattle.std.proofs.Common.{get_or}
use Rattle.std.proofs.lemmas.Result.{err_from_is_err_and}
use Rattle.pm_model.specs.Counts.{fault_of}
use Rattle.pool_list.specs.Listed.{records_text}
use Rattle.pool_list.proofs.Saying.{Says-unlisted, Says-unended, Says-line}
use Rattle.pool_list.proofs.say_list.Goals as goal

pub returns-in_err-say-clause-says : goal.returns-in_err-say-clause-says
returns-in_err-say-clause-says g c =
    let p = err_from_is_err_and c.from_residual.result c.from_residual.ensures.1 in
    rw (p.1, p.2) (λ t. Says-unlisted (records_text c.args.id (λ slot. get_or c.args.counts.now slot 0) c.args.records.now) c.in_err-say.field-0.0 _ _ (c.in_err-say.ensures.said t))

pub returns-in_err-say_each-clause-says : goal.returns-in_err-say_each-clause-says
returns-in_err-say_each-clause-says g c =
    let p = err_from_is_err_and c.from_residual-in_err-say_each.result c.from_residual-in_err-say_each.ensures.1 in
    rw (p.1, p.2) (λ t. Says-unended _ c.in_err-say_each.field-0.0 _ _ _ (c.in_ok-say.ensures.said t) (c.in_err-say_each.ensures.says t))

pub returns-clause-says : goal.returns-clause-says
returns-clause-says g c = λ t. Says-line _ (fault_of c.say-2.result) _ _ _ _ (c.in_ok-say.ensures.said t) (c.in_ok-say_each.ensures.says t) (c.say-2.ensures.said t)
