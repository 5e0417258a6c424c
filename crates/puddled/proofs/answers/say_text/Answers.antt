use Rattle.std.proofs.lemmas.Result.{err_from_is_err_and}
use Rattle.pm_model.specs.Counts.{fault_of}
use Rattle.puddled.proofs.LinesDone.Saying.{Says-unbegun, Says-unended, Says-text}
use Rattle.puddled.proofs.answers.say_text.Goals as goal

pub returns-in_err-say-clause-says : goal.returns-in_err-say-clause-says
returns-in_err-say-clause-says g c =
    let p = err_from_is_err_and c.from_residual.result c.from_residual.ensures.1 in
    rw (p.1, p.2) (λ t. Says-unbegun c.args.text.now c.in_err-say.field-0.0 _ _ (c.in_err-say.ensures.said t))

pub returns-in_err-say-2-clause-says : goal.returns-in_err-say-2-clause-says
returns-in_err-say-2-clause-says g c =
    let p = err_from_is_err_and c.from_residual-in_err-say-2.result c.from_residual-in_err-say-2.ensures.1 in
    rw (p.1, p.2) (λ t. Says-unended c.args.text.now _ c.in_err-say-2.field-0.0 _ _ _ c.as_slice.ensures (c.in_ok-say.ensures.said t) (c.in_err-say-2.ensures.said t))

pub returns-clause-says : goal.returns-clause-says
returns-clause-says g c = λ t. Says-text c.args.text.now _ (fault_of c.say-3.result) _ _ _ _ c.as_slice.ensures (c.in_ok-say.ensures.said t) (c.in_ok-say-2.ensures.said t) (c.say-3.ensures.said t)
