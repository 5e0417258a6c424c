use Rattle.std.proofs.lemmas.Result.{err_from_is_err_and}
use Rattle.pm_model.specs.Counts.{fault_of}
use Rattle.type_maps.proofs.Moments.{Defines-half, Defines-both}
use Rattle.type_maps.proofs.write_record.Goals as goal

pub returns-in_err-persist_word-clause-defines : goal.returns-in_err-persist_word-clause-defines
returns-in_err-persist_word-clause-defines g c =
    let p = err_from_is_err_and c.from_residual.result c.from_residual.ensures.1 in
    rw (p.1, p.2) (λ t. Defines-half c.args.place c.args.id c.args.map _ _ _ (rw c.type_record_at-at.ensures at (c.in_err-persist_word.ensures.persists t)))

pub returns-clause-defines : goal.returns-clause-defines
returns-clause-defines g c = λ t.
    let second = rw (c.type_record_at-at.ensures, c.from.ensures) at (c.persist_word-2.ensures.persists t) in
    Defines-both c.args.place c.args.id c.args.map (fault_of c.persist_word-2.result) _ _ _ (rw c.type_record_at-at.ensures at (c.in_ok-persist_word.ensures.persists t)) second
