use Rattle.std.proofs.lemmas.Result.{err_from_is_err_and}
use Rattle.pm_model.specs.Counts.{fault_of}
use Rattle.puddle_cli.proofs.LayingOut.{LaysOut-first, LaysOut-second, LaysOut-third}
use Rattle.puddle_cli.proofs.format.lay_out.Goals as goal

pub returns-in_err-zero_range-clause-lays_out : goal.returns-in_err-zero_range-clause-lays_out
returns-in_err-zero_range-clause-lays_out g c =
    let p = err_from_is_err_and c.from_residual.result c.from_residual.ensures.1 in
    rw (p.1, p.2) (λ t.
    let first = rw c.frames_at.ensures at (c.in_err-zero_range.ensures.persists t) in
    LaysOut-first c.args.frames c.args.id _ _ _ first)

pub returns-in_err-persist_range-clause-lays_out : goal.returns-in_err-persist_range-clause-lays_out
returns-in_err-persist_range-clause-lays_out g c =
    let p = err_from_is_err_and c.from_residual-in_err-persist_range.result c.from_residual-in_err-persist_range.ensures.1 in
    rw (p.1, p.2) (λ t.
    let first = rw c.frames_at.ensures at (c.in_ok-zero_range.ensures.persists t) in
    let second = rw c.from.ensures at (c.in_err-persist_range.ensures.persists t) in
    LaysOut-second c.args.frames c.args.id _ _ _ _ first second)

pub returns-clause-lays_out : goal.returns-clause-lays_out
returns-clause-lays_out g c = λ t.
    let first = rw c.frames_at.ensures at (c.in_ok-zero_range.ensures.persists t) in
    let second = rw c.from.ensures at (c.in_ok-persist_range.ensures.persists t) in
    LaysOut-third c.args.frames c.args.id (fault_of c.persist_word.result) _ _ _ _ first second (c.persist_word.ensures.persists t)
