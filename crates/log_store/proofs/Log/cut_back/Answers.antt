use Rattle.std.proofs.lemmas.Result.{err_from_is_err_and}
use Rattle.log_store.proofs.Cutting.{Cuts-persisted}
use Rattle.log_store.proofs.Log.cut_back.Goals as goal

pub returns-in_err-persist_gate-clause-cuts : goal.returns-in_err-persist_gate-clause-cuts
returns-in_err-persist_gate-clause-cuts g c =
    let p = err_from_is_err_and c.from_residual.result c.from_residual.ensures.1 in
    rw (p.1, p.2, ← c.from-fewer.ensures, ← c.self.view_is) (λ t front back open_log ends. Cuts-persisted _ front back _ _ open_log ends _ _ (c.in_err-persist_gate.ensures.persists t))

pub returns-clause-cuts : goal.returns-clause-cuts
returns-clause-cuts g c =
    rw (← c.from-fewer.ensures, ← c.self.view_is) (λ t front back open_log ends. Cuts-persisted _ front back _ _ open_log ends _ _ (c.in_ok-persist_gate.ensures.persists t))
