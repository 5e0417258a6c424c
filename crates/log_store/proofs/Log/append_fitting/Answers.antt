use Rattle.std.proofs.Common.{refl, ap, arith}
use Rattle.std.proofs.lemmas.Result.{err_from_is_err_and}
use Rattle.pm_model.specs.Counts.{fault_of}
use Rattle.log_store.specs.Store.{OpenLog}
use Rattle.log_store.specs.contracts.Log.{the_view}
use Rattle.log_store.proofs.Appending.{Persists-half, Persists-both, first_images, both_images}
use Rattle.log_store.proofs.Log.append_fitting.Goals as goal

pub returns-in_err-persist_range-clause-persists : goal.returns-in_err-persist_range-clause-persists
returns-in_err-persist_range-clause-persists g c =
    let p = err_from_is_err_and c.from_residual.result c.from_residual.ensures.1 in
    rw (p.1, p.2, ← c.self.view_is) (λ t. Persists-half (the_view c.self.inside) _ _ _ _ _ (c.in_err-persist_range.ensures.persists t))

pub returns-in_err-persist_range-clause-moments : goal.returns-in_err-persist_range-clause-moments
returns-in_err-persist_range-clause-moments g c =
    let used = ap (λ (l : OpenLog). l.used) c.self.view_is in
    rw (← c.self.view_is) (λ t es more spells open_log. first_images _ es _ _ more _ (record { counted = refl; room = omega arith }) spells open_log _ _ (c.in_err-persist_range.ensures.persists t).changes)

pub returns-clause-persists : goal.returns-clause-persists
returns-clause-persists g c = rw (← c.self.view_is) (λ t. Persists-both (the_view c.self.inside) _ _ (fault_of c.persist_gate.result) _ _ _ (c.in_ok-persist_range.ensures.persists t) (c.persist_gate.ensures.persists t))

pub returns-clause-moments : goal.returns-clause-moments
returns-clause-moments g c =
    let used = ap (λ (l : OpenLog). l.used) c.self.view_is in
    rw (← c.self.view_is) (λ t es more spells open_log. both_images _ es _ _ more _ (record { counted = refl; room = omega arith }) spells open_log
    (fault_of c.persist_gate.result) _ _ (c.in_ok-persist_range.ensures.persists t) (c.persist_gate.ensures.persists t))
