use Rattle.std.proofs.Common.{ℕ, [], ap, sym, refl, subst, length, ◌∙◌}
use Rattle.std.proofs.lemmas.Result.{err_from_is_err_and}
use Rattle.pm_model.specs.Counts.{Counts, fault_of}
use Rattle.pm_model.specs.Changes.{placed}
use Rattle.word_transaction.specs.Scope.{IsScope}
use Rattle.word_transaction.specs.Running.{IsOneOf}
use Rattle.word_transaction.proofs.Kept.{WritesKept-placed, SavesAndWrites-unkept, SavesAndWrites-written}
use Rattle.hybrid_tx.proofs.Objects.Putting.{ByPut-saved, ByPut-written}
use Rattle.hybrid_tx.proofs.Tx.put.Goals as goal

pub returns-in_err-save-clause-changes : goal.returns-in_err-save-clause-changes
returns-in_err-save-clause-changes g c =
    let p = err_from_is_err_and c.from_residual.result c.from_residual.ensures.1 in
    rw (p.1, p.2, ← c.self.view_is) (λ t. ByPut-saved _ _ _ _ _ _ (c.in_err-save.ensures.changes t))

pub returns-in_err-save-clause-puts : goal.returns-in_err-save-clause-puts
returns-in_err-save-clause-puts g c =
    let p = err_from_is_err_and c.from_residual.result c.from_residual.ensures.1 in
    rw (p.1, p.2, ← c.self.view_is) (λ t size same g' es before scope may place r.
    SavesAndWrites-unkept g' _ _ [] es before _ _ _ _ _ refl (c.in_err-save.ensures.keeps t size same g' [] before scope (sym c.start.ensures) may place es r))

pub returns-clause-changes : goal.returns-clause-changes
returns-clause-changes g c = rw (← c.self.view_is) (λ t. ByPut-written _ _ _ (fault_of c.write.result) _ _ _ (c.in_ok-save.ensures.changes t) (c.write.ensures.writes t))

pub returns-clause-puts : goal.returns-clause-puts
returns-clause-puts g c =
    let vals = c.args.vals.now in
    let size_stays = sym (ap (λ (n : Counts). n.size) c.in_ok-save.ensures.cause) in
    rw (← c.self.view_is) (λ t size same g' es before scope may place r.
    let ground_after = subst (λ (k : ℕ). IsScope size k g') (sym c.in_ok-save.ensures.at) scope in
    SavesAndWrites-written g' _ [] es before (IsOneOf c.args.first (length vals)) (placed c.args.first vals) (fault_of c.write.result) _ _ _
    (c.in_ok-save.ensures.keeps t size same g' [] before scope (sym c.start.ensures) may place es r) (WritesKept-placed size _ g' c.args.address c.args.first vals scope may place)
    (λ entries running covered. c.write.ensures.runs t size (same ∙ size_stays) g' entries before ground_after running covered))
