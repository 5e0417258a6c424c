use Rattle.std.proofs.Common.{◌≡◌, ◌⊎◌, inl, inr, ℕ, [], ◌∷◌, ap, sym, refl, subst, length, ◌∙◌, arith}
use Rattle.std.proofs.lemmas.Result.{err_from_is_err_and}
use Rattle.pm_model.specs.Counts.{Counts, fault_of}
use Rattle.pm_model.specs.Changes.{placed, written}
use Rattle.log_store.proofs.Counted.{counts_then}
use Rattle.word_transaction.specs.Scope.{IsScope}
use Rattle.word_transaction.specs.Running.{IsOneOf}
use Rattle.word_transaction.proofs.Kept.{WritesKept-placed, WritesKept-among, SavesAndWrites-unkept, SavesAndWrites-written, SavesAndWrites-half, SavesAndWrites-both}
use Rattle.hybrid_tx.proofs.Objects.Putting.{ByPutBoth-saved, ByPutBoth-half, ByPutBoth-written, beyond_gate}
use Rattle.hybrid_tx.proofs.Tx.put_both.Goals as goal

pub returns-in_err-save_both-clause-changes : goal.returns-in_err-save_both-clause-changes
returns-in_err-save_both-clause-changes g c =
    let p = err_from_is_err_and c.from_residual.result c.from_residual.ensures.1 in
    rw (p.1, p.2, ← c.self.view_is) (λ t. ByPutBoth-saved _ _ _ _ _ _ _ _ (c.in_err-save_both.ensures.changes t))

pub returns-in_err-save_both-clause-puts : goal.returns-in_err-save_both-clause-puts
returns-in_err-save_both-clause-puts g c =
    let p = err_from_is_err_and c.from_residual.result c.from_residual.ensures.1 in
    rw (p.1, p.2, ← c.self.view_is) (λ t size same g' es before scope may place may2 place2 r.
    SavesAndWrites-unkept g' _ _ [] es before _ _ _ _ _ refl (c.in_err-save_both.ensures.keeps t size same g' [] before scope (sym c.start.ensures) may place may2 place2 es r))

pub returns-in_err-write-clause-changes : goal.returns-in_err-write-clause-changes
returns-in_err-write-clause-changes g c =
    let p = err_from_is_err_and c.from_residual-in_err-write.result c.from_residual-in_err-write.ensures.1 in
    rw (p.1, p.2, ← c.self.view_is) (λ t. ByPutBoth-half _ _ _ _ _ _ _ _ _ (c.in_ok-save_both.ensures.changes t) (c.in_err-write.ensures.writes t))

pub returns-in_err-write-clause-puts : goal.returns-in_err-write-clause-puts
returns-in_err-write-clause-puts g c =
    let p = err_from_is_err_and c.from_residual-in_err-write.result c.from_residual-in_err-write.ensures.1 in
    let vals = c.args.vals.now in
    let size_stays = sym (ap (λ (n : Counts). n.size) c.in_ok-save_both.ensures.cause) in
    rw (p.1, p.2, ← c.self.view_is) (λ t size same g' es before scope may place may2 place2 r.
    let ground_after = subst (λ (k : ℕ). IsScope size k g') (sym c.in_ok-save_both.ensures.at) scope in
    let all = λ (k : ℕ). IsOneOf c.args.first (length vals) k ⊎ (k ≡ c.args.second) in
    SavesAndWrites-half g' _ [] es before (placed c.args.first vals) (placed c.args.second (c.args.value ∷ [])) _ _ _
    (SavesAndWrites-written g' _ [] es before all (placed c.args.first vals) _ _ _ _
    (c.in_ok-save_both.ensures.keeps t size same g' [] before scope (sym c.start.ensures) may place may2 place2 es r)
    (WritesKept-among g' (IsOneOf c.args.first (length vals)) all (placed c.args.first vals) (λ k one. inl one) (WritesKept-placed size _ g' c.args.address c.args.first vals scope may place))
    (λ entries running covered. c.in_err-write.ensures.runs t size (same ∙ size_stays) g' entries before ground_after running covered)))

pub returns-clause-changes : goal.returns-clause-changes
returns-clause-changes g c =
    rw (← c.self.view_is) (λ t.
    ByPutBoth-written _ _ _ _ _ (fault_of c.write-2.result) _ _ _ _ (c.in_ok-save_both.ensures.changes t) (c.in_ok-write.ensures.writes t) (c.write-2.ensures.writes t))

pub returns-clause-puts : goal.returns-clause-puts
returns-clause-puts g c =
    let vals = c.args.vals.now in
    let size_stays = sym (ap (λ (n : Counts). n.size) c.in_ok-save_both.ensures.cause) in
    let size_still = sym (ap (λ (n : Counts). n.size) c.in_ok-write.ensures.cause) in
    rw (← c.self.view_is) (λ t size same g' es before scope may place may2 place2 r.
    let ground_after = subst (λ (k : ℕ). IsScope size k g') (sym c.in_ok-save_both.ensures.at) scope in
    let all = λ (k : ℕ). IsOneOf c.args.first (length vals) k ⊎ (k ≡ c.args.second) in
    let single = c.args.value ∷ [] in
    SavesAndWrites-both g' _ [] es before all (placed c.args.first vals) (placed c.args.second single) (fault_of c.write-2.result) _ _ _ _
    (c.in_ok-save_both.ensures.keeps t size same g' [] before scope (sym c.start.ensures) may place may2 place2 es r)
    (WritesKept-among g' (IsOneOf c.args.first (length vals)) all (placed c.args.first vals) (λ k one. inl one) (WritesKept-placed size _ g' c.args.address c.args.first vals scope may place))
    (WritesKept-among g' (IsOneOf c.args.second 1) all (placed c.args.second single) (λ k one. inr (let low = one.0 in let high = one.1 in omega arith))
    (WritesKept-placed size _ g' c.args.address2 c.args.second single scope may2 place2))
    (λ entries running covered. c.in_ok-write.ensures.runs t size (same ∙ size_stays) g' entries before ground_after running covered)
    (λ entries running covered. c.write-2.ensures.runs t size (same ∙ size_stays ∙ size_still) g' entries before ground_after running covered))

-- ---- what comes to count in the log

pub returns-in_err-save_both-clause-at_once : goal.returns-in_err-save_both-clause-at_once
returns-in_err-save_both-clause-at_once g c =
    let p = err_from_is_err_and c.from_residual.result c.from_residual.ensures.1 in
    rw (p.1, p.2, ← c.self.view_is) (λ t low high. c.in_err-save_both.ensures.at_once t)

pub returns-in_err-write-clause-at_once : goal.returns-in_err-write-clause-at_once
returns-in_err-write-clause-at_once g c =
    let p = err_from_is_err_and c.from_residual-in_err-write.result c.from_residual-in_err-write.ensures.1 in
    rw (p.1, p.2, ← c.self.view_is) (λ t low high.
    counts_then _ _ (written (placed c.args.first c.args.vals.now)) _ _ _ _ (beyond_gate _ c.args.first c.args.vals.now low) (c.in_ok-save_both.ensures.at_once t) (c.in_err-write.ensures.writes t).changes)

pub returns-clause-at_once : goal.returns-clause-at_once
returns-clause-at_once g c =
    rw (← c.self.view_is) (λ t low high.
    counts_then _ _ (written (placed c.args.second (c.args.value ∷ []))) (fault_of c.write-2.result) _ _ _ (beyond_gate _ c.args.second (c.args.value ∷ []) high)
    (counts_then _ _ (written (placed c.args.first c.args.vals.now)) _ _ _ _ (beyond_gate _ c.args.first c.args.vals.now low) (c.in_ok-save_both.ensures.at_once t) (c.in_ok-write.ensures.writes t).changes)
    (c.write-2.ensures.writes t).changes)
