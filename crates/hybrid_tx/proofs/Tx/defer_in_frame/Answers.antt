use Rattle.std.proofs.Common.{ℕ, ◌+◌, ◌*◌, ◌%◌, ◌^◌, Ok, Err, rules, refl, ap, ◌∙◌}
use Rattle.std.proofs.lemmas.Option.{get_or_from_slice_get}
use Rattle.std.proofs.lemmas.Result.{err_from_is_err_and}
use Rattle.pud_defs.specs.declared.records.Puddle.{Puddle}
use Rattle.log_store.specs.Store.{OpenLog}
use Rattle.hybrid_tx.specs.PoolScopes.{pool_scope, finished_of}
use Rattle.hybrid_tx.proofs.FinishedPuddles.{finished_placed, finished_there}
use Rattle.hybrid_tx.proofs.Objects.InFrames.{KeepsSaving-deferred}
use Rattle.hybrid_tx.proofs.Tx.defer_in_frame.Goals as goal

pub returns-in_err-defer-clause-defers : goal.returns-in_err-defer-clause-defers
returns-in_err-defer-clause-defers g c =
    let p = err_from_is_err_and c.from_residual.result c.from_residual.ensures.1 in
    rw (p.1, p.2, ← c.self.view_is) (λ t frames placed device apart e there finished before redo s.
    let own = finished_of c.args.pool.now in
    let within = finished_there frames c.args.pool.now c.args.ordinal e there finished in
    let log = c.self.inside.words in
    let same = get_or_from_slice_get c.args.pool.now c.args.ordinal e _ there in
    KeepsSaving-deferred frames _ own c.args.word e within.0 log _ before redo _ c.args.value (Err _) _ _
    (finished_placed frames c.args.pool.now placed) device apart within.1 c.requires.within (c.word_address-field.ensures ∙ ap (λ (d : ℕ × Puddle). (d.1.base + 8 * c.args.word) % 2 ^ 64) same) s
    (ap (λ (l : OpenLog). l.gate_at) c.in_err-defer.ensures.failed) tt
    (λ es scope may running. c.in_err-defer.ensures.runs t _ refl (pool_scope frames own) es before scope may running))

pub returns-clause-defers : goal.returns-clause-defers
returns-clause-defers g c =
    rw (← c.self.view_is) (λ t frames placed device apart e there finished before redo s.
    let own = finished_of c.args.pool.now in
    let within = finished_there frames c.args.pool.now c.args.ordinal e there finished in
    let log = c.self.inside.words in
    let same = get_or_from_slice_get c.args.pool.now c.args.ordinal e _ there in
    KeepsSaving-deferred frames _ own c.args.word e within.0 log _ before redo _ c.args.value (Ok _) _ _
    (finished_placed frames c.args.pool.now placed) device apart within.1 c.requires.within (c.word_address-field.ensures ∙ ap (λ (d : ℕ × Puddle). (d.1.base + 8 * c.args.word) % 2 ^ 64) same) s
    (search rules) c.in_ok-defer.ensures.asked
    (λ es scope may running. c.in_ok-defer.ensures.runs t _ refl (pool_scope frames own) es before scope may running))
