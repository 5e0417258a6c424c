use Rattle.std.proofs.Common.{ℕ, ◌+◌, ◌*◌, ◌%◌, ◌^◌, ap, refl, subst, ◌∙◌}
use Rattle.std.proofs.lemmas.Option.{slice_get-get_or, get_or_from_slice_get}
use Rattle.pm_model.specs.Counts.{fault_of}
use Rattle.pm_model.specs.Changes.{Changes}
use Rattle.pud_defs.specs.declared.records.Puddle.{Puddle}
use Rattle.pud_defs.specs.Formats.Frames.{frame_at}
use Rattle.hybrid_tx.specs.PoolScopes.{pool_scope, finished_of}
use Rattle.hybrid_tx.specs.Objects.Stores.{ByPut}
use Rattle.hybrid_tx.proofs.FinishedPuddles.{finished_placed, finished_there}
use Rattle.hybrid_tx.proofs.Objects.InFrames.{ByPut-in_frame, KeepsSaving-put}
use Rattle.hybrid_tx.proofs.Tx.put_in_frame.Goals as goal

pub returns-clause-changes : goal.returns-clause-changes
returns-clause-changes g c = λ t.
    let fault = fault_of c.put.result in
    let old = g.H.Host.state c.args.h.now in
    let new = g.H.Host.state c.put.new.h in
    let log = c.args.self.now.log.gate_at in
    let there = slice_get-get_or c.args.pool.now c.args.ordinal _ c.requires.there in
    ByPut-in_frame c.args.frames c.args.pool.now c.args.ordinal c.args.word log _ c.args.vals.now fault old new there c.requires.within
    (subst (λ (k : ℕ). Changes (ByPut log (k + c.args.word) c.args.vals.now) fault old new) c.frame_at.ensures (c.put.ensures.changes t))

pub returns-clause-puts : goal.returns-clause-puts
returns-clause-puts g c = λ t e there.
    let same = get_or_from_slice_get c.args.pool.now c.args.ordinal e _ there in
    subst (λ (k : ℕ). Changes (ByPut c.args.self.now.log.gate_at (k + c.args.word) c.args.vals.now) (fault_of c.put.result) (g.H.Host.state c.args.h.now) (g.H.Host.state c.put.new.h))
    (c.frame_at.ensures ∙ ap (λ (d : ℕ × Puddle). frame_at c.args.frames d.0) same) (c.put.ensures.changes t)

pub returns-clause-saves : goal.returns-clause-saves
returns-clause-saves g c = λ t placed e there finished before redo s.
    let own = finished_of c.args.pool.now in
    let within = finished_there c.args.frames c.args.pool.now c.args.ordinal e there finished in
    let same = get_or_from_slice_get c.args.pool.now c.args.ordinal e _ there in
    KeepsSaving-put c.args.frames _ own c.args.self.now.log _ before redo (fault_of c.put.result) _ _ (finished_placed c.args.frames c.args.pool.now placed) c.requires.device c.requires.place s
    within.0 c.args.word e _ _ c.args.vals.now within.1 c.requires.some c.requires.within
    (c.word_address-address.ensures ∙ ap (λ (d : ℕ × Puddle). (d.1.base + 8 * c.args.word) % 2 ^ 64) same)
    (ap (λ (k : ℕ). k + c.args.word) (c.frame_at.ensures ∙ ap (λ (d : ℕ × Puddle). frame_at c.args.frames d.0) same))
    (λ es scope may place running. c.put.ensures.puts t _ refl (pool_scope c.args.frames own) es before scope may place running)
