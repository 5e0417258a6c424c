use Rattle.std.proofs.Common.{◌≡◌, ℕ, List, Option, Some, None, Result, Ok, Err, refl, sym, ap, subst, ◌∙◌}
use Rattle.std.specs.Prelude.{IfOk, set}
use Rattle.std.proofs.lemmas.Option.{none-some}
use Rattle.std.proofs.lemmas.Result.{err_from_is_err_and}
use Rattle.pm_model.specs.Words.{reads}
use Rattle.pm_model.specs.Moments.{State}
use Rattle.pud_defs.specs.declared.machine.Command.TheVariants as commands
use Rattle.pud_defs.specs.declared.machine.Refusal.{Refusal}
use Rattle.pud_defs.specs.declared.machine.Reply.TheVariants as replies
use Rattle.pud_defs.specs.RegistryTables.Puts.{without_pool_at}
use Rattle.pud_defs.specs.RegistryTables.Tables.{tables_of}
use Rattle.pud_defs.specs.StateMachine.Step.{world_by}
use Rattle.pud_defs.proofs.StateMachine.Steps.{refused_answer, answer_is_ok}
use Rattle.known_pool.specs.Known.{Known}
use Rattle.daemon_memory.specs.Memory.{Memory}
use Rattle.daemon_memory.specs.PoolKnowledge.{AreOnDevice}
use Rattle.daemon_memory.specs.Owning.{refusal_found, IsRecordSlot}
use Rattle.daemon_memory.specs.Moves.{MovesTo, freed_in}
use Rattle.daemon_memory.specs.Ready.{IsReady, AppliesBy}
use Rattle.pool_lines.proofs.PoolLines.Frontiers.{AppliesWith-drop}
use Rattle.daemon_memory.proofs.Commands.Leading.{AppliesLed-failed, AppliesWith-refused}
use Rattle.daemon_memory.proofs.PoolsKnown.Known.{AreOnDevice-forgotten}
use Rattle.daemon_memory.proofs.Commands.Applying.{Applies-failed, Applies-refused}
use Rattle.daemon_memory.proofs.PoolChanges.Pooling.{Applies-after, Applies-drop, drop_read}
use Rattle.daemon_memory.proofs.Commands.Keeping.{KeepsRest-changes, KeepsRest-still, KeepsRest-then}
use Rattle.daemon_memory.specs.declared.line_answer.LineAnswer.TheVariants as answers
use Rattle.daemon_memory.proofs.Commands.Acting.{acts_refused, acts_unread}
use Rattle.pool_lines.proofs.PoolLines.Made.{acts_dropping}
use Rattle.daemon_memory.proofs.Commands.CarriedOut.{ready_read}
use Rattle.pool_lines.proofs.pools.drop_for.Goals as goal
use Rattle.pm_model.proofs.Reading.{still_size}
use Rattle.daemon_memory.specs.Leading.{FreesPool}

pub returns-in_err-refusal-clause-applies : goal.returns-in_err-refusal-clause-applies
returns-in_err-refusal-clause-applies g c =
    let p = err_from_is_err_and c.from_residual.result c.from_residual.ensures.1 in
    rw (p.1, p.2) (λ t size e w ready.
    let k = c.in_err-refusal.ensures in
    AppliesLed-failed _ size w _ _ _ _ _ k.only_reads.never_cut
    (Applies-failed size w (world_by w (Some (commands.Drop c.args.client c.args.name))) c.find_owned.new.memory c.in_err-refusal.field-0.0 _ _ (k.ready t size w ready) (k.only_reads.stays t) k.only_reads.never_cut))

pub returns-in-Err-clause-reply : goal.returns-in-Err-clause-reply
returns-in-Err-clause-reply g c = λ t size w ready.
    sym (refused_answer w (commands.Drop c.args.client c.args.name) c.in-Err.refusal (sym (c.in_ok-refusal.ensures.refusal t size w ready) ∙ ap refusal_found c.in-Err.is))

pub returns-in-Err-clause-applies : goal.returns-in-Err-clause-applies
returns-in-Err-clause-applies g c = λ t size e w ready.
    let k = c.in_ok-refusal.ensures in
    let refused = sym (k.refusal t size w ready) ∙ ap refusal_found c.in-Err.is in
    AppliesWith-refused size w _ _ _ _ _ (FreesPool w.stored.frames c.args.name) (commands.Drop c.args.client c.args.name) c.in-Err.refusal refused
    (Applies-refused size w c.find_owned.new.memory (commands.Drop c.args.client c.args.name) c.in-Err.refusal _ _ (k.ready t size w ready) refused (k.only_reads.stays t))

pub returns-clause-reply : goal.returns-clause-reply
returns-clause-reply g c = λ t size w ready.
    sym (answer_is_ok w (commands.Drop c.args.client c.args.name) refl refl (sym (c.in_ok-refusal.ensures.refusal t size w ready) ∙ ap refusal_found c.in-Ok.is))

-- ---- the pool was to be dropped

pub returns-in_err-drop_pool-clause-applies : goal.returns-in_err-drop_pool-clause-applies
returns-in_err-drop_pool-clause-applies g c =
    let p = err_from_is_err_and c.from_residual-in_err-drop_pool.result c.from_residual-in_err-drop_pool.ensures.1 in
    rw (p.1, p.2) (λ t size e w ready.
    let k = c.in_ok-refusal.ensures in
    let n = c.in_err-drop_pool.ensures in
    let i = c.memory.inside in
    let now : Memory = record { frames = i.frames; active = i.opened; sessions = i.sessions; known_pools = i.known_pools } in
    let old = g.H.Host.state c.args.h.now in
    let mid = g.H.Host.state c.find_owned.new.h in
    let there = subst (λ (m : Memory). IsReady size w m old) (sym c.memory.view_is) (k.ready t size w ready) in
    let then = still_size k.only_reads e in
    let free = sym (k.refusal t size w ready) ∙ ap refusal_found c.in-Ok.is in
    let at = subst (λ (r : Result ℕ Refusal). IfOk r (IsRecordSlot w.stored.frames c.args.name (reads old.now.words))) c.in-Ok.is (k.slot t size w ready) in
    AppliesWith-drop size w c.args.client c.args.name (record now { known_pools = c.forget.new.self }) (Some c.in_err-drop_pool.field-0.0) old (g.H.Host.state c.drop_pool.new.h) c.in-Ok.slot free at
    (λ done. absurd (none-some c.in_err-drop_pool.field-0.0 (sym done)))
    (subst (λ (js : List (Option Known)). AppliesBy (MovesTo (freed_in c.in-Ok.slot)) size w (world_by w (Some (commands.Drop c.args.client c.args.name))) (record now { known_pools = js }) (Some c.in_err-drop_pool.field-0.0) old (g.H.Host.state c.drop_pool.new.h)) (sym c.forget.ensures)
    (Applies-after size w (world_by w (Some (commands.Drop c.args.client c.args.name))) now (record now { known_pools = set now.known_pools c.in-Ok.slot None }) (Some c.in_err-drop_pool.field-0.0) old mid (g.H.Host.state c.drop_pool.new.h)
    (k.only_reads.stays t)
    (λ ready_then.
    Applies-drop size w now c.args.client c.in-Ok.slot c.args.name (Some c.in_err-drop_pool.field-0.0) mid (g.H.Host.state c.drop_pool.new.h) ready_then free
    (subst (λ (s : State). IsRecordSlot w.stored.frames c.args.name (reads s.now.words) c.in-Ok.slot) (sym (k.only_reads.stays t)) at) i.frames there.frames
    (n.any t).rests (λ idle few. n.commits t size then _ refl idle few) (λ keeps off settled r here. n.changes t size then w.stored there.frames ready_then.mask keeps off settled r here)) there)))

pub returns-clause-applies : goal.returns-clause-applies
returns-clause-applies g c = λ t size e w ready.
    let k = c.in_ok-refusal.ensures in
    let n = c.in_ok-drop_pool.ensures in
    let i = c.memory.inside in
    let now : Memory = record { frames = i.frames; active = i.opened; sessions = i.sessions; known_pools = i.known_pools } in
    let old = g.H.Host.state c.args.h.now in
    let mid = g.H.Host.state c.find_owned.new.h in
    let there = subst (λ (m : Memory). IsReady size w m old) (sym c.memory.view_is) (k.ready t size w ready) in
    let then = still_size k.only_reads e in
    let free = sym (k.refusal t size w ready) ∙ ap refusal_found c.in-Ok.is in
    let at = subst (λ (r : Result ℕ Refusal). IfOk r (IsRecordSlot w.stored.frames c.args.name (reads old.now.words))) c.in-Ok.is (k.slot t size w ready) in
    let at_then = subst (λ (s : State). IsRecordSlot w.stored.frames c.args.name (reads s.now.words) c.in-Ok.slot) (sym (k.only_reads.stays t)) at in
    let less =
    drop_read size w now c.args.client c.in-Ok.slot c.args.name None mid (g.H.Host.state c.drop_pool.new.h) (subst (λ (s : State). IsReady size w now s) (sym (k.only_reads.stays t)) there) free at_then
    i.frames there.frames (λ idle few. n.commits t size then _ refl idle few) refl in
    AppliesWith-drop size w c.args.client c.args.name (record now { known_pools = c.forget.new.self }) None old (g.H.Host.state c.drop_pool.new.h) c.in-Ok.slot free at
    (λ done. subst (λ (s : State). tables_of w.stored.frames (reads (g.H.Host.state c.drop_pool.new.h).now.words) ≡ without_pool_at c.in-Ok.slot (tables_of w.stored.frames (reads s.now.words))) (k.only_reads.stays t) less)
    (subst (λ (js : List (Option Known)). AppliesBy (MovesTo (freed_in c.in-Ok.slot)) size w (world_by w (Some (commands.Drop c.args.client c.args.name))) (record now { known_pools = js }) None old (g.H.Host.state c.drop_pool.new.h)) (sym c.forget.ensures)
    (Applies-after size w (world_by w (Some (commands.Drop c.args.client c.args.name))) now (record now { known_pools = set now.known_pools c.in-Ok.slot None }) None old mid (g.H.Host.state c.drop_pool.new.h)
    (k.only_reads.stays t)
    (λ ready_then.
    Applies-drop size w now c.args.client c.in-Ok.slot c.args.name None mid (g.H.Host.state c.drop_pool.new.h) ready_then free at_then i.frames there.frames
    (n.any t).rests (λ idle few. n.commits t size then _ refl idle few) (λ keeps off settled r here. n.changes t size then w.stored there.frames ready_then.mask keeps off settled r here)) there))

-- ---- what is known about pools

pub returns-in-Err-clause-forgets : goal.returns-in-Err-clause-forgets
returns-in-Err-clause-forgets g c = λ t size w ready free.
    absurd (none-some c.in-Err.refusal (sym free ∙ sym (c.in_ok-refusal.ensures.refusal t size w ready) ∙ ap refusal_found c.in-Err.is))

pub returns-in_err-drop_pool-clause-keeps : goal.returns-in_err-drop_pool-clause-keeps
returns-in_err-drop_pool-clause-keeps g c = λ t size w ready refused.
    absurd (refused (sym (c.in_ok-refusal.ensures.refusal t size w ready) ∙ ap refusal_found c.in-Ok.is))

pub returns-clause-keeps : goal.returns-clause-keeps
returns-clause-keeps g c = λ t size w ready refused.
    absurd (refused (sym (c.in_ok-refusal.ensures.refusal t size w ready) ∙ ap refusal_found c.in-Ok.is))

pub returns-clause-forgets : goal.returns-clause-forgets
returns-clause-forgets g c = λ t size w ready free. record {
  slot = c.in-Ok.slot;
  is = subst (λ (r : Result ℕ Refusal). IfOk r (IsRecordSlot w.stored.frames c.args.name (reads (g.H.Host.state c.args.h.now).now.words))) c.in-Ok.is (c.in_ok-refusal.ensures.slot t size w ready);
  forgotten = c.forget.ensures ∙ ap (λ (m : Memory). set m.known_pools c.in-Ok.slot None) c.memory.view_is ∙ ap (λ (js : List (Option Known)). set js c.in-Ok.slot None) c.in_ok-refusal.ensures.known_pools;
}

pub invariant_of-memory : goal.invariant_of-memory
invariant_of-memory g c =
    let i = c.memory.invariant in
    (i.0, i.1, i.2, subst (AreOnDevice c.memory.inside.frames) (sym c.forget.ensures) (AreOnDevice-forgotten c.memory.inside.frames c.memory.inside.known_pools c.in-Ok.slot i.3))

pub invariant_of-memory-2 : goal.invariant_of-memory-2
invariant_of-memory-2 g c =
    let i = c.memory.invariant in
    (i.0, i.1, i.2, subst (AreOnDevice c.memory.inside.frames) (sym c.forget.ensures) (AreOnDevice-forgotten c.memory.inside.frames c.memory.inside.known_pools c.in-Ok.slot i.3))

pub returns-in_err-drop_pool-clause-rest : goal.returns-in_err-drop_pool-clause-rest
returns-in_err-drop_pool-clause-rest g c = λ t. KeepsRest-then _ _ _ (KeepsRest-still _ _ (c.in_ok-refusal.ensures.only_reads.stays t)) (KeepsRest-changes _ _ _ _ (c.in_err-drop_pool.ensures.any t))

pub returns-clause-rest : goal.returns-clause-rest
returns-clause-rest g c = λ t. KeepsRest-then _ _ _ (KeepsRest-still _ _ (c.in_ok-refusal.ensures.only_reads.stays t)) (KeepsRest-changes _ _ _ _ (c.in_ok-drop_pool.ensures.any t))

-- ---- what is done on the device

pub returns-in_err-refusal-clause-acts : goal.returns-in_err-refusal-clause-acts
returns-in_err-refusal-clause-acts g c =
    let p = err_from_is_err_and c.from_residual.result c.from_residual.ensures.1 in
    rw (p.1, p.2) (λ t size e w ready.
    let k = c.in_err-refusal.ensures.only_reads in
    acts_unread w (commands.Drop c.args.client c.args.name) _ (Err c.in_err-refusal.field-0.0) tt k.never_cut (k.stays t))

pub returns-in-Err-clause-acts : goal.returns-in-Err-clause-acts
returns-in-Err-clause-acts g c = λ t size e w ready.
    let k = c.in_ok-refusal.ensures in
    acts_refused w (commands.Drop c.args.client c.args.name) _ c.in-Err.refusal (Ok (answers.Reply (replies.No c.in-Err.refusal))) (sym (k.refusal t size w ready) ∙ ap refusal_found c.in-Err.is) (k.only_reads.stays t)

pub returns-in_err-drop_pool-clause-acts : goal.returns-in_err-drop_pool-clause-acts
returns-in_err-drop_pool-clause-acts g c =
    let p = err_from_is_err_and c.from_residual-in_err-drop_pool.result c.from_residual-in_err-drop_pool.ensures.1 in
    rw (p.1, p.2) (λ t size e w ready.
    let k = c.in_ok-refusal.ensures in
    let i = c.memory.inside in
    let now : Memory = record { frames = i.frames; active = i.opened; sessions = i.sessions; known_pools = i.known_pools } in
    let there = subst (λ (m : Memory). IsReady size w m (g.H.Host.state c.args.h.now)) (sym c.memory.view_is) (k.ready t size w ready) in
    let at = subst (λ (r : Result ℕ Refusal). IfOk r (IsRecordSlot w.stored.frames c.args.name (reads (g.H.Host.state c.args.h.now).now.words))) c.in-Ok.is (k.slot t size w ready) in
    acts_dropping size w now c.args.client c.in-Ok.slot c.args.name (Err c.in_err-drop_pool.field-0.0) _ _ _ (k.only_reads.stays t) (ready_read size w now _ _ (k.only_reads.stays t) there)
    (sym (k.refusal t size w ready) ∙ ap refusal_found c.in-Ok.is) at i.frames there.frames
    (λ idle few. c.in_err-drop_pool.ensures.commits t size (still_size k.only_reads e) _ refl idle few))

pub returns-clause-acts : goal.returns-clause-acts
returns-clause-acts g c = λ t size e w ready.
    let k = c.in_ok-refusal.ensures in
    let i = c.memory.inside in
    let now : Memory = record { frames = i.frames; active = i.opened; sessions = i.sessions; known_pools = i.known_pools } in
    let there = subst (λ (m : Memory). IsReady size w m (g.H.Host.state c.args.h.now)) (sym c.memory.view_is) (k.ready t size w ready) in
    let at = subst (λ (r : Result ℕ Refusal). IfOk r (IsRecordSlot w.stored.frames c.args.name (reads (g.H.Host.state c.args.h.now).now.words))) c.in-Ok.is (k.slot t size w ready) in
    acts_dropping size w now c.args.client c.in-Ok.slot c.args.name (Ok (answers.Reply replies.Ok)) _ _ _ (k.only_reads.stays t) (ready_read size w now _ _ (k.only_reads.stays t) there)
    (sym (k.refusal t size w ready) ∙ ap refusal_found c.in-Ok.is) at i.frames there.frames
    (λ idle few. c.in_ok-drop_pool.ensures.commits t size (still_size k.only_reads e) _ refl idle few)
