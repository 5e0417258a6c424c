use Rattle.std.proofs.Common.{rules, ◌≡◌, ℕ, List, true, false, is_some, Some, None, Ok, Err, refl, sym, ap, subst, ◌∙◌}
use Rattle.std.proofs.lemmas.Option.{none-some}
use Rattle.std.proofs.lemmas.Result.{err_from_is_err_and}
use Rattle.pm_model.specs.Words.{reads}
use Rattle.pm_model.specs.Moments.{State}
use Rattle.pm_model.proofs.Reading.{still_size}
use Rattle.pud_defs.specs.declared.machine.Command.TheVariants as commands
use Rattle.pud_defs.specs.declared.machine.Refusal.TheVariants as refusals
use Rattle.pud_defs.specs.declared.machine.Reply.TheVariants as replies
use Rattle.pud_defs.specs.StateMachine.World.{World}
use Rattle.pud_defs.proofs.StateMachine.Steps.{refused_answer, answer_is_ok}
use Rattle.daemon_memory.specs.Memory.{Memory}
use Rattle.pud_defs.specs.declared.records.Puddle.{Puddle}
use Rattle.known_pool.specs.Known.{with_puddles}
use Rattle.daemon_memory.specs.PoolKnowledge.{puddles_known, known_pool_in, known_puddles_in}
use Rattle.daemon_memory.specs.Moves.{MovesTo, led_in}
use Rattle.daemon_memory.specs.Ready.{IsReady, AppliesBy}
use Rattle.lazy_rewrite.specs.Frontiers.{steps_from, frontiers_of}
use Rattle.pool_lines.proofs.PoolLines.Frontiers.{AppliesWith-rewrite}
use Rattle.daemon_memory.proofs.Commands.Leading.{AppliesLed-failed, AppliesWith-refused}
use Rattle.daemon_memory.proofs.Commands.Applying.{Applies-failed, Applies-refused}
use Rattle.daemon_memory.proofs.PoolChanges.Pooling.{Applies-after}
use Rattle.daemon_memory.specs.Finding.{IsRecordOf}
use Rattle.daemon_memory.proofs.Commands.CarriedOut.{ready_read}
use Rattle.daemon_memory.proofs.PoolsFound.Found.{named, unnamed, slot_is}
use Rattle.pool_lines.proofs.PoolLines.Rewritten.{refused_unnamed, refused_by_graph, world_of_rewrite, is_there, DoesSteps-stepped, stepped_known, acts_stepping}
use Rattle.daemon_memory.specs.declared.line_answer.LineAnswer.TheVariants as answers
use Rattle.daemon_memory.proofs.Commands.Acting.{acts_refused, acts_unread, acts_free}
use Rattle.pool_lines.proofs.rewriting.rewrite_for.Goals as goal
use Rattle.pool_lines.specs.Effects.{LeadsBySteps}

-- ---- no pool has the name

pub returns-in_err-slot-clause-applies : goal.returns-in_err-slot-clause-applies
returns-in_err-slot-clause-applies g c =
    let p = err_from_is_err_and c.from_residual.result c.from_residual.ensures.1 in
    rw (p.1, p.2) (λ t size e w ready.
    let k = c.in_err-slot.ensures in
    AppliesLed-failed _ size w _ _ _ _ _ k.only_reads.never_cut (Applies-failed size w _ _ c.in_err-slot.field-0.0 _ _ ready (k.only_reads.stays t) k.only_reads.never_cut))

pub returns-in_default-clause-reply : goal.returns-in_default-clause-reply
returns-in_default-clause-reply g c = λ t size w ready.
    let none = unnamed size w _ _ ready 0 c.args.name (sym c.in_default.is ∙ c.in_ok-slot.ensures.found t _ refl w.stored.frames) in
    sym (refused_answer w (commands.Rewrite c.args.name c.args.n) refusals.Pool (refused_unnamed w c.args.name c.args.n none))

pub returns-in_default-clause-applies : goal.returns-in_default-clause-applies
returns-in_default-clause-applies g c = λ t size e w ready.
    let none = unnamed size w _ _ ready 0 c.args.name (sym c.in_default.is ∙ c.in_ok-slot.ensures.found t _ refl w.stored.frames) in
    let refused = refused_unnamed w c.args.name c.args.n none in
    AppliesWith-refused size w _ _ _ _ _ (LeadsBySteps w.stored.frames c.args.name c.args.n) (commands.Rewrite c.args.name c.args.n) refusals.Pool refused
    (Applies-refused size w _ (commands.Rewrite c.args.name c.args.n) refusals.Pool _ _ ready refused (c.in_ok-slot.ensures.only_reads.stays t))

-- ---- it has no graph

pub returns-in_err-lacks_graph-clause-applies : goal.returns-in_err-lacks_graph-clause-applies
returns-in_err-lacks_graph-clause-applies g c =
    let p = err_from_is_err_and c.from_residual-in_err-lacks_graph.result c.from_residual-in_err-lacks_graph.ensures.1 in
    rw (p.1, p.2) (λ t size e w ready.
    let k = c.in_err-lacks_graph.ensures in
    let same = c.in_ok-slot.ensures.only_reads.stays t in
    let before = ready_read size w _ _ _ same ready in
    AppliesLed-failed _ size w _ _ _ _ _ k.only_reads.never_cut
    (Applies-failed size w _ _ c.in_err-lacks_graph.field-0.0 _ _ (ready_read size w _ _ _ (sym same) (k.ready t size w before)) (k.only_reads.stays t ∙ same) k.only_reads.never_cut))

pub returns-then-branch-clause-reply : goal.returns-then-branch-clause-reply
returns-then-branch-clause-reply g c = λ t size w ready.
    let there = sym c.in-Some.is ∙ c.in_ok-slot.ensures.found t _ refl w.stored.frames in
    let same = c.in_ok-slot.ensures.only_reads.stays t in
    let before = ready_read size w _ _ _ same ready in
    let lacks = c.in_ok-lacks_graph.ensures.lacks t size w before c.args.name c.in-Some.field-0-1 (subst (λ (s : State). IsRecordOf w.stored.frames c.args.name (reads s.now.words) c.in-Some.slot c.in-Some.field-0-1) (sym same) there) in
    sym (refused_answer w (commands.Rewrite c.args.name c.args.n) refusals.Wild
    (refused_by_graph w c.args.name c.args.n _ true (named size w _ _ ready 0 c.args.name c.in-Some.slot c.in-Some.field-0-1 there) (sym c.if-branch.true ∙ lacks)))

pub returns-then-branch-clause-applies : goal.returns-then-branch-clause-applies
returns-then-branch-clause-applies g c = λ t size e w ready.
    let there = sym c.in-Some.is ∙ c.in_ok-slot.ensures.found t _ refl w.stored.frames in
    let same = c.in_ok-slot.ensures.only_reads.stays t in
    let before = ready_read size w _ _ _ same ready in
    let k = c.in_ok-lacks_graph.ensures in
    let lacks = k.lacks t size w before c.args.name c.in-Some.field-0-1 (subst (λ (s : State). IsRecordOf w.stored.frames c.args.name (reads s.now.words) c.in-Some.slot c.in-Some.field-0-1) (sym same) there) in
    let refused = refused_by_graph w c.args.name c.args.n _ true (named size w _ _ ready 0 c.args.name c.in-Some.slot c.in-Some.field-0-1 there) (sym c.if-branch.true ∙ lacks) in
    AppliesWith-refused size w _ _ _ _ _ (LeadsBySteps w.stored.frames c.args.name c.args.n) (commands.Rewrite c.args.name c.args.n) refusals.Wild refused
    (Applies-refused size w _ (commands.Rewrite c.args.name c.args.n) refusals.Wild _ _ (ready_read size w _ _ _ (sym same) (k.ready t size w before))
    refused (k.only_reads.stays t ∙ same))

-- ---- its steps are done

pub returns-in_err-_done-clause-applies : goal.returns-in_err-_done-clause-applies
returns-in_err-_done-clause-applies g c =
    let p = err_from_is_err_and c.from_residual-in_err-_done.result c.from_residual-in_err-_done.ensures.1 in
    rw (p.1, p.2) (λ t size e w ready.
    let there = sym c.in-Some.is ∙ c.in_ok-slot.ensures.found t _ refl w.stored.frames in
    let same = c.in_ok-slot.ensures.only_reads.stays t in
    let before = ready_read size w _ _ _ same ready in
    let k = c.in_ok-lacks_graph.ensures in
    let lacks = k.lacks t size w before c.args.name c.in-Some.field-0-1 (subst (λ (s : State). IsRecordOf w.stored.frames c.args.name (reads s.now.words) c.in-Some.slot c.in-Some.field-0-1) (sym same) there) in
    let free = refused_by_graph w c.args.name c.args.n _ false (named size w _ _ ready 0 c.args.name c.in-Some.slot c.in-Some.field-0-1 there) (sym c.if-branch.false ∙ lacks) in
    let known = subst (λ (m : Memory). true ≡ is_some (known_puddles_in m.known_pools c.in-Some.slot)) (sym c.memory.view_is) (k.known c.if-branch.false refl) in
    let i = c.memory.inside in
    let now : Memory = record { frames = i.frames; active = i.opened; sessions = i.sessions; known_pools = i.known_pools } in
    let then = subst (λ (m : Memory). IsReady size w m (g.H.Host.state c.find.new.h)) (sym c.memory.view_is) (k.ready t size w before) in
    let stays = k.only_reads.stays t ∙ same in
    let start = ready_read size w now _ _ (sym same) then in
    let pool = is_there (known_pool_in i.known_pools c.in-Some.slot) known in
    let it : (at : List (ℕ × Puddle)) × (known_puddles_in i.known_pools c.in-Some.slot ≡ Some at) = (pool.0.puddles, ap puddles_known pool.1) in
    AppliesWith-rewrite size w now (record now { known_pools = c.step_in.new.known_pools }) c.args.name c.args.n c.in-Some.slot it.0 (Some c.in_err-_done.field-0.0) (g.H.Host.state c.args.h.now) (g.H.Host.state c.step_in.new.h) start (search rules) it.1 free
    (world_of_rewrite w c.args.name c.args.n free) (slot_is size w _ _ ready 0 c.args.name c.in-Some.slot c.in-Some.field-0-1 there) (λ done. absurd (none-some c.in_err-_done.field-0.0 (sym done)))
    (subst (λ (v : World). AppliesBy (MovesTo (led_in c.in-Some.slot (frontiers_of (steps_from c.args.n it.0)))) size w v (record now { known_pools = c.step_in.new.known_pools }) (Some c.in_err-_done.field-0.0) (g.H.Host.state c.args.h.now) (g.H.Host.state c.step_in.new.h)) (sym (world_of_rewrite w c.args.name c.args.n free))
    (Applies-after size w w now (record now { known_pools = c.step_in.new.known_pools }) (Some c.in_err-_done.field-0.0) (g.H.Host.state c.args.h.now) (g.H.Host.state c.lacks_graph.new.h) (g.H.Host.state c.step_in.new.h) stays
    (λ ready_then. c.in_err-_done.ensures.applies t size (still_size k.only_reads (still_size c.in_ok-slot.ensures.only_reads e)) it.0 it.1 w i.opened i.sessions ready_then) start)))

pub returns-clause-reply : goal.returns-clause-reply
returns-clause-reply g c = λ t size w ready.
    let there = sym c.in-Some.is ∙ c.in_ok-slot.ensures.found t _ refl w.stored.frames in
    let same = c.in_ok-slot.ensures.only_reads.stays t in
    let before = ready_read size w _ _ _ same ready in
    let lacks = c.in_ok-lacks_graph.ensures.lacks t size w before c.args.name c.in-Some.field-0-1 (subst (λ (s : State). IsRecordOf w.stored.frames c.args.name (reads s.now.words) c.in-Some.slot c.in-Some.field-0-1) (sym same) there) in
    sym (answer_is_ok w (commands.Rewrite c.args.name c.args.n) refl refl
    (refused_by_graph w c.args.name c.args.n _ false (named size w _ _ ready 0 c.args.name c.in-Some.slot c.in-Some.field-0-1 there) (sym c.if-branch.false ∙ lacks)))

pub returns-clause-applies : goal.returns-clause-applies
returns-clause-applies g c = λ t size e w ready.
    let there = sym c.in-Some.is ∙ c.in_ok-slot.ensures.found t _ refl w.stored.frames in
    let same = c.in_ok-slot.ensures.only_reads.stays t in
    let before = ready_read size w _ _ _ same ready in
    let k = c.in_ok-lacks_graph.ensures in
    let lacks = k.lacks t size w before c.args.name c.in-Some.field-0-1 (subst (λ (s : State). IsRecordOf w.stored.frames c.args.name (reads s.now.words) c.in-Some.slot c.in-Some.field-0-1) (sym same) there) in
    let free = refused_by_graph w c.args.name c.args.n _ false (named size w _ _ ready 0 c.args.name c.in-Some.slot c.in-Some.field-0-1 there) (sym c.if-branch.false ∙ lacks) in
    let known = subst (λ (m : Memory). true ≡ is_some (known_puddles_in m.known_pools c.in-Some.slot)) (sym c.memory.view_is) (k.known c.if-branch.false refl) in
    let i = c.memory.inside in
    let now : Memory = record { frames = i.frames; active = i.opened; sessions = i.sessions; known_pools = i.known_pools } in
    let then = subst (λ (m : Memory). IsReady size w m (g.H.Host.state c.find.new.h)) (sym c.memory.view_is) (k.ready t size w before) in
    let stays = k.only_reads.stays t ∙ same in
    let start = ready_read size w now _ _ (sym same) then in
    let pool = is_there (known_pool_in i.known_pools c.in-Some.slot) known in
    let it : (at : List (ℕ × Puddle)) × (known_puddles_in i.known_pools c.in-Some.slot ≡ Some at) = (pool.0.puddles, ap puddles_known pool.1) in
    AppliesWith-rewrite size w now (record now { known_pools = c.step_in.new.known_pools }) c.args.name c.args.n c.in-Some.slot it.0 None (g.H.Host.state c.args.h.now) (g.H.Host.state c.step_in.new.h) start (search rules) it.1 free
    (world_of_rewrite w c.args.name c.args.n free) (slot_is size w _ _ ready 0 c.args.name c.in-Some.slot c.in-Some.field-0-1 there) (λ done. stepped_known i.known_pools c.step_in.new.known_pools c.in-Some.slot it.0 (with_puddles (steps_from c.args.n it.0) pool.0) it.1 (c.in_ok-_done.ensures.moves pool.0 pool.1))
    (subst (λ (v : World). AppliesBy (MovesTo (led_in c.in-Some.slot (frontiers_of (steps_from c.args.n it.0)))) size w v (record now { known_pools = c.step_in.new.known_pools }) None (g.H.Host.state c.args.h.now) (g.H.Host.state c.step_in.new.h)) (sym (world_of_rewrite w c.args.name c.args.n free))
    (Applies-after size w w now (record now { known_pools = c.step_in.new.known_pools }) None (g.H.Host.state c.args.h.now) (g.H.Host.state c.lacks_graph.new.h) (g.H.Host.state c.step_in.new.h) stays
    (λ ready_then. c.in_ok-_done.ensures.applies t size (still_size k.only_reads (still_size c.in_ok-slot.ensures.only_reads e)) it.0 it.1 w i.opened i.sessions ready_then) start))

-- ---- the steps that were done

pub returns-in_default-clause-moves : goal.returns-in_default-clause-moves
returns-in_default-clause-moves g c = λ t size e w ready free.
    let none = unnamed size w _ _ ready 0 c.args.name (sym c.in_default.is ∙ c.in_ok-slot.ensures.found t _ refl w.stored.frames) in
    absurd (none-some refusals.Pool (sym free ∙ refused_unnamed w c.args.name c.args.n none))

pub returns-then-branch-clause-moves : goal.returns-then-branch-clause-moves
returns-then-branch-clause-moves g c = λ t size e w ready free.
    let there = sym c.in-Some.is ∙ c.in_ok-slot.ensures.found t _ refl w.stored.frames in
    let same = c.in_ok-slot.ensures.only_reads.stays t in
    let before = ready_read size w _ _ _ same ready in
    let lacks = c.in_ok-lacks_graph.ensures.lacks t size w before c.args.name c.in-Some.field-0-1 (subst (λ (s : State). IsRecordOf w.stored.frames c.args.name (reads s.now.words) c.in-Some.slot c.in-Some.field-0-1) (sym same) there) in
    absurd (none-some refusals.Wild (sym free
    ∙ refused_by_graph w c.args.name c.args.n _ true (named size w _ _ ready 0 c.args.name c.in-Some.slot c.in-Some.field-0-1 there) (sym c.if-branch.true ∙ lacks)))

pub returns-clause-moves : goal.returns-clause-moves
returns-clause-moves g c = λ t size e w ready free.
    let there = sym c.in-Some.is ∙ c.in_ok-slot.ensures.found t _ refl w.stored.frames in
    let same = c.in_ok-slot.ensures.only_reads.stays t in
    let k = c.in_ok-lacks_graph.ensures in
    let known = subst (λ (m : Memory). true ≡ is_some (known_puddles_in m.known_pools c.in-Some.slot)) (sym c.memory.view_is) (k.known c.if-branch.false refl) in
    let i = c.memory.inside in
    let now : Memory = record { frames = i.frames; active = i.opened; sessions = i.sessions; known_pools = i.known_pools } in
    let then = subst (λ (m : Memory). IsReady size w m (g.H.Host.state c.find.new.h)) (sym c.memory.view_is) (k.ready t size w (ready_read size w _ _ _ same ready)) in
    let stays = k.only_reads.stays t ∙ same in
    let pool = is_there (known_pool_in i.known_pools c.in-Some.slot) known in
    let at : (ps : List (ℕ × Puddle)) × (known_puddles_in i.known_pools c.in-Some.slot ≡ Some ps) = (pool.0.puddles, ap puddles_known pool.1) in
    let done = c.in_ok-_done.ensures.applies t size (still_size k.only_reads (still_size c.in_ok-slot.ensures.only_reads e)) at.0 at.1 w i.opened i.sessions (ready_read size w now _ _ (k.only_reads.stays t) then) in
    DoesSteps-stepped size w i.frames i.opened i.sessions i.known_pools (g.H.Host.state c.args.h.now) (ready_read size w now _ _ (sym same) then) c.in-Some.slot (search rules) pool.0 pool.1 c.args.name c.args.n c.step_in.new.known_pools
    (g.H.Host.state c.step_in.new.h) (slot_is size w _ _ ready 0 c.args.name c.in-Some.slot c.in-Some.field-0-1 there) (c.in_ok-_done.ensures.moves pool.0 pool.1) (done.ready refl)

-- ---- what is done on the device

pub returns-in_err-slot-clause-acts : goal.returns-in_err-slot-clause-acts
returns-in_err-slot-clause-acts g c =
    let p = err_from_is_err_and c.from_residual.result c.from_residual.ensures.1 in
    rw (p.1, p.2) (λ t size e w ready.
    let k = c.in_err-slot.ensures.only_reads in
    acts_unread w (commands.Rewrite c.args.name c.args.n) _ (Err c.in_err-slot.field-0.0) tt k.never_cut (k.stays t))

pub returns-in_default-clause-acts : goal.returns-in_default-clause-acts
returns-in_default-clause-acts g c = λ t size e w ready.
    let none = unnamed size w _ _ ready 0 c.args.name (sym c.in_default.is ∙ c.in_ok-slot.ensures.found t _ refl w.stored.frames) in
    acts_refused w (commands.Rewrite c.args.name c.args.n) _ refusals.Pool (Ok (answers.Reply (replies.No refusals.Pool))) (refused_unnamed w c.args.name c.args.n none) (c.in_ok-slot.ensures.only_reads.stays t)

pub returns-in_err-lacks_graph-clause-acts : goal.returns-in_err-lacks_graph-clause-acts
returns-in_err-lacks_graph-clause-acts g c =
    let p = err_from_is_err_and c.from_residual-in_err-lacks_graph.result c.from_residual-in_err-lacks_graph.ensures.1 in
    rw (p.1, p.2) (λ t size e w ready.
    let k = c.in_err-lacks_graph.ensures.only_reads in
    acts_unread w (commands.Rewrite c.args.name c.args.n) _ (Err c.in_err-lacks_graph.field-0.0) tt k.never_cut (k.stays t ∙ c.in_ok-slot.ensures.only_reads.stays t))

pub returns-then-branch-clause-acts : goal.returns-then-branch-clause-acts
returns-then-branch-clause-acts g c = λ t size e w ready.
    let there = sym c.in-Some.is ∙ c.in_ok-slot.ensures.found t _ refl w.stored.frames in
    let same = c.in_ok-slot.ensures.only_reads.stays t in
    let before = ready_read size w _ _ _ same ready in
    let k = c.in_ok-lacks_graph.ensures in
    let lacks = k.lacks t size w before c.args.name c.in-Some.field-0-1 (subst (λ (s : State). IsRecordOf w.stored.frames c.args.name (reads s.now.words) c.in-Some.slot c.in-Some.field-0-1) (sym same) there) in
    let refused = refused_by_graph w c.args.name c.args.n _ true (named size w _ _ ready 0 c.args.name c.in-Some.slot c.in-Some.field-0-1 there) (sym c.if-branch.true ∙ lacks) in
    acts_refused w (commands.Rewrite c.args.name c.args.n) _ refusals.Wild (Ok (answers.Reply (replies.No refusals.Wild))) refused (k.only_reads.stays t ∙ same)

pub returns-in_err-_done-clause-acts : goal.returns-in_err-_done-clause-acts
returns-in_err-_done-clause-acts g c =
    let p = err_from_is_err_and c.from_residual-in_err-_done.result c.from_residual-in_err-_done.ensures.1 in
    rw (p.1, p.2) (λ t size e w ready.
    let there = sym c.in-Some.is ∙ c.in_ok-slot.ensures.found t _ refl w.stored.frames in
    let same = c.in_ok-slot.ensures.only_reads.stays t in
    let before = ready_read size w _ _ _ same ready in
    let k = c.in_ok-lacks_graph.ensures in
    let lacks = k.lacks t size w before c.args.name c.in-Some.field-0-1 (subst (λ (s : State). IsRecordOf w.stored.frames c.args.name (reads s.now.words) c.in-Some.slot c.in-Some.field-0-1) (sym same) there) in
    let free = refused_by_graph w c.args.name c.args.n _ false (named size w _ _ ready 0 c.args.name c.in-Some.slot c.in-Some.field-0-1 there) (sym c.if-branch.false ∙ lacks) in
    let known = subst (λ (m : Memory). true ≡ is_some (known_puddles_in m.known_pools c.in-Some.slot)) (sym c.memory.view_is) (k.known c.if-branch.false refl) in
    let i = c.memory.inside in
    let now : Memory = record { frames = i.frames; active = i.opened; sessions = i.sessions; known_pools = i.known_pools } in
    let then = subst (λ (m : Memory). IsReady size w m (g.H.Host.state c.find.new.h)) (sym c.memory.view_is) (k.ready t size w before) in
    let pool = is_there (known_pool_in i.known_pools c.in-Some.slot) known in
    acts_free w (commands.Rewrite c.args.name c.args.n) _ (Err c.in_err-_done.field-0.0) free
    (acts_stepping size w now (g.H.Host.state c.args.h.now) (g.H.Host.state c.lacks_graph.new.h) (g.H.Host.state c.step_in.new.h) (k.only_reads.stays t ∙ same) (ready_read size w now _ _ (sym same) then) c.args.name c.args.n c.in-Some.slot
    pool.0.puddles (ap puddles_known pool.1) (slot_is size w _ _ ready 0 c.args.name c.in-Some.slot c.in-Some.field-0-1 there) (Some c.in_err-_done.field-0.0)
    (λ idle low. c.in_err-_done.ensures.acts t size (still_size k.only_reads (still_size c.in_ok-slot.ensures.only_reads e)) idle pool.0.puddles (ap puddles_known pool.1) low)))

pub returns-clause-acts : goal.returns-clause-acts
returns-clause-acts g c = λ t size e w ready.
    let there = sym c.in-Some.is ∙ c.in_ok-slot.ensures.found t _ refl w.stored.frames in
    let same = c.in_ok-slot.ensures.only_reads.stays t in
    let before = ready_read size w _ _ _ same ready in
    let k = c.in_ok-lacks_graph.ensures in
    let lacks = k.lacks t size w before c.args.name c.in-Some.field-0-1 (subst (λ (s : State). IsRecordOf w.stored.frames c.args.name (reads s.now.words) c.in-Some.slot c.in-Some.field-0-1) (sym same) there) in
    let free = refused_by_graph w c.args.name c.args.n _ false (named size w _ _ ready 0 c.args.name c.in-Some.slot c.in-Some.field-0-1 there) (sym c.if-branch.false ∙ lacks) in
    let known = subst (λ (m : Memory). true ≡ is_some (known_puddles_in m.known_pools c.in-Some.slot)) (sym c.memory.view_is) (k.known c.if-branch.false refl) in
    let i = c.memory.inside in
    let now : Memory = record { frames = i.frames; active = i.opened; sessions = i.sessions; known_pools = i.known_pools } in
    let then = subst (λ (m : Memory). IsReady size w m (g.H.Host.state c.find.new.h)) (sym c.memory.view_is) (k.ready t size w before) in
    let pool = is_there (known_pool_in i.known_pools c.in-Some.slot) known in
    acts_free w (commands.Rewrite c.args.name c.args.n) _ (Ok (answers.Reply replies.Ok)) free
    (acts_stepping size w now (g.H.Host.state c.args.h.now) (g.H.Host.state c.lacks_graph.new.h) (g.H.Host.state c.step_in.new.h) (k.only_reads.stays t ∙ same) (ready_read size w now _ _ (sym same) then) c.args.name c.args.n c.in-Some.slot
    pool.0.puddles (ap puddles_known pool.1) (slot_is size w _ _ ready 0 c.args.name c.in-Some.slot c.in-Some.field-0-1 there) None
    (λ idle low. c.in_ok-_done.ensures.acts t size (still_size k.only_reads (still_size c.in_ok-slot.ensures.only_reads e)) idle pool.0.puddles (ap puddles_known pool.1) low))
