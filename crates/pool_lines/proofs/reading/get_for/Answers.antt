use Rattle.std.proofs.Common.{◌≡◌, [], None, Some, refl, sym, ap, subst, ◌∙◌}
use Rattle.std.specs.Prelude.{unwrap_or}
use Rattle.std.proofs.lemmas.Result.{err_from_is_err_and}
use Rattle.pm_model.specs.declared.host.HostFault.TheVariants.{Cut}
use Rattle.pm_model.specs.Words.{reads}
use Rattle.pm_model.proofs.Reading.{still_reads}
use Rattle.pud_defs.specs.declared.machine.Command.TheVariants.{Get}
use Rattle.pud_defs.specs.RegistryTables.Types.{types_of}
use Rattle.pud_defs.specs.PoolGraphs.Stored.{stored_in}
use Rattle.pud_defs.specs.PoolGraphs.Graph.{graph_of}
use Rattle.pud_defs.specs.StateMachine.Step.Answer.{of_reply}
use Rattle.pud_defs.proofs.StateMachine.Steps.{refused_answer}
use Rattle.daemon_memory.specs.Memory.{Memory}
use Rattle.daemon_memory.specs.PoolKnowledge.{known_puddles_in}
use Rattle.daemon_memory.specs.Owning.{refusal_found}
use Rattle.daemon_memory.specs.Ready.{IsReady}
use Rattle.daemon_memory.specs.declared.finding.Need.TheVariants as needs
use Rattle.daemon_memory.proofs.PoolsFound.Found.{finds, judged_ready}
use Rattle.pool_lines.proofs.PoolLines.Readable.{get_refused, holds_found, some_known, reply_when_read, Applies-get}
use Rattle.daemon_memory.proofs.PoolsKnown.KnownBuilt.{ready_built}
use Rattle.pool_lines.proofs.reading.get_for.Goals as goal

pub returns-in-Err-clause-reply : goal.returns-in-Err-clause-reply
returns-in-Err-clause-reply g c = λ t size w ready.
    sym (refused_answer w (Get c.args.client c.args.name c.args.s c.args.f) c.in-Err.refusal
    (get_refused w c.args.client c.args.name c.args.s c.args.f c.in-Err.refusal (sym (c.in_ok-refusal.ensures.refusal t size w ready) ∙ ap refusal_found c.in-Err.is)))

pub returns-clause-reply : goal.returns-clause-reply
returns-clause-reply g c = λ t size w ready.
    let k = c.in_ok-refusal.ensures in
    let i = c.memory.inside in
    let view : Memory = record { frames = i.frames; active = i.opened; sessions = i.sessions; known_pools = i.known_pools } in
    let now = c.find_pool.new.self in
    let s = g.H.Host.state c.find_pool.new.h in
    let image = reads s.now.words in
    let here = finds size w needs.Read c.args.client c.args.name c.args.memory.now now _ _ _ c.in-Ok.found c.in-Ok.is (k.only_reads.stays t) k.sessions (k.ready t size w ready) (k.refusal t size w ready) (k.found t size w ready) k.whose in
    let there = subst (λ (m : Memory). IsReady size w m s) (sym c.memory.view_is) here.ready in
    let at = unwrap_or (known_puddles_in now.known_pools c.in-Ok.found.slot) [] in
    let known = some_known (known_puddles_in now.known_pools c.in-Ok.found.slot) (rw c.in-Ok.is at k.known refl) in
    let holds = holds_found size w now _ here.ready c.args.client c.args.name c.in-Ok.found at here.is refl in
    let on = ap (λ (m : Memory). m.frames) c.memory.view_is ∙ here.ready.frames in
    let built = c.in_ok-build.ensures in
    ap of_reply c.reply_of_read.ensures
    ∙ reply_when_read w c.args.client c.args.name c.args.s c.args.f w.stored.frames image at at c.in_ok-read.read holds refl
    (λ graph stored.
    c.in_ok-read.ensures.object t image (still_reads built.only_reads t refl) (built.known_pools t image refl (judged_ready size w view s there)) at
    (built.puddles c.in-Ok.found.slot ∙ ap (λ (m : Memory). known_puddles_in m.known_pools c.in-Ok.found.slot) c.memory.view_is ∙ known) graph (ap (λ F. graph_of (types_of image) (stored_in F at image)) on ∙ stored)) here.free

-- ---- only what is known about pools changed

pub returns-in_err-refusal-clause-applies : goal.returns-in_err-refusal-clause-applies
returns-in_err-refusal-clause-applies g c =
    let p = err_from_is_err_and c.from_residual.result c.from_residual.ensures.1 in
    rw (p.1, p.2) (λ t size w ready.
    Applies-get w c.args.client c.args.name c.args.s c.args.f size c.find_pool.new.self (Some c.in_err-refusal.field-0.0) _ _ (c.in_err-refusal.ensures.ready t size w ready) (c.in_err-refusal.ensures.only_reads.stays t)
    c.in_err-refusal.ensures.only_reads.never_cut)

pub returns-in-Err-clause-applies : goal.returns-in-Err-clause-applies
returns-in-Err-clause-applies g c = λ t size w ready.
    Applies-get w c.args.client c.args.name c.args.s c.args.f size c.find_pool.new.self None _ _ (c.in_ok-refusal.ensures.ready t size w ready) (c.in_ok-refusal.ensures.only_reads.stays t) (λ cut. let no : None ≡ Some Cut = cut in cc)

pub returns-in_err-build-clause-applies : goal.returns-in_err-build-clause-applies
returns-in_err-build-clause-applies g c =
    let p = err_from_is_err_and c.from_residual-in_err-build.result c.from_residual-in_err-build.ensures.1 in
    rw (p.1, p.2) (λ t size w ready.
    let k = c.in_ok-refusal.ensures in
    let i = c.memory.inside in
    let view : Memory = record { frames = i.frames; active = i.opened; sessions = i.sessions; known_pools = i.known_pools } in
    let n = c.in_err-build.ensures in
    let before = subst (λ (m : Memory). IsReady size w m (g.H.Host.state c.args.h.now)) (sym c.memory.view_is) (k.ready t size w ready) in
    Applies-get w c.args.client c.args.name c.args.s c.args.f size (record view { known_pools = c.build.new.self }) (Some c.in_err-build.field-0.0) _ _
    (ready_built size w view c.build.new.self _ _ (k.only_reads.stays t) before (n.known_pools t _ refl) n.puddles) (n.only_reads.stays t ∙ k.only_reads.stays t) n.only_reads.never_cut)

pub returns-in_err-read-clause-applies : goal.returns-in_err-read-clause-applies
returns-in_err-read-clause-applies g c =
    let p = err_from_is_err_and c.from_residual-in_err-read.result c.from_residual-in_err-read.ensures.1 in
    rw (p.1, p.2) (λ t size w ready.
    let k = c.in_ok-refusal.ensures in
    let i = c.memory.inside in
    let view : Memory = record { frames = i.frames; active = i.opened; sessions = i.sessions; known_pools = i.known_pools } in
    let n = c.in_ok-build.ensures in
    let r = c.in_err-read.ensures.only_reads in
    let before = subst (λ (m : Memory). IsReady size w m (g.H.Host.state c.args.h.now)) (sym c.memory.view_is) (k.ready t size w ready) in
    Applies-get w c.args.client c.args.name c.args.s c.args.f size (record view { known_pools = c.build.new.self }) (Some c.in_err-read.field-0.0) _ _
    (ready_built size w view c.build.new.self _ _ (k.only_reads.stays t) before (n.known_pools t _ refl) n.puddles) (r.stays t ∙ n.only_reads.stays t ∙ k.only_reads.stays t) r.never_cut)

pub returns-clause-applies : goal.returns-clause-applies
returns-clause-applies g c = λ t size w ready.
    let k = c.in_ok-refusal.ensures in
    let i = c.memory.inside in
    let view : Memory = record { frames = i.frames; active = i.opened; sessions = i.sessions; known_pools = i.known_pools } in
    let n = c.in_ok-build.ensures in
    let before = subst (λ (m : Memory). IsReady size w m (g.H.Host.state c.args.h.now)) (sym c.memory.view_is) (k.ready t size w ready) in
    Applies-get w c.args.client c.args.name c.args.s c.args.f size (record view { known_pools = c.build.new.self }) None _ _
    (ready_built size w view c.build.new.self _ _ (k.only_reads.stays t) before (n.known_pools t _ refl) n.puddles)
    (c.in_ok-read.ensures.only_reads.stays t ∙ n.only_reads.stays t ∙ k.only_reads.stays t) (λ cut. let no : None ≡ Some Cut = cut in cc)
