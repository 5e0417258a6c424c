use Rattle.std.proofs.Common.{◌≡◌, Option, Result, true, is_some, refl, sym, ap, subst, ◌∙◌}
use Rattle.std.specs.Prelude.{IfOk}
use Rattle.pm_model.specs.Words.{reads}
use Rattle.pm_model.specs.Moments.{State}
use Rattle.pm_model.proofs.Reading.{still_reads}
use Rattle.pud_defs.specs.declared.machine.Refusal.{Refusal}
use Rattle.pud_defs.specs.RegistryTables.Spaces.{owner}
use Rattle.nesting.specs.declared.Session.{Session}
use Rattle.daemon_memory.specs.Memory.{Memory}
use Rattle.daemon_memory.specs.PoolKnowledge.{known_puddles_in}
use Rattle.daemon_memory.specs.Owning.{refusal_found}
use Rattle.daemon_memory.specs.Ready.{IsReady}
use Rattle.daemon_memory.proofs.PoolChanges.Pooling.{acting, absent}
use Rattle.daemon_memory.specs.declared.finding.FoundPool.{FoundPool}
use Rattle.daemon_memory.specs.Finding.{found_unless_busy, IsRecordOf, IsFound}
use Rattle.daemon_memory.proofs.Commands.CarriedOut.{ready_read}
use Rattle.daemon_memory.proofs.PoolsFound.Found.{need_client, need_pool, need_wild, need_denied, need_beside, refusal_beside_it, found_beside}
use Rattle.daemon_memory.proofs.memory.DaemonMemory.find_pool.Goals as goal

pub returns-in_default-clause-refusal : goal.returns-in_default-clause-refusal
returns-in_default-clause-refusal g c = λ t size w ready.
    sym (need_client size w _ _ ready c.args.client c.args.name c.args.need (absent size w _ _ ready c.args.client c.requires.known (sym c.in_default.is ∙ c.in_ok-who.ensures.owner t _ refl)))

pub returns-in_default-2-clause-refusal : goal.returns-in_default-2-clause-refusal
returns-in_default-2-clause-refusal g c = λ t size w ready.
    let who = acting size w _ _ ready c.args.client c.in-Some.who c.requires.known (sym c.in-Some.is ∙ c.in_ok-who.ensures.owner t _ refl) in
    sym (need_pool size w _ _ ready c.args.client c.args.name c.args.need (owner c.in-Some.who.uid c.in-Some.who.gid) who.is
    (sym c.in_default-2.is ∙ c.in_ok-slot.ensures.found t size w (ready_read size w _ _ _ (c.owner.ensures.only_reads.stays t) ready) _ (still_reads c.owner.ensures.only_reads t refl)))

-- ---- by what was read of the pool

pub returns-then-branch-clause-refusal : goal.returns-then-branch-clause-refusal
returns-then-branch-clause-refusal g c = λ t size w ready.
    let who = acting size w _ _ ready c.args.client c.in-Some.who c.requires.known (sym c.in-Some.is ∙ c.in_ok-who.ensures.owner t _ refl) in
    let there = sym c.in-Some-2.is ∙ c.in_ok-slot.ensures.found t size w (ready_read size w _ _ _ (c.owner.ensures.only_reads.stays t) ready) _ (still_reads c.owner.ensures.only_reads t refl) in
    let same = c.find_named.ensures.only_reads.stays t ∙ c.owner.ensures.only_reads.stays t in
    let lacks = c.in_ok-lacks_graph.ensures.lacks t size w (ready_read size w _ _ _ same (subst (λ (m : Memory). IsReady size w m (g.H.Host.state c.args.h.now)) (sym c.find_named.ensures.memory) ready)) c.args.name c.in-Some-2.rec (subst (λ (s : State). IsRecordOf w.stored.frames c.args.name (reads s.now.words) c.in-Some-2.slot c.in-Some-2.rec) (sym same) there) in
    sym (need_wild size w _ _ ready c.args.client c.args.name c.in-Some-2.slot c.in-Some-2.rec there c.args.need c.in-Some.who.uid c.in-Some.who.gid who.is (sym c.if-branch.true ∙ lacks))

pub returns-then-not-has_right-clause-refusal : goal.returns-then-not-has_right-clause-refusal
returns-then-not-has_right-clause-refusal g c = λ t size w ready.
    let who = acting size w _ _ ready c.args.client c.in-Some.who c.requires.known (sym c.in-Some.is ∙ c.in_ok-who.ensures.owner t _ refl) in
    let there = sym c.in-Some-2.is ∙ c.in_ok-slot.ensures.found t size w (ready_read size w _ _ _ (c.owner.ensures.only_reads.stays t) ready) _ (still_reads c.owner.ensures.only_reads t refl) in
    let same = c.find_named.ensures.only_reads.stays t ∙ c.owner.ensures.only_reads.stays t in
    let lacks = c.in_ok-lacks_graph.ensures.lacks t size w (ready_read size w _ _ _ same (subst (λ (m : Memory). IsReady size w m (g.H.Host.state c.args.h.now)) (sym c.find_named.ensures.memory) ready)) c.args.name c.in-Some-2.rec (subst (λ (s : State). IsRecordOf w.stored.frames c.args.name (reads s.now.words) c.in-Some-2.slot c.in-Some-2.rec) (sym same) there) in
    sym (need_denied size w _ _ ready c.args.client c.args.name c.in-Some-2.slot c.in-Some-2.rec there c.args.need c.in-Some.who.uid c.in-Some.who.gid who.is (sym c.if-branch.false ∙ lacks) (sym c.if-not-has_right.true ∙ c.has_right.ensures))

pub returns-clause-refusal : goal.returns-clause-refusal
returns-clause-refusal g c = λ t size w ready.
    let i = c.self.inside in
    let view : Memory = record { frames = i.frames; active = i.opened; sessions = i.sessions; known_pools = i.known_pools } in
    let who = acting size w _ _ ready c.args.client c.in-Some.who c.requires.known (sym c.in-Some.is ∙ c.in_ok-who.ensures.owner t _ refl) in
    let there = sym c.in-Some-2.is ∙ c.in_ok-slot.ensures.found t size w (ready_read size w _ _ _ (c.owner.ensures.only_reads.stays t) ready) _ (still_reads c.owner.ensures.only_reads t refl) in
    let same = c.find_named.ensures.only_reads.stays t ∙ c.owner.ensures.only_reads.stays t in
    let before = ready_read size w _ _ _ same (subst (λ (m : Memory). IsReady size w m (g.H.Host.state c.args.h.now)) (sym c.find_named.ensures.memory) ready) in
    let now = subst (λ (m : Memory). IsReady size w m (g.H.Host.state c.args.h.now)) (sym c.self.view_is) (ready_read size w _ _ _ (sym same) (c.in_ok-lacks_graph.ensures.ready t size w before)) in
    let lacks = c.in_ok-lacks_graph.ensures.lacks t size w before c.args.name c.in-Some-2.rec (subst (λ (s : State). IsRecordOf w.stored.frames c.args.name (reads s.now.words) c.in-Some-2.slot c.in-Some-2.rec) (sym same) there) in
    ap refusal_found (c.found_unless_busy.ensures ∙ ap (λ (o : Option Session). found_unless_busy o c.args.client c.in-Some-2.slot c.in-Some-2.rec.number) c.session.ensures.session)
    ∙ refusal_beside_it size w view _ now c.args.client c.args.name c.in-Some-2.slot c.in-Some-2.rec there c.in-Some-2.rec.number
    ∙ sym (need_beside size w view _ now c.args.client c.args.name c.in-Some-2.slot c.in-Some-2.rec there c.args.need c.in-Some.who.uid c.in-Some.who.gid who.is (sym c.if-branch.false ∙ lacks) (sym c.if-not-has_right.false ∙ c.has_right.ensures))

pub returns-clause-found : goal.returns-clause-found
returns-clause-found g c = λ t size w ready.
    let i = c.self.inside in
    let view : Memory = record { frames = i.frames; active = i.opened; sessions = i.sessions; known_pools = i.known_pools } in
    let there = sym c.in-Some-2.is ∙ c.in_ok-slot.ensures.found t size w (ready_read size w _ _ _ (c.owner.ensures.only_reads.stays t) ready) _ (still_reads c.owner.ensures.only_reads t refl) in
    let same = c.find_named.ensures.only_reads.stays t ∙ c.owner.ensures.only_reads.stays t in
    let now = subst (λ (m : Memory). IsReady size w m (g.H.Host.state c.args.h.now)) (sym c.self.view_is) (ready_read size w _ _ _ (sym same) (c.in_ok-lacks_graph.ensures.ready t size w (ready_read size w _ _ _ same (subst (λ (m : Memory). IsReady size w m (g.H.Host.state c.args.h.now)) (sym c.find_named.ensures.memory) ready)))) in
    let known_pools = ap (λ (m : Memory). m.known_pools) c.self.view_is in
    subst (λ (m : Memory). IfOk c.found_unless_busy.result (IsFound w c.args.need c.args.client c.args.name (reads (g.H.Host.state c.args.h.now).now.words) m)) c.self.view_is
    (subst (λ (r : Result FoundPool Refusal). IfOk r (IsFound w c.args.need c.args.client c.args.name (reads (g.H.Host.state c.args.h.now).now.words) view))
    (sym (c.found_unless_busy.ensures ∙ ap (λ (o : Option Session). found_unless_busy o c.args.client c.in-Some-2.slot c.in-Some-2.rec.number) c.session.ensures.session))
    (found_beside size w view _ now c.args.client c.args.name c.in-Some-2.slot c.in-Some-2.rec there c.args.need
    (λ needed. subst (λ js. true ≡ is_some (known_puddles_in js c.in-Some-2.slot)) (sym known_pools) (c.in_ok-lacks_graph.ensures.known c.if-branch.false needed))))
