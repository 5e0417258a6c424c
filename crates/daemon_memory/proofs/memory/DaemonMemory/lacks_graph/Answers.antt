use Rattle.std.proofs.Common.{◌≡◌, is_some, refl, sym, subst, ◌∙◌}
use Rattle.pm_model.specs.Words.{reads}
use Rattle.daemon_memory.specs.Memory.{Memory}
use Rattle.daemon_memory.specs.PoolKnowledge.{puddles_with_graph}
use Rattle.daemon_memory.specs.Ready.{IsReady}
use Rattle.daemon_memory.proofs.PoolsFound.Found.{judged_ready, judged_more, lacks_judged}
use Rattle.daemon_memory.proofs.memory.DaemonMemory.lacks_graph.Goals as goal

pub returns-clause-lacks : goal.returns-clause-lacks
returns-clause-lacks g c = λ t size w ready name rec is.
    let i = c.self.inside in
    let view : Memory = record { frames = i.frames; active = i.opened; sessions = i.sessions; known_pools = i.known_pools } in
    let there = subst (λ (m : Memory). IsReady size w m (g.H.Host.state c.args.h.now)) (sym c.self.view_is) ready in
    lacks_judged size w view _ there 0 name c.args.slot rec is c.args.need c.in_ok-sound.sound (sym c.needs_graph.ensures ∙ c.if-not-needs_graph.false)
    (subst (λ F. c.in_ok-sound.sound ≡ is_some (puddles_with_graph F (reads (g.H.Host.state c.args.h.now).now.words) c.args.slot)) there.frames (c.in_ok-sound.ensures.sound t _ refl (judged_ready size w view _ there)))

pub returns-clause-ready : goal.returns-clause-ready
returns-clause-ready g c = λ t size w ready.
    let i = c.self.inside in
    let view : Memory = record { frames = i.frames; active = i.opened; sessions = i.sessions; known_pools = i.known_pools } in
    let there = subst (λ (m : Memory). IsReady size w m (g.H.Host.state c.args.h.now)) (sym c.self.view_is) ready in
    judged_more size w view c.judge.new.self _ there (c.in_ok-sound.ensures.known_pools t _ refl (judged_ready size w view _ there)) c.in_ok-sound.ensures.kept

pub returns-in_err-sound-clause-ready : goal.returns-in_err-sound-clause-ready
returns-in_err-sound-clause-ready g c = λ t size w ready.
    let i = c.self.inside in
    let view : Memory = record { frames = i.frames; active = i.opened; sessions = i.sessions; known_pools = i.known_pools } in
    let there = subst (λ (m : Memory). IsReady size w m (g.H.Host.state c.args.h.now)) (sym c.self.view_is) ready in
    judged_more size w view c.judge.new.self _ there (c.in_err-sound.ensures.known_pools t _ refl (judged_ready size w view _ there)) c.in_err-sound.ensures.kept
