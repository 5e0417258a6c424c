use Rattle.std.proofs.Common.{◌≡◌, ◌<◌, false, List, Option, Some, refl, sym, ap, ◌∙◌, arith}
use Rattle.pm_model.specs.Counts.{fault_of}
use Rattle.nesting.specs.declared.Session.{Session}
use Rattle.nesting.specs.Sessions.{depth_in, left}
use Rattle.daemon_memory.specs.Memory.{Memory, active_under}
use Rattle.pool_transaction.proofs.TransactionLines.Depth.{Applies-rises}
use Rattle.pool_transaction.proofs.TransactionLines.TransactionTaken.{IsReleased, its_known, runs_there, Applies-own_ended, none_is_own}
use Rattle.pool_transaction.proofs.TransactionLines.Acted.{acts_risen, acts_committed}
use Rattle.pool_transaction.proofs.own.commit_own.Goals as goal

pub returns-then-depth-gt1-clause-does : goal.returns-then-depth-gt1-clause-does
returns-then-depth-gt1-clause-does g c = λ t size e w name ready own.
    let i = c.memory.inside in
    let slot = c.args.own.slot in
    let view : Memory = record { frames = i.frames; active = i.opened; sessions = i.sessions; known_pools = i.known_pools } in
    let depth = ap (λ (m : Memory). depth_in m.sessions slot) c.memory.view_is in
    let is = c.depth.ensures.depth in
    let more = c.if-depth-gt1.true in
    let deep : 1 < depth_in c.args.memory.now.sessions slot = omega (arith, depth, is, more) in
    record {
      applies = Applies-rises size w c.args.memory.now (record view { sessions = c.leave.new.self }) _ c.args.client name slot c.args.own.log_number deep
          (ap (λ (m : Memory). record m { sessions = left slot m.sessions }) (sym c.memory.view_is) ∙ ap (λ (l : List (Option Session)). record view { sessions = l }) (sym c.leave.ensures.left)) ready own;
      acts = acts_risen size w c.args.memory.now (g.H.Host.state c.args.h.now) ready c.args.client name slot c.args.own.log_number own deep _ _ refl;
    }

pub returns-in-Some-clause-does : goal.returns-in-Some-clause-does
returns-in-Some-clause-does g c = λ t size e w name ready own.
    let depth = ap (λ (m : Memory). depth_in m.sessions c.args.own.slot) c.memory.view_is in
    let is = c.depth.ensures.depth in
    let last = c.if-depth-gt1.false in
    let first = c.args.memory.now in
    let number = c.args.own.log_number in
    let mine = c.in-Some.opened in
    let old = g.H.Host.state c.args.h.now in
    let new = g.H.Host.state c.commit_transaction.new.h in
    let fault = fault_of c.commit_transaction.result in
    let r = c.take_transaction.ensures in
    let there : active_under first.active number ≡ Some mine = sym r.opened ∙ c.in-Some.is in
    let released : IsReleased false number first c.take_transaction.new.memory = record { active = r.active; sessions = r.sessions; known_pools = r.known_pools; frames = r.frames } in
    let frames = ap (λ (m : Memory). m.frames) (sym c.memory.view_is) in
    let d = c.commit_transaction.ensures.commits t (its_known false number first _ released size w old ready mine there) size w first (runs_there false number first _ released size w old ready mine there c.memory.inside.frames _ frames e) in
    record {
      applies = Applies-own_ended false number first _ released size w old ready mine there fault new c.args.client name c.args.own.slot own (omega (arith, depth, is, last)) d.applies;
      acts = acts_committed size w first old ready c.args.client name c.args.own.slot number own mine there (omega (arith, depth, is, last)) c.memory.inside.frames (sym frames ∙ ready.frames) fault new d.writes;
    }

pub returns-in-None-clause-does : goal.returns-in-None-clause-does
returns-in-None-clause-does g c = λ t size e w name ready own. absurd (none_is_own c.args.client name c.args.own.slot c.args.own.log_number c.args.memory.now own (sym c.take_transaction.ensures.opened ∙ c.in-None.is))
