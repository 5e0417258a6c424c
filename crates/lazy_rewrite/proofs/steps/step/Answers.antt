use Rattle.std.proofs.Common.{ℕ, subst}
use Rattle.pm_model.specs.Counts.{fault_of}
use Rattle.lazy_rewrite.specs.Frontiers.{steps_from, frontiers_of}
use Rattle.lazy_rewrite.specs.Batches.{Rewrites}
use Rattle.lazy_rewrite.proofs.Turns.{Rewrites-changes}
use Rattle.lazy_rewrite.proofs.Kept.{Rewrites-keeps}
use Rattle.lazy_rewrite.proofs.WorldTurns.{Rewrites-world}
use Rattle.lazy_rewrite.proofs.steps.step.Goals as goal

pub returns-clause-writes : goal.returns-clause-writes
returns-clause-writes g c = λ t size same idle low.
    Rewrites-changes c.args.frames (frontiers_of (steps_from c.args.n c.args.pool.now)) c.args.pool.now c.pass.new.pool (fault_of c.pass.result) (g.H.Host.state c.args.h.now) (g.H.Host.state c.pass.new.h) (c.pass.ensures.rewrites t size same idle low)

pub returns-clause-keeps : goal.returns-clause-keeps
returns-clause-keeps g c = λ t size same low slot graph r.
    Rewrites-keeps c.args.frames slot (frontiers_of (steps_from c.args.n c.args.pool.now)) graph c.args.pool.now c.pass.new.pool (fault_of c.pass.result) (g.H.Host.state c.args.h.now) (g.H.Host.state c.pass.new.h) (c.pass.ensures.rewrites t size same r.idle low) r

pub returns-clause-world : goal.returns-clause-world
returns-clause-world g c = λ t size same low s frames slot graph mask may.
    let aims = frontiers_of (steps_from c.args.n c.args.pool.now) in
    let a = g.H.Host.state c.args.h.now in
    let b = g.H.Host.state c.pass.new.h in
    Rewrites-world size s slot c.args.pool.now c.pass.new.pool aims graph mask (fault_of c.pass.result) a b
    (λ idle. subst (λ (F : ℕ). Rewrites F aims c.args.pool.now c.pass.new.pool (fault_of c.pass.result) a b) frames (c.pass.ensures.rewrites t size same idle low)) may
