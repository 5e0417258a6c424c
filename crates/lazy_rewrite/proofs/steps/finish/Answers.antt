use Rattle.std.proofs.Common.{ℕ, subst}
use Rattle.pm_model.specs.Counts.{fault_of}
use Rattle.lazy_rewrite.specs.Frontiers.{finished_at, frontier_at}
use Rattle.lazy_rewrite.specs.Batches.{Rewrites}
use Rattle.lazy_rewrite.proofs.Turns.{Rewrites-changes}
use Rattle.lazy_rewrite.proofs.Kept.{Rewrites-keeps}
use Rattle.lazy_rewrite.proofs.WorldTurns.{Rewrites-world}
use Rattle.lazy_rewrite.proofs.steps.finish.Goals as goal

pub returns-clause-writes : goal.returns-clause-writes
returns-clause-writes g c = λ t size same idle low.
    Rewrites-changes c.args.frames (frontier_at c.args.ordinal (finished_at c.args.ordinal c.args.pool.now)) c.args.pool.now c.complete.new.pool (fault_of c.complete.result) (g.H.Host.state c.args.h.now) (g.H.Host.state c.complete.new.h) (c.complete.ensures.rewrites t size same idle low)

pub returns-clause-keeps : goal.returns-clause-keeps
returns-clause-keeps g c = λ t size same low slot graph r.
    Rewrites-keeps c.args.frames slot (frontier_at c.args.ordinal (finished_at c.args.ordinal c.args.pool.now)) graph c.args.pool.now c.complete.new.pool (fault_of c.complete.result) (g.H.Host.state c.args.h.now) (g.H.Host.state c.complete.new.h) (c.complete.ensures.rewrites t size same r.idle low) r

pub returns-clause-world : goal.returns-clause-world
returns-clause-world g c = λ t size same low s frames slot graph mask may.
    let aims = frontier_at c.args.ordinal (finished_at c.args.ordinal c.args.pool.now) in
    let a = g.H.Host.state c.args.h.now in
    let b = g.H.Host.state c.complete.new.h in
    Rewrites-world size s slot c.args.pool.now c.complete.new.pool aims graph mask (fault_of c.complete.result) a b
    (λ idle. subst (λ (F : ℕ). Rewrites F aims c.args.pool.now c.complete.new.pool (fault_of c.complete.result) a b) frames (c.complete.ensures.rewrites t size same idle low)) may
