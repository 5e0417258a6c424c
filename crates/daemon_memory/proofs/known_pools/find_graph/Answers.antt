use Rattle.std.proofs.Common.{Bool, Some, None, cond, sym, ap, ◌∙◌}
use Rattle.daemon_memory.proofs.PoolsFound.Found.{puddles_judged}
use Rattle.pm_model.proofs.Reading.{still_reads}
use Rattle.daemon_memory.proofs.known_pools.find_graph.Goals as goal

pub returns-then-not-branch-clause-found : goal.returns-then-not-branch-clause-found
returns-then-not-branch-clause-found g c = λ t image read.
    let following = still_reads c.find_puddles.ensures.only_reads t read in
    sym (puddles_judged c.args.frames c.args.slot image c.in_ok-puddles.puddles c.as_slice.result.now c.in_ok-pool_is_sound.field-0
    (c.in_ok-puddles.ensures.found t image read) c.as_slice.ensures.puddles (c.in_ok-pool_is_sound.ensures.sound t image following)
    ∙ ap (λ (b : Bool). cond b (Some c.in_ok-puddles.puddles) None) c.if-not-branch.true)

pub returns-clause-found : goal.returns-clause-found
returns-clause-found g c = λ t image read.
    let following = still_reads c.find_puddles.ensures.only_reads t read in
    sym (puddles_judged c.args.frames c.args.slot image c.in_ok-puddles.puddles c.as_slice.result.now c.in_ok-pool_is_sound.field-0
    (c.in_ok-puddles.ensures.found t image read) c.as_slice.ensures.puddles (c.in_ok-pool_is_sound.ensures.sound t image following)
    ∙ ap (λ (b : Bool). cond b (Some c.in_ok-puddles.puddles) None) c.if-not-branch.false)
