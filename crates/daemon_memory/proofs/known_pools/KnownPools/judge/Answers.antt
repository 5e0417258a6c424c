use Rattle.std.proofs.Common.{is_some, List, Option, sym, ap, subst, ◌∙◌}
use Rattle.std.specs.Prelude.{IfSome}
use Rattle.pud_defs.specs.PoolGraphs.Stored.{IsOnDevice}
use Rattle.known_pool.specs.Known.{Known, by_puddles}
use Rattle.known_pool.proofs.KnownKept.{IsKnown-puddles}
use Rattle.daemon_memory.specs.PoolKnowledge.{AreOnDevice, AreKnownPools}
use Rattle.daemon_memory.proofs.PoolsKnown.Known.{AreOnDevice-put, AreKnownPools-set}
use Rattle.daemon_memory.proofs.known_pools.KnownPools.judge.Goals as goal

pub returns-in-Some-clause-puddles : goal.returns-in-Some-clause-puddles
returns-in-Some-clause-puddles g c = ap is_some (sym c.put.ensures.known)

pub returns-in-Some-clause-known_pools : goal.returns-in-Some-clause-known_pools
returns-in-Some-clause-known_pools g c = λ t image same before.
    subst (λ (js : List (Option Known)). AreKnownPools c.args.frames js image) (sym c.put.ensures.put)
    (AreKnownPools-set c.args.frames _ c.args.slot (by_puddles c.in-Some.puddles) image (sym (c.in_ok-puddles.ensures.found t image same) ∙ c.in-Some.is) (IsKnown-puddles c.args.frames c.in-Some.puddles image) before)

pub returns-in-Some-clause-known : goal.returns-in-Some-clause-known
returns-in-Some-clause-known g c = λ before.
    subst (AreOnDevice c.args.frames) (sym c.put.ensures.put)
    (AreOnDevice-put c.args.frames _ c.args.slot (by_puddles c.in-Some.puddles) (subst (λ found. IfSome found (IsOnDevice c.args.frames)) c.in-Some.is c.in_ok-puddles.ensures.known) before)
