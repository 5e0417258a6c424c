use Rattle.std.proofs.Common.{List, Option, rules, refl, sym, ap, subst, ◌∙◌}
use Rattle.pud_defs.specs.PoolGraphs.Stored.{IsOnDevice}
use Rattle.known_pool.specs.Known.{Known}
use Rattle.daemon_memory.specs.PoolKnowledge.{known_pool_in}
use Rattle.daemon_memory.proofs.PoolsKnown.KnownBuilt.{known_there, on_device_there}
use Rattle.daemon_memory.proofs.known_pools.KnownPools.puddles.Goals as goal

pub returns-in-Some-clause-within : goal.returns-in-Some-clause-within
returns-in-Some-clause-within c = λ F all.
    subst (IsOnDevice F) (sym c.as_slice.ensures.puddles)
    (on_device_there F c.args.self.now c.args.slot c.in-Some.pool all
    (ap (λ (ps : List (Option Known)). known_pool_in ps c.args.slot) (sym c.self.view_is) ∙ known_there c.self.inside.pools c.args.slot _ c.index-self-slot.result (search rules) refl ∙ c.in-Some.is))
