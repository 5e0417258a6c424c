use Rattle.std.proofs.Common.{List, Option, rules, refl, sym, ap, subst, ◌∙◌, set}
use Rattle.known_pool.specs.Known.{Known}
use Rattle.daemon_memory.specs.PoolKnowledge.{known_after_end, AreOnDevice}
use Rattle.daemon_memory.proofs.PoolsKnown.KnownBuilt.{known_there, ended_there, ended_nowhere, AreOnDevice-ended}
use Rattle.daemon_memory.proofs.known_pools.KnownPools.ended.Goals as goal
use Rattle.daemon_memory.proofs.known_pools.KnownPools.ended.Goals.{in-Some, in-None}

pub returns-clause-ended : goal.returns-clause-ended
returns-clause-ended c =
    let pools = c.self.inside.pools in
    let read = known_there pools c.args.slot _ c.index-self-slot.result (search rules) refl in
    let viewed = ap (known_after_end c.args.undone c.args.deferred c.args.slot) c.self.view_is in
    elim c.match-self-slot.branch [
      | in-Some b ↦ rw b.self-inside-is (ended_there c.args.undone c.args.deferred pools c.args.slot b.in-Some.pool b.ended.new.self (read ∙ b.in-Some.is) b.ended.ensures ∙ viewed)
      | in-None b ↦ rw b.self-inside-is (ap (λ (o : Option Known). set pools c.args.slot o) b.in-None.is ∙ ended_nowhere c.args.undone c.args.deferred pools c.args.slot (read ∙ b.in-None.is) ∙ viewed)
    ]

pub returns-clause-known : goal.returns-clause-known
returns-clause-known c = λ F all. subst (λ (js : List (Option Known)). AreOnDevice F js) (sym (returns-clause-ended c)) (AreOnDevice-ended F c.args.undone c.args.deferred _ c.args.slot all)
