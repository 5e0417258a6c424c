use Rattle.std.proofs.Common.{List, Option, rules, refl, sym, ap, subst, ◌∙◌}
use Rattle.std.proofs.lemmas.List.{set-get_or}
use Rattle.known_pool.specs.Known.{Known}
use Rattle.daemon_memory.specs.PoolKnowledge.{known_puddles_in, AreOnDevice, AreKnownPools}
use Rattle.daemon_memory.proofs.PoolsKnown.KnownBuilt.{known_there, on_device_there, puddles_built, AreKnownPools-built}
use Rattle.daemon_memory.proofs.known_pools.KnownPools.build.Goals as goal
use Rattle.daemon_memory.proofs.known_pools.KnownPools.build.Goals.{in-Some, in-None}

pub build-requires-clause-known : goal.build-requires-clause-known
build-requires-clause-known g c =
    on_device_there c.args.frames c.self.inside.pools c.args.slot c.in-Some.pool (subst (λ (js : List (Option Known)). AreOnDevice c.args.frames js) (sym c.self.view_is) c.requires.known)
    (known_there c.self.inside.pools c.args.slot _ c.index-self-slot.result (search rules) refl ∙ c.in-Some.is)

pub returns-clause-known_pools : goal.returns-clause-known_pools
returns-clause-known_pools g c = λ t image same before.
    let pools = c.self.inside.pools in
    let read = known_there pools c.args.slot _ c.index-self-slot.result (search rules) refl in
    let are = subst (λ (js : List (Option Known)). AreKnownPools c.args.frames js image) (sym c.self.view_is) before in
    elim c.match-self-slot.branch [
      | in-Some b ↦ rw b.self-inside-is (AreKnownPools-built pools c.args.slot b.in-Some.pool b.build.new.self (read ∙ b.in-Some.is) b.build.ensures.puddles c.args.frames image (b.build.ensures.known t image same) are)
      | in-None b ↦ rw b.self-inside-is (subst (λ (js : List (Option Known)). AreKnownPools c.args.frames js image) (sym (set-get_or pools c.args.slot c.index-self-slot.result)) are)
    ]

pub returns-clause-puddles : goal.returns-clause-puddles
returns-clause-puddles g c = λ i.
    let pools = c.self.inside.pools in
    let viewed = ap (λ (js : List (Option Known)). known_puddles_in js i) c.self.view_is in
    let read = known_there pools c.args.slot _ c.index-self-slot.result (search rules) refl in
    elim c.match-self-slot.branch [
      | in-Some b ↦ rw b.self-inside-is (puddles_built pools c.args.slot b.in-Some.pool b.build.new.self (read ∙ b.in-Some.is) b.build.ensures.puddles i ∙ viewed)
      | in-None b ↦ rw b.self-inside-is (ap (λ (js : List (Option Known)). known_puddles_in js i) (set-get_or pools c.args.slot c.index-self-slot.result) ∙ viewed)
    ]

pub returns-clause-known : goal.returns-clause-known
returns-clause-known g c = record { each = λ i at is. c.requires.known.each i at (sym (returns-clause-puddles g c i) ∙ is) }
