use Rattle.std.proofs.Common.{◌≡◌, ℕ, List, Option, Some, rules, refl, sym, ap, subst, ◌∙◌}
use Rattle.std.proofs.lemmas.Option.{none-some, same_Some}
use Rattle.pud_defs.specs.declared.records.Puddle.{Puddle}
use Rattle.pud_defs.specs.PoolGraphs.Graph.{graph_of}
use Rattle.pud_defs.specs.PoolGraphs.Stored.{stored_in}
use Rattle.pud_defs.specs.RegistryTables.Types.{types_of}
use Rattle.known_pool.specs.Known.{Known}
use Rattle.daemon_memory.specs.PoolKnowledge.{known_pool_in, puddles_known}
use Rattle.daemon_memory.proofs.PoolsKnown.KnownBuilt.{known_there, on_device_there}
use Rattle.daemon_memory.proofs.known_pools.KnownPools.read_field.Goals as goal

pub read_field-requires-clause-known : goal.read_field-requires-clause-known
read_field-requires-clause-known g c =
    on_device_there c.args.frames c.args.self.now c.args.slot c.in-Some.pool c.requires.known
    (ap (λ (ps : List (Option Known)). known_pool_in ps c.args.slot) (sym c.self.view_is) ∙ known_there c.self.inside.pools c.args.slot _ c.index-self-slot.result (search rules) refl ∙ c.in-Some.is)

pub returns-in-Some-clause-object : goal.returns-in-Some-clause-object
returns-in-Some-clause-object g c = λ t image same known_pools at known graph stored.
    let here : known_pool_in c.args.self.now c.args.slot ≡ Some c.in-Some.pool =
    ap (λ (ps : List (Option Known)). known_pool_in ps c.args.slot) (sym c.self.view_is) ∙ known_there c.self.inside.pools c.args.slot _ c.index-self-slot.result (search rules) refl ∙ c.in-Some.is in
    let puddles : c.in-Some.pool.puddles ≡ at = same_Some c.in-Some.pool.puddles at (sym (ap puddles_known here) ∙ known) in
    c.read_field.ensures.object t image same (known_pools.known c.args.slot c.in-Some.pool here) graph
    (subst (λ (ps : List (ℕ × Puddle)). graph_of (types_of image) (stored_in c.args.frames ps image) ≡ Some graph) (sym puddles) stored)

pub returns-in-None-clause-object : goal.returns-in-None-clause-object
returns-in-None-clause-object g c = λ t image same known_pools at known graph stored.
    absurd (none-some at
    (sym (ap puddles_known (ap (λ (ps : List (Option Known)). known_pool_in ps c.args.slot) (sym c.self.view_is) ∙ known_there c.self.inside.pools c.args.slot _ c.index-self-slot.result (search rules) refl ∙ c.in-None.is)) ∙ known))
