-- Lines that read a whole pool: their answers, the order of their refusals, and when they may be refused with `memory`.
use Rattle.std.proofs.Common.{◌≡◌, true, false, [], ◌∷◌, codes, Some, None, refl}
use Rattle.pud_defs.specs.declared.machine.Command.TheVariants.{Dump, Export, Get}
use Rattle.pud_defs.specs.StateMachine.World.{World}
use Rattle.pud_defs.specs.StateMachine.PoolChanges.{pool_named}
use Rattle.pud_defs.specs.StateMachine.Gives.{contents_of_pool, may_lack_memory}
use Rattle.pud_defs.proofs.Examples.Opened.{opened}
use Rattle.pud_defs.proofs.Examples.Pools.{said, lines_said}
use Rattle.pud_defs.proofs.Examples.Transactions.{name_of, nodes, world_with}

-- all clients act as 5:5; their pool `a` has one object, whose pointer names that object; no transaction is open
abbrev start : World
start = world_with (nodes 1 10 1) None

-- ---- the text that `dump` prints

its_graph_is_said : said start (codes "dump 0 a" ∷ []) ≡ lines_said (codes "ok {\"next\":2,\"objects\":[{\"fields\":[10,\"@1\"],\"serial\":1,\"type\":1}],\"root\":null}" ∷ [])
unfolding opened said
its_graph_is_said = refl

-- a client sees what it set at once, and another client is refused with `busy`
as_the_transaction_has_it : said start (codes "begin 0 a" ∷ codes "set 0 a 1.0 11" ∷ codes "later 0 a 1.0 12" ∷ codes "dump 0 a" ∷ codes "dump 1 a" ∷ [])
    ≡ lines_said (codes "ok" ∷ codes "ok" ∷ codes "ok" ∷ codes "ok {\"next\":2,\"objects\":[{\"fields\":[11,\"@1\"],\"serial\":1,\"type\":1}],\"root\":null}" ∷ codes "no busy" ∷ [])
unfolding opened said
as_the_transaction_has_it = refl

-- ---- refusals

dumps_refused : said start (codes "leave 0" ∷ codes "dump 0 a" ∷ codes "dump 1 b" ∷ codes "dump 1 a b" ∷ codes "dump 8 a" ∷ [])
    ≡ lines_said (codes "ok" ∷ codes "no client" ∷ codes "no pool" ∷ codes "no bad" ∷ codes "no bad" ∷ [])
unfolding opened said
dumps_refused = refl

exports_refused : said start (codes "export 0 b x" ∷ codes "begin 0 a" ∷ codes "export 1 a x" ∷ codes "export 0 a x" ∷ codes "abort 0 a" ∷ codes "export 0 a x" ∷ codes "export 0 a" ∷ codes "export 0 a X" ∷ [])
    ≡ lines_said (codes "no pool" ∷ codes "ok" ∷ codes "no busy" ∷ codes "no open" ∷ codes "ok" ∷ codes "ok" ∷ codes "no bad" ∷ codes "no bad" ∷ [])
unfolding opened said
exports_refused = refl

-- a client that the mode does not allow to read is refused with `denied`, which is tested before `busy`
denied_first : said start (codes "chmod 0 a 000" ∷ codes "dump 0 a" ∷ codes "export 0 a x" ∷ []) ≡ lines_said (codes "ok" ∷ codes "no denied" ∷ codes "no denied" ∷ [])
unfolding opened said
denied_first = refl

-- ---- what a file stores of a pool

types_that_are_used : contents_of_pool ((1, 8589934594) ∷ (2, 4294967296) ∷ []) (pool_named (name_of 97) start.stored)
    ≡ Some (record { types = (1, 8589934594) ∷ []; classes = 1 ∷ []; graph = nodes 1 10 1 })
unfolding opened
types_that_are_used = refl

-- ---- refusals with `memory`

where_nothing_else_is_wrong : (may_lack_memory start (Dump 0 (name_of 97)) ≡ true) × (may_lack_memory start (Export 0 (name_of 97) (name_of 120)) ≡ true)
unfolding opened
where_nothing_else_is_wrong = (refl, refl)

no_pool_comes_first : (may_lack_memory start (Dump 0 (name_of 98)) ≡ false) × (may_lack_memory start (Get 0 (name_of 97) 1 0) ≡ false)
unfolding opened
no_pool_comes_first = (refl, refl)
