-- Lines that rewrite pointers of a pool: their answers, and that the world does not change.
use Rattle.std.proofs.Common.{◌≡◌, [], ◌∷◌, codes, None, refl}
use Rattle.pud_defs.specs.StateMachine.World.{World}
use Rattle.pud_defs.proofs.Examples.Opened.{opened}
use Rattle.pud_defs.proofs.Examples.Pools.{said, after_lines, lines_said}
use Rattle.pud_defs.proofs.Examples.Transactions.{nodes, world_with}
use Rattle.pud_defs.proofs.Examples.Checks.{sound_and_wild}

-- no client is present, and a rewrite may be asked for any number of times
steps_done : said sound_and_wild (codes "rewrite a 1" ∷ codes "rewrite a 3984" ∷ codes "rewrite a 3984" ∷ []) ≡ lines_said (codes "ok" ∷ codes "ok" ∷ codes "ok" ∷ [])
unfolding opened said
steps_done = refl

world_stays : after_lines sound_and_wild (codes "rewrite a 1" ∷ codes "rewrite a 3984" ∷ codes "rewrite b 1" ∷ codes "rewrite z 1" ∷ codes "rewrite a 0" ∷ []) ≡ sound_and_wild
unfolding opened after_lines
world_stays = refl

refused : said sound_and_wild (codes "rewrite a 3985" ∷ codes "rewrite z 1" ∷ codes "rewrite b 1" ∷ []) ≡ lines_said (codes "no bad" ∷ codes "no pool" ∷ codes "no wild" ∷ [])
unfolding opened said
refused = refl

-- after the type is defined by which pool b has a graph
after_the_type : said sound_and_wild (codes "type 2 2 1" ∷ codes "rewrite b 1" ∷ []) ≡ lines_said (codes "ok" ∷ codes "ok" ∷ [])
unfolding opened said
after_the_type = refl

-- all clients act as 5:5; their pool `a` has one object, whose pointer names that object; no transaction is open
abbrev start : World
start = world_with (nodes 1 10 1) None

-- an open transaction does not change: it keeps what it set and the units that it used
beside_a_transaction : after_lines start (codes "begin 0 a" ∷ codes "set 0 a 1.0 11" ∷ codes "rewrite a 10" ∷ []) ≡ after_lines start (codes "begin 0 a" ∷ codes "set 0 a 1.0 11" ∷ [])
unfolding opened after_lines
beside_a_transaction = refl

answered_beside_a_transaction : said start (codes "begin 0 a" ∷ codes "set 0 a 1.0 11" ∷ codes "rewrite a 10" ∷ codes "get 0 a 1.0" ∷ codes "abort 0 a" ∷ codes "get 0 a 1.0" ∷ [])
    ≡ lines_said (codes "ok" ∷ codes "ok" ∷ codes "ok" ∷ codes "ok 11" ∷ codes "ok" ∷ codes "ok 10" ∷ [])
unfolding opened said
answered_beside_a_transaction = refl
