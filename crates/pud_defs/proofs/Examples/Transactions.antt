-- Lines on transactions, each answered in turn: what is printed, and the world after them.
use Rattle.std.proofs.Common.{◌≡◌, ℕ, ◌+◌, List, [], ◌∷◌, map, replicate, codes, Option, Some, None, refl}
use Rattle.std.specs.List.{range_with_len}
use Rattle.pud_defs.specs.declared.objects.FieldValue.TheVariants.{Num, Ref}
use Rattle.pud_defs.specs.RegistryTables.Spaces.{owner}
use Rattle.pud_defs.specs.PoolGraphs.Graph.{Graph, empty_graph}
use Rattle.pud_defs.specs.PoolGraphs.Holdings.Holding.{Sound}
use Rattle.pud_defs.specs.RegistryTables.Tables.{Pool}
use Rattle.pud_defs.specs.StateMachine.World.{StoredWorld, Transaction, World, nothing_open, blank_world, open_on}
use Rattle.pud_defs.specs.StateMachine.Transactions.{with_open}
use Rattle.pud_defs.proofs.Examples.Opened.{opened}
use Rattle.pud_defs.proofs.Examples.Pools.{said, after_lines, lines_said}

-- a name of one byte
abbrev pub name_of : ℕ → List ℕ
name_of byte = byte ∷ replicate 15 0

-- a graph of the objects 1 to n of type 1, which has two fields, the second a pointer; each object stores these values
abbrev pub nodes : (n number pointer : ℕ) → Graph
nodes n number pointer = record { next_serial = n + 1; root = 0; objects = map (λ s. (s, record { type_id = 1; class = 1; fields = Num number ∷ Ref pointer ∷ [] })) (range_with_len 1 n) }

-- a pool of owner 5:5 with mode 600 and one puddle, which stores this graph
abbrev pub holding : Graph → Pool
holding g = record { owner = owner 5 5; mode = 384; number = 1; classes = 1 ∷ []; holding = Sound g }

-- four frames, that type, and the pool `a` with this graph
abbrev pub stored_with : Graph → StoredWorld
stored_with g = record (blank_world 4 7) { next_number = 3; types = (1, 8589934594) ∷ []; pools = (name_of 97, holding g) ∷ [] }

-- the same with clients of owner 5:5, and with this transaction, if any, open on the pool
abbrev pub world_with : Graph → Option Transaction → World
world_with g open_there = record { stored = stored_with g; clients = λ _. Some (owner 5 5); shelf = λ _. None; transactions = with_open (name_of 97) open_there nothing_open }

-- the pool is empty, and no transaction is open
abbrev start : World
start = world_with empty_graph None

-- a transaction of client 0 without deferred values: it was begun this often, used this many units and sees this graph
abbrev pub under_way : (depth units : ℕ) → Graph → Option Transaction
under_way depth units g = Some (record { client = 0; depth = depth; units = units; now = g; deferred = [] })

-- a transaction that has made nothing yet
abbrev used : (depth units : ℕ) → Option Transaction
used depth units = under_way depth units empty_graph

-- ---- an object is made, its fields are set, and the commit stores it

seen_by_its_client : said start (codes "begin 0 a" ∷ codes "new 0 a 1" ∷ codes "set 0 a 1.0 10" ∷ codes "set 0 a 1.1 @1" ∷ codes "get 0 a 1.0" ∷ codes "get 0 a 1.1" ∷ codes "commit 0 a" ∷ codes "get 1 a 1.0" ∷ [])
    ≡ lines_said (codes "ok" ∷ codes "ok @1" ∷ codes "ok" ∷ codes "ok" ∷ codes "ok 10" ∷ codes "ok @1" ∷ codes "ok" ∷ codes "ok 10" ∷ [])
unfolding opened said
seen_by_its_client = refl

not_stored_yet : (after_lines start (codes "begin 0 a" ∷ codes "new 0 a 1" ∷ codes "set 0 a 1.0 10" ∷ codes "set 0 a 1.1 @1" ∷ [])).stored ≡ stored_with empty_graph
unfolding opened after_lines
not_stored_yet = refl

units_are_counted : open_on (name_of 97) (after_lines start (codes "begin 0 a" ∷ codes "new 0 a 1" ∷ codes "set 0 a 1.0 10" ∷ codes "set 0 a 1.1 @1" ∷ [])) ≡ under_way 1 19 (nodes 1 10 1)
unfolding opened after_lines
units_are_counted = refl

stored_at_commit : (after_lines start (codes "begin 0 a" ∷ codes "new 0 a 1" ∷ codes "set 0 a 1.0 10" ∷ codes "set 0 a 1.1 @1" ∷ codes "commit 0 a" ∷ [])).stored ≡ stored_with (nodes 1 10 1)
unfolding opened after_lines
stored_at_commit = refl

-- ---- a transaction that was begun twice is committed by the second commit

committed_twice : said start (codes "begin 0 a" ∷ codes "begin 0 a" ∷ codes "new 0 a 1" ∷ codes "commit 0 a" ∷ codes "get 1 a 1.0" ∷ codes "commit 0 a" ∷ codes "get 1 a 1.0" ∷ codes "commit 0 a" ∷ [])
    ≡ lines_said (codes "ok" ∷ codes "ok" ∷ codes "ok @1" ∷ codes "ok" ∷ codes "no busy" ∷ codes "ok" ∷ codes "ok 0" ∷ codes "no tx" ∷ [])
unfolding opened said
committed_twice = refl

still_open : open_on (name_of 97) (after_lines start (codes "begin 0 a" ∷ codes "begin 0 a" ∷ codes "new 0 a 1" ∷ codes "commit 0 a" ∷ [])) ≡ under_way 1 13 (nodes 1 0 0)
unfolding opened after_lines
still_open = refl

-- ---- what is not committed is undone

aborted : said (world_with (nodes 1 10 1) None) (codes "begin 0 a" ∷ codes "begin 0 a" ∷ codes "set 0 a 1.0 11" ∷ codes "new 0 a 1" ∷ codes "abort 0 a" ∷ codes "get 0 a 1.0" ∷ codes "begin 0 a" ∷ codes "new 0 a 1" ∷ [])
    ≡ lines_said (codes "ok" ∷ codes "ok" ∷ codes "ok" ∷ codes "ok @2" ∷ codes "ok" ∷ codes "ok 10" ∷ codes "ok" ∷ codes "ok @2" ∷ [])
unfolding opened said
aborted = refl

undone_as_its_client_leaves : said (world_with (nodes 1 10 1) None) (codes "begin 0 a" ∷ codes "set 0 a 1.0 11" ∷ codes "leave 0" ∷ codes "get 1 a 1.0" ∷ []) ≡ lines_said (codes "ok" ∷ codes "ok" ∷ codes "ok" ∷ codes "ok 10" ∷ [])
unfolding opened said
undone_as_its_client_leaves = refl

undone_as_power_is_lost : (after_lines (world_with (nodes 1 10 1) None) (codes "begin 0 a" ∷ codes "set 0 a 1.0 11" ∷ codes "cut 0" ∷ [])).stored ≡ stored_with (nodes 1 10 1)
unfolding opened after_lines
undone_as_power_is_lost = refl

-- ---- refusals because of what others have open, and of what the client itself has open or has not

held_by_another : said (world_with empty_graph (used 1 0)) (codes "begin 1 a" ∷ codes "commit 1 a" ∷ codes "abort 1 a" ∷ codes "new 1 a 1" ∷ codes "set 1 a 1.0 1" ∷ codes "get 1 a 1.0" ∷ codes "chmod 1 a 640" ∷ [])
    ≡ lines_said (codes "no busy" ∷ codes "no busy" ∷ codes "no busy" ∷ codes "no busy" ∷ codes "no busy" ∷ codes "no busy" ∷ codes "no busy" ∷ [])
unfolding opened said
held_by_another = refl

held_by_oneself : said (world_with empty_graph (used 1 0)) (codes "chmod 0 a 640" ∷ codes "drop 0 a" ∷ codes "commit 0 a" ∷ codes "chmod 0 a 640" ∷ []) ≡ lines_said (codes "no open" ∷ codes "no open" ∷ codes "ok" ∷ codes "ok" ∷ [])
unfolding opened said
held_by_oneself = refl

held_by_nobody : said start (codes "commit 0 a" ∷ codes "abort 0 a" ∷ codes "new 0 a 1" ∷ codes "set 0 a 1.0 1" ∷ []) ≡ lines_said (codes "no tx" ∷ codes "no tx" ∷ codes "no tx" ∷ codes "no tx" ∷ [])
unfolding opened said
held_by_nobody = refl

not_writable : said start (codes "chmod 0 a 400" ∷ codes "begin 0 a" ∷ codes "begin 0 b" ∷ []) ≡ lines_said (codes "ok" ∷ codes "no denied" ∷ codes "no pool" ∷ [])
unfolding opened said
not_writable = refl

-- ---- refusals of types, objects, fields and values

no_such_type : said (world_with empty_graph (used 1 0)) (codes "new 0 a 2" ∷ []) ≡ lines_said (codes "no type" ∷ [])
unfolding opened said
no_such_type = refl

no_such_value : said (world_with (nodes 1 0 0) (under_way 1 0 (nodes 1 0 0)))
    (codes "set 0 a 2.0 1" ∷ codes "set 0 a 1.2 1" ∷ codes "set 0 a 1.1 7" ∷ codes "set 0 a 1.1 0" ∷ codes "set 0 a 1.0 @1" ∷ codes "set 0 a 1.0 @0" ∷ codes "set 0 a 1.1 @2" ∷ codes "set 0 a 1.0 @2" ∷ codes "set 0 a 1.1 @0" ∷ [])
    ≡ lines_said (codes "no object" ∷ codes "no field" ∷ codes "no kind" ∷ codes "no kind" ∷ codes "no kind" ∷ codes "no kind" ∷ codes "no object" ∷ codes "no object" ∷ codes "ok" ∷ [])
unfolding opened said
no_such_value = refl

-- ---- limits

seventeenth_begin : said (world_with empty_graph (used 16 0)) (codes "begin 0 a" ∷ codes "commit 0 a" ∷ codes "begin 0 a" ∷ codes "begin 0 a" ∷ []) ≡ lines_said (codes "no deep" ∷ codes "ok" ∷ codes "ok" ∷ codes "no deep" ∷ [])
unfolding opened said
seventeenth_begin = refl

-- pools `a` to `e`; client 0 has all of them open but `e`
four_open : World
four_open = record {
  stored = record (stored_with empty_graph) { pools = map (λ byte. (name_of byte, holding empty_graph)) (range_with_len 97 5) };
  clients = λ _. Some (owner 5 5);
  shelf = λ _. None;
  transactions = with_open (name_of 101) None (λ _. used 1 0);
}

fifth_pool : said four_open (codes "begin 0 e" ∷ codes "begin 1 e" ∷ codes "abort 1 e" ∷ codes "begin 0 a" ∷ codes "abort 0 b" ∷ codes "begin 0 e" ∷ codes "begin 0 b" ∷ [])
    ≡ lines_said (codes "no logs" ∷ codes "ok" ∷ codes "ok" ∷ codes "ok" ∷ codes "ok" ∷ codes "ok" ∷ codes "no logs" ∷ [])
unfolding opened said four_open
fifth_pool = refl

units_end_for_a_field : said (world_with (nodes 1 0 0) (under_way 1 1011 (nodes 1 0 0))) (codes "set 0 a 1.0 1" ∷ codes "set 0 a 1.0 2" ∷ codes "get 0 a 1.0" ∷ []) ≡ lines_said (codes "ok" ∷ codes "no toobig" ∷ codes "ok 1" ∷ [])
unfolding opened said
units_end_for_a_field = refl

units_end_for_an_object : said (world_with empty_graph (used 1 1003)) (codes "new 0 a 1" ∷ codes "new 0 a 1" ∷ []) ≡ lines_said (codes "ok @1" ∷ codes "no toobig" ∷ [])
unfolding opened said
units_end_for_an_object = refl

one_unit_less : said (world_with empty_graph (used 1 1004)) (codes "new 0 a 1" ∷ []) ≡ lines_said (codes "no toobig" ∷ [])
unfolding opened said
one_unit_less = refl

-- ---- a pool whose slots are all live grows by one puddle, which stays even if the transaction is undone

full_puddle : World
full_puddle = world_with (nodes 248 0 0) (under_way 1 0 (nodes 248 0 0))

grows : said full_puddle (codes "new 0 a 1" ∷ codes "new 0 a 1" ∷ codes "abort 0 a" ∷ codes "pools" ∷ codes "begin 0 a" ∷ codes "new 0 a 1" ∷ [])
    ≡ lines_said (codes "ok @249" ∷ codes "ok @250" ∷ codes "ok" ∷ codes "ok a:5:5:600:2:00000000-0000-0007-0000-000000000001" ∷ codes "ok" ∷ codes "ok @249" ∷ [])
unfolding opened said full_puddle
grows = refl

puddle_stays : (after_lines full_puddle (codes "new 0 a 1" ∷ codes "abort 0 a" ∷ [])).stored
    ≡ record (stored_with empty_graph) { next_number = 4; pools = (name_of 97, record (holding (nodes 248 0 0)) { classes = 1 ∷ 1 ∷ [] }) ∷ [] }
unfolding opened after_lines full_puddle
puddle_stays = refl

no_frame_left : said (record full_puddle { stored = record (stored_with (nodes 248 0 0)) { frames = 1 } }) (codes "new 0 a 1" ∷ []) ≡ lines_said (codes "no space" ∷ [])
unfolding opened said full_puddle
no_frame_left = refl

-- the last serial below 2^63
serials_end : said (world_with empty_graph (under_way 1 0 (record empty_graph { next_serial = 9223372036854775807 }))) (codes "new 0 a 1" ∷ codes "new 0 a 1" ∷ [])
    ≡ lines_said (codes "ok @9223372036854775807" ∷ codes "no full" ∷ [])
unfolding opened said
serials_end = refl
