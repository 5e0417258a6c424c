-- Lines on deferred values, on roots and on freed objects, each answered in turn.
use Rattle.std.proofs.Common.{◌≡◌, ℕ, List, [], ◌∷◌, codes, Option, Some, None, refl}
use Rattle.pud_defs.specs.declared.objects.FieldValue.{FieldValue}
use Rattle.pud_defs.specs.declared.objects.FieldValue.TheVariants.{Num, Ref}
use Rattle.pud_defs.specs.PoolGraphs.Graph.{Object, Graph, empty_graph}
use Rattle.pud_defs.specs.PoolGraphs.DeferredValues.{DeferredValue}
use Rattle.pud_defs.specs.StateMachine.World.{Transaction, World, no_clients, open_on}
use Rattle.pud_defs.proofs.Examples.Opened.{opened}
use Rattle.pud_defs.proofs.Examples.Pools.{said, after_lines, lines_said}
use Rattle.pud_defs.proofs.Examples.Transactions.{name_of, nodes, stored_with, world_with, under_way}

-- object 1 stores the number 10 and null, and no transaction is open
abbrev one : World
one = world_with (nodes 1 10 0) None

-- the pool stores this graph, and client 0 has a transaction open, which used this many units and changed nothing
abbrev used_on : (units : ℕ) → Graph → World
used_on units g = world_with g (under_way 1 units g)

-- the same with a transaction that has just begun
abbrev begun_on : Graph → World
begun_on g = used_on 0 g

abbrev later : (s f : ℕ) → FieldValue → DeferredValue
later s f x = record { s = s; f = f; x = x }

-- a transaction of client 0 that was begun once: it used this many units, sees this graph and has these deferred values
abbrev asking : (units : ℕ) → Graph → List DeferredValue → Option Transaction
asking units g deferred = Some (record { client = 0; depth = 1; units = units; now = g; deferred = deferred })

-- an object of type 1
abbrev node : (number pointer : ℕ) → Object
node number pointer = record { type_id = 1; class = 1; fields = Num number ∷ Ref pointer ∷ [] }

-- ---- a deferred value is seen only after the commit, and is stored after all values that are set at once

seen_at_commit : said one (codes "begin 0 a" ∷ codes "later 0 a 1.0 12" ∷ codes "get 0 a 1.0" ∷ codes "set 0 a 1.0 11" ∷ codes "get 0 a 1.0" ∷ codes "commit 0 a" ∷ codes "get 0 a 1.0" ∷ [])
    ≡ lines_said (codes "ok" ∷ codes "ok" ∷ codes "ok 10" ∷ codes "ok" ∷ codes "ok 11" ∷ codes "ok" ∷ codes "ok 12" ∷ [])
unfolding opened said
seen_at_commit = refl

after_a_set : said one (codes "begin 0 a" ∷ codes "set 0 a 1.0 11" ∷ codes "later 0 a 1.0 12" ∷ codes "get 0 a 1.0" ∷ codes "commit 0 a" ∷ codes "get 1 a 1.0" ∷ [])
    ≡ lines_said (codes "ok" ∷ codes "ok" ∷ codes "ok" ∷ codes "ok 11" ∷ codes "ok" ∷ codes "ok 12" ∷ [])
unfolding opened said
after_a_set = refl

-- of several deferred values of one field, the last one stays
in_turn : said one (codes "begin 0 a" ∷ codes "later 0 a 1.0 12" ∷ codes "later 0 a 1.1 @1" ∷ codes "later 0 a 1.0 13" ∷ codes "commit 0 a" ∷ codes "get 0 a 1.0" ∷ codes "get 0 a 1.1" ∷ [])
    ≡ lines_said (codes "ok" ∷ codes "ok" ∷ codes "ok" ∷ codes "ok" ∷ codes "ok" ∷ codes "ok 13" ∷ codes "ok @1" ∷ [])
unfolding opened said
in_turn = refl

-- the deferred values are in order, the oldest first, and each uses three units
asked_for : open_on (name_of 97) (after_lines one (codes "begin 0 a" ∷ codes "later 0 a 1.0 12" ∷ codes "later 0 a 1.1 @1" ∷ []))
    ≡ asking 6 (nodes 1 10 0) (later 1 0 (Num 12) ∷ later 1 1 (Ref 1) ∷ [])
unfolding opened after_lines
asked_for = refl

not_stored_before : (after_lines one (codes "begin 0 a" ∷ codes "later 0 a 1.0 12" ∷ codes "set 0 a 1.0 11" ∷ [])).stored ≡ stored_with (nodes 1 10 0)
unfolding opened after_lines
not_stored_before = refl

stored_moved : (after_lines one (codes "begin 0 a" ∷ codes "later 0 a 1.0 12" ∷ codes "set 0 a 1.0 11" ∷ codes "later 0 a 1.1 @1" ∷ codes "commit 0 a" ∷ [])).stored
    ≡ stored_with (nodes 1 12 1)
unfolding opened after_lines
stored_moved = refl

of_a_new_object : said (begun_on empty_graph) (codes "new 0 a 1" ∷ codes "later 0 a 1.1 @1" ∷ codes "get 0 a 1.1" ∷ codes "commit 0 a" ∷ codes "get 0 a 1.1" ∷ [])
    ≡ lines_said (codes "ok @1" ∷ codes "ok" ∷ codes "ok @0" ∷ codes "ok" ∷ codes "ok @1" ∷ [])
unfolding opened said
of_a_new_object = refl

-- ---- a deferred value is stored only at the last commit, and not at all if the transaction is undone

comes_at_the_last_commit : said one (codes "begin 0 a" ∷ codes "later 0 a 1.0 12" ∷ codes "begin 0 a" ∷ codes "commit 0 a" ∷ codes "get 0 a 1.0" ∷ codes "commit 0 a" ∷ codes "get 0 a 1.0" ∷ [])
    ≡ lines_said (codes "ok" ∷ codes "ok" ∷ codes "ok" ∷ codes "ok" ∷ codes "ok 10" ∷ codes "ok" ∷ codes "ok 12" ∷ [])
unfolding opened said
comes_at_the_last_commit = refl

gone_with_an_abort : said one (codes "begin 0 a" ∷ codes "later 0 a 1.0 12" ∷ codes "abort 0 a" ∷ codes "begin 0 a" ∷ codes "commit 0 a" ∷ codes "get 0 a 1.0" ∷ [])
    ≡ lines_said (codes "ok" ∷ codes "ok" ∷ codes "ok" ∷ codes "ok" ∷ codes "ok" ∷ codes "ok 10" ∷ [])
unfolding opened said
gone_with_an_abort = refl

gone_with_its_client : said one (codes "begin 0 a" ∷ codes "later 0 a 1.0 12" ∷ codes "leave 0" ∷ codes "get 1 a 1.0" ∷ [])
    ≡ lines_said (codes "ok" ∷ codes "ok" ∷ codes "ok" ∷ codes "ok 10" ∷ [])
unfolding opened said
gone_with_its_client = refl

gone_with_the_power : (after_lines one (codes "begin 0 a" ∷ codes "later 0 a 1.0 12" ∷ codes "cut 0" ∷ [])).stored ≡ stored_with (nodes 1 10 0)
unfolding opened after_lines
gone_with_the_power = refl

refused_as_a_set : said (begun_on (nodes 1 10 0)) (codes "later 0 a 2.0 1" ∷ codes "later 0 a 1.2 1" ∷ codes "later 0 a 1.1 7" ∷ codes "later 0 a 1.0 @1" ∷ codes "later 0 a 1.1 @2" ∷ codes "later 0 a 1.1 @1" ∷ [])
    ≡ lines_said (codes "no object" ∷ codes "no field" ∷ codes "no kind" ∷ codes "no kind" ∷ codes "no object" ∷ codes "ok" ∷ [])
unfolding opened said
refused_as_a_set = refl

-- ---- the root

set_and_nulled : said (begun_on (nodes 1 10 0)) (codes "root 0 a 1" ∷ codes "root 0 a 2" ∷ codes "root 0 a 0" ∷ codes "root 0 a 0" ∷ [])
    ≡ lines_said (codes "ok" ∷ codes "no object" ∷ codes "ok" ∷ codes "ok" ∷ [])
unfolding opened said
set_and_nulled = refl

null_of_an_empty_pool : said (begun_on empty_graph) (codes "root 0 a 1" ∷ codes "root 0 a 0" ∷ codes "new 0 a 1" ∷ codes "root 0 a 1" ∷ [])
    ≡ lines_said (codes "no object" ∷ codes "ok" ∷ codes "ok @1" ∷ codes "ok" ∷ [])
unfolding opened said
null_of_an_empty_pool = refl

root_is_seen : open_on (name_of 97) (after_lines one (codes "begin 0 a" ∷ codes "root 0 a 1" ∷ [])) ≡ under_way 1 3 (record (nodes 1 10 0) { root = 1 })
unfolding opened after_lines
root_is_seen = refl

root_is_stored : (after_lines one (codes "begin 0 a" ∷ codes "root 0 a 1" ∷ codes "commit 0 a" ∷ [])).stored ≡ stored_with (record (nodes 1 10 0) { root = 1 })
unfolding opened after_lines
root_is_stored = refl

root_is_nulled : (after_lines (world_with (record (nodes 1 10 0) { root = 1 }) None) (codes "begin 0 a" ∷ codes "root 0 a 0" ∷ codes "commit 0 a" ∷ [])).stored
    ≡ stored_with (nodes 1 10 0)
unfolding opened after_lines
root_is_nulled = refl

root_is_undone : (after_lines one (codes "begin 0 a" ∷ codes "root 0 a 1" ∷ codes "abort 0 a" ∷ [])).stored ≡ stored_with (nodes 1 10 0)
unfolding opened after_lines
root_is_undone = refl

-- ---- an object that is not referenced is freed

freed : said (begun_on (nodes 2 10 0)) (codes "free 0 a 1" ∷ codes "get 0 a 1.0" ∷ codes "free 0 a 1" ∷ codes "set 0 a 2.1 @1" ∷ codes "root 0 a 1" ∷ codes "commit 0 a" ∷ codes "get 0 a 1.0" ∷ codes "get 0 a 2.0" ∷ [])
    ≡ lines_said (codes "ok" ∷ codes "no object" ∷ codes "no object" ∷ codes "no object" ∷ codes "no object" ∷ codes "ok" ∷ codes "no object" ∷ codes "ok 10" ∷ [])
unfolding opened said
freed = refl

serial_is_not_given_again : said (begun_on (nodes 1 10 0)) (codes "free 0 a 1" ∷ codes "new 0 a 1" ∷ codes "commit 0 a" ∷ codes "get 0 a 1.0" ∷ codes "get 0 a 2.0" ∷ [])
    ≡ lines_said (codes "ok" ∷ codes "ok @2" ∷ codes "ok" ∷ codes "no object" ∷ codes "ok 0" ∷ [])
unfolding opened said
serial_is_not_given_again = refl

freed_is_stored : (after_lines (begun_on (nodes 2 10 0)) (codes "free 0 a 1" ∷ codes "commit 0 a" ∷ [])).stored
    ≡ stored_with (record { next_serial = 3; root = 0; objects = (2, node 10 0) ∷ [] })
unfolding opened after_lines
freed_is_stored = refl

back_after_an_abort : said (begun_on (nodes 1 10 0)) (codes "free 0 a 1" ∷ codes "new 0 a 1" ∷ codes "abort 0 a" ∷ codes "get 0 a 1.0" ∷ codes "get 0 a 2.0" ∷ codes "begin 0 a" ∷ codes "new 0 a 1" ∷ [])
    ≡ lines_said (codes "ok" ∷ codes "ok @2" ∷ codes "ok" ∷ codes "ok 10" ∷ codes "no object" ∷ codes "ok" ∷ codes "ok @2" ∷ [])
unfolding opened said
back_after_an_abort = refl

-- all slots are live; after one object is freed, one slot is free again
slot_is_free : said (begun_on (nodes 248 0 0)) (codes "free 0 a 5" ∷ codes "new 0 a 1" ∷ codes "pools" ∷ codes "new 0 a 1" ∷ codes "pools" ∷ [])
    ≡ lines_said (codes "ok" ∷ codes "ok @249" ∷ codes "ok a:5:5:600:1:00000000-0000-0007-0000-000000000001" ∷ codes "ok @250" ∷ codes "ok a:5:5:600:2:00000000-0000-0007-0000-000000000001" ∷ [])
unfolding opened said
slot_is_free = refl

-- ---- what references an object

held_by_itself : said (begun_on (nodes 1 10 1)) (codes "free 0 a 1" ∷ codes "set 0 a 1.1 @0" ∷ codes "free 0 a 1" ∷ [])
    ≡ lines_said (codes "no held" ∷ codes "ok" ∷ codes "ok" ∷ [])
unfolding opened said
held_by_itself = refl

held_by_the_root : said (begun_on (nodes 1 10 0)) (codes "root 0 a 1" ∷ codes "free 0 a 1" ∷ codes "root 0 a 0" ∷ codes "free 0 a 1" ∷ [])
    ≡ lines_said (codes "ok" ∷ codes "no held" ∷ codes "ok" ∷ codes "ok" ∷ [])
unfolding opened said
held_by_the_root = refl

-- the object that names it may be freed
held_by_a_field : said (begun_on (nodes 2 10 0)) (codes "set 0 a 2.1 @1" ∷ codes "free 0 a 1" ∷ codes "free 0 a 2" ∷ codes "free 0 a 1" ∷ [])
    ≡ lines_said (codes "ok" ∷ codes "no held" ∷ codes "ok" ∷ codes "ok" ∷ [])
unfolding opened said
held_by_a_field = refl

held_in_a_circle : said (begun_on (nodes 2 10 0)) (codes "set 0 a 1.1 @2" ∷ codes "set 0 a 2.1 @1" ∷ codes "free 0 a 1" ∷ codes "free 0 a 2" ∷ codes "set 0 a 1.1 @0" ∷ codes "free 0 a 2" ∷ codes "free 0 a 1" ∷ [])
    ≡ lines_said (codes "ok" ∷ codes "ok" ∷ codes "no held" ∷ codes "no held" ∷ codes "ok" ∷ codes "ok" ∷ codes "ok" ∷ [])
unfolding opened said
held_in_a_circle = refl

-- a deferred value for a field of the object references it, until the commit
held_as_what_is_to_have_a_value : said (begun_on (nodes 1 10 0)) (codes "later 0 a 1.0 12" ∷ codes "free 0 a 1" ∷ codes "set 0 a 1.0 12" ∷ codes "free 0 a 1" ∷ codes "commit 0 a" ∷ codes "begin 0 a" ∷ codes "free 0 a 1" ∷ [])
    ≡ lines_said (codes "ok" ∷ codes "no held" ∷ codes "ok" ∷ codes "no held" ∷ codes "ok" ∷ codes "ok" ∷ codes "ok" ∷ [])
unfolding opened said
held_as_what_is_to_have_a_value = refl

-- a deferred value that names the object references it; after the commit, the field does
held_as_what_is_to_be_a_value : said (begun_on (nodes 2 10 0)) (codes "later 0 a 2.1 @1" ∷ codes "free 0 a 1" ∷ codes "free 0 a 2" ∷ codes "commit 0 a" ∷ codes "begin 0 a" ∷ codes "free 0 a 1" ∷ codes "free 0 a 2" ∷ codes "free 0 a 1" ∷ [])
    ≡ lines_said (codes "ok" ∷ codes "no held" ∷ codes "no held" ∷ codes "ok" ∷ codes "ok" ∷ codes "no held" ∷ codes "ok" ∷ codes "ok" ∷ [])
unfolding opened said
held_as_what_is_to_be_a_value = refl

null_to_come_holds_its_object : said (begun_on (nodes 2 10 0)) (codes "later 0 a 2.1 @0" ∷ codes "free 0 a 2" ∷ codes "free 0 a 1" ∷ [])
    ≡ lines_said (codes "ok" ∷ codes "no held" ∷ codes "ok" ∷ [])
unfolding opened said
null_to_come_holds_its_object = refl

-- until the commit the field has its old value
held_until_null_comes : said (begun_on (nodes 1 10 1)) (codes "later 0 a 1.1 @0" ∷ codes "free 0 a 1" ∷ codes "commit 0 a" ∷ codes "begin 0 a" ∷ codes "free 0 a 1" ∷ [])
    ≡ lines_said (codes "ok" ∷ codes "no held" ∷ codes "ok" ∷ codes "ok" ∷ codes "ok" ∷ [])
unfolding opened said
held_until_null_comes = refl

-- the first field stores 1 as a number, which references no object
number_holds_nothing : said (begun_on (nodes 1 1 0)) (codes "get 0 a 1.0" ∷ codes "free 0 a 1" ∷ []) ≡ lines_said (codes "ok 1" ∷ codes "ok" ∷ [])
unfolding opened said
number_holds_nothing = refl

-- ---- one transaction with each kind of change

all_at_once : (after_lines one (codes "begin 0 a" ∷ codes "new 0 a 1" ∷ codes "new 0 a 1" ∷ codes "set 0 a 2.0 20" ∷ codes "later 0 a 2.0 21" ∷ codes "later 0 a 2.1 @2" ∷ codes "root 0 a 2" ∷ codes "free 0 a 1" ∷ codes "free 0 a 3" ∷ codes "commit 0 a" ∷ [])).stored
    ≡ stored_with (record { next_serial = 4; root = 2; objects = (2, node 21 2) ∷ [] })
unfolding opened after_lines
all_at_once = refl

-- ---- units

units_end_for_a_value_to_come : said (used_on 1013 (nodes 1 0 0)) (codes "later 0 a 1.0 1" ∷ codes "later 0 a 1.0 2" ∷ codes "commit 0 a" ∷ codes "get 0 a 1.0" ∷ [])
    ≡ lines_said (codes "ok" ∷ codes "no toobig" ∷ codes "ok" ∷ codes "ok 1" ∷ [])
unfolding opened said
units_end_for_a_value_to_come = refl

units_end_for_a_root : said (used_on 1013 (nodes 1 0 0)) (codes "root 0 a 1" ∷ codes "root 0 a 0" ∷ codes "root 0 a 2" ∷ [])
    ≡ lines_said (codes "ok" ∷ codes "no toobig" ∷ codes "no object" ∷ [])
unfolding opened said
units_end_for_a_root = refl

units_end_for_an_object_freed : said (used_on 1013 (nodes 2 0 0)) (codes "free 0 a 1" ∷ codes "free 0 a 2" ∷ codes "free 0 a 1" ∷ [])
    ≡ lines_said (codes "ok" ∷ codes "no toobig" ∷ codes "no object" ∷ [])
unfolding opened said
units_end_for_an_object_freed = refl

one_unit_too_few : said (used_on 1014 (nodes 1 0 0)) (codes "later 0 a 1.0 1" ∷ codes "root 0 a 1" ∷ codes "free 0 a 1" ∷ [])
    ≡ lines_said (codes "no toobig" ∷ codes "no toobig" ∷ codes "no toobig" ∷ [])
unfolding opened said
one_unit_too_few = refl

held_before_too_big : said (used_on 1014 (nodes 1 0 1)) (codes "free 0 a 1" ∷ []) ≡ lines_said (codes "no held" ∷ [])
unfolding opened said
held_before_too_big = refl

-- ---- refusals that depend on which transaction is open

open_by_another : said (begun_on (nodes 1 0 0)) (codes "later 1 a 1.0 1" ∷ codes "root 1 a 1" ∷ codes "free 1 a 1" ∷ [])
    ≡ lines_said (codes "no busy" ∷ codes "no busy" ∷ codes "no busy" ∷ [])
unfolding opened said
open_by_another = refl

open_by_nobody : said one (codes "later 0 a 1.0 1" ∷ codes "root 0 a 1" ∷ codes "free 0 a 1" ∷ []) ≡ lines_said (codes "no tx" ∷ codes "no tx" ∷ codes "no tx" ∷ [])
unfolding opened said
open_by_nobody = refl

no_such_pool : said one (codes "later 0 b 1.0 1" ∷ codes "root 0 b 1" ∷ codes "free 0 b 1" ∷ []) ≡ lines_said (codes "no pool" ∷ codes "no pool" ∷ codes "no pool" ∷ [])
unfolding opened said
no_such_pool = refl

no_such_client : said (record one { clients = no_clients }) (codes "later 0 a 1.0 1" ∷ codes "root 0 a 1" ∷ codes "free 0 a 1" ∷ [])
    ≡ lines_said (codes "no client" ∷ codes "no client" ∷ codes "no client" ∷ [])
unfolding opened said
no_such_client = refl
