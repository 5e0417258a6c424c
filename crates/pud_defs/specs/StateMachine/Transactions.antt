-- Open transactions of a world: whose they are, what they use, how they begin and end.
use Rattle.std.specs.Prelude.{ℕ, ◌+◌, ◌-◌, Bool, false, not, nat_le, ◌==◌, cond, List, [], ◌∷◌, ◌++◌, bytes_eq, Option, Some, None, option_map}
use Rattle.pud_defs.specs.PoolGraphs.Graph.{Graph}
use Rattle.pud_defs.specs.PoolGraphs.DeferredValues.{DeferredValue, with_deferred_set}
use Rattle.pud_defs.specs.PoolGraphs.Holdings.Holding.{Sound}
use Rattle.pud_defs.specs.RegistryTables.Tables.{Pool}
use Rattle.pud_defs.specs.StateMachine.PoolChanges.{changed_pool}
use Rattle.pud_defs.specs.StateMachine.World.{Transaction}

-- which transactions are open, by the names of their pools
abbrev pub OpenTransactions : Type 0
OpenTransactions = List ℕ → Option Transaction

-- the transaction is this client's
abbrev pub is_own : ℕ → Option Transaction → Bool
is_own client None = false
is_own client (Some t) = t.client == client

-- the transaction is another client's
abbrev pub is_others : ℕ → Option Transaction → Bool
is_others client None = false
is_others client (Some t) = not (t.client == client)

-- how many units it has used
abbrev pub units_of : Option Transaction → ℕ
units_of None = 0
units_of (Some t) = t.units

-- its depth: how often it was begun and not yet committed
abbrev pub depth_of : Option Transaction → ℕ
depth_of None = 0
depth_of (Some t) = t.depth

-- its deferred values
abbrev pub deferred_of : Option Transaction → List DeferredValue
deferred_of None = []
deferred_of (Some t) = t.deferred

-- this transaction, or none, is open on the pool of the name; no other transaction changes
abbrev pub with_open : List ℕ → Option Transaction → OpenTransactions → OpenTransactions
with_open name now opened other = cond (bytes_eq other name) now (opened other)

-- the transaction on the pool of the name changed, if there is one
abbrev pub with_changed : List ℕ → (Transaction → Transaction) → OpenTransactions → OpenTransactions
with_changed name change opened = with_open name (option_map change (opened name)) opened

-- no transaction of the client is open
abbrev pub without_client : ℕ → OpenTransactions → OpenTransactions
without_client client opened name = cond (is_own client (opened name)) None (opened name)

-- ---- a transaction begins, and is used

-- a transaction of depth 1 of a client that sees this graph; or the open one, one deeper
abbrev pub open_after_begin : (client : ℕ) → Graph → Option Transaction → Option Transaction
open_after_begin client g None = Some (record { client = client; depth = 1; units = 0; now = g; deferred = [] })
open_after_begin client g (Some t) = Some (record t { depth = t.depth + 1 })

-- the transaction with its graph changed, and this many more units used
abbrev pub charged : (units : ℕ) → (Graph → Graph) → Transaction → Transaction
charged units change t = record t { units = t.units + units; now = change t.now }

-- the transaction with one more deferred value, after the others, and this many more units used; its graph does not
-- change
abbrev pub deferring : (units : ℕ) → DeferredValue → Transaction → Transaction
deferring units l t = record t { units = t.units + units; deferred = t.deferred ++ l ∷ [] }

-- ---- it ends

-- one less deep; from depth 1, none is open any more
abbrev pub lowered : Option Transaction → Option Transaction
lowered None = None
lowered (Some t) = cond (nat_le t.depth 1) None (Some (record t { depth = t.depth - 1 }))

-- the pool with this graph
abbrev pub holding_graph : Graph → Pool → Pool
holding_graph g p = record p { holding = Sound g }

-- the pools after a commit: from depth 1, the pool has the graph that the transaction made, with its deferred values
-- set; else no pool changes
abbrev pub committed_pools : List ℕ → Option Transaction → List (List ℕ × Pool) → List (List ℕ × Pool)
committed_pools name None pools = pools
committed_pools name (Some t) pools = cond (nat_le t.depth 1) (changed_pool name (holding_graph (with_deferred_set t.deferred t.now)) pools) pools
