-- What is left in memory and in the world after transactions have ended.
use Rattle.std.specs.Prelude.{ℕ, ◌≤◌, List, set, Option, Some, None}
use Rattle.pm_model.specs.Changes.{Footprint}
use Rattle.pud_defs.specs.Formats.Layout.{tables_end}
use Rattle.pud_defs.specs.StateMachine.Transactions.{with_open, without_client}
use Rattle.pud_defs.specs.StateMachine.World.{World}
use Rattle.nesting.specs.declared.Session.{Session}
use Rattle.daemon_memory.specs.Memory.{ActiveTransaction}

-- The sessions, without the session of this transaction.
abbrev pub sessions_after : Option ActiveTransaction → List (Option Session) → List (Option Session)
sessions_after None sessions = sessions
sessions_after (Some active) sessions = set sessions active.slot None

-- The world in which this transaction is not open.
abbrev pub world_without_log : Option ActiveTransaction → World → World
world_without_log None w = w
world_without_log (Some active) w = record w { transactions = with_open active.name None w.transactions }

-- The world in which none of the client's transactions is open.
abbrev pub world_without : (client : ℕ) → World → World
world_without client w = record w { transactions = without_client client w.transactions }

-- Any value may be written to a word after the tables.
abbrev pub AfterTables : ℕ → Footprint
AfterTables F k v = tables_end F ≤ k
