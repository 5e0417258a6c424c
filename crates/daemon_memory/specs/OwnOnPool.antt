-- Which of the active transactions is the client's own on the pool in a slot.
use Rattle.std.specs.Prelude.{◌≡◌, ℕ, List, Option}
use Rattle.daemon_memory.specs.Memory.{ActiveTransaction}
use Rattle.daemon_memory.specs.ActiveTransactions.{IsOwnTransaction}

-- The client's own transaction on the pool of the name in this slot is active under this number.
pub record IsOwnTransactionOn (client : ℕ) (name : List ℕ) (slot number : ℕ) (active : List (Option ActiveTransaction)) : Type 0 where
  pub own : IsOwnTransaction client name number active
  pub slot_is : own.active.slot ≡ slot
