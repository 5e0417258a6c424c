-- The world's pool of a record that is used, and its puddles in turn.
use Rattle.std.proofs.Common.{◌≡◌, ℕ, ◌<◌, List, Some, sym, ap, ◌∙◌}
use Rattle.std.specs.FinMap.Entries.{find}
use Rattle.std.proofs.lemmas.Option.{same_Some}
use Rattle.pm_model.specs.Words.{reads}
use Rattle.pm_model.specs.Masks.{masked}
use Rattle.pm_model.specs.Moments.{State}
use Rattle.pud_defs.specs.declared.records.TheConstants.{POOL_RECORDS}
use Rattle.pud_defs.specs.declared.records.PoolRecord.{PoolRecord}
use Rattle.pud_defs.specs.declared.records.Puddle.{Puddle}
use Rattle.pud_defs.specs.PoolGraphs.Holdings.{holding_in}
use Rattle.pud_defs.specs.Formats.Names.{name_cmp}
use Rattle.pud_defs.specs.StateMachine.PoolChanges.{pool_named}
use Rattle.pud_defs.specs.RegistryTables.Tables.{Tables, Reader, tables_of, puddles_of, puddles_in_turn, listed, pool_of}
use Rattle.pud_defs.specs.StateMachine.World.{World}
use Rattle.pud_defs.proofs.RegistryTables.PuddlesListed.{puddles_in_turn-listed}
use Rattle.registry.proofs.Changed.{found_pool}
use Rattle.daemon_memory.specs.Memory.{ActiveTransaction, Memory, active_under}
use Rattle.daemon_memory.specs.ActiveTransactions.{open_transaction_of}
use Rattle.daemon_memory.specs.PoolKnowledge.{known_puddles_in}
use Rattle.daemon_memory.specs.Ready.{IsReady}
use Rattle.daemon_memory.proofs.Commands.Beside.{active_is}
use Rattle.daemon_memory.proofs.PoolsKnown.KnownKept.{graph_parts}
use Rattle.daemon_memory.proofs.PoolChanges.TablesBeside.{sound_read, pools_read}

-- ---- a daemon that is ready

-- With the words of the active transactions masked, this is the world's pool of the used record, and its puddles in
-- turn are those of the record.
pub record IsPoolOf (w : World) (hold : Reader) (t : Tables) (slot : ℕ) (r : PoolRecord) : Type 0 where
  pub named : pool_named r.name w.stored ≡ Some (pool_of hold r (puddles_of t slot))
  pub in_turn : puddles_in_turn t slot ≡ listed (puddles_of t slot)

module _ (size : ℕ) (w : World) (memory : Memory) (s : State) (ready : IsReady size w memory s) where
  abbrev t : Tables
  t = tables_of w.stored.frames (reads s.now.words)

  abbrev hold : Reader
  hold = holding_in w.stored.types w.stored.frames (reads (masked ready.mask s.now.words))

  pub pool_in_slot : (slot : ℕ) (r : PoolRecord) → slot < POOL_RECORDS → t.pools slot ≡ Some r → IsPoolOf w hold t slot r
  pool_in_slot slot r within used =
      let sound = sound_read size w memory s ready in
      let named = ap (find name_cmp r.name) (sym (pools_read size w memory s ready)) ∙ found_pool hold w.stored.next_number t slot r sound within used in
      record { named = named; in_turn = puddles_in_turn-listed w.stored.next_number t slot r sound within used }

  -- The known puddles of a pool are those that it has, in turn.
  pub known_in_turn : (slot : ℕ) (at : List (ℕ × Puddle)) → known_puddles_in memory.known_pools slot ≡ Some at → puddles_in_turn t slot ≡ at
  known_in_turn slot at known = (graph_parts w.stored.frames slot (reads s.now.words) at (ready.knows.known_pools.each slot at known)).turn

  -- A pool on which a transaction is active is known, with the puddles on which the transaction is open.
  pub active_there_known : (number : ℕ) (active : ActiveTransaction) (there : active_under memory.active number ≡ Some active)
      → known_puddles_in memory.known_pools active.slot ≡ Some (active_is w memory.active ready.mask s.now.words ready.active number active there).puddles
  active_there_known number active there =
      let under = ready.active.each number active there in
      ready.knows.open_pools number (open_transaction_of active under.is.puddles under.is.rec under.is.own.who under.is.before) under.opened

  -- So the known puddles are these.
  pub active_known : (number : ℕ) (active : ActiveTransaction) (there : active_under memory.active number ≡ Some active) (at : List (ℕ × Puddle)) → known_puddles_in memory.known_pools active.slot ≡ Some at
      → (active_is w memory.active ready.mask s.now.words ready.active number active there).puddles ≡ at
  active_known number active there at known =
      let is = active_is w memory.active ready.mask s.now.words ready.active number active there in
      same_Some is.puddles at (sym (active_there_known number active there) ∙ known)

  -- They are all that the pool has, in turn.
  pub active_in_turn : (number : ℕ) (active : ActiveTransaction) (there : active_under memory.active number ≡ Some active)
      → puddles_in_turn t active.slot ≡ (active_is w memory.active ready.mask s.now.words ready.active number active there).puddles
  active_in_turn number active there = known_in_turn active.slot (active_is w memory.active ready.mask s.now.words ready.active number active there).puddles (active_there_known number active there)
