-- Where a pool is in the pool table, which slot a new pool takes, and what adding one returns.
use Rattle.std.specs.Prelude.{◌≡◌, ◌≢◌, ℕ, ◌<◌, ◌^◌, cond, List, Option, Some, None, Result, Ok, Err}
use Rattle.std.specs.Ordering.{eq_by_cmp}
use Rattle.pm_model.specs.declared.host.HostFault.{HostFault}
use Rattle.pud_defs.specs.declared.records.TheConstants.{POOL_RECORDS}
use Rattle.pud_defs.specs.declared.records.PoolRecord.{PoolRecord}
use Rattle.pud_defs.specs.declared.records.Put.{Put}
use Rattle.pud_defs.specs.Formats.Names.{name_cmp}
use Rattle.pud_defs.specs.RegistryTables.Keyed.{first_free}
use Rattle.pud_defs.specs.RegistryTables.Tables.{Tables, pool_in}
use Rattle.pud_defs.specs.RegistryTables.Puts.{pool_put, with_pool_at}
use Rattle.pool_table.specs.declared.PoolFault.{PoolFault}
use Rattle.pool_table.specs.declared.PoolFault.TheVariants as faults
use Rattle.pool_table.specs.declared.Lookup.{Lookup}
use Rattle.pool_table.specs.declared.Lookup.TheVariants as places

-- The host's fault that a call returned, if there was one.
abbrev pub fault_in : {A : Type 0} → Result A PoolFault → Option HostFault
fault_in (Ok value) = None
fault_in (Err (faults.Host fault)) = Some fault
fault_in (Err faults.Exists) = None
fault_in (Err faults.Full) = None

-- The first word of a record is not that of a free record, nor this one.
pub record IsOtherWord (first word : ℕ) : Type 0 where
  pub used : word ≢ 0
  pub apart : word ≢ first
  pub fits : word < 2 ^ 64

-- The record that was read, if it has this name.
abbrev pub record_named : List ℕ → Option PoolRecord → Option PoolRecord
record_named name None = None
record_named name (Some rec) = cond (eq_by_cmp name_cmp name rec.name) (Some rec) None

-- Where a pool is if it was found, or would be if it was not.
abbrev pub lookup_by : Option (ℕ × PoolRecord) → Option ℕ → Lookup
lookup_by (Some found) free = places.Used found.0 found.1
lookup_by None (Some slot) = places.Free slot
lookup_by None None = places.Full

-- Where the pool of a name is, or would be.
abbrev pub lookup_of : Tables → List ℕ → Lookup
lookup_of t name = lookup_by (pool_in t name) (first_free t.pools 0 POOL_RECORDS)

-- The slot is one of the table, if there is one.
abbrev pub IsInTable : Lookup → Type 0
IsInTable (places.Used slot rec) = slot < POOL_RECORDS
IsInTable (places.Free slot) = slot < POOL_RECORDS
IsInTable places.Full = Unit {0}

-- The same, stated about what was found.
abbrev pub IsFoundInTable : Option (ℕ × PoolRecord) → Type 0
IsFoundInTable None = Unit {0}
IsFoundInTable (Some found) = found.0 < POOL_RECORDS

-- The slot that a new pool takes, by the place of its name.
abbrev pub slot_by_lookup : Lookup → Result ℕ PoolFault
slot_by_lookup (places.Used slot rec) = Err faults.Exists
slot_by_lookup (places.Free slot) = Ok slot
slot_by_lookup places.Full = Err faults.Full

-- The slot that a new pool of this name takes: the lowest free one, if no pool has the name.
abbrev pub slot_for : Tables → List ℕ → Result ℕ PoolFault
slot_for t name = slot_by_lookup (lookup_of t name)

-- What adding a record returns, by the place of its name.
abbrev pub pool_added_at : Lookup → PoolRecord → Result Put PoolFault
pool_added_at (places.Used slot rec) r = Err faults.Exists
pool_added_at (places.Free slot) r = Ok (pool_put slot r)
pool_added_at places.Full r = Err faults.Full

-- What adding a record returns: `Exists` if the name is there, the words for the lowest free slot, or `Full` if none is
-- free.
abbrev pub pool_added : Tables → PoolRecord → Result Put PoolFault
pool_added t r = pool_added_at (lookup_of t r.name) r

-- A record is added in the lowest free slot, to tables that have no record of its name.
pub record AddsPool (r : PoolRecord) (t u : Tables) : Type 0 where
  pub slot : ℕ
  pub lowest : first_free t.pools 0 POOL_RECORDS ≡ Some slot
  pub absent : pool_in t r.name ≡ None
  pub is : u ≡ with_pool_at slot (Some r) t
