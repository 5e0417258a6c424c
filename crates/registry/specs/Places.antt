-- Where a new pool stands, or why none can be made.
use Rattle.std.specs.Prelude.{◌≡◌, ℕ, ◌+◌, false, ◌||◌, cond, List, Option, Some, None, is_some, is_none, Result, Ok, Err}
use Rattle.pm_model.specs.declared.host.HostFault.{HostFault}
use Rattle.pud_defs.specs.declared.space.TheConstants.{FIRST_CLASS}
use Rattle.pud_defs.specs.declared.records.TheConstants.{POOL_RECORDS}
use Rattle.pud_defs.specs.RegistryTables.Keyed.{first_free}
use Rattle.pud_defs.specs.RegistryTables.Tables.{Tables, pool_in}
use Rattle.pud_defs.specs.StateMachine.PoolChanges.{lacks_numbers}
use Rattle.pool_table.specs.declared.PoolFault.{PoolFault}
use Rattle.pool_table.specs.declared.PoolFault.TheVariants as pools
use Rattle.puddle_table.specs.declared.PuddleFault.{PuddleFault}
use Rattle.puddle_table.specs.declared.PuddleFault.TheVariants as puddles
use Rattle.registry.specs.declared.making.MakeFault.{MakeFault}
use Rattle.registry.specs.declared.making.MakeFault.TheVariants as faults
use Rattle.registry.specs.declared.adding.NewPuddle.{NewPuddle}
use Rattle.registry.specs.Adding.{IsNewPuddle}

-- the host's fault that making a pool returned
abbrev pub make_fault : {T : Type 0} → Result T MakeFault → Option HostFault
make_fault (Ok x) = None
make_fault (Err faults.Exists) = None
make_fault (Err faults.Full) = None
make_fault (Err faults.NoSpace) = None
make_fault (Err (faults.Host fault)) = Some fault

-- which error of making a pool an error of the pool table becomes; the next definition: an error of the puddle table
abbrev pub of_pool_fault : PoolFault → MakeFault
of_pool_fault pools.Exists = faults.Exists
of_pool_fault pools.Full = faults.Full
of_pool_fault (pools.Host fault) = faults.Host fault

abbrev pub of_puddle_fault : PuddleFault → MakeFault
of_puddle_fault puddles.NoSpace = faults.NoSpace
of_puddle_fault (puddles.Host fault) = faults.Host fault

-- the error that a call returned instead of Ok
abbrev pub refusal_in : {T E : Type 0} → Result T E → Option E
refusal_in (Ok x) = None
refusal_in (Err fault) = Some fault

-- Why no pool of the name can be made, if `next` is the next UUID number. Either a pool has the name; or no record is
-- free or too few numbers are left; or no frame is free.
abbrev pub make_refusal : Tables → ℕ → List ℕ → Option MakeFault
make_refusal t next name =
    cond (is_some (pool_in t name)) (Some faults.Exists)
    (cond (is_none (first_free t.pools 0 POOL_RECORDS) || lacks_numbers next) (Some faults.Full)
    (cond (is_none (first_free t.puddles 0 t.frames)) (Some faults.NoSpace) None))

-- The puddle is the first one of a new pool in the lowest free slot, and no pool has the name yet. The pool draws the
-- next UUID number, and the puddle draws the one after it. The puddle is of the class with which a pool is made.
pub record IsFirstFor (t : Tables) (next : ℕ) (name : List ℕ) (a : NewPuddle) : Type 0 where
  pub slot : first_free t.pools 0 POOL_RECORDS ≡ Some a.puddle.pool
  pub puddle : IsNewPuddle t a.puddle.pool 0 (next + 1) a
  pub enough : lacks_numbers next ≡ false
  pub absent : pool_in t name ≡ None
  pub class : a.puddle.class ≡ FIRST_CLASS
