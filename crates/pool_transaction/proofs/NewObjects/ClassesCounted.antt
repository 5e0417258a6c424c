-- The classes of a pool's puddles, by the tables and by the world.
use Rattle.std.proofs.Common.{◌≡◌, ℕ, ◌<◌, Some, refl, sym, ap, ◌∙◌}
use Rattle.std.specs.FinMap.Entries.{find}
use Rattle.std.proofs.lemmas.Option.{same_Some}
use Rattle.pud_defs.specs.declared.records.TheConstants.{POOL_RECORDS}
use Rattle.pud_defs.specs.declared.records.PoolRecord.{PoolRecord}
use Rattle.pud_defs.specs.Formats.Image.{Image}
use Rattle.pud_defs.specs.Formats.Names.{name_cmp}
use Rattle.pud_defs.specs.RegistryTables.Tables.{Tables, Pool, Reader, tables_of, puddles_of, classes_of, pool_of}
use Rattle.pud_defs.specs.PoolGraphs.Holdings.{holding_in}
use Rattle.pud_defs.specs.StateMachine.PoolChanges.{pool_named}
use Rattle.pud_defs.specs.StateMachine.World.{StoredWorld}
use Rattle.registry.proofs.Moved.{ReadsWorld}
use Rattle.registry.proofs.Changed.{found_pool}

module _ (s : StoredWorld) (image : Image) (slot : ℕ) (r : PoolRecord) (p : Pool) (world : ReadsWorld s image) (within : slot < POOL_RECORDS) (used : (tables_of s.frames image).pools slot ≡ Some r) (there : pool_named r.name s ≡ Some p) where
  abbrev t : Tables
  t = tables_of s.frames image

  abbrev hold : Reader
  hold = holding_in s.types s.frames image

  pool_is : pool_of hold r (puddles_of t slot) ≡ p
  pool_is = same_Some (pool_of hold r (puddles_of t slot)) p (sym (found_pool hold s.next_number t slot r world.sound within used) ∙ ap (find name_cmp r.name) world.pools ∙ there)

  classes_are : classes_of (puddles_of t slot) ≡ (pool_of hold r (puddles_of t slot)).classes
  unfolding pool_of
  classes_are = refl

  -- The puddles that the tables have for the pool are of the classes that it has in the world.
  pub classes_by_world : classes_of (puddles_of t slot) ≡ p.classes
  classes_by_world = classes_are ∙ ap (λ (x : Pool). x.classes) pool_is
