-- The pool of an active transaction: how the world has it, and whether it has a free slot of a class.
use Rattle.std.proofs.Common.{◌≡◌, ℕ, ◌≤◌, true, false, ◌==◌, List, map, length, Option, Some, None, refl, sym, ap, ap₂, ◌∙◌, arith, eqb-true, eq-eqb}
use Rattle.std.proofs.lemmas.List.{length-map}
use Rattle.std.proofs.lemmas.Simd.{map-map}
use Rattle.std.proofs.lemmas.Option.{none-some, same_Some}
use Rattle.pm_model.specs.Words.{reads}
use Rattle.pm_model.specs.Moments.{State}
use Rattle.pud_defs.specs.declared.records.Puddle.{Puddle}
use Rattle.pud_defs.specs.Formats.Geometry.{slots_among}
use Rattle.pud_defs.specs.PoolGraphs.Graph.{Graph}
use Rattle.pud_defs.specs.PoolGraphs.Holdings.{Holding, graph_held}
use Rattle.pud_defs.specs.PoolGraphs.Holdings.Holding.{Sound, Wild}
use Rattle.pud_defs.specs.StateMachine.PoolChanges.{pool_named}
use Rattle.pud_defs.specs.StateMachine.Step.{graph_in, graph_seen, objects_in, is_all_live, grows}
use Rattle.pud_defs.specs.PoolGraphs.Stored.{Stored, stored_in}
use Rattle.pud_defs.specs.RegistryTables.Tables.{Tables, Pool, tables_of, puddles_of, classes_of}
use Rattle.pud_defs.specs.StateMachine.World.{Transaction, World}
use Rattle.pud_defs.proofs.RegistryTables.PoolsCounted.{few_members, length_puddles}
use Rattle.pud_defs.proofs.RegistryTables.PuddlesListed.{puddles_in_turn-listed}
use Rattle.graph_laws.specs.Slots.{AreAllLive}
use Rattle.graph_laws.proofs.SameReads.LiveSlots.{objects-live}
use Rattle.registry.specs.Growth.{puddle_count, PoolHasGraph}
use Rattle.daemon_memory.specs.Memory.{ActiveTransaction, Memory, active_under}
use Rattle.daemon_memory.specs.ActiveTransactions.{IsActive}
use Rattle.daemon_memory.specs.Ready.{IsReady}
use Rattle.daemon_memory.proofs.PoolChanges.InTurn.{active_in_turn}
use Rattle.daemon_memory.proofs.PoolChanges.PoolsBeside.{used_still}
use Rattle.daemon_memory.proofs.PoolChanges.TablesBeside.{tables_read, world_under, sound_read}
use Rattle.pool_transaction.proofs.Lifetimes.ActiveRuns.{is_active}
use Rattle.pool_transaction.proofs.NewObjects.ClassesCounted.{classes_by_world}

-- A pool was found, and it has this graph.
pub record HasPool (found : Option Pool) (g : Graph) : Type 0 where
  pub pool : Pool
  pub there : found ≡ Some pool
  pub holds : pool.holding ≡ Sound g

sound_as : (h : Holding) (g : Graph) → graph_held h ≡ Some g → h ≡ Sound g
sound_as (Sound k) g is = ap Sound (same_Some k g is)
sound_as (Wild st) g is = absurd (none-some g is)

has_pool : (found : Option Pool) (g : Graph) → graph_in found ≡ Some g → HasPool found g
has_pool None g is = absurd (none-some g is)
has_pool (Some pool) g is = record { pool = pool; there = refl; holds = sound_as pool.holding g is }

module _ (size : ℕ) (w : World) (memory : Memory) (active : ActiveTransaction) (s : State) (number : ℕ) (there : active_under memory.active number ≡ Some active) (ready : IsReady size w memory s) where
  abbrev F : ℕ
  F = w.stored.frames

  abbrev is : IsActive w active ready.mask s.now.words
  is = is_active size w memory active s number there ready

  abbrev t : Tables
  t = tables_of F (reads s.now.words)

  abbrev st : Stored
  st = stored_in F is.puddles (reads s.now.words)

  -- The world has the transaction's pool.
  pub its_pool : HasPool (pool_named active.name w.stored) is.graph_before
  its_pool = has_pool (pool_named active.name w.stored) is.graph_before is.stored

  pub by_record : pool_named is.rec.name w.stored ≡ Some its_pool.pool
  by_record = ap (λ (name : List ℕ). pool_named name w.stored) is.name ∙ its_pool.there

  pub its_graph : PoolHasGraph is.rec.name w.stored is.graph_before
  its_graph = record { pool = its_pool.pool; there = by_record; holds = its_pool.holds }

  -- The puddles of the pool have the classes that the tables have for them.
  its_classes : classes_of (puddles_of t active.slot) ≡ its_pool.pool.classes
  its_classes =
      sym (ap (λ (u : Tables). classes_of (puddles_of u active.slot)) (tables_read size w memory s ready))
      ∙ classes_by_world w.stored _ active.slot is.rec its_pool.pool (world_under size w memory s ready) is.pool.slot
      (ap (λ (u : Tables). u.pools active.slot) (tables_read size w memory s ready) ∙ used_still w active ready.mask s.now.words is) by_record

  -- The transaction is open on the puddles that the tables have for the pool.
  turn_active : map (λ (e : ℕ × (ℕ × Puddle)). e.1) (puddles_of t active.slot) ≡ is.puddles
  turn_active =
      sym (puddles_in_turn-listed w.stored.next_number t active.slot is.rec (sound_read size w memory s ready) is.pool.slot (used_still w active ready.mask s.now.words is)) ∙ active_in_turn size w memory s ready number active there

  -- So they have the classes that the pool has in the world.
  pub classes_active : its_pool.pool.classes ≡ map (λ (e : ℕ × Puddle). e.1.class) is.puddles
  classes_active =
      sym its_classes ∙ sym (map-map (λ (e : ℕ × Puddle). e.1.class) (λ (e : ℕ × (ℕ × Puddle)). e.1) (puddles_of t active.slot)) ∙ ap (map (λ (e : ℕ × Puddle). e.1.class)) turn_active

  classes_stored : its_pool.pool.classes ≡ map (λ (d : Puddle). d.class) st.puddles
  classes_stored = classes_active ∙ sym (map-map (λ (d : Puddle). d.class) (λ (e : ℕ × Puddle). e.1) is.puddles)

  -- The tables have as many puddles for the pool as the transaction is open on.
  pub count_active : puddle_count t active.slot ≡ length is.puddles
  count_active =
      sym (length_puddles w.stored.next_number t (sound_read size w memory s ready) active.slot is.pool.slot)
      ∙ sym (length-map (puddles_of t active.slot) (λ (e : ℕ × (ℕ × Puddle)). e.1)) ∙ ap length turn_active

  pub puddles_counted : length its_pool.pool.classes ≡ length is.puddles
  puddles_counted = ap length classes_active ∙ length-map is.puddles (λ (e : ℕ × Puddle). e.1.class)

  pub some_active : 1 ≤ length is.puddles
  some_active =
      let sound = sound_read size w memory s ready in
      let few = few_members w.stored.next_number t sound active.slot is.rec is.pool.slot (used_still w active ready.mask s.now.words is) in
      let some = few.some in
      let counted = length_puddles w.stored.next_number t sound active.slot is.pool.slot in
      omega (arith, counted, count_active, some)

  module _ (class : ℕ) where
    abbrev objects : ℕ
    objects = objects_in class is.own.transaction.now

    -- The pool is to grow by a puddle of the class exactly if it has as many objects in such puddles as slots of the class.
    pub grows_by : grows w active.name class ≡ (objects == slots_among class its_pool.pool.classes)
    grows_by = ap₂ (λ (o : Option Transaction) (found : Option Pool). is_all_live class (graph_seen o found) found) is.own.is its_pool.there

    -- A pool that is to grow has no free slot of the class.
    pub grows_live : grows w active.name class ≡ true → AreAllLive class st
    grows_live more =
        let many = eqb-true objects (slots_among class its_pool.pool.classes) (sym grows_by ∙ more) in
        (objects-live class w.stored.types st is.own.transaction.now is.running.is).1 (many ∙ ap (slots_among class) classes_stored)

    pub grows_not : grows w active.name class ≡ false → AreAllLive class st → ⊥
    grows_not less all =
        let many = (objects-live class w.stored.types st is.own.transaction.now is.running.is).0 all in
        let no : true ≡ false = sym (eq-eqb objects (slots_among class its_pool.pool.classes) (many ∙ sym (ap (slots_among class) classes_stored))) ∙ sym grows_by ∙ less in
        cc
