-- What is known about a pool once an index of it is built.
use Rattle.std.proofs.Common.{◌≡◌, ℕ, ◌<◌, Bool, List, length, Option, Some, None, option_map, set, refl, sym, ap, ◌∙◌, subst}
use Rattle.std.specs.Prelude.{slice_index_or}
use Rattle.std.proofs.lemmas.List.{get_or_default, set-get_or}
use Rattle.pud_defs.specs.declared.records.Puddle.{Puddle}
use Rattle.pud_defs.specs.PoolGraphs.Graph.{Graph, graph_of}
use Rattle.pud_defs.specs.Formats.Image.{Image}
use Rattle.pud_defs.specs.PoolGraphs.Stored.{IsOnDevice, stored_in}
use Rattle.pud_defs.specs.RegistryTables.Types.{types_of}
use Rattle.known_pool.specs.Known.{Known, IsKnown, after_end}
use Rattle.known_pool.proofs.PlacesFollowed.{puddles_after_end}
use Rattle.daemon_memory.specs.PoolKnowledge.{puddles_known, known_pool_in, known_puddles_in, known_after_end, AreOnDevice, AreKnownPools}
use Rattle.daemon_memory.proofs.PoolsKnown.KnownKept.{graph_parts}
use Rattle.daemon_memory.proofs.PoolsKnown.KnownOpen.{known_again}
use Rattle.daemon_memory.proofs.PoolsKnown.Known.{AreOnDevice-put, AreKnownPools-set}
use Rattle.pm_model.specs.Words.{reads}
use Rattle.pm_model.specs.Moments.{State}
use Rattle.pud_defs.specs.StateMachine.World.{World}
use Rattle.daemon_memory.specs.Memory.{Memory}
use Rattle.daemon_memory.specs.Ready.{IsReady}
use Rattle.daemon_memory.proofs.PoolsFound.Found.{judged_ready, judged_more}

-- What was read in a slot of the list is what is known there.
pub known_there : (known_pools : List (Option Known)) (slot : ℕ) (read any : Option Known) → slot < length known_pools → read ≡ slice_index_or known_pools slot any → known_pool_in known_pools slot ≡ read
known_there known_pools slot read any within is = get_or_default known_pools slot None any within ∙ sym is

-- What is known lies in frames of the device.
pub on_device_there : (F : ℕ) (known_pools : List (Option Known)) (slot : ℕ) (known : Known) → AreOnDevice F known_pools → known_pool_in known_pools slot ≡ Some known → IsOnDevice F known.puddles
on_device_there F known_pools slot known all is = all.each slot known.puddles (ap puddles_known is)

ended_by : (F : ℕ) (undone deferred : Bool) (known_pools : List (Option Known)) (slot : ℕ) → AreOnDevice F known_pools → (o : Option Known) → known_pool_in known_pools slot ≡ o → AreOnDevice F (set known_pools slot (option_map (after_end undone deferred) o))
ended_by F undone deferred known_pools slot all None none = subst (λ (js : List (Option Known)). AreOnDevice F js) (sym (ap (λ (o : Option Known). set known_pools slot o) (sym none) ∙ set-get_or known_pools slot None)) all
ended_by F undone deferred known_pools slot all (Some known) is =
    AreOnDevice-put F known_pools slot (after_end undone deferred known)
    (subst (λ (at : List (ℕ × Puddle)). IsOnDevice F at) (sym (puddles_after_end undone deferred known)) (on_device_there F known_pools slot known all is)) all

module _ (known_pools : List (Option Known)) (slot : ℕ) (known more : Known) (is : known_pool_in known_pools slot ≡ Some known) (same : more.puddles ≡ known.puddles) where
  -- Each pool is known by the same puddles as before.
  pub puddles_built : (i : ℕ) → known_puddles_in (set known_pools slot (Some more)) i ≡ known_puddles_in known_pools i
  puddles_built i = known_again known_pools slot more (ap puddles_known is ∙ ap (λ (at : List (ℕ × Puddle)). Some at) (sym same)) i

  -- What is known is still true.
  pub AreKnownPools-built : (F : ℕ) (image : Image) → ((g : Graph) → graph_of (types_of image) (stored_in F known.puddles image) ≡ Some g → IsKnown F image known → IsKnown F image more) → AreKnownPools F known_pools image
      → AreKnownPools F (set known_pools slot (Some more)) image
  AreKnownPools-built F image built are =
      let has = are.each slot known.puddles (ap puddles_known is) in
      let graph = graph_parts F slot image known.puddles has in
      AreKnownPools-set F known_pools slot more image (has ∙ ap (λ (at : List (ℕ × Puddle)). Some at) (sym same)) (built graph.graph graph.stored (are.known slot known is)) are

-- A transaction on a pool has ended: what is known about the pool follows this.
pub ended_there : (undone deferred : Bool) (known_pools : List (Option Known)) (slot : ℕ) (known more : Known) → known_pool_in known_pools slot ≡ Some known → more ≡ after_end undone deferred known → set known_pools slot (Some more) ≡ known_after_end undone deferred slot known_pools
ended_there undone deferred known_pools slot known more is same =
    ap (λ (k : Known). set known_pools slot (Some k)) same ∙ ap (λ (o : Option Known). set known_pools slot (option_map (after_end undone deferred) o)) (sym is)

-- If the pool is not known, nothing changes.
pub ended_nowhere : (undone deferred : Bool) (known_pools : List (Option Known)) (slot : ℕ) → known_pool_in known_pools slot ≡ None → set known_pools slot None ≡ known_after_end undone deferred slot known_pools
ended_nowhere undone deferred known_pools slot none = ap (λ (o : Option Known). set known_pools slot (option_map (after_end undone deferred) o)) (sym none)

pub AreOnDevice-ended : (F : ℕ) (undone deferred : Bool) (known_pools : List (Option Known)) (slot : ℕ) → AreOnDevice F known_pools → AreOnDevice F (known_after_end undone deferred slot known_pools)
AreOnDevice-ended F undone deferred known_pools slot all = ended_by F undone deferred known_pools slot all (known_pool_in known_pools slot) refl

-- After an index of a pool was built, the daemon is still ready.
pub ready_built : (size : ℕ) (w : World) (memory : Memory) (known_pools : List (Option Known)) (a b : State) → b ≡ a → IsReady size w memory a
    → (AreKnownPools memory.frames memory.known_pools (reads b.now.words) → AreKnownPools memory.frames known_pools (reads b.now.words)) → ((i : ℕ) → known_puddles_in known_pools i ≡ known_puddles_in memory.known_pools i)
    → IsReady size w (record memory { known_pools = known_pools }) a
ready_built size w memory known_pools a b same ready built puddles =
    judged_more size w memory known_pools a ready
    (subst (λ (s : State). AreKnownPools memory.frames known_pools (reads s.now.words)) same (built (judged_ready size w memory b (subst (λ (s : State). IsReady size w memory s) (sym same) ready)))) (λ i at is. puddles i ∙ is)
