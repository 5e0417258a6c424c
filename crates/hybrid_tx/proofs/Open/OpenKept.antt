-- A transaction on a pool stays open beside calls that give no value to a word of its own.
use Rattle.std.proofs.Common.{◌≡◌, ℕ, true, List, Option, Some, ap, ◌∙◌}
use Rattle.pm_model.specs.declared.host.HostFault.{HostFault}
use Rattle.pm_model.specs.declared.host.HostFault.TheVariants.{Cut}
use Rattle.pm_model.specs.Words.{reads}
use Rattle.pm_model.specs.Moments.{State}
use Rattle.pm_model.specs.Changes.{Footprint, Changes}
use Rattle.pud_defs.specs.declared.records.Puddle.{Puddle}
use Rattle.pud_defs.specs.RegistryTables.Types.{map_of}
use Rattle.pud_defs.specs.Formats.Image.{Image}
use Rattle.pud_defs.specs.PoolGraphs.Stored.{Stored, stored_in}
use Rattle.pud_defs.specs.PoolGraphs.Graph.{Graph, graph_of}
use Rattle.pud_defs.specs.PoolGraphs.DeferredValues.{DeferredValue}
use Rattle.log_store.specs.Store.{OpenLog, InLog}
use Rattle.pm_model.proofs.Changes.{HasOnly-kept}
use Rattle.word_transaction.proofs.Calls.{IsRunning-kept}
use Rattle.hybrid_tx.specs.PoolScopes.{pool_has_word, pool_scope, finished_of}
use Rattle.hybrid_tx.proofs.FinishedPuddles.{mine_of_finished}
use Rattle.hybrid_tx.specs.Objects.Transactions.{IsOpenOn}
use Rattle.hybrid_tx.proofs.Objects.DeferredKept.{KeepsObjects-same, place_in_pool-stored, AreDeferredEntries-wider, keeps_prefix}
use Rattle.hybrid_tx.proofs.Objects.Opening.{stored_in-has_word}

module _ (F : ℕ) (at : List (ℕ × Puddle)) (may : Footprint) (fault : Option HostFault) (old new : State) (c : Changes may fault old new) (uncut : fault ≡ Some Cut → ⊥)
    (own : (k v : ℕ) → pool_has_word F at k ≡ true → may k v → ⊥) where
  -- what is stored of the pool does not change
  stored_kept : stored_in F at (reads new.now.words) ≡ stored_in F at (reads old.now.words)
  stored_kept = stored_in-has_word F at (reads old.now.words) (reads new.now.words) (λ k mine. (c.keeps uncut k (λ v. own k v mine)).newest)

  pub IsOpenOn-kept : (types more : List (ℕ × ℕ)) (log : OpenLog) (before : Image) (graph_before now : Graph) (deferred : List DeferredValue) → ((k v : ℕ) → InLog log.gate_at k v → may k v → ⊥)
      → ((id m : ℕ) → map_of id types ≡ Some m → map_of id more ≡ Some m) → ((st : Stored) (g : Graph) → graph_of types st ≡ Some g → graph_of more st ≡ Some g)
      → IsOpenOn F at types log before graph_before now deferred old.now.words → IsOpenOn F at more log before graph_before now deferred new.now.words
  IsOpenOn-kept types more log before graph_before now deferred in_log defined graphs o =
      record {
        redo = o.redo;
        saving = record {
          es = o.saving.es;
          running = IsRunning-kept (pool_scope F (finished_of at)) log o.saving.es before may fault old new c in_log (λ k v mine. own k v (mine_of_finished F at k mine)) o.saving.running;
          defers = o.saving.defers;
        };
        rests = record { each = λ k mine other. HasOnly-kept may fault old new k (before k) c (λ v. own k v mine) (o.rests.each k mine other) };
        was = graphs (stored_in F at before) graph_before o.was;
        is = graphs (stored_in F at (reads new.now.words)) now (ap (graph_of types) stored_kept ∙ o.is);
        are = AreDeferredEntries-wider F at at types more (reads old.now.words) (reads new.now.words) now now (keeps_prefix at at (λ o e there. there)) (record { each = defined })
            (record { each = λ s o live. place_in_pool-stored F at (reads old.now.words) (reads new.now.words) stored_kept s }) (KeepsObjects-same now) deferred o.redo o.are;
      }
