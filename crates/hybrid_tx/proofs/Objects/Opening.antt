-- A transaction on the words of a pool is a transaction on the pool.
use Rattle.std.proofs.Common.{◌≡◌, inl, ℕ, ◌+◌, ◌≤◌, true, List, [], Option, Some, None, refl, ap, subst, ◌∙◌, arith}
use Rattle.pm_model.specs.declared.host.HostFault.{HostFault}
use Rattle.pm_model.specs.Words.{Words, reads}
use Rattle.pm_model.specs.Moments.{State}
use Rattle.pm_model.specs.Changes.{Write, Changes}
use Rattle.pm_model.proofs.Changes.{HasOnly-kept}
use Rattle.pud_defs.specs.declared.layout.TheConstants.{LOG_WORDS}
use Rattle.pud_defs.specs.declared.records.Puddle.{Puddle}
use Rattle.pud_defs.specs.Formats.Layout.{device_words, frames_at}
use Rattle.pud_defs.specs.Formats.Image.{Image}
use Rattle.pud_defs.specs.Logging.Entries.{Entry}
use Rattle.pud_defs.specs.Formats.Frames.{frame_at}
use Rattle.pud_defs.specs.Logging.Replay.{overwritten}
use Rattle.pud_defs.specs.PoolGraphs.Stored.{stored_in}
use Rattle.pud_defs.specs.PoolGraphs.Graph.{Graph, graph_of}
use Rattle.pud_defs.specs.PoolGraphs.DeferredValues.{DeferredValue}
use Rattle.graph_laws.proofs.SameReads.StoredImages.{stored_in-same}
use Rattle.log_store.specs.Store.{OpenLog}
use Rattle.word_transaction.specs.Scope.{IsScope}
use Rattle.word_transaction.specs.Running.{IsIdle, ByTransaction, no_write, begun_log, KeepsRunning}
use Rattle.word_transaction.proofs.Ended.{beside_transaction}
use Rattle.hybrid_tx.specs.PoolScopes.{pool_has_word, pool_scope, finished_of, ArePlacedPuddles}
use Rattle.hybrid_tx.specs.Objects.Transactions.{AreDeferredEntries, IsSaving, RestsAs, IsOpenOn, KeepsSaving, KeepsOpenOn}
use Rattle.hybrid_tx.proofs.PoolScope.{pool_has_word-from, is_scope}
use Rattle.hybrid_tx.proofs.FinishedPuddles.{mine_of_finished}
use Rattle.hybrid_tx.proofs.Objects.DeferredKept.{AreDeferredEntries-stored}

-- images that agree on the pool's own words store the same of the pool
pub stored_in-has_word : (F : ℕ) (at : List (ℕ × Puddle)) (i j : Image) → ((k : ℕ) → pool_has_word F at k ≡ true → j k ≡ i k) → stored_in F at j ≡ stored_in F at i
stored_in-has_word F at i j same =
    stored_in-same F at i j (record {
      each = λ o k e there below.
          same (frame_at F e.0 + k) (pool_has_word-from F at (frame_at F e.0 + k) (record { ordinal = o; puddle = e; there = there; low = omega arith; high = omega arith }));
    })

-- a call that writes only own words and words of the log leaves the words of the unfinished puddles as they are
pub RestsAs-after : (F size : ℕ) (at : List (ℕ × Puddle)) (log : ℕ) (before : Image) (fault : Option HostFault) (old new : State) → IsScope size log (pool_scope F at)
    → Changes (ByTransaction (pool_scope F (finished_of at)) log) fault old new → RestsAs F at before old.now.words → RestsAs F at before new.now.words
RestsAs-after F size at log before fault old new scope c rests =
    let own = pool_scope F (finished_of at) in
    record {
      each = λ k mine other.
          HasOnly-kept (ByTransaction own log) fault old new k (before k) c (λ x by. beside_transaction own log k x (scope.apart k mine) other by) (rests.each k mine other);
    }

-- if each of the pool's words has one value, each word of its finished puddles has one
pub IsIdle-finished : (F : ℕ) (at : List (ℕ × Puddle)) (log : ℕ) (before : Image) (words : Words) → IsIdle (pool_scope F at) log before words → IsIdle (pool_scope F (finished_of at)) log before words
IsIdle-finished F at log before words idle = record { closed = idle.closed; single = λ k mine. idle.single k (mine_of_finished F at k mine) }

pub KeepsOpenOn-open : (F : ℕ) (at : List (ℕ × Puddle)) (types : List (ℕ × ℕ)) (log : OpenLog) (before : Image) (graph_before next : Graph) (deferred : List DeferredValue) (old new : State) → KeepsOpenOn F at types log before graph_before next deferred None old new
    → IsOpenOn F at types log before graph_before next deferred new.now.words
KeepsOpenOn-open F at types log before graph_before next deferred old new r =
    record {
      redo = r.redo;
      saving = record { es = r.saves.es; running = r.saves.runs.running refl; defers = r.saves.defers };
      rests = r.rests refl;
      was = r.was;
      is = r.is refl;
      are = r.are refl;
    }

module _ (F size : ℕ) (at : List (ℕ × Puddle)) (types : List (ℕ × ℕ)) (before : Image) where
  pub IsOpenOn-begun : (log : ℕ) (g : Graph) (old new : State) → IsScope size log (pool_scope F at) → IsIdle (pool_scope F at) log before old.now.words → graph_of types (stored_in F at before) ≡ Some g
      → KeepsRunning (pool_scope F (finished_of at)) (begun_log log) [] before no_write None old new → IsOpenOn F at types (begun_log log) before g g [] new.now.words
  IsOpenOn-begun log g old new scope idle was runs =
      record {
        redo = [];
        saving = record { es = []; running = runs.running refl; defers = refl };
        rests = RestsAs-after F size at log before None old new scope runs.changes (record { each = λ k mine other. idle.single k mine });
        was = was;
        is = ap (graph_of types) (stored_in-has_word F at before (reads new.now.words)
            (λ k mine. runs.now refl k (scope.apart k mine) ∙ (idle.single k mine).each (reads old.now.words k) (inl refl))) ∙ was;
        are = tt;
      }

  -- a call keeps the transaction if the words that it writes, over what is read, make the next graph and fit its
  -- deferred values
  pub KeepsOpenOn-saves : (log following : OpenLog) (graph_before now next : Graph) (deferred more : List DeferredValue) (redo : List Entry) (write : Write) (fault : Option HostFault) (old new : State)
      → IsScope size following.gate_at (pool_scope F at) → IsOpenOn F at types log before graph_before now deferred old.now.words → KeepsSaving F (finished_of at) following before redo write fault old new
      → graph_of types (stored_in F at (overwritten write (reads old.now.words))) ≡ Some next → AreDeferredEntries F at types (overwritten write (reads old.now.words)) next more redo
      → KeepsOpenOn F at types following before graph_before next more fault old new
  KeepsOpenOn-saves log following graph_before now next deferred more redo write fault old new scope is_open saves graph are =
      let stored : fault ≡ None → stored_in F at (reads new.now.words) ≡ stored_in F at (overwritten write (reads old.now.words)) =
      λ none. stored_in-has_word F at (overwritten write (reads old.now.words)) (reads new.now.words) (λ k mine. saves.runs.now none k (scope.apart k mine)) in
      record {
        write = write;
        redo = redo;
        saves = saves;
        rests = λ none. RestsAs-after F size at following.gate_at before fault old new scope saves.runs.changes is_open.rests;
        was = is_open.was;
        is = λ none. ap (graph_of types) (stored none) ∙ graph;
        are = λ none. AreDeferredEntries-stored F at types (overwritten write (reads old.now.words)) (reads new.now.words) next (stored none) more redo are;
      }

  -- the same for a call that saves and writes, or defers, after calls that only read
  pub KeepsOpenOn-write : (log following : OpenLog) (graph_before now next : Graph) (deferred more : List DeferredValue) (redo : List Entry) (write : Write) (fault : Option HostFault) (old mid new : State)
      → ArePlacedPuddles F at → device_words F ≤ size → log.gate_at + LOG_WORDS ≤ frames_at F → following.gate_at ≡ log.gate_at → mid ≡ old → (is_open : IsOpenOn F at types log before graph_before now deferred old.now.words)
      → (IsSaving F (finished_of at) log before is_open.redo mid.now.words → KeepsSaving F (finished_of at) following before redo write fault mid new)
      → graph_of types (stored_in F at (overwritten write (reads old.now.words))) ≡ Some next → AreDeferredEntries F at types (overwritten write (reads old.now.words)) next more redo
      → KeepsOpenOn F at types following before graph_before next more fault old new
  KeepsOpenOn-write log following graph_before now next deferred more redo write fault old mid new is_placed device apart same stays is_open saves graph are =
      KeepsOpenOn-saves log following graph_before now next deferred more redo write fault old new (is_scope F size following.gate_at at is_placed device (omega arith)) is_open
      (subst (λ (m : State). IsSaving F (finished_of at) log before is_open.redo m.now.words → KeepsSaving F (finished_of at) following before redo write fault m new) stays saves is_open.saving) graph are
