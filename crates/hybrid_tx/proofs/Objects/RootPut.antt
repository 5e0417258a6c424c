-- The root is set within a transaction.
use Rattle.std.proofs.Common.{◌≡◌, ℕ, ◌+◌, ◌≤◌, List, [], ◌∷◌, Option, Some}
use Rattle.std.specs.Prelude.{slice_get}
use Rattle.pm_model.specs.declared.host.HostFault.{HostFault}
use Rattle.pm_model.specs.Words.{reads}
use Rattle.pm_model.specs.Moments.{State}
use Rattle.pm_model.specs.Changes.{placed}
use Rattle.pud_defs.specs.declared.layout.TheConstants.{LOG_WORDS}
use Rattle.pud_defs.specs.declared.space.TheConstants.{ROOT_WORD}
use Rattle.pud_defs.specs.declared.records.Puddle.{Puddle}
use Rattle.pud_defs.specs.declared.objects.FieldValue.TheVariants.{Ref}
use Rattle.pud_defs.specs.Formats.Layout.{device_words, frames_at}
use Rattle.pud_defs.specs.Formats.Image.{Image}
use Rattle.pud_defs.specs.Formats.Frames.{frame_at}
use Rattle.pud_defs.specs.Logging.Replay.{overwritten}
use Rattle.pud_defs.specs.PoolGraphs.Graph.{Graph}
use Rattle.pud_defs.specs.PoolGraphs.GraphChanges.{with_root}
use Rattle.pud_defs.specs.PoolGraphs.DeferredValues.{DeferredValue}
use Rattle.log_store.specs.Store.{OpenLog}
use Rattle.hybrid_tx.specs.PoolScopes.{ArePlacedPuddles, IsRewrittenAt}
use Rattle.hybrid_tx.specs.Objects.Stores.{word_for}
use Rattle.hybrid_tx.specs.Objects.Transactions.{IsOpenOn, KeepsOpenOn}
use Rattle.hybrid_tx.proofs.Objects.RootsSet.{root_set}
use Rattle.hybrid_tx.proofs.Objects.InFrames.{PutsAt}
use Rattle.hybrid_tx.proofs.Objects.DeferredKept.{AreDeferredEntries-kept}
use Rattle.hybrid_tx.proofs.Objects.DeferredAfter.{KeepsObjects-root, KeepsPlaces-root}
use Rattle.hybrid_tx.proofs.Objects.Opening.{KeepsOpenOn-write}

module _ (F : ℕ) (at : List (ℕ × Puddle)) (types : List (ℕ × ℕ)) (log following : OpenLog) (before : Image) (graph_before now : Graph) (deferred : List DeferredValue) (old : State)
    (is_open : IsOpenOn F at types log before graph_before now deferred old.now.words) where
  pub KeepsOpenOn-root : (size s v : ℕ) (first : ℕ × Puddle) (fault : Option HostFault) (mid new : State) → slice_get at 0 ≡ Some first → ArePlacedPuddles F at → IsRewrittenAt at 0 → device_words F ≤ size → log.gate_at + LOG_WORDS ≤ frames_at F → following.gate_at ≡ log.gate_at → mid ≡ old
      → word_for F at (reads old.now.words) (Ref s) ≡ Some v → PutsAt F at 0 ROOT_WORD (v ∷ []) log following fault mid new
      → KeepsOpenOn F at types following before graph_before (with_root s now) deferred fault old new
  KeepsOpenOn-root size s v first fault mid new head is_placed rewritten device apart same stays word put =
      let image = reads old.now.words in
      let write = placed (frame_at F first.0 + ROOT_WORD) (v ∷ []) in
      let redo = is_open.redo in
      KeepsOpenOn-write F size at types before log following graph_before now (with_root s now) deferred deferred redo write fault old mid new is_placed device apart same stays is_open (put first head (rewritten.each first head) before redo)
      (root_set types F at image now is_open.is is_placed rewritten first head s v word)
      (AreDeferredEntries-kept F at types image (overwritten write image) now (with_root s now) (KeepsPlaces-root F at image is_placed.frames first head v now) (KeepsObjects-root s now) deferred redo is_open.are)
