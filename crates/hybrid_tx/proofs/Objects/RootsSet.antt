-- The root's word is stored in an image of a pool: the pool's graph then has the root.
use Rattle.std.proofs.Common.{◌≡◌, inl, inr, ℕ, ◌+◌, List, [], ◌∷◌, Some, sym, ap, ◌∙◌, arith}
use Rattle.std.specs.Prelude.{slice_get}
use Rattle.pm_model.specs.Changes.{placed}
use Rattle.pud_defs.specs.declared.space.TheConstants.{ROOT_WORD}
use Rattle.pud_defs.specs.declared.records.Puddle.{Puddle}
use Rattle.pud_defs.specs.declared.objects.FieldValue.TheVariants.{Ref}
use Rattle.pud_defs.specs.Formats.Image.{Image}
use Rattle.pud_defs.specs.Formats.Frames.{frame_at}
use Rattle.pud_defs.specs.Logging.Replay.{overwritten}
use Rattle.pud_defs.specs.PoolGraphs.Stored.{Stored, stored_in, places_of}
use Rattle.pud_defs.specs.PoolGraphs.Graph.{table_of, Graph, graph_of}
use Rattle.pud_defs.specs.PoolGraphs.GraphChanges.{with_root}
use Rattle.graph_laws.specs.Changes.{with_root_word}
use Rattle.graph_laws.proofs.ObjectChanges.Roots.{graph_of-no_root, graph_of-root}
use Rattle.graph_laws.proofs.SameReads.Words.{place_of_serial-some, live_in_slot}
use Rattle.hybrid_tx.specs.PoolScopes.{ArePlacedPuddles, IsRewrittenAt}
use Rattle.hybrid_tx.specs.Objects.Stores.{word_for}
use Rattle.hybrid_tx.proofs.Objects.FieldsSet.{stored_in-one, place_is, address_of_place, word_of_reference}

module _ (types : List (ℕ × ℕ)) (F : ℕ) (at : List (ℕ × Puddle)) (image : Image) (g : Graph) (is : graph_of types (stored_in F at image) ≡ Some g) where
  abbrev st : Stored
  st = stored_in F at image

  module _ (is_placed : ArePlacedPuddles F at) (rewritten : IsRewrittenAt at 0) (first : ℕ × Puddle) (head : slice_get at 0 ≡ Some first) (s v : ℕ) (word : word_for F at image (Ref s) ≡ Some v) where
    with_root_stored : graph_of types (with_root_word v st) ≡ Some (with_root s g)
    with_root_stored = elim (word_of_reference F at image s v word) [
      | inl null ↦ ap (λ k. graph_of types (with_root_word k st)) null.1 ∙ graph_of-no_root types st g is ∙ ap (λ k. Some (with_root k g)) (sym null.0)
      | inr named ↦
          let here = place_is types F at image g is s ∙ named.found in
          let there = place_of_serial-some (table_of types st) (places_of st) s named.place here in
          graph_of-root types st g s named.place v is here (address_of_place types F at image g is is_placed 0 0 first rewritten head (omega arith) named.place v there.within (live_in_slot st named.place there.used) named.is)
    ]

    pub root_set : graph_of types (stored_in F at (overwritten (placed (frame_at F first.0 + ROOT_WORD) (v ∷ [])) image)) ≡ Some (with_root s g)
    root_set = ap (graph_of types) (stored_in-one F at image 0 ROOT_WORD v first is_placed.frames head (omega arith)) ∙ with_root_stored
