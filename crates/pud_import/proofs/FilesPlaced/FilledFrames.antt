-- Frames that are filled one after the other: each keeps what it got.
use Rattle.std.proofs.Common.{◌≡◌, ℕ, ◌+◌, ◌<◌, ◌≤◌, List, length, Option, Some, None, refl, sym, ap, subst, ◌∙◌, ⊎_elim, arith}
use Rattle.std.specs.Prelude.{slice_get, slice_index}
use Rattle.std.proofs.lemmas.Bool.{cases_eq}
use Rattle.std.proofs.lemmas.Option.{same_Some, slice_get_within}
use Rattle.pm_model.specs.declared.host.HostFault.{HostFault}
use Rattle.pm_model.specs.Words.{Words, HasOnly}
use Rattle.pm_model.specs.Moments.{State}
use Rattle.pm_model.specs.Changes.{placed, written, Changes, Persists}
use Rattle.pm_model.proofs.Changes.{Changes-then, Changes-wider, HasOnly-kept}
use Rattle.pm_persist.proofs.Ranges.{placed_at, placed_within}
use Rattle.pud_defs.specs.declared.layout.TheConstants.{FRAME_WORDS}
use Rattle.pud_defs.specs.Formats.Frames.{frame_at}
use Rattle.pud_defs.specs.PoolGraphs.Stored.{Stored}
use Rattle.registry.specs.declared.adding.NewPuddle.{NewPuddle}
use Rattle.pud_import.specs.Filling.{filled_value, ByFrame, FillsFrame, ByFrames, AreFilled}
use Rattle.pud_import.specs.Places.{FramesRise}

-- ---- one frame

pub FillsFrame-persisted : (F frame : ℕ) (words : List ℕ) (value : ℕ → ℕ) (fault : Option HostFault) (old new : State) → length words ≡ FRAME_WORDS → ((k : ℕ) → k < FRAME_WORDS → slice_index words k ≡ value k)
    → Persists (placed (frame_at F frame) words) fault old new → FillsFrame F frame value fault old new
FillsFrame-persisted F frame words value fault old new whole are p = record {
  changes = Changes-wider (written (placed (frame_at F frame) words)) (ByFrame F frame) fault old new
      (λ k v may. let within = placed_within (frame_at F frame) k v words may in let high = within.1 in record { low = within.0; high = omega (arith, whole) }) p.changes;
  durable = λ none k below.
      subst (λ (v : ℕ). HasOnly (new.now.words (frame_at F frame + k)) v) (are k below)
      (p.durable none (frame_at F frame + k) (slice_index words k) (placed_at (frame_at F frame) k (frame_at F frame + k) words refl (omega (arith, whole))));
}

-- ---- many

-- the frames of the first `count` puddles store what the file's frames store
pub record AreFilledBelow (F : ℕ) (file : Stored) (puddles : List NewPuddle) (count : ℕ) (words : Words) : Type 0 where
  pub each : (o k : ℕ) (a : NewPuddle) → o < count → slice_get puddles o ≡ Some a → k < FRAME_WORDS → HasOnly (words (frame_at F a.frame + k)) (filled_value file o a.puddle.number k)

module _ (F : ℕ) (file : Stored) (puddles : List NewPuddle) where
  by_frame : (i : ℕ) (a : NewPuddle) → slice_get puddles i ≡ Some a → (k v : ℕ) → ByFrame F a.frame k v → ByFrames F puddles k v
  by_frame i a there k v within = record { ordinal = i; added = a; there = there; word = within }

  pub Changes-frame : (i : ℕ) (a : NewPuddle) (value : ℕ → ℕ) (fault : Option HostFault) (s b c : State) → slice_get puddles i ≡ Some a → Changes (ByFrames F puddles) None s b → FillsFrame F a.frame value fault b c
      → Changes (ByFrames F puddles) fault s c
  Changes-frame i a value fault s b c there before step =
      Changes-then (ByFrames F puddles) fault s b c before (Changes-wider (ByFrame F a.frame) (ByFrames F puddles) fault b c (by_frame i a there) step.changes)

  pub filled_more : (i : ℕ) (a : NewPuddle) (b c : State) → FramesRise puddles → slice_get puddles i ≡ Some a → FillsFrame F a.frame (filled_value file i a.puddle.number) None b c → AreFilledBelow F file puddles i b.now.words
      → AreFilledBelow F file puddles (i + 1) c.now.words
  filled_more i a b c rise there step before = record {
    each = λ o k d below is few. ⊎_elim
        (λ here.
        let same : a ≡ d = same_Some a d (sym there ∙ ap (slice_get puddles) (sym here) ∙ is) in
        subst (λ (d : NewPuddle). HasOnly (c.now.words (frame_at F d.frame + k)) (filled_value file o d.puddle.number k)) same
        (subst (λ (n : ℕ). HasOnly (c.now.words (frame_at F a.frame + k)) (filled_value file n a.puddle.number k)) (sym here) (step.durable refl k few)))
        (λ other.
        let apart = rise.each o i d a (omega arith) is there in
        HasOnly-kept (ByFrame F a.frame) None b c (frame_at F d.frame + k) (filled_value file o d.puddle.number k) step.changes
        (λ v within. let low = within.low in absurd (omega arith)) (before.each o k d (omega arith) is few))
        (cases_eq o i);
  }

  pub filled_none : (words : Words) → AreFilledBelow F file puddles 0 words
  filled_none words = record { each = λ o k a below is few. absurd (omega arith) }

  pub filled_all : (count : ℕ) (words : Words) → length puddles ≤ count → AreFilledBelow F file puddles count words → AreFilled F file puddles words
  filled_all count words all filled = record {
    each = λ o k a is few. let within = slice_get_within puddles o a is in filled.each o k a (omega arith) is few;
  }
