-- An image with words written over it that a log neither has nor names: the log does not change, and its replay leaves
-- these words alone.
use Rattle.std.proofs.Common.{◌≡◌, inl, inr, ℕ, true, Option, Some, None, refl, sym, ap, ◌∙◌}
use Rattle.std.specs.Prelude.{unwrap_or}
use Rattle.std.proofs.lemmas.Bool.{cond-true, cond-false, cases_Bool}
use Rattle.pud_defs.specs.Formats.Image.{Image}
use Rattle.pud_defs.specs.Logging.Entries.{Log, log_of, is_idle_gate}
use Rattle.pud_defs.specs.Logging.Replay.{device_word, new_value, overwritten, IsInLog, is_in_log, settled_by}
use Rattle.pud_defs.proofs.Logging.Replay.{overwritten-stays, empty_range_of, new_value-closed, within_log}
use Rattle.pud_defs.proofs.RegistryTables.Spaces.{log_of-within}

-- No word is one of the log whose gate is this word.
pub record IsBesideLog (at : ℕ) (mask : ℕ → Option ℕ) : Type 0 where
  pub each : (k : ℕ) → IsInLog at k → mask k ≡ None

-- writes to different words may come in either order
pub swapped : (f g : Option ℕ) (v : ℕ) → ((x : ℕ) → f ≡ Some x → g ≡ None) → unwrap_or g (unwrap_or f v) ≡ unwrap_or f (unwrap_or g v)
swapped None g v none = refl
swapped (Some x) g v none = ap (λ (o : Option ℕ). unwrap_or o x) (none x refl)

module _ (at : ℕ) (mask : ℕ → Option ℕ) (beside : IsBesideLog at mask) where
  -- the log does not change
  pub log_of-masked : (image : Image) → log_of (overwritten mask image) at ≡ log_of image at
  log_of-masked image = log_of-within (overwritten mask image) image at (λ k inside. overwritten-stays mask image k (beside.each k inside))

  settled_at : (image : Image) (k : ℕ) → ((v : ℕ) → mask k ≡ Some v → new_value device_word (log_of image at) k ≡ None)
      → settled_by at (overwritten mask image) k ≡ overwritten mask (settled_by at image) k
  unfolding settled_by
  settled_at image k unnamed = elim (cases_Bool (is_in_log at k)) [
    | inl inside ↦
        let none = beside.each k (within_log at k inside) in
        cond-true _ _ _ inside ∙ sym (cond-true _ _ _ inside) ∙ sym (overwritten-stays mask (settled_by at image) k none)
    | inr outside ↦
        cond-false _ _ _ outside
        ∙ ap (λ (log : Log). overwritten (new_value device_word log) (overwritten mask image) k) (log_of-masked image)
        ∙ swapped (mask k) (new_value device_word (log_of image at) k) (image k) unnamed
        ∙ ap (λ (v : ℕ). unwrap_or (mask k) v) (sym (cond-false _ _ _ outside))
  ]

  -- its replay leaves the words alone, if the log names none of them
  pub settled_by-masked : (image : Image) → ((k v : ℕ) → mask k ≡ Some v → new_value device_word (log_of image at) k ≡ None)
      → settled_by at (overwritten mask image) ≡ overwritten mask (settled_by at image)
  settled_by-masked image unnamed = λ i k. settled_at image k (unnamed k) i

  -- a closed log that counts no word names none of them
  pub settled_by-masked_idle : (image : Image) → is_idle_gate (image at) ≡ true → settled_by at (overwritten mask image) ≡ overwritten mask (settled_by at image)
  settled_by-masked_idle image idle = settled_by-masked image (λ k v is. new_value-closed device_word (log_of image at) k (empty_range_of (image at) idle))
