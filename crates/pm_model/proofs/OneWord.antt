-- The images that may be left while one word is written, and after it is written.
use Rattle.std.proofs.Common.{◌≡◌, ◌⊎◌, inl, inr, ℕ, Some, None, refl, sym, ap, ◌∙◌}
use Rattle.std.proofs.lemmas.Bool.{cases_eq, eq-eqb}
use Rattle.pm_model.specs.Words.{Image, Words, Picks}
use Rattle.pm_model.specs.Moments.{State}
use Rattle.pm_model.specs.Changes.{only, IsFrom, Persists, written}
use Rattle.pm_model.proofs.Words.{only_at}
use Rattle.pm_model.proofs.Changes.{Changes-now}
use Rattle.pm_model.proofs.Leaves.{origin}

-- The image has this value in the word, and is the image before everywhere else.
pub record IsWith (w v : ℕ) (before image : Image) : Type 0 where
  pub there : image w ≡ v
  pub others : (k : ℕ) → (k ≡ w → ⊥) → image k ≡ before k

pub value_of_only : (w v x : ℕ) → only w v w ≡ Some x → x ≡ v
value_of_only w v x e = let here : only w v w ≡ Some v = rw (eq-eqb w w refl) refl in cc

-- While one word is written, an image is the image before, or it has the word's new value.
pub one_word : (w v : ℕ) (before image : Image) → IsFrom (written (only w v)) before image → (image ≡ before) ⊎ IsWith w v before image
one_word w v before image from =
    let other : (k : ℕ) → (k ≡ w → ⊥) → image k ≡ before k = λ k apart. elim (from.each k) [ inl same ↦ same | inr new ↦ absurd (apart (only_at w v k (image k) new)) ] in
    elim (from.each w) [
      | inl same ↦
          let each : (k : ℕ) → image k ≡ before k = λ k. elim (cases_eq k w) [ inl here ↦ ap image here ∙ same ∙ ap before (sym here) | inr apart ↦ other k apart ] in
          inl (λ i k. each k i)
      | inr new ↦ inr (record { there = value_of_only w v (image w) new; others = other })
    ]

-- The image is one of these words, except that it has the value in word w.
pub record HasWord (words : Words) (w v : ℕ) (image : Image) : Type 0 where
  pub before : Image
  pub picked : Picks words before
  pub is : IsWith w v before image

-- After a word is persisted, each image has its value.
pub one_word_after : (w v : ℕ) (old new : State) (image : Image) → Persists (only w v) None old new → Picks new.now.words image → HasWord old.now.words w v image
one_word_after w v old new image p picked =
    let o = origin (written (only w v)) old.now.words new.now.words image (Changes-now (written (only w v)) None old new p.changes) picked in
    record {
      before = o.before;
      picked = o.picked;
      is = elim (one_word w v o.before image o.from) [
        | inr new ↦ new
        | inl same ↦ record {
          there = (p.durable refl w v (rw (eq-eqb w w refl) refl)).each (image w) (picked.each w);
          others = λ k apart. ap (λ (f : Image). f k) same;
        }
      ];
    }
