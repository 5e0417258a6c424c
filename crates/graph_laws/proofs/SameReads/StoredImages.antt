-- What images store of a pool: the same if they agree on its frames, and one changed word if one is written.
use Rattle.std.proofs.Common.{◌≡◌, ℕ, ◌+◌, ◌<◌, cond, ltb, List, map, Option, Some, None, refl, sym, ap, ◌∙◌, ⊎_elim, arith}
use Rattle.std.specs.Prelude.{slice_get}
use Rattle.std.proofs.lemmas.Bool.{cases_eq, cases_lt, cond-true, cond-false, lt-ltb, le-ltb}
use Rattle.pud_defs.specs.declared.layout.TheConstants.{FRAME_WORDS}
use Rattle.pud_defs.specs.declared.records.Puddle.{Puddle}
use Rattle.pud_defs.specs.Formats.Image.{Image, image_with}
use Rattle.pud_defs.specs.Formats.Frames.{frame_at, frame_word}
use Rattle.pud_defs.specs.PoolGraphs.Stored.{stored_in, word_in_frame}
use Rattle.pud_defs.proofs.Formats.Images.{written_there, written_other}
use Rattle.graph_laws.specs.Changes.{with_word, with_words}
use Rattle.graph_laws.specs.Reads.{AgreeOnFrames, HasDistinctFrames}
use Rattle.graph_laws.proofs.SameReads.Words.{with_word-there, with_word-other}

pub word_in_frame-same : (F : ℕ) (i j : Image) (k : ℕ) (e : Option (ℕ × Puddle)) → ((d : ℕ × Puddle) → e ≡ Some d → k < FRAME_WORDS → frame_word F d.0 k j ≡ frame_word F d.0 k i) → word_in_frame F j k e ≡ word_in_frame F i k e
word_in_frame-same F i j k None same = refl
word_in_frame-same F i j k (Some d) same = ⊎_elim
    (λ below. ap (λ v. cond (ltb k FRAME_WORDS) v 0) (same d refl below))
    (λ following. cond-false _ _ _ (le-ltb k FRAME_WORDS following) ∙ sym (cond-false _ _ _ (le-ltb k FRAME_WORDS following)))
    (cases_lt k FRAME_WORDS)

pub stored_in-same : (F : ℕ) (at : List (ℕ × Puddle)) (i j : Image) → AgreeOnFrames F at i j → stored_in F at j ≡ stored_in F at i
stored_in-same F at i j agree =
    let each : (o k : ℕ) → word_in_frame F j k (slice_get at o) ≡ word_in_frame F i k (slice_get at o) =
    λ o k. word_in_frame-same F i j k (slice_get at o) (λ d is below. agree.each o k d is below) in
    λ n. record { puddles = map (λ e. e.1) at; word = λ o k. each o k n }

module _ (F : ℕ) (at : List (ℕ × Puddle)) (image : Image) (o k v : ℕ) (e : ℕ × Puddle) (distinct : HasDistinctFrames at) (here : slice_get at o ≡ Some e) (below : k < FRAME_WORDS) where
  abbrev after : Image
  after = image_with (frame_at F e.0 + k) v image

  word_there : word_in_frame F after k (slice_get at o) ≡ v
  word_there = ap (word_in_frame F after k) here ∙ cond-true _ _ _ (lt-ltb k FRAME_WORDS below) ∙ written_there (frame_at F e.0 + k) v image

  -- A word of another frame does not change, nor does another word of this frame.
  word_other : (other word : ℕ) → (other ≡ o → word ≡ k → ⊥) → word_in_frame F after word (slice_get at other) ≡ word_in_frame F image word (slice_get at other)
  word_other other word apart = word_in_frame-same F image after word (slice_get at other)
      (λ d is few. written_other (frame_at F e.0 + k) v image (frame_at F d.0 + word)
      (λ same.
      let frame : d.0 ≡ e.0 = omega arith in
      let place : word ≡ k = omega arith in
      apart (distinct.each other o d e is here frame) place))

  each_word : (other word : ℕ) → word_in_frame F after word (slice_get at other) ≡ with_word o k v (stored_in F at image).word other word
  each_word other word =
      let before = (stored_in F at image).word in
      let elsewhere = λ (apart : other ≡ o → word ≡ k → ⊥). word_other other word apart ∙ sym (with_word-other o k v before other word apart) in
      ⊎_elim
      (λ same. ⊎_elim
      (λ place. (λ n. word_in_frame F after (place n) (slice_get at (same n))) ∙ word_there ∙ sym ((λ n. with_word o k v before (same n) (place n)) ∙ with_word-there o k v before))
      (λ differs. elsewhere (λ frame place. differs place))
      (cases_eq word k))
      (λ differs. elsewhere (λ frame place. differs frame))
      (cases_eq other o)

  pub stored_in-written : stored_in F at after ≡ with_words (with_word o k v (stored_in F at image).word) (stored_in F at image)
  stored_in-written = λ n. record { puddles = map (λ d. d.1) at; word = λ other word. each_word other word n }
