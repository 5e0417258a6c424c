-- What an image stores of a pool after the steps of a puddle are written to it.
use Rattle.std.proofs.Common.{◌≡◌, ℕ, ◌+◌, ◌-◌, ◌/◌, ◌%◌, ◌<◌, ◌≤◌, false, ltb, leb, eq-eqb, ne_eqb, not, List, map, Option, Some, None, option_map, refl, sym, ap, ◌∙◌, ⊎_elim, arith}
use Rattle.std.specs.Prelude.{slice_get, unwrap_or}
use Rattle.std.proofs.lemmas.Bool.{cases_eq, cases_lt, cases_Bool, cond-true, cond-false, and_parts, and_from, lt-ltb, le-ltb, le-leb, leb-true, ltb-true}
use Rattle.std.proofs.lemmas.Option.{slice_get-map, slice_get_within, same_Some}
use Rattle.pud_defs.specs.declared.layout.TheConstants.{FRAME_WORDS}
use Rattle.pud_defs.specs.declared.space.TheConstants.{FRAME_HEADER_WORDS}
use Rattle.pud_defs.specs.declared.records.Puddle.{Puddle}
use Rattle.pud_defs.specs.Formats.Geometry.{class_slot_words, class_slot_at}
use Rattle.pud_defs.proofs.Formats.Geometry.{slot_of_far_word}
use Rattle.pud_defs.specs.Formats.Image.{Image}
use Rattle.pud_defs.specs.Formats.Frames.{frame_at, frame_word}
use Rattle.pud_defs.specs.Logging.Replay.{overwritten}
use Rattle.pud_defs.specs.PoolGraphs.Stored.{Stored, class_of, stored_in, word_in_frame}
use Rattle.pud_defs.specs.PoolGraphs.Graph.{Graph, graph_of}
use Rattle.graph_laws.specs.Changes.{AreBases}
use Rattle.graph_laws.specs.Reads.{HasDistinctFrames}
use Rattle.pud_defs.specs.RegistryTables.Puddles.{moved_to, frontier_word, frontier_with_class}
use Rattle.graph_laws.specs.Rewriting.{with_some_puddle, with_frontier, advanced, passes_slot, LeadSomewhere}
use Rattle.graph_laws.specs.Steps.{passed_word, with_passed, is_in_frame, steps_write, steps_in, with_steps}
use Rattle.graph_laws.proofs.RewritingSteps.Rewritten.{slice_get-set_there, slice_get-set_other, map-set, LeadSomewhere-graph, graph_of-steps_any}
use Rattle.graph_laws.proofs.SameReads.StoredImages.{word_in_frame-same}
use Rattle.graph_laws.proofs.RewritingSteps.PassedWords.{RewritesSteps-passed}

-- ---- the three kinds of words

module _ (F : ℕ) (types : List (ℕ × ℕ)) (puddles : List Puddle) (word : ℕ → ℕ) (o m : ℕ) (e : ℕ × Puddle) where
  -- A word of the frame gets the value that the steps give it.
  pub write-frame : (k : ℕ) → k < FRAME_WORDS → steps_write F types puddles word o m e (frame_at F e.0 + k) ≡ passed_word types puddles e.1.class word o e.1.frontier m k
  unfolding steps_write
  write-frame k low =
      let at = frame_at F e.0 + k in
      let back : at - frame_at F e.0 ≡ k = omega arith in
      cond-true _ _ _ (and_from _ _ (le-leb (frame_at F e.0) at (omega arith)) (lt-ltb at (frame_at F e.0 + FRAME_WORDS) (omega arith)))
      ∙ ap (passed_word types puddles e.1.class word o e.1.frontier m) back

  not_in_frame : (k : ℕ) → (frame_at F e.0 ≤ k → k < frame_at F e.0 + FRAME_WORDS → ⊥) → is_in_frame F e.0 k ≡ false
  not_in_frame k out = ⊎_elim
      (λ inside.
      let parts = and_parts (leb (frame_at F e.0) k) (ltb k (frame_at F e.0 + FRAME_WORDS)) inside in
      absurd (out (leb-true (frame_at F e.0) k parts.0) (ltb-true k (frame_at F e.0 + FRAME_WORDS) parts.1)))
      (λ no. no)
      (cases_Bool (is_in_frame F e.0 k))

  -- The frontier word gets the new frontier.
  pub write-frontier : e.0 < F → steps_write F types puddles word o m e (frontier_word e.0) ≡ Some (frontier_with_class m e.1.class)
  unfolding steps_write
  write-frontier below =
      cond-false _ _ _ (not_in_frame (frontier_word e.0) (λ from end. absurd (omega arith))) ∙ cond-true _ _ _ (eq-eqb (frontier_word e.0) (frontier_word e.0) refl)

  -- No other word is written.
  pub write-other : (k : ℕ) → (frame_at F e.0 ≤ k → k < frame_at F e.0 + FRAME_WORDS → ⊥) → (k ≡ frontier_word e.0 → ⊥) → steps_write F types puddles word o m e k ≡ None
  unfolding steps_write
  write-other k out other = cond-false _ _ _ (not_in_frame k out) ∙ cond-false _ _ _ (ne_eqb k (frontier_word e.0) other)

-- ---- what is stored

-- After its last word a frame has no live slot.
passed-after : (types : List (ℕ × ℕ)) (puddles : List Puddle) (class : ℕ) (word : ℕ → ℕ) (o n m k : ℕ) → ((j : ℕ) → FRAME_WORDS ≤ j → word j ≡ 0) → FRAME_WORDS ≤ k → passed_word types puddles class word o n m k ≡ None
passed-after types puddles class word o n m k zero_after behind =
    let slot = (k - FRAME_HEADER_WORDS) / class_slot_words class in
    let free = zero_after (class_slot_at class slot + 0) (let far = slot_of_far_word class k behind in omega arith) in
    cond-false _ _ _ (le-ltb k FRAME_HEADER_WORDS (omega arith)) ∙ ⊎_elim
    (λ passed. cond-true _ _ _ passed ∙ cond-false _ _ _ (ap (λ b. not b) (eq-eqb (word (class_slot_at class slot + 0)) 0 free)))
    (λ out. cond-false _ _ _ out)
    (cases_Bool (passes_slot n m slot))

module _ (F : ℕ) (types : List (ℕ × ℕ)) (at : List (ℕ × Puddle)) (image : Image) (o m : ℕ) (e : ℕ × Puddle) (distinct : HasDistinctFrames at) (here : slice_get at o ≡ Some e) (below : e.0 < F) where
  abbrev st : Stored
  st = stored_in F at image

  abbrev write : ℕ → Option ℕ
  write = steps_in F types at image o m e

  abbrev after : Image
  after = overwritten write image

  abbrev later : List (ℕ × Puddle)
  later = with_steps o m e at

  abbrev passed : ℕ → ℕ → ℕ
  passed = with_passed types st o e.1.frontier m

  after_zero : (j : ℕ) → FRAME_WORDS ≤ j → st.word o j ≡ 0
  after_zero j following = ap (word_in_frame F image j) here ∙ cond-false _ _ _ (le-ltb j FRAME_WORDS following)

  puddle-there : slice_get st.puddles o ≡ Some e.1
  puddle-there = slice_get-map (λ (d : ℕ × Puddle). d.1) at o ∙ ap (option_map (λ (d : ℕ × Puddle). d.1)) here

  word-there : (k : ℕ) → word_in_frame F after k (slice_get later o) ≡ passed o k
  word-there k =
      let e_now : ℕ × Puddle = (e.0, moved_to m e.1) in
      let new = passed_word types st.puddles e.1.class (st.word o) o e.1.frontier m k in
      let class : class_of (slice_get st.puddles o) ≡ e.1.class = ap class_of puddle-there in
      let is : passed o k ≡ unwrap_or new (st.word o k) =
      cond-true _ _ _ (eq-eqb o o refl) ∙ ap (λ (c : ℕ). unwrap_or (passed_word types st.puddles c (st.word o) o e.1.frontier m k) (st.word o k)) class in
      ap (word_in_frame F after k) (slice_get-set_there at o e_now (slice_get_within at o e here))
      ∙ ⊎_elim
      (λ low.
      cond-true _ _ _ (lt-ltb k FRAME_WORDS low)
      ∙ ap (λ x. unwrap_or x (image (frame_at F e.0 + k))) (write-frame F types st.puddles (st.word o) o m e k low)
      ∙ ap (unwrap_or new) (sym (ap (word_in_frame F image k) here ∙ cond-true _ _ _ (lt-ltb k FRAME_WORDS low)))
      ∙ sym is)
      (λ behind.
      cond-false _ _ _ (le-ltb k FRAME_WORDS behind)
      ∙ sym (is ∙ ap (λ x. unwrap_or x (st.word o k)) (passed-after types st.puddles e.1.class (st.word o) o e.1.frontier m k after_zero behind) ∙ after_zero k behind))
      (cases_lt k FRAME_WORDS)

  word-other : (i k : ℕ) → (i ≡ o → ⊥) → word_in_frame F after k (slice_get later i) ≡ passed i k
  word-other i k other =
      ap (word_in_frame F after k) (slice_get-set_other at o i (e.0, moved_to m e.1) other)
      ∙ word_in_frame-same F image after k (slice_get at i)
      (λ d there low. ap (λ x. unwrap_or x (image (frame_at F d.0 + k)))
      (write-other F types st.puddles (st.word o) o m e (frame_at F d.0 + k)
      (λ from end. let same : d.0 ≡ e.0 = omega arith in other (distinct.each i o d e there here same))
      (λ frontier. absurd (omega arith))))
      ∙ sym (cond-false _ _ _ (ne_eqb i o other))

  each-word : (i k : ℕ) → word_in_frame F after k (slice_get later i) ≡ passed i k
  each-word i k = ⊎_elim
      (λ same. ap (λ j. word_in_frame F after k (slice_get later j)) same ∙ word-there k ∙ ap (λ j. passed j k) (sym same))
      (λ other. word-other i k other)
      (cases_eq i o)

  puddles-moved : map (λ d. d.1) later ≡ with_frontier o m st.puddles
  puddles-moved = map-set (λ (d : ℕ × Puddle). d.1) at o (e.0, moved_to m e.1) ∙ sym (ap (λ (d : Option Puddle). with_some_puddle o (option_map (moved_to m) d) st.puddles) puddle-there)

  pub stored_in-steps : stored_in F later after ≡ advanced o m passed st
  stored_in-steps = λ n. record { puddles = puddles-moved n; word = λ i k. each-word i k n }

  module _ (bases : AreBases (map (λ d. d.base) (map (λ d. d.1) at))) (more : e.1.frontier ≤ m) where
    pub graph_of-written_any : LeadSomewhere types st o e.1.frontier m → graph_of types (stored_in F later after) ≡ graph_of types st
    graph_of-written_any lead =
        ap (graph_of types) stored_in-steps ∙ graph_of-steps_any types st passed o m e.1 bases puddle-there more lead (RewritesSteps-passed types st o e.1.frontier m)

    pub graph_of-written : (g : Graph) → graph_of types st ≡ Some g → graph_of types (stored_in F later after) ≡ Some g
    graph_of-written g is = graph_of-written_any (LeadSomewhere-graph types st g o e.1.frontier m is) ∙ is

-- What is written depends only on the words of the frame.
pub steps_in-same : (F : ℕ) (types : List (ℕ × ℕ)) (at : List (ℕ × Puddle)) (i j : Image) (o m : ℕ) (e : ℕ × Puddle) → slice_get at o ≡ Some e → ((k : ℕ) → k < FRAME_WORDS → frame_word F e.0 k j ≡ frame_word F e.0 k i)
    → steps_in F types at j o m e ≡ steps_in F types at i o m e
steps_in-same F types at i j o m e here same =
    let each : (k : ℕ) → (stored_in F at j).word o k ≡ (stored_in F at i).word o k =
    λ k. ap (word_in_frame F j k) here ∙ word_in_frame-same F i j k (Some e) (λ d is low. ap (λ (f : ℕ × Puddle). frame_word F f.0 k j) (sym (same_Some e d is)) ∙ same k low ∙ ap (λ (f : ℕ × Puddle). frame_word F f.0 k i) (same_Some e d is)) ∙ sym (ap (word_in_frame F i k) here) in
    ap (λ (word : ℕ → ℕ). steps_write F types (map (λ d. d.1) at) word o m e) (λ n k. each k n)
