-- What is written for a frame, piece by piece.
use Rattle.std.proofs.Common.{◌≡◌, ◌≢◌, ℕ, ◌+◌, ◌-◌, ◌<◌, List, ◌∷◌, ◌++◌, length, get_or, replicate, Option, option_map, sym, ap, ap₂, ◌∙◌, append_assoc, ne_eqb, cond}
use Rattle.std.specs.Prelude.{slice_get, flat_map}
use Rattle.std.specs.List.{range_with_len}
use Rattle.std.proofs.lemmas.List.{append-nil}
use Rattle.std.proofs.lemmas.Option.{slice_get-map, slice_get-get_or}
use Rattle.pud_defs.specs.declared.layout.TheConstants.{FRAME_WORDS}
use Rattle.pud_defs.specs.declared.objects.Pointee.{Pointee}
use Rattle.pud_defs.specs.declared.records.Puddle.{Puddle}
use Rattle.pud_defs.specs.declared.space.TheConstants.{FRAME_MAGIC, FRAME_HEADER_WORDS, ROOT_WORD}
use Rattle.pud_defs.specs.Formats.Geometry.{place_at}
use Rattle.pud_defs.specs.Formats.Frames.{frame_word}
use Rattle.pud_defs.specs.PoolGraphs.Graph.{pointee_at, next_serial_of, root_of}
use Rattle.pud_defs.specs.Formats.Image.{Image}
use Rattle.pud_defs.specs.PoolGraphs.Stored.{Stored, stored_in}
use Rattle.pud_defs.specs.PoolGraphs.Exported.{address_of, uuid_number_of, exported_slot, exported_header, exported_frame}
use Rattle.puddle_header.proofs.Placed.{stored_word}
use Rattle.graph_read.specs.Checking.{content_of}
use Rattle.graph_read.specs.Reading.{pointee_of}
use Rattle.graph_read.proofs.Passing.{pointee_read}
use Rattle.pud_export.specs.Exporting.{slots_at, slots_to}
use Rattle.pud_export.proofs.Gathered.{flat_map-range_more}

-- ---- slots

module _ (types : List (ℕ × ℕ)) (st : Stored) (o : ℕ) where
  pub slots_to-none : (words : List ℕ) → words ≡ words ++ slots_to types st o 0
  unfolding slots_to
  slots_to-none words = sym (append-nil words)

  -- one more slot
  pub slots_to-more : (n p : ℕ) (before so_far now slot : List ℕ) → p ≡ place_at o n → slot ≡ exported_slot types st p → so_far ≡ before ++ slots_to types st o n → now ≡ so_far ++ slot
      → now ≡ before ++ slots_to types st o (n + 1)
  unfolding slots_to
  slots_to-more n p before so_far now slot place read is step =
      let each = λ (s : ℕ). exported_slot types st (place_at o s) in
      step ∙ ap₂ (λ (xs ys : List ℕ). xs ++ ys) is (read ∙ ap (exported_slot types st) place)
      ∙ append_assoc before (flat_map each (range_with_len 0 n)) (each n) ∙ ap (λ (xs : List ℕ). before ++ xs) (sym (flat_map-range_more each n))

  -- a header and all slots are a frame
  pub frame_whole : (before header now : List ℕ) → header ≡ exported_header st o → now ≡ before ++ header → now ++ slots_to types st o (slots_at st.puddles o) ≡ before ++ exported_frame types st o
  unfolding slots_to exported_frame
  frame_whole before header now is step =
      let slots = flat_map (λ s. exported_slot types st (place_at o s)) (range_with_len 0 (slots_at st.puddles o)) in
      ap (λ (xs : List ℕ). xs ++ slots) (step ∙ ap (λ (xs : List ℕ). before ++ xs) is) ∙ append_assoc before (exported_header st o) slots

-- ---- frames

-- one more frame
pub frames_more : (frame : ℕ → List ℕ) (n : ℕ) (before so_far now : List ℕ) → so_far ≡ before ++ flat_map frame (range_with_len 0 n) → now ≡ so_far ++ frame n
    → now ≡ before ++ flat_map frame (range_with_len 0 (n + 1))
frames_more frame n before so_far now is step =
    step ∙ ap (λ (xs : List ℕ). xs ++ frame n) is ∙ append_assoc before (flat_map frame (range_with_len 0 n)) (frame n) ∙ ap (λ (xs : List ℕ). before ++ xs) (sym (flat_map-range_more frame n))

-- ---- headers

module _ (F : ℕ) (at : List (ℕ × Puddle)) (image : Image) (o : ℕ) (e : ℕ × Puddle) (within : o < length at) where
  number_read : (get_or at o e).1.number ≡ uuid_number_of (slice_get (stored_in F at image).puddles o)
  number_read = sym (ap uuid_number_of (slice_get-map (λ (e : ℕ × Puddle). e.1) at o ∙ ap (option_map (λ (e : ℕ × Puddle). e.1)) (slice_get-get_or at o e within)))

  -- a word of a header
  pub header_word : (k v : ℕ) → k < FRAME_WORDS → v ≡ frame_word F (get_or at o e).0 k image → v ≡ (stored_in F at image).word o k
  header_word k v below is = is ∙ sym (stored_word F at image o k (get_or at o e) (slice_get-get_or at o e within) below)

  -- the header of an ordinal other than 0
  pub header-other : o ≢ 0 → FRAME_MAGIC ∷ (get_or at o e).1.number ∷ o ∷ 0 ∷ 0 ∷ replicate (FRAME_HEADER_WORDS - 5) 0 ≡ exported_header (stored_in F at image) o
  unfolding exported_header
  header-other other =
      let st = stored_in F at image in
      let apart = sym (ne_eqb o 0 other) in
      ap (λ (number : ℕ). FRAME_MAGIC ∷ number ∷ o ∷ 0 ∷ 0 ∷ replicate (FRAME_HEADER_WORDS - 5) 0) number_read
      ∙ ap (λ b. FRAME_MAGIC ∷ uuid_number_of (slice_get st.puddles o) ∷ o ∷ cond b (next_serial_of st) 0 ∷ cond b (address_of st.puddles (root_of st)) 0 ∷ replicate (FRAME_HEADER_WORDS - 5) 0) apart

-- the header of ordinal 0
pub header-first : (F : ℕ) (at : List (ℕ × Puddle)) (image : Image) (e : ℕ × Puddle) (next root : ℕ) → 0 < length at → next ≡ next_serial_of (stored_in F at image)
    → root ≡ address_of (stored_in F at image).puddles (root_of (stored_in F at image))
    → FRAME_MAGIC ∷ (get_or at 0 e).1.number ∷ 0 ∷ next ∷ root ∷ replicate (FRAME_HEADER_WORDS - 5) 0 ≡ exported_header (stored_in F at image) 0
unfolding exported_header
header-first F at image e next root some is_next is_root =
    ap (λ (number : ℕ). FRAME_MAGIC ∷ number ∷ 0 ∷ next ∷ root ∷ replicate (FRAME_HEADER_WORDS - 5) 0) (number_read F at image 0 e some)
    ∙ ap₂ (λ (n r : ℕ). FRAME_MAGIC ∷ uuid_number_of (slice_get (stored_in F at image).puddles 0) ∷ 0 ∷ n ∷ r ∷ replicate (FRAME_HEADER_WORDS - 5) 0) is_next is_root

-- what was read of the root pointer is what the file has for it
pub root_read : (st : Stored) (v : ℕ) (pointee : Option Pointee) → v ≡ st.word 0 ROOT_WORD → pointee ≡ pointee_of (pointee_at st.puddles 0 0 v) → address_of st.puddles (content_of pointee) ≡ address_of st.puddles (root_of st)
root_read st v pointee word is =
    ap (λ (p : Option Pointee). address_of st.puddles (content_of p)) is
    ∙ ap (address_of st.puddles) (pointee_read st.puddles 0 0 v ∙ ap (pointee_at st.puddles 0 0) word)
