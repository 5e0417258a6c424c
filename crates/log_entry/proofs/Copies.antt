-- The words of a copied log, and the log that they spell.
use Rattle.std.proofs.Common.{◌≡◌, inl, inr, ℕ, ◌+◌, ◌-◌, ◌≤◌, false, eqb, ltb, List, length, take, drop, None, refl, sym, ap, ◌∙◌, arith}
use Rattle.std.specs.Prelude.{slice_index}
use Rattle.std.proofs.lemmas.Bool.{cases_Bool, cond-false, ne_eqb, le-ltb}
use Rattle.std.proofs.lemmas.List.{get_or-take, get_or-drop, length-take-le}
use Rattle.std.proofs.Math.ListN.{length-drop}
use borrow.Rule.Slice.PartMut.{mid_of}
use Rattle.pud_defs.specs.declared.layout.TheConstants.{LOG_HEADER_WORDS, LOG_ENTRY_WORDS, ENTRY_HEADER_WORDS}
use Rattle.pud_defs.specs.Formats.Image.{Image, image_with}
use Rattle.pud_defs.proofs.Formats.Images.{written_other}
use Rattle.log_entry.specs.declared.Entry.{Entry as Found}
use Rattle.pud_defs.specs.Logging.Entries.{log_of, gate_lo, gate_hi, gate_used, is_legal_gate, entries_of, words_from}
use Rattle.pud_defs.proofs.Logging.Entries.{words_from-holds, entries_of-is}
use Rattle.log_entry.specs.Copying.{Copied, image_of_copy, log_copied, IsOfCopy}
use Rattle.log_entry.proofs.Left.{legal_within}

-- An entry word of the image is the copy's word at its place after the header.
pub image_of_copy-word : (c : Copied) (k : ℕ) → LOG_HEADER_WORDS ≤ k → image_of_copy c k ≡ slice_index c.words (k - LOG_HEADER_WORDS)
image_of_copy-word c k following =
    cond-false (eqb k 0) c.gate _ (ne_eqb k 0 (λ here. absurd (omega arith)))
    ∙ cond-false (ltb k LOG_HEADER_WORDS) 0 (slice_index c.words (k - LOG_HEADER_WORDS)) (le-ltb k LOG_HEADER_WORDS following)

pub image_of_copy-place : (c : Copied) (k i : ℕ) → k ≡ LOG_HEADER_WORDS + i → image_of_copy c k ≡ slice_index c.words i
image_of_copy-place c k i place = let following : k - LOG_HEADER_WORDS ≡ i = omega arith in image_of_copy-word c k (omega arith) ∙ ap (slice_index c.words) following

length-mid_of : (a n : ℕ) (ws : List ℕ) → a + n ≤ length ws → length (mid_of a n ws) ≡ n
length-mid_of a n ws fits = length-take-le n (drop a ws) (omega (arith, length-drop a ws))

-- Entry words of the image in a row are the copy's words from the same place on.
pub copied_words : (c : Copied) (at n : ℕ) → LOG_HEADER_WORDS ≤ at → (at - LOG_HEADER_WORDS) + n ≤ length c.words → words_from (image_of_copy c) at n ≡ mid_of (at - LOG_HEADER_WORDS) n c.words
copied_words c at n following fits =
    let from = at - LOG_HEADER_WORDS in
    let ws = mid_of from n c.words in
    let count : length ws ≡ n = length-mid_of from n c.words fits in
    ap (words_from (image_of_copy c) at) (sym count)
    ∙ words_from-holds (image_of_copy c) at ws (λ i below.
    image_of_copy-place c (at + i) (from + i) (omega arith)
    ∙ sym (get_or-take n (drop from c.words) i 0 (omega arith) ∙ get_or-drop from c.words i 0))

-- A log whose gate is not legal has no list of entries.
illegal_entries : (image : Image) (at : ℕ) → is_legal_gate (image at) ≡ false → entries_of image at ≡ None
unfolding entries_of
illegal_entries image at illegal = cond-false _ _ _ illegal

-- the copy has the log's gate, and the words that the gate counts as far as a log has so many
pub record HoldsLog (image : Image) (at : ℕ) (c : Copied) : Type 0 where
  pub gate : c.gate ≡ image at
  pub count : ℕ
  pub counts : (gate_used (image at) ≤ LOG_ENTRY_WORDS) → count ≡ gate_used (image at)
  pub fits : count ≤ length c.words
  pub words : take count c.words ≡ words_from image (at + LOG_HEADER_WORDS) count

copied_entries : (image : Image) (at : ℕ) (c : Copied) → HoldsLog image at c → entries_of (image_of_copy c) 0 ≡ entries_of image at
copied_entries image at c h =
    elim (cases_Bool (is_legal_gate (image at))) [
      | inr illegal ↦ illegal_entries (image_of_copy c) 0 (ap is_legal_gate h.gate ∙ illegal) ∙ sym (illegal_entries image at illegal)
      | inl legal ↦
          let used : h.count ≡ gate_used (image at) = h.counts (legal_within (image at) legal) in
          let fits = h.fits in
          let words : words_from (image_of_copy c) LOG_HEADER_WORDS (gate_used (image at)) ≡ words_from image (at + LOG_HEADER_WORDS) (gate_used (image at)) =
          ap (words_from (image_of_copy c) LOG_HEADER_WORDS) (sym used) ∙ copied_words c LOG_HEADER_WORDS h.count (omega arith) (omega arith) ∙ h.words ∙ ap (words_from image (at + LOG_HEADER_WORDS)) used in
          entries_of-is (image_of_copy c) 0 (image at) (words_from image (at + LOG_HEADER_WORDS) (gate_used (image at))) h.gate legal words
          ∙ sym (entries_of-is image at (image at) (words_from image (at + LOG_HEADER_WORDS) (gate_used (image at))) refl legal refl)
    ]

-- Then the copy spells the same log.
pub copied_log : (image : Image) (at : ℕ) (c : Copied) → HoldsLog image at c → log_copied c ≡ log_of image at
copied_log image at c h = λ p. record { lo = gate_lo (h.gate p); hi = gate_hi (h.gate p); entries = copied_entries image at c h p }

-- If an entry gets another address, the gate does not change.
pub gate_set : (old new : Copied) (e : Found) (address : ℕ) → IsOfCopy old e → image_of_copy new ≡ image_with (e.at - ENTRY_HEADER_WORDS) address (image_of_copy old) → image_of_copy new 0 ≡ image_of_copy old 0
gate_set old new e address inside set =
    let following = inside.after_header in
    ap (λ (x : Image). x 0) set ∙ written_other (e.at - ENTRY_HEADER_WORDS) address (image_of_copy old) 0 (λ here. absurd (omega arith))
