-- The entry that comes next in a log, as the words that are read determine it.
use Rattle.std.proofs.Common.{◌≡◌, inl, inr, ℕ, suc, ◌+◌, ◌-◌, ◌<◌, ◌≤◌, ◌&&◌, true, false, cond, leb, List, ◌∷◌, ◌++◌, length, Some, None, refl, sym, ap, ap₂, ◌∙◌, arith}
use Rattle.std.proofs.lemmas.Bool.{le-leb, lt-leb, leb-true, cond-true, cond-false, and_parts}
use Rattle.std.proofs.lemmas.Bool.Decides.{leb_tells}
use Rattle.pud_defs.specs.declared.layout.TheConstants.{LOG_HEADER_WORDS, LOG_ENTRY_WORDS, ENTRY_HEADER_WORDS}
use Rattle.pud_defs.specs.Formats.Image.{Image}
use Rattle.pud_defs.specs.Logging.Entries.{Entry, IsLegalEntry, gate_used, entry_n, entry_seq, entry_order, is_legal_entry_word, entry_by, first_entry, words_from}
use Rattle.pud_defs.proofs.Logging.Entries.{words_from-length, words_from-step, words_from-add, words_from-take, first_entry-few, first_entry-spelled}
use Rattle.log_entry.specs.Reading.{Reading, words_left, entry_next, entry_from, StandsNext}

-- At least two words are the first two and the rest.
two_words : (image : Image) (at n : ℕ) → 2 ≤ n → words_from image at n ≡ image at ∷ image (at + 1) ∷ words_from image (at + 2) (n - 2)
two_words image at n h =
    let place : (at + 1) + 1 ≡ at + 2 = omega arith in
    words_from-step image at n (suc (n - 2)) (omega arith)
    ∙ ap (λ ws. image at ∷ ws) (words_from-step image (at + 1) (suc (n - 2)) (n - 2) refl)
    ∙ ap (λ k. image at ∷ image (at + 1) ∷ words_from image k (n - 2)) place

-- ---- whether an entry comes next

-- If the gate counts more words than a log has, no entry comes next.
pub next-too_many : (image : Image) (r : Reading) → LOG_ENTRY_WORDS < gate_used (image r.log_at) → entry_next image r ≡ None
next-too_many image r h = cond-false _ _ _ (lt-leb (gate_used (image r.log_at)) LOG_ENTRY_WORDS h)

-- If it does not, the words that are left decide.
pub next-by : (image : Image) (r : Reading) → gate_used (image r.log_at) ≤ LOG_ENTRY_WORDS
    → entry_next image r ≡ first_entry (words_left image r)
next-by image r h = cond-true _ _ _ (le-leb (gate_used (image r.log_at)) LOG_ENTRY_WORDS h)

-- If fewer than two words are left, no entry comes next.
pub next-few : (image : Image) (r : Reading) → gate_used (image r.log_at) < r.passed + ENTRY_HEADER_WORDS → entry_next image r ≡ None
next-few image r h =
    let used = gate_used (image r.log_at) in
    let at = r.log_at + LOG_HEADER_WORDS + r.passed in
    elim (leb_tells used LOG_ENTRY_WORDS) [
      | inl within ↦ next-by image r within.1 ∙ first_entry-few (words_from image at (used - r.passed)) (omega (arith, words_from-length image at (used - r.passed)))
      | inr many ↦ next-too_many image r many.1
    ]

-- the first two words of an entry are there, and the gate counts `used` words in all, no more than a log has
pub record IsNext (image : Image) (r : Reading) (used at word : ℕ) : Type 0 where
  pub counts : used ≡ gate_used (image r.log_at)
  pub within : used ≤ LOG_ENTRY_WORDS
  pub begun : r.passed + ENTRY_HEADER_WORDS ≤ used
  pub place : at ≡ r.log_at + LOG_HEADER_WORDS + r.passed
  pub reads : word ≡ image (at + 1)

-- An entry comes next exactly if its second word is legal and all its values are there.
next-test : (image : Image) (r : Reading) (used at word : ℕ) → IsNext image r used at word → entry_next image r
    ≡ cond (is_legal_entry_word word && leb (entry_n word) (used - r.passed - ENTRY_HEADER_WORDS)) (Some (entry_by (image at) word (words_from image (at + 2) (used - r.passed - 2)))) None
unfolding first_entry
next-test image r used at word h =
    let rest = words_from image (at + 2) (used - r.passed - 2) in
    next-by image r (let counts = h.counts in let within = h.within in omega arith)
    ∙ ap₂ (λ k n. first_entry (words_from image k n)) (sym h.place) (ap (λ n. n - r.passed) (sym h.counts))
    ∙ ap first_entry (two_words image at (used - r.passed) (let begun = h.begun in omega arith))
    ∙ ap₂ (λ w n. cond (is_legal_entry_word w && leb (entry_n w) n) (Some (entry_by (image at) w rest)) None) (sym h.reads) (words_from-length image (at + 2) (used - r.passed - 2))

pub next-none : (image : Image) (r : Reading) (used at word : ℕ) → IsNext image r used at word → (is_legal_entry_word word && leb (entry_n word) (used - r.passed - ENTRY_HEADER_WORDS)) ≡ false
    → entry_next image r ≡ None
next-none image r used at word h fails = next-test image r used at word h ∙ cond-false _ _ _ fails

pub next-found : (image : Image) (r : Reading) (used at word address n seq order : ℕ) → IsNext image r used at word
    → (is_legal_entry_word word && leb (entry_n word) (used - r.passed - ENTRY_HEADER_WORDS)) ≡ true → address ≡ image at → n ≡ entry_n word → seq ≡ entry_seq word → order ≡ entry_order word
    → entry_next image r ≡ Some (entry_from image (record { addr = address; n = n; seq = seq; order = order; at = at + ENTRY_HEADER_WORDS }))
next-found image r used at word address n seq order h passes address_is n_is seq_is order_is =
    let left = used - r.passed - 2 in
    let fits : entry_n word ≤ left = leb-true (entry_n word) left (and_parts (is_legal_entry_word word) (leb (entry_n word) left) passes).1 in
    next-test image r used at word h
    ∙ cond-true _ _ _ passes
    ∙ (λ p. Some (record {
      address = sym address_is p;
      seq = sym seq_is p;
      order = sym order_is p;
      vals = (words_from-take image (at + 2) left (entry_n word) fits ∙ ap (words_from image (at + 2)) (sym n_is)) p;
    }))

-- ---- an entry that was spelled is read back

pub next-spelled : (image : Image) (r : Reading) (e : Entry) → IsLegalEntry e → StandsNext image r e → entry_next image r ≡ Some e
next-spelled image r e legal stands =
    let left = gate_used (image r.log_at) - r.passed in
    let at = r.log_at + LOG_HEADER_WORDS + r.passed in
    let n = length e.vals + ENTRY_HEADER_WORDS in
    let counted = stands.counted in
    let split : left ≡ n + (left - n) = omega arith in
    next-by image r stands.within
    ∙ ap first_entry (ap (words_from image at) split ∙ words_from-add image at n (left - n) ∙ ap (λ (ws : List ℕ). ws ++ words_from image (at + n) (left - n)) stands.words)
    ∙ first_entry-spelled e (words_from image (at + n) (left - n)) legal
