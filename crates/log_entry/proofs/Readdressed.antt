-- Entries of a log get other addresses, one after the other, the oldest first.
use Rattle.std.proofs.Common.{◌≡◌, inl, inr, ℕ, ◌+◌, ◌-◌, ◌≤◌, ◌&&◌, true, leb, List, [], ◌∷◌, ◌++◌, length, drop, map, Option, Some, None, option_map, refl, sym, ap, ap₂, subst, ◌∙◌, arith}
use Rattle.std.proofs.lemmas.Bool.{cases_Bool, cond-true, cond-false, and_parts, leb-true}
use Rattle.std.proofs.lemmas.List.{append_assoc, take-append-le, drop_all}
use Rattle.pud_defs.specs.declared.layout.TheConstants.{LOG_HEADER_WORDS, ENTRY_HEADER_WORDS}
use Rattle.pud_defs.specs.Formats.Image.{Image, image_with}
use Rattle.pud_defs.proofs.Formats.Images.{written_there, written_other}
use Rattle.pud_defs.specs.Logging.Entries.{Entry, gate_used, entry_n, is_legal_entry_word, entry_by, words_from, first_entry, entries_in, entries_of}
use Rattle.pud_defs.proofs.Logging.Entries.{words_from-length, words_from-none, words_from-add, words_from-step, words_from-same, first_entry-fits, first_entry-is, length-entry_by, entries_in-first, entries_in-nothing, entries_in-append, entries_of-is}
use Rattle.log_entry.specs.declared.Entry.{Entry as Found}
use Rattle.log_entry.specs.Reading.{Reading, words_left, entry_next, entries_left, entry_from, PassesOne, Passes, left_before}
use Rattle.log_entry.specs.Copying.{with_address}
use Rattle.log_entry.proofs.Readings.{next-by}
use Rattle.log_entry.proofs.Left.{legal_within, left_legal, left_is_legal, entries_left-start, entries_left-after, taken, none_left}

-- ---- the first entry of words

-- The words begin with this entry, and these are its address, its second word and the words that follow.
record Begins (address word : ℕ) (rest : List ℕ) (e : Entry) : Type 0 where
  legal : is_legal_entry_word word ≡ true
  enough : entry_n word ≤ length rest
  is : e ≡ entry_by address word rest

begins : (address word : ℕ) (rest : List ℕ) (e : Entry) → first_entry (address ∷ word ∷ rest) ≡ Some e → Begins address word rest e
unfolding first_entry
begins address word rest e found =
    elim (cases_Bool (is_legal_entry_word word && leb (entry_n word) (length rest))) [
      | inl both ↦
          let parts = and_parts (is_legal_entry_word word) (leb (entry_n word) (length rest)) both in
          let it : Some e ≡ Some (entry_by address word rest) = sym found ∙ cond-true _ _ _ both in
          record { legal = parts.0; enough = leb-true (entry_n word) (length rest) parts.1; is = cc }
      | inr fails ↦ absurd (let it : Some e ≡ None = sym found ∙ cond-false _ _ _ fails in cc)
    ]

-- If the first word changes, the first entry has that word as its address and is otherwise the same.
first_readdressed : (x y : ℕ) (ws : List ℕ) (e : Entry) → first_entry (x ∷ ws) ≡ Some e → first_entry (y ∷ ws) ≡ Some (with_address y e)
unfolding first_entry
first_readdressed x y [] e found = absurd (cc)
first_readdressed x y (word ∷ rest) e found =
    let b = begins x word rest e found in
    first_entry-is y word rest b.legal b.enough ∙ ap (λ (it : Entry). Some (with_address y it)) (sym b.is)

first_address : (x : ℕ) (ws : List ℕ) (e : Entry) → first_entry (x ∷ ws) ≡ Some e → e.address ≡ x
unfolding first_entry
first_address x [] e found = absurd (cc)
first_address x (word ∷ rest) e found = ap (λ (it : Entry). it.address) (begins x word rest e found).is

-- The words of the first entry begin with that entry even if no words follow them.
first_alone : (ys zs : List ℕ) (e : Entry) → first_entry (ys ++ zs) ≡ Some e → length ys ≡ length e.vals + 2 → first_entry ys ≡ Some e
first_alone [] zs e found count = absurd (omega arith)
first_alone (x ∷ []) zs e found count = absurd (omega arith)
first_alone (x ∷ word ∷ rest) zs e found count =
    let b = begins x word (rest ++ zs) e found in
    let many : length e.vals ≡ entry_n word = ap (λ (it : Entry). length it.vals) b.is ∙ length-entry_by x word (rest ++ zs) b.enough in
    let enough : entry_n word ≤ length rest = omega arith in
    let same : entry_by x word rest ≡ entry_by x word (rest ++ zs) =
    ap (λ (vals : List ℕ). record { address = x; seq = (entry_by x word rest).seq; order = (entry_by x word rest).order; vals = vals }) (sym (take-append-le (entry_n word) rest zs enough)) in
    first_entry-is x word rest b.legal enough ∙ ap Some (same ∙ sym b.is)

-- These words spell this one entry and nothing else.
only_entry : (ws : List ℕ) (e : Entry) → first_entry ws ≡ Some e → length ws ≡ length e.vals + 2 → entries_in 0 ws ≡ Some (e ∷ [])
only_entry ws e first count =
    entries_in-first ws e (length ws) first count
    ∙ ap (option_map (λ es. e ∷ es)) (entries_in-nothing (drop (length ws) ws) (drop_all (length ws) ws (omega arith)))

-- ---- what has been done so far

-- The words that were read spell the entries `done`. The entries left are as they were in the log. With the addresses
-- of those left changed too, all together are the log's entries with their addresses changed.
pub record ReaddressesSoFar (f : Entry → Entry) (image : Image) (r : Reading) (whole : List Entry) : Type 0 where
  pub done : List Entry
  pub front : entries_in 0 (words_from image (r.log_at + LOG_HEADER_WORDS) r.passed) ≡ Some done
  pub counted : r.passed ≤ gate_used (image r.log_at)
  pub rest : List Entry
  pub left : entries_left image r ≡ Some rest
  pub all : done ++ map f rest ≡ map f whole

-- This holds before the first entry.
pub Readdresses-start : (f : Entry → Entry) (image : Image) (at : ℕ) (r : Reading) (whole : List Entry) → r ≡ record { log_at = at; passed = 0 } → entries_of image at ≡ Some whole → ReaddressesSoFar f image r whole
Readdresses-start f image at r whole start are =
    let none : r.passed ≡ 0 = ap (λ (x : Reading). x.passed) start in
    record {
      done = [];
      front = entries_in-nothing _ (words_from-none image (r.log_at + LOG_HEADER_WORDS) r.passed none);
      counted = omega arith;
      rest = whole;
      left = entries_left-start image at r start ∙ are;
      all = refl;
    }

-- It still holds one entry further, on an image that may differ only in this entry's address.
module _ (f : Entry → Entry) (i j : Image) (found : Option Found) (e : Found) (old now : Reading) (whole : List Entry)
    (some : found ≡ Some e) (next : option_map (entry_from i) found ≡ entry_next i old) (before : entries_left i old ≡ left_before i found now) (passed : Passes found old now)
    (so_far : ReaddressesSoFar f i old whole) where
  abbrev at : ℕ
  at = old.log_at + LOG_HEADER_WORDS + old.passed

  abbrev it : Entry
  it = entry_from i e

  abbrev n : ℕ
  n = gate_used (i old.log_at) - old.passed

  abbrev m : ℕ
  m = e.n + ENTRY_HEADER_WORDS

  passes : PassesOne e old now
  passes = subst (λ (o : Option Found). Passes o old now) some passed

  many : length it.vals ≡ e.n
  many = words_from-length i e.at e.n

  first : first_entry (words_left i old) ≡ Some it
  first =
      sym (next-by i old (legal_within (i old.log_at) (left_is_legal i old so_far.rest so_far.left)))
      ∙ sym (ap (option_map (entry_from i)) (sym some) ∙ next)

  fits : m ≤ n
  fits = omega (arith, first_entry-fits (words_left i old) it first, words_from-length i at n, many)

  words_i : words_from i at n ≡ i at ∷ words_from i (at + 1) (n - 1)
  words_i = let room = fits in words_from-step i at n (n - 1) (omega arith)

  -- An entry that does not change keeps the address that it has in the image.
  address_stays : f it ≡ it → f it ≡ with_address (i at) it
  address_stays same =
      let address : it.address ≡ i at = first_address (i at) (words_from i (at + 1) (n - 1)) it (ap first_entry (sym words_i) ∙ first) in
      same ∙ ap (λ (a : ℕ). with_address a it) address

  module _ (others : (k : ℕ) → (k ≡ at → ⊥) → j k ≡ i k) (changed : f it ≡ with_address (j at) it) where
    gate : j old.log_at ≡ i old.log_at
    gate = others old.log_at (λ here. absurd (omega arith))

    first_j : first_entry (words_from j at n) ≡ Some (f it)
    first_j =
        let room = fits in
        ap first_entry (words_from-step j at n (n - 1) (omega arith) ∙ ap (λ ws. j at ∷ ws) (words_from-same j i (at + 1) (n - 1) (λ k low high. others k (λ here. absurd (omega arith)))))
        ∙ first_readdressed (i at) (j at) (words_from i (at + 1) (n - 1)) it (ap first_entry (sym words_i) ∙ first)
        ∙ ap Some (sym changed)

    count : length (words_from j at m) ≡ length (f it).vals + 2
    count = words_from-length j at m ∙ ap (λ (k : ℕ). k + 2) (sym many) ∙ sym (ap (λ (x : Entry). length x.vals + 2) changed)

    one : entries_in 0 (words_from j at m) ≡ Some (f it ∷ [])
    one =
        let room = fits in
        let split : n ≡ m + (n - m) = omega arith in
        only_entry (words_from j at m) (f it)
        (first_alone (words_from j at m) (words_from j (at + m) (n - m)) (f it) (ap first_entry (sym (words_from-add j at m (n - m)) ∙ ap (words_from j at) (sym split)) ∙ first_j) count) count

    Readdresses-more : ReaddressesSoFar f j now whole
    Readdresses-more =
        let same_log = passes.same_log in
        let passed_now = passes.passed in
        let room = fits in
        let counted = so_far.counted in
        let following = taken i found e old now so_far.rest some before so_far.left in
        let begin = old.log_at + LOG_HEADER_WORDS in
        let begins_now : now.log_at + LOG_HEADER_WORDS ≡ begin = omega arith in
        let passed_m : now.passed ≡ old.passed + m = omega arith in
        let used : gate_used (j now.log_at) ≡ gate_used (i old.log_at) = ap gate_used (ap j same_log ∙ gate) in
        record {
          done = so_far.done ++ f it ∷ [];
          front = ap₂ (λ (k l : ℕ). entries_in 0 (words_from j k l)) begins_now passed_m
              ∙ ap (entries_in 0) (words_from-add j begin old.passed m)
              ∙ entries_in-append (words_from j begin old.passed) (words_from j at m) so_far.done
              (ap (entries_in 0) (words_from-same j i begin old.passed (λ k low high. others k (λ here. absurd (omega arith)))) ∙ so_far.front)
              ∙ ap (option_map (λ fs. so_far.done ++ fs)) one;
          counted = omega arith;
          rest = following.following;
          left = entries_left-after j i now (ap j same_log ∙ gate ∙ sym (ap i same_log)) (λ k low. others k (λ here. absurd (omega arith))) ∙ following.left;
          all = append_assoc so_far.done (f it ∷ []) (map f following.following) ∙ ap (λ (es : List Entry). so_far.done ++ map f es) (sym following.is) ∙ so_far.all;
        }

-- It still holds if the entry gets the address that it is to have.
pub Readdresses-set : (f : Entry → Entry) (i j : Image) (found : Option Found) (e : Found) (old now : Reading) (whole : List Entry) (address : ℕ) → found ≡ Some e → option_map (entry_from i) found ≡ entry_next i old
    → entries_left i old ≡ left_before i found now → Passes found old now → ReaddressesSoFar f i old whole → j ≡ image_with (e.at - ENTRY_HEADER_WORDS) address i → f (entry_from i e) ≡ with_address address (entry_from i e)
    → ReaddressesSoFar f j now whole
Readdresses-set f i j found e old now whole address some next before passed so_far set changed =
    let passes : PassesOne e old now = subst (λ (o : Option Found). Passes o old now) some passed in
    let at = old.log_at + LOG_HEADER_WORDS + old.passed in
    let place : e.at - ENTRY_HEADER_WORDS ≡ at = let following = passes.at in omega arith in
    let there : j at ≡ address = ap (λ (x : Image). x at) set ∙ ap (image_with (e.at - ENTRY_HEADER_WORDS) address i) (sym place) ∙ written_there (e.at - ENTRY_HEADER_WORDS) address i in
    Readdresses-more f i j found e old now whole some next before passed so_far
    (λ k other. ap (λ (x : Image). x k) set ∙ written_other (e.at - ENTRY_HEADER_WORDS) address i k (λ here. other (here ∙ place)))
    (changed ∙ ap (λ (a : ℕ). with_address a (entry_from i e)) (sym there))

-- It still holds if the entry is to keep its own address.
pub Readdresses-kept : (f : Entry → Entry) (i : Image) (found : Option Found) (e : Found) (old now : Reading) (whole : List Entry) → found ≡ Some e → option_map (entry_from i) found ≡ entry_next i old
    → entries_left i old ≡ left_before i found now → Passes found old now → ReaddressesSoFar f i old whole → f (entry_from i e) ≡ entry_from i e → ReaddressesSoFar f i now whole
Readdresses-kept f i found e old now whole some next before passed so_far same =
    Readdresses-more f i i found e old now whole some next before passed so_far (λ k other. refl) (address_stays f i i found e old now whole some next before passed so_far same)

-- After the last entry the log has all its entries with their addresses changed.
pub Readdresses-end : (f : Entry → Entry) (image : Image) (at : ℕ) (found : Option Found) (old now : Reading) (whole : List Entry) → found ≡ None → entries_left image old ≡ left_before image found now → old.log_at ≡ at
    → ReaddressesSoFar f image old whole → entries_of image at ≡ Some (map f whole)
Readdresses-end f image at found old now whole none before here so_far =
    let used = gate_used (image old.log_at) in
    let begin = old.log_at + LOG_HEADER_WORDS in
    let counted = so_far.counted in
    let legal = left_is_legal image old so_far.rest so_far.left in
    let split : used ≡ old.passed + (used - old.passed) = omega arith in
    let nothing : so_far.rest ≡ [] = none_left image found old now so_far.rest none before so_far.left in
    let following : entries_in 0 (words_left image old) ≡ Some [] = sym (left_legal image old legal) ∙ so_far.left ∙ ap Some nothing in
    ap (entries_of image) (sym here)
    ∙ entries_of-is image old.log_at (image old.log_at) (words_from image begin old.passed ++ words_left image old) refl legal (ap (words_from image begin) split ∙ words_from-add image begin old.passed (used - old.passed))
    ∙ entries_in-append (words_from image begin old.passed) (words_left image old) so_far.done so_far.front
    ∙ ap (option_map (λ fs. so_far.done ++ fs)) following
    ∙ ap Some (sym (ap (λ (es : List Entry). so_far.done ++ map f es) nothing) ∙ so_far.all)
