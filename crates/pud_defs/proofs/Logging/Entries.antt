-- Entries of a log: how words spell them, one after the other.
use Rattle.std.proofs.Common.{◌≡◌, ◌⊎◌, inl, inr, ℕ, zero, suc, ◌+◌, ◌-◌, ◌^◌, ◌<◌, ◌≤◌, true, false, ◌&&◌, cond, leb, ltb, List, [], ◌∷◌, ◌++◌, length, take, drop, get_or, Option, Some, None, option_map, refl, sym, ap, ap₂, ◌∙◌, arith, zero-add, add-zero, suc-add, length-append}
use Rattle.std.proofs.lemmas.Bool.{le-leb, lt-leb, lt-ltb, and_parts, and_from, and_left, cond-true, cond-false, cases_Bool, leb-true}
use Rattle.std.proofs.lemmas.Bool.Decides.{leb_tells}
use Rattle.std.proofs.lemmas.List.{take-append-le, length-take-le, take_all, append-nil}
use Rattle.std.proofs.Math.Seq.{take-length, drop-length, drop-append_seam}
use Rattle.pud_defs.specs.declared.layout.TheConstants.{LOG_HEADER_WORDS, LOG_ENTRY_WORDS, MAX_ENTRY_VALUES}
use Rattle.pud_defs.specs.declared.log_words.TheConstants.{REDO_ORDER}
use Rattle.pud_defs.specs.Formats.Image.{Image}
use Rattle.pud_defs.specs.Logging.Entries.{Entry, log_of, gate_lo, gate_hi, gate_used, gate_word, is_legal_gate, entry_n, entry_seq, entry_order, entry_word, is_legal_entry_word, spelled, entry_words, entry_by, entry_and_rest, IsLegalEntry, entries_in, first_entry, words_from, used_words, entries_of}

-- ---- words of an image

pub words_from-length : (image : Image) (at n : ℕ) → length (words_from image at n) ≡ n
unfolding words_from
words_from-length image at zero = refl
words_from-length image at (suc n) = ap suc (words_from-length image (at + 1) n)

pub words_from-step : (image : Image) (at n m : ℕ) → n ≡ suc m → words_from image at n ≡ image at ∷ words_from image (at + 1) m
unfolding words_from
words_from-step image at n m e = ap (words_from image at) e

pub words_from-none : (image : Image) (at n : ℕ) → n ≡ 0 → words_from image at n ≡ []
unfolding words_from
words_from-none image at n e = ap (words_from image at) e

pub words_from-add : (image : Image) (at a b : ℕ) → words_from image at (a + b) ≡ words_from image at a ++ words_from image (at + a) b
unfolding words_from
words_from-add image at zero b = ap₂ (λ (n k : ℕ). words_from image k n) (zero-add b) (sym (add-zero at))
words_from-add image at (suc a) b =
    let place : (at + 1) + a ≡ at + suc a = omega arith in
    ap (words_from image at) (suc-add a b)
    ∙ ap (λ ws. image at ∷ ws) (words_from-add image (at + 1) a b)
    ∙ ap (λ k. image at ∷ words_from image (at + 1) a ++ words_from image k b) place

-- one more word
pub words_from-more : (image : Image) (at n : ℕ) → words_from image at (n + 1) ≡ words_from image at n ++ image (at + n) ∷ []
words_from-more image at n = words_from-add image at n 1 ∙ ap (λ ws. words_from image at n ++ ws) (words_from-step image (at + n) 1 0 refl ∙ ap (λ ws. image (at + n) ∷ ws) (words_from-none image (at + n + 1) 0 refl))

-- the first m of the words, and the words after them
pub words_from-take : (image : Image) (at n m : ℕ) → m ≤ n → take m (words_from image at n) ≡ words_from image at m
words_from-take image at n m h =
    let sum : n ≡ m + (n - m) = omega arith in
    ap (λ k. take m (words_from image at k)) sum
    ∙ ap (take m) (words_from-add image at m (n - m))
    ∙ take-append-le m (words_from image at m) (words_from image (at + m) (n - m)) (omega (arith, words_from-length image at m))
    ∙ take_all m (words_from image at m) (omega (arith, words_from-length image at m))

pub words_from-drop : (image : Image) (at n m : ℕ) → m ≤ n → drop m (words_from image at n) ≡ words_from image (at + m) (n - m)
words_from-drop image at n m h =
    let sum : n ≡ m + (n - m) = omega arith in
    let front : length (words_from image at m) ≡ m = words_from-length image at m in
    ap (λ k. drop m (words_from image at k)) sum
    ∙ ap (drop m) (words_from-add image at m (n - m))
    ∙ ap (λ k. drop k (words_from image at m ++ words_from image (at + m) (n - m))) (sym front)
    ∙ drop-append_seam (words_from image at m) (words_from image (at + m) (n - m))

-- images that agree on these words have the same words there
pub words_from-same : (i j : Image) (at n : ℕ) → ((k : ℕ) → at ≤ k → k < at + n → i k ≡ j k) → words_from i at n ≡ words_from j at n
unfolding words_from
words_from-same i j at zero same = refl
words_from-same i j at (suc n) same =
    ap₂ (λ w ws. w ∷ ws) (same at (omega arith) (omega arith)) (words_from-same i j (at + 1) n (λ k low high. same k (omega arith) (omega arith)))

-- an image that stores a list from a word on has these words there
pub words_from-holds : (image : Image) (at : ℕ) (ws : List ℕ) → ((i : ℕ) → i < length ws → image (at + i) ≡ get_or ws i 0) → words_from image at (length ws) ≡ ws
unfolding words_from
words_from-holds image at [] holds = refl
words_from-holds image at (w ∷ ws) holds =
    ap₂ (λ x xs. x ∷ xs) (let here = holds 0 (omega arith) in ap image (sym (add-zero at)) ∙ here)
    (words_from-holds image (at + 1) ws (λ i h. let place : (at + 1) + i ≡ at + suc i = omega arith in ap image place ∙ holds (suc i) (omega arith)))

-- ---- the entries that words spell

-- the entries after n words that are passed over are those of the rest
pub entries_in-skip : (n : ℕ) (ws : List ℕ) → n ≤ length ws → entries_in n ws ≡ entries_in 0 (drop n ws)
unfolding entries_in
entries_in-skip zero ws h = refl
entries_in-skip (suc n) [] h = absurd (omega arith)
entries_in-skip (suc n) (w ∷ ws) h = entries_in-skip n ws (omega arith)

-- if there are fewer words than are to be passed over, they do not spell whole entries
pub entries_in-short : (n : ℕ) (ws : List ℕ) → length ws < n → entries_in n ws ≡ None
unfolding entries_in
entries_in-short zero ws h = absurd (omega arith)
entries_in-short (suc n) [] h = refl
entries_in-short (suc n) (w ∷ ws) h = entries_in-short n ws (omega arith)

-- ---- words that begin with an entry

-- what the test for a first entry states
record Begins (address word : ℕ) (rest : List ℕ) (e : Entry) : Type 0 where
  legal : is_legal_entry_word word ≡ true
  enough : entry_n word ≤ length rest
  is : e ≡ entry_by address word rest

begins : (address word : ℕ) (rest : List ℕ) (e : Entry) → first_entry (address ∷ word ∷ rest) ≡ Some e → Begins address word rest e
unfolding first_entry
begins address word rest e found =
    elim (cases_Bool (is_legal_entry_word word && leb (entry_n word) (length rest))) [
      | inl holds_so ↦
          let parts = and_parts (is_legal_entry_word word) (leb (entry_n word) (length rest)) holds_so in
          let it : Some e ≡ Some (entry_by address word rest) = sym found ∙ cond-true _ _ _ holds_so in
          record { legal = parts.0; enough = leb-true (entry_n word) (length rest) parts.1; is = cc }
      | inr fails ↦ absurd (let it : Some e ≡ None = sym found ∙ cond-false _ _ _ fails in cc)
    ]

-- the entry has as many values as its second word counts
pub length-entry_by : (address word : ℕ) (rest : List ℕ) → entry_n word ≤ length rest → length (entry_by address word rest).vals ≡ entry_n word
length-entry_by address word rest h = length-take-le (entry_n word) rest h

pub first_entry-is : (address word : ℕ) (rest : List ℕ) → is_legal_entry_word word ≡ true → entry_n word ≤ length rest
    → first_entry (address ∷ word ∷ rest) ≡ Some (entry_by address word rest)
unfolding first_entry
first_entry-is address word rest legal enough = cond-true _ _ _ (and_from (is_legal_entry_word word) (leb (entry_n word) (length rest)) legal (le-leb _ _ enough))

pub first_entry-illegal : (address word : ℕ) (rest : List ℕ) → is_legal_entry_word word ≡ false → first_entry (address ∷ word ∷ rest) ≡ None
unfolding first_entry
first_entry-illegal address word rest fails = cond-false _ _ _ (and_left _ _ fails)

pub first_entry-short : (address word : ℕ) (rest : List ℕ) → length rest < entry_n word → first_entry (address ∷ word ∷ rest) ≡ None
unfolding first_entry
first_entry-short address word rest short =
    elim (cases_Bool (is_legal_entry_word word)) [
      | inl holds_so ↦ rw (holds_so, lt-leb (entry_n word) (length rest) short) refl
      | inr fails ↦ cond-false _ _ _ (and_left _ _ fails)
    ]

-- fewer than two words do not begin with an entry
pub first_entry-few : (ws : List ℕ) → length ws < 2 → first_entry ws ≡ None
unfolding first_entry
first_entry-few [] h = refl
first_entry-few (a ∷ []) h = refl
first_entry-few (a ∷ w ∷ rest) h = absurd (omega arith)

-- words that begin with an entry have room for it
pub first_entry-fits : (ws : List ℕ) (e : Entry) → first_entry ws ≡ Some e → length e.vals + 2 ≤ length ws
unfolding first_entry
first_entry-fits [] e found = absurd (cc)
first_entry-fits (a ∷ []) e found = absurd (cc)
first_entry-fits (a ∷ w ∷ rest) e found =
    let b = begins a w rest e found in
    let many : length e.vals ≡ entry_n w = ap (λ (x : Entry). length x.vals) b.is ∙ length-entry_by a w rest b.enough in
    let enough = b.enough in
    omega arith

-- if words begin with an entry, their entries are this one and then those of the words after it
pub entries_in-first : (ws : List ℕ) (e : Entry) (n : ℕ) → first_entry ws ≡ Some e → n ≡ length e.vals + 2 → entries_in 0 ws ≡ option_map (λ es. e ∷ es) (entries_in 0 (drop n ws))
unfolding entries_in first_entry
entries_in-first [] e n found count = absurd (cc)
entries_in-first (a ∷ []) e n found count = absurd (cc)
entries_in-first (a ∷ w ∷ rest) e n found count =
    let b = begins a w rest e found in
    let many : length e.vals ≡ entry_n w = ap (λ (x : Entry). length x.vals) b.is ∙ length-entry_by a w rest b.enough in
    let following : n ≡ suc (suc (entry_n w)) = omega arith in
    cond-true (is_legal_entry_word w) (option_map (λ es. entry_by a w rest ∷ es) (entries_in (entry_n w) rest)) None b.legal
    ∙ ap₂ (λ (x : Entry) (o : Option (List Entry)). option_map (λ es. x ∷ es) o) (sym b.is) (entries_in-skip (entry_n w) rest b.enough)
    ∙ ap (λ k. option_map (λ es. e ∷ es) (entries_in 0 (drop k (a ∷ w ∷ rest)))) (sym following)

-- if words do not begin with an entry, there are no words, or they do not spell whole entries
pub entries_in-none : (ws : List ℕ) → first_entry ws ≡ None → (ws ≡ []) ⊎ (entries_in 0 ws ≡ None)
unfolding entries_in first_entry
entries_in-none [] none = inl refl
entries_in-none (a ∷ []) none = inr refl
entries_in-none (a ∷ w ∷ rest) none =
    inr (elim (cases_Bool (is_legal_entry_word w)) [
      | inr fails ↦ cond-false _ _ _ fails
      | inl holds_so ↦ elim (leb_tells (entry_n w) (length rest)) [
        | inl enough ↦ absurd (let it : Some (entry_by a w rest) ≡ None = sym (first_entry-is a w rest holds_so enough.1) ∙ none in cc)
        | inr short ↦ cond-true _ _ _ holds_so ∙ ap (option_map (λ es. entry_by a w rest ∷ es)) (entries_in-short (entry_n w) rest short.1)
      ]
    ])

-- ---- entries after others

-- the entries are a legal one and then the others, which the words after it spell
record Fronts (address word : ℕ) (rest : List ℕ) (others : Option (List Entry)) (es : List Entry) : Type 0 where
  legal : is_legal_entry_word word ≡ true
  following : List Entry
  others_are : others ≡ Some following
  is : es ≡ entry_by address word rest ∷ following

fronts : (address word : ℕ) (rest : List ℕ) (others : Option (List Entry)) (es : List Entry) → entry_and_rest address word rest others ≡ Some es → Fronts address word rest others es
fronts address word rest None es some = elim (cases_Bool (is_legal_entry_word word)) [
  | inl holds_so ↦ absurd (let it : None ≡ Some es = sym (cond-true _ _ _ holds_so) ∙ some in cc)
  | inr fails ↦ absurd (let it : None ≡ Some es = sym (cond-false _ _ _ fails) ∙ some in cc)
]
fronts address word rest (Some following) es some = elim (cases_Bool (is_legal_entry_word word)) [
  | inl holds_so ↦ record { legal = holds_so; following = following; others_are = refl; is = let it : Some (entry_by address word rest ∷ following) ≡ Some es = sym (cond-true _ _ _ holds_so) ∙ some in cc }
  | inr fails ↦ absurd (let it : None ≡ Some es = sym (cond-false _ _ _ fails) ∙ some in cc)
]

joined : (o : Option (List Entry)) → o ≡ option_map (λ es. [] ++ es) o
joined None = refl
joined (Some es) = refl

twice : (f g : List Entry → List Entry) (o : Option (List Entry)) → option_map f (option_map g o) ≡ option_map (λ es. f (g es)) o
twice f g None = refl
twice f g (Some es) = refl

-- if words spell entries, then with other words after them they spell these entries and then those of the others
pub entries_in-append_after : (n : ℕ) (xs ys : List ℕ) (es : List Entry) → entries_in n xs ≡ Some es → entries_in n (xs ++ ys) ≡ option_map (λ fs. es ++ fs) (entries_in 0 ys)
unfolding entries_in
entries_in-append_after zero [] ys es some = let none : es ≡ [] = cc in joined (entries_in 0 ys) ∙ ap (λ (l : List Entry). option_map (λ fs. l ++ fs) (entries_in 0 ys)) (sym none)
entries_in-append_after (suc n) [] ys es some = absurd (cc)
entries_in-append_after (suc n) (x ∷ xs) ys es some = entries_in-append_after n xs ys es some
entries_in-append_after zero (a ∷ []) ys es some = absurd (cc)
entries_in-append_after zero (a ∷ w ∷ rest) ys es some =
    let f = fronts a w rest (entries_in (entry_n w) rest) es some in
    let enough : entry_n w ≤ length rest = elim (leb_tells (entry_n w) (length rest)) [
      | inl holds_so ↦ holds_so.1
      | inr short ↦ absurd (let it : None ≡ Some f.following = sym (entries_in-short (entry_n w) rest short.1) ∙ f.others_are in cc)
    ] in
    let later = entries_in-append_after (entry_n w) rest ys f.following f.others_are in
    let same : entry_by a w (rest ++ ys) ≡ entry_by a w rest = ap (λ (vals : List ℕ). record { address = a; seq = entry_seq w; order = entry_order w; vals = vals }) (take-append-le (entry_n w) rest ys enough) in
    cond-true (is_legal_entry_word w) (option_map (λ es. entry_by a w (rest ++ ys) ∷ es) (entries_in (entry_n w) (rest ++ ys))) None f.legal
    ∙ ap₂ (λ (x : Entry) (o : Option (List Entry)). option_map (λ es. x ∷ es) o) same later
    ∙ twice (λ es. entry_by a w rest ∷ es) (λ fs. f.following ++ fs) (entries_in 0 ys)
    ∙ ap (λ (l : List Entry). option_map (λ fs. l ++ fs) (entries_in 0 ys)) (sym f.is)

-- an empty list of words spells an empty list of entries
pub entries_in-nothing : (ws : List ℕ) → ws ≡ [] → entries_in 0 ws ≡ Some []
unfolding entries_in
entries_in-nothing ws none = ap (entries_in 0) none

pub entries_in-append : (xs ys : List ℕ) (es : List Entry) → entries_in 0 xs ≡ Some es → entries_in 0 (xs ++ ys) ≡ option_map (λ fs. es ++ fs) (entries_in 0 ys)
entries_in-append xs ys es some = entries_in-append_after 0 xs ys es some

-- ---- the first entries, and those after them

take-take_le : (n m : ℕ) (ws : List ℕ) → n ≤ m → take n (take m ws) ≡ take n ws
take-take_le zero m ws h = refl
take-take_le (suc n) zero ws h = absurd (omega arith)
take-take_le (suc n) (suc m) [] h = refl
take-take_le (suc n) (suc m) (w ∷ ws) h = ap (λ (xs : List ℕ). w ∷ xs) (take-take_le n m ws (omega arith))

-- an entry is the same of the words up to its end or past it
entry_by-take : (a w n : ℕ) (rest : List ℕ) → entry_n w ≤ n → entry_by a w (take n rest) ≡ entry_by a w rest
entry_by-take a w n rest h = ap (λ (vals : List ℕ). record { address = a; seq = entry_seq w; order = entry_order w; vals = vals }) (take-take_le (entry_n w) n rest h)

-- the words of an entry, and then those that spell the others
entries_in-with_first : (a w : ℕ) (rest : List ℕ) (e : Entry) (es : List Entry) → is_legal_entry_word w ≡ true → entry_by a w rest ≡ e → entries_in (entry_n w) rest ≡ Some es → entries_in 0 (a ∷ w ∷ rest) ≡ Some (e ∷ es)
unfolding entries_in
entries_in-with_first a w rest e es legal one others =
    cond-true (is_legal_entry_word w) (option_map (λ fs. entry_by a w rest ∷ fs) (entries_in (entry_n w) rest)) None legal
    ∙ ap₂ (λ (x : Entry) (o : Option (List Entry)). option_map (λ fs. x ∷ fs) o) one others

-- After n words that are passed over, as many words as the first entries take spell them. The words after those spell
-- the other entries.
pub record Splits (n : ℕ) (ws : List ℕ) (front back : List Entry) : Type 0 where
  pub within : n + entry_words front ≤ length ws
  pub front_is : entries_in n (take (n + entry_words front) ws) ≡ Some front
  pub back_is : entries_in 0 (drop (n + entry_words front) ws) ≡ Some back

pub entries_in-split : (n : ℕ) (ws : List ℕ) (front back : List Entry) → entries_in n ws ≡ Some (front ++ back) → Splits n ws front back
unfolding entries_in
entries_in-split zero ws [] back some = record { within = omega arith; front_is = refl; back_is = some }
entries_in-split zero [] (e ∷ es) back some = absurd (cc)
entries_in-split zero (a ∷ []) (e ∷ es) back some = absurd (cc)
entries_in-split zero (a ∷ w ∷ rest) (e ∷ es) back some =
    let f = fronts a w rest (entries_in (entry_n w) rest) (e ∷ (es ++ back)) some in
    let one : e ≡ entry_by a w rest = (let it = f.is in cc) in
    let others : f.following ≡ es ++ back = (let it = f.is in cc) in
    let later = entries_in-split (entry_n w) rest es back (f.others_are ∙ ap Some others) in
    let low = later.within in
    let count : length e.vals ≡ entry_n w = ap (λ (x : Entry). length x.vals) one ∙ length-entry_by a w rest (omega arith) in
    let words : 0 + entry_words (e ∷ es) ≡ suc (suc (entry_n w + entry_words es)) = omega arith in
    let same : entry_by a w (take (entry_n w + entry_words es) rest) ≡ e = entry_by-take a w (entry_n w + entry_words es) rest (omega arith) ∙ sym one in
    record {
      within = omega arith;
      front_is = ap (λ k. entries_in 0 (take k (a ∷ w ∷ rest))) words ∙ entries_in-with_first a w (take (entry_n w + entry_words es) rest) e es f.legal same later.front_is;
      back_is = ap (λ k. entries_in 0 (drop k (a ∷ w ∷ rest))) words ∙ later.back_is;
    }
entries_in-split (suc n) [] front back some = absurd (cc)
entries_in-split (suc n) (w ∷ ws) front back some =
    let later = entries_in-split n ws front back some in
    let low = later.within in
    let words : suc n + entry_words front ≡ suc (n + entry_words front) = omega arith in
    record {
      within = omega arith;
      front_is = ap (λ k. entries_in (suc n) (take k (w ∷ ws))) words ∙ later.front_is;
      back_is = ap (λ k. entries_in 0 (drop k (w ∷ ws))) words ∙ later.back_is;
    }

-- ---- the words of one entry

pub entry_n-of : (n seq order : ℕ) → n < 2 ^ 16 → seq < 2 ^ 16 → entry_n (entry_word n seq order) ≡ n
entry_n-of n seq order h k = omega arith

pub entry_seq-of : (n seq order : ℕ) → n < 2 ^ 16 → seq < 2 ^ 16 → entry_seq (entry_word n seq order) ≡ seq
entry_seq-of n seq order h k = omega arith

pub entry_order-of : (n seq order : ℕ) → n < 2 ^ 16 → seq < 2 ^ 16 → entry_order (entry_word n seq order) ≡ order
entry_order-of n seq order h k = omega arith

pub is_legal_entry_word-of : (e : Entry) → IsLegalEntry e → is_legal_entry_word (entry_word (length e.vals) e.seq e.order) ≡ true
is_legal_entry_word-of e legal =
    let n = length e.vals in
    let fits : n < 2 ^ 16 = let h = legal.no_more in omega arith in
    let n_is = entry_n-of n e.seq e.order fits legal.seq_fits in
    let order_is = entry_order-of n e.seq e.order fits legal.seq_fits in
    and_from (leb 1 (entry_n (entry_word n e.seq e.order)) && leb (entry_n (entry_word n e.seq e.order)) MAX_ENTRY_VALUES) (leb (entry_order (entry_word n e.seq e.order)) REDO_ORDER)
    (and_from (leb 1 (entry_n (entry_word n e.seq e.order))) (leb (entry_n (entry_word n e.seq e.order)) MAX_ENTRY_VALUES)
    (le-leb _ _ (let h = legal.some in omega arith)) (le-leb _ _ (let h = legal.no_more in omega arith)))
    (le-leb _ _ (let h = legal.order_known in omega arith))

-- the words that spell an entry begin with it, whatever follows them
pub first_entry-spelled : (e : Entry) (ys : List ℕ) → IsLegalEntry e → first_entry (spelled e ++ ys) ≡ Some e
first_entry-spelled e ys legal =
    let n = length e.vals in
    let word = entry_word n e.seq e.order in
    let fits : n < 2 ^ 16 = let h = legal.no_more in omega arith in
    let n_is = entry_n-of n e.seq e.order fits legal.seq_fits in
    let enough : entry_n word ≤ length (e.vals ++ ys) = simp length-append (omega arith) in
    let vals : take (entry_n word) (e.vals ++ ys) ≡ e.vals = ap (λ k. take k (e.vals ++ ys)) n_is ∙ take-append-le n e.vals ys (omega arith) ∙ take-length e.vals in
    first_entry-is e.address word (e.vals ++ ys) (is_legal_entry_word-of e legal) enough
    ∙ (λ p. Some (record { address = e.address; seq = entry_seq-of n e.seq e.order fits legal.seq_fits p; order = entry_order-of n e.seq e.order fits legal.seq_fits p; vals = vals p }))

-- the words that spell an entry spell only this entry
pub entries_in-spelled : (e : Entry) → IsLegalEntry e → entries_in 0 (spelled e) ≡ Some (e ∷ [])
unfolding entries_in
entries_in-spelled e legal =
    let found : first_entry (spelled e) ≡ Some e = ap first_entry (sym (append-nil (spelled e))) ∙ first_entry-spelled e [] legal in
    entries_in-first (spelled e) e (length e.vals + 2) found refl
    ∙ ap (λ ws. option_map (λ es. e ∷ es) (entries_in 0 ws)) (let count : length e.vals + 2 ≡ length (spelled e) = omega arith in ap (λ k. drop k (spelled e)) count ∙ drop-length (spelled e))

-- words that spell entries, and after them the words of one more entry
pub entries_in-one_more : (xs : List ℕ) (es : List Entry) (e : Entry) → entries_in 0 xs ≡ Some es → IsLegalEntry e → entries_in 0 (xs ++ spelled e) ≡ Some (es ++ e ∷ [])
entries_in-one_more xs es e some legal = entries_in-append xs (spelled e) es some ∙ ap (option_map (λ fs. es ++ fs)) (entries_in-spelled e legal)

-- ---- gates

pub gate_lo-of : (lo hi used : ℕ) → lo < 2 ^ 8 → hi < 2 ^ 8 → used < 2 ^ 16 → gate_lo (gate_word lo hi used) ≡ lo
gate_lo-of lo hi used a b c = omega arith

pub gate_hi-of : (lo hi used : ℕ) → lo < 2 ^ 8 → hi < 2 ^ 8 → used < 2 ^ 16 → gate_hi (gate_word lo hi used) ≡ hi
gate_hi-of lo hi used a b c = omega arith

pub gate_used-of : (lo hi used : ℕ) → lo < 2 ^ 8 → hi < 2 ^ 8 → used < 2 ^ 16 → gate_used (gate_word lo hi used) ≡ used
gate_used-of lo hi used a b c = omega arith

pub is_legal_gate-of : (lo hi used : ℕ) → lo < 2 ^ 8 → hi < 2 ^ 8 → used ≤ LOG_ENTRY_WORDS → is_legal_gate (gate_word lo hi used) ≡ true
is_legal_gate-of lo hi used a b c =
    and_from (ltb (gate_word lo hi used) (2 ^ 32)) _ (lt-ltb _ _ (omega arith)) (le-leb _ _ (let e = gate_used-of lo hi used a b (omega arith) in omega arith))

-- ---- logs of images

-- images that agree on the gate and on the entry words that it counts have the same entries there
pub entries_of-same : (i j : Image) (at : ℕ) → i at ≡ j at → ((k : ℕ) → at + LOG_HEADER_WORDS ≤ k → k < at + LOG_HEADER_WORDS + gate_used (i at) → i k ≡ j k) → entries_of i at ≡ entries_of j at
unfolding entries_of
entries_of-same i j at gate same =
    ap₂ (λ (v : ℕ) (ws : List ℕ). cond (is_legal_gate v) (entries_in 0 ws) None) gate
    (words_from-same i j (at + LOG_HEADER_WORDS) (gate_used (i at)) same ∙ ap (λ v. words_from j (at + LOG_HEADER_WORDS) (gate_used v)) gate)

pub log_of-same : (i j : Image) (at : ℕ) → i at ≡ j at → ((k : ℕ) → at + LOG_HEADER_WORDS ≤ k → k < at + LOG_HEADER_WORDS + gate_used (i at) → i k ≡ j k) → log_of i at ≡ log_of j at
log_of-same i j at gate same = λ p. record { lo = gate_lo (gate p); hi = gate_hi (gate p); entries = entries_of-same i j at gate same p }

-- the entries of a log, by its gate and the words that it counts
pub entries_of-is : (image : Image) (at v : ℕ) (ws : List ℕ) → image at ≡ v → is_legal_gate v ≡ true → words_from image (at + LOG_HEADER_WORDS) (gate_used v) ≡ ws → entries_of image at ≡ entries_in 0 ws
unfolding entries_of
entries_of-is image at v ws gate legal words =
    ap (λ x. cond (is_legal_gate x) (entries_in 0 (words_from image (at + LOG_HEADER_WORDS) (gate_used x))) None) gate
    ∙ cond-true (is_legal_gate v) _ _ legal ∙ ap (entries_in 0) words

-- a well formed log has a legal gate, and its words spell its entries
pub record Spells (image : Image) (at : ℕ) (es : List Entry) : Type 0 where
  pub legal : is_legal_gate (image at) ≡ true
  pub words : entries_in 0 (used_words image at) ≡ Some es

pub spells : (image : Image) (at : ℕ) (es : List Entry) → entries_of image at ≡ Some es → Spells image at es
unfolding entries_of
spells image at es some = elim (cases_Bool (is_legal_gate (image at))) [
  | inl holds_so ↦ record { legal = holds_so; words = sym (cond-true _ _ _ holds_so) ∙ some }
  | inr fails ↦ absurd (let it : None ≡ Some es = sym (cond-false _ _ _ fails) ∙ some in cc)
]

-- the gate of a well formed log counts at most as many words as a log has
pub used_within : (image : Image) (at : ℕ) (es : List Entry) → entries_of image at ≡ Some es → gate_used (image at) ≤ LOG_ENTRY_WORDS
used_within image at es some = leb-true _ _ (and_parts (ltb (image at) (2 ^ 32)) _ (spells image at es some).legal).1
