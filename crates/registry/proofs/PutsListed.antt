-- A batch that gathers one change for each element of a list, and the whole batch that places a pool.
use Rattle.std.proofs.Common.{◌≡◌, ℕ, ◌+◌, ◌*◌, ◌<◌, ◌≤◌, List, [], ◌∷◌, ◌++◌, map, length, take, drop, get_or, refl, sym, ap, ◌∙◌, arith, append_assoc}
use Rattle.std.proofs.lemmas.List.{map-append, take_more, take-append-drop}
use Rattle.std.proofs.lemmas.List.Sums.{sum_by-append}
use Rattle.pud_defs.specs.declared.layout.TheConstants.{LOG_ENTRY_WORDS, TYPE_RECORDS}
use Rattle.pud_defs.specs.declared.records.TheConstants.{MAX_PUDDLES}
use Rattle.pud_defs.specs.declared.records.PoolRecord.{PoolRecord}
use Rattle.pud_defs.specs.declared.records.Put.{Put}
use Rattle.pud_defs.specs.Logging.Entries.{Entry}
use Rattle.pud_defs.specs.StateMachine.Imports.{numbers_drawn}
use Rattle.pud_defs.specs.RegistryTables.Puts.{pool_put, puddle_put}
use Rattle.batch.specs.Batches.{word_count_of}
use Rattle.registry.specs.declared.adding.NewPuddle.{NewPuddle}
use Rattle.registry.specs.declared.placing.NewType.{NewType}
use Rattle.registry.specs.Puts.{put_entry, puts_batch, number_put}
use Rattle.registry.specs.Adding.{puddle_records}
use Rattle.registry.specs.Placing.{new_type_put, placing}
use Rattle.registry.proofs.Gathered.{next_put}

-- ---- one after the other

words_both : (es later : List Entry) → word_count_of (es ++ later) ≡ word_count_of es + word_count_of later
words_both es later = sum_by-append (λ (e : Entry). length e.vals + 2) es later

module _ {A : Type 0} (f : A → Put) where
  batch_both : (xs ys : List A) → puts_batch (map f (xs ++ ys)) ≡ puts_batch (map f xs) ++ puts_batch (map f ys)
  batch_both xs ys = ap puts_batch (map-append f xs ys) ∙ map-append put_entry (map f xs) (map f ys)

  -- one more element, if the changes of all elements fit
  pub listed_more : (old now new : List Entry) (put : Put) (xs : List A) (i : ℕ) (d : A) → i < length xs → word_count_of old + word_count_of (puts_batch (map f xs)) ≤ LOG_ENTRY_WORDS
      → now ≡ old ++ puts_batch (map f (take i xs)) → put ≡ f (get_or xs i d) → word_count_of (put_entry (f (get_or xs i d)) ∷ []) ≡ (f (get_or xs i d)).n + 2
      → (word_count_of now + (put.n + 2) ≤ LOG_ENTRY_WORDS → new ≡ now ++ put_entry put ∷ []) → new ≡ old ++ puts_batch (map f (take (i + 1) xs))
  listed_more old now new put xs i d below room so_far put_is words added =
      let x = get_or xs i d in
      let front = puts_batch (map f (take i xs)) in
      let longer : puts_batch (map f (take (i + 1) xs)) ≡ front ++ put_entry (f x) ∷ [] = ap (λ (ys : List A). puts_batch (map f ys)) (take_more xs i d below) ∙ batch_both (take i xs) (x ∷ []) in
      let whole : puts_batch (map f xs) ≡ puts_batch (map f (take (i + 1) xs)) ++ puts_batch (map f (drop (i + 1) xs)) =
      ap (λ (ys : List A). puts_batch (map f ys)) (sym (take-append-drop (i + 1) xs)) ∙ batch_both (take (i + 1) xs) (drop (i + 1) xs) in
      let fits : word_count_of now + ((f x).n + 2) ≤ LOG_ENTRY_WORDS =
      omega (arith, ap word_count_of so_far, words_both old front, ap word_count_of whole, words_both (puts_batch (map f (take (i + 1) xs))) (puts_batch (map f (drop (i + 1) xs))), ap word_count_of longer, words_both front (put_entry (f x) ∷ []), words) in
      next_put now new put (f x) put_is fits added
      ∙ ap (λ (es : List Entry). es ++ put_entry (f x) ∷ []) so_far
      ∙ append_assoc old front (put_entry (f x) ∷ [])
      ∙ ap (λ (es : List Entry). old ++ es) (sym longer)

-- ---- how many words they take

words_types : (types : List NewType) → word_count_of (puts_batch (map new_type_put types)) ≡ 4 * length types
words_types [] = refl
words_types (t ∷ types) = let later = words_types types in omega (arith, words_both (put_entry (new_type_put t) ∷ []) (puts_batch (map new_type_put types)), later)

words_puddles : (puddles : List NewPuddle) → word_count_of (puts_batch (puddle_records puddles)) ≡ 7 * length puddles
words_puddles [] = refl
words_puddles (a ∷ puddles) = let later = words_puddles puddles in omega (arith, words_both (put_entry (puddle_put a.frame a.puddle) ∷ []) (puts_batch (puddle_records puddles)), later)

-- ---- all of it

pub placing_gathered : (slot : ℕ) (r : PoolRecord) (types : List NewType) (puddles : List NewPuddle) (b0 b1 b2 b3 b4 : List Entry) (pool number : Put) → length types ≤ TYPE_RECORDS → length puddles ≤ MAX_PUDDLES
    → b0 ≡ [] → (word_count_of b0 + word_count_of (puts_batch (map new_type_put types)) ≤ LOG_ENTRY_WORDS → b1 ≡ b0 ++ puts_batch (map new_type_put types))
    → pool ≡ pool_put slot r → (word_count_of b1 + (pool.n + 2) ≤ LOG_ENTRY_WORDS → b2 ≡ b1 ++ put_entry pool ∷ [])
    → number ≡ number_put (r.number + numbers_drawn (length puddles)) → (word_count_of b2 + (number.n + 2) ≤ LOG_ENTRY_WORDS → b3 ≡ b2 ++ put_entry number ∷ [])
    → (word_count_of b3 + word_count_of (puts_batch (puddle_records puddles)) ≤ LOG_ENTRY_WORDS → b4 ≡ b3 ++ puts_batch (puddle_records puddles))
    → b4 ≡ puts_batch (placing slot r types puddles)
placing_gathered slot r types puddles b0 b1 b2 b3 b4 pool number few_types few_puddles none with_types pool_is with_pool number_is with_number with_puddles =
    let T = puts_batch (map new_type_put types) in
    let P = puts_batch (puddle_records puddles) in
    let want_pool = pool_put slot r in
    let want_number = number_put (r.number + numbers_drawn (length puddles)) in
    let types_words = words_types types in
    let puddles_words = words_puddles puddles in
    let first : b1 ≡ T = with_types (omega (arith, ap word_count_of none)) ∙ ap (λ (es : List Entry). es ++ T) none in
    let first_words = ap word_count_of first in
    let second : b2 ≡ b1 ++ put_entry want_pool ∷ [] = next_put b1 b2 pool want_pool pool_is (omega arith) with_pool in
    let second_words : word_count_of b2 ≡ word_count_of b1 + 7 = ap word_count_of second ∙ words_both b1 (put_entry want_pool ∷ []) in
    let third : b3 ≡ b2 ++ put_entry want_number ∷ [] = next_put b2 b3 number want_number number_is (omega arith) with_number in
    let third_words : word_count_of b3 ≡ word_count_of b2 + 3 = ap word_count_of third ∙ words_both b2 (put_entry want_number ∷ []) in
    let fourth : b4 ≡ b3 ++ P = with_puddles (omega arith) in
    let so_far : b3 ≡ T ++ put_entry want_pool ∷ put_entry want_number ∷ [] =
    third ∙ ap (λ (es : List Entry). es ++ put_entry want_number ∷ []) (second ∙ ap (λ (es : List Entry). es ++ put_entry want_pool ∷ []) first) ∙ append_assoc T (put_entry want_pool ∷ []) (put_entry want_number ∷ []) in
    fourth ∙ ap (λ (es : List Entry). es ++ P) so_far ∙ append_assoc T (put_entry want_pool ∷ put_entry want_number ∷ []) P
    ∙ sym (map-append put_entry (map new_type_put types) (want_pool ∷ want_number ∷ puddle_records puddles))
