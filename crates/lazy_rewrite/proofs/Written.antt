-- What the batch of steps writes, and where.
use Rattle.std.proofs.Common.{◌≡◌, inl, inr, ℕ, zero, suc, ◌+◌, ◌-◌, ◌*◌, ◌/◌, ◌<◌, ◌≤◌, true, false, ◌&&◌, eqb, ltb, leb, ne_eqb, List, [], ◌∷◌, ◌++◌, map, length, subst, Option, Some, None, refl, sym, ap, ap₂, ◌∙◌, ⊎_elim, arith}
use Rattle.std.specs.Prelude.{All}
use Rattle.std.specs.List.{list_all}
use Rattle.std.specs.Option.{option_or}
use Rattle.std.proofs.lemmas.Bool.{cases_eq, cases_lt, cases_Bool, cond-false, and_parts, and_left, and_right, le-ltb, leb-true, ltb-true}
use Rattle.std.proofs.lemmas.List.Elements.{All-nil, All-cons, All-append, All-weaker}
use Rattle.std.proofs.lemmas.List.Sums.{sum_by-append, list_all-from_AllPass}
use Rattle.pm_model.specs.declared.host.HostFault.{HostFault}
use Rattle.pm_model.specs.Words.{Words, reads}
use Rattle.pm_model.specs.Moments.{State}
use Rattle.pud_defs.specs.declared.layout.TheConstants.{DAEMON_LOG, FRAME_WORDS, MAX_FIELDS}
use Rattle.pud_defs.specs.declared.space.TheConstants.{FRAME_HEADER_WORDS}
use Rattle.pud_defs.specs.declared.records.Puddle.{Puddle}
use Rattle.pud_defs.specs.Formats.Geometry.{class_slot_words, class_slot_at, class_steps, steps_of}
use Rattle.pud_defs.proofs.Formats.Geometry.{slot_low}
use Rattle.pud_defs.specs.Formats.Layout.{device_words}
use Rattle.pud_defs.specs.Formats.Frames.{frame_at}
use Rattle.pud_defs.specs.RegistryTables.Puddles.{frontier_word, frontier_with_class}
use Rattle.pud_defs.specs.Logging.Entries.{Entry}
use Rattle.pud_defs.specs.Logging.Replay.{device_word, value_at}
use Rattle.pud_defs.specs.RegistryTables.Registry.{may_be_logged, is_loggable}
use Rattle.pud_defs.specs.RegistryTables.Types.{types_of}
use Rattle.pud_defs.specs.PoolGraphs.Stored.{stored_in}
use Rattle.pud_defs.proofs.Logging.Replay.{or_none, value_at-there, value_at-apart}
use Rattle.pud_defs.proofs.Logging.Logged.{may_be_logged-table, may_be_logged-frames, is_loggable-there}
use Rattle.graph_laws.specs.Rewriting.{passes_slot, passes_root}
use Rattle.graph_laws.specs.Steps.{passed_word, steps_write, with_steps}
use Rattle.graph_laws.proofs.RewritingSteps.PassedWords.{passed-slot}
use Rattle.graph_laws.proofs.RewritingSteps.StepsStored.{write-frame, write-frontier, write-other}
use Rattle.log_replay.specs.Replaying.{NamesApart}
use Rattle.batch.specs.Batches.{batch_entry, batch_write, word_count_of, committed, IsBatchEntry, AreBatched, HasIdleGate, IsFree, Commits}
use Rattle.batch.proofs.Writes.{batch_write-append, batch_write-single}
use Rattle.batch.proofs.Worlds.{names_apart}
use Rattle.lazy_rewrite.specs.declared.batches.TheConstants.{BATCH_STEPS, STEPS_WORDS}
use Rattle.lazy_rewrite.specs.Entries.{word_entry, words_batch, rewritten_words, first_slot, steps_batch}
use Rattle.lazy_rewrite.specs.Batches.{AreNextSteps, CommitsSteps, pool_after, RewritesOnce}
use Rattle.lazy_rewrite.proofs.Rows.{row_end, slot_next, word_in_row}
use Rattle.lazy_rewrite.proofs.Gathered.{words_batch-two, words_batch-zero, words_batch-none, frame-slot, header-still, words_of-slot, words_of-header, first_below}

-- ---- one word

single-there : (w k v : ℕ) → k ≡ w → value_at w (v ∷ []) k ≡ Some v
single-there w k v here = value_at-there w 0 k (v ∷ []) (omega (arith, here))

single-other : (w k v : ℕ) → (k ≡ w → ⊥) → value_at w (v ∷ []) k ≡ None
single-other w k v other = ⊎_elim
    (λ before. value_at-apart w k (v ∷ []) (inl before))
    (λ from. value_at-apart w k (v ∷ []) (inr (⊎_elim (λ below. absurd (other (omega arith))) (λ following. following) (cases_lt k (w + 1)))))
    (cases_lt k w)

entry-there : (w k : ℕ) (o : Option ℕ) → k ≡ w → batch_write (word_entry w o) k ≡ o
unfolding batch_write
entry-there w k None here = refl
entry-there w k (Some v) here = single-there w k v here

entry-other : (w k : ℕ) (o : Option ℕ) → (k ≡ w → ⊥) → batch_write (word_entry w o) k ≡ None
unfolding batch_write
entry-other w k None other = refl
entry-other w k (Some v) other = single-other w k v other

none_written : (k : ℕ) → batch_write [] k ≡ None
unfolding batch_write
none_written k = refl

-- ---- words in a row

module _ (at : ℕ) (new : ℕ → Option ℕ) where
  -- A word outside this row is not written.
  pub words-apart : (from count k : ℕ) → (at + from ≤ k → k < at + (from + count) → ⊥) → batch_write (words_batch at new from count) k ≡ None
  unfolding words_batch
  words-apart from zero k out = none_written k
  words-apart from (suc count) k out =
      batch_write-append (word_entry (at + from) (new from)) (words_batch at new (from + 1) count) k
      ∙ ap₂ option_or (words-apart (from + 1) count k (λ low high. out (omega arith) (omega arith))) (entry-other (at + from) k (new from) (λ here. out (omega arith) (omega arith)))

  -- A word of the row gets its new value.
  pub words-there : (from count j : ℕ) → from ≤ j → j < from + count → batch_write (words_batch at new from count) (at + j) ≡ new j
  unfolding words_batch
  words-there from zero j low high = absurd (omega arith)
  words-there from (suc count) j low high =
      batch_write-append (word_entry (at + from) (new from)) (words_batch at new (from + 1) count) (at + j)
      ∙ ⊎_elim
      (λ here.
      ap₂ option_or (words-apart (from + 1) count (at + j) (λ above below. absurd (omega arith))) (entry-there (at + from) (at + j) (new from) (omega arith) ∙ ap new (sym here)))
      (λ other.
      ap₂ option_or (words-there (from + 1) count j (omega arith) (omega arith)) (entry-other (at + from) (at + j) (new from) (λ same. other (omega arith)))
      ∙ sym (or_none (new j)))
      (cases_eq j from)

-- ---- the batch

module _ (F : ℕ) (types : List (ℕ × ℕ)) (puddles : List Puddle) (word : ℕ → ℕ) (o m : ℕ) (e : ℕ × Puddle) where
  abbrev n : ℕ
  n = e.1.frontier

  abbrev base : ℕ
  base = frame_at F e.0

  abbrev class : ℕ
  class = e.1.class

  abbrev new : ℕ → Option ℕ
  new = passed_word types puddles class word o n m

  abbrev header : List Entry
  header = words_batch base new 0 FRAME_HEADER_WORDS

  abbrev slots : List Entry
  slots = words_batch base new (class_slot_at class (first_slot n)) (class_slot_words class * (m - 1 - first_slot n))

  abbrev frontier : List Entry
  frontier = batch_entry (frontier_word e.0) (frontier_with_class m class ∷ []) ∷ []

  abbrev whole : List Entry
  whole = steps_batch F e.0 class new n m

  three : (k : ℕ) → batch_write whole k ≡ option_or (option_or (batch_write frontier k) (batch_write slots k)) (batch_write header k)
  three k = batch_write-append header (slots ++ frontier) k ∙ ap (λ w. option_or w (batch_write header k)) (batch_write-append slots frontier k)

  -- A slot that is not one of the batch is not passed.
  slot_out : (slot : ℕ) → (first_slot n ≤ slot → slot < m - 1 → ⊥) → passes_slot n m slot ≡ false
  slot_out slot out = ⊎_elim
      (λ passes.
      let parts = and_parts (leb n (slot + 1)) (ltb (slot + 1) m) passes in
      let low = leb-true n (slot + 1) parts.0 in
      let high = ltb-true (slot + 1) m parts.1 in
      absurd (out (first_low n slot low) (omega arith)))
      (λ no. no)
      (cases_Bool (passes_slot n m slot))
    where
      first_low : (n slot : ℕ) → n ≤ slot + 1 → first_slot n ≤ slot
      first_low zero slot low = omega arith
      first_low (suc n) slot low = omega arith

  word_out : (j : ℕ) → FRAME_HEADER_WORDS ≤ j → (class_slot_at class (first_slot n) ≤ j → j < class_slot_at class (first_slot n) + class_slot_words class * (m - 1 - first_slot n) → ⊥) → new j ≡ None
  word_out j low out =
      let slot = (j - FRAME_HEADER_WORDS) / class_slot_words class in
      let first = first_slot n in
      cond-false _ _ _ (le-ltb j FRAME_HEADER_WORDS low)
      ∙ cond-false _ _ _ (slot_out slot (λ from to. let row = word_in_row class j first (m - 1 - first) low from (omega arith) in out row.0 row.1))

  module _ (below : e.0 < F) (some : n < m) (last : m ≤ steps_of e.1) where
    frontier_none : (j : ℕ) → j < FRAME_WORDS → batch_write frontier (base + j) ≡ None
    frontier_none j low = batch_write-single (batch_entry (frontier_word e.0) (frontier_with_class m class ∷ [])) (base + j) ∙ single-other (frontier_word e.0) (base + j) (frontier_with_class m class) (λ same. absurd (omega arith))

    in_frame : (j : ℕ) → j < FRAME_WORDS → batch_write whole (base + j) ≡ new j
    in_frame j low =
        let after = slot_low class (first_slot n) in
        three (base + j) ∙ ⊎_elim
        (λ head.
        ap₂ option_or (ap₂ option_or (frontier_none j low) (words-apart base new (class_slot_at class (first_slot n)) (class_slot_words class * (m - 1 - first_slot n)) (base + j) (λ from to. absurd (omega arith)))) (words-there base new 0 FRAME_HEADER_WORDS j (omega arith) (omega arith)))
        (λ slot.
        ap₂ option_or (ap₂ option_or (frontier_none j low) (in_slots j slot)) (words-apart base new 0 FRAME_HEADER_WORDS (base + j) (λ from to. absurd (omega arith)))
        ∙ sym (or_none (new j)))
        (cases_lt j FRAME_HEADER_WORDS)
      where
        in_slots : (j : ℕ) → FRAME_HEADER_WORDS ≤ j → batch_write slots (base + j) ≡ new j
        in_slots j slot =
            let first = class_slot_at class (first_slot n) in
            let count = class_slot_words class * (m - 1 - first_slot n) in
            let after = slot_low class (first_slot n) in
            ⊎_elim
            (λ before. words-apart base new first count (base + j) (λ from to. absurd (omega arith)) ∙ sym (word_out j slot (λ from to. absurd (omega arith))))
            (λ from. ⊎_elim
            (λ inside. words-there base new first count j from inside)
            (λ following. words-apart base new first count (base + j) (λ low to. absurd (omega arith)) ∙ sym (word_out j slot (λ low to. absurd (omega arith))))
            (cases_lt j (first + count)))
            (cases_lt j first)

    -- The words of the slots end with the frame. After them there is only the frontier.
    slots_end : class_slot_at class (first_slot n) + class_slot_words class * (m - 1 - first_slot n) ≤ FRAME_WORDS
    slots_end = row_end class (first_slot n) (m - 1 - first_slot n) (omega (arith, first_below n m some))

    out_frame : (k : ℕ) → (base ≤ k → k < base + FRAME_WORDS → ⊥) → batch_write whole k ≡ batch_write frontier k
    out_frame k out =
        let after = slot_low class (first_slot n) in
        three k
        ∙ ap₂ (λ (a b : Option ℕ). option_or (option_or (batch_write frontier k) a) b)
        (words-apart base new (class_slot_at class (first_slot n)) (class_slot_words class * (m - 1 - first_slot n)) k (λ from to. out (omega arith) (omega (arith, slots_end))))
        (words-apart base new 0 FRAME_HEADER_WORDS k (λ from to. out (omega arith) (omega arith)))
        ∙ sym (or_none (option_or (batch_write frontier k) None)) ∙ sym (or_none (batch_write frontier k))

    each_word : (k : ℕ) → batch_write whole k ≡ steps_write F types puddles word o m e k
    each_word k = ⊎_elim
        (λ before. outside k (λ from to. absurd (omega arith)))
        (λ from. ⊎_elim
        (λ inside.
        let place : k ≡ base + (k - base) = omega arith in
        let low : k - base < FRAME_WORDS = omega arith in
        ap (batch_write whole) place ∙ in_frame (k - base) low ∙ sym (ap (steps_write F types puddles word o m e) place ∙ write-frame F types puddles word o m e (k - base) low))
        (λ following. outside k (λ low to. absurd (omega arith)))
        (cases_lt k (base + FRAME_WORDS)))
        (cases_lt k base)
      where
        outside : (k : ℕ) → (base ≤ k → k < base + FRAME_WORDS → ⊥) → batch_write whole k ≡ steps_write F types puddles word o m e k
        outside k out =
            out_frame k out ∙ batch_write-single (batch_entry (frontier_word e.0) (frontier_with_class m class ∷ [])) k ∙ ⊎_elim
            (λ here. single-there (frontier_word e.0) k (frontier_with_class m class) here ∙ sym (ap (steps_write F types puddles word o m e) here ∙ write-frontier F types puddles word o m e below))
            (λ other. single-other (frontier_word e.0) k (frontier_with_class m class) other ∙ sym (write-other F types puddles word o m e k out other))
            (cases_eq k (frontier_word e.0))

    -- the batch writes the steps
    pub batch_write-steps : batch_write whole ≡ steps_write F types puddles word o m e
    batch_write-steps = λ i k. each_word k i

-- ---- its entries

-- an entry of one word that the daemon log may write
record IsStepsEntry (F : ℕ) (entry : Entry) : Type 0 where
  batched : IsBatchEntry entry
  logged : may_be_logged F entry.address (length entry.vals) ≡ true

words_each : (P : Entry → Type 0) (at : ℕ) (new : ℕ → Option ℕ) (from count : ℕ) → ((k v : ℕ) → from ≤ k → k < from + count → P (batch_entry (at + k) (v ∷ []))) → All P (words_batch at new from count)
unfolding words_batch
words_each P at new from zero each = All-nil P
words_each P at new from (suc count) each =
    All-append P (word_entry (at + from) (new from)) (words_batch at new (from + 1) count) (one (new from)) (words_each P at new (from + 1) count (λ k v low high. each k v (omega arith) (omega arith)))
  where
    one : (o : Option ℕ) → All P (word_entry (at + from) o)
    one None = All-nil P
    one (Some v) = All-cons P (batch_entry (at + from) (v ∷ [])) [] (each from v (omega arith) (omega arith)) (All-nil P)

module _ (F class : ℕ) (new : ℕ → Option ℕ) (frame n m : ℕ) (below : frame < F) (some : n < m) (last : m ≤ class_steps class) where
  abbrev entries : List Entry
  entries = steps_batch F frame class new n m

  framed : (from count : ℕ) → from + count ≤ FRAME_WORDS → All (IsStepsEntry F) (words_batch (frame_at F frame) new from count)
  framed from count end = words_each (IsStepsEntry F) (frame_at F frame) new from count (λ k v low high. record {
    batched = record { seq = refl; order = refl };
    logged = may_be_logged-frames F (frame_at F frame + k) 1 (omega arith) (omega arith);
  })

  entries_each : All (IsStepsEntry F) entries
  entries_each =
      let first = class_slot_at class (first_slot n) in
      let count = class_slot_words class * (m - 1 - first_slot n) in
      let frontier = batch_entry (frontier_word frame) (frontier_with_class m class ∷ []) in
      let end = row_end class (first_slot n) (m - 1 - first_slot n) (omega (arith, first_below n m some)) in
      All-append (IsStepsEntry F) (words_batch (frame_at F frame) new 0 FRAME_HEADER_WORDS) (words_batch (frame_at F frame) new first count ++ frontier ∷ []) (framed 0 FRAME_HEADER_WORDS (omega arith))
      (All-append (IsStepsEntry F) (words_batch (frame_at F frame) new first count) (frontier ∷ []) (framed first count (omega arith))
      (All-cons (IsStepsEntry F) frontier [] (record { batched = record { seq = refl; order = refl }; logged = may_be_logged-table F (frontier_word frame) 1 (omega arith) (omega arith) }) (All-nil (IsStepsEntry F))))

  entries_batched : AreBatched entries
  entries_batched = All-weaker (IsStepsEntry F) IsBatchEntry (λ d h. h.batched) entries entries_each

  entries_allowed : list_all (is_loggable F (committed entries)) entries ≡ true
  entries_allowed =
      list_all-from_AllPass (is_loggable F (committed entries)) entries
      (All-weaker (IsStepsEntry F) (λ d. is_loggable F (committed entries) d ≡ true) (λ d h. is_loggable-there F (committed entries) d h.logged) entries entries_each)

  entries_free : (size : ℕ) (words : Words) → device_words F ≤ size → HasIdleGate DAEMON_LOG words → IsFree size DAEMON_LOG entries words
  entries_free size words room idle = record {
    idle = idle.each;
    apart = All-weaker (IsStepsEntry F) (NamesApart device_word size DAEMON_LOG) (λ d h. names_apart F size d room h.logged) entries entries_each;
  }

-- ---- how many words of the log it takes

module _ (types : List (ℕ × ℕ)) (puddles : List Puddle) (class : ℕ) (word : ℕ → ℕ) (o n m base : ℕ) where
  abbrev passed : ℕ → Option ℕ
  passed = passed_word types puddles class word o n m

  one_slot : (slot : ℕ) → word_count_of (words_batch base passed (class_slot_at class slot) (class_slot_words class)) ≤ 3 * MAX_FIELDS
  one_slot slot =
      let none : word_count_of [] ≡ 0 = refl in
      ⊎_elim
      (λ passes. omega (arith, ap word_count_of (frame-slot types puddles class word o n m base slot passes), words_of-slot types puddles class word (base + class_slot_at class slot) slot))
      (λ out.
      let empty = words_batch-none base passed (class_slot_at class slot) (class_slot_words class) (λ k low high.
      let j = k - class_slot_at class slot in
      let place : k ≡ class_slot_at class slot + j = omega arith in
      ap passed place ∙ passed-slot types puddles class word o n m slot j (omega arith) ∙ cond-false _ _ _ out) in
      omega (arith, ap word_count_of empty, none))
      (cases_Bool (passes_slot n m slot))

  some_slots : (slot count : ℕ) → word_count_of (words_batch base passed (class_slot_at class slot) (class_slot_words class * count)) ≤ 3 * MAX_FIELDS * count
  some_slots slot zero = let none : word_count_of [] ≡ 0 = refl in let nothing : class_slot_words class * zero ≡ 0 = omega arith in omega (arith, ap (λ c. word_count_of (words_batch base passed (class_slot_at class slot) c)) nothing, ap word_count_of (words_batch-zero base passed (class_slot_at class slot)), none)
  some_slots slot (suc count) =
      let all : class_slot_words class * suc count ≡ class_slot_words class + class_slot_words class * count = omega arith in
      let next = slot_next class slot in
      let first = words_batch base passed (class_slot_at class slot) (class_slot_words class) in
      let rest = words_batch base passed (class_slot_at class (slot + 1)) (class_slot_words class * count) in
      let both = ap (words_batch base passed (class_slot_at class slot)) all ∙ words_batch-two base passed (class_slot_at class slot) (class_slot_words class) (class_slot_words class * count) ∙ ap (λ k. first ++ words_batch base passed k (class_slot_words class * count)) next in
      omega (arith, ap word_count_of both, sum_by-append (λ (d : Entry). length d.vals + 2) first rest, one_slot slot, some_slots (slot + 1) count)

  -- If the root is in the batch, there are at most nine slots.
  header_and_slots : (k : ℕ) → n ≡ k → m ≤ n + BATCH_STEPS → word_count_of (words_batch base passed 0 FRAME_HEADER_WORDS) + 3 * MAX_FIELDS * (m - 1 - first_slot n) ≤ 3 * MAX_FIELDS * BATCH_STEPS
  header_and_slots zero is few =
      let first : first_slot n ≡ 0 = ap first_slot is in
      omega (arith, words_of-header types puddles class word o n m base)
  header_and_slots (suc k) is few =
      let none : word_count_of [] ≡ 0 = refl in
      let first : first_slot n ≡ k = ap first_slot is in
      let out : passes_root o n m ≡ false = and_right (eqb o 0) (eqb n 0 && ltb 0 m) (and_left (eqb n 0) (ltb 0 m) (ne_eqb n 0 (λ e. absurd (omega arith)))) in
      omega (arith, ap word_count_of (header-still types puddles class word o n m base out), none)

  pub words_of-steps : (F frame : ℕ) → base ≡ frame_at F frame → m ≤ n + BATCH_STEPS → word_count_of (steps_batch F frame class passed n m) ≤ STEPS_WORDS
  words_of-steps F frame at few =
      let first = class_slot_at class (first_slot n) in
      let count = m - 1 - first_slot n in
      let header = words_batch base passed 0 FRAME_HEADER_WORDS in
      let slots = words_batch base passed first (class_slot_words class * count) in
      let frontier = batch_entry (frontier_word frame) (frontier_with_class m class ∷ []) ∷ [] in
      let whole : steps_batch F frame class passed n m ≡ header ++ (slots ++ frontier) = ap (λ b. words_batch b passed 0 FRAME_HEADER_WORDS ++ (words_batch b passed first (class_slot_words class * count) ++ frontier)) (sym at) in
      let three : word_count_of frontier ≡ 3 = refl in
      omega (arith, ap word_count_of whole, sum_by-append (λ (d : Entry). length d.vals + 2) header (slots ++ frontier), sum_by-append (λ (d : Entry). length d.vals + 2) slots frontier, some_slots (first_slot n) count, header_and_slots n refl few, three)

-- ---- a batch that was gathered and committed

module _ (F size : ℕ) (at : List (ℕ × Puddle)) (goal : ℕ → ℕ) (o m : ℕ) (e : ℕ × Puddle) (below : e.0 < F) (room : device_words F ≤ size) (next : AreNextSteps at goal o m e) (a : State) where
  abbrev gathered : List Entry
  gathered = steps_batch F e.0 e.1.class (rewritten_words F at (reads a.now.words) e.1.class o e.1.frontier m) e.1.frontier m

  pub CommitsSteps-gathered : (es : List Entry) (fault : Option HostFault) (b d : State) → b ≡ a → es ≡ gathered → HasIdleGate DAEMON_LOG a.now.words
      → (IsFree size DAEMON_LOG es b.now.words → Commits DAEMON_LOG es fault b d) → CommitsSteps F at o m e fault a d
  CommitsSteps-gathered es fault b d still is idle commits =
      let image = reads a.now.words in
      let types = types_of image in
      let puddles = map (λ (x : ℕ × Puddle). x.1) at in
      let word = (stored_in F at image).word o in
      let new = rewritten_words F at image e.1.class o e.1.frontier m in
      record {
        es = es;
        batched = subst (λ (xs : List Entry). AreBatched xs) (sym is) (entries_batched F e.1.class new e.0 e.1.frontier m below next.some next.last);
        few = omega (arith, ap word_count_of is, words_of-steps types puddles e.1.class word o e.1.frontier m (frame_at F e.0) F e.0 refl next.few);
        allowed = subst (λ (xs : List Entry). list_all (is_loggable F (committed xs)) xs ≡ true) (sym is) (entries_allowed F e.1.class new e.0 e.1.frontier m below next.some next.last);
        write = ap batch_write is ∙ batch_write-steps F types puddles word o m e below next.some next.last;
        commits = subst (λ (s : State). Commits DAEMON_LOG es fault s d) still
            (commits (subst (λ (s : State). IsFree size DAEMON_LOG es s.now.words) (sym still)
            (subst (λ (xs : List Entry). IsFree size DAEMON_LOG xs a.now.words) (sym is) (entries_free F e.1.class new e.0 e.1.frontier m below next.some next.last size a.now.words room idle))));
      }

  pub RewritesOnce-gathered : (es : List Entry) (later : List (ℕ × Puddle)) (fault : Option HostFault) (b d : State) → b ≡ a → es ≡ gathered → HasIdleGate DAEMON_LOG a.now.words
      → (IsFree size DAEMON_LOG es b.now.words → Commits DAEMON_LOG es fault b d) → later ≡ pool_after fault (with_steps o m e at) at → RewritesOnce F goal at later fault a d
  RewritesOnce-gathered es later fault b d still is idle commits pool =
      record { ordinal = o; to = m; puddle = e; next = next; pool = pool; does = inr (CommitsSteps-gathered es fault b d still is idle commits) }
