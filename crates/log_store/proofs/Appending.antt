-- Entries are appended under one gate: what is written, and which log the images left meanwhile and the words at the
-- end spell.
use Rattle.std.proofs.Common.{◌≡◌, ◌⊎◌, inl, inr, ℕ, ◌+◌, ◌-◌, ◌<◌, ◌≤◌, Bool, true, false, ◌||◌, List, [], ◌∷◌, ◌++◌, length, get_or, Option, Some, None, option_map, Ok, Err, refl, sym, ap, subst, ◌∙◌, arith, length-append}
use Rattle.std.proofs.lemmas.Bool.{cases_Bool, cases_eq, eq-eqb, ne_eqb, or_left, or_right}
use Rattle.std.proofs.lemmas.Bool.Decides.{leb_tells}
use Rattle.std.proofs.lemmas.List.{append-nil}
use Rattle.pm_model.specs.declared.host.HostFault.{HostFault}
use Rattle.pm_model.specs.Words.{reads, HasOnly}
use Rattle.pm_model.specs.Moments.{State}
use Rattle.pm_model.specs.Changes.{Changes, Leaves, Silently, Persists, only, placed, written}
use Rattle.pm_model.proofs.Words.{HasOnly-newest, HasOnly-own, only_at}
use Rattle.pm_model.proofs.Changes.{Changes-wider, Changes-then, Changes-said, Changes-now, HasOnly-kept, Persists-failed}
use Rattle.pm_model.proofs.Leaves.{Leaves-changes, Leaves-then, origin}
use Rattle.pm_persist.proofs.Ranges.{placed_at, placed_within}
use Rattle.pud_defs.specs.declared.layout.TheConstants.{LOG_HEADER_WORDS, LOG_ENTRY_WORDS}
use Rattle.pud_defs.specs.Formats.Image.{Image}
use Rattle.pud_defs.specs.Logging.Entries.{Entry, IsLegalEntry, log_of, gate_word, spelled, words_from, entries_in}
use Rattle.pud_defs.proofs.Logging.Entries.{words_from-add, words_from-same, words_from-holds, entries_in-spelled, entries_in-append}
use Rattle.log_store.specs.Store.{OpenLog, undo_entry, is_redo, defers, defers_with, with_entries, saying, InLog, IsOpen, spelled_all, words_write, with_last, HasGrown, Appends}
use Rattle.log_store.specs.declared.AppendFault.TheVariants.{Host}
use Rattle.log_store.proofs.Open.{IsCounted, log_of-is, IsOpen-fits, IsOpen-words, IsOpen-log, IsOpen-log_by, IsOpen-kept_by, only_here}
use Rattle.std.proofs.lemmas.Option.{same_Some}
use Rattle.pm_model.proofs.OneWord.{value_of_only}

-- the first word after those that count
abbrev pub following : OpenLog → ℕ
following log = log.gate_at + LOG_HEADER_WORDS + log.used

-- the gate that counts this many more words
abbrev pub next_gate : OpenLog → (count : ℕ) → ℕ
next_gate log count = gate_word log.lo log.hi (log.used + count)

-- these are `count` words, and the log has room for them
pub record IsBlock (log : OpenLog) (count : ℕ) (ws : List ℕ) : Type 0 where
  pub counted : count ≡ length ws
  pub room : log.used + count ≤ LOG_ENTRY_WORDS

-- ---- which words are written

module _ (log : OpenLog) (count : ℕ) (ws : List ℕ) where
  write_gate : (k : ℕ) → k ≡ log.gate_at → words_write log count ws k ≡ Some (next_gate log count)
  write_gate k is = rw (eq-eqb k log.gate_at is) refl

  write_after : (k : ℕ) → (k ≡ log.gate_at → ⊥) → words_write log count ws k ≡ placed (following log) ws k
  write_after k apart = rw (ne_eqb k log.gate_at apart) refl

  words_are_written : (k v : ℕ) → written (placed (following log) ws) k v → written (words_write log count ws) k v
  words_are_written k v is =
      let place = placed_within (following log) k v ws is in
      write_after k (λ same. absurd (omega arith)) ∙ is

  gate_is_written : (k v : ℕ) → written (only log.gate_at (next_gate log count)) k v → written (words_write log count ws) k v
  gate_is_written k v is =
      let here = only_at log.gate_at (next_gate log count) k v is in
      let value = value_of_only log.gate_at (next_gate log count) v (subst (λ (n : ℕ). only log.gate_at (next_gate log count) n ≡ Some v) here is) in
      write_gate k here ∙ ap Some (sym value)

  -- Only the gate and the `count` words after those that count are written.
  written_within : (k v : ℕ) → count ≡ length ws → written (words_write log count ws) k v → (k ≡ log.gate_at) ⊎ ((following log ≤ k) × (k < following log + count))
  written_within k v counted is = elim (cases_eq k log.gate_at) [
    | inl here ↦ inl here
    | inr apart ↦
        let place = placed_within (following log) k v ws (sym (write_after k apart) ∙ is) in
        inr (omega arith, omega arith)
  ]

  -- The gate gets only the value that counts these words.
  pub gate_alone : (k v : ℕ) → written (words_write log count ws) k v → k ≡ log.gate_at → v ≡ next_gate log count
  gate_alone k v is here = same_Some v (next_gate log count) (sym is ∙ write_gate k here)

  -- ---- both calls together

  -- The words were to be made durable, and this failed.
  pub Persists-half : (fault : HostFault) (s t : State) → Persists (placed (following log) ws) (Some fault) s t → Persists (words_write log count ws) (Some fault) s t
  Persists-half fault s t p =
      Persists-failed (words_write log count ws) fault s t (Changes-wider (written (placed (following log) ws)) (written (words_write log count ws)) (Some fault) s t words_are_written p.changes)

  -- The words are durable, and then the gate is set.
  pub Persists-both : (fault : Option HostFault) (s t u : State) → Persists (placed (following log) ws) None s t
      → Persists (only log.gate_at (next_gate log count)) fault t u → Persists (words_write log count ws) fault s u
  Persists-both fault s t u first second =
      record {
        changes = Changes-then (written (words_write log count ws)) fault s t u
            (Changes-wider (written (placed (following log) ws)) (written (words_write log count ws)) None s t words_are_written first.changes)
            (Changes-wider (written (only log.gate_at (next_gate log count))) (written (words_write log count ws)) fault t u gate_is_written second.changes);
        durable = λ none k v is. elim (cases_eq k log.gate_at) [
          | inl here ↦
              let value = same_Some v (next_gate log count) (sym is ∙ write_gate k here) in
              second.durable none k v (ap (only log.gate_at (next_gate log count)) here ∙ only_here log.gate_at (next_gate log count) ∙ ap Some (sym value))
          | inr apart ↦
              HasOnly-kept (written (only log.gate_at (next_gate log count))) fault t u k v second.changes (λ x may. apart (only_at log.gate_at (next_gate log count) k x may))
              (first.durable refl k v (sym (write_after k apart) ∙ is))
        ];
      }

-- What is written for a block that fits lies within the log.
pub written_in_log : (log : OpenLog) (count : ℕ) (ws : List ℕ) → IsBlock log count ws → (k v : ℕ) → written (words_write log count ws) k v → InLog log.gate_at k v
written_in_log log count ws block k v is =
    let room = block.room in
    elim (written_within log count ws k v block.counted is) [ inl here ↦ record { low = omega arith; high = omega arith } | inr inside ↦ record { low = omega arith; high = omega arith } ]

pub changes_in_log : (log : OpenLog) (count : ℕ) (ws : List ℕ) (fault : Option HostFault) (s t : State) → IsBlock log count ws → Persists (words_write log count ws) fault s t → Changes (InLog log.gate_at) fault s t
changes_in_log log count ws fault s t block p = Changes-wider (written (words_write log count ws)) (InLog log.gate_at) fault s t (written_in_log log count ws block) p.changes

-- ---- which entries the log has then

or_swap : (a b c : Bool) → a || (b || c) ≡ b || (a || c)
or_swap false b c = refl
or_swap true false c = refl
or_swap true true c = refl

-- After an append an entry with deferred values is one of the new entries or one of those before them.
defers_with-none : (more : List Entry) → defers more ≡ defers_with more false
defers_with-none [] = refl
defers_with-none (e ∷ more) = ap (λ (b : Bool). is_redo e || b) (defers_with-none more)

defers_with-first : (d : Entry) (more : List Entry) (was : Bool) → is_redo d || defers_with more was ≡ defers_with more (is_redo d || was)
defers_with-first d [] was = refl
defers_with-first d (e ∷ more) was = or_swap (is_redo d) (is_redo e) (defers_with more was) ∙ ap (λ (b : Bool). is_redo e || b) (defers_with-first d more was)

defers-append : (es more : List Entry) → defers (es ++ more) ≡ defers_with more (defers es)
defers-append [] more = defers_with-none more
defers-append (d ∷ es) more = ap (λ (b : Bool). is_redo d || b) (defers-append es more) ∙ defers_with-first d more (defers es)

-- If what is told of the entries before is true, it is still true with these after them.
defers_with-more : (more : List Entry) (was known : Bool) → (was ≡ true → known ≡ true) → defers_with more was ≡ true → defers_with more known ≡ true
defers_with-more [] was known is some = is some
defers_with-more (e ∷ more) was known is some = elim (cases_Bool (is_redo e)) [
  | inl here ↦ or_left (is_redo e) (defers_with more known) here
  | inr none ↦ or_right (is_redo e) (defers_with more known) (defers_with-more more was known is (ap (λ (b : Bool). b || defers_with more was) (sym none) ∙ some))
]

-- Words that spell one legal entry are read as this entry.
pub spells_one : (ws : List ℕ) (e : Entry) → ws ≡ spelled_all (e ∷ []) → IsLegalEntry e → entries_in 0 ws ≡ Some (e ∷ [])
spells_one ws e are legal = ap (entries_in 0) are ∙ entries_in-spelled e legal

-- Two undo entries, of which the second has one value, take five words more than the first has values.
pub both_counted : (addr addr2 word : ℕ) (vals : List ℕ) → length vals + 5 ≡ length (spelled_all (undo_entry addr vals ∷ undo_entry addr2 (word ∷ []) ∷ []))
both_counted addr addr2 word vals = simp length-append (omega arith)

-- Words that spell two legal entries are read as these two entries.
pub spells_two : (ws : List ℕ) (e f : Entry) → ws ≡ spelled_all (e ∷ f ∷ []) → IsLegalEntry e → IsLegalEntry f → entries_in 0 ws ≡ Some (e ∷ f ∷ [])
spells_two ws e f are first second =
    ap (entries_in 0) are ∙ entries_in-append (spelled e) (spelled f) (e ∷ []) (entries_in-spelled e first) ∙ ap (option_map (λ fs. e ∷ fs)) (entries_in-spelled f second)

-- ---- what is left meanwhile, and at the end

module _ (log : OpenLog) (es : List Entry) (count : ℕ) (ws : List ℕ) (more : List Entry) (s : State)
    (block : IsBlock log count ws) (spells : entries_in 0 ws ≡ Some more) (open_log : IsOpen log es s.now.words) where
  abbrev words_may : ℕ → ℕ → Type 0
  words_may = written (placed (following log) ws)

  abbrev Grown : Image → Type 0
  Grown = HasGrown s.now.words log.gate_at more

  -- An image has the grown log if the words that count are as they were, the block follows them, and the gate counts
  -- it.
  log_of-grown : (image : Image) → image log.gate_at ≡ next_gate log count
      → ((k : ℕ) → log.gate_at + LOG_HEADER_WORDS ≤ k → k < following log → image k ≡ (s.now.words k).newest)
      → ((i : ℕ) → i < length ws → image (following log + i) ≡ get_or ws i 0)
      → log_of image log.gate_at ≡ saying log (es ++ more)
  log_of-grown image gate same holds =
      let fits = IsOpen-fits log es s.now.words open_log in
      let start = log.gate_at + LOG_HEADER_WORDS in
      let old = words_from (reads s.now.words) start log.used in
      let are : words_from image start (log.used + count) ≡ old ++ ws =
      words_from-add image start log.used count
      ∙ ap (λ l. l ++ words_from image (following log) count) (words_from-same image (reads s.now.words) start log.used same)
      ∙ ap (λ n. old ++ words_from image (following log) n) block.counted
      ∙ ap (λ l. old ++ l) (words_from-holds image (following log) ws holds) in
      log_of-is image (with_entries count more log) (old ++ ws) (es ++ more) (record { lo_fits = fits.lo_fits; hi_fits = fits.hi_fits; used_within = block.room }) gate are
      (entries_in-append old ws es (IsOpen-words log es s.now.words open_log) ∙ ap (option_map (λ fs. es ++ fs)) spells)

  -- On Ok the log is open with the new entries.
  IsOpen-grown : (u : State) → Persists (words_write log count ws) None s u → IsOpen (with_entries count more log) (es ++ more) u.now.words
  IsOpen-grown u p =
      let room = block.room in
      let counted = block.counted in
      let gate : HasOnly (u.now.words log.gate_at) (next_gate log count) = p.durable refl log.gate_at (next_gate log count) (write_gate log count ws log.gate_at refl) in
      let kept = λ (k : ℕ) (low : log.gate_at + LOG_HEADER_WORDS ≤ k) (high : k < following log).
      HasOnly-kept (written (words_write log count ws)) None s u k (s.now.words k).newest p.changes
      (λ x may. elim (written_within log count ws k x counted may) [ inl here ↦ absurd (omega arith) | inr inside ↦ absurd (omega arith) ]) (open_log.counted k low high) in
      let new = λ (i : ℕ) (h : i < length ws).
      p.durable refl (following log + i) (get_or ws i 0)
      (write_after log count ws (following log + i) (λ same. absurd (omega arith)) ∙ placed_at (following log) i (following log + i) ws refl h) in
      record {
        gate = gate;
        counted = λ k low high. elim (leb_tells (following log) k) [
          | inl late ↦
              let i = k - following log in
              let place : following log + i ≡ k = let h = late.1 in omega arith in
              HasOnly-own (u.now.words k) (get_or ws i 0) (subst (λ (n : ℕ). HasOnly (u.now.words n) (get_or ws i 0)) place (new i (omega arith)))
          | inr early ↦ HasOnly-own (u.now.words k) (s.now.words k).newest (kept k low early.1)
        ];
        says = log_of-grown (reads u.now.words) (HasOnly-newest (u.now.words log.gate_at) _ gate)
            (λ k low high. HasOnly-newest (u.now.words k) (s.now.words k).newest (kept k low high))
            (λ i h. HasOnly-newest (u.now.words (following log + i)) _ (new i h));
        defers_known = λ some. defers_with-more more (defers es) log.defers open_log.defers_known (sym (defers-append es more) ∙ some);
      }

  -- While the block is written, no value is written to the words that count.
  block_apart : (k v : ℕ) → IsCounted log k → words_may k v → ⊥
  block_apart k v counts is =
      let place = placed_within (following log) k v ws is in
      elim counts.is [ inl gate ↦ absurd (omega arith) | inr entry ↦ absurd (omega arith) ]

  -- No value is written to a word outside the log.
  block_inside : (k v : ℕ) → words_may k v → InLog log.gate_at k v
  block_inside k v is = written_in_log log count ws block k v (words_are_written log count ws k v is)

  -- The images left while the block is written.
  pub first_images : (fault : Option HostFault) (t : State) → Changes words_may fault s t → Leaves (Silently Grown) s t
  first_images fault t changes =
      Leaves-changes Grown words_may fault s t
      (λ before image picked from.
      let same = λ (k : ℕ) (counts : IsCounted log k). (let it : image k ≡ before k = elim (from.each k) [ inl was ↦ was | inr new ↦ absurd (block_apart k (image k) counts new) ] in it) in
      record {
        before = before;
        picked = picked;
        outside = λ k apart. elim (from.each k) [ inl was ↦ was | inr new ↦ absurd (apart (block_inside k (image k) new)) ];
        log = inl (
            IsOpen-log_by log es s.now.words image open_log (same log.gate_at (record { is = inl refl }) ∙ open_log.gate.each (before log.gate_at) (picked.each log.gate_at))
            (λ k low high. same k (record { is = inr (low, high) }) ∙ (open_log.counted k low high).each (before k) (picked.each k))
            ∙ sym (IsOpen-log log es s.now.words before open_log picked));
      }) changes

  -- The images left while the gate is set, after the block is durable.
  second_images : (fault : Option HostFault) (t u : State) → Persists (placed (following log) ws) None s t → Persists (only log.gate_at (next_gate log count)) fault t u → Leaves (Silently Grown) t u
  second_images fault t u first second =
      let g = next_gate log count in
      let still : IsOpen log es t.now.words = IsOpen-kept_by words_may None s t log es first.changes block_apart open_log in
      Leaves-changes Grown (written (only log.gate_at g)) fault t u
      (λ half image picked from.
      let o = origin words_may s.now.words t.now.words half (Changes-now words_may None s t first.changes) picked in
      let was : log_of o.before log.gate_at ≡ saying log es = IsOpen-log log es s.now.words o.before open_log o.picked in
      let other = λ (k : ℕ) (apart : k ≡ log.gate_at → ⊥). (let it : image k ≡ half k = elim (from.each k) [ inl same ↦ same | inr new ↦ absurd (apart (only_at log.gate_at g k (image k) new)) ] in it) in
      let counted = λ (k : ℕ) (low : log.gate_at + LOG_HEADER_WORDS ≤ k) (high : k < following log).
      other k (λ here. absurd (omega arith)) ∙ (still.counted k low high).each (half k) (picked.each k) in
      record {
        before = o.before;
        picked = o.picked;
        outside = λ k apart.
            other k (λ here. apart (record { low = omega arith; high = omega arith }))
            ∙ (let it : half k ≡ o.before k = elim (o.from.each k) [ inl same ↦ same | inr new ↦ absurd (apart (block_inside k (half k) new)) ] in it);
        log = elim (from.each log.gate_at) [
          | inl same ↦
              inl (IsOpen-log_by log es t.now.words image still (same ∙ still.gate.each (half log.gate_at) (picked.each log.gate_at)) counted ∙ sym was)
          | inr new ↦
              inr (log_of-grown image (value_of_only log.gate_at g (image log.gate_at) new)
              (λ k low high. counted k low high ∙ HasOnly-newest (t.now.words k) (s.now.words k).newest
              (HasOnly-kept words_may None s t k (s.now.words k).newest first.changes (λ x. block_apart k x (record { is = inr (low, high) })) (open_log.counted k low high)))
              (λ i h. other (following log + i) (λ here. absurd (omega arith))
              ∙ (first.durable refl (following log + i) (get_or ws i 0) (placed_at (following log) i (following log + i) ws refl h)).each (half (following log + i)) (picked.each (following log + i)))
              ∙ sym (ap (with_last more) was))
        ];
      }) second.changes

  pub both_images : (fault : Option HostFault) (t u : State) → Persists (placed (following log) ws) None s t → Persists (only log.gate_at (next_gate log count)) fault t u → Leaves (Silently Grown) s u
  both_images fault t u first second =
      let P = Silently Grown in
      let said = Changes-said words_may None s t first.changes in
      Leaves-then P P P [] s t u (said ∙ sym (append-nil s.now.said)) (λ front image p. p) (λ more image p. p)
      (first_images None t first.changes)
      (second_images fault t u first second)

-- ---- an append

-- A durable write of words, stated about the entries that the words spell.
pub Persists-spelled : (log : OpenLog) (ws of : List ℕ) (count : ℕ) (fault : Option HostFault) (s t : State) → ws ≡ of → count ≡ length of
    → Persists (words_write log (length ws) ws) fault s t → Persists (words_write log count of) fault s t
Persists-spelled log ws of count fault s t are counted p =
    subst (λ (n : ℕ). Persists (words_write log n of) fault s t) (sym counted) (subst (λ (l : List ℕ). Persists (words_write log (length l) l) fault s t) are p)

pub Appends-failed : (log : OpenLog) (es : List Entry) (count : ℕ) (more : List Entry) (fault : HostFault) (s t : State) → Persists (words_write log count (spelled_all more)) (Some fault) s t
    → Leaves (Silently (HasGrown s.now.words log.gate_at more)) s t → Appends log es count more (Err (Host fault)) s t
Appends-failed log es count more fault s t p moments = record { writes = p.changes; moments = moments; done = tt }

pub Appends-done : (log : OpenLog) (es : List Entry) (count : ℕ) (more : List Entry) (s t : State) → IsBlock log count (spelled_all more) → entries_in 0 (spelled_all more) ≡ Some more → IsOpen log es s.now.words
    → Persists (words_write log count (spelled_all more)) None s t → Leaves (Silently (HasGrown s.now.words log.gate_at more)) s t → Appends log es count more (Ok tt) s t
Appends-done log es count more s t block spells open_log p moments =
    record { writes = p.changes; moments = moments; done = IsOpen-grown log es count (spelled_all more) more s block spells open_log t p }
