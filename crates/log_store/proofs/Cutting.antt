-- A log is cut back: which log the images left meanwhile and the words at the end spell.
use Rattle.std.proofs.Common.{◌≡◌, inl, inr, ℕ, ◌+◌, ◌<◌, ◌≤◌, true, false, List, [], ◌∷◌, ◌++◌, take, Option, Some, None, sym, ap, ◌∙◌, arith}
use Rattle.std.proofs.lemmas.Bool.{or_cases, or_left, or_right}
use Rattle.pm_model.specs.declared.host.HostFault.{HostFault}
use Rattle.pm_model.specs.Words.{reads, HasOnly}
use Rattle.pm_model.specs.Moments.{State}
use Rattle.pm_model.specs.Changes.{Leaves, Silently, Persists, only, written}
use Rattle.pm_model.proofs.Words.{HasOnly-newest, HasOnly-own, only_at}
use Rattle.pm_model.proofs.Changes.{HasOnly-kept}
use Rattle.pm_model.proofs.Leaves.{Leaves-changes}
use Rattle.pm_model.proofs.OneWord.{value_of_only}
use Rattle.pud_defs.specs.declared.layout.TheConstants.{LOG_HEADER_WORDS}
use Rattle.pud_defs.specs.Formats.Image.{Image}
use Rattle.pud_defs.specs.Logging.Entries.{Entry, log_of, gate_word, entries_in, entry_words, words_from}
use Rattle.pud_defs.proofs.Logging.Entries.{words_from-length, words_from-take, words_from-same, Splits, entries_in-split}
use Rattle.log_store.specs.Store.{OpenLog, IsOpen, is_redo, defers, saying, cut_to, with_those, HasShrunk, Cuts}
use Rattle.log_store.proofs.Open.{FitsGate, IsOpen-fits, IsOpen-words, IsOpen-log, IsOpen-log_by, log_of-is, only_here}

-- If one of the first entries has deferred values, one of all entries has some.
defers-front : (front back : List Entry) → defers front ≡ true → defers (front ++ back) ≡ true
defers-front [] back some = absurd (let it : false ≡ true = some in cc)
defers-front (e ∷ front) back some = elim (or_cases (is_redo e) (defers front) some) [
  | inl here ↦ or_left (is_redo e) (defers (front ++ back)) here
  | inr later ↦ or_right (is_redo e) (defers (front ++ back)) (defers-front front back later)
]

module _ (log : OpenLog) (front back : List Entry) (used : ℕ) (s : State) (open_log : IsOpen log (front ++ back) s.now.words) (ends : entry_words front ≡ used) where
  -- the first entry word
  abbrev start : ℕ
  start = log.gate_at + LOG_HEADER_WORDS

  -- the gate that counts so many words
  abbrev g : ℕ
  g = gate_word log.lo log.hi used

  split : Splits 0 (words_from (reads s.now.words) start log.used) front back
  split = entries_in-split 0 (words_from (reads s.now.words) start log.used) front back (IsOpen-words log (front ++ back) s.now.words open_log)

  fewer : used ≤ log.used
  fewer = let within = split.within in omega (arith, words_from-length (reads s.now.words) start log.used)

  fits : FitsGate (cut_to used log)
  fits =
      let f = IsOpen-fits log (front ++ back) s.now.words open_log in
      record { lo_fits = f.lo_fits; hi_fits = f.hi_fits; used_within = let within = f.used_within in omega (arith, fewer) }

  -- The words that are kept spell the first entries.
  spells : entries_in 0 (words_from (reads s.now.words) start used) ≡ Some front
  spells =
      ap (entries_in 0) (sym (words_from-take (reads s.now.words) start log.used used fewer))
      ∙ ap (λ n. entries_in 0 (take n (words_from (reads s.now.words) start log.used))) (let it : used ≡ 0 + entry_words front = omega (arith, ends) in it)
      ∙ split.front_is

  -- An image has only these entries if the words that are kept are as they were, and the gate counts only them.
  log_of-cut : (image : Image) → image log.gate_at ≡ g → ((k : ℕ) → start ≤ k → k < start + used → image k ≡ (s.now.words k).newest) → log_of image log.gate_at ≡ saying (cut_to used log) front
  log_of-cut image gate same =
      log_of-is image (cut_to used log) (words_from (reads s.now.words) start used) front fits gate (words_from-same image (reads s.now.words) start used same) spells

  module _ (fault : Option HostFault) (t : State) (p : Persists (only log.gate_at g) fault s t) where
    moments : Leaves (Silently (HasShrunk s.now.words log.gate_at front)) s t
    moments =
        Leaves-changes (HasShrunk s.now.words log.gate_at front) (written (only log.gate_at g)) fault s t
        (λ before image picked from.
        let was : log_of before log.gate_at ≡ saying log (front ++ back) = IsOpen-log log (front ++ back) s.now.words before open_log picked in
        let other = λ (k : ℕ) (apart : k ≡ log.gate_at → ⊥). (let it : image k ≡ before k = elim (from.each k) [ inl same ↦ same | inr new ↦ absurd (apart (only_at log.gate_at g k (image k) new)) ] in it) in
        let counted = λ (k : ℕ) (low : start ≤ k) (high : k < start + log.used).
        other k (λ here. absurd (omega arith)) ∙ (open_log.counted k low high).each (before k) (picked.each k) in
        record {
          before = before;
          picked = picked;
          outside = λ k apart. other k (λ here. apart (record { low = omega arith; high = omega arith }));
          log = elim (from.each log.gate_at) [
            | inl same ↦ inl (IsOpen-log_by log (front ++ back) s.now.words image open_log (same ∙ open_log.gate.each (before log.gate_at) (picked.each log.gate_at)) counted ∙ sym was)
            | inr new ↦
                inr (log_of-cut image (value_of_only log.gate_at g (image log.gate_at) new) (λ k low high. counted k low (let f = fewer in omega arith)) ∙ sym (ap (with_those front) was))
          ];
        }) p.changes

    done : fault ≡ None → IsOpen (cut_to used log) front t.now.words
    done none =
        let f = fewer in
        let gate : HasOnly (t.now.words log.gate_at) g = p.durable none log.gate_at g (only_here log.gate_at g) in
        let kept = λ (k : ℕ) (low : start ≤ k) (high : k < start + used).
        HasOnly-kept (written (only log.gate_at g)) fault s t k (s.now.words k).newest p.changes
        (λ v new. let here = only_at log.gate_at g k v new in absurd (omega arith)) (open_log.counted k low (omega arith)) in
        record {
          gate = gate;
          counted = λ k low high. HasOnly-own (t.now.words k) (s.now.words k).newest (kept k low high);
          says = log_of-cut (reads t.now.words) (HasOnly-newest (t.now.words log.gate_at) g gate) (λ k low high. HasOnly-newest (t.now.words k) (s.now.words k).newest (kept k low high));
          defers_known = λ some. open_log.defers_known (defers-front front back some);
        }

    pub Cuts-persisted : Cuts log used front fault s t
    Cuts-persisted = record { moments = moments; done = done }
