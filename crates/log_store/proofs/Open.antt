-- What the words of an open log spell, when it is opened and after other calls.
use Rattle.std.proofs.Common.{◌≡◌, ◌⊎◌, inl, inr, ℕ, ◌+◌, ◌<◌, ◌≤◌, ◌^◌, true, false, ltb, leb, List, [], Option, Some, None, refl, sym, ap, ◌∙◌, arith}
use Rattle.std.proofs.lemmas.Bool.{and_parts, leb-true, ltb-true, eq-eqb}
use Rattle.pm_model.specs.declared.host.HostFault.{HostFault}
use Rattle.pm_model.specs.Words.{Words, reads, Picks, HasOnly}
use Rattle.pm_model.specs.Moments.{State}
use Rattle.pm_model.specs.Changes.{Footprint, Changes, IsFrom, Persists, only, written}
use Rattle.pm_model.proofs.Words.{HasOnly-newest, HasOnly-own, only_at}
use Rattle.pm_model.proofs.Changes.{HasOnly-kept}
use Rattle.pud_defs.specs.declared.layout.TheConstants.{LOG_HEADER_WORDS, LOG_ENTRY_WORDS}
use Rattle.pud_defs.specs.declared.log_words.TheConstants.{RUNNING_LO, RUNNING_HI, RUNNING_GATE, COMMITTING_HI, CLOSED_GATE}
use Rattle.pud_defs.specs.Formats.Image.{Image}
use Rattle.pud_defs.specs.Logging.Entries.{Entry, Log, log_of, gate_lo, gate_hi, gate_used, gate_word, entries_in, words_from, entries_of}
use Rattle.pud_defs.proofs.Logging.Entries.{gate_lo-of, gate_hi-of, gate_used-of, is_legal_gate-of, words_from-same, words_from-none, entries_of-is, spells}
use Rattle.log_store.specs.Store.{OpenLog, saying, InLog, IsOpen}
use Rattle.pm_model.proofs.OneWord.{value_of_only}

-- ---- one log, by its parts

-- the parts of a gate fit their bits, and it counts no more words than a log has
pub record FitsGate (log : OpenLog) : Type 0 where
  pub lo_fits : log.lo < 2 ^ 8
  pub hi_fits : log.hi < 2 ^ 8
  pub used_within : log.used ≤ LOG_ENTRY_WORDS

pub used_is : (log : OpenLog) → FitsGate log → gate_used (gate_word log.lo log.hi log.used) ≡ log.used
used_is log fits = gate_used-of log.lo log.hi log.used fits.lo_fits fits.hi_fits (let h = fits.used_within in omega arith)

-- An image has this log if it has its gate, and if the words that the gate counts spell its entries.
pub log_of-is : (image : Image) (log : OpenLog) (ws : List ℕ) (es : List Entry) → FitsGate log → image log.gate_at ≡ gate_word log.lo log.hi log.used
    → words_from image (log.gate_at + LOG_HEADER_WORDS) log.used ≡ ws → entries_in 0 ws ≡ Some es → log_of image log.gate_at ≡ saying log es
log_of-is image log ws es fits gate words some =
    let few : log.used < 2 ^ 16 = let h = fits.used_within in omega arith in
    let lo : gate_lo (image log.gate_at) ≡ log.lo = ap gate_lo gate ∙ gate_lo-of log.lo log.hi log.used fits.lo_fits fits.hi_fits few in
    let hi : gate_hi (image log.gate_at) ≡ log.hi = ap gate_hi gate ∙ gate_hi-of log.lo log.hi log.used fits.lo_fits fits.hi_fits few in
    let entries : entries_of image log.gate_at ≡ Some es =
    entries_of-is image log.gate_at (gate_word log.lo log.hi log.used) ws gate (is_legal_gate-of log.lo log.hi log.used fits.lo_fits fits.hi_fits fits.used_within)
    (ap (words_from image (log.gate_at + LOG_HEADER_WORDS)) (used_is log fits) ∙ words) ∙ some in
    λ p. record { lo = lo p; hi = hi p; entries = entries p }

-- ---- what is known about an open log

fits_by : (g lo hi used : ℕ) → g ≡ gate_word lo hi used → gate_lo g ≡ lo → gate_hi g ≡ hi → g < 2 ^ 32 → gate_used g ≤ LOG_ENTRY_WORDS → used ≤ LOG_ENTRY_WORDS
fits_by g lo hi used is lo_is hi_is below within = omega arith

pub IsOpen-fits : (log : OpenLog) (es : List Entry) (words : Words) → IsOpen log es words → FitsGate log
IsOpen-fits log es words open_log =
    let g = (words log.gate_at).newest in
    let is : g ≡ gate_word log.lo log.hi log.used = HasOnly-newest (words log.gate_at) _ open_log.gate in
    let lo : gate_lo g ≡ log.lo = ap (λ (l : Log). l.lo) open_log.says in
    let hi : gate_hi g ≡ log.hi = ap (λ (l : Log). l.hi) open_log.says in
    let entries : entries_of (reads words) log.gate_at ≡ Some es = ap (λ (l : Log). l.entries) open_log.says in
    let parts = and_parts (ltb g (2 ^ 32)) (leb (gate_used g) LOG_ENTRY_WORDS) (spells (reads words) log.gate_at es entries).legal in
    record {
      lo_fits = omega arith;
      hi_fits = omega arith;
      used_within = fits_by g log.lo log.hi log.used is lo hi (ltb-true _ _ parts.0) (leb-true _ _ parts.1);
    }

pub IsOpen-words : (log : OpenLog) (es : List Entry) (words : Words) → IsOpen log es words
    → entries_in 0 (words_from (reads words) (log.gate_at + LOG_HEADER_WORDS) log.used) ≡ Some es
IsOpen-words log es words open_log =
    let entries : entries_of (reads words) log.gate_at ≡ Some es = ap (λ (l : Log). l.entries) open_log.says in
    let gate : gate_used (words log.gate_at).newest ≡ log.used = ap gate_used (HasOnly-newest (words log.gate_at) _ open_log.gate) ∙ used_is log (IsOpen-fits log es words open_log) in
    ap (λ n. entries_in 0 (words_from (reads words) (log.gate_at + LOG_HEADER_WORDS) n)) (sym gate) ∙ (spells (reads words) log.gate_at es entries).words

-- An image that agrees with the words of an open log on its gate and on the words that it counts spells the same log.
pub IsOpen-log_by : (log : OpenLog) (es : List Entry) (words : Words) (image : Image) → IsOpen log es words → image log.gate_at ≡ gate_word log.lo log.hi log.used
    → ((k : ℕ) → log.gate_at + LOG_HEADER_WORDS ≤ k → k < log.gate_at + LOG_HEADER_WORDS + log.used → image k ≡ (words k).newest) → log_of image log.gate_at ≡ saying log es
IsOpen-log_by log es words image open_log gate same =
    log_of-is image log _ es (IsOpen-fits log es words open_log) gate (words_from-same image (reads words) (log.gate_at + LOG_HEADER_WORDS) log.used same) (IsOpen-words log es words open_log)

-- Each image that may be left spells it.
pub IsOpen-log : (log : OpenLog) (es : List Entry) (words : Words) (image : Image) → IsOpen log es words → Picks words image → log_of image log.gate_at ≡ saying log es
IsOpen-log log es words image open_log picked =
    IsOpen-log_by log es words image open_log (open_log.gate.each (image log.gate_at) (picked.each log.gate_at)) (λ k low high. (open_log.counted k low high).each (image k) (picked.each k))

-- ---- after other calls

-- the word counts in the log: it is the gate, or an entry word that the gate counts
pub record IsCounted (log : OpenLog) (k : ℕ) : Type 0 where
  pub is : (k ≡ log.gate_at) ⊎ ((log.gate_at + LOG_HEADER_WORDS ≤ k) × (k < log.gate_at + LOG_HEADER_WORDS + log.used))

-- Calls that write no value to a word that counts leave the log open.
pub IsOpen-kept_by : (may : Footprint) (fault : Option HostFault) (old new : State) (log : OpenLog) (es : List Entry) → Changes may fault old new
    → ((k v : ℕ) → IsCounted log k → may k v → ⊥) → IsOpen log es old.now.words → IsOpen log es new.now.words
IsOpen-kept_by may fault old new log es changes apart open_log =
    let kept = λ (k v : ℕ) (counts : IsCounted log k) (one : HasOnly (old.now.words k) v). HasOnly-kept may fault old new k v changes (λ x. apart k x counts) one in
    let gate : HasOnly (new.now.words log.gate_at) (gate_word log.lo log.hi log.used) = kept log.gate_at _ (record { is = inl refl }) open_log.gate in
    let counted = λ (k : ℕ) (low : log.gate_at + LOG_HEADER_WORDS ≤ k) (high : k < log.gate_at + LOG_HEADER_WORDS + log.used).
    kept k (old.now.words k).newest (record { is = inr (low, high) }) (open_log.counted k low high) in
    record {
      gate = gate;
      counted = λ k low high. HasOnly-own (new.now.words k) (old.now.words k).newest (counted k low high);
      says = IsOpen-log_by log es old.now.words (reads new.now.words) open_log (HasOnly-newest (new.now.words log.gate_at) _ gate)
          (λ k low high. HasOnly-newest (new.now.words k) (old.now.words k).newest (counted k low high));
      defers_known = open_log.defers_known;
    }

-- Calls that write no value to a word of the log leave it open.
pub IsOpen-kept : (may : Footprint) (fault : Option HostFault) (old new : State) (log : OpenLog) (es : List Entry) → Changes may fault old new
    → ((k v : ℕ) → InLog log.gate_at k v → may k v → ⊥) → IsOpen log es old.now.words → IsOpen log es new.now.words
IsOpen-kept may fault old new log es changes apart open_log =
    let within = (IsOpen-fits log es old.now.words open_log).used_within in
    IsOpen-kept_by may fault old new log es changes
    (λ k v counts. apart k v (elim counts.is [ inl gate ↦ record { low = omega arith; high = omega arith } | inr entry ↦ record { low = omega arith; high = omega arith } ]))
    open_log

-- ---- one word written

pub only_here : (w v : ℕ) → only w v w ≡ Some v
only_here w v = rw (eq-eqb w w refl) refl

-- The store of a running log's gate alone opens the log without entries.
pub IsOpen-running : (at : ℕ) (old new : State) → Persists (only at RUNNING_GATE) None old new
    → IsOpen (record { gate_at = at; lo = RUNNING_LO; hi = RUNNING_HI; used = 0; defers = false }) [] new.now.words
unfolding entries_in
IsOpen-running at old new p =
    let gate = p.durable refl at RUNNING_GATE (only_here at RUNNING_GATE) in
    let log : OpenLog = record { gate_at = at; lo = RUNNING_LO; hi = RUNNING_HI; used = 0; defers = false } in
    record {
      gate = gate;
      counted = λ k low high. absurd (omega arith);
      says = log_of-is (reads new.now.words) log [] [] (record { lo_fits = omega arith; hi_fits = omega arith; used_within = omega arith })
          (HasOnly-newest (new.now.words at) RUNNING_GATE gate) (words_from-none (reads new.now.words) (at + LOG_HEADER_WORDS) 0 refl) refl;
      defers_known = λ some. absurd (let it : false ≡ true = some in cc);
    }

-- The store of a gate with another range alone gives the open log that range.
pub IsOpen-moved : (lo hi : ℕ) (log : OpenLog) (es : List Entry) (old new : State) → lo < 2 ^ 8 → hi < 2 ^ 8 → IsOpen log es old.now.words
    → Persists (only log.gate_at (gate_word lo hi log.used)) None old new → IsOpen (record log { lo = lo; hi = hi }) es new.now.words
IsOpen-moved lo hi log es old new lo_fits hi_fits open_log p =
    let g = gate_word lo hi log.used in
    let gate = p.durable refl log.gate_at g (only_here log.gate_at g) in
    let counted = λ (k : ℕ) (low : log.gate_at + LOG_HEADER_WORDS ≤ k) (high : k < log.gate_at + LOG_HEADER_WORDS + log.used).
    let apart : k ≡ log.gate_at → ⊥ = λ e. absurd (omega arith) in
    HasOnly-kept (written (only log.gate_at g)) None old new k (old.now.words k).newest p.changes (λ x may. apart (only_at log.gate_at g k x may)) (open_log.counted k low high) in
    record {
      gate = gate;
      counted = λ k low high. HasOnly-own (new.now.words k) (old.now.words k).newest (counted k low high);
      says = log_of-is (reads new.now.words) (record log { lo = lo; hi = hi }) _ es
          (record { lo_fits = lo_fits; hi_fits = hi_fits; used_within = (IsOpen-fits log es old.now.words open_log).used_within })
          (HasOnly-newest (new.now.words log.gate_at) g gate)
          (words_from-same (reads new.now.words) (reads old.now.words) (log.gate_at + LOG_HEADER_WORDS) log.used (λ k low high. HasOnly-newest (new.now.words k) (old.now.words k).newest (counted k low high)))
          (IsOpen-words log es old.now.words open_log);
      defers_known = open_log.defers_known;
    }

-- While the gate gets another range, each image has the log as it was or with that range.
pub log_of-moving : (lo hi : ℕ) (log : OpenLog) (es : List Entry) (words : Words) (before image : Image) → lo < 2 ^ 8 → hi < 2 ^ 8 → IsOpen log es words → Picks words before
    → IsFrom (written (only log.gate_at (gate_word lo hi log.used))) before image → (log_of image log.gate_at ≡ saying log es) ⊎ (log_of image log.gate_at ≡ saying (record log { lo = lo; hi = hi }) es)
log_of-moving lo hi log es words before image lo_fits hi_fits open_log picked from =
    let g = gate_word lo hi log.used in
    let counted = λ (k : ℕ) (low : log.gate_at + LOG_HEADER_WORDS ≤ k) (high : k < log.gate_at + LOG_HEADER_WORDS + log.used).
    (let it : image k ≡ (words k).newest = elim (from.each k) [
      | inl same ↦ same ∙ (open_log.counted k low high).each (before k) (picked.each k)
      | inr new ↦ absurd (let here = only_at log.gate_at g k (image k) new in omega arith)
    ] in it) in
    elim (from.each log.gate_at) [
      | inl same ↦ inl (IsOpen-log_by log es words image open_log (same ∙ open_log.gate.each (before log.gate_at) (picked.each log.gate_at)) counted)
      | inr new ↦ inr (log_of-is image (record log { lo = lo; hi = hi }) _ es
          (record { lo_fits = lo_fits; hi_fits = hi_fits; used_within = (IsOpen-fits log es words open_log).used_within })
          (value_of_only log.gate_at g (image log.gate_at) new) (words_from-same image (reads words) (log.gate_at + LOG_HEADER_WORDS) log.used counted) (IsOpen-words log es words open_log))
    ]

-- A log with the gate of a closed log has the range (4,4) and no entry, whatever its other words store.
pub log_of-closed : (at : ℕ) (image : Image) → image at ≡ CLOSED_GATE → log_of image at ≡ record { lo = COMMITTING_HI; hi = COMMITTING_HI; entries = Some [] }
unfolding entries_in
log_of-closed at image gate =
    let log : OpenLog = record { gate_at = at; lo = COMMITTING_HI; hi = COMMITTING_HI; used = 0; defers = false } in
    log_of-is image log [] [] (record { lo_fits = omega arith; hi_fits = omega arith; used_within = omega arith }) gate (words_from-none image (at + LOG_HEADER_WORDS) 0 refl) refl
