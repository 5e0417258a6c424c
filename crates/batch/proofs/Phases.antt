-- The parts in which a batch is written: its entries, the range, the words at their places, and the closed gate.
use Rattle.std.proofs.Common.{◌≡◌, ◌⊎◌, inl, inr, ℕ, ◌+◌, ◌-◌, ◌<◌, ◌≤◌, ◌^◌, true, false, List, [], length, get_or, Option, Some, None, refl, sym, ap, subst, ◌∙◌, arith}
use Rattle.std.proofs.lemmas.Bool.{eq-eqb}
use Rattle.std.proofs.lemmas.List.{append-nil}
use Rattle.pm_model.specs.declared.host.HostFault.{HostFault}
use Rattle.pm_model.specs.Words.{Has, values, reads, Picks, HasOnly}
use Rattle.pm_model.specs.Moments.{State}
use Rattle.pm_model.specs.Changes.{Changes, Leaves, Silently, Persists, only, placed, written}
use Rattle.pm_model.proofs.Words.{only_at, HasOnly-own, HasOnly-newest}
use Rattle.pm_model.proofs.Changes.{Changes-now, Changes-said, Changes-wider, Changes-then, HasOnly-kept}
use Rattle.pm_model.proofs.Leaves.{Leaves-changes, Leaves-now, Leaves-then, Leaves-weaker}
use Rattle.pm_model.proofs.OneWord.{one_word, one_word_after}
use Rattle.pm_persist.proofs.Ranges.{placed_within, placed_at}
use Rattle.pud_defs.specs.declared.layout.TheConstants.{LOG_HEADER_WORDS, LOG_ENTRY_WORDS}
use Rattle.pud_defs.specs.declared.log_words.TheConstants.{COMMITTING_LO, COMMITTING_HI}
use Rattle.pud_defs.specs.Formats.Image.{Image}
use Rattle.pud_defs.specs.Logging.Entries.{Entry, Log, log_of, gate_lo, gate_hi, gate_used, gate_word, is_idle_gate, entries_in, entries_of, words_from}
use Rattle.pud_defs.specs.Logging.Replay.{device_word, new_value, overwritten, IsInLog, is_in_log, settled_by}
use Rattle.pud_defs.proofs.Logging.Entries.{words_from-holds, entries_of-is, gate_lo-of, gate_hi-of, gate_used-of, is_legal_gate-of}
use Rattle.pud_defs.proofs.Logging.Replay.{not_inside}
use Rattle.log_replay.specs.declared.Target.TheVariants as targets
use Rattle.log_replay.specs.Replaying.{ByLog, SettlesSame, SettlesLog}
use Rattle.log_replay.proofs.Closing.{gate_apart}
use Rattle.batch.specs.Batches.{batch_write, committed, AreBatched, IsFree, ByBatch, IsBatched, IsBatchedWholly, IsUntouched, Prepares, Commits}
use Rattle.batch.proofs.Writes.{new_value-committed, settled_by-idle_same, settled_by-committed}

-- ---- the entries are made durable while the gate counts nothing

module _ (size at : ℕ) (es : List Entry) (words : List ℕ) (s : State) (free : IsFree size at es s.now.words) (fits : length words ≤ LOG_ENTRY_WORDS) where
  entries_apart : (k v : ℕ) → written (placed (at + LOG_HEADER_WORDS) words) k v → (at < k) × IsInLog at k
  entries_apart k v is = let within = placed_within (at + LOG_HEADER_WORDS) k v words is in let low = within.0 in let high = within.1 in (omega arith, record { low = omega arith; high = omega arith })

  pub entries_left : (fault : Option HostFault) (a : State) → Changes (written (placed (at + LOG_HEADER_WORDS) words)) fault s a → Leaves (Silently (IsUntouched s.now.words at)) s a
  entries_left fault a changes =
      Leaves-changes (IsUntouched s.now.words at) (written (placed (at + LOG_HEADER_WORDS) words)) fault s a
      (λ before image picked from.
      let outside : (k : ℕ) → is_in_log at k ≡ false → image k ≡ before k = λ k out. elim (from.each k) [
        | inl same ↦ same
        | inr new ↦ absurd (not_inside at k out (entries_apart k (image k) new).1)
      ] in
      let gate : image at ≡ before at = elim (from.each at) [ inl same ↦ same | inr new ↦ absurd (let low = (entries_apart at (image at) new).0 in omega arith) ] in
      let idle = free.idle (before at) (picked.each at) in
      record {
        before = before;
        picked = picked;
        outside = outside;
        same = settled_by-idle_same at image before (ap is_idle_gate gate ∙ idle) idle outside;
        idle = ap is_idle_gate gate ∙ idle;
      }) changes

  pub gate_idle_still : (fault : Option HostFault) (a : State) → Changes (written (placed (at + LOG_HEADER_WORDS) words)) fault s a → (v : ℕ) → Has (values (a.now.words at)) v → is_idle_gate v ≡ true
  gate_idle_still fault a changes v has = elim (Changes-now (written (placed (at + LOG_HEADER_WORDS) words)) fault s a changes at v has) [
    | inl was ↦ free.idle v was
    | inr new ↦ absurd (let low = (entries_apart at v new).0 in omega arith)
  ]

  pub entries_change : (fault : Option HostFault) (a : State) → Changes (written (placed (at + LOG_HEADER_WORDS) words)) fault s a → Changes (ByBatch at es) fault s a
  entries_change fault a changes = Changes-wider (written (placed (at + LOG_HEADER_WORDS) words)) (ByBatch at es) fault s a
      (λ k v new. inl (entries_apart k v new).1) changes

-- ---- the range counts them

committing_gate : List ℕ → ℕ
committing_gate words = gate_word COMMITTING_LO COMMITTING_HI (length words)

committed_log : (i : Image) (at : ℕ) (words : List ℕ) (es : List Entry) → i at ≡ gate_word COMMITTING_LO COMMITTING_HI (length words) → length words ≤ LOG_ENTRY_WORDS
    → ((j : ℕ) → j < length words → i (at + LOG_HEADER_WORDS + j) ≡ get_or words j 0) → entries_in 0 words ≡ Some es → log_of i at ≡ committed es
committed_log i at words es gate fits holds spell =
    let small : length words < 2 ^ 16 = omega arith in
    let used = gate_used-of COMMITTING_LO COMMITTING_HI (length words) (omega arith) (omega arith) small in
    let there : words_from i (at + LOG_HEADER_WORDS) (gate_used (gate_word COMMITTING_LO COMMITTING_HI (length words))) ≡ words =
    ap (words_from i (at + LOG_HEADER_WORDS)) used ∙ words_from-holds i (at + LOG_HEADER_WORDS) words holds in
    let entries : entries_of i at ≡ Some es =
    entries_of-is i at (gate_word COMMITTING_LO COMMITTING_HI (length words)) words gate (is_legal_gate-of COMMITTING_LO COMMITTING_HI (length words) (omega arith) (omega arith) fits) there ∙ spell in
    let lo : gate_lo (i at) ≡ COMMITTING_LO = ap gate_lo gate ∙ gate_lo-of COMMITTING_LO COMMITTING_HI (length words) (omega arith) (omega arith) small in
    let hi : gate_hi (i at) ≡ COMMITTING_HI = ap gate_hi gate ∙ gate_hi-of COMMITTING_LO COMMITTING_HI (length words) (omega arith) (omega arith) small in
    λ p. record { lo = lo p; hi = hi p; entries = entries p }

module _ (size at : ℕ) (es : List Entry) (words : List ℕ) (s a : State) (free : IsFree size at es s.now.words) (fits : length words ≤ LOG_ENTRY_WORDS)
    (spell : entries_in 0 words ≡ Some es) (batched : AreBatched es) (first : Persists (placed (at + LOG_HEADER_WORDS) words) None s a) where
  -- When the entries are durable, each image of the words has them.
  entries_there : (image : Image) → Picks a.now.words image → (j : ℕ) → j < length words → image (at + LOG_HEADER_WORDS + j) ≡ get_or words j 0
  entries_there image picked j below =
      (first.durable refl (at + LOG_HEADER_WORDS + j) (get_or words j 0) (placed_at (at + LOG_HEADER_WORDS) j (at + LOG_HEADER_WORDS + j) words refl below)).each (image (at + LOG_HEADER_WORDS + j)) (picked.each (at + LOG_HEADER_WORDS + j))

  -- With the range moved an image has all of the batch's words.
  wholly : (before image : Image) → Picks a.now.words before → IsUntouched s.now.words at before
      → image at ≡ gate_word COMMITTING_LO COMMITTING_HI (length words) → ((k : ℕ) → (k ≡ at → ⊥) → image k ≡ before k) → IsBatchedWholly s.now.words at es image
  wholly before image picked so_far gate others =
      let holds : (j : ℕ) → j < length words → image (at + LOG_HEADER_WORDS + j) ≡ get_or words j 0 = λ j below. others (at + LOG_HEADER_WORDS + j) (λ e. absurd (omega arith)) ∙ entries_there before picked j below in
      let log = committed_log image at words es gate fits holds spell in
      let idle = gate_idle_still size at es words s free fits None a first.changes (before at) (picked.each at) in
      record {
        before = so_far.before;
        picked = so_far.picked;
        outside = λ k out none. others k (gate_apart at k out) ∙ so_far.outside k out;
        log = log;
        settled = settled_by-committed size at es image before batched free.apart log idle (λ w out. others w (gate_apart at w out))
            ∙ ap (overwritten (batch_write es)) so_far.same;
      }

  so_far_now : (image : Image) → Picks a.now.words image → IsUntouched s.now.words at image
  so_far_now image picked =
      (Leaves-now (Silently (IsUntouched s.now.words at)) [] s a (Changes-said (written (placed (at + LOG_HEADER_WORDS) words)) None s a first.changes ∙ sym (append-nil s.now.said))
      (entries_left size at es words s free fits None a first.changes) image picked).1

  range_left : (fault : Option HostFault) (b : State) → Changes (written (only at (gate_word COMMITTING_LO COMMITTING_HI (length words)))) fault a b → Leaves (Silently (IsBatched s.now.words at es)) a b
  range_left fault b changes =
      Leaves-changes (IsBatched s.now.words at es) (written (only at (gate_word COMMITTING_LO COMMITTING_HI (length words)))) fault a b
      (λ before image picked from.
      let so_far = so_far_now before picked in
      elim (one_word at (gate_word COMMITTING_LO COMMITTING_HI (length words)) before image from) [
        | inl same ↦ record {
          before = so_far.before;
          picked = so_far.picked;
          outside = λ k out none. ap (λ (i : Image). i k) same ∙ so_far.outside k out;
          settled = inl (ap (settled_by at) same ∙ so_far.same);
          log = inl (ap (λ (i : Image). is_idle_gate (i at)) same ∙ so_far.idle);
        }
        | inr moved ↦
            let w = wholly before image picked so_far moved.there moved.others in
            record { before = w.before; picked = w.picked; outside = w.outside; settled = inr w.settled; log = inr w.log }
      ]) changes

  -- Both parts together.
  pub Prepares-range : (fault : Option HostFault) (b : State) → Persists (only at (gate_word COMMITTING_LO COMMITTING_HI (length words))) fault a b → Prepares size at es fault s b
  Prepares-range fault b second =
      let gate_write = only at (gate_word COMMITTING_LO COMMITTING_HI (length words)) in
      let P = Silently (IsBatched s.now.words at es) in
      let said = Changes-said (written (placed (at + LOG_HEADER_WORDS) words)) None s a first.changes in
      let gate_only : (k v : ℕ) → written gate_write k v → ByBatch at es k v = λ k v new. let here = only_at at (gate_word COMMITTING_LO COMMITTING_HI (length words)) k v new in inl (record { low = omega arith; high = omega arith }) in
      let others : (k : ℕ) → (k ≡ at → ⊥) → (v : ℕ) → written gate_write k v → ⊥ = λ k apart v new. apart (only_at at (gate_word COMMITTING_LO COMMITTING_HI (length words)) k v new) in
      let gate_value : fault ≡ None → HasOnly (b.now.words at) (gate_word COMMITTING_LO COMMITTING_HI (length words)) = λ none. second.durable none at (gate_word COMMITTING_LO COMMITTING_HI (length words)) (rw (eq-eqb at at refl) refl) in
      let entry_value : (k v : ℕ) → placed (at + LOG_HEADER_WORDS) words k ≡ Some v → HasOnly (b.now.words k) v = λ k v is.
      HasOnly-kept (written gate_write) fault a b k v second.changes
      (λ x new. others k (λ e. absurd (let low = (placed_within (at + LOG_HEADER_WORDS) k v words is).0 in omega arith)) x new) (first.durable refl k v is) in
      let early = Leaves-weaker (Silently (IsUntouched s.now.words at)) P s a
      (λ bytes image p. (p.0, record { before = p.1.before; picked = p.1.picked; outside = λ k out none. p.1.outside k out; settled = inl p.1.same; log = inl p.1.idle }))
      (entries_left size at es words s free fits None a first.changes) in
      let reads_log : fault ≡ None → log_of (reads b.now.words) at ≡ committed es = λ none.
      committed_log (reads b.now.words) at words es (HasOnly-newest (b.now.words at) (gate_word COMMITTING_LO COMMITTING_HI (length words)) (gate_value none)) fits
      (λ j below. HasOnly-newest (b.now.words (at + LOG_HEADER_WORDS + j)) (get_or words j 0)
      (entry_value (at + LOG_HEADER_WORDS + j) (get_or words j 0) (placed_at (at + LOG_HEADER_WORDS) j (at + LOG_HEADER_WORDS + j) words refl below))) spell in
      record {
        changes = Changes-then (ByBatch at es) fault s a b (entries_change size at es words s free fits None a first.changes)
            (Changes-wider (written gate_write) (ByBatch at es) fault a b gate_only second.changes);
        moments = Leaves-then P P P [] s a b (said ∙ sym (append-nil s.now.said)) (λ front image p. p) (λ more image p. p) early (range_left fault b second.changes);
        prepared = λ none.
            let gate_reads : reads b.now.words at ≡ gate_word COMMITTING_LO COMMITTING_HI (length words) = HasOnly-newest (b.now.words at) (gate_word COMMITTING_LO COMMITTING_HI (length words)) (gate_value none) in
            let small : length words < 2 ^ 16 = omega arith in
            let used : gate_used (reads b.now.words at) ≡ length words = ap gate_used gate_reads ∙ gate_used-of COMMITTING_LO COMMITTING_HI (length words) (omega arith) (omega arith) small in
            record {
              durable_log = record {
                gate = HasOnly-own (b.now.words at) (gate_word COMMITTING_LO COMMITTING_HI (length words)) (gate_value none);
                counted = λ k low high.
                    let j = k - (at + LOG_HEADER_WORDS) in
                    let below : j < length words = omega arith in
                    let place : k ≡ at + LOG_HEADER_WORDS + j = omega arith in
                    HasOnly-own (b.now.words k) (get_or words j 0) (entry_value k (get_or words j 0) (placed_at (at + LOG_HEADER_WORDS) j k words place below));
                table = λ k placing. absurd placing;
              };
              replayable = record {
                spells = ap (λ (l : Log). l.entries) (reads_log none);
                apart = λ k d below counts. free.apart k d below;
              };
              log = reads_log none;
            };
        done = λ none image picked.
            let w = one_word_after at (gate_word COMMITTING_LO COMMITTING_HI (length words)) a b image (subst (λ (f : Option HostFault). Persists gate_write f a b) none second) picked in
            wholly w.before image w.picked (so_far_now w.before w.picked) w.is.there w.is.others;
      }

-- The entries were to be made durable, and this failed.
pub Prepares-entries : (size at : ℕ) (es : List Entry) (words : List ℕ) (fault : HostFault) (s a : State) → IsFree size at es s.now.words → length words ≤ LOG_ENTRY_WORDS
    → Persists (placed (at + LOG_HEADER_WORDS) words) (Some fault) s a → Prepares size at es (Some fault) s a
Prepares-entries size at es words fault s a free fits first =
    record {
      changes = entries_change size at es words s free fits (Some fault) a first.changes;
      moments = Leaves-weaker (Silently (IsUntouched s.now.words at)) (Silently (IsBatched s.now.words at es)) s a
          (λ bytes image p. (p.0, record { before = p.1.before; picked = p.1.picked; outside = λ k out none. p.1.outside k out; settled = inl p.1.same; log = inl p.1.idle }))
          (entries_left size at es words s free fits (Some fault) a first.changes);
      prepared = λ e. absurd (let it : None ≡ Some fault = sym e in cc);
      done = λ e. absurd (let it : None ≡ Some fault = sym e in cc);
    }

-- ---- all parts together

pub Commits-prepare : (size at : ℕ) (es : List Entry) (fault : HostFault) (s b : State) → Prepares size at es (Some fault) s b → Commits at es (Some fault) s b
Commits-prepare size at es fault s b p =
    record { changes = p.changes; moments = p.moments; durable = λ e. absurd (let it : None ≡ Some fault = sym e in cc); closed = λ e. absurd (let it : None ≡ Some fault = sym e in cc) }

-- The log is then replayed and closed, and gives what the batch writes.
pub Commits-settle : (size at : ℕ) (es : List Entry) (fault : Option HostFault) (s b d : State) → AreBatched es → Prepares size at es None s b → SettlesLog targets.Words at fault b d
    → Leaves (Silently (SettlesSame b.now.words at (log_of (reads b.now.words) at))) b d → Commits at es fault s d
Commits-settle size at es fault s b d batched p f left =
    let P = Silently (IsBatched s.now.words at es) in
    let log = log_of (reads b.now.words) at in
    let prepared = p.prepared refl in
    let gives : (k : ℕ) → new_value device_word log k ≡ batch_write es k = λ k. ap (λ (l : Log). new_value device_word l k) prepared.log ∙ new_value-committed es k batched in
    let late = Leaves-weaker (Silently (SettlesSame b.now.words at log)) P b d
    (λ bytes image q.
    let whole = p.done refl q.1.before q.1.picked in
    let left : (is_idle_gate (image at) ≡ true) ⊎ (log_of image at ≡ committed es) = elim q.1.gate [ inl same ↦ inr (same ∙ prepared.log) | inr idle ↦ inl idle ] in
    let at_all : IsBatched s.now.words at es image = record {
      before = whole.before;
      picked = whole.picked;
      outside = λ k out none. q.1.outside k out (gives k ∙ none) ∙ whole.outside k out none;
      settled = inr (q.1.same ∙ whole.settled);
      log = left;
    } in
    (q.0, at_all)) left in
    record {
      changes = Changes-then (ByBatch at es) fault s b d p.changes
          (Changes-wider (ByLog at (new_value device_word log)) (ByBatch at es) fault b d
          (λ k v may. elim may [
            | inl gate ↦ inl (record { low = omega arith; high = omega arith })
            | inr named ↦ inr (record { value = named.value; is = sym (gives k) ∙ named.is })
          ]) f.changes);
      moments = Leaves-then P P P [] s b d (Changes-said (ByBatch at es) None s b p.changes ∙ sym (append-nil s.now.said)) (λ front image q. q) (λ more image q. q) p.moments late;
      durable = λ none k v is. f.durable none k v (gives k ∙ is);
      closed = f.closed;
    }
