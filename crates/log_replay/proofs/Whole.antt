-- A whole replay: what is left at each moment, and at the end.
use Rattle.std.proofs.Common.{◌≡◌, inl, inr, ℕ, ◌+◌, ◌<◌, ◌≤◌, List, Option, Some, None, refl, sym, ap, ap₂, subst, ◌∙◌, arith}
use Rattle.std.specs.Prelude.{unwrap_or}
use Rattle.std.specs.Option.{option_or}
use Rattle.pm_model.specs.declared.host.HostFault.{HostFault}
use Rattle.pm_model.specs.Words.{Words, reads, Picks, HasOnly, after_fence}
use Rattle.pm_model.specs.Moments.{State}
use Rattle.pm_model.specs.Calls.{Steps}
use Rattle.pm_model.specs.Changes.{Write, Changes, Leaves, Silently}
use Rattle.pm_model.proofs.Words.{HasOnly-fenced, HasOnly-own}
use Rattle.pm_model.proofs.Changes.{Changes-then, Changes-fence, HasOnly-kept}
use Rattle.pm_model.proofs.Leaves.{Leaves-changes}
use Rattle.pud_defs.specs.declared.layout.TheConstants.{LOG_HEADER_WORDS, LOG_ENTRY_WORDS}
use Rattle.pud_defs.specs.Formats.Image.{Image}
use Rattle.pud_defs.specs.Logging.Entries.{Entry, Log, log_of, gate_used, entries_of}
use Rattle.pud_defs.specs.Logging.Replay.{AddressMap, new_value, overwritten, IsInLog}
use Rattle.pud_defs.proofs.Logging.Entries.{log_of-same, used_within}
use Rattle.pud_defs.proofs.Logging.Replay.{overwritten-again, new_value-of}
use Rattle.log_replay.specs.declared.Target.{Target}
use Rattle.log_replay.specs.Replaying.{address_map_of, IsPlacing, IsReplayable, HasDurableLog, AreApart, new_values, Named, AppliesEntries, ReplaysSame, Replays, ReplaysAgain}
use Rattle.log_replay.proofs.Places.{places_same}
use Rattle.log_replay.proofs.Left.{undo_value-apart, redo_value-apart, undone-unplaced, redo_value-unplaced}

-- ---- words that are read of the log, and from which the address map is read

-- The log gives no value to its own words.
pub new_values-apart : (to : Target) (size at : ℕ) (es : List Entry) (image : Image) → IsReplayable (address_map_of to image) size at es image → (k : ℕ) → IsInLog at k → new_values to at image k ≡ None
new_values-apart to size at es image r k inside =
    let place = address_map_of to image in
    let log = log_of image at in
    new_value-of place log es k r.spells
    ∙ ap₂ option_or (redo_value-apart place size at log es r.apart k inside) (undo_value-apart place size at log es r.apart k inside)

-- The log gives no value to the words from which the address map is read.
pub new_values-unplaced : (to : Target) (at : ℕ) (es : List Entry) (image : Image) → entries_of image at ≡ Some es → (k : ℕ) → IsPlacing to k → new_values to at image k ≡ None
new_values-unplaced to at es image spells k placing =
    let place = address_map_of to image in
    let log = log_of image at in
    new_value-of place log es k spells
    ∙ ap₂ option_or (redo_value-unplaced to image place refl log k placing es) (undone-unplaced to image place refl log k placing es)

-- Each image of these words has the log that is read from them.
pub log_of_picked : (to : Target) (at : ℕ) (words : Words) (image : Image) → HasDurableLog to at words → Picks words image → log_of image at ≡ log_of (reads words) at
log_of_picked to at words image d picked =
    let gate : image at ≡ reads words at = d.gate.each (image at) (picked.each at) in
    log_of-same image (reads words) at gate (λ k low high. (d.counted k low (subst (λ (v : ℕ). k < at + LOG_HEADER_WORDS + gate_used v) gate high)).each (image k) (picked.each k))

-- So in each image the log gives the same values.
pub new_values_picked : (to : Target) (at : ℕ) (words : Words) (image : Image) → HasDurableLog to at words → Picks words image → new_values to at image ≡ new_values to at (reads words)
new_values_picked to at words image d picked =
    ap₂ new_value (places_same to (reads words) image (λ k placing. (d.table k placing).each (image k) (picked.each k))) (log_of_picked to at words image d picked)

-- ---- while words that the log names change

module _ (to : Target) (size at : ℕ) (es : List Entry) (fault : Option HostFault) (s t : State)
    (r : IsReplayable (address_map_of to (reads s.now.words)) size at es (reads s.now.words)) (d : HasDurableLog to at s.now.words)
    (changes : Changes (Named (new_values to at (reads s.now.words))) fault s t) where
  abbrev write : Write
  write = new_values to at (reads s.now.words)

  in_log : (k : ℕ) → IsInLog at k → write k ≡ None
  in_log k inside = new_values-apart to size at es (reads s.now.words) r k inside

  in_table : (k : ℕ) → IsPlacing to k → write k ≡ None
  in_table k placing = new_values-unplaced to at es (reads s.now.words) r.spells k placing

  at_gate : IsInLog at at
  at_gate = record { low = omega arith; high = omega arith }

  -- Each image left replays to the same image.
  replays_same : Leaves (Silently (ReplaysSame to at s.now.words)) s t
  replays_same =
      Leaves-changes (ReplaysSame to at s.now.words) (Named write) fault s t
      (λ before image picked from.
      let gives : new_values to at before ≡ write = new_values_picked to at s.now.words before d picked in
      let stays : (k : ℕ) → write k ≡ None → image k ≡ before k = λ k none. elim (from.each k) [
        | inl same ↦ same
        | inr named ↦ absurd (let it : None ≡ Some named.value = sym none ∙ named.is in cc)
      ] in
      let gate : image at ≡ before at = stays at (in_log at at_gate) in
      let used : gate_used (image at) ≤ LOG_ENTRY_WORDS =
      subst (λ (v : ℕ). gate_used v ≤ LOG_ENTRY_WORDS) (sym (gate ∙ d.gate.each (before at) (picked.each at))) (used_within (reads s.now.words) at es r.spells) in
      let log : log_of image at ≡ log_of before at =
      log_of-same image before at gate (λ k low high. stays k (in_log k (record { low = omega arith; high = omega arith }))) in
      let places : address_map_of to image ≡ address_map_of to before = places_same to before image (λ k placing. stays k (in_table k placing)) in
      record {
        before = before;
        picked = picked;
        stays = λ k none. stays k (sym (ap (λ (w : Write). w k) gives) ∙ none);
        places = places;
        log = log;
        same = ap (λ (w : Write). overwritten w image) (ap₂ new_value places log ∙ gives)
            ∙ overwritten-again write before image stays
            ∙ ap (λ (w : Write). overwritten w before) (sym gives);
      }) changes

  -- A word that the log does not name still has its one value.
  still : (k : ℕ) → write k ≡ None → HasOnly (s.now.words k) (reads s.now.words k) → HasOnly (t.now.words k) (reads s.now.words k)
  still k none one = HasOnly-kept (Named write) fault s t k (reads s.now.words k) changes
      (λ v named. absurd (let it : None ≡ Some named.value = sym none ∙ named.is in cc)) one

  reads_still : (k : ℕ) → write k ≡ None → HasOnly (s.now.words k) (reads s.now.words k) → reads t.now.words k ≡ reads s.now.words k
  reads_still k none one = (still k none one).each (reads t.now.words k) (inl refl)

  one_still : (k : ℕ) → write k ≡ None → HasOnly (s.now.words k) (reads s.now.words k) → HasOnly (t.now.words k) (reads t.now.words k)
  one_still k none one = HasOnly-own (t.now.words k) (reads s.now.words k) (still k none one)

  gate_still : reads t.now.words at ≡ reads s.now.words at
  gate_still = reads_still at (in_log at at_gate) d.gate

  counted_in : (k : ℕ) → at + LOG_HEADER_WORDS ≤ k → k < at + LOG_HEADER_WORDS + gate_used (reads s.now.words at) → IsInLog at k
  counted_in k low high = let used = used_within (reads s.now.words) at es r.spells in record { low = omega arith; high = omega arith }

  counted_still : (k : ℕ) → at + LOG_HEADER_WORDS ≤ k → k < at + LOG_HEADER_WORDS + gate_used (reads s.now.words at) → reads t.now.words k ≡ reads s.now.words k
  counted_still k low high = reads_still k (in_log k (counted_in k low high)) (d.counted k low high)

  counts_still : (k : ℕ) → k < at + LOG_HEADER_WORDS + gate_used (reads t.now.words at) → k < at + LOG_HEADER_WORDS + gate_used (reads s.now.words at)
  counts_still k high = subst (λ (v : ℕ). k < at + LOG_HEADER_WORDS + gate_used v) gate_still high

  log_still : log_of (reads s.now.words) at ≡ log_of (reads t.now.words) at
  log_still = log_of-same (reads s.now.words) (reads t.now.words) at (sym gate_still) (λ k low high. sym (counted_still k low high))

  places_still : address_map_of to (reads s.now.words) ≡ address_map_of to (reads t.now.words)
  places_still = sym (places_same to (reads s.now.words) (reads t.now.words) (λ k placing. reads_still k (in_table k placing) (d.table k placing)))

  -- The log can be replayed again.
  pub replays_again : ReplaysAgain to size at es s t
  replays_again =
      record {
        moments = replays_same;
        replayable = record {
          spells = sym (ap (λ (l : Log). l.entries) log_still) ∙ r.spells;
          apart = subst (λ (T : Type 0). T) (ap₂ (λ (place : AddressMap) (log : Log). AreApart place size at log es) places_still log_still) r.apart;
        };
        durable_log = record {
          gate = one_still at (in_log at at_gate) d.gate;
          counted = λ k low high. let read = counts_still k high in one_still k (in_log k (counted_in k low read)) (d.counted k low read);
          table = λ k placing. one_still k (in_table k placing) (d.table k placing);
        };
      }

-- ---- all words are overwritten, and then a fence

fence_keeps : (s t : State) (fault : Option HostFault) → Steps after_fence fault s t → fault ≡ None → reads t.now.words ≡ reads s.now.words
fence_keeps s t fault step none = ap (λ (x : State). reads x.now.words) (step.done none)

pub Replays-failed : (to : Target) (at : ℕ) (fault : HostFault) (s t : State) → AppliesEntries (new_values to at (reads s.now.words)) (Some fault) s t → Replays to at (Some fault) s t
Replays-failed to at fault s t a =
    record {
      changes = a.changes;
      durable = λ e. absurd (let it : None ≡ Some fault = sym e in cc);
      reads_so = λ e. absurd (let it : None ≡ Some fault = sym e in cc);
    }

reads_one : (image was : ℕ) (o : Option ℕ) → ((v : ℕ) → o ≡ Some v → image ≡ v) → (o ≡ None → image ≡ was) → image ≡ unwrap_or o was
reads_one image was None some none = none refl
reads_one image was (Some v) some none = some v refl

pub Replays-fence : (to : Target) (at : ℕ) (fault : Option HostFault) (s t u : State) → AppliesEntries (new_values to at (reads s.now.words)) None s t → Steps after_fence fault t u → Replays to at fault s u
Replays-fence to at fault s t u a step =
    let write = new_values to at (reads s.now.words) in
    record {
      changes = Changes-then (Named write) fault s t u a.changes (Changes-fence (Named write) fault t u step);
      durable = λ e k v is. subst (λ (x : State). HasOnly (x.now.words k) v) (sym (step.done e)) (HasOnly-fenced (t.now.words k) v (a.newest refl k v is) (a.marked refl k v is));
      reads_so = λ e.
          let each : (k : ℕ) → reads u.now.words k ≡ unwrap_or (write k) (reads s.now.words k) = λ k.
          ap (λ (i : Image). i k) (fence_keeps t u fault step e)
          ∙ reads_one (reads t.now.words k) (reads s.now.words k) (write k) (a.newest refl k)
          (λ none. (a.changes.keeps (λ cut. cc) k (λ v named. absurd (let it : None ≡ Some named.value = sym none ∙ named.is in cc))).newest) in
          λ p k. each k p;
    }
