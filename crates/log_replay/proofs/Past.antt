-- The entries of a log that come after its first ones are undone.
use Rattle.std.proofs.Common.{◌≡◌, inl, inr, ℕ, List, [], ◌∷◌, ◌++◌, map, length, Option, Some, None, option_map, refl, sym, ap, subst, ◌∙◌, arith}
use Rattle.std.specs.Prelude.{All, unwrap_or, IsTrue}
use Rattle.std.proofs.lemmas.Bool.{cases_Bool}
use Rattle.std.proofs.lemmas.List.{map-append}
use Rattle.std.proofs.lemmas.List.Elements.{All-tail}
use Rattle.pm_model.specs.declared.host.HostFault.{HostFault}
use Rattle.pm_model.specs.Words.{reads, HasOnly, after_fence}
use Rattle.pm_model.specs.Moments.{State}
use Rattle.pm_model.specs.Calls.{Steps}
use Rattle.pm_model.specs.Changes.{Write, Changes}
use Rattle.pm_model.proofs.Words.{HasOnly-fenced}
use Rattle.pm_model.proofs.Changes.{Changes-then, Changes-fence, Changes-wider}
use Rattle.pud_defs.specs.Formats.Image.{Image}
use Rattle.pud_defs.specs.Logging.Entries.{Entry, Log, log_of, entry_words}
use Rattle.pud_defs.specs.Logging.Replay.{AddressMap, device_word, is_in_range, undo_value}
use Rattle.log_entry.specs.Reading.{entries_left}
use Rattle.log_entry.specs.Copying.{Copied, image_of_copy, log_copied}
use Rattle.log_entry.proofs.Left.{entries_left-after_front}
use Rattle.log_replay.specs.declared.Target.{Target}
use Rattle.log_replay.specs.Placing.{placed_entry, placed_log, AreWithinDevice}
use Rattle.log_replay.specs.Replaying.{address_map_of, old_values, NamesApart, AreApart, IsReplayable, IsPlacedCopy, Named, AppliesEntries, Undoes}
use Rattle.log_replay.proofs.Placed.{placed-counts, placed-out, undone_same, all_within, log_to-placed}

-- ---- in the copy

-- In the copy each entry takes as many words as in the log.
vals_placed : (place : AddressMap) (log : Log) (e : Entry) → length (placed_entry place log e).vals ≡ length e.vals
vals_placed place log e = elim (cases_Bool (is_in_range log e)) [
  | inl counts ↦ ap (λ (x : Entry). length x.vals) (placed-counts place log e counts)
  | inr out ↦ ap (λ (x : Entry). length x.vals) (placed-out place log e out)
]

words_placed : (place : AddressMap) (log : Log) (es : List Entry) → entry_words (map (placed_entry place log) es) ≡ entry_words es
words_placed place log [] = refl
words_placed place log (e ∷ es) = let here = vals_placed place log e in let rest = words_placed place log es in omega (arith, here, rest)

-- What is true of all entries is true of the later ones.
pub All-back : (P : Entry → Type 0) (front back : List Entry) → All P (front ++ back) → All P back
All-back P [] back all = all
All-back P (e ∷ front) back all = All-back P front back (All-tail P e (front ++ back) all)

-- After so many words of the copy these entries are left to read. Those in range name words of the device. They give
-- the old values that the last entries of the log give.
pub record IsSplitCopy (to : Target) (size at passed : ℕ) (back : List Entry) (image : Image) (copy : Copied) : Type 0 where
  pub es : List Entry
  pub left : entries_left (image_of_copy copy) (record { log_at = 0; passed = passed }) ≡ Some es
  pub within : AreWithinDevice size (log_copied copy) es
  pub gives : (w : ℕ) → old_values to at back image w ≡ undo_value device_word (log_copied copy) es w

pub split_copy : (to : Target) (size at passed : ℕ) (front back : List Entry) (image : Image) (copy : Copied) → IsReplayable (address_map_of to image) size at (front ++ back) image → entry_words front ≡ passed
    → IsPlacedCopy to at image copy → IsSplitCopy to size at passed back image copy
split_copy to size at passed front back image copy r ends placed =
    let place = address_map_of to image in
    let log = log_of image at in
    let first = map (placed_entry place log) front in
    let later = map (placed_entry place log) back in
    let apart : AreApart place size at log back = All-back (λ e. IsTrue (is_in_range log e) → NamesApart place size at e) front back r.apart in
    let is : log_copied copy ≡ placed_log place log = placed.log ∙ log_to-placed to image log in
    let are : (log_copied copy).entries ≡ Some (first ++ later) =
    ap (λ (l : Log). l.entries) is ∙ ap (option_map (map (placed_entry place log))) r.spells ∙ ap Some (map-append (placed_entry place log) front back) in
    record {
      es = later;
      left = entries_left-after_front (image_of_copy copy) 0 passed (record { log_at = 0; passed = passed }) first later refl are (words_placed place log front ∙ ends);
      within = subst (λ (l : Log). AreWithinDevice size l later) (sym is) (all_within place size at log back apart);
      gives = λ w. sym (undone_same place size at log back w apart) ∙ ap (λ (l : Log). undo_value device_word l later w) (sym is);
    }

-- ---- on the device

-- A fault came before all words were overwritten.
pub Undoes-failed : (write : Write) (fault : HostFault) (s t : State) → Changes (Named write) (Some fault) s t → Undoes write (Some fault) s t
Undoes-failed write fault s t changes =
    record {
      changes = changes;
      durable = λ e. absurd (let it : None ≡ Some fault = sym e in cc);
      reads_so = λ e. absurd (let it : None ≡ Some fault = sym e in cc);
    }

by_value : (image was : ℕ) (o : Option ℕ) → ((v : ℕ) → o ≡ Some v → image ≡ v) → (o ≡ None → image ≡ was) → image ≡ unwrap_or o was
by_value image was None some none = none refl
by_value image was (Some v) some none = some v refl

-- All words were overwritten, and then a fence came.
pub Undoes-fence : (write : Write) (fault : Option HostFault) (s t u : State) → AppliesEntries write None s t → Steps after_fence fault t u → Undoes write fault s u
Undoes-fence write fault s t u a step =
    record {
      changes = Changes-then (Named write) fault s t u a.changes (Changes-fence (Named write) fault t u step);
      durable = λ e k v is. subst (λ (x : State). HasOnly (x.now.words k) v) (sym (step.done e)) (HasOnly-fenced (t.now.words k) v (a.newest refl k v is) (a.marked refl k v is));
      reads_so = λ e k.
          ap (λ (x : State). reads x.now.words k) (step.done e)
          ∙ by_value (reads t.now.words k) (reads s.now.words k) (write k) (a.newest refl k)
          (λ none. (a.changes.keeps (λ cut. cc) k (λ v named. absurd (let it : None ≡ Some named.value = sym none ∙ named.is in cc))).newest);
    }

pub Undoes-same : (f g : Write) (fault : Option HostFault) (s t : State) → ((w : ℕ) → g w ≡ f w) → Undoes f fault s t → Undoes g fault s t
Undoes-same f g fault s t same u =
    record {
      changes = Changes-wider (Named f) (Named g) fault s t (λ k v named. record { value = named.value; is = same k ∙ named.is }) u.changes;
      durable = λ e k v is. u.durable e k v (sym (same k) ∙ is);
      reads_so = λ e k. u.reads_so e k ∙ ap (λ (o : Option ℕ). unwrap_or o (reads s.now.words k)) (sym (same k));
    }
