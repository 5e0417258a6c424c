-- What the entries of a batch write, and what a log that counts them gives.
use Rattle.std.proofs.Common.{◌≡◌, inl, inr, ℕ, Bool, true, false, ◌&&◌, ltb, eqb, List, [], ◌∷◌, ◌++◌, Option, None, refl, sym, ap, ap₂, ◌∙◌}
use Rattle.std.specs.Prelude.{All, unwrap_or}
use Rattle.std.specs.Option.{option_or}
use Rattle.std.proofs.lemmas.Bool.{and_from, cond-true, cond-false, cases_Bool, eq-eqb}
use Rattle.std.proofs.lemmas.List.Elements.{All-head, All-tail}
use Rattle.pud_defs.specs.declared.log_words.TheConstants.{UNDO_ORDER, REDO_ORDER, COMMITTING_LO, COMMITTING_HI}
use Rattle.pud_defs.specs.Formats.Image.{Image}
use Rattle.pud_defs.specs.Logging.Entries.{Entry, Log, log_of, is_idle_gate}
use Rattle.pud_defs.specs.Logging.Replay.{device_word, value_at, is_in_range, given_by, undo_value, redo_value, new_value, overwritten, replayed, IsInLog, is_in_log, settled_by}
use Rattle.pud_defs.proofs.Logging.Replay.{or_none, or_assoc, undo_value-first, redo_value-first, undo_value-none, redo_value-none, new_value-of, settled_by-inside, settled_by-outside, settled_by-idle, within_log}
use Rattle.log_replay.specs.Replaying.{NamesApart}
use Rattle.log_replay.proofs.Left.{value_from-apart}
use Rattle.batch.specs.Batches.{batch_write, committed, IsBatchEntry, AreBatched}

-- ---- what a committed log gives is what its entries write

-- The entries of a batch are in the range that counts them.
pub counts : (es : List Entry) (e : Entry) → IsBatchEntry e → is_in_range (committed es) e ≡ true
counts es e b = ap (λ (n : ℕ). ltb COMMITTING_LO n && ltb n COMMITTING_HI) b.seq

redo_given : (es : List Entry) (e : Entry) (k : ℕ) → IsBatchEntry e → given_by device_word (committed es) REDO_ORDER e k ≡ value_at e.address e.vals k
redo_given es e k b = cond-true _ _ _ (and_from (is_in_range (committed es) e) (eqb e.order REDO_ORDER) (counts es e b) (eq-eqb e.order REDO_ORDER b.order))

undo_given : (es : List Entry) (e : Entry) (k : ℕ) → IsBatchEntry e → given_by device_word (committed es) UNDO_ORDER e k ≡ None
undo_given es e k b =
    let other : (is_in_range (committed es) e && eqb e.order UNDO_ORDER) ≡ false = ap₂ (λ (x : Bool) (n : ℕ). x && eqb n UNDO_ORDER) (counts es e b) b.order in
    cond-false _ _ _ other

redone_written : (log : List Entry) (es : List Entry) (k : ℕ) → AreBatched es → redo_value device_word (committed log) es k ≡ batch_write es k
unfolding batch_write
redone_written log [] k b = redo_value-none device_word (committed log) k
redone_written log (e ∷ es) k b =
    redo_value-first device_word (committed log) e es k
    ∙ ap₂ option_or (redone_written log es k (All-tail IsBatchEntry e es b)) (redo_given log e k (All-head IsBatchEntry e es b))

undone_nothing : (log : List Entry) (es : List Entry) (k : ℕ) → AreBatched es → undo_value device_word (committed log) es k ≡ None
undone_nothing log [] k b = undo_value-none device_word (committed log) k
undone_nothing log (e ∷ es) k b =
    undo_value-first device_word (committed log) e es k
    ∙ ap₂ option_or (undo_given log e k (All-head IsBatchEntry e es b)) (undone_nothing log es k (All-tail IsBatchEntry e es b))

pub new_value-committed : (es : List Entry) (k : ℕ) → AreBatched es → new_value device_word (committed es) k ≡ batch_write es k
new_value-committed es k b =
    new_value-of device_word (committed es) es k refl
    ∙ ap₂ option_or (redone_written es es k b) (undone_nothing es es k b)
    ∙ sym (or_none (batch_write es k))

-- If other entries come after some, the other ones count.
pub batch_write-append : (xs ys : List Entry) (k : ℕ) → batch_write (xs ++ ys) k ≡ option_or (batch_write ys k) (batch_write xs k)
unfolding batch_write
batch_write-append [] ys k = or_none (batch_write ys k)
batch_write-append (e ∷ xs) ys k = ap (λ (o : Option ℕ). option_or o (value_at e.address e.vals k)) (batch_write-append xs ys k) ∙ sym (or_assoc (batch_write ys k) (batch_write xs k) (value_at e.address e.vals k))

-- One entry writes what it gives.
pub batch_write-single : (e : Entry) (k : ℕ) → batch_write (e ∷ []) k ≡ value_at e.address e.vals k
unfolding batch_write
batch_write-single e k = refl

-- ---- the words of a batch lie apart from the log

pub batch_write-apart : (es : List Entry) (size at k : ℕ) → All (NamesApart device_word size at) es → IsInLog at k → batch_write es k ≡ None
unfolding batch_write
batch_write-apart [] size at k apart inside = refl
batch_write-apart (e ∷ es) size at k apart inside =
    ap₂ option_or (batch_write-apart es size at k (All-tail (NamesApart device_word size at) e es apart) inside)
    (value_from-apart size at k device_word e (All-head (NamesApart device_word size at) e es apart) inside)

-- ---- a log that counts nothing

-- Images whose logs count nothing, and that are the same outside the log, are the same with the log replayed.
pub settled_by-idle_same : (at : ℕ) (i j : Image) → is_idle_gate (i at) ≡ true → is_idle_gate (j at) ≡ true → ((w : ℕ) → is_in_log at w ≡ false → i w ≡ j w) → settled_by at i ≡ settled_by at j
settled_by-idle_same at i j idle_i idle_j same =
    let each : (w : ℕ) → settled_by at i w ≡ settled_by at j w = λ w. elim (cases_Bool (is_in_log at w)) [
      | inl inside ↦ settled_by-inside at i w inside ∙ sym (settled_by-inside at j w inside)
      | inr outside ↦ settled_by-idle at i w idle_i outside ∙ same w outside ∙ sym (settled_by-idle at j w idle_j outside)
    ] in
    λ p w. each w p

-- ---- a committed log

-- With a committed log replayed the batch's words are written over those of the image.
pub settled_by-committed : (size at : ℕ) (es : List Entry) (i j : Image) → AreBatched es → All (NamesApart device_word size at) es → log_of i at ≡ committed es → is_idle_gate (j at) ≡ true
    → ((w : ℕ) → is_in_log at w ≡ false → i w ≡ j w) → settled_by at i ≡ overwritten (batch_write es) (settled_by at j)
settled_by-committed size at es i j batched apart log idle same =
    let write = batch_write es in
    let each : (w : ℕ) → settled_by at i w ≡ overwritten write (settled_by at j) w = λ w. elim (cases_Bool (is_in_log at w)) [
      | inl inside ↦
          settled_by-inside at i w inside ∙ sym (settled_by-inside at j w inside)
          ∙ ap (λ (o : Option ℕ). unwrap_or o (settled_by at j w)) (sym (batch_write-apart es size at w apart (within_log at w inside)))
      | inr outside ↦
          settled_by-outside at i w outside
          ∙ ap (λ (l : Log). replayed device_word l i w) log
          ∙ ap₂ unwrap_or (new_value-committed es w batched) (same w outside ∙ sym (settled_by-idle at j w idle outside))
    ] in
    λ p w. each w p
