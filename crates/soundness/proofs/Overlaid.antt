-- A log read entry by entry: what the entries so far give to a word.
use Rattle.std.proofs.Common.{◌≡◌, ◌⊎◌, inl, inr, ℕ, zero, suc, ◌+◌, ◌-◌, ◌<◌, ◌≤◌, true, false, ◌&&◌, cond, leb, ltb, eqb, List, [], ◌∷◌, get_or, Option, Some, None, sym, ap, ap₂, ◌∙◌, arith, add-zero}
use Rattle.std.specs.Prelude.{slice_get, unwrap_or}
use Rattle.std.specs.Option.{option_or}
use Rattle.std.proofs.lemmas.Bool.{and_right, and_from, cond-true, cond-false, cases_Bool, le-leb, lt-ltb}
use Rattle.std.proofs.lemmas.Bool.Decides.{leb_tells}
use Rattle.std.proofs.lemmas.Option.{slice_get_past}
use Rattle.pud_defs.specs.declared.layout.TheConstants.{DAEMON_LOG}
use Rattle.pud_defs.specs.declared.log_words.TheConstants.{UNDO_ORDER, REDO_ORDER}
use Rattle.pud_defs.specs.Formats.Image.{Image}
use Rattle.pud_defs.specs.Logging.Entries.{Entry, Log, log_of, words_from}
use Rattle.pud_defs.specs.Logging.Replay.{device_word, is_in_range, value_in, given_by, undo_value, redo_value, is_in_log, settled_by}
use Rattle.pud_defs.proofs.Logging.Entries.{words_from-length}
use Rattle.pud_defs.proofs.Logging.Replay.{or_none, or_assoc, given_by-out, undo_value-first, undo_value-none, redo_value-first, redo_value-none, new_value-of, replayed-none, settled_by-outside}
use Rattle.log_entry.specs.declared.Entry.{Entry as Found}
use Rattle.log_entry.specs.declared.LogRange.{LogRange}
use Rattle.log_entry.specs.Ranges.{HasRange}
use Rattle.log_entry.specs.Reading.{entry_from}
use Rattle.soundness.specs.declared.overlay.Overlay.{Overlay}
use Rattle.soundness.specs.declared.overlay.Given.{Given}
use Rattle.soundness.specs.Overlaying.{IsOverlay, GivesWordMore, GivesWord}

-- ---- what one entry gives

words_from-get : (image : Image) (at n k : ℕ) → k < n → slice_get (words_from image at n) k ≡ Some (image (at + k))
unfolding words_from
words_from-get image at zero k below = absurd (omega arith)
words_from-get image at (suc n) zero below = ap (λ (j : ℕ). Some (image j)) (sym (add-zero at))
words_from-get image at (suc n) (suc k) below = let place : (at + 1) + k ≡ at + suc k = omega arith in words_from-get image (at + 1) n k (omega arith) ∙ ap (λ (j : ℕ). Some (image j)) place

pub words_from-at : (image : Image) (at n k : ℕ) → k < n → get_or (words_from image at n) k 0 ≡ image (at + k)
unfolding words_from
words_from-at image at zero k below = absurd (omega arith)
words_from-at image at (suc n) zero below = ap image (sym (add-zero at))
words_from-at image at (suc n) (suc k) below = let place : (at + 1) + k ≡ at + suc k = omega arith in words_from-at image (at + 1) n k (omega arith) ∙ ap image place

named : (image : Image) (e : Found) (w v : ℕ) → e.addr ≤ w → w < e.addr + e.n → v ≡ image (e.at + (w - e.addr)) → value_in device_word (entry_from image e) w ≡ Some v
named image e w v low high read = cond-true _ _ _ (le-leb e.addr w low) ∙ words_from-get image e.at e.n (w - e.addr) (omega arith) ∙ ap Some (sym read)

not_named : (image : Image) (e : Found) (w : ℕ) → (leb e.addr w && ltb w (e.addr + e.n)) ≡ false → value_in device_word (entry_from image e) w ≡ None
not_named image e w apart = elim (cases_Bool (leb e.addr w)) [
  | inr before ↦ cond-false _ _ _ before
  | inl low ↦
      let following : e.addr + e.n ≤ w = elim (leb_tells (e.addr + e.n) w) [
        | inl holds_so ↦ holds_so.1
        | inr less ↦ absurd (let it : true ≡ false = sym (and_from (leb e.addr w) (ltb w (e.addr + e.n)) low (lt-ltb w (e.addr + e.n) less.1)) ∙ apart in cc)
      ] in
      cond-true _ _ _ low ∙ slice_get_past (words_from image e.at e.n) (w - e.addr) (omega (arith, words_from-length image e.at e.n))
]

-- an entry that does not count, or does not name the word, gives nothing
pub gives_nothing : (log : Log) (image : Image) (e : Found) (w : ℕ) (given : Given) → (is_in_range log (entry_from image e) ≡ false) ⊎ ((leb e.addr w && ltb w (e.addr + e.n)) ≡ false)
    → GivesWordMore log (entry_from image e) w given given
gives_nothing log image e w given which =
    let none : (order : ℕ) → given_by device_word log order (entry_from image e) w ≡ None = λ order. elim which [
      | inl out ↦ given_by-out device_word log order (entry_from image e) w out
      | inr apart ↦ elim (cases_Bool (is_in_range log (entry_from image e) && eqb e.order order)) [
        | inl counts ↦ cond-true _ _ _ counts ∙ not_named image e w apart
        | inr other ↦ cond-false _ _ _ other
      ]
    ] in
    record {
      undo = or_none given.undo ∙ ap (option_or given.undo) (sym (none UNDO_ORDER));
      redo = ap (λ (x : Option ℕ). option_or x given.redo) (sym (none REDO_ORDER));
    }

-- an entry that counts and names the word gives its value by its order
given_there : (log : Log) (image : Image) (e : Found) (w v order : ℕ) → is_in_range log (entry_from image e) ≡ true → e.addr ≤ w → w < e.addr + e.n → v ≡ image (e.at + (w - e.addr))
    → cond (eqb e.order order) (Some v) None ≡ given_by device_word log order (entry_from image e) w
given_there log image e w v order counts low high read = elim (cases_Bool (eqb e.order order)) [
  | inl same ↦ cond-true _ _ _ same ∙ sym (cond-true _ _ _ (and_from (is_in_range log (entry_from image e)) (eqb e.order order) counts same) ∙ named image e w v low high read)
  | inr other ↦ cond-false _ _ _ other ∙ sym (cond-false _ _ _ (and_right (is_in_range log (entry_from image e)) (eqb e.order order) other))
]

pub gives_more : (log : Log) (image : Image) (e : Found) (w v : ℕ) (given after : Given) → is_in_range log (entry_from image e) ≡ true → e.addr ≤ w → w < e.addr + e.n
    → v ≡ image (e.at + (w - e.addr)) → after.undo ≡ option_or given.undo (cond (eqb e.order UNDO_ORDER) (Some v) None) → after.redo ≡ option_or (cond (eqb e.order REDO_ORDER) (Some v) None) given.redo
    → GivesWordMore log (entry_from image e) w given after
gives_more log image e w v given after counts low high read undo redo = record {
  undo = undo ∙ ap (option_or given.undo) (given_there log image e w v UNDO_ORDER counts low high read);
  redo = redo ∙ ap (λ (x : Option ℕ). option_or x given.redo) (given_there log image e w v REDO_ORDER counts low high read);
}

-- ---- what entries give after others

-- what is given so far, and after that by these entries
abbrev pub given_then : Log → ℕ → Given → List Entry → Given
given_then log w given es = record { undo = option_or given.undo (undo_value device_word log es w); redo = option_or (redo_value device_word log es w) given.redo }

-- one more entry
pub given_then-more : (log : Log) (e : Entry) (w : ℕ) (before after : Given) → GivesWordMore log e w before after → (es : List Entry) → given_then log w after es ≡ given_then log w before (e ∷ es)
given_then-more log e w before after more es =
    let undo : option_or after.undo (undo_value device_word log es w) ≡ option_or before.undo (undo_value device_word log (e ∷ es) w) =
    ap (λ (x : Option ℕ). option_or x (undo_value device_word log es w)) more.undo
    ∙ sym (or_assoc before.undo (given_by device_word log UNDO_ORDER e w) (undo_value device_word log es w))
    ∙ ap (option_or before.undo) (sym (undo_value-first device_word log e es w)) in
    let redo : option_or (redo_value device_word log es w) after.redo ≡ option_or (redo_value device_word log (e ∷ es) w) before.redo =
    ap (option_or (redo_value device_word log es w)) more.redo
    ∙ or_assoc (redo_value device_word log es w) (given_by device_word log REDO_ORDER e w) before.redo
    ∙ ap (λ (x : Option ℕ). option_or x before.redo) (sym (redo_value-first device_word log e es w)) in
    λ p. record { undo = undo p; redo = redo p }

-- after all entries, the result is what the log gives to the word
pub gives_all : (log : Log) (w : ℕ) (es : List Entry) (given : Given) → given_then log w given [] ≡ given_then log w (record { undo = None; redo = None }) es → GivesWord log es w given
gives_all log w es given same = record {
  undo = or_none given.undo ∙ ap (option_or given.undo) (sym (undo_value-none device_word log w)) ∙ ap (λ (x : Given). x.undo) same;
  redo = ap (λ (x : Option ℕ). option_or x given.redo) (sym (redo_value-none device_word log w)) ∙ ap (λ (x : Given). x.redo) same ∙ sym (or_none (redo_value device_word log es w));
}

-- ---- the word

-- if nothing is in range, the word has the value that is read
pub word_uncounted : (range : LogRange) (image : Image) (w v : ℕ) → HasRange range (log_of image DAEMON_LOG) → is_in_log DAEMON_LOG w ≡ false → range.hi ≤ range.lo + 1 → v ≡ image w → v ≡ settled_by DAEMON_LOG image w
word_uncounted range image w v of_log outside closed read =
    let lo = of_log.lo in
    let hi = of_log.hi in
    sym (settled_by-outside DAEMON_LOG image w outside ∙ ap (λ (i : Image). i w) (replayed-none device_word (log_of image DAEMON_LOG) image (omega arith)) ∙ sym read)

pub word_given : (o : Overlay) (image : Image) (w before v : ℕ) (given : Given) (over : IsOverlay o image) → is_in_log DAEMON_LOG w ≡ false → before ≡ image w
    → GivesWord (log_of image DAEMON_LOG) over.entries w given → v ≡ unwrap_or (option_or given.redo given.undo) before → v ≡ settled_by DAEMON_LOG image w
word_given o image w before v given over outside read gives is =
    is
    ∙ ap₂ (λ (x : Option ℕ) (b : ℕ). unwrap_or x b)
    (ap₂ option_or gives.redo gives.undo ∙ sym (new_value-of device_word (log_of image DAEMON_LOG) over.entries w over.are)) read
    ∙ sym (settled_by-outside DAEMON_LOG image w outside)
