-- What the entries of a log give to words, and what the entries give that are left to read from a copy.
use Rattle.std.proofs.Common.{◌≡◌, inl, inr, ⊎_elim, ℕ, ◌&&◌, eqb, List, [], ◌∷◌, get_or, Option, Some, None, IsTrue, refl, ap, ap₂, subst, ◌∙◌, arith}
use Rattle.std.specs.Prelude.{All}
use Rattle.std.specs.Option.{option_or}
use Rattle.std.proofs.lemmas.Bool.{and_parts, cond-true, cond-false, cases_Bool}
use Rattle.std.proofs.lemmas.List.Elements.{All-head, All-tail}
use Rattle.pud_defs.specs.declared.log_words.TheConstants.{UNDO_ORDER, REDO_ORDER}
use Rattle.pud_defs.specs.Formats.Image.{Image}
use Rattle.pud_defs.specs.Logging.Entries.{Entry, Log}
use Rattle.pud_defs.specs.Logging.Replay.{AddressMap, device_word, is_in_range, value_from, value_in, given_by, undo_value, redo_value, over, IsInLog}
use Rattle.pud_defs.proofs.Logging.Replay.{value_at-apart, undo_value-first, undo_value-none, redo_value-first, redo_value-none}
use Rattle.log_entry.specs.declared.Entry.{Entry as Found}
use Rattle.log_entry.specs.Reading.{Reading, entries_left, entry_from, left_before}
use Rattle.log_entry.proofs.Left.{taken, none_left}
use Rattle.log_replay.specs.Placing.{IsWithinDevice, AreWithinDevice}
use Rattle.log_replay.specs.declared.Target.{Target}
use Rattle.log_replay.specs.Replaying.{address_map_of, IsPlacing, NamesApart, AreApart}
use Rattle.log_replay.proofs.Places.{place_above}

-- ---- entries give nothing to a word that none of those in range names

given_by-nothing : (place : AddressMap) (log : Log) (order : ℕ) (e : Entry) (k : ℕ) → (IsTrue (is_in_range log e) → value_in place e k ≡ None) → given_by place log order e k ≡ None
given_by-nothing place log order e k none =
    elim (cases_Bool (is_in_range log e && eqb e.order order)) [
      | inr other ↦ cond-false _ _ _ other
      | inl counts ↦ cond-true _ _ _ counts ∙ none ((and_parts (is_in_range log e) (eqb e.order order) counts).0)
    ]

undo_value-nothing : (place : AddressMap) (log : Log) (es : List Entry) (k : ℕ) → All (λ e. IsTrue (is_in_range log e) → value_in place e k ≡ None) es → undo_value place log es k ≡ None
undo_value-nothing place log [] k none = undo_value-none place log k
undo_value-nothing place log (e ∷ es) k none =
    undo_value-first place log e es k
    ∙ ap₂ option_or (given_by-nothing place log UNDO_ORDER e k (All-head (λ x. IsTrue (is_in_range log x) → value_in place x k ≡ None) e es none))
    (undo_value-nothing place log es k (All-tail (λ x. IsTrue (is_in_range log x) → value_in place x k ≡ None) e es none))

redo_value-nothing : (place : AddressMap) (log : Log) (es : List Entry) (k : ℕ) → All (λ e. IsTrue (is_in_range log e) → value_in place e k ≡ None) es → redo_value place log es k ≡ None
redo_value-nothing place log [] k none = redo_value-none place log k
redo_value-nothing place log (e ∷ es) k none =
    redo_value-first place log e es k
    ∙ ap₂ option_or (redo_value-nothing place log es k (All-tail (λ x. IsTrue (is_in_range log x) → value_in place x k ≡ None) e es none))
    (given_by-nothing place log REDO_ORDER e k (All-head (λ x. IsTrue (is_in_range log x) → value_in place x k ≡ None) e es none))

-- ---- they give nothing to the words of their log

pub value_from-apart : (size at k : ℕ) (place : AddressMap) (e : Entry) → NamesApart place size at e → IsInLog at k → value_from (place e.address) e.vals k ≡ None
value_from-apart size at k place e names inside =
    ap (λ (o : Option ℕ). value_from o e.vals k) names.placed
    ∙ value_at-apart names.first k e.vals (⊎_elim (λ before. inr (omega arith)) (λ following. inl (omega arith)) names.apart)

pub undo_value-apart : (place : AddressMap) (size at : ℕ) (log : Log) (es : List Entry) → AreApart place size at log es → (k : ℕ) → IsInLog at k → undo_value place log es k ≡ None
undo_value-apart place size at log es apart k inside = undo_value-nothing place log es k (λ n d below within. value_from-apart size at k place (get_or es n d) (apart n d below within) inside)

pub redo_value-apart : (place : AddressMap) (size at : ℕ) (log : Log) (es : List Entry) → AreApart place size at log es → (k : ℕ) → IsInLog at k → redo_value place log es k ≡ None
redo_value-apart place size at log es apart k inside = redo_value-nothing place log es k (λ n d below within. value_from-apart size at k place (get_or es n d) (apart n d below within) inside)

-- ---- nor to those from which the address map is read

module _ (to : Target) (image : Image) (place : AddressMap) (same : address_map_of to image ≡ place) (log : Log) (k : ℕ) (placing : IsPlacing to k) where
  value_in-unplaced : (e : Entry) (o : Option ℕ) → place e.address ≡ o → value_from o e.vals k ≡ None
  value_in-unplaced e None there = refl
  value_in-unplaced e (Some w) there = value_at-apart w k e.vals (inl (place_above to image place same k placing e.address w there))

  pub undone-unplaced : (es : List Entry) → undo_value place log es k ≡ None
  undone-unplaced es = undo_value-nothing place log es k (λ n d below within. value_in-unplaced (get_or es n d) (place (get_or es n d).address) refl)

  pub redo_value-unplaced : (es : List Entry) → redo_value place log es k ≡ None
  redo_value-unplaced es = redo_value-nothing place log es k (λ n d below within. value_in-unplaced (get_or es n d) (place (get_or es n d).address) refl)

-- ---- one entry of a copy is read

-- The entry that was found is the first of those left, and the others follow it. Those in range name words of the
-- device.
pub record IsFirst (size : ℕ) (log : Log) (image : Image) (entry : Found) (now : Reading) (es : List Entry) : Type 0 where
  pub following : List Entry
  pub is : es ≡ entry_from image entry ∷ following
  pub left : entries_left image now ≡ Some following
  pub within : IsTrue (is_in_range log (entry_from image entry)) → IsWithinDevice size (entry_from image entry)
  pub others : AreWithinDevice size log following

pub is_first : (size : ℕ) (log : Log) (image : Image) (found : Option Found) (entry : Found) (old now : Reading) (es : List Entry) → found ≡ Some entry → entries_left image old ≡ left_before image found now
    → entries_left image old ≡ Some es → AreWithinDevice size log es → IsFirst size log image entry now es
is_first size log image found entry old now es some before left within =
    let next = taken image found entry old now es some before left in
    let all = subst (AreWithinDevice size log) next.is within in
    record {
      following = next.following;
      is = next.is;
      left = next.left;
      within = All-head (λ x. IsTrue (is_in_range log x) → IsWithinDevice size x) (entry_from image entry) next.following all;
      others = All-tail (λ x. IsTrue (is_in_range log x) → IsWithinDevice size x) (entry_from image entry) next.following all;
    }

-- ---- what the entries left give, by the one that is read

module _ (size : ℕ) (log : Log) (image : Image) (entry : Found) (now : Reading) (es : List Entry) (f : IsFirst size log image entry now es) where
  pub undone-found : (w : ℕ) → undo_value device_word log es w ≡ over (undo_value device_word log f.following) (given_by device_word log UNDO_ORDER (entry_from image entry)) w
  undone-found w = ap (λ (fs : List Entry). undo_value device_word log fs w) f.is ∙ undo_value-first device_word log (entry_from image entry) f.following w

  pub redo_value-found : (w : ℕ) → redo_value device_word log es w ≡ over (given_by device_word log REDO_ORDER (entry_from image entry)) (redo_value device_word log f.following) w
  redo_value-found w = ap (λ (fs : List Entry). redo_value device_word log fs w) f.is ∙ redo_value-first device_word log (entry_from image entry) f.following w

pub undo_value-end : (log : Log) (old now : Reading) (found : Option Found) (es : List Entry) (image : Image) → found ≡ None → entries_left image old ≡ left_before image found now
    → entries_left image old ≡ Some es → (w : ℕ) → undo_value device_word log es w ≡ None
undo_value-end log old now found es image none before left w = ap (λ (fs : List Entry). undo_value device_word log fs w) (none_left image found old now es none before left) ∙ undo_value-none device_word log w

pub redo_value-end : (log : Log) (old now : Reading) (found : Option Found) (es : List Entry) (image : Image) → found ≡ None → entries_left image old ≡ left_before image found now
    → entries_left image old ≡ Some es → (w : ℕ) → redo_value device_word log es w ≡ None
redo_value-end log old now found es image none before left w = ap (λ (fs : List Entry). redo_value device_word log fs w) (none_left image found old now es none before left) ∙ redo_value-none device_word log w
