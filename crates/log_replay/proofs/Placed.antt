-- A log in which device words replace the addresses gives the same values.
use Rattle.std.proofs.Common.{◌≡◌, inl, inr, ℕ, ◌&&◌, eqb, true, false, cond, List, [], ◌∷◌, map, Option, Some, None, option_map, IsTrue, refl, sym, ap, ap₂, subst, ◌∙◌}
use Rattle.std.specs.Option.{option_or}
use Rattle.std.proofs.lemmas.Bool.{cases_Bool, cond-true, cond-false}
use Rattle.std.proofs.lemmas.List.Elements.{All-head, All-tail, All-nil, All-cons}
use Rattle.pud_defs.specs.Formats.Image.{Image}
use Rattle.pud_defs.specs.Logging.Entries.{Entry, Log, log_of}
use Rattle.pud_defs.specs.Logging.Replay.{AddressMap, device_word, is_in_range, value_from, given_by, given, undo_value, redo_value, new_value}
use Rattle.pud_defs.proofs.Logging.Replay.{given_by-out, undo_value-first, undo_value-none, redo_value-first, redo_value-none, new_value-of}
use Rattle.log_entry.specs.Copying.{Copied, log_copied, with_address}
use Rattle.log_replay.specs.declared.Target.{Target}
use Rattle.log_replay.specs.declared.Target.TheVariants as targets
use Rattle.log_replay.specs.Placing.{word_or_none, placed_entry, placed_log, IsWithinDevice, AreWithinDevice}
use Rattle.log_replay.specs.Replaying.{address_map_of, log_to, NamesApart, AreApart, IsReplayable, IsPlacedCopy, new_values}

-- ---- one entry

pub placed-counts : (place : AddressMap) (log : Log) (e : Entry) → is_in_range log e ≡ true → placed_entry place log e ≡ with_address (word_or_none (place e.address)) e
unfolding placed_entry
placed-counts place log e counts = cond-true _ _ _ counts

pub placed-out : (place : AddressMap) (log : Log) (e : Entry) → is_in_range log e ≡ false → placed_entry place log e ≡ e
unfolding placed_entry
placed-out place log e out = cond-false _ _ _ out

-- If the addresses are device words already, an entry does not change.
placed-words : (log : Log) (e : Entry) → placed_entry device_word log e ≡ e
placed-words log e = elim (cases_Bool (is_in_range log e)) [
  | inl counts ↦ placed-counts device_word log e counts
  | inr out ↦ placed-out device_word log e out
]

all_placed-words : (log : Log) (es : List Entry) → map (placed_entry device_word log) es ≡ es
all_placed-words log [] = refl
all_placed-words log (e ∷ es) = ap₂ (λ x xs. x ∷ xs) (placed-words log e) (all_placed-words log es)

entries_placed-words : (log : Log) (o : Option (List Entry)) → o ≡ option_map (map (placed_entry device_word log)) o
entries_placed-words log None = refl
entries_placed-words log (Some es) = ap Some (sym (all_placed-words log es))

placed_log-words : (log : Log) → log ≡ placed_log device_word log
placed_log-words log = λ p. record { lo = log.lo; hi = log.hi; entries = entries_placed-words log log.entries p }

pub log_to-placed : (to : Target) (image : Image) (log : Log) → log_to to image log ≡ placed_log (address_map_of to image) log
log_to-placed targets.Words image log = placed_log-words log
log_to-placed (targets.Puddles F) image log = refl

module _ (place : AddressMap) (size at : ℕ) (log : Log) where
  abbrev f : Entry → Entry
  f = placed_entry place log

  abbrev Apart : Entry → Type 0
  Apart e = IsTrue (is_in_range log e) → NamesApart place size at e

  abbrev Within : Entry → Type 0
  Within e = IsTrue (is_in_range log e) → IsWithinDevice size e

  names_first : (e : Entry) (names : NamesApart place size at e) → is_in_range log e ≡ true → f e ≡ with_address names.first e
  names_first e names counts = placed-counts place log e counts ∙ ap (λ (o : Option ℕ). with_address (word_or_none o) e) names.placed

  given_placed : (order : ℕ) (e : Entry) (w : ℕ) → Apart e → given_by device_word log order (f e) w ≡ given_by place log order e w
  given_placed order e w apart = elim (cases_Bool (is_in_range log e)) [
    | inl counts ↦
        let names = apart counts in
        ap (λ (x : Entry). given_by device_word log order x w) (names_first e names counts)
        ∙ ap (λ (o : Option ℕ). cond (is_in_range log e && eqb e.order order) (value_from o e.vals w) None) (sym names.placed)
    | inr out ↦ ap (λ (x : Entry). given_by device_word log order x w) (placed-out place log e out) ∙ given_by-out device_word log order e w out ∙ sym (given_by-out place log order e w out)
  ]

  within_placed : (e : Entry) → Apart e → Within (f e)
  within_placed e apart = elim (cases_Bool (is_in_range log e)) [
    | inl counts ↦ let names = apart counts in subst Within (sym (names_first e names counts)) (λ in_range. names.within)
    | inr out ↦ subst Within (sym (placed-out place log e out)) (λ in_range. absurd (let it : false ≡ true = sym out ∙ in_range in cc))
  ]

  undone_placed : (es : List Entry) (w : ℕ) → AreApart place size at log es → undo_value device_word log (map f es) w ≡ undo_value place log es w
  undone_placed [] w apart = undo_value-none device_word log w ∙ sym (undo_value-none place log w)
  undone_placed (e ∷ es) w apart =
      undo_value-first device_word log (f e) (map f es) w
      ∙ ap₂ option_or (given_placed _ e w (All-head Apart e es apart)) (undone_placed es w (All-tail Apart e es apart))
      ∙ sym (undo_value-first place log e es w)

  redone_placed : (es : List Entry) (w : ℕ) → AreApart place size at log es → redo_value device_word log (map f es) w ≡ redo_value place log es w
  redone_placed [] w apart = redo_value-none device_word log w ∙ sym (redo_value-none place log w)
  redone_placed (e ∷ es) w apart =
      redo_value-first device_word log (f e) (map f es) w
      ∙ ap₂ option_or (redone_placed es w (All-tail Apart e es apart)) (given_placed _ e w (All-head Apart e es apart))
      ∙ sym (redo_value-first place log e es w)

  pub undone_same : (es : List Entry) (w : ℕ) → AreApart place size at log es → undo_value device_word (placed_log place log) (map f es) w ≡ undo_value place log es w
  unfolding undo_value
  undone_same es w apart = undone_placed es w apart

  given_same : (es : List Entry) (w : ℕ) → AreApart place size at log es → given device_word (placed_log place log) (map f es) w ≡ given place log es w
  unfolding undo_value redo_value
  given_same es w apart = ap₂ option_or (redone_placed es w apart) (undone_placed es w apart)

  pub all_within : (es : List Entry) → AreApart place size at log es → AreWithinDevice size log (map f es)
  all_within [] apart = All-nil Within
  all_within (e ∷ es) apart = All-cons Within (f e) (map f es) (within_placed e (All-head Apart e es apart)) (all_within es (All-tail Apart e es apart))

-- ---- the copy of a log that may be replayed

-- The copy has these entries. Those in range name words of the device. The copy gives the values that the log gives.
pub record IsReplayableCopy (to : Target) (size at : ℕ) (image : Image) (copy : Copied) : Type 0 where
  pub es : List Entry
  pub are : (log_copied copy).entries ≡ Some es
  pub within : AreWithinDevice size (log_copied copy) es
  pub gives : (w : ℕ) → new_values to at image w ≡ new_value device_word (log_copied copy) w

pub replayable_copy : (to : Target) (size at : ℕ) (es : List Entry) (image : Image) (copy : Copied) → IsReplayable (address_map_of to image) size at es image → IsPlacedCopy to at image copy
    → IsReplayableCopy to size at image copy
replayable_copy to size at es image copy r placed =
    let place = address_map_of to image in
    let log = log_of image at in
    let placed_es = map (placed_entry place log) es in
    let are : (placed_log place log).entries ≡ Some placed_es = ap (option_map (map (placed_entry place log))) r.spells in
    let is : log_copied copy ≡ placed_log place log = placed.log ∙ log_to-placed to image log in
    record {
      es = placed_es;
      are = ap (λ (l : Log). l.entries) is ∙ are;
      within = subst (λ (l : Log). AreWithinDevice size l placed_es) (sym is) (all_within place size at log es r.apart);
      gives = λ w.
          new_value-of place log es w r.spells
          ∙ sym (given_same place size at log es w r.apart)
          ∙ sym (new_value-of device_word (placed_log place log) placed_es w are)
          ∙ ap (λ (l : Log). new_value device_word l w) (sym is);
    }
