-- What follows if a client's log is registered and allowed.
use Rattle.std.proofs.Common.{◌≡◌, ℕ, zero, suc, ◌+◌, ◌<◌, ◌≤◌, Bool, true, false, not, ◌||◌, List, [], ◌∷◌, length, Option, Some, None, refl, sym, ap, ap₂, ◌∙◌, arith, leb-true}
use Rattle.std.specs.Prelude.{All, option_map, nat_le}
use Rattle.std.specs.List.{list_all, list_any}
use Rattle.std.specs.Option.{option_or}
use Rattle.std.proofs.lemmas.Bool.{and_parts, cond-true, cond-false, or_parts}
use Rattle.std.proofs.lemmas.Option.{none-some}
use Rattle.std.proofs.lemmas.List.Elements.{All-nil, All-cons}
use Rattle.pud_defs.specs.declared.layout.TheConstants.{FRAME_WORDS}
use Rattle.pud_defs.specs.Logging.Entries.{Entry, Log}
use Rattle.pud_defs.specs.Logging.Replay.{AddressMap, is_in_range, entries_or_none, undo_value, redo_value, new_value}
use Rattle.pud_defs.specs.RegistryTables.Spaces.{Owner}
use Rattle.pud_defs.specs.Formats.Frames.{frame_at}
use Rattle.pud_defs.specs.RegistryTables.Puddles.{Member}
use Rattle.pud_defs.specs.RegistryTables.Places.{word_in, first_some, place_in_puddle, located}
use Rattle.pud_defs.specs.RegistryTables.Tables.{Tables}
use Rattle.pud_defs.specs.Logging.Allowed.{puddle_word, may_write_puddle, are_writable, is_allowed_entry, are_allowed_entries, is_allowed_log, is_refused, is_accepted, counts_any}
use Rattle.pud_defs.specs.Logging.Settled.{gives_to}
use Rattle.pud_defs.proofs.Logging.Replay.{given_by-out, undo_value-first, redo_value-first, undo_value-none, redo_value-none}
use Rattle.pud_defs.proofs.Logging.Settled.{gives_nothing}

-- ---- accepted, refused, or neither

pub gives_to-accepted : (t : Tables) (who : Option Owner) (log : Log) (w : ℕ) → is_accepted t who log ≡ true → gives_to t who log w ≡ new_value (puddle_word t) log w
unfolding gives_to
gives_to-accepted t None log w accepted = absurd (let it : false ≡ true = accepted in cc)
gives_to-accepted t (Some who) log w accepted = cond-true (is_allowed_log t who log) _ None accepted

pub gives_to-not_accepted : (t : Tables) (who : Option Owner) (log : Log) (w : ℕ) → is_accepted t who log ≡ false → gives_to t who log w ≡ None
unfolding gives_to
gives_to-not_accepted t None log w other = refl
gives_to-not_accepted t (Some who) log w other = cond-false (is_allowed_log t who log) _ None other

pub accepted_not_refused : (t : Tables) (who : Option Owner) (log : Log) → is_accepted t who log ≡ true → is_refused t who log ≡ false
accepted_not_refused t None log accepted = refl
accepted_not_refused t (Some who) log accepted = ap not accepted

-- ---- a log none of whose entries counts

undo_value-none_counts : (place : AddressMap) (log : Log) (es : List Entry) (w : ℕ) → list_any (is_in_range log) es ≡ false → undo_value place log es w ≡ None
undo_value-none_counts place log [] w none = undo_value-none place log w
undo_value-none_counts place log (e ∷ es) w none =
    let parts = or_parts (is_in_range log e) (list_any (is_in_range log) es) none in
    undo_value-first place log e es w ∙ ap₂ option_or (given_by-out place log _ e w parts.0) (undo_value-none_counts place log es w parts.1)

redo_value-none_counts : (place : AddressMap) (log : Log) (es : List Entry) (w : ℕ) → list_any (is_in_range log) es ≡ false → redo_value place log es w ≡ None
redo_value-none_counts place log [] w none = redo_value-none place log w
redo_value-none_counts place log (e ∷ es) w none =
    let parts = or_parts (is_in_range log e) (list_any (is_in_range log) es) none in
    redo_value-first place log e es w ∙ ap₂ option_or (redo_value-none_counts place log es w parts.1) (given_by-out place log _ e w parts.0)

-- such a log gives no word a value
pub new_value-none_counts : (place : AddressMap) (log : Log) (w : ℕ) → counts_any log ≡ false → new_value place log w ≡ None
unfolding new_value
new_value-none_counts place log w none = ap₂ option_or (redo_value-none_counts place log (entries_or_none log.entries) w none) (undo_value-none_counts place log (entries_or_none log.entries) w none)

pub gives_to-none_counts : (t : Tables) (who : Option Owner) (log : Log) (w : ℕ) → counts_any log ≡ false → gives_to t who log w ≡ None
unfolding gives_to
gives_to-none_counts t None log w none = refl
gives_to-none_counts t (Some who) log w none = gives_nothing (is_allowed_log t who log) _ (new_value-none_counts (puddle_word t) log w none)

-- ---- the words of an allowed entry

of_word : (frame : ℕ) (o : Option ℕ) (at : ℕ × ℕ) → option_map (λ (word : ℕ). (frame, word)) o ≡ Some at → at.0 ≡ frame
of_word frame None at is = absurd (none-some at is)
of_word frame (Some word) at is = let it : (frame, word) ≡ at = cc in sym (ap (λ (p : ℕ × ℕ). p.0) it)

frame_of_place : (address frame : ℕ) (m : Option Member) (at : ℕ × ℕ) → place_in_puddle address frame m ≡ Some at → at.0 ≡ frame
frame_of_place address frame None at is = absurd (none-some at is)
frame_of_place address frame (Some m) at is = of_word frame (word_in m.puddle.base address) at is

found_below : (t : Tables) (address from count : ℕ) (at : ℕ × ℕ) → first_some (λ frame. place_in_puddle address frame (t.puddles frame)) from count ≡ Some at → at.0 < from + count
unfolding first_some
found_below t address from zero at is = absurd (none-some at is)
found_below t address from (suc count) at is =
    elim (place_in_puddle address from (t.puddles from)) as (λ here. place_in_puddle address from (t.puddles from) ≡ here
    → option_or here (first_some (λ frame. place_in_puddle address frame (t.puddles frame)) (from + 1) count) ≡ Some at → at.0 < from + suc count) [
      | None ↦ λ none later. let below = found_below t address (from + 1) count at later in omega arith
      | Some x ↦ λ here same.
          let it : x ≡ at = cc in
          let frame = frame_of_place address from (t.puddles from) at (here ∙ ap Some it) in
          omega arith
    ] refl is

pub located_below : (t : Tables) (address : ℕ) (at : ℕ × ℕ) → located t address ≡ Some at → at.0 < t.frames
located_below t address at is = let below = found_below t address 0 t.frames at is in omega arith

-- the entry names words of one frame, as each allowed entry does
pub record NamesFrame (t : Tables) (e : Entry) : Type 0 where
  pub at : ℕ × ℕ
  pub placed : puddle_word t e.address ≡ Some (frame_at t.frames at.0 + at.1)
  pub frame : at.0 < t.frames
  pub within : at.1 + length e.vals ≤ FRAME_WORDS

writable_in_frame : (t : Tables) (who : Owner) (e : Entry) (o : Option (ℕ × ℕ)) → located t e.address ≡ o → are_writable t who (length e.vals) o ≡ true → NamesFrame t e
unfolding puddle_word
writable_in_frame t who e None is may = absurd (let it : false ≡ true = may in cc)
writable_in_frame t who e (Some at) is may =
    let parts = and_parts (nat_le (at.1 + length e.vals) FRAME_WORDS) (may_write_puddle t who (t.puddles at.0)) may in
    record {
      at = at;
      placed = ap (option_map (λ (p : ℕ × ℕ). frame_at t.frames p.0 + p.1)) is;
      frame = located_below t e.address at is;
      within = leb-true (at.1 + length e.vals) FRAME_WORDS parts.0;
    }

pub allowed_in_frame : (t : Tables) (who : Owner) (e : Entry) → is_allowed_entry t who e ≡ true → NamesFrame t e
allowed_in_frame t who e allowed =
    let parts = and_parts _ (are_writable t who (length e.vals) (located t e.address)) allowed in
    writable_in_frame t who e (located t e.address) refl parts.1

-- the entries of an accepted log; each one that counts names words of a frame
pub record HasAllowed (t : Tables) (log : Log) : Type 0 where
  pub es : List Entry
  pub are : log.entries ≡ Some es
  pub each : All (λ e. is_in_range log e ≡ true → NamesFrame t e) es

all_allowed : (t : Tables) (who : Owner) (log : Log) (es : List Entry) → list_all (λ e. not (is_in_range log e) || is_allowed_entry t who e) es ≡ true
    → All (λ e. is_in_range log e ≡ true → NamesFrame t e) es
all_allowed t who log [] all = All-nil (λ e. is_in_range log e ≡ true → NamesFrame t e)
all_allowed t who log (e ∷ es) all =
    let parts = and_parts (not (is_in_range log e) || is_allowed_entry t who e) _ all in
    All-cons (λ e. is_in_range log e ≡ true → NamesFrame t e) e es
    (λ counts. allowed_in_frame t who e (sym (ap (λ (b : Bool). not b || is_allowed_entry t who e) counts) ∙ parts.0))
    (all_allowed t who log es parts.1)

of_entries : (t : Tables) (who : Owner) (log : Log) (o : Option (List Entry)) → log.entries ≡ o → are_allowed_entries t who log o ≡ true → HasAllowed t log
of_entries t who log None is allowed = absurd (let it : false ≡ true = allowed in cc)
of_entries t who log (Some es) is allowed = record { es = es; are = is; each = all_allowed t who log es allowed }

pub accepted_entries : (t : Tables) (who : Option Owner) (log : Log) → is_accepted t who log ≡ true → HasAllowed t log
unfolding is_allowed_log
accepted_entries t None log accepted = absurd (let it : false ≡ true = accepted in cc)
accepted_entries t (Some who) log accepted = of_entries t who log log.entries refl accepted
