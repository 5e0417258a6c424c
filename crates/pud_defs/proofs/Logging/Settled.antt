-- The image that a start leaves: what one log gives, what all logs give in turn, and one log beside the others.
use Rattle.std.proofs.Common.{◌≡◌, inl, inr, ℕ, zero, suc, ◌+◌, ◌<◌, ◌≤◌, Bool, true, false, cond, eqb, leb, ltb, List, Option, Some, None, option_map, refl, sym, ap, ap₂, ◌∙◌, arith, eq-eqb, ne_eqb}
use Rattle.std.specs.Prelude.{unwrap_or}
use Rattle.std.specs.Option.{option_or}
use Rattle.std.proofs.lemmas.Bool.{cases_eq, cond-true, cond-false, and_left, lt-leb}
use Rattle.pud_defs.specs.Formats.Image.{Image}
use Rattle.pud_defs.specs.Formats.Layout.{tables_end, frames_at}
use Rattle.pud_defs.specs.Formats.Frames.{frame_at}
use Rattle.pud_defs.specs.RegistryTables.Places.{located}
use Rattle.pud_defs.specs.Logging.Entries.{Entry, Log, log_of}
use Rattle.pud_defs.specs.Logging.Replay.{overwritten, value_from, value_in, new_value}
use Rattle.pud_defs.specs.RegistryTables.Spaces.{Owner, owner_of}
use Rattle.pud_defs.specs.RegistryTables.Tables.{Tables, tables_of}
use Rattle.pud_defs.specs.Logging.Allowed.{puddle_word, is_allowed_log}
use Rattle.pud_defs.specs.Logging.Settled.{gives_to, ALL_LOGS, client_of_log, log_number_at, given_by_log, given_in_turn, is_in_logs, beside_logs, settled_over, AreDisjoint, given_but, given_by_others, log_alone, IsApart, IsBeside}
use Rattle.pud_defs.proofs.KeyedTables.Keyed.{or_none}
use Rattle.pud_defs.proofs.RegistryTables.Spaces.{log_of-within}
use Rattle.pud_defs.proofs.Logging.Replay.{value_at-apart, new_value-closed, new_value-nowhere, overwritten-nothing}
use Rattle.pud_defs.proofs.RegistryTables.TablesOf.{frames_of_tables}

-- ---- what one log gives

pub gives_nothing : (b : Bool) (o : Option ℕ) → o ≡ None → cond b o None ≡ None
gives_nothing true o none = none
gives_nothing false o none = refl

-- a log in whose range no entry can be gives nothing
pub gives_to-closed : (t : Tables) (who : Option Owner) (log : Log) (w : ℕ) → log.hi ≤ log.lo + 1 → gives_to t who log w ≡ None
unfolding gives_to
gives_to-closed t None log w closed = refl
gives_to-closed t (Some who) log w closed = gives_nothing (is_allowed_log t who log) (new_value (puddle_word t) log w) (new_value-closed (puddle_word t) log w closed)

-- nor does a log that is not allowed
pub gives_to-refused : (t : Tables) (who : Owner) (log : Log) (w : ℕ) → is_allowed_log t who log ≡ false → gives_to t (Some who) log w ≡ None
unfolding gives_to
gives_to-refused t who log w refused = cond-false (is_allowed_log t who log) _ None refused

-- no word before the frames is given a value
place_beyond : (t : Tables) (o : Option (ℕ × ℕ)) (vals : List ℕ) (w : ℕ) → w < frames_at t.frames → value_from (option_map (λ at. frame_at t.frames at.0 + at.1) o) vals w ≡ None
place_beyond t None vals w below = refl
place_beyond t (Some at) vals w below = value_at-apart (frame_at t.frames at.0 + at.1) w vals (inl (omega arith))

value_in-below : (t : Tables) (e : Entry) (w : ℕ) → w < frames_at t.frames → value_in (puddle_word t) e w ≡ None
unfolding puddle_word
value_in-below t e w below = place_beyond t (located t e.address) e.vals w below

pub gives_to-below : (t : Tables) (who : Option Owner) (log : Log) (w : ℕ) → w < frames_at t.frames → gives_to t who log w ≡ None
unfolding gives_to
gives_to-below t None log w below = refl
gives_to-below t (Some who) log w below =
    gives_nothing (is_allowed_log t who log) (new_value (puddle_word t) log w) (new_value-nowhere (puddle_word t) log w (λ e. value_in-below t e w below))

-- ---- what logs give in turn

pub or_empty : {A : Type 0} (o : Option A) → option_or o None ≡ o
or_empty None = refl
or_empty (Some x) = refl

pub given_in_turn-none : (given : ℕ → ℕ → Option ℕ) (from count w : ℕ) → ((j : ℕ) → from ≤ j → j < from + count → given j w ≡ None) → given_in_turn given from count w ≡ None
unfolding given_in_turn
given_in_turn-none given from zero w none = refl
given_in_turn-none given from (suc count) w none =
    ap₂ option_or (given_in_turn-none given (from + 1) count w (λ j low high. none j (omega arith) (omega arith))) (none from (omega arith) (omega arith))

pub given_in_turn-same : (f g : ℕ → ℕ → Option ℕ) (from count w : ℕ) → ((j : ℕ) → from ≤ j → j < from + count → f j w ≡ g j w) → given_in_turn f from count w ≡ given_in_turn g from count w
unfolding given_in_turn
given_in_turn-same f g from zero w same = refl
given_in_turn-same f g from (suc count) w same =
    ap₂ option_or (given_in_turn-same f g (from + 1) count w (λ j low high. same j (omega arith) (omega arith))) (same from (omega arith) (omega arith))

-- if only one log may give something, all of them give what it gives
pub given_in_turn-one : (given : ℕ → ℕ → Option ℕ) (from count k w : ℕ) → from ≤ k → k < from + count → ((j : ℕ) → from ≤ j → j < from + count → (j ≡ k → ⊥) → given j w ≡ None)
    → given_in_turn given from count w ≡ given k w
unfolding given_in_turn
given_in_turn-one given from zero k w low high others = absurd (omega arith)
given_in_turn-one given from (suc count) k w low high others = elim (cases_eq k from) [
  | inl here ↦
      ap (λ later. option_or later (given from w)) (given_in_turn-none given (from + 1) count w (λ j l h. others j (omega arith) (omega arith) (λ same. absurd (omega arith))))
      ∙ ap (λ n. given n w) (sym here)
  | inr following ↦
      ap₂ option_or (given_in_turn-one given (from + 1) count k w (omega arith) (omega arith) (λ j l h apart. others j (omega arith) (omega arith) apart))
      (others from (omega arith) (omega arith) (λ same. following (sym same)))
      ∙ or_empty (given k w)
]

-- if all of them give nothing, none of them gives anything
pub given_in_turn-none_each : (given : ℕ → ℕ → Option ℕ) (from count w : ℕ) → given_in_turn given from count w ≡ None → (j : ℕ) → from ≤ j → j < from + count → given j w ≡ None
unfolding given_in_turn
given_in_turn-none_each given from zero w none j low high = absurd (omega arith)
given_in_turn-none_each given from (suc count) w none j low high =
    let parts = or_none (given_in_turn given (from + 1) count w) (given from w) none in
    elim (cases_eq j from) [
      | inl here ↦ ap (λ n. given n w) here ∙ parts.1
      | inr following ↦ given_in_turn-none_each given (from + 1) count w parts.0 j (omega arith) (omega arith)
    ]

-- ---- an image with all logs replayed

-- if no log gives anything, the result is the image with 0 in the words of the clients' logs
pub settled_over-none : (F : ℕ) (image : Image) → ((number w : ℕ) → number < ALL_LOGS → given_by_log F image number w ≡ None) → settled_over F image ≡ beside_logs F image
unfolding settled_over
settled_over-none F image none =
    ap (beside_logs F) (overwritten-nothing (given_in_turn (given_by_log F image) 0 ALL_LOGS) image
    (λ w. given_in_turn-none (given_by_log F image) 0 ALL_LOGS w (λ j low high. none j w (omega arith))))

-- if no two logs give a value to one word, a word outside the logs has the value of the one log that gives it one
pub settled_over-one : (F : ℕ) (image : Image) (number w v : ℕ) → AreDisjoint (given_by_log F image) ALL_LOGS → number < ALL_LOGS → is_in_logs F w ≡ false → given_by_log F image number w ≡ Some v → settled_over F image w ≡ v
unfolding settled_over
settled_over-one F image number w v disjoint below outside gives =
    let others : (j : ℕ) → 0 ≤ j → j < 0 + ALL_LOGS → (j ≡ number → ⊥) → given_by_log F image j w ≡ None = λ j low high apart. elim (disjoint.apart j number w (omega arith) below apart) [
      | inl none ↦ none
      | inr none ↦ absurd (let it : None ≡ Some v = sym none ∙ gives in cc)
    ] in
    cond-false (is_in_logs F w) 0 _ outside
    ∙ ap (λ o. unwrap_or o (image w)) (given_in_turn-one (given_by_log F image) 0 ALL_LOGS number w (omega arith) (omega arith) others ∙ gives)

-- a word outside the logs that no log gives a value keeps its own
pub settled_over-own : (F : ℕ) (image : Image) (w : ℕ) → is_in_logs F w ≡ false → ((number : ℕ) → number < ALL_LOGS → given_by_log F image number w ≡ None) → settled_over F image w ≡ image w
unfolding settled_over
settled_over-own F image w outside none =
    cond-false (is_in_logs F w) 0 _ outside ∙ ap (λ o. unwrap_or o (image w)) (given_in_turn-none (given_by_log F image) 0 ALL_LOGS w (λ j low high. none j (omega arith)))

-- a word before the clients' logs keeps its value, whatever the logs are
pub settled_over-below : (F : ℕ) (image : Image) (w : ℕ) → w < tables_end F → settled_over F image w ≡ image w
settled_over-below F image w below =
    settled_over-own F image w (and_left (leb (tables_end F) w) (ltb w (frames_at F)) (lt-leb (tables_end F) w below))
    (λ number known. gives_to-below (tables_of F image) (owner_of image (client_of_log number)) (log_of image (log_number_at F number)) w (omega (arith, frames_of_tables F image)))

-- ---- one log and the others

but_itself : (number : ℕ) (given : ℕ → ℕ → Option ℕ) (w : ℕ) → given_but number given number w ≡ None
but_itself number given w = cond-true (eqb number number) None (given number w) (eq-eqb number number refl)

but_other : (number : ℕ) (given : ℕ → ℕ → Option ℕ) (j w : ℕ) → (j ≡ number → ⊥) → given_but number given j w ≡ given j w
but_other number given j w apart = cond-false (eqb j number) None (given j w) (ne_eqb j number apart)

module _ (F number : ℕ) (image : Image) (below : number < ALL_LOGS) (apart : IsApart F number image) where
  abbrev given : ℕ → ℕ → Option ℕ
  given = given_by_log F image

  -- if this log gives nothing to a word, the others give what all give
  without_it : (w : ℕ) → given number w ≡ None → given_in_turn given 0 ALL_LOGS w ≡ given_by_others F image number w
  without_it w none = given_in_turn-same given (given_but number given) 0 ALL_LOGS w (λ j low high. elim (cases_eq j number) [
    | inl here ↦ ap (λ n. given n w) here ∙ none ∙ sym (but_itself number given w) ∙ ap (λ n. given_but number given n w) (sym here)
    | inr other ↦ sym (but_other number given j w other)
  ])

  -- if the others give nothing, all give what this log gives
  only_it : (w : ℕ) → given_by_others F image number w ≡ None → given_in_turn given 0 ALL_LOGS w ≡ given number w
  only_it w none = given_in_turn-one given 0 ALL_LOGS number w (omega arith) (omega arith)
      (λ j low high other. sym (but_other number given j w other) ∙ given_in_turn-none_each (given_but number given) 0 ALL_LOGS w none j low high)

  each_word : (w : ℕ) → overwritten (given_in_turn given 0 ALL_LOGS) image w ≡ overwritten (given_by_others F image number) (log_alone F number image) w
  each_word w = elim (apart.each w) [
    | inl none ↦
        ap (λ o. unwrap_or o (image w)) (without_it w none)
        ∙ ap (λ (v : ℕ). unwrap_or (given_by_others F image number w) v) (sym (ap (λ o. unwrap_or o (image w)) none))
    | inr none ↦
        ap (λ o. unwrap_or o (image w)) (only_it w none)
        ∙ sym (ap (λ o. unwrap_or o (log_alone F number image w)) none)
  ]

  -- what the others give is written over the image with only this log replayed
  pub settled_over-alone : settled_over F image ≡ beside_logs F (overwritten (given_by_others F image number) (log_alone F number image))
  unfolding settled_over
  settled_over-alone = λ p w. beside_logs F (λ k. each_word k p) w

-- if images agree on the tables, the owners and all other logs, the other logs give the same
pub given_by_others-beside : (F number : ℕ) (i j : Image) → IsBeside F number i j → given_by_others F j number ≡ given_by_others F i number
given_by_others-beside F number i j beside =
    let log_same : (other : ℕ) → other < ALL_LOGS → (other ≡ number → ⊥) → log_of j (log_number_at F other) ≡ log_of i (log_number_at F other) = λ other below apart.
    log_of-within j i (log_number_at F other) (beside.logs other below apart) in
    let given_same : (other w : ℕ) → other < ALL_LOGS → (other ≡ number → ⊥) → given_by_log F j other w ≡ given_by_log F i other w = λ other w below apart.
    (λ p. gives_to (beside.tables p) (beside.owners (client_of_log other) (omega arith) p) (log_same other below apart p) w) in
    let each : (w : ℕ) → given_by_others F j number w ≡ given_by_others F i number w = λ w.
    given_in_turn-same (given_but number (given_by_log F j)) (given_but number (given_by_log F i)) 0 ALL_LOGS w (λ other low high. elim (cases_eq other number) [
      | inl here ↦
          cond-true (eqb other number) None _ (eq-eqb other number here) ∙ sym (cond-true (eqb other number) None _ (eq-eqb other number here))
      | inr apart ↦ but_other number (given_by_log F j) other w apart ∙ given_same other w (omega arith) apart ∙ sym (but_other number (given_by_log F i) other w apart)
    ]) in
    λ p w. each w p
