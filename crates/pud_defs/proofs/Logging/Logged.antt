-- Where the daemon log may write, and that its replay does not change other words.
use Rattle.std.proofs.Common.{◌≡◌, ◌⊎◌, inl, inr, ℕ, ◌+◌, ◌<◌, ◌≤◌, Bool, true, false, not, ◌&&◌, ◌||◌, leb, eqb, List, [], ◌∷◌, length, Option, Some, None, refl, sym, ap, ap₂, ◌∙◌, arith, eqb-true}
use Rattle.std.specs.List.{list_all}
use Rattle.std.specs.Option.{option_or}
use Rattle.std.proofs.lemmas.Bool.{and_parts, and_from, or_left, or_right, cond-true, cond-false, cases_Bool, leb-true, le-leb, or_cases}
use Rattle.std.proofs.lemmas.Bool.Decides.{leb_tells}
use Rattle.pud_defs.specs.declared.layout.TheConstants.{NEXT_NUMBER_WORD, DAEMON_LOG, LOG_WORDS, TYPE_TABLE}
use Rattle.pud_defs.specs.declared.log_words.TheConstants.{UNDO_ORDER, REDO_ORDER}
use Rattle.pud_defs.specs.Formats.Image.{Image}
use Rattle.pud_defs.specs.Formats.Layout.{tables_end, frames_at, device_words}
use Rattle.pud_defs.specs.Logging.Entries.{Entry, Log, log_of}
use Rattle.pud_defs.specs.Logging.Replay.{device_word, is_in_range, given_by, undo_value, redo_value, new_value, is_in_log, settled_by}
use Rattle.pud_defs.specs.RegistryTables.Registry.{frames_of, may_be_logged, is_loggable, are_loggable, has_legal_log}
use Rattle.pud_defs.proofs.Logging.Replay.{value_at-apart, undo_value-first, redo_value-first, undo_value-none, redo_value-none, new_value-of, overwritten-stays, settled_by-outside, outside_log}

-- ---- where the daemon log may write

-- it may write in the tables, from the type table on
pub may_be_logged-table : (F at n : ℕ) → TYPE_TABLE ≤ at → at + n ≤ tables_end F → may_be_logged F at n ≡ true
may_be_logged-table F at n low high =
    or_left ((eqb at NEXT_NUMBER_WORD && eqb n 1) || (leb TYPE_TABLE at && leb (at + n) (tables_end F))) (leb (frames_at F) at && leb (at + n) (device_words F))
    (or_right (eqb at NEXT_NUMBER_WORD && eqb n 1) (leb TYPE_TABLE at && leb (at + n) (tables_end F))
    (and_from (leb TYPE_TABLE at) (leb (at + n) (tables_end F)) (le-leb TYPE_TABLE at low) (le-leb (at + n) (tables_end F) high)))

-- and in the frames
pub may_be_logged-frames : (F at n : ℕ) → frames_at F ≤ at → at + n ≤ device_words F → may_be_logged F at n ≡ true
may_be_logged-frames F at n low high =
    or_right ((eqb at NEXT_NUMBER_WORD && eqb n 1) || (leb TYPE_TABLE at && leb (at + n) (tables_end F))) (leb (frames_at F) at && leb (at + n) (device_words F))
    (and_from (leb (frames_at F) at) (leb (at + n) (device_words F)) (le-leb (frames_at F) at low) (le-leb (at + n) (device_words F) high))

-- the words lie in the device, before the daemon log or after it
pub record LiesApart (size at n : ℕ) : Type 0 where
  pub within : at + n ≤ size
  pub apart : (at + n ≤ DAEMON_LOG) ⊎ (DAEMON_LOG + LOG_WORDS ≤ at)

pub lies_apart : (F size at n : ℕ) → device_words F ≤ size → may_be_logged F at n ≡ true → LiesApart size at n
lies_apart F size at n room may =
    elim (or_cases ((eqb at NEXT_NUMBER_WORD && eqb n 1) || (leb TYPE_TABLE at && leb (at + n) (tables_end F))) (leb (frames_at F) at && leb (at + n) (device_words F)) may) [
      | inl tables ↦ elim (or_cases (eqb at NEXT_NUMBER_WORD && eqb n 1) (leb TYPE_TABLE at && leb (at + n) (tables_end F)) tables) [
        | inl number ↦
            let parts = and_parts (eqb at NEXT_NUMBER_WORD) (eqb n 1) number in
            let here = eqb-true _ _ parts.0 in
            let one = eqb-true _ _ parts.1 in
            record { within = omega arith; apart = inl (omega arith) }
        | inr types ↦
            let parts = and_parts (leb TYPE_TABLE at) (leb (at + n) (tables_end F)) types in
            let low = leb-true _ _ parts.0 in
            let high = leb-true _ _ parts.1 in
            record { within = omega arith; apart = inr (omega arith) }
      ]
      | inr frames ↦
          let parts = and_parts (leb (frames_at F) at) (leb (at + n) (device_words F)) frames in
          let low = leb-true _ _ parts.0 in
          let high = leb-true _ _ parts.1 in
          record { within = omega arith; apart = inr (omega arith) }
    ]

-- an entry whose words lie where the log may write is allowed
pub is_loggable-there : (F : ℕ) (log : Log) (e : Entry) → may_be_logged F e.address (length e.vals) ≡ true → is_loggable F log e ≡ true
is_loggable-there F log e may = or_right (not (is_in_range log e)) (may_be_logged F e.address (length e.vals)) may

-- if an entry is allowed and in range, its words lie there
pub allowed_in_range : (F : ℕ) (log : Log) (e : Entry) → is_loggable F log e ≡ true → is_in_range log e ≡ true → may_be_logged F e.address (length e.vals) ≡ true
allowed_in_range F log e allowed within = sym (ap (λ (b : Bool). not b || may_be_logged F e.address (length e.vals)) within) ∙ allowed

-- ---- where it may not write

-- the daemon log may not write this word
pub record IsUnlogged (F w : ℕ) : Type 0 where
  pub apart : (at n : ℕ) → may_be_logged F at n ≡ true → (w < at) ⊎ (at + n ≤ w)

apart_from : (F w at n : ℕ) → (w ≡ NEXT_NUMBER_WORD → ⊥) → (w < TYPE_TABLE) ⊎ (tables_end F ≤ w) → w < frames_at F → may_be_logged F at n ≡ true → (w < at) ⊎ (at + n ≤ w)
apart_from F w at n number tables frames may = elim (or_cases ((eqb at NEXT_NUMBER_WORD && eqb n 1) || (leb TYPE_TABLE at && leb (at + n) (tables_end F))) (leb (frames_at F) at && leb (at + n) (device_words F)) may) [
  | inl first ↦ elim (or_cases (eqb at NEXT_NUMBER_WORD && eqb n 1) (leb TYPE_TABLE at && leb (at + n) (tables_end F)) first) [
    | inl one ↦
        let parts = and_parts (eqb at NEXT_NUMBER_WORD) (eqb n 1) one in
        let here : at ≡ NEXT_NUMBER_WORD = eqb-true at NEXT_NUMBER_WORD parts.0 in
        let count : n ≡ 1 = eqb-true n 1 parts.1 in
        elim (leb_tells (at + n) w) [
          | inl following ↦ inr following.1
          | inr before ↦ inl (let less = before.1 in omega arith)
        ]
    | inr table ↦
        let parts = and_parts (leb TYPE_TABLE at) (leb (at + n) (tables_end F)) table in
        let low : TYPE_TABLE ≤ at = leb-true TYPE_TABLE at parts.0 in
        let high : at + n ≤ tables_end F = leb-true (at + n) (tables_end F) parts.1 in
        elim tables [
          | inl before ↦ inl (omega arith)
          | inr following ↦ inr (omega arith)
        ]
  ]
  | inr frame ↦ let low : frames_at F ≤ at = leb-true (frames_at F) at (and_parts (leb (frames_at F) at) (leb (at + n) (device_words F)) frame).0 in inl (omega arith)
]

-- this holds for a word before the frames that is not the next number and lies in none of the tables from the type
-- table on
pub unlogged : (F w : ℕ) → (w ≡ NEXT_NUMBER_WORD → ⊥) → (w < TYPE_TABLE) ⊎ (tables_end F ≤ w) → w < frames_at F → IsUnlogged F w
unlogged F w number tables frames = record { apart = λ at n may. apart_from F w at n number tables frames may }

not_given : (F order w : ℕ) (log : Log) (e : Entry) → is_loggable F log e ≡ true → IsUnlogged F w → given_by device_word log order e w ≡ None
not_given F order w log e allowed none = elim (cases_Bool (is_in_range log e && eqb e.order order)) [
  | inr other ↦ cond-false _ _ _ other
  | inl counts ↦
      let within = (and_parts (is_in_range log e) (eqb e.order order) counts).0 in
      let may = allowed_in_range F log e allowed within in
      cond-true _ _ _ counts ∙ value_at-apart e.address w e.vals (none.apart e.address (length e.vals) may)
]

not_undone : (F w : ℕ) (log : Log) (es : List Entry) → list_all (is_loggable F log) es ≡ true → IsUnlogged F w → undo_value device_word log es w ≡ None
not_undone F w log [] allowed none = undo_value-none device_word log w
not_undone F w log (e ∷ es) allowed none =
    let parts = and_parts (is_loggable F log e) (list_all (is_loggable F log) es) allowed in
    undo_value-first device_word log e es w ∙ ap₂ option_or (not_given F UNDO_ORDER w log e parts.0 none) (not_undone F w log es parts.1 none)

not_redone : (F w : ℕ) (log : Log) (es : List Entry) → list_all (is_loggable F log) es ≡ true → IsUnlogged F w → redo_value device_word log es w ≡ None
not_redone F w log [] allowed none = redo_value-none device_word log w
not_redone F w log (e ∷ es) allowed none =
    let parts = and_parts (is_loggable F log e) (list_all (is_loggable F log) es) allowed in
    redo_value-first device_word log e es w ∙ ap₂ option_or (not_redone F w log es parts.1 none) (not_given F REDO_ORDER w log e parts.0 none)

-- allowed entries give nothing to a word that the log may not write
pub new_value-allowed : (F w : ℕ) (log : Log) (es : List Entry) → log.entries ≡ Some es → list_all (is_loggable F log) es ≡ true → IsUnlogged F w → new_value device_word log w ≡ None
new_value-allowed F w log es are allowed none = new_value-of device_word log es w are ∙ ap₂ option_or (not_redone F w log es allowed none) (not_undone F w log es allowed none)

-- the entries of a legal daemon log, which are all allowed
pub record LegalEntries (image : Image) : Type 0 where
  pub entries : List Entry
  pub are : (log_of image DAEMON_LOG).entries ≡ Some entries
  pub allowed : list_all (is_loggable (frames_of image) (log_of image DAEMON_LOG)) entries ≡ true

allowed_entries : (image : Image) (o : Option (List Entry)) → (log_of image DAEMON_LOG).entries ≡ o → are_loggable (frames_of image) (log_of image DAEMON_LOG) o ≡ true → LegalEntries image
allowed_entries image None are allowed = absurd (let it : false ≡ true = allowed in cc)
allowed_entries image (Some es) are allowed = record { entries = es; are = are; allowed = allowed }

pub legal_entries : (image : Image) → has_legal_log image ≡ true → LegalEntries image
unfolding has_legal_log
legal_entries image legal = allowed_entries image (log_of image DAEMON_LOG).entries refl legal

-- if this is the daemon log and the device has this many frames, the log is legal if its entries are allowed
pub has_legal_log-of : (image : Image) (F : ℕ) (log : Log) → frames_of image ≡ F → log_of image DAEMON_LOG ≡ log → are_loggable F log log.entries ≡ true → has_legal_log image ≡ true
unfolding has_legal_log
has_legal_log-of image F log frames is allowed = ap₂ (λ (n : ℕ) (l : Log). are_loggable n l l.entries) frames is ∙ allowed

-- a legal daemon log gives nothing to a word that it may not write
pub new_value-apart : (image : Image) (w : ℕ) → has_legal_log image ≡ true → IsUnlogged (frames_of image) w → new_value device_word (log_of image DAEMON_LOG) w ≡ None
new_value-apart image w legal none =
    let l = legal_entries image legal in
    new_value-allowed (frames_of image) w (log_of image DAEMON_LOG) l.entries l.are l.allowed none

-- so such a word outside the log reads the same after the replay
pub settled_by-apart : (image : Image) (w : ℕ) → has_legal_log image ≡ true → is_in_log DAEMON_LOG w ≡ false → IsUnlogged (frames_of image) w → settled_by DAEMON_LOG image w ≡ image w
settled_by-apart image w legal outside none =
    settled_by-outside DAEMON_LOG image w outside ∙ overwritten-stays (new_value device_word (log_of image DAEMON_LOG)) image w (new_value-apart image w legal none)

-- such are the words that tell what the device is
pub new_value-unlogged : (image : Image) (w : ℕ) → has_legal_log image ≡ true → w < NEXT_NUMBER_WORD → new_value device_word (log_of image DAEMON_LOG) w ≡ None
new_value-unlogged image w legal low = new_value-apart image w legal (unlogged (frames_of image) w (λ e. absurd (omega arith)) (inl (omega arith)) (omega arith))

pub settled_by-unlogged : (image : Image) (w : ℕ) → has_legal_log image ≡ true → w < NEXT_NUMBER_WORD → settled_by DAEMON_LOG image w ≡ image w
settled_by-unlogged image w legal low =
    settled_by-apart image w legal (outside_log DAEMON_LOG w (inl (omega arith))) (unlogged (frames_of image) w (λ e. absurd (omega arith)) (inl (omega arith)) (omega arith))

-- and the words of the clients' logs
pub settled_by-client_logs : (image : Image) (w : ℕ) → has_legal_log image ≡ true → tables_end (frames_of image) ≤ w → w < frames_at (frames_of image) → settled_by DAEMON_LOG image w ≡ image w
settled_by-client_logs image w legal low high =
    settled_by-apart image w legal (outside_log DAEMON_LOG w (inr (omega arith))) (unlogged (frames_of image) w (λ e. absurd (omega arith)) (inr low) high)
