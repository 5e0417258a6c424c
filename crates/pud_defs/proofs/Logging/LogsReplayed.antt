-- Clients' logs are replayed and closed one after the other: what each step leaves of the tables, of the other logs and
-- of the settled image.
use Rattle.std.proofs.Common.{◌≡◌, inl, inr, ℕ, zero, suc, ◌+◌, ◌*◌, ◌-◌, ◌<◌, ◌≤◌, true, false, not, List, [], Option, Some, None, refl, sym, ap, ap₂, ◌∙◌, arith}
use Rattle.std.specs.Prelude.{unwrap_or, nat_le, nat_lt}
use Rattle.std.specs.Option.{option_or}
use Rattle.std.proofs.lemmas.Bool.{and_from, cases_Bool, cases_eq, cond-true, cond-false, le-leb, lt-ltb}
use Rattle.pud_defs.specs.declared.layout.TheConstants.{CLIENTS, CLIENT_LOGS}
use Rattle.pud_defs.specs.declared.log_words.TheConstants.{CLOSED_GATE}
use Rattle.pud_defs.specs.Formats.Image.{Image}
use Rattle.pud_defs.specs.Formats.Layout.{tables_end, log_at, frames_at}
use Rattle.pud_defs.specs.Logging.Entries.{Entry, Log, log_of, is_idle_gate}
use Rattle.pud_defs.specs.RegistryTables.Spaces.{Owner, owner_of, is_closed_log, has_closed_logs}
use Rattle.pud_defs.specs.RegistryTables.Tables.{Tables, tables_of}
use Rattle.pud_defs.specs.Logging.Allowed.{are_allowed_entries, is_allowed_log, is_refused}
use Rattle.pud_defs.specs.Logging.Settled.{gives_to, ALL_LOGS, client_of_log, log_number_at, given_by_log, is_refused_log, given_in_turn, is_in_logs, settled_over}
use Rattle.pud_defs.specs.Logging.LogsReplayed.{ReplaysClientLog, GivesNothingBelow}
use Rattle.pud_defs.proofs.Logging.Replay.{entries_of-idle, empty_range_of}
use Rattle.pud_defs.proofs.RegistryTables.Spaces.{all_below-from, all_below-each, log_of-within, is_closed_log-same, owner_of-same}
use Rattle.pud_defs.proofs.RegistryTables.TablesOf.{tables_of-same, frames_of_tables}
use Rattle.pud_defs.proofs.Logging.ClosedLogs.{closed_by_gate}
use Rattle.pud_defs.proofs.Logging.Settled.{or_empty, gives_to-below, gives_to-closed, given_in_turn-same}

-- ---- a client's log gives values only to words of frames

pub given_by_log-below : (F : ℕ) (image : Image) (number w : ℕ) → w < frames_at F → given_by_log F image number w ≡ None
given_by_log-below F image number w below =
    gives_to-below (tables_of F image) (owner_of image (client_of_log number)) (log_of image (log_number_at F number)) w (rw (frames_of_tables F image) below)

-- ---- values that logs give in turn

-- if a value is given, the old value of the word does not matter
given_anyway : (rest : Option ℕ) (v x y : ℕ) → unwrap_or (option_or rest (Some v)) x ≡ unwrap_or (option_or rest (Some v)) y
given_anyway None v x y = refl
given_anyway (Some r) v x y = refl

-- it is the same whether a value is given or is already there
in_place : (rest : Option ℕ) (v y : ℕ) → unwrap_or (option_or rest None) v ≡ unwrap_or (option_or rest (Some v)) y
in_place None v y = refl
in_place (Some r) v y = refl

given_in_turn-first : (given : ℕ → ℕ → Option ℕ) (from count rest w : ℕ) → count ≡ suc rest → given_in_turn given from count w ≡ option_or (given_in_turn given (from + 1) rest w) (given from w)
unfolding given_in_turn
given_in_turn-first gives from count rest w is = ap (λ n. given_in_turn gives from n w) is

-- logs that give nothing may be passed over
given_in_turn-after : (given : ℕ → ℕ → Option ℕ) (passed from count w : ℕ) → ((j : ℕ) → from ≤ j → j < from + passed → given j w ≡ None)
    → given_in_turn given from (passed + count) w ≡ given_in_turn given (from + passed) count w
unfolding given_in_turn
given_in_turn-after gives zero from count w none =
    ap₂ (λ (n m : ℕ). given_in_turn gives n m w) (let it : from ≡ from + 0 = omega arith in it) (let it : 0 + count ≡ count = omega arith in it)
given_in_turn-after gives (suc passed) from count w none =
    given_in_turn-first gives from (suc passed + count) (passed + count) w (let it : suc passed + count ≡ suc (passed + count) = omega arith in it)
    ∙ ap₂ option_or (given_in_turn-after gives passed (from + 1) count w (λ j low high. none j (omega arith) (omega arith))) (none from (omega arith) (omega arith))
    ∙ or_empty (given_in_turn gives (from + 1 + passed) count w)
    ∙ ap (λ n. given_in_turn gives n count w) (let it : from + 1 + passed ≡ from + suc passed = omega arith in it)

-- if the logs below one give nothing, all logs together give what those after it give, and else what it gives
pub given_in_turn-from : (given : ℕ → ℕ → Option ℕ) (number w : ℕ) → number < ALL_LOGS → ((j : ℕ) → j < number → given j w ≡ None)
    → given_in_turn given 0 ALL_LOGS w ≡ option_or (given_in_turn given (number + 1) (31 - number) w) (given number w)
given_in_turn-from gives number w known none =
    ap (λ n. given_in_turn gives 0 n w) (let it : ALL_LOGS ≡ number + (32 - number) = omega arith in it)
    ∙ given_in_turn-after gives number 0 (32 - number) w (λ j low high. none j (omega arith))
    ∙ ap (λ n. given_in_turn gives n (32 - number) w) (let it : 0 + number ≡ number = omega arith in it)
    ∙ given_in_turn-first gives number (32 - number) (31 - number) w (let it : 32 - number ≡ suc (31 - number) = omega arith in it)

-- ---- which logs are refused

-- a log without entries is not refused
idle_not_refused : (t : Tables) (who : Option Owner) (log : Log) → log.entries ≡ Some [] → is_refused t who log ≡ false
unfolding is_allowed_log
idle_not_refused t None log empty = refl
idle_not_refused t (Some who) log empty = ap (λ (es : Option (List Entry)). not (are_allowed_entries t who log es)) empty

-- a word outside the logs is no gate
not_a_gate : (F number w : ℕ) → number < ALL_LOGS → is_in_logs F w ≡ false → w ≡ log_number_at F number → ⊥
not_a_gate F number w known outside here =
    let inside : is_in_logs F w ≡ true = and_from (nat_le (tables_end F) w) (nat_lt w (frames_at F)) (le-leb (tables_end F) w (omega arith)) (lt-ltb w (frames_at F) (omega arith)) in
    absurd (let it : true ≡ false = sym inside ∙ outside in cc)

-- ---- one log is replayed and closed

module _ (F number : ℕ) (i j : Image) (known : number < ALL_LOGS) (takes : ReplaysClientLog F number i j) where
  -- below the frames only the gate may differ
  pub beside_gate : (k : ℕ) → k < frames_at F → (k ≡ log_number_at F number → ⊥) → j k ≡ i k
  beside_gate k below other = takes.stays k other (given_by_log-below F i number k below)

  pub below_logs : (k : ℕ) → k < tables_end F → j k ≡ i k
  below_logs k below = beside_gate k (omega arith) (λ same. absurd (omega arith))

  pub same_tables : tables_of F j ≡ tables_of F i
  same_tables = tables_of-same F j i (λ k low high. below_logs k (omega arith)) (λ k low high. below_logs k high)

  pub same_owner : (client : ℕ) → client < CLIENTS → owner_of j client ≡ owner_of i client
  same_owner client few = owner_of-same j i client few (λ k low high. below_logs k (omega arith))

  pub other_log : (other : ℕ) → other < ALL_LOGS → (other ≡ number → ⊥) → log_of j (log_number_at F other) ≡ log_of i (log_number_at F other)
  other_log other few apart = log_of-within j i (log_number_at F other) (λ k inside.
      let low = inside.low in
      let high = inside.high in
      beside_gate k (omega arith) (λ same. apart (omega arith)))

  pub other_gives : (other w : ℕ) → other < ALL_LOGS → (other ≡ number → ⊥) → given_by_log F j other w ≡ given_by_log F i other w
  other_gives other w few apart = λ p. gives_to (same_tables p) (same_owner (client_of_log other) (omega arith) p) (other_log other few apart p) w

  own_log : j (log_number_at F number) ≡ i (log_number_at F number) → log_of j (log_number_at F number) ≡ log_of i (log_number_at F number)
  own_log gate = log_of-within j i (log_number_at F number) (λ k inside.
      let low = inside.low in
      let high = inside.high in
      elim (cases_eq k (log_number_at F number)) [
        | inl here ↦ ap j here ∙ gate ∙ sym (ap i here)
        | inr other ↦ beside_gate k (omega arith) other
      ])

  own_gives : (w : ℕ) → j (log_number_at F number) ≡ i (log_number_at F number) → given_by_log F j number w ≡ given_by_log F i number w
  own_gives w gate = λ p. gives_to (same_tables p) (same_owner (client_of_log number) (omega arith) p) (own_log gate p) w

  closed_gives : (w : ℕ) → j (log_number_at F number) ≡ CLOSED_GATE → given_by_log F j number w ≡ None
  closed_gives w gate = gives_to-closed (tables_of F j) (owner_of j (client_of_log number)) (log_of j (log_number_at F number)) w
      (empty_range_of (j (log_number_at F number)) (ap is_idle_gate gate))

  -- what all logs give to a word, if those below this one give nothing
  below_none : GivesNothingBelow F number i → (other w : ℕ) → other < number → given_by_log F j other w ≡ None
  below_none none other w below = other_gives other w (omega arith) (λ same. absurd (omega arith)) ∙ none.each other w below

  after_same : (w : ℕ) → given_in_turn (given_by_log F j) (number + 1) (31 - number) w ≡ given_in_turn (given_by_log F i) (number + 1) (31 - number) w
  after_same w = given_in_turn-same (given_by_log F j) (given_by_log F i) (number + 1) (31 - number) w (λ other low high. other_gives other w (omega arith) (λ same. absurd (omega arith)))

  word_same : (w : ℕ) (rest own : Option ℕ) → (w ≡ log_number_at F number → ⊥) → given_by_log F i number w ≡ own
      → unwrap_or (option_or rest (given_by_log F j number w)) (j w) ≡ unwrap_or (option_or rest own) (i w)
  word_same w rest own other gives = elim own as (λ o. given_by_log F i number w ≡ o → unwrap_or (option_or rest (given_by_log F j number w)) (j w) ≡ unwrap_or (option_or rest o) (i w)) [
    | None ↦ λ none.
        let still : j w ≡ i w = takes.stays w other none in
        let nothing : given_by_log F j number w ≡ None = elim takes.gate [
          | inl gate ↦ own_gives w gate ∙ none
          | inr closed ↦ closed_gives w closed.gate
        ] in
        ap₂ (λ (o : Option ℕ) (x : ℕ). unwrap_or (option_or rest o) x) nothing still
    | Some v ↦ λ some. elim takes.gate [
      | inl gate ↦ ap (λ (o : Option ℕ). unwrap_or (option_or rest o) (j w)) (own_gives w gate ∙ some) ∙ given_anyway rest v (j w) (i w)
      | inr closed ↦ ap₂ (λ (o : Option ℕ) (x : ℕ). unwrap_or (option_or rest o) x) (closed_gives w closed.gate) (closed.there w v some) ∙ in_place rest v (i w)
    ]
  ] gives

  -- the settled image does not change, if no log below this one gives anything
  pub settled_same : GivesNothingBelow F number i → settled_over F j ≡ settled_over F i
  unfolding settled_over
  settled_same none =
      let each : (w : ℕ) → settled_over F j w ≡ settled_over F i w = λ w. elim (cases_Bool (is_in_logs F w)) [
        | inl inside ↦ cond-true (is_in_logs F w) 0 _ inside ∙ sym (cond-true (is_in_logs F w) 0 _ inside)
        | inr outside ↦
            let turns_j = given_in_turn-from (given_by_log F j) number w known (λ other below. below_none none other w below) in
            let turns_i = given_in_turn-from (given_by_log F i) number w known (λ other below. none.each other w below) in
            cond-false (is_in_logs F w) 0 _ outside
            ∙ ap (λ (o : Option ℕ). unwrap_or o (j w)) (turns_j ∙ ap (λ (o : Option ℕ). option_or o (given_by_log F j number w)) (after_same w))
            ∙ word_same w (given_in_turn (given_by_log F i) (number + 1) (31 - number) w) (given_by_log F i number w) (not_a_gate F number w known outside) refl
            ∙ ap (λ (o : Option ℕ). unwrap_or o (i w)) (sym turns_i)
            ∙ sym (cond-false (is_in_logs F w) 0 _ outside)
      ] in
      λ p w. each w p

  -- no log is judged differently
  pub refused_same : (other : ℕ) → other < ALL_LOGS → is_refused_log F j other ≡ is_refused_log F i other
  refused_same other few = elim (cases_eq other number) [
    | inr apart ↦ λ p. is_refused (same_tables p) (same_owner (client_of_log other) (omega arith) p) (other_log other few apart p)
    | inl here ↦
        let mine : is_refused_log F j number ≡ is_refused_log F i number = elim takes.gate [
          | inl gate ↦ λ p. is_refused (same_tables p) (same_owner (client_of_log number) (omega arith) p) (own_log gate p)
          | inr closed ↦ idle_not_refused (tables_of F j) (owner_of j (client_of_log number)) (log_of j (log_number_at F number)) (entries_of-idle j (log_number_at F number) (ap is_idle_gate closed.gate)) ∙ sym closed.allowed
        ] in
        ap (λ (n : ℕ). is_refused_log F j n) here ∙ mine ∙ ap (λ (n : ℕ). is_refused_log F i n) (sym here)
  ]

  -- if this log gives nothing once its gate is closed, no log below the next one gives anything
  pub nothing_below_next : GivesNothingBelow F number i → ((w : ℕ) → given_by_log F j number w ≡ None) → GivesNothingBelow F (number + 1) j
  nothing_below_next none own = record {
    each = λ other w below. elim (cases_eq other number) [
      | inl here ↦ ap (λ (n : ℕ). given_by_log F j n w) here ∙ own w
      | inr apart ↦ below_none none other w (omega arith)
    ];
  }

  -- a client's log that was closed is still closed
  still_closed : (other : ℕ) → other < ALL_LOGS → is_closed_log i (log_number_at F other) ≡ true → is_closed_log j (log_number_at F other) ≡ true
  still_closed other few was = elim (cases_eq other number) [
    | inr apart ↦ is_closed_log-same j i (log_number_at F other) (λ k inside.
        let low = inside.low in
        let high = inside.high in
        beside_gate k (omega arith) (λ same. apart (omega arith))) ∙ was
    | inl here ↦ elim takes.gate [
      | inl gate ↦ is_closed_log-same j i (log_number_at F other) (λ k inside.
          let low = inside.low in
          let high = inside.high in
          elim (cases_eq k (log_number_at F number)) [
            | inl at ↦ ap j at ∙ gate ∙ sym (ap i at)
            | inr beside ↦ beside_gate k (omega arith) beside
          ]) ∙ was
      | inr shut ↦ closed_by_gate j (log_number_at F other) (ap (λ (x : ℕ). j (log_number_at F x)) here ∙ shut.gate)
    ]
  ]

  pub logs_still_closed : (client : ℕ) → client < CLIENTS → has_closed_logs i F client ≡ true → has_closed_logs j F client ≡ true
  logs_still_closed client few was = all_below-from CLIENT_LOGS (λ n. is_closed_log j (log_at F client n)) (λ n below.
      let at : log_at F client n ≡ log_number_at F (CLIENT_LOGS * client + n) = omega arith in
      ap (is_closed_log j) at ∙ still_closed (CLIENT_LOGS * client + n) (omega arith)
      (ap (is_closed_log i) (sym at) ∙ all_below-each CLIENT_LOGS (λ n. is_closed_log i (log_at F client n)) was n below))
