-- An open log is replayed and closed: what is left at each moment, and at the end.
use Rattle.std.proofs.Common.{◌≡◌, ◌⊎◌, inl, inr, ℕ, ◌+◌, ◌<◌, ◌≤◌, true, false, List, length, get_or, Option, Some, None, refl, sym, ap, subst, ◌∙◌, arith}
use Rattle.std.specs.Prelude.{All}
use Rattle.std.proofs.lemmas.Bool.Decides.{leb_tells}
use Rattle.pm_model.specs.declared.host.HostFault.{HostFault}
use Rattle.pm_model.specs.Words.{Has, Cell, Words, values as values_of, reads, HasOnly}
use Rattle.pm_model.specs.Moments.{State}
use Rattle.pm_model.specs.Changes.{Footprint, Write, Changes, Leaves, Silently}
use Rattle.pm_model.proofs.Words.{HasOnly-newest, HasOnly-own}
use Rattle.pm_model.proofs.Changes.{Changes-wider, HasOnly-kept}
use Rattle.pm_model.proofs.Leaves.{Leaves-weaker}
use Rattle.pud_defs.specs.declared.layout.TheConstants.{LOG_WORDS, LOG_HEADER_WORDS}
use Rattle.pud_defs.specs.declared.log_words.TheConstants.{CLOSED_GATE}
use Rattle.pud_defs.specs.Formats.Image.{Image}
use Rattle.pud_defs.specs.Logging.Entries.{Entry, Log, log_of, gate_used, gate_word, is_idle_gate}
use Rattle.pud_defs.specs.Logging.Replay.{AddressMap, new_value, entries_or_none, is_in_log, IsInLog}
use Rattle.pud_defs.specs.RegistryTables.Tables.{tables_of}
use Rattle.pud_defs.specs.Logging.Allowed.{puddle_word}
use Rattle.pud_defs.proofs.Logging.Replay.{not_inside}
use Rattle.log_store.specs.Store.{OpenLog, IsOpen, saying}
use Rattle.log_store.proofs.Open.{IsOpen-fits, IsOpen-log_by, used_is}
use Rattle.log_replay.specs.declared.Target.TheVariants.{Puddles}
use Rattle.log_replay.specs.Replaying.{address_map_of, NamesApart, IsReplayable, HasDurableLog, IsNamed, new_values, ByLog, IsSettling, SettlesLog}
use Rattle.log_replay.proofs.Whole.{new_values-apart, new_values_picked}
use Rattle.word_transaction.specs.Scope.{Scope, IsScope, IsInScope, saved, pending, saved_in, pending_in}
use Rattle.word_transaction.specs.Running.{RecoversTo, ByTransaction, AbortsTransaction, HasPlaces, HasOneTable}
use Rattle.word_transaction.proofs.Images.{RecoversTo-given, RecoversTo-idle}
use Rattle.word_transaction.proofs.Committed.{mine_apart, IsShut, Shuts}
use Rattle.word_transaction.proofs.Narrowed.{Changes-narrow}

-- The log is open. It gives these words their values, by each address map that agrees with the scope's on the addresses
-- of its entries. These words are the transaction's own. Each own word to which it gives no value has its one value.
pub record Gives (g : Scope) (log : OpenLog) (es : List Entry) (write : Write) (values : Image) (words : Words) : Type 0 where
  pub opened : IsOpen log es words
  pub own : All (IsInScope g) es
  pub given : (place : AddressMap) → All (λ e. place e.address ≡ g.place e.address) es → (k : ℕ) → new_value place (saying log es) k ≡ write k
  pub has_word : (k v : ℕ) → write k ≡ Some v → g.has_word k ≡ true
  pub saves : (k v : ℕ) → write k ≡ Some v → v ≡ values k
  pub single : (k : ℕ) → g.has_word k ≡ true → write k ≡ None → HasOnly (words k) (values k)

-- ---- what its image spells

-- What an open log saves and what it defers is told by the image that is read.
pub saved_open : (place : AddressMap) (log : OpenLog) (es : List Entry) (words : Words) → IsOpen log es words → saved_in place log.gate_at (reads words) ≡ saved place es
saved_open place log es words opened = ap (λ (l : Log). saved place (entries_or_none l.entries)) opened.says

pub pending_open : (place : AddressMap) (log : OpenLog) (es : List Entry) (words : Words) → IsOpen log es words → pending_in place log.gate_at (reads words) ≡ pending place es
pending_open place log es words opened = ap (λ (l : Log). pending place (entries_or_none l.entries)) opened.says

-- ---- what the replay needs

-- Words in a row, none of which is the log's, lie before the log or after it.
stands_beside : (first count at : ℕ) → 1 ≤ count → ((k : ℕ) → first ≤ k → k < first + count → is_in_log at k ≡ false) → (first + count ≤ at) ⊎ (at + LOG_WORDS ≤ first)
stands_beside first count at some outside = elim (leb_tells (first + count) at) [
  | inl before ↦ inl before.1
  | inr over_at ↦ elim (leb_tells (at + LOG_WORDS) first) [
    | inl following ↦ inr following.1
    | inr in_front ↦ elim (leb_tells at first) [
      | inl low ↦ absurd (not_inside at first (outside first (omega arith) (let h = some in omega arith)) (let l = low.1 in let h = in_front.1 in record { low = omega arith; high = omega arith }))
      | inr high ↦ absurd (not_inside at at (outside at (let h = high.1 in omega arith) (let h = over_at.1 in omega arith)) (record { low = omega arith; high = omega arith }))
    ]
  ]
]

-- ---- a word by what it is given

by_given : (o : Option ℕ) (x b : ℕ) → ((v : ℕ) → o ≡ Some v → x ≡ b) → (o ≡ None → x ≡ b) → x ≡ b
by_given None x b some none = none refl
by_given (Some v) x b some none = some v refl

durable_by : (o : Option ℕ) (c : Cell) (b : ℕ) → ((v : ℕ) → o ≡ Some v → v ≡ b) → ((v : ℕ) → o ≡ Some v → HasOnly c v) → (o ≡ None → HasOnly c b) → HasOnly c b
durable_by None c b saves some none = none refl
durable_by (Some v) c b saves some none = subst (λ (x : ℕ). HasOnly c x) (saves v refl) (some v refl)

-- ---- replayed and closed

-- the gate gets the value of a closed log, and any value may be written to the words that the write names
abbrev pub ByShutting : (at : ℕ) → Write → Footprint
ByShutting at write k v = ((k ≡ at) × (v ≡ CLOSED_GATE)) ⊎ IsNamed write k

module _ (size F : ℕ) (g : Scope) (log : OpenLog) (es : List Entry) (write : Write) (values : Image) (a : State) (scope : IsScope size log.gate_at g) (r : Gives g log es write values a.now.words)
    (places : HasPlaces g (puddle_word (tables_of F (reads a.now.words)))) (table : HasOneTable F a.now.words) where
  abbrev place : AddressMap
  place = puddle_word (tables_of F (reads a.now.words))

  abbrev given_now : Write
  given_now = new_values (Puddles F) log.gate_at (reads a.now.words)

  names_apart : (e : Entry) → IsInScope g e → NamesApart place size log.gate_at e
  names_apart e own =
      let s = scope.named e.address (length e.vals) own.may in
      record {
        first = s.first;
        placed = places.each e.address (length e.vals) own.may ∙ s.placed;
        within = s.within;
        apart = stands_beside s.first (length e.vals) log.gate_at s.some (λ k low high. scope.apart k (s.own k low high));
      }

  pub replayable : IsReplayable (address_map_of (Puddles F) (reads a.now.words)) size log.gate_at es (reads a.now.words)
  replayable =
      record {
        spells = ap (λ (l : Log). l.entries) r.opened.says;
        apart = λ n d below counts. names_apart (get_or es n d) (r.own n d below);
      }

  used : gate_used (reads a.now.words log.gate_at) ≡ log.used
  used = ap gate_used (HasOnly-newest (a.now.words log.gate_at) _ r.opened.gate) ∙ used_is log (IsOpen-fits log es a.now.words r.opened)

  pub durable_log : HasDurableLog (Puddles F) log.gate_at a.now.words
  durable_log =
      record {
        gate = HasOnly-own (a.now.words log.gate_at) _ r.opened.gate;
        counted = λ k low high. r.opened.counted k low (subst (λ (n : ℕ). k < log.gate_at + LOG_HEADER_WORDS + n) used high);
        table = λ k placing. table.each k placing;
      }

  -- ---- what it gives

  gives : (k : ℕ) → given_now k ≡ write k
  gives k =
      ap (λ (l : Log). new_value place l k) r.opened.says
      ∙ r.given place (λ n d below. places.each (get_or es n d).address (length (get_or es n d).vals) (r.own n d below).may) k

  -- So it writes only its gate and words to which it gives values.
  pub named_settled : (fault : Option HostFault) (b : State) → SettlesLog (Puddles F) log.gate_at fault a b → Changes (ByLog log.gate_at write) fault a b
  named_settled fault b s =
      Changes-wider (ByLog log.gate_at given_now) (ByLog log.gate_at write) fault a b
      (λ k v by. elim by [ inl here ↦ inl here | inr named ↦ inr (record { value = named.value; is = sym (gives k) ∙ named.is }) ]) s.changes

  -- The gate gets no value but that of a closed log.
  pub shut_settled : (fault : Option HostFault) (b : State) → SettlesLog (Puddles F) log.gate_at fault a b → Leaves (Silently (IsSettling (Puddles F) log.gate_at a.now.words)) a b
      → Changes (ByShutting log.gate_at write) fault a b
  shut_settled fault b s moments =
      Changes-narrow (IsSettling (Puddles F) log.gate_at a.now.words) (ByLog log.gate_at write) (ByShutting log.gate_at write) fault a b
      (λ image p k by. elim by [
        | inr named ↦ inr (inr named)
        | inl here ↦ elim p.closing.gate [
          | inl gate ↦ inl (subst (λ (n : ℕ). Has (values_of (a.now.words n)) (image n)) (sym here) (subst (Has (values_of (a.now.words log.gate_at))) (sym gate) (p.picked.each log.gate_at)))
          | inr shut ↦ inr (inl (here, ap image here ∙ shut.0))
        ]
      ])
      (λ k none v by. elim by [ inl here ↦ none CLOSED_GATE (inl (here, refl)) | inr named ↦ none v (inr named) ])
      (named_settled fault b s) moments

  module _ (image : Image) (p : IsSettling (Puddles F) log.gate_at a.now.words image) where
    gives_before : (k : ℕ) → new_values (Puddles F) log.gate_at p.before k ≡ write k
    gives_before k = ap (λ (w : ℕ → Option ℕ). w k) (new_values_picked (Puddles F) log.gate_at a.now.words p.before durable_log p.picked) ∙ gives k

    -- An own word to which no value is given is as it was.
    not_given : (k : ℕ) → g.has_word k ≡ true → write k ≡ None → image k ≡ values k
    not_given k mine none = p.closing.stays k (mine_apart size log.gate_at g k scope mine) (gives_before k ∙ none) ∙ (r.single k mine none).each (p.before k) (p.picked.each k)

    -- If the gate is as it was, the log is the same.
    says_still : image log.gate_at ≡ p.before log.gate_at → log_of image log.gate_at ≡ saying log es
    says_still gate =
        IsOpen-log_by log es a.now.words image r.opened (gate ∙ r.opened.gate.each (p.before log.gate_at) (p.picked.each log.gate_at))
        (λ k low high.
        let within = (IsOpen-fits log es a.now.words r.opened).used_within in
        let inside : IsInLog log.gate_at k = record { low = omega arith; high = omega arith } in
        p.closing.stays k (λ here. absurd (omega arith))
        (gives_before k ∙ sym (gives k) ∙ new_values-apart (Puddles F) size log.gate_at es (reads a.now.words) replayable k inside)
        ∙ (r.opened.counted k low high).each (p.before k) (p.picked.each k))

    recovers : RecoversTo g log.gate_at values image
    recovers = elim p.closing.gate [
      | inl gate ↦ RecoversTo-given g log es write values image r.own (says_still gate) (r.given g.place (λ n d below. refl)) (λ k v mine is. r.saves k v is) not_given
      | inr shut ↦ RecoversTo-idle g log.gate_at values image (ap is_idle_gate shut.0)
          (λ k mine. by_given (write k) (image k) (values k) (λ v is. shut.1 k v (gives_before k ∙ is) ∙ r.saves k v is) (not_given k mine))
    ]

    shut : IsShut g log.gate_at (gate_word log.lo log.hi log.used) values image
    shut = record {
      recovers = recovers;
      gate = elim p.closing.gate [ inl gate ↦ inl (gate ∙ r.opened.gate.each (p.before log.gate_at) (p.picked.each log.gate_at)) | inr closed ↦ inr closed.0 ];
    }

  pub AbortsTransaction-settled : (fault : Option HostFault) (b : State) → SettlesLog (Puddles F) log.gate_at fault a b → Leaves (Silently (IsSettling (Puddles F) log.gate_at a.now.words)) a b
      → AbortsTransaction g log.gate_at values fault a b
  AbortsTransaction-settled fault b s moments =
      record {
        changes = Changes-wider (ByLog log.gate_at given_now) (ByTransaction g log.gate_at) fault a b (λ k v by. elim by [
          | inl here ↦ inl (record { low = omega arith; high = omega arith })
          | inr named ↦ inr (r.has_word k named.value (sym (gives k) ∙ named.is))
        ]) s.changes;
        moments = Leaves-weaker (Silently (IsSettling (Puddles F) log.gate_at a.now.words)) (Silently (RecoversTo g log.gate_at values)) a b (λ bytes image p. (p.0, recovers image p.1)) moments;
        durable = λ none k mine. durable_by (write k) (b.now.words k) (values k) (r.saves k)
            (λ v is. s.durable none k v (gives k ∙ is))
            (λ free. HasOnly-kept (ByLog log.gate_at given_now) fault a b k (values k) s.changes
            (λ x by. elim by [
              | inl here ↦ mine_apart size log.gate_at g k scope mine here
              | inr named ↦ absurd (let it : None ≡ Some named.value = sym (gives k ∙ free) ∙ named.is in cc)
            ]) (r.single k mine free));
        closed = s.closed;
      }

  pub Shuts-settled : (fault : Option HostFault) (b : State) → SettlesLog (Puddles F) log.gate_at fault a b → Leaves (Silently (IsSettling (Puddles F) log.gate_at a.now.words)) a b
      → Shuts g log.gate_at (gate_word log.lo log.hi log.used) values fault a b
  Shuts-settled fault b s moments =
      record {
        closes = AbortsTransaction-settled fault b s moments;
        moments = Leaves-weaker (Silently (IsSettling (Puddles F) log.gate_at a.now.words)) (Silently (IsShut g log.gate_at (gate_word log.lo log.hi log.used) values)) a b
            (λ bytes image p. (p.0, shut image p.1)) moments;
      }
