-- Words that the entries of a transaction cover by their addresses are saved.
use Rattle.std.proofs.Common.{◌≡◌, inl, inr, ℕ, ◌+◌, ◌-◌, ◌*◌, ◌/◌, ◌%◌, ◌<◌, ◌≤◌, true, ◌&&◌, leb, ltb, eqb, List, [], ◌∷◌, length, get_or, Option, Some, None, sym, ap, ◌∙◌, arith}
use Rattle.std.specs.Prelude.{All}
use Rattle.std.proofs.lemmas.Bool.{and_parts, and_from, or_cases, cond-true, leb-true, ltb-true, eqb-true, lt-ltb, eq-eqb}
use Rattle.std.proofs.lemmas.List.Elements.{All-head, All-tail}
use Rattle.pm_persist.proofs.Ranges.{placed_at}
use Rattle.pud_defs.specs.declared.log_words.TheConstants.{UNDO_ORDER, RUNNING_LO, RUNNING_HI}
use Rattle.pud_defs.specs.declared.space.TheConstants.{WORD_BYTES}
use Rattle.pud_defs.specs.Logging.Entries.{Entry}
use Rattle.pud_defs.specs.Logging.Replay.{is_in_range, value_from, value_in, given_by}
use Rattle.pud_defs.proofs.RegistryTables.Spaces.{all_below-each}
use Rattle.pud_defs.proofs.Logging.Replay.{undo_value-first}
use Rattle.word_transaction.specs.Scope.{Scope, IsScope, IsInScope, running_range, saved}
use Rattle.word_transaction.specs.Coverage.{covers, is_covered, are_covered}
use Rattle.word_transaction.specs.Running.{IsOneOf}
use Rattle.word_transaction.proofs.Saved.{some_not_none, or_first_none, or_second_none}

-- what the test tells: the entry is an undo entry, and the address is that of one of its words
pub record IsWordOf (address : ℕ) (e : Entry) : Type 0 where
  pub order : e.order ≡ UNDO_ORDER
  pub i : ℕ
  pub below : i < length e.vals
  pub is : e.address + WORD_BYTES * i ≡ address

pub word_of : (address : ℕ) (e : Entry) → covers address e ≡ true → IsWordOf address e
word_of address e told =
    let last = and_parts (eqb e.order UNDO_ORDER && leb e.address address && eqb ((address - e.address) % WORD_BYTES) 0) (ltb ((address - e.address) / WORD_BYTES) (length e.vals)) told in
    let third = and_parts (eqb e.order UNDO_ORDER && leb e.address address) (eqb ((address - e.address) % WORD_BYTES) 0) last.0 in
    let second = and_parts (eqb e.order UNDO_ORDER) (leb e.address address) third.0 in
    let following : e.address ≤ address = leb-true _ _ second.1 in
    let whole : (address - e.address) % WORD_BYTES ≡ 0 = eqb-true _ _ third.1 in
    record { order = eqb-true _ _ second.0; i = (address - e.address) / WORD_BYTES; below = ltb-true _ _ last.1; is = omega arith }

-- An undo entry of a transaction counts while the log is running.
counts : (g : Scope) (e : Entry) → IsInScope g e → e.order ≡ UNDO_ORDER → is_in_range running_range e ≡ true
counts g e own order = elim own.kind [
  | inl undo ↦ let seq = undo.seq in and_from _ _ (lt-ltb RUNNING_LO e.seq (omega arith)) (lt-ltb e.seq RUNNING_HI (omega arith))
  | inr redo ↦ absurd (let other = redo.order in omega arith)
]

-- An entry that covers an address has a value for the word that the address names.
given_there : (size at : ℕ) (g : Scope) (e : Entry) (address k : ℕ) → IsScope size at g → IsInScope g e → covers address e ≡ true → g.place address ≡ Some k
    → given_by g.place running_range UNDO_ORDER e k ≡ None → ⊥
given_there size at g e address k scope own told place none =
    let w = word_of address e told in
    let spans = scope.named e.address (length e.vals) own.may in
    let same : Some (spans.first + w.i) ≡ Some k = sym (spans.each w.i w.below) ∙ ap g.place w.is ∙ place in
    let here : spans.first + w.i ≡ k = cc in
    let value : value_in g.place e k ≡ Some (get_or e.vals w.i 0) = ap (λ (o : Option ℕ). value_from o e.vals k) spans.placed ∙ placed_at spans.first w.i k e.vals (sym here) w.below in
    some_not_none (given_by g.place running_range UNDO_ORDER e k) (get_or e.vals w.i 0)
    (cond-true _ _ _ (and_from (is_in_range running_range e) (eqb e.order UNDO_ORDER) (counts g e own w.order) (let order = w.order in eq-eqb e.order UNDO_ORDER order)) ∙ value) none

-- A word whose address is covered is saved.
pub covered_is_saved : (size at : ℕ) (g : Scope) (es : List Entry) (address k : ℕ) → IsScope size at g → All (IsInScope g) es → is_covered es address ≡ true → g.place address ≡ Some k
    → saved g.place es k ≡ None → ⊥
covered_is_saved size at g [] address k scope own told place none = absurd (cc)
covered_is_saved size at g (e ∷ es) address k scope own told place none =
    let either = sym (undo_value-first g.place running_range e es k) ∙ none in
    elim (or_cases (covers address e) (is_covered es address) told) [
      | inl here ↦ given_there size at g e address k scope (All-head (IsInScope g) e es own) here place (or_first_none _ _ either)
      | inr later ↦ covered_is_saved size at g es address k scope (All-tail (IsInScope g) e es own) later place (or_second_none _ _ either)
    ]

-- If each of some words is covered, each of them is saved.
pub covered_are_saved : (size at : ℕ) (g : Scope) (es : List Entry) (address first count k : ℕ) → IsScope size at g → All (IsInScope g) es → g.may_name address count ≡ true → g.place address ≡ Some first
    → are_covered es address count ≡ true → IsOneOf first count k → saved g.place es k ≡ None → ⊥
covered_are_saved size at g es address first count k scope own may place told one none =
    let spans = scope.named address count may in
    let same : Some spans.first ≡ Some first = sym spans.placed ∙ place in
    let is_first : spans.first ≡ first = cc in
    let low = one.0 in
    let high = one.1 in
    let i = k - first in
    let below : i < count = omega arith in
    let here : spans.first + i ≡ k = omega arith in
    covered_is_saved size at g es (address + WORD_BYTES * i) k scope own (all_below-each count (λ j. is_covered es (address + WORD_BYTES * j)) told i below) (spans.each i below ∙ ap Some here) none

-- The same for the one word of an address.
pub covered_one_is_saved : (size at : ℕ) (g : Scope) (es : List Entry) (address first k : ℕ) → IsScope size at g → All (IsInScope g) es → g.may_name address 1 ≡ true → g.place address ≡ Some first
    → are_covered es address 1 ≡ true → k ≡ first → saved g.place es k ≡ None → ⊥
covered_one_is_saved size at g es address first k scope own may place told is none =
    covered_are_saved size at g es address first 1 k scope own may place told (omega arith, omega arith) none
