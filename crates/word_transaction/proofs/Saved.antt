-- What the entries of a transaction give to each word, while its log is running.
use Rattle.std.proofs.Common.{◌≡◌, ◌⊎◌, inl, inr, ℕ, zero, suc, ◌+◌, ◌-◌, ◌≤◌, true, false, ◌&&◌, cond, ltb, leb, eqb, List, [], ◌∷◌, ◌++◌, length, get_or, Option, Some, None, refl, sym, ap, ap₂, ◌∙◌, arith}
use Rattle.std.specs.Prelude.{All, slice_get}
use Rattle.std.specs.Option.{option_or}
use Rattle.std.proofs.lemmas.Bool.{cond-true, cond-false, cases_Bool, le-leb}
use Rattle.std.proofs.lemmas.Bool.Decides.{nat_tests}
use Rattle.std.proofs.lemmas.List.Elements.{All-head, All-tail}
use Rattle.pm_model.specs.Changes.{placed}
use Rattle.pm_persist.proofs.Ranges.{placed_at, placed_within}
use Rattle.pud_defs.specs.declared.log_words.TheConstants.{UNDO_ORDER, REDO_ORDER, RUNNING_LO, RUNNING_HI}
use Rattle.pud_defs.specs.Formats.Image.{Image}
use Rattle.pud_defs.specs.Logging.Entries.{Entry, Log, words_from}
use Rattle.pud_defs.specs.Logging.Replay.{AddressMap, is_in_range, value_from, value_in, given_by, undo_value, redo_value, new_value}
use Rattle.pud_defs.proofs.Logging.Replay.{undo_value-first, undo_value-none, undo_value-append, redo_value-first, redo_value-none, given_by-out, given_by-other, new_value-of, or_none}
use Rattle.log_store.specs.Store.{undo_entry}
use Rattle.word_transaction.specs.Scope.{Scope, IsScope, IsInScope, redo_entry, running_range, committing_range, saved, pending}
use Rattle.word_transaction.specs.Running.{IsOneOf}

pub some_not_none : (o : Option ℕ) (v : ℕ) → o ≡ Some v → o ≡ None → ⊥
some_not_none o v is none = absurd (let it : Some v ≡ None = sym is ∙ none in cc)

-- ---- which entries count

-- Only the range tells which entries count.
pub given_by-range : (place : AddressMap) (l m : Log) (order : ℕ) (e : Entry) (k : ℕ) → l.lo ≡ m.lo → l.hi ≡ m.hi → given_by place l order e k ≡ given_by place m order e k
given_by-range place l m order e k lo hi = ap₂ (λ (a b : ℕ). cond ((ltb a e.seq && ltb e.seq b) && eqb e.order order) (value_in place e k) None) lo hi

pub undo_value-range : (place : AddressMap) (l m : Log) (es : List Entry) (k : ℕ) → l.lo ≡ m.lo → l.hi ≡ m.hi → undo_value place l es k ≡ undo_value place m es k
undo_value-range place l m [] k lo hi = undo_value-none place l k ∙ sym (undo_value-none place m k)
undo_value-range place l m (e ∷ es) k lo hi =
    undo_value-first place l e es k ∙ ap₂ option_or (given_by-range place l m UNDO_ORDER e k lo hi) (undo_value-range place l m es k lo hi) ∙ sym (undo_value-first place m e es k)

after_range : (lo hi seq : ℕ) → hi ≤ seq → (ltb lo seq && ltb seq hi) ≡ false
after_range lo hi seq following = grind (arith, nat_tests)

-- A running log gives nothing by the redo entries of a transaction.
given_by-redo : (g : Scope) (place : AddressMap) (log : Log) (e : Entry) (k : ℕ) → log.hi ≡ RUNNING_HI → IsInScope g e → given_by place log REDO_ORDER e k ≡ None
given_by-redo g place log e k hi own = elim own.kind [
  | inl undo ↦ given_by-other place log REDO_ORDER e k (λ order. let is = undo.order in absurd (omega arith))
  | inr redo ↦ given_by-out place log REDO_ORDER e k (let is = redo.seq in after_range log.lo log.hi e.seq (omega arith))
]

redo_value-running : (g : Scope) (place : AddressMap) (log : Log) (es : List Entry) (k : ℕ) → log.hi ≡ RUNNING_HI → All (IsInScope g) es → redo_value place log es k ≡ None
redo_value-running g place log [] k hi own = redo_value-none place log k
redo_value-running g place log (e ∷ es) k hi own =
    redo_value-first place log e es k
    ∙ ap₂ option_or (redo_value-running g place log es k hi (All-tail (IsInScope g) e es own)) (given_by-redo g place log e k hi (All-head (IsInScope g) e es own))

-- A running log gives the values that are saved.
pub new_value-running : (g : Scope) (place : AddressMap) (log : Log) (es : List Entry) (k : ℕ) → log.lo ≡ RUNNING_LO → log.hi ≡ RUNNING_HI → log.entries ≡ Some es → All (IsInScope g) es
    → new_value place log k ≡ saved place es k
new_value-running g place log es k lo hi entries own =
    new_value-of place log es k entries ∙ ap₂ option_or (redo_value-running g place log es k hi own) (undo_value-range place log running_range es k lo hi)

-- ---- which words are saved

-- An entry gives values only to words that it names.
pub value_of_given : (place : AddressMap) (log : Log) (order : ℕ) (e : Entry) (k v : ℕ) → given_by place log order e k ≡ Some v → value_in place e k ≡ Some v
value_of_given place log order e k v is = elim (cases_Bool (is_in_range log e && eqb e.order order)) [
  | inl counts ↦ sym (cond-true _ _ _ counts) ∙ is
  | inr other ↦ absurd (some_not_none _ v is (cond-false _ _ _ other))
]

-- A word that an entry of the transaction names is one of its own words.
named_is_mine : (size at : ℕ) (g : Scope) (e : Entry) (k v : ℕ) → IsScope size at g → IsInScope g e → value_in g.place e k ≡ Some v → g.has_word k ≡ true
named_is_mine size at g e k v scope own is =
    let spans = scope.named e.address (length e.vals) own.may in
    let within = placed_within spans.first k v e.vals (sym (ap (λ (o : Option ℕ). value_from o e.vals k) spans.placed) ∙ is) in
    spans.own k within.0 within.1

-- If one of two options has a value, it is the first's, or the second's and the first has none.
pub either_some : (a b : Option ℕ) (v : ℕ) → option_or a b ≡ Some v → (a ≡ Some v) ⊎ ((a ≡ None) × (b ≡ Some v))
either_some None b v is = inr (refl, is)
either_some (Some x) b v is = inl is

-- A word to which a log gives a value by undo entries is one of the transaction's own.
pub undo_value_in_scope : (size at : ℕ) (g : Scope) (log : Log) (es : List Entry) (k v : ℕ) → IsScope size at g → All (IsInScope g) es → undo_value g.place log es k ≡ Some v → g.has_word k ≡ true
undo_value_in_scope size at g log [] k v scope own is = absurd (some_not_none _ v is (undo_value-none g.place log k))
undo_value_in_scope size at g log (e ∷ es) k v scope own is =
    elim (either_some (given_by g.place log UNDO_ORDER e k) (undo_value g.place log es k) v (sym (undo_value-first g.place log e es k) ∙ is)) [
      | inl first ↦ named_is_mine size at g e k v scope (All-head (IsInScope g) e es own) (value_of_given g.place log UNDO_ORDER e k v first)
      | inr later ↦ undo_value_in_scope size at g log es k v scope (All-tail (IsInScope g) e es own) later.1
    ]

-- A word to which a log gives a value by redo entries is one of the transaction's own, too.
pub redone_is_mine : (size at : ℕ) (g : Scope) (log : Log) (es : List Entry) (k v : ℕ) → IsScope size at g → All (IsInScope g) es → redo_value g.place log es k ≡ Some v → g.has_word k ≡ true
redone_is_mine size at g log [] k v scope own is = absurd (some_not_none _ v is (redo_value-none g.place log k))
redone_is_mine size at g log (e ∷ es) k v scope own is =
    elim (either_some (redo_value g.place log es k) (given_by g.place log REDO_ORDER e k) v (sym (redo_value-first g.place log e es k) ∙ is)) [
      | inl later ↦ redone_is_mine size at g log es k v scope (All-tail (IsInScope g) e es own) later
      | inr here ↦ named_is_mine size at g e k v scope (All-head (IsInScope g) e es own) (value_of_given g.place log REDO_ORDER e k v here.1)
    ]

pub saved_is_mine : (size at : ℕ) (g : Scope) (es : List Entry) (k v : ℕ) → IsScope size at g → All (IsInScope g) es → saved g.place es k ≡ Some v → g.has_word k ≡ true
saved_is_mine size at g es k v scope own is = undo_value_in_scope size at g running_range es k v scope own is

pub pending_is_mine : (size at : ℕ) (g : Scope) (es : List Entry) (k v : ℕ) → IsScope size at g → All (IsInScope g) es → pending g.place es k ≡ Some v → g.has_word k ≡ true
pending_is_mine size at g es k v scope own is = redone_is_mine size at g committing_range es k v scope own is

-- ---- entries after others

pub saved-append : (place : AddressMap) (es more : List Entry) (k : ℕ) → saved place (es ++ more) k ≡ option_or (saved place es k) (saved place more k)
saved-append place es more k = undo_value-append place running_range es more k

-- If both together have no value, neither of them has one.
pub or_first_none : (a b : Option ℕ) → option_or a b ≡ None → a ≡ None
or_first_none None b none = refl
or_first_none (Some x) b none = none

pub or_second_none : (a b : Option ℕ) → option_or a b ≡ None → b ≡ None
or_second_none None b none = none
or_second_none (Some x) b none = absurd (cc)

pub saved-none_first : (place : AddressMap) (es more : List Entry) (k : ℕ) → saved place (es ++ more) k ≡ None → saved place es k ≡ None
saved-none_first place es more k none = or_first_none (saved place es k) (saved place more k) (sym (saved-append place es more k) ∙ none)

pub saved-none_more : (place : AddressMap) (es more : List Entry) (k : ℕ) → saved place (es ++ more) k ≡ None → saved place more k ≡ None
saved-none_more place es more k none = or_second_none (saved place es k) (saved place more k) (sym (saved-append place es more k) ∙ none)

-- ---- by one entry

-- An undo entry saves its values, from its first word on.
pub saved-one : (place : AddressMap) (address first k : ℕ) (vals : List ℕ) → place address ≡ Some first → saved place (undo_entry address vals ∷ []) k ≡ placed first vals k
saved-one place address first k vals is =
    undo_value-first place running_range (undo_entry address vals) [] k
    ∙ ap (option_or (value_from (place address) vals k)) (undo_value-none place running_range k)
    ∙ sym (or_none (value_from (place address) vals k))
    ∙ ap (λ (o : Option ℕ). value_from o vals k) is

-- A redo entry saves nothing.
pub saved-redo : (place : AddressMap) (address k : ℕ) (vals : List ℕ) → saved place (redo_entry address vals ∷ []) k ≡ None
saved-redo place address k vals = undo_value-first place running_range (redo_entry address vals) [] k ∙ undo_value-none place running_range k

-- So an undo entry saves each of its words.
pub saved_by_one : (place : AddressMap) (address first k : ℕ) (vals : List ℕ) → place address ≡ Some first → IsOneOf first (length vals) k → saved place (undo_entry address vals ∷ []) k ≡ None → ⊥
saved_by_one place address first k vals is one none =
    let low = one.0 in
    let high = one.1 in
    let here : placed first vals k ≡ Some (get_or vals (k - first) 0) = placed_at first (k - first) k vals (omega arith) (omega arith) in
    some_not_none (placed first vals k) _ here (sym (saved-one place address first k vals is) ∙ none)

-- ---- words of an image

words_from-get : (image : Image) (at n i v : ℕ) → slice_get (words_from image at n) i ≡ Some v → v ≡ image (at + i)
unfolding words_from
words_from-get image at zero i v is = absurd (cc)
words_from-get image at (suc n) zero v is = (let it : v ≡ image at = cc in it) ∙ ap image (let here : at ≡ at + 0 = omega arith in here)
words_from-get image at (suc n) (suc i) v is = words_from-get image (at + 1) n i v is ∙ ap image (let it : (at + 1) + i ≡ at + suc i = omega arith in it)

-- Words of an image that are placed where they were have the values of the image.
pub placed_words : (image : Image) (first count k v : ℕ) → placed first (words_from image first count) k ≡ Some v → v ≡ image k
placed_words image first count k v is =
    let within = placed_within first k v (words_from image first count) is in
    words_from-get image first count (k - first) v (sym (cond-true (leb first k) _ None (le-leb first k within.0)) ∙ is)
    ∙ ap image (let low = within.0 in let it : first + (k - first) ≡ k = omega arith in it)
