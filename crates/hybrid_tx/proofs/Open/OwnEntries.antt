-- What the entries of a transaction give to words, over places that agree with its own: they give values to own words
-- alone, whatever the log's range.
use Rattle.std.proofs.Common.{◌≡◌, ◌⊎◌, inl, inr, ℕ, true, List, [], ◌∷◌, length, get_or, Option, Some, None, refl, sym, ap, ap₂, subst, ◌∙◌}
use Rattle.std.specs.Prelude.{All}
use Rattle.std.specs.List.{filter}
use Rattle.std.specs.Option.{option_or}
use Rattle.std.proofs.lemmas.Bool.{cases_Bool, cond-true, cond-false}
use Rattle.std.proofs.lemmas.List.Elements.{All-nil, All-cons, All-head, All-tail}
use Rattle.pud_defs.specs.declared.log_words.TheConstants.{UNDO_ORDER, REDO_ORDER}
use Rattle.pud_defs.specs.Logging.Entries.{Entry, Log}
use Rattle.pud_defs.specs.Logging.Replay.{AddressMap, is_in_range, given_by, undo_value, redo_value, given, new_value}
use Rattle.pud_defs.proofs.Logging.Replay.{undo_value-first, redo_value-first, given_by-out, or_none, new_value-of}
use Rattle.word_transaction.specs.Scope.{Scope, IsScope, IsInScope}
use Rattle.word_transaction.specs.Running.{HasPlaces}
use Rattle.word_transaction.proofs.Saved.{undo_value_in_scope, redone_is_mine}
use Rattle.word_transaction.proofs.Growing.{undo_value-places, redo_value-places}

-- ---- only entries in range count

-- if the entry counts in the log, the transaction may write it
abbrev pub IsOwnInRange : Scope → Log → Entry → Type 0
IsOwnInRange g log e = is_in_range log e ≡ true → IsInScope g e

-- the entries that count
abbrev counted : Log → List Entry → List Entry
counted log es = filter (is_in_range log) es

counted_own : (g : Scope) (log : Log) (es : List Entry) → All (IsOwnInRange g log) es → All (IsInScope g) (counted log es)
counted_own g log [] own = All-nil (IsInScope g)
counted_own g log (e ∷ es) own =
    let rest = counted_own g log es (All-tail (IsOwnInRange g log) e es own) in
    elim (cases_Bool (is_in_range log e)) [
      | inl inside ↦ subst (λ (xs : List Entry). All (IsInScope g) xs) (sym (cond-true _ _ _ inside)) (All-cons (IsInScope g) e (counted log es) (All-head (IsOwnInRange g log) e es own inside) rest)
      | inr out ↦ subst (λ (xs : List Entry). All (IsInScope g) xs) (sym (cond-false _ _ _ out)) rest
    ]

undo_value-counted : (place : AddressMap) (log : Log) (es : List Entry) (w : ℕ) → undo_value place log es w ≡ undo_value place log (counted log es) w
undo_value-counted place log [] w = refl
undo_value-counted place log (e ∷ es) w = elim (cases_Bool (is_in_range log e)) [
  | inl inside ↦
      undo_value-first place log e es w
      ∙ ap (option_or (given_by place log UNDO_ORDER e w)) (undo_value-counted place log es w)
      ∙ sym (undo_value-first place log e (counted log es) w)
      ∙ ap (λ (xs : List Entry). undo_value place log xs w) (sym (cond-true _ _ _ inside))
  | inr out ↦
      undo_value-first place log e es w
      ∙ ap₂ option_or (given_by-out place log UNDO_ORDER e w out) (undo_value-counted place log es w)
      ∙ ap (λ (xs : List Entry). undo_value place log xs w) (sym (cond-false _ _ _ out))
]

redo_value-counted : (place : AddressMap) (log : Log) (es : List Entry) (w : ℕ) → redo_value place log es w ≡ redo_value place log (counted log es) w
redo_value-counted place log [] w = refl
redo_value-counted place log (e ∷ es) w = elim (cases_Bool (is_in_range log e)) [
  | inl inside ↦
      redo_value-first place log e es w
      ∙ ap (λ (o : Option ℕ). option_or o (given_by place log REDO_ORDER e w)) (redo_value-counted place log es w)
      ∙ sym (redo_value-first place log e (counted log es) w)
      ∙ ap (λ (xs : List Entry). redo_value place log xs w) (sym (cond-true _ _ _ inside))
  | inr out ↦
      redo_value-first place log e es w
      ∙ ap₂ option_or (redo_value-counted place log es w) (given_by-out place log REDO_ORDER e w out)
      ∙ sym (or_none (redo_value place log (counted log es) w))
      ∙ ap (λ (xs : List Entry). redo_value place log xs w) (sym (cond-false _ _ _ out))
]

new_value-counted : (place : AddressMap) (log : Log) (es : List Entry) (w : ℕ) → log.entries ≡ Some es → new_value place log w ≡ given place log (counted log es) w
new_value-counted place log es w are = new_value-of place log es w are ∙ ap₂ option_or (redo_value-counted place log es w) (undo_value-counted place log es w)

-- ---- what they give

-- over places that agree, the log gives the same values
pub new_value_placed : (g : Scope) (place : AddressMap) (log : Log) → HasPlaces g place → (es : List Entry) (w : ℕ) → log.entries ≡ Some es → All (IsOwnInRange g log) es
    → new_value place log w ≡ new_value g.place log w
new_value_placed g place log places es w are own =
    let counts = counted log es in
    let all = counted_own g log es own in
    let same : All (λ e. place e.address ≡ g.place e.address) counts = λ n d below. places.each (get_or counts n d).address (length (get_or counts n d).vals) (all n d below).may in
    new_value-counted place log es w are ∙ ap₂ option_or (redo_value-places g.place place log counts w same) (undo_value-places g.place place log counts w same) ∙ sym (new_value-counted g.place log es w are)

pub either_of : {A : Type 0} (a b : Option A) (v : A) → option_or a b ≡ Some v → (a ≡ Some v) ⊎ (b ≡ Some v)
either_of None b v is = inr is
either_of (Some x) b v is = inl is

-- the log gives values to own words alone
pub new_value_own : (size at : ℕ) (g : Scope) (log : Log) → IsScope size at g → (w v : ℕ) (es : List Entry) → log.entries ≡ Some es → All (IsOwnInRange g log) es → new_value g.place log w ≡ Some v → g.has_word w ≡ true
new_value_own size at g log scope w v es are own is =
    let counts = counted log es in
    let all = counted_own g log es own in
    elim (either_of (redo_value g.place log counts w) (undo_value g.place log counts w) v (sym (new_value-counted g.place log es w are) ∙ is)) [
      | inl later ↦ redone_is_mine size at g log counts w v scope all later
      | inr first ↦ undo_value_in_scope size at g log counts w v scope all first
    ]
