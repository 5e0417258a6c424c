-- The deferred values of a transaction, and what an image with a committing log recovers to.
use Rattle.std.proofs.Common.{◌≡◌, ◌⊎◌, inl, inr, ℕ, Bool, true, false, ◌&&◌, ◌||◌, ltb, eqb, List, [], ◌∷◌, ◌++◌, Option, Some, None, refl, sym, ap, ap₂, ◌∙◌, arith, eq-eqb}
use Rattle.std.specs.Prelude.{All, unwrap_or}
use Rattle.std.specs.Option.{option_or}
use Rattle.std.proofs.lemmas.Bool.{cases_Bool, cond-true, cond-false, or_parts}
use Rattle.std.proofs.lemmas.List.{append-nil}
use Rattle.std.proofs.lemmas.List.Elements.{All-head, All-tail, filter-append}
use Rattle.pud_defs.specs.declared.log_words.TheConstants.{UNDO_ORDER, REDO_ORDER, COMMITTING_LO, COMMITTING_HI}
use Rattle.pud_defs.specs.Formats.Image.{Image}
use Rattle.pud_defs.specs.Logging.Entries.{Entry, Log, log_of}
use Rattle.pud_defs.specs.Logging.Replay.{AddressMap, is_in_range, value_in, given_by, undo_value, redo_value, new_value, over, overwritten, replayed}
use Rattle.pud_defs.proofs.Logging.Replay.{undo_value-first, redo_value-first, undo_value-none, redo_value-none, given_by-out, given_by-other, or_none, new_value-of, overwritten-nothing, overwritten-then}
use Rattle.log_store.specs.Store.{OpenLog, is_redo, defers, saying, committing}
use Rattle.word_transaction.specs.Scope.{Scope, redo_entry, IsUndo, IsRedo, IsInScope, deferred_entries, written_in_turn, committing_range, pending}
use Rattle.word_transaction.specs.Running.{RecoversTo}
use Rattle.word_transaction.proofs.Saved.{given_by-range, undo_value-range}

pub redo_value-range : (place : AddressMap) (l m : Log) (es : List Entry) (k : ℕ) → l.lo ≡ m.lo → l.hi ≡ m.hi → redo_value place l es k ≡ redo_value place m es k
redo_value-range place l m [] k lo hi = redo_value-none place l k ∙ sym (redo_value-none place m k)
redo_value-range place l m (e ∷ es) k lo hi =
    redo_value-first place l e es k
    ∙ ap₂ option_or (redo_value-range place l m es k lo hi) (given_by-range place l m REDO_ORDER e k lo hi)
    ∙ sym (redo_value-first place m e es k)

-- ---- entries that give nothing in a committing log

-- An undo entry does not count there.
undo_gives_nothing : (place : AddressMap) (e : Entry) (k : ℕ) → IsUndo e → given_by place committing_range UNDO_ORDER e k ≡ None
undo_gives_nothing place e k undo = given_by-out place committing_range UNDO_ORDER e k (ap (λ (n : ℕ). ltb COMMITTING_LO n && ltb n COMMITTING_HI) undo.seq)

-- A redo entry is no undo entry.
redo_gives_nothing : (place : AddressMap) (e : Entry) (k : ℕ) → IsRedo e → given_by place committing_range UNDO_ORDER e k ≡ None
redo_gives_nothing place e k redo = given_by-other place committing_range UNDO_ORDER e k (λ undo. let h = redo.order in absurd (omega arith))

undo_value-committing : (g : Scope) (place : AddressMap) (es : List Entry) (k : ℕ) → All (IsInScope g) es → undo_value place committing_range es k ≡ None
undo_value-committing g place [] k own = undo_value-none place committing_range k
undo_value-committing g place (e ∷ es) k own =
    undo_value-first place committing_range e es k
    ∙ ap₂ option_or
    (let first : given_by place committing_range UNDO_ORDER e k ≡ None = elim (All-head (IsInScope g) e es own).kind [
      | inl undo ↦ undo_gives_nothing place e k undo
      | inr redo ↦ redo_gives_nothing place e k redo
    ] in first)
    (undo_value-committing g place es k (All-tail (IsInScope g) e es own))

-- ---- deferred values

-- Undo entries defer nothing.
pub pending-undo : (place : AddressMap) (es : List Entry) (k : ℕ) → All IsUndo es → pending place es k ≡ None
pending-undo place [] k undo = redo_value-none place committing_range k
pending-undo place (e ∷ es) k undo =
    redo_value-first place committing_range e es k
    ∙ ap₂ option_or (pending-undo place es k (All-tail IsUndo e es undo))
    (given_by-other place committing_range REDO_ORDER e k (λ redo. let h = (All-head IsUndo e es undo).order in absurd (omega arith)))

-- Entries none of which is a redo entry defer nothing.
pub pending-none : (place : AddressMap) (es : List Entry) (k : ℕ) → defers es ≡ false → pending place es k ≡ None
pending-none place [] k none = redo_value-none place committing_range k
pending-none place (e ∷ es) k none =
    let parts = or_parts (is_redo e) (defers es) none in
    redo_value-first place committing_range e es k
    ∙ ap₂ option_or (pending-none place es k parts.1) (given_by-other place committing_range REDO_ORDER e k (λ redo. absurd (let it : true ≡ false = sym (eq-eqb e.order REDO_ORDER redo) ∙ parts.0 in cc)))

-- If no values are deferred, there is no redo entry.
pub defers-none : (es : List Entry) → deferred_entries es ≡ [] → defers es ≡ false
defers-none [] none = refl
defers-none (e ∷ es) none = elim (cases_Bool (is_redo e)) [
  | inl redo ↦ absurd (let it : e ∷ deferred_entries es ≡ [] = sym (cond-true _ _ _ redo) ∙ none in cc)
  | inr other ↦ ap (λ (b : Bool). b || defers es) other ∙ defers-none es (sym (cond-false _ _ _ other) ∙ none)
]

-- If a log does not tell that values were deferred, none of its entries defers one.
pub defers-unknown : (es : List Entry) (known : Bool) → (defers es ≡ true → known ≡ true) → known ≡ false → defers es ≡ false
defers-unknown es known some none = elim (cases_Bool (defers es)) [ inl here ↦ absurd (let it : true ≡ false = sym (some here) ∙ none in cc) | inr there ↦ there ]

-- Entries that defer nothing leave the deferred values as they are.
pub deferred_entries-undo : (es more : List Entry) → deferred_entries more ≡ [] → deferred_entries (es ++ more) ≡ deferred_entries es
deferred_entries-undo es more none = filter-append is_redo es more ∙ ap (λ (l : List Entry). deferred_entries es ++ l) none ∙ append-nil (deferred_entries es)

-- A redo entry is added to the deferred ones, at the end.
pub deferred_entries-redo : (es : List Entry) (address : ℕ) (vals : List ℕ) → deferred_entries (es ++ redo_entry address vals ∷ []) ≡ deferred_entries es ++ redo_entry address vals ∷ []
deferred_entries-redo es address vals = filter-append is_redo es (redo_entry address vals ∷ [])

-- ---- one after the other

-- The values that an entry gives in a committing log are written over an image, and then those of the other entries.
one_in_turn : (place : AddressMap) (e : Entry) (es : List Entry) (image : Image) → IsUndo e ⊎ IsRedo e
    → written_in_turn place (deferred_entries es) (overwritten (given_by place committing_range REDO_ORDER e) image) ≡ written_in_turn place (deferred_entries (e ∷ es)) image
one_in_turn place e es image (inl undo) =
    let nothing : (k : ℕ) → given_by place committing_range REDO_ORDER e k ≡ None = λ k. given_by-other place committing_range REDO_ORDER e k (λ redo. let h = undo.order in absurd (omega arith)) in
    let other : is_redo e ≡ false = ap (λ (n : ℕ). eqb n REDO_ORDER) undo.order in
    ap (written_in_turn place (deferred_entries es)) (overwritten-nothing (given_by place committing_range REDO_ORDER e) image nothing)
    ∙ ap (λ (xs : List Entry). written_in_turn place xs image) (sym (cond-false (is_redo e) (e ∷ deferred_entries es) (deferred_entries es) other))
one_in_turn place e es image (inr redo) =
    let counts : (is_in_range committing_range e && eqb e.order REDO_ORDER) ≡ true = ap₂ (λ (a b : ℕ). (ltb COMMITTING_LO a && ltb a COMMITTING_HI) && eqb b REDO_ORDER) redo.seq redo.order in
    let gives : (k : ℕ) → given_by place committing_range REDO_ORDER e k ≡ value_in place e k = λ k. cond-true _ _ _ counts in
    let one : is_redo e ≡ true = ap (λ (n : ℕ). eqb n REDO_ORDER) redo.order in
    let same : given_by place committing_range REDO_ORDER e ≡ value_in place e = λ i k. gives k i in
    ap (λ (w : ℕ → Option ℕ). written_in_turn place (deferred_entries es) (overwritten w image)) same
    ∙ ap (λ (xs : List Entry). written_in_turn place xs image) (sym (cond-true (is_redo e) (e ∷ deferred_entries es) (deferred_entries es) one))

-- The deferred values written over an image are the values of the redo entries written one after the other.
pub pending-in_turn : (g : Scope) (place : AddressMap) (es : List Entry) (image : Image) → All (IsInScope g) es → overwritten (pending place es) image ≡ written_in_turn place (deferred_entries es) image
pending-in_turn g place [] image own = overwritten-nothing (pending place []) image (λ k. redo_value-none place committing_range k)
pending-in_turn g place (e ∷ es) image own =
    let each : (k : ℕ) → pending place (e ∷ es) k ≡ over (given_by place committing_range REDO_ORDER e) (pending place es) k = λ k. redo_value-first place committing_range e es k in
    let same : pending place (e ∷ es) ≡ over (given_by place committing_range REDO_ORDER e) (pending place es) = λ i k. each k i in
    ap (λ (w : ℕ → Option ℕ). overwritten w image) same
    ∙ sym (overwritten-then (given_by place committing_range REDO_ORDER e) (pending place es) image)
    ∙ pending-in_turn g place es (overwritten (given_by place committing_range REDO_ORDER e) image) (All-tail (IsInScope g) e es own)
    ∙ one_in_turn place e es image (All-head (IsInScope g) e es own).kind

-- ---- a committing log

-- A committing log gives the deferred values of its entries.
pub new_value-committing : (g : Scope) (place : AddressMap) (log : Log) (es : List Entry) (k : ℕ) → log.lo ≡ COMMITTING_LO → log.hi ≡ COMMITTING_HI → log.entries ≡ Some es → All (IsInScope g) es
    → new_value place log k ≡ pending place es k
new_value-committing g place log es k lo hi entries own =
    new_value-of place log es k entries
    ∙ ap₂ option_or (redo_value-range place log committing_range es k lo hi) (undo_value-range place log committing_range es k lo hi ∙ undo_value-committing g place es k own)
    ∙ sym (or_none (pending place es k))

-- An image recovers to the deferred values, written over the values of the transaction's own words.
pub RecoversTo-committing : (g : Scope) (log : OpenLog) (es : List Entry) (was image : Image) → All (IsInScope g) es → log_of image log.gate_at ≡ saying (committing log) es
    → ((k : ℕ) → g.has_word k ≡ true → image k ≡ was k) → RecoversTo g log.gate_at (overwritten (pending g.place es) was) image
RecoversTo-committing g log es was image own says same =
    record {
      es = es;
      spells = ap (λ (l : Log). l.entries) says;
      own = λ n d below counts. own n d below;
      settled = λ k mine.
          ap (λ (l : Log). replayed g.place l image k) says
          ∙ ap₂ unwrap_or (new_value-committing g g.place (saying (committing log) es) es k refl refl refl own) (same k mine);
    }
