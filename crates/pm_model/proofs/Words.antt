-- What a step adds to the values of words.
use Rattle.std.proofs.Common.{◌≡◌, ◌⊎◌, inl, inr, ℕ, ◌/◌, Bool, true, false, cond, eqb, List, [], ◌∷◌, ◌++◌, Some, None, refl, sym, ap, subst, ◌∙◌}
use Rattle.std.proofs.lemmas.Bool.{cases_eq, ne_eqb, eq-eqb}
use Rattle.pm_model.specs.Words.{Has, Cell, values, stored, marked, fenced, Words, Image, after_store, after_flush, reads, Picks, HasOnly, IsRested}
use Rattle.pm_model.specs.Changes.{IsKept, written, only}
use Rattle.pm_model.proofs.Has.{Has-append_cases, Has-append_left}

-- What the device reads is an image that a power loss may leave.
pub Picks-reads : (words : Words) → Picks words (reads words)
Picks-reads words = record { each = λ k. inl refl }

-- A power loss of a rested device leaves what the device reads, and nothing else.
pub reads_only : (words : Words) (image : Image) → IsRested words → Picks words image → image ≡ reads words
reads_only words image rested picked = λ i k. ((rested.each k).each (image k) (picked.each k)) i

pub HasOnly-newest : (c : Cell) (v : ℕ) → HasOnly c v → c.newest ≡ v
HasOnly-newest c v h = h.each c.newest (inl refl)

pub values-fenced : (c : Cell) (x : ℕ) → Has (values (fenced c)) x → Has (values c) x
values-fenced c x (inl e) = inl e
values-fenced c x (inr h) = inr (Has-append_left c.kept c.passed x (elim (Has-append_cases c.kept [] x h) [ inl a ↦ a | inr b ↦ absurd b ]))

-- If the newest value of a word is marked, the word has no other value after a fence.
pub HasOnly-fenced : (c : Cell) (v : ℕ) → c.newest ≡ v → c.kept ≡ [] → HasOnly (fenced c) v
HasOnly-fenced c v newest kept =
    record { each = λ x h. elim (let h2 : Has (c.newest ∷ [] ++ []) x = subst (λ (l : List ℕ). Has (c.newest ∷ l ++ []) x) kept h in h2) [ inl e ↦ e ∙ newest | inr n ↦ absurd n ] }

pub store_adds : (w v : ℕ) (words : Words) (k x : ℕ) → Has (values (after_store w v words k)) x → Has (values (words k)) x ⊎ written (only w v) k x
store_adds w v words k x =
    elim (eqb k w) as (λ b. Has (values (cond b (stored v (words k)) (words k))) x → Has (values (words k)) x ⊎ (cond b (Some v) None ≡ Some x)) [
      | true ↦ λ h. elim h [ inl e ↦ inr (ap Some (sym e)) | inr old ↦ inl old ]
      | false ↦ λ h. inl h
    ]

pub flush_adds : (line : ℕ) (words : Words) (k x : ℕ) → Has (values (after_flush line words k)) x → Has (values (words k)) x
flush_adds line words k x =
    elim (eqb (k / 8) line) as (λ b. Has (values (cond b (marked (words k)) (words k))) x → Has (values (words k)) x) [ true ↦ λ h. h | false ↦ λ h. h ]

pub store_keeps : (w v : ℕ) (words : Words) (k : ℕ) → ((x : ℕ) → written (only w v) k x → ⊥) → IsKept (words k) (after_store w v words k)
store_keeps w v words k =
    elim (eqb k w) as (λ b. ((x : ℕ) → cond b (Some v) None ≡ Some x → ⊥) → IsKept (words k) (cond b (stored v (words k)) (words k))) [
      | true ↦ λ none. absurd (none v refl)
      | false ↦ λ none. record { newest = refl; marked = λ m. m }
    ]

pub flush_keeps : (line : ℕ) (words : Words) (k : ℕ) → IsKept (words k) (after_flush line words k)
flush_keeps line words k =
    elim (eqb (k / 8) line) as (λ b. IsKept (words k) (cond b (marked (words k)) (words k))) [
      | true ↦ record { newest = refl; marked = λ m. refl }
      | false ↦ record { newest = refl; marked = λ m. m }
    ]

pub only_at : (w v k x : ℕ) → only w v k ≡ Some x → k ≡ w
only_at w v k x is = elim (cases_eq k w) [
  | inl same ↦ same
  | inr other ↦ absurd (let no : None ≡ Some x = sym (ap (λ (b : Bool). cond b (Some v) None) (ne_eqb k w other)) ∙ is in cc)
]

pub stored_newest : (w v : ℕ) (words : Words) (k x : ℕ) → only w v k ≡ Some x → (after_store w v words k).newest ≡ x
stored_newest w v words k x =
    elim (eqb k w) as (λ b. cond b (Some v) None ≡ Some x → (cond b (stored v (words k)) (words k)).newest ≡ x) [ true ↦ λ e. cc | false ↦ λ e. cc ]

pub flushed_newest : (line : ℕ) (words : Words) (k : ℕ) → (after_flush line words k).newest ≡ (words k).newest
flushed_newest line words k = (flush_keeps line words k).newest

pub flushed_marked : (line : ℕ) (words : Words) (k : ℕ) → k / 8 ≡ line → (after_flush line words k).kept ≡ []
flushed_marked line words k is = rw (eq-eqb (k / 8) line is) refl

-- If a word has one value, that is its newest value.
pub HasOnly-own : (c : Cell) (v : ℕ) → HasOnly c v → HasOnly c c.newest
HasOnly-own c v one = subst (λ (x : ℕ). HasOnly c x) (sym (HasOnly-newest c v one)) one
