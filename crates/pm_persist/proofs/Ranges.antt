-- A range is written word by word, and flushed line by line.
use Rattle.std.proofs.Common.{◌≡◌, inl, inr, ℕ, ◌+◌, ◌-◌, ◌/◌, ◌<◌, ◌≤◌, Bool, true, cond, leb, List, [], length, get_or, Option, Some, None, refl, sym, ap, subst, ◌∙◌, arith}
use Rattle.std.proofs.lemmas.Bool.{cases_eq, eq-eqb, le-leb, lt-ltb}
use Rattle.std.proofs.lemmas.Bool.Decides.{leb_tells, nat_tests}
use Rattle.std.proofs.lemmas.Option.{slice_get-get_or, slice_get_within, none-some}
use Rattle.std.specs.List.{slice_get}
use Rattle.pm_model.specs.declared.host.HostFault.{HostFault}
use Rattle.pm_model.specs.declared.host.HostFault.TheVariants.{Cut}
use Rattle.pm_model.specs.Words.{after_store, after_flush}
use Rattle.pm_model.specs.Moments.{State}
use Rattle.pm_model.specs.Calls.{Steps}
use Rattle.pm_model.specs.Changes.{Changes, Write, only, placed, written, Writes}
use Rattle.pm_model.proofs.Words.{stored_newest, flushed_marked, only_at}
use Rattle.pm_model.proofs.Changes.{Changes-still, Changes-store, Changes-flush, Changes-then, Changes-wider}
use Rattle.pm_persist.specs.Ranges.{Nothing, zeroed, StoresBelow, FlushesLines}

pub FlushesLines-start : (from : ℕ) (s t : State) → t ≡ s → FlushesLines from from None s t
FlushesLines-start from s t same =
    record { changes = Changes-still Nothing None s t (λ e. cc) same; marked = λ e k low high. absurd (omega arith) }

pub FlushesLines-failed : (from to : ℕ) (fault : HostFault) (s t : State) → Changes Nothing (Some fault) s t → FlushesLines from to (Some fault) s t
FlushesLines-failed from to fault s t c = record { changes = c; marked = λ e. absurd (none-some fault (sym e)) }

pub FlushesLines-failed_step : (from at to : ℕ) (fault : HostFault) (s t u : State) → FlushesLines from at None s t → Steps (after_flush at) (Some fault) t u → FlushesLines from to (Some fault) s u
FlushesLines-failed_step from at to fault s t u so_far step =
    FlushesLines-failed from to fault s u (Changes-then Nothing (Some fault) s t u so_far.changes (Changes-flush Nothing at (Some fault) t u step))

-- One more line is flushed.
pub FlushesLines-more : (from at : ℕ) (s t u : State) → FlushesLines from at None s t → Steps (after_flush at) None t u → FlushesLines from (at + 1) None s u
FlushesLines-more from at s t u so_far step =
    let flush = Changes-flush Nothing at None t u step in
    record {
      changes = Changes-then Nothing None s t u so_far.changes flush;
      marked = λ e k low high. elim (cases_eq (k / 8) at) [
        | inl this ↦ subst (λ (x : State). (x.now.words k).kept ≡ []) (sym (step.done refl)) (flushed_marked at t.now.words k this)
        | inr other ↦ (flush.keeps (λ cut. cc) k (λ v none. none)).marked (so_far.marked refl k low (omega arith))
      ];
    }

-- Before any word is stored, no word to write is below the first one.
pub StoresBelow-start : (write : Write) (w : ℕ) (s t : State) → ((k v : ℕ) → write k ≡ Some v → w ≤ k) → t ≡ s → StoresBelow write w None s t
StoresBelow-start write w s t within same =
    record { changes = Changes-still (written write) None s t (λ e. cc) same; newest = λ e k v below is. absurd (let h = within k v is in omega arith) }

only_of : (write : Write) (at v : ℕ) → write at ≡ Some v → (k x : ℕ) → written (only at v) k x → written write k x
only_of write at v is k x one =
    let same = only_at at v k x one in
    let value : v ≡ x = let e : only at v at ≡ Some x = subst (λ (n : ℕ). only at v n ≡ Some x) same one in let here : only at v at ≡ Some v = rw (eq-eqb at at refl) refl in cc in
    subst (λ (n : ℕ). write n ≡ Some x) (sym same) (is ∙ ap Some value)

pub StoresBelow-failed : (write : Write) (at v below : ℕ) (fault : HostFault) (s t u : State) → write at ≡ Some v
    → StoresBelow write at None s t → Steps (after_store at v) (Some fault) t u → StoresBelow write below (Some fault) s u
StoresBelow-failed write at v below fault s t u is so_far step =
    let one = Changes-wider (written (only at v)) (written write) (Some fault) t u (only_of write at v is) (Changes-store at v (Some fault) t u step) in
    record { changes = Changes-then (written write) (Some fault) s t u so_far.changes one; newest = λ e. absurd (none-some fault (sym e)) }

-- One more word is stored.
pub StoresBelow-more : (write : Write) (at v : ℕ) (s t u : State) → write at ≡ Some v
    → StoresBelow write at None s t → Steps (after_store at v) None t u → StoresBelow write (at + 1) None s u
StoresBelow-more write at v s t u is so_far step =
    let narrow = Changes-store at v None t u step in
    let one = Changes-wider (written (only at v)) (written write) None t u (only_of write at v is) narrow in
    record {
      changes = Changes-then (written write) None s t u so_far.changes one;
      newest = λ e k x below is_k. elim (cases_eq k at) [
        | inl this ↦
            let value : v ≡ x = let there : write at ≡ Some x = subst (λ (n : ℕ). write n ≡ Some x) this is_k in cc in
            let here : only at v k ≡ Some x = rw (eq-eqb k at this) (ap Some value) in
            subst (λ (y : State). (y.now.words k).newest ≡ x) (sym (step.done refl)) (stored_newest at v t.now.words k x here)
        | inr other ↦
            let none : (y : ℕ) → written (only at v) k y → ⊥ = λ y one. other (only_at at v k y one) in
            (narrow.keeps (λ cut. cc) k none).newest ∙ so_far.newest refl k x (omega arith) is_k
      ];
    }

-- A range is stored, and then flushed line by line.
pub Writes-flushed : (write : Write) (below from to : ℕ) (fault : Option HostFault) (s t u : State)
    → ((k v : ℕ) → write k ≡ Some v → k < below) → ((k v : ℕ) → write k ≡ Some v → (from ≤ k / 8) × (k / 8 < to))
    → StoresBelow write below None s t → FlushesLines from to fault t u → Writes write fault s u
Writes-flushed write below from to fault s t u under lines stores flushes =
    record {
      changes = Changes-then (written write) fault s t u stores.changes (Changes-wider Nothing (written write) fault t u (λ k v none. absurd none) flushes.changes);
      newest = λ e k v is.
          (flushes.changes.keeps (λ cut. let no : None ≡ Some Cut = sym e ∙ cut in none-some Cut no) k (λ x none. none)).newest ∙ stores.newest refl k v (under k v is) is;
      marked = λ e k v is. flushes.marked e k (lines k v is).0 (lines k v is).1;
    }

-- Word w + i gets the value with index i.
pub placed_at : (w i k : ℕ) (vals : List ℕ) → k ≡ w + i → i < length vals → placed w vals k ≡ Some (get_or vals i 0)
placed_at w i k vals is within =
    let low : leb w k ≡ true = le-leb w k (omega arith) in
    let place : k - w ≡ i = omega arith in
    rw low (ap (λ (n : ℕ). slice_get vals n) place ∙ slice_get-get_or vals i 0 within)

pub placed_within : (w k v : ℕ) (vals : List ℕ) → placed w vals k ≡ Some v → (w ≤ k) × (k < w + length vals)
placed_within w k v vals is = elim (leb_tells w k) [
  | inl low ↦
      let inside = slice_get_within vals (k - w) v (sym (ap (λ (b : Bool). cond b (slice_get vals (k - w)) None) low.0) ∙ is) in
      (low.1, omega arith)
  | inr high ↦ absurd (none-some v (sym (ap (λ (b : Bool). cond b (slice_get vals (k - w)) None) high.0) ∙ is))
]

pub zeroed_at : (w n k : ℕ) → w ≤ k → k < w + n → zeroed w n k ≡ Some 0
zeroed_at w n k low high = rw (le-leb w k low, lt-ltb k (w + n) high) refl

pub zeroed_within : (w n k v : ℕ) → zeroed w n k ≡ Some v → (w ≤ k) × (k < w + n)
zeroed_within w n k v is = grind (arith, nat_tests)

-- A word from w to `last` lies in a line from the line of w to the line of `last`.
pub in_lines : (w k last from to : ℕ) → w ≤ k → k ≤ last → from ≡ w / 8 → to ≡ last / 8 → (from ≤ k / 8) × (k / 8 < to + 1)
in_lines w k last from to low high from_is to_is = (omega arith, omega arith)
