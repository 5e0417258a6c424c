-- How printing composes: some bytes and then others, a fault among the first bytes, calls that print nothing, and a
-- file that does not change.
use Rattle.std.proofs.Common.{◌≡◌, ℕ, ◌+◌, List, [], ◌∷◌, ◌++◌, length, take, Option, Some, None, refl, sym, ap, ◌∙◌, subst, arith, length-append, Bool, true, false, cond}
use Rattle.std.proofs.Math.Seq.{take-length, take-append-add}
use Rattle.std.proofs.lemmas.List.{take-append-le}
use Rattle.pm_model.specs.declared.host.HostFault.{HostFault}
use Rattle.pm_model.specs.Moments.{State, one_said, all_said, Shelf, with_shelf}
use Rattle.pm_model.specs.Calls.{Says, shelved, LeavesFile}
use Rattle.std.proofs.lemmas.Option.{none-some}
use Rattle.std.specs.Str.{bytes_eq}
use Rattle.std.proofs.lemmas.Slice.Eq.{bytes_eq-Decides}

all_said-append : (front rest : List ℕ) (s : State) → all_said (front ++ rest) s ≡ all_said rest (all_said front s)
all_said-append [] rest s = refl
all_said-append (b ∷ front) rest s = all_said-append front rest (one_said b s)

-- No byte is printed.
pub Says-nothing : (old new : State) → new ≡ old → Says [] None old new
Says-nothing old new e = record { count = 0; within = omega arith; is = e; whole = λ none. refl }

-- All of the prefix is printed, and then the rest.
pub Says-then : (front rest : List ℕ) (fault : Option HostFault) (a b c : State) → Says front None a b → Says rest fault b c → Says (front ++ rest) fault a c
Says-then front rest fault a b c p q =
    let all : b ≡ all_said front a = p.is ∙ ap (λ n. all_said (take n front) a) (p.whole refl) ∙ ap (λ bytes. all_said bytes a) (take-length front) in
    let within = q.within in
    record {
      count = length front + q.count;
      within = omega (arith, length-append front rest);
      is = q.is ∙ ap (all_said (take q.count rest)) all ∙ sym (all_said-append front (take q.count rest) a) ∙ ap (λ bytes. all_said bytes a) (sym (take-append-add front rest q.count));
      whole = λ none. let e = q.whole none in omega (arith, length-append front rest);
    }

-- The fault comes in the prefix.
pub Says-front : (front rest : List ℕ) (fault : HostFault) (old new : State) → Says front (Some fault) old new → Says (front ++ rest) (Some fault) old new
Says-front front rest fault old new p =
    let within = p.within in
    record {
      count = p.count;
      within = omega (arith, length-append front rest);
      is = p.is ∙ ap (λ bytes. all_said bytes old) (sym (take-append-le p.count front rest p.within));
      whole = λ none. absurd (none-some fault (sym none));
    }

-- Earlier calls change nothing.
pub Says-after : (bytes : List ℕ) (fault : Option HostFault) (a b c : State) → b ≡ a → Says bytes fault b c → Says bytes fault a c
Says-after bytes fault a b c e p = subst (λ (s : State). Says bytes fault s c) e p

-- ---- a file that does not change

shelved_here : (b : Bool) (shelf : Shelf) (name other : List ℕ) → (b ≡ true → other ≡ name) → shelf other ≡ cond b (shelf name) (shelf other)
shelved_here true shelf name other same = ap shelf (same refl)
shelved_here false shelf name other same = refl

shelved-same : (name : List ℕ) (shelf : Shelf) → shelf ≡ shelved name (shelf name) shelf
shelved-same name shelf = λ i other. (shelved_here (bytes_eq other name) shelf name other (bytes_eq-Decides other name).0) i

pub LeavesFile-same : (name : List ℕ) (old new : State) → new ≡ old → LeavesFile name old new
LeavesFile-same name old new same = record { entry = old.shelf name; is = same ∙ ap (λ (shelf : Shelf). with_shelf shelf old) (shelved-same name old.shelf) }
