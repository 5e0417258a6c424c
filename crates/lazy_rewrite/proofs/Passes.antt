-- One more puddle of a pool: its steps, how many are left, and the goal.
use Rattle.std.proofs.Common.{◌≡◌, ℕ, ◌+◌, ◌-◌, ◌<◌, ◌≤◌, min, List, length, Option, Some, sym, ap, ap₂, ◌∙◌, subst, ⊎_elim, arith}
use Rattle.std.specs.Prelude.{slice_get}
use Rattle.std.proofs.lemmas.Bool.{cases_eq}
use Rattle.std.proofs.lemmas.List.{length-set}
use Rattle.pm_model.specs.declared.host.HostFault.{HostFault}
use Rattle.pm_model.specs.Moments.{State}
use Rattle.pud_defs.specs.declared.records.Puddle.{Puddle}
use Rattle.pud_defs.specs.RegistryTables.Puddles.{moved_to}
use Rattle.graph_laws.specs.Steps.{with_steps}
use Rattle.graph_read.specs.Bases.{HasLowBases}
use Rattle.lazy_rewrite.specs.Frontiers.{steps_left, frontier_after, left_among, steps_from, stepped_at, frontier_in, frontiers_of, frontier_at}
use Rattle.lazy_rewrite.specs.Batches.{Rewrites}
use Rattle.lazy_rewrite.proofs.Moved.{stepped_at-there, frontier_at-there, frontier_at-other, low_bases-steps, steps_after, left_after, steps_after-next, steps_after-there, steps_after-before, left_after-next}
use Rattle.lazy_rewrite.proofs.Turns.{Rewrites-further}

module _ (whole now : List (ℕ × Puddle)) (i n done : ℕ) (e : ℕ × Puddle) (here : slice_get now i ≡ Some e) where
  -- The pool after this puddle's steps.
  abbrev pub later : List (ℕ × Puddle)
  later = with_steps i (frontier_after (n - done) e.1) e now

  later_is : stepped_at i (n - done) now ≡ later
  later_is = stepped_at-there now i e here (n - done)

  pub long_later : (new : List (ℕ × Puddle)) → new ≡ stepped_at i (n - done) now → length new ≡ length now
  long_later new is = ap (λ (ds : List (ℕ × Puddle)). length ds) (is ∙ later_is) ∙ length-set now i (e.0, moved_to (frontier_after (n - done) e.1) e.1)

  pub low_later : (F : ℕ) (new : List (ℕ × Puddle)) → new ≡ stepped_at i (n - done) now → HasLowBases now → HasLowBases new
  low_later F new is low = subst (λ (ds : List (ℕ × Puddle)). HasLowBases ds) (sym (is ∙ later_is)) (low_bases-steps F now i (frontier_after (n - done) e.1) e here low)

  pub pool_later : (new : List (ℕ × Puddle)) (more : ℕ) → done ≤ n → more ≡ min (n - done) (steps_left e.1) → new ≡ stepped_at i (n - done) now
      → steps_after i (n - done) now ≡ steps_from n whole → steps_after (i + 1) (n - (done + more)) new ≡ steps_from n whole
  pool_later new more few is moved was =
      let rest : n - (done + more) ≡ n - done - min (n - done) (steps_left e.1) = omega (arith, few, is) in
      ap₂ (λ (k : ℕ) (ds : List (ℕ × Puddle)). steps_after (i + 1) k ds) rest (moved ∙ later_is) ∙ steps_after-next i (n - done) now e here ∙ was

  pub counted_later : (new : List (ℕ × Puddle)) (more : ℕ) → done ≤ n → more ≡ min (n - done) (steps_left e.1) → new ≡ stepped_at i (n - done) now
      → done + min (n - done) (left_after i now) ≡ min n (left_among whole) → done + more + min (n - (done + more)) (left_after (i + 1) new) ≡ min n (left_among whole)
  counted_later new more few is moved was =
      omega (arith, few, is, was, left_after-next i now e (e.0, moved_to (frontier_after (n - done) e.1) e.1) here, ap (left_after (i + 1)) (moved ∙ later_is))

  -- The puddle's goal is at most that of the whole pool, and the puddles before it have reached theirs.
  further : steps_after i (n - done) now ≡ steps_from n whole → (o : ℕ) → frontier_at i (stepped_at i (n - done) now) o ≤ frontiers_of (steps_from n whole) o
  further was o = ⊎_elim
      (λ same.
      let mine = ap (frontier_at i (stepped_at i (n - done) now)) same ∙ ap (λ ds. frontier_at i ds i) later_is ∙ frontier_at-there now i e here (frontier_after (n - done) e.1) in
      let its = ap (frontiers_of (steps_from n whole)) same ∙ ap (λ ds. frontiers_of ds i) (sym was) ∙ ap frontier_in (steps_after-there i (n - done) now e here) in
      omega (arith, mine, its))
      (λ other. omega (arith, frontier_at-other (stepped_at i (n - done) now) i o other))
      (cases_eq o i)

  reached : steps_after i (n - done) now ≡ steps_from n whole → (o q : ℕ) (d : ℕ × Puddle) → 0 < frontier_at i (stepped_at i (n - done) now) o → q < o → slice_get now q ≡ Some d
      → frontiers_of (steps_from n whole) q ≤ d.1.frontier
  reached was o q d moves below there = ⊎_elim
      (λ same.
      let its = ap (λ ds. frontiers_of ds q) (sym was) ∙ ap frontier_in (steps_after-before i (n - done) now q (omega arith) ∙ there) in
      omega (arith, its))
      (λ other. absurd (omega (arith, moves, frontier_at-other (stepped_at i (n - done) now) i o other)))
      (cases_eq o i)

  pub rewrites_further : (F : ℕ) (new : List (ℕ × Puddle)) (fault : Option HostFault) (a b : State) → steps_after i (n - done) now ≡ steps_from n whole
      → Rewrites F (frontier_at i (stepped_at i (n - done) now)) now new fault a b → Rewrites F (frontiers_of (steps_from n whole)) now new fault a b
  rewrites_further F new fault a b was = Rewrites-further F (frontier_at i (stepped_at i (n - done) now)) (frontiers_of (steps_from n whole)) now new fault a b (record { further = further was; before = reached was })
