-- The batches of one puddle: from which frontier to which frontier each of them goes.
use Rattle.std.proofs.Common.{◌≡◌, inl, ℕ, ◌+◌, ◌-◌, ◌*◌, ◌<◌, ◌≤◌, min, List, length, Option, Some, None, refl, sym, ap, ◌∙◌, subst, arith}
use Rattle.std.specs.Prelude.{slice_get, slice_index_or}
use Rattle.std.proofs.lemmas.List.{length-set}
use Rattle.std.proofs.lemmas.Option.{slice_get_within, slice_get-get_or, get_or_from_slice_get, same_Some}
use Rattle.pm_model.specs.declared.host.HostFault.{HostFault}
use Rattle.pm_model.specs.Moments.{State}
use Rattle.pud_defs.specs.declared.layout.TheConstants.{DAEMON_LOG}
use Rattle.pud_defs.specs.Formats.Geometry.{steps_of}
use Rattle.pud_defs.specs.declared.records.Puddle.{Puddle}
use Rattle.pud_defs.specs.RegistryTables.Puddles.{moved_to}
use Rattle.graph_laws.specs.Steps.{with_steps}
use Rattle.graph_read.proofs.Pointed.{no_puddle}
use Rattle.graph_read.specs.Bases.{HasLowBases}
use Rattle.batch.specs.Batches.{HasIdleGate}
use Rattle.lazy_rewrite.specs.declared.batches.TheConstants.{BATCH_STEPS}
use Rattle.lazy_rewrite.specs.Frontiers.{steps_left, frontier_after, stepped_at, frontier_at}
use Rattle.lazy_rewrite.specs.Batches.{AreNextSteps, RewritesOnce, Rewrites}
use Rattle.lazy_rewrite.proofs.Moved.{with_steps-none, with_steps-twice, with_steps-there, stepped_at-there, frontier_at-there, frontier_at-other, low_bases-steps}
use Rattle.lazy_rewrite.proofs.Turns.{Rewrites-more, Rewrites-idle}

-- How many steps of a puddle are left, as it was read from the pool that was lent.
pub left_read : (at lent : List (ℕ × Puddle)) (o left : ℕ) (e : ℕ × Puddle) → lent ≡ at → slice_get at o ≡ Some e → left ≡ steps_left (slice_index_or lent o no_puddle).1 → left ≡ steps_left e.1
left_read at lent o left e same here is =
    is ∙ ap (λ (ds : List (ℕ × Puddle)). steps_left (slice_index_or ds o no_puddle).1) same ∙ ap (λ (d : ℕ × Puddle). steps_left d.1) (get_or_from_slice_get at o e no_puddle here)

-- The same for all steps of the puddle.
pub all_read : (at lent : List (ℕ × Puddle)) (o all : ℕ) (e : ℕ × Puddle) → lent ≡ at → slice_get at o ≡ Some e → all ≡ steps_of (slice_index_or lent o no_puddle).1 → all ≡ steps_of e.1
all_read at lent o all e same here is =
    is ∙ ap (λ (ds : List (ℕ × Puddle)). steps_of (slice_index_or ds o no_puddle).1) same ∙ ap (λ (d : ℕ × Puddle). steps_of d.1) (get_or_from_slice_get at o e no_puddle here)

module _ (at : List (ℕ × Puddle)) (o n : ℕ) (e : ℕ × Puddle) (here : slice_get at o ≡ Some e) (all left steps : ℕ) (all_is : all ≡ steps_of e.1) (left_is : left ≡ steps_left e.1) (steps_is : steps ≡ min left n) where
  -- The frontier before a round.
  abbrev pub reached : (round : ℕ) → ℕ
  reached round = e.1.frontier + min (BATCH_STEPS * round) steps

  pub reached-start : (round : ℕ) → round ≡ 0 → at ≡ with_steps o (reached round) e at
  reached-start round first = sym (with_steps-none at o e here (reached round) (omega (arith, first)))

  -- The goal is the frontier after all rounds.
  pub goal_there : frontier_at o (stepped_at o n at) o ≡ e.1.frontier + min n (steps_left e.1)
  goal_there = ap (λ ds. frontier_at o ds o) (stepped_at-there at o e here n) ∙ frontier_at-there at o e here (frontier_after n e.1)

  pub reached-end : (round : ℕ) (now : List (ℕ × Puddle)) → steps ≤ BATCH_STEPS * round → now ≡ with_steps o (reached round) e at → now ≡ stepped_at o n at
  reached-end round now past is =
      let end : reached round ≡ frontier_after n e.1 = omega (arith, left_is, steps_is) in
      is ∙ ap (λ k. with_steps o k e at) end ∙ sym (stepped_at-there at o e here n)

  module _ (round : ℕ) (now : List (ℕ × Puddle)) (pool : now ≡ with_steps o (reached round) e at) where
    pub within_now : o < length now
    within_now = omega (arith, slice_get_within at o e here, ap length pool, length-set at o (e.0, moved_to (reached round) e.1))

    pub low_now : (F : ℕ) → HasLowBases at → HasLowBases now
    low_now F low = subst (λ (ds : List (ℕ × Puddle)). HasLowBases ds) (sym pool) (low_bases-steps F at o (reached round) e here low)

    module _ (below : BATCH_STEPS * round < steps) where
      -- The frontier where the round starts.
      abbrev pub from_now : ℕ
      from_now = all - left + BATCH_STEPS * round

      -- The puddle with that frontier.
      abbrev pub current : ℕ × Puddle
      current = (e.0, moved_to from_now e.1)

      from_is : from_now ≡ reached round
      from_is = omega (arith, all_is, left_is, steps_is)

      pub here_now : slice_get now o ≡ Some current
      here_now = ap (λ ds. slice_get ds o) (pool ∙ ap (λ k. with_steps o k e at) (sym from_is)) ∙ with_steps-there at o e here from_now

      module _ (top : ℕ) (top_is : top ≡ min steps (BATCH_STEPS * (round + 1))) where
        -- The frontier where the round ends.
        abbrev pub to_next : ℕ
        to_next = all - left + top

        to_is : to_next ≡ reached (round + 1)
        to_is = omega (arith, all_is, left_is, steps_is, top_is)

        pub next_steps : AreNextSteps now (frontier_at o (stepped_at o n at)) o to_next current
        next_steps = record {
          here = here_now;
          some = omega (arith, all_is, left_is, steps_is, top_is);
          few = omega (arith, all_is, left_is, steps_is, top_is);
          within = omega (arith, goal_there, all_is, left_is, steps_is, top_is);
          last = omega (arith, all_is, left_is, steps_is, top_is);
          before = λ q d below there. let none = frontier_at-other (stepped_at o n at) o q (omega arith) in inl (omega (arith, none));
        }

        -- The round does not go over the end of the puddle.
        pub last_next : (d : ℕ × Puddle) → slice_get now o ≡ Some d → to_next ≤ steps_of d.1
        last_next d there = subst (λ (x : ℕ × Puddle). to_next ≤ steps_of x.1) (same_Some current d (sym here_now ∙ there)) next_steps.last

        pub pool_next : (later : List (ℕ × Puddle)) → later ≡ with_steps o to_next current now → later ≡ with_steps o (reached (round + 1)) e at
        pool_next later is =
            is
            ∙ ap (with_steps o to_next current) (pool ∙ ap (λ k. with_steps o k e at) (sym from_is))
            ∙ with_steps-twice at o e here from_now to_next
            ∙ ap (λ k. with_steps o k e at) to_is

-- The batches before a round, and then the round's own batch, whether or not it fails.
pub rewrites_round : (F : ℕ) (at lent now later : List (ℕ × Puddle)) (o n all left steps round top : ℕ) (fault : Option HostFault) (old mid new : State)
    → o < length at → lent ≡ at → all ≡ steps_of (slice_index_or lent o no_puddle).1 → left ≡ steps_left (slice_index_or lent o no_puddle).1 → steps ≡ min left n → BATCH_STEPS * round < steps → top ≡ min steps (BATCH_STEPS * (round + 1))
    → ((e : ℕ × Puddle) → slice_get at o ≡ Some e → now ≡ with_steps o (e.1.frontier + min (BATCH_STEPS * round) steps) e at)
    → HasIdleGate DAEMON_LOG old.now.words → HasLowBases at → Rewrites F (frontier_at o (stepped_at o n at)) at now None old mid
    → (HasIdleGate DAEMON_LOG mid.now.words → HasLowBases now → (goal : ℕ → ℕ) (e : ℕ × Puddle) → e.1.frontier ≡ all - left + BATCH_STEPS * round
    → AreNextSteps now goal o (all - left + top) e → RewritesOnce F goal now later fault mid new)
    → Rewrites F (frontier_at o (stepped_at o n at)) at later fault old new
rewrites_round F at lent now later o n all left steps round top fault old mid new within same all_read_is left_read_is steps_is below top_is reaches idle low so_far batch =
    let e = slice_index_or at o no_puddle in
    let here = slice_get-get_or at o no_puddle within in
    let all_is = all_read at lent o all e same here all_read_is in
    let left_is = left_read at lent o left e same here left_read_is in
    let pool = reaches e here in
    let goal = frontier_at o (stepped_at o n at) in
    Rewrites-more F goal at now later fault old mid new so_far
    (batch (Rewrites-idle F goal at now old mid so_far idle) (low_now at o n e here all left steps all_is left_is steps_is round now pool F low) goal
    (current at o n e here all left steps all_is left_is steps_is round now pool below) refl (next_steps at o n e here all left steps all_is left_is steps_is round now pool below top top_is))
