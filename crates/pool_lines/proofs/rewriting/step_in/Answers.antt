use Rattle.std.proofs.Common.{◌≡◌, ℕ, List, Option, Some, option_map, sym, ap, subst, ◌∙◌, rules, refl}
use Rattle.std.specs.Prelude.{set}
use Rattle.std.proofs.lemmas.Option.{none-some, same_Some}
use Rattle.pm_model.specs.Counts.{fault_of}
use Rattle.pud_defs.specs.declared.records.Puddle.{Puddle}
use Rattle.graph_read.specs.Bases.{HasLowBases}
use Rattle.log_replay.specs.Replaying.{Anything}
use Rattle.lazy_rewrite.specs.Frontiers.{steps_from, frontiers_of}
use Rattle.known_pool.specs.Known.{Known}
use Rattle.daemon_memory.specs.PoolKnowledge.{known_pool_in, known_puddles_in}
use Rattle.daemon_memory.specs.Moves.{MovesTo, led_in}
use Rattle.daemon_memory.specs.Ready.{IsReady, AppliesBy}
use Rattle.daemon_memory.proofs.Commands.Keeping.{KeepsRest-changes, KeepsRest-still}
use Rattle.daemon_memory.proofs.PoolsKnown.KnownBuilt.{known_there, on_device_there}
use Rattle.pool_lines.proofs.PoolLines.Rewritten.{Applies-stepped, does_steps, steps_known, steps_none, moves_known, moves_none}
use Rattle.pool_lines.specs.Rewriting.{DoesStepsInTurn}
use Rattle.pool_lines.proofs.rewriting.step_in.Goals as goal
use Rattle.pool_lines.proofs.rewriting.step_in.Goals.{in-Some, in-None}

pub step_pool-requires-clause-known : goal.step_pool-requires-clause-known
step_pool-requires-clause-known g c =
    on_device_there c.args.frames c.args.known_pools.now c.args.slot c.in-Some.pool c.requires.known
    (ap (λ (ps : List (Option Known)). known_pool_in ps c.args.slot) (sym c.known_pools.view_is) ∙ known_there c.known_pools.inside.pools c.args.slot _ c.index-known_pools-slot.result (search rules) refl ∙ c.in-Some.is)

pub returns-clause-applies : goal.returns-clause-applies
returns-clause-applies g c = λ t size e at known w active sessions ready.
    let s = g.H.Host.state c.args.h.now in
    let pools = c.known_pools.inside.pools in
    let read = known_there pools c.args.slot _ c.index-known_pools-slot.result (search rules) refl in
    let then = subst (λ (ps : List (Option Known)). IsReady size w (record { frames = c.args.frames; active = active; sessions = sessions; known_pools = ps }) s) (sym c.known_pools.view_is) ready in
    elim c.match-known_pools-slot.branch [
      | in-Some b ↦
          let pool : Known = b.in-Some.pool in
          let here : known_puddles_in pools c.args.slot ≡ Some pool.puddles = ap (option_map (λ (k : Known). k.puddles)) (read ∙ b.in-Some.is) in
          let same : at ≡ pool.puddles = same_Some at pool.puddles (sym known ∙ ap (λ (ps : List (Option Known)). known_puddles_in ps c.args.slot) (sym c.known_pools.view_is) ∙ here) in
          rw (b.result-is, b.known_pools-inside-is, b.h-is)
          (subst (λ (ps : List (ℕ × Puddle)). AppliesBy (MovesTo (led_in c.args.slot (frontiers_of (steps_from c.args.n ps)))) size w w
          (record { frames = c.args.frames; active = active; sessions = sessions; known_pools = set pools c.args.slot (Some b.step_pool.new.pool) }) (fault_of b.step_pool.result) s (g.H.Host.state b.step_pool.new.h)) (sym same)
          (subst (λ (k : Known). AppliesBy (MovesTo (led_in c.args.slot (frontiers_of (steps_from c.args.n pool.puddles)))) size w w
          (record { frames = c.args.frames; active = active; sessions = sessions; known_pools = set pools c.args.slot (Some k) }) (fault_of b.step_pool.result) s (g.H.Host.state b.step_pool.new.h)) (sym b.step_pool.ensures.rest)
          (Applies-stepped size w c.args.frames active sessions pools s then c.args.slot c.requires.slot pool (read ∙ b.in-Some.is) (frontiers_of (steps_from c.args.n pool.puddles)) b.step_pool.new.pool.puddles (fault_of b.step_pool.result)
          (g.H.Host.state b.step_pool.new.h) (λ idle low. b.step_pool.ensures.rewrites t size e idle low))))
      | in-None b ↦ absurd (none-some at (sym (ap (option_map (λ (k : Known). k.puddles)) (read ∙ b.in-None.is)) ∙ ap (λ (ps : List (Option Known)). known_puddles_in ps c.args.slot) c.known_pools.view_is ∙ known))
    ]

pub returns-clause-rest : goal.returns-clause-rest
returns-clause-rest g c = λ t. elim c.match-known_pools-slot.branch [
  | in-Some b ↦ rw b.h-is (KeepsRest-changes Anything (fault_of b.step_pool.result) _ _ (b.step_pool.ensures.any t))
  | in-None b ↦ rw b.h-is (KeepsRest-still _ _ refl)
]

pub returns-clause-moves : goal.returns-clause-moves
returns-clause-moves g c =
    let pools = c.known_pools.inside.pools in
    let read = known_there pools c.args.slot _ c.index-known_pools-slot.result (search rules) refl in
    elim c.match-known_pools-slot.branch [
      | in-Some b ↦
          rw (b.result-is, b.known_pools-inside-is)
          (moves_known b.step_pool.result pools c.args.known_pools.now c.args.slot c.args.n b.in-Some.pool b.step_pool.new.pool c.known_pools.view_is (read ∙ b.in-Some.is) b.step_pool.ensures.rest b.step_pool.ensures.pool)
      | in-None b ↦ rw (b.result-is, b.known_pools-inside-is) (moves_none pools c.args.known_pools.now _ c.args.slot c.args.n c.known_pools.view_is (read ∙ b.in-None.is))
    ]

pub returns-clause-steps : goal.returns-clause-steps
returns-clause-steps g c =
    let pools = c.known_pools.inside.pools in
    let read = known_there pools c.args.slot _ c.index-known_pools-slot.result (search rules) refl in
    elim c.match-known_pools-slot.branch [
      | in-Some b ↦
          let pool : Known = b.in-Some.pool in
          rw b.result-is (steps_known b.step_pool.result pools c.args.known_pools.now c.args.slot c.args.n pool.puddles c.known_pools.view_is (ap (option_map (λ (k : Known). k.puddles)) (read ∙ b.in-Some.is)) b.step_pool.ensures.steps)
      | in-None b ↦ rw b.result-is (steps_none pools c.args.known_pools.now c.args.slot c.args.n 0 c.known_pools.view_is (ap (option_map (λ (k : Known). k.puddles)) (read ∙ b.in-None.is)))
    ]

pub returns-clause-acts : goal.returns-clause-acts
returns-clause-acts g c = λ t size e idle at known low.
    let s = g.H.Host.state c.args.h.now in
    let pools = c.known_pools.inside.pools in
    let read = known_there pools c.args.slot _ c.index-known_pools-slot.result (search rules) refl in
    elim c.match-known_pools-slot.branch [
      | in-Some b ↦
          let pool : Known = b.in-Some.pool in
          let here : known_puddles_in pools c.args.slot ≡ Some pool.puddles = ap (option_map (λ (k : Known). k.puddles)) (read ∙ b.in-Some.is) in
          let same : at ≡ pool.puddles = same_Some at pool.puddles (sym known ∙ ap (λ (ps : List (Option Known)). known_puddles_in ps c.args.slot) (sym c.known_pools.view_is) ∙ here) in
          rw (b.result-is, b.h-is)
          (subst (λ (ps : List (ℕ × Puddle)). DoesStepsInTurn c.args.frames c.args.n ps (fault_of b.step_pool.result) s (g.H.Host.state b.step_pool.new.h)) (sym same)
          (does_steps c.args.frames c.args.n pool.puddles b.step_pool.new.pool.puddles b.step_pool.result s (g.H.Host.state b.step_pool.new.h) b.step_pool.ensures.pool
          (b.step_pool.ensures.rewrites t size e idle (subst HasLowBases same low))))
      | in-None b ↦ absurd (none-some at (sym (ap (option_map (λ (k : Known). k.puddles)) (read ∙ b.in-None.is)) ∙ ap (λ (ps : List (Option Known)). known_puddles_in ps c.args.slot) c.known_pools.view_is ∙ known))
    ]
