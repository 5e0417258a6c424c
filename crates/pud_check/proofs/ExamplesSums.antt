-- Examples of what is printed for small pools with their sums, and of whole summaries.
use Rattle.std.proofs.Common.{◌≡◌, [], ◌∷◌, ◌++◌, replicate, codes, refl}
use Rattle.pud_defs.specs.PoolGraphs.Graph.{empty_graph}
use Rattle.pud_defs.specs.PoolGraphs.Holdings.{Holding}
use Rattle.pud_defs.specs.PoolGraphs.Holdings.Holding.{Sound, Wild}
use Rattle.pud_defs.specs.StateMachine.World.{StoredWorld, blank_world}
use Rattle.pud_defs.proofs.Examples.Opened.{opened}
use Rattle.pud_defs.proofs.Examples.Pools.{blank_of, after_lines, lines_said}
use Rattle.pud_defs.proofs.Examples.Checks.{one_object, pool_holding}
use Rattle.graph_read.proofs.ExamplesNumbers.{ring}
use Rattle.pud_check.specs.Summary.{sum_line, gen_pool, copy_pool, summary_text}

-- A device whose pool `gen` has this holding.
abbrev with_gen : Holding → StoredWorld
with_gen holding = record (blank_world 4 7) { next_number = 3; pools = (gen_pool, pool_holding 384 1 holding) ∷ [] }

objects_and_sum : sum_line gen_pool (with_gen (Sound ring)) ≡ lines_said (codes "gen objects 2 sum 2" ∷ [])
unfolding opened sum_line
objects_and_sum = refl

no_objects : sum_line gen_pool (with_gen (Sound empty_graph)) ≡ lines_said (codes "gen objects 0 sum 0" ∷ [])
unfolding opened sum_line
no_objects = refl

wild : sum_line gen_pool (with_gen (Wild one_object)) ≡ lines_said (codes "gen wild" ∷ [])
unfolding opened sum_line
wild = refl

absent : sum_line copy_pool (with_gen (Sound ring)) ≡ lines_said (codes "copy absent" ∷ [])
unfolding opened sum_line
absent = refl

-- ---- summaries

without_a_copy : summary_text 26 2 (with_gen (Sound ring)) ≡ lines_said (codes "lines 26 refused 2" ∷ codes "gen objects 2 sum 2" ∷ codes "copy absent" ∷ [])
unfolding opened summary_text sum_line
without_a_copy = refl

with_both : summary_text 26 0 (record (with_gen (Sound ring)) { pools = (copy_pool, pool_holding 384 3 (Sound ring)) ∷ (gen_pool, pool_holding 384 1 (Wild one_object)) ∷ [] })
    ≡ lines_said (codes "lines 26 refused 0" ∷ codes "gen wild" ∷ codes "copy objects 2 sum 2" ∷ [])
unfolding opened summary_text sum_line
with_both = refl

-- Pools are told apart by their whole names.
other_names : summary_text 0 0 (record (with_gen (Sound ring)) { pools = (codes "ge" ++ replicate 14 0, pool_holding 384 1 (Sound ring)) ∷ (codes "gen_" ++ replicate 12 0, pool_holding 384 3 (Sound ring)) ∷ [] })
    ≡ lines_said (codes "lines 0 refused 0" ∷ codes "gen absent" ∷ codes "copy absent" ∷ [])
unfolding opened summary_text sum_line
other_names = refl

-- After lines that make two objects. Both name the first of them, and both have a number.
lines_summed : sum_line gen_pool (after_lines (blank_of 4) (
    codes "client 0 0 0" ∷ codes "type 1 2 0" ∷ codes "pool 0 gen 600" ∷ codes "begin 0 gen" ∷ codes "new 0 gen 1" ∷ codes "set 0 gen 1.0 @1" ∷ codes "set 0 gen 1.1 39022"
    ∷ codes "new 0 gen 1" ∷ codes "set 0 gen 2.0 @1" ∷ codes "set 0 gen 2.1 61087" ∷ codes "commit 0 gen" ∷ [])).stored
    ≡ lines_said (codes "gen objects 2 sum 100109" ∷ [])
unfolding opened after_lines sum_line
lines_summed = refl
