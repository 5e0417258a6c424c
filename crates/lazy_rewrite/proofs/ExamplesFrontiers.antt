-- How far frontiers move, and which entries a row of words has, by computation.
use Rattle.std.proofs.Common.{◌≡◌, inl, inr, ℕ, ◌≤◌, cond, eqb, List, [], ◌∷◌, Some, None, refl, arith}
use Rattle.pud_defs.specs.declared.records.Puddle.{Puddle}
use Rattle.pud_defs.specs.declared.space.TheConstants.{LARGE, SMALL}
use Rattle.pud_defs.specs.Formats.Geometry.{class_slots}
use Rattle.pud_defs.specs.RegistryTables.Puddles.{moved_to}
use Rattle.batch.specs.Batches.{batch_entry}
use Rattle.lazy_rewrite.specs.Entries.{words_batch, first_slot}
use Rattle.lazy_rewrite.specs.Frontiers.{left_among, steps_from, stepped_at, finished_at, frontiers_of, frontier_at}
use Rattle.lazy_rewrite.specs.Batches.{AreNextSteps}

abbrev first : Puddle
first = record { number = 7; base = 2; old_base = 1; frontier = 61; class = LARGE }

abbrev second : Puddle
second = record { number = 8; base = 1; old_base = 2; frontier = 0; class = SMALL }

abbrev pool : List (ℕ × Puddle)
pool = (2, first) ∷ (5, second) ∷ []

-- The large puddle has 2 of 63 steps left, and the small one has all of 249.
both_have_steps_left : left_among pool ≡ 251
unfolding left_among class_slots
both_have_steps_left = refl

first_puddle_before_the_second : steps_from 3 pool ≡ (2, moved_to 63 first) ∷ (5, moved_to 1 second) ∷ []
unfolding steps_from class_slots
first_puddle_before_the_second = refl

no_more_than_are_left : steps_from 300 pool ≡ (2, moved_to 63 first) ∷ (5, moved_to 249 second) ∷ []
unfolding steps_from class_slots
no_more_than_are_left = refl

-- A step of the second puddle comes only after the first puddle has reached its goal.
no_step_of_the_second_before : (m : ℕ) → AreNextSteps pool (frontiers_of (steps_from 300 pool)) 1 m (5, second) → ⊥
unfolding steps_from class_slots
no_step_of_the_second_before m next = elim (next.before 0 (2, first) (omega arith) refl) [ inl goal ↦ let it : 63 ≤ 61 = goal in omega arith | inr end ↦ let it : 63 ≤ 61 = end in omega arith ]

one_puddle_alone : stepped_at 1 10 pool ≡ (2, first) ∷ (5, moved_to 10 second) ∷ []
unfolding class_slots
one_puddle_alone = refl

one_puddle_to_its_end : finished_at 1 pool ≡ (2, first) ∷ (5, moved_to 249 second) ∷ []
unfolding class_slots
one_puddle_to_its_end = refl

no_puddle_of_the_ordinal : finished_at 2 pool ≡ pool
no_puddle_of_the_ordinal = refl

goal_of_one_puddle : frontier_at 1 (finished_at 1 pool) 0 ≡ 0
goal_of_one_puddle = refl

-- step 1 is slot 0
first_slot_after_the_header : first_slot 1 ≡ 0
first_slot_after_the_header = refl

entries_of_the_words_that_get_a_value : words_batch 100 (λ k. cond (eqb k 2) (Some 7) (cond (eqb k 3) (Some 9) None)) 1 4 ≡ batch_entry 102 (7 ∷ []) ∷ batch_entry 103 (9 ∷ []) ∷ []
unfolding words_batch
entries_of_the_words_that_get_a_value = refl
