-- Steps of rewriting in a pool of two puddles that swapped their bases, by computation. Each address is one over both
-- sets of bases.
use Rattle.std.proofs.Common.{◌≡◌, ℕ, ◌+◌, ◌^◌, true, false, cond, eqb, List, [], ◌∷◌, map, Some, None, refl}
use Rattle.pud_defs.specs.declared.space.TheConstants.{FRAME_MAGIC}
use Rattle.pud_defs.specs.declared.records.Puddle.{Puddle}
use Rattle.pud_defs.specs.declared.objects.FieldValue.TheVariants.{Num, Ref}
use Rattle.pud_defs.specs.Formats.TypeMap.{map_word}
use Rattle.pud_defs.specs.RegistryTables.Spaces.{all_below}
use Rattle.pud_defs.specs.RegistryTables.Keyed.{keyed, first_from, are_distinct}
use Rattle.pud_defs.specs.Formats.Geometry.{class_slots, class_slot_words, class_slot_at}
use Rattle.pud_defs.specs.PoolGraphs.Stored.{Stored}
use Rattle.pud_defs.specs.PoolGraphs.Graph.{At, over_old, place_in, target, is_graph, headers_fit, graph_of, Graph}
use Rattle.pud_defs.specs.Formats.Frames.{frame_at}
use Rattle.pud_defs.specs.RegistryTables.Puddles.{moved_to, frontier_word}
use Rattle.graph_laws.specs.Rewriting.{rewritten, is_passed, passes_root, advanced}
use Rattle.graph_laws.specs.Steps.{passed_word, with_passed, steps_write, with_steps}

-- Opens the definitions by which a graph is read.
unfoldable opened : Unit {0}
unfolding class_slots class_slot_words class_slot_at graph_of headers_fit is_graph all_below are_distinct first_from keyed place_in target
opened = tt

abbrev low_base : ℕ
low_base = 2 ^ 44

abbrev high_base : ℕ
high_base = 2 ^ 44 + 16384

-- One type with two fields, of which the second is a pointer.
abbrev types : List (ℕ × ℕ)
types = (1, map_word 2 (1 ∷ [])) ∷ []

-- Each puddle has the base that the other one had.
abbrev first : Puddle
first = record { number = 7; base = high_base; old_base = low_base; frontier = 0; class = 0 }

abbrev second : Puddle
second = record { number = 8; base = low_base; old_base = high_base; frontier = 0; class = 0 }

abbrev puddles : List Puddle
puddles = first ∷ second ∷ []

-- Object 1 is in slot 0 of the first puddle. Its number is the address of its own slot, and its pointer names object 2.
abbrev first_word : ℕ → ℕ
first_word k =
    cond (eqb k 0) FRAME_MAGIC
    (cond (eqb k 1) 7
    (cond (eqb k 3) 3
    (cond (eqb k 4) (high_base + 512) (cond (eqb k 64) 1 (cond (eqb k 65) 1 (cond (eqb k 66) (low_base + 512) (cond (eqb k 67) (high_base + 512) 0)))))))

-- Object 2 is in slot 0 of the second puddle. It is the root, and it names nothing.
abbrev second_word : ℕ → ℕ
second_word k = cond (eqb k 0) FRAME_MAGIC (cond (eqb k 1) 8 (cond (eqb k 2) 1 (cond (eqb k 64) 2 (cond (eqb k 65) 1 0))))

abbrev pool : Stored
pool = record { puddles = puddles; word = λ o k. cond (eqb o 0) (first_word k) (cond (eqb o 1) (second_word k) 0) }

abbrev graph : Graph
graph = record {
  next_serial = 3;
  root = 2;
  objects = (1, record { type_id = 1; class = 0; fields = Num (low_base + 512) ∷ Ref 2 ∷ [] }) ∷ (2, record { type_id = 1; class = 0; fields = Num 0 ∷ Ref 0 ∷ [] }) ∷ [];
}

pool_has_graph : graph_of types pool ≡ Some graph
unfolding opened
pool_has_graph = refl

-- ---- pointers

-- One value leads to the second puddle over the old bases, and to the first puddle over the pool's bases.
read_over_the_old_bases : target (map over_old puddles) (high_base + 512) ≡ At 248
unfolding opened
read_over_the_old_bases = refl

read_over_the_bases : target puddles (high_base + 512) ≡ At 0
unfolding opened
read_over_the_bases = refl

rewritten_once : rewritten puddles (high_base + 512) ≡ low_base + 512
unfolding opened
rewritten_once = refl

null_stays : rewritten puddles 0 ≡ 0
unfolding opened
null_stays = refl

-- ---- what a frontier passes

slot_by_its_step : is_passed 0 1 2 0 ≡ true
slot_by_its_step = refl

slot_after_the_steps : is_passed 0 1 2 1 ≡ false
slot_after_the_steps = refl

slot_of_another_puddle : is_passed 0 1 2 248 ≡ false
slot_of_another_puddle = refl

root_with_the_first_step : passes_root 0 0 1 ≡ true
root_with_the_first_step = refl

root_of_another_puddle : passes_root 1 0 10 ≡ false
root_of_another_puddle = refl

-- ---- words

root_rewritten : passed_word types puddles 0 first_word 0 0 1 4 ≡ Some (low_base + 512)
unfolding opened
root_rewritten = refl

pointer_rewritten : passed_word types puddles 0 first_word 0 0 10 67 ≡ Some (low_base + 512)
unfolding opened
pointer_rewritten = refl

pointer_not_reached : passed_word types puddles 0 first_word 0 0 1 67 ≡ None
unfolding opened
pointer_not_reached = refl

pointer_passed_before : passed_word types puddles 0 first_word 0 2 10 67 ≡ None
unfolding opened
pointer_passed_before = refl

-- A number is not rewritten, whatever its value is.
number_not_rewritten : passed_word types puddles 0 first_word 0 0 10 66 ≡ None
unfolding opened
number_not_rewritten = refl

-- A null pointer stays 0.
null_rewritten : passed_word types puddles 0 second_word 1 1 10 67 ≡ Some 0
unfolding opened
null_rewritten = refl

free_slot_not_rewritten : passed_word types puddles 0 first_word 0 0 10 99 ≡ None
unfolding opened
free_slot_not_rewritten = refl

-- ---- graphs

graph_after_the_first_step : graph_of types (advanced 0 1 (with_passed types pool 0 0 1) pool) ≡ Some graph
unfolding opened
graph_after_the_first_step = refl

graph_after_ten_steps : graph_of types (advanced 0 10 (with_passed types pool 0 0 10) pool) ≡ Some graph
unfolding opened
graph_after_ten_steps = refl

-- If only the frontier moves, the object names itself.
frontier_alone_is_another_graph : graph_of types (advanced 0 2 (with_passed types pool 0 0 1) pool)
    ≡ Some (record graph { objects = (1, record { type_id = 1; class = 0; fields = Num (low_base + 512) ∷ Ref 1 ∷ [] }) ∷ (2, record { type_id = 1; class = 0; fields = Num 0 ∷ Ref 0 ∷ [] }) ∷ [] })
unfolding opened
frontier_alone_is_another_graph = refl

-- ---- a device of four frames, with the first puddle in frame 2

frontier_written : steps_write 4 types puddles first_word 0 10 (2, first) (frontier_word 2) ≡ Some 10
unfolding steps_write
frontier_written = refl

pointer_written : steps_write 4 types puddles first_word 0 10 (2, first) (frame_at 4 2 + 67) ≡ Some (low_base + 512)
unfolding steps_write opened
pointer_written = refl

other_frame_not_written : steps_write 4 types puddles first_word 0 10 (2, first) (frame_at 4 1 + 67) ≡ None
unfolding steps_write
other_frame_not_written = refl

frontier_kept_in_memory : with_steps 0 10 (2, first) ((2, first) ∷ (1, second) ∷ []) ≡ (2, moved_to 10 first) ∷ (1, second) ∷ []
frontier_kept_in_memory = refl
