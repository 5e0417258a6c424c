-- Worked examples of rewriting: a large puddle and a small one that swapped their bases, with pointers both ways.
use Rattle.std.proofs.Common.{◌≡◌, ℕ, ◌+◌, ◌*◌, ◌^◌, true, false, cond, eqb, List, [], ◌∷◌, map, Some, None, refl}
use Rattle.pud_defs.specs.declared.space.TheConstants.{FRAME_MAGIC}
use Rattle.pud_defs.specs.declared.records.Puddle.{Puddle}
use Rattle.pud_defs.specs.declared.objects.FieldValue.TheVariants.{Num, Ref}
use Rattle.pud_defs.specs.Formats.TypeMap.{map_word}
use Rattle.pud_defs.specs.Formats.Geometry.{class_slots, class_slot_words, class_slot_at}
use Rattle.pud_defs.specs.PoolGraphs.Stored.{Stored}
use Rattle.pud_defs.specs.PoolGraphs.Graph.{At, over_old, target, graph_of, Graph, place_in, is_graph, headers_fit}
use Rattle.pud_defs.specs.RegistryTables.Spaces.{all_below}
use Rattle.pud_defs.specs.RegistryTables.Keyed.{keyed, first_from, are_distinct}
use Rattle.pud_defs.specs.RegistryTables.Puddles.{frontier_word}
use Rattle.graph_laws.specs.Rewriting.{advanced}
use Rattle.graph_laws.specs.Steps.{passed_word, with_passed, steps_write}

-- the definitions by which a graph is read
unfoldable opened : Unit {0}
unfolding class_slots class_slot_words class_slot_at graph_of headers_fit is_graph all_below are_distinct first_from keyed place_in target
opened = tt

abbrev low_base : ℕ
low_base = 2 ^ 44

abbrev high_base : ℕ
high_base = 2 ^ 44 + 16384

-- type 1 has two fields, and the second is a pointer
abbrev types : List (ℕ × ℕ)
types = (1, map_word 2 (1 ∷ [])) ∷ []

-- each puddle has the base that the other had
abbrev large : Puddle
large = record { number = 7; base = high_base; old_base = low_base; frontier = 0; class = 0 }

abbrev small : Puddle
small = record { number = 8; base = low_base; old_base = high_base; frontier = 0; class = 1 }

-- object 1 in slot 2 of the large puddle and object 2 in slot 247 of the small one name each other; object 2 is the root
abbrev large_word : ℕ → ℕ
large_word k =
    cond (eqb k 0) FRAME_MAGIC
    (cond (eqb k 1) 7
    (cond (eqb k 3) 3
    (cond (eqb k 4) (high_base + 8 * 2040) (cond (eqb k 128) 1 (cond (eqb k 129) 1 (cond (eqb k 130) 10 (cond (eqb k 131) (high_base + 8 * 2040) 0)))))))

abbrev small_word : ℕ → ℕ
small_word k =
    cond (eqb k 0) FRAME_MAGIC (cond (eqb k 1) 8 (cond (eqb k 2) 1 (cond (eqb k 2040) 2 (cond (eqb k 2041) 1 (cond (eqb k 2042) 20 (cond (eqb k 2043) (low_base + 8 * 128) 0))))))

abbrev pool : Stored
pool = record { puddles = large ∷ small ∷ []; word = λ o k. cond (eqb o 0) (large_word k) (cond (eqb o 1) (small_word k) 0) }

abbrev graph : Graph
graph = record {
  next_serial = 3;
  root = 2;
  objects = (1, record { type_id = 1; class = 0; fields = Num 10 ∷ Ref 2 ∷ [] }) ∷ (2, record { type_id = 1; class = 1; fields = Num 20 ∷ Ref 1 ∷ [] }) ∷ [];
}

pool_has_graph : graph_of types pool ≡ Some graph
unfolding opened
pool_has_graph = refl

-- an address leads to the last slot of the small puddle over the old bases, and another one to slot 2 of the large one
last_slot : (target (map over_old (large ∷ small ∷ [])) (high_base + 8 * 2040) ≡ At 495) × (target (map over_old (large ∷ small ∷ [])) (low_base + 8 * 128) ≡ At 2)
unfolding opened
last_slot = (refl, refl)

-- each puddle's pointer is found by the puddle's class
pointers_rewritten : (passed_word types (large ∷ small ∷ []) 0 large_word 0 0 63 131 ≡ Some (low_base + 8 * 2040)) × (passed_word types (large ∷ small ∷ []) 1 small_word 1 0 249 2043 ≡ Some (high_base + 8 * 128))
    × (passed_word types (large ∷ small ∷ []) 1 small_word 1 0 248 2043 ≡ None)
unfolding opened
pointers_rewritten = (refl, refl, refl)

graph_after_the_large_one : graph_of types (advanced 0 63 (with_passed types pool 0 0 63) pool) ≡ Some graph
unfolding opened
graph_after_the_large_one = refl

graph_after_the_small_one : graph_of types (advanced 1 249 (with_passed types pool 1 0 249) pool) ≡ Some graph
unfolding opened
graph_after_the_small_one = refl

-- the word of the new frontier keeps the class
frontier_written : steps_write 4 types (large ∷ small ∷ []) small_word 1 249 (2, small) (frontier_word 2) ≡ Some (249 + 2 ^ 32)
unfolding steps_write
frontier_written = refl
