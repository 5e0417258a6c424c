-- A pool of two objects, and its graph after stores, by computation.
use Rattle.std.proofs.Common.{◌≡◌, ℕ, ◌+◌, ◌*◌, ◌^◌, false, cond, eqb, List, [], ◌∷◌, Some, refl}
use Rattle.pud_defs.specs.declared.space.TheConstants.{FRAME_MAGIC}
use Rattle.pud_defs.specs.declared.records.Puddle.{Puddle}
use Rattle.pud_defs.specs.declared.objects.FieldValue.TheVariants.{Num, Ref}
use Rattle.pud_defs.specs.Formats.TypeMap.{map_word}
use Rattle.pud_defs.specs.RegistryTables.Spaces.{all_below}
use Rattle.pud_defs.specs.RegistryTables.Keyed.{keyed, first_from, are_distinct}
use Rattle.pud_defs.specs.Formats.Geometry.{class_slots, class_slot_words, class_slot_at}
use Rattle.pud_defs.specs.PoolGraphs.Stored.{Stored}
use Rattle.pud_defs.specs.PoolGraphs.Graph.{place_in, target, is_graph, headers_fit, graph_of, is_referenced, Graph}
use Rattle.pud_defs.specs.PoolGraphs.GraphChanges.{with_field, with_root, without_object, with_new, blank_object}
use Rattle.graph_laws.specs.Changes.{with_field_word, with_serial_word, with_root_word}
use Rattle.graph_laws.specs.Rewriting.{rewritten}

-- Opens the definitions by which a graph is read.
unfoldable opened : Unit {0}
unfolding class_slots class_slot_words class_slot_at graph_of headers_fit is_graph all_below are_distinct first_from keyed place_in target
opened = tt

abbrev base : ℕ
base = 2 ^ 44

abbrev old_base : ℕ
old_base = 2 ^ 44 + 5 * 16384

-- One type with two fields, of which the second is a pointer.
abbrev types : List (ℕ × ℕ)
types = (1, map_word 2 (1 ∷ [])) ∷ []

abbrev home : Puddle
home = record { number = 7; base = base; old_base = old_base; frontier = 63; class = 0 }

-- Object 1 in slot 0 names object 2 in slot 1, which is the root.
abbrev word_at : ℕ → ℕ
word_at k =
    cond (eqb k 0) FRAME_MAGIC
    (cond (eqb k 1) 7
    (cond (eqb k 3) 3
    (cond (eqb k 4) (base + 768)
    (cond (eqb k 64) 1 (cond (eqb k 65) 1 (cond (eqb k 66) 5 (cond (eqb k 67) (base + 768) (cond (eqb k 96) 2 (cond (eqb k 97) 1 0)))))))))

abbrev pool : Stored
pool = record { puddles = home ∷ []; word = λ o k. cond (eqb o 0) (word_at k) 0 }

abbrev graph : Graph
graph = record {
  next_serial = 3;
  root = 2;
  objects = (1, record { type_id = 1; class = 0; fields = Num 5 ∷ Ref 2 ∷ [] }) ∷ (2, record { type_id = 1; class = 0; fields = Num 0 ∷ Ref 0 ∷ [] }) ∷ [];
}

pool_has_graph : graph_of types pool ≡ Some graph
unfolding opened
pool_has_graph = refl

number_stored : graph_of types (with_field_word 0 0 9 pool) ≡ Some (with_field 1 0 (Num 9) graph)
unfolding opened
number_stored = refl

pointer_stored : graph_of types (with_field_word 1 1 (base + 512) pool) ≡ Some (with_field 2 1 (Ref 1) graph)
unfolding opened
pointer_stored = refl

root_stored : graph_of types (with_root_word (base + 512) pool) ≡ Some (with_root 1 graph)
unfolding opened
root_stored = refl

-- Nothing names object 1, so it can be freed.
first_freed : graph_of types (with_serial_word 0 0 pool) ≡ Some (without_object 1 graph)
unfolding opened
first_freed = refl

first_is_not_held : is_referenced 1 graph ≡ false
unfolding is_referenced
first_is_not_held = refl

new_object_comes_last : (with_new (blank_object 0 1 (map_word 2 (1 ∷ []))) graph).objects ≡ (1, record { type_id = 1; class = 0; fields = Num 5 ∷ Ref 2 ∷ [] }) ∷ (2, record { type_id = 1; class = 0; fields = Num 0 ∷ Ref 0 ∷ [] }) ∷ (3, record { type_id = 1; class = 0; fields = Num 0 ∷ Ref 0 ∷ [] }) ∷ []
new_object_comes_last = refl

-- A pointer over the old base to slot 1 is rewritten to the address over the pool's base.
old_pointer_rewritten : rewritten (home ∷ []) (old_base + 768) ≡ base + 768
unfolding class_slots class_slot_words class_slot_at target place_in
old_pointer_rewritten = refl
