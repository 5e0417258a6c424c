-- If a pool has a graph, the text that is written from what was read is the graph's text.
use Rattle.std.proofs.Common.{◌≡◌, ℕ, List, ◌++◌, map, Some, nat_cmp, refl, sym, ap, ap₂, ◌∙◌, append_assoc}
use Rattle.std.specs.Prelude.{codes, decimal}
use Rattle.std.proofs.lemmas.Simd.{map-map}
use Rattle.pud_defs.specs.declared.records.Puddle.{Puddle}
use Rattle.pud_defs.specs.Formats.Image.{Image}
use Rattle.pud_defs.specs.RegistryTables.Types.{types_of}
use Rattle.pud_defs.specs.PoolGraphs.Stored.{stored_in, places_of}
use Rattle.pud_defs.specs.RegistryTables.Keyed.{keyed}
use Rattle.pud_defs.specs.PoolGraphs.Graph.{Graph, Table, graph_of, live, serial_and_place, object_at, named_by, next_serial_of, root_of}
use Rattle.pud_defs.specs.Output.DumpText.{dump_text, joined, object_text, pointer_text}
use Rattle.pud_defs.proofs.KeyedTables.KeyedMaps.{of_entry}
use Rattle.graph_laws.proofs.SameReads.Places.{objects-placed}
use Rattle.puddle_header.specs.Places.{places_in}
use Rattle.graph_read.specs.Reading.{table_in}
use Rattle.graph_read.proofs.Found.{graph_is}
use Rattle.graph_read.proofs.Judging.{same_places}
use Rattle.graph_dump.specs.Read.{entry_text}

-- The text of a graph with this next serial, these texts of objects and this root.
abbrev pub text_of : (next : ℕ) → (objects : List (List ℕ)) → (root : ℕ) → List ℕ
text_of next objects root =
    codes "{\"next\":" ++ (decimal next ++ (codes ",\"objects\":[" ++ (joined objects ++ (codes "],\"root\":" ++ (pointer_text root ++ codes "}")))))

pub dump_text-parts : (g : Graph) → dump_text g ≡ text_of g.next_serial (map object_text g.objects) g.root
unfolding dump_text
dump_text-parts g = refl

-- The pieces, written one after the other, make the text of a graph.
pub text_of-pieces : (next : ℕ) (texts : List (List ℕ)) (root : ℕ) (front objects whole : List ℕ) → front ≡ codes "{\"next\":" ++ (decimal next ++ codes ",\"objects\":[") → objects ≡ front ++ joined texts
    → whole ≡ objects ++ (codes "],\"root\":" ++ (pointer_text root ++ codes "}")) → whole ≡ text_of next texts root
text_of-pieces next texts root front objects whole is_front are_objects is_whole = is_whole ∙ ap (λ (l : List ℕ). l ++ following) (are_objects ∙ ap (λ (l : List ℕ). l ++ joined texts) is_front) ∙ simp append_assoc
  where
    following : List ℕ
    following = codes "],\"root\":" ++ (pointer_text root ++ codes "}")

objects_dumped : (F : ℕ) (at : List (ℕ × Puddle)) (image : Image) (n : ℕ)
    → map object_text (keyed nat_cmp (live (table_in F at image)) 0 n) ≡ map (entry_text F at image) (keyed nat_cmp (serial_and_place (table_in F at image)) 0 n)
objects_dumped F at image n =
    let t : Table = table_in F at image in
    ap (map object_text) (objects-placed t n) ∙ map-map object_text (of_entry nat_cmp (object_at t)) (keyed nat_cmp (serial_and_place t) 0 n)

-- The whole text is the graph's text, if the next serial, the root and the places are those of the pool and the pieces
-- are written from them.
pub dumped : (F : ℕ) (at : List (ℕ × Puddle)) (image : Image) (g : Graph) (next root : ℕ) (places : List (ℕ × ℕ)) (front objects whole : List ℕ) → graph_of (types_of image) (stored_in F at image) ≡ Some g
    → next ≡ next_serial_of (stored_in F at image) → root ≡ named_by (table_in F at image).serial (root_of (stored_in F at image))
    → places ≡ keyed nat_cmp (serial_and_place (table_in F at image)) 0 (places_in at) → front ≡ codes "{\"next\":" ++ (decimal next ++ codes ",\"objects\":[")
    → objects ≡ front ++ joined (map (entry_text F at image) places) → whole ≡ objects ++ (codes "],\"root\":" ++ (pointer_text root ++ codes "}")) → whole ≡ dump_text g
dumped F at image g next root places front objects whole stored is_next is_root are_places is_front are_objects is_whole =
    let st = stored_in F at image in
    let t : Table = table_in F at image in
    text_of-pieces next (map (entry_text F at image) places) root front objects whole is_front are_objects is_whole
    ∙ sym (dump_text-parts g
    ∙ ap (λ (x : Graph). text_of x.next_serial (map object_text x.objects) x.root) (graph_is (types_of image) st g stored)
    ∙ ap₂ (λ (n r : ℕ). text_of n (map object_text (keyed nat_cmp (live t) 0 (places_of st))) r) (sym is_next) (sym is_root)
    ∙ ap (λ (texts : List (List ℕ)). text_of next texts root) (objects_dumped F at image (places_of st)
    ∙ ap (λ n. map (entry_text F at image) (keyed nat_cmp (serial_and_place t) 0 n)) (sym (same_places F at image)) ∙ ap (map (entry_text F at image)) (sym are_places)))
