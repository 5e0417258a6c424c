-- Whether an object is referenced, by what was read of each slot.
use Rattle.std.proofs.Common.{◌≡◌, ℕ, Bool, true, false, not, ◌&&◌, ◌||◌, cond, eqb, nat_cmp, List, [], ◌∷◌, map, length, Option, Some, None, refl, sym, ap, ap₂, ◌∙◌}
use Rattle.std.specs.List.{list_any, list_all}
use Rattle.std.proofs.lemmas.Bool.{and_parts}
use Rattle.std.proofs.lemmas.Cmp.{nat_cmp_total}
use Rattle.std.proofs.lemmas.Option.{cond_some, none-some}
use Rattle.pud_defs.specs.PoolGraphs.Graph.{Content, Table, Object, Graph, stands, names_serial, named_by, value_of, contents_or_none, object_at, live, serial_and_place, headers_fit, is_graph, is_next_serial, is_sound_place, graph_of, graph_stored, has_graph, is_referenced, table_of, next_serial_of, root_of}
use Rattle.pud_defs.specs.RegistryTables.Keyed.{keyed, are_distinct}
use Rattle.pud_defs.specs.RegistryTables.Spaces.{all_below}
use Rattle.pud_defs.specs.PoolGraphs.Stored.{Stored, stored_in, places_of}
use Rattle.pud_defs.proofs.KeyedTables.Keyed.{distinct_keys}
use Rattle.pud_defs.proofs.KeyedTables.KeyedEach.{passes_there, any-keyed}
use Rattle.pud_defs.proofs.RegistryTables.Spaces.{all_below-same, any-range}
use Rattle.graph_read.specs.declared.checking.SlotCheck.TheVariants.{LacksPointerTo}
use Rattle.graph_read.specs.Checking.{contents_pass, place_passes, serials_in, with_serials}
use Rattle.graph_read.proofs.Judging.{none_without_puddles}
use Rattle.pud_defs.specs.declared.records.Puddle.{Puddle}
use Rattle.pud_defs.specs.Formats.Image.{Image}
use Rattle.pud_defs.proofs.PoolGraphs.Graphs.{distinct_live}

-- ---- who names a serial

-- a field of the object names the serial
abbrev names : ℕ → ℕ × Object → Bool
names s e = list_any (names_serial s) e.1.fields

spared_fields : (s : ℕ) (serial : ℕ → ℕ) (contents : List Content) → not (list_any (names_serial s) (map (value_of serial) contents)) ≡ list_all (λ c. not (names_serial s (value_of serial c))) contents
spared_fields s serial [] = refl
spared_fields s serial (x ∷ xs) =
    elim (names_serial s (value_of serial x))
    as (λ b. not (b || list_any (names_serial s) (map (value_of serial) xs)) ≡ (not b && list_all (λ c. not (names_serial s (value_of serial c))) xs)) [ true ↦ refl | false ↦ spared_fields s serial xs ]

spared_contents : (s : ℕ) (serial : ℕ → ℕ) (contents : Option (List Content)) → not (list_any (names_serial s) (map (value_of serial) (contents_or_none contents))) ≡ contents_pass (LacksPointerTo s) serial contents
spared_contents s serial None = refl
spared_contents s serial (Some contents) = spared_fields s serial contents

spared_place : (s : ℕ) (t : Table) (p : ℕ) → not (passes_there (names s) (live t p)) ≡ place_passes (LacksPointerTo s) t p
spared_place s t p =
    elim (eqb (t.serial p) 0)
    as (λ b. not (passes_there (names s) (cond (not b) (Some (t.serial p, object_at t p)) None)) ≡ (b || contents_pass (LacksPointerTo s) t.serial (t.contents p))) [ true ↦ refl | false ↦ spared_contents s t.serial (t.contents p) ]

-- An object names the serial exactly if a slot does.
any_names : (s : ℕ) (t : Table) (n : ℕ) → are_distinct nat_cmp (serial_and_place t) 0 n ≡ true → not (all_below n (place_passes (LacksPointerTo s) t)) ≡ list_any (names s) (keyed nat_cmp (live t) 0 n)
any_names s t n distinct =
    sym (any-keyed nat_cmp (names s) nat_cmp_total (live t) 0 n (distinct_live t n (distinct_keys nat_cmp (serial_and_place t) 0 n distinct))
    ∙ any-range (λ j. passes_there (names s) (live t j)) n
    ∙ ap not (all_below-same n (λ j. not (passes_there (names s) (live t j))) (place_passes (LacksPointerTo s) t) (λ k below. spared_place s t k)))

has_distinct : (types : List (ℕ × ℕ)) (st : Stored) → has_graph types st ≡ true → are_distinct nat_cmp (serial_and_place (table_of types st)) 0 (places_of st) ≡ true
unfolding is_graph
has_distinct types st has =
    let t = table_of types st in
    let graph = (and_parts (headers_fit st) (is_graph (next_serial_of st) (root_of st) t (places_of st)) has).1 in
    let serials = are_distinct nat_cmp (serial_and_place t) 0 (places_of st) in
    let front = (and_parts (is_next_serial (next_serial_of st) && stands t.serial (root_of st) && serials) (all_below (places_of st) (is_sound_place (next_serial_of st) t)) graph).0 in
    (and_parts (is_next_serial (next_serial_of st) && stands t.serial (root_of st)) serials front).1

-- what was read of a pool that stores a graph tells whether an object is referenced
pub held : (types : List (ℕ × ℕ)) (st : Stored) (g : Graph) (s : ℕ) (serial : ℕ → ℕ) (root : ℕ) (slots : Bool) → graph_of types st ≡ Some g → serial ≡ serials_in st → root ≡ named_by serial (root_of st)
    → slots ≡ all_below (places_of st) (place_passes (LacksPointerTo s) (with_serials serial (table_of types st))) → (eqb root s || not slots) ≡ is_referenced s g
unfolding graph_of is_referenced
held types st g s serial root slots stored is_serial is_root is_slots =
    let parts = cond_some (has_graph types st) (graph_stored types st) g stored in
    ap₂ (λ (r : ℕ) (b : Bool). eqb r s || b) (is_root ∙ ap (λ (f : ℕ → ℕ). named_by f (root_of st)) is_serial)
    (ap not (is_slots ∙ ap (λ (f : ℕ → ℕ). all_below (places_of st) (place_passes (LacksPointerTo s) (with_serials f (table_of types st)))) is_serial)
    ∙ any_names s (table_of types st) (places_of st) (has_distinct types st parts.0))
    ∙ ap (λ (x : Graph). is_referenced s x) parts.1

-- a pool without puddles stores no graph
pub none_held : (types : List (ℕ × ℕ)) (F : ℕ) (at : List (ℕ × Puddle)) (image : Image) (g : Graph) → eqb (length at) 0 ≡ true → graph_of types (stored_in F at image) ≡ Some g → ⊥
none_held types F at image g none stored = none-some g (sym (none_without_puddles types F at image none) ∙ stored)
