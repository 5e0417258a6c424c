-- The search for a serial, place by place, and the object that a graph has under it.
use Rattle.std.proofs.Common.{◌≡◌, ℕ, zero, suc, ◌+◌, ◌-◌, ◌<◌, ◌≤◌, eqb, nat_cmp, cond, List, Option, Some, None, is_none, option_map, true, false, refl, sym, ap, ap₂, ◌∙◌, arith, ⊎_elim, eq-eqb, ne_eqb, not}
use Rattle.std.specs.Ordering.{eq_by_cmp}
use Rattle.std.specs.Option.{option_or}
use Rattle.std.proofs.lemmas.Bool.{cases_eq, cond-true, cond-false}
use Rattle.std.proofs.lemmas.Cmp.{nat_cmp_total}
use Rattle.std.proofs.lemmas.List.{length-map}
use Rattle.std.proofs.lemmas.Option.{cond_some}
use Rattle.pud_defs.specs.declared.records.Puddle.{Puddle}
use Rattle.pud_defs.specs.Formats.Geometry.{places_among}
use Rattle.pud_defs.specs.Formats.Image.{Image}
use Rattle.pud_defs.specs.RegistryTables.Keyed.{first_from, under}
use Rattle.pud_defs.specs.RegistryTables.Types.{types_of}
use Rattle.pud_defs.specs.PoolGraphs.Stored.{Stored, stored_in, places_of}
use Rattle.pud_defs.specs.PoolGraphs.Graph.{Table, under_serial, serial_and_place, place_of_serial, object_at, live, Graph, has_graph, graph_stored, graph_of, object_in}
use Rattle.pud_defs.proofs.KeyedTables.Keyed.{find-keyed, first_from_here, first_from_other, first_from_end, first_from_none}
use Rattle.pud_defs.proofs.RegistryTables.TypeLists.{same_test}
use Rattle.pud_defs.proofs.PoolGraphs.Graphs.{under_serial-free, under_serial-used}
use Rattle.graph_read.specs.Reading.{table_in, place_in_pool}

-- ---- place by place

-- The lowest place from place i to place n - 1 that has the serial.
unfoldable pub place_from : Table → (n s i : ℕ) → Option ℕ
place_from t n s i = first_from nat_cmp s (serial_and_place t) i (n - i)

pub place_from-start : (t : Table) (n s : ℕ) → place_of_serial s t n ≡ place_from t n s 0
unfolding place_from
place_from-start t n s = ap (first_from nat_cmp s (serial_and_place t) 0) (let e : n ≡ n - 0 = omega arith in e)

under_other : {A : Type 0} (serial : ℕ → ℕ) (value : ℕ → A) (s p : ℕ) → (serial p ≡ s → ⊥) → under nat_cmp s (under_serial serial value p) ≡ None
under_other {A} serial value s p other =
    ⊎_elim
    (λ free. ap (under nat_cmp s) (under_serial-free serial value p free))
    (λ used. ap (under nat_cmp s) (under_serial-used serial value p used) ∙ cond-false _ _ _ (same_test s (serial p) ∙ ne_eqb _ _ (λ e. other (sym e))))
    (cases_eq (serial p) 0)

under_here : {A : Type 0} (serial : ℕ → ℕ) (value : ℕ → A) (s p : ℕ) → 0 < s → serial p ≡ s → under nat_cmp s (under_serial serial value p) ≡ Some (value p)
under_here {A} serial value s p above here =
    ap (under nat_cmp s) (under_serial-used serial value p (λ free. absurd (omega arith)))
    ∙ cond-true _ _ _ (same_test s (serial p) ∙ eq-eqb _ _ (sym here))

pub place_from-here : (t : Table) (n s i : ℕ) → 0 < s → i < n → t.serial i ≡ s → place_from t n s i ≡ Some i
unfolding place_from
place_from-here t n s i above below here = first_from_here nat_cmp s (serial_and_place t) i n i below (under_here t.serial (λ p. p) s i above here)

pub place_from-other : (t : Table) (n s i : ℕ) → i < n → (t.serial i ≡ s → ⊥) → place_from t n s i ≡ place_from t n s (i + 1)
unfolding place_from
place_from-other t n s i below other = first_from_other nat_cmp s (serial_and_place t) i n below (under_other t.serial (λ p. p) s i other)

pub place_from-end : (t : Table) (n s i : ℕ) → n ≤ i → place_from t n s i ≡ None
unfolding place_from
place_from-end t n s i past = first_from_end nat_cmp s (serial_and_place t) i n past

free_under : {A : Type 0} (serial : ℕ → ℕ) (value : ℕ → A) (p : ℕ) → under nat_cmp 0 (under_serial serial value p) ≡ None
free_under {A} serial value p =
    ⊎_elim
    (λ free. ap (under nat_cmp 0) (under_serial-free serial value p free))
    (λ used. under_other serial value 0 p used)
    (cases_eq (serial p) 0)

-- No place is found for serial 0.
pub place_of_serial-zero : (t : Table) (n : ℕ) → place_of_serial 0 t n ≡ None
place_of_serial-zero t n = first_from_none nat_cmp 0 (serial_and_place t) 0 n (λ j low high. free_under t.serial (λ p. p) j)

-- ---- what a graph has under a serial

under-valued : {A : Type 0} (serial : ℕ → ℕ) (value : ℕ → A) (s p : ℕ) → under nat_cmp s (under_serial serial value p) ≡ option_map value (under nat_cmp s (under_serial serial (λ q. q) p))
under-valued {A} serial value s p =
    let at : (v : ℕ) → under nat_cmp s (Some (v, value p)) ≡ option_map value (under nat_cmp s (Some (v, p))) = λ v.
    elim (eq_by_cmp nat_cmp s v) as (λ b. cond b (Some (value p)) None ≡ option_map value (cond b (Some p) None)) [ true ↦ refl | false ↦ refl ] in
    elim (eqb (serial p) 0) as (λ b. under nat_cmp s (cond (not b) (Some (serial p, value p)) None) ≡ option_map value (under nat_cmp s (cond (not b) (Some (serial p, p)) None))) [ true ↦ refl | false ↦ at (serial p) ]

map_either : {A B : Type 0} (f : A → B) (o later : Option A) → option_or (option_map f o) (option_map f later) ≡ option_map f (option_or o later)
map_either f None later = refl
map_either f (Some x) later = refl

first_from-valued : {A : Type 0} (serial : ℕ → ℕ) (value : ℕ → A) (s from count : ℕ)
    → first_from nat_cmp s (under_serial serial value) from count ≡ option_map value (first_from nat_cmp s (under_serial serial (λ q. q)) from count)
unfolding first_from
first_from-valued serial value s from zero = refl
first_from-valued serial value s from (suc count) =
    ap₂ option_or (under-valued serial value s from) (first_from-valued serial value s (from + 1) count)
    ∙ map_either value (under nat_cmp s (under_serial serial (λ q. q) from)) (first_from nat_cmp s (under_serial serial (λ q. q)) (from + 1) count)

pub graph_is : (types : List (ℕ × ℕ)) (st : Stored) (g : Graph) → graph_of types st ≡ Some g → g ≡ graph_stored types st
unfolding graph_of
graph_is types st g is = sym (cond_some (has_graph types st) (graph_stored types st) g is).1

-- The object of a serial is the object at the serial's place.
pub object_in-place : (F : ℕ) (at : List (ℕ × Puddle)) (image : Image) (g : Graph) (s : ℕ) → graph_of (types_of image) (stored_in F at image) ≡ Some g
    → object_in s g ≡ option_map (object_at (table_in F at image)) (place_in_pool F at image s)
object_in-place F at image g s is =
    let t = table_in F at image in
    let n = places_of (stored_in F at image) in
    ap (object_in s) (graph_is (types_of image) (stored_in F at image) g is)
    ∙ find-keyed nat_cmp nat_cmp_total s (live t) 0 n
    ∙ first_from-valued t.serial (object_at t) s 0 n
    ∙ ap (λ n. option_map (object_at t) (place_of_serial s t (places_among n))) (length-map at (λ (e : ℕ × Puddle). e.1))

is_none-map : {A B : Type 0} (f : A → B) (o : Option A) → is_none o ≡ is_none (option_map f o)
is_none-map f None = refl
is_none-map f (Some x) = refl

-- A graph has an object of a serial exactly if a place has the serial.
pub none_in_graph : (F : ℕ) (at : List (ℕ × Puddle)) (image : Image) (g : Graph) (s : ℕ) (o : Option ℕ) → graph_of (types_of image) (stored_in F at image) ≡ Some g
    → o ≡ place_in_pool F at image s → is_none o ≡ is_none (object_in s g)
none_in_graph F at image g s o is found =
    ap is_none found ∙ is_none-map (object_at (table_in F at image)) (place_in_pool F at image s) ∙ ap is_none (sym (object_in-place F at image g s is))
