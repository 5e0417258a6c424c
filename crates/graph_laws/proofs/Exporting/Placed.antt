-- Frames that are placed elsewhere keep their graph, whether their pointers are read over bases that were kept or over
-- old ones.
use Rattle.std.proofs.Common.{◌≡◌, ℕ, ◌+◌, ◌<◌, ◌≤◌, true, cond, eqb, ltb, List, [], ◌∷◌, map, length, Option, Some, None, option_map, refl, sym, ap, ap₂, subst, ◌∙◌, ⊎_elim, arith}
use Rattle.std.specs.Prelude.{slice_get}
use Rattle.std.specs.Option.{option_or}
use Rattle.std.proofs.lemmas.Bool.{cases_Bool, cond-true, cond-false, lt-ltb, le-ltb, ltb-true}
use Rattle.std.proofs.lemmas.List.{length-map}
use Rattle.std.proofs.lemmas.Option.{slice_get-map}
use Rattle.pud_defs.specs.declared.space.TheConstants.{LARGE, NEXT_SERIAL_WORD, ROOT_WORD, SLOT_SERIAL_WORD, SLOT_TYPE_WORD, SLOT_FIELDS_WORD}
use Rattle.pud_defs.specs.declared.records.Puddle.{Puddle}
use Rattle.pud_defs.specs.Formats.TypeMap.{is_pointer}
use Rattle.pud_defs.specs.Formats.Geometry.{class_slots, class_slot_words, class_slot_at, class_steps, steps_of, ordinal_of, slot_of, places_among}
use Rattle.pud_defs.proofs.Formats.Geometry.{some_words}
use Rattle.pud_defs.proofs.KeyedTables.Keyed.{IsMapped, option_map_parts}
use Rattle.pud_defs.specs.RegistryTables.Types.{map_of}
use Rattle.pud_defs.specs.PoolGraphs.Stored.{Stored, places_of, class_of, class_at, is_slot, place_begins, place_words, place_word, place_serial, IsLivePlace}
use Rattle.pud_defs.specs.PoolGraphs.Graph.{Content, Number, Null, slot_contents, slot_in, place_in, at_place, target, over_old, puddles_by, pointee_at, content, field_count, fitting, place_map, Graph, graph_of}
use Rattle.pud_defs.proofs.PoolGraphs.Graphs.{graph_of-each}
use Rattle.graph_laws.specs.Placed.{ArePlacedFrames, AreFrontiers, AreAtEnd, KeepsBases, MovesBases}
use Rattle.graph_laws.proofs.SameReads.Words.{begins_low, word_within, live_in_slot, room_of_map, map-range_same}
use Rattle.graph_laws.proofs.SameReads.Pointers.{there_is_puddle}
use Rattle.graph_laws.proofs.SameReads.Same.{graph_of-kept}

-- ---- pointers

slot_in-alike : (a b : Puddle) (v : ℕ) → a.base ≡ b.base → a.class ≡ b.class → slot_in a v ≡ slot_in b v
slot_in-alike a b v base class = λ i. slot_in (record { number = 0; base = base i; old_base = 0; frontier = 0; class = class i }) v

head_and_rest : (x y : ℕ) (xs ys : List ℕ) → x ∷ xs ≡ y ∷ ys → (x ≡ y) × (xs ≡ ys)
head_and_rest x y xs ys e = (cc, cc)

place_in-alike : (first : ℕ) (a b : List Puddle) (v : ℕ) → map (λ (d : Puddle). d.class) a ≡ map (λ (d : Puddle). d.class) b → map (λ (d : Puddle). d.base) a ≡ map (λ (d : Puddle). d.base) b → place_in first a v ≡ place_in first b v
unfolding place_in
place_in-alike first [] [] v classes same = refl
place_in-alike first [] (d ∷ b) v classes same = cc
place_in-alike first (d ∷ a) [] v classes same = cc
place_in-alike first (d ∷ a) (e ∷ b) v classes same =
    let class = head_and_rest d.class e.class (map (λ (d : Puddle). d.class) a) (map (λ (d : Puddle). d.class) b) classes in
    let base = head_and_rest d.base e.base (map (λ (d : Puddle). d.base) a) (map (λ (d : Puddle). d.base) b) same in
    ap₂ option_or (ap (option_map (λ slot. first + slot)) (slot_in-alike d e v base.0 class.0)) (place_in-alike (first + places_among 1) a b v class.1 base.1)

-- What a pointer stands for depends only on the bases.
target-alike : (a b : List Puddle) (v : ℕ) → map (λ (d : Puddle). d.class) a ≡ map (λ (d : Puddle). d.class) b → map (λ (d : Puddle). d.base) a ≡ map (λ (d : Puddle). d.base) b → target a v ≡ target b v
unfolding target
target-alike a b v classes same = ap (λ (place : Option ℕ). cond (eqb v 0) Null (at_place place)) (place_in-alike 0 a b v classes same)

old_classes : (puddles : List Puddle) → map (λ (d : Puddle). d.class) (map over_old puddles) ≡ map (λ (d : Puddle). d.class) puddles
old_classes [] = refl
old_classes (d ∷ puddles) = ap (λ (cs : List ℕ). d.class ∷ cs) (old_classes puddles)

old_bases : (puddles : List Puddle) → map (λ (d : Puddle). d.base) (map over_old puddles) ≡ map (λ (d : Puddle). d.old_base) puddles
old_bases [] = refl
old_bases (d ∷ puddles) = ap (λ (bases : List ℕ). d.old_base ∷ bases) (old_bases puddles)

-- At a step below its puddle's frontier a pointer is read over the bases.
pub read_past : (puddles : List Puddle) (o step v : ℕ) (d : Puddle) → slice_get puddles o ≡ Some d → AreAtEnd puddles → step < steps_of d → pointee_at puddles o step v ≡ target puddles v
read_past puddles o step v d here at low =
    ap (λ (p : Option Puddle). target (puddles_by puddles p step) v) here
    ∙ ap (λ (read : List Puddle). target read v) (cond-true (ltb step d.frontier) puddles (map over_old puddles) (lt-ltb step d.frontier (subst (λ (n : ℕ). step < n) (sym (at.each o d here)) low)))

-- If each frontier is 0, a pointer is read over the old bases.
pub read_before : (puddles : List Puddle) (o step v : ℕ) (d : Puddle) → slice_get puddles o ≡ Some d → AreFrontiers 0 puddles → pointee_at puddles o step v ≡ target (map over_old puddles) v
read_before puddles o step v d here at =
    ap (λ (p : Option Puddle). target (puddles_by puddles p step) v) here
    ∙ ap (λ (frontier : ℕ). target (cond (ltb step frontier) puddles (map over_old puddles)) v) (at.each o d here)
    ∙ ap (λ (read : List Puddle). target read v) (cond-false (ltb step 0) puddles (map over_old puddles) (le-ltb step 0 (omega arith)))

-- Pools of the same classes have puddles of the same class at each ordinal.
class_there : (over puddles : List Puddle) (o : ℕ) (d : Puddle) → map (λ (e : Puddle). e.class) over ≡ map (λ (e : Puddle). e.class) puddles → slice_get puddles o ≡ Some d → IsMapped (λ (e : Puddle). e.class) (slice_get over o) d.class
class_there over puddles o d same here =
    let class = λ (e : Puddle). e.class in
    option_map_parts class (slice_get over o) d.class
    (sym (slice_get-map class over o) ∙ ap (λ (cs : List ℕ). slice_get cs o) same ∙ slice_get-map class puddles o ∙ ap (option_map class) here)

pub pointers-kept : (file later : List Puddle) → AreAtEnd file → KeepsBases file later → (o step v : ℕ) (d : Puddle) → slice_get file o ≡ Some d → step < steps_of d → pointee_at later o step v ≡ pointee_at file o step v
pointers-kept file later ends kept o step v d here low =
    let e = class_there later file o d kept.classes here in
    read_past later o step v e.value e.is kept.frontiers (subst (λ (c : ℕ). step < class_steps c) (sym e.gives) low)
    ∙ target-alike later file v kept.classes kept.bases ∙ sym (read_past file o step v d here ends low)

pub pointers-moved : (file later : List Puddle) → AreAtEnd file → MovesBases file later → (o step v : ℕ) (d : Puddle) → slice_get file o ≡ Some d → step < steps_of d → pointee_at later o step v ≡ pointee_at file o step v
pointers-moved file later ends moved o step v d here low =
    let e = class_there later file o d moved.classes here in
    read_before later o step v e.value e.is moved.frontiers
    ∙ target-alike (map over_old later) file v (old_classes later ∙ moved.classes) (old_bases later ∙ moved.bases) ∙ sym (read_past file o step v d here ends low)

-- ---- the graph

-- The class of a puddle that may be there is known from the classes.
abbrev class_by : Option ℕ → ℕ
class_by None = LARGE
class_by (Some class) = class

class_of-mapped : (o : Option Puddle) → class_of o ≡ class_by (option_map (λ (e : Puddle). e.class) o)
class_of-mapped None = refl
class_of-mapped (Some d) = refl

module _ (types : List (ℕ × ℕ)) (file later : Stored) (placed : ArePlacedFrames file later) (some : 1 ≤ length file.puddles) where
  class-placed : (p : ℕ) → class_at later p ≡ class_at file p
  class-placed p =
      let class = λ (e : Puddle). e.class in
      let o = ordinal_of p in
      class_of-mapped (slice_get later.puddles o)
      ∙ ap class_by (sym (slice_get-map class later.puddles o) ∙ ap (λ (cs : List ℕ). slice_get cs o) placed.classes ∙ slice_get-map class file.puddles o)
      ∙ sym (class_of-mapped (slice_get file.puddles o))

  slot_word : (p j : ℕ) → p < places_of file → is_slot file p ≡ true → j < place_words file p → place_word later p j ≡ place_word file p j
  slot_word p j below slot low =
      let behind = begins_low file p in
      ap (λ (c : ℕ). later.word (ordinal_of p) (class_slot_at c (slot_of p) + j)) (class-placed p)
      ∙ placed.words (ordinal_of p) (place_begins file p + j) (omega arith) (word_within file p j slot low) (λ is. absurd (omega arith))

  serial-placed : (p : ℕ) → p < places_of file → place_serial later p ≡ place_serial file p
  serial-placed p below =
      let same : is_slot later p ≡ is_slot file p = ap (λ (c : ℕ). ltb (slot_of p) (class_slots c)) (class-placed p) in
      let words = some_words (class_at file p) in
      ⊎_elim
      (λ slot. cond-true _ _ _ (same ∙ slot) ∙ slot_word p SLOT_SERIAL_WORD below slot (omega arith) ∙ sym (cond-true _ _ _ slot))
      (λ none. cond-false _ _ _ (same ∙ none) ∙ sym (cond-false _ _ _ none))
      (cases_Bool (is_slot file p))

  type-placed : (p : ℕ) → p < places_of file → IsLivePlace file p → place_word later p SLOT_TYPE_WORD ≡ place_word file p SLOT_TYPE_WORD
  type-placed p below used = let words = some_words (class_at file p) in slot_word p SLOT_TYPE_WORD below (live_in_slot file p used) (omega arith)

  field-placed : (p m f : ℕ) → p < places_of file → IsLivePlace file p → place_map types file p ≡ Some m → f < field_count m
      → content later.puddles m p f (place_word later p (SLOT_FIELDS_WORD + f)) ≡ content file.puddles m p f (place_word file p (SLOT_FIELDS_WORD + f))
  field-placed p m f below used is few =
      let room = room_of_map types file p m is in
      let slot = live_in_slot file p used in
      let home = there_is_puddle file.puddles (ordinal_of p) (omega arith) in
      let within : slot_of p < class_slots home.0.class = subst (λ (c : ℕ). slot_of p < class_slots c) (ap class_of home.1) (ltb-true (slot_of p) (class_slots (class_at file p)) slot) in
      let v = place_word file p (SLOT_FIELDS_WORD + f) in
      ap (content later.puddles m p f) (slot_word p (SLOT_FIELDS_WORD + f) below slot (omega arith))
      ∙ ap (λ (c : Content). cond (is_pointer m f) c (Number v)) (placed.pointers (ordinal_of p) (slot_of p + 1) v home.0 home.1 (omega arith))

  contents-placed : (p : ℕ) (type : Option ℕ) → p < places_of file → IsLivePlace file p → place_map types file p ≡ type → slot_contents later p type ≡ slot_contents file p type
  contents-placed p None below used is = refl
  contents-placed p (Some m) below used is =
      ap (λ (cs : List Content). Some cs)
      (map-range_same (λ f. content later.puddles m p f (place_word later p (SLOT_FIELDS_WORD + f))) (λ f. content file.puddles m p f (place_word file p (SLOT_FIELDS_WORD + f))) (field_count m) (λ f few. field-placed p m f below used is few))

pub graph_of-placed : (types : List (ℕ × ℕ)) (file later : Stored) (g : Graph) → ArePlacedFrames file later → 1 ≤ length file.puddles → graph_of types file ≡ Some g → graph_of types later ≡ Some g
graph_of-placed types file later g placed some is =
    let first = there_is_puddle file.puddles 0 (omega arith) in
    let count = sym (length-map later.puddles (λ (d : Puddle). d.class)) ∙ ap length placed.classes ∙ length-map file.puddles (λ (d : Puddle). d.class) in
    graph_of-kept types file later g (record {
      puddles = count;
      headers = placed.headers ∙ sym (graph_of-each types file g is).headers;
      next = placed.words 0 NEXT_SERIAL_WORD (omega arith) (omega arith) (λ e. absurd (omega arith));
      root = ap (pointee_at later.puddles 0 0) (placed.words 0 ROOT_WORD (omega arith) (omega arith) (λ e. absurd (omega arith))) ∙ placed.pointers 0 0 (file.word 0 ROOT_WORD) first.0 first.1 (omega arith);
      classes = class-placed types file later placed some;
      serials = serial-placed types file later placed some;
      type_ids = type-placed types file later placed some;
      contents = λ p below used.
          ap (slot_contents later p) (λ i. fitting (class-placed types file later placed some p i) (map_of (type-placed types file later placed some p below used i) types))
          ∙ contents-placed types file later placed some p (place_map types file p) below used refl;
    }) is
