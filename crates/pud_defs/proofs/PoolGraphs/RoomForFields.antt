-- An object has room in the puddles of the class in which objects of its type are made.
use Rattle.std.proofs.Common.{◌≡◌, ℕ, ◌+◌, ◌≤◌, true, leb, arith, le-leb, leb-true}
use Rattle.std.proofs.lemmas.Bool.{cond_both}
use Rattle.pud_defs.specs.declared.layout.TheConstants.{MAX_FIELDS}
use Rattle.pud_defs.specs.declared.space.TheConstants.{SMALL, LARGE, MAX_SMALL_FIELDS, SLOT_FIELDS_WORD}
use Rattle.pud_defs.specs.Formats.Geometry.{class_slot_words, class_for}
use Rattle.pud_defs.specs.Formats.TypeMap.{map_fields}
use Rattle.pud_defs.specs.PoolGraphs.Graph.{field_count, fits_class}

-- A type has at most 30 fields.
pub few_fields : (m : ℕ) → field_count m ≤ MAX_FIELDS
few_fields m = cond_both (leb (map_fields m) MAX_FIELDS) (map_fields m) MAX_FIELDS (λ n. n ≤ MAX_FIELDS) (λ is. leb-true (map_fields m) MAX_FIELDS is) (λ not. omega arith)

-- Any object has room in a large slot.
room_in_large : (m : ℕ) → fits_class LARGE m ≡ true
unfolding class_slot_words
room_in_large m = let few = few_fields m in le-leb (SLOT_FIELDS_WORD + field_count m) (class_slot_words LARGE) (omega arith)

-- An object of few fields has room in a small slot.
room_in_small : (m : ℕ) → field_count m ≤ MAX_SMALL_FIELDS → fits_class SMALL m ≡ true
unfolding class_slot_words
room_in_small m few = le-leb (SLOT_FIELDS_WORD + field_count m) (class_slot_words SMALL) (omega arith)

pub class_for_has_room : (m : ℕ) → fits_class (class_for (field_count m)) m ≡ true
unfolding class_for
class_for_has_room m = cond_both (leb (field_count m) MAX_SMALL_FIELDS) SMALL LARGE (λ class. fits_class class m ≡ true) (λ few. room_in_small m (leb-true (field_count m) MAX_SMALL_FIELDS few)) (λ many. room_in_large m)
