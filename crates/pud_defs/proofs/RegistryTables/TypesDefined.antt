-- Several types are defined, one after the other: what their records make of an image, and that the missing types of a
-- file may be defined in this way.
use Rattle.std.proofs.Common.{◌≡◌, ◌⊎◌, inl, inr, ℕ, zero, suc, ◌+◌, ◌<◌, ◌≤◌, Bool, true, false, eqb, cond, List, [], ◌∷◌, Option, Some, None, is_none, nat_cmp, refl, sym, ap₂, ◌∙◌, subst, arith, ne_eqb, eq-eqb}
use Rattle.std.specs.Prelude.{⊤}
use Rattle.std.specs.List.{list_all}
use Rattle.std.specs.Ordering.{is_lt}
use Rattle.std.specs.FinMap.Entries.{below_all, is_sorted, find-put}
use Rattle.std.proofs.lemmas.Bool.{cases_eq, cond-true, cond-false, and_parts}
use Rattle.std.proofs.lemmas.Bool.Decides.{nat_tests}
use Rattle.std.proofs.lemmas.Cmp.{nat_cmp_total}
use Rattle.pud_defs.specs.declared.layout.TheConstants.{TYPE_RECORDS}
use Rattle.pud_defs.specs.Formats.Image.{Image, image_with}
use Rattle.pud_defs.specs.Formats.TypeMap.{is_legal_map, is_legal_type_id}
use Rattle.pud_defs.specs.RegistryTables.Keyed.{first_free}
use Rattle.pud_defs.specs.RegistryTables.Types.{type_record_at, type_at, map_of, with_type, is_sound_type}
use Rattle.pud_defs.specs.PoolGraphs.ExportFile.{are_file_types}
use Rattle.pud_defs.specs.RegistryTables.Puts.{with_put}
use Rattle.pud_defs.specs.StateMachine.PoolChanges.{with_type_defined}
use Rattle.pud_defs.specs.StateMachine.Imports.{type_put, types_missing, with_types_defined}
use Rattle.pud_defs.specs.StateMachine.World.{StoredWorld}
use Rattle.pud_defs.proofs.Formats.Images.{written_there, written_other}
use Rattle.pud_defs.proofs.KeyedTables.Keyed.{none_when}
use Rattle.pud_defs.proofs.RegistryTables.PutsMade.{with_put-outside, with_put-inside}
use Rattle.pud_defs.proofs.RegistryTables.TypeLists.{same_test}
use Rattle.pud_defs.proofs.RegistryTables.TypeTable.{free_word}
use Rattle.pud_defs.proofs.StateMachine.Parts.{StandsFor}
use Rattle.pud_defs.proofs.RegistryTables.Definitions.{standing-map_written, standing-id_written}

-- ---- the record of a type

put_word : (n id map : ℕ) (image : Image) (k : ℕ) → with_put (type_put n id map) image k ≡ image_with (type_record_at n) id (image_with (type_record_at n + 1) map image) k
put_word n id map image k =
    let at = type_record_at n in
    elim (cases_eq k at) [
      | inl first ↦
          with_put-inside (type_put n id map) image k 0 (omega arith) (omega arith)
          ∙ sym (cond-true (eqb k at) id (image_with (at + 1) map image k) (eq-eqb k at first))
      | inr not_first ↦ elim (cases_eq k (at + 1)) [
        | inl second ↦
            with_put-inside (type_put n id map) image k 1 second (omega arith)
            ∙ sym (written_other at id (image_with (at + 1) map image) k not_first ∙ cond-true (eqb k (at + 1)) map (image k) (eq-eqb k (at + 1) second))
        | inr other ↦
            with_put-outside (type_put n id map) image k (λ low high. absurd (between k at low high not_first other))
            ∙ sym (written_other at id (image_with (at + 1) map image) k not_first ∙ written_other (at + 1) map image k other)
      ]
    ]
  where
    between : (k at : ℕ) → at ≤ k → k < at + 2 → (k ≡ at → ⊥) → (k ≡ at + 1 → ⊥) → ⊥
    between k at low high first second = elim (cases_eq k at) [ inl same ↦ first same | inr other ↦ second (omega arith) ]

-- its two words are written, the map word first
pub type_put_made : (n id map : ℕ) (image : Image) → with_put (type_put n id map) image ≡ image_with (type_record_at n) id (image_with (type_record_at n + 1) map image)
type_put_made n id map image = λ p k. put_word n id map image k p

-- in a free record it defines the type
pub standing-type_put : (size : ℕ) (image : Image) (s : StoredWorld) (n id map : ℕ) → StandsFor size image s → n < TYPE_RECORDS → type_at image n ≡ None
    → is_legal_type_id id ≡ true → is_legal_map map ≡ true → map_of id s.types ≡ None → StandsFor size (with_put (type_put n id map) image) (with_type_defined id map s)
standing-type_put size image s n id map stands within none legal_id legal_map missing =
    let free = free_word image n none in
    let at = type_record_at n in
    subst (λ (i : Image). StandsFor size i (with_type_defined id map s)) (sym (type_put_made n id map image))
    (standing-id_written size (image_with (at + 1) map image) s n id map (standing-map_written size image s n map stands within free) within
    (written_other (at + 1) map image at (λ e. absurd (omega arith)) ∙ free) (written_there (at + 1) map image) legal_id legal_map missing)

-- ---- types that are new

-- each of them is legal, and is not defined yet when those before it are
abbrev pub AreNewTypes : (types : List (ℕ × ℕ)) → List (ℕ × ℕ) → Type 0
AreNewTypes types [] = ⊤
AreNewTypes types (t ∷ more) = (is_sound_type (Some t) ≡ true) × (map_of t.0 types ≡ None) × AreNewTypes (with_type t.0 t.1 types) more

-- one of these types has this id
IsAmong : (id : ℕ) → List (ℕ × ℕ) → Type 0
IsAmong id [] = ⊥
IsAmong id (t ∷ types) = (id ≡ t.0) ⊎ IsAmong id types

less : (x y : ℕ) → is_lt (nat_cmp x y) ≡ true → x < y
less x y is = grind (arith, nat_tests)

above_all : (k id : ℕ) (types : List (ℕ × ℕ)) → below_all nat_cmp k types ≡ true → IsAmong id types → k < id
unfolding IsAmong
above_all k id [] all among = absurd among
above_all k id (t ∷ types) all (inl here) = let low = less k t.0 (and_parts (is_lt (nat_cmp k t.0)) (below_all nat_cmp k types) all).0 in omega arith
above_all k id (t ∷ types) all (inr later) = above_all k id types (and_parts (is_lt (nat_cmp k t.0)) (below_all nat_cmp k types) all).1 later

other_type : (id other map : ℕ) (types : List (ℕ × ℕ)) → (other ≡ id → ⊥) → map_of other (with_type id map types) ≡ map_of other types
other_type id other map types apart = find-put nat_cmp nat_cmp_total other id map types ∙ cond-false _ _ _ (same_test other id ∙ ne_eqb other id apart)

abbrev sound : ℕ × ℕ → Bool
sound t = is_sound_type (Some t)

module _ (before : List (ℕ × ℕ)) where
  new_first : (t : ℕ × ℕ) (file now : List (ℕ × ℕ)) → sound t ≡ true → map_of t.0 now ≡ map_of t.0 before → AreNewTypes (with_type t.0 t.1 now) (types_missing before file) → AreNewTypes now (types_missing before file)
      → (b : Bool) → is_none (map_of t.0 before) ≡ b → AreNewTypes now (types_missing before (t ∷ file))
  new_first t file now legal same with_it without_it true is =
      subst (AreNewTypes now) (sym (cond-true (is_none (map_of t.0 before)) (t ∷ types_missing before file) (types_missing before file) is))
      (legal, same ∙ none_when (map_of t.0 before) is, with_it)
  new_first t file now legal same with_it without_it false is =
      subst (AreNewTypes now) (sym (cond-false (is_none (map_of t.0 before)) (t ∷ types_missing before file) (types_missing before file) is)) without_it

  new_in_turn : (file now : List (ℕ × ℕ)) → list_all sound file ≡ true → is_sorted nat_cmp file ≡ true → ((id : ℕ) → IsAmong id file → map_of id now ≡ map_of id before) → AreNewTypes now (types_missing before file)
  unfolding IsAmong
  new_in_turn [] now legal sorted same = tt
  new_in_turn (t ∷ file) now legal sorted same =
      let each = and_parts (sound t) (list_all sound file) legal in
      let order = and_parts (below_all nat_cmp t.0 file) (is_sorted nat_cmp file) sorted in
      let rest_same : (id : ℕ) → IsAmong id file → map_of id (with_type t.0 t.1 now) ≡ map_of id before =
      λ id among. let high = above_all t.0 id file order.0 among in other_type t.0 id t.1 now (λ e. absurd (omega arith)) ∙ same id (inr among) in
      new_first t file now each.0 (same t.0 (inl refl)) (new_in_turn file (with_type t.0 t.1 now) each.1 order.1 rest_same) (new_in_turn file now each.1 order.1 (λ id among. same id (inr among))) (is_none (map_of t.0 before)) refl

  -- the missing types of a file are new
  pub types_missing-new : (file : List (ℕ × ℕ)) → are_file_types file ≡ true → AreNewTypes before (types_missing before file)
  types_missing-new file legal = let parts = and_parts (list_all sound file) (is_sorted nat_cmp file) legal in new_in_turn file before parts.0 parts.1 (λ id among. refl)

-- ---- the world with them

-- the number of frames, the machine id and the next UUID number do not change
abbrev pub typed : List (ℕ × ℕ) → StoredWorld → StoredWorld
typed types s = record s { types = (with_types_defined types s).types; pools = (with_types_defined types s).pools }

pub typed-is : (types : List (ℕ × ℕ)) (s : StoredWorld) → typed types s ≡ with_types_defined types s
unfolding with_types_defined with_type_defined
typed-is [] s = refl
typed-is (t ∷ types) s = typed-is types (with_type_defined t.0 t.1 s)

-- ---- free records

-- tables with the same records have the same lowest free one
pub first_free-same : {A : Type 0} (f g : ℕ → Option A) (from count : ℕ) → ((j : ℕ) → from ≤ j → j < from + count → f j ≡ g j) → first_free f from count ≡ first_free g from count
unfolding first_free
first_free-same f g from zero same = refl
first_free-same f g from (suc count) same =
    ap₂ (λ (o : Option _) (later : Option ℕ). cond (is_none o) (Some from) later) (same from (omega arith) (omega arith)) (first_free-same f g (from + 1) count (λ j low high. same j (omega arith) (omega arith)))
