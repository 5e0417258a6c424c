-- The types of a file one by one: each is legal, and its id is above the one before.
use Rattle.std.proofs.Common.{◌≡◌, ℕ, ◌+◌, ◌<◌, ◌≤◌, Bool, true, false, ◌&&◌, leb, ltb, List, [], ◌∷◌, Some, refl, sym, ap, ap₂, ◌∙◌, arith}
use Rattle.std.specs.Ordering.{nat_cmp, is_lt}
use Rattle.std.specs.List.{list_all}
use Rattle.std.specs.FinMap.Entries.{below_all, is_sorted}
use Rattle.std.proofs.lemmas.Bool.{and_parts, and_from, ltb-true, lt-ltb, leb-true}
use Rattle.std.proofs.lemmas.Bool.Decides.{nat_tests}
use Rattle.pud_defs.specs.declared.layout.TheConstants.{MAX_TYPE_ID}
use Rattle.pud_defs.specs.Formats.Image.{Image}
use Rattle.pud_defs.specs.Formats.TypeMap.{is_legal_map, is_legal_type_id}
use Rattle.pud_defs.specs.RegistryTables.Types.{is_sound_type}
use Rattle.pud_defs.specs.PoolGraphs.ExportFile.{file_type, file_types, are_file_types}
use Rattle.pud_defs.proofs.RegistryTables.Spaces.{all_below-each, list_all-below}
use Rattle.pud_import.proofs.FileChecks.Numbered.{from_number, from_number-more}

abbrev sound : ℕ × ℕ → Bool
sound t = is_sound_type (Some t)

-- each type is legal, and the ids rise from above another number
abbrev pub rises : (before : ℕ) → List (ℕ × ℕ) → Bool
rises before [] = true
rises before (t ∷ ts) = (sound t && ltb before t.0) && rises t.0 ts

less : (x y : ℕ) → is_lt (nat_cmp x y) ≡ ltb x y
less x y = grind (arith, nat_tests)

-- a number that is below one that is below all is itself below all
below_lower : (x y : ℕ) (ts : List (ℕ × ℕ)) → ltb x y ≡ true → below_all nat_cmp y ts ≡ true → below_all nat_cmp x ts ≡ true
below_lower x y [] low all = refl
below_lower x y (t ∷ ts) low all =
    let parts = and_parts (is_lt (nat_cmp y t.0)) (below_all nat_cmp y ts) all in
    let first = ltb-true x y low in
    let then = ltb-true y t.0 (sym (less y t.0) ∙ parts.0) in
    and_from _ _ (less x t.0 ∙ lt-ltb x t.0 (omega arith)) (below_lower x y ts low parts.1)

rearranged : (s x l y z o : Bool) → (x ≡ true → y ≡ true → z ≡ true) → ((s && x) && (l && (y && o))) ≡ ((s && l) && ((x && z) && (y && o)))
rearranged false x l y z o lower = refl
rearranged true false true y z o lower = refl
rearranged true false false y z o lower = refl
rearranged true true false y z o lower = refl
rearranged true true true false true o lower = refl
rearranged true true true false false o lower = refl
rearranged true true true true z o lower = ap (λ b. b && o) (sym (lower refl refl))

rises-parts : (before : ℕ) (ts : List (ℕ × ℕ)) → rises before ts ≡ (list_all sound ts && (below_all nat_cmp before ts && is_sorted nat_cmp ts))
rises-parts before [] = refl
rises-parts before (t ∷ ts) =
    ap₂ (λ a b. (sound t && a) && b) (sym (less before t.0)) (rises-parts t.0 ts)
    ∙ rearranged (sound t) (is_lt (nat_cmp before t.0)) (list_all sound ts) (below_all nat_cmp t.0 ts) (below_all nat_cmp before ts) (is_sorted nat_cmp ts)
    (λ low all. below_lower before t.0 ts (sym (less before t.0) ∙ low) all)

-- legal ids are above 0
above_none : (ts : List (ℕ × ℕ)) → list_all sound ts ≡ true → below_all nat_cmp 0 ts ≡ true
above_none [] all = refl
above_none (t ∷ ts) all =
    let parts = and_parts (sound t) (list_all sound ts) all in
    let id = and_parts (is_legal_type_id t.0) (is_legal_map t.1) parts.0 in
    let low = leb-true 1 t.0 (and_parts _ _ id.0).0 in
    and_from _ _ (less 0 t.0 ∙ lt-ltb 0 t.0 (omega arith)) (above_none ts parts.1)

passed : (l z o : Bool) → (l ≡ true → z ≡ true) → (l && (z && o)) ≡ (l && o)
passed false z o passes = refl
passed true z o passes = ap (λ b. b && o) (passes refl)

pub rises-start : (ts : List (ℕ × ℕ)) → are_file_types ts ≡ rises 0 ts
rises-start ts = sym (rises-parts 0 ts ∙ passed (list_all sound ts) (below_all nat_cmp 0 ts) (is_sorted nat_cmp ts) (above_none ts))

-- ---- one type more

module _ (f : ℕ → ℕ × ℕ) (before i n : ℕ) (t : ℕ × ℕ) (below : i < n) (here : t ≡ f i) where
  pub rises-more : (sound t && ltb before t.0) ≡ true → rises before (from_number f i n) ≡ rises t.0 (from_number f (i + 1) n)
  rises-more passes =
      ap (rises before) (from_number-more f i n below)
      ∙ ap (λ x. (sound x && ltb before x.0) && rises x.0 (from_number f (i + 1) n)) (sym here)
      ∙ ap (λ b. b && rises t.0 (from_number f (i + 1) n)) passes

  pub rises-fails : (sound t && ltb before t.0) ≡ false → rises before (from_number f i n) ≡ false
  rises-fails fails =
      ap (rises before) (from_number-more f i n below)
      ∙ ap (λ x. (sound x && ltb before x.0) && rises x.0 (from_number f (i + 1) n)) (sym here)
      ∙ ap (λ b. b && rises t.0 (from_number f (i + 1) n)) fails

-- ---- one of them

-- a type id from 1 to 65,535
pub record IsTypeId (id : ℕ) : Type 0 where
  pub least : 1 ≤ id
  pub most : id ≤ MAX_TYPE_ID

pub legal_id : (words : Image) (T : ℕ) → are_file_types (file_types words T) ≡ true → (i : ℕ) → i < T → IsTypeId (file_type words i).0
legal_id words T legal i below =
    let t = file_type words i in
    let all = and_parts (list_all sound (file_types words T)) (is_sorted nat_cmp (file_types words T)) legal in
    let here = all_below-each T (λ k. sound (file_type words k)) (sym (list_all-below sound (file_type words) T) ∙ all.0) i below in
    let id = and_parts (is_legal_type_id t.0) (is_legal_map t.1) here in
    let bounds = and_parts (leb 1 t.0) (leb t.0 MAX_TYPE_ID) id.0 in
    record { least = leb-true 1 t.0 bounds.0; most = leb-true t.0 MAX_TYPE_ID bounds.1 }
