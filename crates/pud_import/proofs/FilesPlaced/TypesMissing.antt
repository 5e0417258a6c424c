-- The types of a file that are not defined, type by type, and free records for them.
use Rattle.std.proofs.Common.{◌≡◌, ℕ, zero, suc, ◌+◌, ◌-◌, ◌<◌, ◌≤◌, Bool, true, false, ◌||◌, cond, List, [], ◌∷◌, ◌++◌, map, length, take, get_or, All, ltb, Option, Some, is_none, option_map, refl, sym, ap, ap₂, subst, ◌∙◌, arith}
use Rattle.std.proofs.lemmas.Bool.{cond-true, cond-false, lt-ltb, le-ltb}
use Rattle.std.specs.Prelude.{slice_get}
use Rattle.std.proofs.lemmas.List.{append-nil, length-map}
use Rattle.std.proofs.lemmas.Option.{slice_get-map, slice_get-get_or, get_or_from_slice_get}
use Rattle.std.proofs.lemmas.List.FromFn.{map-range_with_len_more}
use Rattle.pud_defs.specs.Formats.Image.{Image}
use Rattle.pud_defs.specs.declared.layout.TheConstants.{TYPE_RECORDS}
use Rattle.pud_defs.specs.RegistryTables.Types.{map_of, type_at, used_types}
use Rattle.pud_defs.specs.PoolGraphs.ExportFile.{file_type, file_types}
use Rattle.pud_defs.specs.StateMachine.Imports.{types_missing}
use Rattle.pud_defs.specs.StateMachine.Step.{is_clash, clashes_with}
use Rattle.registry.specs.declared.placing.NewType.{NewType}
use Rattle.registry.specs.Placing.{HasFreeRecords}
use Rattle.type_maps.specs.FreeRecords.{free_records, AreFreeRecords}
use Rattle.type_maps.proofs.FreeRecords.{length-free_places, AreFreeRecords-lowest}

-- ---- type by type

types_missing-append : (types xs : List (ℕ × ℕ)) (t : ℕ × ℕ) → types_missing types (xs ++ t ∷ []) ≡ types_missing types xs ++ types_missing types (t ∷ [])
types_missing-append types [] t = refl
types_missing-append types (x ∷ xs) t =
    elim (is_none (map_of x.0 types)) as (λ b. cond b (x ∷ types_missing types (xs ++ t ∷ [])) (types_missing types (xs ++ t ∷ [])) ≡ cond b (x ∷ types_missing types xs) (types_missing types xs) ++ types_missing types (t ∷ [])) [
      | true ↦ ap (λ (l : List (ℕ × ℕ)). x ∷ l) (types_missing-append types xs t)
      | false ↦ types_missing-append types xs t
    ]

clashes_with-append : (types xs : List (ℕ × ℕ)) (t : ℕ × ℕ) → clashes_with types (xs ++ t ∷ []) ≡ (clashes_with types xs || clashes_with types (t ∷ []))
clashes_with-append types [] t = refl
clashes_with-append types (x ∷ xs) t =
    elim (is_clash types x.0 x.1) as (λ b. (b || clashes_with types (xs ++ t ∷ [])) ≡ ((b || clashes_with types xs) || clashes_with types (t ∷ []))) [
      | true ↦ refl
      | false ↦ clashes_with-append types xs t
    ]

module _ (types : List (ℕ × ℕ)) (words : Image) (i : ℕ) where
  abbrev t : ℕ × ℕ
  t = file_type words i

  one_more : file_types words (i + 1) ≡ file_types words i ++ t ∷ []
  one_more = map-range_with_len_more (file_type words) 0 i i (omega arith)

  pub missing_more : is_none (map_of t.0 types) ≡ true → types_missing types (file_types words (i + 1)) ≡ types_missing types (file_types words i) ++ t ∷ []
  missing_more missing = ap (types_missing types) one_more ∙ types_missing-append types (file_types words i) t ∙ ap (λ (l : List (ℕ × ℕ)). types_missing types (file_types words i) ++ l) (cond-true _ _ _ missing)

  pub missing_same : is_none (map_of t.0 types) ≡ false → types_missing types (file_types words (i + 1)) ≡ types_missing types (file_types words i)
  missing_same there = ap (types_missing types) one_more ∙ types_missing-append types (file_types words i) t ∙ ap (λ (l : List (ℕ × ℕ)). types_missing types (file_types words i) ++ l) (cond-false _ _ _ there) ∙ append-nil _

  pub clashes_same : is_clash types t.0 t.1 ≡ false → clashes_with types (file_types words i) ≡ false → clashes_with types (file_types words (i + 1)) ≡ false
  clashes_same none before = ap (clashes_with types) one_more ∙ clashes_with-append types (file_types words i) t ∙ ap₂ (λ (a b : Bool). a || (b || false)) before none

  clashes_here : is_clash types t.0 t.1 ≡ true → clashes_with types (file_types words (i + 1)) ≡ true
  clashes_here clash = ap (clashes_with types) one_more ∙ clashes_with-append types (file_types words i) t ∙ ap (λ (b : Bool). clashes_with types (file_types words i) || (b || false)) clash ∙ or_true (clashes_with types (file_types words i))
    where
      or_true : (b : Bool) → (b || true) ≡ true
      or_true true = refl
      or_true false = refl

clashes_stay : (types : List (ℕ × ℕ)) (words : Image) (i more : ℕ) → clashes_with types (file_types words i) ≡ true → clashes_with types (file_types words (i + more)) ≡ true
clashes_stay types words i zero clash = let e : i + 0 ≡ i = omega arith in ap (λ n. clashes_with types (file_types words n)) e ∙ clash
clashes_stay types words i (suc more) clash =
    let grown = ap (clashes_with types) (map-range_with_len_more (file_type words) 0 (i + more) (i + more) (omega arith)) ∙ clashes_with-append types (file_types words (i + more)) (file_type words (i + more)) in
    let e : i + suc more ≡ i + more + 1 = omega arith in
    ap (λ n. clashes_with types (file_types words n)) e ∙ grown ∙ ap (λ (b : Bool). b || clashes_with types (file_type words (i + more) ∷ [])) (clashes_stay types words i more clash)

-- if one type clashes, the types of the file clash
pub clash_there : (types : List (ℕ × ℕ)) (words : Image) (i n : ℕ) → i < n → is_clash types (file_type words i).0 (file_type words i).1 ≡ true → clashes_with types (file_types words n) ≡ true
clash_there types words i n below clash =
    let e : n ≡ i + 1 + (n - (i + 1)) = omega arith in
    ap (λ k. clashes_with types (file_types words k)) e ∙ clashes_stay types words (i + 1) (n - (i + 1)) (clashes_here types words i clash)

-- ---- records

pub in_free_records : (at : ℕ → Option (ℕ × ℕ)) (from : ℕ) (types : List NewType) (records : List ℕ) → map (λ (t : NewType). t.record_number) types ≡ records → AreFreeRecords at from records → HasFreeRecords at from types
in_free_records at from [] [] same free = free
in_free_records at from [] (r ∷ records) same free = cc
in_free_records at from (t ∷ types) [] same free = cc
in_free_records at from (t ∷ types) (r ∷ records) same free =
    let here : t.record_number ≡ r = cc in
    let rest : map (λ (t : NewType). t.record_number) types ≡ records = cc in
    (free.0 ∙ ap (λ (n : ℕ). Some n) (sym here), in_free_records at (t.record_number + 1) types records rest (subst (λ (n : ℕ). AreFreeRecords at (n + 1) records) (sym here) free.1))

-- ---- how many records are free

module _ (image : Image) (count : ℕ) where
  pub too_few_records : length (free_records image) < count → ltb TYPE_RECORDS (used_types image + count) ≡ true
  too_few_records few = let all = length-free_places (type_at image) 0 TYPE_RECORDS in lt-ltb TYPE_RECORDS (used_types image + count) (omega (arith, all))

  pub enough_records : (records : List ℕ) → records ≡ take count (free_records image) → length records ≡ count → ltb TYPE_RECORDS (used_types image + count) ≡ false
  enough_records records is many =
      let all = length-free_places (type_at image) 0 TYPE_RECORDS in
      let most : length records ≤ length (free_records image) = ap_le (ap length is) (length_take_most count (free_records image)) in
      le-ltb TYPE_RECORDS (used_types image + count) (omega (arith, all, most, many))
    where
      ap_le : {a b n : ℕ} → a ≡ b → b ≤ n → a ≤ n
      ap_le same low = omega arith

      length_take_most : (n : ℕ) (xs : List ℕ) → length (take n xs) ≤ length xs
      length_take_most zero xs = omega arith
      length_take_most (suc n) [] = omega arith
      length_take_most (suc n) (x ∷ xs) = let rest = length_take_most n xs in omega arith

  pub records_in_turn : (types : List NewType) (records : List ℕ) → map (λ (t : NewType). t.record_number) types ≡ records → records ≡ take count (free_records image) → HasFreeRecords (type_at image) 0 types
  records_in_turn types records same is =
      in_free_records (type_at image) 0 types records same (subst (λ (l : List ℕ). AreFreeRecords (type_at image) 0 l) (sym is) (AreFreeRecords-lowest (type_at image) count))

pub records_within : (types : List NewType) (records : List ℕ) → map (λ (t : NewType). t.record_number) types ≡ records → All (λ n. n < TYPE_RECORDS) records → All (λ (t : NewType). t.record_number < TYPE_RECORDS) types
records_within types records same within = λ k d below.
    let number = λ (t : NewType). t.record_number in
    let there = ap (λ (l : List ℕ). slice_get l k) (sym same) ∙ slice_get-map number types k ∙ ap (option_map number) (slice_get-get_or types k d below) in
    let is = get_or_from_slice_get records k (get_or types k d).record_number 0 there in
    let few : k < length records = omega (arith, sym (length-map types number) ∙ ap length same) in
    let low = within k 0 few in
    omega (arith, is)
