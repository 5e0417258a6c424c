-- The type table read from its last record to its first.
use Rattle.std.proofs.Common.{◌≡◌, ℕ, zero, suc, ◌+◌, ◌-◌, ◌<◌, ◌≤◌, Bool, true, false, cond, not, ◌&&◌, ◌||◌, eqb, nat_cmp, List, [], ◌∷◌, ◌++◌, length, get_or, take, Option, Some, None, is_none, refl, sym, ap, ap₂, ◌∙◌, ⊎_elim, add-one, arith, true≢false}
use Rattle.std.proofs.Math.Bool.{or-true, or-false}
use Rattle.std.specs.List.{list_any}
use Rattle.std.proofs.lemmas.Bool.{cases_eq, eq-eqb, ne_eqb}
use Rattle.std.proofs.lemmas.List.{take_more}
use Rattle.std.proofs.lemmas.List.Folds.{list_any-append}
use Rattle.pud_defs.specs.declared.layout.TheConstants.{TYPE_RECORDS}
use Rattle.pud_defs.specs.Formats.Image.{Image}
use Rattle.pud_defs.specs.RegistryTables.Spaces.{all_below}
use Rattle.pud_defs.specs.Formats.TypeMap.{is_legal_map, is_legal_type_id}
use Rattle.pud_defs.specs.RegistryTables.Keyed.{first_from, is_apart, are_distinct}
use Rattle.pud_defs.specs.RegistryTables.Types.{type_record_at, type_by, type_at, is_sound_type}
use Rattle.pud_defs.specs.RegistryTables.Registry.{has_legal_types}
use Rattle.pud_defs.proofs.RegistryTables.Spaces.{all_below-from, all_below-each}
use Rattle.pud_defs.proofs.KeyedTables.Keyed.{first_from_here, first_from_other, first_from_end}
use Rattle.pud_defs.proofs.KeyedTables.DistinctKeys.{same_tests}
use Rattle.pud_defs.proofs.RegistryTables.TypeTable.{type_here, type_other}
use Rattle.soundness.specs.Judging.{are_legal_last, with_one_more}

-- what holds of the last n records, for one more record
last_from : {A : Type 0} (f : ℕ → ℕ → A) (n : ℕ) → n < TYPE_RECORDS → f (TYPE_RECORDS - (n + 1)) (n + 1) ≡ f (63 - n) (TYPE_RECORDS - (63 - n))
last_from f n below =
    let place : TYPE_RECORDS - (n + 1) ≡ 63 - n = omega arith in
    let count : n + 1 ≡ TYPE_RECORDS - (63 - n) = omega arith in
    ap₂ f place count

following : {A : Type 0} (f : ℕ → ℕ → A) (n : ℕ) → n < TYPE_RECORDS → f ((63 - n) + 1) (TYPE_RECORDS - ((63 - n) + 1)) ≡ f (TYPE_RECORDS - n) n
following f n below =
    let place : (63 - n) + 1 ≡ TYPE_RECORDS - n = omega arith in
    let count : TYPE_RECORDS - ((63 - n) + 1) ≡ n = omega arith in
    ap₂ f place count

pub no_records : (image : Image) → are_legal_last image 0 ≡ true
unfolding all_below are_distinct
no_records image = refl

-- the id is among those read so far exactly if one of the later records has it
pub again : (image : Image) (ids : List ℕ) (id n : ℕ) → n ≤ TYPE_RECORDS → n ≤ length ids → 0 < id → ((k : ℕ) → k < n → get_or ids k 0 ≡ image (type_record_at (63 - k)))
    → is_none (first_from nat_cmp id (type_at image) (TYPE_RECORDS - n) n) ≡ not (list_any (λ y. eqb y id) (take n ids))
again image ids id zero few fits above read = ap is_none (first_from_end nat_cmp id (type_at image) TYPE_RECORDS TYPE_RECORDS (omega arith))
again image ids id (suc n) few fits above read =
    let below : n < TYPE_RECORDS = omega arith in
    let from = 63 - n in
    let here : get_or ids n 0 ≡ image (type_record_at from) = read n (omega arith) in
    let so_far = again image ids id n (omega arith) (omega arith) above (λ k less. read k (omega arith)) in
    let taken : list_any (λ y. eqb y id) (take (suc n) ids) ≡ (list_any (λ y. eqb y id) (take n ids) || (eqb (get_or ids n 0) id || false)) =
    ap (λ (l : List ℕ). list_any (λ y. eqb y id) l) (let more : take (n + 1) ids ≡ take n ids ++ get_or ids n 0 ∷ [] = take_more ids n 0 (omega arith) in rw add-one at more)
    ∙ list_any-append (λ y. eqb y id) (take n ids) (get_or ids n 0 ∷ []) in
    let records : first_from nat_cmp id (type_at image) (TYPE_RECORDS - suc n) (suc n) ≡ first_from nat_cmp id (type_at image) from (TYPE_RECORDS - from) =
    let same = last_from (first_from nat_cmp id (type_at image)) n below in rw add-one at same in
    ⊎_elim
    (λ same. ap is_none (records ∙ first_from_here nat_cmp id (type_at image) from TYPE_RECORDS (image (type_record_at from + 1)) (omega arith) (type_here image id from above (sym here ∙ same)))
    ∙ sym (ap not (taken ∙ ap (λ (b : Bool). list_any (λ y. eqb y id) (take n ids) || (b || false)) (eq-eqb (get_or ids n 0) id same) ∙ or-true (list_any (λ y. eqb y id) (take n ids)))))
    (λ other. ap is_none (records ∙ first_from_other nat_cmp id (type_at image) from TYPE_RECORDS (omega arith) (type_other image id from (λ e. other (here ∙ e))) ∙ following (first_from nat_cmp id (type_at image)) n below)
    ∙ so_far ∙ sym (ap not (taken ∙ ap (λ (b : Bool). list_any (λ y. eqb y id) (take n ids) || (b || false)) (ne_eqb (get_or ids n 0) id other) ∙ or-false (list_any (λ y. eqb y id) (take n ids)))))
    (cases_eq (get_or ids n 0) id)

in_front : (l m a A D : Bool) → (l && m && a && (A && D)) ≡ ((A && (l && m)) && (a && D))
in_front true true true true D = refl
in_front true true true false D = refl
in_front true true false true D = refl
in_front true true false false D = refl
in_front true false a true D = refl
in_front true false a false D = refl
in_front false m a true D = refl
in_front false m a false D = refl

same_after : (A D : Bool) → (A && D) ≡ ((A && true) && D)
same_after true D = refl
same_after false D = refl

positive : (id : ℕ) → eqb id 0 ≡ false → 0 < id
positive zero used = absurd (true≢false used)
positive (suc p) used = omega arith

-- one record of these two words before others, whether it is free or used
in_front_by : (free : Bool) (id map : ℕ) (at : ℕ → Option (ℕ × ℕ)) (from count : ℕ) (seen A : Bool) → (free ≡ false → is_none (first_from nat_cmp id at from count) ≡ not seen)
    → cond free (A && are_distinct nat_cmp at from count) (is_legal_type_id id && is_legal_map map && not seen && (A && are_distinct nat_cmp at from count))
    ≡ ((A && is_sound_type (cond free None (Some (id, map)))) && (is_apart nat_cmp (cond free None (Some (id, map))) at from count && are_distinct nat_cmp at from count))
in_front_by true id map at from count seen A told = same_after A (are_distinct nat_cmp at from count)
in_front_by false id map at from count seen A told =
    let D = are_distinct nat_cmp at from count in
    ap (λ (a : Bool). is_legal_type_id id && is_legal_map map && a && (A && D)) (sym (told refl))
    ∙ in_front (is_legal_type_id id) (is_legal_map map) (is_none (first_from nat_cmp id at from count)) A D

-- one more record before the others
pub legal_more : (image : Image) (ids : List ℕ) (n id map : ℕ) → n < TYPE_RECORDS → n ≤ length ids → id ≡ image (type_record_at (63 - n)) → map ≡ image (type_record_at (63 - n) + 1)
    → ((k : ℕ) → k < n → get_or ids k 0 ≡ image (type_record_at (63 - k)))
    → with_one_more id map (list_any (λ y. eqb y id) (take n ids)) (are_legal_last image n) ≡ are_legal_last image (n + 1)
unfolding all_below are_distinct
legal_more image ids n id map below fits id_is map_is read =
    let first : type_by id map ≡ type_at image (63 - n) = ap₂ type_by id_is map_is in
    let A = all_below n (λ k. is_sound_type (type_at image (63 - k))) in
    let place : TYPE_RECORDS - (n + 1) ≡ 63 - n = omega arith in
    let next : (63 - n) + 1 ≡ TYPE_RECORDS - n = omega arith in
    in_front_by (eqb id 0) id map (type_at image) (TYPE_RECORDS - n) n (list_any (λ y. eqb y id) (take n ids)) A (λ used. again image ids id n (omega arith) fits (positive id used) read)
    ∙ ap (λ (t : Option (ℕ × ℕ)). (A && is_sound_type t) && (is_apart nat_cmp t (type_at image) (TYPE_RECORDS - n) n && are_distinct nat_cmp (type_at image) (TYPE_RECORDS - n) n)) first
    ∙ ap (λ (j : ℕ). (A && is_sound_type (type_at image (63 - n))) && (is_apart nat_cmp (type_at image (63 - n)) (type_at image) j n && are_distinct nat_cmp (type_at image) j n)) (sym next)
    ∙ ap (λ (i : ℕ). (A && is_sound_type (type_at image (63 - n))) && are_distinct nat_cmp (type_at image) i (suc n)) (sym place)
    ∙ ap (λ (c : ℕ). all_below c (λ k. is_sound_type (type_at image (63 - k))) && are_distinct nat_cmp (type_at image) (TYPE_RECORDS - (n + 1)) c) (sym (add-one n))

-- all of them are the whole table
pub legal_last : (image : Image) → are_legal_last image TYPE_RECORDS ≡ has_legal_types image
legal_last image =
    let test = λ (i : ℕ). is_sound_type (type_at image i) in
    let turn : (k : ℕ) → k < TYPE_RECORDS → 63 - (63 - k) ≡ k = λ k below. omega arith in
    ap (λ (b : Bool). b && are_distinct nat_cmp (type_at image) 0 TYPE_RECORDS) (same_tests (all_below TYPE_RECORDS (λ k. test (63 - k))) (all_below TYPE_RECORDS test)
    (λ all. all_below-from TYPE_RECORDS test (λ k below. sym (ap test (turn k below)) ∙ all_below-each TYPE_RECORDS (λ j. test (63 - j)) all (63 - k) (omega arith)))
    (λ all. all_below-from TYPE_RECORDS (λ k. test (63 - k)) (λ k below. all_below-each TYPE_RECORDS test all (63 - k) (omega arith))))
