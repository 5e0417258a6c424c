-- The type table of an image: what a record stores, by its words, and what writing a free record changes.
use Rattle.std.proofs.Common.{◌≡◌, ◌⊎◌, ℕ, ◌+◌, ◌<◌, ◌≤◌, true, nat_cmp, length, Option, Some, None, sym, ap, ap₂, ◌∙◌, ⊎_elim, arith, ne_eqb, eq-eqb, zero-le}
use Rattle.std.proofs.lemmas.Bool.{cases_eq, cond-true, cond-false, and_parts, and_from}
use Rattle.std.proofs.lemmas.Cmp.{nat_cmp_total}
use Rattle.std.proofs.lemmas.Option.{none-some}
use Rattle.pud_defs.specs.declared.layout.TheConstants.{TYPE_RECORDS}
use Rattle.pud_defs.specs.Formats.Image.{Image, image_with}
use Rattle.pud_defs.specs.Formats.TypeMap.{is_legal_map, is_legal_type_id}
use Rattle.pud_defs.specs.RegistryTables.Spaces.{all_below}
use Rattle.pud_defs.specs.RegistryTables.Keyed.{under, are_distinct}
use Rattle.pud_defs.specs.RegistryTables.Types.{type_record_at, type_by, type_at, types_of, used_types, map_of, with_type, is_sound_type, are_legal_types}
use Rattle.pud_defs.proofs.Formats.Images.{written_there, written_other}
use Rattle.pud_defs.proofs.RegistryTables.Spaces.{all_below-from, all_below-each}
use Rattle.pud_defs.proofs.KeyedTables.Keyed.{HasDistinctKeys-fewer, HasDistinctKeys-set, IsSetAt, is_free_for, distinct_keys, are_distinct_keys, first_from_none_each, find-keyed, keyed-put, length-keyed}
use Rattle.pud_defs.proofs.RegistryTables.TypeLists.{same_test, same_number}

-- ---- a record by its words

pub type_at-free : (image : Image) (i : ℕ) → image (type_record_at i) ≡ 0 → type_at image i ≡ None
type_at-free image i free = cond-true _ _ _ (eq-eqb _ 0 free)

pub type_at-used : (image : Image) (i : ℕ) → (image (type_record_at i) ≡ 0 → ⊥) → type_at image i ≡ Some (image (type_record_at i), image (type_record_at i + 1))
type_at-used image i used = cond-false _ _ _ (ne_eqb _ 0 used)

-- a record without a type is free
pub free_word : (image : Image) (i : ℕ) → type_at image i ≡ None → image (type_record_at i) ≡ 0
free_word image i none =
    ⊎_elim
    (λ free. free)
    (λ used. absurd (none-some {A = ℕ × ℕ} (image (type_record_at i), image (type_record_at i + 1)) (sym none ∙ type_at-used image i used)))
    (cases_eq (image (type_record_at i)) 0)

-- a record is only under the id in its first word
pub type_here : (image : Image) (id i : ℕ) → 0 < id → image (type_record_at i) ≡ id → under nat_cmp id (type_at image i) ≡ Some (image (type_record_at i + 1))
type_here image id i above here =
    ap (under nat_cmp id) (type_at-used image i (λ zero. absurd (omega arith)))
    ∙ cond-true _ _ _ (same_test id (image (type_record_at i)) ∙ eq-eqb _ _ (sym here))

pub type_other : (image : Image) (id i : ℕ) → (image (type_record_at i) ≡ id → ⊥) → under nat_cmp id (type_at image i) ≡ None
type_other image id i other =
    ⊎_elim
    (λ free. ap (under nat_cmp id) (type_at-free image i free))
    (λ used. ap (under nat_cmp id) (type_at-used image i used) ∙ cond-false _ _ _ (same_test id (image (type_record_at i)) ∙ ne_eqb _ _ (λ e. other (sym e))))
    (cases_eq (image (type_record_at i)) 0)

-- ---- a legal table

-- as many types are defined as records are used
pub length-types_of : (image : Image) → are_legal_types (type_at image) ≡ true → length (types_of image) ≡ used_types image
length-types_of image legal =
    let distinct = and_parts (all_below TYPE_RECORDS (λ i. is_sound_type (type_at image i))) (are_distinct nat_cmp (type_at image) 0 TYPE_RECORDS) legal in
    length-keyed nat_cmp nat_cmp_total (type_at image) 0 TYPE_RECORDS (distinct_keys nat_cmp (type_at image) 0 TYPE_RECORDS distinct.1)

-- ---- tables that have the same records, or fewer

pub are_legal_types-fewer : (f g : ℕ → Option (ℕ × ℕ)) → ((j : ℕ) → j < TYPE_RECORDS → (g j ≡ f j) ⊎ (g j ≡ None)) → are_legal_types f ≡ true → are_legal_types g ≡ true
are_legal_types-fewer f g fewer legal =
    let parts = and_parts (all_below TYPE_RECORDS (λ i. is_sound_type (f i))) (are_distinct nat_cmp f 0 TYPE_RECORDS) legal in
    let each : (k : ℕ) → k < TYPE_RECORDS → is_sound_type (g k) ≡ true = λ k below. ⊎_elim
    (λ same. ap is_sound_type same ∙ all_below-each TYPE_RECORDS (λ i. is_sound_type (f i)) parts.0 k below)
    (λ none. ap is_sound_type none)
    (fewer k below) in
    and_from _ _
    (all_below-from TYPE_RECORDS (λ i. is_sound_type (g i)) each)
    (are_distinct_keys nat_cmp g 0 TYPE_RECORDS (HasDistinctKeys-fewer nat_cmp f g 0 TYPE_RECORDS (λ j low high. fewer j (omega arith)) (distinct_keys nat_cmp f 0 TYPE_RECORDS parts.1)))

-- images that agree on the words of a record have the same record
pub type_at-same : (i j : Image) (n : ℕ) → j (type_record_at n) ≡ i (type_record_at n) → j (type_record_at n + 1) ≡ i (type_record_at n + 1) → type_at j n ≡ type_at i n
type_at-same i j n id map = ap₂ type_by id map

-- ---- writing a free record

-- a write to a word of record r changes no other record
pub type_at-other : (image : Image) (r w v n : ℕ) → type_record_at r ≤ w → w < type_record_at (r + 1) → (n ≡ r → ⊥) → type_at (image_with w v image) n ≡ type_at image n
type_at-other image r w v n low high other =
    type_at-same image (image_with w v image) n
    (written_other w v image (type_record_at n) (λ e. other (omega arith)))
    (written_other w v image (type_record_at n + 1) (λ e. other (omega arith)))

-- the map word of a free record is not read
pub type_at-map_written : (image : Image) (r v n : ℕ) → image (type_record_at r) ≡ 0 → type_at (image_with (type_record_at r + 1) v image) n ≡ type_at image n
type_at-map_written image r v n free =
    let w = type_record_at r + 1 in
    ⊎_elim
    (λ here. let still : image_with w v image (type_record_at n) ≡ 0 = written_other w v image (type_record_at n) (λ e. absurd (omega arith)) ∙ ap (λ k. image (type_record_at k)) here ∙ free in
    type_at-free (image_with w v image) n still ∙ sym (type_at-free image n (ap (λ k. image (type_record_at k)) here ∙ free)))
    (λ other. type_at-other image r w v n (omega arith) (omega arith) other)
    (cases_eq n r)

-- a write of its id word puts the type in its place, if no record has the id
module _ (image : Image) (r id map : ℕ) (within : r < TYPE_RECORDS) (above : 0 < id) (free : image (type_record_at r) ≡ 0) (there : image (type_record_at r + 1) ≡ map) (missing : map_of id (types_of image) ≡ None) where
  abbrev now : Image
  now = image_with (type_record_at r) id image

  type_now : type_at now r ≡ Some (id, map)
  type_now =
      let first : now (type_record_at r) ≡ id = written_there (type_record_at r) id image in
      let second : now (type_record_at r + 1) ≡ map = written_other (type_record_at r) id image (type_record_at r + 1) (λ e. absurd (omega arith)) ∙ there in
      type_at-used now r (λ zero. absurd (omega arith)) ∙ ap₂ (λ (a b : ℕ). Some (a, b)) first second

  none_has_it : (j : ℕ) → j < TYPE_RECORDS → under nat_cmp id (type_at image j) ≡ None
  none_has_it j below = first_from_none_each nat_cmp id (type_at image) 0 TYPE_RECORDS (sym (find-keyed nat_cmp nat_cmp_total id (type_at image) 0 TYPE_RECORDS) ∙ missing) j zero-le (omega arith)

  set : IsSetAt nat_cmp (type_at image) (type_at now) 0 TYPE_RECORDS r id (Some map)
  set = record {
    low = zero-le;
    high = omega arith;
    others = λ j other. type_at-other image r (type_record_at r) id j (omega arith) (omega arith) other;
    is = type_now;
    was = ap (is_free_for {X = ℕ} nat_cmp id) (type_at-free image r free);
    alone = λ j low high other. none_has_it j (omega arith);
  }

  pub types_of-written : types_of now ≡ with_type id map (types_of image)
  types_of-written = keyed-put nat_cmp nat_cmp_total same_number (type_at image) (type_at now) 0 TYPE_RECORDS r id map set

  pub are_legal_types-written : is_legal_type_id id ≡ true → is_legal_map map ≡ true → are_legal_types (type_at image) ≡ true → are_legal_types (type_at now) ≡ true
  are_legal_types-written legal_id legal_map legal =
      let parts = and_parts (all_below TYPE_RECORDS (λ i. is_sound_type (type_at image i))) (are_distinct nat_cmp (type_at image) 0 TYPE_RECORDS) legal in
      let each : (k : ℕ) → k < TYPE_RECORDS → is_sound_type (type_at now k) ≡ true = λ k below. ⊎_elim
      (λ here. ap is_sound_type (ap (type_at now) here ∙ type_now) ∙ and_from (is_legal_type_id id) (is_legal_map map) legal_id legal_map)
      (λ other. ap is_sound_type (set.others k other) ∙ all_below-each TYPE_RECORDS (λ i. is_sound_type (type_at image i)) parts.0 k below)
      (cases_eq k r) in
      and_from _ _
      (all_below-from TYPE_RECORDS (λ i. is_sound_type (type_at now i)) each)
      (are_distinct_keys nat_cmp (type_at now) 0 TYPE_RECORDS
      (HasDistinctKeys-set nat_cmp nat_cmp_total (type_at image) (type_at now) 0 TYPE_RECORDS r id (Some map) set (distinct_keys nat_cmp (type_at image) 0 TYPE_RECORDS parts.1)))
