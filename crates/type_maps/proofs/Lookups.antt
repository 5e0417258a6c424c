-- The search of the table, record by record.
use Rattle.std.proofs.Common.{◌≡◌, ℕ, ◌+◌, ◌-◌, ◌<◌, ◌≤◌, ◌&&◌, cond, leb, nat_cmp, Option, Some, None, IfSome, is_none, refl, ap, ap₂, ◌∙◌, arith}
use Rattle.std.proofs.lemmas.Bool.{eq-eqb, le-leb, lt-leb}
use Rattle.std.proofs.lemmas.Cmp.{nat_cmp_total}
use Rattle.pud_defs.specs.declared.machine.Refusal.TheVariants as refusals
use Rattle.pud_defs.specs.StateMachine.Step.{is_other}
use Rattle.std.specs.Option.{option_or}
use Rattle.pud_defs.specs.declared.layout.TheConstants.{TYPE_RECORDS}
use Rattle.pud_defs.specs.Formats.Image.{Image}
use Rattle.pud_defs.specs.RegistryTables.Keyed.{first_free, first_from, under}
use Rattle.pud_defs.specs.RegistryTables.Types.{type_record_at, type_at, types_of, free_type, used_types, map_of}
use Rattle.pud_defs.proofs.KeyedTables.Keyed.{find-keyed, first_from_here, first_from_other, first_from_end, first_free_here, first_free_used, first_free_end, first_free_some, count_used_full, count_used_room, option_or-none}
use Rattle.pud_defs.proofs.RegistryTables.TypeTable.{type_at-free, type_at-used, type_here, type_other}
use Rattle.type_maps.specs.declared.Lookup.{Lookup}
use Rattle.type_maps.specs.declared.Lookup.TheVariants as places
use Rattle.type_maps.specs.Define.{lookup_by, lookup_of, table_refusal}

-- What the search returns from record i on, if this is the lowest free record so far.
abbrev pub place_from : Image → ℕ → Option ℕ → ℕ → Lookup
place_from image id free i = lookup_by (first_from nat_cmp id (type_at image) i (TYPE_RECORDS - i)) (option_or free (first_free (type_at image) i (TYPE_RECORDS - i)))

pub place_from-start : (image : Image) (id : ℕ) → lookup_of image id ≡ place_from image id None 0
place_from-start image id = ap (λ (m : Option ℕ). lookup_by m (free_type image)) (find-keyed nat_cmp nat_cmp_total id (type_at image) 0 TYPE_RECORDS)

free_first : (m free : Option ℕ) (i : ℕ) (later : Option ℕ) → lookup_by m (option_or free (Some i)) ≡ lookup_by m (option_or (option_or free (Some i)) later)
free_first m None i later = refl
free_first m (Some r) i later = refl

pub place_from-free : (image : Image) (id : ℕ) (free : Option ℕ) (i : ℕ) → i < TYPE_RECORDS → image (type_record_at i) ≡ 0 → place_from image id free i ≡ place_from image id (option_or free (Some i)) (i + 1)
place_from-free image id free i below empty =
    let none = type_at-free image i empty in
    ap₂ (λ (m f : Option ℕ). lookup_by m (option_or free f)) (first_from_other nat_cmp id (type_at image) i TYPE_RECORDS below (ap (under nat_cmp id) none)) (first_free_here (type_at image) i TYPE_RECORDS below none)
    ∙ free_first (first_from nat_cmp id (type_at image) (i + 1) (TYPE_RECORDS - (i + 1))) free i (first_free (type_at image) (i + 1) (TYPE_RECORDS - (i + 1)))

pub place_from-other : (image : Image) (id : ℕ) (free : Option ℕ) (i : ℕ) → i < TYPE_RECORDS → (image (type_record_at i) ≡ 0 → ⊥) → (image (type_record_at i) ≡ id → ⊥) → place_from image id free i ≡ place_from image id free (i + 1)
place_from-other image id free i below used other =
    ap₂ (λ (m f : Option ℕ). lookup_by m (option_or free f))
    (first_from_other nat_cmp id (type_at image) i TYPE_RECORDS below (type_other image id i other))
    (first_free_used (type_at image) i TYPE_RECORDS (image (type_record_at i), image (type_record_at i + 1)) below (type_at-used image i used))

pub place_from-here : (image : Image) (id : ℕ) (free : Option ℕ) (i : ℕ) → i < TYPE_RECORDS → (image (type_record_at i) ≡ 0 → ⊥) → image (type_record_at i) ≡ id → place_from image id free i ≡ places.Defined (image (type_record_at i + 1))
place_from-here image id free i below used here =
    let above : 0 < id = omega arith in
    ap (λ (m : Option ℕ). lookup_by m (option_or free (first_free (type_at image) i (TYPE_RECORDS - i))))
    (first_from_here nat_cmp id (type_at image) i TYPE_RECORDS (image (type_record_at i + 1)) below (type_here image id i above here))

pub place_from-end : (image : Image) (id : ℕ) (free : Option ℕ) (i : ℕ) → TYPE_RECORDS ≤ i → place_from image id free i ≡ lookup_by None free
place_from-end image id free i past =
    ap₂ (λ (m f : Option ℕ). lookup_by m (option_or free f)) (first_from_end nat_cmp id (type_at image) i TYPE_RECORDS past) (first_free_end (type_at image) i TYPE_RECORDS past)
    ∙ ap (λ (f : Option ℕ). lookup_by None f) (option_or-none free)

pub either_within : (free : Option ℕ) (i : ℕ) → IfSome free (λ r. r < TYPE_RECORDS) → i < TYPE_RECORDS → IfSome (option_or free (Some i)) (λ r. r < TYPE_RECORDS)
either_within None i within below = below
either_within (Some r) i within below = within

full_refuses_by : (m f : Option ℕ) (map count : ℕ) → lookup_by m f ≡ places.Full → (f ≡ None → count ≡ TYPE_RECORDS)
    → cond (is_other map m) (Some refusals.Clash) (cond (is_none m && leb TYPE_RECORDS count) (Some refusals.Full) None) ≡ Some refusals.Full
full_refuses_by (Some x) f map count is full = absurd (let no : places.Defined x ≡ places.Full = is in cc)
full_refuses_by None (Some r) map count is full = absurd (let no : places.Free r ≡ places.Full = is in cc)
full_refuses_by None None map count is full = rw (le-leb TYPE_RECORDS count (let e = full refl in omega arith)) refl

-- If the table has no room, it refuses a type that it lacks.
pub full_refuses : (image : Image) (id map : ℕ) → lookup_of image id ≡ places.Full → table_refusal image id map ≡ Some refusals.Full
full_refuses image id map is = full_refuses_by (map_of id (types_of image)) (free_type image) map (used_types image) is (count_used_full (type_at image) 0 TYPE_RECORDS)

free_accepts_by : (m f : Option ℕ) (map count r : ℕ) → lookup_by m f ≡ places.Free r → ((x : ℕ) → f ≡ Some x → count < TYPE_RECORDS)
    → cond (is_other map m) (Some refusals.Clash) (cond (is_none m && leb TYPE_RECORDS count) (Some refusals.Full) None) ≡ None
free_accepts_by (Some x) f map count r is room = absurd (let no : places.Defined x ≡ places.Free r = is in cc)
free_accepts_by None (Some x) map count r is room = rw (lt-leb TYPE_RECORDS count (room x refl)) refl
free_accepts_by None None map count r is room = absurd (let no : places.Full ≡ places.Free r = is in cc)

-- If a record is free, the table does not refuse a type that it lacks.
pub free_accepts : (image : Image) (id map r : ℕ) → lookup_of image id ≡ places.Free r → table_refusal image id map ≡ None
free_accepts image id map r is = free_accepts_by (map_of id (types_of image)) (free_type image) map (used_types image) r is (λ x some.
    let free = first_free_some (type_at image) 0 TYPE_RECORDS x some in
    count_used_room (type_at image) 0 TYPE_RECORDS x free.low free.high free.free)

defined_by : (m f : Option ℕ) (map : ℕ) → lookup_by m f ≡ places.Defined map → m ≡ Some map
defined_by (Some x) f map is = let same : places.Defined x ≡ places.Defined map = is in cc
defined_by None (Some r) map is = absurd (let no : places.Free r ≡ places.Defined map = is in cc)
defined_by None None map is = absurd (let no : places.Full ≡ places.Defined map = is in cc)

-- If the search finds a type as defined, this is its map.
pub map_defined : (image : Image) (id map : ℕ) → lookup_of image id ≡ places.Defined map → map_of id (types_of image) ≡ Some map
map_defined image id map is = defined_by (map_of id (types_of image)) (free_type image) map is

-- A type that is defined with the same map is not refused.
pub same_accepts : (image : Image) (id map known : ℕ) → lookup_of image id ≡ places.Defined known → known ≡ map → table_refusal image id map ≡ None
same_accepts image id map known is same = rw (map_defined image id known is) (rw (eq-eqb known map same) refl)
