-- The checks of a slot, field by field.
use Rattle.std.proofs.Common.{◌≡◌, ◌≢◌, ℕ, ◌+◌, Bool, true, false, ◌&&◌, ◌||◌, List, Option, Some, None, cond, eqb, min, slice_get, refl, ap, ap₂, ◌∙◌, arith, eq-eqb, ne_eqb}
use Rattle.pud_defs.specs.declared.space.TheConstants.{SLOT_FIELDS_WORD}
use Rattle.pud_defs.specs.declared.records.Puddle.{Puddle}
use Rattle.pud_defs.specs.Formats.Geometry.{ordinal_of, slot_of, place_at}
use Rattle.pud_defs.specs.PoolGraphs.Graph.{Null, At, Nowhere, Table, content, slot_contents, field_count, target, place_in, at_place, puddles_by, pointee_at}
use Rattle.pud_defs.specs.Formats.TypeMap.{map_fields}
use Rattle.std.proofs.lemmas.Bool.Decides.{nat_tests}
use Rattle.pud_defs.specs.declared.layout.TheConstants.{MAX_FIELDS}
use Rattle.pud_defs.specs.RegistryTables.Spaces.{all_below}
use Rattle.pud_defs.specs.PoolGraphs.Stored.{Stored, place_word}
use Rattle.graph_read.specs.declared.checking.SlotCheck.{SlotCheck}
use Rattle.graph_read.specs.Reading.{pointee_of}
use Rattle.graph_read.specs.Checking.{content_of, passes, serial_passes, contents_pass, place_passes}
use Rattle.pud_defs.proofs.RegistryTables.Spaces.{list_all-below}

-- a field of the slot at a place passes
abbrev pub field_passes : SlotCheck → (ℕ → ℕ) → Stored → (place type_map f : ℕ) → Bool
field_passes check serial st place type_map f = passes check serial (content st.puddles type_map place f (place_word st place (SLOT_FIELDS_WORD + f)))

-- the same by the word that was read
pub field_passes-read : (check : SlotCheck) (serial : ℕ → ℕ) (st : Stored) (place type_map f v : ℕ) (pass : Bool) → v ≡ place_word st place (SLOT_FIELDS_WORD + f)
    → pass ≡ passes check serial (content st.puddles type_map place f v) → pass ≡ field_passes check serial st place type_map f
field_passes-read check serial st place type_map f v pass word is = is ∙ ap (λ (x : ℕ). passes check serial (content st.puddles type_map place f x)) word

pub field_count-least : (m : ℕ) → min (map_fields m) MAX_FIELDS ≡ field_count m
field_count-least m = grind (arith, nat_tests)

-- The fields of a slot whose type has this map pass exactly if each of them passes.
pub fields_pass-each : (check : SlotCheck) (serial : ℕ → ℕ) (st : Stored) (place type_map : ℕ)
    → contents_pass check serial (slot_contents st place (Some type_map)) ≡ all_below (field_count type_map) (field_passes check serial st place type_map)
fields_pass-each check serial st place type_map =
    list_all-below (passes check serial) (λ f. content st.puddles type_map place f (place_word st place (SLOT_FIELDS_WORD + f))) (field_count type_map)

pub place_passes-free : (check : SlotCheck) (t : Table) (p : ℕ) → t.serial p ≡ 0 → place_passes check t p ≡ true
place_passes-free check t p free = ap (λ b. b || (serial_passes check (t.serial p) && contents_pass check t.serial (t.contents p))) (eq-eqb _ _ free)

pub place_passes-refused : (check : SlotCheck) (t : Table) (p : ℕ) → t.serial p ≢ 0 → serial_passes check (t.serial p) ≡ false → place_passes check t p ≡ false
place_passes-refused check t p live refused = ap₂ (λ (a b : Bool). a || (b && contents_pass check t.serial (t.contents p))) (ne_eqb _ _ live) refused

pub place_passes-live : (check : SlotCheck) (t : Table) (p : ℕ) → t.serial p ≢ 0 → serial_passes check (t.serial p) ≡ true → place_passes check t p ≡ contents_pass check t.serial (t.contents p)
place_passes-live check t p live taken = ap₂ (λ (a b : Bool). a || (b && contents_pass check t.serial (t.contents p))) (ne_eqb _ _ live) taken

content_read : (v : ℕ) (found : Option ℕ) → content_of (pointee_of (cond (eqb v 0) Null (at_place found))) ≡ cond (eqb v 0) Null (at_place found)
content_read v None = elim (eqb v 0) as (λ b. content_of (pointee_of (cond b Null Nowhere)) ≡ cond b Null Nowhere) [ true ↦ refl | false ↦ refl ]
content_read v (Some p) =
    let place : place_at (ordinal_of p) (slot_of p) ≡ p = omega arith in
    elim (eqb v 0) as (λ b. content_of (pointee_of (cond b Null (At p))) ≡ cond b Null (At p)) [ true ↦ refl | false ↦ ap At place ]

-- Where a pointer was read to lead tells what it stands for.
pub pointee_read : (puddles : List Puddle) (ordinal step v : ℕ) → content_of (pointee_of (pointee_at puddles ordinal step v)) ≡ pointee_at puddles ordinal step v
unfolding target
pointee_read puddles ordinal step v = content_read v (place_in 0 (puddles_by puddles (slice_get puddles ordinal) step) v)
