-- The lowest free base is that of the first free range.
use Rattle.std.proofs.Common.{◌≡◌, ℕ, ◌+◌, ◌-◌, ◌/◌, ◌%◌, ◌<◌, Bool, true, false, not, ◌&&◌, List, eqb, leb, ltb, sym, ap, ◌∙◌, arith, eqb-true}
use Rattle.std.specs.List.{list_all}
use Rattle.std.proofs.lemmas.Bool.{and_parts, leb-true}
use Rattle.std.proofs.lemmas.Bool.Decides.{nat_tests}
use Rattle.pud_defs.specs.declared.space.TheConstants.{SPACE_START, SPACE_BYTES, RANGE_BYTES}
use Rattle.pud_defs.specs.Formats.Image.{Image}
use Rattle.pud_defs.specs.Formats.Bases.{base_at, is_legal_base}
use Rattle.pud_defs.specs.RegistryTables.Spaces.{all_below}
use Rattle.pud_defs.specs.RegistryTables.Puddles.{puddle_at}
use Rattle.pud_defs.specs.RegistryTables.Tables.{tables_of}
use Rattle.pud_defs.specs.RegistryTables.Places.{has_other_bases, is_free_base, IsLowestBase}
use Rattle.pud_defs.proofs.RegistryTables.Spaces.{all_below-same}
use Rattle.pud_defs.proofs.RegistryTables.TablesOf.{puddles_below, frames_of_tables}
use Rattle.puddle_space.specs.declared.bases.TheConstants.{TRIED}
use Rattle.puddle_space.specs.FreeRanges.{is_free, LeavesFree}

tried_is_legal : (k : ℕ) → k < TRIED → is_legal_base (base_at k) ≡ true
tried_is_legal k tried = grind (arith, nat_tests)

-- The number of the range that begins at a legal base.
record HasRange (base : ℕ) : Type 0 where
  index : ℕ
  is : base ≡ base_at index

range_of_legal : (base : ℕ) → is_legal_base base ≡ true → HasRange base
range_of_legal base legal =
    let upper_parts = and_parts (leb SPACE_START base && ltb base (SPACE_START + SPACE_BYTES)) (eqb (base % RANGE_BYTES) 0) legal in
    let parts = and_parts (leb SPACE_START base) (ltb base (SPACE_START + SPACE_BYTES)) upper_parts.0 in
    let low = leb-true SPACE_START base parts.0 in
    let aligned = eqb-true (base % RANGE_BYTES) 0 upper_parts.1 in
    record { index = (base - SPACE_START) / RANGE_BYTES; is = omega arith }

pub lowest_base : (F : ℕ) (image : Image) (taken : List ℕ) (free : List Bool) (k : ℕ) → k < TRIED
    → ((j : ℕ) → j < TRIED → is_free free j ≡ is_free_base (tables_of F image) taken (base_at j))
    → is_free free k ≡ true → ((j : ℕ) → j < k → is_free free j ≡ false) → IsLowestBase (tables_of F image) taken (base_at k)
lowest_base F image taken free k tried tells first before = record {
  legal = tried_is_legal k tried;
  free = sym (tells k tried) ∙ first;
  lowest = λ lower legal below.
      let range = range_of_legal lower legal in
      let at : lower ≡ base_at range.index = range.is in
      let less : range.index < k = omega arith in
      ap (is_free_base (tables_of F image) taken) at ∙ sym (tells range.index (omega arith)) ∙ before range.index less;
}

-- The test over the taken bases and the test over the records of the image together tell whether a base is free.
free_by_records : (F : ℕ) (image : Image) (taken : List ℕ) (base : ℕ)
    → (list_all (λ other. not (eqb other base)) taken && all_below F (λ frame. has_other_bases base (puddle_at image frame))) ≡ is_free_base (tables_of F image) taken base
free_by_records F image taken base =
    ap (λ b. list_all (λ other. not (eqb other base)) taken && b)
    (sym (ap (λ n. all_below n (λ frame. has_other_bases base ((tables_of F image).puddles frame))) (frames_of_tables F image)
    ∙ all_below-same F (λ frame. has_other_bases base ((tables_of F image).puddles frame)) (λ frame. has_other_bases base (puddle_at image frame))
    (λ frame below. ap (has_other_bases base) (puddles_below F image frame below))))

-- Once the taken bases and the bases in the records are marked, a range is free exactly if its base is free.
pub free_once_marked : (F : ℕ) (image : Image) (taken : List ℕ) (blank first second : List Bool) → ((k : ℕ) → k < TRIED → is_free blank k ≡ true)
    → LeavesFree (λ base. list_all (λ other. not (eqb other base)) taken) blank first
    → LeavesFree (λ base. all_below F (λ frame. has_other_bases base (puddle_at image frame))) first second
    → (k : ℕ) → k < TRIED → is_free second k ≡ is_free_base (tables_of F image) taken (base_at k)
free_once_marked F image taken blank first second all by_taken by_records k tried =
    let records = all_below F (λ frame. has_other_bases (base_at k) (puddle_at image frame)) in
    let others = list_all (λ other. not (eqb other (base_at k))) taken in
    by_records.each k tried ∙ ap (λ b. b && records) (by_taken.each k tried ∙ ap (λ b. b && others) (all k tried)) ∙ free_by_records F image taken (base_at k)
