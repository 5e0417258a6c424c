use Rattle.std.proofs.Common.{◌≡◌, ◌+◌, ◌<◌, ℕ, List, All, take, length, ltb, Option, None, refl, sym, ap, subst, ◌∙◌}
use Rattle.std.specs.Prelude.{IfSome, IfNone}
use Rattle.arrayvec.specs.ArrayVec.{ArrayVec}
use Rattle.pm_model.proofs.Reading.{still_reads}
use Rattle.pud_defs.specs.declared.layout.TheConstants.{TYPE_RECORDS}
use Rattle.pud_defs.specs.StateMachine.Step.{clashes_with}
use Rattle.pud_defs.specs.RegistryTables.Types.{types_of, used_types}
use Rattle.type_maps.specs.FreeRecords.{free_records}
use Rattle.pud_import.specs.declared.placing.PlaceFault.TheVariants as faults
use Rattle.pud_import.specs.Contents.{types_held}
use Rattle.pud_import.specs.Placing.{lacks_records}
use Rattle.pud_import.proofs.FilesPlaced.Refusals.{not_refused, refused_for_records, types_not_refused}
use Rattle.pud_import.proofs.FilesPlaced.TypesMissing.{too_few_records, enough_records, records_in_turn, records_within}
use Rattle.pud_import.proofs.new_types.find_types.Goals as goal

pub returns-in-None-clause-refusal : goal.returns-in-None-clause-refusal
returns-in-None-clause-refusal g c = λ t image same none.
    let types = types_of image in
    let file = types_held c.args.view.now in
    let count = length c.as_slice-types.result.now in
    let missing = c.as_slice-types.ensures.value ∙ c.in_ok-missing.ensures.missing t image same in
    let few = subst (λ (o : Option (ArrayVec ℕ)). IfNone o (length (free_records image) < count)) c.in-None.is (c.in_ok-records.ensures.none t image (still_reads {fault = None} c.in_ok-missing.ensures.only_reads t same)) in
    refused_for_records (clashes_with types file) (lacks_records types (used_types image) file) (not_refused (clashes_with types file) faults.Clash (c.in_ok-missing.ensures.refusal t image same refl))
    (ap (λ (l : List (ℕ × ℕ)). ltb TYPE_RECORDS (used_types image + length l)) (sym missing) ∙ too_few_records image count few)

pub returns-in-Some-clause-refusal : goal.returns-in-Some-clause-refusal
returns-in-Some-clause-refusal g c = λ t image same none.
    let types = types_of image in
    let file = types_held c.args.view.now in
    let count = length c.as_slice-types.result.now in
    let missing = c.as_slice-types.ensures.value ∙ c.in_ok-missing.ensures.missing t image same in
    let is = subst (λ (o : Option (ArrayVec ℕ)). IfSome o (λ records. records.items ≡ take count (free_records image))) c.in-Some.is (c.in_ok-records.ensures.records t image (still_reads {fault = None} c.in_ok-missing.ensures.only_reads t same)) in
    let many = subst (λ (o : Option (ArrayVec ℕ)). IfSome o (λ records. length records.items ≡ count)) c.in-Some.is c.in_ok-records.ensures.count in
    types_not_refused (clashes_with types file) (lacks_records types (used_types image) file) (not_refused (clashes_with types file) faults.Clash (c.in_ok-missing.ensures.refusal t image same refl))
    (ap (λ (l : List (ℕ × ℕ)). ltb TYPE_RECORDS (used_types image + length l)) (sym missing) ∙ enough_records image count c.in-Some.records.items is many)

pub returns-in-Some-clause-types : goal.returns-in-Some-clause-types
returns-in-Some-clause-types g c = λ t image same. c.in_records.ensures.types ∙ c.as_slice-types.ensures.value ∙ c.in_ok-missing.ensures.missing t image same

pub returns-in-Some-clause-records : goal.returns-in-Some-clause-records
returns-in-Some-clause-records g c = λ t image same.
    let count = length c.as_slice-types.result.now in
    let is = subst (λ (o : Option (ArrayVec ℕ)). IfSome o (λ records. records.items ≡ take count (free_records image))) c.in-Some.is (c.in_ok-records.ensures.records t image (still_reads {fault = None} c.in_ok-missing.ensures.only_reads t same)) in
    records_in_turn image count c.in_records.result.items c.in-Some.records.items (c.in_records.ensures.records ∙ c.as_slice.ensures.value) is

pub returns-in-Some-clause-within : goal.returns-in-Some-clause-within
returns-in-Some-clause-within g c =
    let within = subst (λ (o : Option (ArrayVec ℕ)). IfSome o (λ records. All (λ n. n < TYPE_RECORDS) records.items)) c.in-Some.is c.in_ok-records.ensures.within in
    records_within c.in_records.result.items c.in-Some.records.items (c.in_records.ensures.records ∙ c.as_slice.ensures.value) within
