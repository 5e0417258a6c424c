use Rattle.std.proofs.Common.{ℕ, Bool, List, ◌≡◌, ◌++◌, [], ◌∷◌, length, None, is_none, refl, sym, ap, ap₂, ◌∙◌, arith}
use Rattle.std.proofs.lemmas.Result.{err_from_is_err_and}
use Rattle.pm_model.proofs.Reading.{OnlyReads-then, still_reads}
use Rattle.pud_defs.specs.PoolGraphs.ExportFile.{file_types}
use Rattle.pud_defs.specs.StateMachine.Imports.{types_missing}
use Rattle.pud_defs.specs.StateMachine.Step.{is_clash, clashes_with}
use Rattle.pud_defs.specs.RegistryTables.Types.{map_of, types_of}
use Rattle.pud_import.specs.Contents.{file_image, type_count_read, types_held}
use Rattle.pud_import.specs.declared.placing.PlaceFault.TheVariants as faults
use Rattle.pud_import.proofs.FilesPlaced.Refusals.{refused_if, refused_with, not_refused}
use Rattle.pud_import.proofs.FilesPlaced.TypesMissing.{missing_more, missing_same, clashes_same, clash_there}
use Rattle.pud_import.proofs.new_types.missing_types.Goals as goal
use Rattle.pud_import.proofs.new_types.missing_types.Goals.{then-branch, else-branch}

pub returns-in_err-is_missing-clause-refusal : goal.returns-in_err-is_missing-clause-refusal
returns-in_err-is_missing-clause-refusal g c =
    let p = err_from_is_err_and c.from_residual.result c.from_residual.ensures.1 in
    rw (p.1, p.2) (λ t image same none.
    let bytes = c.args.view.now in
    let types = types_of image in
    let i = c.loop-i.i in
    let found = c.type_at-id.ensures in
    let below = c.loop-i-test.true in
    let counted = c.types-i-end.ensures.counted in
    refused_with (is_clash types c.type_at-id.result.0 c.type_at-id.result.1) (clashes_with types (types_held bytes)) faults.Clash c.in_err-is_missing.field-0.0
    (c.in_err-is_missing.ensures.refusal t image (still_reads c.loop-i.invariant.only_reads t same) none)
    (λ clash. clash_there types (file_image bytes) i (type_count_read bytes) (omega (arith, below, counted)) (ap (λ (t : ℕ × ℕ). is_clash types t.0 t.1) (sym found) ∙ clash)))

pub loop-i-preserved : goal.loop-i-preserved
loop-i-preserved g c =
    let i = c.loop-i.i in
    let words = file_image c.args.view.now in
    let found = c.type_at-id.ensures in
    record {
      few = elim c.if-branch.branch [
        | then-branch w ↦ omega (arith, w.push.ensures.len, ap length (ap (λ v. v.items) w.types-is), c.loop-i.invariant.few)
        | else-branch w ↦ omega (arith, ap length (ap (λ v. v.items) w.types-is), c.loop-i.invariant.few)
      ];
      only_reads = OnlyReads-then {fault = None} c.loop-i.invariant.only_reads c.in_ok-is_missing.ensures.only_reads;
      missing = λ t image same.
          let types = types_of image in
          let so_far = c.loop-i.invariant.missing t image same in
          let says = ap (λ (t : ℕ × ℕ). is_none (map_of t.0 types)) (sym found) ∙ sym (c.in_ok-is_missing.ensures.missing t image (still_reads c.loop-i.invariant.only_reads t same)) in
          elim c.if-branch.branch [
            | then-branch w ↦
                ap (λ v. v.items) w.types-is ∙ w.push.ensures.items ∙ ap₂ (λ (xs : List (ℕ × ℕ)) (t : ℕ × ℕ). xs ++ t ∷ []) so_far found
                ∙ sym (missing_more types words i (says ∙ w.if-branch.true))
            | else-branch w ↦ ap (λ v. v.items) w.types-is ∙ so_far ∙ sym (missing_same types words i (says ∙ w.if-branch.false))
          ];
      agree = λ t image same.
          let types = types_of image in
          clashes_same types words i
          (ap (λ (t : ℕ × ℕ). is_clash types t.0 t.1) (sym found)
          ∙ not_refused (is_clash types c.type_at-id.result.0 c.type_at-id.result.1) faults.Clash (c.in_ok-is_missing.ensures.refusal t image (still_reads c.loop-i.invariant.only_reads t same) refl))
          (c.loop-i.invariant.agree t image same);
    }

pub returns-clause-missing : goal.returns-clause-missing
returns-clause-missing g c = λ t image same.
    let whole : c.loop-i.i ≡ type_count_read c.args.view.now = omega (arith, c.types-i-end.ensures.counted, c.loop-i-test.false, c.loop-i.auto.i-end) in
    c.loop-i.invariant.missing t image same ∙ ap (λ (n : ℕ). types_missing (types_of image) (file_types (file_image c.args.view.now) n)) whole

pub returns-clause-refusal : goal.returns-clause-refusal
returns-clause-refusal g c = λ t image same none.
    let whole : c.loop-i.i ≡ type_count_read c.args.view.now = omega (arith, c.types-i-end.ensures.counted, c.loop-i-test.false, c.loop-i.auto.i-end) in
    sym (ap (λ (b : Bool). refused_if b faults.Clash) (ap (λ (n : ℕ). clashes_with (types_of image) (file_types (file_image c.args.view.now) n)) (sym whole) ∙ c.loop-i.invariant.agree t image same))
