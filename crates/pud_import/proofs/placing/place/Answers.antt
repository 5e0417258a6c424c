use Rattle.std.proofs.Common.{◌<◌, inl, inr, Some, Err, length, refl, sym, ap, ◌∙◌}
use Rattle.std.proofs.lemmas.List.Elements.{All-same}
use Rattle.std.proofs.lemmas.Option.{none-some}
use Rattle.std.proofs.lemmas.Result.{err_from_is_err_and}
use Rattle.pm_model.specs.Counts.{after_fault}
use Rattle.pm_model.specs.Masks.{masked_state}
use Rattle.pm_model.proofs.Changes.{Changes-then}
use Rattle.pm_model.proofs.Reading.{Changes-read, still_size}
use Rattle.log_replay.specs.Replaying.{Anything}
use Rattle.pud_defs.specs.declared.layout.TheConstants.{TYPE_RECORDS}
use Rattle.registry.specs.Adding.{IsAddedWithin}
use Rattle.registry.proofs.Moved.{ChangesPools-still}
use Rattle.pud_import.specs.Placing.{place_fault}
use Rattle.pud_import.proofs.FilesPlaced.Imported.{types_of_file, placed_lists, import_after}
use Rattle.pud_import.proofs.FilesPlaced.PlacedSomewhere.{PlacesSomewhere-after}
use Rattle.pud_import.proofs.placing.place.Goals as goal

pub returns-in_err-plan-clause-commits : goal.returns-in_err-plan-clause-commits
returns-in_err-plan-clause-commits g c =
    let p = err_from_is_err_and c.from_residual.result c.from_residual.ensures.1 in
    rw (p.1, p.2) (λ t image same idle file held absent nothing.
    inl (c.in_err-plan.ensures.only_reads.stays t, λ none. none-some c.in_err-plan.field-0.0 (sym (c.in_err-plan.ensures.refusal t image same none file held absent ∙ nothing)), c.in_err-plan.ensures.only_reads.never_cut))

pub returns-in_err-plan-clause-places : goal.returns-in_err-plan-clause-places
returns-in_err-plan-clause-places g c =
    let p = err_from_is_err_and c.from_residual.result c.from_residual.ensures.1 in
    rw (p.1, p.2) (λ t size same s file mask held may.
    ChangesPools-still size s _ _ (place_fault {T = Unit {0}} (Err c.in_err-plan.field-0.0)) (masked_state mask (g.H.Host.state c.args.h.now)) (masked_state mask (g.H.Host.state c.find_plan.new.h)) may.settled c.in_err-plan.ensures.only_reads.never_cut
    (λ none. none-some c.in_err-plan.field-0.0 (sym (c.in_err-plan.ensures.refusal t _ refl none file held may.absent ∙ may.none))) (ap (masked_state mask) (c.in_err-plan.ensures.only_reads.stays t)))

pub returns-in_err-plan-clause-any : goal.returns-in_err-plan-clause-any
returns-in_err-plan-clause-any g c =
    let p = err_from_is_err_and c.from_residual.result c.from_residual.ensures.1 in
    rw (p.1, p.2) (Changes-read c.in_err-plan.ensures.only_reads)

pub returns-in_err-fill_and_place-clause-unchanged : goal.returns-in_err-fill_and_place-clause-unchanged
returns-in_err-fill_and_place-clause-unchanged g c = λ t image same file held absent refused. absurd (refused (sym (c.in_ok-plan.ensures.refusal t image same refl file held absent)))

pub returns-in_err-fill_and_place-clause-commits : goal.returns-in_err-fill_and_place-clause-commits
returns-in_err-fill_and_place-clause-commits g c =
    let q = err_from_is_err_and c.from_residual-in_err-fill_and_place.result c.from_residual-in_err-fill_and_place.ensures.1 in
    rw (q.1, q.2) (λ t image same idle file held absent nothing.
    let is = placed_lists (types_of_file c.args.view.now file held).0 c.as_slice-types.ensures.value c.as_slice-puddles.ensures.value (c.in_ok-plan.ensures.placed t image same absent c.args.uid c.args.gid c.args.mode) in
    inr (PlacesSomewhere-after (c.in_ok-plan.ensures.only_reads.stays t) (c.in_err-fill_and_place.ensures.commits t image file.types is) idle))

pub returns-in_err-fill_and_place-clause-places : goal.returns-in_err-fill_and_place-clause-places
returns-in_err-fill_and_place-clause-places g c =
    let q = err_from_is_err_and c.from_residual-in_err-fill_and_place.result c.from_residual-in_err-fill_and_place.ensures.1 in
    rw (q.1, q.2) (λ t size same s file mask held may.
    let is = placed_lists (types_of_file c.args.view.now file held).0 c.as_slice-types.ensures.value c.as_slice-puddles.ensures.value (c.in_ok-plan.ensures.placed t _ refl may.absent c.args.uid c.args.gid c.args.mode) in
    import_after (g.H.Host.state c.fill_and_place.new.h) (c.in_ok-plan.ensures.only_reads.stays t) (c.in_err-fill_and_place.ensures.places t size (still_size c.in_ok-plan.ensures.only_reads same) s file mask held) may is)

pub returns-in_err-fill_and_place-clause-any : goal.returns-in_err-fill_and_place-clause-any
returns-in_err-fill_and_place-clause-any g c =
    let q = err_from_is_err_and c.from_residual-in_err-fill_and_place.result c.from_residual-in_err-fill_and_place.ensures.1 in
    rw (q.1, q.2) (λ t. Changes-then Anything _ _ _ _ (Changes-read c.in_ok-plan.ensures.only_reads t) (c.in_err-fill_and_place.ensures.any t))

pub returns-clause-unchanged : goal.returns-clause-unchanged
returns-clause-unchanged g c = λ t image same file held absent refused. absurd (refused (sym (c.in_ok-plan.ensures.refusal t image same refl file held absent)))

pub returns-clause-commits : goal.returns-clause-commits
returns-clause-commits g c = λ t image same idle file held absent nothing.
    let is = placed_lists (types_of_file c.args.view.now file held).0 c.as_slice-types.ensures.value c.as_slice-puddles.ensures.value (c.in_ok-plan.ensures.placed t image same absent c.args.uid c.args.gid c.args.mode) in
    inr (PlacesSomewhere-after (c.in_ok-plan.ensures.only_reads.stays t) (c.in_ok-fill_and_place.ensures.commits t image file.types is) idle)

pub returns-clause-places : goal.returns-clause-places
returns-clause-places g c = λ t size same s file mask held may.
    let is = placed_lists (types_of_file c.args.view.now file held).0 c.as_slice-types.ensures.value c.as_slice-puddles.ensures.value (c.in_ok-plan.ensures.placed t _ refl may.absent c.args.uid c.args.gid c.args.mode) in
    import_after (g.H.Host.state c.fill_and_place.new.h) (c.in_ok-plan.ensures.only_reads.stays t) (c.in_ok-fill_and_place.ensures.places t size (still_size c.in_ok-plan.ensures.only_reads same) s file mask held) may is

pub returns-clause-any : goal.returns-clause-any
returns-clause-any g c = λ t. Changes-then Anything _ _ _ _ (Changes-read c.in_ok-plan.ensures.only_reads t) (c.in_ok-fill_and_place.ensures.any t)

pub fill_and_place-requires-clause-records : goal.fill_and_place-requires-clause-records
fill_and_place-requires-clause-records g c = All-same (λ t. t.record_number < TYPE_RECORDS) _ _ c.as_slice-types.ensures.value c.in_ok-plan.ensures.records

pub fill_and_place-requires-clause-within : goal.fill_and_place-requires-clause-within
fill_and_place-requires-clause-within g c = All-same (IsAddedWithin c.args.frames) _ _ c.as_slice-puddles.ensures.value c.in_ok-plan.ensures.within

pub fill_and_place-requires-clause-count : goal.fill_and_place-requires-clause-count
fill_and_place-requires-clause-count g c = ap length c.as_slice-puddles.ensures.value ∙ c.in_ok-plan.ensures.count

pub returns-in_err-fill_and_place-clause-cause : goal.returns-in_err-fill_and_place-clause-cause
returns-in_err-fill_and_place-clause-cause g c =
    let q = err_from_is_err_and c.from_residual-in_err-fill_and_place.result c.from_residual-in_err-fill_and_place.ensures.1 in
    rw (q.1, q.2) (c.in_err-fill_and_place.ensures.cause ∙ ap (after_fault (Some c.in_err-fill_and_place.field-0.0)) c.in_ok-plan.ensures.only_reads.cause)

pub returns-clause-cause : goal.returns-clause-cause
returns-clause-cause g c = c.in_ok-fill_and_place.ensures.cause ∙ c.in_ok-plan.ensures.only_reads.cause
