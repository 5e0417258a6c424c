use Rattle.std.proofs.Common.{◌≡◌, ℕ, List, length, Some, None, sym, ap, ◌∙◌, subst}
use Rattle.std.proofs.lemmas.Result.{err_from_is_err_and}
use Rattle.pm_model.specs.Counts.{fault_of}
use Rattle.pm_model.specs.Calls.{Says}
use Rattle.pm_model.proofs.Reading.{still_reads}
use Rattle.pm_model.proofs.Saying.{Says-after}
use Rattle.pud_defs.specs.Output.CheckText.{count_line}
use Rattle.pud_check.proofs.Checking.{Says-uncounted, Says-checked, listed_check-sound}
use Rattle.pud_check.proofs.check.check_pools.Goals as goal

pub returns-in_err-say_pools-clause-says : goal.returns-in_err-say_pools-clause-says
returns-in_err-say_pools-clause-says g c =
    let p = err_from_is_err_and c.from_residual-in_err-say_pools.result c.from_residual-in_err-say_pools.ensures.1 in
    rw (p.1, p.2) (λ t image e.
    let placing = still_reads c.find_places.ensures.only_reads t e in
    let listing = c.in_order.ensures.only_reads.stays t ∙ c.find_places.ensures.only_reads.stays t in
    let read = c.as_slice.ensures.value ∙ c.in_ok-records.ensures.listed t image placing c.args.frames in
    Says-uncounted c.args.frames image c.as_slice.result.now read c.in_err-say_pools.field-0.0 _ _
    (Says-after _ (Some c.in_err-say_pools.field-0.0) _ _ _ listing (c.in_err-say_pools.ensures.says t image (still_reads c.in_order.ensures.only_reads t placing) (c.in_ok-places.ensures.places t image e))))

pub returns-in_err-say_pools-clause-sound : goal.returns-in_err-say_pools-clause-sound
returns-in_err-say_pools-clause-sound g c = λ t image e next sound all.
    subst (λ (bytes : List ℕ). Says bytes (fault_of c.from_residual-in_err-say_pools.result) (g.H.Host.state c.args.h.now) (g.H.Host.state c.say_pools.new.h)) (listed_check-sound c.args.frames next image sound all)
    (returns-in_err-say_pools-clause-says g c t image e)

pub returns-clause-says : goal.returns-clause-says
returns-clause-says g c = λ t image e.
    let placing = still_reads c.find_places.ensures.only_reads t e in
    let listing = c.in_order.ensures.only_reads.stays t ∙ c.find_places.ensures.only_reads.stays t in
    let fault = fault_of c.say.result in
    let read = c.as_slice.ensures.value ∙ c.in_ok-records.ensures.listed t image placing c.args.frames in
    let pools = Says-after _ None _ _ _ listing (c.in_ok-say_pools.ensures.says t image (still_reads c.in_order.ensures.only_reads t placing) (c.in_ok-places.ensures.places t image e)) in
    let line : c.as_slice-2.result.now ≡ count_line (length c.as_slice.result.now) =
    c.as_slice-2.ensures.value ∙ c.count_line.ensures ∙ ap count_line (c.len.ensures.value ∙ ap length (sym c.as_slice.ensures.value)) in
    Says-checked c.args.frames image c.as_slice.result.now read fault _ _ _ pools
    (subst (λ (bytes : List ℕ). Says bytes fault (g.H.Host.state c.say_pools.new.h) (g.H.Host.state c.say.new.self)) line (c.say.ensures.said t))

pub returns-clause-sound : goal.returns-clause-sound
returns-clause-sound g c = λ t image e next sound all.
    subst (λ (bytes : List ℕ). Says bytes (fault_of c.say.result) (g.H.Host.state c.args.h.now) (g.H.Host.state c.say.new.self)) (listed_check-sound c.args.frames next image sound all)
    (returns-clause-says g c t image e)
