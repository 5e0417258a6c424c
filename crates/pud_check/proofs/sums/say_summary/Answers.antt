use Rattle.std.proofs.Common.{ℕ, List, Some, None, ◌∙◌, subst}
use Rattle.std.proofs.lemmas.Result.{err_from_is_err_and}
use Rattle.pm_model.specs.Counts.{fault_of}
use Rattle.pm_model.specs.Calls.{Says}
use Rattle.pud_check.proofs.Saying.{reads-said}
use Rattle.pud_check.proofs.Summarized.{Says-no_sums, Says-no_copy, Says-summary, listed_summary-sound}
use Rattle.pud_check.proofs.sums.say_summary.Goals as goal

pub returns-in_err-say-clause-says : goal.returns-in_err-say-clause-says
returns-in_err-say-clause-says g c =
    let p = err_from_is_err_and c.from_residual.result c.from_residual.ensures.1 in
    let line = c.as_slice.ensures.value ∙ c.refused_line.ensures in
    rw (p.1, p.2) (λ t image e.
    Says-no_sums c.args.frames image c.args.lines c.args.refused c.in_err-say.field-0.0 _ _
    (subst (λ (bytes : List ℕ). Says bytes (Some c.in_err-say.field-0.0) (g.H.Host.state c.args.h.now) (g.H.Host.state c.say.new.self)) line (c.in_err-say.ensures.said t)))

pub returns-in_err-say-clause-sound : goal.returns-in_err-say-clause-sound
returns-in_err-say-clause-sound g c = λ t image e next sound all.
    subst (λ (bytes : List ℕ). Says bytes (fault_of c.from_residual.result) (g.H.Host.state c.args.h.now) (g.H.Host.state c.say.new.self)) (listed_summary-sound c.args.frames next image c.args.lines c.args.refused sound all)
    (returns-in_err-say-clause-says g c t image e)

pub returns-in_err-say_sum-clause-says : goal.returns-in_err-say_sum-clause-says
returns-in_err-say_sum-clause-says g c =
    let p = err_from_is_err_and c.from_residual-in_err-say_sum.result c.from_residual-in_err-say_sum.ensures.1 in
    let line = c.as_slice.ensures.value ∙ c.refused_line.ensures in
    rw (p.1, p.2) (λ t image e.
    let said = subst (λ (bytes : List ℕ). Says bytes None (g.H.Host.state c.args.h.now) (g.H.Host.state c.say.new.self)) line (c.in_ok-say.ensures.said t) in
    Says-no_copy c.args.frames image c.args.lines c.args.refused c.in_err-say_sum.field-0.0 _ _ _ said (c.in_err-say_sum.ensures.says t image (reads-said _ _ _ _ image said e)))

pub returns-in_err-say_sum-clause-sound : goal.returns-in_err-say_sum-clause-sound
returns-in_err-say_sum-clause-sound g c = λ t image e next sound all.
    subst (λ (bytes : List ℕ). Says bytes (fault_of c.from_residual-in_err-say_sum.result) (g.H.Host.state c.args.h.now) (g.H.Host.state c.say_sum.new.h)) (listed_summary-sound c.args.frames next image c.args.lines c.args.refused sound all)
    (returns-in_err-say_sum-clause-says g c t image e)

pub returns-clause-says : goal.returns-clause-says
returns-clause-says g c = λ t image e.
    let line = c.as_slice.ensures.value ∙ c.refused_line.ensures in
    let said = subst (λ (bytes : List ℕ). Says bytes None (g.H.Host.state c.args.h.now) (g.H.Host.state c.say.new.self)) line (c.in_ok-say.ensures.said t) in
    let first = reads-said _ _ _ _ image said e in
    let gen = c.in_ok-say_sum.ensures.says t image first in
    let second = reads-said _ _ _ _ image gen first in
    Says-summary c.args.frames image c.args.lines c.args.refused (fault_of c.say_sum-2.result) _ _ _ _ said gen (c.say_sum-2.ensures.says t image second)

pub returns-clause-sound : goal.returns-clause-sound
returns-clause-sound g c = λ t image e next sound all.
    subst (λ (bytes : List ℕ). Says bytes (fault_of c.say_sum-2.result) (g.H.Host.state c.args.h.now) (g.H.Host.state c.say_sum-2.new.h)) (listed_summary-sound c.args.frames next image c.args.lines c.args.refused sound all)
    (returns-clause-says g c t image e)
