use Rattle.std.proofs.Common.{◌≡◌, ℕ, List, ap, ◌∙◌, subst}
use Rattle.pm_model.specs.Counts.{fault_of}
use Rattle.pm_model.specs.Calls.{Says}
use Rattle.pm_model.proofs.Saying.{Says-after}
use Rattle.pud_check.specs.Summary.{summed_line}
use Rattle.pud_check.specs.SummaryListed.{listed_summed, listed_sum}
use Rattle.pud_check.proofs.Summarized.{listed_sum-sound}
use Rattle.pud_check.proofs.sums.say_sum.Goals as goal

pub returns-clause-says : goal.returns-clause-says
unfolding listed_sum
returns-clause-says g c = λ t image e.
    let fault = fault_of c.say.result in
    let line : c.as_slice.result.now ≡ summed_line c.args.name.now (listed_summed c.args.frames image c.args.name.now) =
    c.as_slice.ensures.value ∙ c.summed_line.ensures ∙ ap (summed_line c.args.name.now) (c.in_ok-summed.ensures.summed t image e) in
    Says-after _ fault _ _ _ (c.sum_named.ensures.only_reads.stays t)
    (subst (λ (bytes : List ℕ). Says bytes fault (g.H.Host.state c.sum_named.new.h) (g.H.Host.state c.say.new.self)) line (c.say.ensures.said t))

pub returns-clause-sound : goal.returns-clause-sound
returns-clause-sound g c = λ t image e next sound all.
    subst (λ (bytes : List ℕ). Says bytes (fault_of c.say.result) (g.H.Host.state c.args.h.now) (g.H.Host.state c.say.new.self)) (listed_sum-sound c.args.frames next image sound all c.args.name.now)
    (returns-clause-says g c t image e)
