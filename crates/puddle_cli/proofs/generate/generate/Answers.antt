use Rattle.std.proofs.Common.{◌≡◌, Err, Some, None, refl, sym, ap, subst, ◌∙◌}
use Rattle.pm_model.specs.Counts.{Counts}
use Rattle.pm_model.specs.Words.{reads}
use Rattle.gen_work.specs.GenLines.{gen_lines}
use Rattle.puddled.specs.declared.daemon.StartFault.TheVariants as starts
use Rattle.puddled.specs.declared.daemon.RunFault.TheVariants as faults
use Rattle.puddled.specs.Faults.{CountsToEnd}
use Rattle.puddle_cli.proofs.Generating.{RunsLines-in_start, RunsLines-summed, lines_never_unsound, SaysSummary-part, SaysSummary-silent, SaysSummary-after, text_whole}
use Rattle.puddle_cli.proofs.Statuses.{fault_at_status, goes_on, stays_sound, usable_by, not_whole_of, not_whole_at}
use Rattle.puddle_cli.proofs.generate.generate.Goals as goal

pub returns-in-Ok-sum_up-clause-runs : goal.returns-in-Ok-sum_up-clause-runs
returns-in-Ok-sum_up-clause-runs g c = λ t w none nothing rested shelf stands.
    let size = (g.H.Host.counts c.args.h.now).size in
    let same = sym (ap (λ (x : Counts). x.size) c.in-Ok.ensures.cause) in
    RunsLines-summed size w _ rested stands (gen_lines c.args.seed c.args.count) _ None _ _ _ _ _ _ none nothing (c.in-Ok.ensures.starts t size refl w rested stands shelf) (c.in-Ok.ensures.replays t rested) c.in-Ok.ensures.cause refl
    (λ ready. c.in-Ok-sum_up.ensures.sums t size same w ready)

pub returns-in-Err-Host-clause-runs : goal.returns-in-Err-Host-clause-runs
returns-in-Err-Host-clause-runs g c = λ t w none nothing rested shelf stands.
    let starts = rw c.in-Err-Host.field-0-is at c.in-Err-Host.ensures.starts in
    let last = rw c.in-Err-Host.field-0-is at c.in-Err-Host.ensures.cause in
    let is = rw c.in-Err-Host.field-0-is at c.status_of.ensures.fault in
    RunsLines-in_start (g.H.Host.counts c.args.h.now).size w _ rested stands (gen_lines c.args.seed c.args.count) c.in-Err-Host.fault _ _ _ _ c.status_of.ensures.status is last shelf (starts t (g.H.Host.counts c.args.h.now).size refl w rested stands shelf)

pub returns-in-Err-clause-runs : goal.returns-in-Err-clause-runs
returns-in-Err-clause-runs g c = λ t w none nothing rested shelf stands.
    let size = (g.H.Host.counts c.args.h.now).size in
    let same = sym (ap (λ (x : Counts). x.size) c.in-Ok.ensures.cause) in
    rw c.status_of_run.ensures.status
    (RunsLines-summed size w _ rested stands (gen_lines c.args.seed c.args.count) _ (Some c.in-Err.fault) _ _ _ _ _ _ none nothing (c.in-Ok.ensures.starts t size refl w rested stands shelf) (c.in-Ok.ensures.replays t rested) c.in-Ok.ensures.cause (fault_at_status c.in-Err.fault)
    (λ ready. c.in-Err.ensures.sums t size same w ready))

pub returns-in-Err-clause-not_usable : goal.returns-in-Err-clause-not_usable
returns-in-Err-clause-not_usable g c = λ t rested none.
    let size = (g.H.Host.counts c.args.h.now).size in
    let same = sym (ap (λ (x : Counts). x.size) c.in-Ok.ensures.cause) in
    let sound = lines_never_unsound size (gen_lines c.args.seed c.args.count) _ _ _ _ _ _ c.in-Err.fault (λ w stands shelf. c.in-Ok.ensures.starts t size refl w rested stands shelf) (λ w ready. c.in-Err.ensures.sums t size same w ready) in (
      λ is. usable_by size (reads (g.H.Host.state c.args.h.now).now.words) _ refl c.in-Err.fault sound (sym c.status_of_run.ensures.status ∙ is),
      λ unsound. absurd (let no = (c.in-Ok.ensures.not_sound t refl).1 unsound in cc no),
    )

pub returns-in-Err-clause-unchanged : goal.returns-in-Err-clause-unchanged
returns-in-Err-clause-unchanged g c = λ t rested is.
    let size = (g.H.Host.counts c.args.h.now).size in
    let same = sym (ap (λ (x : Counts). x.size) c.in-Ok.ensures.cause) in
    let sound = lines_never_unsound size (gen_lines c.args.seed c.args.count) _ _ _ _ _ _ c.in-Err.fault (λ w stands shelf. c.in-Ok.ensures.starts t size refl w rested stands shelf) (λ w ready. c.in-Err.ensures.sums t size same w ready) in
    let unsound = usable_by size (reads (g.H.Host.state c.args.h.now).now.words) _ refl c.in-Err.fault sound (sym c.status_of_run.ensures.status ∙ is) in
    absurd (let no = (c.in-Ok.ensures.not_sound t refl).1 unsound in cc no)

pub returns-in-Err-clause-completes : goal.returns-in-Err-clause-completes
returns-in-Err-clause-completes g c = λ t rested sound no_fault no_cut.
    let size = (g.H.Host.counts c.args.h.now).size in
    let same = sym (ap (λ (x : Counts). x.size) c.in-Ok.ensures.cause) in
    let never = lines_never_unsound size (gen_lines c.args.seed c.args.count) _ _ _ _ _ _ c.in-Err.fault (λ w stands shelf. c.in-Ok.ensures.starts t size refl w rested stands shelf) (λ w ready. c.in-Err.ensures.sums t size same w ready) in
    let ends = subst (λ (x : Counts). CountsToEnd (Some c.in-Err.fault) x (g.H.Host.counts c.sum_up.new.h)) c.in-Ok.ensures.cause c.in-Err.ensures.cause in
    absurd (goes_on (g.H.Host.counts c.args.h.now) (g.H.Host.counts c.sum_up.new.h) no_fault no_cut c.in-Err.fault ends (stays_sound size (reads (g.H.Host.state c.args.h.now).now.words) _ refl sound c.in-Err.fault never))

-- ---- what is printed, whatever the device stores

pub returns-in-Err-NotSound-clause-speaks : goal.returns-in-Err-NotSound-clause-speaks
returns-in-Err-NotSound-clause-speaks g c = λ t.
    SaysSummary-silent _ _ _ _ _ (λ none. let no : Some faults.NotSound ≡ None = none in cc) (ap (λ s. s.now.said) (c.in-Err-NotSound.ensures.unchanged t (ap Err c.in-Err-NotSound.field-0-is)))

pub returns-in-Err-Host-clause-speaks : goal.returns-in-Err-Host-clause-speaks
returns-in-Err-Host-clause-speaks g c = λ t.
    SaysSummary-part _ _ _ _ _ _ (not_whole_of _ _ c.status_of.ensures.status c.status_of.ensures.fault)
    (c.in-Err-Host.ensures.says t (λ no. let it : Err (starts.Host c.in-Err-Host.fault) ≡ Err starts.NotSound = sym (ap Err c.in-Err-Host.field-0-is) ∙ no in absurd (cc)))

pub returns-in-Ok-sum_up-clause-speaks : goal.returns-in-Ok-sum_up-clause-speaks
returns-in-Ok-sum_up-clause-speaks g c = λ t.
    SaysSummary-after _ _ _ _ _ _ _ (λ _. refl) (text_whole _ _ _ (c.in-Ok.ensures.says t (λ no. cc))) (c.in-Ok-sum_up.ensures.says t)

pub returns-in-Err-clause-speaks : goal.returns-in-Err-clause-speaks
returns-in-Err-clause-speaks g c = λ t.
    SaysSummary-after _ _ _ _ _ _ _ (λ none. absurd (not_whole_at c.in-Err.fault c.status_of_run.result none (sym c.status_of_run.ensures.status))) (text_whole _ _ _ (c.in-Ok.ensures.says t (λ no. cc))) (c.in-Err.ensures.says t)
