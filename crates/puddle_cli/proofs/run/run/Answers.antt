use Rattle.std.proofs.Common.{◌≡◌, ℕ, true, Ok, Err, Some, None, refl, sym, ap, subst, ◌∙◌}
use Rattle.pm_model.specs.Counts.{Counts}
use Rattle.pm_model.specs.Words.{reads}
use Rattle.puddled.specs.declared.daemon.StartFault.TheVariants as starts
use Rattle.puddled.specs.declared.daemon.RunFault.TheVariants as faults
use Rattle.puddled.specs.Faults.{CountsToEnd}
use Rattle.puddle_cli.specs.Headline.{TakesScript}
use Rattle.puddle_cli.proofs.Running.{TakesScript-unstarted, TakesScript-served, Headline-in_start, Headline-served, never_unsound, script_left, fault_at_end}
use Rattle.puddle_cli.proofs.Statuses.{fault_at_status, goes_on, stays_sound, usable_by, not_whole_of}
use Rattle.puddle_cli.specs.Replying.{RunSays}
use Rattle.puddle_cli.proofs.Replying.{RunSays-start, RunSays-refused, RunSays-heard}
use Rattle.puddle_cli.proofs.run.run.Goals as goal

pub returns-in-Ok-serve-clause-headline : goal.returns-in-Ok-serve-clause-headline
returns-in-Ok-serve-clause-headline g c = λ t w none nothing rested shelf stands.
    let size = (g.H.Host.counts c.args.h.now).size in
    let same = sym (ap (λ (x : Counts). x.size) c.in-Ok.ensures.cause) in
    rw c.status_of_end.ensures
    (Headline-served size _ _ _ _ _ _ _ w rested stands none nothing (c.in-Ok.ensures.starts t size refl w rested stands shelf) (c.in-Ok.ensures.replays t rested) c.in-Ok.ensures.cause (Ok c.in-Ok-serve.served)
    (λ ready. rw (script_left c.serve.new.source (g.H.Host.state c.serve.new.h) c.in-Ok-serve.ensures.aloud) at (c.in-Ok-serve.ensures.answered t size same w ready)))

pub returns-in-Err-Host-clause-headline : goal.returns-in-Err-Host-clause-headline
returns-in-Err-Host-clause-headline g c = λ t w none nothing rested shelf stands.
    let starts = rw c.in-Err-Host.field-0-is at c.in-Err-Host.ensures.starts in
    let last = rw c.in-Err-Host.field-0-is at c.in-Err-Host.ensures.cause in
    let is = rw c.in-Err-Host.field-0-is at c.status_of.ensures.fault in
    Headline-in_start (g.H.Host.counts c.args.h.now).size w _ rested stands c.in-Err-Host.fault _ _ _ _ c.status_of.ensures.status is last shelf (starts t (g.H.Host.counts c.args.h.now).size refl w rested stands shelf)

pub returns-in-Err-clause-headline : goal.returns-in-Err-clause-headline
returns-in-Err-clause-headline g c = λ t w none nothing rested shelf stands.
    let size = (g.H.Host.counts c.args.h.now).size in
    let same = sym (ap (λ (x : Counts). x.size) c.in-Ok.ensures.cause) in
    rw c.status_of_run.ensures.status
    (Headline-served size _ _ _ _ _ _ _ w rested stands none nothing (c.in-Ok.ensures.starts t size refl w rested stands shelf) (c.in-Ok.ensures.replays t rested) c.in-Ok.ensures.cause (Err c.in-Err.fault)
    (λ ready. rw (script_left c.serve.new.source (g.H.Host.state c.serve.new.h) c.in-Err.ensures.aloud) at (c.in-Err.ensures.answered t size same w ready)))

pub returns-in-Err-clause-not_usable : goal.returns-in-Err-clause-not_usable
returns-in-Err-clause-not_usable g c = λ t rested none.
    let size = (g.H.Host.counts c.args.h.now).size in
    let same = sym (ap (λ (x : Counts). x.size) c.in-Ok.ensures.cause) in
    let sound = never_unsound size _ _ _ _ _ _ c.in-Err.fault (λ w stands shelf. c.in-Ok.ensures.starts t size refl w rested stands shelf) true _ _ (λ w ready. c.in-Err.ensures.answered t size same w ready) in (
      λ is. usable_by size (reads (g.H.Host.state c.args.h.now).now.words) _ refl c.in-Err.fault sound (sym c.status_of_run.ensures.status ∙ is),
      λ unsound. absurd (let no = (c.in-Ok.ensures.not_sound t refl).1 unsound in cc no),
    )

pub returns-in-Err-clause-unchanged : goal.returns-in-Err-clause-unchanged
returns-in-Err-clause-unchanged g c = λ t rested is.
    let size = (g.H.Host.counts c.args.h.now).size in
    let same = sym (ap (λ (x : Counts). x.size) c.in-Ok.ensures.cause) in
    let sound = never_unsound size _ _ _ _ _ _ c.in-Err.fault (λ w stands shelf. c.in-Ok.ensures.starts t size refl w rested stands shelf) true _ _ (λ w ready. c.in-Err.ensures.answered t size same w ready) in
    let unsound = usable_by size (reads (g.H.Host.state c.args.h.now).now.words) _ refl c.in-Err.fault sound (sym c.status_of_run.ensures.status ∙ is) in
    absurd (let no = (c.in-Ok.ensures.not_sound t refl).1 unsound in cc no)

pub returns-in-Err-clause-completes : goal.returns-in-Err-clause-completes
returns-in-Err-clause-completes g c = λ t rested sound no_fault no_cut.
    let size = (g.H.Host.counts c.args.h.now).size in
    let same = sym (ap (λ (x : Counts). x.size) c.in-Ok.ensures.cause) in
    let never = never_unsound size _ _ _ _ _ _ c.in-Err.fault (λ w stands shelf. c.in-Ok.ensures.starts t size refl w rested stands shelf) true _ _ (λ w ready. c.in-Err.ensures.answered t size same w ready) in
    let ends = subst (λ (x : Counts). CountsToEnd (Some c.in-Err.fault) x (g.H.Host.counts c.serve.new.h)) c.in-Ok.ensures.cause c.in-Err.ensures.cause in
    absurd (goes_on (g.H.Host.counts c.args.h.now) (g.H.Host.counts c.serve.new.h) no_fault no_cut c.in-Err.fault ends (stays_sound size (reads (g.H.Host.state c.args.h.now).now.words) _ refl sound c.in-Err.fault never))

pub returns-in-Err-NotSound-clause-takes : goal.returns-in-Err-NotSound-clause-takes
returns-in-Err-NotSound-clause-takes g c = λ t. TakesScript-unstarted _ _ _ (c.in-Err-NotSound.ensures.rest t) (λ none. let no : Some faults.NotSound ≡ None = none in cc)

pub returns-in-Err-Host-clause-takes : goal.returns-in-Err-Host-clause-takes
returns-in-Err-Host-clause-takes g c = λ t. TakesScript-unstarted _ _ _ (c.in-Err-Host.ensures.rest t) (not_whole_of _ _ c.status_of.ensures.status c.status_of.ensures.fault)

pub returns-in-Ok-serve-clause-takes : goal.returns-in-Ok-serve-clause-takes
returns-in-Ok-serve-clause-takes g c = λ t.
    rw c.status_of_end.ensures
    (TakesScript-served (Ok c.in-Ok-serve.served) _ _ _ (c.in-Ok.ensures.rest t)
    (rw (script_left c.serve.new.source (g.H.Host.state c.serve.new.h) c.in-Ok-serve.ensures.aloud) at (c.in-Ok-serve.ensures.takes t)))

pub returns-in-Err-clause-takes : goal.returns-in-Err-clause-takes
returns-in-Err-clause-takes g c = λ t.
    subst (λ (status : ℕ). TakesScript status (g.H.Host.state c.args.h.now) (g.H.Host.state c.serve.new.h)) (sym c.status_of_run.ensures.status)
    (TakesScript-served (Err c.in-Err.fault) _ _ _ (c.in-Ok.ensures.rest t) (rw (script_left c.serve.new.source (g.H.Host.state c.serve.new.h) c.in-Err.ensures.aloud) at (c.in-Err.ensures.takes t)))

-- ---- what is printed, whatever the device stores

pub returns-in-Err-NotSound-clause-speaks : goal.returns-in-Err-NotSound-clause-speaks
returns-in-Err-NotSound-clause-speaks g c = λ t. RunSays-refused _ _ _ (λ none. let no : Some faults.NotSound ≡ None = none in cc) (c.in-Err-NotSound.ensures.unchanged t (ap Err c.in-Err-NotSound.field-0-is))

pub returns-in-Err-Host-clause-speaks : goal.returns-in-Err-Host-clause-speaks
returns-in-Err-Host-clause-speaks g c = λ t. RunSays-start _ _ _ _ (not_whole_of _ _ c.status_of.ensures.status c.status_of.ensures.fault)
    (c.in-Err-Host.ensures.says t (λ no. let it : Err (starts.Host c.in-Err-Host.fault) ≡ Err starts.NotSound = sym (ap Err c.in-Err-Host.field-0-is) ∙ no in absurd (cc)))

pub returns-in-Ok-serve-clause-speaks : goal.returns-in-Ok-serve-clause-speaks
returns-in-Ok-serve-clause-speaks g c = λ t.
    RunSays-heard _ _ _ _ (c.in-Ok.ensures.says t (λ no. cc)) (c.in-Ok.ensures.rest t).script c.in-Ok-serve.served.ended None (fault_at_end c.in-Ok-serve.served.ended c.status_of_end.result c.status_of_end.ensures)
    (c.in-Ok-serve.ensures.heard t refl)

pub returns-in-Err-clause-speaks : goal.returns-in-Err-clause-speaks
returns-in-Err-clause-speaks g c = λ t.
    let heard = c.in-Err.ensures.heard t refl in
    subst (λ (status : ℕ). RunSays status (g.H.Host.state c.args.h.now) (g.H.Host.state c.serve.new.h)) (sym c.status_of_run.ensures.status)
    (RunSays-heard _ _ _ _ (c.in-Ok.ensures.says t (λ no. cc)) (c.in-Ok.ensures.rest t).script heard.0 (Some c.in-Err.fault) (fault_at_status c.in-Err.fault) heard.1)
