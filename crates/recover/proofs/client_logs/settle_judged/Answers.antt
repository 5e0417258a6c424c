use Rattle.std.proofs.Common.{◌≡◌, ◌∙◌, Some, None, true, false, refl, sym, ap}
use Rattle.pm_model.specs.Words.{reads}
use Rattle.pm_model.specs.Counts.{fault_of}
use Rattle.pm_model.specs.Changes.{Leaves, Silently}
use Rattle.log_replay.specs.declared.Target.TheVariants.{Puddles}
use Rattle.log_replay.specs.Replaying.{IsSettling, SettlesLog}
use Rattle.recover.proofs.Accepting.{of_replayed, of_refused, not_accepted_gives_nothing, replayed_by_number}
use Rattle.recover.proofs.LogRecovered.{RecoversLog-still, RecoversLogAtEachMoment-still, RecoversLog-settled, RecoversLogAtEachMoment-settled, durable_log}
use Rattle.recover.proofs.client_logs.settle_judged.Goals as goal

pub returns-in-Refused-clause-takes : goal.returns-in-Refused-clause-takes
returns-in-Refused-clause-takes g c = λ t image is found judged.
    let other = of_refused c.args.frames c.args.number image (sym found ∙ ap Some c.in-Refused.is) in
    RecoversLog-still c.args.frames c.args.number image (g.H.Host.state c.args.h.now) is None _ (λ cut. absurd (let it : None ≡ Some _ = cut in cc)) refl
    (not_accepted_gives_nothing c.args.frames c.args.number image other) (λ none accepted. absurd (let it : false ≡ true = sym other ∙ accepted in cc))

pub returns-in-Refused-clause-leaves : goal.returns-in-Refused-clause-leaves
returns-in-Refused-clause-leaves g c = λ t image rested is found judged. RecoversLogAtEachMoment-still c.args.frames c.args.number image (g.H.Host.state c.args.h.now) is rested None _ refl

pub returns-in-Closed-clause-takes : goal.returns-in-Closed-clause-takes
returns-in-Closed-clause-takes g c = λ t image is found judged. c.close_idle.ensures.takes t image is (sym found ∙ ap Some c.in-Closed.is)

pub returns-in-Closed-clause-leaves : goal.returns-in-Closed-clause-leaves
returns-in-Closed-clause-leaves g c = λ t image rested is found judged. c.close_idle.ensures.leaves t image rested is (sym found ∙ ap Some c.in-Closed.is)

pub returns-in-Replayed-clause-takes : goal.returns-in-Replayed-clause-takes
returns-in-Replayed-clause-takes g c = λ t image is found judged.
    let F = c.args.frames in
    let number = c.args.number in
    let old = g.H.Host.state c.args.h.now in
    let new = g.H.Host.state c.settle_copy.new.h in
    let size = (g.H.Host.counts c.args.h.now).size in
    let fault = fault_of c.settle_copy.result in
    let accepted = of_replayed F number image (sym found ∙ ap Some c.in-Replayed.is) in
    let by_number = replayed_by_number F number size (reads old.now.words) image c.args.judged.now.copy is c.requires.known c.requires.room accepted (judged.placed c.in-Replayed.is) in
    let settles = by_number (λ at. SettlesLog (Puddles F) at fault old new) c.log_number_at.result c.log_number_at.ensures (c.settle_copy.ensures.settles t size refl (Puddles F)) in
    RecoversLog-settled F number image old is fault new accepted settles

pub returns-in-Replayed-clause-leaves : goal.returns-in-Replayed-clause-leaves
returns-in-Replayed-clause-leaves g c = λ t image rested is found judged.
    let F = c.args.frames in
    let number = c.args.number in
    let old = g.H.Host.state c.args.h.now in
    let new = g.H.Host.state c.settle_copy.new.h in
    let size = (g.H.Host.counts c.args.h.now).size in
    let fault = fault_of c.settle_copy.result in
    let accepted = of_replayed F number image (sym found ∙ ap Some c.in-Replayed.is) in
    let by_number = replayed_by_number F number size (reads old.now.words) image c.args.judged.now.copy is c.requires.known c.requires.room accepted (judged.placed c.in-Replayed.is) in
    let settles = by_number (λ at. SettlesLog (Puddles F) at fault old new) c.log_number_at.result c.log_number_at.ensures (c.settle_copy.ensures.settles t size refl (Puddles F)) in
    let moments = by_number (λ at. Leaves (Silently (IsSettling (Puddles F) at old.now.words)) old new) c.log_number_at.result c.log_number_at.ensures
    (λ es replayable placed. c.settle_copy.ensures.moments t size refl (Puddles F) es replayable placed (durable_log (Puddles F) c.log_number_at.result old.now.words rested)) in
    RecoversLogAtEachMoment-settled F number image old is fault new accepted settles rested moments
