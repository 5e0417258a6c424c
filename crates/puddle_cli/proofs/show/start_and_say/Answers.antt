use Rattle.std.proofs.Common.{Some, None, refl, ap, ◌∙◌}
use Rattle.std.proofs.lemmas.Result.{err_from_is_err_and}
use Rattle.pm_model.specs.Words.{reads}
use Rattle.puddle_cli.specs.Views.{text_of}
use Rattle.puddled.proofs.LinesDone.Lines.{KeepsInput-says, words_said}
use Rattle.puddle_cli.proofs.Showing.{not_refused, shown, shown_in_the_end, SaysPart-started, SaysPart-failed, world_at, Leaves-start, Leaves-shown, Tables-start, Tables-shown, StartMoments-start, StartMoments-shown, Does-start, Does-shown}
use Rattle.puddle_cli.proofs.show.start_and_say.Goals as goal

-- ---- the start failed

pub returns-in_err-daemon-clause-says : goal.returns-in_err-daemon-clause-says
returns-in_err-daemon-clause-says g c =
    let p = err_from_is_err_and c.from_residual.result c.from_residual.ensures.1 in
    rw (p.1, p.2) (λ t rested sound. SaysPart-failed c.in_err-daemon.field-0.0 _ _ _ _ sound (c.in_err-daemon.ensures.says t))

pub returns-in_err-daemon-clause-moments : goal.returns-in_err-daemon-clause-moments
returns-in_err-daemon-clause-moments g c = λ t size same rested s world.
    let old = g.H.Host.state c.args.h.now in
    Leaves-start size s old _ (g.H.Host.state c.start.new.h) (c.in_err-daemon.ensures.starts t size same (world_at size s old old) rested world refl)

pub returns-in_err-daemon-clause-tables : goal.returns-in_err-daemon-clause-tables
returns-in_err-daemon-clause-tables g c = λ t size same rested s world.
    let old = g.H.Host.state c.args.h.now in
    Tables-start size s old _ (g.H.Host.state c.start.new.h) (c.in_err-daemon.ensures.starts t size same (world_at size s old old) rested world refl)

pub returns-in_err-daemon-clause-in_start : goal.returns-in_err-daemon-clause-in_start
returns-in_err-daemon-clause-in_start g c = λ t size same rested s world.
    let old = g.H.Host.state c.args.h.now in
    StartMoments-start size s old rested world _ (g.H.Host.state c.start.new.h) (c.in_err-daemon.ensures.starts t size same (world_at size s old old) rested world refl)

pub returns-in_err-daemon-clause-does : goal.returns-in_err-daemon-clause-does
returns-in_err-daemon-clause-does g c = λ t size same rested s world.
    let old = g.H.Host.state c.args.h.now in
    Does-start size s old rested world _ (g.H.Host.state c.start.new.h) (c.in_err-daemon.ensures.starts t size same (world_at size s old old) rested world refl)

-- ---- the view was printed in part

pub returns-in_err-say_view-clause-says : goal.returns-in_err-say_view-clause-says
returns-in_err-say_view-clause-says g c =
    let p = err_from_is_err_and c.from_residual-in_err-say_view.result c.from_residual-in_err-say_view.ensures.1 in
    rw (p.1, p.2) (λ t rested sound.
    let said = shown (g.H.Host.counts c.args.h.now).size c.frames-frames.result c.args.view (g.H.Host.state c.args.h.now) (g.H.Host.state c.start.new.h) (g.H.Host.state c.say_view.new.h) (Some c.in_err-say_view.field-0.0)
    (not_refused _ _ (c.in_ok-daemon.ensures.not_sound t refl)) (c.in_ok-daemon.ensures.replays t rested) (c.frames-frames.ensures.frames ∙ c.in_ok-daemon.ensures.frames t rested)
    (λ next tables frames. c.in_err-say_view.ensures.sound t _ refl next tables frames) in
    SaysPart-started _ _ _ _ _ _ (c.in_ok-daemon.ensures.says t (λ no. absurd (cc))) said)

pub returns-in_err-say_view-clause-moments : goal.returns-in_err-say_view-clause-moments
returns-in_err-say_view-clause-moments g c = λ t size same rested s world.
    let old = g.H.Host.state c.args.h.now in
    Leaves-shown size s old _ _ _ _ _ (c.in_ok-daemon.ensures.starts t size same (world_at size s old old) rested world refl) (c.in_err-say_view.ensures.says t).says

pub returns-in_err-say_view-clause-tables : goal.returns-in_err-say_view-clause-tables
returns-in_err-say_view-clause-tables g c = λ t size same rested s world.
    let old = g.H.Host.state c.args.h.now in
    Tables-shown size s old _ _ _ _ _ (c.in_ok-daemon.ensures.starts t size same (world_at size s old old) rested world refl) (c.in_err-say_view.ensures.says t).says

pub returns-in_err-say_view-clause-in_start : goal.returns-in_err-say_view-clause-in_start
returns-in_err-say_view-clause-in_start g c = λ t size same rested s world.
    let old = g.H.Host.state c.args.h.now in
    StartMoments-shown size s old rested world _ _ _ _ _ (c.in_ok-daemon.ensures.starts t size same (world_at size s old old) rested world refl) (c.in_err-say_view.ensures.says t).says

pub returns-in_err-say_view-clause-does : goal.returns-in_err-say_view-clause-does
returns-in_err-say_view-clause-does g c = λ t size same rested s world.
    let old = g.H.Host.state c.args.h.now in
    Does-shown size s old rested world _ _ _ _ _ (c.in_ok-daemon.ensures.starts t size same (world_at size s old old) rested world refl) (c.in_ok-daemon.ensures.replays t rested) (c.in_err-say_view.ensures.says t).says

pub returns-in_err-say_view-clause-rest : goal.returns-in_err-say_view-clause-rest
returns-in_err-say_view-clause-rest g c = λ t. KeepsInput-says _ _ _ _ _ (c.in_ok-daemon.ensures.rest t) (c.in_err-say_view.ensures.says t).says

-- ---- the view was printed whole

pub returns-clause-says : goal.returns-clause-says
returns-clause-says g c = λ t rested sound.
    let said = shown (g.H.Host.counts c.args.h.now).size c.frames-frames.result c.args.view (g.H.Host.state c.args.h.now) (g.H.Host.state c.start.new.h) (g.H.Host.state c.say_view.new.h) None
    (not_refused _ _ (c.in_ok-daemon.ensures.not_sound t refl)) (c.in_ok-daemon.ensures.replays t rested) (c.frames-frames.ensures.frames ∙ c.in_ok-daemon.ensures.frames t rested)
    (λ next tables frames. c.in_ok-say_view.ensures.sound t _ refl next tables frames) in
    SaysPart-started _ _ _ _ _ _ (c.in_ok-daemon.ensures.says t (λ no. absurd (cc))) said

pub returns-clause-in_the_end : goal.returns-clause-in_the_end
returns-clause-in_the_end g c = λ t rested ok.
    let same = words_said _ _ _ _ (c.in_ok-say_view.ensures.says t).says in
    ap (λ words. text_of c.args.view (reads words)) same ∙ shown_in_the_end _ c.args.view (g.H.Host.state c.args.h.now) (g.H.Host.state c.start.new.h) (not_refused _ _ (c.in_ok-daemon.ensures.not_sound t refl)) (c.in_ok-daemon.ensures.replays t rested)

pub returns-clause-moments : goal.returns-clause-moments
returns-clause-moments g c = λ t size same rested s world.
    let old = g.H.Host.state c.args.h.now in
    Leaves-shown size s old _ _ _ _ _ (c.in_ok-daemon.ensures.starts t size same (world_at size s old old) rested world refl) (c.in_ok-say_view.ensures.says t).says

pub returns-clause-rest : goal.returns-clause-rest
returns-clause-rest g c = λ t. KeepsInput-says _ _ _ _ _ (c.in_ok-daemon.ensures.rest t) (c.in_ok-say_view.ensures.says t).says

pub returns-clause-tables : goal.returns-clause-tables
returns-clause-tables g c = λ t size same rested s world.
    let old = g.H.Host.state c.args.h.now in
    Tables-shown size s old _ _ _ _ _ (c.in_ok-daemon.ensures.starts t size same (world_at size s old old) rested world refl) (c.in_ok-say_view.ensures.says t).says

pub returns-clause-in_start : goal.returns-clause-in_start
returns-clause-in_start g c = λ t size same rested s world.
    let old = g.H.Host.state c.args.h.now in
    StartMoments-shown size s old rested world _ _ _ _ _ (c.in_ok-daemon.ensures.starts t size same (world_at size s old old) rested world refl) (c.in_ok-say_view.ensures.says t).says

pub returns-clause-does : goal.returns-clause-does
returns-clause-does g c = λ t size same rested s world.
    let old = g.H.Host.state c.args.h.now in
    Does-shown size s old rested world _ _ _ _ _ (c.in_ok-daemon.ensures.starts t size same (world_at size s old old) rested world refl) (c.in_ok-daemon.ensures.replays t rested) (c.in_ok-say_view.ensures.says t).says
