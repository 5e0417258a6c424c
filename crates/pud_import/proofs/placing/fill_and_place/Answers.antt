use Rattle.std.proofs.Common.{sym, ap, ◌∙◌}
use Rattle.std.proofs.lemmas.Result.{err_from_is_err_and}
use Rattle.pm_model.specs.Counts.{Counts, fault_of}
use Rattle.pm_model.proofs.Changes.{Changes-wider, Changes-then}
use Rattle.log_replay.specs.Replaying.{Anything}
use Rattle.pud_defs.specs.PoolGraphs.Holdings.Holding.{Sound}
use Rattle.pud_import.specs.Contents.{stored_held}
use Rattle.pud_import.proofs.FilesPlaced.Imported.{ChangesPools-unfilled_import, ChangesPools-filled_import}
use Rattle.pud_import.proofs.FilesPlaced.PlacedSomewhere.{PlacesSomewhere-unfilled, PlacesSomewhere-filled}
use Rattle.pud_import.proofs.placing.fill_and_place.Goals as goal

pub returns-in_err-fill_frames-clause-commits : goal.returns-in_err-fill_frames-clause-commits
returns-in_err-fill_frames-clause-commits g c =
    let q = err_from_is_err_and c.from_residual.result c.from_residual.ensures.1 in
    rw (q.1, q.2) (λ t image file is idle.
    PlacesSomewhere-unfilled c.args.frames image (stored_held c.args.view.now) file c.args.slot c.args.rec c.args.types.now c.args.puddles.now is c.in_err-fill_frames.field-0.0
    (g.H.Host.state c.args.h.now) (g.H.Host.state c.fill_frames.new.h) (c.in_err-fill_frames.ensures.changes t))

pub returns-in_err-fill_frames-clause-places : goal.returns-in_err-fill_frames-clause-places
returns-in_err-fill_frames-clause-places g c =
    let q = err_from_is_err_and c.from_residual.result c.from_residual.ensures.1 in
    rw (q.1, q.2) (λ t size same s file mask held may is.
    ChangesPools-unfilled_import size s c.args.frames c.args.slot c.args.rec c.args.types.now c.args.puddles.now c.args.view.now file held mask (g.H.Host.state c.args.h.now) (g.H.Host.state c.fill_frames.new.h) is _
    c.in_err-fill_frames.field-0.0 may (c.in_err-fill_frames.ensures.changes t))

pub returns-in_err-fill_frames-clause-any : goal.returns-in_err-fill_frames-clause-any
returns-in_err-fill_frames-clause-any g c =
    let q = err_from_is_err_and c.from_residual.result c.from_residual.ensures.1 in
    rw (q.1, q.2) (λ t. Changes-wider _ Anything _ _ _ (λ k v of. tt) (c.in_err-fill_frames.ensures.changes t))

pub returns-clause-commits : goal.returns-clause-commits
returns-clause-commits g c = λ t image file is idle.
    PlacesSomewhere-filled c.args.frames image (stored_held c.args.view.now) file c.args.slot c.args.rec c.args.types.now c.args.puddles.now is (fault_of c.place_pool.result)
    (g.H.Host.state c.args.h.now) (g.H.Host.state c.fill_frames.new.h) (g.H.Host.state c.place_pool.new.h) (c.in_ok-fill_frames.ensures.changes t) (c.in_ok-fill_frames.ensures.filled t) idle (c.place_pool.ensures.commits t)

pub returns-clause-places : goal.returns-clause-places
returns-clause-places g c = λ t size same s file mask held may is.
    let r = c.args.rec in
    ChangesPools-filled_import size s c.args.frames c.args.slot r c.args.types.now c.args.puddles.now c.args.view.now file held mask (g.H.Host.state c.args.h.now) (g.H.Host.state c.fill_frames.new.h) is
    (fault_of c.place_pool.result) (g.H.Host.state c.place_pool.new.h) may c.requires.count (c.in_ok-fill_frames.ensures.changes t) (c.in_ok-fill_frames.ensures.filled t)
    (c.place_pool.ensures.places t size (same ∙ sym (ap (λ (c : Counts). c.size) c.in_ok-fill_frames.ensures.cause)) s (Sound file.graph) mask)

pub returns-clause-any : goal.returns-clause-any
returns-clause-any g c = λ t. Changes-then Anything _ _ _ _ (Changes-wider _ Anything _ _ _ (λ k v of. tt) (c.in_ok-fill_frames.ensures.changes t)) (c.place_pool.ensures.any t)
