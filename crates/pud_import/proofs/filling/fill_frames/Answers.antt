use Rattle.std.proofs.Common.{◌≡◌, Some, None, refl, ◌∙◌, arith}
use Rattle.std.proofs.lemmas.Option.{slice_get-get_or}
use Rattle.std.proofs.lemmas.Result.{err_from_is_err_and}
use Rattle.pm_model.specs.declared.host.HostFault.TheVariants.{Cut}
use Rattle.pm_model.proofs.Changes.{Changes-still}
use Rattle.pud_import.specs.Contents.{stored_held}
use Rattle.pud_import.specs.Filling.{ByFrames}
use Rattle.pud_import.proofs.FilesPlaced.FilledFrames.{Changes-frame, filled_more, filled_none, filled_all}
use Rattle.pud_import.proofs.filling.fill_frames.Goals as goal

pub loop-ordinal-init : goal.loop-ordinal-init
loop-ordinal-init g c =
    let st = stored_held c.args.view.now in
    let old = g.H.Host.state c.args.h.now in
    record {
      changes = λ t. Changes-still (ByFrames c.args.frames c.args.puddles.now) None old old (λ cut. let no : None ≡ Some Cut = cut in cc) refl;
      filled = λ t rise. filled_none c.args.frames st c.args.puddles.now old.now.words;
      counts = refl;
    }

pub loop-ordinal-preserved : goal.loop-ordinal-preserved
loop-ordinal-preserved g c =
    let F = c.args.frames in
    let st = stored_held c.args.view.now in
    let puddles = c.args.puddles.now in
    let i = c.loop-ordinal.ordinal in
    let b = g.H.Host.state c.loop-ordinal.h in
    let then = g.H.Host.state c.fill_frame.new.h in
    let there = slice_get-get_or puddles i _ (omega (arith, c.loop-ordinal-test.true)) in
    record {
      changes = λ t. Changes-frame F st puddles i _ _ None (g.H.Host.state c.args.h.now) b then there (c.loop-ordinal.invariant.changes t) (c.in_ok-fill_frame.ensures.fills t);
      filled = λ t rise. filled_more F st puddles i _ b then rise there (c.in_ok-fill_frame.ensures.fills t) (c.loop-ordinal.invariant.filled t rise);
      counts = ◌∙◌ {b = g.H.Host.counts c.loop-ordinal.h} c.in_ok-fill_frame.ensures.cause c.loop-ordinal.invariant.counts;
    }

pub returns-in_err-fill_frame-clause-changes : goal.returns-in_err-fill_frame-clause-changes
returns-in_err-fill_frame-clause-changes g c =
    let p = err_from_is_err_and c.from_residual.result c.from_residual.ensures.1 in
    let puddles = c.args.puddles.now in
    let i = c.loop-ordinal.ordinal in
    rw (p.1, p.2) (λ t.
    Changes-frame c.args.frames (stored_held c.args.view.now) puddles i _ _ (Some c.in_err-fill_frame.field-0.0) (g.H.Host.state c.args.h.now) (g.H.Host.state c.loop-ordinal.h) (g.H.Host.state c.fill_frame.new.h)
    (slice_get-get_or puddles i _ (omega (arith, c.loop-ordinal-test.true))) (c.loop-ordinal.invariant.changes t) (c.in_err-fill_frame.ensures.fills t))

pub returns-clause-filled : goal.returns-clause-filled
returns-clause-filled g c = λ t rise none.
    filled_all c.args.frames (stored_held c.args.view.now) c.args.puddles.now c.loop-ordinal.ordinal (g.H.Host.state c.loop-ordinal.h).now.words (omega (arith, c.loop-ordinal-test.false)) (c.loop-ordinal.invariant.filled t rise)
