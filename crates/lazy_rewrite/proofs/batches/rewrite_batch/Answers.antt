use Rattle.std.proofs.Common.{Some, None, refl, sym, subst, arith}
use Rattle.std.specs.Prelude.{slice_index_or}
use Rattle.std.proofs.lemmas.Option.{slice_get-get_or}
use Rattle.std.proofs.lemmas.Result.{err_from_is_err_and}
use Rattle.pm_model.specs.Words.{reads}
use Rattle.pm_model.proofs.Reading.{still_size}
use Rattle.pud_defs.specs.PoolGraphs.Stored.{IsOnDevice}
use Rattle.graph_read.proofs.Pointed.{no_puddle}
use Rattle.lazy_rewrite.proofs.Moved.{on_device-steps}
use Rattle.lazy_rewrite.proofs.Gathered.{frame_below, gathered_from}
use Rattle.lazy_rewrite.proofs.Written.{RewritesOnce-gathered}
use Rattle.lazy_rewrite.proofs.batches.rewrite_batch.Goals as goal

pub returns-in_err-commit-clause-rewrites : goal.returns-in_err-commit-clause-rewrites
returns-in_err-commit-clause-rewrites g c =
    let p = err_from_is_err_and c.from_residual-in_err-commit.result c.from_residual-in_err-commit.ensures.1 in
    rw (p.1, p.2) (λ t size same idle low aims e at_from next.
    let pool = c.args.pool.now in
    let a = g.H.Host.state c.args.h.now in
    let b = g.H.Host.state c.gather.new.h in
    RewritesOnce-gathered c.args.frames size pool aims c.args.ordinal c.args.to e (frame_below c.args.frames pool c.args.ordinal e c.requires.known next.here) (omega (arith, same)) next a
    c.in_ok-gather.field-0 pool (Some c.in_err-commit.field-0.0) b (g.H.Host.state c.commit.new.h) (c.gather.ensures.only_reads.stays t)
    (gathered_from c.args.frames pool c.as_slice.result.now (reads a.now.words) c.args.ordinal c.args.from c.args.to e c.in_ok-gather.field-0 c.as_slice.ensures.puddles low next.here at_from
    (λ old. c.in_ok-gather.ensures.batch t (reads a.now.words) refl old (omega (arith, next.few)))) idle
    (λ free. c.in_err-commit.ensures.commits t size (still_size c.in_ok-gather.ensures.only_reads same) free) refl)

pub returns-clause-rewrites : goal.returns-clause-rewrites
returns-clause-rewrites g c = λ t size same idle low aims e at_from next.
    let pool = c.args.pool.now in
    let a = g.H.Host.state c.args.h.now in
    let b = g.H.Host.state c.gather.new.h in
    RewritesOnce-gathered c.args.frames size pool aims c.args.ordinal c.args.to e (frame_below c.args.frames pool c.args.ordinal e c.requires.known next.here) (omega (arith, same)) next a
    c.in_ok-gather.field-0 _ None b (g.H.Host.state c.commit.new.h) (c.gather.ensures.only_reads.stays t)
    (gathered_from c.args.frames pool c.as_slice.result.now (reads a.now.words) c.args.ordinal c.args.from c.args.to e c.in_ok-gather.field-0 c.as_slice.ensures.puddles low next.here at_from
    (λ old. c.in_ok-gather.ensures.batch t (reads a.now.words) refl old (omega (arith, next.few)))) idle
    (λ free. c.in_ok-commit.ensures.commits t size (still_size c.in_ok-gather.ensures.only_reads same) free)
    (c.move_frontier.ensures e next.here)

pub returns-clause-known : goal.returns-clause-known
returns-clause-known g c =
    let pool = c.args.pool.now in
    let e = slice_index_or pool c.args.ordinal no_puddle in
    let here = slice_get-get_or pool c.args.ordinal no_puddle c.requires.within in
    subst (IsOnDevice c.args.frames) (sym (c.move_frontier.ensures e here)) (on_device-steps c.args.frames pool c.args.ordinal c.args.to e here c.requires.known)
