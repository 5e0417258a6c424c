use Rattle.std.proofs.Common.{◌*◌, ◌<◌, ◌≤◌, Some, None, refl, sym, ap, ◌∙◌, arith}
use Rattle.std.proofs.lemmas.Option.{slice_get-get_or}
use Rattle.std.proofs.lemmas.Result.{err_from_is_err_and}
use Rattle.std.specs.Prelude.{slice_index_or}
use Rattle.pm_model.specs.Counts.{Counts}
use Rattle.pm_model.proofs.Changes.{Changes-still, Changes-then}
use Rattle.graph_read.proofs.Pointed.{no_puddle}
use Rattle.log_replay.specs.Replaying.{Anything}
use Rattle.lazy_rewrite.specs.declared.batches.TheConstants.{BATCH_STEPS}
use Rattle.lazy_rewrite.specs.Frontiers.{stepped_at, frontier_at}
use Rattle.lazy_rewrite.proofs.Turns.{Rewrites-none}
use Rattle.lazy_rewrite.proofs.Rounds.{left_read, all_read, reached-start, reached-end, within_now, current, here_now, last_next, pool_next, rewrites_round}
use Rattle.lazy_rewrite.proofs.steps.advance.Goals as goal

pub loop-round-init : goal.loop-round-init
loop-round-init g c = record {
  cause = refl;
  any = λ t. Changes-still Anything None (g.H.Host.state c.args.h.now) (g.H.Host.state c.args.h.now) (λ cut. cc) refl;
  known = c.requires.known;
  pool = λ e here.
      let all_is = all_read c.args.pool.now c.as_slice.result.now c.args.ordinal c.steps_of.result e c.as_slice.ensures.puddles here c.steps_of.ensures in
      let left_is = left_read c.args.pool.now c.as_slice.result.now c.args.ordinal c.steps_left-left.result e c.as_slice.ensures.puddles here c.steps_left-left.ensures in
      reached-start c.args.pool.now c.args.ordinal c.args.n e here c.steps_of.result c.steps_left-left.result c.min-steps.result all_is left_is c.min-steps.ensures 0 refl;
  rewrites = λ t size same idle low. Rewrites-none c.args.frames (frontier_at c.args.ordinal (stepped_at c.args.ordinal c.args.n c.args.pool.now)) c.args.pool.now c.args.pool.now (g.H.Host.state c.args.h.now) refl;
}

pub rewrite_batch-requires-clause-within : goal.rewrite_batch-requires-clause-within
rewrite_batch-requires-clause-within g c =
    let pool = c.args.pool.now in
    let e = slice_index_or pool c.args.ordinal no_puddle in
    let here = slice_get-get_or pool c.args.ordinal no_puddle c.requires.within in
    let all_is = all_read c.args.pool.now c.as_slice.result.now c.args.ordinal c.steps_of.result e c.as_slice.ensures.puddles here c.steps_of.ensures in
    let left_is = left_read c.args.pool.now c.as_slice.result.now c.args.ordinal c.steps_left-left.result e c.as_slice.ensures.puddles here c.steps_left-left.ensures in
    within_now pool c.args.ordinal c.args.n e here c.steps_of.result c.steps_left-left.result c.min-steps.result all_is left_is c.min-steps.ensures c.loop-round.round c.loop-round.pool (c.loop-round.invariant.pool e here)

pub rewrite_batch-requires-clause-last : goal.rewrite_batch-requires-clause-last
rewrite_batch-requires-clause-last g c =
    let pool = c.args.pool.now in
    let o = c.args.ordinal in
    let e = slice_index_or pool o no_puddle in
    let here = slice_get-get_or pool o no_puddle c.requires.within in
    let all = c.steps_of.result in
    let left = c.steps_left-left.result in
    let steps = c.min-steps.result in
    let all_is = all_read pool c.as_slice.result.now o all e c.as_slice.ensures.puddles here c.steps_of.ensures in
    let left_is = left_read pool c.as_slice.result.now o left e c.as_slice.ensures.puddles here c.steps_left-left.ensures in
    let below : BATCH_STEPS * c.loop-round.round < steps = omega (arith, c.div_ceil-round-end.ensures) in
    last_next pool o c.args.n e here all left steps all_is left_is c.min-steps.ensures c.loop-round.round c.loop-round.pool (c.loop-round.invariant.pool e here) below c.min.result c.min.ensures

pub returns-in_err-rewrite_batch-clause-rewrites : goal.returns-in_err-rewrite_batch-clause-rewrites
returns-in_err-rewrite_batch-clause-rewrites g c =
    let p = err_from_is_err_and c.from_residual.result c.from_residual.ensures.1 in
    rw (p.1, p.2) (λ t size same idle low.
    rewrites_round c.args.frames c.args.pool.now c.as_slice.result.now c.loop-round.pool c.rewrite_batch.new.pool c.args.ordinal c.args.n c.steps_of.result c.steps_left-left.result c.min-steps.result c.loop-round.round c.min.result
    (Some c.in_err-rewrite_batch.field-0.0) (g.H.Host.state c.args.h.now) (g.H.Host.state c.loop-round.h) (g.H.Host.state c.rewrite_batch.new.h)
    c.requires.within c.as_slice.ensures.puddles c.steps_of.ensures c.steps_left-left.ensures c.min-steps.ensures (omega (arith, c.div_ceil-round-end.ensures)) c.min.ensures c.loop-round.invariant.pool
    idle low (c.loop-round.invariant.rewrites t size same idle low) (c.in_err-rewrite_batch.ensures.rewrites t size (same ∙ ap (λ (x : Counts). x.size) (sym c.loop-round.invariant.cause))))

pub returns-in_err-rewrite_batch-clause-any : goal.returns-in_err-rewrite_batch-clause-any
returns-in_err-rewrite_batch-clause-any g c =
    let p = err_from_is_err_and c.from_residual.result c.from_residual.ensures.1 in
    rw (p.1, p.2) (λ t. Changes-then Anything (Some c.in_err-rewrite_batch.field-0.0) (g.H.Host.state c.args.h.now) (g.H.Host.state c.loop-round.h) (g.H.Host.state c.rewrite_batch.new.h) (c.loop-round.invariant.any t) (c.in_err-rewrite_batch.ensures.any t))

pub loop-round-preserved : goal.loop-round-preserved
loop-round-preserved g c = record {
  cause = c.in_ok-rewrite_batch.ensures.cause ∙ c.loop-round.invariant.cause;
  any = λ t. Changes-then Anything None (g.H.Host.state c.args.h.now) (g.H.Host.state c.loop-round.h) (g.H.Host.state c.rewrite_batch.new.h) (c.loop-round.invariant.any t) (c.in_ok-rewrite_batch.ensures.any t);
  known = c.in_ok-rewrite_batch.ensures.known;
  pool = λ e here.
      let pool = c.args.pool.now in
      let o = c.args.ordinal in
      let now = c.loop-round.pool in
      let round = c.loop-round.round in
      let is = c.loop-round.invariant.pool e here in
      let below : BATCH_STEPS * round < c.min-steps.result = omega (arith, c.div_ceil-round-end.ensures) in
      let left = c.steps_left-left.result in
      let steps = c.min-steps.result in
      let all = c.steps_of.result in
      let all_is = all_read pool c.as_slice.result.now o all e c.as_slice.ensures.puddles here c.steps_of.ensures in
      let left_is = left_read pool c.as_slice.result.now o left e c.as_slice.ensures.puddles here c.steps_left-left.ensures in
      pool_next pool o c.args.n e here all left steps all_is left_is c.min-steps.ensures round now is below c.min.result c.min.ensures c.rewrite_batch.new.pool
      (c.in_ok-rewrite_batch.ensures.pool (current pool o c.args.n e here all left steps all_is left_is c.min-steps.ensures round now is below) (here_now pool o c.args.n e here all left steps all_is left_is c.min-steps.ensures round now is below));
  rewrites = λ t size same idle low.
      rewrites_round c.args.frames c.args.pool.now c.as_slice.result.now c.loop-round.pool c.rewrite_batch.new.pool c.args.ordinal c.args.n c.steps_of.result c.steps_left-left.result c.min-steps.result c.loop-round.round c.min.result
      None (g.H.Host.state c.args.h.now) (g.H.Host.state c.loop-round.h) (g.H.Host.state c.rewrite_batch.new.h)
      c.requires.within c.as_slice.ensures.puddles c.steps_of.ensures c.steps_left-left.ensures c.min-steps.ensures (omega (arith, c.div_ceil-round-end.ensures)) c.min.ensures c.loop-round.invariant.pool
      idle low (c.loop-round.invariant.rewrites t size same idle low) (c.in_ok-rewrite_batch.ensures.rewrites t size (same ∙ ap (λ (x : Counts). x.size) (sym c.loop-round.invariant.cause)));
}

pub returns-clause-steps : goal.returns-clause-steps
returns-clause-steps g c = λ e here.
    let all_is = all_read c.args.pool.now c.as_slice.result.now c.args.ordinal c.steps_of.result e c.as_slice.ensures.puddles here c.steps_of.ensures in
    let left_is = left_read c.args.pool.now c.as_slice.result.now c.args.ordinal c.steps_left-left.result e c.as_slice.ensures.puddles here c.steps_left-left.ensures in
    omega (arith, c.min-steps.ensures, left_is)

pub returns-clause-pool : goal.returns-clause-pool
returns-clause-pool g c =
    let pool = c.args.pool.now in
    let e = slice_index_or pool c.args.ordinal no_puddle in
    let here = slice_get-get_or pool c.args.ordinal no_puddle c.requires.within in
    let all_is = all_read c.args.pool.now c.as_slice.result.now c.args.ordinal c.steps_of.result e c.as_slice.ensures.puddles here c.steps_of.ensures in
    let left_is = left_read c.args.pool.now c.as_slice.result.now c.args.ordinal c.steps_left-left.result e c.as_slice.ensures.puddles here c.steps_left-left.ensures in
    let past : c.min-steps.result ≤ BATCH_STEPS * c.loop-round.round = omega (arith, c.div_ceil-round-end.ensures) in
    reached-end pool c.args.ordinal c.args.n e here c.steps_of.result c.steps_left-left.result c.min-steps.result all_is left_is c.min-steps.ensures c.loop-round.round c.loop-round.pool past (c.loop-round.invariant.pool e here)
