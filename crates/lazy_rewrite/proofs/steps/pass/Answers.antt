use Rattle.std.proofs.Common.{◌≡◌, ◌-◌, length, Some, None, refl, sym, ap, ◌∙◌, arith}
use Rattle.std.specs.Prelude.{slice_index_or}
use Rattle.std.proofs.lemmas.Option.{slice_get-get_or}
use Rattle.std.proofs.lemmas.Result.{err_from_is_err_and}
use Rattle.pm_model.specs.Counts.{Counts}
use Rattle.pm_model.proofs.Changes.{Changes-still, Changes-then}
use Rattle.graph_read.proofs.Pointed.{no_puddle}
use Rattle.log_replay.specs.Replaying.{Anything}
use Rattle.lazy_rewrite.specs.Frontiers.{steps_from, frontiers_of}
use Rattle.lazy_rewrite.proofs.Moved.{steps_after, left_after, steps_after-end, left_after-end}
use Rattle.lazy_rewrite.proofs.Turns.{Rewrites-none, Rewrites-then, Rewrites-idle}
use Rattle.lazy_rewrite.proofs.Passes.{long_later, low_later, pool_later, counted_later, rewrites_further}
use Rattle.lazy_rewrite.proofs.steps.pass.Goals as goal

pub loop-ordinal-init : goal.loop-ordinal-init
unfolding steps_after left_after
loop-ordinal-init g c =
    let all : c.args.n - 0 ≡ c.args.n = omega arith in
    record {
      cause = refl;
      any = λ t. Changes-still Anything None (g.H.Host.state c.args.h.now) (g.H.Host.state c.args.h.now) (λ cut. cc) refl;
      known = c.requires.known;
      long = refl;
      low = λ low. low;
      few = omega arith;
      counted = omega arith;
      pool = ap (λ k. steps_from k c.args.pool.now) all;
      rewrites = λ t size same idle low. Rewrites-none c.args.frames (frontiers_of (steps_from c.args.n c.args.pool.now)) c.args.pool.now c.args.pool.now (g.H.Host.state c.args.h.now) refl;
    }

pub returns-in_err-done-clause-rewrites : goal.returns-in_err-done-clause-rewrites
returns-in_err-done-clause-rewrites g c =
    let p = err_from_is_err_and c.from_residual.result c.from_residual.ensures.1 in
    rw (p.1, p.2) (λ t size same idle low.
    let whole = c.args.pool.now in
    let now = c.loop-ordinal.pool in
    let i = c.loop-ordinal.ordinal in
    let e = slice_index_or now i no_puddle in
    let here = slice_get-get_or now i no_puddle (omega (arith, c.loop-ordinal.invariant.long, ap length c.as_slice.ensures.puddles)) in
    let aims = frontiers_of (steps_from c.args.n whole) in
    let a = g.H.Host.state c.args.h.now in
    let b = g.H.Host.state c.loop-ordinal.h in
    let d = g.H.Host.state c.advance.new.h in
    let so_far = c.loop-ordinal.invariant.rewrites t size same idle low in
    Rewrites-then c.args.frames aims whole now c.advance.new.pool (Some c.in_err-done.field-0.0) a b d so_far
    (rewrites_further whole now i c.args.n c.loop-ordinal.done e here c.args.frames c.advance.new.pool (Some c.in_err-done.field-0.0) b d c.loop-ordinal.invariant.pool
    (c.in_err-done.ensures.rewrites t size (same ∙ ap (λ (x : Counts). x.size) (sym c.loop-ordinal.invariant.cause)) (Rewrites-idle c.args.frames aims whole now a b so_far idle) (c.loop-ordinal.invariant.low low))))

pub returns-in_err-done-clause-any : goal.returns-in_err-done-clause-any
returns-in_err-done-clause-any g c =
    let p = err_from_is_err_and c.from_residual.result c.from_residual.ensures.1 in
    rw (p.1, p.2) (λ t. Changes-then Anything (Some c.in_err-done.field-0.0) (g.H.Host.state c.args.h.now) (g.H.Host.state c.loop-ordinal.h) (g.H.Host.state c.advance.new.h) (c.loop-ordinal.invariant.any t) (c.in_err-done.ensures.any t))

pub advance-requires-clause-within : goal.advance-requires-clause-within
advance-requires-clause-within g c = omega (arith, c.loop-ordinal.invariant.long, ap length c.as_slice.ensures.puddles)

pub overflow_add-done : goal.overflow_add-done
overflow_add-done g c =
    let now = c.loop-ordinal.pool in
    let here = slice_get-get_or now c.loop-ordinal.ordinal no_puddle (omega (arith, c.loop-ordinal.invariant.long, ap length c.as_slice.ensures.puddles)) in
    let more = c.in_ok-done.ensures.steps (slice_index_or now c.loop-ordinal.ordinal no_puddle) here in
    omega (arith, more, c.loop-ordinal.invariant.few)

pub loop-ordinal-preserved : goal.loop-ordinal-preserved
loop-ordinal-preserved g c =
    let whole = c.args.pool.now in
    let now = c.loop-ordinal.pool in
    let i = c.loop-ordinal.ordinal in
    let done = c.loop-ordinal.done in
    let e = slice_index_or now i no_puddle in
    let here = slice_get-get_or now i no_puddle (omega (arith, c.loop-ordinal.invariant.long, ap length c.as_slice.ensures.puddles)) in
    let more = c.in_ok-done.ensures.steps e here in
    let moved = c.in_ok-done.ensures.pool in
    let few = c.loop-ordinal.invariant.few in
    record {
      cause = c.in_ok-done.ensures.cause ∙ c.loop-ordinal.invariant.cause;
      any = λ t. Changes-then Anything None (g.H.Host.state c.args.h.now) (g.H.Host.state c.loop-ordinal.h) (g.H.Host.state c.advance.new.h) (c.loop-ordinal.invariant.any t) (c.in_ok-done.ensures.any t);
      known = c.in_ok-done.ensures.known;
      long = long_later whole now i c.args.n done e here c.advance.new.pool moved ∙ c.loop-ordinal.invariant.long;
      low = λ low. low_later whole now i c.args.n done e here c.args.frames c.advance.new.pool moved (c.loop-ordinal.invariant.low low);
      few = omega (arith, more, few);
      counted = counted_later whole now i c.args.n done e here c.advance.new.pool c.in_ok-done.field-0 few more moved c.loop-ordinal.invariant.counted;
      pool = pool_later whole now i c.args.n done e here c.advance.new.pool c.in_ok-done.field-0 few more moved c.loop-ordinal.invariant.pool;
      rewrites = λ t size same idle low.
          let aims = frontiers_of (steps_from c.args.n whole) in
          let a = g.H.Host.state c.args.h.now in
          let b = g.H.Host.state c.loop-ordinal.h in
          let d = g.H.Host.state c.advance.new.h in
          let so_far = c.loop-ordinal.invariant.rewrites t size same idle low in
          Rewrites-then c.args.frames aims whole now c.advance.new.pool None a b d so_far
          (rewrites_further whole now i c.args.n done e here c.args.frames c.advance.new.pool None b d c.loop-ordinal.invariant.pool
          (c.in_ok-done.ensures.rewrites t size (same ∙ ap (λ (x : Counts). x.size) (sym c.loop-ordinal.invariant.cause)) (Rewrites-idle c.args.frames aims whole now a b so_far idle) (c.loop-ordinal.invariant.low low)));
    }

pub returns-clause-steps : goal.returns-clause-steps
returns-clause-steps g c =
    let none = left_after-end c.loop-ordinal.ordinal c.loop-ordinal.pool (omega (arith, c.loop-ordinal.invariant.long, ap length c.as_slice.ensures.puddles)) in
    omega (arith, none, c.loop-ordinal.invariant.counted)

pub returns-clause-pool : goal.returns-clause-pool
returns-clause-pool g c = sym (steps_after-end c.loop-ordinal.ordinal (c.args.n - c.loop-ordinal.done) c.loop-ordinal.pool (omega (arith, c.loop-ordinal.invariant.long, ap length c.as_slice.ensures.puddles))) ∙ c.loop-ordinal.invariant.pool
