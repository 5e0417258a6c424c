use Rattle.std.proofs.Common.{ℕ, [], ◌∷◌, None, Some, ap, subst, ◌∙◌}
use Rattle.std.proofs.lemmas.Result.{err_from_is_err_and}
use Rattle.pm_model.specs.Counts.{after_fault, fault_of}
use Rattle.pm_model.specs.Changes.{Writes, placed}
use Rattle.pud_defs.specs.declared.log_words.TheConstants.{CLOSED_GATE}
use Rattle.log_space.proofs.Gates.{WritesGates-more, WritesGates-failed}
use Rattle.log_space.proofs.closing.write_gates.Goals as goal

pub returns-in_err-write_range-clause-writes : goal.returns-in_err-write_range-clause-writes
returns-in_err-write_range-clause-writes g c =
    let p = err_from_is_err_and c.from_residual.result c.from_residual.ensures.1 in
    let before = g.H.Host.state c.loop-number.h in
    let now = g.H.Host.state c.write_range.new.h in
    let fault = c.in_err-write_range.field-0.0 in
    rw (p.1, p.2) (λ t. WritesGates-failed c.args.frames c.args.slot c.loop-number.number fault (g.H.Host.state c.args.h.now) before now c.loop-number-test.true (c.loop-number.invariant.writes t)
    (subst (λ (at : ℕ). Writes (placed at (CLOSED_GATE ∷ [])) (Some fault) before now) c.log_at.ensures (c.in_err-write_range.ensures.writes t)))

pub loop-number-preserved : goal.loop-number-preserved
loop-number-preserved g c =
    let before = g.H.Host.state c.loop-number.h in
    let now = g.H.Host.state c.write_range.new.h in
    record {
      counts = c.write_range.ensures.cause ∙ ap (λ r. after_fault (fault_of r) (g.H.Host.counts c.loop-number.h)) c.in_ok-write_range.was ∙ c.loop-number.invariant.counts;
      writes = λ t. WritesGates-more c.args.frames c.args.slot c.loop-number.number (g.H.Host.state c.args.h.now) before now c.loop-number-test.true (c.loop-number.invariant.writes t)
          (subst (λ (at : ℕ). Writes (placed at (CLOSED_GATE ∷ [])) None before now) c.log_at.ensures (c.in_ok-write_range.ensures.writes t));
    }
