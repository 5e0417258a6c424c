use Rattle.std.proofs.Common.{Some, None, sym, subst, ◌∙◌}
use Rattle.std.proofs.lemmas.Result.{err_from_is_err_and}
use Rattle.pm_model.specs.Words.{reads}
use Rattle.pm_model.specs.Moments.{State}
use Rattle.pud_defs.specs.Output.Texts.{formatted_text}
use Rattle.puddle_cli.specs.Formatting.{LaysOut}
use Rattle.puddle_cli.proofs.Formatted.{Formats-none, Formats-laid, Formats-said, not_refused}
use Rattle.puddle_cli.proofs.format.try_format.Goals as goal

pub returns-in_err-is_refused-clause-formats : goal.returns-in_err-is_refused-clause-formats
returns-in_err-is_refused-clause-formats g c =
    let p = err_from_is_err_and c.from_residual.result c.from_residual.ensures.1 in
    rw (p.1, p.2) (λ t. Formats-none _ c.args.frames c.args.id _ _ _ (c.is_refused.ensures.only_reads.stays t))

pub returns-in_err-lay_out-clause-formats : goal.returns-in_err-lay_out-clause-formats
returns-in_err-lay_out-clause-formats g c =
    let p = err_from_is_err_and c.from_residual-in_err-lay_out.result c.from_residual-in_err-lay_out.ensures.1 in
    rw (p.1, p.2) (λ t.
    let same = c.is_refused.ensures.only_reads.stays t in
    let without = not_refused (g.H.Host.counts c.args.h.now).size c.args.frames (reads (g.H.Host.state c.args.h.now).now.words) (sym (c.in_ok-is_refused.ensures.refused t) ∙ c.if-branch.false) in
    let laid = subst (λ (s : State). LaysOut c.args.frames c.args.id (Some c.in_err-lay_out.field-0.0) s (g.H.Host.state c.lay_out.new.h)) same (c.in_err-lay_out.ensures.lays_out t) in
    Formats-laid (g.H.Host.counts c.args.h.now).size c.args.frames c.args.id c.requires.legal (c.in_ok-is_refused.ensures.room c.if-branch.false) _ _ _ without laid)

pub returns-in_err-say-clause-formats : goal.returns-in_err-say-clause-formats
unfolding formatted_text
returns-in_err-say-clause-formats g c =
    let p = err_from_is_err_and c.from_residual-in_err-say.result c.from_residual-in_err-say.ensures.1 in
    rw (p.1, p.2) (λ t.
    let same = c.is_refused.ensures.only_reads.stays t in
    let without = not_refused (g.H.Host.counts c.args.h.now).size c.args.frames (reads (g.H.Host.state c.args.h.now).now.words) (sym (c.in_ok-is_refused.ensures.refused t) ∙ c.if-branch.false) in
    let laid = subst (λ (s : State). LaysOut c.args.frames c.args.id None s (g.H.Host.state c.lay_out.new.h)) same (c.in_ok-lay_out.ensures.lays_out t) in
    Formats-said (g.H.Host.counts c.args.h.now).size c.args.frames c.args.id c.requires.legal (c.in_ok-is_refused.ensures.room c.if-branch.false) _ _ _ _ without laid (c.in_err-say.ensures.said t))

pub returns-clause-formats : goal.returns-clause-formats
unfolding formatted_text
returns-clause-formats g c = λ t _.
    let same = c.is_refused.ensures.only_reads.stays t in
    let without = not_refused (g.H.Host.counts c.args.h.now).size c.args.frames (reads (g.H.Host.state c.args.h.now).now.words) (sym (c.in_ok-is_refused.ensures.refused t) ∙ c.if-branch.false) in
    let laid = subst (λ (s : State). LaysOut c.args.frames c.args.id None s (g.H.Host.state c.lay_out.new.h)) same (c.in_ok-lay_out.ensures.lays_out t) in
    Formats-said (g.H.Host.counts c.args.h.now).size c.args.frames c.args.id c.requires.legal (c.in_ok-is_refused.ensures.room c.if-branch.false) _ _ _ _ without laid (c.in_ok-say.ensures.said t)
