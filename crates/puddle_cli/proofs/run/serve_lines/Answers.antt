use Rattle.std.proofs.Common.{arith, true, false, Result, None, refl, sym, subst, ◌∙◌}
use Rattle.std.proofs.lemmas.Result.{err_from_is_err_and}
use Rattle.pud_defs.specs.StateMachine.Run.{last_world, open_rest}
use Rattle.puddled.specs.declared.daemon.RunFault.{RunFault}
use Rattle.puddled.proofs.DeviceStarts.Counted.{none_is_sound, size_of_ends, Grows-still, Grows-then, CountsToEnd-none, CountsToEnd-then}
use Rattle.puddle_cli.specs.Source.{is_aloud, bytes_left}
use Rattle.puddle_cli.specs.declared.run.Served.{Served}
use Rattle.puddle_cli.specs.Serving.{HasServedBy}
use Rattle.puddle_cli.proofs.Answering.{Takes-start, Serves-start, AnswersLine-as, Answered-last, Answered-end, Answered-so_far, left_kept}
use Rattle.puddle_cli.specs.Replying.{HeardBy}
use Rattle.puddle_cli.proofs.Replying.{Hears-start, Heard-last, Heard-end, Heard-so_far}
use Rattle.puddle_cli.proofs.run.serve_lines.Goals as goal

pub loop-taken-init : goal.loop-taken-init
loop-taken-init g c = record {
  counts = Grows-still _ _ refl;
  aloud = refl;
  few = omega arith;
  takes = λ t. Takes-start _ _ _ refl;
  serves = λ t size e w ready. rw c.new-piece.ensures (Serves-start size w _ _ _ _ _ _ refl ready);
  hears = λ t heard. rw c.new-piece.ensures (Hears-start _ _ refl);
  quiet = λ t silent. record { said = refl; script = refl };
  room = c.requires;
}

pub returns-in_err-serve_byte-clause-answered : goal.returns-in_err-serve_byte-clause-answered
returns-in_err-serve_byte-clause-answered g c = λ t size e w ready.
    let p = err_from_is_err_and c.from_residual.result c.from_residual.ensures.1 in
    let i = c.loop-taken.invariant in
    let same = e ∙ sym i.counts.size in
    subst (λ (r : Result Served RunFault). HasServedBy size w (is_aloud c.args.source.now) (bytes_left c.args.source.now (g.H.Host.state c.args.h.now)) r (g.H.Host.counts c.args.h.now) (g.H.Host.counts c.serve_byte.new.h) (g.H.Host.state c.args.h.now) (g.H.Host.state c.serve_byte.new.h) (bytes_left c.serve_byte.new.source (g.H.Host.state c.serve_byte.new.h))) (sym p.1)
    (rw p.2 (false, c.in_err-serve_byte.ensures.answered t size same w _ i.aloud _ _ _ (i.serves t size e w ready)))

pub returns-in_err-refused-clause-answered : goal.returns-in_err-refused-clause-answered
returns-in_err-refused-clause-answered g c = λ t size e w ready.
    let p = err_from_is_err_and c.from_residual-in_err-refused.result c.from_residual-in_err-refused.ensures.1 in
    let i = c.loop-taken.invariant in
    let same = e ∙ sym i.counts.size in
    let s = c.in_ok-serve_byte.ensures.serves t size same w _ i.aloud _ _ _ (i.serves t size e w ready) in
    let line = c.in_err-refused.ensures.answers t size (same ∙ sym (size_of_ends _ _ _ c.in_ok-serve_byte.ensures.cause)) (last_world w s.run.turns) s.ready (open_rest s.run.taken) s.run.under_way in
    subst (λ (r : Result Served RunFault). HasServedBy size w (is_aloud c.args.source.now) (bytes_left c.args.source.now (g.H.Host.state c.args.h.now)) r (g.H.Host.counts c.args.h.now) (g.H.Host.counts c.answer.new.h) (g.H.Host.state c.args.h.now) (g.H.Host.state c.answer.new.h) (bytes_left c.serve_byte.new.source (g.H.Host.state c.answer.new.h))) (sym p.1)
    (rw p.2 (
      true,
      Answered-last size w _ _ _ _ _ _ _ _ _ _ _ _ refl s _ _ _ _ _ refl (c.in_ok-serve_byte.ensures.ended t c.if-not-branch.true) (left_kept c.serve_byte.new.source (g.H.Host.state c.serve_byte.new.h) (g.H.Host.state c.answer.new.h) (c.in_err-refused.ensures.rest t).script)
          (AnswersLine-as size (last_world w s.run.turns) _ _ _ _ _ _ _ _ _ (c.is_aloud.ensures ∙ c.in_ok-serve_byte.ensures.aloud ∙ i.aloud) line),
    ))

pub returns-then-not-branch-clause-answered : goal.returns-then-not-branch-clause-answered
returns-then-not-branch-clause-answered g c = λ t size e w ready.
    let i = c.loop-taken.invariant in
    let same = e ∙ sym i.counts.size in
    let s = c.in_ok-serve_byte.ensures.serves t size same w _ i.aloud _ _ _ (i.serves t size e w ready) in
    let line = c.in_ok-refused.ensures.answers t size (same ∙ sym (size_of_ends _ _ _ c.in_ok-serve_byte.ensures.cause)) (last_world w s.run.turns) s.ready (open_rest s.run.taken) s.run.under_way in
    Answered-end size w _ _ _ _ _ _ _ _ _ _ _ _ refl s _ _ _ _ _ refl (c.in_ok-serve_byte.ensures.ended t c.if-not-branch.true) (left_kept c.serve_byte.new.source (g.H.Host.state c.serve_byte.new.h) (g.H.Host.state c.answer.new.h) (c.in_ok-refused.ensures.rest t).script)
    (AnswersLine-as size (last_world w s.run.turns) _ _ _ _ _ _ _ _ _ (c.is_aloud.ensures ∙ c.in_ok-serve_byte.ensures.aloud ∙ i.aloud) line)

pub returns-clause-answered : goal.returns-clause-answered
returns-clause-answered g c = λ t size e w ready.
    Answered-so_far size w _ _ _ _ _ _ _ _ _ _ _ _ refl (c.loop-taken.invariant.serves t size e w ready) None _ _ _ refl refl (λ _. refl) (λ lost. cc, refl) none_is_sound

pub returns-in_err-refused-clause-cause : goal.returns-in_err-refused-clause-cause
returns-in_err-refused-clause-cause g c =
    let p = err_from_is_err_and c.from_residual-in_err-refused.result c.from_residual-in_err-refused.ensures.1 in
    rw (p.1, p.2) (CountsToEnd-then _ _ _ _ (Grows-then _ _ _ c.loop-taken.invariant.counts (CountsToEnd-none _ _ c.in_ok-serve_byte.ensures.cause)) c.in_err-refused.ensures.cause)

-- ---- what is printed, whatever the device stores

pub returns-in_err-serve_byte-clause-heard : goal.returns-in_err-serve_byte-clause-heard
returns-in_err-serve_byte-clause-heard g c = λ t loud.
    let p = err_from_is_err_and c.from_residual.result c.from_residual.ensures.1 in
    subst (λ (r : Result Served RunFault). HeardBy r (g.H.Host.state c.args.h.now) (g.H.Host.state c.serve_byte.new.h)) (sym p.1)
    (rw p.2 (false, c.in_err-serve_byte.ensures.heard t (c.loop-taken.invariant.aloud ∙ loud) _ (c.loop-taken.invariant.hears t loud)))

pub returns-in_err-refused-clause-heard : goal.returns-in_err-refused-clause-heard
returns-in_err-refused-clause-heard g c = λ t loud.
    let p = err_from_is_err_and c.from_residual-in_err-refused.result c.from_residual-in_err-refused.ensures.1 in
    let s = c.in_ok-serve_byte.ensures.hears t (c.loop-taken.invariant.aloud ∙ loud) _ (c.loop-taken.invariant.hears t loud) in
    subst (λ (r : Result Served RunFault). HeardBy r (g.H.Host.state c.args.h.now) (g.H.Host.state c.answer.new.h)) (sym p.1)
    (rw p.2 (true, Heard-last _ _ _ _ s _ _ refl (c.in_err-refused.ensures.hears t (c.is_aloud.ensures ∙ c.in_ok-serve_byte.ensures.aloud ∙ c.loop-taken.invariant.aloud ∙ loud) (open_rest s.taken) s.under_way)))

pub returns-then-not-branch-clause-heard : goal.returns-then-not-branch-clause-heard
returns-then-not-branch-clause-heard g c = λ t loud.
    let s = c.in_ok-serve_byte.ensures.hears t (c.loop-taken.invariant.aloud ∙ loud) _ (c.loop-taken.invariant.hears t loud) in
    Heard-end _ _ _ _ s _ refl (c.in_ok-refused.ensures.hears t (c.is_aloud.ensures ∙ c.in_ok-serve_byte.ensures.aloud ∙ c.loop-taken.invariant.aloud ∙ loud) (open_rest s.taken) s.under_way)

pub returns-clause-heard : goal.returns-clause-heard
returns-clause-heard g c = λ t loud. Heard-so_far _ _ _ _ (c.loop-taken.invariant.hears t loud) None refl
