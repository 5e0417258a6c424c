use Rattle.std.proofs.Common.{◌+◌, ◌≡◌, ◌∙◌, Bool, Result, Some, None, refl, sym, ap, subst, arith}
use Rattle.std.specs.Prelude.{List, ℕ}
use Rattle.std.proofs.lemmas.Result.{err_from_is_err_and}
use Rattle.pm_model.specs.Counts.{Counts}
use Rattle.pud_defs.specs.StateMachine.Run.{last_world, open_rest}
use Rattle.puddled.specs.declared.daemon.RunFault.{RunFault}
use Rattle.puddled.specs.Faults.{of_host}
use Rattle.puddled.proofs.DeviceStarts.Counted.{CountsToEnd-host, host_is_sound}
use Rattle.puddle_cli.specs.Source.{bytes_left}
use Rattle.puddle_cli.specs.Serving.{TakesOne}
use Rattle.puddle_cli.proofs.Answering.{counts_nothing_more, ready_read, AnswersLine-as, Answered-newline, Answered-so_far, Serves-line, Serves-byte, Takes-more, TakesAtMost-takes, KeepsScript-still, left_kept, took_aloud}
use Rattle.puddle_cli.specs.Replying.{Hears}
use Rattle.puddle_cli.proofs.Replying.{Hears-line, Hears-byte, Heard-newline, Heard-so_far}
use Rattle.puddle_cli.proofs.run.serve_byte.Goals as goal

pub returns-in_err-next-clause-answered : goal.returns-in_err-next-clause-answered
returns-in_err-next-clause-answered g c =
    let p = err_from_is_err_and c.from_residual.result c.from_residual.ensures.1 in
    rw (p.1, p.2) (λ t size e w aloud loud all before start s.
    let fault = c.in_err-next.field-0.0 in
    let failed = c.in_err-next.ensures.failed t in
    Answered-so_far size w aloud all before start _ _ _ _ _ _ _ _ refl s (Some (of_host fault)) _ _ 0 failed.0 (λ i. bytes_left (failed.1 i) (failed.0 i))
    (λ none. absurd (let no : Some (of_host fault) ≡ None = none in cc))
    (counts_nothing_more fault _ _ c.in_err-next.ensures.cause c.in_err-next.ensures.never_cut) (host_is_sound fault))

pub returns-in_err-refused-in-Some-eq10-clause-answered : goal.returns-in_err-refused-in-Some-eq10-clause-answered
returns-in_err-refused-in-Some-eq10-clause-answered g c =
    let p = err_from_is_err_and c.from_residual-in_err-refused-in-Some-eq10.result c.from_residual-in_err-refused-in-Some-eq10.ensures.1 in
    rw (p.1, p.2) (λ t size e w aloud loud all before start s.
    let took = rw c.in-Some-eq10.is at (c.in_ok-next.ensures.taken t) in
    let ready = ready_read size w aloud all before start _ _ _ _ _ _ _ _ c.in-Some-eq10.field-0 s took in
    let line = c.in_err-refused-in-Some-eq10.ensures.answers t size (e ∙ sym (ap (λ (x : Counts). x.size) c.in_ok-next.ensures.cause)) (last_world w s.run.turns) ready (open_rest s.run.taken) s.run.under_way in
    Answered-newline size w aloud all before start _ _ _ _ _ _ _ _ c.in_ok-next.ensures.cause s c.in-Some-eq10.field-0 _ took _ _ _ _ _
    (left_kept c.next.new.self (g.H.Host.state c.next.new.h) (g.H.Host.state c.answer.new.h) (c.in_err-refused-in-Some-eq10.ensures.rest t).script) c.in-Some-eq10.field-0-test
    (AnswersLine-as size (last_world w s.run.turns) _ aloud _ _ _ _ _ _ _ (c.is_aloud.ensures ∙ c.in_ok-next.ensures.aloud ∙ loud) line))

pub returns-in_err-refused-in-Some-eq10-clause-takes : goal.returns-in_err-refused-in-Some-eq10-clause-takes
returns-in_err-refused-in-Some-eq10-clause-takes g c = λ t all count start so_far.
    let p = err_from_is_err_and c.from_residual-in_err-refused-in-Some-eq10.result c.from_residual-in_err-refused-in-Some-eq10.ensures.1 in
    let took = rw c.in-Some-eq10.is at (c.in_ok-next.ensures.taken t) in
    let rest = c.in_err-refused-in-Some-eq10.ensures.rest t in
    subst (λ (r : Result Bool RunFault). TakesOne all r count start (g.H.Host.state c.answer.new.h) (bytes_left c.next.new.self (g.H.Host.state c.answer.new.h))) (sym p.1)
    (TakesAtMost-takes all (count + 1) (count + 1) start _ _ (omega arith) (Takes-more all count c.in-Some-eq10.field-0 _ _ _ start _ _ _ so_far took (left_kept c.next.new.self (g.H.Host.state c.next.new.h) (g.H.Host.state c.answer.new.h) rest.script) rest))

pub returns-in-None-clause-serves : goal.returns-in-None-clause-serves
returns-in-None-clause-serves g c = λ t size e w aloud loud all before start s.
    let took = rw c.in-None.is at (c.in_ok-next.ensures.taken t) in
    rw (c.in_ok-next.ensures.cause, took.1, took.2) s

pub returns-in_ok-refused-in-Some-eq10-clause-serves : goal.returns-in_ok-refused-in-Some-eq10-clause-serves
returns-in_ok-refused-in-Some-eq10-clause-serves g c = λ t size e w aloud loud all before start s.
    let took = rw c.in-Some-eq10.is at (c.in_ok-next.ensures.taken t) in
    let ready = ready_read size w aloud all before start _ _ _ _ _ _ _ _ c.in-Some-eq10.field-0 s took in
    let line = c.in_ok-refused-in-Some-eq10.ensures.answers t size (e ∙ sym (ap (λ (x : Counts). x.size) c.in_ok-next.ensures.cause)) (last_world w s.run.turns) ready (open_rest s.run.taken) s.run.under_way in
    rw c.in_ok-refused-in-Some-eq10.ensures.piece
    (Serves-line size w aloud all before start _ _ _ _ _ _ _ _ c.in_ok-next.ensures.cause s c.in-Some-eq10.field-0 _ took _ _ _ _ _
    (left_kept c.next.new.self (g.H.Host.state c.next.new.h) (g.H.Host.state c.answer.new.h) (c.in_ok-refused-in-Some-eq10.ensures.rest t).script) c.in-Some-eq10.field-0-test
    (AnswersLine-as size (last_world w s.run.turns) _ aloud _ _ _ _ _ _ _ (c.is_aloud.ensures ∙ c.in_ok-next.ensures.aloud ∙ loud) line))

pub returns-in_ok-refused-in-Some-eq10-clause-takes : goal.returns-in_ok-refused-in-Some-eq10-clause-takes
returns-in_ok-refused-in-Some-eq10-clause-takes g c = λ t all count start so_far.
    let took = rw c.in-Some-eq10.is at (c.in_ok-next.ensures.taken t) in
    let rest = c.in_ok-refused-in-Some-eq10.ensures.rest t in
    Takes-more all count c.in-Some-eq10.field-0 _ _ _ start _ _ _ so_far took (left_kept c.next.new.self (g.H.Host.state c.next.new.h) (g.H.Host.state c.answer.new.h) rest.script) rest

pub returns-in-Some-clause-serves : goal.returns-in-Some-clause-serves
returns-in-Some-clause-serves g c = λ t size e w aloud loud all before start s.
    let took = rw c.in-Some.is at (c.in_ok-next.ensures.taken t) in
    rw c.push.ensures
    (Serves-byte size w aloud all before start _ _ _ _ _ _ _ _ c.in_ok-next.ensures.cause s c.in-Some.byte _ took c.in-Some.byte-test.1)

pub returns-in-Some-clause-takes : goal.returns-in-Some-clause-takes
returns-in-Some-clause-takes g c = λ t all count start so_far.
    let took = rw c.in-Some.is at (c.in_ok-next.ensures.taken t) in
    Takes-more all count c.in-Some.byte _ _ _ start _ _ _ so_far took refl (KeepsScript-still _ _ refl)

pub returns-in_err-next-clause-cause : goal.returns-in_err-next-clause-cause
returns-in_err-next-clause-cause g c =
    let p = err_from_is_err_and c.from_residual.result c.from_residual.ensures.1 in
    rw (p.1, p.2) (CountsToEnd-host c.in_err-next.field-0.0 _ _ c.in_err-next.ensures.cause c.in_err-next.ensures.never_cut)

-- ---- what is printed, whatever the device stores

pub returns-in_err-next-clause-heard : goal.returns-in_err-next-clause-heard
returns-in_err-next-clause-heard g c =
    let p = err_from_is_err_and c.from_residual.result c.from_residual.ensures.1 in
    rw (p.1, p.2) (λ t loud start s. Heard-so_far start _ _ c.args.piece.now s (Some (of_host c.in_err-next.field-0.0)) (c.in_err-next.ensures.failed t).0)

pub returns-in_err-refused-in-Some-eq10-clause-heard : goal.returns-in_err-refused-in-Some-eq10-clause-heard
returns-in_err-refused-in-Some-eq10-clause-heard g c =
    let p = err_from_is_err_and c.from_residual-in_err-refused-in-Some-eq10.result c.from_residual-in_err-refused-in-Some-eq10.ensures.1 in
    rw (p.1, p.2) (λ t loud start s.
    let took = took_aloud c.args.source.now c.next.new.self (Some c.in-Some-eq10.field-0) (g.H.Host.state c.args.h.now) (g.H.Host.state c.next.new.h) loud (c.in_ok-next.ensures.aloud ∙ loud) (rw c.in-Some-eq10.is at (c.in_ok-next.ensures.taken t)) in
    Heard-newline start _ _ c.args.piece.now s c.in-Some-eq10.field-0 _ _ c.in-Some-eq10.field-0-test took
    (c.in_err-refused-in-Some-eq10.ensures.hears t (c.is_aloud.ensures ∙ c.in_ok-next.ensures.aloud ∙ loud) (open_rest s.taken) s.under_way))

pub returns-in_ok-refused-in-Some-eq10-clause-hears : goal.returns-in_ok-refused-in-Some-eq10-clause-hears
returns-in_ok-refused-in-Some-eq10-clause-hears g c = λ t loud start s.
    let took = took_aloud c.args.source.now c.next.new.self (Some c.in-Some-eq10.field-0) (g.H.Host.state c.args.h.now) (g.H.Host.state c.next.new.h) loud (c.in_ok-next.ensures.aloud ∙ loud) (rw c.in-Some-eq10.is at (c.in_ok-next.ensures.taken t)) in
    subst (λ (l : List ℕ). Hears start (g.H.Host.state c.answer.new.h) l) (sym c.in_ok-refused-in-Some-eq10.ensures.piece)
    (Hears-line start _ _ c.args.piece.now s c.in-Some-eq10.field-0 _ c.in-Some-eq10.field-0-test took
    (c.in_ok-refused-in-Some-eq10.ensures.hears t (c.is_aloud.ensures ∙ c.in_ok-next.ensures.aloud ∙ loud) (open_rest s.taken) s.under_way))

pub returns-in-Some-clause-hears : goal.returns-in-Some-clause-hears
returns-in-Some-clause-hears g c = λ t loud start s.
    let took = took_aloud c.args.source.now c.next.new.self (Some c.in-Some.byte) (g.H.Host.state c.args.h.now) (g.H.Host.state c.next.new.h) loud (c.in_ok-next.ensures.aloud ∙ loud) (rw c.in-Some.is at (c.in_ok-next.ensures.taken t)) in
    rw c.push.ensures (Hears-byte start _ _ c.args.piece.now s c.in-Some.byte c.in-Some.byte-test.1 took)
