use Rattle.std.proofs.Common.{◌≡◌, Result, Ok, Err, refl, sym, ap, subst, ◌∙◌}
use Rattle.std.specs.Prelude.{IfOk}
use Rattle.std.proofs.lemmas.Result.{err_from_is_err_and}
use Rattle.pm_model.specs.Moments.{State}
use Rattle.pm_model.specs.Words.{reads}
use Rattle.pm_model.proofs.Reading.{still_size}
use Rattle.pud_defs.specs.declared.machine.Refusal.{Refusal}
use Rattle.pud_defs.specs.declared.machine.Reply.TheVariants as replies
use Rattle.registry.specs.declared.adding.NewPuddle.{NewPuddle}
use Rattle.daemon_memory.proofs.Commands.Beneath.{ready_gate}
use Rattle.pool_transaction.specs.Premises.{DoesNewGrown}
use Rattle.pool_transaction.proofs.NewObjects.ActiveLines.{runs_still, may_grow, refused_by_tables, grown_for, memory_grown, runs_grown, making_grown, lowest_slot, does_unread_new, does_refused_new}
use Rattle.pool_transaction.proofs.WordsWritten.ObjectsWritten.{new_not_grown, new_in_puddle}
use Rattle.pool_transaction.proofs.changing.make_in_new_puddle.Goals as goal

-- ---- a read failed before the new puddle was found

pub returns-in_err-added-clause-does : goal.returns-in_err-added-clause-does
returns-in_err-added-clause-does g c =
    let p = err_from_is_err_and c.from_residual.result c.from_residual.ensures.1 in
    rw (p.1, p.2) (λ t size w memory runs making more.
    does_unread_new runs c.args.t c.args.opened.now c.args.pool.now c.in_err-added.field-0.0 _ (c.in_err-added.ensures.only_reads.stays t) c.in_err-added.ensures.only_reads.never_cut)

-- ---- the pool does not grow

pub returns-in-Err-clause-does : goal.returns-in-Err-clause-does
returns-in-Err-clause-does g c = λ t size w memory runs making more.
    does_refused_new runs c.args.t c.in-Err.refusal _
    (refused_by_tables runs c.args.t c.args.class c.args.serial making more c.as_slice.result.now c.as_slice.ensures.puddles c.in_ok-added.field-0 (c.in_ok-added.ensures.refusal t (reads (g.H.Host.state c.args.h.now).now.words) refl) c.in-Err.refusal c.in-Err.is)
    (c.in_ok-added.ensures.only_reads.stays t)

-- ---- the puddle was not added

pub returns-in_err-at-clause-does : goal.returns-in_err-at-clause-does
returns-in_err-at-clause-does g c =
    let p = err_from_is_err_and c.from_residual-in_err-at.result c.from_residual-in_err-at.ensures.1 in
    rw (p.1, p.2) (λ t size w memory runs making more.
    let active = c.args.opened.now in
    let F = c.args.frames in
    let at = c.args.pool.now in
    let start = g.H.Host.state c.find_growth.new.h in
    let still = c.in_ok-added.ensures.only_reads.stays t in
    let read = ap (λ (s : State). reads s.now.words) (sym still) in
    let then = runs_still runs still (still_size c.in_ok-added.ensures.only_reads runs.words_are) in
    let may = may_grow F active.slot c.args.class c.as_slice.result.now at.puddles c.as_slice.ensures.puddles (reads start.now.words) c.in_ok-added.field-0 (c.in_ok-added.ensures.refusal t (reads start.now.words) read) (c.in_ok-added.ensures.growth t (reads start.now.words) read) c.in-Ok.added c.in-Ok.is in
    let n = c.in_err-at.ensures in
    subst (λ (s : State). DoesNewGrown F active active at c.grow.new.pool c.args.t c.args.class size w memory (Err c.in_err-at.field-0.0) s (g.H.Host.state c.grow.new.h)) still
    (new_not_grown then c.args.t c.args.class c.args.serial making more c.in-Ok.added may c.grow.new.pool c.in_err-at.field-0.0 (g.H.Host.state c.grow.new.h) (n.grows t size w memory then c.args.class may.by) (n.commits t (ready_gate size w memory start then.ready))))

-- ---- the object was not made, or it was made

pub returns-in_err-make_object-clause-does : goal.returns-in_err-make_object-clause-does
returns-in_err-make_object-clause-does g c =
    let p = err_from_is_err_and c.from_residual-in_err-make_object.result c.from_residual-in_err-make_object.ensures.1 in
    rw (p.1, p.2) (λ t size w memory runs making more.
    let active = c.args.opened.now in
    let F = c.args.frames in
    let at = c.args.pool.now in
    let start = g.H.Host.state c.find_growth.new.h in
    let still = c.in_ok-added.ensures.only_reads.stays t in
    let read = ap (λ (s : State). reads s.now.words) (sym still) in
    let then = runs_still runs still (still_size c.in_ok-added.ensures.only_reads runs.words_are) in
    let may = may_grow F active.slot c.args.class c.as_slice.result.now at.puddles c.as_slice.ensures.puddles (reads start.now.words) c.in_ok-added.field-0 (c.in_ok-added.ensures.refusal t (reads start.now.words) read) (c.in_ok-added.ensures.growth t (reads start.now.words) read) c.in-Ok.added c.in-Ok.is in
    let grown = grown_for then making more may c.grow.new.pool (g.H.Host.state c.grow.new.h) (c.in_ok-at.ensures.grows t size w memory then c.args.class may.by) (c.in_ok-at.ensures.longer t size w memory then c.args.class may.by) in
    let same = c.in_ok-at.ensures.of_class ∙ subst (λ (f : Result NewPuddle Refusal). IfOk f (λ (a : NewPuddle). a.puddle.class ≡ c.args.class)) c.in-Ok.is c.in_ok-added.ensures.of_class in
    let lowest = lowest_slot grown c.in_ok-at.at same c.in_ok-at.ensures.place in
    let made = c.in_err-make_object.ensures.makes t size _ (memory_grown grown) (runs_grown grown (then.words_are ∙ sym (ap (λ k. k.size) c.in_ok-at.ensures.cause))) (making_grown grown c.in_ok-at.at.class same) lowest in
    subst (λ (s : State). DoesNewGrown F active c.make_object.new.opened at c.make_object.new.pool c.args.t c.args.class size w memory (Err c.in_err-make_object.field-0.0) s (g.H.Host.state c.make_object.new.h)) still
    (new_in_puddle grown (c.in_ok-at.ensures.commits t (ready_gate size w memory start then.ready)) c.in_ok-at.at c.in_ok-at.ensures.slot same lowest c.make_object.new.opened c.make_object.new.pool (Err c.in_err-make_object.field-0.0) tt (g.H.Host.state c.make_object.new.h) made))

pub returns-clause-does : goal.returns-clause-does
returns-clause-does g c = λ t size w memory runs making more.
    let active = c.args.opened.now in
    let F = c.args.frames in
    let at = c.args.pool.now in
    let start = g.H.Host.state c.find_growth.new.h in
    let still = c.in_ok-added.ensures.only_reads.stays t in
    let read = ap (λ (s : State). reads s.now.words) (sym still) in
    let then = runs_still runs still (still_size c.in_ok-added.ensures.only_reads runs.words_are) in
    let may = may_grow F active.slot c.args.class c.as_slice.result.now at.puddles c.as_slice.ensures.puddles (reads start.now.words) c.in_ok-added.field-0 (c.in_ok-added.ensures.refusal t (reads start.now.words) read) (c.in_ok-added.ensures.growth t (reads start.now.words) read) c.in-Ok.added c.in-Ok.is in
    let grown = grown_for then making more may c.grow.new.pool (g.H.Host.state c.grow.new.h) (c.in_ok-at.ensures.grows t size w memory then c.args.class may.by) (c.in_ok-at.ensures.longer t size w memory then c.args.class may.by) in
    let same = c.in_ok-at.ensures.of_class ∙ subst (λ (f : Result NewPuddle Refusal). IfOk f (λ (a : NewPuddle). a.puddle.class ≡ c.args.class)) c.in-Ok.is c.in_ok-added.ensures.of_class in
    let lowest = lowest_slot grown c.in_ok-at.at same c.in_ok-at.ensures.place in
    let made = c.in_ok-make_object.ensures.makes t size _ (memory_grown grown) (runs_grown grown (then.words_are ∙ sym (ap (λ k. k.size) c.in_ok-at.ensures.cause))) (making_grown grown c.in_ok-at.at.class same) lowest in
    subst (λ (s : State). DoesNewGrown F active c.make_object.new.opened at c.make_object.new.pool c.args.t c.args.class size w memory (Ok (replies.Ref c.args.serial)) s (g.H.Host.state c.make_object.new.h)) still
    (new_in_puddle grown (c.in_ok-at.ensures.commits t (ready_gate size w memory start then.ready)) c.in_ok-at.at c.in_ok-at.ensures.slot same lowest c.make_object.new.opened c.make_object.new.pool (Ok (replies.Ref c.args.serial)) refl (g.H.Host.state c.make_object.new.h) made)
