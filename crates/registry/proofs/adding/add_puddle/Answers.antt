use Rattle.std.proofs.Common.{inr, List, Some, None, refl, sym, ap, subst, ◌∙◌, arith}
use Rattle.std.proofs.lemmas.Result.{err_from_is_err_and}
use Rattle.pm_model.specs.Counts.{Counts, fault_of}
use Rattle.pm_model.specs.Changes.{written}
use Rattle.pm_model.specs.Masks.{masked_state, IsOff}
use Rattle.pm_model.proofs.Changes.{Changes-wider, Changes-then}
use Rattle.pm_model.proofs.Masks.{Changes-masked, Persists-masked}
use Rattle.pud_defs.specs.declared.layout.TheConstants.{DAEMON_LOG}
use Rattle.pud_defs.specs.Logging.Entries.{Entry}
use Rattle.pud_defs.specs.Formats.Frames.{fresh_frame}
use Rattle.batch.specs.Batches.{ByBatch}
use Rattle.log_replay.specs.Replaying.{Anything}
use Rattle.registry.specs.Adding.{filling}
use Rattle.registry.proofs.Filled.{length-fresh_frame, IsFreeFrame, HasIdleGate-filled, ChangesPools-unfilled}
use Rattle.registry.proofs.Joined.{ChangesPools-added, Commits-puts}
use Rattle.registry.proofs.adding.add_puddle.Goals as goal

pub returns-in_err-fill_frame-clause-adds : goal.returns-in_err-fill_frame-clause-adds
returns-in_err-fill_frame-clause-adds g c =
    let p = err_from_is_err_and c.from_residual.result c.from_residual.ensures.1 in
    let x = c.args.added in
    rw (p.1, p.2) (λ t size same s next mask adds.
    let a = g.H.Host.state c.args.h.now in
    let b = g.H.Host.state c.fill_frame.new.h in
    ChangesPools-unfilled c.args.frames x.frame (fresh_frame x.puddle.number x.puddle.ordinal) (length-fresh_frame x.puddle.number x.puddle.ordinal) c.requires.within size s adds.frames _ _ c.in_err-fill_frame.field-0.0
    (masked_state mask a) (masked_state mask b) adds.settled
    (subst (λ n. IsFreeFrame n x.frame (masked_state mask a).now.words) (sym adds.frames) (record { tables = adds.tables; free = adds.free }))
    (Changes-masked mask (written (filling c.args.frames x)) (Some c.in_err-fill_frame.field-0.0) a b (c.in_err-fill_frame.ensures.fills t).changes))

pub returns-in_err-fill_frame-clause-any : goal.returns-in_err-fill_frame-clause-any
returns-in_err-fill_frame-clause-any g c =
    let p = err_from_is_err_and c.from_residual.result c.from_residual.ensures.1 in
    rw (p.1, p.2) (λ t. Changes-wider (written (filling c.args.frames c.args.added)) Anything (Some c.in_err-fill_frame.field-0.0) _ _ (λ k v may. tt) (c.in_err-fill_frame.ensures.fills t).changes)

pub returns-clause-commits : goal.returns-clause-commits
returns-clause-commits g c = λ t puts of is idle.
    let x = c.args.added in
    let filled = c.in_ok-fill_frame.ensures.fills t in
    let size = (g.H.Host.counts c.args.h.now).size in
    let then = sym (ap (λ (n : Counts). n.size) c.in_ok-fill_frame.ensures.cause) in
    let idle_then = HasIdleGate-filled c.args.frames x.frame (fresh_frame x.puddle.number x.puddle.ordinal) (length-fresh_frame x.puddle.number x.puddle.ordinal) c.requires.within None _ _ filled.changes idle in
    let mid = g.H.Host.state c.fill_frame.new.h in
    record {
      mid = mid;
      first = None;
      persists = filled;
      then = inr (refl, Commits-puts c.args.frames size puts c.args.batch _ mid mid _ refl (omega arith) of is (c.commit.ensures.commits t size then) idle_then);
    }

pub returns-clause-adds : goal.returns-clause-adds
returns-clause-adds g c = λ t size same s next mask adds.
    let then = same ∙ sym (ap (λ (n : Counts). n.size) c.in_ok-fill_frame.ensures.cause) in
    let a = g.H.Host.state c.args.h.now in
    let b = g.H.Host.state c.fill_frame.new.h in
    let d = g.H.Host.state c.commit.new.h in
    let apart = subst (λ (es : List Entry). IsOff mask (ByBatch DAEMON_LOG es)) (sym adds.is) adds.off.records in
    ChangesPools-added size s next c.args.frames c.args.added c.args.batch mask (fault_of c.commit.result) a b d adds c.requires.within
    (Persists-masked mask (filling c.args.frames c.args.added) None a b adds.off.frame (c.in_ok-fill_frame.ensures.fills t)) (λ settled_then moves. c.commit.ensures.moves t size then s next mask apart settled_then moves)

pub returns-clause-any : goal.returns-clause-any
returns-clause-any g c = λ t.
    Changes-then Anything _ _ (g.H.Host.state c.fill_frame.new.h) _
    (Changes-wider (written (filling c.args.frames c.args.added)) Anything None _ _ (λ k v may. tt) (c.in_ok-fill_frame.ensures.fills t).changes)
    (c.commit.ensures.any t)
