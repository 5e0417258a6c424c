use Rattle.std.proofs.Common.{◌≡◌, Some, None, refl, sym, ap, ◌∙◌, arith}
use Rattle.std.proofs.lemmas.Result.{err_from_is_err_and}
use Rattle.pm_model.specs.Counts.{Counts}
use Rattle.pm_model.proofs.Changes.{Changes-then}
use Rattle.log_space.specs.FreeLogs.{IsLogOf}
use Rattle.pud_defs.specs.Logging.Settled.{client_of_log}
use Rattle.daemon_memory.specs.Leaving.{AfterTables}
use Rattle.daemon_memory.proofs.OpenTransactions.Leaving.{IsUndone-start, IsUndone-more, AreUndone-more, Applies-interrupted, Applies-all}
use Rattle.daemon_memory.proofs.Commands.Keeping.{KeepsRest-still, KeepsRest-then}
use Rattle.pool_transaction.proofs.TransactionLines.Undoing.{UndoesOwn-still, UndoesOwn-more}
use Rattle.pool_transaction.proofs.own.undo_of.Goals as goal

pub loop-number-init : goal.loop-number-init
loop-number-init g c =
    let from = c.from-first.ensures in
    record {
      counts = refl;
      frames = refl;
      rest = λ t. KeepsRest-still _ _ refl;
      none = record { each = λ number low high. absurd (omega arith) };
      undone = λ t size e w ready. IsUndone-start size w c.args.client c.args.memory.now (g.H.Host.state c.args.h.now) ready;
      undoes = λ t size e w ready. UndoesOwn-still w c.args.client _ _ refl;
    }

pub loop-number-preserved : goal.loop-number-preserved
loop-number-preserved g c =
    let l = c.loop-number in
    let before = l.invariant in
    let u = c.in_ok-undo.ensures in
    record {
      counts = ◌∙◌ {b = g.H.Host.counts l.h} u.cause before.counts;
      frames = u.frames ∙ before.frames;
      rest = λ t. KeepsRest-then _ _ _ (before.rest t) (u.rest t);
      none = AreUndone-more c.args.client l.number l.memory.active c.undo.new.memory.active u.active before.none;
      undone = λ t size e w ready.
          let from = c.from-first.ensures in
          let low = l.auto.number in
          let high = c.loop-number-test.true in
          let own : client_of_log l.number ≡ c.args.client = omega arith in
          let same = e ∙ sym (ap (λ (n : Counts). n.size) before.counts) in
          let so_far = before.undone t size e w ready in
          let d = u.does t size same _ (so_far.applies.ready refl) in
          IsUndone-more size w c.args.client l.number l.memory c.undo.new.memory (g.H.Host.state c.args.h.now) (g.H.Host.state l.h) (g.H.Host.state c.undo.new.h) so_far own
          d.applies d.after_tables;
      undoes = λ t size e w ready.
          let from = c.from-first.ensures in
          let low = l.auto.number in
          let high = c.loop-number-test.true in
          let same = e ∙ sym (ap (λ (n : Counts). n.size) before.counts) in
          let so_far = before.undone t size e w ready in
          let own : IsLogOf c.args.client l.number = record { low = omega arith; high = omega arith } in
          UndoesOwn-more size w c.args.client l.memory None (g.H.Host.state c.args.h.now) (g.H.Host.state l.h) (g.H.Host.state c.undo.new.h) so_far (before.undoes t size e w ready)
          ((u.does t size same _ (so_far.applies.ready refl)).undoes c.args.client own);
    }

pub returns-in_err-undo-clause-does : goal.returns-in_err-undo-clause-does
returns-in_err-undo-clause-does g c =
    let p = err_from_is_err_and c.from_residual.result c.from_residual.ensures.1 in
    rw (p.1, p.2) (λ t size e w ready.
    let l = c.loop-number in
    let from = c.from-first.ensures in
    let low = l.auto.number in
    let high = c.loop-number-test.true in
    let old = g.H.Host.state c.args.h.now in
    let mid = g.H.Host.state l.h in
    let new = g.H.Host.state c.undo.new.h in
    let fault = c.in_err-undo.field-0.0 in
    let own : IsLogOf c.args.client l.number = record { low = omega arith; high = omega arith } in
    let so_far = l.invariant.undone t size e w ready in
    let d = c.in_err-undo.ensures.does t size (e ∙ sym (ap (λ (n : Counts). n.size) l.invariant.counts)) _ (so_far.applies.ready refl) in
    record {
      applies = Applies-interrupted size w c.args.client l.number l.memory c.undo.new.memory old mid new so_far fault d.applies;
      after_tables = Changes-then (AfterTables w.stored.frames) (Some fault) old mid new so_far.after_tables d.after_tables;
      undoes = UndoesOwn-more size w c.args.client l.memory (Some fault) old mid new so_far (l.invariant.undoes t size e w ready) (d.undoes c.args.client own);
    })

pub returns-clause-does : goal.returns-clause-does
returns-clause-does g c = λ t size e w ready.
    let l = c.loop-number in
    let from = c.from-first.ensures in
    let past = c.loop-number-test.false in
    let undone = l.invariant.undone t size e w ready in
    record {
      applies = Applies-all size w c.args.client l.memory (g.H.Host.state c.args.h.now) (g.H.Host.state l.h) undone (record { each = λ number low high. l.invariant.none.each number low (omega arith) });
      after_tables = undone.after_tables;
      undoes = l.invariant.undoes t size e w ready;
    }
