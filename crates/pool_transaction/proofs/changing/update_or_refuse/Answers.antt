use Rattle.std.proofs.Common.{option_map, ◌≡◌, ℕ, List, Some, None, Ok, Err, refl, sym, ap, subst, ◌∙◌, arith}
use Rattle.std.proofs.lemmas.Result.{err_from_is_err_and}
use Rattle.pm_model.proofs.Reading.{still_size}
use Rattle.pm_model.specs.Words.{reads}
use Rattle.pm_model.specs.Moments.{State}
use Rattle.pud_defs.specs.declared.machine.Reply.TheVariants as replies
use Rattle.pud_defs.specs.declared.records.Puddle.{Puddle}
use Rattle.pud_defs.specs.StateMachine.Step.{refusal_of, world_by}
use Rattle.pud_defs.proofs.StateMachine.Steps.{refused_answer}
use Rattle.lazy_rewrite.specs.Frontiers.{finished_at}
use Rattle.lazy_rewrite.proofs.Spared.{HaveMoved}
use Rattle.known_pool.specs.Known.{Known, index_entries, counted_entries}
use Rattle.registry.specs.Places.{refusal_in}
use Rattle.daemon_memory.specs.Memory.{ActiveTransaction, Memory}
use Rattle.daemon_memory.specs.ActiveTransactions.{IsActiveWithin}
use Rattle.daemon_memory.specs.Ready.{IsReady}
use Rattle.daemon_memory.proofs.Commands.Applying.{Applies-stopped, Applies-refused}
use Rattle.daemon_memory.proofs.Commands.Keeping.{KeepsRest-changes, KeepsRest-still, KeepsRest-then}
use Rattle.pool_transaction.specs.Changing.{RunsWith, with_known, command_of_update, IsUpdate}
use Rattle.pool_transaction.specs.Finishing.{FinishesFor, FinishesUnless}
use Rattle.pool_transaction.specs.Writing.{Updates}
use Rattle.pool_transaction.proofs.Lifetimes.ActiveRuns.{with_tx}
use Rattle.pool_transaction.proofs.Lifetimes.ActiveKnown.{known_so, known_on}
use Rattle.pool_transaction.proofs.PuddlesFinished.FinishedPools.{HaveMoved-finished}
use Rattle.pool_transaction.proofs.PuddlesFinished.FoundAfter.{found_within_after}
use Rattle.pool_transaction.proofs.PuddlesFinished.Leading.{finishing_failed, finishing_refused}
use Rattle.pool_transaction.specs.Premises.{DoesUpdate}
use Rattle.pool_transaction.proofs.Updates.UpdateLines.{line_unfinished, line_made}
use Rattle.pool_transaction.proofs.WordsWritten.OpenLogs.{does_refused, does_unread}
use Rattle.pool_transaction.proofs.changing.update_or_refuse.Goals as goal

pub returns-in_err-found-clause-does : goal.returns-in_err-found-clause-does
returns-in_err-found-clause-does g c =
    let p = err_from_is_err_and c.from_residual.result c.from_residual.ensures.1 in
    rw (p.1, p.2) (λ t size w memory runs.
    let active = c.args.opened.now in
    let k = c.in_err-found.ensures.only_reads in
    record {
      reply = tt;
      applies = finishing_failed active.slot (FinishesUnless (refusal_of w (command_of_update c.args.update active.client active.name)) (FinishesFor c.args.frames c.args.pool.now.puddles (reads (g.H.Host.state c.args.h.now).now.words) c.args.update)) size w _ _ _ _ _ k.never_cut
          (Applies-stopped size w (world_by w (Some (command_of_update c.args.update active.client active.name))) memory (with_known active.log_number active.slot active c.args.pool.now memory) c.in_err-found.field-0.0 _ _
          runs.ready (k.stays t) (λ cut. absurd (k.never_cut cut)));
      writes = does_unread (Updates c.args.frames active.client c.args.update c.args.pool.now.puddles) (refusal_of w (command_of_update c.args.update active.client active.name)) c.in_err-found.field-0.0 k.never_cut (k.stays t);
    })

-- ---- the line is refused

pub returns-in-Err-clause-does : goal.returns-in-Err-clause-does
returns-in-Err-clause-does g c = λ t size w memory runs.
    let active = c.args.opened.now in
    let line = command_of_update c.args.update active.client active.name in
    let why = c.in-Err.refusal in
    let refused = sym (c.in_ok-found.ensures.refusal t size w memory runs.its runs.ready) ∙ ap refusal_in c.in-Err.is in
    let still = c.in_ok-found.ensures.only_reads.stays t in
    record {
      reply = sym (refused_answer w line why refused);
      applies = finishing_refused active.slot (FinishesFor c.args.frames c.args.pool.now.puddles (reads (g.H.Host.state c.args.h.now).now.words) c.args.update) (refusal_of w line) why refused size w _ _ _ _ _
          (Applies-refused size w (with_known active.log_number active.slot active c.args.pool.now memory) line why _ _
          (subst (λ (m : Memory). IsReady size w m (g.H.Host.state c.args.h.now)) (sym (known_on c.args.frames active c.args.pool.now memory runs.its)) runs.ready) refused still);
      writes = does_refused (Updates c.args.frames active.client c.args.update c.args.pool.now.puddles) (refusal_of w line) why None refused still;
    }

-- ---- what the daemon knows about the pool follows the update

pub follow-requires-clause-within : goal.follow-requires-clause-within
follow-requires-clause-within g c = rw c.in-Ok.is at c.in_ok-found.ensures.within

pub returns-in_err-follow-clause-does : goal.returns-in_err-follow-clause-does
returns-in_err-follow-clause-does g c =
    let p = err_from_is_err_and c.from_residual-in_err-follow.result c.from_residual-in_err-follow.ensures.1 in
    rw (p.1, p.2) (λ t size w memory runs.
    let active = c.args.opened.now in
    let k = c.in_err-follow.ensures.only_reads in
    record {
      reply = tt;
      applies = finishing_failed active.slot (FinishesUnless (refusal_of w (command_of_update c.args.update active.client active.name)) (FinishesFor c.args.frames c.args.pool.now.puddles (reads (g.H.Host.state c.args.h.now).now.words) c.args.update)) size w _ _ _ _ _ k.never_cut
          (Applies-stopped size w (world_by w (Some (command_of_update c.args.update active.client active.name))) memory (with_known active.log_number active.slot active c.follow.new.pool memory) c.in_err-follow.field-0.0 _ _
          runs.ready (k.stays t ∙ c.in_ok-found.ensures.only_reads.stays t) (λ cut. absurd (k.never_cut cut)));
      writes = does_unread (Updates c.args.frames active.client c.args.update c.args.pool.now.puddles) (refusal_of w (command_of_update c.args.update active.client active.name)) c.in_err-follow.field-0.0 k.never_cut (k.stays t ∙ c.in_ok-found.ensures.only_reads.stays t);
    })

-- ---- its puddle is not rewritten to its end

pub returns-in_err-finish-clause-does : goal.returns-in_err-finish-clause-does
returns-in_err-finish-clause-does g c =
    let p = err_from_is_err_and c.from_residual-in_err-finish.result c.from_residual-in_err-finish.ensures.1 in
    rw (p.1, p.2) (λ t size w memory runs.
    let active = c.args.opened.now in
    let known = c.args.pool.now in
    let F = c.args.frames in
    let old = g.H.Host.state c.args.h.now in
    let k = c.in_ok-found.ensures in
    let f = c.in_ok-follow.ensures in
    let u : IsUpdate F active known w (reads old.now.words) c.args.update c.in-Ok.found = rw c.in-Ok.is at (k.update t size w memory runs.its runs.ready) in
    let puddles : c.pool.inside.puddles ≡ known.puddles = ap (λ (x : Known). x.puddles) c.pool.view_is ∙ f.puddles in
    let still : g.H.Host.state c.follow.new.h ≡ old = f.only_reads.stays t ∙ k.only_reads.stays t in
    let same = still_size f.only_reads (still_size k.only_reads runs.words_are) in
    let left : Known = record { puddles = c.finish.new.pool; index = counted_entries c.pool.inside.counted c.pool.inside.index; placed = option_map index_entries c.pool.inside.index; full_below = c.pool.inside.full_below } in
    line_unfinished F (g.H.Host.counts c.args.h.now).size active known size w memory old runs c.args.update c.in-Ok.found u c.ordinal_written.result c.ordinal_written.ensures c.pool.inside.puddles c.finish.new.pool puddles _ (g.H.Host.state c.finish.new.h) still
    active left c.in_err-finish.field-0.0 (c.in_err-finish.ensures.rewrites t size same))

-- ---- the update is made

pub carry_out-done-requires-clause-within : goal.carry_out-done-requires-clause-within
carry_out-done-requires-clause-within g c =
    let puddles : c.pool.inside.puddles ≡ c.args.pool.now.puddles = ap (λ (x : Known). x.puddles) c.pool.view_is ∙ c.in_ok-follow.ensures.puddles in
    found_within_after c.args.pool.now.puddles c.as_slice.result.now c.in-Ok.found
    (subst (λ (later : List (ℕ × Puddle)). HaveMoved c.args.pool.now.puddles later) (sym (c.as_slice.ensures.puddles ∙ c.in_ok-finish.ensures.pool ∙ ap (finished_at c.ordinal_written.result) puddles)) (HaveMoved-finished c.args.pool.now.puddles c.ordinal_written.result))
    (rw c.in-Ok.is at c.in_ok-found.ensures.within)

pub returns-in_err-done-clause-does : goal.returns-in_err-done-clause-does
returns-in_err-done-clause-does g c =
    let p = err_from_is_err_and c.from_residual-in_err-done.result c.from_residual-in_err-done.ensures.1 in
    rw (p.1, p.2) (λ t size w memory runs.
    let active = c.args.opened.now in
    let known = c.args.pool.now in
    let F = c.args.frames in
    let old = g.H.Host.state c.args.h.now in
    let k = c.in_ok-found.ensures in
    let f = c.in_ok-follow.ensures in
    let u : IsUpdate F active known w (reads old.now.words) c.args.update c.in-Ok.found = rw c.in-Ok.is at (k.update t size w memory runs.its runs.ready) in
    let puddles : c.pool.inside.puddles ≡ known.puddles = ap (λ (x : Known). x.puddles) c.pool.view_is ∙ f.puddles in
    let still : g.H.Host.state c.follow.new.h ≡ old = f.only_reads.stays t ∙ k.only_reads.stays t in
    let same = still_size f.only_reads (still_size k.only_reads runs.words_are) in
    let left : Known = record { puddles = c.finish.new.pool; index = counted_entries c.pool.inside.counted c.pool.inside.index; placed = option_map index_entries c.pool.inside.index; full_below = c.pool.inside.full_below } in
    let i = c.opened.inside in
    let mine : ActiveTransaction = record { client = i.client; name = i.name; slot = i.slot; log_number = i.log_number; tx = i.tx } in
    let new = g.H.Host.state c.carry_out-done.new.h in
    let n = c.in_err-done.ensures in
    subst (λ (h : ActiveTransaction). RunsWith F (g.H.Host.counts c.args.h.now).size h known size w memory old → IsUpdate F h known w (reads old.now.words) c.args.update c.in-Ok.found
    → DoesUpdate F h (with_tx c.carry_out-done.new.tx mine) known left c.args.update size w memory (Err c.in_err-done.field-0.0) old new)
    c.opened.view_is
    (λ mine_runs u.
    line_made F (g.H.Host.counts c.args.h.now).size mine known size w memory old mine_runs c.args.update c.in-Ok.found u c.ordinal_written.result c.ordinal_written.ensures c.pool.inside.puddles c.finish.new.pool puddles _ (g.H.Host.state c.finish.new.h) still
    c.in_ok-finish.ensures.pool (c.in_ok-finish.ensures.rewrites t size same) c.as_slice.result.now c.as_slice.ensures.puddles new c.follow.new.pool _ c.pool.view_is
    (f.follows t (reads old.now.words) (ap (λ (s : State). reads s.now.words) (k.only_reads.stays t)) c.args.update u.g u.stored (known_so F active known memory runs.its size w old runs.ready) u.by u.read) c.carry_out-done.new.tx n.at (Err c.in_err-done.field-0.0) (n.runs t) (n.counts t) (n.serials t) (n.puts t) (Err c.in_err-done.field-0.0) refl tt)
    runs u)

pub returns-clause-does : goal.returns-clause-does
returns-clause-does g c = λ t size w memory runs.
    let active = c.args.opened.now in
    let known = c.args.pool.now in
    let F = c.args.frames in
    let old = g.H.Host.state c.args.h.now in
    let k = c.in_ok-found.ensures in
    let f = c.in_ok-follow.ensures in
    let u : IsUpdate F active known w (reads old.now.words) c.args.update c.in-Ok.found = rw c.in-Ok.is at (k.update t size w memory runs.its runs.ready) in
    let puddles : c.pool.inside.puddles ≡ known.puddles = ap (λ (x : Known). x.puddles) c.pool.view_is ∙ f.puddles in
    let still : g.H.Host.state c.follow.new.h ≡ old = f.only_reads.stays t ∙ k.only_reads.stays t in
    let same = still_size f.only_reads (still_size k.only_reads runs.words_are) in
    let left : Known = record { puddles = c.finish.new.pool; index = counted_entries c.pool.inside.counted c.pool.inside.index; placed = option_map index_entries c.pool.inside.index; full_below = c.pool.inside.full_below } in
    let i = c.opened.inside in
    let mine : ActiveTransaction = record { client = i.client; name = i.name; slot = i.slot; log_number = i.log_number; tx = i.tx } in
    let new = g.H.Host.state c.carry_out-done.new.h in
    let n = c.in_ok-done.ensures in
    subst (λ (h : ActiveTransaction). RunsWith F (g.H.Host.counts c.args.h.now).size h known size w memory old → IsUpdate F h known w (reads old.now.words) c.args.update c.in-Ok.found
    → DoesUpdate F h (with_tx c.carry_out-done.new.tx mine) known left c.args.update size w memory (Ok replies.Ok) old new)
    c.opened.view_is
    (λ mine_runs u.
    line_made F (g.H.Host.counts c.args.h.now).size mine known size w memory old mine_runs c.args.update c.in-Ok.found u c.ordinal_written.result c.ordinal_written.ensures c.pool.inside.puddles c.finish.new.pool puddles _ (g.H.Host.state c.finish.new.h) still
    c.in_ok-finish.ensures.pool (c.in_ok-finish.ensures.rewrites t size same) c.as_slice.result.now c.as_slice.ensures.puddles new c.follow.new.pool _ c.pool.view_is
    (f.follows t (reads old.now.words) (ap (λ (s : State). reads s.now.words) (k.only_reads.stays t)) c.args.update u.g u.stored (known_so F active known memory runs.its size w old runs.ready) u.by u.read) c.carry_out-done.new.tx n.at (Ok c.in_ok-done.field-0) (n.runs t) (n.counts t) (n.serials t) (n.puts t) (Ok replies.Ok) refl refl)
    runs u

pub returns-clause-within : goal.returns-clause-within
returns-clause-within g c =
    let was = subst (IsActiveWithin c.args.frames) (sym c.opened.view_is) c.requires.within in
    let counted = c.units-units.ensures.units in
    let few = c.units-units.ensures.within in
    record {
      slot = was.slot;
      client = was.client;
      number = was.number;
      gate = c.carry_out-done.ensures.at ∙ was.gate;
      units = omega (arith, counted, few);
    }

pub returns-in_err-finish-clause-rest : goal.returns-in_err-finish-clause-rest
returns-in_err-finish-clause-rest g c = λ t. KeepsRest-then _ _ _ (KeepsRest-still _ _ (c.in_ok-follow.ensures.only_reads.stays t ∙ c.in_ok-found.ensures.only_reads.stays t)) (KeepsRest-changes _ _ _ _ (c.in_err-finish.ensures.any t))

pub returns-in_err-done-clause-rest : goal.returns-in_err-done-clause-rest
returns-in_err-done-clause-rest g c = λ t.
    KeepsRest-then _ _ _ (KeepsRest-still _ _ (c.in_ok-follow.ensures.only_reads.stays t ∙ c.in_ok-found.ensures.only_reads.stays t)) (KeepsRest-then _ _ _ (KeepsRest-changes _ _ _ _ (c.in_ok-finish.ensures.any t)) (KeepsRest-changes _ _ _ _ (c.in_err-done.ensures.changes t)))

pub returns-clause-rest : goal.returns-clause-rest
returns-clause-rest g c = λ t.
    KeepsRest-then _ _ _ (KeepsRest-still _ _ (c.in_ok-follow.ensures.only_reads.stays t ∙ c.in_ok-found.ensures.only_reads.stays t)) (KeepsRest-then _ _ _ (KeepsRest-changes _ _ _ _ (c.in_ok-finish.ensures.any t)) (KeepsRest-changes _ _ _ _ (c.in_ok-done.ensures.changes t)))
