use Rattle.std.proofs.Common.{List, Some, ap, subst, ◌∙◌}
use Rattle.pud_defs.specs.Logging.Entries.{Entry}
use Rattle.batch.specs.Batches.{AreBatched}
use Rattle.pm_model.specs.Counts.{fault_of}
use Rattle.pm_model.specs.Masks.{masked_state}
use Rattle.pud_defs.specs.declared.layout.TheConstants.{DAEMON_LOG}
use Rattle.batch.proofs.Worlds.{IsFree-moves, Moves-commits}
use Rattle.batch.proofs.Masked.{IsFree-unmasked, Commits-masked}
use Rattle.batch.proofs.Batch.commit.Goals as goal

pub returns-clause-commits : goal.returns-clause-commits
returns-clause-commits g c = λ t size same free.
    let buffer = c.self.invariant in
    c.commit_by.ensures.commits t size same c.args.self (buffer.spells ∙ ap Some c.self.view_is) (subst (λ (es : List Entry). AreBatched es) c.self.view_is buffer.batched) free

pub returns-clause-moves : goal.returns-clause-moves
returns-clause-moves g c = λ t size same s next mask off settled moves.
    let es = c.args.self in
    let a = g.H.Host.state c.args.h.now in
    let b = g.H.Host.state c.commit_by.new.h in
    let buffer = c.self.invariant in
    let batched = subst (λ (es : List Entry). AreBatched es) c.self.view_is buffer.batched in
    let free = IsFree-unmasked mask DAEMON_LOG es off size a.now.words (IsFree-moves size s next es (masked_state mask a) batched settled moves) in
    Moves-commits size s next es (masked_state mask a) batched settled moves (fault_of c.commit_by.result) (masked_state mask b)
    (Commits-masked mask DAEMON_LOG es off (fault_of c.commit_by.result) a b batched free.idle (c.commit_by.ensures.commits t size same es (buffer.spells ∙ ap Some c.self.view_is) batched free))
