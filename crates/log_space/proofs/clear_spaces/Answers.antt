use Rattle.std.proofs.Common.{List, refl, subst}
use Rattle.pm_model.specs.Counts.{fault_of}
use Rattle.pud_defs.specs.declared.layout.TheConstants.{DAEMON_LOG}
use Rattle.pud_defs.specs.Logging.Entries.{Entry}
use Rattle.pm_model.specs.Masks.{no_mask, masked_state}
use Rattle.pm_model.proofs.Masks.{IsOff-no_mask}
use Rattle.pud_defs.specs.declared.layout.TheConstants.{CLIENTS}
use Rattle.batch.specs.Batches.{IsFree, ByBatch, Commits}
use Rattle.batch.proofs.Masked.{unmasked_moves}
use Rattle.log_space.specs.Clearing.{clearing}
use Rattle.batch.specs.Worlds.{MovesBy, Moves}
use Rattle.log_space.proofs.Apart.{IsFree-clearing}
use Rattle.log_space.proofs.Cleared.{Empties-commits, MovesBy-clearing, Clears-moves}
use Rattle.log_space.proofs.clear_spaces.Goals as goal

pub returns-clause-empties : goal.returns-clause-empties
returns-clause-empties g c = λ t idle.
    let a = g.H.Host.state c.args.h.now in
    let b = g.H.Host.state c.commit.new.h in
    let fault = fault_of c.commit.result in
    let size = (g.H.Host.counts c.args.h.now).size in
    Empties-commits fault a b
    (subst (λ (es : List Entry). IsFree size DAEMON_LOG es a.now.words → Commits DAEMON_LOG es fault a b) c.clearing.ensures (c.commit.ensures.commits t size refl) (IsFree-clearing size c.requires a.now.words idle))

pub returns-clause-clears : goal.returns-clause-clears
returns-clause-clears g c = λ t size same s settled.
    let a = g.H.Host.state c.args.h.now in
    let b = g.H.Host.state c.commit.new.h in
    let fault = fault_of c.commit.result in
    Clears-moves size s fault a b
    (unmasked_moves size s s (clearing CLIENTS) fault a b
    (subst (λ (es : List Entry). MovesBy size s s es a.now.words → Moves size s s es fault (masked_state no_mask a) (masked_state no_mask b)) c.clearing.ensures
    (c.commit.ensures.moves t size same s s no_mask (IsOff-no_mask (ByBatch DAEMON_LOG c.clearing.result)) settled) (MovesBy-clearing size s a.now.words settled)))
