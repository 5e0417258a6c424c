use Rattle.std.proofs.Common.{inl}
use Rattle.pm_model.specs.Counts.{fault_of}
use Rattle.pm_model.proofs.Changes.{Changes-wider}
use Rattle.log_store.specs.Store.{InLog}
use Rattle.word_transaction.specs.Running.{ByTransaction}
use Rattle.hybrid_tx.specs.PoolScopes.{pool_scope}
use Rattle.pool_transaction.proofs.Updates.UpdatesRun.{field_set, field_later, object_freed}
use Rattle.pool_transaction.proofs.Updates.SerialsSpared.{serials_beside, serials_put, serials_rooted, serials_freed}
use Rattle.pool_transaction.proofs.WordsWritten.UpdatesWritten.{field_deferred, field_put, root_put}
use Rattle.pool_transaction.proofs.changing.carry_out.Goals as goal

pub returns-then-later-clause-changes : goal.returns-then-later-clause-changes
returns-then-later-clause-changes g c = λ t. Changes-wider (InLog c.args.tx.now.log.gate_at) (ByTransaction (pool_scope c.args.frames c.args.pool.now) c.args.tx.now.log.gate_at) _ _ _ (λ k v inside. inl inside) (c.later_at.ensures.changes t)

pub returns-then-later-clause-serials : goal.returns-then-later-clause-serials
returns-then-later-clause-serials g c = rw c.in-Field.is (λ t none placed.
    serials_beside c.args.frames c.args.pool.now (g.H.Host.state c.args.h.now) (g.H.Host.state c.later_at.new.h) c.args.tx.now.log.gate_at c.requires.place (fault_of c.later_at.result) none (c.later_at.ensures.changes t))

pub returns-else-later-clause-serials : goal.returns-else-later-clause-serials
returns-else-later-clause-serials g c = rw c.in-Field.is (λ t none placed.
    let within = rw c.in-Field.is at c.requires.within in
    serials_put c.args.frames c.args.pool.now (g.H.Host.state c.args.h.now) (g.H.Host.state c.set_at.new.h) c.args.tx.now.log.gate_at c.requires.place c.in-Field.at within.0 placed.frames c.in-Field.f c.in-Field.word within.1
    (fault_of c.set_at.result) none (c.set_at.ensures.puts t))

pub returns-in-Root-clause-serials : goal.returns-in-Root-clause-serials
returns-in-Root-clause-serials g c = rw c.in-Root.is (λ t none placed.
    serials_rooted c.args.frames c.args.pool.now (g.H.Host.state c.args.h.now) (g.H.Host.state c.root_at.new.h) c.args.tx.now.log.gate_at c.requires.place c.in-Root.word (fault_of c.root_at.result) none
    (c.root_at.ensures.puts t) (λ empty. (c.root_at.ensures.nothing empty).0))

pub returns-in-Object-clause-serials : goal.returns-in-Object-clause-serials
returns-in-Object-clause-serials g c = rw c.in-Object.is (λ t none placed.
    let within = rw c.in-Object.is at c.requires.within in
    serials_freed c.args.frames c.args.pool.now (g.H.Host.state c.args.h.now) (g.H.Host.state c.free_at.new.h) c.args.tx.now.log.gate_at c.requires.place c.in-Object.at within placed.frames (fault_of c.free_at.result) none
    (c.free_at.ensures.puts t) (c.free_at.ensures.frees t none))

pub returns-then-later-clause-puts : goal.returns-then-later-clause-puts
returns-then-later-clause-puts g c = rw c.in-Field.is (λ t.
    field_deferred c.args.frames c.args.tx.now.log.gate_at (fault_of c.later_at.result) (g.H.Host.state c.args.h.now) (g.H.Host.state c.later_at.new.h) c.in-Field.at c.in-Field.f c.in-Field.word c.in-Field.later c.if-later.true
    (c.later_at.ensures.changes t))

pub returns-else-later-clause-puts : goal.returns-else-later-clause-puts
returns-else-later-clause-puts g c = rw c.in-Field.is (λ t.
    field_put c.args.frames c.args.tx.now.log.gate_at (fault_of c.set_at.result) (g.H.Host.state c.args.h.now) (g.H.Host.state c.set_at.new.h) c.in-Field.at c.in-Field.f c.in-Field.word c.in-Field.later c.if-later.false (c.set_at.ensures.puts t))

pub returns-in-Root-clause-puts : goal.returns-in-Root-clause-puts
returns-in-Root-clause-puts g c = rw c.in-Root.is (λ t.
    root_put c.args.frames c.args.tx.now.log.gate_at (fault_of c.root_at.result) (g.H.Host.state c.args.h.now) (g.H.Host.state c.root_at.new.h) c.args.pool.now c.in-Root.word (c.root_at.ensures.changes t) (c.root_at.ensures.puts t))

pub returns-in-Object-clause-puts : goal.returns-in-Object-clause-puts
returns-in-Object-clause-puts g c = rw c.in-Object.is (λ t. c.free_at.ensures.puts t)

-- ---- the transaction stays open with the update

pub returns-then-later-clause-runs : goal.returns-then-later-clause-runs
returns-then-later-clause-runs g c = rw c.in-Field.is (λ t types before graph_before tx update placed finished running may by.
    let within = rw c.in-Field.is at c.requires.within in
    field_later c.args.frames c.args.pool.now c.in-Field.at within.0 c.args.tx.now.log c.later_at.new.self.log (fault_of c.later_at.result) (g.H.Host.state c.args.h.now) (g.H.Host.state c.later_at.new.h) types before graph_before tx update
    placed finished running may c.in-Field.f c.in-Field.word c.in-Field.later c.if-later.true by (c.later_at.ensures.runs t))

pub returns-else-later-clause-runs : goal.returns-else-later-clause-runs
returns-else-later-clause-runs g c = rw c.in-Field.is (λ t types before graph_before tx update placed finished running may by.
    let within = rw c.in-Field.is at c.requires.within in
    field_set c.args.frames c.args.pool.now c.in-Field.at within.0 c.args.tx.now.log c.set_at.new.self.log (fault_of c.set_at.result) (g.H.Host.state c.args.h.now) (g.H.Host.state c.set_at.new.h) types before graph_before tx update
    placed finished running may c.in-Field.f c.in-Field.word c.in-Field.later c.if-later.false by (c.set_at.ensures.runs t))

pub returns-in-Object-clause-runs : goal.returns-in-Object-clause-runs
returns-in-Object-clause-runs g c = rw c.in-Object.is (λ t types before graph_before tx update placed finished running may by.
    let within = rw c.in-Object.is at c.requires.within in
    object_freed c.args.frames c.args.pool.now c.in-Object.at within c.args.tx.now.log c.free_at.new.self.log (fault_of c.free_at.result) (g.H.Host.state c.args.h.now) (g.H.Host.state c.free_at.new.h) types before graph_before tx update
    placed finished running may by (c.free_at.ensures.runs t))
