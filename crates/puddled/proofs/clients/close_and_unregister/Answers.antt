use Rattle.std.proofs.Common.{[], ◌∷◌, refl, sym, ap, ◌∙◌, arith}
use Rattle.std.proofs.lemmas.Result.{err_from_is_err_and}
use Rattle.pm_model.specs.Counts.{Counts}
use Rattle.pud_defs.specs.declared.layout.TheConstants.{DAEMON_LOG}
use Rattle.pud_defs.specs.StateMachine.World.{closed}
use Rattle.batch.specs.Batches.{Commits}
use Rattle.log_space.specs.Closed.{ClosesGates}
use Rattle.log_space.specs.Records.{unregistration}
use Rattle.daemon_memory.proofs.Commands.Coming.{gates_apart, record_apart, idle_closed, gate_closed, Applies-undismissed, Applies-unregistered, ClosesBefore-closing, ClosesBefore-freed}
use Rattle.daemon_memory.proofs.Commands.Keeping.{KeepsRest-changes, KeepsRest-then}
use Rattle.daemon_memory.proofs.Commands.Acting.{Then-failed, Then-done}
use Rattle.puddled.proofs.clients.close_and_unregister.Goals as goal

pub returns-in_err-close_logs-clause-closes_first : goal.returns-in_err-close_logs-clause-closes_first
returns-in_err-close_logs-clause-closes_first g c = λ t size e w memory frames ready present.
    ClosesBefore-closing size w memory c.args.slot c.requires.known present c.args.frames _ _ _ (sym frames ∙ ready.frames) ready (c.in_err-close_logs.ensures.gates t)

pub returns-clause-closes_first : goal.returns-clause-closes_first
returns-clause-closes_first g c = λ t size e w memory frames ready present.
    let gates = c.in_ok-close_logs.ensures.gates t in
    ClosesBefore-freed size w memory c.args.slot c.requires.known present c.args.frames _ _ _ _ (sym frames ∙ ready.frames) ready gates
    (c.unregister.ensures.commits t (gate_closed size w memory c.args.frames c.args.slot _ _ ready gates))

pub returns-in_err-close_logs-clause-acts : goal.returns-in_err-close_logs-clause-acts
returns-in_err-close_logs-clause-acts g c =
    let p = err_from_is_err_and c.from_residual.result c.from_residual.ensures.1 in
    rw (p.1, p.2) (λ t idle.
    Then-failed (ClosesGates c.args.frames c.args.slot) (Commits DAEMON_LOG (unregistration c.args.slot)) c.in_err-close_logs.field-0.0 _ _ (c.in_err-close_logs.ensures.gates t))

pub returns-clause-acts : goal.returns-clause-acts
returns-clause-acts g c = λ t idle.
    let gates = c.in_ok-close_logs.ensures.gates t in
    Then-done (ClosesGates c.args.frames c.args.slot) (Commits DAEMON_LOG (unregistration c.args.slot)) _ _ _ _ gates
    (c.unregister.ensures.commits t (idle_closed c.args.frames c.args.slot _ _ idle gates))

pub returns-in_err-close_logs-clause-applies : goal.returns-in_err-close_logs-clause-applies
returns-in_err-close_logs-clause-applies g c =
    let p = err_from_is_err_and c.from_residual.result c.from_residual.ensures.1 in
    rw (p.1, p.2) (λ t size e w memory frames ready others.
    let is = sym frames ∙ ready.frames in
    Applies-undismissed size w memory c.args.slot c.requires.known others _ ready c.args.frames c.in_err-close_logs.field-0.0 _ is (c.in_err-close_logs.ensures.gates t)
    (c.in_err-close_logs.ensures.closes t size e (closed w) is ready.mask (gates_apart size w memory c.args.slot c.requires.known others _ ready c.args.frames is) ready.settled))

pub returns-clause-applies : goal.returns-clause-applies
returns-clause-applies g c = λ t size e w memory frames ready others.
    let is = sym frames ∙ ready.frames in
    let gates = c.in_ok-close_logs.ensures.gates t in
    let closes = c.in_ok-close_logs.ensures.closes t size e (closed w) is ready.mask (gates_apart size w memory c.args.slot c.requires.known others _ ready c.args.frames is) ready.settled in
    let then = e ∙ sym (ap (λ (n : Counts). n.size) c.in_ok-close_logs.ensures.cause) in
    Applies-unregistered size w memory c.args.slot c.requires.known others _ ready c.args.frames _ _ _ is gates closes
    (c.unregister.ensures.commits t (gate_closed size w memory c.args.frames c.args.slot _ _ ready gates))
    (c.unregister.ensures.unregisters t size then (closed w) ready.mask
    (record_apart size w memory c.args.slot c.requires.known others _ ready (0 ∷ []) (omega arith)) (closes.settled refl))

pub returns-in_err-close_logs-clause-rest : goal.returns-in_err-close_logs-clause-rest
returns-in_err-close_logs-clause-rest g c = λ t. KeepsRest-changes _ _ _ _ (c.in_err-close_logs.ensures.any t)

pub returns-clause-rest : goal.returns-clause-rest
returns-clause-rest g c = λ t. KeepsRest-then _ _ _ (KeepsRest-changes _ _ _ _ (c.in_ok-close_logs.ensures.any t)) (KeepsRest-changes _ _ _ _ (c.unregister.ensures.any t))
