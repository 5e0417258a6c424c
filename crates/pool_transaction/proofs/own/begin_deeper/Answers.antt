use Rattle.std.proofs.Common.{◌≡◌, List, Option, Some, Ok, Err, refl, sym, ap, subst, ◌∙◌}
use Rattle.pud_defs.specs.declared.machine.Command.TheVariants.{Begin}
use Rattle.pud_defs.specs.declared.machine.Refusal.{Refusal}
use Rattle.pud_defs.specs.StateMachine.Step.{after, unless_refused}
use Rattle.pud_defs.specs.StateMachine.World.{World}
use Rattle.pud_defs.proofs.StateMachine.Steps.{answer_is_ok, refused_answer, done_world}
use Rattle.nesting.specs.declared.EnterFault.TheVariants.{Deep}
use Rattle.nesting.specs.declared.Session.{Session}
use Rattle.nesting.specs.Sessions.{AreSessions}
use Rattle.daemon_memory.specs.Memory.{Memory}
use Rattle.daemon_memory.specs.OwnOnPool.{IsOwnTransactionOn}
use Rattle.daemon_memory.specs.Ready.{IsReady}
use Rattle.daemon_memory.proofs.OpenTransactions.AtDepth.{ready_begun_again}
use Rattle.pool_transaction.proofs.TransactionLines.Entering.{refused_deeper, begun_again}
use Rattle.pool_transaction.proofs.own.begin_deeper.Goals as goal
use Rattle.pool_transaction.proofs.own.begin_deeper.Goals.{in-Ok, in-Err}

pub returns-clause-reply : goal.returns-clause-reply
returns-clause-reply c = λ size w name s ready own free.
    let i = c.memory.inside in
    let view : Memory = record { frames = i.frames; active = i.opened; sessions = i.sessions; known_pools = i.known_pools } in
    let then : IsReady size w view s = subst (λ (m : Memory). IsReady size w m s) (sym c.memory.view_is) ready in
    let mine = subst (λ (m : Memory). IsOwnTransactionOn c.args.client name c.args.slot c.args.number m.active) (sym c.memory.view_is) own in
    elim c.match-enter.branch [
      | in-Ok b ↦
          let again = begun_again size w view s then c.args.client name free c.args.slot c.args.number mine (subst (λ (m : Memory). AreSessions m.sessions) (sym c.memory.view_is) c.requires.within)
          (λ most. let no : Ok tt ≡ Err Deep = sym b.in-Ok.is ∙ c.enter.ensures.deep.1 most in cc) in
          rw b.result-is (sym (answer_is_ok w (Begin c.args.client name) refl refl again))
      | in-Err b ↦
          let refused = refused_deeper size w view s then c.args.client name free c.args.slot c.args.number mine b.in-Err.fault c.enter.result b.in-Err.is c.enter.ensures.deep.0 c.enter.ensures.logs.0 in
          rw b.result-is (sym (refused_answer w (Begin c.args.client name) b.refusal_to_enter.result (refused ∙ ap (λ (r : Refusal). Some r) (sym b.refusal_to_enter.ensures))))
    ]

pub returns-clause-ready : goal.returns-clause-ready
returns-clause-ready c = λ size w name s ready own free.
    let i = c.memory.inside in
    let view : Memory = record { frames = i.frames; active = i.opened; sessions = i.sessions; known_pools = i.known_pools } in
    let then : IsReady size w view s = subst (λ (m : Memory). IsReady size w m s) (sym c.memory.view_is) ready in
    let mine = subst (λ (m : Memory). IsOwnTransactionOn c.args.client name c.args.slot c.args.number m.active) (sym c.memory.view_is) own in
    elim c.match-enter.branch [
      | in-Ok b ↦
          let again = begun_again size w view s then c.args.client name free c.args.slot c.args.number mine (subst (λ (m : Memory). AreSessions m.sessions) (sym c.memory.view_is) c.requires.within)
          (λ most. let no : Ok tt ≡ Err Deep = sym b.in-Ok.is ∙ c.enter.ensures.deep.1 most in cc) in
          subst (λ (v : World). IsReady size v (record view { sessions = c.enter.new.self }) s) (sym (done_world w (Begin c.args.client name) again))
          (subst (λ (l : List (Option Session)). IsReady size (after w (Begin c.args.client name)) (record view { sessions = l }) s) (sym b.in-Ok.ensures.entered)
          (ready_begun_again size w view s c.args.client name c.args.slot c.args.number then mine))
      | in-Err b ↦
          let refused = refused_deeper size w view s then c.args.client name free c.args.slot c.args.number mine b.in-Err.fault c.enter.result b.in-Err.is c.enter.ensures.deep.0 c.enter.ensures.logs.0 in
          subst (λ (o : Option Refusal). IsReady size (unless_refused o w (after w (Begin c.args.client name))) (record view { sessions = c.enter.new.self }) s) (sym refused)
          (subst (λ (l : List (Option Session)). IsReady size w (record view { sessions = l }) s) (sym b.in-Err.ensures.stays) then)
    ]
