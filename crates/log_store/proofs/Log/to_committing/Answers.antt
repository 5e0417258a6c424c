use Rattle.std.proofs.Common.{sym, subst, arith}
use Rattle.pud_defs.specs.declared.log_words.TheConstants.{COMMITTING_LO, COMMITTING_HI}
use Rattle.log_store.specs.Store.{OpenLog, IsOpen}
use Rattle.log_store.proofs.Open.{IsOpen-moved}
use Rattle.log_store.proofs.Log.to_committing.Goals as goal

pub returns-clause-open : goal.returns-clause-open
returns-clause-open g c = λ t es open_log.
    let inside = subst (λ (l : OpenLog). IsOpen l es (g.H.Host.state c.args.h.now).now.words) (sym c.self.view_is) open_log in
    IsOpen-moved COMMITTING_LO COMMITTING_HI _ es _ _ (omega arith) (omega arith) inside (c.in_ok-persist_gate.ensures.persists t)
