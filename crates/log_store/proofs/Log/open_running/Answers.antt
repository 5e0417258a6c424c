use Rattle.log_store.proofs.Open.{IsOpen-running}
use Rattle.log_store.proofs.Log.open_running.Goals as goal

pub returns-clause-open : goal.returns-clause-open
returns-clause-open g c = λ t. IsOpen-running c.args.at _ _ (c.in_ok-persist_word.ensures.persists t)
