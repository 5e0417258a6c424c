use Rattle.hybrid_tx.proofs.Objects.Opening.{KeepsOpenOn-open}
use Rattle.hybrid_tx.proofs.laws.transaction_stays_open.Goals as goal

pub returns : goal.returns
returns c = KeepsOpenOn-open
