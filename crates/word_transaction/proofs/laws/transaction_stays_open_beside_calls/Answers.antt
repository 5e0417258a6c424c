use Rattle.std.proofs.Common.{◌≡◌, true, false, sym, ◌∙◌}
use Rattle.pud_defs.proofs.Logging.Replay.{not_inside}
use Rattle.word_transaction.proofs.Calls.{IsRunning-kept}
use Rattle.word_transaction.proofs.laws.transaction_stays_open_beside_calls.Goals as goal

pub returns : goal.returns
returns c = λ g log es before fault old new changes running.
    IsRunning-kept g log es before _ fault old new changes (λ k v inside beside. not_inside log.gate_at k beside.0 inside) (λ k v mine beside. let it : true ≡ false = sym mine ∙ beside.1 in cc) running
