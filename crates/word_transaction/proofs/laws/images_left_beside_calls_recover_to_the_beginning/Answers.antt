use Rattle.std.proofs.Common.{◌≡◌, true, false, sym, ◌∙◌}
use Rattle.pud_defs.proofs.Logging.Replay.{not_inside}
use Rattle.word_transaction.proofs.Growing.{settles_beside}
use Rattle.word_transaction.proofs.laws.images_left_beside_calls_recover_to_the_beginning.Goals as goal

pub returns : goal.returns
returns c = λ g log es before fault old new changes running.
    settles_beside g log es before _ fault old new changes (λ k v inside beside. not_inside log.gate_at k beside.0 inside) (λ k v mine beside. let it : true ≡ false = sym mine ∙ beside.1 in cc) running
