use Rattle.std.proofs.Common.{◌≡◌, true, false, sym, ◌∙◌}
use Rattle.pud_defs.proofs.Logging.Replay.{not_inside}
use Rattle.hybrid_tx.proofs.Open.OpenKept.{IsOpenOn-kept}
use Rattle.hybrid_tx.proofs.open_laws.transaction_stays_open_beside_calls.Goals as goal

pub returns : goal.returns
returns c = λ F at types more log before graph_before now deferred fault old new changes uncut defined graphs is.
    IsOpenOn-kept F at _ fault old new changes uncut (λ k v mine beside. let it : true ≡ false = sym mine ∙ beside.1 in cc) types more log before graph_before now deferred
    (λ k v inside beside. not_inside log.gate_at k beside.0 inside) defined graphs is
