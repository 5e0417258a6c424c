use Rattle.std.proofs.Common.{subst, ℕ}
use Rattle.word_transaction.specs.Running.{RecoversTo}
use Rattle.word_transaction.proofs.Images.{IsRunning-recovers}
use Rattle.hybrid_tx.specs.PoolScopes.{pool_scope, finished_of}
use Rattle.hybrid_tx.proofs.open_laws.image_picked_is_left_with_it_open.Goals as goal

pub returns : goal.returns
returns c = λ F p types log before graph_before now deferred words image at is picked records unnamed.
    record {
      unnamed = unnamed;
      records = λ k of. (records k of).each (image k) (picked.each k);
      recovers = subst (λ (n : ℕ). RecoversTo (pool_scope F (finished_of p.puddles)) n before image) at
          (IsRunning-recovers (pool_scope F (finished_of p.puddles)) log is.saving.es before image words is.saving.running picked);
    }
