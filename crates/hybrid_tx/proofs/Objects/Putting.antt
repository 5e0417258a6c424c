-- Which words get values when words are saved and then written.
use Rattle.std.proofs.Common.{◌≡◌, inl, inr, ℕ, ◌<◌, List, [], ◌∷◌, Option, None, arith}
use Rattle.pm_model.specs.declared.host.HostFault.{HostFault}
use Rattle.pm_model.specs.Moments.{State}
use Rattle.pm_model.specs.Changes.{Changes, Writes, placed, written}
use Rattle.pm_model.proofs.Changes.{Changes-then, Changes-wider}
use Rattle.pm_persist.proofs.Ranges.{placed_within}
use Rattle.log_store.specs.Store.{InLog}
use Rattle.hybrid_tx.specs.Objects.Stores.{ByPut, ByPutBoth}

module _ (at first : ℕ) (vals : List ℕ) where
  pub ByPut-saved : (fault : Option HostFault) (a b : State) → Changes (InLog at) fault a b → Changes (ByPut at first vals) fault a b
  ByPut-saved fault a b c = Changes-wider (InLog at) (ByPut at first vals) fault a b (λ k v may. inl may) c

  pub ByPut-written : (fault : Option HostFault) (a b c : State) → Changes (InLog at) None a b → Writes (placed first vals) fault b c → Changes (ByPut at first vals) fault a c
  ByPut-written fault a b c p q =
      Changes-then (ByPut at first vals) fault a b c (ByPut-saved None a b p)
      (Changes-wider (written (placed first vals)) (ByPut at first vals) fault b c (λ k v may. inr may) q.changes)

  module _ (second value : ℕ) where
    pub ByPutBoth-saved : (fault : Option HostFault) (a b : State) → Changes (InLog at) fault a b → Changes (ByPutBoth at first vals second value) fault a b
    ByPutBoth-saved fault a b c = Changes-wider (InLog at) (ByPutBoth at first vals second value) fault a b (λ k v may. inl may) c

    pub ByPutBoth-half : (fault : Option HostFault) (a b c : State) → Changes (InLog at) None a b → Writes (placed first vals) fault b c → Changes (ByPutBoth at first vals second value) fault a c
    ByPutBoth-half fault a b c p q =
        Changes-then (ByPutBoth at first vals second value) fault a b c (ByPutBoth-saved None a b p)
        (Changes-wider (written (placed first vals)) (ByPutBoth at first vals second value) fault b c (λ k v may. inr (inl may)) q.changes)

    pub ByPutBoth-written : (fault : Option HostFault) (a b c d : State) → Changes (InLog at) None a b → Writes (placed first vals) None b c → Writes (placed second (value ∷ [])) fault c d
        → Changes (ByPutBoth at first vals second value) fault a d
    ByPutBoth-written fault a b c d p q r =
        Changes-then (ByPutBoth at first vals second value) fault a c d (ByPutBoth-half None a b c p q)
        (Changes-wider (written (placed second (value ∷ []))) (ByPutBoth at first vals second value) fault c d (λ k v may. inr (inr may)) r.changes)

-- if the written words come after a gate, none of them is the gate
pub beyond_gate : (gate first : ℕ) (vals : List ℕ) → gate < first → (k v : ℕ) → written (placed first vals) k v → k ≡ gate → ⊥
beyond_gate gate first vals low k v is here = let within = placed_within first k v vals is in absurd (omega (arith, low, within.0, here))
