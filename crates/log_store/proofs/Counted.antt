-- Entries that begin to count by one word: if nothing is done, if they are written, and if other words are written
-- after that.
use Rattle.std.proofs.Common.{◌≡◌, ℕ, ◌+◌, List, Option, Some, None, refl, subst, arith}
use Rattle.pm_model.specs.declared.host.HostFault.{HostFault}
use Rattle.pm_model.specs.declared.host.HostFault.TheVariants.{Cut}
use Rattle.pm_model.specs.Moments.{State}
use Rattle.pm_model.specs.Changes.{Footprint, Changes, written}
use Rattle.pm_model.proofs.Changes.{Changes-still, Changes-then, Changes-wider}
use Rattle.log_store.specs.Store.{OpenLog, words_write, ByOneGate, CountsAtOnce}
use Rattle.log_store.proofs.Appending.{gate_alone}

-- A call that did nothing.
pub counts_still : (log later : OpenLog) (fault : Option HostFault) (old new : State) → (fault ≡ Some Cut → ⊥) → new ≡ old → (fault ≡ None → later.used ≡ log.used) → CountsAtOnce log later fault old new
counts_still log later fault old new uncut same counted = record {
  count = 0;
  changes = Changes-still (ByOneGate log 0) fault old new uncut same;
  counted = λ none. (let it = counted none in omega arith);
}

-- Words were written after those that count, and then the gate that counts them.
pub counts_written : (log later : OpenLog) (count : ℕ) (ws : List ℕ) (fault : Option HostFault) (old new : State) → Changes (written (words_write log count ws)) fault old new
    → (fault ≡ None → later.used ≡ log.used + count) → CountsAtOnce log later fault old new
counts_written log later count ws fault old new changes counted =
    record { count = count; changes = Changes-wider (written (words_write log count ws)) (ByOneGate log count) fault old new (gate_alone log count ws) changes; counted = counted }

-- A call after one that did nothing.
pub counts_from : (log later : OpenLog) (fault : Option HostFault) (s b t : State) → b ≡ s → CountsAtOnce log later fault b t → CountsAtOnce log later fault s t
counts_from log later fault s b t same counts = subst (λ (x : State). CountsAtOnce log later fault x t) same counts

-- After that, words other than the gate were written.
pub counts_then : (log later : OpenLog) (may : Footprint) (fault : Option HostFault) (a b c : State) → ((k v : ℕ) → may k v → k ≡ log.gate_at → ⊥) → CountsAtOnce log later None a b
    → Changes may fault b c → CountsAtOnce log later fault a c
counts_then log later may fault a b c apart counts changes = record {
  count = counts.count;
  changes = Changes-then (ByOneGate log counts.count) fault a b c counts.changes (Changes-wider may (ByOneGate log counts.count) fault b c (λ k v is here. absurd (apart k v is here)) changes);
  counted = λ _. counts.counted refl;
}
