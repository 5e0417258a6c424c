-- What an upgrade leaves, from what each call of the host did.
use Rattle.std.proofs.Common.{◌≡◌, ◌≢◌, ℕ, Option, Some, None, eqb, refl, subst, sym}
use Rattle.std.proofs.lemmas.Option.{none-some, cond_some}
use Rattle.pm_model.specs.declared.host.HostFault.{HostFault}
use Rattle.pm_model.specs.declared.host.HostFault.TheVariants.{Cut}
use Rattle.pm_model.specs.Words.{reads, HasOnly}
use Rattle.pm_model.specs.Moments.{State}
use Rattle.pm_model.specs.Changes.{Changes, only, written, Persists}
use Rattle.pm_model.proofs.Words.{only_at}
use Rattle.pm_model.proofs.Changes.{Changes-still, Changes-wider}
use Rattle.pud_defs.specs.declared.layout.TheConstants.{VERSION, VERSION_WORD}
use Rattle.recover.specs.Upgrading.{ByUpgrade, Upgrades}

-- a call failed
pub Upgrades-failed : (fault : HostFault) (old new : State) → Changes (ByUpgrade (reads old.now.words)) (Some fault) old new → Upgrades (Some fault) old new
Upgrades-failed fault old new changes = record { changes = changes; done = λ none. absurd (none-some fault (sym none)) }

not_cut : None ≡ Some Cut → ⊥
not_cut e = cc

-- the device has the present version already
pub Upgrades-there : (old new : State) → new ≡ old → reads old.now.words VERSION_WORD ≡ VERSION → Upgrades None old new
Upgrades-there old new same is = subst (λ (n : State). Upgrades None old n) (sym same) (record {
  changes = Changes-still (ByUpgrade (reads old.now.words)) None old old not_cut refl;
  done = λ none alone. subst (λ (v : ℕ). HasOnly (old.now.words VERSION_WORD) v) is alone;
})

by_only : (start : ℕ → ℕ) → start VERSION_WORD ≢ VERSION → (k v : ℕ) → written (only VERSION_WORD VERSION) k v → ByUpgrade start k v
by_only start other k v is = (only_at VERSION_WORD VERSION k v is, (sym (cond_some (eqb k VERSION_WORD) VERSION v is).1, other))

-- the version was written
pub Upgrades-written : (fault : Option HostFault) (a b c : State) → b ≡ a → reads a.now.words VERSION_WORD ≢ VERSION → Persists (only VERSION_WORD VERSION) fault b c → Upgrades fault a c
Upgrades-written fault a b c same other p =
    let changes : Changes (written (only VERSION_WORD VERSION)) fault a c = subst (λ (x : State). Changes (written (only VERSION_WORD VERSION)) fault x c) same p.changes in
    record {
      changes = Changes-wider (written (only VERSION_WORD VERSION)) (ByUpgrade (reads a.now.words)) fault a c (by_only (reads a.now.words) other) changes;
      done = λ none alone. p.durable none VERSION_WORD VERSION refl;
    }
