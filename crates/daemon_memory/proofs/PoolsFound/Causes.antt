-- Causes of a refusal, one after the other.
use Rattle.std.proofs.Common.{◌≡◌, Bool, true, false, cond, Option, Some, None, refl, sym}
use Rattle.std.specs.Option.{option_or}
use Rattle.std.proofs.lemmas.Option.{none-some}
use Rattle.pud_defs.specs.declared.machine.Refusal.{Refusal}

-- Five causes that come before others may be split off.
pub following : (r q t u v : Refusal) (a b c d e : Bool) (rest : Option Refusal)
    → cond a (Some r) (cond b (Some q) (cond c (Some t) (cond d (Some u) (cond e (Some v) rest)))) ≡ option_or (cond a (Some r) (cond b (Some q) (cond c (Some t) (cond d (Some u) (cond e (Some v) None))))) rest
following r q t u v true b c d e rest = refl
following r q t u v false true c d e rest = refl
following r q t u v false false true d e rest = refl
following r q t u v false false false true e rest = refl
following r q t u v false false false false true rest = refl
following r q t u v false false false false false rest = refl

pub unless : (b : Bool) (r : Refusal) (rest : Option Refusal) → cond b (Some r) rest ≡ None → (b ≡ false) × (rest ≡ None)
unless true r rest none = absurd (none-some r (sym none))
unless false r rest none = (refl, none)
