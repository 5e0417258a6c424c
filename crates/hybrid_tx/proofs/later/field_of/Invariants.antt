use Rattle.std.proofs.Common.{◌≡◌, ℕ, ◌<◌, Some}
use Rattle.std.specs.Prelude.{slice_get}
use Rattle.pud_defs.specs.declared.records.Puddle.{Puddle}
use Rattle.hybrid_tx.specs.Objects.FieldAddresses.{IsFieldAddress}
use Rattle.hybrid_tx.proofs.later.field_of.Given as goal

abbrev pub invariant-loop-ordinal : goal.invariant-loop-ordinal
invariant-loop-ordinal l = (o : ℕ) → o < l.ordinal → (e : ℕ × Puddle) (slot f : ℕ) → slice_get l.pool o ≡ Some e → IsFieldAddress e.1 l.address slot f → ⊥
