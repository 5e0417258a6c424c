-- What keeps the rest: nothing is printed, and the bytes left to read and the shelf stay as they were.
use Rattle.std.proofs.Common.{◌≡◌, Option, ap, ◌∙◌}
use Rattle.pm_model.specs.declared.host.HostFault.{HostFault}
use Rattle.pm_model.specs.Moments.{State}
use Rattle.pm_model.specs.Changes.{Footprint, Changes}
use Rattle.pm_model.proofs.Changes.{Changes-said}
use Rattle.daemon_memory.specs.Ready.{KeepsRest}

pub KeepsRest-changes : (may : Footprint) (fault : Option HostFault) (old new : State) → Changes may fault old new → KeepsRest old new
KeepsRest-changes may fault old new changes = record { quiet = Changes-said may fault old new changes; script = changes.script; shelf = changes.shelf }

-- Nothing happened.
pub KeepsRest-still : (old new : State) → new ≡ old → KeepsRest old new
KeepsRest-still old new same = record { quiet = ap (λ (s : State). s.now.said) same; script = ap (λ (s : State). s.script) same; shelf = ap (λ (s : State). s.shelf) same }

pub KeepsRest-then : (a b c : State) → KeepsRest a b → KeepsRest b c → KeepsRest a c
KeepsRest-then a b c p q = record { quiet = q.quiet ∙ p.quiet; script = q.script ∙ p.script; shelf = q.shelf ∙ p.shelf }
