-- What is kept about a serial after a retarget.
use Rattle.std.proofs.Common.{◌≡◌, ℕ, Option, Some, None, IfSome, sym, subst, arith}
use Rattle.graph_read.specs.declared.index.Kept.{Kept}
use Rattle.graph_read.specs.Index.{HasRoom, MayBeReferenced, after_release}

-- After one reference fewer, one more reference can be counted.
room_kept : (from to : ℕ) (old : Option Kept) → MayBeReferenced old → IfSome (after_release from to old) HasRoom
room_kept from to None none = absurd none
room_kept from to (Some k) room = omega arith

pub room_after : (from to : ℕ) (old new : Option Kept) → new ≡ after_release from to old → MayBeReferenced old → IfSome new HasRoom
room_after from to old new is room = subst (λ (o : Option Kept). IfSome o HasRoom) (sym is) (room_kept from to old room)
