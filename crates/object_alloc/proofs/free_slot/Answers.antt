use Rattle.std.proofs.Common.{◌≡◌, ℕ, ◌+◌, [], ◌∷◌, ap, subst, ◌∙◌, arith}
use Rattle.pm_model.specs.Counts.{fault_of}
use Rattle.pm_model.specs.Changes.{Write, placed, Writes}
use Rattle.object_alloc.specs.Alloc.{serial_word_at}
use Rattle.object_alloc.proofs.Freed.{placed-single}
use Rattle.object_alloc.proofs.free_slot.Goals as goal

pub returns-clause-writes : goal.returns-clause-writes
returns-clause-writes g c = λ t.
    let at : c.frame_at.result + c.slot_begins.result + 0 ≡ serial_word_at c.args.frames c.args.slot = omega (arith, c.frame_at.ensures, c.slot_begins.ensures) in
    subst (λ (write : Write). Writes write (fault_of c.write_range.result) (g.H.Host.state c.args.h.now) (g.H.Host.state c.write_range.new.h))
    (ap (λ (w : ℕ). placed w (0 ∷ [])) at ∙ placed-single (serial_word_at c.args.frames c.args.slot) 0)
    (c.write_range.ensures.writes t)
