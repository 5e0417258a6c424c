use Rattle.std.proofs.Common.{◌≡◌, ℕ, ◌+◌, IfOk, subst}
use Rattle.pud_defs.specs.Formats.Frames.{frame_word}
use Rattle.puddle_header.proofs.slot_word.Goals as goal

pub returns-clause-word : goal.returns-clause-word
returns-clause-word g c = λ t image same.
    subst (λ (at : ℕ). IfOk c.frame_word.result (λ v. v ≡ frame_word c.args.frames c.args.slot.now.frame (at + c.args.k) image)) c.class_slot_at.ensures (c.frame_word.ensures.word t image same)
