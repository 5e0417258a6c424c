use Rattle.std.proofs.Common.{◌≡◌, ℕ, ◌+◌, IfOk, subst}
use Rattle.pm_model.specs.Words.{reads}
use Rattle.pud_defs.specs.Formats.Image.{Image}
use Rattle.pud_defs.specs.Formats.Frames.{frame_at}
use Rattle.puddle_header.proofs.frame_word.Goals as goal

pub returns-clause-word : goal.returns-clause-word
returns-clause-word g c = λ t image same.
    subst (λ (i : Image). IfOk c.load_word.result (λ v. v ≡ i (frame_at c.args.frames c.args.frame + c.args.k))) same
    (subst (λ (at : ℕ). IfOk c.load_word.result (λ v. v ≡ reads (g.H.Loads.state c.args.h.now).now.words (at + c.args.k))) c.frame_at.ensures (c.load_word.ensures.value t))
