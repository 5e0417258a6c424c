use Rattle.std.proofs.Common.{ℕ, ◌≡◌, length, subst, rules}
use Rattle.pm_model.specs.Changes.{placed, Persists}
use Rattle.pm_model.specs.Counts.{fault_of}
use Rattle.pud_defs.specs.declared.layout.TheConstants.{FRAME_WORDS}
use Rattle.pud_import.specs.Contents.{stored_held}
use Rattle.pud_import.specs.Filling.{filled_value}
use Rattle.pud_import.proofs.FilesPlaced.FilledFrames.{FillsFrame-persisted}
use Rattle.pud_import.proofs.filling.fill_frame.Goals as goal

pub returns-clause-fills : goal.returns-clause-fills
returns-clause-fills g c = λ t.
    let words = c.filled_words-words.result in
    let old = g.H.Host.state c.args.h.now in
    let new = g.H.Host.state c.persist_range.new.h in
    let fault = fault_of c.persist_range.result in
    let whole : length words ≡ FRAME_WORDS = search rules in
    FillsFrame-persisted c.args.frames c.args.added.frame words (filled_value (stored_held c.args.view.now) c.args.ordinal c.args.added.puddle.number) fault old new whole c.filled_words-words.ensures
    (subst (λ (w : ℕ). Persists (placed w words) fault old new) c.frame_at.ensures (c.persist_range.ensures.persists t))
