use Rattle.std.proofs.Common.{List, ℕ, sym, ap, ◌∙◌}
use Rattle.pud_defs.specs.declared.layout.TheConstants.{DAEMON_LOG}
use Rattle.pud_defs.specs.Logging.Replay.{settled_by}
use Rattle.pud_defs.specs.RegistryTables.Registry.{is_large_member}
use Rattle.soundness.specs.Tables.{puddle_by_words}
use Rattle.soundness.proofs.Tabled.{puddle_here}
use Rattle.soundness.proofs.tables.is_large_frame.Goals as goal

pub returns-clause-large : goal.returns-clause-large
returns-clause-large g c = λ t image same over.
    let words = (rw c.puddle_record_at.ensures at c.in_ok-words.ensures.words) t image same over in
    let here = puddle_here c.args.frames (settled_by DAEMON_LOG image) c.args.frame c.requires.known in
    c.is_large_member.ensures ∙ ap (λ (ws : List ℕ). is_large_member (puddle_by_words ws)) words ∙ ap is_large_member (sym here)
