use Rattle.std.proofs.Common.{List, ℕ, Bool, ◌≡◌, sym, ap, ◌∙◌}
use Rattle.std.proofs.lemmas.Result.{IfOk-weaker}
use Rattle.pud_defs.specs.declared.layout.TheConstants.{DAEMON_LOG}
use Rattle.pud_defs.specs.Logging.Replay.{settled_by}
use Rattle.pud_defs.specs.RegistryTables.Tables.{tables_of}
use Rattle.pud_defs.specs.RegistryTables.SoundTables.{is_sound_puddle}
use Rattle.soundness.specs.Tables.{puddle_by_words}
use Rattle.soundness.proofs.Tabled.{puddle_here}
use Rattle.pm_model.proofs.Reading.{still_reads}
use Rattle.soundness.proofs.tables.is_sound_frame.Goals as goal

pub returns-clause-sound : goal.returns-clause-sound
returns-clause-sound g c = λ t image same over.
    let tables = tables_of c.args.frames (settled_by DAEMON_LOG image) in
    let words = (rw c.puddle_record_at.ensures at c.in_ok-words.ensures.words) t image same over in
    let following = still_reads c.read_record.ensures.only_reads t same in
    let here = puddle_here c.args.frames (settled_by DAEMON_LOG image) c.args.frame c.requires.known in
    IfOk-weaker c.is_sound_puddle.result (λ (a : Bool). a ≡ is_sound_puddle c.args.next tables (puddle_by_words c.in_ok-words.words)) (λ (a : Bool). a ≡ is_sound_puddle c.args.next tables (tables.puddles c.args.frame))
    (λ a is. is ∙ ap (λ (ws : List ℕ). is_sound_puddle c.args.next tables (puddle_by_words ws)) words ∙ ap (is_sound_puddle c.args.next tables) (sym here))
    (c.is_sound_puddle.ensures.sound t image following over c.args.frames)
