use Rattle.std.proofs.Common.{List, ℕ, sym, ap, ◌∙◌}
use Rattle.pud_defs.specs.declared.layout.TheConstants.{DAEMON_LOG}
use Rattle.pud_defs.specs.Logging.Replay.{settled_by}
use Rattle.pud_defs.specs.RegistryTables.SoundTables.{is_sound_pool}
use Rattle.soundness.specs.Tables.{pool_by_words}
use Rattle.soundness.proofs.Tabled.{pool_here}
use Rattle.soundness.proofs.tables.is_sound_slot.Goals as goal

pub returns-clause-sound : goal.returns-clause-sound
returns-clause-sound g c = λ t image same over F.
    let words = (rw c.pool_record_at.ensures at c.in_ok-words.ensures.words) t image same over in
    c.is_sound_pool.ensures ∙ ap (λ (ws : List ℕ). is_sound_pool c.args.next (pool_by_words ws)) words
    ∙ ap (is_sound_pool c.args.next) (sym (pool_here F (settled_by DAEMON_LOG image) c.args.slot c.requires.known))
