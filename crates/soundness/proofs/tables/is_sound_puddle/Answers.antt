use Rattle.std.proofs.Common.{false, true, sym, ap, ◌∙◌}
use Rattle.pud_defs.specs.declared.layout.TheConstants.{DAEMON_LOG}
use Rattle.pud_defs.specs.Logging.Replay.{settled_by}
use Rattle.pud_defs.specs.RegistryTables.Tables.{tables_of}
use Rattle.pud_defs.specs.RegistryTables.SoundTables.{is_pool}
use Rattle.soundness.proofs.Tabled.{sound_free, sound_by_pool}
use Rattle.soundness.proofs.tables.is_sound_puddle.Goals as goal

pub returns-then-words-eq0-clause-sound : goal.returns-then-words-eq0-clause-sound
returns-then-words-eq0-clause-sound g c = λ t image same over F.
    sym (sound_free c.args.next (tables_of F (settled_by DAEMON_LOG image)) c.args.words.now c.if-words-eq0.true)

pub returns-then-not-branch-clause-sound : goal.returns-then-not-branch-clause-sound
returns-then-not-branch-clause-sound g c = λ t image same over F.
    let there = c.in_ok-is_pool.ensures.used t image same over F in
    sym (sound_by_pool c.args.next (tables_of F (settled_by DAEMON_LOG image)) c.args.words.now false c.if-words-eq0.false (sym c.if-not-branch.true ∙ there ∙ ap (is_pool (tables_of F (settled_by DAEMON_LOG image))) c.member_pool.ensures))

pub returns-clause-sound : goal.returns-clause-sound
returns-clause-sound g c = λ t image same over F.
    let there = c.in_ok-is_pool.ensures.used t image same over F in
    c.is_legal_puddle.ensures ∙ sym (sound_by_pool c.args.next (tables_of F (settled_by DAEMON_LOG image)) c.args.words.now true c.if-words-eq0.false (sym c.if-not-branch.false ∙ there ∙ ap (is_pool (tables_of F (settled_by DAEMON_LOG image))) c.member_pool.ensures))
