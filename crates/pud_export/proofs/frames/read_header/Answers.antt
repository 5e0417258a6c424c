use Rattle.std.proofs.Common.{◌∙◌}
use Rattle.pud_export.proofs.FramesRead.{header-other}
use Rattle.pud_export.proofs.frames.read_header.Goals as goal

pub returns-clause-words : goal.returns-clause-words
returns-clause-words g c = λ t low image same. c.header_of.ensures ∙ header-other c.args.frames c.args.pool.now image c.args.ordinal _ c.requires.within c.if-ordinal-eq0.false
