use Rattle.std.proofs.Common.{◌∙◌}
use Rattle.pud_defs.specs.declared.layout.TheConstants.{DAEMON_LOG}
use Rattle.pud_defs.specs.Logging.Replay.{settled_by}
use Rattle.soundness.proofs.NamesApart.{distinct_names}
use Rattle.soundness.proofs.names.has_distinct_names.Goals as goal

pub returns-clause-distinct : goal.returns-clause-distinct
returns-clause-distinct g c = λ t image same over F.
    c.are_apart.ensures ∙ distinct_names F (settled_by DAEMON_LOG image) c.in_ok-names.names (c.in_ok-names.ensures.names t image same over)
