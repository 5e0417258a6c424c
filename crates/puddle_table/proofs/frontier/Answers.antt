use Rattle.std.proofs.Common.{ℕ, ◌+◌, ap, ◌∙◌}
use Rattle.pud_defs.specs.Formats.Image.{Image}
use Rattle.pud_defs.specs.RegistryTables.Puddles.{frontier_part}
use Rattle.puddle_table.proofs.frontier.Goals as goal

pub returns-clause-frontier : goal.returns-clause-frontier
returns-clause-frontier g c = λ t image e.
    c.frontier_part.ensures ∙ ap frontier_part (c.in_ok-last.ensures.value t ∙ ap (λ (f : Image). f (c.puddle_record_at.result + 4)) e ∙ ap (λ (at : ℕ). image (at + 4)) c.puddle_record_at.ensures)
