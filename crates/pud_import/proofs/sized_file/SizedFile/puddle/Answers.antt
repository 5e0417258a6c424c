use Rattle.std.proofs.Common.{ap, ◌∙◌}
use Rattle.pud_defs.specs.Formats.Geometry.{class_steps}
use Rattle.pud_import.specs.Sized.{image_of_file}
use Rattle.pud_import.proofs.FileChecks.SlotsOfFile.{class_of_file}
use Rattle.pud_import.proofs.sized_file.SizedFile.puddle.Goals as goal

pub returns : goal.returns
returns c =
    let f = c.args.self.now in
    let class = c.class-class.ensures ∙ class_of_file (image_of_file f) f.version f.types f.puddles c.args.ordinal c.requires in
    let steps = c.class_steps.ensures ∙ ap class_steps class in
    λ i. record { number = c.frame_word.ensures i; base = c.base-base.ensures i; old_base = c.base-base.ensures i; frontier = steps i; class = class i }
