use Rattle.std.proofs.Common.{◌∙◌, ap, drop, sym}
use Rattle.gen_work.specs.GenLines.{gen_lines, number_at}
use Rattle.gen_work.specs.Parts.{to_come}
use Rattle.gen_work.proofs.WholeScript.{from_line}
use Rattle.gen_work.proofs.places.Place.before.Goals as goal

pub returns : goal.returns
returns c =
    let part = c.part_of-part.result.0 in
    let step = c.part_of-part.result.1 in
    ap (λ number. to_come c.args.count part number step) c.number_at.ensures.number
    ∙ sym (from_line c.args.seed c.args.count part step c.part_of-part.ensures.known (c.part_of-part.ensures.within (number_at c.args.seed part)))
    ∙ ap (λ line. drop line (gen_lines c.args.seed c.args.count)) c.part_of-part.ensures.line
