use Rattle.std.proofs.Common.{[], ◌∷◌, length, ap, ◌∙◌, arith, length-append}
use Rattle.pud_defs.specs.Formats.Identifiers.{puddle_uuid, uuid_text}
use Rattle.pud_check.proofs.Lines.{length_uuid_text}
use Rattle.pud_check.proofs.text.add_uuid.Goals as goal

pub returns-clause-within : goal.returns-clause-within
returns-clause-within c =
    let space = ap length c.push.ensures.items ∙ length-append c.args.text.now.items (32 ∷ []) in
    let identifier = ap length c.add_identifier.ensures ∙ length-append c.push.new.self.items (uuid_text (puddle_uuid c.args.id c.args.number)) in
    let long = length_uuid_text (puddle_uuid c.args.id c.args.number) in
    omega (arith, space, identifier, long)
