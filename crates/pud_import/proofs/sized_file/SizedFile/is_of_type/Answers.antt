use Rattle.std.proofs.Common.{◌&&◌, eqb, sym, ap, ◌∙◌}
use Rattle.pud_import.specs.Sized.{stored_of}
use Rattle.pud_import.proofs.FileChecks.SlotsOfFile.{of_type_there}
use Rattle.pud_import.proofs.sized_file.SizedFile.is_of_type.Goals as goal

pub returns-then-is_live : goal.returns-then-is_live
returns-then-is_live c =
    let serial = c.slot_word-serial in
    let known = c.slot_word-known in
    ap (λ b. b && eqb known.result c.args.id) (sym c.if-is_live.true)
    ∙ of_type_there (stored_of c.args.self.now) c.args.ordinal c.args.slot c.requires.slot c.args.id serial.result known.result c.is_live.result serial.ensures known.ensures c.is_live.ensures

pub returns-else-is_live : goal.returns-else-is_live
returns-else-is_live c =
    let serial = c.slot_word-serial in
    let known = c.slot_word-known in
    c.if-is_live.false
    ∙ ap (λ b. b && eqb known.result c.args.id) (sym c.if-is_live.false)
    ∙ of_type_there (stored_of c.args.self.now) c.args.ordinal c.args.slot c.requires.slot c.args.id serial.result known.result c.is_live.result serial.ensures known.ensures c.is_live.ensures
