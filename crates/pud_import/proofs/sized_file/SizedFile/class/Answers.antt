use Rattle.std.proofs.Common.{sym, ◌∙◌, arith}
use Rattle.pud_import.specs.Sized.{image_of_file}
use Rattle.pud_import.proofs.FileChecks.SlotsOfFile.{class_of_file, class_legal}
use Rattle.pud_import.proofs.sized_file.SizedFile.class.Goals as goal

pub overflow_cast-result : goal.overflow_cast-result
overflow_cast-result c =
    let f = c.args.self.now in
    let legal = class_legal (image_of_file f) f.version f.types f.puddles c.args.ordinal f.legal_classes c.requires in
    omega (arith, c.class_word.ensures)

pub returns : goal.returns
returns c = let f = c.args.self.now in c.class_word.ensures ∙ sym (class_of_file (image_of_file f) f.version f.types f.puddles c.args.ordinal c.requires)
