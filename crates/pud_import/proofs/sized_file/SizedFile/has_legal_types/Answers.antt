use Rattle.std.proofs.Common.{sym, ap, ◌∙◌, arith}
use Rattle.pud_defs.specs.PoolGraphs.ExportFile.{file_type}
use Rattle.pud_import.specs.Sized.{image_of_file, types_in}
use Rattle.pud_import.proofs.FileChecks.Numbered.{from_number-start, from_number-end}
use Rattle.pud_import.proofs.FileChecks.TypesLegal.{rises, rises-start, rises-more, rises-fails}
use Rattle.pud_import.proofs.sized_file.SizedFile.has_legal_types.Goals as goal

pub loop-i-init : goal.loop-i-init
loop-i-init c = rises-start (types_in c.args.self.now) ∙ ap (rises 0) (from_number-start (file_type (image_of_file c.args.self.now)) c.args.self.now.types)

pub returns-then-not-is_next_type : goal.returns-then-not-is_next_type
returns-then-not-is_next_type c =
    sym (c.loop-i.invariant ∙ rises-fails (file_type (image_of_file c.args.self.now)) c.loop-i.before c.loop-i.i c.args.self.now.types c.type_at-id.result c.loop-i-test.true c.type_at-id.ensures
    (sym c.is_next_type.ensures ∙ c.if-not-is_next_type.true))

pub loop-i-preserved : goal.loop-i-preserved
loop-i-preserved c =
    c.loop-i.invariant
    ∙ rises-more (file_type (image_of_file c.args.self.now)) c.loop-i.before c.loop-i.i c.args.self.now.types c.type_at-id.result c.loop-i-test.true c.type_at-id.ensures
    (sym c.is_next_type.ensures ∙ c.if-not-is_next_type.false)

pub returns : goal.returns
returns c =
    let past = c.loop-i-test.false in
    sym (c.loop-i.invariant ∙ ap (rises c.loop-i.before) (from_number-end (file_type (image_of_file c.args.self.now)) c.loop-i.i c.args.self.now.types (omega arith)))
