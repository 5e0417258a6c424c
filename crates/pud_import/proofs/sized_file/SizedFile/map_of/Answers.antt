use Rattle.std.proofs.Common.{sym, ap, ◌∙◌, arith}
use Rattle.pud_defs.specs.PoolGraphs.ExportFile.{file_type}
use Rattle.pud_defs.specs.RegistryTables.Types.{map_of}
use Rattle.pud_import.specs.Sized.{image_of_file}
use Rattle.pud_import.proofs.FileChecks.Numbered.{from_number-start, from_number-end}
use Rattle.pud_import.proofs.FileChecks.TypesFound.{map_of-here, map_of-other}
use Rattle.pud_import.proofs.sized_file.SizedFile.map_of.Goals as goal

pub loop-i-init : goal.loop-i-init
loop-i-init c = ap (map_of c.args.id) (from_number-start (file_type (image_of_file c.args.self.now)) c.args.self.now.types)

pub returns-then-known-id : goal.returns-then-known-id
returns-then-known-id c =
    sym (c.loop-i.invariant
    ∙ map_of-here (file_type (image_of_file c.args.self.now)) c.args.id c.loop-i.i c.args.self.now.types c.type_at-known.result c.loop-i-test.true c.type_at-known.ensures (sym c.if-known-id.true))

pub loop-i-preserved : goal.loop-i-preserved
loop-i-preserved c =
    c.loop-i.invariant
    ∙ map_of-other (file_type (image_of_file c.args.self.now)) c.args.id c.loop-i.i c.args.self.now.types c.type_at-known.result c.loop-i-test.true c.type_at-known.ensures (λ e. c.if-known-id.false (sym e))

pub returns : goal.returns
returns c =
    let past = c.loop-i-test.false in
    sym (c.loop-i.invariant ∙ ap (map_of c.args.id) (from_number-end (file_type (image_of_file c.args.self.now)) c.loop-i.i c.args.self.now.types (omega arith)))
