use Rattle.std.proofs.Common.{◌≡◌, ℕ, ltb, sym, ap, ◌∙◌, arith}
use Rattle.std.proofs.lemmas.Bool.{lt-ltb, le-ltb}
use Rattle.pud_defs.specs.declared.space.TheConstants.{CLASSES}
use Rattle.pud_defs.specs.PoolGraphs.ExportFile.{file_class}
use Rattle.pud_defs.specs.RegistryTables.Spaces.{all_below}
use Rattle.pud_defs.proofs.RegistryTables.Spaces.{all_below-more, all_below-fails, all_below-none}
use Rattle.pud_import.specs.Contents.{file_image}
use Rattle.pud_import.proofs.FileChecks.SlotsOfFile.{classes-each}
use Rattle.pud_import.proofs.classes.has_legal_classes.Goals as goal

pub loop-ordinal-init : goal.loop-ordinal-init
loop-ordinal-init c = all_below-none _

pub returns-then-class-from : goal.returns-then-class-from
returns-then-class-from c =
    let words = file_image c.args.bytes.now in
    let class = file_class words c.args.version c.args.types c.args.puddles in
    let o = c.loop-ordinal.ordinal in
    sym (classes-each words c.args.version c.args.types c.args.puddles
    ∙ all_below-fails c.args.puddles o (λ i. ltb (class i) CLASSES) c.loop-ordinal-test.true (le-ltb (class o) CLASSES (omega (arith, c.class_word-class.ensures, c.from.ensures, c.if-class-from.true))))

pub loop-ordinal-preserved : goal.loop-ordinal-preserved
loop-ordinal-preserved c =
    let class = file_class (file_image c.args.bytes.now) c.args.version c.args.types c.args.puddles in
    let o = c.loop-ordinal.ordinal in
    all_below-more o (λ i. ltb (class i) CLASSES) c.loop-ordinal.invariant (lt-ltb (class o) CLASSES (omega (arith, c.class_word-class.ensures, c.from.ensures, c.if-class-from.false)))

pub returns : goal.returns
returns c =
    let words = file_image c.args.bytes.now in
    let test = λ (i : ℕ). ltb (file_class words c.args.version c.args.types c.args.puddles i) CLASSES in
    let all : c.loop-ordinal.ordinal ≡ c.args.puddles = omega arith in
    sym (classes-each words c.args.version c.args.types c.args.puddles ∙ ap (λ (n : ℕ). all_below n test) (sym all) ∙ c.loop-ordinal.invariant)
