use Rattle.std.proofs.Common.{sym}
use Rattle.pud_defs.proofs.RegistryTables.Spaces.{all_below-none, all_below-more, all_below-fails}
use Rattle.word_transaction.specs.Coverage.{is_marked}
use Rattle.word_transaction.proofs.covering.all_marked.Goals as goal

pub loop-i-init : goal.loop-i-init
loop-i-init c = all_below-none (is_marked c.args.marks.now)

pub returns-then-not-marks-i : goal.returns-then-not-marks-i
returns-then-not-marks-i c = sym (all_below-fails c.args.count c.loop-i.i (is_marked c.args.marks.now) c.loop-i-test.true c.if-not-marks-i.true)

pub loop-i-preserved : goal.loop-i-preserved
loop-i-preserved c = all_below-more c.loop-i.i (is_marked c.args.marks.now) c.loop-i.invariant c.if-not-marks-i.false
