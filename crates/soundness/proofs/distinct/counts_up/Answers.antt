use Rattle.std.proofs.Common.{◌+◌, ◌*◌, arith}
use Rattle.soundness.proofs.Marks.{counts_stop, counts_more}
use Rattle.soundness.proofs.distinct.counts_up.Goals as goal
use Rattle.pud_defs.proofs.RegistryTables.Spaces.{all_below-none}

pub loop-k-init : goal.loop-k-init
loop-k-init c = all_below-none _

pub loop-k-preserved : goal.loop-k-preserved
loop-k-preserved c =
    counts_more c.args.marks.now c.args.slot c.loop-k.k ((c.args.slot + 1) * 16 + c.loop-k.k) ((c.args.slot + 1) * 16 + c.loop-k.k + 1) c.follows.result (omega arith) (omega arith) c.follows.ensures c.if-not-follows.false
    c.loop-k.invariant

pub returns-then-not-follows : goal.returns-then-not-follows
returns-then-not-follows c =
    counts_stop c.args.marks.now c.args.slot c.loop-k.k ((c.args.slot + 1) * 16 + c.loop-k.k) ((c.args.slot + 1) * 16 + c.loop-k.k + 1) c.follows.result (omega arith) (omega arith) (omega arith) c.follows.ensures
    c.if-not-follows.true
