use Rattle.std.proofs.Common.{map, length, sym, ◌∙◌, arith, nat_cmp}
use Rattle.pud_defs.specs.PoolGraphs.ExportFile.{under_base}
use Rattle.pud_import.proofs.FileChecks.BasesApart.{are_distinct-more, are_distinct-fails}
use Rattle.pud_import.proofs.bases.are_apart.Goals as goal
use Rattle.pud_defs.proofs.KeyedTables.Keyed.{are_distinct-end}

pub returns-then-has_base : goal.returns-then-has_base
returns-then-has_base c = sym (c.loop-ordinal.invariant ∙ are_distinct-fails c.args.pool.now c.loop-ordinal.ordinal c.has_base.result c.loop-ordinal-test.true c.has_base.ensures c.if-has_base.true)

pub loop-ordinal-preserved : goal.loop-ordinal-preserved
loop-ordinal-preserved c = c.loop-ordinal.invariant ∙ are_distinct-more c.args.pool.now c.loop-ordinal.ordinal c.has_base.result c.loop-ordinal-test.true c.has_base.ensures c.if-has_base.false

pub returns : goal.returns
returns c =
    let past = c.loop-ordinal-test.false in
    sym (c.loop-ordinal.invariant ∙ are_distinct-end nat_cmp (under_base (map (λ e. e.1) c.args.pool.now)) c.loop-ordinal.ordinal (length c.args.pool.now) (omega arith))
