use Rattle.std.proofs.Common.{sym, ◌∙◌, arith}
use Rattle.pud_defs.specs.declared.layout.TheConstants.{DAEMON_LOG}
use Rattle.pud_defs.specs.declared.records.TheConstants.{POOL_RECORDS}
use Rattle.pud_defs.specs.Logging.Replay.{settled_by}
use Rattle.pud_defs.specs.RegistryTables.Tables.{tables_of}
use Rattle.pud_defs.proofs.RegistryTables.Spaces.{all_below-from, all_below-more, all_below-fails}
use Rattle.soundness.specs.Distinct.{is_counted_by}
use Rattle.pm_model.proofs.Reading.{OnlyReads-none, OnlyReads-then, still_reads}
use Rattle.soundness.proofs.distinct.are_counted.Goals as goal

pub loop-slot-init : goal.loop-slot-init
loop-slot-init g c = record {
  only_reads = OnlyReads-none;
  counted = λ t image same over frames. all_below-from 0 (is_counted_by c.args.marks.now (tables_of frames (settled_by DAEMON_LOG image))) (λ k below. absurd (omega arith));
}

pub loop-slot-preserved : goal.loop-slot-preserved
loop-slot-preserved g c = record {
  only_reads = OnlyReads-then c.loop-slot.invariant.only_reads c.in_ok-is_counted.ensures.only_reads;
  counted = λ t image same over frames.
      let before = still_reads c.loop-slot.invariant.only_reads t same in
      all_below-more c.loop-slot.slot (is_counted_by c.args.marks.now (tables_of frames (settled_by DAEMON_LOG image))) (c.loop-slot.invariant.counted t image same over frames)
      (sym (c.in_ok-is_counted.ensures.counted t image before over frames) ∙ c.if-not-branch.false);
}

pub returns-then-not-branch-clause-counted : goal.returns-then-not-branch-clause-counted
returns-then-not-branch-clause-counted g c = λ t image same over frames.
    let before = still_reads c.loop-slot.invariant.only_reads t same in
    sym (all_below-fails POOL_RECORDS c.loop-slot.slot (is_counted_by c.args.marks.now (tables_of frames (settled_by DAEMON_LOG image))) (omega arith)
    (sym (c.in_ok-is_counted.ensures.counted t image before over frames) ∙ c.if-not-branch.true))
