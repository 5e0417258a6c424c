use Rattle.std.proofs.Common.{◌-◌, ℕ, Option, refl, subst, arith}
use Rattle.pud_defs.specs.declared.layout.TheConstants.{DAEMON_LOG}
use Rattle.pud_defs.specs.Logging.Replay.{settled_by}
use Rattle.pud_defs.specs.RegistryTables.Tables.{tables_of}
use Rattle.soundness.specs.Distinct.{MarksMore}
use Rattle.soundness.proofs.Marks.{unmarked, none_apart, marked_step, distinct_step, not_distinct, are_marked, not_marked}
use Rattle.pm_model.proofs.Reading.{OnlyReads-none, OnlyReads-then, still_reads}
use Rattle.soundness.proofs.distinct.marked_places.Goals as goal

pub loop-done-init : goal.loop-done-init
loop-done-init g c = record {
  size = refl;
  only_reads = OnlyReads-none;
  marked = λ t image same over. unmarked (tables_of c.args.frames (settled_by DAEMON_LOG image)) (c.args.frames - 0) 1024;
  apart = λ t image same over. none_apart (tables_of c.args.frames (settled_by DAEMON_LOG image)) (c.args.frames - 0);
}

pub loop-done-preserved : goal.loop-done-preserved
loop-done-preserved g c = record {
  size = omega arith;
  only_reads = OnlyReads-then c.loop-done.invariant.only_reads c.in_ok-place.ensures.only_reads;
  marked = λ t image same over.
      let before = still_reads c.loop-done.invariant.only_reads t same in
      let place = c.in_ok-place.ensures.place t image before over c.args.frames (omega arith) in
      let more = subst (λ (v : Option ℕ). MarksMore c.loop-done.marks v c.mark.result c.mark.new.marks) place c.mark.ensures in
      marked_step (tables_of c.args.frames (settled_by DAEMON_LOG image)) c.args.frames c.loop-done.done c.loop-done.marks c.mark.new.marks c.mark.result (omega arith) c.loop-done.invariant.size
      (c.loop-done.invariant.marked t image same over) more c.if-not-mark.false;
  apart = λ t image same over.
      let before = still_reads c.loop-done.invariant.only_reads t same in
      let place = c.in_ok-place.ensures.place t image before over c.args.frames (omega arith) in
      let more = subst (λ (v : Option ℕ). MarksMore c.loop-done.marks v c.mark.result c.mark.new.marks) place c.mark.ensures in
      distinct_step (tables_of c.args.frames (settled_by DAEMON_LOG image)) c.args.frames c.loop-done.done c.loop-done.marks c.mark.new.marks c.mark.result (omega arith)
      (c.loop-done.invariant.marked t image same over) more c.if-not-mark.false (c.loop-done.invariant.apart t image same over);
}

pub returns-then-not-mark-clause-marks : goal.returns-then-not-mark-clause-marks
returns-then-not-mark-clause-marks g c = λ t image same over.
    let before = still_reads c.loop-done.invariant.only_reads t same in
    let place = c.in_ok-place.ensures.place t image before over c.args.frames (omega arith) in
    let more = subst (λ (v : Option ℕ). MarksMore c.loop-done.marks v c.mark.result c.mark.new.marks) place c.mark.ensures in
    not_marked c.args.frames (settled_by DAEMON_LOG image)
    (not_distinct (tables_of c.args.frames (settled_by DAEMON_LOG image)) c.args.frames c.loop-done.done c.loop-done.marks c.mark.new.marks c.mark.result (omega arith)
    (c.loop-done.invariant.marked t image same over) more c.if-not-mark.true)

pub returns-clause-marks : goal.returns-clause-marks
returns-clause-marks g c = λ t image same over.
    are_marked c.args.frames (settled_by DAEMON_LOG image) c.loop-done.done c.loop-done.marks (omega arith) (omega arith) (c.loop-done.invariant.apart t image same over) (c.loop-done.invariant.marked t image same over)
