use Rattle.std.proofs.Common.{◌≡◌, ℕ, sym, ap, ◌∙◌, arith}
use Rattle.pud_defs.specs.declared.layout.TheConstants.{DAEMON_LOG}
use Rattle.pud_defs.specs.Logging.Replay.{settled_by}
use Rattle.pud_defs.specs.RegistryTables.Spaces.{all_below}
use Rattle.pud_defs.specs.RegistryTables.Tables.{tables_of}
use Rattle.pud_defs.specs.RegistryTables.Registry.{is_large_member, are_all_large}
use Rattle.pud_defs.proofs.RegistryTables.Spaces.{all_below-from, all_below-more, all_below-fails}
use Rattle.pm_model.proofs.Reading.{OnlyReads-none, OnlyReads-then, still_reads}
use Rattle.soundness.proofs.tables.are_all_large.Goals as goal

pub loop-frame-init : goal.loop-frame-init
loop-frame-init g c = record {
  only_reads = OnlyReads-none;
  large = λ t image same over.
      let tables = tables_of c.args.frames (settled_by DAEMON_LOG image) in
      all_below-from 0 (λ frame. is_large_member (tables.puddles frame)) (λ k below. absurd (omega arith));
}

pub loop-frame-preserved : goal.loop-frame-preserved
loop-frame-preserved g c = record {
  only_reads = OnlyReads-then c.loop-frame.invariant.only_reads c.in_ok-is_large_frame.ensures.only_reads;
  large = λ t image same over.
      let tables = tables_of c.args.frames (settled_by DAEMON_LOG image) in
      let before = still_reads c.loop-frame.invariant.only_reads t same in
      all_below-more c.loop-frame.frame (λ frame. is_large_member (tables.puddles frame)) (c.loop-frame.invariant.large t image same over)
      (sym (c.in_ok-is_large_frame.ensures.large t image before over) ∙ c.if-not-branch.false);
}

pub returns-then-not-branch-clause-large : goal.returns-then-not-branch-clause-large
unfolding are_all_large tables_of
returns-then-not-branch-clause-large g c = λ t image same over.
    let tables = tables_of c.args.frames (settled_by DAEMON_LOG image) in
    let before = still_reads c.loop-frame.invariant.only_reads t same in
    sym (all_below-fails c.args.frames c.loop-frame.frame (λ frame. is_large_member (tables.puddles frame)) (omega arith)
    (sym (c.in_ok-is_large_frame.ensures.large t image before over) ∙ c.if-not-branch.true))

pub returns-clause-large : goal.returns-clause-large
unfolding are_all_large tables_of
returns-clause-large g c = λ t image same over.
    let tables = tables_of c.args.frames (settled_by DAEMON_LOG image) in
    let all : c.loop-frame.frame ≡ c.args.frames = omega arith in
    sym (ap (λ (n : ℕ). all_below n (λ frame. is_large_member (tables.puddles frame))) (sym all) ∙ c.loop-frame.invariant.large t image same over)
