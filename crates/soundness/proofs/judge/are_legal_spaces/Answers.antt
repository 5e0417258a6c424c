use Rattle.std.proofs.Common.{sym, ◌∙◌, arith}
use Rattle.pud_defs.specs.declared.layout.TheConstants.{DAEMON_LOG, CLIENTS}
use Rattle.pud_defs.specs.Logging.Replay.{settled_by}
use Rattle.pud_defs.specs.RegistryTables.Spaces.{is_legal_space}
use Rattle.pud_defs.proofs.RegistryTables.Spaces.{all_below-from, all_below-more, all_below-fails}
use Rattle.pm_model.proofs.Reading.{OnlyReads-none, OnlyReads-then, still_reads}
use Rattle.soundness.proofs.judge.are_legal_spaces.Goals as goal

pub loop-client-init : goal.loop-client-init
loop-client-init g c = record {
  only_reads = OnlyReads-none;
  legal = λ t image same over. all_below-from 0 (is_legal_space (settled_by DAEMON_LOG image)) (λ k below. absurd (omega arith));
}

pub loop-client-preserved : goal.loop-client-preserved
loop-client-preserved g c = record {
  only_reads = OnlyReads-then c.loop-client.invariant.only_reads c.in_ok-is_legal_space.ensures.only_reads;
  legal = λ t image same over.
      let before = still_reads c.loop-client.invariant.only_reads t same in
      all_below-more c.loop-client.client (is_legal_space (settled_by DAEMON_LOG image)) (c.loop-client.invariant.legal t image same over)
      (sym (c.in_ok-is_legal_space.ensures.legal t image before over) ∙ c.if-not-branch.false);
}

pub returns-then-not-branch-clause-legal : goal.returns-then-not-branch-clause-legal
returns-then-not-branch-clause-legal g c = λ t image same over.
    let before = still_reads c.loop-client.invariant.only_reads t same in
    sym (all_below-fails CLIENTS c.loop-client.client (is_legal_space (settled_by DAEMON_LOG image)) (omega arith)
    (sym (c.in_ok-is_legal_space.ensures.legal t image before over) ∙ c.if-not-branch.true))
