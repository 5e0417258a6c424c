use Rattle.std.proofs.Common.{◌≡◌, ℕ, sym, ap, ◌∙◌, arith}
use Rattle.pud_defs.specs.declared.layout.TheConstants.{DAEMON_LOG}
use Rattle.pud_defs.specs.declared.records.TheConstants.{POOL_RECORDS}
use Rattle.pud_defs.specs.Logging.Replay.{settled_by}
use Rattle.pud_defs.specs.RegistryTables.Spaces.{all_below}
use Rattle.pud_defs.specs.RegistryTables.Tables.{tables_of}
use Rattle.pud_defs.specs.RegistryTables.SoundTables.{is_sound_pool, has_legal_pools}
use Rattle.pud_defs.proofs.RegistryTables.Spaces.{all_below-from, all_below-more, all_below-fails}
use Rattle.pm_model.proofs.Reading.{OnlyReads-none, OnlyReads-then, still_reads}
use Rattle.soundness.proofs.tables.has_legal_pools.Goals as goal

pub loop-slot-init : goal.loop-slot-init
loop-slot-init g c = record {
  only_reads = OnlyReads-none;
  legal = λ t image same over F. all_below-from 0 (λ slot. is_sound_pool c.args.next ((tables_of F (settled_by DAEMON_LOG image)).pools slot)) (λ k below. absurd (omega arith));
}

pub loop-slot-preserved : goal.loop-slot-preserved
loop-slot-preserved g c = record {
  only_reads = OnlyReads-then c.loop-slot.invariant.only_reads c.in_ok-is_sound_slot.ensures.only_reads;
  legal = λ t image same over F.
      let before = still_reads c.loop-slot.invariant.only_reads t same in
      all_below-more c.loop-slot.slot (λ slot. is_sound_pool c.args.next ((tables_of F (settled_by DAEMON_LOG image)).pools slot)) (c.loop-slot.invariant.legal t image same over F)
      (sym (c.in_ok-is_sound_slot.ensures.sound t image before over F) ∙ c.if-not-branch.false);
}

pub returns-then-not-branch-clause-legal : goal.returns-then-not-branch-clause-legal
unfolding has_legal_pools
returns-then-not-branch-clause-legal g c = λ t image same over F.
    let before = still_reads c.loop-slot.invariant.only_reads t same in
    sym (all_below-fails POOL_RECORDS c.loop-slot.slot (λ slot. is_sound_pool c.args.next ((tables_of F (settled_by DAEMON_LOG image)).pools slot)) (omega arith)
    (sym (c.in_ok-is_sound_slot.ensures.sound t image before over F) ∙ c.if-not-branch.true))

pub returns-clause-legal : goal.returns-clause-legal
unfolding has_legal_pools
returns-clause-legal g c = λ t image same over F.
    let all : c.loop-slot.slot ≡ POOL_RECORDS = omega arith in
    sym (ap (λ (n : ℕ). all_below n (λ slot. is_sound_pool c.args.next ((tables_of F (settled_by DAEMON_LOG image)).pools slot))) (sym all) ∙ c.loop-slot.invariant.legal t image same over F)
