use Rattle.std.proofs.Common.{◌≡◌, ℕ, true, sym, subst, ◌∙◌, arith}
use Rattle.pud_defs.specs.RegistryTables.Placement.{has_another_base}
use Rattle.pud_defs.specs.RegistryTables.Puddles.{puddle_at}
use Rattle.pud_defs.specs.RegistryTables.Spaces.{all_below}
use Rattle.pud_defs.proofs.RegistryTables.Spaces.{all_below-from, all_below-more}
use Rattle.puddle_space.proofs.HasBase.{so, base_found, no_base_found}
use Rattle.pm_model.proofs.Reading.{OnlyReads-none, OnlyReads-then, still_reads}
use Rattle.puddle_space.proofs.taken.has_base.Goals as goal

pub loop-frame-init : goal.loop-frame-init
loop-frame-init g c = record {
  only_reads = OnlyReads-none;
  none = λ t image same. all_below-from 0 (λ k. has_another_base c.args.base (puddle_at image k)) (λ k below. absurd (omega arith));
}

pub loop-frame-preserved : goal.loop-frame-preserved
loop-frame-preserved g c = record {
  only_reads = OnlyReads-then c.loop-frame.invariant.only_reads c.in_ok-frame_has_base.ensures.only_reads;
  none = λ t image same.
      let before = still_reads c.loop-frame.invariant.only_reads t same in
      let here = so (has_another_base c.args.base (puddle_at image c.loop-frame.frame)) (sym c.if-branch.false ∙ c.in_ok-frame_has_base.ensures.has t image before) in
      all_below-more c.loop-frame.frame (λ k. has_another_base c.args.base (puddle_at image k)) (c.loop-frame.invariant.none t image same) here;
}

pub returns-then-branch-clause-taken : goal.returns-then-branch-clause-taken
returns-then-branch-clause-taken g c = λ t image same.
    let before = still_reads c.loop-frame.invariant.only_reads t same in
    base_found c.args.frames image c.args.base c.loop-frame.frame c.loop-frame-test.true (sym c.if-branch.true ∙ c.in_ok-frame_has_base.ensures.has t image before)

pub returns-clause-taken : goal.returns-clause-taken
returns-clause-taken g c = λ t image same.
    let past = c.loop-frame-test.false in
    let end = c.loop-frame.auto.frame-end in
    let all : c.loop-frame.frame ≡ c.args.frames = omega arith in
    no_base_found c.args.frames image c.args.base (subst (λ (n : ℕ). all_below n (λ k. has_another_base c.args.base (puddle_at image k)) ≡ true) all (c.loop-frame.invariant.none t image same))
