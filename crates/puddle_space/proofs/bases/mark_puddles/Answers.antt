use Rattle.std.proofs.Common.{◌≡◌, ℕ, ◌+◌, subst, arith}
use Rattle.pud_defs.specs.Formats.Bases.{base_at}
use Rattle.pud_defs.specs.RegistryTables.Spaces.{all_below}
use Rattle.pud_defs.specs.RegistryTables.Puddles.{puddle_at}
use Rattle.pud_defs.specs.RegistryTables.Places.{has_other_bases}
use Rattle.pud_defs.proofs.RegistryTables.Spaces.{all_below-from}
use Rattle.puddle_space.specs.FreeRanges.{LeavesFree}
use Rattle.puddle_space.proofs.Kept.{LeavesFree-all, LeavesFree-then, all_below-step}
use Rattle.pm_model.proofs.Reading.{OnlyReads-none, OnlyReads-then, still_reads}
use Rattle.puddle_space.proofs.bases.mark_puddles.Goals as goal

pub loop-frame-init : goal.loop-frame-init
loop-frame-init g c = record {
  only_reads = OnlyReads-none;
  left = λ t image same.
      LeavesFree-all (λ base. all_below 0 (λ k. has_other_bases base (puddle_at image k))) c.args.free.now
      (λ j tried. all_below-from 0 (λ k. has_other_bases (base_at j) (puddle_at image k)) (λ k below. absurd (omega arith)));
  few = omega arith;
}

pub loop-frame-preserved : goal.loop-frame-preserved
loop-frame-preserved g c = record {
  only_reads = OnlyReads-then c.loop-frame.invariant.only_reads c.in_ok-mark_puddle.ensures.only_reads;
  left = λ t image same.
      let frame = c.loop-frame.frame in
      let before = still_reads c.loop-frame.invariant.only_reads t same in
      LeavesFree-then (λ base. all_below frame (λ k. has_other_bases base (puddle_at image k))) (λ base. has_other_bases base (puddle_at image frame))
      (λ base. all_below (frame + 1) (λ k. has_other_bases base (puddle_at image k))) _ _ _ (c.loop-frame.invariant.left t image same)
      (c.in_ok-mark_puddle.ensures.left t image before) (λ j tried. all_below-step frame (λ k. has_other_bases (base_at j) (puddle_at image k)));
  few = omega arith;
}

pub returns-clause-left : goal.returns-clause-left
returns-clause-left g c = λ t image same.
    let past = c.loop-frame-test.false in
    let end = c.loop-frame.auto.frame-end in
    let all : c.loop-frame.frame ≡ c.args.frames = omega arith in
    subst (λ (n : ℕ). LeavesFree (λ base. all_below n (λ k. has_other_bases base (puddle_at image k))) c.args.free.now c.loop-frame.free) all
    (c.loop-frame.invariant.left t image same)
