use Rattle.std.proofs.Common.{◌+◌, not, eqb, take, get_or, arith}
use Rattle.std.specs.List.{list_all}
use Rattle.std.proofs.lemmas.List.Folds.{list_all_more}
use Rattle.pud_defs.specs.Formats.Bases.{base_at}
use Rattle.puddle_space.proofs.Kept.{LeavesFree-then}
use Rattle.puddle_space.proofs.bases.mark_taken.Goals as goal

pub loop-base-preserved : goal.loop-base-preserved
loop-base-preserved c =
    let at = c.loop-base.base-index in
    record {
      left =
          LeavesFree-then (λ base. list_all (λ other. not (eqb other base)) (take at c.args.taken.now)) (λ base. not (eqb (get_or c.args.taken.now at 0) base))
          (λ base. list_all (λ other. not (eqb other base)) (take (at + 1) c.args.taken.now)) _ _ _ c.loop-base.invariant.left c.mark.ensures.left
          (λ k tried. list_all_more (λ other. not (eqb other (base_at k))) c.args.taken.now at 0 (omega arith));
      few = omega arith;
    }
