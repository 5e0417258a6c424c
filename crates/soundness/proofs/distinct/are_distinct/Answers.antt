use Rattle.std.proofs.Common.{◌-◌, refl, sym, arith, true≢false}
use Rattle.soundness.proofs.Numbers.{differ_by_rise, same_by_no_rise}
use Rattle.soundness.proofs.distinct.are_distinct.Goals as goal

pub returns-then-numbers-k : goal.returns-then-numbers-k
returns-then-numbers-k c = (
  (λ h. absurd (true≢false (sym h))),
  (λ distinct. absurd (same_by_no_rise c.args.numbers.now c.sort_unstable.new.self (c.loop-k.k - 1) c.loop-k.k c.sort_unstable.ensures.permutation c.sort_unstable.ensures.sorted (omega arith) (omega arith) (omega arith) distinct)),
)

pub returns : goal.returns
returns c = ((λ h. differ_by_rise c.args.numbers.now c.sort_unstable.new.self c.sort_unstable.ensures.permutation (λ k below. c.loop-k.invariant k (omega arith))), (λ distinct. refl))
