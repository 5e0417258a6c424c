use Rattle.std.proofs.Common.{inl, inr, sym, ◌∙◌, arith}
use Rattle.std.proofs.lemmas.Bool.{eqb-true, eqb-false, not-true, not-false}
use Rattle.graph_read.proofs.SortedSerials.{beside-more, are_distinct-sorted, are_distinct-shared}
use Rattle.graph_read.proofs.judge.are_distinct.Goals.{else-is_live-via-then-is_live+else-serial-serials, else-is_live-via-else-is_live}
use Rattle.graph_read.proofs.judge.are_distinct.Goals as goal

pub returns-then-serial-serials : goal.returns-then-serial-serials
returns-then-serial-serials c =
    sym (are_distinct-shared _ _ c.loop-place.place c.sort_unstable.ensures.permutation c.loop-place.auto.place c.loop-place-test.true
    (eqb-false _ 0 (not-true _ (sym c.is_live.ensures ∙ c.if-is_live.true))) c.if-serial-serials.true)

pub loop-place-preserved : goal.loop-place-preserved
loop-place-preserved c = beside-more _ c.loop-place.place c.loop-place.auto.place c.loop-place.invariant
    (elim c.else-is_live.branch [
      | else-is_live-via-then-is_live+else-serial-serials w ↦ inr w.if-serial-serials.false
      | else-is_live-via-else-is_live w ↦ inl (eqb-true _ 0 (not-false _ (sym c.is_live.ensures ∙ w.if-is_live.false)))
    ])

pub returns : goal.returns
returns c = sym (are_distinct-sorted _ _ c.sort_unstable.ensures.permutation c.sort_unstable.ensures.sorted (λ k below. c.loop-place.invariant k (omega (arith, below))))
