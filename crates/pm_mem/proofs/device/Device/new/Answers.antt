use Rattle.std.proofs.Common.{◌∙◌, ℕ, Vec, sym, ap}
use Rattle.std.specs.declared.alloc.Global.{Global}
use Rattle.pm_mem.proofs.Followed.{AreOf-start, AreSingle-start, said-start, fresh_state-start}
use Rattle.pm_mem.proofs.device.Device.new.Goals as goal

pub invariant_of-result-clause-follows : goal.invariant_of-result-clause-follows
invariant_of-result-clause-follows c =
    let durables = ap (λ (row : Vec ℕ Global). row.items) c.in_ok-new.ensures.durable in
    AreOf-start _ _ _ _ _ c.in_ok-with_capacity-2.ensures.items c.in_ok-zeroes.ensures.zero (rw durables c.in_ok-zeroes-2.ensures.zero) (c.in_ok-new.ensures.newest ∙ sym durables) (c.in_ok-new.ensures.marked ∙ sym durables)

pub invariant_of-result-clause-replies : goal.invariant_of-result-clause-replies
invariant_of-result-clause-replies c = c.in_ok-with_capacity.ensures.items ∙ sym (said-start _ _ c.in_ok-with_capacity-2.ensures.items)

pub invariant_of-result-clause-single : goal.invariant_of-result-clause-single
invariant_of-result-clause-single c = λ _. AreSingle-start _ _ c.in_ok-with_capacity-2.ensures.items

pub returns-clause-state : goal.returns-clause-state
returns-clause-state c = fresh_state-start _ _ c.in_ok-with_capacity-2.ensures.items c.in_ok-zeroes.ensures.zero
