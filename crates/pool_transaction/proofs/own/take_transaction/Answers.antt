use Rattle.std.proofs.Common.{sym, ap, ◌∙◌, arith, rules}
use Rattle.std.proofs.lemmas.Option.{none-some}
use Rattle.daemon_memory.specs.Memory.{ActiveTransaction}
use Rattle.daemon_memory.proofs.OpenTransactions.ActiveUnder.{AreActiveWithin-set, read_within}
use Rattle.pool_transaction.proofs.own.take_transaction.Goals as goal

pub end-requires : goal.end-requires
end-requires c =
    let within = read_within _ _ _ _ _ c.in-Some.opened c.memory.invariant.2 (search rules) c.take-opened.ensures.value c.in-Some.is in
    let slot = ap (λ (h : ActiveTransaction). h.slot) c.opened.view_is in
    record { slot = omega (arith, slot, within.slot) }

pub invariant_of-memory : goal.invariant_of-memory
invariant_of-memory c =
    let i = c.memory.invariant in
    (i.0, i.1, AreActiveWithin-set _ _ _ _ i.2 (λ h now. absurd (none-some h (sym c.take-opened.ensures.after ∙ now))), c.ended.ensures.known _ i.3)

pub ended-requires : goal.ended-requires
ended-requires c =
    let within = read_within _ _ _ _ _ c.in-Some.opened c.memory.invariant.2 (search rules) c.take-opened.ensures.value c.in-Some.is in
    let slot = ap (λ (h : ActiveTransaction). h.slot) c.opened.view_is in
    omega (arith, slot, within.slot)
