use Rattle.std.proofs.Common.{sym, subst}
use Rattle.pool_transaction.specs.declared.changing.Change.{Change}
use Rattle.pool_transaction.specs.Premises.{DoesChange}
use Rattle.pool_transaction.proofs.changing.carry_out_change.Goals as goal

pub returns-in-New-clause-does : goal.returns-in-New-clause-does
returns-in-New-clause-does g c = λ t size w memory runs.
    subst (λ (change : Change). DoesChange c.args.frames c.args.opened.now c.new_object.new.opened c.args.pool.now c.new_object.new.pool change size w memory c.new_object.result (g.H.Host.state c.args.h.now) (g.H.Host.state c.new_object.new.h)) (sym c.in-New.is)
    (c.new_object.ensures.does t size w memory runs)

pub returns-in-Update-clause-does : goal.returns-in-Update-clause-does
returns-in-Update-clause-does g c = λ t size w memory runs.
    subst (λ (change : Change). DoesChange c.args.frames c.args.opened.now c.update_or_refuse.new.opened c.args.pool.now c.update_or_refuse.new.pool change size w memory c.update_or_refuse.result (g.H.Host.state c.args.h.now) (g.H.Host.state c.update_or_refuse.new.h)) (sym c.in-Update.is)
    (c.update_or_refuse.ensures.does t size w memory runs)
