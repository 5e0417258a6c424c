use Rattle.std.proofs.Common.{subst}
use Rattle.std.specs.Prelude.{IfOk}
use Rattle.daemon_memory.specs.Memory.{ActiveTransaction}
use Rattle.pool_transaction.specs.Changing.{GrowsBy}
use Rattle.pool_transaction.proofs.NewObjects.ActiveGrows.{growth_found}
use Rattle.pool_transaction.proofs.changing.find_growth.Goals as goal

pub returns-clause-growth : goal.returns-clause-growth
returns-clause-growth g c = λ t image same.
    subst (λ (h : ActiveTransaction). IfOk c.find_growth.result (λ found. IfOk found (GrowsBy c.args.frames h.slot c.args.class c.args.pool.now image))) c.opened.view_is
    (growth_found c.args.frames c.opened.inside.slot c.args.class c.args.pool.now image c.find_growth.result (c.find_growth.ensures.growth t image same) c.find_growth.ensures.of_class)
