use Rattle.std.proofs.Common.{◌≡◌, sym, ap, subst}
use Rattle.std.specs.Prelude.{IfOk}
use Rattle.log_entry.specs.Copying.{log_copied}
use Rattle.log_replay.specs.declared.Target.{Target}
use Rattle.log_replay.specs.Replaying.{log_to}
use Rattle.log_replay.proofs.Target.place.Goals as goal

pub returns-in-Words-clause-placed : goal.returns-in-Words-clause-placed
returns-in-Words-clause-placed g c = λ t image same es are. ap (λ (to : Target). log_to to image (log_copied c.args.copy.now)) (sym c.in-Words.is)

pub returns-in-Puddles-clause-placed : goal.returns-in-Puddles-clause-placed
returns-in-Puddles-clause-placed g c = λ t image same es are.
    let log = log_copied c.args.copy.now in
    subst (λ (to : Target). IfOk c.place_addresses.result (λ _. log_copied c.place_addresses.new.copy ≡ log_to to image log)) (sym c.in-Puddles.is) (c.place_addresses.ensures.placed t image same es are)
