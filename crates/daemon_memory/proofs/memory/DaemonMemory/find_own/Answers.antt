use Rattle.std.proofs.Common.{List, Option, sym, ap, subst, ◌∙◌}
use Rattle.daemon_memory.specs.Memory.{ActiveTransaction}
use Rattle.daemon_memory.specs.OwnOnPool.{IsOwnTransactionOn}
use Rattle.daemon_memory.specs.Owning.{refusal_found}
use Rattle.daemon_memory.specs.declared.finding.Need.TheVariants as needs
use Rattle.daemon_memory.proofs.PoolsFound.Found.{finds}
use Rattle.daemon_memory.proofs.PoolsFound.Needs.{own_refused, own_none}
use Rattle.daemon_memory.proofs.PoolsFound.OwnRefusals.{own_is_open}
use Rattle.daemon_memory.proofs.memory.DaemonMemory.find_own.Goals as goal

pub returns-in-Err-clause-refusal : goal.returns-in-Err-clause-refusal
returns-in-Err-clause-refusal g c = λ t size w ready.
    sym (own_refused w c.args.client c.args.name c.in-Err.refusal (sym (c.in_ok-refusal.ensures.refusal t size w ready) ∙ ap refusal_found c.in-Err.is))

pub returns-in-None-clause-refusal : goal.returns-in-None-clause-refusal
returns-in-None-clause-refusal g c = λ t size w ready.
    let k = c.in_ok-refusal.ensures in
    let here = finds size w needs.Graph c.args.client c.args.name c.args.self.now c.find_pool.new.self _ _ _ c.in-Ok.found c.in-Ok.is (k.only_reads.stays t) k.sessions (k.ready t size w ready) (k.refusal t size w ready) (k.found t size w ready) k.whose in
    sym (own_none w c.args.client c.args.name here.free (here.is.none c.in-None.is))

-- ---- the client's own transaction is open on the pool

pub returns-in-Some-clause-refusal : goal.returns-in-Some-clause-refusal
returns-in-Some-clause-refusal g c = λ t size w ready.
    let k = c.in_ok-refusal.ensures in
    let now = c.find_pool.new.self in
    let here = finds size w needs.Graph c.args.client c.args.name c.args.self.now now _ _ _ c.in-Ok.found c.in-Ok.is (k.only_reads.stays t) k.sessions (k.ready t size w ready) (k.refusal t size w ready) (k.found t size w ready) k.whose in
    sym (own_is_open w now.active here.ready.mask _ c.args.client c.args.name c.in-Some.number here.ready.active (here.is.own c.in-Some.number c.in-Some.is).own)

pub returns-in-Some-clause-own : goal.returns-in-Some-clause-own
returns-in-Some-clause-own g c = λ t size w ready.
    let k = c.in_ok-refusal.ensures in
    let now = c.find_pool.new.self in
    let here = finds size w needs.Graph c.args.client c.args.name c.args.self.now now _ _ _ c.in-Ok.found c.in-Ok.is (k.only_reads.stays t) k.sessions (k.ready t size w ready) (k.refusal t size w ready) (k.found t size w ready) k.whose in
    subst (λ (xs : List (Option ActiveTransaction)). IsOwnTransactionOn c.args.client c.args.name c.in-Ok.found.slot c.in-Some.number xs) k.active (here.is.own c.in-Some.number c.in-Some.is)
