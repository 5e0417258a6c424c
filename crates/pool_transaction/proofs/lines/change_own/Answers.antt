use Rattle.std.proofs.Common.{List, Option, Some, refl, sym, ap, subst, ◌∙◌}
use Rattle.std.proofs.lemmas.Result.{err_from_is_err_and}
use Rattle.pm_model.proofs.Reading.{still_size}
use Rattle.pm_model.specs.Counts.{after_fault}
use Rattle.pool_transaction.specs.Changing.{command_of_change}
use Rattle.daemon_memory.specs.OwnOnPool.{IsOwnTransactionOn}
use Rattle.daemon_memory.specs.Memory.{ActiveTransaction, Memory}
use Rattle.daemon_memory.specs.Owning.{refusal_found}
use Rattle.daemon_memory.specs.Ready.{IsReady}
use Rattle.pool_transaction.proofs.TransactionLines.Changing.{refused_line}
use Rattle.daemon_memory.proofs.PoolsKnown.KnownBuilt.{ready_built}
use Rattle.pool_transaction.proofs.TransactionLines.Commanding.{change_is_plain}
use Rattle.daemon_memory.proofs.Commands.CarriedOut.{CarriesOut-refused, CarriesOut-unread, CarriesOut-replied, ready_read}
use Rattle.pool_transaction.proofs.lines.change_own.Goals as goal
use Rattle.pool_transaction.specs.Ending.{ChangesPool, LeadsChange}

pub returns-in_err-refusal-clause-carries : goal.returns-in_err-refusal-clause-carries
returns-in_err-refusal-clause-carries g c =
    let p = err_from_is_err_and c.from_residual.result c.from_residual.ensures.1 in
    rw (p.1, p.2) (λ t size e w ready.
    let k = c.in_err-refusal.ensures in
    let known = ready_read size w c.find_own.new.self _ _ (k.only_reads.stays t) (k.ready t size w ready) in
    CarriesOut-unread (LeadsChange w.stored.frames c.args.name c.args.change) (ChangesPool w c.args.client c.args.name c.args.change) size w c.find_own.new.self _ _ _ _ (command_of_change c.args.change c.args.client c.args.name) (change_is_plain c.args.client c.args.name c.args.change) (k.only_reads.stays t) known
    c.in_err-refusal.field-0.0 k.only_reads.never_cut k.only_reads.cause)

pub returns-in-Err-clause-carries : goal.returns-in-Err-clause-carries
returns-in-Err-clause-carries g c = λ t size e w ready.
    let k = c.in_ok-refusal.ensures in
    let known = ready_read size w c.find_own.new.self _ _ (k.only_reads.stays t) (k.ready t size w ready) in
    let refused = sym (k.refusal t size w ready) ∙ ap refusal_found c.in-Err.is in
    CarriesOut-refused (LeadsChange w.stored.frames c.args.name c.args.change) (ChangesPool w c.args.client c.args.name c.args.change) size w c.find_own.new.self _ _ _ _ (command_of_change c.args.change c.args.client c.args.name) (change_is_plain c.args.client c.args.name c.args.change) (k.only_reads.stays t) known
    c.in-Err.refusal (refused_line w c.args.client c.args.name c.in-Err.refusal refused c.args.change) k.only_reads.cause

pub invariant_of-memory : goal.invariant_of-memory
invariant_of-memory g c =
    let i = c.memory.invariant in
    (i.0, i.1, i.2, c.in_err-index_for.ensures.known)

pub invariant_of-memory-2 : goal.invariant_of-memory-2
invariant_of-memory-2 g c =
    let i = c.memory.invariant in
    (i.0, i.1, c.change_in.ensures.within, c.change_in.ensures.known)

pub returns-in_err-index_for-clause-carries : goal.returns-in_err-index_for-clause-carries
returns-in_err-index_for-clause-carries g c =
    let p = err_from_is_err_and c.from_residual-in_err-index_for.result c.from_residual-in_err-index_for.ensures.1 in
    rw (p.1, p.2) (λ t size e w ready.
    let k = c.in_ok-refusal.ensures in
    let b = c.in_err-index_for.ensures in
    let i = c.memory.inside in
    let view : Memory = record { frames = i.frames; active = i.opened; sessions = i.sessions; known_pools = i.known_pools } in
    let before = subst (λ (m : Memory). IsReady size w m (g.H.Host.state c.args.h.now)) (sym c.memory.view_is) (k.ready t size w ready) in
    let stays = b.only_reads.stays t ∙ k.only_reads.stays t in
    let built = ready_built size w view c.index_for.new.known_pools _ _ (k.only_reads.stays t) before (b.known_pools t _ refl) b.puddles in
    CarriesOut-unread (LeadsChange w.stored.frames c.args.name c.args.change) (ChangesPool w c.args.client c.args.name c.args.change) size w (record view { known_pools = c.index_for.new.known_pools }) _ _ _ _ (command_of_change c.args.change c.args.client c.args.name) (change_is_plain c.args.client c.args.name c.args.change) stays
    (ready_read size w (record view { known_pools = c.index_for.new.known_pools }) _ _ stays built) c.in_err-index_for.field-0.0 b.only_reads.never_cut
    (b.only_reads.cause ∙ ap (after_fault (Some c.in_err-index_for.field-0.0)) k.only_reads.cause))

pub returns-clause-carries : goal.returns-clause-carries
returns-clause-carries g c = λ t size e w ready.
    let k = c.in_ok-refusal.ensures in
    let b = c.in_ok-index_for.ensures in
    let i = c.memory.inside in
    let view : Memory = record { frames = i.frames; active = i.opened; sessions = i.sessions; known_pools = i.known_pools } in
    let before = subst (λ (m : Memory). IsReady size w m (g.H.Host.state c.args.h.now)) (sym c.memory.view_is) (k.ready t size w ready) in
    let stays = b.only_reads.stays t ∙ k.only_reads.stays t in
    let built = ready_built size w view c.index_for.new.known_pools _ _ (k.only_reads.stays t) before (b.known_pools t _ refl) b.puddles in
    let then = ready_read size w (record view { known_pools = c.index_for.new.known_pools }) _ _ stays built in
    let found = rw c.in-Ok.is at (k.own t size w ready) in
    let own = subst (λ (active : List (Option ActiveTransaction)). IsOwnTransactionOn c.args.client c.args.name c.in-Ok.own.slot c.in-Ok.own.log_number active) (sym (ap (λ (m : Memory). m.active) c.memory.view_is ∙ k.active)) found in
    let n = c.change_in.ensures in
    let d = n.does t size (still_size b.only_reads (still_size k.only_reads e)) w i.sessions c.args.client c.args.name then own in
    CarriesOut-replied (LeadsChange w.stored.frames c.args.name c.args.change) (ChangesPool w c.args.client c.args.name c.args.change) size w (record { frames = i.frames; active = c.change_in.new.all; sessions = i.sessions; known_pools = c.change_in.new.known_pools }) _ _ _ _ _ _ (command_of_change c.args.change c.args.client c.args.name)
    (change_is_plain c.args.client c.args.name c.args.change) stays (b.only_reads.cause ∙ k.only_reads.cause) (n.rest t) c.change_in.result
    d.acts d.reply d.applies n.cause
