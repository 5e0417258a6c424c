use Rattle.std.proofs.Common.{List, refl, sym, subst, arith}
use Rattle.pm_model.specs.Counts.{fault_of}
use Rattle.pm_model.specs.Masks.{masked_state, IsOff}
use Rattle.pud_defs.specs.declared.layout.TheConstants.{DAEMON_LOG}
use Rattle.pud_defs.specs.Logging.Entries.{Entry}
use Rattle.batch.specs.Batches.{ByBatch}
use Rattle.pud_defs.specs.RegistryTables.Puts.{mode_put}
use Rattle.registry.specs.Pools.{changing}
use Rattle.registry.proofs.Gathered.{first_put}
use Rattle.registry.proofs.Changed.{changing_of}
use Rattle.registry.proofs.Joined.{ChangesPools-mode, Commits-puts}
use Rattle.registry.proofs.changing.change_mode.Goals as goal

pub returns-clause-commits : goal.returns-clause-commits
returns-clause-commits g c = λ t size same idle.
    let is = first_put c.new-batch.result c.add_put.new.batch c.set_mode.result (mode_put c.args.slot c.args.mode) c.new-batch.ensures c.set_mode.ensures.put (omega arith) c.add_put.ensures in
    Commits-puts 0 size (changing c.args.slot c.args.mode) c.add_put.new.batch _ _ (g.H.Host.state c.args.h.now) _ refl (omega (arith, same)) (changing_of 0 c.args.slot c.args.mode c.requires.known) is
    (c.commit.ensures.commits t size same) idle

pub returns-clause-changes : goal.returns-clause-changes
returns-clause-changes g c = λ t size same s mask off settled r at legal.
    let is = first_put c.new-batch.result c.add_put.new.batch c.set_mode.result (mode_put c.args.slot c.args.mode) c.new-batch.ensures c.set_mode.ensures.put (omega arith) c.add_put.ensures in
    let a = g.H.Host.state c.args.h.now in
    let b = g.H.Host.state c.commit.new.h in
    let apart = subst (λ (es : List Entry). IsOff mask (ByBatch DAEMON_LOG es)) (sym is) off in
    ChangesPools-mode size s c.args.slot c.args.mode r c.add_put.new.batch (fault_of c.commit.result) (masked_state mask a) (masked_state mask b) c.requires.known settled at legal is
    (λ moves. c.commit.ensures.moves t size same s _ mask apart settled moves)
