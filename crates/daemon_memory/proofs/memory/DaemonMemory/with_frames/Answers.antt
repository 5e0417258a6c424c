use Rattle.std.proofs.Common.{subst, sym}
use Rattle.pud_defs.specs.declared.records.TheConstants.{POOL_RECORDS}
use Rattle.pud_defs.specs.Logging.Settled.{ALL_LOGS}
use Rattle.daemon_memory.specs.ActiveTransactions.{AreActiveWithin}
use Rattle.daemon_memory.specs.PoolKnowledge.{AreOnDevice}
use Rattle.daemon_memory.proofs.PoolsKnown.Known.{AreOnDevice-none}
use Rattle.daemon_memory.proofs.OpenTransactions.NoneActive.{AreActiveWithin-none}
use Rattle.daemon_memory.proofs.memory.DaemonMemory.with_frames.Goals as goal

pub invariant_of-result : goal.invariant_of-result
invariant_of-result c =
    let frames = c.args.frames in
    (c.requires.some, c.requires.no_more, subst (AreActiveWithin frames) (sym c.no_transactions.ensures) (AreActiveWithin-none frames ALL_LOGS), subst (AreOnDevice frames) (sym c.none.ensures) (AreOnDevice-none frames POOL_RECORDS))
