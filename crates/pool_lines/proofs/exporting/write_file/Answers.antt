use Rattle.pud_export.proofs.SlotsRead.{low_bases}
use Rattle.pool_lines.proofs.FileTransfers.FileLines.{HoldsPool-put}
use Rattle.pool_lines.proofs.exporting.write_file.Goals as goal
use Rattle.pm_model.proofs.Saying.{LeavesFile-same}

pub returns-in-Ok-clause-written : goal.returns-in-Ok-clause-written
returns-in-Ok-clause-written g c = λ t image same graph is fits.
    HoldsPool-put c.put_file.result _ _ c.args.puddles.now graph image _ c.in-Ok.bytes.items _ _ _ _ c.as_slice.ensures.value (c.in-Ok.ensures.only_reads.stays t)
    (c.in-Ok.ensures.words t (low_bases c.args.puddles.now fits.legal_bases) image same graph is) c.in-Ok.ensures.whole (c.in-Ok.ensures.file t image same graph is fits)
    (c.put_file.ensures.put t)

pub returns-in-Err-Memory-clause-failed : goal.returns-in-Err-Memory-clause-failed
returns-in-Err-Memory-clause-failed g c = λ t. LeavesFile-same _ _ _ (c.in-Err-Memory.ensures.only_reads.stays t)

pub returns-in-Err-Host-clause-failed : goal.returns-in-Err-Host-clause-failed
returns-in-Err-Host-clause-failed g c = λ t. LeavesFile-same _ _ _ (c.in-Err-Host.ensures.only_reads.stays t)
