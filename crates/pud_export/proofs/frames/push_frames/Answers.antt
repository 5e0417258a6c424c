use Rattle.std.proofs.Common.{rules}
use Rattle.pud_defs.specs.PoolGraphs.Exported.{exported_frame}
use Rattle.pud_defs.specs.PoolGraphs.Stored.{stored_in}
use Rattle.pud_export.proofs.FramesRead.{frames_more}
use Rattle.pm_model.proofs.Reading.{still_reads}
use Rattle.pud_export.proofs.frames.push_frames.Goals as goal

pub loop-ordinal-preserved : goal.loop-ordinal-preserved
loop-ordinal-preserved g c = record {
  only_reads = search rules;
  words = λ t low image same.
      let before = still_reads c.loop-ordinal.invariant.only_reads t same in
      frames_more (exported_frame c.args.types.now (stored_in c.args.frames c.args.pool.now image)) c.loop-ordinal.ordinal c.args.words.now c.loop-ordinal.words c.push_frame.new.words
      (c.loop-ordinal.invariant.words t low image same) (c.in_ok-push_frame.ensures.words t low image before);
}
