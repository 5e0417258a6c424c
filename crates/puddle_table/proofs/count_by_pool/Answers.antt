use Rattle.std.proofs.Common.{◌≡◌, ap, ◌∙◌, subst, arith}
use Rattle.pm_model.specs.Words.{reads}
use Rattle.pm_model.specs.Moments.{State}
use Rattle.pud_defs.specs.Formats.Image.{Image}
use Rattle.pud_defs.specs.RegistryTables.Puddles.{puddle_record_at}
use Rattle.pud_defs.specs.RegistryTables.Tables.{tables_of}
use Rattle.puddle_table.specs.Records.{CountsPools}
use Rattle.puddle_table.proofs.Counting.{few_counted, IsCounted-start, IsCounted-more, CountsPools-end}
use Rattle.pm_model.proofs.Reading.{OnlyReads-none, OnlyReads-then}
use Rattle.puddle_table.proofs.count_by_pool.Goals as goal

pub loop-frame-init : goal.loop-frame-init
loop-frame-init g c = record {
  few = few_counted;
  only_reads = OnlyReads-none;
  counted = λ t. IsCounted-start c.args.frames (tables_of c.args.frames (reads (g.H.Host.state c.args.h.now).now.words));
}

pub loop-frame-preserved : goal.loop-frame-preserved
loop-frame-preserved g c = record {
  few = c.count_member.ensures.within c.loop-frame.frame c.loop-frame.invariant.few;
  only_reads = OnlyReads-then c.loop-frame.invariant.only_reads c.in_ok-member.ensures.only_reads;
  counted = λ t.
      let frame = c.loop-frame.frame in
      let image = reads (g.H.Host.state c.args.h.now).now.words in
      let word : c.in_ok-member.member ≡ image (puddle_record_at frame) =
      c.in_ok-member.ensures.value t ∙ ap (λ (s : State). reads s.now.words c.puddle_record_at.result) (c.loop-frame.invariant.only_reads.stays t) ∙ ap image c.puddle_record_at.ensures in
      IsCounted-more c.args.frames image frame c.loop-frame-test.true c.in_ok-member.member c.loop-frame.counts c.count_member.new.counts word c.count_member.ensures.counted (c.loop-frame.invariant.counted t);
}

pub returns-clause-counts : goal.returns-clause-counts
returns-clause-counts g c = λ t image e.
    subst (λ (w : Image). CountsPools c.args.frames (tables_of c.args.frames w) c.loop-frame.counts) e
    (CountsPools-end c.args.frames c.loop-frame.frame (tables_of c.args.frames (reads (g.H.Host.state c.args.h.now).now.words)) c.loop-frame.counts (omega arith) (c.loop-frame.invariant.counted t))
