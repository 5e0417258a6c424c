use Rattle.std.proofs.Common.{◌≡◌, true, false, Some, sym, ap, ◌∙◌, arith}
use Rattle.pm_model.specs.Words.{reads}
use Rattle.pm_model.specs.Moments.{State}
use Rattle.pm_model.proofs.Reading.{OnlyReads-none, OnlyReads-then, still_reads}
use Rattle.pud_defs.specs.declared.records.PuddleRecord.{PuddleRecord}
use Rattle.pud_defs.specs.Formats.Image.{Image}
use Rattle.pud_defs.specs.RegistryTables.Puddles.{puddle_record_at}
use Rattle.puddle_table.specs.Records.{is_member}
use Rattle.puddle_table.proofs.Search.{found_from-start, found_from-here, found_from-other, found_from-end, found_moved}
use Rattle.puddle_table.proofs.of_pool.Goals as goal

pub returns-then-names-clause-found : goal.returns-then-names-clause-found
returns-then-names-clause-found g c = λ t image e.
    let frame = c.loop-frame.frame in
    let within = c.loop-frame-test.true in
    let before = still_reads c.loop-frame.invariant.only_reads t e in
    let word : c.in_ok-member.member ≡ image (puddle_record_at frame) =
    c.in_ok-member.ensures.value t ∙ ap (λ (f : Image). f c.puddle_record_at.result) before ∙ ap image c.puddle_record_at.ensures in
    let names : is_member (image (puddle_record_at frame)) c.args.pool c.args.ordinal ≡ true =
    ap (λ w. is_member w c.args.pool c.args.ordinal) (sym word) ∙ sym c.names.ensures ∙ c.if-names.true in
    let read = c.in_ok-read_record.ensures.record t image (still_reads c.load.ensures.only_reads t before) in
    ap (λ (r : PuddleRecord). Some (frame, r)) read
    ∙ sym (found_moved _ image c.args.frames c.args.pool c.args.ordinal frame e (c.loop-frame.invariant.found t) ∙ found_from-here c.args.frames image c.args.pool c.args.ordinal frame (omega arith) names)

pub loop-frame-init : goal.loop-frame-init
loop-frame-init g c = record { only_reads = OnlyReads-none; found = λ t. found_from-start c.args.frames (reads (g.H.Host.state c.args.h.now).now.words) c.args.pool c.args.ordinal }

pub loop-frame-preserved : goal.loop-frame-preserved
loop-frame-preserved g c = record {
  only_reads = OnlyReads-then c.loop-frame.invariant.only_reads c.in_ok-member.ensures.only_reads;
  found = λ t.
      let frame = c.loop-frame.frame in
      let within = c.loop-frame-test.true in
      let image = reads (g.H.Host.state c.args.h.now).now.words in
      let word : c.in_ok-member.member ≡ image (puddle_record_at frame) =
      c.in_ok-member.ensures.value t ∙ ap (λ (s : State). reads s.now.words c.puddle_record_at.result) (c.loop-frame.invariant.only_reads.stays t) ∙ ap image c.puddle_record_at.ensures in
      let names : is_member (image (puddle_record_at frame)) c.args.pool c.args.ordinal ≡ false =
      ap (λ w. is_member w c.args.pool c.args.ordinal) (sym word) ∙ sym c.names.ensures ∙ c.if-names.false in
      c.loop-frame.invariant.found t ∙ found_from-other c.args.frames image c.args.pool c.args.ordinal frame (omega arith) names;
}

pub returns-clause-found : goal.returns-clause-found
returns-clause-found g c = λ t image e.
    sym (found_moved _ image c.args.frames c.args.pool c.args.ordinal c.loop-frame.frame e (c.loop-frame.invariant.found t)
    ∙ found_from-end c.args.frames image c.args.pool c.args.ordinal c.loop-frame.frame (omega arith))
