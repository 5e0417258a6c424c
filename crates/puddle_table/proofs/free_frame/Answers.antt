use Rattle.std.proofs.Common.{◌≡◌, refl, sym, ap, ◌∙◌, arith}
use Rattle.pm_model.specs.Words.{reads}
use Rattle.pm_model.specs.Moments.{State}
use Rattle.pm_model.proofs.Reading.{OnlyReads-none, OnlyReads-then, still_reads}
use Rattle.pud_defs.specs.Formats.Image.{Image}
use Rattle.pud_defs.specs.RegistryTables.Puddles.{puddle_record_at}
use Rattle.puddle_table.specs.Records.{frame_by}
use Rattle.puddle_table.proofs.Search.{lowest_here, lowest_later, lowest_none, lowest_moved}
use Rattle.puddle_table.proofs.free_frame.Goals as goal

pub returns-then-member-eq0-clause-frame : goal.returns-then-member-eq0-clause-frame
returns-then-member-eq0-clause-frame g c = λ t image e none.
    let frame = c.loop-frame.frame in
    let within = c.loop-frame-test.true in
    let word : c.in_ok-member.member ≡ image (puddle_record_at frame) =
    c.in_ok-member.ensures.value t ∙ ap (λ (f : Image). f c.puddle_record_at.result) (still_reads c.loop-frame.invariant.only_reads t e) ∙ ap image c.puddle_record_at.ensures in
    sym (ap frame_by (lowest_moved _ image c.args.frames c.args.from frame e (c.loop-frame.invariant.lowest t) ∙ lowest_here c.args.frames image frame (omega arith) (sym word ∙ c.if-member-eq0.true)))

pub loop-frame-init : goal.loop-frame-init
loop-frame-init g c = record { only_reads = OnlyReads-none; lowest = λ t. refl }

pub loop-frame-preserved : goal.loop-frame-preserved
loop-frame-preserved g c = record {
  only_reads = OnlyReads-then c.loop-frame.invariant.only_reads c.in_ok-member.ensures.only_reads;
  lowest = λ t.
      let frame = c.loop-frame.frame in
      let within = c.loop-frame-test.true in
      let image = reads (g.H.Host.state c.args.h.now).now.words in
      let word : c.in_ok-member.member ≡ image (puddle_record_at frame) =
      c.in_ok-member.ensures.value t ∙ ap (λ (s : State). reads s.now.words c.puddle_record_at.result) (c.loop-frame.invariant.only_reads.stays t) ∙ ap image c.puddle_record_at.ensures in
      c.loop-frame.invariant.lowest t ∙ lowest_later c.args.frames image frame (omega arith) (λ empty. c.if-member-eq0.false (word ∙ empty));
}

pub returns-clause-frame : goal.returns-clause-frame
returns-clause-frame g c = λ t image e none.
    sym (ap frame_by (lowest_moved _ image c.args.frames c.args.from c.loop-frame.frame e (c.loop-frame.invariant.lowest t) ∙ lowest_none c.args.frames image c.loop-frame.frame (omega arith)))
