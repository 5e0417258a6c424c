use Rattle.std.proofs.Common.{◌||◌, replicate, Bool, false, List, sym, ap, subst, ◌∙◌, arith}
use Rattle.std.proofs.lemmas.List.{get_or-replicate}
use Rattle.pm_model.proofs.Reading.{OnlyReads-none, OnlyReads-then, still_reads}
use Rattle.pud_defs.specs.Logging.Entries.{Entry}
use Rattle.log_entry.specs.Reading.{entry_from}
use Rattle.log_entry.proofs.Left.{IsReading-after, IsReading-more, MakesWhole, MakesWhole-after, MakesWhole-more, MakesWhole-decided, MakesWhole-end}
use Rattle.word_transaction.specs.Coverage.{covers, is_covered, are_covered}
use Rattle.word_transaction.proofs.Marked.{covered_with, covered_with-start, covered_with-more, covered_with-end, covered_with-all, or-assoc, or-false, one_covered}
use Rattle.word_transaction.proofs.covering.find_covered.Goals as goal

pub loop-entry-init : goal.loop-entry-init
loop-entry-init g c =
    let address = c.args.address in
    let count = c.args.count in
    let blank : List Bool = replicate 32 false in
    record {
      reading = IsReading-after c.args.at c.from.result c.after-reader.result c.after-reader.ensures (let few = c.requires.counted in omega (arith, few, c.from.ensures));
      only_reads = OnlyReads-none;
      covered = λ t image same es back are ends fits.
          subst (λ (b : Bool). MakesWhole (covered_with address count) image c.after-reader.result blank b) (covered_with-start address count blank back (λ i below. get_or-replicate 32 i false false (omega arith)))
          (MakesWhole-after (covered_with address count) image c.args.at c.from.result c.after-reader.result blank es back c.after-reader.ensures are (ends ∙ sym c.from.ensures));
      other = λ t image same es back are ends. MakesWhole-after (λ (b : Bool) (left : List Entry). b || is_covered left c.args.address2) image c.args.at c.from.result c.after-reader.result false es back c.after-reader.ensures are (ends ∙ sym c.from.ensures);
    }

pub loop-entry-preserved : goal.loop-entry-preserved
loop-entry-preserved g c =
    let old = c.loop-entry.invariant in
    let address = c.args.address in
    let count = c.args.count in
    record {
      reading = IsReading-more c.args.at _ c.in-Some.entry _ _ old.reading c.in-Some.is c.in_ok-entry.ensures.passes;
      only_reads = OnlyReads-then old.only_reads c.in_ok-entry.ensures.only_reads;
      covered = λ t image same es back are ends fits.
          MakesWhole-more (covered_with address count) image _ c.in-Some.entry _ _ c.loop-entry.marks c.mark_covered.new.marks (are_covered back address count) (old.covered t image same es back are ends fits) c.in-Some.is
          (c.in_ok-entry.ensures.left t image (still_reads old.only_reads t same))
          (λ left. covered_with-more address count (entry_from image c.in-Some.entry) c.loop-entry.marks c.mark_covered.new.marks left (c.mark_covered.ensures image fits));
      other = λ t image same es back are ends.
          MakesWhole-more (λ (b : Bool) (left : List Entry). b || is_covered left c.args.address2) image _ c.in-Some.entry _ _ c.loop-entry.other _ (is_covered back c.args.address2) (old.other t image same es back are ends) c.in-Some.is
          (c.in_ok-entry.ensures.left t image (still_reads old.only_reads t same))
          (λ left.
          ap (λ (b : Bool). (c.loop-entry.other || b) || is_covered left c.args.address2) (c.covers-other.ensures image)
          ∙ or-assoc c.loop-entry.other (covers c.args.address2 (entry_from image c.in-Some.entry)) (is_covered left c.args.address2));
    }

pub returns-then-all_marked-clause-covered : goal.returns-then-all_marked-clause-covered
returns-then-all_marked-clause-covered g c = λ t image same es back are ends fits.
    let old = c.loop-entry.invariant in
    let address = c.args.address in
    let count = c.args.count in
    MakesWhole-decided (covered_with address count) image _ c.in-Some.entry _ _ c.loop-entry.marks (are_covered back address count) _ (old.covered t image same es back are ends fits) c.in-Some.is
    (c.in_ok-entry.ensures.left t image (still_reads old.only_reads t same))
    (λ left.
    sym (covered_with-more address count (entry_from image c.in-Some.entry) c.loop-entry.marks c.mark_covered.new.marks left (c.mark_covered.ensures image fits))
    ∙ covered_with-all address count c.mark_covered.new.marks left (sym c.all_marked.ensures ∙ c.if-all_marked.true))

pub returns-then-all_marked-clause-other : goal.returns-then-all_marked-clause-other
returns-then-all_marked-clause-other g c = λ t image same es back are ends.
    let old = c.loop-entry.invariant in
    let address = c.args.address2 in
    MakesWhole-decided (λ (b : Bool) (left : List Entry). b || is_covered left address) image _ c.in-Some.entry _ _ c.loop-entry.other (is_covered back address) _ (old.other t image same es back are ends) c.in-Some.is
    (c.in_ok-entry.ensures.left t image (still_reads old.only_reads t same))
    (λ left.
    sym (or-assoc c.loop-entry.other (covers address (entry_from image c.in-Some.entry)) (is_covered left address))
    ∙ ap (λ (b : Bool). b || is_covered left address) (ap (λ (b : Bool). c.loop-entry.other || b) (sym (c.covers-other.ensures image)) ∙ c.if-other.true))
    ∙ sym (one_covered back address)

pub returns-clause-covered : goal.returns-clause-covered
returns-clause-covered g c = λ t image same es back are ends fits.
    let old = c.loop-entry.invariant in
    let address = c.args.address in
    let count = c.args.count in
    c.all_marked-2.ensures ∙ sym (covered_with-end address count c.loop-entry.marks)
    ∙ MakesWhole-end (covered_with address count) image _ _ _ c.loop-entry.marks (are_covered back address count) (old.covered t image same es back are ends fits) c.in_default.is (c.in_ok-entry.ensures.left t image (still_reads old.only_reads t same))

pub returns-clause-other : goal.returns-clause-other
returns-clause-other g c = λ t image same es back are ends.
    let old = c.loop-entry.invariant in
    let address = c.args.address2 in
    sym (or-false c.loop-entry.other)
    ∙ MakesWhole-end (λ (b : Bool) (left : List Entry). b || is_covered left address) image _ _ _ c.loop-entry.other (is_covered back address) (old.other t image same es back are ends) c.in_default.is
    (c.in_ok-entry.ensures.left t image (still_reads old.only_reads t same))
    ∙ sym (one_covered back address)
