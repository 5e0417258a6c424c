use Rattle.log_entry.specs.Copying.{image_of_copy, log_copied}
use Rattle.log_entry.proofs.Left.{IsReading-start, IsReading-more, MakesWhole-start, MakesWhole-more, MakesWhole-end}
use Rattle.soundness.proofs.Overlaid.{given_then, given_then-more, gives_all}
use Rattle.soundness.proofs.overlay.Overlay.given.Goals as goal

pub loop-entry-init : goal.loop-entry-init
loop-entry-init c = record {
  reading = IsReading-start 0 c.new-reader.result c.new-reader.ensures;
  gives = λ es are. MakesWhole-start (given_then (log_copied c.args.self.now.log) c.args.w) (image_of_copy c.args.self.now.log) 0 c.new-reader.result _ es c.new-reader.ensures are;
}

pub loop-entry-preserved : goal.loop-entry-preserved
loop-entry-preserved c =
    let old = c.loop-entry.invariant in
    let log = log_copied c.args.self.now.log in
    record {
      reading = IsReading-more 0 _ c.in-Some.entry _ _ old.reading c.in-Some.is c.next.ensures.passes;
      gives = λ es are.
          MakesWhole-more (given_then log c.args.w) (image_of_copy c.args.self.now.log) _ c.in-Some.entry _ _ c.loop-entry.given c.add-given.result _ (old.gives es are) c.in-Some.is c.next.ensures.left
          (given_then-more log _ c.args.w c.loop-entry.given c.add-given.result c.add-given.ensures);
    }

pub returns : goal.returns
returns c = λ es are.
    let old = c.loop-entry.invariant in
    let log = log_copied c.args.self.now.log in
    gives_all log c.args.w es c.loop-entry.given
    (MakesWhole-end (given_then log c.args.w) (image_of_copy c.args.self.now.log) _ _ _ c.loop-entry.given _ (old.gives es are) c.in_default.is c.next.ensures.left)
