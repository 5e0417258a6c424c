use Rattle.std.proofs.Common.{◌&&◌, Bool, false, sym, ap, ◌∙◌}
use Rattle.std.specs.List.{list_all}
use Rattle.std.proofs.lemmas.Bool.{and_left}
use Rattle.pud_defs.specs.RegistryTables.Registry.{is_loggable}
use Rattle.log_entry.specs.Copying.{image_of_copy, log_copied}
use Rattle.log_entry.proofs.Left.{IsReading-start, IsReading-more, MakesWhole-start, MakesWhole-more, MakesWhole-decided, MakesWhole-end}
use Rattle.soundness.proofs.judge.are_allowed.Goals as goal

pub loop-entry-init : goal.loop-entry-init
loop-entry-init c = record {
  reading = IsReading-start 0 c.new-reader.result c.new-reader.ensures;
  allowed = λ es are.
      MakesWhole-start {A = Unit {0}} (λ _. list_all (is_loggable c.args.frames (log_copied c.args.overlay.now.log))) (image_of_copy c.args.overlay.now.log) 0 c.new-reader.result tt es c.new-reader.ensures are;
}

pub loop-entry-preserved : goal.loop-entry-preserved
loop-entry-preserved c =
    let old = c.loop-entry.invariant in
    let all = list_all (is_loggable c.args.frames (log_copied c.args.overlay.now.log)) in
    let here = sym c.is_allowed.ensures ∙ c.if-not-is_allowed.false in
    record {
      reading = IsReading-more 0 _ c.in-Some.entry _ _ old.reading c.in-Some.is c.next.ensures.passes;
      allowed = λ es are.
          MakesWhole-more {A = Unit {0}} (λ _. all) (image_of_copy c.args.overlay.now.log) _ c.in-Some.entry _ _ tt tt _ (old.allowed es are) c.in-Some.is c.next.ensures.left
          (λ following. sym (ap (λ (b : Bool). b && all following) here));
    }

pub returns-then-not-is_allowed : goal.returns-then-not-is_allowed
returns-then-not-is_allowed c = λ es are.
    let all = list_all (is_loggable c.args.frames (log_copied c.args.overlay.now.log)) in
    let here = sym c.is_allowed.ensures ∙ c.if-not-is_allowed.true in
    MakesWhole-decided {A = Unit {0}} (λ _. all) (image_of_copy c.args.overlay.now.log) _ c.in-Some.entry _ _ tt _ false (c.loop-entry.invariant.allowed es are) c.in-Some.is c.next.ensures.left
    (λ following. and_left _ (all following) here)

pub returns : goal.returns
returns c = λ es are.
    MakesWhole-end {A = Unit {0}} (λ _. list_all (is_loggable c.args.frames (log_copied c.args.overlay.now.log))) (image_of_copy c.args.overlay.now.log) _ _ _ tt _ (c.loop-entry.invariant.allowed es are)
    c.in_default.is c.next.ensures.left
