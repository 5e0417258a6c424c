use Rattle.std.proofs.Common.{◌≡◌, false, is_some, sym, ap, ◌∙◌}
use Rattle.pud_defs.specs.Logging.Entries.{is_legal_gate}
use Rattle.log_entry.specs.Reading.{Reading}
use Rattle.log_entry.specs.Copying.{Copied, image_of_copy}
use Rattle.log_entry.proofs.Left.{entries_left-start, IsReading-start, not_formed}
use Rattle.log_entry.proofs.copy.LogCopy.is_well_formed.Goals as goal

pub returns-then-not-is_legal_gate : goal.returns-then-not-is_legal_gate
returns-then-not-is_legal_gate c =
    let illegal : is_legal_gate (image_of_copy c.args.self.now 0) ≡ false = ap (λ (x : Copied). is_legal_gate x.gate) (sym c.self.view_is) ∙ sym c.is_legal_gate.ensures ∙ c.if-not-is_legal_gate.true in
    sym (not_formed (image_of_copy c.args.self.now) 0 illegal)

pub loop-entry-init : goal.loop-entry-init
loop-entry-init c = record {
  reading = IsReading-start 0 c.new-reader.result c.new-reader.ensures;
  passed = sym (ap (λ (r : Reading). r.passed) c.new-reader.ensures);
  formed = ap is_some (entries_left-start (image_of_copy c.args.self.now) 0 c.new-reader.result c.new-reader.ensures);
}
