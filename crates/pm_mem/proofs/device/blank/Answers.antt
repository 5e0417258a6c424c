use Rattle.std.proofs.Common.{arith, ◌∙◌, ap, set}
use Rattle.pm_mem.specs.declared.event.Event.{Event}
use Rattle.pm_mem.specs.Events.{blanked}
use Rattle.pm_mem.proofs.Poked.{blanks_more}
use Rattle.pm_mem.proofs.device.blank.Goals as goal

pub loop-at-preserved : goal.loop-at-preserved
loop-at-preserved c =
    let before = c.loop-at.invariant in
    record {
      items = ap (λ (e : Event). set c.loop-at.events.items c.loop-at.at e) c.blanked.ensures
          ∙ blanks_more (blanked c.args.word) c.args.events.now.items c.loop-at.events.items c.loop-at.at c.index.result.now (omega arith) before.items c.index.ensures;
      len = before.len;
      capacity = before.capacity;
    }
