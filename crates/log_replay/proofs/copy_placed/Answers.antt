use Rattle.std.proofs.Common.{ap, ◌∙◌}
use Rattle.pm_model.proofs.Reading.{still_reads}
use Rattle.pud_defs.specs.Logging.Entries.{Log}
use Rattle.log_replay.specs.Replaying.{log_to}
use Rattle.log_replay.proofs.copy_placed.Goals as goal

pub returns-clause-placed : goal.returns-clause-placed
returns-clause-placed g c = λ t image same es are.
    let copied = c.in_ok-load.ensures.copied t image same in
    record {
      log = c.in_ok-place.ensures.placed t image (still_reads c.in_ok-load.ensures.only_reads t same) es (ap (λ (l : Log). l.entries) copied ∙ are)
          ∙ ap (log_to c.args.to image) copied;
    }
