use Rattle.std.proofs.Common.{◌≡◌, Some, None, option_map, sym, ap, ◌∙◌}
use Rattle.pm_model.proofs.Reading.{still_reads}
use Rattle.pud_defs.specs.Logging.Entries.{log_of}
use Rattle.pud_defs.specs.RegistryTables.Spaces.{owner_of}
use Rattle.pud_defs.specs.RegistryTables.Tables.{tables_of}
use Rattle.pud_defs.specs.Logging.Allowed.{puddle_word}
use Rattle.pud_defs.specs.Logging.Settled.{client_of_log, log_number_at}
use Rattle.log_replay.specs.Placing.{placed_log}
use Rattle.recover.specs.Verdicts.{owner_by_record, mark_for}
use Rattle.recover.proofs.Judged.{verdict_of-free, verdict_of-registered}
use Rattle.recover.proofs.judge.judge_log.Goals as goal

pub returns-in_default-clause-judged : goal.returns-in_default-clause-judged
returns-in_default-clause-judged g c = λ t image is.
    let free : owner_of image (client_of_log c.args.number) ≡ None = sym (c.in_ok-who.ensures.owner t image is) ∙ ap (option_map owner_by_record) c.in_default.is in
    record { verdict = sym (verdict_of-free c.args.frames image c.args.number free); copied = tt }

pub returns-clause-judged : goal.returns-clause-judged
returns-clause-judged g c = λ t image is.
    let F = c.args.frames in
    let number = c.args.number in
    let at = log_number_at F number in
    let registered : owner_of image (client_of_log number) ≡ Some (owner_by_record c.in-Some.who) = sym (c.in_ok-who.ensures.owner t image is) ∙ ap (option_map owner_by_record) c.in-Some.is in
    let following = still_reads c.owner_of.ensures.only_reads t is in
    let further = still_reads c.load.ensures.only_reads t following in
    let copied = c.in_ok-load.ensures.copied t image following ∙ ap (log_of image) c.log_number_at.ensures in
    record {
      verdict = ap Some (c.in_ok-mark.ensures.mark t image further ∙ ap (mark_for (tables_of F image) (owner_by_record c.in-Some.who)) copied) ∙ sym (verdict_of-registered F image number (owner_by_record c.in-Some.who) registered);
      copied = record {
        placed = λ replayed. record { log = c.in_ok-mark.ensures.placed t image further replayed ∙ ap (placed_log (puddle_word (tables_of F image))) copied };
      };
    }
