use Rattle.std.proofs.Common.{◌≡◌, Option, refl, sym, subst, ◌∙◌, arith}
use Rattle.std.specs.Prelude.{IfSome}
use Rattle.pm_model.specs.Words.{reads}
use Rattle.pm_model.proofs.Reading.{still_reads}
use Rattle.pud_defs.specs.declared.layout.TheConstants.{DAEMON_LOG}
use Rattle.pud_defs.specs.Logging.Entries.{log_of}
use Rattle.log_entry.specs.Copying.{Copied, log_copied}
use Rattle.soundness.proofs.Judged.{unsound_small, unsound_header}
use Rattle.soundness.proofs.judge.judge_device.Goals as goal

pub returns-then-words-device_words-clause-sound : goal.returns-then-words-device_words-clause-sound
returns-then-words-device_words-clause-sound g c = λ t. sym (unsound_small (g.H.Host.counts c.args.h.now).size (reads (g.H.Host.state c.args.h.now).now.words) (omega arith))

pub returns-in_default-clause-sound : goal.returns-in_default-clause-sound
returns-in_default-clause-sound g c = λ t. sym (unsound_header _ _ (sym (c.in_ok-frames.ensures.frames t) ∙ c.in_default.is))

pub returns-in-Some-2-clause-log : goal.returns-in-Some-2-clause-log
returns-in-Some-2-clause-log g c = λ t.
    let image = reads (g.H.Host.state c.args.h.now).now.words in
    subst (λ (o : Option Copied). IfSome o (λ (copy : Copied). log_copied copy ≡ log_of image DAEMON_LOG)) c.in-Some-2.is
    (c.in_ok-log.ensures.log t image (still_reads c.described_frames.ensures.only_reads t refl))
