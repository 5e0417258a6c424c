use Rattle.std.proofs.Common.{refl, subst}
use Rattle.std.proofs.lemmas.Result.{err_from_is_err_and}
use Rattle.pm_model.specs.Words.{reads}
use Rattle.pm_model.specs.Moments.{State}
use Rattle.pm_model.specs.Counts.{fault_of}
use Rattle.pm_model.proofs.Reading.{Changes-read}
use Rattle.pud_defs.specs.Logging.Replay.{device_word, undo_value}
use Rattle.log_entry.specs.Copying.{log_copied}
use Rattle.log_replay.specs.Replaying.{old_values, Undoes}
use Rattle.log_replay.proofs.Applying.{size_then}
use Rattle.log_replay.proofs.Past.{split_copy, Undoes-failed, Undoes-same}
use Rattle.log_replay.proofs.undo_past.Goals as goal

pub returns-in_err-copy_placed-clause-undoes : goal.returns-in_err-copy_placed-clause-undoes
returns-in_err-copy_placed-clause-undoes g c =
    let p = err_from_is_err_and c.from_residual.result c.from_residual.ensures.1 in
    rw (p.1, p.2) (λ t size same front back r ends.
    Undoes-failed (old_values c.args.to c.args.log_at back (reads (g.H.Host.state c.args.h.now).now.words)) _ _ _ (Changes-read c.in_err-copy_placed.ensures.only_reads t))

pub returns-clause-undoes : goal.returns-clause-undoes
returns-clause-undoes g c = λ t size same front back r ends.
    let to = c.args.to in
    let at = c.args.log_at in
    let copy = c.copy_placed.new.copy in
    let fault = fault_of c.undo_after.result in
    let image = reads (g.H.Host.state c.args.h.now).now.words in
    let it = split_copy to size at c.args.passed front back image copy r ends (c.in_ok-copy_placed.ensures.placed t image refl _ r.spells) in
    let write = undo_value device_word (log_copied copy) it.es in
    Undoes-same write (old_values to at back image) fault _ _ it.gives
    (subst (λ (x : State). Undoes write fault x (g.H.Host.state c.undo_after.new.h)) (c.in_ok-copy_placed.ensures.only_reads.stays t)
    (c.undo_after.ensures.undoes t size (size_then size _ _ same c.in_ok-copy_placed.ensures.only_reads.cause) _ refl it.es it.left it.within))
