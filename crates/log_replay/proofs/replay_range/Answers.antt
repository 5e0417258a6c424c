use Rattle.std.proofs.Common.{refl, subst}
use Rattle.std.proofs.lemmas.Result.{err_from_is_err_and}
use Rattle.pm_model.specs.Words.{reads}
use Rattle.pm_model.specs.Moments.{State}
use Rattle.pm_model.specs.Counts.{fault_of}
use Rattle.pm_model.proofs.Reading.{Changes-read}
use Rattle.log_replay.specs.Replaying.{address_map_of, new_values, IsPlacedCopy, IsReplayable, HasDurableLog, Replays, ReplaysAgain}
use Rattle.log_replay.proofs.Applying.{AppliesEntries-failed_still, size_then}
use Rattle.log_replay.proofs.Whole.{Replays-failed, replays_again}
use Rattle.log_replay.proofs.replay_range.Goals as goal

pub returns-in_err-copy_placed-clause-replays : goal.returns-in_err-copy_placed-clause-replays
returns-in_err-copy_placed-clause-replays g c =
    let p = err_from_is_err_and c.from_residual.result c.from_residual.ensures.1 in
    rw (p.1, p.2) (λ t size same es r.
    Replays-failed c.args.to c.args.log_at _ _ _ (AppliesEntries-failed_still (new_values c.args.to c.args.log_at (reads (g.H.Host.state c.args.h.now).now.words)) _ _ _ (Changes-read c.in_err-copy_placed.ensures.only_reads t)))

pub returns-in_err-copy_placed-clause-again : goal.returns-in_err-copy_placed-clause-again
returns-in_err-copy_placed-clause-again g c = λ t size same es r d.
    replays_again c.args.to size c.args.log_at es (fault_of c.copy_placed.result) _ _ r d (Changes-read c.copy_placed.ensures.only_reads t)

pub returns-clause-replays : goal.returns-clause-replays
returns-clause-replays g c = λ t size same es r.
    let to = c.args.to in
    let at = c.args.log_at in
    let copied = c.in_ok-copy_placed.ensures.placed t _ refl es r.spells in
    subst (λ (x : State). IsReplayable (address_map_of to (reads x.now.words)) size at es (reads x.now.words) → IsPlacedCopy to at (reads x.now.words) c.copy_placed.new.copy
    → Replays to at (fault_of c.replay_copy.result) x (g.H.Host.state c.replay_copy.new.h))
    (c.in_ok-copy_placed.ensures.only_reads.stays t) (c.replay_copy.ensures.replays t size (size_then size _ _ same c.in_ok-copy_placed.ensures.only_reads.cause) to at es) r copied

pub returns-clause-again : goal.returns-clause-again
returns-clause-again g c = λ t size same es r d.
    let to = c.args.to in
    let at = c.args.log_at in
    let copied = c.in_ok-copy_placed.ensures.placed t _ refl es r.spells in
    subst (λ (x : State). IsReplayable (address_map_of to (reads x.now.words)) size at es (reads x.now.words) → IsPlacedCopy to at (reads x.now.words) c.copy_placed.new.copy → HasDurableLog to at x.now.words
    → ReplaysAgain to size at es x (g.H.Host.state c.replay_copy.new.h))
    (c.in_ok-copy_placed.ensures.only_reads.stays t) (c.replay_copy.ensures.again t size (size_then size _ _ same c.in_ok-copy_placed.ensures.only_reads.cause) to at es) r copied d
