use Rattle.std.proofs.Common.{refl, subst}
use Rattle.std.proofs.lemmas.Result.{err_from_is_err_and}
use Rattle.pm_model.specs.Words.{reads}
use Rattle.pm_model.specs.Moments.{State}
use Rattle.pm_model.specs.Changes.{Leaves, Silently}
use Rattle.pm_model.specs.Counts.{fault_of}
use Rattle.pm_model.proofs.Reading.{Changes-read}
use Rattle.log_replay.specs.Replaying.{address_map_of, new_values, IsPlacedCopy, IsReplayable, HasDurableLog, IsSettling, SettlesLog}
use Rattle.log_replay.proofs.Applying.{AppliesEntries-failed_still, size_then}
use Rattle.log_replay.proofs.Whole.{Replays-failed, replays_again}
use Rattle.log_replay.proofs.Closing.{SettlesLog-replay, moments-replay, moments-same}
use Rattle.log_replay.proofs.settle_log.Goals as goal

pub returns-in_err-copy_placed-clause-settles : goal.returns-in_err-copy_placed-clause-settles
returns-in_err-copy_placed-clause-settles g c =
    let p = err_from_is_err_and c.from_residual.result c.from_residual.ensures.1 in
    rw (p.1, p.2) (λ t size same es r.
    SettlesLog-replay c.args.to c.args.log_at _ _ _
    (Replays-failed c.args.to c.args.log_at _ _ _
    (AppliesEntries-failed_still (new_values c.args.to c.args.log_at (reads (g.H.Host.state c.args.h.now).now.words)) _ _ _ (Changes-read c.in_err-copy_placed.ensures.only_reads t))))

pub returns-in_err-copy_placed-clause-moments : goal.returns-in_err-copy_placed-clause-moments
returns-in_err-copy_placed-clause-moments g c = λ t size same es r d.
    moments-replay c.args.to size c.args.log_at es _ r d _
    (replays_again c.args.to size c.args.log_at es (fault_of c.copy_placed.result) _ _ r d (Changes-read c.copy_placed.ensures.only_reads t))

pub returns-in_err-copy_placed-clause-same : goal.returns-in_err-copy_placed-clause-same
returns-in_err-copy_placed-clause-same g c = λ t words size same es r d.
    moments-same c.args.to size c.args.log_at es _ _ words r d (returns-in_err-copy_placed-clause-moments g c t size same es)

pub returns-clause-settles : goal.returns-clause-settles
returns-clause-settles g c = λ t size same es r.
    let to = c.args.to in
    let at = c.args.log_at in
    let copied = c.in_ok-copy_placed.ensures.placed t _ refl es r.spells in
    subst (λ (x : State). IsReplayable (address_map_of to (reads x.now.words)) size at es (reads x.now.words) → IsPlacedCopy to at (reads x.now.words) c.copy_placed.new.copy
    → SettlesLog to at (fault_of c.settle_copy.result) x (g.H.Host.state c.settle_copy.new.h))
    (c.in_ok-copy_placed.ensures.only_reads.stays t) (c.settle_copy.ensures.settles t size (size_then size _ _ same c.in_ok-copy_placed.ensures.only_reads.cause) to es) r copied

pub returns-clause-moments : goal.returns-clause-moments
returns-clause-moments g c = λ t size same es r d.
    let to = c.args.to in
    let at = c.args.log_at in
    let copied = c.in_ok-copy_placed.ensures.placed t _ refl es r.spells in
    subst (λ (x : State). IsReplayable (address_map_of to (reads x.now.words)) size at es (reads x.now.words) → IsPlacedCopy to at (reads x.now.words) c.copy_placed.new.copy → HasDurableLog to at x.now.words
    → Leaves (Silently (IsSettling to at x.now.words)) x (g.H.Host.state c.settle_copy.new.h))
    (c.in_ok-copy_placed.ensures.only_reads.stays t) (c.settle_copy.ensures.moments t size (size_then size _ _ same c.in_ok-copy_placed.ensures.only_reads.cause) to es) r copied d

pub returns-clause-same : goal.returns-clause-same
returns-clause-same g c = λ t words size same es r d. moments-same c.args.to size c.args.log_at es _ _ words r d (returns-clause-moments g c t size same es)
