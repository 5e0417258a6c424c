use Rattle.std.proofs.Common.{None, refl}
use Rattle.std.proofs.lemmas.Result.{err_from_is_err_and}
use Rattle.pm_model.specs.Words.{reads}
use Rattle.pm_model.specs.Counts.{fault_of}
use Rattle.pm_model.proofs.Changes.{Changes-fence}
use Rattle.pud_defs.specs.Logging.Replay.{device_word, new_value}
use Rattle.log_entry.specs.Copying.{log_copied}
use Rattle.log_replay.specs.Replaying.{Anything, new_values}
use Rattle.log_replay.proofs.Applying.{AppliesEntries-same, any_then}
use Rattle.log_replay.proofs.Placed.{replayable_copy}
use Rattle.log_replay.proofs.Whole.{Replays-failed, Replays-fence, replays_again}
use Rattle.log_replay.proofs.replay_copy.Goals as goal

pub returns-in_err-overwrite-clause-replays : goal.returns-in_err-overwrite-clause-replays
returns-in_err-overwrite-clause-replays g c =
    let p = err_from_is_err_and c.from_residual.result c.from_residual.ensures.1 in
    rw (p.1, p.2) (λ t size same to at es r placed.
    let image = reads (g.H.Host.state c.args.h.now).now.words in
    let it = replayable_copy to size at es image c.args.copy.now r placed in
    Replays-failed to at _ _ _ (AppliesEntries-same (new_value device_word (log_copied c.args.copy.now)) (new_values to at image) _ _ _ it.gives (c.in_err-overwrite.ensures.overwrites t size same _ refl it.es it.are it.within)))

pub returns-in_err-overwrite-clause-again : goal.returns-in_err-overwrite-clause-again
returns-in_err-overwrite-clause-again g c = λ t size same to at es r placed d.
    let image = reads (g.H.Host.state c.args.h.now).now.words in
    let it = replayable_copy to size at es image c.args.copy.now r placed in
    replays_again to size at es (fault_of c.overwrite.result) _ _ r d
    (AppliesEntries-same (new_value device_word (log_copied c.args.copy.now)) (new_values to at image) (fault_of c.overwrite.result) _ _ it.gives (c.overwrite.ensures.overwrites t size same _ refl it.es it.are it.within)).changes

pub returns-clause-replays : goal.returns-clause-replays
returns-clause-replays g c = λ t size same to at es r placed.
    let image = reads (g.H.Host.state c.args.h.now).now.words in
    let it = replayable_copy to size at es image c.args.copy.now r placed in
    Replays-fence to at (fault_of c.fence.result) _ _ _
    (AppliesEntries-same (new_value device_word (log_copied c.args.copy.now)) (new_values to at image) None _ _ it.gives (c.in_ok-overwrite.ensures.overwrites t size same _ refl it.es it.are it.within)) (c.fence.ensures.state t)

pub returns-clause-again : goal.returns-clause-again
returns-clause-again g c = λ t size same to at es r placed d. replays_again to size at es (fault_of c.fence.result) _ _ r d (returns-clause-replays g c t size same to at es r placed).changes

pub returns-clause-any : goal.returns-clause-any
returns-clause-any g c = λ t. any_then (fault_of c.fence.result) _ _ _ (c.in_ok-overwrite.ensures.any t) (Changes-fence Anything (fault_of c.fence.result) _ _ (c.fence.ensures.state t))
