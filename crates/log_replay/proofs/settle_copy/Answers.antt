use Rattle.std.proofs.Common.{refl}
use Rattle.std.proofs.lemmas.Result.{err_from_is_err_and}
use Rattle.pm_model.specs.Counts.{fault_of}
use Rattle.log_replay.proofs.Closing.{SettlesLog-replay, SettlesLog-close, moments-replay, moments-close, moments-same}
use Rattle.log_replay.specs.declared.Target.TheVariants as targets
use Rattle.log_replay.proofs.Applying.{any_then, any_wider}
use Rattle.log_replay.proofs.settle_copy.Goals as goal

pub returns-in_err-replay_copy-clause-settles : goal.returns-in_err-replay_copy-clause-settles
returns-in_err-replay_copy-clause-settles g c =
    let p = err_from_is_err_and c.from_residual.result c.from_residual.ensures.1 in
    rw (p.1, p.2) (λ t size same to es r placed. SettlesLog-replay to c.args.log_at _ _ _ (c.in_err-replay_copy.ensures.replays t size same to c.args.log_at es r placed))

pub returns-in_err-replay_copy-clause-moments : goal.returns-in_err-replay_copy-clause-moments
returns-in_err-replay_copy-clause-moments g c = λ t size same to es r placed d.
    moments-replay to size c.args.log_at es _ r d _ (c.in_err-replay_copy.ensures.again t size same to c.args.log_at es r placed d)

pub returns-clause-settles : goal.returns-clause-settles
returns-clause-settles g c = λ t size same to es r placed.
    SettlesLog-close to size c.args.log_at es _ r (fault_of c.persist_word.result) _ _ (c.in_ok-replay_copy.ensures.replays t size same to c.args.log_at es r placed) (c.persist_word.ensures.persists t)

pub returns-clause-moments : goal.returns-clause-moments
returns-clause-moments g c = λ t size same to es r placed d.
    moments-close to size c.args.log_at es _ r d (fault_of c.persist_word.result) _ _ (c.in_ok-replay_copy.ensures.replays t size same to c.args.log_at es r placed)
    (c.in_ok-replay_copy.ensures.again t size same to c.args.log_at es r placed d) (c.persist_word.ensures.persists t)

pub returns-clause-any : goal.returns-clause-any
returns-clause-any g c = λ t. any_then (fault_of c.persist_word.result) _ _ _ (c.in_ok-replay_copy.ensures.any t) (any_wider _ (fault_of c.persist_word.result) _ _ (c.persist_word.ensures.persists t).changes)

pub returns-in_err-replay_copy-clause-same : goal.returns-in_err-replay_copy-clause-same
returns-in_err-replay_copy-clause-same g c = λ t size same es r placed d.
    moments-same targets.Words size c.args.log_at es _ _ refl r d (λ may. returns-in_err-replay_copy-clause-moments g c t size same targets.Words es may placed)

pub returns-clause-same : goal.returns-clause-same
returns-clause-same g c = λ t size same es r placed d. moments-same targets.Words size c.args.log_at es _ _ refl r d (λ may. returns-clause-moments g c t size same targets.Words es may placed)
