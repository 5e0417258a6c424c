use Rattle.std.proofs.Common.{◌∙◌, None, sym}
use Rattle.std.proofs.lemmas.Result.{err_from_is_err_and}
use Rattle.pm_model.proofs.Reading.{Changes-read}
use Rattle.recover.proofs.Upgraded.{Upgrades-failed, Upgrades-there, Upgrades-written}
use Rattle.recover.proofs.upgrading.upgrade.Goals as goal

pub returns-in_err-load-clause-upgrades : goal.returns-in_err-load-clause-upgrades
returns-in_err-load-clause-upgrades g c =
    let p = err_from_is_err_and c.from_residual.result c.from_residual.ensures.1 in
    rw (p.1, p.2) (λ t. Upgrades-failed _ _ _ (Changes-read c.in_err-load.ensures.only_reads t))

pub returns-in_err-persist_word-clause-upgrades : goal.returns-in_err-persist_word-clause-upgrades
returns-in_err-persist_word-clause-upgrades g c =
    let p = err_from_is_err_and c.from_residual-in_err-persist_word.result c.from_residual-in_err-persist_word.ensures.1 in
    rw (p.1, p.2) (λ t.
    let v = c.in_ok-load.ensures.value t in
    Upgrades-written _ _ _ _ (c.in_ok-load.ensures.only_reads.stays t) (λ e. c.if-branch-ne-VERSION.true (v ∙ e)) (c.in_err-persist_word.ensures.persists t))

pub returns-in_ok-persist_word-clause-upgrades : goal.returns-in_ok-persist_word-clause-upgrades
returns-in_ok-persist_word-clause-upgrades g c = λ t.
    let v = c.in_ok-load.ensures.value t in
    Upgrades-written None _ _ _ (c.in_ok-load.ensures.only_reads.stays t) (λ e. c.if-branch-ne-VERSION.true (v ∙ e)) (c.in_ok-persist_word.ensures.persists t)

pub returns-else-branch-ne-VERSION-clause-upgrades : goal.returns-else-branch-ne-VERSION-clause-upgrades
returns-else-branch-ne-VERSION-clause-upgrades g c = λ t.
    let v = c.in_ok-load.ensures.value t in
    Upgrades-there _ _ (c.in_ok-load.ensures.only_reads.stays t) (sym v ∙ c.if-branch-ne-VERSION.false)
