use Rattle.std.proofs.Common.{◌≡◌, true, ◌&&◌, ◌+◌, ◌-◌, not, eqb, ℕ, Bool, sym, ap, ap₂, ◌∙◌, arith, ne_eqb, eq-eqb}
use Rattle.std.proofs.lemmas.Bool.{and_right}
use Rattle.pud_defs.specs.declared.records.TheConstants.{POOL_OWNER_WORD, POOL_MODE_WORD}
use Rattle.pud_defs.specs.RegistryTables.Pools.{owner_uid, owner_gid, pool_record_at}
use Rattle.pud_defs.specs.RegistryTables.Spaces.{owner}
use Rattle.pud_defs.specs.Formats.Rights.{may_write}
use Rattle.pud_defs.specs.RegistryTables.Tables.{tables_of}
use Rattle.pud_defs.specs.Logging.Allowed.{may_write_record}
use Rattle.recover.specs.Verdicts.{owner_by_record}
use Rattle.recover.proofs.Writable.{may_write_used, may_write_free, may_write_beyond}
use Rattle.pm_model.proofs.Reading.{still_reads}
use Rattle.recover.proofs.judge.may_write_pool.Goals as goal
use Rattle.recover.proofs.judge.may_write_pool.Goals.{then-pool-eq0-via-then-pool-eq0, then-pool-eq0-via-else-pool-eq0+then-pool-gt-POOL_RECORDS}

pub returns-then-pool-eq0-clause-may : goal.returns-then-pool-eq0-clause-may
returns-then-pool-eq0-clause-may g c = λ t image same F.
    let pool = c.args.pool in
    let may = may_write_record (owner_by_record c.args.who) ((tables_of F image).pools (pool - 1)) in
    elim c.then-pool-eq0.branch [
      | then-pool-eq0-via-then-pool-eq0 w ↦ sym (ap (λ (b : Bool). not b && may) (eq-eqb pool 0 w.if-pool-eq0.true))
      | then-pool-eq0-via-else-pool-eq0+then-pool-gt-POOL_RECORDS w ↦ sym (and_right (not (eqb pool 0)) may (may_write_beyond F image (owner_by_record c.args.who) (pool - 1) (omega arith)))
    ]

pub returns-then-branch-eq0-clause-may : goal.returns-then-branch-eq0-clause-may
returns-then-branch-eq0-clause-may g c = λ t image same F.
    let slot = c.args.pool - 1 in
    let word : c.in_ok-load.field-0 ≡ image (pool_record_at slot) = c.in_ok-load.ensures.value t ∙ (λ x. same x (c.pool_record_at-at.ensures x)) in
    sym (and_right (not (eqb c.args.pool 0)) _ (may_write_free F image (owner_by_record c.args.who) slot (omega arith) (omega arith)))

pub returns-clause-may : goal.returns-clause-may
returns-clause-may g c = λ t image same F.
    let slot = c.args.pool - 1 in
    let at = pool_record_at slot in
    let who = owner_by_record c.args.who in
    let word : c.in_ok-load.field-0 ≡ image at = c.in_ok-load.ensures.value t ∙ (λ x. same x (c.pool_record_at-at.ensures x)) in
    let following = still_reads c.load.ensures.only_reads t same in
    let then = still_reads c.load-2.ensures.only_reads t following in
    let owner_word : c.in_ok-owner.owner ≡ image (at + POOL_OWNER_WORD) = c.in_ok-owner.ensures.value t ∙ (λ x. following x (c.pool_record_at-at.ensures x + POOL_OWNER_WORD)) in
    let mode_word : c.in_ok-mode.mode ≡ image (at + POOL_MODE_WORD) = c.in_ok-mode.ensures.value t ∙ (λ x. then x (c.pool_record_at-at.ensures x + POOL_MODE_WORD)) in
    let named : not (eqb c.args.pool 0) ≡ true = ap not (ne_eqb c.args.pool 0 c.if-pool-eq0.false) in
    c.may_write.ensures
    ∙ ap₂ (λ (mode word : ℕ). may_write mode (owner (owner_uid word) (owner_gid word)) who) mode_word owner_word
    ∙ sym (ap (λ (b : Bool). b && may_write_record who ((tables_of F image).pools slot)) named ∙ may_write_used F image who slot (omega arith) (λ free. absurd (omega arith)))
