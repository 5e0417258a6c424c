use Rattle.std.proofs.Common.{◌≡◌, Bool, ap, ◌∙◌}
use Rattle.std.proofs.lemmas.Result.{IfOk-weaker}
use Rattle.pud_defs.specs.RegistryTables.Puddles.{member_pool, puddle_record_at}
use Rattle.pud_defs.specs.RegistryTables.Tables.{tables_of}
use Rattle.pud_defs.specs.Logging.Allowed.{may_write_puddle}
use Rattle.recover.specs.Verdicts.{owner_by_record}
use Rattle.recover.proofs.Writable.{may_write_pool, may_write_member}
use Rattle.pm_model.proofs.Reading.{still_reads}
use Rattle.recover.proofs.judge.may_write_puddle.Goals as goal

pub returns-clause-may : goal.returns-clause-may
returns-clause-may g c = λ t image same F below.
    let at = puddle_record_at c.args.frame in
    let who = owner_by_record c.args.who in
    let following = still_reads c.load.ensures.only_reads t same in
    let word : c.in_ok-member.member ≡ image at = c.in_ok-member.ensures.value t ∙ (λ x. same x (c.puddle_record_at.ensures x)) in
    let pool : c.member_pool.result ≡ member_pool (image at) = c.member_pool.ensures ∙ ap member_pool word in
    IfOk-weaker c.may_write_pool.result (λ (a : Bool). a ≡ may_write_pool F image who c.member_pool.result) (λ (a : Bool). a ≡ may_write_puddle (tables_of F image) who ((tables_of F image).puddles c.args.frame))
    (λ a is. is ∙ ap (may_write_pool F image who) pool ∙ may_write_member F image who c.args.frame below) (c.may_write_pool.ensures.may t image following F)
