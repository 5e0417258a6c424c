use Rattle.std.proofs.Common.{ℕ, List, Some, None, ◌∙◌, subst}
use Rattle.std.proofs.lemmas.Result.{err_from_is_err_and}
use Rattle.pm_model.specs.Counts.{fault_of}
use Rattle.pm_model.specs.Calls.{Says}
use Rattle.pm_model.proofs.Saying.{Says-then, Says-front}
use Rattle.pud_defs.specs.Output.LayoutText.{pool_line}
use Rattle.pud_defs.specs.RegistryTables.Tables.{tables_of}
use Rattle.pud_check.specs.LayoutListed.{puddles_listed}
use Rattle.pud_check.proofs.Saying.{reads-said}
use Rattle.pud_check.proofs.say_pool.Goals as goal

pub returns-in_err-say-clause-says : goal.returns-in_err-say-clause-says
returns-in_err-say-clause-says g c =
    let p = err_from_is_err_and c.from_residual.result c.from_residual.ensures.1 in
    let line = c.as_slice.ensures.value ∙ c.pool_line.ensures in
    rw (p.1, p.2) (λ t image e holds.
    Says-front (pool_line c.args.id c.args.rec.now) (puddles_listed c.args.id (tables_of c.args.places.now.count image) c.args.slot) c.in_err-say.field-0.0 _ _
    (subst (λ (bytes : List ℕ). Says bytes (Some c.in_err-say.field-0.0) (g.H.Host.state c.args.h.now) (g.H.Host.state c.say.new.self)) line (c.in_err-say.ensures.said t)))

pub returns-clause-says : goal.returns-clause-says
returns-clause-says g c = λ t image e holds.
    let line = c.as_slice.ensures.value ∙ c.pool_line.ensures in
    let said = c.in_ok-say.ensures.said t in
    Says-then (pool_line c.args.id c.args.rec.now) (puddles_listed c.args.id (tables_of c.args.places.now.count image) c.args.slot) (fault_of c.say_puddles.result) _ _ _
    (subst (λ (bytes : List ℕ). Says bytes None (g.H.Host.state c.args.h.now) (g.H.Host.state c.say.new.self)) line said)
    (c.say_puddles.ensures.says t image (reads-said _ _ _ _ image said e) holds)
