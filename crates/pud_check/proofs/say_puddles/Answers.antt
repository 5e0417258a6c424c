use Rattle.std.proofs.Common.{◌≡◌, ap, ◌∙◌, arith}
use Rattle.std.proofs.lemmas.Result.{err_from_is_err_and}
use Rattle.pm_model.specs.Counts.{after_fault, fault_of}
use Rattle.pud_defs.specs.RegistryTables.Tables.{tables_of}
use Rattle.pud_check.proofs.Saying.{reads-said, Says-puddle, Says-broken, Says-puddles}
use Rattle.pud_check.proofs.say_puddles.Goals as goal

pub returns-in_err-say_puddle-clause-says : goal.returns-in_err-say_puddle-clause-says
returns-in_err-say_puddle-clause-says g c =
    let p = err_from_is_err_and c.from_residual.result c.from_residual.ensures.1 in
    rw (p.1, p.2) (λ t image e holds.
    let so_far = c.loop-ordinal.invariant.says t image e holds in
    Says-broken c.args.id (tables_of c.args.places.now.count image) c.args.slot c.loop-ordinal.ordinal c.in_err-say_puddle.field-0.0 _ _ _ (omega (arith, c.loop-ordinal-test.true)) so_far
    (c.in_err-say_puddle.ensures.says t image (reads-said _ _ _ _ image so_far e) holds))

pub loop-ordinal-preserved : goal.loop-ordinal-preserved
loop-ordinal-preserved g c = record {
  counts = c.say_puddle.ensures.cause ∙ ap (λ r. after_fault (fault_of r) (g.H.Host.counts c.loop-ordinal.h)) c.in_ok-say_puddle.was ∙ c.loop-ordinal.invariant.counts;
  says = λ t image e holds.
      let so_far = c.loop-ordinal.invariant.says t image e holds in
      Says-puddle c.args.id (tables_of c.args.places.now.count image) c.args.slot c.loop-ordinal.ordinal _ _ _ (omega (arith, c.loop-ordinal-test.true)) so_far
      (c.in_ok-say_puddle.ensures.says t image (reads-said _ _ _ _ image so_far e) holds);
}

pub returns-clause-says : goal.returns-clause-says
returns-clause-says g c = λ t image e holds.
    let last : c.loop-ordinal.ordinal ≡ 16 = omega (arith, c.loop-ordinal-test.false, c.loop-ordinal.auto.ordinal-end) in
    Says-puddles c.args.id (tables_of c.args.places.now.count image) c.args.slot c.loop-ordinal.ordinal _ _ last (c.loop-ordinal.invariant.says t image e holds)
