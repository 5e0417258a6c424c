use Rattle.std.proofs.Common.{sym, ap, ◌∙◌}
use Rattle.std.specs.Prelude.{is_none}
use Rattle.graph_read.proofs.Found.{none_in_graph}
use Rattle.graph_read.proofs.places.find_serial.Goals as goal

pub returns-in-Some-clause-object : goal.returns-in-Some-clause-object
returns-in-Some-clause-object g c = λ t image same graph is.
    ap is_none (sym c.in-Some.is) ∙ none_in_graph c.args.frames c.args.pool.now image graph c.args.s c.in_ok-place.field-0 is (c.in_ok-place.ensures.found t image same)

pub returns-in-None-clause-object : goal.returns-in-None-clause-object
returns-in-None-clause-object g c = λ t image same graph is.
    ap is_none (sym c.in-None.is) ∙ none_in_graph c.args.frames c.args.pool.now image graph c.args.s c.in_ok-place.field-0 is (c.in_ok-place.ensures.found t image same)
