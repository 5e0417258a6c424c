use Rattle.std.proofs.Common.{◌≡◌, ℕ, ◌∙◌, ap, sym, subst, IfOk, Option, Some, option_map}
use Rattle.pud_defs.specs.PoolGraphs.Graph.{Object, object_at}
use Rattle.puddle_header.specs.Places.{place_of_slot}
use Rattle.graph_read.specs.Reading.{table_in, place_in_pool, read_by}
use Rattle.graph_read.proofs.Found.{object_in-place}
use Rattle.pm_model.proofs.Reading.{still_reads}
use Rattle.graph_read.proofs.fields.read_field.Goals as goal

pub returns-in-Some-clause-read : goal.returns-in-Some-clause-read
returns-in-Some-clause-read g c = λ t image same.
    let place : Some (place_of_slot c.in-Some.at) ≡ place_in_pool c.args.frames c.args.pool.now image c.args.s = ap (option_map place_of_slot) (sym c.in-Some.is) ∙ c.in_ok-at.ensures.found t image same in
    let before = still_reads c.find_serial.ensures.only_reads t same in
    subst (λ (o : Option ℕ). IfOk c.field_at.result (λ read. read ≡ read_by (option_map (object_at (table_in c.args.frames c.args.pool.now image)) o) c.args.f)) place
    (c.field_at.ensures.read t image before)

pub returns-in-Some-clause-object : goal.returns-in-Some-clause-object
returns-in-Some-clause-object g c = λ t image same graph is.
    subst (λ (o : Option Object). IfOk c.field_at.result (λ read. read ≡ read_by o c.args.f)) (sym (object_in-place c.args.frames c.args.pool.now image graph c.args.s is))
    (returns-in-Some-clause-read g c t image same)

pub returns-in-None-clause-read : goal.returns-in-None-clause-read
returns-in-None-clause-read g c = λ t image same.
    ap (λ (o : Option ℕ). read_by (option_map (object_at (table_in c.args.frames c.args.pool.now image)) o) c.args.f)
    (ap (option_map place_of_slot) (sym c.in-None.is) ∙ c.in_ok-at.ensures.found t image same)

pub returns-in-None-clause-object : goal.returns-in-None-clause-object
returns-in-None-clause-object g c = λ t image same graph is.
    returns-in-None-clause-read g c t image same ∙ ap (λ (o : Option Object). read_by o c.args.f) (sym (object_in-place c.args.frames c.args.pool.now image graph c.args.s is))
