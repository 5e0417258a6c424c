use Rattle.std.proofs.Common.{◌≡◌, ℕ, ◌∙◌, ap, sym, subst, List, IfOk, Option, Some, option_map}
use Rattle.pud_defs.specs.declared.records.Puddle.{Puddle}
use Rattle.pud_defs.specs.PoolGraphs.Graph.{Object, object_at}
use Rattle.puddle_header.specs.Places.{place_of_slot}
use Rattle.graph_read.specs.Reading.{table_in, place_in_pool, read_by}
use Rattle.graph_read.proofs.Found.{object_in-place}
use Rattle.pm_model.proofs.Reading.{still_reads}
use Rattle.known_pool.specs.Known.{Known}
use Rattle.known_pool.proofs.KnownPool.read_field.Goals as goal

pub returns-in-Some-clause-read : goal.returns-in-Some-clause-read
returns-in-Some-clause-read g c = λ t image same known.
    let F = c.args.frames in
    let at = c.args.self.now.puddles in
    let place : Some (place_of_slot c.in-Some.at) ≡ place_in_pool F at image c.args.s = ap (option_map place_of_slot) (sym c.in-Some.is) ∙ c.in_ok-at.ensures.found t image same known in
    let before = still_reads c.find.ensures.only_reads t same in
    let puddles : c.as_slice.result.now ≡ at = c.as_slice.ensures.puddles ∙ ap (λ (k : Known). k.puddles) c.self.view_is in
    subst (λ (o : Option ℕ). IfOk c.field_at.result (λ read. read ≡ read_by (option_map (object_at (table_in F at image)) o) c.args.f)) place
    (subst (λ (ps : List (ℕ × Puddle)). IfOk c.field_at.result (λ read. read ≡ read_by (Some (object_at (table_in F ps image) (place_of_slot c.in-Some.at))) c.args.f)) puddles (c.field_at.ensures.read t image before))

pub returns-in-Some-clause-object : goal.returns-in-Some-clause-object
returns-in-Some-clause-object g c = λ t image same known graph is.
    subst (λ (o : Option Object). IfOk c.field_at.result (λ read. read ≡ read_by o c.args.f)) (sym (object_in-place c.args.frames c.args.self.now.puddles image graph c.args.s is))
    (returns-in-Some-clause-read g c t image same known)

pub returns-in-None-clause-read : goal.returns-in-None-clause-read
returns-in-None-clause-read g c = λ t image same known.
    ap (λ (o : Option ℕ). read_by (option_map (object_at (table_in c.args.frames c.args.self.now.puddles image)) o) c.args.f)
    (ap (option_map place_of_slot) (sym c.in-None.is) ∙ c.in_ok-at.ensures.found t image same known)

pub returns-in-None-clause-object : goal.returns-in-None-clause-object
returns-in-None-clause-object g c = λ t image same known graph is.
    returns-in-None-clause-read g c t image same known ∙ ap (λ (o : Option Object). read_by o c.args.f) (sym (object_in-place c.args.frames c.args.self.now.puddles image graph c.args.s is))
