use Rattle.std.proofs.Common.{◌≡◌, ◌≢◌, IfOk, slice_index, sym, ap, subst, ◌∙◌}
use Rattle.std.proofs.lemmas.Bool.{eqb-false}
use Rattle.pud_defs.specs.PoolGraphs.Graph.{table_of, slot_contents}
use Rattle.pud_defs.specs.PoolGraphs.Stored.{stored_in}
use Rattle.pud_defs.specs.RegistryTables.Types.{types_of}
use Rattle.graph_read.specs.Checking.{with_serials}
use Rattle.graph_read.specs.Numbers.{fields_sum}
use Rattle.graph_read.proofs.Numbers.{place_sum-live}
use Rattle.pm_model.proofs.Reading.{still_reads}
use Rattle.graph_read.proofs.checking.place_sum.Goals as goal

pub returns-in-Some-clause-sum : goal.returns-in-Some-clause-sum
returns-in-Some-clause-sum g c = λ t image same.
    let st = stored_in c.args.frames c.args.pool.now image in
    let table = with_serials (slice_index c.args.serials.now) (table_of (types_of image) st) in
    let after = still_reads c.map_at.ensures.only_reads t same in
    let map = sym (c.in_ok-type_map.ensures.map t image same) ∙ c.in-Some.is in
    let live : table.serial c.args.place ≢ 0 = eqb-false _ 0 (sym c.is_free.ensures ∙ c.if-is_free.false) in
    let whole = place_sum-live c.args.check table c.args.place live (sym c.serial_passes.ensures ∙ c.if-not-serial_passes.false) ∙ ap (λ m. fields_sum c.args.check (slice_index c.args.serials.now) (slot_contents st c.args.place m)) map in
    subst (λ o. IfOk c.fields_sum.result (λ sum. sum ≡ o)) (sym whole) (c.fields_sum.ensures.sum t image after)
