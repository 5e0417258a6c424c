use Rattle.std.proofs.Common.{◌≡◌, ◌≢◌, ℕ, OnOk, Some, None, slice_index, sym, ap, subst, ◌∙◌}
use Rattle.std.proofs.lemmas.Bool.{eqb-false}
use Rattle.pm_model.proofs.Reading.{still_reads}
use Rattle.pud_defs.specs.PoolGraphs.Graph.{table_of, slot_contents, place_map}
use Rattle.pud_defs.specs.PoolGraphs.Stored.{stored_in}
use Rattle.pud_defs.specs.RegistryTables.Types.{types_of}
use Rattle.graph_read.specs.Checking.{with_serials}
use Rattle.graph_read.specs.Indexed.{Gains, contents_name, place_names}
use Rattle.graph_read.proofs.IndexBuilt.{Gains-none, place_names-live}
use Rattle.graph_read.proofs.index.Index.retain_place.Goals as goal

pub returns-in-Some-clause-holds : goal.returns-in-Some-clause-holds
returns-in-Some-clause-holds g c = λ t image same.
    let st = stored_in c.args.frames c.args.pool.now image in
    let serial = slice_index c.args.serials.now in
    let table = with_serials serial (table_of (types_of image) st) in
    let after = still_reads c.map_at.ensures.only_reads t same in
    let map : place_map (types_of image) st c.args.place ≡ Some c.in-Some.type_map = sym (c.in_ok-type_map.ensures.map t image same) ∙ c.in-Some.is in
    let live : table.serial c.args.place ≢ 0 = eqb-false _ 0 (sym c.is_free.ensures ∙ c.if-is_free.false) in
    let whole : (q : ℕ) → contents_name serial (slot_contents st c.args.place (Some c.in-Some.type_map)) q ≡ place_names table c.args.place q =
    λ q. sym (place_names-live table c.args.place q live ∙ ap (λ m. contents_name serial (slot_contents st c.args.place m) q) map) in
    subst (λ (f : ℕ → ℕ). OnOk c.retain_fields.result (Gains f c.args.self.now c.retain_fields.new.self)) (λ i q. whole q i) (c.retain_fields.ensures.holds t image after)

pub returns-in-None-clause-holds : goal.returns-in-None-clause-holds
returns-in-None-clause-holds g c = λ t image same.
    let st = stored_in c.args.frames c.args.pool.now image in
    let serial = slice_index c.args.serials.now in
    let table = with_serials serial (table_of (types_of image) st) in
    let map : place_map (types_of image) st c.args.place ≡ None = sym (c.in_ok-type_map.ensures.map t image same) ∙ c.in-None.is in
    let live : table.serial c.args.place ≢ 0 = eqb-false _ 0 (sym c.is_free.ensures ∙ c.if-is_free.false) in
    Gains-none (place_names table c.args.place) c.args.self.now (λ q. place_names-live table c.args.place q live ∙ ap (λ m. contents_name serial (slot_contents st c.args.place m) q) map)
