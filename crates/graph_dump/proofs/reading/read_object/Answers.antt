use Rattle.std.proofs.Common.{◌≡◌, ap, ap₂, sym, ◌∙◌, take, ℕ}
use Rattle.pud_defs.specs.Formats.Geometry.{ordinal_of}
use Rattle.pud_defs.specs.RegistryTables.Types.{types_of, map_of}
use Rattle.pud_defs.specs.PoolGraphs.Graph.{fitting}
use Rattle.graph_read.specs.Reading.{class_in}
use Rattle.graph_read.proofs.Slots.{slot_class}
use Rattle.graph_dump.specs.Read.{field_values}
use Rattle.graph_dump.proofs.Objects.{object_at-read, object_at-unknown}
use Rattle.pm_model.proofs.Reading.{still_reads}
use Rattle.graph_dump.proofs.reading.read_object.Goals as goal

pub returns-in_ok-values-in-Some-clause-object : goal.returns-in_ok-values-in-Some-clause-object
returns-in_ok-values-in-Some-clause-object g c = λ t image same.
    let F = c.args.frames in
    let pool = c.args.pool.now in
    let at = c.slot_at_place-at in
    let first = still_reads c.type_at.ensures.only_reads t same in
    let second = still_reads c.find_fitting.ensures.only_reads t first in
    let id = c.in_ok-type_id.ensures.id t image same in
    let class = slot_class pool at.result at.ensures.within ∙ ap (λ (p : ℕ). class_in pool (ordinal_of p)) at.ensures.place in
    let defined = sym (ap₂ (λ (k i : ℕ). fitting k (map_of i (types_of image))) class id) ∙ sym (c.in_ok-map_word.ensures.map t image first) ∙ c.in-Some.is in
    let values : take c.field_count.result c.in_ok-values-in-Some.values ≡ field_values F pool image c.args.place c.in-Some.map_word =
    ap (λ n. take n c.in_ok-values-in-Some.values) c.field_count.ensures.count ∙ c.in_ok-values-in-Some.ensures.fields t image second
    ∙ ap (λ (p : ℕ). field_values F pool image p c.in-Some.map_word) at.ensures.place in
    c.new.ensures ∙ object_at-read F pool image c.args.place c.in_ok-type_id.type_id at.result.class c.in-Some.map_word (take c.field_count.result c.in_ok-values-in-Some.values) id class defined values

pub returns-in-None-clause-object : goal.returns-in-None-clause-object
returns-in-None-clause-object g c = λ t image same.
    let F = c.args.frames in
    let pool = c.args.pool.now in
    let at = c.slot_at_place-at in
    let first = still_reads c.type_at.ensures.only_reads t same in
    let id = c.in_ok-type_id.ensures.id t image same in
    let class = slot_class pool at.result at.ensures.within ∙ ap (λ (p : ℕ). class_in pool (ordinal_of p)) at.ensures.place in
    let undefined = sym (ap₂ (λ (k i : ℕ). fitting k (map_of i (types_of image))) class id) ∙ sym (c.in_ok-map_word.ensures.map t image first) ∙ c.in-None.is in
    c.new-in-None.ensures ∙ object_at-unknown F pool image c.args.place c.in_ok-type_id.type_id at.result.class id class undefined
