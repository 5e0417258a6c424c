use Rattle.std.proofs.Common.{◌<◌, is_some, length, slice_index, sym, ap, ◌∙◌}
use Rattle.pud_defs.specs.PoolGraphs.Graph.{named_by, table_of}
use Rattle.pud_defs.specs.RegistryTables.Spaces.{all_below}
use Rattle.pud_defs.specs.PoolGraphs.Stored.{stored_in}
use Rattle.pud_defs.specs.RegistryTables.Types.{types_of}
use Rattle.graph_read.specs.declared.checking.SlotCheck.TheVariants.{LacksPointerTo}
use Rattle.graph_read.specs.Checking.{content_of, place_passes, with_serials}
use Rattle.graph_read.proofs.Referenced.{held, none_held}
use Rattle.graph_read.proofs.Judging.{root_read, same_places, positive_length}
use Rattle.graph_read.proofs.Numbers.{is_some-then_some}
use Rattle.pm_model.proofs.Reading.{still_reads}
use Rattle.graph_read.proofs.references.is_referenced.Goals as goal

pub returns-then-is_empty-clause-referenced : goal.returns-then-is_empty-clause-referenced
returns-then-is_empty-clause-referenced g c = λ t image same graph stored. absurd (none_held (types_of image) c.args.frames c.args.pool.now image graph (sym c.is_empty.ensures ∙ c.if-is_empty.true) stored)

pub returns-clause-referenced : goal.returns-clause-referenced
returns-clause-referenced g c = λ t image same graph stored.
    let at = c.args.pool.now in
    let st = stored_in c.args.frames at image in
    let serial = slice_index c.in_ok-serials.serials in
    let some : 0 < length at = positive_length at (sym c.is_empty.ensures ∙ c.if-is_empty.false) in
    let second = still_reads c.root_value.ensures.only_reads t same in
    let third = still_reads c.read_serials.ensures.only_reads t second in
    c.is_referenced_by.ensures
    ∙ held (types_of image) st graph c.args.s serial c.named-root.result c.is_some-spared.result stored (c.in_ok-serials.ensures.serials t image second)
    (c.named-root.ensures ∙ ap (λ p. named_by serial (content_of p)) c.read_pointer.ensures.pointee ∙ ap (named_by serial) (root_read c.args.frames at image c.in_ok-root.root some (c.in_ok-root.ensures.word t image same)))
    (c.is_some-spared.ensures ∙ ap is_some (c.in_ok-places_sum.ensures.sum t image third) ∙ is_some-then_some _ _ ∙ ap (λ n. all_below n (place_passes (LacksPointerTo c.args.s) (with_serials serial (table_of (types_of image) st)))) (same_places c.args.frames at image))
