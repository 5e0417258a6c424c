use Rattle.std.proofs.Common.{◌<◌, length, slice_index, refl, sym, ap, ◌∙◌}
use Rattle.pm_model.proofs.Reading.{still_reads}
use Rattle.pud_defs.specs.PoolGraphs.Graph.{named_by}
use Rattle.pud_defs.specs.RegistryTables.Types.{types_of}
use Rattle.puddle_header.specs.Places.{places_in}
use Rattle.graph_read.specs.Checking.{content_of}
use Rattle.graph_read.proofs.Referenced.{none_held}
use Rattle.graph_read.proofs.IndexBuilt.{index_built}
use Rattle.graph_read.proofs.Judging.{root_read, positive_length}
use Rattle.graph_read.proofs.index.Index.build.Goals as goal

pub returns-then-is_empty-clause-built : goal.returns-then-is_empty-clause-built
returns-then-is_empty-clause-built g c = λ t image same graph stored. absurd (none_held (types_of image) c.args.frames c.args.pool.now image graph (sym c.is_empty.ensures ∙ c.if-is_empty.true) stored)

pub returns-clause-built : goal.returns-clause-built
returns-clause-built g c = λ t image same graph stored.
    let at = c.args.pool.now in
    let serial = slice_index c.in_ok-serials.serials in
    let some : 0 < length at = positive_length at (sym c.is_empty.ensures ∙ c.if-is_empty.false) in
    let second = still_reads c.root_value.ensures.only_reads t same in
    let third = still_reads c.read_serials.ensures.only_reads t second in
    index_built c.args.frames at (types_of image) image graph serial (places_in at) c.named.result c.in-Some.index c.retain_all.new.self c.retain.new.self stored (c.in_ok-serials.ensures.serials t image second)
    refl
    (c.named.ensures ∙ ap (λ p. named_by serial (content_of p)) c.read_pointer.ensures.pointee ∙ ap (named_by serial) (root_read c.args.frames at image c.in_ok-root.root some (c.in_ok-root.ensures.word t image same)))
    c.in-Some.ensures (c.in_ok-retain_all.ensures.holds t image third) c.retain.ensures
