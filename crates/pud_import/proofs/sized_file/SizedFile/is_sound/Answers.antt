use Rattle.std.proofs.Common.{is_some, map, sym, ap, ◌∙◌, subst, arith}
use Rattle.pud_defs.specs.PoolGraphs.Stored.{IsOnDevice}
use Rattle.pud_defs.specs.PoolGraphs.ExportFile.{are_file_bases}
use Rattle.pud_import.specs.Sized.{image_of_file}
use Rattle.pud_import.proofs.FileChecks.AsDevice.{pool_on_device, graph_judged, puddles-pool}
use Rattle.pud_import.proofs.FileChecks.FileParts.{joined}
use Rattle.pud_import.proofs.sized_file.SizedFile.is_sound.Goals as goal

pub has_graph-graph-requires : goal.has_graph-graph-requires
has_graph-graph-requires c =
    let f = c.args.self.now in
    subst (IsOnDevice f.puddles) (sym c.pool-pool.ensures) (pool_on_device (image_of_file f) f.version f.types f.puddles (omega arith))

pub returns : goal.returns
returns c =
    let f = c.args.self.now in
    c.are_all.ensures
    ∙ joined _ _ _ _ _ _ _ _ _ _ c.has_legal_types-types.ensures
    (c.has_legal_bases-bases.ensures ∙ ap (λ at. are_file_bases (map (λ e. e.1) at)) c.pool-pool.ensures ∙ ap are_file_bases (puddles-pool (image_of_file f) f.version f.types f.puddles))
    c.is_plain-plain.ensures
    (λ legal. c.has_graph-graph.ensures ∙ ap is_some (graph_judged (image_of_file f) f.version f.types f.puddles _ (omega arith) (omega arith) c.pool-pool.ensures legal))
    c.uses_types-used.ensures
