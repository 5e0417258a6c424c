use Rattle.std.proofs.Common.{◌≡◌, ℕ, ◌*◌, List, map, length, Some, IfOk, ap, ap₂, subst, ◌∙◌}
use Rattle.std.proofs.lemmas.Simd.{map-map}
use Rattle.pud_defs.specs.declared.layout.TheConstants.{MACHINE_WORD}
use Rattle.pud_defs.specs.declared.records.Puddle.{Puddle}
use Rattle.pud_defs.specs.PoolGraphs.ExportFile.{words_in, types_used, file_graph}
use Rattle.pud_defs.specs.PoolGraphs.Exported.{exported_words}
use Rattle.pud_defs.specs.PoolGraphs.Stored.{stored_in}
use Rattle.pud_defs.specs.RegistryTables.Types.{types_of}
use Rattle.graph_laws.proofs.Exporting.Law.{file_graph-exported}
use Rattle.pud_export.specs.Exporting.{types_among}
use Rattle.pud_export.proofs.Both.{both_ok}
use Rattle.pud_export.proofs.SlotsRead.{low_bases}
use Rattle.pud_export.proofs.TypesUsed.{types_among-live}
use Rattle.pm_model.proofs.Reading.{still_reads}
use Rattle.pud_export.proofs.export.export_pool.Goals as goal

pub returns-clause-words : goal.returns-clause-words
returns-clause-words g c = λ t low image same graph is.
    let st = stored_in c.args.frames c.args.pool.now image in
    let second = still_reads c.read_types.ensures.only_reads t same in
    let third = still_reads c.live_types.ensures.only_reads t second in
    let types = c.in_ok-types.ensures.types t image same in
    let used : c.types_among-used.result.items ≡ types_used (types_of image) graph =
    c.types_among-used.ensures ∙ ap₂ types_among (c.as_slice.ensures.value ∙ types) (c.as_slice-2.ensures.value ∙ c.in_ok-ids.ensures.ids t image second) ∙ types_among-live (types_of image) st graph is in
    subst (λ (p : List (ℕ × ℕ) × List (ℕ × ℕ)). IfOk c.export_with.result (λ bytes. words_in bytes.items ≡ exported_words (image MACHINE_WORD) c.args.number p.0 p.1 st))
    (ap₂ (λ (xs ys : List (ℕ × ℕ)). (xs, ys)) (c.as_slice-3.ensures.value ∙ types) (c.as_slice-4.ensures.value ∙ used))
    (c.export_with.ensures.words t low image third)

pub returns-clause-file : goal.returns-clause-file
returns-clause-file g c = λ t image same graph is fits.
    let pool = c.args.pool.now in
    let st = stored_in c.args.frames pool image in
    let low = low_bases pool fits.legal_bases in
    both_ok c.export_with.result
    (λ bytes. words_in bytes.items ≡ exported_words (image MACHINE_WORD) c.args.number (types_of image) (types_used (types_of image) graph) st)
    (λ bytes. length bytes.items ≡ 8 * length (words_in bytes.items))
    (λ bytes. file_graph bytes.items ≡ Some (record { types = types_used (types_of image) graph; classes = map (λ (e : ℕ × Puddle). e.1.class) pool; graph = graph }))
    (λ bytes spelled whole. file_graph-exported (image MACHINE_WORD) c.args.number (types_of image) st graph fits is bytes.items spelled whole
    ∙ ap (λ (cs : List ℕ). Some (record { types = types_used (types_of image) graph; classes = cs; graph = graph })) (map-map (λ (d : Puddle). d.class) (λ (e : ℕ × Puddle). e.1) pool))
    (returns-clause-words g c t low image same graph is)
    c.export_with.ensures.whole
