use Rattle.std.proofs.Common.{◌≡◌, ◌<◌, ℕ, List, Some, IfOk, length, map, sym, ap, subst, ◌∙◌, arith}
use Rattle.pm_model.proofs.Reading.{still_reads}
use Rattle.pud_defs.specs.declared.records.Puddle.{Puddle}
use Rattle.pud_defs.specs.declared.space.TheConstants.{ROOT_WORD}
use Rattle.pud_defs.specs.PoolGraphs.Graph.{Graph, graph_of, named_by, pointee_at}
use Rattle.pud_defs.specs.PoolGraphs.Stored.{stored_in}
use Rattle.pud_defs.specs.RegistryTables.Types.{types_of}
use Rattle.pud_defs.proofs.PoolGraphs.Graphs.{graph_of-each}
use Rattle.graph_read.specs.Reading.{table_in}
use Rattle.graph_read.proofs.Judging.{first_word, positive_length}
use Rattle.graph_read.proofs.Referenced.{none_held}
use Rattle.known_pool.proofs.KnownPool.root.Goals as goal

pub returns-then-is_empty-clause-root : goal.returns-then-is_empty-clause-root
returns-then-is_empty-clause-root g c = λ t image same graph stored.
    absurd (none_held (types_of image) c.args.frames c.as_slice-pool.result.now image graph (sym c.is_empty.ensures ∙ c.if-is_empty.true)
    (subst (λ (at : List (ℕ × Puddle)). graph_of (types_of image) (stored_in c.args.frames at image) ≡ Some graph) (sym c.as_slice-pool.ensures.puddles) stored))

pub returns-clause-root : goal.returns-clause-root
returns-clause-root g c = λ t image same graph stored.
    let F = c.args.frames in
    let at = c.as_slice-pool.result.now in
    let some : 0 < length at = positive_length at (sym c.is_empty.ensures ∙ c.if-is_empty.false) in
    let is : graph_of (types_of image) (stored_in F at image) ≡ Some graph =
    subst (λ (ps : List (ℕ × Puddle)). graph_of (types_of image) (stored_in F ps image) ≡ Some graph) (sym c.as_slice-pool.ensures.puddles) stored in
    let root = ap (λ (k : ℕ). named_by (table_in F at image).serial (pointee_at (map (λ (e : ℕ × Puddle). e.1) at) 0 0 k)) (c.in_ok-root.ensures.word t image same ∙ first_word F at image ROOT_WORD some (omega arith)) in
    subst (λ (v : ℕ). IfOk c.pointed_serial.result (λ s. s ≡ v)) (root ∙ ap (λ (k : Graph). k.root) (graph_of-each (types_of image) (stored_in F at image) graph is).is)
    (c.pointed_serial.ensures.serial t image (still_reads c.root_value.ensures.only_reads t same))
