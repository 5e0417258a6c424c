use Rattle.std.proofs.Common.{◌≡◌, ℕ, List, Option, Some, IfSome, sym, ap, subst, ◌∙◌}
use Rattle.pud_defs.specs.declared.records.Puddle.{Puddle}
use Rattle.pud_defs.specs.PoolGraphs.Graph.{graph_of}
use Rattle.pud_defs.specs.PoolGraphs.Stored.{stored_in}
use Rattle.pud_defs.specs.RegistryTables.Types.{types_of}
use Rattle.graph_read.specs.declared.index.Index.{Index}
use Rattle.graph_read.specs.Indexed.{IsIndexOf}
use Rattle.known_pool.specs.Known.{Known, IsKnown}
use Rattle.known_pool.proofs.Asking.{IsKnown-built}
use Rattle.known_pool.proofs.KnownPool.build.Goals as goal

pub returns-in-Some-clause-known : goal.returns-in-Some-clause-known
returns-in-Some-clause-known g c = λ t image same graph stored known.
    let F = c.args.frames in
    let was = subst (IsKnown F image) (sym c.self.view_is) known in
    let puddles : c.as_slice.result.now ≡ c.args.self.now.puddles = c.as_slice.ensures.puddles ∙ ap (λ (k : Known). k.puddles) c.self.view_is in
    let stores = subst (λ (ps : List (ℕ × Puddle)). graph_of (types_of image) (stored_in F ps image) ≡ Some graph) (sym puddles) stored in
    let built = subst (λ (o : Option Index). IfSome o (IsIndexOf F c.as_slice.result.now (types_of image) image)) c.in-Some.is (c.in_ok-index.ensures.built t image same graph stores) in
    IsKnown-built F _ image c.in-Some.index (subst (λ (ps : List (ℕ × Puddle)). IsIndexOf F ps (types_of image) image c.in-Some.index) c.as_slice.ensures.puddles built) was
