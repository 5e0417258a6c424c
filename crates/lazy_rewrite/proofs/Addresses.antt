-- The address that a rewritten pointer gets.
use Rattle.std.proofs.Common.{◌≡◌, ℕ, ◌<◌, List, map, length, get_or, Some, option_map, ap, ◌∙◌}
use Rattle.std.specs.Prelude.{slice_get}
use Rattle.std.proofs.lemmas.Option.{slice_get-map, slice_get-get_or}
use Rattle.pud_defs.specs.declared.records.Puddle.{Puddle}
use Rattle.pud_defs.specs.PoolGraphs.Graph.{pointee_at}
use Rattle.pud_defs.specs.PoolGraphs.Exported.{address_of}
use Rattle.graph_read.specs.Bases.{HasLowBases}
use Rattle.graph_read.specs.Checking.{content_of}
use Rattle.graph_read.specs.Reading.{pointee_of}
use Rattle.graph_read.proofs.Passing.{pointee_read}
use Rattle.graph_read.proofs.Pointed.{no_puddle}
use Rattle.graph_laws.specs.Rewriting.{rewritten}
use Rattle.lazy_rewrite.specs.Entries.{IsToRewrite}
use Rattle.lazy_rewrite.proofs.Gathered.{pointee_at-old}

-- A pointer that is read over the old bases is rewritten.
pub rewritten_read : (at : List (ℕ × Puddle)) (o step v value : ℕ) → IsToRewrite at o step → o < length at
    → (HasLowBases at → v ≡ address_of (map (λ e. e.1) at) (content_of (pointee_of (pointee_at (map (λ e. e.1) at) o step value)))) → v ≡ rewritten (map (λ e. e.1) at) value
rewritten_read at o step v value h within is =
    let puddles = map (λ (e : ℕ × Puddle). e.1) at in
    let e = get_or at o no_puddle in
    let here = slice_get-get_or at o no_puddle within in
    let there : slice_get puddles o ≡ Some e.1 = slice_get-map (λ (d : ℕ × Puddle). d.1) at o ∙ ap (option_map (λ (d : ℕ × Puddle). d.1)) here in
    is h.bases ∙ ap (address_of puddles) (pointee_read puddles o step value ∙ pointee_at-old puddles o step value e.1 there (h.old e here))
