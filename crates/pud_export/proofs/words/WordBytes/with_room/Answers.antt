use Rattle.std.proofs.Common.{◌≡◌, ℕ, ◌*◌, List, length, ap, ◌∙◌, subst, sym}
use Rattle.pud_defs.specs.PoolGraphs.ExportFile.{words_in}
use Rattle.pud_export.proofs.Bytes.{none_spelled, whole-none}
use Rattle.pud_export.proofs.words.WordBytes.with_room.Goals as goal

pub invariant_of-result : goal.invariant_of-result
invariant_of-result c = subst (λ (xs : List ℕ). length xs ≡ 8 * length (words_in xs)) (sym c.in_ok-bytes.ensures.items) whole-none

pub returns : goal.returns
returns c = ap words_in c.in_ok-bytes.ensures.items ∙ none_spelled
