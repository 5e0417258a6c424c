use Rattle.std.proofs.Common.{◌≡◌, ◌++◌, take}
use Rattle.std.specs.Prelude.{flat_map}
use Rattle.pud_defs.specs.PoolGraphs.Exported.{type_words}
use Rattle.pud_export.proofs.front.push_types.Given as goal

abbrev pub invariant-loop-id : goal.invariant-loop-id
invariant-loop-id l = l.words ≡ l.initial.words ++ flat_map type_words (take l.id-index l.types)
