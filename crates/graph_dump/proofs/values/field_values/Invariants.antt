use Rattle.std.proofs.Common.{map, take}
use Rattle.pud_defs.specs.Output.DumpText.{value_text}
use Rattle.graph_dump.specs.Spelled.{SpellsEach}
use Rattle.graph_dump.proofs.values.field_values.Given as goal

abbrev pub invariant-loop-field : goal.invariant-loop-field
invariant-loop-field l = SpellsEach (map value_text (take l.field-index l.fields)) l.values.items
