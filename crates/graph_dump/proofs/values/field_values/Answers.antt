use Rattle.std.proofs.Common.{arith}
use Rattle.std.proofs.lemmas.List.{map_more}
use Rattle.pud_defs.specs.declared.objects.FieldValue.TheVariants.{Num}
use Rattle.pud_defs.specs.Output.DumpText.{value_text}
use Rattle.graph_dump.proofs.Spelling.{SpellsEach-more}
use Rattle.graph_dump.proofs.values.field_values.Goals as goal

pub loop-field-preserved : goal.loop-field-preserved
loop-field-preserved c =
    let i = c.loop-field.field-index in
    let fields = c.args.fields.now in
    rw (c.in_ok-push.ensures.items, map_more value_text fields i (Num 0) (omega arith)) (SpellsEach-more _ _ _ _ c.loop-field.invariant c.in_ok-field_value.ensures)
