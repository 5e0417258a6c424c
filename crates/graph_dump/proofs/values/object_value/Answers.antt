use Rattle.std.proofs.Common.{rules, map}
use Rattle.serde_json.specs.declared.value.Value.{the_lemmas}
use Rattle.serde_json.proofs.OnLiterals.{serde_json_on_literals}
use Rattle.pud_defs.specs.Output.DumpText.{value_text}
use Rattle.graph_dump.specs.Spelled.{SpellsEach}
use Rattle.graph_dump.proofs.Spelling.{Spells-object}
use Rattle.graph_dump.proofs.values.object_value.Goals as goal

pub returns : goal.returns
unfolding serde_json_on_literals
returns c =
    let each : SpellsEach (map value_text c.args.object.now.fields) c.in_ok-fields.fields.items = rw c.fields.ensures at c.in_ok-fields.ensures in
    Spells-object c.args.serial c.args.object.now c.in_ok-fields.fields.items each _ (search (rules, the_lemmas))
