use Rattle.graph_dump.proofs.Spelling.{Spells-pointer}
use Rattle.graph_dump.proofs.values.pointer_value.Goals as goal

pub returns : goal.returns
returns c = Spells-pointer c.args.serial c.in_ok-format.field-0 c.if-serial-eq0.false c.in_ok-format.ensures.ok
