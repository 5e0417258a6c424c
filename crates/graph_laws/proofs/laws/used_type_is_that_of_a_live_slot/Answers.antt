use Rattle.graph_laws.proofs.SameReads.UsedTypes.{is_type_used-scanned}
use Rattle.graph_laws.proofs.laws.used_type_is_that_of_a_live_slot.Goals as goal

pub returns : goal.returns
returns c = is_type_used-scanned
