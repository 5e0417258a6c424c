use Rattle.hybrid_tx.proofs.Objects.FieldsSet.{set_value}
use Rattle.hybrid_tx.proofs.laws.stored_word_sets_the_field.Goals as goal

pub returns : goal.returns
returns c = set_value
