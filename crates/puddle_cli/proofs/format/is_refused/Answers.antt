use Rattle.std.proofs.Common.{rules}
use Rattle.puddle_cli.proofs.format.is_refused.Goals as goal

pub returns-then-words-device_words-clause-refused : goal.returns-then-words-device_words-clause-refused
returns-then-words-device_words-clause-refused g c = search rules
