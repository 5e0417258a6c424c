use Rattle.std.proofs.Common.{rules}
use Rattle.pm_file.specs.Spelling.{word_of}
use Rattle.pm_file.proofs.reading.word_at.Goals as goal

pub returns : goal.returns
unfolding word_of
returns c = search rules
