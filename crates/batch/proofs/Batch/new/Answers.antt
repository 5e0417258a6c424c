use Rattle.std.specs.Prelude.{replicate}
use Rattle.pud_defs.specs.declared.layout.TheConstants.{LOG_ENTRY_WORDS}
use Rattle.batch.proofs.Buffers.{IsBuffer-empty, nothing_spelled}
use Rattle.batch.proofs.Batch.new.Goals as goal

pub invariant_of-result : goal.invariant_of-result
invariant_of-result c = IsBuffer-empty _

pub returns : goal.returns
returns c = nothing_spelled (replicate LOG_ENTRY_WORDS 0)
