use Rattle.std.proofs.Common.{map, ap, ◌∙◌}
use Rattle.pud_defs.specs.PoolGraphs.Exported.{address_of}
use Rattle.graph_read.specs.Checking.{content_of}
use Rattle.lazy_rewrite.proofs.Addresses.{rewritten_read}
use Rattle.lazy_rewrite.proofs.pointers.over_bases.Goals as goal

pub returns : goal.returns
returns c = λ h. rewritten_read c.args.pool.now c.args.ordinal c.args.step c.address_of.result c.args.value h c.requires.known
    (λ low. c.address_of.ensures low ∙ ap (λ p. address_of (map (λ e. e.1) c.args.pool.now) (content_of p)) c.read_pointer.ensures.pointee)
