use Rattle.std.proofs.Common.{map, Some, sym, ap}
use Rattle.pud_defs.specs.PoolGraphs.Exported.{address_of}
use Rattle.graph_read.specs.Checking.{content_of}
use Rattle.graph_read.proofs.addresses.pointee_address.Goals as goal

pub returns-in-Null : goal.returns-in-Null
returns-in-Null c = λ low. sym (ap (λ p. address_of (map (λ e. e.1) c.args.pool.now) (content_of (Some p))) c.in-Null.is)
