use Rattle.std.proofs.Common.{refl}
use Rattle.std.proofs.lemmas.Bool.{ne_eqb}
use Rattle.daemon_memory.proofs.finding.found_unless_busy.Goals as goal

pub returns-else-session-client : goal.returns-else-session-client
returns-else-session-client c = rw c.in-Some.is (rw (ne_eqb c.in-Some.session.client c.args.client c.if-session-client.false) refl)
