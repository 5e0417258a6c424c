use Rattle.std.proofs.Common.{rules}
use Rattle.pm_mem.proofs.Losses.{Steps-err}
use Rattle.pm_mem.proofs.mem_host.MemHostHost.store.Goals as goal

pub returns-in_err-step-clause-state : goal.returns-in_err-step-clause-state
returns-in_err-step-clause-state c = λ _. Steps-err _ _ _ _ _ _ (search rules) c.in_err-step.ensures.answer c.step.ensures.state
