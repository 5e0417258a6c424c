use Rattle.std.proofs.Common.{eqb, ap, ◌∙◌}
use Rattle.pud_defs.proofs.RegistryTables.Spaces.{used_is_some}
use Rattle.log_space.proofs.is_registered.Goals as goal

pub returns-clause-registered : goal.returns-clause-registered
returns-clause-registered g c = λ t. ap (λ v. eqb v 1) (rw c.space_record_at.ensures at (c.in_ok-load.ensures.value t)) ∙ used_is_some _ _ _
