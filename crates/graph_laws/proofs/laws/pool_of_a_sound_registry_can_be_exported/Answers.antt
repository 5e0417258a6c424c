use Rattle.pud_defs.proofs.RegistryTables.Exportable.{exportable_of_registry}
use Rattle.graph_laws.proofs.laws.pool_of_a_sound_registry_can_be_exported.Goals as goal

pub returns : goal.returns
returns c = exportable_of_registry
