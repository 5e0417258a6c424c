use Rattle.std.proofs.Common.{sym, ap, ◌∙◌}
use Rattle.pm_model.specs.Words.{reads}
use Rattle.pud_defs.specs.Formats.Image.{Image}
use Rattle.pud_defs.specs.RegistryTables.Types.{map_of, types_of}
use Rattle.type_maps.proofs.Lookups.{map_defined}
use Rattle.type_maps.proofs.find.Goals as goal

pub returns-in-Defined-clause-map : goal.returns-in-Defined-clause-map
returns-in-Defined-clause-map g c = λ t image same. sym (ap (λ (image : Image). map_of c.args.id (types_of image)) (sym same) ∙ map_defined (reads (g.H.Loads.state c.args.h.now).now.words) c.args.id _ (sym (c.in_ok-map.ensures.place t) ∙ c.in-Defined.is))
