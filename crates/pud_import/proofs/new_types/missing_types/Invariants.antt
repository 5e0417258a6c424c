use Rattle.std.proofs.Common.{◌≡◌, ◌≤◌, false, None, length}
use Rattle.pm_model.specs.Words.{reads}
use Rattle.pm_model.specs.Reads.{OnlyReads}
use Rattle.pud_defs.specs.Formats.Image.{Image}
use Rattle.pud_defs.specs.PoolGraphs.ExportFile.{file_types}
use Rattle.pud_defs.specs.StateMachine.Imports.{types_missing}
use Rattle.pud_defs.specs.StateMachine.Step.{clashes_with}
use Rattle.pud_defs.specs.RegistryTables.Types.{types_of}
use Rattle.pud_import.specs.Contents.{file_image}
use Rattle.pud_import.proofs.new_types.missing_types.Given as goal

abbrev pub invariant-loop-i : goal.invariant-loop-i
invariant-loop-i g l = record {
  few : length l.types.items ≤ l.i;
  only_reads : OnlyReads g.H.Host.tells g.H.Host.state g.H.Host.counts None l.initial.h l.h;
  missing : g.H.Host.tells → (image : Image) → reads (g.H.Host.state l.initial.h).now.words ≡ image → l.types.items ≡ types_missing (types_of image) (file_types (file_image l.view) l.i);
  agree : g.H.Host.tells → (image : Image) → reads (g.H.Host.state l.initial.h).now.words ≡ image → clashes_with (types_of image) (file_types (file_image l.view) l.i) ≡ false;
}
