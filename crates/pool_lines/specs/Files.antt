-- What is written into an export file, and what is answered.
use Rattle.std.specs.Prelude.{◌≡◌, ℕ, ◌*◌, List, map, length, Some, Result, Ok, Err, Option, None}
use Rattle.pm_model.specs.declared.host.HostFault.{HostFault}
use Rattle.pm_model.specs.declared.host.FileFault.{FileFault}
use Rattle.pm_model.specs.declared.host.FileFault.TheVariants as file_faults
use Rattle.pm_model.specs.Moments.{State, with_shelf}
use Rattle.pm_model.specs.Calls.{shelved, LeavesFile}
use Rattle.pud_defs.specs.declared.layout.TheConstants.{MACHINE_WORD}
use Rattle.pud_defs.specs.declared.records.Puddle.{Puddle}
use Rattle.pud_defs.specs.declared.machine.Reply.TheVariants as replies
use Rattle.pud_defs.specs.declared.machine.Refusal.TheVariants as refusals
use Rattle.pud_defs.specs.Formats.Image.{Image}
use Rattle.pud_defs.specs.RegistryTables.Types.{types_of}
use Rattle.pud_defs.specs.PoolGraphs.Stored.{stored_in}
use Rattle.pud_defs.specs.PoolGraphs.Graph.{Graph}
use Rattle.pud_defs.specs.PoolGraphs.ExportFile.{words_in, types_used, file_graph}
use Rattle.pud_defs.specs.PoolGraphs.Exported.{exported_words}
use Rattle.pud_defs.specs.StateMachine.World.{World}
use Rattle.pud_defs.specs.StateMachine.Gives.{contents_for}
use Rattle.daemon_memory.specs.declared.line_answer.LineAnswer.{LineAnswer}
use Rattle.daemon_memory.specs.declared.line_answer.LineAnswer.TheVariants as answers
use Rattle.daemon_memory.specs.Finding.{IsStoredPool}
use Rattle.pm_model.specs.Words.{reads}
use Rattle.pud_defs.specs.Output.Listing.{name_text}

-- The answer to a line that was to write a file.
abbrev pub file_answer : {T : Type 0} → Result T FileFault → Result LineAnswer HostFault
file_answer (Ok done) = Ok (answers.Reply replies.Ok)
file_answer (Err file_faults.Memory) = Ok (answers.Reply (replies.No refusals.Memory))
file_answer (Err (file_faults.Host fault)) = Err fault

-- The file of a name was replaced by the one that is written for a pool with this UUID number, these puddles and this
-- graph. The file stores the pool.
pub record HoldsPool (F number : ℕ) (puddles : List (ℕ × Puddle)) (g : Graph) (image : Image) (file : List ℕ) (old new : State) : Type 0 where
  pub bytes : List ℕ
  pub given : new ≡ with_shelf (shelved file (Some bytes) old.shelf) old
  pub words : words_in bytes ≡ exported_words (image MACHINE_WORD) number (types_of image) (types_used (types_of image) g) (stored_in F puddles image)
  pub whole : length bytes ≡ 8 * length (words_in bytes)
  pub holds : file_graph bytes ≡ Some (contents_for (types_of image) (map (λ e. e.1.class) puddles) g)

-- The file of a name was replaced by the one that is written for the pool that has another name in the world.
pub record HoldsOneOf (w : World) (name : List ℕ) (image : Image) (file : List ℕ) (old new : State) : Type 0 where
  pub number : ℕ
  pub puddles : List (ℕ × Puddle)
  pub pool : IsStoredPool w w.stored.frames name image number puddles
  pub written : HoldsPool w.stored.frames number puddles pool.graph image file old new

-- The file of a name is replaced by the one that is written for the pool, or the host failed in that. The device does
-- not change.
pub record WritesFile (w : World) (name file : List ℕ) (fault : Option HostFault) (old new : State) : Type 0 where
  pub leaves : LeavesFile (name_text file) old new
  pub holds : fault ≡ None → HoldsOneOf w name (reads old.now.words) (name_text file) old new
