-- What is found for a pool that a line makes from a file, and what is replied.
use Rattle.std.specs.Prelude.{◌≡◌, ℕ, ◌≤◌, List, take, Some, None, Result, Ok, Err, Option}
use Rattle.pm_model.specs.declared.host.HostFault.{HostFault}
use Rattle.pm_model.specs.declared.host.TheConstants.{FILE_READ_LIMIT}
use Rattle.pud_defs.specs.declared.layout.TheConstants.{MAX_OWNER_ID}
use Rattle.pud_defs.specs.declared.machine.Reply.{Reply}
use Rattle.pud_defs.specs.declared.machine.Reply.TheVariants as replies
use Rattle.pud_defs.specs.declared.machine.Refusal.TheVariants as refusals
use Rattle.pud_defs.specs.Output.Listing.{name_text}
use Rattle.pud_defs.specs.StateMachine.PoolChanges.{pool_named}
use Rattle.pud_defs.specs.RegistryTables.Spaces.{owner}
use Rattle.pud_defs.specs.StateMachine.World.{World}
use Rattle.pud_import.specs.declared.placing.PlaceFault.{PlaceFault}
use Rattle.pud_import.specs.declared.placing.PlaceFault.TheVariants as faults
use Rattle.pm_model.specs.Words.{reads}
use Rattle.pm_model.specs.Moments.{State}
use Rattle.pud_defs.specs.PoolGraphs.ExportFile.{file_graph, FileContents}
use Rattle.pud_import.specs.Placing.{PlacesSomewhere}
use Rattle.pud_import.specs.Contents.{stored_held}

-- The client acts as this owner, whose numbers are legal, and no pool has the name.
pub record MayMakeNamed (w : World) (client : ℕ) (name : List ℕ) (uid gid : ℕ) : Type 0 where
  pub acts : w.clients client ≡ Some (owner uid gid)
  pub uid_fits : uid ≤ MAX_OWNER_ID
  pub gid_fits : gid ≤ MAX_OWNER_ID
  pub absent : pool_named name w.stored ≡ None

-- There is a file of the name, and these bytes are what a host gives of it: all of it, or the longest prefix that a
-- host gives.
pub record IsPrefixOf (w : World) (file bytes : List ℕ) : Type 0 where
  pub whole : List ℕ
  pub there : w.shelf (name_text file) ≡ Some whole
  pub front : bytes ≡ take FILE_READ_LIMIT whole

-- The reply to a line that was to place a file, by what became of it.
abbrev pub reply_of_placing : Result (Unit {0}) PlaceFault → Result Reply HostFault
reply_of_placing (Ok x) = Ok replies.Ok
reply_of_placing (Err faults.Clash) = Ok (replies.No refusals.Clash)
reply_of_placing (Err faults.Full) = Ok (replies.No refusals.Full)
reply_of_placing (Err faults.NoSpace) = Ok (replies.No refusals.Space)
reply_of_placing (Err (faults.Host fault)) = Err fault

-- A pool is placed from what the prefix of the file stores.
pub record PlacesFile (w : World) (name file : List ℕ) (mode uid gid : ℕ) (fault : Option HostFault) (old new : State) : Type 0 where
  pub whole : List ℕ
  pub there : w.shelf (name_text file) ≡ Some whole
  pub contents : FileContents
  pub is : file_graph (take FILE_READ_LIMIT whole) ≡ Some contents
  pub places : PlacesSomewhere w.stored.frames (reads old.now.words) (stored_held (take FILE_READ_LIMIT whole)) contents.types name uid gid mode fault old new
