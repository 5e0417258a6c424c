-- Which part of the world a command may change, besides the shelf, and which file it may write.
use Rattle.std.specs.Prelude.{◌≡◌, ℕ, List, Option, Some, None}
use Rattle.pud_defs.specs.declared.machine.Command.{Command}
use Rattle.pud_defs.specs.declared.machine.Command.TheVariants.{Client, Leave, Define, Cut, Arm, Chmod, Begin, Commit, Abort, New, Set, Later, Root, Free, Dump, Export, Import, Rewrite, Pools, Get}
use Rattle.pud_defs.specs.declared.machine.Command.TheVariants as commands
use Rattle.pud_defs.specs.StateMachine.World.{World}
use Rattle.pud_defs.specs.Output.Listing.{name_text}
use Rattle.pud_defs.specs.StateMachine.Grammar.{command_of}

pub data Part : Type 0 where
  types : Part
  pools : Part
  tables : Part
  clients : Part
  transactions : Part
  nothing : Part

abbrev pub part_of : Command → Part
part_of (Client client uid gid) = clients
part_of (Leave client) = clients
part_of (Define id map) = types
part_of (commands.Pool client name mode) = pools
part_of (Chmod client name mode) = pools
part_of (commands.Drop client name) = pools
part_of (Get client name s f) = nothing
part_of (Begin client name) = transactions
part_of (Commit client name) = transactions
part_of (Abort client name) = transactions
part_of (New client name t) = transactions
part_of (Set client name s f x) = transactions
part_of (Later client name s f x) = transactions
part_of (Root client name s) = transactions
part_of (Free client name s) = transactions
part_of (Dump client name) = nothing
part_of (Export client name file) = nothing
part_of (Import client name file mode) = tables
part_of (Rewrite name n) = nothing
part_of Pools = nothing
part_of (Cut pick) = clients
part_of (Arm step pick) = nothing

-- the world w with this part taken from v
abbrev pub with_part : Part → World → World → World
with_part types v w = record w { stored = record w.stored { types = v.stored.types; pools = v.stored.pools } }
with_part pools v w = record w { stored = record w.stored { next_number = v.stored.next_number; pools = v.stored.pools } }
with_part tables v w = record w { stored = record w.stored { next_number = v.stored.next_number; types = v.stored.types; pools = v.stored.pools } }
with_part clients v w = record w { clients = v.clients; transactions = v.transactions }
with_part transactions v w = record w { stored = record w.stored { next_number = v.stored.next_number; pools = v.stored.pools }; transactions = v.transactions }
with_part nothing v w = w

-- the file that a command may write
abbrev pub file_of : Command → Option (List ℕ)
file_of (Export client name file) = Some (name_text file)
file_of c = None

-- the file that a line may write, given the line's command
abbrev pub file_in : Option Command → Option (List ℕ)
file_in None = None
file_in (Some c) = file_of c

-- No file changes but the named one.
pub record KeepsFiles (file : Option (List ℕ)) (old new : List ℕ → Option (List ℕ)) : Type 0 where
  pub others : (name : List ℕ) → (file ≡ Some name → ⊥) → new name ≡ old name

-- some line may write the file
pub record IsWritable (name : List ℕ) : Type 0 where
  pub line : List ℕ
  pub names : file_in (command_of line) ≡ Some name

-- Each file that no line may write does not change.
pub record KeepsUnwritable (old new : List ℕ → Option (List ℕ)) : Type 0 where
  pub others : (name : List ℕ) → (IsWritable name → ⊥) → new name ≡ old name
