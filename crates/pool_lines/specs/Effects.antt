-- What each line on a pool does to the device and to the files, if it is not refused, and where it leads frontiers.
use Rattle.std.specs.Prelude.{◌≡◌, ℕ, List, Option}
use Rattle.pm_model.specs.declared.host.HostFault.{HostFault}
use Rattle.pm_model.specs.Words.{reads}
use Rattle.pm_model.specs.Moments.{State}
use Rattle.pud_defs.specs.declared.layout.TheConstants.{NEXT_NUMBER_WORD}
use Rattle.pud_defs.specs.Formats.Image.{Image}
use Rattle.pud_defs.specs.RegistryTables.Puddles.{Member}
use Rattle.pud_defs.specs.RegistryTables.Tables.{tables_of}
use Rattle.pud_defs.specs.StateMachine.World.{World}
use Rattle.registry.specs.Pools.{changing, dropping, CommitsPuts, MakesSomewhere}
use Rattle.lazy_rewrite.specs.Frontiers.{steps_from, frontiers_of}
use Rattle.daemon_memory.specs.Doing.{ActsFor, OnPool}
use Rattle.daemon_memory.specs.Leading.{LeadsPool}
use Rattle.pool_lines.specs.Importing.{PlacesFile}
use Rattle.pool_lines.specs.Rewriting.{DoesStepsInTurn}

-- a pool is made for the client: its first frame is filled, and then one batch writes its records
abbrev pub MakesPool : World → (client : ℕ) → (name : List ℕ) → (mode : ℕ) → Option HostFault → State → State → Type 0
MakesPool w client name mode fault old new =
    ActsFor w client (λ uid gid a b. MakesSomewhere (tables_of w.stored.frames (reads a.now.words)) (reads a.now.words NEXT_NUMBER_WORD) name uid gid mode fault a b) old new

-- the record of the pool gets the mode by one batch
abbrev pub ChangesMode : World → (name : List ℕ) → (mode : ℕ) → Option HostFault → State → State → Type 0
ChangesMode w name mode fault old new = OnPool w.stored.frames name (λ slot at a b. CommitsPuts (changing slot mode) fault a b) old new

-- the records of the pool and of its puddles are freed by one batch
abbrev pub DropsPool : World → (name : List ℕ) → Option HostFault → State → State → Type 0
DropsPool w name fault old new = OnPool w.stored.frames name (λ slot at a b. CommitsPuts (dropping (tables_of w.stored.frames (reads a.now.words)) slot) fault a b) old new

-- a pool is placed for the client by what a file holds
abbrev pub ImportsFile : World → (client : ℕ) → (name file : List ℕ) → (mode : ℕ) → Option HostFault → State → State → Type 0
ImportsFile w client name file mode fault old new = ActsFor w client (λ uid gid a b. PlacesFile w name file mode uid gid fault a b) old new

-- the next n steps of the pool are done in turn, or all that are left
abbrev pub RewritesPool : World → (name : List ℕ) → (n : ℕ) → Option HostFault → State → State → Type 0
RewritesPool w name n fault old new = OnPool w.stored.frames name (λ slot at a b. DoesStepsInTurn w.stored.frames n at fault a b) old new

-- its frontiers are led to where these steps end
abbrev pub LeadsBySteps : (F : ℕ) → (name : List ℕ) → (n : ℕ) → (before : Image) → (Member → Option ℕ) → Type 0
LeadsBySteps F name n before goal = LeadsPool F name before (λ at by. by ≡ frontiers_of (steps_from n at)) goal
