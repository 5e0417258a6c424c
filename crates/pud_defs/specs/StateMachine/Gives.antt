-- A step of the machine: how a line is answered, and which world it gives.
use Rattle.std.specs.Prelude.{◌≡◌, ◌⊎◌, ℕ, Bool, true, false, cond, List, [], ◌∷◌, find, bytes_eq, Option, Some, None, option_map, is_none}
use Rattle.pud_defs.specs.declared.machine.Command.{Command}
use Rattle.pud_defs.specs.declared.machine.Command.TheVariants.{Export}
use Rattle.pud_defs.specs.declared.machine.Reply.TheVariants as replies
use Rattle.pud_defs.specs.declared.machine.Refusal.{Refusal}
use Rattle.pud_defs.specs.declared.machine.Refusal.TheVariants as refusals
use Rattle.pud_defs.specs.PoolGraphs.Graph.{Graph}
use Rattle.pud_defs.specs.PoolGraphs.Holdings.{graph_held}
use Rattle.pud_defs.specs.PoolGraphs.ExportFile.{FileContents, types_used, file_graph}
use Rattle.pud_defs.specs.RegistryTables.Tables.{Pool}
use Rattle.pud_defs.specs.StateMachine.PoolChanges.{pool_named}
use Rattle.pud_defs.specs.StateMachine.World.{World}
use Rattle.pud_defs.specs.Output.Listing.{name_text}
use Rattle.pud_defs.specs.StateMachine.Grammar.{command_of}
use Rattle.pud_defs.specs.StateMachine.Step.{Answer, causes, cause_holds, refusal_of, answer_by, world_by}
use Rattle.pud_defs.specs.StateMachine.Step.Answer.{of_reply}

-- ---- the shelf

-- which files there are, by the bytes of their names, and what they store
abbrev pub Shelf : Type 0
Shelf = List ℕ → Option (List ℕ)

-- the shelf with a file replaced
abbrev pub with_file : List ℕ → List ℕ → Shelf → Shelf
with_file name bytes shelf other = cond (bytes_eq other name) (Some bytes) (shelf other)

-- what a file stores of a pool whose puddles are of these classes and which has this graph: its types are those of the
-- defined types that the graph uses
abbrev pub contents_for : List (ℕ × ℕ) → (classes : List ℕ) → Graph → FileContents
contents_for types classes g = record { types = types_used types g; classes = classes; graph = g }

-- the same for a pool that is there and is not wild
abbrev pub contents_of_pool : List (ℕ × ℕ) → Option Pool → Option FileContents
contents_of_pool types None = None
contents_of_pool types (Some pool) = option_map (contents_for types pool.classes) (graph_held pool.holding)

-- The shelf is that of the world with the file of one name replaced. Its bytes stand for the pool of the other name.
-- Any bytes that do so are possible.
pub record Exports (w : World) (name file : List ℕ) (shelf : Shelf) : Type 0 where
  pub contents : FileContents
  pub held : contents_of_pool w.stored.types (pool_named name w.stored) ≡ Some contents
  pub bytes : List ℕ
  pub holds : file_graph bytes ≡ Some contents
  pub given : shelf ≡ with_file file bytes w.shelf

-- a command that is not refused may give this shelf; each command but `export` leaves the shelf as it was
abbrev pub GivesShelf : World → Command → Shelf → Type 0
GivesShelf w (Export client name file) shelf = Exports w name (name_text file) shelf
GivesShelf w c shelf = shelf ≡ w.shelf

abbrev pub GivesUnless : Option Refusal → World → Command → Shelf → Type 0
GivesUnless None w c shelf = GivesShelf w c shelf
GivesUnless (Some refusal) w c shelf = shelf ≡ w.shelf

-- a line may give this shelf, given the line's command
abbrev pub GivesShelfBy : World → Option Command → Shelf → Type 0
GivesShelfBy w None shelf = shelf ≡ w.shelf
GivesShelfBy w (Some c) shelf = GivesUnless (refusal_of w c) w c shelf

-- ---- a line

-- The world that a line may give, given its command, if no allocation fails. The shelf is one of those that the line
-- may give. All else is what the line gives.
pub record Gives (w : World) (command : Option Command) (next : World) : Type 0 where
  pub shelf : GivesShelfBy w command next.shelf
  pub rest : next ≡ record (world_by w command) { shelf = next.shelf }

-- the line has the answer that `answer_by` gives, and may give this world
pub record IsDone (w : World) (command : Option Command) (said : Answer) (next : World) : Type 0 where
  pub answered : said ≡ answer_by w command
  pub gives : Gives w command next

-- the causes in a list that are tested before `memory`; none if the list does not have `memory`
abbrev pub before_memory : List Refusal → Option (List Refusal)
before_memory [] = None
before_memory (refusals.Memory ∷ later) = Some []
before_memory (cause ∷ later) = option_map (λ causes. cause ∷ causes) (before_memory later)

abbrev pub none_holds : World → Command → Option (List Refusal) → Bool
none_holds w c None = false
none_holds w c (Some earlier) = is_none (find (cause_holds w c) earlier)

-- the command may be refused with `memory`, and no cause that is tested before it holds
unfoldable pub may_lack_memory : World → Command → Bool
may_lack_memory w c = none_holds w c (before_memory (causes c))

-- an allocation failed in a command that may be refused with `memory`: it is refused so, and the world does not change
pub record IsOutOfMemory (w : World) (command : Option Command) (said : Answer) (next : World) : Type 0 where
  pub asked : Command
  pub is : command ≡ Some asked
  pub may : may_lack_memory w asked ≡ true
  pub answered : said ≡ of_reply (replies.No refusals.Memory)
  pub stays : next ≡ w

-- a step by the command of a line, or by a line that is no command
abbrev pub StepBy : World → Option Command → Answer → World → Type 0
StepBy w command said next = IsDone w command said next ⊎ IsOutOfMemory w command said next

-- the line has this answer and gives this world
abbrev pub Step : World → List ℕ → Answer → World → Type 0
Step w line said next = StepBy w (command_of line) said next
