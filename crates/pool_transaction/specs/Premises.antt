-- Premises that the clauses of transactions share, and what a line in one promises. Each stands for the function type that it unfolds to.
use Rattle.std.specs.Prelude.{◌≡◌, ℕ, true, List, Option, Some, None, Result, IfOk}
use Rattle.pm_model.specs.declared.host.HostFault.{HostFault}
use Rattle.pm_model.specs.Words.{Words, reads}
use Rattle.pm_model.specs.Moments.{State}
use Rattle.pud_defs.specs.declared.machine.Command.{Command}
use Rattle.pud_defs.specs.declared.records.Puddle.{Puddle}
use Rattle.pud_defs.specs.declared.records.Slot.{Slot}
use Rattle.pud_defs.specs.Formats.Image.{Image}
use Rattle.pud_defs.specs.PoolGraphs.Graph.{Graph, graph_of}
use Rattle.pud_defs.specs.PoolGraphs.Stored.{stored_in}
use Rattle.pud_defs.specs.RegistryTables.Types.{types_of}
use Rattle.pud_defs.specs.StateMachine.Step.{refusal_of, grows, world_by, after, answer_by}
use Rattle.pud_defs.specs.StateMachine.Step.Answer.{of_reply}
use Rattle.pud_defs.specs.StateMachine.World.{Transaction, World}
use Rattle.graph_laws.specs.Slots.{IsLowestFreeSlot}
use Rattle.registry.specs.declared.adding.NewPuddle.{NewPuddle}
use Rattle.log_store.specs.Store.{OpenLog}
use Rattle.puddle_header.specs.Places.{place_of_slot}
use Rattle.hybrid_tx.specs.PoolScopes.{ArePlacedPuddles, IsRewrittenAt}
use Rattle.hybrid_tx.specs.Objects.Transactions.{IsOpenOn}
use Rattle.known_pool.specs.Known.{Known, IsKnown}
use Rattle.nesting.specs.declared.Session.{Session}
use Rattle.daemon_memory.specs.Beginning.{MayBegin, begins_as}
use Rattle.daemon_memory.specs.declared.finding.Need.TheVariants as needs
use Rattle.daemon_memory.specs.declared.finding.OwnTransaction.{OwnTransaction}
use Rattle.daemon_memory.specs.Finding.{refusal_to}
use Rattle.daemon_memory.specs.Memory.{ActiveTransaction, Memory}
use Rattle.daemon_memory.specs.OwnOnPool.{IsOwnTransactionOn}
use Rattle.daemon_memory.specs.PoolKnowledge.{known_puddles_in}
use Rattle.daemon_memory.specs.Ready.{IsReady, Applies}
use Rattle.pool_transaction.specs.declared.changing.FoundUpdate.{FoundUpdate}
use Rattle.pool_transaction.specs.declared.changing.Update.{Update}
use Rattle.pool_transaction.specs.Changing.{RunsWith, MayMakeObject, MayChange, IsFoundBy, IsReadOf, ordinal_written, GrowsBy, with_known, with_made, MakesAfter, command_of_change, command_of_update}
use Rattle.pool_transaction.specs.Finishing.{FinishesUnless, FinishesLowest, FinishesOfType, FinishesFor, Finishes, AppliesFinishing}
use Rattle.pool_transaction.specs.Writing.{Updates, MakesObject, GrowsThenMakes, MakesChange, DoesUnless}
use Rattle.pm_model.specs.Counts.{Counts, fault_of}
use Rattle.pud_defs.specs.declared.machine.Command.TheVariants.{Begin, New}
use Rattle.pud_defs.specs.declared.machine.Reply.{Reply}
use Rattle.daemon_memory.specs.CarryingOut.{CarriesOutWith}
use Rattle.daemon_memory.specs.Doing.{ActsWith}
use Rattle.daemon_memory.specs.Leading.{AppliesWith}
use Rattle.daemon_memory.specs.LineAnswers.{as_line_answer}
use Rattle.pool_transaction.specs.declared.changing.Change.{Change}
use Rattle.pool_transaction.specs.Ending.{BeginsOn, ChangesPool, LeadsChange}
use Rattle.pool_transaction.specs.Lifetime.{with_begun}

-- ---- a transaction that is open

-- This holds for each world and memory in which the daemon is ready and the transaction runs, with this known about its pool.
abbrev pub WhileRuns : (F words : ℕ) → ActiveTransaction → Known → State → (Promise : (size : ℕ) → World → Memory → Type 0) → Type 0
WhileRuns F words active known s Promise = (size : ℕ) → (w : World) → (memory : Memory) → RunsWith F words active known size w memory s → Promise size w memory

-- The same if an object of this type is not refused whatever slots there are, is made in a puddle of this class, gets
-- this serial, and its pool has no free slot of the class.
abbrev pub WhileGrows : (F words : ℕ) → ActiveTransaction → Known → (id class serial : ℕ) → State → (Promise : (size : ℕ) → World → Memory → Type 0) → Type 0
WhileGrows F words active known id class serial s Promise =
    WhileRuns F words active known s (λ size w memory. MayMakeObject w active id class serial → grows w active.name class ≡ true → Promise size w memory)

-- The same if the slot is of the object's class, and is the lowest free one of it.
abbrev pub WhileMakes : (F words : ℕ) → ActiveTransaction → Known → (id serial : ℕ) → Slot → State → (Promise : (size : ℕ) → World → Memory → Type 0) → Type 0
WhileMakes F words active known id serial slot s Promise =
    WhileRuns F words active known s (λ size w memory. MayMakeObject w active id slot.class serial → IsLowestFreeSlot slot.class (stored_in F known.puddles (reads s.now.words)) (place_of_slot slot) → Promise size w memory)

-- The same if its pool grows by this puddle, whatever class the puddle is of.
abbrev pub WhileGrowsBy : (F words : ℕ) → ActiveTransaction → Known → NewPuddle → State → (Promise : (class size : ℕ) → World → Memory → Type 0) → Type 0
WhileGrowsBy F words active known added s Promise =
    WhileRuns F words active known s (λ size w memory. (class : ℕ) → GrowsBy F active.slot class known.puddles (reads s.now.words) added → Promise class size w memory)

-- ---- an update that was found

-- This holds for each transaction that is open on these puddles, and each update of it that may be made and was found so.
abbrev pub IfMayChange : (F : ℕ) → List (ℕ × Puddle) → FoundUpdate → (log : OpenLog) → State → (Promise : List (ℕ × ℕ) → Image → Graph → Transaction → Update → Type 0) → Type 0
IfMayChange F at found log s Promise =
    (types : List (ℕ × ℕ)) (before : Image) (graph_before : Graph) (t : Transaction) (update : Update) → ArePlacedPuddles F at → IsRewrittenAt at (ordinal_written found)
    → IsOpenOn F at types log before graph_before t.now t.deferred s.now.words → MayChange types t update → IsFoundBy F at (reads s.now.words) update found → Promise types before graph_before t update

-- This holds for the graph that the pool stores, if what is known about it is true and the update was found so.
abbrev pub IfFound : (F : ℕ) → Known → FoundUpdate → Words → (Promise : Image → Graph → Type 0) → Type 0
IfFound F known found words Promise =
    (image : Image) → reads words ≡ image → (update : Update) → (g : Graph) → graph_of (types_of image) (stored_in F known.puddles image) ≡ Some g
    → IsKnown F image known → IsFoundBy F known.puddles image update found → IsReadOf g update found → Promise image g

-- ---- what a line in a transaction does

-- The line of the transaction's client on its pool.
abbrev pub line_of : ActiveTransaction → (of : (client : ℕ) → List ℕ → Command) → Command
line_of active of = of active.client active.name

-- The line was carried out or refused. The transaction is then this one, and this is known about its pool. It led the frontiers to the ends of the
-- puddles that it wrote to.
abbrev pub AppliesLine : (active now : ActiveTransaction) → Known → Command → (finishes : Image → (ℕ → ℕ) → Type 0) → (size : ℕ) → World → Memory → Option HostFault → State → State → Type 0
AppliesLine active now known line finishes size w memory fault old new =
    AppliesFinishing active.slot (FinishesUnless (refusal_of w line) (finishes (reads old.now.words))) size w (world_by w (Some line)) (with_known active.log_number active.slot now known memory) fault old new

-- The line was carried out or refused: what it is answered, what becomes of the world and of what is in memory, and what
-- is written.
pub record DoesLine (active now : ActiveTransaction) (known : Known) (line : Command) (finishes : Image → (ℕ → ℕ) → Type 0) (Writes : Option HostFault → State → State → Type 0) (size : ℕ) (w : World) (memory : Memory) (done : Result Reply HostFault) (old new : State) : Type 0 where
  pub reply : IfOk done (λ reply. of_reply reply ≡ answer_by w (Some line))
  pub applies : AppliesLine active now known line finishes size w memory (fault_of done) old new
  pub writes : DoesUnless (refusal_of w line) Writes (fault_of done) old new

-- the line that updates an object or the root
abbrev pub DoesUpdate : (F : ℕ) → (active now : ActiveTransaction) → (known later : Known) → Update → (size : ℕ) → World → Memory → Result Reply HostFault → State → State → Type 0
DoesUpdate F active now known later update size w memory done old new =
    DoesLine active now later (line_of active (command_of_update update)) (λ image. FinishesFor F known.puddles image update) (Updates F active.client update known.puddles) size w memory done old new

-- the line that makes an object of this type
abbrev pub DoesNew : (F : ℕ) → (active now : ActiveTransaction) → (known later : Known) → (id : ℕ) → (size : ℕ) → World → Memory → Result Reply HostFault → State → State → Type 0
DoesNew F active now known later id size w memory done old new =
    DoesLine active now later (New active.client active.name id) (FinishesOfType F id known.puddles) (MakesObject F active.client id active.slot known.puddles) size w memory done old new

-- the same line, if no slot of this class is free
abbrev pub DoesNewGrown : (F : ℕ) → (active now : ActiveTransaction) → (known later : Known) → (id class : ℕ) → (size : ℕ) → World → Memory → Result Reply HostFault → State → State → Type 0
DoesNewGrown F active now known later id class size w memory done old new =
    DoesLine active now later (New active.client active.name id) (FinishesOfType F id known.puddles) (GrowsThenMakes F id class active.slot active.tx.log.gate_at known.puddles) size w memory done old new

-- the line of a change
abbrev pub DoesChange : (F : ℕ) → (active now : ActiveTransaction) → (known later : Known) → Change → (size : ℕ) → World → Memory → Result Reply HostFault → State → State → Type 0
DoesChange F active now known later change size w memory done old new =
    DoesLine active now later (line_of active (command_of_change change)) (λ image. Finishes F known.puddles image change) (MakesChange F active.client active.slot change known.puddles) size w memory done old new

-- An object of this type was made in the lowest free slot of this class.
abbrev pub AppliesMaking : (F id class : ℕ) → (active now : ActiveTransaction) → (known later : Known) → (size : ℕ) → World → Memory → Option HostFault → State → State → Type 0
AppliesMaking F id class active now known later size w memory fault old new =
    AppliesFinishing active.slot (FinishesLowest F class known.puddles (reads old.now.words)) size w (with_made active.name id w) (with_known active.log_number active.slot now later memory) fault old new

-- ---- a transaction that is to begin, and the client's own

-- This holds for each world in which the daemon is ready and the client may begin a transaction on the pool of the name, which is known.
abbrev pub WhileMayBegin : (words : ℕ) → Memory → (client : ℕ) → (name : List ℕ) → (slot : ℕ) → State → (Promise : (size : ℕ) → World → Type 0) → Type 0
WhileMayBegin words memory client name slot s Promise =
    (size : ℕ) → size ≡ words → (w : World) → (at : List (ℕ × Puddle)) → IsReady size w memory s → refusal_to w needs.Write client name ≡ None → known_puddles_in memory.known_pools slot ≡ Some at
    → MayBegin memory.frames client name (reads s.now.words) slot at → Promise size w

-- The memory of these parts.
abbrev pub memory_of : (frames : ℕ) → List (Option ActiveTransaction) → List (Option Session) → List (Option Known) → Memory
memory_of frames active sessions known_pools = record { frames = frames; active = active; sessions = sessions; known_pools = known_pools }

-- This holds for each world in which the daemon is ready and the transaction is the client's own on the pool of the name.
abbrev pub WhileOwn : (F words : ℕ) → List (Option ActiveTransaction) → List (Option Known) → OwnTransaction → State → (Promise : (size : ℕ) → World → List (Option Session) → (client : ℕ) → (name : List ℕ) → Type 0) → Type 0
WhileOwn F words all known_pools own s Promise =
    (size : ℕ) → size ≡ words → (w : World) → (sessions : List (Option Session)) → (client : ℕ) → (name : List ℕ) → IsReady size w (memory_of F all sessions known_pools) s
    → IsOwnTransactionOn client name own.slot own.log_number all → Promise size w sessions client name

-- The puddles are rewritten to their ends that the object writes, and then it is made in the slot.
abbrev pub MakesFor : (F : ℕ) → ActiveTransaction → (known later : Known) → Slot → (id : ℕ) → Option HostFault → State → State → Type 0
MakesFor F active known later slot id fault old new = MakesAfter F known.puddles later.puddles active.tx.log.gate_at slot id fault old new

-- A transaction of the client began on the pool of the name.
abbrev pub AppliesBegin : (F client : ℕ) → (name : List ℕ) → (slot number : ℕ) → (size : ℕ) → World → Memory → Option HostFault → State → State → Type 0
AppliesBegin F client name slot number size w memory fault old new =
    Applies size w (after w (Begin client name)) (with_begun (begins_as client name slot F number) memory) fault old new

-- A line on the pool of the name was carried out or refused: what it is answered, what becomes of the world and of what
-- is in memory, and what is done to the device.
pub record DoesOnPool (w : World) (line : Command) (Applying : Type 0) (Acts : Option HostFault → State → State → Type 0) (done : Result Reply HostFault) (old new : State) : Type 0 where
  pub reply : IfOk done (λ reply. of_reply reply ≡ answer_by w (Some line))
  pub applies : Applying
  pub acts : ActsWith Acts w line (as_line_answer done) old new

-- the line by which a transaction begins
abbrev pub DoesBegin : (size : ℕ) → World → (client : ℕ) → (name : List ℕ) → Memory → Result Reply HostFault → State → State → Type 0
DoesBegin size w client name memory done old new =
    DoesOnPool w (Begin client name) (Applies size w (world_by w (Some (Begin client name))) memory (fault_of done) old new) (BeginsOn w client name) done old new

-- The line of a change was carried out or refused: what becomes of the world and of frontiers, and what it owes in all.
abbrev pub AppliesChange : (size : ℕ) → World → (client : ℕ) → (name : List ℕ) → Change → Memory → Option HostFault → State → State → Type 0
AppliesChange size w client name change memory fault old new =
    AppliesWith (LeadsChange w.stored.frames name change) size w (world_by w (Some (command_of_change change client name))) (command_of_change change client name) memory fault old new

-- the line by which the client's own transaction changes its pool
abbrev pub DoesOwnChange : (size : ℕ) → World → (client : ℕ) → (name : List ℕ) → Change → Memory → Result Reply HostFault → State → State → Type 0
DoesOwnChange size w client name change memory done old new =
    DoesOnPool w (command_of_change change client name) (AppliesChange size w client name change memory (fault_of done) old new) (ChangesPool w client name change) done old new

abbrev pub CarriesOutChange : (size : ℕ) → World → Memory → (client : ℕ) → (name : List ℕ) → Change → Result Reply HostFault → (before after : Counts) → State → State → Type 0
CarriesOutChange size w memory client name change done before after old new =
    CarriesOutWith (LeadsChange w.stored.frames name change) (ChangesPool w client name change) size w memory (command_of_change change client name) (as_line_answer done) before after old new
