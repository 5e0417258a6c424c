-- How far a script was answered.
use Rattle.std.specs.Prelude.{◌≡◌, ◌≢◌, ◌⊎◌, ℕ, ◌+◌, ◌<◌, ◌≤◌, Bool, true, false, cond, not, List, [], ◌∷◌, ◌++◌, length, map, take, count_by, Option, Some, None, Result, Ok, Err, IfOk}
use Rattle.pm_model.specs.Words.{reads}
use Rattle.pm_model.specs.Counts.{Counts, Rose, after_fault}
use Rattle.pm_model.specs.Moments.{State}
use Rattle.pm_model.specs.Changes.{Leaves}
use Rattle.pud_defs.specs.declared.layout.TheConstants.{SCRIPT_LIMIT}
use Rattle.pud_defs.specs.Formats.Image.{Image}
use Rattle.pud_defs.specs.StateMachine.World.{World, world_of, closed}
use Rattle.pud_defs.specs.StateMachine.Grammar.{command_of}
use Rattle.pud_defs.specs.StateMachine.Changing.{file_in, KeepsFiles, KeepsUnwritable}
use Rattle.pud_defs.specs.StateMachine.Run.{Turn, cuts_of, IsRun, last_world, open_rest, lines_taken, lines_among}
use Rattle.pud_defs.specs.Output.Texts.{replies_text, begins_with_ok}
use Rattle.pud_defs.specs.StateMachine.Stands.{StandsWith}
use Rattle.puddled.specs.declared.daemon.RunFault.{RunFault}
use Rattle.puddled.specs.declared.daemon.RunFault.TheVariants.{CutInStart, NotSound}
use Rattle.puddled.specs.Faults.{run_fault, last_fault, CountsLine, CountsTurns}
use Rattle.daemon_memory.specs.Memory.{Memory}
use Rattle.daemon_memory.specs.Ready.{IsReady, RefusesNone}
use Rattle.puddled.specs.DoesLines.{DoLines, DoesPending}
use Rattle.puddled.specs.Saying.{SaysPart}
use Rattle.puddle_cli.specs.declared.line_buffer.TheConstants.{KEPT}
use Rattle.puddle_cli.specs.declared.run.Served.{Served}

-- ---- what is printed for the lines of a run, and which world an image stands for meanwhile

-- The replies to these lines if they are printed, else nothing.
abbrev pub said_of : (aloud : Bool) → List Turn → List ℕ
said_of aloud turns = cond aloud (replies_text turns) []

-- The number of replies that do not begin with `ok`.
abbrev pub refused_of : List Turn → ℕ
refused_of turns = count_by (λ t. not (begins_with_ok t.answer)) turns

-- The image stands for the closed world before some line of the run, for one that a line gives, or for the last one.
abbrev pub StandsAmong : ℕ → World → List Turn → Image → Type 0
StandsAmong size w [] image = world_of size image ≡ Some (closed w)
StandsAmong size w (t ∷ turns) image = (world_of size image ≡ Some (closed w)) ⊎ (world_of size image ≡ Some (closed t.under)) ⊎ StandsAmong size t.next turns image

-- The same. If the replies are printed, they also tell after which line.
abbrev pub StandsBy : (aloud : Bool) → ℕ → World → List Turn → List ℕ → Image → Type 0
StandsBy true size w turns bytes image = StandsWith size w turns bytes image
StandsBy false size w turns bytes image = StandsAmong size w turns image

-- ---- what a host keeps

-- The bytes left to read do not change, and no file changes that no line may write.
pub record KeepsScript (old new : State) : Type 0 where
  pub script : new.script ≡ old.script
  pub files : KeepsUnwritable old.shelf new.shelf

-- Nothing was printed, and no byte of the script was read.
pub record IsQuiet (old new : State) : Type 0 where
  pub said : new.now.said ≡ old.now.said
  pub script : new.script ≡ old.script

-- Power was lost meanwhile, as a counted cut or at once, and what the device then reads is not sound.
pub record IsUnsoundAfterLoss (before after : Counts) (now : State) : Type 0 where
  pub lost : Rose before.cuts after.cuts ⊎ Rose before.losses after.losses
  pub unsound : world_of before.size (reads now.now.words) ≡ None

-- ---- how many of all bytes were taken

-- So many of all bytes were taken, and these are left.
pub record Takes (all : List ℕ) (count : ℕ) (start now : State) (left : List ℕ) : Type 0 where
  pub taken : List ℕ
  pub counted : length taken ≡ count
  pub is : all ≡ taken ++ left
  pub files : KeepsUnwritable start.shelf now.shelf

-- At most so many of all bytes were taken, and these are left.
pub record TakesAtMost (all : List ℕ) (count : ℕ) (start now : State) (left : List ℕ) : Type 0 where
  pub taken : List ℕ
  pub counted : length taken ≤ count
  pub is : all ≡ taken ++ left
  pub files : KeepsUnwritable start.shelf now.shelf

-- Fewer than 2^20 bytes were taken, and none is left.
pub record TakesAll (all : List ℕ) (start now : State) (left : List ℕ) : Type 0 where
  pub taken : List ℕ
  pub below : length taken < SCRIPT_LIMIT
  pub is : all ≡ taken ++ left
  pub none_left : left ≡ []
  pub files : KeepsUnwritable start.shelf now.shelf

-- All bytes were taken, or 2^20 of them.
abbrev pub TakesTo : (ended : Bool) → (all : List ℕ) → State → State → (left : List ℕ) → Type 0
TakesTo true all start now left = TakesAll all start now left
TakesTo false all start now left = Takes all SCRIPT_LIMIT start now left

-- What a call that takes bytes took, by whether it came to their end.
abbrev pub TakesBy : (all : List ℕ) → Result Served RunFault → State → State → (left : List ℕ) → Type 0
TakesBy all (Ok served) start now left = TakesTo served.ended all start now left
TakesBy all (Err fault) start now left = TakesAtMost all SCRIPT_LIMIT start now left

-- One turn of the loop took a byte, or no byte was left, or with a fault one byte may have been taken.
abbrev pub TakesOne : (all : List ℕ) → Result Bool RunFault → ℕ → State → State → (left : List ℕ) → Type 0
TakesOne all (Ok true) count start now left = Takes all (count + 1) start now left
TakesOne all (Ok false) count start now left = Takes all count start now left
TakesOne all (Err fault) count start now left = TakesAtMost all (count + 1) start now left

-- What a host counts of the line under way up to its end, if there is such a line.
abbrev pub CountsPending : List Turn → Option RunFault → Counts → Counts → Type 0
CountsPending [] fault old new = (fault ≢ Some CutInStart) × (new ≡ after_fault (last_fault fault) old)
CountsPending (t ∷ turns) fault old new = CountsLine (command_of t.line) fault (cuts_of (t ∷ [])) old new

-- The file that the line under way may write, if there is one.
abbrev pub file_under_way : List Turn → Option (List ℕ)
file_under_way [] = None
file_under_way (t ∷ turns) = file_in (command_of t.line)

-- In no image that a power loss may leave at any moment is a registered log refused.
abbrev pub AllowsLogs : State → State → Type 0
AllowsLogs old new = Leaves (λ bytes image. RefusesNone image) old new

-- An empty line takes no turn of the machine, any other line takes one. The result is the number of replies that do not
-- begin with `ok`.
pub record TakesTurn (w : World) (line : List ℕ) (result : Result ℕ RunFault) : Type 0 where
  pub turns : List Turn
  pub few : length turns ≤ 1
  pub lines : map (λ t. t.line) turns ≡ lines_among (line ∷ [])
  pub is_run : IsRun w turns
  pub refused : IfOk result (λ count. count ≡ refused_of turns)

-- A line was answered. An empty line takes no turn. Any other line takes one turn of the machine, which did exactly
-- what its command does. If replies are printed, its reply is printed whole without a fault. The result is the number
-- of replies that do not begin with `ok`.
pub record AnswersLine (size : ℕ) (w : World) (aloud : Bool) (line : List ℕ) (result : Result ℕ RunFault) (memory : Memory) (before after : Counts) (old new : State) : Type 0 where
  pub run : TakesTurn w line result
  pub moments : Leaves (StandsBy aloud size w run.turns) old new
  pub allowed : AllowsLogs old new
  pub says : SaysPart (said_of aloud run.turns) (run_fault result) old new
  pub does : DoesPending w run.turns (run_fault result) old new
  pub ready : run_fault result ≡ None → IsReady size (last_world w run.turns) memory new
  pub counted : CountsPending run.turns (run_fault result) before after
  pub turns_counted : run_fault result ≡ None → CountsTurns run.turns before after
  pub sound : run_fault result ≢ Some NotSound
  pub script : new.script ≡ old.script
  pub files : KeepsFiles (file_under_way run.turns) w.shelf new.shelf

-- Of all bytes these are left. Each line that the taken bytes close has a turn of the machine. The bytes after these
-- lines belong to the line under way. The first of them are kept: one more than a line may have. `refused` is the number
-- of replies that do not begin with `ok`.
pub record RunsSoFar (w : World) (all left piece : List ℕ) (refused : ℕ) : Type 0 where
  pub taken : List ℕ
  pub turns : List Turn
  pub is_run : IsRun w turns
  pub lines : map (λ t. t.line) turns ≡ lines_taken taken false
  pub under_way : piece ≡ take KEPT (open_rest taken)
  pub is : all ≡ taken ++ left
  pub refusals : refused ≡ refused_of turns

-- Each of these lines was answered, and did exactly what its command does.
pub record Serves (size : ℕ) (w : World) (aloud : Bool) (all : List ℕ) (before : Counts) (start : State) (counts : Counts) (memory : Memory) (now : State) (left piece : List ℕ) (refused : ℕ) : Type 0 where
  pub run : RunsSoFar w all left piece refused
  pub said : now.now.said ≡ start.now.said ++ said_of aloud run.turns
  pub does : DoLines w run.turns start now
  pub moments : Leaves (StandsBy aloud size w run.turns) start now
  pub allowed : AllowsLogs start now
  pub ready : IsReady size (last_world w run.turns) memory now
  pub counted : CountsTurns run.turns before counts

-- This holds for each run that is served so far. Whether its replies are printed is this.
abbrev pub WhileServing : (words : ℕ) → (aloud_is : Bool) → Counts → Memory → State → (left piece : List ℕ) → (refused : ℕ) → (Promise : (size : ℕ) → World → Bool → (all : List ℕ) → Counts → State → Type 0) → Type 0
WhileServing words aloud_is counts memory now left piece refused Promise =
    (size : ℕ) → size ≡ words → (w : World) → (aloud : Bool) → aloud_is ≡ aloud → (all : List ℕ) → (before : Counts) → (start : State)
    → Serves size w aloud all before start counts memory now left piece refused → Promise size w aloud all before start

-- Of all bytes these are left, and each line that the taken bytes close has a turn of the machine. Some lines have a
-- whole reply, and at most one more has a reply that is not whole. Without a fault there is no such line.
pub record IsServed (w : World) (all : List ℕ) (ended : Bool) (fault : Option RunFault) (left : List ℕ) (refused : ℕ) : Type 0 where
  pub taken : List ℕ
  pub answered : List Turn
  pub pending : List Turn
  pub few : length pending ≤ 1
  pub is_run : IsRun w (answered ++ pending)
  pub lines : map (λ t. t.line) (answered ++ pending) ≡ lines_taken taken ended
  pub is : all ≡ taken ++ left
  pub to_end : ended ≡ true → left ≡ []
  pub refusals : fault ≡ None → refused ≡ refused_of answered
  pub whole : fault ≡ None → pending ≡ []

-- The replies to the answered lines were printed, and a part of the reply to the line under way.
pub record SaysServed (aloud : Bool) (answered pending : List Turn) (start now : State) : Type 0 where
  pub more : List ℕ
  pub rest : List ℕ
  pub said : now.now.said ≡ start.now.said ++ said_of aloud answered ++ more
  pub part : said_of aloud pending ≡ more ++ rest

-- Up to some state each answered line did exactly what its command does. After that the line under way did a part of
-- that.
pub record DoesServed (w : World) (answered pending : List Turn) (fault : Option RunFault) (start now : State) : Type 0 where
  pub last : State
  pub does : DoLines w answered start last
  pub under_way : DoesPending (last_world w answered) pending fault last now

-- Up to some counts each answered line is counted by its command and its reply. After that the line under way is
-- counted by how it ended.
pub record CountsServed (answered pending : List Turn) (fault : Option RunFault) (before after : Counts) : Type 0 where
  pub mid : Counts
  pub turns_counted : CountsTurns answered before mid
  pub counted : CountsPending pending fault mid after

-- All lines were answered so far, and these bytes are left. Each file is as the answered lines left it, except the one
-- that the line under way may write.
pub record HasServed (size : ℕ) (w : World) (aloud : Bool) (all : List ℕ) (ended : Bool) (fault : Option RunFault) (before after : Counts) (start now : State) (left : List ℕ) (refused : ℕ) : Type 0 where
  pub run : IsServed w all ended fault left refused
  pub says : SaysServed aloud run.answered run.pending start now
  pub did : DoesServed w run.answered run.pending fault start now
  pub moments : Leaves (StandsBy aloud size w (run.answered ++ run.pending)) start now
  pub allowed : AllowsLogs start now
  pub memory : Memory
  pub ready : fault ≡ None → IsReady size (last_world w run.answered) memory now
  pub files : KeepsFiles (file_under_way run.pending) (last_world w run.answered).shelf now.shelf
  pub counts : CountsServed run.answered run.pending fault before after
  pub sound : fault ≢ Some NotSound

-- The same, by what the call answered: whether the end was reached and how many lines were refused, or why the run
-- cannot go on.
abbrev pub HasServedBy : (size : ℕ) → World → (aloud : Bool) → (all : List ℕ) → Result Served RunFault → Counts → Counts → State → State → (left : List ℕ) → Type 0
HasServedBy size w aloud all (Ok served) before after start now left = HasServed size w aloud all served.ended None before after start now left served.refused
HasServedBy size w aloud all (Err fault) before after start now left = (ended : Bool) × HasServed size w aloud all ended (Some fault) before after start now left 0
