-- What the program prints and leaves when it runs a script, for one and the same run of the machine.
use Rattle.std.specs.Prelude.{◌≡◌, ◌⊎◌, ◌↔◌, ℕ, ◌+◌, ◌<◌, ◌≤◌, Bool, true, false, cond, List, [], ◌∷◌, ◌++◌, length, map, Option, Some, None}
use Rattle.pm_model.specs.Words.{Picks, reads}
use Rattle.pm_model.specs.Counts.{Counts, after_fault}
use Rattle.pm_model.specs.Moments.{State, MayLeave}
use Rattle.pm_model.specs.Changes.{Leaves}
use Rattle.pud_defs.specs.declared.layout.TheConstants.{SCRIPT_LIMIT}
use Rattle.pud_defs.specs.Formats.Image.{Image}
use Rattle.pud_defs.specs.StateMachine.World.{StoredWorld, World, world_of, closed}
use Rattle.pud_defs.specs.StateMachine.Grammar.{command_of}
use Rattle.pud_defs.specs.StateMachine.Changing.{KeepsFiles, KeepsUnwritable}
use Rattle.pud_defs.specs.StateMachine.Run.{Turn, cuts_of, IsRun, last_world, lines_taken, newlines}
use Rattle.pud_defs.specs.Output.Texts.{replies_text}
use Rattle.pud_defs.specs.Output.StartText.{start_text}
use Rattle.pud_defs.specs.StateMachine.Stands.{StandsAfterLines}
use Rattle.independence.specs.Independence.{AreIndependent}
use Rattle.puddle_cli.specs.declared.status.TheConstants.{DONE, POWER_LOST, TOO_LONG}
use Rattle.recover.specs.Recovery.{RefusesSame}
use Rattle.daemon_memory.specs.Ready.{RefusesNone}
use Rattle.puddled.specs.DoesLines.{OnlySays, DoLines, DoesPending}
use Rattle.puddled.specs.Saying.{IsPart}
use Rattle.puddled.specs.Starting.{DiffersByStart, HasTablesOf, refused_text, StandsInStart, Begins}
use Rattle.puddled.specs.declared.daemon.RunFault.{RunFault}
use Rattle.puddled.specs.Faults.{risen_by, RoseBy, is_loss, CountsTurns}
use Rattle.puddle_cli.specs.Status.{status_fault, run_fault_at}
use Rattle.puddle_cli.specs.Serving.{CountsPending, file_under_way}

-- Bytes of the script were taken: at status 0 all of them, and fewer than 2^20; at status 7 exactly 2^20. A run that
-- could go on to its end takes 2^20 bytes only at status 7. No file changes that no line may write.
pub record TakesScript (status : ℕ) (start end : State) : Type 0 where
  pub taken : List ℕ
  pub script : start.script ≡ taken ++ end.script
  pub within : length taken ≤ SCRIPT_LIMIT
  pub done : status ≡ DONE → (end.script ≡ []) × (length taken < SCRIPT_LIMIT)
  pub too_long : status ≡ TOO_LONG → length taken ≡ SCRIPT_LIMIT
  pub exact : run_fault_at status ≡ None → (status ≡ TOO_LONG) ↔ (length taken ≡ SCRIPT_LIMIT)
  pub files : KeepsUnwritable start.shelf end.shelf

-- One run of the machine over a script. `begun` is whether the start was printed whole; nothing is taken before that.
-- The run has the bytes taken, whether the script's end was read, and the lines that the bytes make. Some of these
-- lines were answered, and at most one has no whole reply.
pub record ScriptRun (w : World) (start end : State) : Type 0 where
  pub begun : Bool
  pub taken : List ℕ
  pub ended : Bool
  pub script : start.script ≡ taken ++ end.script
  pub to_end : ended ≡ true → end.script ≡ []
  pub answered : List Turn
  pub pending : List Turn
  pub few : length pending ≤ 1
  pub is_run : IsRun w (answered ++ pending)
  pub lines : map (λ t. t.line) (answered ++ pending) ≡ lines_taken taken ended
  pub nothing_yet : begun ≡ false → (taken ≡ []) × (answered ++ pending ≡ [])

-- After the start began, these bytes were printed: the start's text, the replies to the answered lines, and a prefix
-- of the reply to the line under way.
pub record IsAfterStart (text : List ℕ) (answered pending : List Turn) (bytes : List ℕ) : Type 0 where
  pub more : List ℕ
  pub rest : List ℕ
  pub said : bytes ≡ text ++ replies_text answered ++ more
  pub part : replies_text pending ≡ more ++ rest

-- What a run does to the device and to the files, from its first state on. A start runs up to the end of its text.
-- Then each answered line does exactly what its command does, in order. The line under way does a part of that, up to
-- how the run ended. Nothing else is written.
pub record DoesRun (size : ℕ) (w : World) (answered pending : List Turn) (fault : Option RunFault) (start end : State) : Type 0 where
  pub ready : State
  pub begins : Begins size (closed w) start ready
  pub last : State
  pub does : DoLines w answered ready last
  pub under_way : DoesPending (last_world w answered) pending fault last end

-- The exit of a run: what was printed since the start began, what was done, and what is left. Within the start, if the
-- host failed or power was lost there, a prefix of the start's text was printed, and each image that a power loss may
-- leave at any moment is one that a start may leave. At status 0 and 7 the run is whole, each image left stands for
-- its closed last world, and the shelf of that world is left. At any other status each file is as the answered lines
-- left it, except the one that the line without a reply may write.
pub record RunExit (size : ℕ) (w : World) (status : ℕ) (start end : State) (run : ScriptRun w start end) : Type 0 where
  pub bytes : List ℕ
  pub said : end.now.said ≡ start.now.said ++ bytes
  pub in_start : run.begun ≡ false → IsPart bytes (start_text (reads start.now.words))
  pub starting : run.begun ≡ false → Leaves (StandsInStart size (closed w) (reads start.now.words)) start end
  pub after_start : run.begun ≡ true → IsAfterStart (start_text (reads start.now.words)) run.answered run.pending bytes
  pub does : run.begun ≡ true → DoesRun size w run.answered run.pending (run_fault_at status) start end
  pub whole : run_fault_at status ≡ None → (run.pending ≡ []) × (bytes ≡ start_text (reads start.now.words) ++ replies_text run.answered)
  pub all_lines : status ≡ DONE → run.ended ≡ true
  pub not_ended : status ≡ TOO_LONG → run.ended ≡ false
  pub ends : run_fault_at status ≡ None → (image : Image) → Picks end.now.words image → world_of size image ≡ Some (closed (last_world w run.answered))
  pub files : KeepsFiles (file_under_way run.pending) (last_world w run.answered).shelf end.shelf
  pub shelf_of_run : run_fault_at status ≡ None → end.shelf ≡ (last_world w run.answered).shelf

-- Every moment of a call that begins with a start and prints its text first, on a device of F frames. Until the text
-- is whole, an image differs from what the device read only where a start may write: what the daemon log names, what
-- logs give whose owners may write all that they name, their gates, the daemon log and the log-space table. Until then
-- no record of a pool or a puddle changes. Until each refused log is reported, the same logs are refused. Once the
-- text is whole, no registered log is refused.
pub record StartMoments (F : ℕ) (start end : State) : Type 0 where
  pub rights : (said : List ℕ) (image : Image) → MayLeave start end said image → newlines said < newlines (start_text (reads start.now.words))
      → DiffersByStart F (reads start.now.words) image
  pub tables : (said : List ℕ) (image : Image) → MayLeave start end said image → newlines said < newlines (start_text (reads start.now.words))
      → HasTablesOf F (reads start.now.words) image
  pub untold : (said : List ℕ) (image : Image) → MayLeave start end said image → newlines said < newlines (refused_text (reads start.now.words))
      → RefusesSame F (reads start.now.words) image
  pub allowed : (said : List ℕ) (image : Image) → MayLeave start end said image → newlines (start_text (reads start.now.words)) ≤ newlines said → RefusesNone image

-- A device that stands for s was started on and then only read. This was a start, as far as it came, or a start up to
-- the end of its text, and after it only bytes were printed.
abbrev pub StartsAndSays : ℕ → StoredWorld → State → State → Type 0
StartsAndSays size s start end =
    Leaves (StandsInStart size s (reads start.now.words)) start end ⊎ ((ready : State) × Begins size s start ready × OnlySays ready end)

-- Every moment of a run: what each image stands for that may have been left since the call began, by the bytes printed
-- since then. The lines of the start's text come first.
pub record RunMoments (size : ℕ) (w : World) (start end : State) (run : ScriptRun w start end) : Type 0 where
  pub stands : (said : List ℕ) (image : Image) → MayLeave start end said image → StandsAfterLines (newlines (start_text (reads start.now.words))) size w (run.answered ++ run.pending) (newlines said) image
  pub in_start : StartMoments w.stored.frames start end

-- How many cuts are counted if the restart after the line under way was cut off. There is that one, and one in the
-- line, unless the line asks for the loss.
abbrev pub cuts_lost : List Turn → ℕ
cuts_lost [] = 1
cuts_lost (t ∷ turns) = cond (is_loss (command_of t.line)) 1 2

-- What was counted in a run of these lines. Within the start it is the host's one fault. After the start each answered
-- line is counted by its command and its reply. A cut is armed, or power is lost at once, only in lines that ask for
-- it, and no such line is answered `cut`. In any other line that is not answered `cut` nothing is counted. The line
-- under way is counted by its command and by how it ended. So a run that ended without a fault counts exactly as many
-- cuts as it has replies `cut`. At status 6 it counts those, one more, and another one if a line that asks for no
-- power loss was left without a reply. At any status it counts at least as many cuts as there are such replies.
pub record RunCounts (begun : Bool) (answered pending : List Turn) (status : ℕ) (before after : Counts) : Type 0 where
  pub mid : Counts
  pub in_start : begun ≡ false → after ≡ after_fault (status_fault status) before
  pub turns_counted : CountsTurns answered before mid
  pub pending_counted : begun ≡ true → CountsPending pending (run_fault_at status) mid after
  pub cuts : RoseBy (cuts_of answered) before.cuts after.cuts
  pub exact : run_fault_at status ≡ None → after.cuts ≡ risen_by (cuts_of answered) before.cuts
  pub exact_at_loss : status ≡ POWER_LOST → after.cuts ≡ risen_by (cuts_lost pending + cuts_of answered) before.cuts

-- The exit, the moments and the counts of one and the same run over a script, from a device of which all images stand
-- for the stored world of w. At status 0 the run agrees, for every set of pools, with each run over the set's own
-- lines.
pub record Headline (size : ℕ) (w : World) (status : ℕ) (before after : Counts) (start end : State) : Type 0 where
  pub run : ScriptRun w start end
  pub exit : RunExit size w status start end run
  pub moments : RunMoments size w start end run
  pub counted : RunCounts run.begun run.answered run.pending status before after
  pub independent : status ≡ DONE → AreIndependent w (lines_taken run.taken true) run.answered
