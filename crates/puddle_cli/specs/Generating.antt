-- What the program prints and leaves when it runs generated lines, for one and the same run of the machine.
use Rattle.std.specs.Prelude.{◌≡◌, ◌≢◌, ◌⊎◌, ℕ, ◌≤◌, Bool, true, false, List, [], ◌++◌, length, map, Option, Some, None}
use Rattle.pm_model.specs.Words.{Picks, reads}
use Rattle.pm_model.specs.Counts.{Counts}
use Rattle.pm_model.specs.Moments.{State, MayLeave}
use Rattle.pm_model.specs.Changes.{Leaves}
use Rattle.pud_defs.specs.Formats.Image.{Image}
use Rattle.pud_defs.specs.StateMachine.World.{World, world_of, closed}
use Rattle.pud_defs.specs.StateMachine.Changing.{KeepsFiles}
use Rattle.pud_defs.specs.StateMachine.Run.{Turn, IsRun, last_world}
use Rattle.pud_defs.specs.Output.StartText.{start_text}
use Rattle.pud_check.specs.Summary.{summary_text}
use Rattle.pud_check.specs.SummaryListed.{listed_summary}
use Rattle.puddled.specs.declared.daemon.RunFault.{RunFault}
use Rattle.puddled.specs.declared.daemon.RunFault.TheVariants.{NotSound}
use Rattle.puddled.specs.Faults.{CountsTurns}
use Rattle.puddled.specs.DoesLines.{OnlySays, DoLines, DoesPending}
use Rattle.puddled.specs.Saying.{IsPart}
use Rattle.puddled.specs.Starting.{StandsInStart}
use Rattle.puddle_cli.specs.Status.{run_fault_at}
use Rattle.puddle_cli.specs.Serving.{refused_of, StandsAmong, AllowsLogs, file_under_way, DoesServed, CountsServed}
use Rattle.puddle_cli.specs.Headline.{DoesRun, StartMoments, RunCounts}

-- One run of the machine over lines. `begun` is whether the start was printed whole; no line is answered before that.
-- Some lines were answered, at most one more was not answered whole, and the lines after it were not reached.
pub record LineRun (w : World) (lines : List (List ℕ)) : Type 0 where
  pub begun : Bool
  pub answered : List Turn
  pub pending : List Turn
  pub few : length pending ≤ 1
  pub is_run : IsRun w (answered ++ pending)
  pub following : List (List ℕ)
  pub are : lines ≡ map (λ t. t.line) (answered ++ pending) ++ following
  pub nothing_yet : begun ≡ false → answered ++ pending ≡ []

-- Each line was answered.
pub record IsWhole (w : World) (lines : List (List ℕ)) (run : LineRun w lines) : Type 0 where
  pub none_pending : run.pending ≡ []
  pub none_after : run.following ≡ []

-- The summary of what was answered: the number of lines, the number of refused lines, and what the world then has
-- stored.
abbrev pub summary_of : World → List Turn → List ℕ
summary_of w answered = summary_text (length answered) (refused_of answered) (closed (last_world w answered))

-- What a call prints for lines whose replies are not printed: nothing, or, once each line was answered, a prefix of
-- the summary.
abbrev pub SaysOf : (w : World) (lines : List (List ℕ)) (run : LineRun w lines) → (bytes : List ℕ) → Type 0
SaysOf w lines run bytes = (bytes ≡ []) ⊎ (IsWhole w lines run × IsPart bytes (summary_of w run.answered))

-- A part of the summary of the run was printed, and without a fault all of it.
pub record SaysSums (w : World) (lines : List (List ℕ)) (run : LineRun w lines) (fault : Option RunFault) (start end : State) : Type 0 where
  pub bytes : List ℕ
  pub said : end.now.said ≡ start.now.said ++ bytes
  pub part : SaysOf w lines run bytes
  pub whole : fault ≡ None → IsWhole w lines run × (bytes ≡ summary_of w run.answered)

-- The lines were answered on a ready daemon, and no reply was printed. Then the summary was printed, as far as this
-- fault allowed.
pub record SumsUp (size : ℕ) (w : World) (lines : List (List ℕ)) (fault : Option RunFault) (before after : Counts) (start end : State) : Type 0 where
  pub run : LineRun w lines
  pub says : SaysSums w lines run fault start end
  pub summed : State
  pub did : DoesServed w run.answered run.pending fault start summed
  pub sums : OnlySays summed end
  pub moments : Leaves (λ bytes image. StandsAmong size w (run.answered ++ run.pending) image) start end
  pub allowed : AllowsLogs start end
  pub ends : fault ≡ None → (image : Image) → Picks end.now.words image → world_of size image ≡ Some (closed (last_world w run.answered))
  pub files : KeepsFiles (file_under_way run.pending) (last_world w run.answered).shelf end.shelf
  pub counts : CountsServed run.answered run.pending fault before after
  pub sound : fault ≢ Some NotSound
  pub script : end.script ≡ start.script

-- What a run over lines whose replies are not printed does to the device and to the files. It is what a run does, and
-- after that only bytes are printed.
pub record DoesSummed (size : ℕ) (w : World) (answered pending : List Turn) (fault : Option RunFault) (start end : State) : Type 0 where
  pub summed : State
  pub does : DoesRun size w answered pending fault start summed
  pub sums : OnlySays summed end

-- The exit of a run over lines whose replies are not printed. A prefix of the start's text was printed, or, once each
-- line was answered, a prefix of that text followed by the summary. At status 0 both are printed whole, and each image
-- left stands for the run's closed last world. Each file is as the answered lines left it, except the one that the
-- line without a reply may write.
pub record LinesExit (size : ℕ) (w : World) (lines : List (List ℕ)) (status : ℕ) (start end : State) (run : LineRun w lines) : Type 0 where
  pub bytes : List ℕ
  pub said : end.now.said ≡ start.now.said ++ bytes
  pub part : IsPart bytes (start_text (reads start.now.words)) ⊎ (IsWhole w lines run × IsPart bytes (start_text (reads start.now.words) ++ summary_of w run.answered))
  pub whole : run_fault_at status ≡ None → IsWhole w lines run × (bytes ≡ start_text (reads start.now.words) ++ summary_of w run.answered)
  pub starting : run.begun ≡ false → Leaves (StandsInStart size (closed w) (reads start.now.words)) start end
  pub does : run.begun ≡ true → DoesSummed size w run.answered run.pending (run_fault_at status) start end
  pub ends : run_fault_at status ≡ None → (image : Image) → Picks end.now.words image → world_of size image ≡ Some (closed (last_world w run.answered))
  pub files : KeepsFiles (file_under_way run.pending) (last_world w run.answered).shelf end.shelf
  pub script : end.script ≡ start.script

-- Every moment of such a run. Each image that may have been left stands for the stored world at the start, for the
-- closed world after some line, or for a world that a line gives.
pub record LinesMoments (size : ℕ) (w : World) (lines : List (List ℕ)) (start end : State) (run : LineRun w lines) : Type 0 where
  pub stands : (said : List ℕ) (image : Image) → MayLeave start end said image → StandsAmong size w (run.answered ++ run.pending) image
  pub in_start : StartMoments w.stored.frames start end

-- The exit, the moments and the counts of one and the same run over lines, from a device of which all images stand for
-- the stored world of w.
pub record RunsLines (size : ℕ) (w : World) (lines : List (List ℕ)) (status : ℕ) (before after : Counts) (start end : State) : Type 0 where
  pub run : LineRun w lines
  pub exit : LinesExit size w lines status start end run
  pub moments : LinesMoments size w lines start end run
  pub counted : RunCounts run.begun run.answered run.pending status before after

-- ---- whatever the device stores

-- These bytes are a prefix of a text followed by a summary. The summary gives so many lines, the pools as the image's
-- tables list them, and some number of refused lines. If `whole` holds, the bytes are all of it.
pub record IsSummary (text : List ℕ) (lines : ℕ) (whole : Type 0) (image : Image) (bytes : List ℕ) : Type 0 where
  pub frames : ℕ
  pub refused : ℕ
  pub part : IsPart bytes (text ++ listed_summary frames image lines refused)
  pub all : whole → bytes ≡ text ++ listed_summary frames image lines refused

-- What was printed since the call began is such a summary, by what the device reads in the end.
pub record SaysSummary (text : List ℕ) (lines : ℕ) (whole : Type 0) (start end : State) : Type 0 where
  pub bytes : List ℕ
  pub said : end.now.said ≡ start.now.said ++ bytes
  pub is : IsSummary text lines whole (reads end.now.words) bytes
