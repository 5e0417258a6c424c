-- What is printed over a script, whatever the device stores: one answer to each line, in order.
use Rattle.std.specs.Prelude.{◌≡◌, ◌⊎◌, ℕ, ◌≤◌, Bool, false, List, [], ◌∷◌, ◌++◌, All, length, take, Option, Some, None, Result, Ok, Err}
use Rattle.std.specs.List.{concat}
use Rattle.pm_model.specs.Words.{reads}
use Rattle.pm_model.specs.Moments.{State}
use Rattle.pud_defs.specs.StateMachine.Run.{open_rest, lines_taken, lines_among}
use Rattle.pud_defs.specs.Output.StartText.{start_text}
use Rattle.puddled.specs.declared.daemon.RunFault.{RunFault}
use Rattle.puddled.specs.Saying.{IsPart, SaysPart}
use Rattle.puddled.specs.Daemon.{IsAnswerText}
use Rattle.puddle_cli.specs.declared.line_buffer.TheConstants.{KEPT}
use Rattle.puddle_cli.specs.declared.run.Served.{Served}
use Rattle.puddle_cli.specs.Status.{run_fault_at}

-- One answer was printed to a line that is not empty, none to an empty one, and nothing else. With a fault a prefix of
-- the answer was printed.
pub record HearsLine (line : List ℕ) (fault : Option RunFault) (old new : State) : Type 0 where
  pub texts : List (List ℕ)
  pub few : length texts ≤ 1
  pub answers : All IsAnswerText texts
  pub count : length texts ≡ length (lines_among (line ∷ []))
  pub says : SaysPart (concat texts) fault old new
  pub script : new.script ≡ old.script

-- Each line that the taken bytes close has one printed answer, in order, and nothing else was printed. The bytes after
-- these lines belong to the line under way, and the first of them are kept.
pub record Hears (start now : State) (piece : List ℕ) : Type 0 where
  pub taken : List ℕ
  pub texts : List (List ℕ)
  pub answers : All IsAnswerText texts
  pub count : length texts ≡ length (lines_taken taken false)
  pub under_way : piece ≡ take KEPT (open_rest taken)
  pub script : start.script ≡ taken ++ now.script
  pub said : now.now.said ≡ start.now.said ++ concat texts

-- After a text, each line taken has one printed answer, in order, and nothing else was printed. If a fault broke off
-- the answer to the last line, it may be printed in part or not at all. Without a fault there is no such answer.
pub record IsReplied (text : List ℕ) (ended : Bool) (fault : Option RunFault) (start end : State) (bytes : List ℕ) : Type 0 where
  pub taken : List ℕ
  pub texts : List (List ℕ)
  pub pending : List (List ℕ)
  pub few : length pending ≤ 1
  pub answers : All IsAnswerText (texts ++ pending)
  pub count : length (texts ++ pending) ≡ length (lines_taken taken ended)
  pub more : List ℕ
  pub rest : List ℕ
  pub part : concat pending ≡ more ++ rest
  pub whole : fault ≡ None → pending ≡ []
  pub script : start.script ≡ taken ++ end.script
  pub is : bytes ≡ text ++ concat texts ++ more

-- The same, stated about what was printed since the call began.
pub record Heard (ended : Bool) (fault : Option RunFault) (start end : State) : Type 0 where
  pub bytes : List ℕ
  pub said : end.now.said ≡ start.now.said ++ bytes
  pub replied : IsReplied [] ended fault start end bytes

-- The same, by what the call answered: whether the end of the script was read, or why the run cannot go on.
abbrev pub HeardBy : Result Served RunFault → State → State → Type 0
HeardBy (Ok served) start end = Heard served.ended None start end
HeardBy (Err fault) start end = (ended : Bool) × Heard ended (Some fault) start end

-- What a run printed: a prefix of the start's text, or the start's text and one answer to each line taken, in order,
-- of which the last may be printed in part. If the run came to its end, each answer was printed whole.
pub record RunSays (status : ℕ) (start end : State) : Type 0 where
  pub bytes : List ℕ
  pub said : end.now.said ≡ start.now.said ++ bytes
  pub replied : IsPart bytes (start_text (reads start.now.words)) ⊎ ((ended : Bool) × IsReplied (start_text (reads start.now.words)) ended (run_fault_at status) start end bytes)
  pub whole : run_fault_at status ≡ None → (ended : Bool) × IsReplied (start_text (reads start.now.words)) ended None start end bytes
