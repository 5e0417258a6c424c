-- What a start prints: which logs it refuses, and that it is ready.
use Rattle.std.specs.Prelude.{ℕ, ◌%◌, Bool, cond, List, [], ◌++◌, codes, decimal, flat_map}
use Rattle.std.specs.List.{range_with_len}
use Rattle.pud_defs.specs.declared.layout.TheConstants.{DAEMON_LOG, CLIENT_LOGS}
use Rattle.pud_defs.specs.Formats.Image.{Image}
use Rattle.pud_defs.specs.Logging.Replay.{settled_by}
use Rattle.pud_defs.specs.RegistryTables.Registry.{frames_of}
use Rattle.pud_defs.specs.Logging.Settled.{ALL_LOGS, client_of_log, is_refused_log}
use Rattle.pud_defs.specs.Output.Texts.{line_of, ready_text}

-- the line of a refused log: its client, and its number among the client's logs
abbrev pub refused_line : (number : ℕ) → List ℕ
refused_line number = line_of (codes "refused " ++ decimal (client_of_log number) ++ codes " " ++ decimal (number % CLIENT_LOGS))

-- the same if the log is refused; else nothing
abbrev pub said_of_log : (ℕ → Bool) → ℕ → List ℕ
said_of_log refused number = cond (refused number) (refused_line number) []

-- the lines of all refused logs, by their numbers
unfoldable pub refused_lines : (ℕ → Bool) → List ℕ
refused_lines refused = flat_map (said_of_log refused) (range_with_len 0 ALL_LOGS)

-- what a start prints on an image; the logs are judged after the daemon log is replayed
unfoldable pub start_text : Image → List ℕ
start_text image = refused_lines (is_refused_log (frames_of image) (settled_by DAEMON_LOG image)) ++ ready_text
