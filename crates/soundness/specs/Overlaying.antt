-- What an overlay is, and what the entries of its log give to a word.
use Rattle.std.specs.Prelude.{◌≡◌, ℕ, List, Some}
use Rattle.std.specs.Option.{option_or}
use Rattle.pud_defs.specs.declared.layout.TheConstants.{DAEMON_LOG}
use Rattle.pud_defs.specs.declared.log_words.TheConstants.{UNDO_ORDER, REDO_ORDER}
use Rattle.pud_defs.specs.Formats.Image.{Image}
use Rattle.pud_defs.specs.Logging.Entries.{Entry, Log, log_of, entries_of}
use Rattle.pud_defs.specs.Logging.Replay.{device_word, given_by, undo_value, redo_value, settled_by}
use Rattle.pud_defs.specs.RegistryTables.Tables.{Tables, tables_of}
use Rattle.log_entry.specs.Copying.{log_copied}
use Rattle.soundness.specs.declared.overlay.Overlay.{Overlay}
use Rattle.soundness.specs.declared.overlay.Given.{Given}

-- the tables of a device of F frames, with its daemon log replayed
abbrev pub tables_replayed : (F : ℕ) → Image → Tables
tables_replayed F image = tables_of F (settled_by DAEMON_LOG image)

-- the overlay has a copy of the image's daemon log, and that log is well formed
pub record IsOverlay (o : Overlay) (image : Image) : Type 0 where
  pub log : log_copied o.log ≡ log_of image DAEMON_LOG
  pub entries : List Entry
  pub are : entries_of image DAEMON_LOG ≡ Some entries

-- one more entry: an undo entry gives its value if none before it did, a redo entry always does
pub record GivesWordMore (log : Log) (e : Entry) (w : ℕ) (before after : Given) : Type 0 where
  pub undo : after.undo ≡ option_or before.undo (given_by device_word log UNDO_ORDER e w)
  pub redo : after.redo ≡ option_or (given_by device_word log REDO_ORDER e w) before.redo

-- this is what the entries of a log give to a word
pub record GivesWord (log : Log) (es : List Entry) (w : ℕ) (given : Given) : Type 0 where
  pub undo : given.undo ≡ undo_value device_word log es w
  pub redo : given.redo ≡ redo_value device_word log es w
