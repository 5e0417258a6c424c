-- The answer to a line that was carried out or refused, and what is printed of it.
use Rattle.std.specs.Prelude.{ℕ, List, ◌++◌, codes}
use Rattle.pud_defs.specs.declared.layout.TheConstants.{MACHINE_WORD}
use Rattle.pud_defs.specs.declared.machine.Reply.{Reply}
use Rattle.pud_defs.specs.Formats.Image.{Image}
use Rattle.pud_defs.specs.RegistryTables.Tables.{tables_of}
use Rattle.pud_defs.specs.Output.Texts.{line_of, reply_text}
use Rattle.pool_list.specs.Listed.{listed_text}
use Rattle.daemon_memory.specs.declared.line_answer.LineAnswer.{LineAnswer}
use Rattle.daemon_memory.specs.declared.line_answer.LineAnswer.TheVariants as answers

-- What is printed of an answer, on a device with this many frames that reads as this image.
abbrev pub said_text : ℕ → Image → LineAnswer → List ℕ
said_text frames image (answers.Reply reply) = reply_text reply
said_text frames image (answers.Text text) = line_of (codes "ok " ++ text)
said_text frames image answers.Pools = line_of (codes "ok" ++ listed_text (image MACHINE_WORD) (tables_of frames image))
