-- What is known about a log that was judged.
use Rattle.std.specs.Prelude.{◌≡◌, ℕ, Option, Some, option_map, IfSome}
use Rattle.pud_defs.specs.Formats.Image.{Image}
use Rattle.pud_defs.specs.Logging.Settled.{log_number_at}
use Rattle.log_replay.specs.declared.Target.TheVariants.{Puddles}
use Rattle.log_replay.specs.Replaying.{IsPlacedCopy}
use Rattle.recover.specs.declared.judge.JudgedLog.{JudgedLog}
use Rattle.recover.specs.declared.judge.Mark.{Mark}
use Rattle.recover.specs.declared.judge.Mark.TheVariants.{Replayed}
use Rattle.recover.specs.Verdicts.{verdict_of}

abbrev pub mark_judged : JudgedLog → Mark
mark_judged j = j.mark

-- if the log with this log number is replayed, it may be replayed from this copy
pub record IsJudgedCopy (F : ℕ) (image : Image) (number : ℕ) (j : JudgedLog) : Type 0 where
  pub placed : j.mark ≡ Replayed → IsPlacedCopy (Puddles F) (log_number_at F number) image j.copy

-- this is promised if the judged log has the verdict and the copy of the log with this log number
abbrev pub IfJudged : (F : ℕ) → Image → (number : ℕ) → JudgedLog → Type 0 → Type 0
IfJudged F image number j Promised = Some j.mark ≡ verdict_of F image number → IsJudgedCopy F image number j → Promised

-- this was found out about the log with this log number
pub record IsJudged (F : ℕ) (image : Image) (number : ℕ) (found : Option JudgedLog) : Type 0 where
  pub verdict : option_map mark_judged found ≡ verdict_of F image number
  pub copied : IfSome found (IsJudgedCopy F image number)
