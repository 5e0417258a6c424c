-- The texts of replies and of whole runs, as they are printed.
use Rattle.std.specs.Prelude.{ℕ, Bool, not, ◌==◌, List, [], ◌∷◌, ◌++◌, take, filter, codes, bytes_eq, decimal, flat_map}
use Rattle.pud_defs.specs.declared.machine.Reply.{Reply}
use Rattle.pud_defs.specs.declared.machine.Reply.TheVariants as replies
use Rattle.pud_defs.specs.declared.machine.Refusal.{Refusal}
use Rattle.pud_defs.specs.declared.machine.Refusal.TheVariants as refusals
use Rattle.pud_defs.specs.StateMachine.Step.{Answer}
use Rattle.pud_defs.specs.StateMachine.Step.Answer.{of_reply, of_text}
use Rattle.pud_defs.specs.StateMachine.Run.{Turn}

-- a text with the newline that ends its line
abbrev pub line_of : List ℕ → List ℕ
line_of text = text ++ 10 ∷ []

-- the last line that a start prints
unfoldable pub ready_text : List ℕ
ready_text = line_of (codes "ready")

-- what formatting prints
unfoldable pub formatted_text : List ℕ
formatted_text = line_of (codes "formatted")

abbrev pub refusal_word : Refusal → List ℕ
refusal_word refusals.Bad = codes "bad"
refusal_word refusals.Client = codes "client"
refusal_word refusals.Taken = codes "taken"
refusal_word refusals.Pool = codes "pool"
refusal_word refusals.Exists = codes "exists"
refusal_word refusals.Wild = codes "wild"
refusal_word refusals.Denied = codes "denied"
refusal_word refusals.Busy = codes "busy"
refusal_word refusals.OpenHere = codes "open"
refusal_word refusals.Tx = codes "tx"
refusal_word refusals.NoType = codes "type"
refusal_word refusals.Object = codes "object"
refusal_word refusals.Field = codes "field"
refusal_word refusals.Kind = codes "kind"
refusal_word refusals.Held = codes "held"
refusal_word refusals.Deep = codes "deep"
refusal_word refusals.Logs = codes "logs"
refusal_word refusals.TooBig = codes "toobig"
refusal_word refusals.File = codes "file"
refusal_word refusals.Memory = codes "memory"
refusal_word refusals.BadFile = codes "badfile"
refusal_word refusals.Clash = codes "clash"
refusal_word refusals.Full = codes "full"
refusal_word refusals.Space = codes "space"

-- the line that is printed for a reply
unfoldable pub reply_text : Reply → List ℕ
reply_text replies.Ok = line_of (codes "ok")
reply_text (replies.Num value) = line_of (codes "ok " ++ decimal value)
reply_text (replies.Ref serial) = line_of (codes "ok @" ++ decimal serial)
reply_text (replies.No refusal) = line_of (codes "no " ++ refusal_word refusal)
reply_text replies.Cut = line_of (codes "cut")

-- a text without its newlines, which would end its line
abbrev pub in_one_line : List ℕ → List ℕ
in_one_line text = filter (λ b. not (b == 10)) text

-- the line that is printed for an answer
abbrev pub answer_text : Answer → List ℕ
answer_text (of_reply reply) = reply_text reply
answer_text (of_text text) = line_of (codes "ok" ++ in_one_line text)

abbrev pub begins_with_ok : Answer → Bool
begins_with_ok answer = bytes_eq (take 2 (answer_text answer)) (codes "ok")

-- what a run prints for its turns
abbrev pub replies_text : List Turn → List ℕ
replies_text turns = flat_map (λ t. answer_text t.answer) turns
