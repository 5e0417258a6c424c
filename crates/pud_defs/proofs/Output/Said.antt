-- Newlines in what is printed: each answer has exactly one.
use Rattle.std.proofs.Common.{◌≡◌, ℕ, zero, suc, ◌+◌, ◌/◌, ◌%◌, Bool, true, false, cond, not, eqb, ltb, List, [], ◌∷◌, ◌++◌, length, codes, refl, ap, ◌∙◌, arith, append-nil}
use Rattle.std.specs.Prelude.{decimal}
use Rattle.std.specs.Fmt.{digits, digits_onto, digit_glyph}
use Rattle.std.proofs.lemmas.Grind.{flat_map-append}
use Rattle.pud_defs.specs.declared.machine.Reply.{Reply}
use Rattle.pud_defs.specs.declared.machine.Reply.TheVariants as replies
use Rattle.pud_defs.specs.declared.machine.Refusal.TheVariants as refusals
use Rattle.pud_defs.specs.StateMachine.Step.{Answer}
use Rattle.pud_defs.specs.StateMachine.Step.Answer.{of_reply, of_text}
use Rattle.pud_defs.specs.StateMachine.Run.{Turn, newlines}
use Rattle.pud_defs.specs.Output.Texts.{line_of, in_one_line, formatted_text, reply_text, answer_text, begins_with_ok, replies_text}
use Rattle.pud_defs.proofs.StateMachine.Lines.{newlines-append, newlines_other}

newlines-cons : (b : ℕ) (bytes : List ℕ) → (b ≡ 10 → ⊥) → newlines (b ∷ bytes) ≡ newlines bytes
newlines-cons b bytes other = omega (arith, newlines-append (b ∷ []) bytes, newlines_other b other)

-- ---- decimal digits are no newlines

pub glyph_is_no_newline : (d : ℕ) (small : Bool) → cond small (48 + d) (87 + d) ≡ 10 → ⊥
glyph_is_no_newline d true e = omega arith
glyph_is_no_newline d false e = omega arith

newlines_either : (b : Bool) (xs ys : List ℕ) → newlines xs ≡ 0 → newlines ys ≡ 0 → newlines (cond b xs ys) ≡ 0
newlines_either true xs ys none other = none
newlines_either false xs ys none other = other

newlines-digits_onto : (k n : ℕ) (following : List ℕ) → newlines following ≡ 0 → newlines (digits_onto k 10 false n following) ≡ 0
newlines-digits_onto zero n following none = none
newlines-digits_onto (suc k) n following none =
    let more = newlines-cons (digit_glyph false (n % 10)) following (glyph_is_no_newline (n % 10) (ltb (n % 10) 10)) ∙ none in
    newlines_either (eqb (n / 10) 0) _ _ more (newlines-digits_onto k (n / 10) (digit_glyph false (n % 10) ∷ following) more)

newlines-decimal : (n : ℕ) → newlines (decimal n) ≡ 0
unfolding digits
newlines-decimal n = newlines-digits_onto 64 n [] refl

-- ---- each text has one newline

newlines-line_of : (text : List ℕ) → newlines text ≡ 0 → newlines (line_of text) ≡ 1
newlines-line_of text none = omega (arith, newlines-append text (10 ∷ []))

newlines-number : (front : List ℕ) (n : ℕ) → newlines front ≡ 0 → newlines (line_of (front ++ decimal n)) ≡ 1
newlines-number front n none = newlines-line_of (front ++ decimal n) (omega (arith, newlines-append front (decimal n), newlines-decimal n))

newlines_kept : (ends : Bool) (b : ℕ) (bytes : List ℕ) → eqb b 10 ≡ ends → newlines bytes ≡ 0 → newlines (cond (not ends) (b ∷ bytes) bytes) ≡ 0
newlines_kept true b bytes e none = none
newlines_kept false b bytes e none = omega (arith, newlines-append (b ∷ []) bytes, ap (λ t. 0 + cond t 1 0) e)

newlines-in_one_line : (text : List ℕ) → newlines (in_one_line text) ≡ 0
newlines-in_one_line [] = refl
newlines-in_one_line (b ∷ text) = newlines_kept (eqb b 10) b (in_one_line text) refl (newlines-in_one_line text)

pub newlines-reply_text : (r : Reply) → newlines (reply_text r) ≡ 1
unfolding reply_text
newlines-reply_text replies.Ok = refl
newlines-reply_text (replies.Num value) = newlines-number (codes "ok ") value refl
newlines-reply_text (replies.Ref serial) = newlines-number (codes "ok @") serial refl
newlines-reply_text (replies.No refusals.Bad) = refl
newlines-reply_text (replies.No refusals.Client) = refl
newlines-reply_text (replies.No refusals.Taken) = refl
newlines-reply_text (replies.No refusals.Pool) = refl
newlines-reply_text (replies.No refusals.Exists) = refl
newlines-reply_text (replies.No refusals.Wild) = refl
newlines-reply_text (replies.No refusals.Denied) = refl
newlines-reply_text (replies.No refusals.Busy) = refl
newlines-reply_text (replies.No refusals.OpenHere) = refl
newlines-reply_text (replies.No refusals.Tx) = refl
newlines-reply_text (replies.No refusals.NoType) = refl
newlines-reply_text (replies.No refusals.Object) = refl
newlines-reply_text (replies.No refusals.Field) = refl
newlines-reply_text (replies.No refusals.Kind) = refl
newlines-reply_text (replies.No refusals.Held) = refl
newlines-reply_text (replies.No refusals.Deep) = refl
newlines-reply_text (replies.No refusals.Logs) = refl
newlines-reply_text (replies.No refusals.TooBig) = refl
newlines-reply_text (replies.No refusals.File) = refl
newlines-reply_text (replies.No refusals.Memory) = refl
newlines-reply_text (replies.No refusals.BadFile) = refl
newlines-reply_text (replies.No refusals.Clash) = refl
newlines-reply_text (replies.No refusals.Full) = refl
newlines-reply_text (replies.No refusals.Space) = refl
newlines-reply_text replies.Cut = refl

pub newlines-answer_text : (a : Answer) → newlines (answer_text a) ≡ 1
newlines-answer_text (of_reply reply) = newlines-reply_text reply
newlines-answer_text (of_text text) = newlines-line_of (codes "ok" ++ in_one_line text) (omega (arith, newlines-append (codes "ok") (in_one_line text), newlines-in_one_line text))

-- an answer that is a text begins with `ok`
pub begins_with_ok-text : (text : List ℕ) → begins_with_ok (of_text text) ≡ true
begins_with_ok-text text = refl

pub newlines-formatted_text : newlines formatted_text ≡ 1
unfolding formatted_text
newlines-formatted_text = refl

pub replies_text-append : (turns more : List Turn) → replies_text (turns ++ more) ≡ replies_text turns ++ replies_text more
replies_text-append turns more = flat_map-append (λ t. answer_text t.answer) turns more

-- one more turn prints its answer
pub replies_text-push : (turns : List Turn) (t : Turn) → replies_text (turns ++ t ∷ []) ≡ replies_text turns ++ answer_text t.answer
replies_text-push turns t = replies_text-append turns (t ∷ []) ∙ ap (λ text. replies_text turns ++ text) (append-nil (answer_text t.answer))

-- as many reply lines are printed as there are turns
pub newlines-replies_text : (turns : List Turn) → newlines (replies_text turns) ≡ length turns
newlines-replies_text [] = refl
newlines-replies_text (t ∷ turns) = omega (arith, newlines-append (answer_text t.answer) (replies_text turns), newlines-answer_text t.answer, newlines-replies_text turns)
