-- One pool over whole runs: the premises about whole runs give the premises about a set.
use Rattle.std.proofs.Common.{◌≡◌, inl, inr, ℕ, Bool, true, false, cond, List, [], ◌∷◌, map, bytes_eq, Option, Some, None, option_map, option_and_then, unwrap_or, refl, sym, ap, ap₂, ◌∙◌, subst}
use Rattle.std.proofs.lemmas.Slice.Eq.{bytes_eq-Decides}
use Rattle.pud_defs.specs.declared.machine.Command.{Command}
use Rattle.pud_defs.specs.declared.machine.Command.TheVariants.{Export}
use Rattle.pud_defs.specs.declared.machine.Reply.TheVariants as replies
use Rattle.pud_defs.specs.PoolGraphs.Holdings.{graph_held}
use Rattle.pud_defs.specs.RegistryTables.Tables.{Pool}
use Rattle.pud_defs.specs.StateMachine.World.{World}
use Rattle.pud_defs.specs.StateMachine.PoolChanges.{pool_named}
use Rattle.pud_defs.specs.Output.Listing.{name_text}
use Rattle.pud_defs.specs.StateMachine.Grammar.{command_of}
use Rattle.pud_defs.specs.StateMachine.Step.{Answer, answer, answer_by}
use Rattle.pud_defs.specs.StateMachine.Step.Answer.{of_reply, of_text}
use Rattle.pud_defs.specs.StateMachine.Gives.{Shelf, GivesShelf, Gives}
use Rattle.pud_defs.specs.StateMachine.Changing.{file_in}
use Rattle.pud_defs.specs.StateMachine.Run.{Turn, IsTurn, is_cut, IsRun, last_world}
use Rattle.pud_defs.specs.Output.Texts.{reply_text, begins_with_ok}
use Rattle.pud_defs.proofs.StateMachine.Steps.{done_answer}
use Rattle.independence.specs.Own.{Names, only_pool, is_line_of_set}
use Rattle.independence.specs.Shares.{seen, Share, share, AreAlikeOrAbsent, IsSamePool}
use Rattle.independence.specs.Limits.{is_full_by_itself, is_limit, is_at_limit, MeetNoLimit, MeetNoneAtAll}
use Rattle.independence.specs.Premises.{is_imported, LeavesFiles, OthersLeaveFiles, file_written, OthersWriteNone}
use Rattle.independence.specs.Independence.{IsPoolByItself}
use Rattle.independence.proofs.Turns.{IsPlain, plain_or_still, by_refusal, still_where_none}
use Rattle.independence.proofs.Runs.{are_independent}

-- ---- limits

uncut_where_none : (full : Bool) (a : Answer) → is_limit full a ≡ false → is_cut a ≡ false
uncut_where_none full (of_reply replies.Cut) none = none
uncut_where_none full (of_reply reply) none = refl
uncut_where_none full (of_text text) none = refl

either_false : (b x y : Bool) → x ≡ false → y ≡ false → cond b x y ≡ false
either_false true x y p q = p
either_false false x y p q = q

pub MeetNoLimit-whole : (S : Names) (w : World) (turns : List Turn) → MeetNoneAtAll w turns → MeetNoLimit S w turns
MeetNoLimit-whole S w [] none = tt
MeetNoLimit-whole S w (t ∷ turns) none = (
  either_false (is_line_of_set S t.line) (is_at_limit w t) (is_cut t.answer) none.0 (uncut_where_none (is_full_by_itself w (command_of t.line)) t.answer none.0),
  MeetNoLimit-whole S t.next turns none.1,
)

uncut : (w : World) (t : Turn) → is_at_limit w t ≡ false → is_cut t.answer ≡ false
uncut w t none = uncut_where_none (is_full_by_itself w (command_of t.line)) t.answer none

-- ---- files

written_apart : (file bytes q : List ℕ) (shelf : Shelf) (F : List ℕ → Bool) (b : Bool) → bytes_eq q file ≡ b → F file ≡ false → F q ≡ true → cond b (Some bytes) (shelf q) ≡ shelf q
written_apart file bytes q shelf F true same unread read = absurd (let no : true ≡ false = sym read ∙ ap F ((bytes_eq-Decides q file).0 same) ∙ unread in cc)
written_apart file bytes q shelf F false same unread read = refl

export_is_ok : (w : World) (client : ℕ) (name file : List ℕ) → begins_with_ok (answer w (Export client name file)) ≡ true
unfolding answer reply_text
export_is_ok w client name file = refl

carried_leaves : (F : List ℕ → Bool) (w : World) (t : Turn) (c : Command) → t.answer ≡ answer w c → command_of t.line ≡ Some c → GivesShelf w c t.next.shelf
    → ((file : List ℕ) → file_written t ≡ Some file → F file ≡ false) → (q : List ℕ) → F q ≡ true → t.next.shelf q ≡ w.shelf q
carried_leaves F w t (Export client name file) said is exports unread q read =
    let ok : begins_with_ok t.answer ≡ true = ap begins_with_ok said ∙ export_is_ok w client name file in
    let written : file_written t ≡ Some (name_text file) = ap₂ (λ (b : Bool) (o : Option Command). cond b (file_in o) None) ok is in
    ap (λ (shelf : Shelf). shelf q) exports.given
    ∙ written_apart (name_text file) exports.bytes q w.shelf F (bytes_eq q (name_text file)) refl (unread (name_text file) written) read
carried_leaves F w t c said is shelf unread q read = ap (λ (shelf : Shelf). shelf q) shelf

plain_leaves : (F : List ℕ → Bool) (w : World) (t : Turn) (command : Option Command) → command_of t.line ≡ command → IsPlain w t
    → ((file : List ℕ) → file_written t ≡ Some file → F file ≡ false) → (q : List ℕ) → F q ≡ true → t.next.shelf q ≡ w.shelf q
plain_leaves F w t None is plain unread q read = ap (λ (z : World). z.shelf q) (still_where_none w (command_of t.line) t.next is plain.gives)
plain_leaves F w t (Some c) is plain unread q read = elim (by_refusal w c t.next (subst (λ (o : Option Command). Gives w o t.next) is plain.gives)) [
  | inl done ↦ carried_leaves F w t c (plain.answered ∙ ap (answer_by w) is ∙ done_answer w c done.done) is done.shelf unread q read
  | inr refused ↦ ap (λ (z : World). z.shelf q) refused.stays
]

LeavesFiles-unwritten : (F : List ℕ → Bool) (w : World) (t : Turn) → IsTurn w t → is_cut t.answer ≡ false → ((file : List ℕ) → file_written t ≡ Some file → F file ≡ false) → LeavesFiles F w t
LeavesFiles-unwritten F w t is uncut unread = elim (plain_or_still w t is uncut) [
  | inl plain ↦ record { leaves = plain_leaves F w t (command_of t.line) refl plain unread }
  | inr still ↦ record { leaves = λ q read. ap (λ (z : World). z.shelf q) still }
]

pub OthersLeaveFiles-unwritten : (S : Names) (F : List ℕ → Bool) (w : World) (turns : List Turn) → IsRun w turns → MeetNoneAtAll w turns → OthersWriteNone S F turns → OthersLeaveFiles S F w turns
OthersLeaveFiles-unwritten S F w [] run none unread = tt
OthersLeaveFiles-unwritten S F w (t ∷ turns) run none unread = (
  (λ outside. LeavesFiles-unwritten F w t run.0 (uncut w t none.0) (unread.0 outside)),
  OthersLeaveFiles-unwritten S F t.next turns run.1 none.1 unread.1,
)

-- ---- what is seen of a pool

alike_by : (p q : Option Pool) → seen p ≡ seen q → AreAlikeOrAbsent p q
alike_by None None same = tt
alike_by None (Some q) same = absurd (cc)
alike_by (Some p) None same = absurd (cc)
alike_by (Some p) (Some q) same = record {
  uid = ap (λ (o : Option Pool). unwrap_or (option_map (λ (x : Pool). x.owner.uid) o) 0) same;
  gid = ap (λ (o : Option Pool). unwrap_or (option_map (λ (x : Pool). x.owner.gid) o) 0) same;
  mode = ap (λ (o : Option Pool). unwrap_or (option_map (λ (x : Pool). x.mode) o) 0) same;
  classes = ap (λ (o : Option Pool). unwrap_or (option_map (λ (x : Pool). x.classes) o) []) same;
  graph = ap (λ (o : Option Pool). option_and_then (λ (x : Pool). graph_held x.holding) o) same;
}

pub IsSamePool-shares : (name : List ℕ) (w v : World) → share w name ≡ share v name → IsSamePool name w v
IsSamePool-shares name w v same = record {
  pool = alike_by (pool_named name w.stored) (pool_named name v.stored) (ap (λ (s : Share). s.pool) same);
  transaction = ap (λ (s : Share). s.transaction) same;
}

pub is_pool_by_itself : (w : World) (turns : List Turn) → IsRun w turns → IsPoolByItself w (map (λ (t : Turn). t.line) turns) turns
is_pool_by_itself w turns run = record {
  alone = λ name none types unwritten others also lines unmet.
      let S = only_pool name in
      let same = (are_independent w turns run).alone S (MeetNoLimit-whole S w turns none) types
      (OthersLeaveFiles-unwritten S (is_imported S (map (λ (t : Turn). t.line) turns)) w turns run none unwritten) others also lines (MeetNoLimit-whole S w others unmet) in
      (same.answers, IsSamePool-shares name (last_world w others) (last_world w turns) (same.shares name ((bytes_eq-Decides name name).1 refl)));
}
