-- Lemmas: after a generated script no transaction is open. Power is lost in the script, and no line after that begins
-- a transaction.
use Rattle.std.proofs.Common.{◌≡◌, ℕ, true, List, [], ◌∷◌, ◌++◌, map, Option, Some, None, inl, inr, refl, sym, ap, subst, ◌∙◌, append_assoc}
use Rattle.std.specs.Prelude.{⊤, codes, flat_map}
use Rattle.std.specs.List.{range_with_len}
use Rattle.std.proofs.lemmas.Option.{same_Some}
use Rattle.pud_defs.specs.declared.machine.Command.{Command}
use Rattle.pud_defs.specs.declared.machine.Command.TheVariants.{Client, Export, Import, Rewrite}
use Rattle.pud_defs.specs.declared.machine.Command.TheVariants as commands
use Rattle.pud_defs.specs.declared.machine.Refusal.{Refusal}
use Rattle.pud_defs.specs.StateMachine.Gives.{StepBy, may_lack_memory}
use Rattle.pud_defs.specs.StateMachine.Grammar.{command_of}
use Rattle.pud_defs.specs.StateMachine.Run.{Turn, IsTurn, IsRun, last_world}
use Rattle.pud_defs.specs.StateMachine.Step.{Answer, after, refusal_of, unless_refused, world_by}
use Rattle.pud_defs.specs.StateMachine.World.{World, restart, nothing_open}
use Rattle.pud_defs.proofs.Examples.Opened.{opened}
use Rattle.pud_check.specs.Summary.{gen_pool, copy_pool}
use Rattle.gen_work.specs.GenLines.{opening_lines, object_lines, closing_lines, number_at, gen_lines}

-- No transaction is open.
abbrev IsIdle : World → Type 0
IsIdle w = w.transactions ≡ nothing_open

-- The command does not change which transactions are open.
abbrev Leaves : Option Command → Type 0
Leaves command = (w : World) → (world_by w command).transactions ≡ w.transactions

either : (why : Option Refusal) (w next : World) → next.transactions ≡ w.transactions → (unless_refused why w next).transactions ≡ w.transactions
either None w next same = same
either (Some why) w next same = refl

leaves_client : (client uid gid : ℕ) → Leaves (Some (Client client uid gid))
unfolding after
leaves_client client uid gid w = either (refusal_of w (Client client uid gid)) w _ refl

leaves_export : (client : ℕ) (name file : List ℕ) → Leaves (Some (Export client name file))
unfolding after
leaves_export client name file w = either (refusal_of w (Export client name file)) w _ refl

leaves_import : (client : ℕ) (name file : List ℕ) (mode : ℕ) → Leaves (Some (Import client name file mode))
unfolding after
leaves_import client name file mode w = either (refusal_of w (Import client name file mode)) w _ refl

leaves_rewrite : (name : List ℕ) (n : ℕ) → Leaves (Some (Rewrite name n))
unfolding after
leaves_rewrite name n w = either (refusal_of w (Rewrite name n)) w _ refl

-- A step by such a command does not change it either.
leaves_step : (command : Option Command) → Leaves command → (w : World) (said : Answer) (next : World) → StepBy w command said next → next.transactions ≡ w.transactions
leaves_step command leaves w said next (inl done) = ap (λ (v : World). v.transactions) done.gives.rest ∙ leaves w
leaves_step command leaves w said next (inr refused) = ap (λ (v : World). v.transactions) refused.stays

-- If no transaction was open, none is open after a turn by such a command.
leaves_turn : (w : World) (t : Turn) → Leaves (command_of t.line) → IsTurn w t → IsIdle w → IsIdle t.next
leaves_turn w t leaves (inl turn) idle = ap (λ (v : World). v.transactions) turn.goes_on ∙ leaves_step (command_of t.line) leaves w t.answer t.under turn.step ∙ idle
leaves_turn w t leaves (inr turn) idle = elim turn.goes_on [ inl before ↦ ap (λ (v : World). v.transactions) before | inr following ↦ ap (λ (v : World). v.transactions) following ]

world_of_cut : (w : World) (pick : ℕ) → world_by w (Some (commands.Cut pick)) ≡ restart w
unfolding after refusal_of
world_of_cut w pick = refl

lost_step : (w : World) (said : Answer) (next : World) (pick : ℕ) → StepBy w (Some (commands.Cut pick)) said next → IsIdle next
unfolding may_lack_memory
lost_step w said next pick (inl done) = ap (λ (v : World). v.transactions) (done.gives.rest ∙ ap (λ (v : World). record v { shelf = next.shelf }) (world_of_cut w pick))
lost_step w said next pick (inr out) =
    let asked : commands.Cut pick ≡ out.asked = same_Some (commands.Cut pick) out.asked out.is in
    absurd (let no : may_lack_memory w (commands.Cut pick) ≡ true = ap (may_lack_memory w) asked ∙ out.may in cc)

-- The head and the tail of a list.
head_or : (d : List ℕ) → List (List ℕ) → List ℕ
head_or d [] = d
head_or d (line ∷ lines) = line

tail_of : List (List ℕ) → List (List ℕ)
tail_of [] = []
tail_of (line ∷ lines) = lines

-- Each line in turn does not change which transactions are open.
abbrev AllLeave : List (List ℕ) → Type 0
AllLeave [] = ⊤
AllLeave (line ∷ lines) = Leaves (command_of line) × AllLeave lines

left_idle : (w : World) (turns : List Turn) (lines : List (List ℕ)) → IsRun w turns → map (λ t. t.line) turns ≡ lines → AllLeave lines → IsIdle w → IsIdle (last_world w turns)
unfolding tail_of head_or
left_idle w [] lines run are leave idle = idle
left_idle w (t ∷ turns) [] run are leave idle = absurd (cc)
left_idle w (t ∷ turns) (line ∷ lines) run are leave idle =
    left_idle t.next turns lines run.1 (ap tail_of are) leave.1 (leaves_turn w t (subst (λ (l : List ℕ). Leaves (command_of l)) (sym (ap (head_or []) are)) leave.0) run.0 idle)

-- Power was lost because the line asks for it, or while the line was carried out.
lost_turn : (w : World) (t : Turn) (pick : ℕ) → command_of t.line ≡ Some (commands.Cut pick) → IsTurn w t → IsIdle t.next
lost_turn w t pick is (inl turn) = ap (λ (v : World). v.transactions) turn.goes_on ∙ lost_step w t.answer t.under pick (subst (λ (c : Option Command). StepBy w c t.answer t.under) is turn.step)
lost_turn w t pick is (inr turn) = elim turn.goes_on [ inl before ↦ ap (λ (v : World). v.transactions) before | inr following ↦ ap (λ (v : World). v.transactions) following ]

-- None is open after lines of which one loses power, if the lines after it do not change which are open.
idle_after : (w : World) (turns : List Turn) (front : List (List ℕ)) (line : List ℕ) (following : List (List ℕ)) (pick : ℕ) → IsRun w turns → map (λ t. t.line) turns ≡ front ++ line ∷ following
    → command_of line ≡ Some (commands.Cut pick) → AllLeave following → IsIdle (last_world w turns)
unfolding tail_of head_or
idle_after w [] [] line following pick run are cut leave = absurd (cc)
idle_after w (t ∷ turns) [] line following pick run are cut leave =
    left_idle t.next turns following run.1 (ap tail_of are) leave (lost_turn w t pick (ap command_of (ap (head_or []) are) ∙ cut) run.0)
idle_after w [] (first ∷ front) line following pick run are cut leave = absurd (cc)
idle_after w (t ∷ turns) (first ∷ front) line following pick run are cut leave = idle_after t.next turns front line following pick run.1 (ap tail_of are) cut leave

-- ---- generated scripts

-- What the lines after the objects are.
cut_line : command_of (codes "cut 0") ≡ Some (commands.Cut 0)
unfolding opened
cut_line = refl

client_line : command_of (codes "client 0 0 0") ≡ Some (Client 0 0 0)
unfolding opened
client_line = refl

export_line : command_of (codes "export 0 gen gen") ≡ Some (Export 0 gen_pool gen_pool)
unfolding opened
export_line = refl

import_line : command_of (codes "import 0 copy gen 600") ≡ Some (Import 0 copy_pool gen_pool 384)
unfolding opened
import_line = refl

rewrite_line : command_of (codes "rewrite copy 1008") ≡ Some (Rewrite copy_pool 1008)
unfolding opened
rewrite_line = refl

by_command : (line : List ℕ) (command : Command) → command_of line ≡ Some command → Leaves (Some command) → Leaves (command_of line)
by_command line command is leaves = subst (λ (c : Option Command). Leaves c) (sym is) leaves

closes_idle : (w : World) (turns : List Turn) (front : List (List ℕ)) → IsRun w turns → map (λ t. t.line) turns ≡ front ++ closing_lines → IsIdle (last_world w turns)
closes_idle w turns front run are =
    idle_after w turns (front ++ codes "begin 0 gen" ∷ codes "root 0 gen 1" ∷ codes "commit 0 gen" ∷ []) (codes "cut 0")
    (codes "client 0 0 0" ∷ codes "export 0 gen gen" ∷ codes "import 0 copy gen 600" ∷ codes "rewrite copy 1008" ∷ []) 0 run
    (are ∙ sym (append_assoc front (codes "begin 0 gen" ∷ codes "root 0 gen 1" ∷ codes "commit 0 gen" ∷ []) (codes "cut 0" ∷ codes "client 0 0 0" ∷ codes "export 0 gen gen" ∷ codes "import 0 copy gen 600" ∷ codes "rewrite copy 1008" ∷ [])))
    cut_line (
      by_command _ _ client_line (leaves_client 0 0 0),
      (
        by_command _ _ export_line (leaves_export 0 gen_pool gen_pool),
        (
          by_command _ _ import_line (leaves_import 0 copy_pool gen_pool 384),
          (by_command _ _ rewrite_line (leaves_rewrite copy_pool 1008), tt),
        ),
      ),
    )

pub generated_idle : (seed n : ℕ) (w : World) (turns : List Turn) → IsRun w turns → map (λ t. t.line) turns ≡ gen_lines seed n → IsIdle (last_world w turns)
unfolding gen_lines
generated_idle seed n w turns run are = closes_idle w turns (opening_lines ++ flat_map (λ i. object_lines i (number_at seed i)) (range_with_len 1 n)) run are
