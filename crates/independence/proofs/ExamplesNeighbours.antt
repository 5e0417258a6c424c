-- Examples of hostile neighbours, by computation: a tenant's own lines, the answers to them, what is left in its pool,
-- and why each premise is needed.
use Rattle.std.proofs.Common.{◌≡◌, inl, inr, ℕ, ◌-◌, ◌^◌, Bool, true, false, is_none, ◌||◌, List, [], ◌∷◌, map, codes, Option, Some, None, option_map, refl, ap}
use Rattle.std.specs.List.{list_all}
use Rattle.std.proofs.lemmas.Bool.{and_parts}
use Rattle.pud_defs.specs.declared.machine.Reply.TheVariants as replies
use Rattle.pud_defs.specs.declared.machine.Refusal.TheVariants as refusals
use Rattle.pud_defs.specs.RegistryTables.Tables.{Pool}
use Rattle.pud_defs.specs.StateMachine.World.{World, no_clients, nothing_open, restart, blank_world}
use Rattle.pud_defs.specs.StateMachine.PoolChanges.{pool_named}
use Rattle.pud_defs.specs.StateMachine.Grammar.{command_of}
use Rattle.pud_defs.specs.StateMachine.Step.{Answer, step_answer, step_world}
use Rattle.pud_defs.specs.StateMachine.Step.Answer.{of_reply}
use Rattle.pud_defs.specs.StateMachine.Gives.{with_file, contents_of_pool, Exports}
use Rattle.pud_defs.specs.StateMachine.Changing.{file_in}
use Rattle.pud_defs.specs.StateMachine.Run.{Turn, IsTurn, IsRun, last_world}
use Rattle.pud_defs.proofs.StateMachine.Changing.{Gives-plain}
use Rattle.pud_defs.proofs.Examples.Opened.{opened}
use Rattle.pud_defs.proofs.Examples.Pools.{said, lines_said}
use Rattle.pud_defs.proofs.Examples.Transactions.{name_of}
use Rattle.pud_defs.proofs.Examples.Files.{contents, bytes, of_its_bytes}
use Rattle.independence.specs.Own.{Names, only_pool, lines_of_set, answers_to}
use Rattle.independence.specs.Shares.{share}
use Rattle.independence.specs.Limits.{meets_limit}

-- ---- runs that compute

-- The turns over these lines. No line is cut off, and no allocation fails. No line may write a file.
abbrev turns_of : World → List (List ℕ) → List Turn
turns_of w [] = []
turns_of w (line ∷ lines) = record { line = line; answer = step_answer w line; under = step_world w line; next = step_world w line } ∷ turns_of (step_world w line) lines

abbrev write_none : List (List ℕ) → Bool
write_none lines = list_all (λ line. is_none (file_in (command_of line))) lines

none_is : {A : Type 0} (o : Option A) → is_none o ≡ true → o ≡ None
none_is None h = refl
none_is (Some x) h = absurd (let no : false ≡ true = h in cc)

is_run : (w : World) (lines : List (List ℕ)) → write_none lines ≡ true → IsRun w (turns_of w lines)
is_run w [] none = tt
is_run w (line ∷ lines) none =
    let parts = and_parts (is_none (file_in (command_of line))) (write_none lines) none in (
      inl (record { step = inl (record { answered = refl; gives = Gives-plain w (command_of line) (none_is (file_in (command_of line)) parts.0) }); goes_on = refl }),
      is_run (step_world w line) lines parts.1,
    )

lines_of : (w : World) (lines : List (List ℕ)) → map (λ (t : Turn). t.line) (turns_of w lines) ≡ lines
lines_of w [] = refl
lines_of w (line ∷ lines) = ap (λ (rest : List (List ℕ)). line ∷ rest) (lines_of (step_world w line) lines)

-- some turn meets a limit: the premise about limits, as a test
abbrev any_limit : Names → World → List Turn → Bool
any_limit S w [] = false
any_limit S w (t ∷ turns) = meets_limit S w t || any_limit S t.next turns

-- a blank device with this many frames
abbrev device : ℕ → World
device F = record { stored = blank_world F 7; clients = no_clients; shelf = λ _. None; transactions = nothing_open }

abbrev last : World → List (List ℕ) → World
last w lines = last_world w (turns_of w lines)

abbrev ok : Answer
ok = of_reply replies.Ok

abbrev a : List ℕ
a = name_of 97

-- ---- a neighbour that makes objects and leaves

abbrev both : List (List ℕ)
both =
    codes "type 1 2 1" ∷ codes "client 0 5 5" ∷ codes "client 1 6 6" ∷ codes "pool 0 a 600" ∷ codes "pool 1 b 600" ∷ codes "begin 0 a" ∷ codes "begin 1 b"
    ∷ codes "new 1 b 1" ∷ codes "new 0 a 1" ∷ codes "set 0 a 1.0 10" ∷ codes "leave 1" ∷ codes "get 0 a 1.0" ∷ codes "commit 0 a" ∷ []

abbrev alone : List (List ℕ)
alone =
    codes "type 1 2 1" ∷ codes "client 0 5 5" ∷ codes "client 1 6 6" ∷ codes "pool 0 a 600" ∷ codes "begin 0 a"
    ∷ codes "new 0 a 1" ∷ codes "set 0 a 1.0 10" ∷ codes "leave 1" ∷ codes "get 0 a 1.0" ∷ codes "commit 0 a" ∷ []

own_lines : lines_of_set (only_pool a) both ≡ alone
unfolding opened
own_lines = refl

said_of_both : said (device 4) both
    ≡ lines_said (codes "ok" ∷ codes "ok" ∷ codes "ok" ∷ codes "ok" ∷ codes "ok" ∷ codes "ok" ∷ codes "ok" ∷ codes "ok @1" ∷ codes "ok @1" ∷ codes "ok" ∷ codes "ok" ∷ codes "ok 10" ∷ codes "ok" ∷ [])
unfolding opened said
said_of_both = refl

same_answers : answers_to (only_pool a) (turns_of (device 4) alone) ≡ answers_to (only_pool a) (turns_of (device 4) both)
unfolding opened
same_answers = refl

same_share : share (last (device 4) alone) a ≡ share (last (device 4) both) a
unfolding opened
same_share = refl

no_limit_met : (any_limit (only_pool a) (device 4) (turns_of (device 4) both) ≡ false) × (any_limit (only_pool a) (device 4) (turns_of (device 4) alone) ≡ false)
unfolding opened
no_limit_met = (refl, refl)

-- a neighbour may change the pool's UUID number, but not its share
abbrev neighbour_first : List (List ℕ)
neighbour_first = codes "client 0 5 5" ∷ codes "pool 0 b 600" ∷ codes "pool 0 a 600" ∷ []

numbers_differ :
    (option_map (λ (p : Pool). p.number) (pool_named a (last (device 4) neighbour_first).stored) ≡ Some 3)
    × (option_map (λ (p : Pool). p.number) (pool_named a (last (device 4) (lines_of_set (only_pool a) neighbour_first)).stored) ≡ Some 1)
    × (share (last (device 4) neighbour_first) a ≡ share (last (device 4) (lines_of_set (only_pool a) neighbour_first)) a)
unfolding opened
numbers_differ = (refl, refl, refl)

-- ---- a neighbour that meets a limit itself does no harm

abbrev neighbour_without_space : List (List ℕ)
neighbour_without_space = codes "client 0 5 5" ∷ codes "pool 0 a 600" ∷ codes "pool 0 b 600" ∷ codes "chmod 0 a 640" ∷ []

neighbour_alone_is_refused : said (device 1) neighbour_without_space ≡ lines_said (codes "ok" ∷ codes "ok" ∷ codes "no space" ∷ codes "ok" ∷ [])
unfolding opened said
neighbour_alone_is_refused = refl

that_meets_no_limit : any_limit (only_pool a) (device 1) (turns_of (device 1) neighbour_without_space) ≡ false
unfolding opened
that_meets_no_limit = refl

-- ---- why each premise is needed: the first answers come with a neighbour, the second alone

abbrev Differ : World → List (List ℕ) → List Answer → List Answer → Type 0
Differ w lines with_neighbour by_itself = (answers_to (only_pool a) (turns_of w lines) ≡ with_neighbour) × (answers_to (only_pool a) (turns_of w (lines_of_set (only_pool a) lines)) ≡ by_itself)

frames_are_shared : Differ (device 1) (codes "client 0 5 5" ∷ codes "pool 0 b 600" ∷ codes "pool 0 a 600" ∷ []) (of_reply (replies.No refusals.Space) ∷ []) (ok ∷ [])
unfolding opened
frames_are_shared = (refl, refl)

logs_are_shared :
    Differ (device 5)
    (codes "client 0 5 5" ∷ codes "pool 0 a 600" ∷ codes "pool 0 b 600" ∷ codes "pool 0 c 600" ∷ codes "pool 0 d 600" ∷ codes "pool 0 e 600"
    ∷ codes "begin 0 b" ∷ codes "begin 0 c" ∷ codes "begin 0 d" ∷ codes "begin 0 e" ∷ codes "begin 0 a" ∷ [])
    (ok ∷ of_reply (replies.No refusals.Logs) ∷ []) (ok ∷ ok ∷ [])
unfolding opened
logs_are_shared = (refl, refl)

-- two UUID numbers are left
numbers_are_shared :
    Differ (record (device 4) { stored = record (blank_world 4 7) { next_number = 2 ^ 63 - 2 } }) (codes "client 0 5 5" ∷ codes "pool 0 b 600" ∷ codes "pool 0 a 600" ∷ [])
    (of_reply (replies.No refusals.Full) ∷ []) (ok ∷ [])
unfolding opened
numbers_are_shared = (refl, refl)

-- a neighbour's file brings a type
abbrev with_files : World
with_files = record (device 4) { shelf = with_file (codes "x") bytes (λ _. None) }

types_are_shared :
    Differ with_files (codes "client 0 5 5" ∷ codes "pool 0 a 600" ∷ codes "import 0 b x 600" ∷ codes "begin 0 a" ∷ codes "new 0 a 1" ∷ [])
    (ok ∷ ok ∷ of_reply (replies.Ref 1) ∷ []) (ok ∷ ok ∷ of_reply (replies.No refusals.NoType) ∷ [])
unfolding opened
types_are_shared = (refl, refl)

-- power is lost in a neighbour's line: the tenant's client is gone
abbrev before_loss : World
before_loss = last (device 4) (codes "client 0 5 5" ∷ codes "pool 0 a 600" ∷ [])

abbrev lost : Turn
lost = record { line = codes "pool 0 b 600"; answer = of_reply replies.Cut; under = step_world before_loss (codes "pool 0 b 600"); next = restart before_loss }

writes_no_file : file_in (command_of (codes "pool 0 b 600")) ≡ None
unfolding opened
writes_no_file = refl

is_lost : IsTurn before_loss lost
is_lost = inr (record { answered = refl; given = Gives-plain before_loss (command_of (codes "pool 0 b 600")) writes_no_file; goes_on = inl refl })

loss_is_shared :
    (step_answer lost.next (codes "chmod 0 a 640") ≡ of_reply (replies.No refusals.Client)) × (step_answer before_loss (codes "chmod 0 a 640") ≡ ok)
unfolding opened
loss_is_shared = (refl, refl)

-- a neighbour writes a file: its pool was made from these bytes
abbrev neighbours_pool : World
neighbours_pool = last with_files (codes "client 0 5 5" ∷ codes "import 0 b x 600" ∷ [])

abbrev written : World
written = record neighbours_pool { shelf = with_file (codes "y") bytes neighbours_pool.shelf }

is_held : contents_of_pool neighbours_pool.stored.types (pool_named (name_of 98) neighbours_pool.stored) ≡ Some contents
unfolding opened
is_held = refl

is_written : Exports neighbours_pool (name_of 98) (codes "y") written.shelf
is_written = record { contents = contents; held = is_held; bytes = bytes; holds = of_its_bytes; given = refl }

files_are_shared : (step_answer written (codes "import 0 a y 600") ≡ ok) × (step_answer neighbours_pool (codes "import 0 a y 600") ≡ of_reply (replies.No refusals.File))
unfolding opened
files_are_shared = (refl, refl)
