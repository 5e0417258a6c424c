-- Examples of generated scripts, by computation.
use Rattle.std.specs.Prelude.{◌≡◌, true, [], ◌∷◌, codes, is_some, length, refl}
use Rattle.std.specs.Fmt.{digits}
use Rattle.std.specs.List.{list_all}
use Rattle.pud_defs.specs.StateMachine.Grammar.{command_of}
use Rattle.pud_defs.proofs.Examples.Opened.{opened}
use Rattle.gen_work.specs.GenLines.{number_at, gen_lines, line_count}

-- the numbers of the seed 1, and which object each first field names
first_number : number_at 1 1 ≡ 39022
unfolding number_at
first_number = refl

second_number : number_at 1 2 ≡ 61087
unfolding number_at
second_number = refl

third_number : number_at 1 3 ≡ 20196
unfolding number_at
third_number = refl

-- the seed 1 and three objects
three_objects : gen_lines 1 3
    ≡ codes "client 0 0 0"
    ∷ codes "type 1 2 0"
    ∷ codes "pool 0 gen 600"
    ∷ codes "begin 0 gen"
    ∷ codes "new 0 gen 1"
    ∷ codes "set 0 gen 1.0 @1"
    ∷ codes "set 0 gen 1.1 39022"
    ∷ codes "commit 0 gen"
    ∷ codes "begin 0 gen"
    ∷ codes "new 0 gen 1"
    ∷ codes "set 0 gen 2.0 @2"
    ∷ codes "set 0 gen 2.1 61087"
    ∷ codes "commit 0 gen"
    ∷ codes "begin 0 gen"
    ∷ codes "new 0 gen 1"
    ∷ codes "set 0 gen 3.0 @1"
    ∷ codes "set 0 gen 3.1 20196"
    ∷ codes "commit 0 gen"
    ∷ codes "begin 0 gen"
    ∷ codes "root 0 gen 1"
    ∷ codes "commit 0 gen"
    ∷ codes "cut 0"
    ∷ codes "client 0 0 0"
    ∷ codes "export 0 gen gen"
    ∷ codes "import 0 copy gen 600"
    ∷ codes "rewrite copy 1008"
    ∷ []
unfolding gen_lines number_at digits
three_objects = refl

-- each of the lines is a command
commands : list_all (λ line. is_some (command_of line)) (gen_lines 1 3) ≡ true
unfolding opened gen_lines number_at
commands = refl

-- the last seed and one object, whose number is 54212
one_object : gen_lines 65535 1
    ≡ codes "client 0 0 0"
    ∷ codes "type 1 2 0"
    ∷ codes "pool 0 gen 600"
    ∷ codes "begin 0 gen"
    ∷ codes "new 0 gen 1"
    ∷ codes "set 0 gen 1.0 @1"
    ∷ codes "set 0 gen 1.1 54212"
    ∷ codes "commit 0 gen"
    ∷ codes "begin 0 gen"
    ∷ codes "root 0 gen 1"
    ∷ codes "commit 0 gen"
    ∷ codes "cut 0"
    ∷ codes "client 0 0 0"
    ∷ codes "export 0 gen gen"
    ∷ codes "import 0 copy gen 600"
    ∷ codes "rewrite copy 1008"
    ∷ []
unfolding gen_lines number_at digits
one_object = refl

-- how many lines there are for three objects
count : length (gen_lines 1 3) ≡ line_count 3
unfolding gen_lines number_at
count = refl
