-- Lines on pools, each answered in turn: what is printed, and the world after them.
use Rattle.std.proofs.Common.{◌≡◌, ℕ, List, [], ◌∷◌, ◌++◌, map, codes, Some, None, refl}
use Rattle.std.specs.Prelude.{flat_map}
use Rattle.std.specs.List.{range_with_len}
use Rattle.pud_defs.specs.RegistryTables.Spaces.{owner}
use Rattle.pud_defs.specs.PoolGraphs.Graph.{empty_graph}
use Rattle.pud_defs.specs.PoolGraphs.Holdings.Holding.{Sound}
use Rattle.pud_defs.specs.StateMachine.World.{World, no_clients, nothing_open, blank_world}
use Rattle.pud_defs.specs.StateMachine.Step.{step_answer, step_world}
use Rattle.pud_defs.specs.Output.Texts.{answer_text}
use Rattle.pud_defs.proofs.Examples.Opened.{opened}

-- the world of a device with this many frames that was just formatted, with no clients and no files
abbrev pub blank_of : ℕ → World
blank_of F = record { stored = blank_world F 7; clients = no_clients; shelf = λ _. None; transactions = nothing_open }

-- what is printed in answer to these lines, one after the other
unfoldable pub said : World → List (List ℕ) → List ℕ
said w [] = []
said w (line ∷ lines) = answer_text (step_answer w line) ++ said (step_world w line) lines

-- the world after these lines
unfoldable pub after_lines : World → List (List ℕ) → World
after_lines w [] = w
after_lines w (line ∷ lines) = after_lines (step_world w line) lines

-- these texts, each with a newline after it
abbrev pub lines_said : List (List ℕ) → List ℕ
lines_said texts = flat_map (λ text. text ++ 10 ∷ []) texts

-- ---- two pools, one after the other, and a client that is not the owner

pools_come_and_go : said (blank_of 4) (codes "client 0 5 5" ∷ codes "pool 0 a 600" ∷ codes "drop 0 a" ∷ codes "pool 0 b 640" ∷ codes "client 1 6 6" ∷ codes "chmod 1 b 666" ∷ codes "pools" ∷ [])
    ≡ lines_said (codes "ok" ∷ codes "ok" ∷ codes "ok" ∷ codes "ok" ∷ codes "ok" ∷ codes "no denied" ∷ codes "ok b:5:5:640:1:00000000-0000-0007-0000-000000000003" ∷ [])
unfolding opened said
pools_come_and_go = refl

-- numbers that a pool drew are not given out again, and nothing else of a dropped pool stays
numbers_go_up : (after_lines (blank_of 4) (codes "client 0 5 5" ∷ codes "pool 0 a 600" ∷ codes "drop 0 a" ∷ [])).stored ≡ record (blank_world 4 7) { next_number = 3 }
unfolding opened after_lines
numbers_go_up = refl

one_pool : (after_lines (blank_of 4) (codes "client 0 5 6" ∷ codes "pool 0 a 640" ∷ [])).stored
    ≡ record (blank_world 4 7) { next_number = 3; pools = ((97 ∷ 0 ∷ 0 ∷ 0 ∷ 0 ∷ 0 ∷ 0 ∷ 0 ∷ 0 ∷ 0 ∷ 0 ∷ 0 ∷ 0 ∷ 0 ∷ 0 ∷ 0 ∷ []), record { owner = owner 5 6; mode = 416; number = 1; classes = 1 ∷ []; holding = Sound empty_graph }) ∷ [] }
unfolding opened after_lines
one_pool = refl

-- ---- refusals, in their order

no_client : said (blank_of 4) (codes "pool 0 a 600" ∷ codes "chmod 0 a 600" ∷ codes "drop 0 a" ∷ codes "pools" ∷ []) ≡ lines_said (codes "no client" ∷ codes "no client" ∷ codes "no client" ∷ codes "ok" ∷ [])
unfolding opened said
no_client = refl

no_pool : said (blank_of 4) (codes "client 0 5 5" ∷ codes "chmod 0 a 600" ∷ codes "drop 0 a" ∷ []) ≡ lines_said (codes "ok" ∷ codes "no pool" ∷ codes "no pool" ∷ [])
unfolding opened said
no_pool = refl

exists_before_full : said (blank_of 4) (codes "client 0 5 5" ∷ codes "pool 0 a 600" ∷ codes "pool 0 a 600" ∷ []) ≡ lines_said (codes "ok" ∷ codes "ok" ∷ codes "no exists" ∷ [])
unfolding opened said
exists_before_full = refl

-- the owner's uid decides, whatever the group and the mode
group_is_denied : said (blank_of 4) (codes "client 0 5 5" ∷ codes "client 1 6 5" ∷ codes "pool 0 a 666" ∷ codes "chmod 1 a 600" ∷ codes "drop 1 a" ∷ codes "chmod 0 a 060" ∷ codes "drop 0 a" ∷ [])
    ≡ lines_said (codes "ok" ∷ codes "ok" ∷ codes "ok" ∷ codes "no denied" ∷ codes "no denied" ∷ codes "ok" ∷ codes "ok" ∷ [])
unfolding opened said
group_is_denied = refl

-- a client with the same uid is the owner too
same_uid_is_owner : said (blank_of 4) (codes "client 0 5 5" ∷ codes "client 1 5 9" ∷ codes "pool 0 a 600" ∷ codes "chmod 1 a 640" ∷ codes "drop 1 a" ∷ []) ≡ lines_said (codes "ok" ∷ codes "ok" ∷ codes "ok" ∷ codes "ok" ∷ codes "ok" ∷ [])
unfolding opened said
same_uid_is_owner = refl

-- ---- no more room

fifth_pool : said (blank_of 4) (codes "client 0 5 5" ∷ codes "pool 0 a 600" ∷ codes "pool 0 b 600" ∷ codes "pool 0 c 600" ∷ codes "pool 0 d 600" ∷ codes "pool 0 e 600" ∷ codes "pool 0 a 600" ∷ [])
    ≡ lines_said (codes "ok" ∷ codes "ok" ∷ codes "ok" ∷ codes "ok" ∷ codes "ok" ∷ codes "no space" ∷ codes "no exists" ∷ [])
unfolding opened said
fifth_pool = refl

-- a world of 64 frames with n pools of one puddle, whose names have one byte each
abbrev pub many_pools : ℕ → World
many_pools n = record {
  stored = record (blank_world 64 7) { next_number = 65; pools = map (λ k. ((k ∷ 0 ∷ 0 ∷ 0 ∷ 0 ∷ 0 ∷ 0 ∷ 0 ∷ 0 ∷ 0 ∷ 0 ∷ 0 ∷ 0 ∷ 0 ∷ 0 ∷ 0 ∷ []), record { owner = owner 5 5; mode = 384; number = k; classes = 1 ∷ []; holding = Sound empty_graph })) (range_with_len 1 n) };
  clients = λ _. Some (owner 5 5);
  shelf = λ _. None;
  transactions = nothing_open;
}

last_pool : said (many_pools 31) (codes "pool 0 a 600" ∷ codes "pool 0 b 600" ∷ []) ≡ lines_said (codes "ok" ∷ codes "no full" ∷ [])
unfolding opened said
last_pool = refl

-- the last numbers: two are left below 2^63, and in the next law one is
numbers_end : said (record (blank_of 4) { stored = record (blank_world 4 7) { next_number = 9223372036854775806 }; clients = λ _. Some (owner 5 5) }) (codes "pool 0 a 600" ∷ codes "pool 0 b 600" ∷ [])
    ≡ lines_said (codes "ok" ∷ codes "no full" ∷ [])
unfolding opened said
numbers_end = refl

one_number_left : said (record (blank_of 4) { stored = record (blank_world 4 7) { next_number = 9223372036854775807 }; clients = λ _. Some (owner 5 5) }) (codes "pool 0 a 600" ∷ []) ≡ lines_said (codes "no full" ∷ [])
unfolding opened said
one_number_left = refl

-- ---- the list

-- the list is by the bytes of the names, in whatever order the pools came
in_byte_order : said (blank_of 4) (codes "client 0 5 5" ∷ codes "pool 0 b 600" ∷ codes "pool 0 _ 060" ∷ codes "pool 0 ab 666" ∷ codes "pool 0 9 000" ∷ codes "pools" ∷ [])
    ≡ lines_said (codes "ok" ∷ codes "ok" ∷ codes "ok" ∷ codes "ok" ∷ codes "ok"
    ∷ codes "ok 9:5:5:000:1:00000000-0000-0007-0000-000000000007 _:5:5:060:1:00000000-0000-0007-0000-000000000003 ab:5:5:666:1:00000000-0000-0007-0000-000000000005 b:5:5:600:1:00000000-0000-0007-0000-000000000001" ∷ [])
unfolding opened said
in_byte_order = refl

-- after a power loss the pools are still there, and the clients are not
pools_stay : (after_lines (blank_of 4) (codes "client 0 5 5" ∷ codes "pool 0 a 600" ∷ codes "cut 1" ∷ [])).stored ≡ (after_lines (blank_of 4) (codes "client 0 5 5" ∷ codes "pool 0 a 600" ∷ [])).stored
unfolding opened after_lines
pools_stay = refl
