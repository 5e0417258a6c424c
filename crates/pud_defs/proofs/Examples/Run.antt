-- Steps of the machine, lines of a script, and what is printed.
use Rattle.std.proofs.Common.{◌≡◌, ℕ, true, false, List, [], ◌∷◌, ◌++◌, map, codes, Some, None, refl}
use Rattle.std.specs.Prelude.{◌==◌, ◌||◌}
use Rattle.std.specs.List.{range_with_len}
use Rattle.pud_defs.specs.declared.machine.Reply.TheVariants as replies
use Rattle.pud_defs.specs.declared.machine.Refusal.TheVariants as refusals
use Rattle.pud_defs.specs.StateMachine.World.{World, no_clients, nothing_open, restart, blank_world}
use Rattle.pud_defs.specs.StateMachine.Step.{step_answer, step_world}
use Rattle.pud_defs.specs.StateMachine.Step.Answer.{of_reply, of_text}
use Rattle.pud_defs.specs.StateMachine.Run.{newlines, lines_taken}
use Rattle.pud_defs.specs.Output.Texts.{ready_text, formatted_text, reply_text, answer_text, begins_with_ok}
use Rattle.pud_defs.specs.Output.StartText.{refused_lines}
use Rattle.pud_defs.proofs.Examples.Opened.{opened}

-- a world of four frames with these types, no clients and no files
abbrev pub of_types : List (ℕ × ℕ) → World
of_types types = record { stored = record (blank_world 4 7) { types = types }; clients = no_clients; shelf = λ _. None; transactions = nothing_open }

-- the first run: two definitions
first_world : step_world (of_types []) (codes "type 1 2 1") ≡ of_types ((1, 8589934594) ∷ [])
unfolding opened
first_world = refl

second_world : step_world (of_types ((1, 8589934594) ∷ [])) (codes "type 2 30 0,29") ≡ of_types ((1, 8589934594) ∷ (2, 129385889793) ∷ [])
unfolding opened
second_world = refl

first_reply : step_answer (of_types []) (codes "type 1 2 1") ≡ of_reply replies.Ok
unfolding opened
first_reply = refl

second_reply : step_answer (of_types ((1, 8589934594) ∷ [])) (codes "type 2 30 0,29") ≡ of_reply replies.Ok
unfolding opened
second_reply = refl

-- types are in ascending order of their ids, in whatever order the lines came
lower_id_goes_before : step_world (of_types ((2, 4294967296) ∷ [])) (codes "type 1 1 -") ≡ of_types ((1, 4294967296) ∷ (2, 4294967296) ∷ [])
unfolding opened
lower_id_goes_before = refl

bad_reply : step_answer (of_types []) (codes "type 01 2 1") ≡ of_reply (replies.No refusals.Bad)
unfolding opened
bad_reply = refl

bad_changes_nothing : step_world (of_types []) (codes "type 01 2 1") ≡ of_types []
unfolding opened
bad_changes_nothing = refl

clash_reply : step_answer (of_types ((1, 8589934594) ∷ [])) (codes "type 1 2 0") ≡ of_reply (replies.No refusals.Clash)
unfolding opened
clash_reply = refl

clash_changes_nothing : step_world (of_types ((1, 8589934594) ∷ [])) (codes "type 1 2 0") ≡ of_types ((1, 8589934594) ∷ [])
unfolding opened
clash_changes_nothing = refl

same_map_again : step_answer (of_types ((1, 8589934594) ∷ [])) (codes "type 1 2 1") ≡ of_reply replies.Ok
unfolding opened
same_map_again = refl

same_map_changes_nothing : step_world (of_types ((1, 8589934594) ∷ [])) (codes "type 1 2 1") ≡ of_types ((1, 8589934594) ∷ [])
unfolding opened
same_map_changes_nothing = refl

-- types 1 to n, each of one field
abbrev pub first_types : ℕ → List (ℕ × ℕ)
first_types n = map (λ id. (id, 4294967296)) (range_with_len 1 n)

sixty_fourth_type : step_answer (of_types (first_types 63)) (codes "type 64 1 -") ≡ of_reply replies.Ok
unfolding opened
sixty_fourth_type = refl

sixty_fifth_type : step_answer (of_types (first_types 64)) (codes "type 65 1 -") ≡ of_reply (replies.No refusals.Full)
unfolding opened
sixty_fifth_type = refl

full_changes_nothing : step_world (of_types (first_types 64)) (codes "type 65 1 -") ≡ of_types (first_types 64)
unfolding opened
full_changes_nothing = refl

same_map_where_full : step_answer (of_types (first_types 64)) (codes "type 64 1 -") ≡ of_reply replies.Ok
unfolding opened
same_map_where_full = refl

-- `clash` is tested before `full`
clash_where_full : step_answer (of_types (first_types 64)) (codes "type 64 1 0") ≡ of_reply (replies.No refusals.Clash)
unfolding opened
clash_where_full = refl

-- a client is registered once, and a client that is not present cannot leave
comes : step_answer (of_types []) (codes "client 0 5 5") ≡ of_reply replies.Ok
unfolding opened
comes = refl

taken : step_answer (step_world (of_types []) (codes "client 0 5 5")) (codes "client 0 1 1") ≡ of_reply (replies.No refusals.Taken)
unfolding opened
taken = refl

taken_changes_nothing : (step_world (step_world (of_types []) (codes "client 0 5 5")) (codes "client 0 1 1")).clients 0 ≡ Some (record { uid = 5; gid = 5 })
unfolding opened
taken_changes_nothing = refl

absent : step_answer (step_world (of_types []) (codes "client 0 5 5")) (codes "leave 3") ≡ of_reply (replies.No refusals.Client)
unfolding opened
absent = refl

leaves : step_answer (step_world (of_types []) (codes "client 0 5 5")) (codes "leave 0") ≡ of_reply replies.Ok
unfolding opened
leaves = refl

left : (step_world (step_world (of_types []) (codes "client 0 5 5")) (codes "leave 0")).clients 0 ≡ None
unfolding opened
left = refl

-- a power loss by command: the types stay, and no client is present any more
loses_power : step_answer (of_types (first_types 3)) (codes "cut 0") ≡ of_reply replies.Ok
unfolding opened
loses_power = refl

types_stay : step_world (step_world (of_types []) (codes "type 1 2 1")) (codes "cut 0") ≡ of_types ((1, 8589934594) ∷ [])
unfolding opened
types_stay = refl

clients_are_gone : step_world (step_world (of_types []) (codes "client 0 5 5")) (codes "cut 0") ≡ of_types []
unfolding opened
clients_are_gone = refl

comes_again : step_answer (step_world (step_world (of_types []) (codes "client 0 5 5")) (codes "cut 0")) (codes "client 0 9 9") ≡ of_reply replies.Ok
unfolding opened
comes_again = refl

-- arming does not change the world
arms : step_world (of_types (first_types 3)) (codes "arm 1 0") ≡ of_types (first_types 3)
unfolding opened
arms = refl

-- a restart keeps the types
restarted : restart (of_types (first_types 3)) ≡ of_types (first_types 3)
restarted = refl

-- empty lines are passed over, and what follows the last newline is a line only if the input ended
closed_lines : lines_taken (codes "a" ++ 10 ∷ 10 ∷ codes "bc" ++ 10 ∷ codes "d") false ≡ codes "a" ∷ codes "bc" ∷ []
unfolding opened
closed_lines = refl

ended_lines : lines_taken (codes "a" ++ 10 ∷ 10 ∷ codes "bc" ++ 10 ∷ codes "d") true ≡ codes "a" ∷ codes "bc" ∷ codes "d" ∷ []
unfolding opened
ended_lines = refl

no_rest : lines_taken (codes "a" ++ 10 ∷ []) true ≡ codes "a" ∷ []
unfolding opened
no_rest = refl

no_lines : lines_taken [] true ≡ []
unfolding opened
no_lines = refl

two_newlines : newlines (codes "a" ++ 10 ∷ 10 ∷ codes "b") ≡ 2
two_newlines = refl

-- what is printed
ready : ready_text ≡ 114 ∷ 101 ∷ 97 ∷ 100 ∷ 121 ∷ 10 ∷ []
unfolding opened
ready = refl

no_log_refused : refused_lines (λ number. false) ≡ []
unfolding opened refused_lines
no_log_refused = refl

two_logs_refused : refused_lines (λ number. number == 6 || number == 31) ≡ codes "refused 1 2" ++ 10 ∷ codes "refused 7 3" ++ 10 ∷ []
unfolding opened refused_lines
two_logs_refused = refl

formatted : formatted_text ≡ codes "formatted" ++ 10 ∷ []
unfolding opened
formatted = refl

said_ok : reply_text replies.Ok ≡ 111 ∷ 107 ∷ 10 ∷ []
unfolding opened
said_ok = refl

said_zero : reply_text (replies.Num 0) ≡ codes "ok 0" ++ 10 ∷ []
unfolding opened
said_zero = refl

said_largest : reply_text (replies.Num 18446744073709551615) ≡ codes "ok 18446744073709551615" ++ 10 ∷ []
unfolding opened
said_largest = refl

said_null : reply_text (replies.Ref 0) ≡ codes "ok @0" ++ 10 ∷ []
unfolding opened
said_null = refl

said_serial : reply_text (replies.Ref 992) ≡ codes "ok @992" ++ 10 ∷ []
unfolding opened
said_serial = refl

-- a text is printed as one line, even if it has a newline
said_list : answer_text (of_text (codes " a:5" ++ 10 ∷ codes " b:7")) ≡ codes "ok a:5 b:7" ++ 10 ∷ []
said_list = refl

said_empty_list : answer_text (of_text []) ≡ codes "ok" ++ 10 ∷ []
said_empty_list = refl

-- which answers begin with `ok`
number_is_ok : begins_with_ok (of_reply (replies.Num 7)) ≡ true
unfolding opened
number_is_ok = refl

refusal_is_not_ok : begins_with_ok (of_reply (replies.No refusals.Bad)) ≡ false
unfolding opened
refusal_is_not_ok = refl

cut_is_not_ok : begins_with_ok (of_reply replies.Cut) ≡ false
unfolding opened
cut_is_not_ok = refl

list_is_ok : begins_with_ok (of_text []) ≡ true
list_is_ok = refl

said_bad : reply_text (replies.No refusals.Bad) ≡ codes "no bad" ++ 10 ∷ []
unfolding opened
said_bad = refl

said_client : reply_text (replies.No refusals.Client) ≡ codes "no client" ++ 10 ∷ []
unfolding opened
said_client = refl

said_taken : reply_text (replies.No refusals.Taken) ≡ codes "no taken" ++ 10 ∷ []
unfolding opened
said_taken = refl

said_pool : reply_text (replies.No refusals.Pool) ≡ codes "no pool" ++ 10 ∷ []
unfolding opened
said_pool = refl

said_exists : reply_text (replies.No refusals.Exists) ≡ codes "no exists" ++ 10 ∷ []
unfolding opened
said_exists = refl

said_denied : reply_text (replies.No refusals.Denied) ≡ codes "no denied" ++ 10 ∷ []
unfolding opened
said_denied = refl

said_held : reply_text (replies.No refusals.Held) ≡ codes "no held" ++ 10 ∷ []
unfolding opened
said_held = refl

said_clash : reply_text (replies.No refusals.Clash) ≡ codes "no clash" ++ 10 ∷ []
unfolding opened
said_clash = refl

said_full : reply_text (replies.No refusals.Full) ≡ codes "no full" ++ 10 ∷ []
unfolding opened
said_full = refl

said_space : reply_text (replies.No refusals.Space) ≡ codes "no space" ++ 10 ∷ []
unfolding opened
said_space = refl

said_cut : reply_text replies.Cut ≡ codes "cut" ++ 10 ∷ []
unfolding opened
said_cut = refl
