-- Lines that are commands, and lines that are not.
use Rattle.std.proofs.Common.{◌≡◌, true, [], ◌∷◌, ◌++◌, replicate, codes, Some, None, refl}
use Rattle.pud_defs.specs.declared.machine.Command.TheVariants.{Client, Leave, Define, Begin, Commit, Abort, New, Set, Later, Root, Free, Get, Rewrite, Cut, Arm}
use Rattle.pud_defs.specs.declared.objects.FieldValue.TheVariants.{Num, Ref}
use Rattle.pud_defs.specs.Formats.TypeMap.{map_word, is_legal_map}
use Rattle.pud_defs.specs.StateMachine.Grammar.{decimal_of, command_of}
use Rattle.pud_defs.proofs.Examples.Opened.{opened}

-- two fields; field 1 is a pointer
two_fields : map_word 2 (1 ∷ []) ≡ 8589934594
two_fields = refl

-- thirty fields; the first and the last are pointers
thirty_fields : map_word 30 (0 ∷ 29 ∷ []) ≡ 129385889793
thirty_fields = refl

are_legal : (is_legal_map 8589934594 ≡ true) × (is_legal_map 129385889793 ≡ true)
are_legal = (refl, refl)

defines : command_of (codes "type 1 2 1") ≡ Some (Define 1 8589934594)
unfolding opened
defines = refl

defines_thirty : command_of (codes "type 2 30 0,29") ≡ Some (Define 2 129385889793)
unfolding opened
defines_thirty = refl

defines_with_no_pointer : command_of (codes "type 65535 1 -") ≡ Some (Define 65535 4294967296)
unfolding opened
defines_with_no_pointer = refl

defines_with_every_pointer : command_of (codes "type 9 30 0,1,2,3,4,5,6,7,8,9,10,11,12,13,14,15,16,17,18,19,20,21,22,23,24,25,26,27,28,29") ≡ Some (Define 9 129922760703)
unfolding opened
defines_with_every_pointer = refl

comes : command_of (codes "client 7 65535 0") ≡ Some (Client 7 65535 0)
unfolding opened
comes = refl

goes : command_of (codes "leave 0") ≡ Some (Leave 0)
unfolding opened
goes = refl

reads_a_field : command_of (codes "get 0 a 1.0") ≡ Some (Get 0 (97 ∷ replicate 15 0) 1 0)
unfolding opened
reads_a_field = refl

reads_the_last_field : command_of (codes "get 7 abcdefghijklmnop 18446744073709551615.29") ≡ Some (Get 7 (codes "abcdefghijklmnop") 18446744073709551615 29)
unfolding opened
reads_the_last_field = refl

begins : command_of (codes "begin 0 a") ≡ Some (Begin 0 (97 ∷ replicate 15 0))
unfolding opened
begins = refl

commits : command_of (codes "commit 7 abcdefghijklmnop") ≡ Some (Commit 7 (codes "abcdefghijklmnop"))
unfolding opened
commits = refl

aborts : command_of (codes "abort 1 a") ≡ Some (Abort 1 (97 ∷ replicate 15 0))
unfolding opened
aborts = refl

makes_an_object : command_of (codes "new 0 a 65535") ≡ Some (New 0 (97 ∷ replicate 15 0) 65535)
unfolding opened
makes_an_object = refl

sets_a_number : command_of (codes "set 0 a 1.0 10") ≡ Some (Set 0 (97 ∷ replicate 15 0) 1 0 (Num 10))
unfolding opened
sets_a_number = refl

sets_a_pointer : command_of (codes "set 0 a 1.1 @1") ≡ Some (Set 0 (97 ∷ replicate 15 0) 1 1 (Ref 1))
unfolding opened
sets_a_pointer = refl

sets_null : command_of (codes "set 0 a 1.1 @0") ≡ Some (Set 0 (97 ∷ replicate 15 0) 1 1 (Ref 0))
unfolding opened
sets_null = refl

sets_the_largest_number : command_of (codes "set 7 a 18446744073709551615.29 18446744073709551615") ≡ Some (Set 7 (97 ∷ replicate 15 0) 18446744073709551615 29 (Num 18446744073709551615))
unfolding opened
sets_the_largest_number = refl

sets_the_largest_pointer : command_of (codes "set 0 a 1.0 @18446744073709551615") ≡ Some (Set 0 (97 ∷ replicate 15 0) 1 0 (Ref 18446744073709551615))
unfolding opened
sets_the_largest_pointer = refl

asks_for_a_number : command_of (codes "later 0 a 1.0 10") ≡ Some (Later 0 (97 ∷ replicate 15 0) 1 0 (Num 10))
unfolding opened
asks_for_a_number = refl

asks_for_the_largest_pointer : command_of (codes "later 7 a 18446744073709551615.29 @18446744073709551615") ≡ Some (Later 7 (97 ∷ replicate 15 0) 18446744073709551615 29 (Ref 18446744073709551615))
unfolding opened
asks_for_the_largest_pointer = refl

asks_for_null : command_of (codes "later 0 a 1.1 @0") ≡ Some (Later 0 (97 ∷ replicate 15 0) 1 1 (Ref 0))
unfolding opened
asks_for_null = refl

makes_a_root : command_of (codes "root 0 a 1") ≡ Some (Root 0 (97 ∷ replicate 15 0) 1)
unfolding opened
makes_a_root = refl

makes_none_the_root : command_of (codes "root 7 abcdefghijklmnop 0") ≡ Some (Root 7 (codes "abcdefghijklmnop") 0)
unfolding opened
makes_none_the_root = refl

makes_the_largest_the_root : command_of (codes "root 0 a 18446744073709551615") ≡ Some (Root 0 (97 ∷ replicate 15 0) 18446744073709551615)
unfolding opened
makes_the_largest_the_root = refl

frees_an_object : command_of (codes "free 0 a 1") ≡ Some (Free 0 (97 ∷ replicate 15 0) 1)
unfolding opened
frees_an_object = refl

frees_the_largest : command_of (codes "free 7 abcdefghijklmnop 18446744073709551615") ≡ Some (Free 7 (codes "abcdefghijklmnop") 18446744073709551615)
unfolding opened
frees_the_largest = refl

rewrites_a_step : command_of (codes "rewrite a 1") ≡ Some (Rewrite (97 ∷ replicate 15 0) 1)
unfolding opened
rewrites_a_step = refl

rewrites_every_step : command_of (codes "rewrite a 3984") ≡ Some (Rewrite (97 ∷ replicate 15 0) 3984)
unfolding opened
rewrites_every_step = refl

loses_power : command_of (codes "cut 18446744073709551615") ≡ Some (Cut 18446744073709551615)
unfolding opened
loses_power = refl

arms : command_of (codes "arm 1000000 0") ≡ Some (Arm 1000000 0)
unfolding opened
arms = refl

zero_is_a_number : decimal_of (codes "0") ≡ Some 0
unfolding opened
zero_is_a_number = refl

large_numbers_stay_whole : decimal_of (codes "18446744073709551616") ≡ Some 18446744073709551616
unfolding opened
large_numbers_stay_whole = refl

-- lines that are no command, each for one reason

nothing : command_of [] ≡ None
unfolding opened
nothing = refl

another_word : command_of (codes "types 1 2 1") ≡ None
unfolding opened
another_word = refl

upper_case : command_of (codes "Type 1 2 1") ≡ None
unfolding opened
upper_case = refl

leading_zero : command_of (codes "type 01 2 1") ≡ None
unfolding opened
leading_zero = refl

leading_zero_in_the_list : command_of (codes "type 1 2 00") ≡ None
unfolding opened
leading_zero_in_the_list = refl

sign : command_of (codes "type +1 2 1") ≡ None
unfolding opened
sign = refl

no_digit : command_of (codes "type 1a 2 1") ≡ None
unfolding opened
no_digit = refl

two_spaces : command_of (codes "type 1  2 1") ≡ None
unfolding opened
two_spaces = refl

space_before : command_of (codes " type 1 2 1") ≡ None
unfolding opened
space_before = refl

space_after : command_of (codes "type 1 2 1 ") ≡ None
unfolding opened
space_after = refl

tab : command_of (codes "type" ++ 9 ∷ codes "1 2 1") ≡ None
unfolding opened
tab = refl

argument_missing : command_of (codes "type 1 2") ≡ None
unfolding opened
argument_missing = refl

argument_too_many : command_of (codes "type 1 2 1 1") ≡ None
unfolding opened
argument_too_many = refl

id_zero : command_of (codes "type 0 2 1") ≡ None
unfolding opened
id_zero = refl

id_too_large : command_of (codes "type 65536 2 1") ≡ None
unfolding opened
id_too_large = refl

no_fields : command_of (codes "type 1 0 -") ≡ None
unfolding opened
no_fields = refl

too_many_fields : command_of (codes "type 1 31 -") ≡ None
unfolding opened
too_many_fields = refl

field_past_the_last : command_of (codes "type 1 2 2") ≡ None
unfolding opened
field_past_the_last = refl

fields_fall : command_of (codes "type 1 2 1,0") ≡ None
unfolding opened
fields_fall = refl

field_twice : command_of (codes "type 1 2 1,1") ≡ None
unfolding opened
field_twice = refl

comma_at_the_end : command_of (codes "type 1 2 0,") ≡ None
unfolding opened
comma_at_the_end = refl

too_long : command_of (codes "type 1 2 1" ++ replicate 119 48) ≡ None
unfolding opened
too_long = refl

ninth_client : command_of (codes "client 8 1 1") ≡ None
unfolding opened
ninth_client = refl

owner_too_large : command_of (codes "client 0 65536 1") ≡ None
unfolding opened
owner_too_large = refl

group_too_large : command_of (codes "client 0 1 65536") ≡ None
unfolding opened
group_too_large = refl

group_missing : command_of (codes "client 0 1") ≡ None
unfolding opened
group_missing = refl

nobody_leaves : command_of (codes "leave") ≡ None
unfolding opened
nobody_leaves = refl

two_leave : command_of (codes "leave 0 1") ≡ None
unfolding opened
two_leave = refl

no_steps : command_of (codes "rewrite a 0") ≡ None
unfolding opened
no_steps = refl

too_many_steps : command_of (codes "rewrite a 3985") ≡ None
unfolding opened
too_many_steps = refl

leading_zero_in_steps : command_of (codes "rewrite a 01") ≡ None
unfolding opened
leading_zero_in_steps = refl

steps_missing : command_of (codes "rewrite a") ≡ None
unfolding opened
steps_missing = refl

client_who_rewrites : command_of (codes "rewrite 0 a 1") ≡ None
unfolding opened
client_who_rewrites = refl

pick_too_large : command_of (codes "cut 18446744073709551616") ≡ None
unfolding opened
pick_too_large = refl

step_zero : command_of (codes "arm 0 0") ≡ None
unfolding opened
step_zero = refl

step_too_far : command_of (codes "arm 1000001 0") ≡ None
unfolding opened
step_too_far = refl

no_point : command_of (codes "get 0 a 1") ≡ None
unfolding opened
no_point = refl

no_field_after_the_point : command_of (codes "get 0 a 1.") ≡ None
unfolding opened
no_field_after_the_point = refl

no_object_before_the_point : command_of (codes "get 0 a .1") ≡ None
unfolding opened
no_object_before_the_point = refl

second_point : command_of (codes "get 0 a 1.0.0") ≡ None
unfolding opened
second_point = refl

comma_for_the_point : command_of (codes "get 0 a 1,0") ≡ None
unfolding opened
comma_for_the_point = refl

object_zero : command_of (codes "get 0 a 0.0") ≡ None
unfolding opened
object_zero = refl

object_too_large : command_of (codes "get 0 a 18446744073709551616.0") ≡ None
unfolding opened
object_too_large = refl

leading_zero_in_an_object : command_of (codes "get 0 a 01.0") ≡ None
unfolding opened
leading_zero_in_an_object = refl

field_too_large : command_of (codes "get 0 a 1.30") ≡ None
unfolding opened
field_too_large = refl

leading_zero_in_a_field : command_of (codes "get 0 a 1.00") ≡ None
unfolding opened
leading_zero_in_a_field = refl

place_missing : command_of (codes "get 0 a") ≡ None
unfolding opened
place_missing = refl

pool_missing : command_of (codes "begin 0") ≡ None
unfolding opened
pool_missing = refl

pool_too_many : command_of (codes "commit 0 a a") ≡ None
unfolding opened
pool_too_many = refl

ninth_client_aborts : command_of (codes "abort 8 a") ≡ None
unfolding opened
ninth_client_aborts = refl

type_missing : command_of (codes "new 0 a") ≡ None
unfolding opened
type_missing = refl

type_zero : command_of (codes "new 0 a 0") ≡ None
unfolding opened
type_zero = refl

type_too_large : command_of (codes "new 0 a 65536") ≡ None
unfolding opened
type_too_large = refl

value_missing : command_of (codes "set 0 a 1.0") ≡ None
unfolding opened
value_missing = refl

value_empty : command_of (codes "set 0 a 1.0 ") ≡ None
unfolding opened
value_empty = refl

value_too_many : command_of (codes "set 0 a 1.0 1 1") ≡ None
unfolding opened
value_too_many = refl

field_to_set_too_large : command_of (codes "set 0 a 1.30 1") ≡ None
unfolding opened
field_to_set_too_large = refl

object_to_set_zero : command_of (codes "set 0 a 0.0 1") ≡ None
unfolding opened
object_to_set_zero = refl

leading_zero_in_a_value : command_of (codes "set 0 a 1.0 01") ≡ None
unfolding opened
leading_zero_in_a_value = refl

value_too_large : command_of (codes "set 0 a 1.0 18446744073709551616") ≡ None
unfolding opened
value_too_large = refl

no_serial_after_the_at : command_of (codes "set 0 a 1.0 @") ≡ None
unfolding opened
no_serial_after_the_at = refl

leading_zero_in_a_serial : command_of (codes "set 0 a 1.0 @00") ≡ None
unfolding opened
leading_zero_in_a_serial = refl

second_at : command_of (codes "set 0 a 1.0 @@1") ≡ None
unfolding opened
second_at = refl

at_after_a_number : command_of (codes "set 0 a 1.0 1@") ≡ None
unfolding opened
at_after_a_number = refl

point_in_a_serial : command_of (codes "set 0 a 1.0 @1.") ≡ None
unfolding opened
point_in_a_serial = refl

serial_too_large : command_of (codes "set 0 a 1.0 @18446744073709551616") ≡ None
unfolding opened
serial_too_large = refl

value_to_come_missing : command_of (codes "later 0 a 1.0") ≡ None
unfolding opened
value_to_come_missing = refl

value_to_come_too_many : command_of (codes "later 0 a 1.0 1 1") ≡ None
unfolding opened
value_to_come_too_many = refl

value_to_come_too_large : command_of (codes "later 0 a 1.0 18446744073709551616") ≡ None
unfolding opened
value_to_come_too_large = refl

object_to_come_zero : command_of (codes "later 0 a 0.0 1") ≡ None
unfolding opened
object_to_come_zero = refl

field_to_come_too_large : command_of (codes "later 0 a 1.30 1") ≡ None
unfolding opened
field_to_come_too_large = refl

root_missing : command_of (codes "root 0 a") ≡ None
unfolding opened
root_missing = refl

root_too_many : command_of (codes "root 0 a 1 1") ≡ None
unfolding opened
root_too_many = refl

root_too_large : command_of (codes "root 0 a 18446744073709551616") ≡ None
unfolding opened
root_too_large = refl

leading_zero_in_a_root : command_of (codes "root 0 a 00") ≡ None
unfolding opened
leading_zero_in_a_root = refl

at_before_a_root : command_of (codes "root 0 a @1") ≡ None
unfolding opened
at_before_a_root = refl

object_to_free_missing : command_of (codes "free 0 a") ≡ None
unfolding opened
object_to_free_missing = refl

object_to_free_zero : command_of (codes "free 0 a 0") ≡ None
unfolding opened
object_to_free_zero = refl

objects_to_free_two : command_of (codes "free 0 a 1 2") ≡ None
unfolding opened
objects_to_free_two = refl

object_to_free_too_large : command_of (codes "free 0 a 18446744073709551616") ≡ None
unfolding opened
object_to_free_too_large = refl

at_before_an_object_to_free : command_of (codes "free 0 a @1") ≡ None
unfolding opened
at_before_an_object_to_free = refl

field_to_free : command_of (codes "free 0 a 1.0") ≡ None
unfolding opened
field_to_free = refl
