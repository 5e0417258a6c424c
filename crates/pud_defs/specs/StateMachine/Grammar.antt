-- Which lines are commands. Here a line is given without its newline.
use Rattle.std.specs.Prelude.{IsTrue, ℕ, ◌<◌, ◌≤◌, ◌+◌, ◌-◌, ◌*◌, ◌%◌, ◌^◌, Bool, true, false, cond, not, ◌&&◌, nat_le, nat_lt, ◌==◌, List, [], ◌∷◌, ◌++◌, length, replicate, fold, codes, bytes_eq, Option, Some, None, option_map, option_and_then}
use Rattle.std.specs.List.{list_all, slice_split}
use Rattle.pud_defs.specs.declared.layout.TheConstants.{LINE_LIMIT, CLIENTS, MAX_OWNER_ID, MAX_TYPE_ID, MAX_FIELDS, MAX_ARMED_STEP}
use Rattle.pud_defs.specs.declared.space.TheConstants.{MAX_STEPS}
use Rattle.pud_defs.specs.declared.machine.Command.{Command}
use Rattle.pud_defs.specs.declared.machine.Command.TheVariants.{Client, Leave, Define, Cut, Arm, Chmod, Begin, Commit, Abort, New, Set, Later, Root, Free, Dump, Export, Import, Rewrite, Pools, Get}
use Rattle.pud_defs.specs.declared.machine.Command.TheVariants as commands
use Rattle.pud_defs.specs.declared.objects.FieldValue.{FieldValue}
use Rattle.pud_defs.specs.declared.objects.FieldValue.TheVariants.{Num, Ref}
use Rattle.pud_defs.specs.declared.records.TheConstants.{NAME_BYTES}
use Rattle.pud_defs.specs.Formats.Modes.{is_legal_mode}
use Rattle.pud_defs.specs.Formats.Names.{IsName, is_name_byte, is_legal_name}
use Rattle.pud_defs.specs.Formats.TypeMap.{map_word, is_legal_type_id, is_legal_map}

-- the pieces between the bytes that equal the separator: one more than there are such bytes
abbrev pub split_at : ℕ → List ℕ → List (List ℕ)
split_at separator bytes = slice_split (λ b. b == separator) bytes

abbrev pub is_digit : ℕ → Bool
is_digit b = nat_le 48 b && nat_lt b 58

-- at least one byte, and no `0` before other bytes
abbrev pub begins_as_number : List ℕ → Bool
begins_as_number [] = false
begins_as_number (b ∷ []) = true
begins_as_number (b ∷ c ∷ bytes) = not (b == 48)

-- the value of decimal digits that come after digits of the value `above`
abbrev pub value_after : ℕ → List ℕ → ℕ
value_after above bytes = fold (λ v b. v * 10 + (b - 48)) above bytes

-- a number: decimal digits, no sign, no leading zero but `0` itself
unfoldable pub decimal_of : List ℕ → Option ℕ
decimal_of bytes = cond (begins_as_number bytes && list_all is_digit bytes) (Some (value_after 0 bytes)) None

-- the number, if it is at least `least` and below `end`
abbrev pub in_range : ℕ → ℕ → ℕ → Option ℕ
in_range least end n = cond (nat_le least n && nat_lt n end) (Some n) None

-- the number that the bytes spell, if it is at least `least` and below `end`
abbrev pub number_within : ℕ → ℕ → List ℕ → Option ℕ
number_within least end bytes = option_and_then (in_range least end) (decimal_of bytes)

-- field numbers that are at least `least` and below n, strictly ascending
unfoldable pub fields_from : ℕ → ℕ → List (List ℕ) → Option (List ℕ)
fields_from n least [] = Some []
fields_from n least (piece ∷ pieces) = option_and_then (λ f. option_map (λ fs. f ∷ fs) (fields_from n (f + 1) pieces)) (number_within least n piece)

-- the pointer fields of a type of n fields: `-` for none, or field numbers that commas join
unfoldable pub pointers_of : ℕ → List ℕ → Option (List ℕ)
pointers_of n bytes = cond (bytes_eq bytes (codes "-")) (Some []) (fields_from n 0 (split_at 44 bytes))

-- The kinds of arguments. Each gives the value of the bytes of one argument, if they are of this kind.

abbrev pub client_number : List ℕ → Option ℕ
client_number bytes = number_within 0 CLIENTS bytes

-- a uid, or a gid
abbrev pub owner_id : List ℕ → Option ℕ
owner_id bytes = number_within 0 (MAX_OWNER_ID + 1) bytes

abbrev pub type_id : List ℕ → Option ℕ
type_id bytes = number_within 1 (MAX_TYPE_ID + 1) bytes

abbrev pub field_total : List ℕ → Option ℕ
field_total bytes = number_within 1 (MAX_FIELDS + 1) bytes

-- the map word of a type of n fields, given the list of its pointers
abbrev pub listed_map : ℕ → List ℕ → Option ℕ
listed_map n bytes = option_map (map_word n) (pointers_of n bytes)

-- the name of a pool, or of a file: 1 to 16 bytes out of small letters, digits and `_`, filled with zeros
unfoldable pub pool_name : List ℕ → Option (List ℕ)
pool_name bytes =
    cond (nat_le 1 (length bytes) && nat_le (length bytes) NAME_BYTES && list_all is_name_byte bytes) (Some (bytes ++ replicate (NAME_BYTES - length bytes) 0)) None

-- 0, 2, 4 or 6
abbrev pub is_mode_digit : ℕ → Bool
is_mode_digit b = nat_le 48 b && nat_le b 54 && (b % 2) == 0

-- the mode of three such digits
abbrev pub mode_of_digits : (owner group others : ℕ) → Option ℕ
mode_of_digits owner group others =
    cond (is_mode_digit owner && is_mode_digit group && is_mode_digit others) (Some ((owner - 48) * 64 + (group - 48) * 8 + (others - 48))) None

-- the mode of a pool: three digits, for the owner, the group and others
unfoldable pub pool_mode : List ℕ → Option ℕ
pool_mode (owner ∷ group ∷ others ∷ []) = mode_of_digits owner group others
pool_mode bytes = None

-- how many rewriting steps: 1 to as many as a pool can have
abbrev pub step_count : List ℕ → Option ℕ
step_count bytes = number_within 1 (MAX_STEPS + 1) bytes

abbrev pub armed_step : List ℕ → Option ℕ
armed_step bytes = number_within 1 (MAX_ARMED_STEP + 1) bytes

-- a number of 64 bits
abbrev pub word_number : List ℕ → Option ℕ
word_number bytes = number_within 0 (2 ^ 64) bytes

abbrev pub loss_pick : List ℕ → Option ℕ
loss_pick bytes = word_number bytes

-- the serial of an object, of 64 bits
abbrev pub object_serial : List ℕ → Option ℕ
object_serial bytes = number_within 1 (2 ^ 64) bytes

abbrev pub field_number : List ℕ → Option ℕ
field_number bytes = number_within 0 MAX_FIELDS bytes

-- a field, given the pieces of its place: the serial of its object, and its number
abbrev pub field_by : List (List ℕ) → Option (ℕ × ℕ)
field_by (object ∷ field ∷ []) = option_and_then (λ s. option_map (λ f. (s, f)) (field_number field)) (object_serial object)
field_by pieces = None

-- a field of an object: the serial and the number, which a point joins
unfoldable pub field_place : List ℕ → Option (ℕ × ℕ)
field_place bytes = field_by (split_at 46 bytes)

-- the value of a field: a number, or `@` and the serial of an object, 0 for null, each of 64 bits
unfoldable pub value_named : List ℕ → Option FieldValue
value_named [] = None
value_named (b ∷ bytes) = cond (b == 64) (option_map Ref (word_number bytes)) (option_map Num (word_number (b ∷ bytes)))

-- gives the command of a line from its arguments, if they fit
abbrev pub Parser : Type 0
Parser = List (List ℕ) → Option Command

-- the first argument is of this kind, and the parser for its value takes the others
unfoldable pub taking : {A : Type 0} → (List ℕ → Option A) → (A → Parser) → Parser
taking kind next [] = None
taking kind next (argument ∷ arguments) = option_and_then (λ value. next value arguments) (kind argument)

-- no argument is left
unfoldable pub at_end : Command → Parser
at_end command [] = Some command
at_end command (argument ∷ arguments) = None

-- `client C uid gid`, from its arguments
unfoldable pub client_by : Parser
client_by arguments = taking client_number (λ client. taking owner_id (λ uid. taking owner_id (λ gid. at_end (Client client uid gid)))) arguments

-- `leave C`
unfoldable pub leave_by : Parser
leave_by arguments = taking client_number (λ client. at_end (Leave client)) arguments

-- `type T n list`
unfoldable pub define_by : Parser
define_by arguments = taking type_id (λ id. taking field_total (λ n. taking (listed_map n) (λ map. at_end (Define id map)))) arguments

-- `pool C P mode`
unfoldable pub pool_line_by : Parser
pool_line_by arguments = taking client_number (λ client. taking pool_name (λ name. taking pool_mode (λ mode. at_end (commands.Pool client name mode)))) arguments

-- `chmod C P mode`
unfoldable pub chmod_by : Parser
chmod_by arguments = taking client_number (λ client. taking pool_name (λ name. taking pool_mode (λ mode. at_end (Chmod client name mode)))) arguments

-- `drop C P`
unfoldable pub drop_by : Parser
drop_by arguments = taking client_number (λ client. taking pool_name (λ name. at_end (commands.Drop client name))) arguments

-- `begin C P`
unfoldable pub begin_by : Parser
begin_by arguments = taking client_number (λ client. taking pool_name (λ name. at_end (Begin client name))) arguments

-- `commit C P`
unfoldable pub commit_by : Parser
commit_by arguments = taking client_number (λ client. taking pool_name (λ name. at_end (Commit client name))) arguments

-- `abort C P`
unfoldable pub abort_by : Parser
abort_by arguments = taking client_number (λ client. taking pool_name (λ name. at_end (Abort client name))) arguments

-- `new C P T`
unfoldable pub new_by : Parser
new_by arguments = taking client_number (λ client. taking pool_name (λ name. taking type_id (λ t. at_end (New client name t)))) arguments

-- `set C P o.f x`
unfoldable pub set_by : Parser
set_by arguments = taking client_number (λ client. taking pool_name (λ name. taking field_place (λ field. taking value_named (λ x. at_end (Set client name field.0 field.1 x))))) arguments

-- `later C P o.f x`
unfoldable pub later_by : Parser
later_by arguments =
    taking client_number (λ client. taking pool_name (λ name. taking field_place (λ field. taking value_named (λ x. at_end (Later client name field.0 field.1 x))))) arguments

-- `root C P o`, where o may be 0
unfoldable pub root_by : Parser
root_by arguments = taking client_number (λ client. taking pool_name (λ name. taking word_number (λ s. at_end (Root client name s)))) arguments

-- `free C P o`
unfoldable pub free_by : Parser
free_by arguments = taking client_number (λ client. taking pool_name (λ name. taking object_serial (λ s. at_end (Free client name s)))) arguments

-- `get C P o.f`
unfoldable pub get_by : Parser
get_by arguments = taking client_number (λ client. taking pool_name (λ name. taking field_place (λ field. at_end (Get client name field.0 field.1)))) arguments

-- `dump C P`
unfoldable pub dump_by : Parser
dump_by arguments = taking client_number (λ client. taking pool_name (λ name. at_end (Dump client name))) arguments

-- `export C P file`
unfoldable pub export_by : Parser
export_by arguments = taking client_number (λ client. taking pool_name (λ name. taking pool_name (λ file. at_end (Export client name file)))) arguments

-- `import C P file mode`
unfoldable pub import_by : Parser
import_by arguments =
    taking client_number (λ client. taking pool_name (λ name. taking pool_name (λ file. taking pool_mode (λ mode. at_end (Import client name file mode))))) arguments

-- `rewrite P n`
unfoldable pub rewrite_by : Parser
rewrite_by arguments = taking pool_name (λ name. taking step_count (λ n. at_end (Rewrite name n))) arguments

-- `pools`
unfoldable pub pools_by : Parser
pools_by arguments = at_end Pools arguments

-- `cut N`
unfoldable pub cut_by : Parser
cut_by arguments = taking loss_pick (λ pick. at_end (Cut pick)) arguments

-- `arm K N`
unfoldable pub arm_by : Parser
arm_by arguments = taking armed_step (λ step. taking loss_pick (λ pick. at_end (Arm step pick))) arguments

-- the lines of transactions: each command word with the parser of its arguments
abbrev pub transaction_lines : List (List ℕ × Parser)
transaction_lines =
    (codes "begin", begin_by)
    ∷ (codes "commit", commit_by)
    ∷ (codes "abort", abort_by)
    ∷ (codes "new", new_by)
    ∷ (codes "set", set_by)
    ∷ (codes "later", later_by)
    ∷ (codes "root", root_by)
    ∷ (codes "free", free_by)
    ∷ []

-- all lines, each in the same way
abbrev pub lines : List (List ℕ × Parser)
lines =
    (codes "client", client_by)
    ∷ (codes "leave", leave_by)
    ∷ (codes "type", define_by)
    ∷ (codes "pool", pool_line_by)
    ∷ (codes "chmod", chmod_by)
    ∷ (codes "drop", drop_by)
    ∷ (codes "get", get_by)
    ∷ (codes "dump", dump_by)
    ∷ (codes "export", export_by)
    ∷ (codes "import", import_by)
    ∷ (codes "rewrite", rewrite_by)
    ∷ (codes "pools", pools_by)
    ∷ (codes "cut", cut_by)
    ∷ (codes "arm", arm_by)
    ∷ transaction_lines

-- the command of a command word and its arguments, among these lines
abbrev pub command_among : List (List ℕ × Parser) → List ℕ → Parser
command_among [] word arguments = None
command_among (line ∷ others) word arguments = cond (bytes_eq word line.0) (line.1 arguments) (command_among others word arguments)

unfoldable pub command_with : List ℕ → Parser
command_with word arguments = command_among lines word arguments

-- the command of a line, given in pieces
abbrev pub command_by : List (List ℕ) → Option Command
command_by [] = None
command_by (word ∷ arguments) = command_with word arguments

-- the command of a line, if it is one: at most 128 bytes, the command word and its arguments, with exactly one space
-- between them
unfoldable pub command_of : List ℕ → Option Command
command_of line = cond (nat_le (length line) LINE_LIMIT) (command_by (split_at 32 line)) None

-- the value fits in 64 bits
abbrev pub IsLegalValue : FieldValue → Type 0
IsLegalValue (Num v) = v < 2 ^ 64
IsLegalValue (Ref s) = s < 2 ^ 64

-- the arguments of the command are in their ranges; this holds for each command of the grammar
abbrev pub IsLegalCommand : Command → Type 0
IsLegalCommand (Client client uid gid) = (client < CLIENTS) × (uid ≤ MAX_OWNER_ID) × (gid ≤ MAX_OWNER_ID)
IsLegalCommand (Leave client) = client < CLIENTS
IsLegalCommand (Define id map) = IsTrue (is_legal_type_id id) × IsTrue (is_legal_map map)
IsLegalCommand (commands.Pool client name mode) = (client < CLIENTS) × IsName name × IsTrue (is_legal_name name) × IsTrue (is_legal_mode mode)
IsLegalCommand (Chmod client name mode) = (client < CLIENTS) × IsName name × IsTrue (is_legal_name name) × IsTrue (is_legal_mode mode)
IsLegalCommand (commands.Drop client name) = (client < CLIENTS) × IsName name × IsTrue (is_legal_name name)
IsLegalCommand (Get client name s f) = (client < CLIENTS) × IsName name × IsTrue (is_legal_name name) × (1 ≤ s) × (s < 2 ^ 64) × (f < MAX_FIELDS)
IsLegalCommand (Begin client name) = (client < CLIENTS) × IsName name × IsTrue (is_legal_name name)
IsLegalCommand (Commit client name) = (client < CLIENTS) × IsName name × IsTrue (is_legal_name name)
IsLegalCommand (Abort client name) = (client < CLIENTS) × IsName name × IsTrue (is_legal_name name)
IsLegalCommand (New client name t) = (client < CLIENTS) × IsName name × IsTrue (is_legal_name name) × (1 ≤ t) × (t ≤ MAX_TYPE_ID)
IsLegalCommand (Set client name s f x) = (client < CLIENTS) × IsName name × IsTrue (is_legal_name name) × (1 ≤ s) × (s < 2 ^ 64) × (f < MAX_FIELDS) × IsLegalValue x
IsLegalCommand (Later client name s f x) = (client < CLIENTS) × IsName name × IsTrue (is_legal_name name) × (1 ≤ s) × (s < 2 ^ 64) × (f < MAX_FIELDS) × IsLegalValue x
IsLegalCommand (Root client name s) = (client < CLIENTS) × IsName name × IsTrue (is_legal_name name) × (s < 2 ^ 64)
IsLegalCommand (Free client name s) = (client < CLIENTS) × IsName name × IsTrue (is_legal_name name) × (1 ≤ s) × (s < 2 ^ 64)
IsLegalCommand (Dump client name) = (client < CLIENTS) × IsName name × IsTrue (is_legal_name name)
IsLegalCommand (Export client name file) = (client < CLIENTS) × IsName name × IsTrue (is_legal_name name) × IsName file × IsTrue (is_legal_name file)
IsLegalCommand (Import client name file mode) = (client < CLIENTS) × IsName name × IsTrue (is_legal_name name) × IsName file × IsTrue (is_legal_name file) × IsTrue (is_legal_mode mode)
IsLegalCommand (Rewrite name n) = IsName name × IsTrue (is_legal_name name) × (1 ≤ n) × (n ≤ MAX_STEPS)
IsLegalCommand Pools = Unit {0}
IsLegalCommand (Cut pick) = pick < 2 ^ 64
IsLegalCommand (Arm step pick) = (1 ≤ step) × (step ≤ MAX_ARMED_STEP) × (pick < 2 ^ 64)
