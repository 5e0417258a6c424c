-- Which bytes of a line decide its command, and that each command is legal.
use Rattle.std.proofs.Common.{◌≡◌, ℕ, ◌+◌, ◌*◌, ◌/◌, ◌%◌, ◌^◌, ◌<◌, ◌≤◌, Bool, true, false, cond, ◌&&◌, leb, ltb, eqb, List, [], ◌∷◌, length, take, sum_by, codes, bytes_eq, Option, Some, None, option_map, option_and_then, ◌⊎◌, inl, inr, refl, sym, ap, ap₂, ◌∙◌, subst, ⊎_elim, arith, length-take-le, le-leb, leb-true, ltb-true, lt-ltb, eq-eqb, pow_mono, pow_pos, pow-suc, add-one, mod-eq_of_lt}
use Rattle.std.proofs.lemmas.Bool.{cases_lt, cond-false, lt-leb, and_parts, and_from}
use Rattle.std.proofs.lemmas.Option.{none-some, same_Some, cond_some}
use Rattle.std.proofs.lemmas.List.{take_all}
use Rattle.std.proofs.lemmas.List.Sums.{sum_by-cons}
use Rattle.std.proofs.lemmas.Nat.{div-mul-add, mod-mul-add}
use Rattle.pud_defs.specs.declared.layout.TheConstants.{LINE_LIMIT, CLIENTS, MAX_OWNER_ID, MAX_TYPE_ID, MAX_FIELDS, MAX_ARMED_STEP}
use Rattle.pud_defs.specs.declared.space.TheConstants.{MAX_STEPS}
use Rattle.pud_defs.specs.declared.machine.Command.{Command}
use Rattle.pud_defs.specs.declared.machine.Command.TheVariants.{Client, Leave, Define, Cut, Arm, Chmod, Begin, Commit, Abort, New, Set, Later, Root, Free, Dump, Export, Import, Rewrite, Pools, Get}
use Rattle.pud_defs.specs.declared.machine.Command.TheVariants as commands
use Rattle.pud_defs.specs.declared.objects.FieldValue.{FieldValue}
use Rattle.pud_defs.specs.declared.objects.FieldValue.TheVariants.{Num, Ref}
use Rattle.std.specs.Prelude.{IsTrue}
use Rattle.pud_defs.specs.Formats.Modes.{is_legal_mode}
use Rattle.pud_defs.specs.Formats.Names.{IsName, is_legal_name}
use Rattle.pud_defs.proofs.StateMachine.NamesRead.{pool_name-legal, pool_mode-legal}
use Rattle.pud_defs.specs.Formats.TypeMap.{map_fields, map_word, is_legal_map, is_legal_type_id}
use Rattle.pud_defs.specs.StateMachine.Grammar.{split_at, decimal_of, in_range, number_within, fields_from, pointers_of, listed_map, Parser, taking, at_end, pool_name, pool_mode, object_serial, field_number, field_by, field_place, word_number, value_named, begin_by, commit_by, abort_by, new_by, set_by, later_by, root_by, free_by, get_by, dump_by, export_by, import_by, client_by, leave_by, define_by, pool_line_by, chmod_by, drop_by, rewrite_by, pools_by, cut_by, arm_by, transaction_lines, lines, command_among, command_with, command_by, command_of, IsLegalValue, IsLegalCommand}
use Rattle.pud_defs.proofs.KeyedTables.Keyed.{option_map_parts}

-- a line that is longer than a line may be is no command
pub command_of-long : (line : List ℕ) → LINE_LIMIT < length line → command_of line ≡ None
unfolding command_of
command_of-long line h = cond-false (leb (length line) LINE_LIMIT) (command_by (split_at 32 line)) None (lt-leb (length line) LINE_LIMIT h)

-- so a prefix that is one byte longer than a line may be decides as the whole line does
pub command_of-front : (line : List ℕ) → command_of (take (LINE_LIMIT + 1) line) ≡ command_of line
command_of-front line =
    ⊎_elim
    (λ long. command_of-long (take (LINE_LIMIT + 1) line) (omega (arith, length-take-le (LINE_LIMIT + 1) line (omega arith))) ∙ sym (command_of-long line long))
    (λ short. ap command_of (take_all (LINE_LIMIT + 1) line (omega arith)))
    (cases_lt LINE_LIMIT (length line))

-- ---- what the kinds of arguments give

-- what holds for both of two choices holds for the one that is taken
chosen : {A : Type 0} (Has : A → Type 0) (b : Bool) (o p : Option A) (x : A) → (o ≡ Some x → Has x) → (p ≡ Some x → Has x) → cond b o p ≡ Some x → Has x
chosen Has true o p x first other e = first e
chosen Has false o p x first other e = other e

record IsHandedOn {A B : Type 0} (f : A → Option B) (o : Option A) (y : B) : Type 0 where
  value : A
  is : o ≡ Some value
  gives : f value ≡ Some y

and_then_parts : {A B : Type 0} (f : A → Option B) (o : Option A) (y : B) → option_and_then f o ≡ Some y → IsHandedOn f o y
and_then_parts f None y e = absurd (none-some y e)
and_then_parts f (Some x) y e = record { value = x; is = refl; gives = e }

-- a number that is read within a range lies in it
pub number_within-bounds : (least end : ℕ) (bytes : List ℕ) (n : ℕ) → number_within least end bytes ≡ Some n → (least ≤ n) × (n < end)
number_within-bounds least end bytes n e =
    let read = and_then_parts (in_range least end) (decimal_of bytes) n e in
    let parts = cond_some (leb least read.value && ltb read.value end) read.value n read.gives in
    let bounds = and_parts (leb least read.value) (ltb read.value end) parts.0 in
    (subst (λ m. least ≤ m) parts.1 (leb-true least read.value bounds.0), subst (λ m. m < end) parts.1 (ltb-true read.value end bounds.1))

-- the bits of ascending fields from `least` to below n, and those of all numbers below `least`, fit below 2^n
fields_sum : (n least : ℕ) (pieces : List (List ℕ)) (fs : List ℕ) → least ≤ n → fields_from n least pieces ≡ Some fs → sum_by (λ f. 2 ^ f) fs + 2 ^ least ≤ 2 ^ n
unfolding fields_from
fields_sum n least [] fs h e =
    let none : sum_by (λ f. 2 ^ f) fs ≡ 0 = ap (sum_by (λ f. 2 ^ f)) (sym (same_Some [] fs e)) in
    let room : 2 ^ least ≤ 2 ^ n = pow_mono {i = least} {j = n} h in
    omega arith
fields_sum n least (piece ∷ pieces) fs h e =
    let r = and_then_parts (λ f. option_map (λ gs. f ∷ gs) (fields_from n (f + 1) pieces)) (number_within least n piece) fs e in
    let bounds = number_within-bounds least n piece r.value r.is in
    let m = option_map_parts (λ gs. r.value ∷ gs) (fields_from n (r.value + 1) pieces) fs r.gives in
    let rest : sum_by (λ f. 2 ^ f) m.value + 2 ^ (r.value + 1) ≤ 2 ^ n = fields_sum n (r.value + 1) pieces m.value (let high = bounds.1 in omega arith) m.is in
    let sums : sum_by (λ f. 2 ^ f) fs ≡ 2 ^ r.value + sum_by (λ f. 2 ^ f) m.value = ap (sum_by (λ f. 2 ^ f)) (sym m.gives) ∙ sum_by-cons (λ f. 2 ^ f) r.value m.value in
    let lowest : 2 ^ least ≤ 2 ^ r.value = pow_mono {i = least} {j = r.value} bounds.0 in
    let twice : 2 ^ (r.value + 1) ≡ 2 ^ r.value * 2 = ap (λ k. 2 ^ k) (add-one r.value) ∙ pow-suc 2 r.value in
    omega arith

empty_or : (b : Bool) (o : Option (List ℕ)) (fs : List ℕ) → cond b (Some []) o ≡ Some fs → ([] ≡ fs) ⊎ (o ≡ Some fs)
empty_or true o fs e = inl (same_Some [] fs e)
empty_or false o fs e = inr e

-- the pointer bits of n fields lie below bit n
pub pointers_below : (n : ℕ) (bytes : List ℕ) (fs : List ℕ) → pointers_of n bytes ≡ Some fs → sum_by (λ f. 2 ^ f) fs < 2 ^ n
unfolding pointers_of
pointers_below n bytes fs e =
    ⊎_elim
    (λ none. let zero_sum : sum_by (λ f. 2 ^ f) fs ≡ 0 = ap (sum_by (λ f. 2 ^ f)) (sym none) in let above : 0 < 2 ^ n = pow_pos n in omega arith)
    (λ some. let below : sum_by (λ f. 2 ^ f) fs + 1 ≤ 2 ^ n = fields_sum n 0 (split_at 44 bytes) fs (omega arith) some in omega arith)
    (empty_or (bytes_eq bytes (codes "-")) (fields_from n 0 (split_at 44 bytes)) fs e)

-- the map word of a legal number n of fields is legal, if the pointer bits lie below bit n
pub map_word-legal : (n : ℕ) (fs : List ℕ) → 1 ≤ n → n ≤ MAX_FIELDS → sum_by (λ f. 2 ^ f) fs < 2 ^ n → is_legal_map (map_word n fs) ≡ true
map_word-legal n fs low high below =
    let s = sum_by (λ f. 2 ^ f) fs in
    let small : 2 ^ n ≤ 2 ^ MAX_FIELDS = pow_mono {i = n} {j = MAX_FIELDS} high in
    let upper : (n * 2 ^ 32 + s) / 2 ^ 32 ≡ n = div-mul-add n (2 ^ 32) s (omega arith) in
    let lower : (n * 2 ^ 32 + s) % 2 ^ 32 ≡ s = mod-mul-add n (2 ^ 32) s (omega arith) in
    let fields : (n * 2 ^ 32 + s) / 2 ^ 32 % 32 ≡ n = ap (λ k. k % 32) upper ∙ mod-eq_of_lt (omega arith) in
    let w = map_word n fs in
    and_from _ _ (and_from _ _ (and_from _ _
    (le-leb 1 (map_fields w) (omega arith))
    (le-leb (map_fields w) MAX_FIELDS (omega arith)))
    (eq-eqb (w / 2 ^ 32) (map_fields w) (upper ∙ sym fields)))
    (ap₂ ltb lower (ap (λ k. 2 ^ k) fields) ∙ lt-ltb s (2 ^ n) below)

-- the map word that a list gives is legal
listed_map-legal : (n : ℕ) (bytes : List ℕ) (map : ℕ) → 1 ≤ n → n < MAX_FIELDS + 1 → listed_map n bytes ≡ Some map → is_legal_map map ≡ true
listed_map-legal n bytes map low high e =
    let m = option_map_parts (map_word n) (pointers_of n bytes) map e in
    subst (λ w. is_legal_map w ≡ true) m.gives (map_word-legal n m.value low (omega arith) (pointers_below n bytes m.value m.is))

type_id-legal : (n : ℕ) → 1 ≤ n → n < MAX_TYPE_ID + 1 → is_legal_type_id n ≡ true
type_id-legal n low high = and_from _ _ (le-leb 1 n low) (le-leb n MAX_TYPE_ID (omega arith))

-- ---- what the parsers give

-- all commands that the parser gives are legal
record IsLegalParser (parser : Parser) : Type 0 where
  legal : (arguments : List (List ℕ)) (c : Command) → parser arguments ≡ Some c → IsLegalCommand c

-- an argument of a kind, if all values of the kind have a property
taken : {A : Type 0} (kind : List ℕ → Option A) (Has : A → Type 0) (next : A → Parser) → ((bytes : List ℕ) (value : A) → kind bytes ≡ Some value → Has value)
    → ((value : A) → Has value → IsLegalParser (next value)) → IsLegalParser (taking kind next)
unfolding taking
taken kind Has next has after = record { legal = λ arguments c e. legal_taken arguments c e }
  where
    legal_taken : (arguments : List (List ℕ)) (c : Command) → taking kind next arguments ≡ Some c → IsLegalCommand c
    legal_taken [] c e = absurd (none-some c e)
    legal_taken (argument ∷ arguments) c e =
        let read = and_then_parts (λ value. next value arguments) (kind argument) c e in
        (after read.value (has argument read.value read.is)).legal arguments c read.gives

-- a number within a range
number_taken : (least end : ℕ) (next : ℕ → Parser) → ((n : ℕ) → least ≤ n → n < end → IsLegalParser (next n)) → IsLegalParser (taking (number_within least end) next)
number_taken least end next after = taken (number_within least end) (λ n. (least ≤ n) × (n < end)) next (number_within-bounds least end) (λ n bounds. after n bounds.0 bounds.1)

-- a list of the pointers of n fields
map_taken : (n : ℕ) (next : ℕ → Parser) → 1 ≤ n → n < MAX_FIELDS + 1 → ((map : ℕ) → is_legal_map map ≡ true → IsLegalParser (next map)) → IsLegalParser (taking (listed_map n) next)
map_taken n next low high after = taken (listed_map n) (λ map. is_legal_map map ≡ true) next (λ bytes map e. listed_map-legal n bytes map low high e) after

-- the name of a pool
name_taken : (next : List ℕ → Parser) → ((name : List ℕ) → IsName name × IsTrue (is_legal_name name) → IsLegalParser (next name)) → IsLegalParser (taking pool_name next)
name_taken next after = taken pool_name (λ name. IsName name × IsTrue (is_legal_name name)) next pool_name-legal after

-- a mode
mode_taken : (next : ℕ → Parser) → ((mode : ℕ) → IsTrue (is_legal_mode mode) → IsLegalParser (next mode)) → IsLegalParser (taking pool_mode next)
mode_taken next after = taken pool_mode (λ mode. IsTrue (is_legal_mode mode)) next pool_mode-legal after

-- the place of a field: the serial of an object and the number of one of its fields, both in their ranges
record IsFieldPlace (field : ℕ × ℕ) : Type 0 where
  serial : 1 ≤ field.0
  word : field.0 < 2 ^ 64
  number : field.1 < MAX_FIELDS

field_by-place : (pieces : List (List ℕ)) (field : ℕ × ℕ) → field_by pieces ≡ Some field → IsFieldPlace field
field_by-place [] field e = absurd (none-some field e)
field_by-place (object ∷ []) field e = absurd (none-some field e)
field_by-place (object ∷ number ∷ more ∷ pieces) field e = absurd (none-some field e)
field_by-place (object ∷ number ∷ []) field e =
    let s = and_then_parts (λ s. option_map (λ f. (s, f)) (field_number number)) (object_serial object) field e in
    let f = option_map_parts (λ f. (s.value, f)) (field_number number) field s.gives in
    let serial = number_within-bounds 1 (2 ^ 64) object s.value s.is in
    let below = number_within-bounds 0 MAX_FIELDS number f.value f.is in
    subst IsFieldPlace f.gives (record { serial = serial.0; word = serial.1; number = below.1 })

field_place-place : (bytes : List ℕ) (field : ℕ × ℕ) → field_place bytes ≡ Some field → IsFieldPlace field
unfolding field_place
field_place-place bytes field e = field_by-place (split_at 46 bytes) field e

-- a field of an object
field_taken : (next : ℕ × ℕ → Parser) → ((field : ℕ × ℕ) → IsFieldPlace field → IsLegalParser (next field)) → IsLegalParser (taking field_place next)
field_taken next after = taken field_place IsFieldPlace next field_place-place after

-- the value of a field
word_legal : (kind : ℕ → FieldValue) (bytes : List ℕ) (x : FieldValue) → ((n : ℕ) → n < 2 ^ 64 → IsLegalValue (kind n)) → option_map kind (word_number bytes) ≡ Some x → IsLegalValue x
word_legal kind bytes x fits e = let m = option_map_parts kind (word_number bytes) x e in subst IsLegalValue m.gives (fits m.value (number_within-bounds 0 (2 ^ 64) bytes m.value m.is).1)

value_named-legal : (bytes : List ℕ) (x : FieldValue) → value_named bytes ≡ Some x → IsLegalValue x
unfolding value_named
value_named-legal [] x e = absurd (none-some x e)
value_named-legal (b ∷ bytes) x e =
    chosen IsLegalValue (eqb b 64) (option_map Ref (word_number bytes)) (option_map Num (word_number (b ∷ bytes))) x (word_legal Ref bytes x (λ n below. below)) (word_legal Num (b ∷ bytes) x (λ n below. below)) e

value_taken : (next : FieldValue → Parser) → ((x : FieldValue) → IsLegalValue x → IsLegalParser (next x)) → IsLegalParser (taking value_named next)
value_taken next after = taken value_named IsLegalValue next value_named-legal after

ended : (command : Command) → IsLegalCommand command → IsLegalParser (at_end command)
unfolding at_end
ended command legal = record { legal = λ arguments c e. legal_ended arguments c e }
  where
    legal_ended : (arguments : List (List ℕ)) (c : Command) → at_end command arguments ≡ Some c → IsLegalCommand c
    legal_ended [] c e = subst IsLegalCommand (same_Some command c e) legal
    legal_ended (argument ∷ arguments) c e = absurd (none-some c e)

client_by-legal : IsLegalParser client_by
unfolding client_by
client_by-legal = number_taken 0 CLIENTS _ (λ client _ known. number_taken 0 (MAX_OWNER_ID + 1) _ (λ uid _ u. number_taken 0 (MAX_OWNER_ID + 1) _ (λ gid _ g. ended (Client client uid gid) (known, omega arith, omega arith))))

leave_by-legal : IsLegalParser leave_by
unfolding leave_by
leave_by-legal = number_taken 0 CLIENTS _ (λ client _ known. ended (Leave client) known)

define_by-legal : IsLegalParser define_by
unfolding define_by
define_by-legal = number_taken 1 (MAX_TYPE_ID + 1) _ (λ id low high. number_taken 1 (MAX_FIELDS + 1) _ (λ n some few. map_taken n _ some few (λ map legal. ended (Define id map) (type_id-legal id low high, legal))))

pool_line_by-legal : IsLegalParser pool_line_by
unfolding pool_line_by
pool_line_by-legal = number_taken 0 CLIENTS _ (λ client _ known. name_taken _ (λ name is. mode_taken _ (λ mode legal. ended (commands.Pool client name mode) (known, is.0, is.1, legal))))

chmod_by-legal : IsLegalParser chmod_by
unfolding chmod_by
chmod_by-legal = number_taken 0 CLIENTS _ (λ client _ known. name_taken _ (λ name is. mode_taken _ (λ mode legal. ended (Chmod client name mode) (known, is.0, is.1, legal))))

drop_by-legal : IsLegalParser drop_by
unfolding drop_by
drop_by-legal = number_taken 0 CLIENTS _ (λ client _ known. name_taken _ (λ name is. ended (commands.Drop client name) (known, is.0, is.1)))

begin_by-legal : IsLegalParser begin_by
unfolding begin_by
begin_by-legal = number_taken 0 CLIENTS _ (λ client _ known. name_taken _ (λ name is. ended (Begin client name) (known, is.0, is.1)))

commit_by-legal : IsLegalParser commit_by
unfolding commit_by
commit_by-legal = number_taken 0 CLIENTS _ (λ client _ known. name_taken _ (λ name is. ended (Commit client name) (known, is.0, is.1)))

abort_by-legal : IsLegalParser abort_by
unfolding abort_by
abort_by-legal = number_taken 0 CLIENTS _ (λ client _ known. name_taken _ (λ name is. ended (Abort client name) (known, is.0, is.1)))

new_by-legal : IsLegalParser new_by
unfolding new_by
new_by-legal = number_taken 0 CLIENTS _ (λ client _ known. name_taken _ (λ name is. number_taken 1 (MAX_TYPE_ID + 1) _ (λ t low high. ended (New client name t) (known, is.0, is.1, low, omega arith))))

set_by-legal : IsLegalParser set_by
unfolding set_by
set_by-legal =
    number_taken 0 CLIENTS _ (λ client _ known. name_taken _ (λ name is. field_taken _ (λ field at. value_taken _ (λ x fits. ended (Set client name field.0 field.1 x) (known, is.0, is.1, at.serial, at.word, at.number, fits)))))

later_by-legal : IsLegalParser later_by
unfolding later_by
later_by-legal =
    number_taken 0 CLIENTS _ (λ client _ known. name_taken _ (λ name is. field_taken _ (λ field at. value_taken _ (λ x fits. ended (Later client name field.0 field.1 x) (known, is.0, is.1, at.serial, at.word, at.number, fits)))))

root_by-legal : IsLegalParser root_by
unfolding root_by
root_by-legal = number_taken 0 CLIENTS _ (λ client _ known. name_taken _ (λ name is. number_taken 0 (2 ^ 64) _ (λ s _ word. ended (Root client name s) (known, is.0, is.1, word))))

free_by-legal : IsLegalParser free_by
unfolding free_by
free_by-legal = number_taken 0 CLIENTS _ (λ client _ known. name_taken _ (λ name is. number_taken 1 (2 ^ 64) _ (λ s serial word. ended (Free client name s) (known, is.0, is.1, serial, word))))

get_by-legal : IsLegalParser get_by
unfolding get_by
get_by-legal =
    number_taken 0 CLIENTS _ (λ client _ known. name_taken _ (λ name is. field_taken _ (λ field at. ended (Get client name field.0 field.1) (known, is.0, is.1, at.serial, at.word, at.number))))

dump_by-legal : IsLegalParser dump_by
unfolding dump_by
dump_by-legal = number_taken 0 CLIENTS _ (λ client _ known. name_taken _ (λ name is. ended (Dump client name) (known, is.0, is.1)))

export_by-legal : IsLegalParser export_by
unfolding export_by
export_by-legal = number_taken 0 CLIENTS _ (λ client _ known. name_taken _ (λ name is. name_taken _ (λ file at. ended (Export client name file) (known, is.0, is.1, at.0, at.1))))

import_by-legal : IsLegalParser import_by
unfolding import_by
import_by-legal =
    number_taken 0 CLIENTS _ (λ client _ known. name_taken _ (λ name is. name_taken _ (λ file at. mode_taken _ (λ mode legal. ended (Import client name file mode) (known, is.0, is.1, at.0, at.1, legal)))))

rewrite_by-legal : IsLegalParser rewrite_by
unfolding rewrite_by
rewrite_by-legal = name_taken _ (λ name is. number_taken 1 (MAX_STEPS + 1) _ (λ n low high. ended (Rewrite name n) (is.0, is.1, low, omega arith)))

pools_by-legal : IsLegalParser pools_by
unfolding pools_by
pools_by-legal = ended Pools tt

cut_by-legal : IsLegalParser cut_by
unfolding cut_by
cut_by-legal = number_taken 0 (2 ^ 64) _ (λ pick _ word. ended (Cut pick) word)

arm_by-legal : IsLegalParser arm_by
unfolding arm_by
arm_by-legal = number_taken 1 (MAX_ARMED_STEP + 1) _ (λ step low high. number_taken 0 (2 ^ 64) _ (λ pick _ word. ended (Arm step pick) (low, omega arith, word)))

-- ---- lines

-- all commands that the lines give are legal
abbrev AreLegalLines : List (List ℕ × Parser) → Type 0
AreLegalLines [] = Unit {0}
AreLegalLines (line ∷ others) = IsLegalParser line.1 × AreLegalLines others

are_legal_transaction_lines : AreLegalLines transaction_lines
are_legal_transaction_lines = (begin_by-legal, (commit_by-legal, (abort_by-legal, (new_by-legal, (set_by-legal, (later_by-legal, (root_by-legal, (free_by-legal, tt))))))))

are_legal_lines : AreLegalLines lines
are_legal_lines =
    (client_by-legal, (leave_by-legal, (define_by-legal, (pool_line_by-legal, (chmod_by-legal, (drop_by-legal, (get_by-legal, (dump_by-legal, (export_by-legal, (import_by-legal, (rewrite_by-legal, (pools_by-legal, (cut_by-legal, (arm_by-legal, are_legal_transaction_lines))))))))))))))

legal_among : (table : List (List ℕ × Parser)) (word : List ℕ) (arguments : List (List ℕ)) (c : Command) → AreLegalLines table → command_among table word arguments ≡ Some c → IsLegalCommand c
legal_among [] word arguments c legal e = absurd (none-some c e)
legal_among (line ∷ others) word arguments c legal e =
    chosen IsLegalCommand (bytes_eq word line.0) (line.1 arguments) (command_among others word arguments) c (legal.0.legal arguments c) (legal_among others word arguments c legal.1) e

legal_by : (pieces : List (List ℕ)) (c : Command) → command_by pieces ≡ Some c → IsLegalCommand c
unfolding command_with
legal_by [] c e = absurd (none-some c e)
legal_by (word ∷ arguments) c e = legal_among lines word arguments c are_legal_lines e

-- the command of a line is legal
pub command_of-legal : (line : List ℕ) (c : Command) → command_of line ≡ Some c → IsLegalCommand c
unfolding command_of
command_of-legal line c e = chosen IsLegalCommand (leb (length line) LINE_LIMIT) (command_by (split_at 32 line)) None c (legal_by (split_at 32 line) c) (λ none. absurd (none-some c none)) e
