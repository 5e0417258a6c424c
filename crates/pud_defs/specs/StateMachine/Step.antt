-- What a command does to the world, besides the shelf, and what it is answered.
use Rattle.std.specs.Prelude.{ℕ, ◌+◌, Bool, true, false, not, ◌&&◌, ◌||◌, nat_le, nat_lt, ◌==◌, cond, List, [], ◌∷◌, ◌++◌, length, find, count_by, slice_get, bytes_eq, codes, Option, Some, None, option_map, is_none, is_some, unwrap_or}
use Rattle.std.specs.List.{list_any}
use Rattle.pud_defs.specs.declared.layout.TheConstants.{TYPE_RECORDS, CLIENT_LOGS, LOG_ENTRY_WORDS, MAX_DEPTH, SET_UNITS, NUMBER_LIMIT}
use Rattle.pud_defs.specs.declared.records.TheConstants.{MAX_PUDDLES}
use Rattle.pud_defs.specs.declared.machine.Command.{Command}
use Rattle.pud_defs.specs.declared.machine.Command.TheVariants.{Client, Leave, Define, Cut, Arm, Chmod, Begin, Commit, Abort, New, Set, Later, Root, Free, Dump, Export, Import, Rewrite, Pools, Get}
use Rattle.pud_defs.specs.declared.machine.Command.TheVariants as commands
use Rattle.pud_defs.specs.declared.machine.Reply.{Reply}
use Rattle.pud_defs.specs.declared.machine.Reply.TheVariants as replies
use Rattle.pud_defs.specs.declared.machine.Refusal.{Refusal}
use Rattle.pud_defs.specs.declared.machine.Refusal.TheVariants as refusals
use Rattle.pud_defs.specs.Formats.Geometry.{class_for, slots_among, new_units}
use Rattle.pud_defs.specs.RegistryTables.Types.{map_of}
use Rattle.pud_defs.specs.RegistryTables.Spaces.{Owner, owner, with_owner}
use Rattle.pud_defs.specs.declared.objects.FieldValue.{FieldValue}
use Rattle.pud_defs.specs.declared.objects.FieldValue.TheVariants.{Num, Ref}
use Rattle.pud_defs.specs.Formats.Rights.{may_read, may_write}
use Rattle.pud_defs.specs.PoolGraphs.Graph.{Graph, Object, field_count, object_in, is_referenced, empty_graph}
use Rattle.pud_defs.specs.PoolGraphs.GraphChanges.{blank_object, with_field, with_root, without_object, with_new}
use Rattle.pud_defs.specs.PoolGraphs.DeferredValues.{deferred_set_names}
use Rattle.pud_defs.specs.PoolGraphs.Holdings.{graph_held}
use Rattle.pud_defs.specs.PoolGraphs.ExportFile.{FileContents, file_graph}
use Rattle.pud_defs.specs.RegistryTables.Tables.{Pool}
use Rattle.pud_defs.specs.StateMachine.World.{StoredWorld, Transaction, World, restart, open_on}
use Rattle.pud_defs.specs.StateMachine.PoolChanges.{pool_named, is_full_of_pools, lacks_frames, lacks_a_number, changed_pool, with_puddle_more, with_new_pool, with_pool_mode, without_pool, with_type_defined}
use Rattle.pud_defs.specs.StateMachine.Imports.{is_full_for_file, lacks_frames_for_file, with_pool_of}
use Rattle.pud_defs.specs.StateMachine.Transactions.{is_own, is_others, units_of, depth_of, deferred_of, with_open, with_changed, without_client, open_after_begin, charged, deferring, lowered, committed_pools}
use Rattle.pud_defs.specs.Output.Listing.{name_text, pools_text}
use Rattle.pud_defs.specs.Output.DumpText.{dump_text}
use Rattle.pud_defs.specs.StateMachine.Grammar.{command_of}

-- The answer to a line: a reply, or the text after `ok` that the line asks for.
pub data Answer : Type 0 where
  of_reply : Reply → Answer
  of_text : List ℕ → Answer

-- ---- what a command needs, and what it may be refused for: one row for each command

-- the client's user is the pool's owner
abbrev pub has_owner_right : Option Owner → Option Pool → Bool
has_owner_right None pool = false
has_owner_right (Some who) None = false
has_owner_right (Some who) (Some pool) = who.uid == pool.owner.uid

-- the pool's mode lets the client read it
abbrev pub has_read_right : Option Owner → Option Pool → Bool
has_read_right None pool = false
has_read_right (Some who) None = false
has_read_right (Some who) (Some pool) = may_read pool.mode pool.owner who

-- the pool's mode lets the client write it
abbrev pub has_write_right : Option Owner → Option Pool → Bool
has_write_right None pool = false
has_write_right (Some who) None = false
has_write_right (Some who) (Some pool) = may_write pool.mode pool.owner who

-- What is asked of a command: the client and the pool's name in it; the refusals that it may meet, in the order in
-- which they are tested; the right that it needs on the pool, if it may be denied; and how many units it uses.
pub record Rule : Type 0 where
  pub client : Option ℕ
  pub pool : Option (List ℕ)
  pub causes : List Refusal
  pub right : Option Owner → Option Pool → Bool
  pub charge : List (ℕ × ℕ) → ℕ

-- this many units, whatever types are defined
abbrev pub costs : (units : ℕ) → List (ℕ × ℕ) → ℕ
costs units types = units

-- the class of the puddles in which objects of a type are made
abbrev pub class_made : List (ℕ × ℕ) → (type_id : ℕ) → ℕ
class_made types t = class_for (field_count (unwrap_or (map_of t types) 0))

-- a command that names no client and no pool
abbrev pub rule_of_none : List Refusal → Rule
rule_of_none causes = record { client = None; pool = None; causes = causes; right = has_owner_right; charge = costs 0 }

-- a command of a client, who must be present, except in `client`
abbrev pub rule_of_client : (client : ℕ) → List Refusal → Rule
rule_of_client client causes = record { client = Some client; pool = None; causes = causes; right = has_owner_right; charge = costs 0 }

-- a command of the owner of a pool on which no transaction is open
abbrev pub rule_of_owner : (client : ℕ) → List ℕ → Rule
rule_of_owner client name = record {
  client = Some client;
  pool = Some name;
  causes = refusals.Client ∷ refusals.Pool ∷ refusals.Denied ∷ refusals.Busy ∷ refusals.OpenHere ∷ [];
  right = has_owner_right;
  charge = costs 0;
}

-- a command that reads a pool, or begins to write it, as its mode allows the client
abbrev pub rule_by_mode : (client : ℕ) → List ℕ → (right : Option Owner → Option Pool → Bool) → List Refusal → Rule
rule_by_mode client name right later = record {
  client = Some client;
  pool = Some name;
  causes = refusals.Client ∷ refusals.Pool ∷ refusals.Wild ∷ refusals.Denied ∷ refusals.Busy ∷ later;
  right = right;
  charge = costs 0;
}

-- a command in the client's own transaction
abbrev pub rule_of_own : (client : ℕ) → List ℕ → (charge : List (ℕ × ℕ) → ℕ) → List Refusal → Rule
rule_of_own client name charge later = record {
  client = Some client;
  pool = Some name;
  causes = refusals.Client ∷ refusals.Pool ∷ refusals.Wild ∷ refusals.Busy ∷ refusals.Tx ∷ later;
  right = has_owner_right;
  charge = charge;
}

abbrev pub rule_of : Command → Rule
rule_of (Client client uid gid) = rule_of_client client (refusals.Taken ∷ [])
rule_of (Leave client) = rule_of_client client (refusals.Client ∷ [])
rule_of (Define id map) = rule_of_none (refusals.Clash ∷ refusals.Full ∷ [])
rule_of (commands.Pool client name mode) = record (rule_of_client client (refusals.Client ∷ refusals.Exists ∷ refusals.Full ∷ refusals.Space ∷ [])) { pool = Some name }
rule_of (Chmod client name mode) = rule_of_owner client name
rule_of (commands.Drop client name) = rule_of_owner client name
rule_of (Get client name s f) = rule_by_mode client name has_read_right (refusals.Object ∷ refusals.Field ∷ [])
rule_of (Begin client name) = rule_by_mode client name has_write_right (refusals.Deep ∷ refusals.Logs ∷ [])
rule_of (Commit client name) = rule_of_own client name (costs 0) []
rule_of (Abort client name) = rule_of_own client name (costs 0) []
rule_of (New client name t) = rule_of_own client name (λ types. new_units (class_made types t)) (refusals.NoType ∷ refusals.TooBig ∷ refusals.Full ∷ refusals.Space ∷ [])
rule_of (Set client name s f x) = rule_of_own client name (costs SET_UNITS) (refusals.Object ∷ refusals.Field ∷ refusals.Kind ∷ refusals.TooBig ∷ [])
rule_of (Later client name s f x) = rule_of_own client name (costs SET_UNITS) (refusals.Object ∷ refusals.Field ∷ refusals.Kind ∷ refusals.TooBig ∷ [])
rule_of (Root client name s) = rule_of_own client name (costs SET_UNITS) (refusals.Object ∷ refusals.TooBig ∷ [])
rule_of (Free client name s) = rule_of_own client name (costs SET_UNITS) (refusals.Object ∷ refusals.Held ∷ refusals.TooBig ∷ [])
rule_of (Dump client name) = rule_by_mode client name has_read_right (refusals.Memory ∷ [])
rule_of (Export client name file) = rule_by_mode client name has_read_right (refusals.OpenHere ∷ refusals.Memory ∷ [])
rule_of (Import client name file mode) =
    record (rule_of_client client (refusals.Client ∷ refusals.Exists ∷ refusals.File ∷ refusals.Memory ∷ refusals.BadFile ∷ refusals.Clash ∷ refusals.Full ∷ refusals.Space ∷ [])) { pool = Some name }
rule_of (Rewrite name n) = record (rule_of_none (refusals.Pool ∷ refusals.Wild ∷ [])) { pool = Some name }
rule_of Pools = rule_of_none []
rule_of (Cut pick) = rule_of_none []
rule_of (Arm step pick) = rule_of_none []

-- the refusals that a command may meet, in the order in which they are tested
abbrev pub causes : Command → List Refusal
causes c = (rule_of c).causes

-- the client that a command names
abbrev pub client_of : Command → Option ℕ
client_of c = (rule_of c).client

-- the name of the pool that a command names
abbrev pub name_in : Command → Option (List ℕ)
name_in c = (rule_of c).pool

-- whoever acts has the right to the pool that the command needs
abbrev pub is_allowed : Command → Option Owner → Option Pool → Bool
is_allowed c = (rule_of c).right

-- how many units a command uses
abbrev pub charge : Command → List (ℕ × ℕ) → ℕ
charge c = (rule_of c).charge

-- a client is named, and it is present
abbrev pub is_present : (ℕ → Option Owner) → Option ℕ → Bool
is_present clients None = false
is_present clients (Some client) = is_some (clients client)

-- the owner as whom the client acts, if one is named and is present
abbrev pub acting : (ℕ → Option Owner) → Option ℕ → Option Owner
acting clients None = None
acting clients (Some client) = clients client

-- the pool of the name, if one is named and there is such a pool
abbrev pub pool_by_name : StoredWorld → Option (List ℕ) → Option Pool
pool_by_name s None = None
pool_by_name s (Some name) = pool_named name s

-- the graph of the pool, if there is a pool and it is not wild
abbrev pub graph_in : Option Pool → Option Graph
graph_in None = None
graph_in (Some pool) = graph_held pool.holding

-- the graph as it is seen: that of the open transaction, if one is open, else that of the pool
abbrev pub graph_seen : Option Transaction → Option Pool → Option Graph
graph_seen None pool = graph_in pool
graph_seen (Some t) pool = Some t.now

-- the object of a serial, if there is a graph that has it
abbrev pub object_of : ℕ → Option Graph → Option Object
object_of s None = None
object_of s (Some g) = object_in s g

-- what a field stores, if there is an object that has the field
abbrev pub field_of : ℕ → Option Object → Option FieldValue
field_of f None = None
field_of f (Some object) = slice_get object.fields f

-- the object that a command names, if the graph has it; `root` names none here, since its serial may be 0
abbrev pub object_named : Command → Option Graph → Option Object
object_named (Get client name s f) g = object_of s g
object_named (Set client name s f x) g = object_of s g
object_named (Later client name s f x) g = object_of s g
object_named (Free client name s) g = object_of s g
object_named c g = None

-- what the field that a command names stores, if the object has it
abbrev pub field_named : Command → Option Object → Option FieldValue
field_named (Get client name s f) object = field_of f object
field_named (Set client name s f x) object = field_of f object
field_named (Later client name s f x) object = field_of f object
field_named c object = None

-- the pool that a command names
abbrev pub pool_for : World → Command → Option Pool
pool_for w c = pool_by_name w.stored (name_in c)

-- the transaction that is open on the pool of the name, if a name is given and one is open
abbrev pub open_by_name : World → Option (List ℕ) → Option Transaction
open_by_name w None = None
open_by_name w (Some name) = open_on name w

abbrev pub open_for : World → Command → Option Transaction
open_for w c = open_by_name w (name_in c)

-- the graph of the pool that a command names, as it is seen
abbrev pub graph_for : World → Command → Option Graph
graph_for w c = graph_seen (open_for w c) (pool_for w c)

-- the object that a command names
abbrev pub object_for : World → Command → Option Object
object_for w c = object_named c (graph_for w c)

-- what the field that a command names stores
abbrev pub field_for : World → Command → Option FieldValue
field_for w c = field_named c (object_for w c)

-- the open transaction is that of the client that the command names; then the same for another client's
abbrev pub has_own_open : Option ℕ → Option Transaction → Bool
has_own_open None t = false
has_own_open (Some client) t = is_own client t

abbrev pub has_other_open : Option ℕ → Option Transaction → Bool
has_other_open None t = false
has_other_open (Some client) t = is_others client t

-- how many transactions the client has open on pools of other names
abbrev pub open_elsewhere : World → (client : ℕ) → List ℕ → ℕ
open_elsewhere w client name = count_by (λ e. not (bytes_eq e.0 name) && is_own client (open_on e.0 w)) w.stored.pools

-- the client's transaction on the pool has the largest depth
abbrev pub is_deep : World → Command → Bool
is_deep w (Begin client name) = is_own client (open_on name w) && nat_le MAX_DEPTH (depth_of (open_on name w))
is_deep w c = false

-- the client has no transaction open on the pool, and as many on other pools as it has logs
abbrev pub lacks_logs : World → Command → Bool
lacks_logs w (Begin client name) = not (is_own client (open_on name w)) && nat_le CLIENT_LOGS (open_elsewhere w client name)
lacks_logs w c = false

-- the type of the object that a command makes
abbrev pub type_named : Command → ℕ
type_named (New client name t) = t
type_named c = 0

-- the value is dangling: it names a serial that no object has
abbrev pub is_dangling : Option Graph → FieldValue → Bool
is_dangling g (Num v) = false
is_dangling g (Ref s) = not (s == 0) && is_none (object_of s g)

abbrev pub has_dangling_value : Command → Option Graph → Bool
has_dangling_value (Set client name s f x) g = is_dangling g x
has_dangling_value (Later client name s f x) g = is_dangling g x
has_dangling_value c g = false

-- the graph does not have the object that a command names, or the one that its value names; or, for `root`, not the
-- root, which may be null
abbrev pub lacks_object : Command → Option Graph → Bool
lacks_object (Root client name s) g = is_dangling g (Ref s)
lacks_object c g = has_dangling_value c g || is_none (object_named c g)

-- one is a number and the other a pointer
abbrev pub differ_in_kind : Option FieldValue → FieldValue → Bool
differ_in_kind None x = false
differ_in_kind (Some (Num v)) (Num n) = false
differ_in_kind (Some (Num v)) (Ref s) = true
differ_in_kind (Some (Ref r)) (Num n) = true
differ_in_kind (Some (Ref r)) (Ref s) = false

abbrev pub mixes_kinds : World → Command → Bool
mixes_kinds w (Set client name s f x) = differ_in_kind (field_of f (object_of s (graph_for w (Set client name s f x)))) x
mixes_kinds w (Later client name s f x) = differ_in_kind (field_of f (object_of s (graph_for w (Later client name s f x)))) x
mixes_kinds w c = false

-- the root or a field references the object of the serial, if there is a graph
abbrev pub is_referenced_in : ℕ → Option Graph → Bool
is_referenced_in s None = false
is_referenced_in s (Some g) = is_referenced s g

-- the object that a command frees is referenced: by the root, by a field, its own included, or by a deferred value
abbrev pub frees_referenced : World → Command → Bool
frees_referenced w (Free client name s) = is_referenced_in s (graph_for w (Free client name s)) || deferred_set_names s (deferred_of (open_for w (Free client name s)))
frees_referenced w c = false

-- ---- room for one more object

-- how many objects of a graph live in puddles of a class
abbrev pub objects_in : (class : ℕ) → Graph → ℕ
objects_in class g = count_by (λ e. e.1.class == class) g.objects

-- every slot of the pool's puddles of a class is live
abbrev pub is_all_live : (class : ℕ) → Option Graph → Option Pool → Bool
is_all_live class None pool = false
is_all_live class (Some g) None = false
is_all_live class (Some g) (Some pool) = objects_in class g == slots_among class pool.classes

-- no serial is left
abbrev pub is_last_serial : Option Graph → Bool
is_last_serial None = false
is_last_serial (Some g) = nat_le NUMBER_LIMIT g.next_serial

-- the pool has as many puddles as a pool can have
abbrev pub has_all_puddles : Option Pool → Bool
has_all_puddles None = false
has_all_puddles (Some pool) = nat_le MAX_PUDDLES (length pool.classes)

-- a command that makes an object in a puddle of a class first adds such a puddle to the pool of the name
abbrev pub grows : World → List ℕ → (class : ℕ) → Bool
grows w name class = is_all_live class (graph_seen (open_on name w) (pool_named name w.stored)) (pool_named name w.stored)

-- there is no room for one more object in a puddle of a class
abbrev pub lacks_room : World → List ℕ → (class : ℕ) → Bool
lacks_room w name class =
    is_last_serial (graph_seen (open_on name w) (pool_named name w.stored))
    || (grows w name class && (has_all_puddles (pool_named name w.stored) || lacks_a_number w.stored.next_number))

-- ---- the file that a command names

-- the bytes of the file on the shelf from which a command makes a pool
abbrev pub file_for : World → Command → Option (List ℕ)
file_for w (Import client name file mode) = w.shelf (name_text file)
file_for w c = None

-- what bytes stand for, if there are bytes and they are an export file
abbrev pub contents_in : Option (List ℕ) → Option FileContents
contents_in None = None
contents_in (Some bytes) = file_graph bytes

-- what the file stands for from which a command makes a pool
abbrev pub contents_named : World → Command → Option FileContents
contents_named w c = contents_in (file_for w c)

-- there are contents, and the test holds for them
abbrev pub of_contents : (FileContents → Bool) → Option FileContents → Bool
of_contents test None = false
of_contents test (Some contents) = test contents

-- ---- room in the tables

abbrev pub is_other : ℕ → Option ℕ → Bool
is_other map None = false
is_other map (Some m) = not (m == map)

-- the type is defined with another map
abbrev pub is_clash : List (ℕ × ℕ) → ℕ → ℕ → Bool
is_clash types id map = is_other map (map_of id types)

-- the type is not defined, and the type table is full
abbrev pub is_full : List (ℕ × ℕ) → ℕ → Bool
is_full types id = is_none (map_of id types) && nat_le TYPE_RECORDS (length types)

-- a type of the file is defined with another map
abbrev pub clashes_with : (types file : List (ℕ × ℕ)) → Bool
clashes_with types file = list_any (λ t. is_clash types t.0 t.1) file

-- the type that a command defines, or a type of its file, is defined with another map
abbrev pub clashes : World → Command → Bool
clashes w (Define id map) = is_clash w.stored.types id map
clashes w (Import client name file mode) = of_contents (λ contents. clashes_with w.stored.types contents.types) (contents_named w (Import client name file mode))
clashes w _ = false

-- the tables or the pool have no room for what a command adds, or too few UUID numbers or serials are left
abbrev pub overfills : World → Command → Bool
overfills w (Define id map) = is_full w.stored.types id
overfills w (commands.Pool client name mode) = is_full_of_pools w.stored
overfills w (New client name t) = lacks_room w name (class_made w.stored.types t)
overfills w (Import client name file mode) = of_contents (is_full_for_file w.stored) (contents_named w (Import client name file mode))
overfills w _ = false

-- too few frames are free for what a command adds
abbrev pub overflows : World → Command → Bool
overflows w (commands.Pool client name mode) = lacks_frames w.stored 1
overflows w (New client name t) = grows w name (class_made w.stored.types t) && lacks_frames w.stored 1
overflows w (Import client name file mode) = of_contents (lacks_frames_for_file w.stored) (contents_named w (Import client name file mode))
overflows w _ = false

-- The cause holds for the command. `bad` never holds: only lines that are no command get it. `memory` never holds
-- either: the world does not decide whether an allocation fails.
unfoldable pub cause_holds : World → Command → Refusal → Bool
cause_holds w c refusals.Bad = false
cause_holds w c refusals.Client = not (is_present w.clients (client_of c))
cause_holds w c refusals.Taken = is_present w.clients (client_of c)
cause_holds w c refusals.Pool = is_none (pool_for w c)
cause_holds w c refusals.Exists = is_some (pool_for w c)
cause_holds w c refusals.Wild = is_none (graph_in (pool_for w c))
cause_holds w c refusals.Denied = not (is_allowed c (acting w.clients (client_of c)) (pool_for w c))
cause_holds w c refusals.Busy = has_other_open (client_of c) (open_for w c)
cause_holds w c refusals.OpenHere = has_own_open (client_of c) (open_for w c)
cause_holds w c refusals.Tx = not (has_own_open (client_of c) (open_for w c))
cause_holds w c refusals.NoType = is_none (map_of (type_named c) w.stored.types)
cause_holds w c refusals.Object = lacks_object c (graph_for w c)
cause_holds w c refusals.Field = is_none (field_for w c)
cause_holds w c refusals.Kind = mixes_kinds w c
cause_holds w c refusals.Held = frees_referenced w c
cause_holds w c refusals.Deep = is_deep w c
cause_holds w c refusals.Logs = lacks_logs w c
cause_holds w c refusals.TooBig = nat_lt LOG_ENTRY_WORDS (units_of (open_for w c) + charge c w.stored.types)
cause_holds w c refusals.File = is_none (file_for w c)
cause_holds w c refusals.Memory = false
cause_holds w c refusals.BadFile = is_none (contents_named w c)
cause_holds w c refusals.Clash = clashes w c
cause_holds w c refusals.Full = overfills w c
cause_holds w c refusals.Space = overflows w c

-- the first cause of the command that holds
unfoldable pub refusal_of : World → Command → Option Refusal
refusal_of w c = find (cause_holds w c) (causes c)

-- the owner as whom a present client acts
abbrev pub owner_acting : (ℕ → Option Owner) → ℕ → Owner
owner_acting clients client = unwrap_or (clients client) (owner 0 0)

-- the graph with which a transaction begins on the pool of the name
abbrev pub graph_at_begin : World → List ℕ → Graph
graph_at_begin w name = unwrap_or (graph_in (pool_named name w.stored)) empty_graph

-- the object that `new` makes, in a puddle of the class of its type
abbrev pub object_made : World → ℕ → Object
object_made w t = blank_object (class_made w.stored.types t) t (unwrap_or (map_of t w.stored.types) 0)

-- the world after a command that is not refused
unfoldable pub after : World → Command → World
after w (Client client uid gid) = record w { clients = with_owner client (Some (owner uid gid)) w.clients }
after w (Leave client) = record w { clients = with_owner client None w.clients; transactions = without_client client w.transactions }
after w (Define id map) = record w { stored = with_type_defined id map w.stored }
after w (commands.Pool client name mode) = record w { stored = with_new_pool name (owner_acting w.clients client) mode w.stored }
after w (Chmod client name mode) = record w { stored = with_pool_mode name mode w.stored }
after w (commands.Drop client name) = record w { stored = without_pool name w.stored }
after w (Get client name s f) = w
after w (Begin client name) = record w { transactions = with_open name (open_after_begin client (graph_at_begin w name) (open_on name w)) w.transactions }
after w (Commit client name) = record w { stored = record w.stored { pools = committed_pools name (open_on name w) w.stored.pools }; transactions = with_open name (lowered (open_on name w)) w.transactions }
after w (Abort client name) = record w { transactions = with_open name None w.transactions }
after w (New client name t) = record w {
  stored = record w.stored {
    next_number = cond (grows w name (class_made w.stored.types t)) (w.stored.next_number + 1) w.stored.next_number;
    pools = cond (grows w name (class_made w.stored.types t)) (changed_pool name (with_puddle_more (class_made w.stored.types t)) w.stored.pools) w.stored.pools;
  };
  transactions = with_changed name (charged (new_units (class_made w.stored.types t)) (with_new (object_made w t))) w.transactions;
}
after w (Set client name s f x) = record w { transactions = with_changed name (charged SET_UNITS (with_field s f x)) w.transactions }
after w (Later client name s f x) = record w { transactions = with_changed name (deferring SET_UNITS (record { s = s; f = f; x = x })) w.transactions }
after w (Root client name s) = record w { transactions = with_changed name (charged SET_UNITS (with_root s)) w.transactions }
after w (Free client name s) = record w { transactions = with_changed name (charged SET_UNITS (without_object s)) w.transactions }
after w (Dump client name) = w
after w (Export client name file) = w
after w (Import client name file mode) = record w { stored = with_pool_of (contents_named w (Import client name file mode)) name (owner_acting w.clients client) mode w.stored }
after w (Rewrite name n) = w
after w Pools = w
after w (Cut pick) = restart w
after w (Arm step pick) = w

-- the text that a command asks for
abbrev pub text_for : World → Command → Option (List ℕ)
text_for w Pools = Some (pools_text w.stored)
text_for w (Dump client name) = option_map (λ g. codes " " ++ dump_text g) (graph_for w (Dump client name))
text_for w c = None

-- the serial that the next object of a graph has
abbrev pub next_in : Option Graph → ℕ
next_in None = 0
next_in (Some g) = g.next_serial

-- the value that a command asks for: that of a field, or the serial of the object that it makes
abbrev pub value_for : World → Command → Option FieldValue
value_for w (Get client name s f) = field_for w (Get client name s f)
value_for w (New client name t) = Some (Ref (next_in (graph_for w (New client name t))))
value_for w c = None

-- the value, or else only `ok`
abbrev pub value_or_ok : Option FieldValue → Reply
value_or_ok None = replies.Ok
value_or_ok (Some (Num v)) = replies.Num v
value_or_ok (Some (Ref serial)) = replies.Ref serial

-- the text, or else the reply
abbrev pub text_or : Reply → Option (List ℕ) → Answer
text_or reply None = of_reply reply
text_or reply (Some text) = of_text text

-- the answer to a command that is not refused
unfoldable pub answer : World → Command → Answer
answer w c = text_or (value_or_ok (value_for w c)) (text_for w c)

-- the answer, or the refusal if there is one
abbrev pub answer_unless : Option Refusal → Answer → Answer
answer_unless None done = done
answer_unless (Some refusal) done = of_reply (replies.No refusal)

-- the later world, or the earlier one if there is a refusal
abbrev pub unless_refused : Option Refusal → World → World → World
unless_refused None before later = later
unless_refused (Some refusal) before later = before

-- the answer to a line, given its command; a line that is no command is bad
abbrev pub answer_by : World → Option Command → Answer
answer_by w None = of_reply (replies.No refusals.Bad)
answer_by w (Some c) = answer_unless (refusal_of w c) (answer w c)

-- the world that a line gives, given its command, besides the shelf
abbrev pub world_by : World → Option Command → World
world_by w None = w
world_by w (Some c) = unless_refused (refusal_of w c) w (after w c)

-- the answer to a line
abbrev pub step_answer : World → List ℕ → Answer
step_answer w line = answer_by w (command_of line)

-- the world that a line gives, besides the shelf
abbrev pub step_world : World → List ℕ → World
step_world w line = world_by w (command_of line)
