-- What a line changes in an active transaction, what stays while the transaction keeps running, why an object is not
-- made in it, and what making an object leaves.
use Rattle.std.specs.Prelude.{◌≡◌, ℕ, Bool, ◌+◌, ◌<◌, ◌≤◌, true, false, nat_le, nat_lt, cond, List, length, set, Option, Some, None, is_none, unwrap_or}
use Rattle.pm_model.specs.declared.host.HostFault.{HostFault}
use Rattle.pm_model.specs.Moments.{State}
use Rattle.pud_defs.specs.declared.layout.TheConstants.{LOG_ENTRY_WORDS, MAX_FIELDS, SET_UNITS, NUMBER_LIMIT, NEXT_NUMBER_WORD}
use Rattle.pud_defs.specs.declared.machine.Command.{Command}
use Rattle.pud_defs.specs.declared.machine.Command.TheVariants as commands
use Rattle.pud_defs.specs.declared.machine.Refusal.{Refusal}
use Rattle.pud_defs.specs.declared.machine.Refusal.TheVariants as refusals
use Rattle.pud_defs.specs.declared.objects.FieldValue.{FieldValue}
use Rattle.pud_defs.specs.declared.objects.FieldValue.TheVariants.{Ref}
use Rattle.pud_defs.specs.declared.records.Puddle.{Puddle}
use Rattle.pud_defs.specs.declared.records.Slot.{Slot}
use Rattle.pud_defs.specs.declared.space.TheConstants.{SLOT_FIELDS_WORD}
use Rattle.pud_defs.specs.Formats.Geometry.{class_slot_words, class_for, new_units}
use Rattle.pud_defs.specs.PoolGraphs.Graph.{Graph, graph_of, field_count, object_in}
use Rattle.pud_defs.specs.PoolGraphs.Stored.{stored_in, place_serial}
use Rattle.pud_defs.specs.PoolGraphs.GraphChanges.{with_field, with_root, without_object, with_new}
use Rattle.pud_defs.specs.Formats.Image.{Image}
use Rattle.pud_defs.specs.PoolGraphs.DeferredValues.{deferred_set_names}
use Rattle.pud_defs.specs.StateMachine.PoolChanges.{pool_named, with_grown_pool}
use Rattle.pud_defs.specs.StateMachine.Step.{refusal_of, graph_seen, next_in, class_made, object_made}
use Rattle.pud_defs.specs.RegistryTables.Tables.{tables_of}
use Rattle.pud_defs.specs.StateMachine.Transactions.{with_changed, charged, deferring}
use Rattle.pud_defs.specs.RegistryTables.Types.{map_of, types_of}
use Rattle.pud_defs.specs.StateMachine.World.{Transaction, World, open_on}
use Rattle.registry.specs.declared.adding.NewPuddle.{NewPuddle}
use Rattle.registry.specs.Growth.{grow_refusal, IsGrowthFor}
use Rattle.puddle_header.specs.Places.{place_of_slot, places_in, IsSlotOf}
use Rattle.graph_read.specs.declared.fields.FieldRead.{FieldRead}
use Rattle.graph_read.specs.declared.fields.FieldRead.TheVariants.{NoObject, NoField, Value}
use Rattle.graph_read.specs.Reading.{place_in_pool, read_by}
use Rattle.lazy_rewrite.specs.Frontiers.{finished_at, frontiers_of}
use Rattle.lazy_rewrite.specs.Batches.{Rewrites}
use Rattle.hybrid_tx.specs.Objects.Stores.{word_for, IsPlaceAndWord}
use Rattle.hybrid_tx.specs.Objects.Transactions.{MayName, MaySet, MayFree, MakesIn}
use Rattle.pool_transaction.specs.declared.changing.Change.{Change}
use Rattle.pool_transaction.specs.declared.changing.Change.TheVariants as changes
use Rattle.pool_transaction.specs.declared.changing.Update.{Update}
use Rattle.pool_transaction.specs.declared.changing.Update.TheVariants.{Set, Later, Root, Free}
use Rattle.pool_transaction.specs.declared.changing.FoundUpdate.{FoundUpdate}
use Rattle.pool_transaction.specs.declared.changing.FoundUpdate.TheVariants as founds
use Rattle.graph_read.specs.declared.index.Index.{Index}
use Rattle.known_pool.specs.Known.{Known, by_puddles, index_entries}
use Rattle.known_pool.specs.Indexes.{Follows, FollowsPlaces, same_place, without_place, after_move, Releases}
use Rattle.known_pool.specs.Searches.{full_after_freed}
use Rattle.daemon_memory.specs.PoolKnowledge.{known_pool_in}
use Rattle.daemon_memory.specs.Memory.{ActiveTransaction, Memory, active_under}
use Rattle.daemon_memory.specs.Ready.{IsReady}
use Rattle.daemon_memory.specs.Sequences.{Then}

-- ---- the active transaction

-- The daemon's memory is for a device with F frames. In it the transaction is active under its log number, and this is
-- what the daemon knows about its pool.
pub record IsActiveWith (F : ℕ) (active : ActiveTransaction) (kept : Known) (memory : Memory) : Type 0 where
  pub frames : memory.frames ≡ F
  pub there : active_under memory.active active.log_number ≡ Some active
  pub known : known_pool_in memory.known_pools active.slot ≡ Some kept

-- The daemon is ready on a device with this many frames and words. The transaction is active under its log number, and
-- this is what the daemon knows about its pool.
pub record RunsWith (F words : ℕ) (active : ActiveTransaction) (known : Known) (size : ℕ) (w : World) (memory : Memory) (s : State) : Type 0 where
  pub words_are : size ≡ words
  pub its : IsActiveWith F active known memory
  pub ready : IsReady size w memory s

-- The memory in which this transaction is active under the log number, and in which this is known about the pool in the
-- slot.
abbrev pub with_known : (number slot : ℕ) → ActiveTransaction → Known → Memory → Memory
with_known number slot active known memory = record memory { active = set memory.active number (Some active); known_pools = set memory.known_pools slot (Some known) }

-- ---- a line that takes three units

-- The line by which a client asks for the update on the pool with the name.
abbrev pub command_of_update : Update → (client : ℕ) → List ℕ → Command
command_of_update (Set s f x) client name = commands.Set client name s f x
command_of_update (Later s f x) client name = commands.Later client name s f x
command_of_update (Root s) client name = commands.Root client name s
command_of_update (Free s) client name = commands.Free client name s

-- The field is one that an object may have, and the serial of an object that is freed is not 0.
abbrev pub IsLegalUpdate : Update → Type 0
IsLegalUpdate (Set s f x) = f < MAX_FIELDS
IsLegalUpdate (Later s f x) = f < MAX_FIELDS
IsLegalUpdate (Root s) = Unit {0}
IsLegalUpdate (Free s) = 1 ≤ s

-- The line by which a client asks for the change: it makes an object, or updates an object or the root.
abbrev pub command_of_change : Change → (client : ℕ) → List ℕ → Command
command_of_change (changes.New t) client name = commands.New client name t
command_of_change (changes.Update update) client name = command_of_update update client name

abbrev pub IsLegalChange : Change → Type 0
IsLegalChange (changes.New t) = Unit {0}
IsLegalChange (changes.Update update) = IsLegalUpdate update

-- The transaction with the update.
abbrev pub changed_by : Update → Transaction → Transaction
changed_by (Set s f x) = charged SET_UNITS (with_field s f x)
changed_by (Later s f x) = deferring SET_UNITS (record { s = s; f = f; x = x })
changed_by (Root s) = charged SET_UNITS (with_root s)
changed_by (Free s) = charged SET_UNITS (without_object s)

-- The transaction's graph and its deferred set allow the update.
abbrev pub MayChange : List (ℕ × ℕ) → Transaction → Update → Type 0
MayChange types t (Set s f x) = MaySet types t.now s f x
MayChange types t (Later s f x) = MaySet types t.now s f x
MayChange types t (Root s) = MayName t.now s
MayChange types t (Free s) = MayFree t.now s × (deferred_set_names s t.deferred ≡ false)

-- ---- what was found for an update

-- The update of a field, at once or at the commit.
abbrev pub field_change : (later : Bool) → (s f : ℕ) → FieldValue → Update
field_change later s f x = cond later (Later s f x) (Set s f x)

-- The update sets a field, or defers its value. By this image of the pool the slot is that of the field's object, and
-- the word stands for the value.
pub record IsFieldFound (F : ℕ) (at : List (ℕ × Puddle)) (image : Image) (change : Update) (slot : Slot) (f word : ℕ) (later : Bool) : Type 0 where
  pub s : ℕ
  pub x : FieldValue
  pub is : change ≡ field_change later s f x
  pub found : IsPlaceAndWord F at image s x (slot, word)

-- The update sets the root. The word stands for a pointer to it.
pub record IsRootFound (F : ℕ) (at : List (ℕ × Puddle)) (image : Image) (change : Update) (word : ℕ) : Type 0 where
  pub s : ℕ
  pub is : change ≡ Root s
  pub found : word_for F at image (Ref s) ≡ Some word

-- The update frees an object. The slot is the object's slot.
pub record IsObjectFound (F : ℕ) (at : List (ℕ × Puddle)) (image : Image) (change : Update) (slot : Slot) : Type 0 where
  pub s : ℕ
  pub is : change ≡ Free s
  pub found : place_in_pool F at image s ≡ Some (place_of_slot slot)

-- What was found is true of the update, by this image of the pool.
abbrev pub IsFoundBy : ℕ → List (ℕ × Puddle) → Image → Update → FoundUpdate → Type 0
IsFoundBy F at image change (founds.Field slot f word read x later) = IsFieldFound F at image change slot f word later
IsFoundBy F at image change (founds.Root word was s) = IsRootFound F at image change word
IsFoundBy F at image change (founds.Object slot s) = IsObjectFound F at image change slot

-- The ordinal of the puddle that the found update writes.
abbrev pub ordinal_written : FoundUpdate → ℕ
ordinal_written (founds.Field slot f word read x later) = slot.ordinal
ordinal_written (founds.Root word was s) = 0
ordinal_written (founds.Object slot s) = slot.ordinal

-- The slot is one of these puddles' slots, and it has a word for the field.
abbrev pub IsFoundWithin : List (ℕ × Puddle) → FoundUpdate → Type 0
IsFoundWithin at (founds.Field slot f word read x later) = IsSlotOf at slot × (SLOT_FIELDS_WORD + f < class_slot_words slot.class)
IsFoundWithin at (founds.Root word was s) = Unit {0}
IsFoundWithin at (founds.Object slot s) = IsSlotOf at slot

-- This was read of the field that is set, or whose value is deferred. It is what the graph has for the field.
pub record IsFieldRead (g : Graph) (change : Update) (f : ℕ) (read : FieldRead) (x : FieldValue) (later : Bool) : Type 0 where
  pub s : ℕ
  pub is : change ≡ field_change later s f x
  pub holds : read ≡ read_by (object_in s g) f

-- The root of the graph was this one, and the update makes the object with that serial the root.
pub record IsRootRead (g : Graph) (change : Update) (was s : ℕ) : Type 0 where
  pub is : change ≡ Root s
  pub holds : was ≡ g.root

-- What was read for the found update is what the graph has.
abbrev pub IsReadOf : Graph → Update → FoundUpdate → Type 0
IsReadOf g change (founds.Field slot f word read x later) = IsFieldRead g change f read x later
IsReadOf g change (founds.Root word was s) = IsRootRead g change was s
IsReadOf g change (founds.Object slot s) = change ≡ Free s

-- This was found for an update that is not refused, on the pool about which the daemon knows this. It agrees with the
-- stored graph, which the client sees.
pub record IsUpdate (F : ℕ) (active : ActiveTransaction) (known : Known) (w : World) (image : Image) (update : Update) (found : FoundUpdate) : Type 0 where
  pub free : refusal_of w (command_of_update update active.client active.name) ≡ None
  pub within : IsFoundWithin known.puddles found
  pub by : IsFoundBy F known.puddles image update found
  pub g : Graph
  pub stored : graph_of (types_of image) (stored_in F known.puddles image) ≡ Some g
  pub read : IsReadOf g update found

-- ---- what the daemon knows about the pool

-- The slot is free afterwards, and each other slot has the serial that it had.
pub record FreesSlot (F : ℕ) (at : List (ℕ × Puddle)) (slot : Slot) (before after : Image) : Type 0 where
  pub free : place_serial (stored_in F at after) (place_of_slot slot) ≡ 0
  pub others : (p : ℕ) → (p ≡ place_of_slot slot → ⊥) → place_serial (stored_in F at after) p ≡ place_serial (stored_in F at before) p

-- Each slot of the pool has the serial that it had.
abbrev pub SparesEach : (F : ℕ) → List (ℕ × Puddle) → (before after : Image) → Type 0
SparesEach F at before after = (p : ℕ) → p < places_in at → place_serial (stored_in F at after) p ≡ place_serial (stored_in F at before) p

-- Each slot has the serial that it had, but the slot of an object that is freed is free.
abbrev pub SparesSerials : (F : ℕ) → List (ℕ × Puddle) → FoundUpdate → (before after : Image) → Type 0
SparesSerials F at (founds.Field slot f word read x later) before after = SparesEach F at before after
SparesSerials F at (founds.Root word was s) before after = SparesEach F at before after
SparesSerials F at (founds.Object slot s) before after = FreesSlot F at slot before after

-- What the daemon knows follows a field that had the value `was` and now has the value `now`.
pub record FollowsMove (was now : FieldValue) (old new : Known) : Type 0 where
  pub puddles : new.puddles ≡ old.puddles
  pub index : Follows (after_move was now) old.index new.index
  pub placed : FollowsPlaces same_place old.placed new.placed
  pub full : new.full_below ≡ old.full_below

-- It follows a field of which this was read. If no value was read, only the puddles are left.
abbrev pub FollowsValue : FieldRead → FieldValue → (old new : Known) → Type 0
FollowsValue NoObject x old new = new ≡ by_puddles old.puddles
FollowsValue NoField x old new = new ≡ by_puddles old.puddles
FollowsValue (Value was) x old new = FollowsMove was x old new

-- It follows a field that is set. If the field's value is deferred, it stays the same.
abbrev pub FollowsField : (later : Bool) → FieldRead → FieldValue → (old new : Known) → Type 0
FollowsField true read x old new = new ≡ old
FollowsField false read x old new = FollowsValue read x old new

-- The object with this serial in the slot is freed, in the pool with these puddles. The index, if there still is one,
-- releases what the object names in the graph, and then the object itself.
pub record FollowsFree (F : ℕ) (at : List (ℕ × Puddle)) (image : Image) (g : Graph) (slot : Slot) (s : ℕ) (old new : Known) : Type 0 where
  pub puddles : new.puddles ≡ old.puddles
  pub index : (x : Index) → new.index ≡ Some (index_entries x) → Releases (place_in_pool F at image) g s x
  pub placed : FollowsPlaces (without_place s) old.placed new.placed
  pub full : new.full_below ≡ full_after_freed slot old.full_below

-- What the daemon knows follows the found update, by the image and the graph of the pool before.
abbrev pub FollowsUpdate : (F : ℕ) → List (ℕ × Puddle) → Image → Graph → FoundUpdate → (old new : Known) → Type 0
FollowsUpdate F at image g (founds.Field slot f word read x later) old new = FollowsField later read x old new
FollowsUpdate F at image g (founds.Root word was s) old new = FollowsMove (Ref was) (Ref s) old new
FollowsUpdate F at image g (founds.Object slot s) old new = FollowsFree F at image g slot s old new

-- ---- a transaction keeps running

-- The transaction still belongs to the same client, is on the pool with the same name in the same slot, and has the
-- same log.
pub record StaysOpen (old new : ActiveTransaction) : Type 0 where
  pub client : new.client ≡ old.client
  pub name : new.name ≡ old.name
  pub slot : new.slot ≡ old.slot
  pub number : new.log_number ≡ old.log_number
  pub gate : new.tx.log.gate_at ≡ old.tx.log.gate_at

-- ---- an object is made

-- The class of the puddles in which an object is made whose type has this map, if the type is defined.
abbrev pub class_by_map : Option ℕ → ℕ
class_by_map map = class_for (field_count (unwrap_or map 0))

-- Why no object is made, whatever slots are free: by the map of its type, the units that are used, and the next
-- serial.
abbrev pub refusal_to_make : (map : Option ℕ) → (units next : ℕ) → Option Refusal
refusal_to_make map units next =
    cond (is_none map) (Some refusals.NoType) (cond (nat_lt LOG_ENTRY_WORDS (units + new_units (class_by_map map))) (Some refusals.TooBig) (cond (nat_le NUMBER_LIMIT next) (Some refusals.Full) None))

-- Why the pool with these puddles does not grow for the object, by the words of an image with F frames.
abbrev pub refusal_by_tables : ℕ → List (ℕ × Puddle) → Image → Option Refusal
refusal_by_tables F at image = grow_refusal (tables_of F image) (image NEXT_NUMBER_WORD) (length at)

-- The puddle is the one by which the pool in the slot grows, by these words, and it is of this class.
pub record GrowsBy (F slot class : ℕ) (at : List (ℕ × Puddle)) (image : Image) (a : NewPuddle) : Type 0 where
  pub growth : IsGrowthFor (tables_of F image) (image NEXT_NUMBER_WORD) slot (length at) a
  pub of_class : a.puddle.class ≡ class

-- Why no object of this type is made, whatever slots are free, by the world.
abbrev pub refusal_by_world : World → ActiveTransaction → ℕ → Option Refusal
refusal_by_world w active id = refusal_to_make (map_of id w.stored.types) active.tx.units (next_in (graph_seen (open_on active.name w) (pool_named active.name w.stored)))

-- The serial is the next one of the transaction's pool.
abbrev pub IsNextSerial : World → ActiveTransaction → (serial : ℕ) → Type 0
IsNextSerial w active serial = serial ≡ next_in (graph_seen (open_on active.name w) (pool_named active.name w.stored))

-- An object of this type is not refused, whatever slots are free. It is made in a puddle of this class, and it gets
-- this serial.
pub record MayMakeObject (w : World) (active : ActiveTransaction) (id class serial : ℕ) : Type 0 where
  pub free : refusal_by_world w active id ≡ None
  pub of_class : class ≡ class_made w.stored.types id
  pub next : IsNextSerial w active serial

-- The world with one more puddle, which is of this class, in the pool with the name.
abbrev pub with_puddle_added : List ℕ → (class : ℕ) → World → World
with_puddle_added name class w = record w { stored = with_grown_pool name class w.stored }

-- The world with one more object of this type in the transaction on the pool with the name.
abbrev pub with_made : List ℕ → ℕ → World → World
with_made name id w = record w { transactions = with_changed name (charged (new_units (class_made w.stored.types id)) (with_new (object_made w id))) w.transactions }

-- The pool after the two puddles that a new object writes are rewritten to their ends: the first puddle, and the puddle
-- with this ordinal, in which the object is made.
abbrev pub both_finished : (ordinal : ℕ) → List (ℕ × Puddle) → List (ℕ × Puddle)
both_finished ordinal at = finished_at ordinal (finished_at 0 at)

-- The two puddles that a new object writes are rewritten to their ends, or that failed. The object is made in the
-- puddle with this ordinal.
pub record FinishesBoth (F o : ℕ) (at later : List (ℕ × Puddle)) (fault : Option HostFault) (old new : State) : Type 0 where
  pub rewrites : Rewrites F (frontiers_of (both_finished o at)) at later fault old new
  pub whole : fault ≡ None → later ≡ both_finished o at

-- Both puddles are rewritten to their ends, and then the object is made in the slot, on the pool as it is then.
abbrev pub MakesAfter : (F : ℕ) → (at later : List (ℕ × Puddle)) → (gate : ℕ) → Slot → (id : ℕ) → Option HostFault → State → State → Type 0
MakesAfter F at later gate slot id fault old new = Then (FinishesBoth F slot.ordinal at later) (MakesIn F later gate slot id) fault old new
