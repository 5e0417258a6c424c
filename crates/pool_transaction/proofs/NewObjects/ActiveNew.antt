-- The line that makes an object in an active transaction: why it is refused, by what is read, and the world that it gives.
use Rattle.std.proofs.Common.{◌≡◌, inl, inr, ℕ, ◌+◌, ◌*◌, Bool, true, false, not, ◌&&◌, ◌||◌, leb, ltb, ◌==◌, cond, List, [], ◌∷◌, ◌++◌, length, Option, Some, None, is_none, sum_by, refl, sym, ap, ap₂, ◌∙◌, arith, eqb-true, eq-eqb, ne_eqb}
use Rattle.std.specs.Prelude.{count_by}
use Rattle.std.specs.Option.{option_or}
use Rattle.std.proofs.lemmas.Bool.{cases_lt, le-leb, lt-leb, lt-ltb, le-ltb}
use Rattle.std.proofs.lemmas.List.Sums.{sum_by-append}
use Rattle.pm_model.specs.Words.{reads}
use Rattle.pm_model.specs.Moments.{State}
use Rattle.pm_model.specs.Masks.{masked}
use Rattle.pud_defs.specs.declared.layout.TheConstants.{LOG_ENTRY_WORDS, NUMBER_LIMIT, NEXT_NUMBER_WORD}
use Rattle.pud_defs.specs.declared.records.TheConstants.{MAX_PUDDLES}
use Rattle.pud_defs.specs.declared.machine.Command.{Command}
use Rattle.pud_defs.specs.declared.machine.Command.TheVariants.{Commit, New}
use Rattle.pud_defs.specs.declared.machine.Reply.TheVariants as replies
use Rattle.pud_defs.specs.declared.machine.Refusal.{Refusal}
use Rattle.pud_defs.specs.declared.machine.Refusal.TheVariants as refusals
use Rattle.pud_defs.specs.Formats.Geometry.{class_slots, new_units, slots_among}
use Rattle.pud_defs.specs.PoolGraphs.Graph.{Graph, next_serial_of}
use Rattle.pud_defs.specs.PoolGraphs.Holdings.{holding_in}
use Rattle.pud_defs.specs.Formats.Image.{Image}
use Rattle.pud_defs.specs.RegistryTables.Keyed.{first_free}
use Rattle.pud_defs.specs.StateMachine.PoolChanges.{pool_named, lacks_frames, lacks_a_number, changed_pool, with_puddle_more, with_grown_pool}
use Rattle.pud_defs.specs.StateMachine.Step.{graph_seen, next_in, class_made, objects_in, is_last_serial, is_all_live, has_all_puddles, grows, refusal_of, answer, answer_by, after, world_by, object_made}
use Rattle.pud_defs.specs.StateMachine.Step.Answer.{of_reply}
use Rattle.pud_defs.specs.PoolGraphs.Stored.{stored_in}
use Rattle.pud_defs.specs.RegistryTables.Tables.{Tables, Pool, Reader, tables_of}
use Rattle.pud_defs.specs.StateMachine.Transactions.{units_of, with_changed, charged}
use Rattle.pud_defs.specs.declared.records.Puddle.{Puddle}
use Rattle.pud_defs.specs.PoolGraphs.GraphChanges.{with_new}
use Rattle.pud_defs.specs.RegistryTables.Types.{map_of, types_of}
use Rattle.pud_defs.specs.StateMachine.World.{Transaction, World, open_on}
use Rattle.pud_defs.proofs.PoolGraphs.Graphs.{graph_of-each}
use Rattle.pud_defs.proofs.StateMachine.PoolRefusals.{space_by_table}
use Rattle.pud_defs.proofs.StateMachine.Steps.{done_answer, done_world}
use Rattle.pud_defs.proofs.RegistryTables.TablesOf.{pools_beyond, frames_of_tables}
use Rattle.registry.specs.Growth.{has_room_to_grow}
use Rattle.hybrid_tx.specs.Objects.Transactions.{OpenTx}
use Rattle.daemon_memory.specs.Memory.{ActiveTransaction, Memory, active_under}
use Rattle.daemon_memory.specs.ActiveTransactions.{IsActive}
use Rattle.pool_transaction.specs.Changing.{refusal_to_make, refusal_by_tables, refusal_by_world, IsNextSerial, with_puddle_added, with_made}
use Rattle.daemon_memory.specs.Ready.{IsReady}
use Rattle.daemon_memory.proofs.PoolChanges.TablesBeside.{header_read, types_read, pools_read, sound_read}
use Rattle.pool_transaction.proofs.Updates.TransactionRefusals.{its_making, refusal_of-new}
use Rattle.daemon_memory.proofs.PoolsFound.OwnRefusals.{own_is_open}
use Rattle.pool_transaction.proofs.Lifetimes.ActiveRuns.{is_active}
use Rattle.pool_transaction.proofs.NewObjects.ActivePools.{HasPool, its_pool, grows_by, puddles_counted}
use Rattle.pool_transaction.proofs.NewObjects.ActiveGrows.{found_more}
use Rattle.pool_transaction.proofs.NewObjects.ActiveMakes.{next_serial}
use Rattle.pool_transaction.proofs.SlotClasses.{some_slots}

-- ---- numbers

times_next : (a b : ℕ) → a * (b + 1) ≡ a * b + a
times_next a b = grind arith

-- A pool has all its puddles, or no UUID number is left, exactly if it has no room to grow.
all_or_room : (puddles number : ℕ) → (leb MAX_PUDDLES puddles || lacks_a_number number) ≡ not (has_room_to_grow puddles number)
all_or_room puddles number = elim (cases_lt puddles MAX_PUDDLES) [
  | inl below ↦ elim (cases_lt number NUMBER_LIMIT) [
    | inl left ↦
        ap₂ (λ a b. a || b) (lt-leb MAX_PUDDLES puddles below) (le-ltb NUMBER_LIMIT (number + 1) (omega arith))
        ∙ sym (ap₂ (λ a b. not (a && b)) (lt-ltb puddles MAX_PUDDLES below) (lt-ltb number NUMBER_LIMIT left))
    | inr out ↦
        ap₂ (λ a b. a || b) (lt-leb MAX_PUDDLES puddles below) (lt-ltb NUMBER_LIMIT (number + 1) (omega arith))
        ∙ sym (ap₂ (λ a b. not (a && b)) (lt-ltb puddles MAX_PUDDLES below) (le-ltb number NUMBER_LIMIT out))
  ]
  | inr many ↦
      ap (λ a. a || lacks_a_number number) (le-leb MAX_PUDDLES puddles many)
      ∙ sym (ap (λ a. not (a && ltb number NUMBER_LIMIT)) (le-ltb puddles MAX_PUDDLES many))
]

-- One more puddle of a class has more slots of it.
slots_more : (class : ℕ) (classes : List ℕ) (n : ℕ) → n ≡ slots_among class classes → n ≡ slots_among class (classes ++ class ∷ []) → ⊥
slots_more class classes n is more =
    let some = some_slots class in
    let count = count_by (λ (c : ℕ). c == class) classes in
    let one : count_by (λ (c : ℕ). c == class) (class ∷ []) ≡ 1 = ap (λ (b : Bool). 0 + cond {A = ℕ} b 1 0) (eq-eqb class class refl) in
    let longer : count_by (λ (c : ℕ). c == class) (classes ++ class ∷ []) ≡ count + 1 = sum_by-append (λ (c : ℕ). cond (c == class) 1 0) classes (class ∷ []) ∙ ap (λ (k : ℕ). count + k) one in
    let whole : slots_among class (classes ++ class ∷ []) ≡ class_slots class * count + class_slots class = ap (λ (k : ℕ). class_slots class * k) longer ∙ times_next (class_slots class) count in
    absurd (omega (arith, is, more, whole, some))

-- ---- the causes in order

joined : (type big serial all out lacks grow room none : Bool) → (all || out) ≡ not room → lacks ≡ none
    → cond type (Some refusals.NoType) (cond big (Some refusals.TooBig) (cond (serial || (grow && (all || out))) (Some refusals.Full) (cond (grow && lacks) (Some refusals.Space) None)))
    ≡ option_or (cond type (Some refusals.NoType) (cond big (Some refusals.TooBig) (cond serial (Some refusals.Full) None))) (cond grow (cond (not room) (Some refusals.Full) (cond none (Some refusals.Space) None)) None)
joined true big serial all out lacks grow room none full frames = refl
joined false true serial all out lacks grow room none full frames = refl
joined false false true all out lacks grow room none full frames = refl
joined false false false all out lacks false room none full frames = refl
joined false false false all out lacks true room none full frames =
    ap₂ (λ (full : Bool) (space : Bool). cond full (Some refusals.Full) (cond space (Some refusals.Space) None)) full frames

-- ---- a ready daemon with the transaction active

module _ (size : ℕ) (w : World) (memory : Memory) (active : ActiveTransaction) (s : State) (number : ℕ) (there : active_under memory.active number ≡ Some active) (ready : IsReady size w memory s) (id : ℕ) where
  abbrev F : ℕ
  F = w.stored.frames

  abbrev is : IsActive w active ready.mask s.now.words
  is = is_active size w memory active s number there ready

  abbrev image : Image
  image = reads s.now.words

  abbrev t : Tables
  t = tables_of F image

  abbrev line : Command
  line = New active.client active.name id

  -- The class in which the object is made.
  abbrev class : ℕ
  class = class_made w.stored.types id

  abbrev hold : Reader
  hold = holding_in w.stored.types F (reads (masked ready.mask s.now.words))

  frames_lack : lacks_frames w.stored 1 ≡ is_none (first_free t.puddles 0 t.frames)
  frames_lack =
      ap₂ (λ n ps. ltb n (sum_by (λ (e : List ℕ × Pool). length e.1.classes) ps + 1)) (sym (frames_of_tables F image)) (sym (pools_read size w memory s ready))
      ∙ sym (space_by_table hold w.stored.next_number t (sound_read size w memory s ready) (record { beyond = λ slot beyond. pools_beyond F image slot beyond }))

  -- The client's own transaction is open.
  own : refusal_of w (Commit active.client active.name) ≡ None
  own = own_is_open w memory.active ready.mask s.now.words active.client active.name number ready.active (record { active = active; is = there; whose = refl; pool = refl })

  opened : open_on active.name w ≡ Some is.own.transaction
  opened = is.own.is

  abbrev objects : ℕ
  objects = objects_in class is.own.transaction.now

  abbrev its : HasPool (pool_named active.name w.stored) is.graph_before
  its = its_pool size w memory active s number there ready

  all_by : grows w active.name class ≡ true → objects ≡ slots_among class its.pool.classes
  all_by more = eqb-true objects (slots_among class its.pool.classes) (sym (grows_by size w memory active s number there ready class) ∙ more)

  -- The pool has all its puddles, by the world, exactly if it has them by what is read.
  all_read : has_all_puddles (pool_named active.name w.stored) ≡ leb MAX_PUDDLES (length is.puddles)
  all_read = ap has_all_puddles its.there ∙ ap (leb MAX_PUDDLES) (puddles_counted size w memory active s number there ready)

  full_read : (has_all_puddles (pool_named active.name w.stored) || lacks_a_number w.stored.next_number) ≡ not (has_room_to_grow (length is.puddles) (image NEXT_NUMBER_WORD))
  full_read =
      ap (λ (all : Bool). all || lacks_a_number w.stored.next_number) all_read
      ∙ all_or_room (length is.puddles) w.stored.next_number
      ∙ ap (λ (n : ℕ). not (has_room_to_grow (length is.puddles) n)) (sym (header_read size w memory s ready).next_number)

  -- Its refusals are first those that do not depend on the slots. After them come, if each slot of the class is live,
  -- those of one more puddle.
  pub refusal_new : refusal_of w line ≡ option_or (refusal_by_world w active id) (cond (grows w active.name class) (refusal_by_tables F is.puddles image) None)
  refusal_new =
      let units : units_of (open_on active.name w) ≡ active.tx.units = ap units_of opened ∙ is.own.units in
      let last : is_last_serial (graph_seen (open_on active.name w) (pool_named active.name w.stored)) ≡ leb NUMBER_LIMIT is.own.transaction.now.next_serial =
      ap (λ (o : Option Transaction). is_last_serial (graph_seen o (pool_named active.name w.stored))) opened in
      let next = next_serial size w memory active s number there ready in
      let all = has_all_puddles (pool_named active.name w.stored) in
      refusal_of-new w active.client active.name id
      ∙ ap (λ (first : Option Refusal). option_or first (its_making w active.client active.name id)) own
      ∙ (λ p. cond (is_none (map_of id w.stored.types)) (Some refusals.NoType) (cond (ltb LOG_ENTRY_WORDS (units p + new_units class)) (Some refusals.TooBig)
      (cond (last p || (grows w active.name class && (all || lacks_a_number w.stored.next_number))) (Some refusals.Full) (cond (grows w active.name class && lacks_frames w.stored 1) (Some refusals.Space) None))))
      ∙ joined (is_none (map_of id w.stored.types)) (ltb LOG_ENTRY_WORDS (active.tx.units + new_units class)) (leb NUMBER_LIMIT is.own.transaction.now.next_serial) all (lacks_a_number w.stored.next_number) (lacks_frames w.stored 1)
      (grows w active.name class) (has_room_to_grow (length is.puddles) (image NEXT_NUMBER_WORD)) (is_none (first_free t.puddles 0 t.frames)) full_read frames_lack
      ∙ ap (λ (n : ℕ). option_or (refusal_to_make (map_of id w.stored.types) active.tx.units n) (cond (grows w active.name class) (refusal_by_tables F is.puddles image) None)) (sym next)

  -- The next serial is the one that is read.
  pub serial_read : (n : ℕ) → n ≡ F → (at : List (ℕ × Puddle)) → at ≡ is.puddles → (serial : ℕ) → serial ≡ next_serial_of (stored_in n at image) → IsNextSerial w active serial
  serial_read n same at listed serial read =
      let has = graph_of-each w.stored.types (stored_in F is.puddles image) is.own.transaction.now is.running.is in
      read ∙ (λ i. next_serial_of (stored_in (same i) (listed i) image)) ∙ ap (λ (g : Graph). g.next_serial) has.is ∙ sym (next_serial size w memory active s number there ready)

  -- The class of the type is the one that is read.
  pub class_read : class_made (types_of image) id ≡ class
  class_read = ap (λ (ts : List (ℕ × ℕ)). class_made ts id) (types_read size w memory s ready).types

  -- What is read gives the refusals that do not depend on the slots.
  refusal_read : (n : ℕ) → n ≡ F → refusal_to_make (map_of id (types_of image)) active.tx.units (next_serial_of (stored_in n is.puddles image)) ≡ refusal_by_world w active id
  refusal_read n same =
      let types : types_of image ≡ w.stored.types = (types_read size w memory s ready).types in
      ap₂ (λ (ts : List (ℕ × ℕ)) (v : ℕ). refusal_to_make (map_of id ts) active.tx.units v) types (serial_read n same is.puddles refl _ refl)

  pub refusal_found : (n : ℕ) → n ≡ F → (at : List (ℕ × Puddle)) → at ≡ is.puddles → (found refused : Option Refusal)
      → found ≡ refusal_to_make (map_of id (types_of image)) active.tx.units (next_serial_of (stored_in n at image)) → found ≡ refused → refusal_by_world w active id ≡ refused
  refusal_found n same at listed found refused read so =
      sym (refusal_read n same) ∙ ap (λ (ps : List (ℕ × Puddle)). refusal_to_make (map_of id (types_of image)) active.tx.units (next_serial_of (stored_in n ps image))) (sym listed) ∙ sym read ∙ so

  -- ---- what the line gives

  pub refused_whatever : (r : Refusal) → refusal_by_world w active id ≡ Some r → refusal_of w line ≡ Some r
  refused_whatever r refused = refusal_new ∙ ap (λ (o : Option Refusal). option_or o (cond (grows w active.name class) (refusal_by_tables F is.puddles image) None)) refused

  module _ (none : refusal_by_world w active id ≡ None) where
    after_it : refusal_of w line ≡ cond (grows w active.name class) (refusal_by_tables F is.puddles image) None
    after_it = refusal_new ∙ ap (λ (o : Option Refusal). option_or o (cond (grows w active.name class) (refusal_by_tables F is.puddles image) None)) none

    pub refused_less : grows w active.name class ≡ false → refusal_of w line ≡ None
    refused_less less = after_it ∙ ap (λ (b : Bool). cond b (refusal_by_tables F is.puddles image) None) less

    pub refused_more : grows w active.name class ≡ true → refusal_of w line ≡ refusal_by_tables F is.puddles image
    refused_more more = after_it ∙ ap (λ (b : Bool). cond b (refusal_by_tables F is.puddles image) None) more

  -- The reply is the serial.
  pub answer_new : refusal_of w line ≡ None → answer_by w (Some line) ≡ of_reply (replies.Ref (next_in (graph_seen (open_on active.name w) (pool_named active.name w.stored))))
  unfolding answer
  answer_new none = done_answer w line none

  -- The world that the line gives, if the pool does not grow and if it does.
  abbrev given : Bool → World
  given more = record w {
    stored = record w.stored {
      next_number = cond more (w.stored.next_number + 1) w.stored.next_number;
      pools = cond more (changed_pool active.name (with_puddle_more class) w.stored.pools) w.stored.pools;
    };
    transactions = with_changed active.name (charged (new_units class) (with_new (object_made w id))) w.transactions;
  }

  pub world_less : refusal_of w line ≡ None → grows w active.name class ≡ false → world_by w (Some line) ≡ with_made active.name id w
  unfolding after
  world_less none less = done_world w line none ∙ ap given less

  pub world_more : refusal_of w line ≡ None → grows w active.name class ≡ true → world_by w (Some line) ≡ with_made active.name id (with_puddle_added active.name class w)
  unfolding after with_grown_pool
  world_more none more = done_world w line none ∙ ap given more

  -- ---- the pool grew

  -- The grown pool has a free slot of the class.
  pub grown_less : grows w active.name class ≡ true → grows (with_puddle_added active.name class w) active.name class ≡ false
  grown_less more =
      ap₂ (λ (o : Option Transaction) (found : Option Pool). is_all_live class (graph_seen o found) found) opened (found_more active.name class w.stored its.pool its.there)
      ∙ ne_eqb objects (slots_among class (its.pool.classes ++ class ∷ [])) (slots_more class its.pool.classes objects (all_by more))

  -- The grown pool gives the same refusals, as far as they do not depend on the slots.
  pub grown_refusal : (n : ℕ) (now : ActiveTransaction) → now.name ≡ active.name → now.tx ≡ active.tx → refusal_by_world w active id ≡ None → refusal_by_world (with_puddle_added active.name n w) now id ≡ None
  unfolding with_grown_pool
  grown_refusal n now name tx none =
      ap₂ (λ (name : List ℕ) (x : OpenTx). refusal_to_make (map_of id w.stored.types) x.units (next_in (graph_seen (open_on name w) (pool_named name (with_grown_pool active.name n w.stored))))) name tx
      ∙ ap (λ (o : Option Transaction). refusal_to_make (map_of id w.stored.types) active.tx.units (next_in (graph_seen o (pool_named active.name (with_grown_pool active.name n w.stored))))) opened
      ∙ sym (ap (λ (o : Option Transaction). refusal_to_make (map_of id w.stored.types) active.tx.units (next_in (graph_seen o (pool_named active.name w.stored)))) opened)
      ∙ none

  pub grown_next : (n : ℕ) → next_in (graph_seen (open_on active.name (with_puddle_added active.name n w)) (pool_named active.name (with_puddle_added active.name n w).stored)) ≡ next_in (graph_seen (open_on active.name w) (pool_named active.name w.stored))
  grown_next n =
      ap (λ (o : Option Transaction). next_in (graph_seen o (pool_named active.name (with_puddle_added active.name n w).stored))) opened
      ∙ sym (ap (λ (o : Option Transaction). next_in (graph_seen o (pool_named active.name w.stored))) opened)
