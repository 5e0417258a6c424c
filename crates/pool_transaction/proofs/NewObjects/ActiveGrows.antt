-- The pool on which a transaction is active grows by one puddle, and the transaction then has the puddle too. The
-- others stay.
use Rattle.std.proofs.Common.{◌≡◌, ◌≢◌, inl, inr, ℕ, ◌+◌, ◌^◌, ◌<◌, ltb, cond, List, [], ◌∷◌, ◌++◌, length, Option, Some, None, option_map, Result, Ok, Err, refl, sym, ap, ap₂, subst, ◌∙◌, arith}
use Rattle.std.specs.Prelude.{set, slice_get, IfOk}
use Rattle.std.specs.FinMap.Entries.{find, find-put}
use Rattle.std.specs.Cmp.{tied_itself}
use Rattle.std.specs.Cmp.Lexicographic.{nat_list_cmp_total}
use Rattle.std.specs.Ordering.{is_eq}
use Rattle.std.proofs.lemmas.Bool.{cases_lt, cond-true, lt-ltb}
use Rattle.std.proofs.lemmas.List.{length_push}
use Rattle.std.proofs.lemmas.Option.{none-some, same_Some, slice_get_within, slice_get-map}
use Rattle.pm_model.specs.declared.host.HostFault.{HostFault}
use Rattle.pm_model.specs.Words.{Words, reads}
use Rattle.pud_defs.specs.declared.machine.Refusal.{Refusal}
use Rattle.pm_model.specs.Moments.{State}
use Rattle.pm_model.specs.Changes.{Write, Leaves, Silently}
use Rattle.pm_model.specs.Masks.{masked, masked_state}
use Rattle.pm_model.proofs.Changes.{Changes-said}
use Rattle.pm_model.proofs.Masks.{reads-masked}
use Rattle.pm_model.proofs.Words.{Picks-reads}
use Rattle.pud_defs.specs.declared.layout.TheConstants.{DAEMON_LOG, NEXT_NUMBER_WORD}
use Rattle.pud_defs.specs.declared.records.Puddle.{Puddle}
use Rattle.pud_defs.specs.Formats.Frames.{IsFreshFrame, frame_at}
use Rattle.pud_defs.specs.PoolGraphs.Graph.{Graph, graph_of}
use Rattle.pud_defs.specs.Formats.Image.{Image}
use Rattle.pud_defs.specs.Formats.Names.{name_cmp}
use Rattle.pud_defs.specs.StateMachine.PoolChanges.{pool_named, with_puddle_more, with_grown_pool}
use Rattle.pud_defs.specs.RegistryTables.SoundTables.{HasSoundTables}
use Rattle.pud_defs.specs.RegistryTables.Spaces.{owner_of}
use Rattle.pud_defs.specs.StateMachine.Step.{graph_in}
use Rattle.pud_defs.specs.RegistryTables.Tables.{Tables, Pool, tables_of, puddles_in_turn}
use Rattle.pud_defs.specs.PoolGraphs.Stored.{Stored, stored_in, class_of, class_at, is_slot, word_in_frame, IsFreePlace}
use Rattle.pud_defs.specs.RegistryTables.Types.{map_of, types_of}
use Rattle.pud_defs.specs.StateMachine.World.{Transaction, StoredWorld, World}
use Rattle.pud_defs.proofs.RegistryTables.PoolMembers.{IsMemberOf, HasMembers, members_in_turn}
use Rattle.pud_defs.proofs.RegistryTables.PoolsChanged.{changed_here, changed_elsewhere}
use Rattle.pud_defs.proofs.RegistryTables.PoolsCounted.{length_puddles}
use Rattle.pud_defs.proofs.RegistryTables.TablesOf.{frames_of_tables}
use Rattle.pud_defs.proofs.StateMachine.IdleWorlds.{standing_beside, standing_idle}
use Rattle.pud_defs.proofs.KeyedTables.Keyed.{first_free_some}
use Rattle.pud_defs.proofs.StateMachine.Parts.{Holds-same}
use Rattle.pud_defs.proofs.StateMachine.Parts.Part.{Types}
use Rattle.graph_laws.proofs.FreshPuddles.Grown.{slice_get-front, slice_get-push}
use Rattle.batch.specs.Batches.{HasIdleGate}
use Rattle.registry.specs.declared.adding.NewPuddle.{NewPuddle}
use Rattle.registry.specs.Puts.{puts_batch}
use Rattle.registry.specs.Adding.{filling, IsFilled, PersistsThenCommits, IsOffAdding}
use Rattle.registry.specs.Pools.{KeepsTables, ChangesPools, ChangesMasked}
use Rattle.registry.specs.Growth.{puddle_count, IsGrowthFor, growing, added_puddle, GrowsAt}
use Rattle.registry.proofs.Changed.{changed_there}
use Rattle.registry.proofs.PuddlesCounted.{puddle_count_by_world}
use Rattle.registry.proofs.Moved.{ReadsWorld, reads_world}
use Rattle.registry.proofs.NewPuddles.{frontier_of_new}
use Rattle.hybrid_tx.specs.Open.ManyOpen.{OpenTransaction, Opens, with_transaction, IsOneMore}
use Rattle.hybrid_tx.proofs.Open.ManyIdle.{one_ended, one_put}
use Rattle.pud_defs.specs.declared.layout.TheConstants.{FRAME_WORDS}
use Rattle.pud_defs.specs.declared.space.TheConstants.{SLOT_SERIAL_WORD}
use Rattle.pud_defs.specs.Formats.Geometry.{class_slots, class_slot_at, steps_of, ordinal_of, slot_of}
use Rattle.pud_defs.proofs.Formats.Geometry.{slot_low, slot_end, some_words}
use Rattle.graph_laws.proofs.SameReads.StoredImages.{stored_in-same}
use Rattle.hybrid_tx.proofs.PoolScope.{pool_has_word-from}
use Rattle.graph_read.specs.Reading.{class_in}
use Rattle.pool_transaction.specs.Finishing.{IsLonger}
use Rattle.daemon_memory.proofs.PoolChanges.RestBeside.{rest_by_words, active_graph}
use Rattle.daemon_memory.specs.Memory.{ActiveTransaction, Memory, active_under}
use Rattle.daemon_memory.specs.ActiveTransactions.{open_transaction_of, IsActive, IsActiveUnder, AreActive, HasDurableFrames, ByOthers, LeavesMasked}
use Rattle.daemon_memory.specs.KnownPools.{KnowsPools}
use Rattle.pud_defs.proofs.PoolGraphs.FreshGraph.{fresh_word}
use Rattle.puddle_header.specs.Places.{places_in, IsSlotOf}
use Rattle.pud_defs.specs.declared.records.Slot.{Slot}
use Rattle.puddle_header.proofs.Placed.{class_there}
use Rattle.known_pool.specs.Known.{Known, IsKnown, with_puddles}
use Rattle.known_pool.specs.Serials.{KeepsPrefix}
use Rattle.known_pool.proofs.KnownChanged.{IsKnown-grown}
use Rattle.daemon_memory.specs.PoolKnowledge.{puddles_known}
use Rattle.pool_transaction.specs.Changing.{RunsWith, with_known, GrowsBy, with_puddle_added}
use Rattle.daemon_memory.specs.Moves.{Stays, LeavesPuddles}
use Rattle.daemon_memory.specs.Ready.{IsReady, StandsBetween, AppliesMasked, Applies}
use Rattle.daemon_memory.proofs.Commands.Beside.{KeepsOne, holds_still, durable_frames_still, moments_beside}
use Rattle.daemon_memory.proofs.Commands.Beneath.{ready_gate, keeps_tables}
use Rattle.daemon_memory.proofs.PoolChanges.PoolsBeside.{used_still}
use Rattle.daemon_memory.proofs.PoolChanges.RecordsApart.{LeavesPuddles-adds}
use Rattle.daemon_memory.proofs.PoolChanges.PoolsApart.{frame_below, found_beside_put, LeavesMasked-adds, AppliesMasked-pools}
use Rattle.daemon_memory.proofs.PoolChanges.TablesBeside.{HasDurableTables-masked, mask_beside, header_read, tables_read, types_read, under_durable}
use Rattle.pool_transaction.proofs.Lifetimes.ActiveRuns.{is_active}
use Rattle.pool_transaction.proofs.SlotClasses.{some_slots, zero_either}
use Rattle.pool_transaction.proofs.NewObjects.ActivePools.{its_pool, its_graph, count_active, puddles_counted, some_active}
use Rattle.daemon_memory.proofs.PoolChanges.AllMembers.{all_members}
use Rattle.daemon_memory.proofs.PoolChanges.GraphLonger.{graph_longer}
use Rattle.daemon_memory.proofs.PoolChanges.InTurn.{active_known, active_in_turn}
use Rattle.daemon_memory.proofs.PoolsKnown.KnownOpen.{IsShut, KnowsPools-grown}
use Rattle.daemon_memory.proofs.PoolsKnown.KnownJudged.{KeepsPools-grow, words_grow}
use Rattle.daemon_memory.proofs.PoolChanges.PoolsGrown.{off_growing, grown_read}
use Rattle.daemon_memory.proofs.PoolsKnown.KnownKept.{HasGraphIn, KeepsPools}
use Rattle.pud_defs.specs.RegistryTables.Puts.{member_by, with_puddle_at}
use Rattle.pud_defs.specs.declared.records.TheConstants.{POOL_RECORDS}
use Rattle.pool_transaction.proofs.Lifetimes.Widened.{GrowsActive, opened_more, wide, holds_more, sessions_more, settled_more, rest_more, logs_more}

-- ---- the world

pub grown_frames : (name : List ℕ) (class : ℕ) (s : StoredWorld) → (with_grown_pool name class s).frames ≡ s.frames
unfolding with_grown_pool
grown_frames name class s = refl

pub grown_types : (name : List ℕ) (class : ℕ) (s : StoredWorld) → (with_grown_pool name class s).types ≡ s.types
unfolding with_grown_pool
grown_types name class s = refl

-- In the next world the pool has one more puddle.
pub found_more : (name : List ℕ) (class : ℕ) (s : StoredWorld) (p : Pool) → pool_named name s ≡ Some p → pool_named name (with_grown_pool name class s) ≡ Some (with_puddle_more class p)
unfolding with_grown_pool
found_more name class s p there =
    ap (find name_cmp name) (changed_there name (with_puddle_more class) s.pools p there)
    ∙ find-put name_cmp nat_list_cmp_total name name (with_puddle_more class p) s.pools
    ∙ cond-true _ _ _ (ap is_eq (tied_itself nat_list_cmp_total name))

-- A pool with another name stays.
pub found_beside_more : (name other : List ℕ) (class : ℕ) (s : StoredWorld) (p : Pool) → pool_named name s ≡ Some p → other ≢ name → pool_named other (with_grown_pool name class s) ≡ pool_named other s
unfolding with_grown_pool
found_beside_more name other class s p there apart =
    ap (find name_cmp other) (changed_there name (with_puddle_more class) s.pools p there) ∙ found_beside_put name other (with_puddle_more class p) s.pools apart

-- The class of a puddle that there was, and of one that was added after the others.
class_before : (at more : List (ℕ × Puddle)) (o : ℕ) → o < length at → class_in (at ++ more) o ≡ class_in at o
class_before at more o below =
    ap class_of (slice_get-map (λ (e : ℕ × Puddle). e.1) (at ++ more) o)
    ∙ ap (λ (x : Option (ℕ × Puddle)). class_of (option_map (λ (e : ℕ × Puddle). e.1) x)) (slice_get-front at more o below)
    ∙ sym (ap class_of (slice_get-map (λ (e : ℕ × Puddle). e.1) at o))

class_added : (at : List (ℕ × Puddle)) (e : ℕ × Puddle) → class_in (at ++ e ∷ []) (length at) ≡ e.1.class
class_added at e = class_there (at ++ e ∷ []) (length at) e (slice_get-push at e)

-- The first slot of a puddle that was added after the others is one of the pool's slots.
pub slot_added : (kept later : Known) (frame : ℕ) (d : Puddle) (slot : Slot) → later ≡ with_puddles (kept.puddles ++ (frame, d) ∷ []) kept → slot ≡ record { frame = frame; ordinal = length kept.puddles; slot = 0; class = d.class } → IsSlotOf later.puddles slot
slot_added kept later frame d slot grown is =
    let first : Slot = record { frame = frame; ordinal = length kept.puddles; slot = 0; class = d.class } in
    subst (λ (s : Slot). IsSlotOf later.puddles s) (sym is)
    (subst (λ (k : Known). IsSlotOf k.puddles first) (sym grown) (record { puddle = d; there = slice_get-push kept.puddles (frame, d); alike = refl; below = some_slots d.class }))

-- The first slot of a puddle that was added after the others is free.
first_slot_free : (F : ℕ) (at : List (ℕ × Puddle)) (e : ℕ × Puddle) (image : Image) → IsFreshFrame F e.0 e.1.number (length at) image → IsFreePlace (stored_in F (at ++ e ∷ []) image) (places_in at)
first_slot_free F at e image fresh =
    let st = stored_in F (at ++ e ∷ []) image in
    let p = places_in at in
    let here : ordinal_of p ≡ length at = omega arith in
    let first : slot_of p ≡ 0 = omega arith in
    let class = class_at st p in
    let k = class_slot_at class 0 + SLOT_SERIAL_WORD in
    let low = slot_low class 0 in
    let end = slot_end class 0 (some_slots class) in
    let some = some_words class in
    let within : k < FRAME_WORDS = omega (arith, end, some) in
    ap (λ (v : ℕ). cond (is_slot st p) v 0)
    (ap (λ (o : ℕ). word_in_frame F image (class_slot_at class (slot_of p) + SLOT_SERIAL_WORD) (slice_get (at ++ e ∷ []) o)) here
    ∙ ap (λ (n : ℕ). word_in_frame F image (class_slot_at class n + SLOT_SERIAL_WORD) (slice_get (at ++ e ∷ []) (length at))) first
    ∙ ap (word_in_frame F image k) (slice_get-push at e)
    ∙ cond-true _ _ _ (lt-ltb k FRAME_WORDS within)
    ∙ fresh.each k within ∙ fresh_word e.1.number (length at) k (omega (arith, low)) within)
    ∙ zero_either (is_slot st p)

-- The puddle that was found is the one by which the pool grows, and it is of the class.
pub growth_found : (F slot class : ℕ) (at : List (ℕ × Puddle)) (image : Image) (done : Result (Result NewPuddle Refusal) HostFault)
    → IfOk done (λ found. IfOk found (IsGrowthFor (tables_of F image) (image NEXT_NUMBER_WORD) slot (length at))) → IfOk done (λ found. IfOk found (λ a. a.puddle.class ≡ class))
    → IfOk done (λ found. IfOk found (GrowsBy F slot class at image))
growth_found F slot class at image (Ok (Ok a)) growth of_class = record { growth = growth; of_class = of_class }
growth_found F slot class at image (Ok (Err refusal)) growth of_class = tt
growth_found F slot class at image (Err fault) growth of_class = tt

-- ---- a ready daemon with the transaction active

module _ (size : ℕ) (w : World) (memory : Memory) (active : ActiveTransaction) (old : State) (number : ℕ) (there : active_under memory.active number ≡ Some active) (ready : IsReady size w memory old) (a : NewPuddle) (class : ℕ) where
  abbrev F : ℕ
  F = w.stored.frames

  abbrev is : IsActive w active ready.mask old.now.words
  is = is_active size w memory active old number there ready

  abbrev image : Image
  image = reads old.now.words

  -- The world with the puddle.
  abbrev next : World
  next = with_puddle_added active.name class w

  -- What the call that makes the pool grow owes, on this many frames.
  abbrev pub OwesGrowth : ℕ → Option HostFault → State → Type 0
  OwesGrowth n fault new = HasIdleGate DAEMON_LOG old.now.words → PersistsThenCommits (filling n a) (puts_batch (growing a)) fault old new

  abbrev pub OwesWorld : ℕ → Option HostFault → State → Type 0
  OwesWorld n fault new = (mask : Write) → GrowsAt size w.stored (with_grown_pool active.name class w.stored) n a mask old.now.words → ChangesMasked mask size w.stored (with_grown_pool active.name class w.stored) (IsFilled n a) fault old new

  module _ (by : GrowsBy F active.slot class is.puddles image a) where
    slot_is : a.puddle.pool ≡ active.slot
    slot_is = by.growth.puddle.slot_is

    within : a.puddle.pool < POOL_RECORDS
    within = let below = is.pool.slot in omega (arith, slot_is)

    known : a.frame < F
    known = frame_below w memory.active ready.mask old.now.words ready.active a.frame by.growth.puddle.frame

    steps : a.puddle.frontier < 2 ^ 32
    steps = frontier_of_new (tables_of F image) active.slot (length is.puddles) (image NEXT_NUMBER_WORD) a by.growth.puddle

    off : IsOffAdding ready.mask F a (growing a)
    off = off_growing w memory.active ready.mask old.now.words ready.active a by.growth.puddle.frame within

    abbrev IsNext : Tables → ℕ → Type 0
    IsNext t n = IsGrowthFor t n a.puddle.pool (puddle_count t a.puddle.pool) a

    next_read : IsNext (tables_of F image) (image NEXT_NUMBER_WORD)
    next_read =
        subst (λ (n : ℕ). IsGrowthFor (tables_of F image) (image NEXT_NUMBER_WORD) a.puddle.pool n a) (sym (count_active size w memory active old number there ready) ∙ ap (puddle_count (tables_of F image)) (sym slot_is))
        (subst (λ (n : ℕ). IsGrowthFor (tables_of F image) (image NEXT_NUMBER_WORD) n (length is.puddles) a) (sym slot_is) by.growth)

    grows_at : GrowsAt size w.stored (with_grown_pool active.name class w.stored) F a ready.mask old.now.words
    grows_at = record {
      frames = refl;
      off = off;
      settled = ready.settled;
      pool = is.rec;
      at = record {
        tables = under_durable size w memory old ready;
        used = ap (λ (t : Tables). t.pools a.puddle.pool) (tables_read size w memory old ready) ∙ ap (tables_of F image).pools slot_is ∙ used_still w active ready.mask old.now.words is;
      };
      is = subst (λ (t : Tables). IsNext t w.stored.next_number) (sym (tables_read size w memory old ready)) (subst (IsNext (tables_of F image)) (header_read size w memory old ready).next_number next_read);
      grown = inl (is.graph_before, its_graph size w memory active old number there ready, ap₂ (λ (name : List ℕ) (n : ℕ). with_grown_pool name n w.stored) (sym is.name) (sym by.of_class));
    }

  module _ (by : GrowsBy F active.slot class is.puddles image a) (fault : Option HostFault) (new : State) (grows : OwesGrowth F fault new) (worlds : OwesWorld F fault new) where
    beside : LeavesMasked ready.mask fault old new
    beside = LeavesMasked-adds ready.mask F a (growing a) fault old new (off by) (ready_gate size w memory old ready) (grows (ready_gate size w memory old ready))

    changes : ChangesPools size w.stored (with_grown_pool active.name class w.stored) (IsFilled F a) fault (masked_state ready.mask old) (masked_state ready.mask new)
    changes = worlds ready.mask (grows_at by)

    masks : AppliesMasked size w next ready.mask fault old new
    masks = AppliesMasked-pools size w memory (with_grown_pool active.name class w.stored) (IsFilled F a) fault old new ready beside changes (grown_frames active.name class w.stored)

    -- At every moment each image stands for the world before, or for the world with the puddle.
    pub moments_grown : Leaves (Silently (StandsBetween size w next)) old new
    moments_grown = moments_beside size w next memory fault old new ready (grown_frames active.name class w.stored) masks

    -- No record that was used changes.
    pub puddles_grown : LeavesPuddles F Stays old new
    puddles_grown =
        LeavesPuddles-adds F fault old new ready.tables (ready_gate size w memory old ready) a by.growth.puddle.frame (within by) (grows (ready_gate size w memory old ready))

    -- With a fault no more is owed.
    pub Applies-grown_failed : (following : Memory) (failed : HostFault) → fault ≡ Some failed → Applies size w next following fault old new
    Applies-grown_failed following failed is_fault = record {
      moments = moments_grown;
      puddles = puddles_grown;
      quiet = Changes-said (ByOthers ready.mask) fault old new beside.changes;
      ready = λ done. absurd (none-some failed (sym done ∙ is_fault));
      rests = beside.changes.rests;
      script = beside.changes.script;
    }

  -- ---- the transaction has the puddle too

  module _ (kept : Known) (same_puddles : kept.puddles ≡ is.puddles) (so : IsKnown F image kept) (by : GrowsBy F active.slot class is.puddles image a) (new : State) (grows : OwesGrowth F None new) (worlds : OwesWorld F None new) where
    abbrev words : Words
    words = new.now.words

    abbrev t : Tables
    t = tables_of F (reads words)

    abbrev under : Image
    under = reads (masked ready.mask words)

    done : AppliesMasked size w next ready.mask None old new
    done = masks by None new grows worlds

    -- By the words after the call, the transactions are still active in the world before.
    abbrev holds_then : AreActive w memory.active ready.mask words
    holds_then =
        holds_still w w memory.active ready.mask old new ready.active
        (record { frames = refl; transactions = refl; present = λ n h has. refl; stored = λ n h has. refl; types = λ id m is. is; graphs = λ st g is. is }) done.beside.changes
        (rest_by_words size w memory old ready new
        (λ n h has k mine. words_grow F a old new (within by) (steps by) by.growth.puddle.frame (grows (ready_gate size w memory old ready)) h.slot (ready.active.each n h has).is.puddles (active_graph size w memory old ready n h has) k mine)
        (done.beside.single refl)).each

    abbrev is_then : IsActive w active ready.mask words
    is_then = (holds_then.each number active there).is

    -- The tables that are read give the world with the puddle.
    world_then : ReadsWorld (with_grown_pool active.name class w.stored) under
    world_then =
        reads_world size (with_grown_pool active.name class w.stored) (masked ready.mask words) (done.settled refl)
        (HasDurableTables-masked (with_grown_pool active.name class w.stored).frames ready.mask words (done.tables refl))

    keeps_then : KeepsTables F ready.mask (reads words)
    keeps_then = keeps_tables w memory.active ready.mask words holds_then

    tables_then : tables_of F under ≡ t
    tables_then = ap (tables_of F) (reads-masked ready.mask words) ∙ keeps_then.tables

    sound_then : HasSoundTables (with_grown_pool active.name class w.stored).next_number t
    sound_then =
        subst (λ (u : Tables). HasSoundTables (with_grown_pool active.name class w.stored).next_number u) tables_then
        (subst (λ (n : ℕ). HasSoundTables (with_grown_pool active.name class w.stored).next_number (tables_of n under)) (grown_frames active.name class w.stored) world_then.sound)

    types_then : types_of (reads words) ≡ w.stored.types
    types_then =
        let s = with_grown_pool active.name class w.stored in
        let settled = done.settled refl in
        let standing = standing_beside size under s (standing_idle size under s (settled.idle (under DAEMON_LOG) (inl refl)) (settled.stands under (Picks-reads (masked ready.mask words)))) in
        let beside = mask_beside w memory.active ready.mask words holds_then in
        (Holds-same Types size s under (reads words)
        (λ k of. let high = of.high in sym (ap (λ (i : Image). i k) (reads-masked ready.mask words) ∙ beside.same k (omega arith))) (standing.holds Types)).types
        ∙ grown_types active.name class w.stored

    abbrev commits : PersistsThenCommits (filling F a) (puts_batch (growing a)) None old new
    commits = grows (ready_gate size w memory old ready)

    grown : (t ≡ with_puddle_at a.frame (Some (member_by a.puddle)) (tables_of F image)) × IsFilled F a (reads words)
    grown = grown_read F a (known by) (within by) (steps by) old new commits

    abbrev e : ℕ × Puddle
    e = (a.frame, added_puddle a)

    e_finished : e.1.frontier ≡ steps_of e.1
    e_finished = by.growth.puddle.frontier

    abbrev at : List (ℕ × Puddle)
    at = is.puddles ++ e ∷ []

    last : a.puddle.ordinal ≡ length is.puddles
    last = by.growth.puddle.ordinal_is

    used_then : t.pools active.slot ≡ Some is_then.rec
    used_then = used_still w active ready.mask words is_then

    counted_then : puddle_count t active.slot ≡ length is.puddles + 1
    counted_then =
        let p = its_pool size w memory active old number there ready in
        let s = with_grown_pool active.name class w.stored in
        let here : (tables_of F under).pools active.slot ≡ Some is_then.rec = ap (λ (u : Tables). u.pools active.slot) tables_then ∙ used_then in
        let found : pool_named is_then.rec.name s ≡ Some (with_puddle_more class p.pool) = ap (λ (name : List ℕ). pool_named name s) is_then.name ∙ found_more active.name class w.stored p.pool p.there in
        let now : puddle_count (tables_of s.frames under) active.slot ≡ length p.pool.classes + 1 =
        puddle_count_by_world s under active.slot is_then.rec (with_puddle_more class p.pool) world_then is.pool.slot
        (subst (λ (n : ℕ). (tables_of n under).pools active.slot ≡ Some is_then.rec) (sym (grown_frames active.name class w.stored)) here) found
        ∙ length_push p.pool.classes class in
        sym (ap (λ (u : Tables). puddle_count u active.slot) tables_then)
        ∙ subst (λ (n : ℕ). puddle_count (tables_of n under) active.slot ≡ length p.pool.classes + 1) (grown_frames active.name class w.stored) now
        ∙ ap (λ (n : ℕ). n + 1) (puddles_counted size w memory active old number there ready)

    comes : (i : ℕ) → i ≡ length is.puddles → IsMemberOf t active.slot i e
    comes i same =
        let below = known by in
        record {
          below = omega (arith, below, frames_of_tables F (reads words));
          member = member_by a.puddle;
          used = ap (λ (u : Tables). u.puddles a.frame) grown.0 ∙ changed_here a.frame (Some (member_by a.puddle)) (tables_of F image).puddles;
          pool = ap (λ (n : ℕ). n + 1) (slot_is by);
          ordinal_is = last ∙ sym same;
          puddle = refl;
        }

    -- A puddle that the pool had is in no free frame, and it still has its record.
    stays_there : (i : ℕ) (x : ℕ × Puddle) → slice_get is.puddles i ≡ Some x → IsMemberOf t active.slot i x
    stays_there i x has =
        let turn = active_in_turn size w memory old ready number active there in
        let m = (members_in_turn (tables_of F image) active.slot).each i x (ap (λ (ps : List (ℕ × Puddle)). slice_get ps i) turn ∙ has) in
        let below = m.below in
        record {
          below = omega (arith, below, frames_of_tables F image, frames_of_tables F (reads words));
          member = m.member;
          used = ap (λ (u : Tables). u.puddles x.0) grown.0
              ∙ changed_elsewhere a.frame (Some (member_by a.puddle)) (tables_of F image).puddles x.0
              (λ same. none-some m.member (sym (first_free_some (tables_of F image).puddles 0 (tables_of F image).frames a.frame by.growth.puddle.frame).free ∙ ap (tables_of F image).puddles (sym same) ∙ m.used))
              ∙ m.used;
          pool = m.pool;
          ordinal_is = m.ordinal_is;
          puddle = m.puddle;
        }

    all_there : HasMembers t active.slot at
    all_there = record {
      each = λ i x there. elim (cases_lt i (length is.puddles)) [
        | inl below ↦ stays_there i x (sym (slice_get-front is.puddles (e ∷ []) i below) ∙ there)
        | inr past ↦
            let within = slice_get_within at i x there in
            let same : i ≡ length is.puddles = omega (arith, within, past, length_push is.puddles e) in
            let is_last : e ≡ x = same_Some e x (sym (slice_get-push is.puddles e) ∙ ap (slice_get at) (sym same) ∙ there) in
            subst (λ (y : ℕ × Puddle). IsMemberOf t active.slot i y) is_last (comes i same)
      ];
    }

    listed_then : puddles_in_turn t active.slot ≡ at
    listed_then =
        all_members (with_grown_pool active.name class w.stored).next_number t sound_then active.slot is.pool.slot is_then.rec at used_then all_there
        (length_puddles (with_grown_pool active.name class w.stored).next_number t sound_then active.slot is.pool.slot ∙ counted_then ∙ sym (length_push is.puddles e))

    fresh : IsFreshFrame F e.0 e.1.number (length is.puddles) (reads words)
    fresh = subst (λ (n : ℕ). IsFreshFrame F a.frame a.puddle.number n (reads words)) last grown.1

    owners : owner_of (reads words) active.client ≡ w.clients active.client
    owners = done.clients refl active.client (let whose = is.own.owner in let known = is.pool.known in omega (arith, whose))

    rest_then : HasDurableFrames F (masked ready.mask words)
    rest_then = durable_frames_still F ready.mask old new (done.beside.single refl) ready.rest

    grows_active : GrowsActive w next active
    grows_active =
        let p = its_pool size w memory active old number there ready in
        let more = found_more active.name class w.stored p.pool p.there in
        record {
          frames = grown_frames active.name class w.stored;
          types = grown_types active.name class w.stored;
          transactions = refl;
          clients = refl;
          stored = ap graph_in more ∙ sym (ap graph_in p.there);
        }

    -- The others are on pools with other names, and the next world keeps them.
    keeps_others : (n : ℕ) (g : ActiveTransaction) → n ≢ number → active_under memory.active n ≡ Some g → KeepsOne w next g
    keeps_others n g apart has =
        let p = its_pool size w memory active old number there ready in
        let same = found_beside_more active.name g.name class w.stored p.pool p.there (λ one. apart (ready.active.names n number g active has there one)) in
        record {
          frames = grown_frames active.name class w.stored;
          transaction = refl;
          present = refl;
          stored = ap graph_in same;
          types = λ id m defined. ap (map_of id) (grown_types active.name class w.stored) ∙ defined;
          graphs = λ st graph stored. ap (λ (ts : List (ℕ × ℕ)). graph_of ts st) (grown_types active.name class w.stored) ∙ stored;
        }

    abbrev number_then : ℕ
    number_then = (with_grown_pool active.name class w.stored).next_number

    abbrev mask_then : Write
    mask_then = wide w memory.active ready.mask new holds_then active number there e number_then sound_then owners listed_then rest_then e_finished

    abbrev one : OpenTransaction
    one = open_transaction_of active is.puddles is.rec is.own.who is.before

    -- The transaction as it is open then.
    abbrev more : OpenTransaction
    more = opened_more w active ready.mask words is_then e e_finished

    abbrev others : Opens
    others = with_transaction number None ready.active.opens

    abbrev its : IsActiveUnder w ready.active.opens ready.mask old.now.words number active
    its = ready.active.each number active there

    was : IsOneMore number one others ready.active.opens
    was = one_ended number one ready.active.opens its.opened

    -- No other transaction is open on its pool.
    shut : IsShut others active.slot
    shut m o here same =
        let elsewhere : m ≢ number = λ it. none-some o (sym was.none ∙ ap others (sym it) ∙ here) in
        elsewhere (ready.active.are.slots m number o one (was.same m elsewhere ∙ here) its.opened same)

    -- The pool has the graph that it had.
    graph_then : HasGraphIn F active.slot (reads words) at
    graph_then = record {
      graph = is_then.own.transaction.now;
      turn = listed_then;
      stored = ap (λ (ts : List (ℕ × ℕ)). graph_of ts (stored_in F at (reads words))) types_then
          ∙ graph_longer w.stored.types F (reads words) is.puddles e is_then.own.transaction.now (some_active size w memory active old number there ready) fresh is_then.running.is;
    }

    -- The pool's frames are as they were.
    stored_then : stored_in F is.puddles (reads words) ≡ stored_in F is.puddles image
    stored_then =
        stored_in-same F is.puddles image (reads words)
        (record {
          each = λ o k d here below.
              words_grow F a old new (within by) (steps by) by.growth.puddle.frame commits active.slot is.puddles (active_graph size w memory old ready number active there) (frame_at F d.0 + k)
              (pool_has_word-from F is.puddles (frame_at F d.0 + k) (record { ordinal = o; puddle = d; there = here; low = omega arith; high = omega arith }));
        })

    word_longer : (o k : ℕ) → o < length is.puddles → (stored_in F at (reads words)).word o k ≡ (stored_in F is.puddles image).word o k
    word_longer o k low = ap (word_in_frame F (reads words) k) (slice_get-front is.puddles (e ∷ []) o low) ∙ ap (λ (st : Stored). st.word o k) stored_then

    -- So each slot has the serial that it had.
    pub longer : IsLonger F active.slot class is.puddles at image (reads words)
    longer = record {
      count = length_push is.puddles e;
      turn = sym listed_then;
      classes = λ o low. class_before is.puddles (e ∷ []) o low;
      of_class = class_added is.puddles e ∙ by.of_class;
      each = λ p low.
          let within : ordinal_of p < length is.puddles = omega (arith, low) in
          let alike = class_before is.puddles (e ∷ []) (ordinal_of p) within in
          (λ q. cond (ltb (slot_of p) (class_slots (alike q))) ((stored_in F at (reads words)).word (ordinal_of p) (class_slot_at (alike q) (slot_of p) + SLOT_SERIAL_WORD)) 0)
          ∙ ap (λ (v : ℕ). cond (is_slot (stored_in F is.puddles image) p) v 0) (word_longer (ordinal_of p) (class_slot_at (class_in is.puddles (ordinal_of p)) (slot_of p) + SLOT_SERIAL_WORD) within);
      free = first_slot_free F is.puddles e (reads words) fresh;
    }

    -- What the daemon knows about the pool also holds with the puddle.
    abbrev more_known : Known
    more_known = with_puddles at kept

    same_transaction : is_then.own.transaction.now ≡ is.own.transaction.now
    same_transaction = ap (λ (x : Transaction). x.now) (same_Some is_then.own.transaction is.own.transaction (sym is_then.own.is ∙ is.own.is))

    so_then : IsKnown F (reads words) more_known
    unfolding graph_then
    so_then =
        let count = longer.count in
        IsKnown-grown F kept at image (reads words) is.own.transaction.now
        ((λ i. graph_of ((types_read size w memory old ready).types i) (stored_in F (same_puddles i) image)) ∙ is.running.is)
        (graph_then.stored ∙ ap (λ (k : Graph). Some k) same_transaction)
        (subst (λ (ps : List (ℕ × Puddle)). KeepsPrefix F ps at image (reads words)) (sym same_puddles) (record { more = omega (arith, count); classes = λ p low. longer.classes (ordinal_of p) (omega (arith, low)); each = longer.each })) so

    -- What the daemon knows holds for the pool, and for all other pools, which stay.
    knows_then : KnowsPools F (set memory.known_pools active.slot (Some more_known)) (with_transaction number (Some more) ready.active.opens) (reads words)
    knows_then =
        KnowsPools-grown F memory.known_pools number one more others ready.active.opens (with_transaction number (Some more) ready.active.opens) more_known image (reads words) was (one_put number more ready.active.opens) refl refl shut
        (subst (λ (n : ℕ). KeepsPools F (Some n) image (reads words)) (slot_is by) (KeepsPools-grow F a old new (within by) (steps by) by.growth.puddle.frame commits)) graph_then so_then ready.knows

    ready_then : IsReady size next (with_known number active.slot active more_known memory) new
    ready_then =
        let same = grown_frames active.name class w.stored in
        let some = some_active size w memory active old number there ready in
        record {
          mask = mask_then;
          settled = settled_more w memory.active ready.mask new holds_then active number there e number_then sound_then owners listed_then rest_then e_finished size (with_grown_pool active.name class w.stored) (done.settled refl);
          tables = done.tables refl;
          clients = done.clients refl;
          frames = ready.frames ∙ sym same;
          shelf = done.beside.changes.shelf ∙ ready.shelf;
          active = holds_more w memory.active ready.mask new holds_then active number there e number_then sound_then owners listed_then rest_then e_finished some fresh next grows_active keeps_others;
          sessions = sessions_more w memory.active ready.mask new holds_then active number there e number_then sound_then owners listed_then rest_then e_finished some fresh next grows_active keeps_others memory.sessions ready.sessions;
          rest = subst (λ (n : ℕ). HasDurableFrames n (masked mask_then words)) (sym same) (rest_more w memory.active ready.mask new holds_then active number there e number_then sound_then owners listed_then rest_then e_finished);
          logs = logs_more w memory.active ready.mask new holds_then active number there e number_then sound_then owners listed_then rest_then e_finished next.stored.frames next.clients (done.logs refl);
          knows = subst (λ (n : ℕ). KnowsPools n (set memory.known_pools active.slot (Some more_known)) (with_transaction number (Some more) ready.active.opens) (reads words)) (sym same) knows_then;
        }

    pub Applies-wide : Applies size w next (with_known number active.slot active more_known memory) None old new
    Applies-wide = record {
      moments = moments_grown by None new grows worlds;
      puddles = puddles_grown by None new grows worlds;
      quiet = Changes-said (ByOthers ready.mask) None old new done.beside.changes;
      ready = λ _. ready_then;
      rests = done.beside.changes.rests;
      script = done.beside.changes.script;
    }

-- ---- by the clauses of the call

module _ {F words size class : ℕ} {w : World} {memory : Memory} {active : ActiveTransaction} {kept : Known} {old : State} (runs : RunsWith F words active kept size w memory old) (a : NewPuddle) (by : GrowsBy F active.slot class kept.puddles (reads old.now.words) a) where
  on : F ≡ w.stored.frames
  on = sym runs.its.frames ∙ runs.ready.frames

  listed : kept.puddles ≡ (is_active size w memory active old active.log_number runs.its.there runs.ready).puddles
  listed = sym (active_known size w memory old runs.ready active.log_number active runs.its.there kept.puddles (ap puddles_known runs.its.known))

  its_growth : GrowsBy w.stored.frames active.slot class (is_active size w memory active old active.log_number runs.its.there runs.ready).puddles (reads old.now.words) a
  its_growth = subst (λ (ps : List (ℕ × Puddle)). GrowsBy w.stored.frames active.slot class ps (reads old.now.words) a) listed (subst (λ (n : ℕ). GrowsBy n active.slot class kept.puddles (reads old.now.words) a) on by)

  -- What the call owes.
  abbrev pub Owes : ℕ → Option HostFault → State → Type 0
  Owes n fault new = OwesGrowth size w memory active old active.log_number runs.its.there runs.ready a class n fault new × OwesWorld size w memory active old active.log_number runs.its.there runs.ready a class n fault new

  owed : (fault : Option HostFault) (new : State) → Owes F fault new → Owes w.stored.frames fault new
  owed fault new = subst (λ (n : ℕ). Owes n fault new) on

  -- If the call failed, what is owed with a fault holds.
  pub grows_failed : (following : Memory) (fault : HostFault) (new : State) → Owes F (Some fault) new → Applies size w (with_puddle_added active.name class w) following (Some fault) old new
  grows_failed following fault new owes =
      let o = owed (Some fault) new owes in
      Applies-grown_failed size w memory active old active.log_number runs.its.there runs.ready a class its_growth (Some fault) new o.0 o.1 following fault refl

  -- If the call did not fail, the pool has the puddle after the others.
  module _ (new : State) (owes : Owes F None new) (d : Puddle) (is : d ≡ added_puddle a) (later : Known) (is_later : later ≡ with_puddles (kept.puddles ++ (a.frame, d) ∷ []) kept) where
    it_has : with_puddles ((is_active size w memory active old active.log_number runs.its.there runs.ready).puddles ++ (a.frame, added_puddle a) ∷ []) kept ≡ later
    it_has = ap (λ (ps : List (ℕ × Puddle)). with_puddles (ps ++ (a.frame, added_puddle a) ∷ []) kept) (sym listed) ∙ ap (λ (x : Puddle). with_puddles (kept.puddles ++ (a.frame, x) ∷ []) kept) (sym is) ∙ sym is_later

    so : IsKnown w.stored.frames (reads old.now.words) kept
    so = runs.ready.knows.known_pools.known active.slot kept runs.its.known

    pub grows_done : Applies size w (with_puddle_added active.name class w) (with_known active.log_number active.slot active later memory) None old new
    grows_done =
        let o = owed None new owes in
        subst (λ (k : Known). Applies size w (with_puddle_added active.name class w) (with_known active.log_number active.slot active k memory) None old new) it_has
        (Applies-wide size w memory active old active.log_number runs.its.there runs.ready a class kept listed so its_growth new o.0 o.1)

    pub grows_longer : IsLonger F active.slot class kept.puddles later.puddles (reads old.now.words) (reads new.now.words)
    grows_longer =
        let o = owed None new owes in
        subst (λ (n : ℕ). IsLonger n active.slot class kept.puddles later.puddles (reads old.now.words) (reads new.now.words)) (sym on)
        (subst (λ (ps : List (ℕ × Puddle)). IsLonger w.stored.frames active.slot class ps later.puddles (reads old.now.words) (reads new.now.words)) (sym listed)
        (subst (λ (k : Known). IsLonger w.stored.frames active.slot class (is_active size w memory active old active.log_number runs.its.there runs.ready).puddles k.puddles (reads old.now.words) (reads new.now.words)) it_has
        (longer size w memory active old active.log_number runs.its.there runs.ready a class kept listed so its_growth new o.0 o.1)))
