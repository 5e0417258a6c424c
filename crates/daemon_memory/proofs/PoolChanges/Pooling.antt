-- Pools that lines make, change and drop.
use Rattle.std.proofs.Common.{◌≡◌, ◌≢◌, inl, inr, ℕ, ◌+◌, ◌%◌, ◌^◌, ◌<◌, ◌≤◌, Bool, true, false, not, cond, ◌&&◌, ◌||◌, leb, ltb, eqb, List, length, Option, Some, None, Result, Ok, Err, option_map, is_some, is_none, refl, sym, ap, ap₂, sum_by, subst, ◌∙◌, arith, leb-true, eq-eqb, ne_eqb}
use Rattle.std.specs.Prelude.{⊤, IfOk, unwrap_or, set}
use Rattle.std.specs.FinMap.Entries.{find, put}
use Rattle.std.proofs.lemmas.Bool.{cases_eq, cond-true, cond-false, and_parts}
use Rattle.std.proofs.lemmas.Option.{none-some, same_Some}
use Rattle.pm_model.specs.declared.host.HostFault.{HostFault}
use Rattle.pm_model.specs.declared.host.HostFault.TheVariants.{Cut}
use Rattle.pm_model.specs.Counts.{fault_of}
use Rattle.pm_model.specs.Words.{IsRested, Words, reads}
use Rattle.pm_model.specs.Moments.{State}
use Rattle.pm_model.specs.Changes.{Write}
use Rattle.pm_model.specs.Masks.{masked, masked_state, IsOff}
use Rattle.pm_model.proofs.Masks.{reads-masked}
use Rattle.pud_defs.specs.declared.layout.TheConstants.{CLIENTS, MAX_OWNER_ID, NEXT_NUMBER_WORD, DAEMON_LOG}
use Rattle.pud_defs.specs.declared.records.TheConstants.{POOL_RECORDS, MAX_PUDDLES}
use Rattle.pud_defs.specs.declared.records.PoolRecord.{PoolRecord}
use Rattle.pud_defs.specs.declared.records.Owner.{Owner}
use Rattle.pud_defs.specs.declared.machine.Command.{Command}
use Rattle.pud_defs.specs.declared.machine.Command.TheVariants.{Chmod}
use Rattle.pud_defs.specs.declared.machine.Command.TheVariants as commands
use Rattle.pud_defs.specs.declared.machine.Reply.{Reply}
use Rattle.pud_defs.specs.declared.machine.Refusal.{Refusal}
use Rattle.pud_defs.specs.declared.machine.Refusal.TheVariants as refusals
use Rattle.pud_defs.specs.Formats.Image.{Image}
use Rattle.pud_defs.specs.RegistryTables.Keyed.{first_free, count_used}
use Rattle.pud_defs.specs.RegistryTables.Pools.{pool_read}
use Rattle.pud_defs.specs.Formats.Names.{name_cmp}
use Rattle.pud_defs.specs.RegistryTables.Puddles.{Member}
use Rattle.pud_defs.specs.PoolGraphs.Holdings.{holding_in}
use Rattle.pud_defs.specs.RegistryTables.Spaces as spaces
use Rattle.pud_defs.specs.RegistryTables.Spaces.{owner, owner_by, owner_of, is_space, is_legal_space, space_record_at}
use Rattle.pud_defs.specs.RegistryTables.Puts.{without_pool_at}
use Rattle.pud_defs.specs.RegistryTables.Tables.{Tables, Pool, Reader, tables_of, members, records_of, pool_in, pool_of}
use Rattle.pud_defs.specs.StateMachine.PoolChanges.{pool_named, lacks_numbers, is_full_of_pools, lacks_frames, new_pool, with_new_pool, with_pool_mode, without_pool}
use Rattle.pud_defs.specs.StateMachine.World.{StoredWorld, Transaction, World, open_on}
use Rattle.pud_defs.specs.StateMachine.Step.{graph_in, has_owner_right, refusal_of, after, answer_by, world_by}
use Rattle.pud_defs.specs.StateMachine.Step.Answer.{of_reply}
use Rattle.pud_defs.proofs.RegistryTables.PoolsCounted.{IsMasked}
use Rattle.pud_defs.specs.StateMachine.Transactions.{is_own, is_others}
use Rattle.pud_defs.proofs.StateMachine.PoolRefusals.{making_refusal, refusal_of-pool, refusal_of-drop, refusal_of-owned, pool_by_record, pool_by_name, found_by_table, full_by_table, space_by_table, found_record}
use Rattle.pud_defs.proofs.RegistryTables.Spaces.{all_below-each}
use Rattle.pud_defs.proofs.StateMachine.Steps.{answer_is_ok, refused_answer, refused_world, done_world}
use Rattle.pud_defs.proofs.RegistryTables.TablesOf.{pools_beyond, frames_of_tables}
use Rattle.batch.specs.Worlds.{IsQuiescent}
use Rattle.batch.specs.Tables.{HasDurableTables}
use Rattle.batch.specs.Batches.{HasIdleGate, ByBatch, Commits}
use Rattle.log_space.specs.Owners.{owner_read}
use Rattle.registry.specs.declared.making.MakeFault.{MakeFault}
use Rattle.registry.specs.declared.making.MakeFault.TheVariants as faults
use Rattle.registry.specs.Puts.{puts_batch}
use Rattle.registry.specs.Places.{make_fault, refusal_in, make_refusal}
use Rattle.registry.specs.Pools.{changing, dropping, OrStill, CommitsPuts, MakesSomewhere, KeepsTables, IsOffMaking, IsPoolAt, ChangesPools}
use Rattle.registry.proofs.Joined.{few_puddles}
use Rattle.nesting.specs.Sessions.{holder_in}
use Rattle.daemon_memory.proofs.PoolChanges.RestBeside.{rest_beside}
use Rattle.known_pool.specs.Known.{Known}
use Rattle.daemon_memory.specs.Memory.{ActiveTransaction, Memory, active_under}
use Rattle.daemon_memory.specs.ActiveTransactions.{AreActive, LeavesMasked}
use Rattle.daemon_memory.specs.KnownPools.{KnowsPools}
use Rattle.daemon_memory.specs.Owning.{reply_of_making, refusal_beside, IsRecordSlot}
use Rattle.daemon_memory.specs.Moves.{Stays, MovesTo, LeavesPuddles, freed_in}
use Rattle.daemon_memory.specs.Ready.{IsReady, AppliesBy, Applies}
use Rattle.daemon_memory.proofs.Commands.Applying.{Applies-still}
use Rattle.daemon_memory.proofs.Commands.Beside.{active_is, opens_apart_from, Applies-beside}
use Rattle.daemon_memory.proofs.Commands.Beneath.{ready_gate, keeps_tables}
use Rattle.daemon_memory.proofs.PoolChanges.PoolsBeside.{active_pool}
use Rattle.daemon_memory.proofs.PoolChanges.PoolsApart.{off_making, off_changing, off_dropping, LeavesMasked-makes, LeavesMasked-puts, AppliesMasked-pools, KeepsActive-stored, found_beside_put, found_beside_without}
use Rattle.daemon_memory.proofs.PoolChanges.RecordsApart.{LeavesPuddles-makes, LeavesPuddles-mode, LeavesPuddles-drops}
use Rattle.daemon_memory.proofs.OpenTransactions.OpenBeside.{not_named}
use Rattle.daemon_memory.proofs.OpenTransactions.Sessions.{slot_within, holder_is}
use Rattle.daemon_memory.proofs.PoolsKnown.KnownKept.{KeepsPools}
use Rattle.daemon_memory.proofs.PoolsKnown.KnownJudged.{KeepsPools-or_still, KeepsPools-making, KeepsPools-mode, KeepsPools-drop, tables_dropped}
use Rattle.daemon_memory.proofs.PoolsKnown.KnownOpen.{KnowsPools-all, KnowsPools-dropped}
use Rattle.daemon_memory.proofs.PoolChanges.TablesBeside.{HasDurableTables-masked, header_read, pools_read, sound_read, spaces_read}

-- ---- as whom a client acts

-- The client acts as this owner, and the owner is legal.
pub record IsActing (w : World) (client uid gid : ℕ) : Type 0 where
  pub is : w.clients client ≡ Some (owner uid gid)
  pub uid_fits : uid ≤ MAX_OWNER_ID
  pub gid_fits : gid ≤ MAX_OWNER_ID

-- A used record of a legal space is read as it is.
record IsRead (used uid gid : ℕ) (who : Owner) : Type 0 where
  is : owner_by used uid gid ≡ Some (owner who.uid who.gid)
  uid_fits : who.uid ≤ MAX_OWNER_ID
  gid_fits : who.gid ≤ MAX_OWNER_ID

read_by : (used uid gid : ℕ) (who : Owner) → is_space used uid gid ≡ true → Some who ≡ option_map owner_read (owner_by used uid gid) → IsRead used uid gid who
read_by used uid gid who legal is = elim (cases_eq used 1) [
  | inl one ↦
      let here : owner_by used uid gid ≡ Some (owner uid gid) = cond-true (eqb used 1) (Some (owner uid gid)) None (eq-eqb used 1 one) in
      let same : who ≡ owner_read (owner uid gid) = same_Some who (owner_read (owner uid gid)) (is ∙ ap (option_map owner_read) here) in
      let full : (leb uid MAX_OWNER_ID && leb gid MAX_OWNER_ID) ≡ true = sym (ap (λ n. eqb n 0 || (eqb n 1 && leb uid MAX_OWNER_ID && leb gid MAX_OWNER_ID)) one) ∙ legal in
      let parts = and_parts (leb uid MAX_OWNER_ID) (leb gid MAX_OWNER_ID) full in
      let uid_low = leb-true uid MAX_OWNER_ID parts.0 in
      let gid_low = leb-true gid MAX_OWNER_ID parts.1 in
      let whose_uid : who.uid ≡ uid = ap (λ (x : Owner). x.uid) same ∙ (let small : uid % 2 ^ 32 ≡ uid = omega arith in small) in
      let whose_gid : who.gid ≡ gid = ap (λ (x : Owner). x.gid) same ∙ (let small : gid % 2 ^ 32 ≡ gid = omega arith in small) in
      record { is = here ∙ ap₂ (λ u g. Some (owner u g)) (sym whose_uid) (sym whose_gid); uid_fits = omega (arith, whose_uid); gid_fits = omega (arith, whose_gid) }
  | inr other ↦ absurd (none-some who (sym (is ∙ ap (option_map owner_read) (cond-false (eqb used 1) (Some (owner uid gid)) None (ne_eqb used 1 other)))))
]

module _ (size : ℕ) (w : World) (memory : Memory) (s : State) (ready : IsReady size w memory s) where
  abbrev image : Image
  image = reads s.now.words

  abbrev t : Tables
  t = tables_of w.stored.frames image

  beyond : IsMasked t
  beyond = record { beyond = λ slot beyond. pools_beyond w.stored.frames image slot beyond }

  pub acting : (client : ℕ) (who : Owner) → client < CLIENTS → Some who ≡ option_map owner_read (owner_of image client) → IsActing w client who.uid who.gid
  acting client who known is =
      let legal = all_below-each CLIENTS (is_legal_space image) (spaces_read size w memory s ready) client known in
      let read = read_by (image (space_record_at client)) (image (space_record_at client + 1)) (image (space_record_at client + 2)) who legal is in
      record { is = sym (ready.clients client known) ∙ read.is; uid_fits = read.uid_fits; gid_fits = read.gid_fits }

  pub absent : (client : ℕ) → client < CLIENTS → None ≡ option_map owner_read (owner_of image client) → w.clients client ≡ None
  absent client known is = sym (ready.clients client known) ∙ no_owner (owner_of image client) is
    where
      no_owner : (o : Option _) → None ≡ option_map owner_read o → o ≡ None
      no_owner None e = refl
      no_owner (Some x) e = absurd (none-some (owner_read x) e)

-- ---- a pool is made

-- The table's fault as the machine's refusal.
as_refusal : Option MakeFault → Option Refusal
as_refusal None = None
as_refusal (Some faults.Exists) = Some refusals.Exists
as_refusal (Some faults.Full) = Some refusals.Full
as_refusal (Some faults.NoSpace) = Some refusals.Space
as_refusal (Some (faults.Host fault)) = None

refusal_by : (found full lacks : Bool) → as_refusal (cond found (Some faults.Exists) (cond full (Some faults.Full) (cond lacks (Some faults.NoSpace) None)))
    ≡ cond found (Some refusals.Exists) (cond full (Some refusals.Full) (cond lacks (Some refusals.Space) None))
unfolding as_refusal
refusal_by true full lacks = refl
refusal_by false true lacks = refl
refusal_by false false true = refl
refusal_by false false false = refl

-- The table's answer is never a fault of the host.
no_host : (found full lacks : Bool) (fault : HostFault) → cond found (Some faults.Exists) (cond full (Some faults.Full) (cond lacks (Some faults.NoSpace) None)) ≡ Some (faults.Host fault) → ⊥
no_host true full lacks fault e = cc
no_host false true lacks fault e = cc
no_host false false true fault e = cc
no_host false false false fault e = cc

module _ (size : ℕ) (w : World) (memory : Memory) (s : State) (ready : IsReady size w memory s) (client uid gid mode : ℕ) (name : List ℕ) (who : IsActing w client uid gid) where
  abbrev read : Image
  read = reads s.now.words

  abbrev tables : Tables
  tables = tables_of w.stored.frames read

  abbrev refused : Option MakeFault
  refused = make_refusal tables (read NEXT_NUMBER_WORD) name

  abbrev c : Command
  c = commands.Pool client name mode

  -- The machine refuses what the table refuses.
  refusal_made : refusal_of w c ≡ as_refusal refused
  refusal_made =
      let hold : Reader = holding_in w.stored.types w.stored.frames (reads (masked ready.mask s.now.words)) in
      let pools = pools_read size w memory s ready in
      let sound = sound_read size w memory s ready in
      let there : not (is_some (w.clients client)) ≡ false = ap (λ o. not (is_some o)) who.is in
      let found : is_some (pool_named name w.stored) ≡ is_some (pool_in tables name) = ap (λ ps. is_some (find name_cmp name ps)) (sym pools) ∙ sym (found_by_table hold tables name) in
      let slots : leb POOL_RECORDS (length w.stored.pools) ≡ is_none (first_free tables.pools 0 POOL_RECORDS) = ap (λ ps. leb POOL_RECORDS (length ps)) (sym pools) ∙ sym (full_by_table hold w.stored.next_number tables sound) in
      let numbers : lacks_numbers w.stored.next_number ≡ lacks_numbers (read NEXT_NUMBER_WORD) = ap lacks_numbers (sym (header_read size w memory s ready).next_number) in
      let frames : lacks_frames w.stored 1 ≡ is_none (first_free tables.puddles 0 tables.frames) =
      ap₂ (λ n ps. ltb n (sum_by (λ (e : List ℕ × Pool). length e.1.classes) ps + 1)) (sym (frames_of_tables w.stored.frames read)) (sym pools)
      ∙ sym (space_by_table hold w.stored.next_number tables sound (beyond size w memory s ready)) in
      refusal_of-pool w client mode name
      ∙ (λ p. cond (there p) (Some refusals.Client) (cond (found p) (Some refusals.Exists) (cond (slots p || numbers p) (Some refusals.Full) (cond (frames p) (Some refusals.Space) None))))
      ∙ sym (refusal_by (is_some (pool_in tables name)) (is_none (first_free tables.pools 0 POOL_RECORDS) || lacks_numbers (read NEXT_NUMBER_WORD)) (is_none (first_free tables.puddles 0 tables.frames)))

  -- What the table does not refuse is not refused.
  pub allowed_made : refused ≡ None → refusal_of w c ≡ None
  unfolding as_refusal
  allowed_made is = refusal_made ∙ ap as_refusal is

  -- What the table refuses is refused.
  pub refused_made : (r : MakeFault) → refused ≡ Some r → (why : Refusal) × (refusal_of w c ≡ Some why)
  unfolding as_refusal
  refused_made faults.Exists is = (refusals.Exists, refusal_made ∙ ap as_refusal is)
  refused_made faults.Full is = (refusals.Full, refusal_made ∙ ap as_refusal is)
  refused_made faults.NoSpace is = (refusals.Space, refusal_made ∙ ap as_refusal is)
  refused_made (faults.Host fault) is = absurd (no_host _ _ _ fault is)

  -- The reply is the machine's.
  pub reply_made : (done : Result (Unit {0}) MakeFault) → (make_fault done ≡ None → refusal_in done ≡ refused) → IfOk (reply_of_making done) (λ reply. of_reply reply ≡ answer_by w (Some c))
  unfolding as_refusal
  reply_made (Ok x) told = sym (answer_is_ok w c refl refl (refusal_made ∙ ap as_refusal (sym (told refl))))
  reply_made (Err faults.Exists) told = sym (refused_answer w c refusals.Exists (refusal_made ∙ ap as_refusal (sym (told refl))))
  reply_made (Err faults.Full) told = sym (refused_answer w c refusals.Full (refusal_made ∙ ap as_refusal (sym (told refl))))
  reply_made (Err faults.NoSpace) told = sym (refused_answer w c refusals.Space (refusal_made ∙ ap as_refusal (sym (told refl))))
  reply_made (Err (faults.Host fault)) told = tt

  -- The world that the command gives.
  given_world : after w c ≡ record w { stored = with_new_pool name (owner uid gid) mode w.stored }
  unfolding after
  given_world = ap (λ o. record w { stored = with_new_pool name (unwrap_or o (owner 0 0)) mode w.stored }) who.is

-- ---- what a batch of pool changes does to a ready daemon

-- Pools are changed beside the active transactions.
pub record ChangesBeside (size : ℕ) (s next : StoredWorld) (also : Image → Type 0) (mask : Write) (fault : Option HostFault) (old new : State) : Type 0 where
  pub beside : LeavesMasked mask fault old new
  pub pools : ChangesPools size s next also fault (masked_state mask old) (masked_state mask new)

-- The next world has the same frames and types, and each pool on which a transaction is active is as it was.
pub record KeepsPool (s next : StoredWorld) (active : List (Option ActiveTransaction)) : Type 0 where
  pub frames : next.frames ≡ s.frames
  pub types : next.types ≡ s.types
  pub pool : (number : ℕ) (h : ActiveTransaction) → active_under active number ≡ Some h → pool_named h.name next ≡ pool_named h.name s

-- No transaction is active on a pool of this name.
abbrev pub IsNotNamed : List ℕ → List (Option ActiveTransaction) → Type 0
IsNotNamed name active = (number : ℕ) (h : ActiveTransaction) → active_under active number ≡ Some h → h.name ≢ name

-- Pools were changed: the command gives the world with the next stored world.
pub Applies-pools : (becomes : Member → Option Member → Type 0) (size : ℕ) (w : World) (memory : Memory) (c : Command) (next : StoredWorld) (also : Image → Type 0) (fault : Option HostFault) (old new : State) (ready : IsReady size w memory old)
    → LeavesPuddles w.stored.frames becomes old new → refusal_of w c ≡ None → after w c ≡ record w { stored = next } → KeepsPool w.stored next memory.active → ChangesBeside size w.stored next also ready.mask fault old new
    → (known_pools : List (Option Known)) → (fault ≡ None → KnowsPools w.stored.frames known_pools ready.active.opens (reads new.now.words))
    → (but : Option ℕ) → ((number : ℕ) (h : ActiveTransaction) → active_under memory.active number ≡ Some h → but ≢ Some h.slot)
    → (fault ≡ None → KeepsPools w.stored.frames but (reads old.now.words) (reads new.now.words)) → AppliesBy becomes size w (world_by w (Some c)) (record memory { known_pools = known_pools }) fault old new
Applies-pools becomes size w memory c next also fault old new ready puddles free gives keeps b known_pools knows but apart stay =
    let following : Memory = record memory { known_pools = known_pools } in
    subst (λ (v : World). AppliesBy becomes size w v following fault old new) (sym (done_world w c free ∙ gives))
    (Applies-beside size w (record w { stored = next }) memory fault old new ready
    (KeepsActive-stored w next memory.active keeps.frames keeps.types keeps.pool)
    (AppliesMasked-pools size w memory next also fault old new ready b.beside b.pools keeps.frames)
    becomes puddles following refl refl refl knows (λ none. rest_beside size w memory old ready but new apart (stay none) (b.beside.single none)))

-- What is known about pools stays true.
knows_still : (size : ℕ) (w : World) (memory : Memory) (old new : State) (ready : IsReady size w memory old) → KeepsPools w.stored.frames None (reads old.now.words) (reads new.now.words)
    → KnowsPools w.stored.frames memory.known_pools ready.active.opens (reads new.now.words)
knows_still size w memory old new ready keeps = KnowsPools-all w.stored.frames memory.known_pools ready.active.opens (reads old.now.words) (reads new.now.words) keeps ready.knows

-- The same, after calls that changed nothing.
pub Applies-after : {becomes : Member → Option Member → Type 0} (size : ℕ) (w next : World) (memory following : Memory) (fault : Option HostFault) (a b d : State) → b ≡ a
    → (IsReady size w memory b → AppliesBy becomes size w next following fault b d) → IsReady size w memory a → AppliesBy becomes size w next following fault a d
Applies-after {becomes} size w next memory following fault a b d same applies ready =
    subst (λ (s : State). AppliesBy becomes size w next following fault s d) same (applies (subst (λ (s : State). IsReady size w memory s) (sym same) ready))

-- There is one more pool, of another name than those on which a transaction is active.
keeps_made : (s : StoredWorld) (name : List ℕ) (who : spaces.Owner) (mode : ℕ) (active : List (Option ActiveTransaction)) → IsNotNamed name active → KeepsPool s (with_new_pool name who mode s) active
unfolding with_new_pool
keeps_made s name who mode active apart = record {
  frames = refl;
  types = refl;
  pool = λ number h there. found_beside_put name h.name (new_pool who mode s.next_number) s.pools (apart number h there);
}

mode_beside : (name other : List ℕ) (change : Pool → Pool) (ps : List (List ℕ × Pool)) (p : Option Pool) → find name_cmp name ps ≡ p → (other ≡ name → ⊥)
    → find name_cmp other (unwrap_or (option_map (λ q. put name_cmp name (change q) ps) p) ps) ≡ find name_cmp other ps
mode_beside name other change ps None is apart = refl
mode_beside name other change ps (Some p) is apart = found_beside_put name other (change p) ps apart

keeps_mode : (s : StoredWorld) (name : List ℕ) (mode : ℕ) (active : List (Option ActiveTransaction)) → IsNotNamed name active → KeepsPool s (with_pool_mode name mode s) active
unfolding with_pool_mode
keeps_mode s name mode active apart = record {
  frames = refl;
  types = refl;
  pool = λ number h there. mode_beside name h.name (λ p. record p { mode = mode }) s.pools (find name_cmp name s.pools) refl (apart number h there);
}

keeps_drop : (s : StoredWorld) (name : List ℕ) (active : List (Option ActiveTransaction)) → IsNotNamed name active → KeepsPool s (without_pool name s) active
unfolding without_pool
keeps_drop s name active apart = record {
  frames = refl;
  types = refl;
  pool = λ number h there. found_beside_without name h.name s.pools (apart number h there);
}

-- No transaction is active on a pool that does not exist.
pub absent_apart : (w : World) (active : List (Option ActiveTransaction)) (mask : Write) (words : Words) (name : List ℕ) → AreActive w active mask words → pool_named name w.stored ≡ None → IsNotNamed name active
absent_apart w active mask words name holds none number h there same =
    let is = active_is w active mask words holds number h there in
    let no : Some is.graph_before ≡ None = sym is.stored ∙ ap (λ (n : List ℕ). graph_in (pool_named n w.stored)) same ∙ ap graph_in none in
    cc

absent_of : (who : Option spaces.Owner) (found : Option Pool) (full lacks : Bool) → making_refusal who found full lacks ≡ None → found ≡ None
absent_of None found full lacks free = absurd (let no : Some refusals.Client ≡ None = free in cc)
absent_of (Some who) None full lacks free = refl
absent_of (Some who) (Some p) full lacks free = absurd (let no : Some refusals.Exists ≡ None = free in cc)

-- A pool is made, or refused.
module _ (size : ℕ) (w : World) (memory : Memory) (client uid gid mode : ℕ) (name : List ℕ) (also : Image → Type 0) (fault : Option HostFault) (old new : State) (ready : IsReady size w memory old) (who : IsActing w client uid gid) where
  abbrev refused_there : Option MakeFault
  refused_there = make_refusal (tables_of w.stored.frames (reads old.now.words)) (reads old.now.words NEXT_NUMBER_WORD) name

  abbrev line : Command
  line = commands.Pool client name mode

  abbrev made : StoredWorld
  made = with_new_pool name (owner uid gid) mode w.stored

  -- The pool was refused, and nothing changed.
  made_refused : (r : Refusal) → refusal_of w line ≡ Some r → new ≡ old → (fault ≡ Some Cut → IsRested new.now.words) → Applies size w (world_by w (Some line)) memory fault old new
  made_refused r refused same rests =
      subst (λ (v : World). Applies size w v memory fault old new) (sym (refused_world w line r refused)) (Applies-still size w memory fault old new ready same rests)

  made_by : (r : Option MakeFault) → refused_there ≡ r → (refused_there ≡ None → LeavesPuddles w.stored.frames Stays old new) → (refused_there ≡ None → ChangesBeside size w.stored made also ready.mask fault old new)
      → (refused_there ≡ None → fault ≡ None → KeepsPools w.stored.frames None (reads old.now.words) (reads new.now.words))
      → ((refused_there ≡ None → ⊥) → new ≡ old) → (fault ≡ Some Cut → IsRested new.now.words) → Applies size w (world_by w (Some line)) memory fault old new
  made_by None is puddles makes pools still rests =
      let free = allowed_made size w memory old ready client uid gid mode name who is in
      let none = absent_of (w.clients client) (pool_named name w.stored) (is_full_of_pools w.stored) (lacks_frames w.stored 1) (sym (refusal_of-pool w client mode name) ∙ free) in
      Applies-pools Stays size w memory line made also fault old new ready (puddles is) free (given_world size w memory old ready client uid gid mode name who)
      (keeps_made w.stored name (owner uid gid) mode memory.active (absent_apart w memory.active ready.mask old.now.words name ready.active none)) (makes is) memory.known_pools
      (λ none. knows_still size w memory old new ready (pools is none)) None (λ number h there no. none-some h.slot no) (pools is)
  made_by (Some r) is puddles makes pools still rests =
      let refused = refused_made size w memory old ready client uid gid mode name who r is in
      made_refused refused.0 refused.1 (still (λ none. none-some r (sym none ∙ is))) rests

  pub Applies-made : (refused_there ≡ None → LeavesPuddles w.stored.frames Stays old new) → (refused_there ≡ None → ChangesBeside size w.stored made also ready.mask fault old new)
      → (refused_there ≡ None → fault ≡ None → KeepsPools w.stored.frames None (reads old.now.words) (reads new.now.words))
      → ((refused_there ≡ None → ⊥) → new ≡ old) → (fault ≡ Some Cut → IsRested new.now.words) → Applies size w (world_by w (Some line)) memory fault old new
  Applies-made puddles makes pools still rests = made_by refused_there refl puddles makes pools still rests

-- A client that is not present makes no pool.
pub refused_pool_client : (w : World) (client mode : ℕ) (name : List ℕ) → w.clients client ≡ None → refusal_of w (commands.Pool client name mode) ≡ Some refusals.Client
refused_pool_client w client mode name none =
    refusal_of-pool w client mode name
    ∙ ap (λ who. cond (not (is_some who)) (Some refusals.Client) (cond (is_some (pool_named name w.stored)) (Some refusals.Exists) (cond (is_full_of_pools w.stored) (Some refusals.Full) (cond (lacks_frames w.stored 1) (Some refusals.Space) None)))) none

-- A reply has the fault of the making that it replies to.
pub fault_of_making : (done : Result (Unit {0}) MakeFault) → fault_of (reply_of_making done) ≡ make_fault done
fault_of_making (Ok x) = refl
fault_of_making (Err faults.Exists) = refl
fault_of_making (Err faults.Full) = refl
fault_of_making (Err faults.NoSpace) = refl
fault_of_making (Err (faults.Host fault)) = refl

-- The reply to the making of a pool, on a device of this many frames.
module _ (size : ℕ) (w : World) (memory : Memory) (client uid gid mode F : ℕ) (name : List ℕ) (done : Result (Unit {0}) MakeFault) (result : Result Reply HostFault) (old new : State) (ready : IsReady size w memory old)
    (who : IsActing w client uid gid) (frames : F ≡ w.stored.frames) (is : result ≡ reply_of_making done) where
  abbrev refused_on : ℕ → Option MakeFault
  refused_on n = make_refusal (tables_of n (reads old.now.words)) (reads old.now.words NEXT_NUMBER_WORD) name

  abbrev world_made : StoredWorld
  world_made = with_new_pool name (owner uid gid) mode w.stored

  pub reply_making : (make_fault done ≡ None → refusal_in done ≡ refused_on F) → IfOk result (λ reply. of_reply reply ≡ answer_by w (Some (commands.Pool client name mode)))
  reply_making told =
      subst (λ (r : Result Reply HostFault). IfOk r (λ reply. of_reply reply ≡ answer_by w (Some (commands.Pool client name mode)))) (sym is)
      (reply_made size w memory old ready client uid gid mode name who done (λ none. told none ∙ ap refused_on frames))

  -- What the call does on this many frames, with these words masked.
  abbrev Makes : ℕ → (Image → Type 0) → Type 0
  Makes n also =
      KeepsTables n ready.mask (reads old.now.words) → IsOffMaking ready.mask (tables_of n (reads old.now.words)) (reads old.now.words NEXT_NUMBER_WORD) name uid gid mode
      → IsQuiescent size w.stored (masked ready.mask old.now.words) → HasDurableTables n (masked ready.mask old.now.words) → refused_on n ≡ None
      → ChangesPools size w.stored world_made also (make_fault done) (masked_state ready.mask old) (masked_state ready.mask new)

  abbrev Does : ℕ → Type 0
  Does n = HasIdleGate DAEMON_LOG old.now.words → refused_on n ≡ None
      → OrStill (MakesSomewhere (tables_of n (reads old.now.words)) (reads old.now.words NEXT_NUMBER_WORD) name uid gid mode) (make_fault done) old new

  making_there : (also : Image → Type 0) → Makes w.stored.frames also → Does w.stored.frames → ((refused_on w.stored.frames ≡ None → ⊥) → new ≡ old) → (make_fault done ≡ Some Cut → IsRested new.now.words)
      → Applies size w (world_by w (Some (commands.Pool client name mode))) memory (make_fault done) old new
  making_there also makes does still rests =
      let off = off_making w memory.active ready.mask old.now.words ready.active (reads old.now.words NEXT_NUMBER_WORD) name uid gid mode in
      let idle = ready_gate size w memory old ready in
      Applies-made size w memory client uid gid mode name also (make_fault done) old new ready who
      (λ none. LeavesPuddles-makes w.stored.frames (make_fault done) old new ready.tables idle rests (reads old.now.words NEXT_NUMBER_WORD) name uid gid mode (does idle none))
      (λ none. record {
        beside = LeavesMasked-makes ready.mask (tables_of w.stored.frames (reads old.now.words)) (reads old.now.words NEXT_NUMBER_WORD) name uid gid mode (make_fault done) old new off
            (ready_gate size w memory old ready) rests (does (ready_gate size w memory old ready) none);
        pools = makes (keeps_tables w memory.active ready.mask old.now.words ready.active) off ready.settled (HasDurableTables-masked w.stored.frames ready.mask old.now.words ready.tables) none;
      })
      (λ none done.
      let number = reads old.now.words NEXT_NUMBER_WORD in
      let tables = tables_of w.stored.frames (reads old.now.words) in
      KeepsPools-or_still w.stored.frames None (MakesSomewhere tables number name uid gid mode) old new
      (subst (λ (f : Option HostFault). OrStill (MakesSomewhere tables number name uid gid mode) f old new) done (does (ready_gate size w memory old ready) none))
      (KeepsPools-making w.stored.frames w.stored.next_number number name uid gid mode old new (sound_read size w memory old ready))) still rests

  pub Applies-making : (also : ℕ → Image → Type 0) → Makes F (also F) → Does F → ((refused_on F ≡ None → ⊥) → new ≡ old) → (make_fault done ≡ Some Cut → IsRested new.now.words)
      → Applies size w (world_by w (Some (commands.Pool client name mode))) memory (fault_of result) old new
  Applies-making also =
      let fault : fault_of result ≡ make_fault done = ap (λ (r : Result Reply HostFault). fault_of r) is ∙ fault_of_making done in
      subst (λ (f : Option HostFault). Makes F (also F) → Does F → ((refused_on F ≡ None → ⊥) → new ≡ old) → (make_fault done ≡ Some Cut → IsRested new.now.words)
      → Applies size w (world_by w (Some (commands.Pool client name mode))) memory f old new) (sym fault)
      (subst (λ (n : ℕ). Makes n (also n) → Does n → ((refused_on n ≡ None → ⊥) → new ≡ old) → (make_fault done ≡ Some Cut → IsRested new.now.words)
      → Applies size w (world_by w (Some (commands.Pool client name mode))) memory (make_fault done) old new) (sym frames) (making_there (also w.stored.frames)))

-- ---- a pool is found for its owner

-- The refusals because of what is open.
abbrev open_refusal : ℕ → Option Transaction → Option Refusal
open_refusal client on = cond (is_others client on) (Some refusals.Busy) (cond (is_own client on) (Some refusals.OpenHere) None)

-- A transaction is open on the pool, the client's own or another's.
by_holder : (own : Bool) → cond (not own) (Some refusals.Busy) (cond own (Some refusals.OpenHere) None) ≡ cond own (Some refusals.OpenHere) (Some refusals.Busy)
by_holder true = refl
by_holder false = refl

-- These are the refusals by the pool's session.
open_beside : (client : ℕ) (on : Option Transaction) (holder : Option ℕ) → holder ≡ option_map (λ (t : Transaction). t.client) on → open_refusal client on ≡ refusal_beside holder client
open_beside client None holder is = ap (λ (o : Option ℕ). refusal_beside o client) (sym is)
open_beside client (Some t) holder is = by_holder (eqb t.client client) ∙ ap (λ (o : Option ℕ). refusal_beside o client) (sym is)

some_open : (own : Bool) → cond (not own) (Some refusals.Busy) (cond own (Some refusals.OpenHere) None) ≡ None → ⊥
some_open true none = let no : Some refusals.OpenHere ≡ None = none in cc
some_open false none = let no : Some refusals.Busy ≡ None = none in cc

-- If they refuse nothing, nothing is open.
none_open : (client : ℕ) (on : Option Transaction) → open_refusal client on ≡ None → on ≡ None
none_open client None none = refl
none_open client (Some t) none = absurd (some_open (eqb t.client client) none)

-- A line that is not refused finds nothing open.
all_free : (a b c : Bool) (beside : Option Refusal) → cond a (Some refusals.Client) (cond b (Some refusals.Pool) (cond c (Some refusals.Denied) beside)) ≡ None → beside ≡ None
all_free true b c beside none = absurd (let no : Some refusals.Client ≡ None = none in cc)
all_free false true c beside none = absurd (let no : Some refusals.Pool ≡ None = none in cc)
all_free false false true beside none = absurd (let no : Some refusals.Denied ≡ None = none in cc)
all_free false false false beside none = none

-- A record as it is read.
abbrev read_record : ℕ × PoolRecord → ℕ × PoolRecord
read_record p = (p.0, pool_read p.1)

pub no_record : (o : Option (ℕ × PoolRecord)) → None ≡ option_map read_record o → o ≡ None
no_record None e = refl
no_record (Some x) e = let read : ℕ × PoolRecord = (x.0, pool_read x.1) in absurd (none-some read e)

-- The record of the name in these tables, as it is there and as it is read.
pub record IsNamed (t : Tables) (name : List ℕ) (slot : ℕ) (rec : PoolRecord) : Type 0 where
  pub r : PoolRecord
  pub found : find name_cmp name (records_of t) ≡ Some (slot, r)
  pub same : rec ≡ pool_read r

pub named_by : (t : Tables) (name : List ℕ) (slot : ℕ) (rec : PoolRecord) (o : Option (ℕ × PoolRecord)) → find name_cmp name (records_of t) ≡ o
    → ◌≡◌ {A = Option (ℕ × PoolRecord)} (Some (slot, rec)) (option_map read_record o) → IsNamed t name slot rec
named_by t name slot rec None e is = absurd (none-some {A = ℕ × PoolRecord} (slot, rec) (sym is))
named_by t name slot rec (Some x) e is =
    let same : ◌≡◌ {A = ℕ × PoolRecord} (slot, rec) (read_record x) = same_Some {A = ℕ × PoolRecord} (slot, rec) (read_record x) is in
    let place : slot ≡ x.0 = ap (λ (p : ℕ × PoolRecord). p.0) same in
    record { r = x.1; found = e ∙ ap (λ n. Some (n, x.1)) (sym place); same = ap (λ (p : ℕ × PoolRecord). p.1) same }

-- The world's pool of the name.
pub pool_there : (size : ℕ) (w : World) (memory : Memory) (s : State) (ready : IsReady size w memory s) (name : List ℕ)
    → pool_named name w.stored ≡ option_map (pool_by_record (holding_in w.stored.types w.stored.frames (reads (masked ready.mask s.now.words))) (tables_of w.stored.frames (reads s.now.words)))
    (find name_cmp name (records_of (tables_of w.stored.frames (reads s.now.words))))
pool_there size w memory s ready name =
    ap (find name_cmp name) (sym (pools_read size w memory s ready))
    ∙ pool_by_name (holding_in w.stored.types w.stored.frames (reads (masked ready.mask s.now.words))) (tables_of w.stored.frames (reads s.now.words)) name

module _ (size : ℕ) (w : World) (memory : Memory) (s : State) (ready : IsReady size w memory s) (client : ℕ) (name : List ℕ) where
  abbrev found_tables : Tables
  found_tables = tables_of w.stored.frames (reads s.now.words)

  abbrev active : Reader
  active = holding_in w.stored.types w.stored.frames (reads (masked ready.mask s.now.words))

  abbrev asked : Command
  asked = commands.Drop client name

  abbrev beside_open : Option Refusal
  beside_open = open_refusal client (open_on name w)

  abbrev owned : Option spaces.Owner → Option Pool → Option Refusal
  owned who found = cond (not (is_some who)) (Some refusals.Client) (cond (is_none found) (Some refusals.Pool) (cond (not (has_owner_right who found)) (Some refusals.Denied) beside_open))

  owned_refusal : refusal_of w asked ≡ owned (w.clients client) (pool_named name w.stored)
  owned_refusal = refusal_of-drop w client name

  -- So no transaction is active on the pool.
  pub active_apart : refusal_of w asked ≡ None → IsNotNamed name memory.active
  active_apart free =
      not_named w memory.active ready.mask s.now.words name ready.active
      (none_open client (open_on name w)
      (all_free (not (is_some (w.clients client))) (is_none (pool_named name w.stored)) (not (has_owner_right (w.clients client) (pool_named name w.stored))) beside_open (sym owned_refusal ∙ free)))

  pub refused_client : w.clients client ≡ None → refusal_of w asked ≡ Some refusals.Client
  refused_client none = owned_refusal ∙ ap (λ who. owned who (pool_named name w.stored)) none

  by_owner : (uid gid : ℕ) (found : Option Pool) → w.clients client ≡ Some (owner uid gid) → pool_named name w.stored ≡ found → refusal_of w asked ≡ owned (Some (owner uid gid)) found
  by_owner uid gid found there is = owned_refusal ∙ ap₂ owned there is

  pub refused_pool : (uid gid : ℕ) → w.clients client ≡ Some (owner uid gid) → None ≡ pool_in found_tables name → refusal_of w asked ≡ Some refusals.Pool
  refused_pool uid gid there none =
      by_owner uid gid None there (pool_there size w memory s ready name ∙ ap (option_map (pool_by_record active found_tables)) (no_record (find name_cmp name (records_of found_tables)) none))

  module _ (uid gid slot : ℕ) (rec : PoolRecord) (there : w.clients client ≡ Some (owner uid gid)) (is : ◌≡◌ {A = Option (ℕ × PoolRecord)} (Some (slot, rec)) (pool_in found_tables name)) where
    rec_of : IsNamed found_tables name slot rec
    rec_of = named_by found_tables name slot rec (find name_cmp name (records_of found_tables)) refl is

    by_uid : refusal_of w asked ≡ cond (not (eqb uid rec.uid)) (Some refusals.Denied) beside_open
    unfolding pool_of
    by_uid =
        by_owner uid gid (Some (pool_by_record active found_tables (slot, rec_of.r))) there (pool_there size w memory s ready name ∙ ap (option_map (pool_by_record active found_tables)) rec_of.found)
        ∙ ap (λ n. cond (not (eqb uid n)) (Some refusals.Denied) beside_open) (sym (ap (λ (x : PoolRecord). x.uid) rec_of.same))

    pub refused_denied : eqb uid rec.uid ≡ false → refusal_of w asked ≡ Some refusals.Denied
    refused_denied other = by_uid ∙ ap (λ b. cond (not b) (Some refusals.Denied) beside_open) other

    pub slot_is : IsRecordSlot w.stored.frames name (reads s.now.words) slot
    slot_is = let at = found_record found_tables name slot rec_of.r rec_of.found in record { rec = rec_of.r; used = at.used; name_is = at.name_is }

    -- The owner is not denied its own pool.
    pub not_denied : eqb uid rec.uid ≡ true → refusal_of w asked ≡ refusal_beside (holder_in memory.sessions slot) client
    not_denied same =
        by_uid ∙ ap (λ b. cond (not b) (Some refusals.Denied) beside_open) same
        ∙ open_beside client (open_on name w) (holder_in memory.sessions slot) (holder_is size w memory s ready name slot slot_is)

-- ---- a pool that was found is changed, or dropped

module _ (size : ℕ) (w : World) (memory : Memory) (client slot : ℕ) (name : List ℕ) (fault : Option HostFault) (old new : State) (ready : IsReady size w memory old)
    (free : refusal_of w (commands.Drop client name) ≡ None) (at : IsRecordSlot w.stored.frames name (reads old.now.words) slot) where
  abbrev N : ℕ
  N = w.stored.frames

  abbrev m : Write
  m = ready.mask

  within : slot < POOL_RECORDS
  within = slot_within N slot (reads old.now.words) at.rec at.used

  name_apart : IsNotNamed name memory.active
  name_apart = active_apart size w memory old ready client name free

  slot_apart : (number : ℕ) (h : ActiveTransaction) → active_under memory.active number ≡ Some h → slot ≡ h.slot → ⊥
  slot_apart number h there same =
      let pool = active_pool w memory.active m old.now.words ready.active number h there in
      let both : Some pool.rec ≡ Some at.rec = sym pool.used ∙ ap (tables_of N (reads old.now.words)).pools (sym same) ∙ at.used in
      name_apart number h there (sym pool.name ∙ ap (λ (r : PoolRecord). r.name) (same_Some pool.rec at.rec both) ∙ at.name_is)

  same_tables : tables_of N (reads (masked m old.now.words)) ≡ tables_of N (reads old.now.words)
  same_tables = ap (tables_of N) (reads-masked m old.now.words) ∙ (keeps_tables w memory.active m old.now.words ready.active).tables

  masked_at : IsPoolAt N slot at.rec (masked m old.now.words)
  masked_at = record { tables = HasDurableTables-masked N m old.now.words ready.tables; used = ap (λ (t : Tables). t.pools slot) same_tables ∙ at.used }

  pub Applies-mode : (mode : ℕ) → (fault ≡ Some Cut → IsRested new.now.words)
      → (HasIdleGate DAEMON_LOG old.now.words → Commits DAEMON_LOG (puts_batch (changing slot mode)) fault old new)
      → (IsOff m (ByBatch DAEMON_LOG (puts_batch (changing slot mode))) → IsQuiescent size w.stored (masked m old.now.words) → (r : PoolRecord) → IsPoolAt N slot r (masked m old.now.words)
      → ChangesPools size w.stored (with_pool_mode r.name mode w.stored) (λ _. ⊤) fault (masked_state m old) (masked_state m new))
      → Applies size w (world_by w (Some (Chmod client name mode))) memory fault old new
  unfolding after
  Applies-mode mode rests commits changes =
      let off = off_changing w memory.active m old.now.words ready.active slot within slot_apart mode in
      let idle = ready_gate size w memory old ready in
      let stay : fault ≡ None → KeepsPools w.stored.frames None (reads old.now.words) (reads new.now.words) =
      λ done. KeepsPools-mode N slot mode old new within (subst (λ (f : Option HostFault). Commits DAEMON_LOG (puts_batch (changing slot mode)) f old new) done (commits idle)) in
      Applies-pools Stays size w memory (Chmod client name mode) (with_pool_mode name mode w.stored) (λ _. ⊤) fault old new ready
      (LeavesPuddles-mode N fault old new ready.tables idle rests slot mode within (inr (commits idle))) (refusal_of-owned w client mode name ∙ free) refl
      (keeps_mode w.stored name mode memory.active name_apart)
      (record {
        beside = LeavesMasked-puts m (changing slot mode) fault old new off idle rests (inr (commits idle));
        pools = subst (λ (n : List ℕ). ChangesPools size w.stored (with_pool_mode n mode w.stored) (λ _. ⊤) fault (masked_state m old) (masked_state m new)) at.name_is (changes off ready.settled at.rec masked_at);
      }) memory.known_pools (λ done. knows_still size w memory old new ready (stay done)) None (λ number h there no. none-some h.slot no) stay

  -- What the call does on this many frames, with these words masked.
  abbrev Frees : ℕ → Type 0
  Frees n =
      HasIdleGate DAEMON_LOG old.now.words → count_used (members (tables_of n (reads old.now.words)) slot) 0 n ≤ MAX_PUDDLES
      → OrStill (CommitsPuts (dropping (tables_of n (reads old.now.words)) slot)) fault old new

  abbrev Drops : ℕ → Type 0
  Drops n =
      KeepsTables n m (reads old.now.words) → IsOff m (ByBatch DAEMON_LOG (puts_batch (dropping (tables_of n (reads old.now.words)) slot)))
      → IsQuiescent size w.stored (masked m old.now.words) → (r : PoolRecord) → IsPoolAt N slot r (masked m old.now.words)
      → ChangesPools size w.stored (without_pool r.name w.stored) (λ _. ⊤) fault (masked_state m old) (masked_state m new)

  -- It has at most as many puddles as a pool may have.
  pub few : count_used (members (tables_of N (reads old.now.words)) slot) 0 N ≤ MAX_PUDDLES
  few = subst (λ (t : Tables). count_used (members t slot) 0 N ≤ MAX_PUDDLES) same_tables (few_puddles size w.stored slot at.rec (masked_state m old) within ready.settled masked_at)

  -- Nothing is known about the pool any more.
  abbrev pub less : Memory
  less = record memory { known_pools = set memory.known_pools slot None }

  -- The records of its puddles are freed, and no frontier moves.
  abbrev pub AppliesDrop : Option HostFault → State → State → Type 0
  AppliesDrop = AppliesBy (MovesTo (freed_in slot)) size w (world_by w (Some (commands.Drop client name))) less

  drop_there : (fault ≡ Some Cut → IsRested new.now.words) → Frees N → Drops N → AppliesDrop fault old new
  unfolding after
  drop_there rests frees drops =
      let off = off_dropping w memory.active m old.now.words ready.active slot within slot_apart in
      let idle = ready_gate size w memory old ready in
      let stay : fault ≡ None → KeepsPools w.stored.frames (Some slot) (reads old.now.words) (reads new.now.words) =
      λ done. KeepsPools-drop N slot old new within (subst (λ (f : Option HostFault). OrStill (CommitsPuts (dropping (tables_of N (reads old.now.words)) slot)) f old new) done (frees idle few)) in
      let beside = LeavesMasked-puts m (dropping (tables_of N (reads old.now.words)) slot) fault old new off idle rests (frees idle few) in
      Applies-pools (MovesTo (freed_in slot)) size w memory (commands.Drop client name) (without_pool name w.stored) (λ _. ⊤) fault old new ready
      (LeavesPuddles-drops N fault old new ready.tables idle slot within (frees idle few)) free refl (keeps_drop w.stored name memory.active name_apart)
      (record {
        beside = beside;
        pools = subst (λ (n : List ℕ). ChangesPools size w.stored (without_pool n w.stored) (λ _. ⊤) fault (masked_state m old) (masked_state m new)) at.name_is
            (drops (keeps_tables w memory.active m old.now.words ready.active) off ready.settled at.rec masked_at);
      }) (set memory.known_pools slot None)
      (λ done.
      KnowsPools-dropped N slot memory.known_pools ready.active.opens (reads old.now.words) (reads new.now.words)
      (opens_apart_from w memory.active m old.now.words ready.active slot (λ number h there same. slot_apart number h there (sym same)))
      (stay done) ready.knows) (Some slot) (λ number h there same. slot_apart number h there (same_Some slot h.slot same)) stay

  -- Without a fault the tables that are then read are without the pool.
  pub drop_read : (F : ℕ) → F ≡ w.stored.frames → Frees F → fault ≡ None → tables_of N (reads new.now.words) ≡ without_pool_at slot (tables_of N (reads old.now.words))
  drop_read F frames frees done =
      tables_dropped N slot old new within
      (subst (λ (f : Option HostFault). OrStill (CommitsPuts (dropping (tables_of N (reads old.now.words)) slot)) f old new) done (subst (λ (n : ℕ). Frees n) frames frees (ready_gate size w memory old ready) few))

  pub Applies-drop : (F : ℕ) → F ≡ w.stored.frames → (fault ≡ Some Cut → IsRested new.now.words) → Frees F → Drops F → AppliesDrop fault old new
  Applies-drop F frames rests =
      subst (λ (n : ℕ). Frees n → Drops n → AppliesDrop fault old new) (sym frames) (drop_there rests)
