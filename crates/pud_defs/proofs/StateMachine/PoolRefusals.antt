-- Which refusal a line on a pool meets, and what the tables tell about it.
use Rattle.std.proofs.Common.{◌≡◌, ℕ, ◌+◌, ◌<◌, Bool, not, cond, leb, ltb, List, length, map, sum_by, Option, Some, None, option_map, is_some, is_none, refl, sym, ap, subst, ◌∙◌, arith, le-leb, lt-ltb}
use Rattle.std.specs.FinMap.Entries.{find}
use Rattle.std.specs.Ordering.{eq_by_cmp}
use Rattle.std.specs.Cmp.{Equal-is}
use Rattle.std.specs.Cmp.Lexicographic.{nat_list_cmp_total}
use Rattle.std.proofs.lemmas.Bool.{lt-leb, le-ltb}
use Rattle.std.proofs.lemmas.Option.{none-some, cond_some}
use Rattle.pud_defs.specs.declared.records.TheConstants.{POOL_RECORDS}
use Rattle.pud_defs.specs.declared.records.PoolRecord.{PoolRecord}
use Rattle.pud_defs.specs.declared.machine.Command.TheVariants.{Chmod, Import}
use Rattle.pud_defs.specs.declared.machine.Command.TheVariants as commands
use Rattle.pud_defs.specs.declared.machine.Refusal.{Refusal}
use Rattle.pud_defs.specs.declared.machine.Refusal.TheVariants as refusals
use Rattle.pud_defs.specs.Formats.Names.{name_cmp}
use Rattle.pud_defs.specs.RegistryTables.Keyed.{under, keyed, first_free}
use Rattle.pud_defs.specs.RegistryTables.Spaces.{Owner}
use Rattle.pud_defs.specs.RegistryTables.Tables.{Tables, Pool, Reader, named, records_of, pool_in, pool_of, puddles_of, entries, pools_of}
use Rattle.pud_defs.specs.RegistryTables.SoundTables.{HasSoundTables}
use Rattle.pud_defs.specs.StateMachine.World.{World, open_on}
use Rattle.pud_defs.specs.StateMachine.PoolChanges.{pool_named, is_full_of_pools, lacks_frames}
use Rattle.pud_defs.specs.PoolGraphs.ExportFile.{FileContents}
use Rattle.pud_defs.specs.StateMachine.Imports.{is_full_for_file, lacks_frames_for_file}
use Rattle.pud_defs.specs.Output.Listing.{name_text}
use Rattle.pud_defs.specs.StateMachine.Transactions.{is_own, is_others}
use Rattle.pud_defs.specs.StateMachine.Step.{has_owner_right, contents_in, of_contents, clashes_with, cause_holds, refusal_of}
use Rattle.pud_defs.proofs.RegistryTables.PoolsChanged.{same_name}
use Rattle.pud_defs.proofs.KeyedTables.Keyed.{find-keyed, first_from_some, first_free_some, count_used_full, count_used_room}
use Rattle.pud_defs.proofs.KeyedTables.KeyedMaps.{of_entry, keyed-mapped, find-mapped}
use Rattle.pud_defs.proofs.RegistryTables.PoolsCounted.{IsMasked, length_pools, sum_puddles}

-- ---- the machine's refusals, by their parts

-- the refusal of `pool`
abbrev pub making_refusal : Option Owner → Option Pool → (full lacks : Bool) → Option Refusal
making_refusal who found full lacks =
    cond (not (is_some who)) (Some refusals.Client)
    (cond (is_some found) (Some refusals.Exists)
    (cond full (Some refusals.Full)
    (cond lacks (Some refusals.Space) None)))

pub refusal_of-pool : (w : World) (client mode : ℕ) (name : List ℕ)
    → refusal_of w (commands.Pool client name mode) ≡ making_refusal (w.clients client) (pool_named name w.stored) (is_full_of_pools w.stored) (lacks_frames w.stored 1)
unfolding refusal_of cause_holds
refusal_of-pool w client mode name = refl

-- the refusal of a line on a pool that only its owner may give
abbrev pub owning_refusal : Option Owner → Option Pool → (busy own : Bool) → Option Refusal
owning_refusal who found busy own =
    cond (not (is_some who)) (Some refusals.Client)
    (cond (is_none found) (Some refusals.Pool)
    (cond (not (has_owner_right who found)) (Some refusals.Denied)
    (cond busy (Some refusals.Busy)
    (cond own (Some refusals.OpenHere) None))))

pub refusal_of-chmod : (w : World) (client mode : ℕ) (name : List ℕ) → refusal_of w (Chmod client name mode) ≡ owning_refusal (w.clients client) (pool_named name w.stored) (is_others client (open_on name w)) (is_own client (open_on name w))
unfolding refusal_of cause_holds
refusal_of-chmod w client mode name = refl

pub refusal_of-drop : (w : World) (client : ℕ) (name : List ℕ) → refusal_of w (commands.Drop client name) ≡ owning_refusal (w.clients client) (pool_named name w.stored) (is_others client (open_on name w)) (is_own client (open_on name w))
unfolding refusal_of cause_holds
refusal_of-drop w client name = refl

-- the refusal of `import`; that an allocation fails has no cause in the world
abbrev pub importing_refusal : Option Owner → Option Pool → (bytes : Option (List ℕ)) → (contents : Option FileContents) → (clash full lacks : Bool) → Option Refusal
importing_refusal who found bytes contents clash full lacks =
    cond (not (is_some who)) (Some refusals.Client)
    (cond (is_some found) (Some refusals.Exists)
    (cond (is_none bytes) (Some refusals.File)
    (cond (is_none contents) (Some refusals.BadFile)
    (cond clash (Some refusals.Clash)
    (cond full (Some refusals.Full)
    (cond lacks (Some refusals.Space) None))))))

-- the same, by whether the file exists and what it stores
pub refusal_of-import : (w : World) (client mode : ℕ) (name file : List ℕ) (bytes : Option (List ℕ)) (contents : Option FileContents)
    → w.shelf (name_text file) ≡ bytes → contents_in bytes ≡ contents
    → refusal_of w (Import client name file mode)
    ≡ importing_refusal (w.clients client) (pool_named name w.stored) bytes contents (of_contents (λ (c : FileContents). clashes_with w.stored.types c.types) contents) (of_contents (is_full_for_file w.stored) contents) (of_contents (lacks_frames_for_file w.stored) contents)
unfolding refusal_of cause_holds
refusal_of-import w client mode name file bytes contents there is =
    let by : Option (List ℕ) → Option FileContents → Option Refusal = λ b c. importing_refusal (w.clients client) (pool_named name w.stored) b c (of_contents (λ (c : FileContents). clashes_with w.stored.types c.types) c) (of_contents (is_full_for_file w.stored) c) (of_contents (lacks_frames_for_file w.stored) c) in
    ap (λ (b : Option (List ℕ)). by b (contents_in b)) there ∙ ap (by bytes) is

-- ---- what the tables tell

-- the pool of a record, which is given with its slot
abbrev pub pool_by_record : Reader → Tables → ℕ × PoolRecord → Pool
pool_by_record hold t p = pool_of hold p.1 (puddles_of t p.0)

entry_by_record : (hold : Reader) (t : Tables) (slot : ℕ) (r : Option PoolRecord) → option_map (λ r. (r.name, pool_of hold r (puddles_of t slot))) r ≡ option_map (of_entry name_cmp (pool_by_record hold t)) (option_map (λ r. (r.name, (slot, r))) r)
entry_by_record hold t slot None = refl
entry_by_record hold t slot (Some r) = refl

-- the pools are those of the used records
pub pools_by_records : (hold : Reader) (t : Tables) → pools_of hold t ≡ map (of_entry name_cmp (pool_by_record hold t)) (records_of t)
unfolding pools_of records_of
pools_by_records hold t =
    let each : (slot : ℕ) → entries hold t slot ≡ option_map (of_entry name_cmp (pool_by_record hold t)) (named t slot) = λ slot. entry_by_record hold t slot (t.pools slot) in
    (λ p. keyed name_cmp (λ slot. each slot p) 0 POOL_RECORDS) ∙ keyed-mapped name_cmp (pool_by_record hold t) (named t) 0 POOL_RECORDS

pub pool_by_name : (hold : Reader) (t : Tables) (name : List ℕ) → find name_cmp name (pools_of hold t) ≡ option_map (pool_by_record hold t) (find name_cmp name (records_of t))
pool_by_name hold t name = ap (find name_cmp name) (pools_by_records hold t) ∙ find-mapped name_cmp (pool_by_record hold t) name (records_of t)

some_either : {A B C : Type 0} (f : A → B) (g : A → C) (o : Option A) → is_some (option_map f o) ≡ is_some (option_map g o)
some_either f g None = refl
some_either f g (Some x) = refl

-- a pool is found in the table exactly if the world has it
pub found_by_table : (hold : Reader) (t : Tables) (name : List ℕ) → is_some (pool_in t name) ≡ is_some (find name_cmp name (pools_of hold t))
found_by_table hold t name = some_either _ (pool_by_record hold t) (find name_cmp name (records_of t)) ∙ ap is_some (sym (pool_by_name hold t name))

module _ (hold : Reader) (next : ℕ) (t : Tables) (sound : HasSoundTables next t) where
  no_slot : (slot : Option ℕ) → first_free t.pools 0 POOL_RECORDS ≡ slot → is_none slot ≡ leb POOL_RECORDS (length (pools_of hold t))
  no_slot None is = sym (le-leb POOL_RECORDS (length (pools_of hold t)) (omega (arith, length_pools hold next t sound, count_used_full t.pools 0 POOL_RECORDS is)))
  no_slot (Some slot) is =
      let free = first_free_some t.pools 0 POOL_RECORDS slot is in
      let room = count_used_room t.pools 0 POOL_RECORDS slot free.low free.high free.free in
      sym (lt-leb POOL_RECORDS (length (pools_of hold t)) (omega (arith, length_pools hold next t sound)))

  -- no record is free exactly if there are as many pools as records
  pub full_by_table : is_none (first_free t.pools 0 POOL_RECORDS) ≡ leb POOL_RECORDS (length (pools_of hold t))
  full_by_table = no_slot (first_free t.pools 0 POOL_RECORDS) refl

  abbrev used : ℕ
  used = sum_by (λ (e : List ℕ × Pool). length e.1.classes) (pools_of hold t)

  module _ (masked : IsMasked t) where
    no_frame : (frame : Option ℕ) → first_free t.puddles 0 t.frames ≡ frame → is_none frame ≡ ltb t.frames (used + 1)
    no_frame None is = sym (lt-ltb t.frames (used + 1) (omega (arith, sum_puddles next t sound hold masked, count_used_full t.puddles 0 t.frames is)))
    no_frame (Some frame) is =
        let free = first_free_some t.puddles 0 t.frames frame is in
        let room = count_used_room t.puddles 0 t.frames frame free.low free.high free.free in
        sym (le-ltb t.frames (used + 1) (omega (arith, sum_puddles next t sound hold masked)))

    -- no frame is free exactly if there is no room for one more puddle
    pub space_by_table : is_none (first_free t.puddles 0 t.frames) ≡ ltb t.frames (used + 1)
    space_by_table = no_frame (first_free t.puddles 0 t.frames) refl

-- ---- a record that is found

-- the record is in its slot, under its name
pub record IsFoundAt (t : Tables) (name : List ℕ) (slot : ℕ) (r : PoolRecord) : Type 0 where
  pub below : slot < POOL_RECORDS
  pub used : t.pools slot ≡ Some r
  pub name_is : r.name ≡ name

under_name : (t : Tables) (name : List ℕ) (i slot : ℕ) (r : PoolRecord) (o : Option PoolRecord) → i < POOL_RECORDS → t.pools i ≡ o → under {X = ℕ × PoolRecord} name_cmp name (option_map (λ r. (r.name, (i, r))) o) ≡ Some (slot, r) → IsFoundAt t name slot r
under_name t name i slot r None below there is = absurd (none-some (slot, r) is)
under_name t name i slot r (Some x) below there is =
    let parts = cond_some (eq_by_cmp name_cmp name x.name) (i, x) (slot, r) is in
    let place : i ≡ slot = ap (λ (p : ℕ × PoolRecord). p.0) parts.1 in
    let same : x ≡ r = ap (λ (p : ℕ × PoolRecord). p.1) parts.1 in
    record {
      below = subst (λ (n : ℕ). n < POOL_RECORDS) place below;
      used = ap t.pools (sym place) ∙ there ∙ ap Some same;
      name_is = ap (λ (y : PoolRecord). y.name) (sym same) ∙ sym (same_name name x.name ((Equal-is (name_cmp name x.name)).0 parts.0));
    }

pub found_record : (t : Tables) (name : List ℕ) (slot : ℕ) (r : PoolRecord) → find name_cmp name (records_of t) ≡ Some (slot, r) → IsFoundAt t name slot r
unfolding records_of
found_record t name slot r is =
    let first = first_from_some name_cmp name (named t) 0 POOL_RECORDS (slot, r) (sym (find-keyed name_cmp nat_list_cmp_total name (named t) 0 POOL_RECORDS) ∙ is) in
    let high = first.1.high in
    under_name t name first.0 slot r (t.pools first.0) (omega arith) refl first.1.here

-- `chmod` meets the same refusals as `drop`
pub refusal_of-owned : (w : World) (client mode : ℕ) (name : List ℕ) → refusal_of w (Chmod client name mode) ≡ refusal_of w (commands.Drop client name)
refusal_of-owned w client mode name = refusal_of-chmod w client mode name ∙ sym (refusal_of-drop w client name)
