-- A pool whose mode is changed, and a pool that is dropped: what the batch makes of the tables.
use Rattle.std.proofs.Common.{◌≡◌, ◌⊎◌, inl, inr, ℕ, zero, suc, ◌+◌, ◌<◌, ◌≤◌, Bool, true, false, cond, List, Option, Some, None, option_map, refl, sym, ap, ap₂, subst, ◌∙◌, arith}
use Rattle.std.specs.Prelude.{unwrap_or, ⊤}
use Rattle.std.specs.FinMap.Entries.{put, find}
use Rattle.std.specs.Cmp.Lexicographic.{nat_list_cmp_total}
use Rattle.std.proofs.lemmas.Bool.{cases_lt, cases_eq, cases_Bool, cond-true, cond-false, and_parts, and_from}
use Rattle.pud_defs.specs.declared.layout.TheConstants.{NEXT_NUMBER_WORD, PUDDLE_TABLE}
use Rattle.pud_defs.specs.declared.records.TheConstants.{POOL_RECORDS}
use Rattle.pud_defs.specs.declared.records.PoolRecord.{PoolRecord}
use Rattle.pud_defs.specs.Formats.Image.{Image}
use Rattle.pud_defs.specs.Formats.Modes.{is_legal_mode}
use Rattle.pud_defs.specs.Formats.Names.{name_cmp}
use Rattle.pud_defs.specs.RegistryTables.Keyed.{without}
use Rattle.pud_defs.specs.RegistryTables.Pools.{is_given, is_legal_pool, pool_at}
use Rattle.pud_defs.specs.RegistryTables.Puddles.{Member}
use Rattle.pud_defs.specs.RegistryTables.Tables.{Tables, Pool, Reader, tables_of, puddles_of, pool_of, entries, pools_of}
use Rattle.pud_defs.specs.RegistryTables.SoundTables.{is_sound_pool, HasSoundTables}
use Rattle.pud_defs.specs.RegistryTables.Puts.{with_put, mode_put, free_pool_put, free_puddle_put, with_pool_at, with_puddle_at, with_mode, is_of_pool, without_pool_at}
use Rattle.pud_defs.specs.StateMachine.PoolChanges.{changed_pool, with_pool_mode, without_pool}
use Rattle.pud_defs.specs.PoolGraphs.Holdings.{holding_in}
use Rattle.pud_defs.specs.StateMachine.World.{StoredWorld}
use Rattle.pud_defs.proofs.KeyedTables.Keyed.{find-keyed_place}
use Rattle.pud_defs.proofs.RegistryTables.TablesOf.{frames_of_tables, pools_below, puddles_beyond}
use Rattle.pud_defs.proofs.RegistryTables.PutsMade.{with_put-outside, mode_put_made, free_pool_put_made, free_puddle_put_made}
use Rattle.pud_defs.proofs.RegistryTables.PoolsChanged.{distinct_entries, entry_of, changed_here, changed_elsewhere, pools_changed, pools_dropped}
use Rattle.pud_defs.proofs.RegistryTables.SoundChanged.{legal_pool, distinct_names, sound_changed, sound_dropped}
use Rattle.registry.specs.Puts.{with_puts, AreOfPools}
use Rattle.registry.specs.Pools.{changing, freeing, dropping}
use Rattle.registry.specs.Adding.{MakesPools, pools_next}
use Rattle.registry.proofs.Moved.{ReadsWorld}

-- the pool of a used record is found under its name
pub found_pool : (hold : Reader) (next : ℕ) (t : Tables) (slot : ℕ) (r : PoolRecord) → HasSoundTables next t → slot < POOL_RECORDS → t.pools slot ≡ Some r → find name_cmp r.name (pools_of hold t) ≡ Some (pool_of hold r (puddles_of t slot))
unfolding pools_of
found_pool hold next t slot r sound within used =
    find-keyed_place name_cmp nat_list_cmp_total (entries hold t) 0 POOL_RECORDS slot (r.name, pool_of hold r (puddles_of t slot)) (distinct_entries hold t (distinct_names next t sound)) (omega arith) (omega arith)
    (ap (entry_of hold (puddles_of t slot)) used)

-- ---- a mode

-- the change lies within the pool table
pub changing_of : (F slot mode : ℕ) → slot < POOL_RECORDS → AreOfPools F (changing slot mode)
changing_of F slot mode within = (inr (inl (record { low = omega arith; high = omega arith; some = omega arith; fits = omega arith })), tt)

legal_with_mode : (next mode : ℕ) (r : PoolRecord) → is_legal_pool next r ≡ true → is_legal_mode mode ≡ true → is_legal_pool next (record r { mode = mode }) ≡ true
legal_with_mode next mode r legal is =
    let given = and_parts _ (is_given next r.number) legal in
    let old = and_parts _ (is_legal_mode r.mode) given.0 in
    and_from _ _ (and_from _ _ old.0 is) given.1

pool_with_mode : (hold : Reader) (mode : ℕ) (r : PoolRecord) (t : Tables) (slot : ℕ) → pool_of hold (record r { mode = mode }) (puddles_of t slot) ≡ record (pool_of hold r (puddles_of t slot)) { mode = mode }
unfolding pool_of
pool_with_mode hold mode r t slot = refl

pub changed_there : (name : List ℕ) (change : Pool → Pool) (pools : List (List ℕ × Pool)) (p : Pool) → find name_cmp name pools ≡ Some p → changed_pool name change pools ≡ put name_cmp name (change p) pools
changed_there name change pools p is = ap (λ o. unwrap_or (option_map (λ p. put name_cmp name (change p) pools) o) pools) is

module _ (s : StoredWorld) (image : Image) (slot mode : ℕ) (r : PoolRecord) (world : ReadsWorld s image) (within : slot < POOL_RECORDS) (used : (tables_of s.frames image).pools slot ≡ Some r) (legal : is_legal_mode mode ≡ true) where
  abbrev t : Tables
  t = tables_of s.frames image

  abbrev now : PoolRecord
  now = record r { mode = mode }

  mode_tables : (i : Image) → tables_of s.frames i ≡ t → tables_of s.frames (with_puts (changing slot mode) i) ≡ with_pool_at slot (Some now) t
  unfolding with_puts
  mode_tables i same =
      let there : pool_at i slot ≡ Some r = sym (pools_below s.frames i slot within) ∙ ap (λ (u : Tables). u.pools slot) same ∙ used in
      mode_put_made s.frames i slot within mode ∙ ap₂ (λ o u. with_pool_at slot (with_mode mode o) u) there same

  mode_next : (i : Image) → i NEXT_NUMBER_WORD ≡ s.next_number → with_puts (changing slot mode) i NEXT_NUMBER_WORD ≡ s.next_number
  unfolding with_puts
  mode_next i same = with_put-outside (mode_put slot mode) i NEXT_NUMBER_WORD (λ low high. omega arith) ∙ same

  pub MakesPools-mode : MakesPools s s.next_number (changed_pool r.name (λ p. record p { mode = mode }) s.pools) (changing slot mode) (λ _. ⊤) t
  MakesPools-mode = record {
    of = changing_of s.frames slot mode within;
    low = world.low;
    high = world.high;
    next = mode_next;
    now = with_pool_at slot (Some now) t;
    tables = mode_tables;
    pools = λ i _ pools.
        let hold = holding_in s.types s.frames i in
        pools_changed t slot r (distinct_names s.next_number t world.sound) within used hold now refl
        ∙ ap₂ (λ p ps. put name_cmp r.name p ps) (pool_with_mode hold mode r t slot) pools
        ∙ sym (changed_there r.name (λ p. record p { mode = mode }) s.pools (pool_of hold r (puddles_of t slot)) (ap (find name_cmp r.name) (sym pools) ∙ found_pool hold s.next_number t slot r world.sound within used));
    sound = sound_changed s.next_number t slot r now world.sound within used refl
        (legal_with_mode s.next_number mode r (sym (ap (is_sound_pool s.next_number) used) ∙ legal_pool s.next_number t world.sound slot within) legal);
  }

-- ---- a pool is dropped

-- the tables after the records of the pool's puddles are freed, one after another
unfoldable freed : (ℕ → Option Member) → (slot : ℕ) → Tables → (frame count : ℕ) → Tables
freed at slot u frame zero = u
freed at slot u frame (suc count) = freed at slot (cond (is_of_pool slot (at frame)) (with_puddle_at frame None u) u) (frame + 1) count

freed_by : (F : ℕ) (at : ℕ → Option Member) (slot frame count : ℕ) (i : Image) → frame + count ≤ F → tables_of F (with_puts (freeing at slot frame count) i) ≡ freed at slot (tables_of F i) frame count
unfolding with_puts freeing freed
freed_by F at slot frame zero i below = refl
freed_by F at slot frame (suc count) i below = elim (cases_Bool (is_of_pool slot (at frame))) [
  | inl of ↦
      ap (λ puts. tables_of F (with_puts puts i)) (cond-true _ _ _ of)
      ∙ freed_by F at slot (frame + 1) count (with_put (free_puddle_put frame) i) (omega arith)
      ∙ ap (λ u. freed at slot u (frame + 1) count) (free_puddle_put_made F i frame (omega arith) ∙ sym (cond-true _ _ _ of))
  | inr other ↦
      ap (λ puts. tables_of F (with_puts puts i)) (cond-false _ _ _ other)
      ∙ freed_by F at slot (frame + 1) count i (omega arith)
      ∙ ap (λ u. freed at slot u (frame + 1) count) (sym (cond-false _ _ _ other))
]

freed_parts : (at : ℕ → Option Member) (slot : ℕ) (u : Tables) (frame count : ℕ) → ((freed at slot u frame count).frames ≡ u.frames) × ((freed at slot u frame count).pools ≡ u.pools)
unfolding freed
freed_parts at slot u frame zero = (refl, refl)
freed_parts at slot u frame (suc count) =
    let rest = freed_parts at slot (cond (is_of_pool slot (at frame)) (with_puddle_at frame None u) u) (frame + 1) count in
    let here = one_part (is_of_pool slot (at frame)) in
    (rest.0 ∙ here.0, rest.1 ∙ here.1)
  where
    one_part : (b : Bool) → ((cond b (with_puddle_at frame None u) u).frames ≡ u.frames) × ((cond b (with_puddle_at frame None u) u).pools ≡ u.pools)
    one_part true = (refl, refl)
    one_part false = (refl, refl)

-- the record of a frame outside these frames does not change
freed_elsewhere : (at : ℕ → Option Member) (slot : ℕ) (u : Tables) (frame count f : ℕ) → (f < frame) ⊎ (frame + count ≤ f) → (freed at slot u frame count).puddles f ≡ u.puddles f
unfolding freed
freed_elsewhere at slot u frame zero f apart = refl
freed_elsewhere at slot u frame (suc count) f apart =
    freed_elsewhere at slot (cond (is_of_pool slot (at frame)) (with_puddle_at frame None u) u) (frame + 1) count f (let further : (f < frame + 1) ⊎ (frame + 1 + count ≤ f) = elim apart [ inl low ↦ inl (omega arith) | inr high ↦ inr (omega arith) ] in further)
    ∙ one_other (is_of_pool slot (at frame))
  where
    other : f ≡ frame → ⊥
    other e = elim apart [ inl low ↦ absurd (omega arith) | inr high ↦ absurd (omega arith) ]

    one_other : (b : Bool) → (cond b (with_puddle_at frame None u) u).puddles f ≡ u.puddles f
    one_other true = changed_elsewhere frame None u.puddles f other
    one_other false = refl

freed_there : (at : ℕ → Option Member) (slot : ℕ) (u : Tables) (frame count f : ℕ) → frame ≤ f → f < frame + count → (freed at slot u frame count).puddles f ≡ cond (is_of_pool slot (at f)) None (u.puddles f)
unfolding freed
freed_there at slot u frame zero f low high = absurd (omega arith)
freed_there at slot u frame (suc count) f low high = elim (cases_eq f frame) [
  | inl e ↦
      freed_elsewhere at slot (cond (is_of_pool slot (at frame)) (with_puddle_at frame None u) u) (frame + 1) count f (inl (omega arith))
      ∙ ap (cond (is_of_pool slot (at frame)) (with_puddle_at frame None u) u).puddles e
      ∙ here (is_of_pool slot (at frame))
      ∙ sym (ap (λ k. cond (is_of_pool slot (at k)) None (u.puddles k)) e)
  | inr other ↦
      freed_there at slot (cond (is_of_pool slot (at frame)) (with_puddle_at frame None u) u) (frame + 1) count f (omega arith) (omega arith)
      ∙ ap (cond (is_of_pool slot (at f)) None) (apart other (is_of_pool slot (at frame)))
]
  where
    here : (b : Bool) → (cond b (with_puddle_at frame None u) u).puddles frame ≡ cond b None (u.puddles frame)
    here true = changed_here frame None u.puddles
    here false = refl

    apart : (f ≡ frame → ⊥) → (b : Bool) → (cond b (with_puddle_at frame None u) u).puddles f ≡ u.puddles f
    apart other true = changed_elsewhere frame None u.puddles f other
    apart other false = refl

none_either : {A : Type 0} (b : Bool) (o : Option A) → o ≡ None → cond b None o ≡ o
none_either true o none = sym none
none_either false o none = refl

freeing_of : (F : ℕ) (at : ℕ → Option Member) (slot frame count : ℕ) → frame + count ≤ F → AreOfPools F (freeing at slot frame count)
unfolding freeing
freeing_of F at slot frame zero below = tt
freeing_of F at slot frame (suc count) below = elim (cases_Bool (is_of_pool slot (at frame))) [
  | inl of ↦ subst (AreOfPools F) (sym (cond-true _ _ _ of))
      (inr (inr (record { low = omega arith; high = omega arith; some = omega arith; fits = omega arith })), freeing_of F at slot (frame + 1) count (omega arith))
  | inr other ↦ subst (AreOfPools F) (sym (cond-false _ _ _ other)) (freeing_of F at slot (frame + 1) count (omega arith))
]

-- the changes lie within the tables
pub dropping_of : (F : ℕ) (t : Tables) (slot : ℕ) → slot < POOL_RECORDS → t.frames ≤ F → AreOfPools F (dropping t slot)
dropping_of F t slot within few = (inr (inl (record { low = omega arith; high = omega arith; some = omega arith; fits = omega arith })), freeing_of F t.puddles slot 0 t.frames (omega arith))

-- freeing the records of puddles writes no word before the puddle table
freeing_after : (at : ℕ → Option Member) (slot frame count : ℕ) (i : Image) (k : ℕ) → k < PUDDLE_TABLE → with_puts (freeing at slot frame count) i k ≡ i k
unfolding with_puts freeing
freeing_after at slot frame zero i k below = refl
freeing_after at slot frame (suc count) i k below = elim (cases_Bool (is_of_pool slot (at frame))) [
  | inl of ↦
      ap (λ puts. with_puts puts i k) (cond-true _ _ _ of)
      ∙ freeing_after at slot (frame + 1) count (with_put (free_puddle_put frame) i) k below
      ∙ with_put-outside (free_puddle_put frame) i k (λ low high. omega arith)
  | inr other ↦ ap (λ puts. with_puts puts i k) (cond-false _ _ _ other) ∙ freeing_after at slot (frame + 1) count i k below
]

module _ (F : ℕ) (image : Image) (slot : ℕ) (within : slot < POOL_RECORDS) where
  abbrev whole : Tables
  whole = tables_of F image

  puddle_dropped : (f : ℕ) → (freed whole.puddles slot (with_pool_at slot None whole) 0 whole.frames).puddles f ≡ cond (is_of_pool slot (whole.puddles f)) None (whole.puddles f)
  puddle_dropped f = elim (cases_lt f whole.frames) [
    | inl below ↦ freed_there whole.puddles slot (with_pool_at slot None whole) 0 whole.frames f (omega arith) (omega arith)
    | inr beyond ↦
        freed_elsewhere whole.puddles slot (with_pool_at slot None whole) 0 whole.frames f (inr (omega arith))
        ∙ sym (none_either (is_of_pool slot (whole.puddles f)) (whole.puddles f) (puddles_beyond F image f (omega (arith, frames_of_tables F image))))
  ]

  all_freed : freed whole.puddles slot (with_pool_at slot None whole) 0 whole.frames ≡ without_pool_at slot whole
  all_freed =
      let u = with_pool_at slot None whole in
      let parts = freed_parts whole.puddles slot u 0 whole.frames in
      λ p. record { frames = parts.0 p; pools = parts.1 p; puddles = λ f. puddle_dropped f p }

  -- on any image with these tables, dropping the pool leaves the tables without the pool
  pub drop_tables : (i : Image) → tables_of F i ≡ whole → tables_of F (with_puts (dropping whole slot) i) ≡ without_pool_at slot whole
  unfolding with_puts
  drop_tables i same =
      freed_by F whole.puddles slot 0 whole.frames (with_put (free_pool_put slot) i) (omega (arith, frames_of_tables F image))
      ∙ ap (λ u. freed whole.puddles slot u 0 whole.frames) (free_pool_put_made F i slot within ∙ ap (with_pool_at slot None) same)
      ∙ all_freed

module _ (s : StoredWorld) (image : Image) (slot : ℕ) (r : PoolRecord) (world : ReadsWorld s image) (within : slot < POOL_RECORDS) (used : (tables_of s.frames image).pools slot ≡ Some r) where
  abbrev dropped_from : Tables
  dropped_from = tables_of s.frames image

  drop_next : (i : Image) → i NEXT_NUMBER_WORD ≡ s.next_number → with_puts (dropping dropped_from slot) i NEXT_NUMBER_WORD ≡ s.next_number
  unfolding with_puts
  drop_next i same =
      freeing_after dropped_from.puddles slot 0 dropped_from.frames (with_put (free_pool_put slot) i) NEXT_NUMBER_WORD (omega arith)
      ∙ with_put-outside (free_pool_put slot) i NEXT_NUMBER_WORD (λ low high. omega arith) ∙ same

  pub MakesPools-drop : MakesPools s s.next_number (without name_cmp r.name s.pools) (dropping dropped_from slot) (λ _. ⊤) dropped_from
  MakesPools-drop = record {
    of = dropping_of s.frames dropped_from slot within (omega (arith, frames_of_tables s.frames image));
    low = world.low;
    high = world.high;
    next = drop_next;
    now = without_pool_at slot dropped_from;
    tables = drop_tables s.frames image slot within;
    pools = λ i _ pools. pools_dropped dropped_from slot r (distinct_names s.next_number dropped_from world.sound) within used (holding_in s.types s.frames i) ∙ ap (without name_cmp r.name) pools;
    sound = sound_dropped s.next_number dropped_from slot r world.sound within used;
  }

-- ---- the worlds that the changes make

pub mode_world : (s : StoredWorld) (name : List ℕ) (mode : ℕ) → pools_next s s.next_number (changed_pool name (λ p. record p { mode = mode }) s.pools) ≡ with_pool_mode name mode s
unfolding with_pool_mode
mode_world s name mode = refl

pub drop_world : (s : StoredWorld) (name : List ℕ) → pools_next s s.next_number (without name_cmp name s.pools) ≡ without_pool name s
unfolding without_pool
drop_world s name = refl
