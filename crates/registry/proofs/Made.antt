-- A pool that is made: what the batch makes of the tables, and the frame that is filled before it.
use Rattle.std.proofs.Common.{◌≡◌, inl, inr, ℕ, ◌+◌, ◌<◌, ◌≤◌, true, false, ltb, eqb, List, [], ◌∷◌, Option, Some, None, option_map, nat_cmp, refl, sym, ap, ap₂, subst, ◌∙◌, arith, le-leb, lt-ltb}
use Rattle.std.specs.Prelude.{slice_get}
use Rattle.std.specs.FinMap.Entries.{put}
use Rattle.std.specs.Cmp.Lexicographic.{nat_list_cmp_total}
use Rattle.std.proofs.lemmas.Bool.{cases_lt, cases_Bool, cond-true, and_from}
use Rattle.pud_defs.specs.declared.layout.TheConstants.{NEXT_NUMBER_WORD, NUMBER_LIMIT, MAX_OWNER_ID, FRAME_WORDS}
use Rattle.pud_defs.specs.declared.records.TheConstants.{POOL_RECORDS}
use Rattle.pud_defs.specs.declared.records.PoolRecord.{PoolRecord}
use Rattle.pud_defs.specs.Formats.Image.{Image}
use Rattle.pud_defs.specs.Formats.Names.{name_cmp}
use Rattle.pud_defs.specs.RegistryTables.Keyed.{first_from}
use Rattle.pud_defs.specs.RegistryTables.Pools.{IsEncodable}
use Rattle.pud_defs.specs.RegistryTables.Puddles.{Member}
use Rattle.pud_defs.specs.RegistryTables.Places.{IsLowestBase}
use Rattle.pud_defs.specs.RegistryTables.Spaces.{Owner, owner}
use Rattle.pud_defs.specs.RegistryTables.Tables.{Tables, Reader, tables_of, member_of, named, records_of, pool_in, pool_of}
use Rattle.pud_defs.specs.RegistryTables.SoundTables.{bases}
use Rattle.pud_defs.specs.RegistryTables.Puts.{with_put, pool_put, member_by, with_pool_at, with_puddle_at, is_of_pool}
use Rattle.pud_defs.specs.StateMachine.PoolChanges.{NUMBERS_DRAWN, lacks_numbers, new_pool, with_new_pool}
use Rattle.pud_defs.specs.Formats.Frames.{IsFreshFrame}
use Rattle.pud_defs.specs.PoolGraphs.Stored.{word_in_frame, stored_in}
use Rattle.pud_defs.specs.PoolGraphs.Graph.{empty_graph}
use Rattle.pud_defs.specs.PoolGraphs.Holdings.{held_as, holding_in}
use Rattle.pud_defs.specs.PoolGraphs.Holdings.Holding.{Sound}
use Rattle.pud_defs.proofs.PoolGraphs.FreshGraph.{graph_of-fresh}
use Rattle.pud_defs.specs.StateMachine.World.{StoredWorld}
use Rattle.pud_defs.proofs.KeyedTables.Keyed.{first_free_some, first_from_none, find-keyed}
use Rattle.pud_defs.proofs.RegistryTables.PutsMade.{pool_put_made}
use Rattle.pud_defs.proofs.RegistryTables.PoolsChanged.{IsPoolMade, made, pools_made}
use Rattle.pud_defs.proofs.RegistryTables.PoolsCounted.{no_member}
use Rattle.pud_defs.proofs.RegistryTables.SoundChanged.{IsAdded, sound_made}
use Rattle.registry.specs.declared.adding.NewPuddle.{NewPuddle}
use Rattle.registry.specs.Puts.{AreOfPools, with_puts}
use Rattle.registry.specs.Adding.{IsFilled, MakesPools, pools_next}
use Rattle.registry.specs.Places.{IsFirstFor}
use Rattle.registry.specs.Pools.{making, IsLegalPool}
use Rattle.registry.proofs.Moved.{ReadsWorld}
use Rattle.registry.proofs.NewPuddles.{other_base, others_bases, given, legal_new, adding_of, adding_next, adding_tables, frontier_of_new}

-- ---- what is free

none_mapped : {A B : Type 0} (g : A → B) (o : Option A) → option_map g o ≡ None → o ≡ None
none_mapped g None none = refl
none_mapped g (Some x) none = absurd (let no : Some (g x) ≡ None = none in cc)

-- no record has the name
pub no_name : (t : Tables) (name : List ℕ) → pool_in t name ≡ None → first_from name_cmp name (named t) 0 POOL_RECORDS ≡ None
unfolding records_of
no_name t name absent = sym (find-keyed name_cmp nat_list_cmp_total name (named t) 0 POOL_RECORDS) ∙ none_mapped _ _ absent

pub none_of : (slot frame : ℕ) (o : Option Member) → member_of slot frame o ≡ None → is_of_pool slot o ≡ false
none_of slot frame None none = refl
none_of slot frame (Some m) none = elim (cases_Bool (eqb m.pool (slot + 1))) [
  | inl of ↦ absurd (let some : Some (m.ordinal, (frame, m.puddle)) ≡ None = sym (cond-true _ _ _ of) ∙ none in cc)
  | inr other ↦ other
]

-- no puddle has the base
no_base : (t : Tables) (base : ℕ) → IsLowestBase t [] base → first_from nat_cmp base (bases t) 0 t.frames ≡ None
no_base t base lowest = first_from_none nat_cmp base (bases t) 0 t.frames (λ f low high. other_base base f (t.puddles f) (others_bases t base lowest f (omega arith)))

enough_numbers : (next : ℕ) → lacks_numbers next ≡ false → next + NUMBERS_DRAWN ≤ NUMBER_LIMIT
enough_numbers next enough = elim (cases_lt NUMBER_LIMIT (next + NUMBERS_DRAWN)) [
  | inl over ↦ absurd (let no : true ≡ false = sym (lt-ltb NUMBER_LIMIT (next + NUMBERS_DRAWN) over) ∙ enough in cc)
  | inr within ↦ within
]

-- the changes that make a pool write only words of pools
pub making_of : (F : ℕ) (r : PoolRecord) (a : NewPuddle) → a.frame < F → a.puddle.pool < POOL_RECORDS → AreOfPools F (making r a)
making_of F r a frame slot = (inr (inl (record { low = omega arith; high = omega arith; some = omega arith; fits = omega arith })), adding_of F (a.puddle.number + 1) (a ∷ []) (frame, slot, tt))

pub made_world : (s : StoredWorld) (name : List ℕ) (who : Owner) (mode : ℕ)
    → pools_next s (s.next_number + NUMBERS_DRAWN) (put name_cmp name (new_pool who mode s.next_number) s.pools) ≡ with_new_pool name who mode s
unfolding with_new_pool
made_world s name who mode = refl

-- ---- the tables

module _ (s : StoredWorld) (image : Image) (a : NewPuddle) (r : PoolRecord) (world : ReadsWorld s image) (place : IsFirstFor (tables_of s.frames image) s.next_number r.name a)
    (legal : IsLegalPool r.name r.uid r.gid r.mode) (number : r.number ≡ s.next_number) where
  abbrev t : Tables
  t = tables_of s.frames image

  abbrev slot : ℕ
  slot = a.puddle.pool

  abbrev m : Member
  m = member_by a.puddle

  same_frames : t.frames ≡ s.frames
  unfolding tables_of
  same_frames = refl

  slot_below : slot < POOL_RECORDS
  slot_below = let free = first_free_some t.pools 0 POOL_RECORDS slot place.slot in let high = free.high in omega arith

  slot_free : t.pools slot ≡ None
  slot_free = (first_free_some t.pools 0 POOL_RECORDS slot place.slot).free

  frame_below : a.frame < t.frames
  frame_below = let free = first_free_some t.puddles 0 t.frames a.frame place.puddle.frame in let high = free.high in omega arith

  drawn : a.puddle.number ≡ s.next_number + 1
  drawn = place.puddle.number_is

  is_made : IsPoolMade t slot a.frame r m
  is_made = record {
    slot_below = slot_below;
    slot_free = slot_free;
    frame_below = frame_below;
    frame_free = (first_free_some t.puddles 0 t.frames a.frame place.puddle.frame).free;
    of = refl;
    none = λ f below. none_of slot f (t.puddles f) (no_member s.next_number t world.sound slot f below slot_free);
    new_name = no_name t r.name place.absent;
  }

  is_held : IsEncodable r
  is_held = let uid = legal.uid_fits in record { name = legal.is_name; legal = legal.has_legal_name; uid = omega arith }

  is_added : IsAdded (s.next_number + NUMBERS_DRAWN) t r m
  is_added =
      let low = world.low in
      record {
        pool = and_from _ _ (and_from _ _ (and_from _ _ (and_from _ _ legal.has_legal_name (le-leb r.uid MAX_OWNER_ID legal.uid_fits)) (le-leb r.gid MAX_OWNER_ID legal.gid_fits)) legal.has_legal_mode)
            (given (s.next_number + NUMBERS_DRAWN) r.number (omega (arith, number)) (omega (arith, number)));
        puddle = legal_new t slot 0 (s.next_number + 1) (s.next_number + NUMBERS_DRAWN) a place.puddle (omega arith) (omega arith);
        first = place.puddle.ordinal_is;
        new_base = no_base t a.puddle.base place.puddle.base;
      }

  made_tables : (i : Image) → tables_of s.frames i ≡ t → tables_of s.frames (with_puts (making r a) i) ≡ made slot a.frame r m t
  unfolding with_puts
  made_tables i same =
      adding_tables s.frames (a.puddle.number + 1) (a ∷ []) (with_put (pool_put slot r) i) (omega (arith, frame_below, same_frames), slot_below, tt)
      (frontier_of_new t slot 0 (s.next_number + 1) a place.puddle, tt)
      ∙ ap (with_puddle_at a.frame (Some m)) (pool_put_made s.frames i slot slot_below r is_held ∙ ap (with_pool_at slot (Some r)) same)

  made_next : (i : Image) → with_puts (making r a) i NEXT_NUMBER_WORD ≡ s.next_number + NUMBERS_DRAWN
  unfolding with_puts
  made_next i = adding_next (a.puddle.number + 1) (a ∷ []) (with_put (pool_put slot r) i) ∙ (let is = drawn in let same : a.puddle.number + 1 ≡ s.next_number + NUMBERS_DRAWN = omega arith in same)

  -- the frame of its puddle stores the empty graph
  nothing_made : (i : Image) → IsFilled s.frames a i → holding_in s.types s.frames i ((a.frame, m.puddle) ∷ []) ≡ Sound empty_graph
  nothing_made i filled =
      let fresh = subst (λ (n : ℕ). IsFreshFrame s.frames a.frame a.puddle.number n i) place.puddle.ordinal_is filled in
      ap (held_as (stored_in s.frames ((a.frame, m.puddle) ∷ []) i)) (graph_of-fresh s.types m.puddle (λ o k. word_in_frame s.frames i k (slice_get ((a.frame, m.puddle) ∷ []) o))
      (λ k below. cond-true (ltb k FRAME_WORDS) _ _ (lt-ltb k FRAME_WORDS below) ∙ fresh.each k below))

  pool_is_new : (hold : Reader) → hold ((a.frame, m.puddle) ∷ []) ≡ Sound empty_graph → pool_of hold r ((m.ordinal, (a.frame, m.puddle)) ∷ []) ≡ new_pool (owner r.uid r.gid) r.mode s.next_number
  unfolding pool_of
  pool_is_new hold empty = λ i. record { owner = owner r.uid r.gid; mode = r.mode; number = number i; classes = place.class i ∷ []; holding = empty i }

  pub MakesPools-made : MakesPools s (s.next_number + NUMBERS_DRAWN) (put name_cmp r.name (new_pool (owner r.uid r.gid) r.mode s.next_number) s.pools) (making r a) (IsFilled s.frames a) t
  MakesPools-made =
      let frame : a.frame < s.frames = omega (arith, frame_below, same_frames) in
      record {
        of = making_of s.frames r a frame slot_below;
        low = omega arith;
        high = enough_numbers s.next_number place.enough;
        next = λ i read. made_next i;
        now = made slot a.frame r m t;
        tables = made_tables;
        pools = λ i filled pools. let hold = holding_in s.types s.frames i in pools_made t slot a.frame r m is_made hold ∙ ap₂ (put name_cmp r.name) (pool_is_new hold (nothing_made i filled)) pools;
        sound = sound_made s.next_number (s.next_number + NUMBERS_DRAWN) (omega arith) t slot a.frame r m world.sound is_made is_added;
      }
