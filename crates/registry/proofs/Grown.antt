-- A pool that grows: what the batch makes of the tables and of the pools, and the frame that is filled before it.
use Rattle.std.proofs.Common.{◌≡◌, inl, inr, ℕ, ◌+◌, ◌-◌, ◌<◌, ◌≤◌, true, ltb, eqb, List, [], ◌∷◌, ◌++◌, length, Option, Some, None, nat_cmp, refl, sym, ap, ap₂, ◌∙◌, subst, arith, lt-ltb, le-ltb, eq-eqb, ne_eqb, replicate, cond, length-append, ⊎_elim}
use Rattle.std.specs.Prelude.{slice_get, slice_index}
use Rattle.std.specs.FinMap.Entries.{put, find}
use Rattle.std.proofs.lemmas.Bool.{cases_eq, cases_lt, cond-true, cond-false, and_parts, and_from, ltb-true, cases_Bool}
use Rattle.std.proofs.lemmas.List.{map-append, length-map, length_push, length-replicate, get_or_past}
use Rattle.std.proofs.lemmas.Option.{same_Some, slice_get_past}
use Rattle.pud_defs.specs.declared.layout.TheConstants.{FRAME_WORDS, NUMBER_LIMIT}
use Rattle.pud_defs.specs.declared.space.TheConstants.{FRAME_MAGIC, FRAME_MAGIC_WORD, FRAME_NUMBER_WORD, FRAME_ORDINAL_WORD, SLOT_SERIAL_WORD}
use Rattle.pud_defs.specs.declared.records.TheConstants.{POOL_RECORDS, MAX_PUDDLES}
use Rattle.pud_defs.specs.declared.records.PoolRecord.{PoolRecord}
use Rattle.pud_defs.specs.declared.records.Puddle.{Puddle}
use Rattle.pud_defs.specs.Formats.Geometry.{ordinal_of}
use Rattle.pud_defs.specs.Formats.Image.{Image}
use Rattle.pud_defs.specs.Formats.Names.{name_cmp}
use Rattle.pud_defs.specs.RegistryTables.Keyed.{under}
use Rattle.pud_defs.specs.Formats.Headers.{is_header}
use Rattle.pud_defs.specs.Formats.Frames.{fresh_header, fresh_frame, IsFreshFrame}
use Rattle.pud_defs.specs.RegistryTables.Puddles.{Member}
use Rattle.pud_defs.specs.RegistryTables.Spaces.{owner}
use Rattle.pud_defs.specs.PoolGraphs.Stored.{Stored, word_in_frame, stored_in, place_begins, class_at, is_slot}
use Rattle.pud_defs.specs.PoolGraphs.Graph.{Graph, graph_of}
use Rattle.pud_defs.specs.PoolGraphs.Holdings.{Holding, held_as, held_by, graph_held, holding_in}
use Rattle.pud_defs.specs.PoolGraphs.Holdings.Holding.{Sound, Wild}
use Rattle.pud_defs.specs.RegistryTables.Tables.{Tables, Pool, Reader, tables_of, puddles_of, listed, pool_of, pools_of}
use Rattle.pud_defs.specs.RegistryTables.Puts.{member_by, with_puddle_at}
use Rattle.pud_defs.specs.StateMachine.PoolChanges.{pool_named, changed_pool, with_puddle_more, with_grown_pool}
use Rattle.pud_defs.specs.StateMachine.World.{StoredWorld}
use Rattle.pud_defs.proofs.PoolGraphs.FreshGraph.{fresh_word, fresh_header_words}
use Rattle.pud_defs.proofs.KeyedTables.Keyed.{first_free_some}
use Rattle.pud_defs.proofs.RegistryTables.PoolsCounted.{few_members, length_puddles}
use Rattle.graph_laws.specs.Reads.{with_puddle, IsGrown}
use Rattle.graph_laws.proofs.SameReads.Words.{begins_low, word_within}
use Rattle.pud_defs.proofs.Formats.Geometry.{some_words}
use Rattle.graph_laws.proofs.FreshPuddles.Grown.{slice_get-front, slice_get-push, graph_of-grown}
use Rattle.graph_laws.proofs.FreshPuddles.StaysWild.{graph_of-wild}
use Rattle.registry.specs.declared.adding.NewPuddle.{NewPuddle}
use Rattle.registry.specs.Adding.{IsFilled, MakesPools, pools_next}
use Rattle.registry.specs.Growth.{puddle_count, growing, IsGrowthFor, PoolHasGraph, PoolHasNoGraph, added_puddle, kept_longer, with_kept_longer, with_wild_grown}
use Rattle.registry.proofs.Moved.{ReadsWorld}
use Rattle.registry.proofs.Changed.{found_pool, changed_there}
use Rattle.registry.proofs.NewPuddles.{other_base, other_old_base, others_bases, legal_new, adding_of, adding_next, adding_tables, frontier_of_new}
use Rattle.pud_defs.specs.RegistryTables.SoundTables.{old_bases}
use Rattle.pud_defs.proofs.RegistryTables.PuddleMore.{IsNextPuddle, sound_more, pools_more}

-- ---- the graph

held_graph : (types : List (ℕ × ℕ)) (st : Stored) (g : Graph) → held_by types st ≡ Sound g → graph_of types st ≡ Some g
held_graph types st g holds = by_graph (graph_of types st) holds
  where
    by_graph : (o : Option Graph) → held_as st o ≡ Sound g → o ≡ Some g
    by_graph None e = absurd (let no : Wild st ≡ Sound g = e in cc)
    by_graph (Some k) e = ap graph_held e

-- what is kept of a pool, whether it has a graph or not
abbrev kept_of : Stored → Holding → Stored
kept_of st (Sound g) = st
kept_of st (Wild kept) = kept

wild_stored : (types : List (ℕ × ℕ)) (st kept : Stored) → held_by types st ≡ Wild kept → (graph_of types st ≡ None) × (st ≡ kept)
wild_stored types st kept holds = by_graph (graph_of types st) holds
  where
    by_graph : (o : Option Graph) → held_as st o ≡ Wild kept → (o ≡ None) × (st ≡ kept)
    by_graph None e = (refl, ap (kept_of st) e)
    by_graph (Some k) e = absurd (let no : Sound k ≡ Wild kept = e in cc)

fresh_past : (number ordinal k : ℕ) → FRAME_WORDS ≤ k → slice_index (fresh_frame number ordinal) k ≡ 0
unfolding fresh_frame
fresh_past number ordinal k past = get_or_past (fresh_frame number ordinal) k 0 (omega (arith, length-append (fresh_header number ordinal) (replicate (FRAME_WORDS - 4) 0), length-replicate {A = ℕ} (FRAME_WORDS - 4) 0))

-- a fresh puddle after the others does not change the graph
module _ (types : List (ℕ × ℕ)) (F : ℕ) (i : Image) (at : List (ℕ × Puddle)) (frame : ℕ) (d : Puddle) (some : 0 < length at) (fresh : IsFreshFrame F frame d.number (length at) i) where
  abbrev longer : List (ℕ × Puddle)
  longer = at ++ (frame, d) ∷ []

  abbrev word : ℕ → ℕ → ℕ
  word o k = word_in_frame F i k (slice_get longer o)

  abbrev st : Stored
  st = stored_in F at i

  stored_longer : stored_in F longer i ≡ with_puddle d word st
  stored_longer = let puddles = map-append (λ (e : ℕ × Puddle). e.1) at ((frame, d) ∷ []) in λ p. record { puddles = puddles p; word = word }

  size : length st.puddles ≡ length at
  size = length-map at (λ (e : ℕ × Puddle). e.1)

  new_word : (k : ℕ) → k < FRAME_WORDS → word (length at) k ≡ slice_index (fresh_frame d.number (length at)) k
  new_word k below = ap (word_in_frame F i k) (slice_get-push at (frame, d)) ∙ cond-true (ltb k FRAME_WORDS) _ _ (lt-ltb k FRAME_WORDS below) ∙ fresh.each k below

  header_word : (k : ℕ) → k < 4 → word (length at) k ≡ slice_index (fresh_header d.number (length at)) k
  header_word k below = new_word k (omega arith) ∙ fresh_header_words d.number (length at) k below

  grown : IsGrown st d word
  grown = record {
    some = omega (arith, size);
    others = λ o k below. ap (word_in_frame F i k) (slice_get-front at ((frame, d) ∷ []) o (omega (arith, size)));
    header =
        subst (λ (n : ℕ). is_header d.number n (word n FRAME_MAGIC_WORD) (word n FRAME_NUMBER_WORD) (word n FRAME_ORDINAL_WORD) ≡ true) (sym size)
        (and_from _ _ (and_from _ _ (eq-eqb _ FRAME_MAGIC (header_word 0 (omega arith))) (eq-eqb _ d.number (header_word 1 (omega arith)))) (eq-eqb _ (length at) (header_word 2 (omega arith))));
    free = λ p low high.
        let longer = with_puddle d word st in
        let here : ordinal_of p ≡ length at = omega (arith, size) in
        let k = place_begins longer p + SLOT_SERIAL_WORD in
        let some = some_words (class_at longer p) in
        let begins = begins_low longer p in
        ⊎_elim
        (λ slot.
        let within = word_within longer p SLOT_SERIAL_WORD slot (omega arith) in
        cond-true _ _ _ slot ∙ ap (λ (n : ℕ). word n k) here ∙ new_word k within ∙ fresh_word d.number (length at) k (omega arith) (omega arith))
        (λ none. cond-false _ _ _ none)
        (cases_Bool (is_slot longer p));
  }

  -- what is kept is what was kept before, and the fresh puddle
  word_kept : (o k : ℕ) → word o k ≡ cond (eqb o (length st.puddles)) (slice_index (fresh_frame d.number o) k) (st.word o k)
  word_kept o k = elim (cases_lt o (length at)) [
    | inl below ↦ ap (word_in_frame F i k) (slice_get-front at ((frame, d) ∷ []) o below) ∙ sym (cond-false _ _ _ (ne_eqb o (length st.puddles) (λ e. absurd (omega (arith, size)))))
    | inr high ↦ elim (cases_eq o (length at)) [
      | inl last ↦ elim (cases_lt k FRAME_WORDS) [
        | inl within ↦ ap (λ (n : ℕ). word n k) last ∙ new_word k within ∙ ap (λ (n : ℕ). slice_index (fresh_frame d.number n) k) (sym last) ∙ sym (cond-true _ _ _ (eq-eqb o (length st.puddles) (last ∙ sym size)))
        | inr past ↦
            ap (λ (n : ℕ). word n k) last ∙ ap (word_in_frame F i k) (slice_get-push at (frame, d)) ∙ cond-false (ltb k FRAME_WORDS) _ _ (le-ltb k FRAME_WORDS past)
            ∙ sym (cond-true _ _ _ (eq-eqb o (length st.puddles) (last ∙ sym size)) ∙ fresh_past d.number o k past)
      ]
      | inr differs ↦
          ap (word_in_frame F i k) (slice_get_past longer o (omega (arith, length_push at (frame, d)))) ∙ ap (word_in_frame F i k) (sym (slice_get_past at o high))
          ∙ sym (cond-false _ _ _ (ne_eqb o (length st.puddles) (λ e. differs (e ∙ size))))
    ]
  ]

  stored_kept : with_puddle d word st ≡ kept_longer d st
  stored_kept = λ p. record { puddles = st.puddles ++ d ∷ []; word = λ o k. word_kept o k p }

  pub still_wild : (kept : Stored) → holding_in types F i at ≡ Wild kept → holding_in types F i longer ≡ Wild (kept_longer d kept)
  still_wild kept holds =
      let was = wild_stored types st kept holds in
      ap (held_by types) stored_longer
      ∙ ap (held_as (with_puddle d word st)) (graph_of-wild types st d word grown was.0)
      ∙ ap (λ (x : Stored). Wild x) (stored_kept ∙ ap (kept_longer d) was.1)

  pub still_holds : (g : Graph) → holding_in types F i at ≡ Sound g → holding_in types F i longer ≡ Sound g
  still_holds g holds = ap (held_by types) stored_longer ∙ ap (held_as (with_puddle d word st)) (graph_of-grown types st d word grown g (held_graph types st g holds))

-- ---- the worlds

pub grown_world : (s : StoredWorld) (name : List ℕ) (class : ℕ) → pools_next s (s.next_number + 1) (changed_pool name (with_puddle_more class) s.pools) ≡ with_grown_pool name class s
unfolding with_grown_pool
grown_world s name class = refl

pub wild_world : (s : StoredWorld) (name : List ℕ) (d : Puddle) (kept : Stored) → pools_next s (s.next_number + 1) (changed_pool name (with_kept_longer d kept) s.pools) ≡ with_wild_grown name d kept s
unfolding with_wild_grown
wild_world s name d kept = refl

-- ---- the tables

module _ (s : StoredWorld) (image : Image) (a : NewPuddle) (r : PoolRecord) (world : ReadsWorld s image) (within : a.puddle.pool < POOL_RECORDS) (used : (tables_of s.frames image).pools a.puddle.pool ≡ Some r)
    (place : IsGrowthFor (tables_of s.frames image) s.next_number a.puddle.pool (puddle_count (tables_of s.frames image) a.puddle.pool) a) where
  abbrev t : Tables
  t = tables_of s.frames image

  abbrev slot : ℕ
  slot = a.puddle.pool

  abbrev m : Member
  m = member_by a.puddle

  same_frames : t.frames ≡ s.frames
  unfolding tables_of
  same_frames = refl

  frame_below : a.frame < t.frames
  frame_below = let free = first_free_some t.puddles 0 t.frames a.frame place.puddle.frame in let high = free.high in omega arith

  within_frames : a.frame < s.frames
  within_frames = omega (arith, frame_below, same_frames)

  ordinal_last : a.puddle.ordinal ≡ length (puddles_of t slot)
  ordinal_last = place.puddle.ordinal_is ∙ sym (length_puddles s.next_number t world.sound slot within)

  few : puddle_count t slot < MAX_PUDDLES
  few = ltb-true (puddle_count t slot) MAX_PUDDLES (and_parts (ltb (puddle_count t slot) MAX_PUDDLES) (ltb s.next_number NUMBER_LIMIT) place.room).0

  left : s.next_number < NUMBER_LIMIT
  left = ltb-true s.next_number NUMBER_LIMIT (and_parts (ltb (puddle_count t slot) MAX_PUDDLES) (ltb s.next_number NUMBER_LIMIT) place.room).1

  next_puddle : IsNextPuddle (s.next_number + 1) t slot a.frame r m
  next_puddle =
      record {
        within = within;
        used = used;
        frame_below = frame_below;
        frame_free = (first_free_some t.puddles 0 t.frames a.frame place.puddle.frame).free;
        of = refl;
        last = ordinal_last;
        few = omega (arith, few, place.puddle.ordinal_is);
        puddle = legal_new t slot (puddle_count t slot) s.next_number (s.next_number + 1) a place.puddle world.low (omega arith);
        new_base = λ f below. other_base a.puddle.base f (t.puddles f) (others_bases t a.puddle.base place.puddle.base f below);
        new_old_base = λ f below.
            subst (λ (b : ℕ). under nat_cmp b (old_bases t slot f) ≡ None) (sym place.puddle.old_base)
            (other_old_base a.puddle.base slot f (t.puddles f) (others_bases t a.puddle.base place.puddle.base f below));
      }

  -- ---- the pools

  abbrev before : List (ℕ × (ℕ × Puddle))
  before = puddles_of t slot

  abbrev after : List (ℕ × (ℕ × Puddle))
  after = before ++ (m.ordinal, (a.frame, m.puddle)) ∷ []

  as_many : length (listed before) ≡ length before
  as_many = length-map before (λ (e : ℕ × (ℕ × Puddle)). e.1)

  some_listed : 0 < length (listed before)
  some_listed = let some = (few_members s.next_number t world.sound slot r within used).some in omega (arith, some, as_many)

  module _ (i : Image) (fresh : IsFilled s.frames a i) (pools : pools_of (holding_in s.types s.frames i) t ≡ s.pools) where
    abbrev hold : Reader
    hold = holding_in s.types s.frames i

    found : find name_cmp r.name s.pools ≡ Some (pool_of hold r before)
    found = ap (find name_cmp r.name) (sym pools) ∙ found_pool hold s.next_number t slot r world.sound within used

    fresh_here : IsFreshFrame s.frames a.frame a.puddle.number (length (listed before)) i
    fresh_here = let place_of : a.puddle.ordinal ≡ length (listed before) = omega (arith, ordinal_last, as_many) in subst (λ (n : ℕ). IsFreshFrame s.frames a.frame a.puddle.number n i) place_of fresh

    held_then : (holding : Holding) → hold (listed before ++ (a.frame, m.puddle) ∷ []) ≡ holding → hold (listed after) ≡ holding
    held_then holding is = ap hold (map-append (λ (e : ℕ × (ℕ × Puddle)). e.1) before ((m.ordinal, (a.frame, m.puddle)) ∷ [])) ∙ is

    -- what the pool has, as it is found by its name
    held_as_found : (pool : Pool) → pool_named r.name s ≡ Some pool → hold (listed before) ≡ pool.holding
    unfolding pool_of
    held_as_found pool there = ap (λ (x : Pool). x.holding) (same_Some (pool_of hold r before) pool (sym found ∙ there))

    pools_grown : (change : Pool → Pool) → pool_of hold r after ≡ change (pool_of hold r before) → pools_of hold (with_puddle_at a.frame (Some m) t) ≡ changed_pool r.name change s.pools
    pools_grown change grown =
        pools_more s.next_number (s.next_number + 1) (omega arith) t slot a.frame r m world.sound next_puddle hold
        ∙ ap₂ (put name_cmp r.name) grown pools
        ∙ sym (changed_there r.name change s.pools (pool_of hold r before) found)

    -- a pool with a graph keeps it
    module _ (g : Graph) (holds : PoolHasGraph r.name s g) where
      held : hold (listed before) ≡ Sound g
      held = held_as_found holds.pool holds.there ∙ holds.holds

      pool_grown : pool_of hold r after ≡ with_puddle_more a.puddle.class (pool_of hold r before)
      unfolding pool_of
      pool_grown =
          let count = map-append (λ (e : ℕ × (ℕ × Puddle)). e.1.1.class) before ((m.ordinal, (a.frame, m.puddle)) ∷ []) in
          let same = held_then (Sound g) (still_holds s.types s.frames i (listed before) a.frame m.puddle some_listed fresh_here g held) ∙ sym held in
          λ k. record { owner = owner r.uid r.gid; mode = r.mode; number = r.number; classes = count k; holding = same k }

    -- a pool without a graph keeps the puddle's words too
    module _ (kept : Stored) (holds : PoolHasNoGraph r.name s kept) where
      wild : hold (listed before) ≡ Wild kept
      wild = held_as_found holds.pool holds.there ∙ holds.holds

      pool_wild : pool_of hold r after ≡ with_kept_longer (added_puddle a) kept (pool_of hold r before)
      unfolding pool_of
      pool_wild =
          let count = map-append (λ (e : ℕ × (ℕ × Puddle)). e.1.1.class) before ((m.ordinal, (a.frame, m.puddle)) ∷ []) in
          let then = held_then (Wild (kept_longer m.puddle kept)) (still_wild s.types s.frames i (listed before) a.frame m.puddle some_listed fresh_here kept wild) in
          λ k. record { owner = owner r.uid r.gid; mode = r.mode; number = r.number; classes = count k; holding = then k }

  MakesPools-by : (change : Pool → Pool)
      → ((i : Image) → IsFilled s.frames a i → pools_of (holding_in s.types s.frames i) t ≡ s.pools
      → pool_of (holding_in s.types s.frames i) r after ≡ change (pool_of (holding_in s.types s.frames i) r before))
      → MakesPools s (s.next_number + 1) (changed_pool r.name change s.pools) (growing a) (IsFilled s.frames a) t
  MakesPools-by change grows =
      record {
        of = adding_of s.frames (a.puddle.number + 1) (a ∷ []) (within_frames, within, tt);
        low = omega arith;
        high = omega (arith, left);
        next = λ i read. adding_next (a.puddle.number + 1) (a ∷ []) i ∙ ap (λ (n : ℕ). n + 1) place.puddle.number_is;
        now = with_puddle_at a.frame (Some m) t;
        tables = λ i same. adding_tables s.frames (a.puddle.number + 1) (a ∷ []) i (within_frames, within, tt) (frontier_of_new t slot (puddle_count t slot) s.next_number a place.puddle, tt) ∙ ap (with_puddle_at a.frame (Some m)) same;
        pools = λ i fresh pools. pools_grown i fresh pools change (grows i fresh pools);
        sound = sound_more s.next_number (s.next_number + 1) (omega arith) t slot a.frame r m world.sound next_puddle;
      }

  pub MakesPools-grown : (g : Graph) → PoolHasGraph r.name s g
      → MakesPools s (s.next_number + 1) (changed_pool r.name (with_puddle_more a.puddle.class) s.pools) (growing a) (IsFilled s.frames a) t
  MakesPools-grown g holds = MakesPools-by (with_puddle_more a.puddle.class) (λ i fresh pools. pool_grown i fresh pools g holds)

  pub MakesPools-wild : (kept : Stored) → PoolHasNoGraph r.name s kept
      → MakesPools s (s.next_number + 1) (changed_pool r.name (with_kept_longer (added_puddle a) kept) s.pools) (growing a) (IsFilled s.frames a) t
  MakesPools-wild kept holds = MakesPools-by (with_kept_longer (added_puddle a) kept) (λ i fresh pools. pool_wild i fresh pools kept holds)
