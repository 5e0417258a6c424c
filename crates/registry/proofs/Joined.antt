-- What calls that change pools promise, derived from what their batches do.
use Rattle.std.proofs.Common.{◌≡◌, inl, inr, ℕ, ◌+◌, ◌-◌, ◌<◌, ◌≤◌, true, List, Option, Some, None, refl, sym, ap, subst, ◌∙◌, arith}
use Rattle.std.specs.Prelude.{⊤}
use Rattle.pm_model.specs.declared.host.HostFault.{HostFault}
use Rattle.pm_model.specs.Words.{Words, Picks, reads}
use Rattle.pm_model.specs.Moments.{State}
use Rattle.pm_model.specs.Changes.{Write, written, Persists, Silently}
use Rattle.pm_model.specs.Masks.{masked, masked_state, masked_image}
use Rattle.pm_model.proofs.Masks.{reads-masked}
use Rattle.pm_model.proofs.Leaves.{Leaves-weaker}
use Rattle.pud_defs.specs.declared.layout.TheConstants.{DAEMON_LOG, NEXT_NUMBER_WORD}
use Rattle.pud_defs.specs.declared.records.TheConstants.{POOL_RECORDS, MAX_PUDDLES}
use Rattle.pud_defs.specs.declared.records.PoolRecord.{PoolRecord}
use Rattle.pud_defs.specs.declared.records.Put.{Put}
use Rattle.pud_defs.specs.Formats.Image.{Image}
use Rattle.pud_defs.specs.Logging.Entries.{Entry}
use Rattle.pud_defs.specs.Formats.Frames.{fresh_frame, IsFreshFrame}
use Rattle.pud_defs.specs.RegistryTables.Keyed.{first_free, count_used, without}
use Rattle.pud_defs.specs.Logging.Replay.{settled_by}
use Rattle.pud_defs.proofs.KeyedTables.Keyed.{first_free_some}
use Rattle.pud_defs.specs.Formats.Modes.{is_legal_mode}
use Rattle.pud_defs.specs.Formats.Names.{name_cmp}
use Rattle.pud_defs.specs.RegistryTables.Spaces.{owner}
use Rattle.pud_defs.specs.RegistryTables.Tables.{Tables, Pool, tables_of, members}
use Rattle.std.specs.FinMap.Entries.{put}
use Rattle.pud_defs.specs.Formats.Layout.{tables_end}
use Rattle.pud_defs.specs.StateMachine.PoolChanges.{NUMBERS_DRAWN, changed_pool, new_pool, with_puddle_more, with_new_pool, with_pool_mode, without_pool}
use Rattle.pud_defs.specs.StateMachine.World.{StoredWorld}
use Rattle.pud_defs.proofs.RegistryTables.TablesOf.{tables_of-same, frames_of_tables}
use Rattle.pud_defs.proofs.RegistryTables.PoolsCounted.{few_members, length_puddles}
use Rattle.batch.specs.Batches.{HasIdleGate, IsFree, Commits}
use Rattle.batch.specs.Worlds.{IsQuiescent, MovesBy, Moves, IsBetween}
use Rattle.batch.specs.Tables.{HasDurableTables}
use Rattle.batch.proofs.Tables.{reads_kept}
use Rattle.registry.specs.declared.adding.NewPuddle.{NewPuddle}
use Rattle.registry.specs.Puts.{puts_batch, AreOfPools}
use Rattle.registry.specs.Adding.{filling, IsFilled, PersistsThenCommits, IsOffAdding, MakesPools, pools_next, AddsTo}
use Rattle.registry.specs.Places.{IsFirstFor}
use Rattle.registry.specs.Pools.{changing, dropping, making, new_record, OrStill, MakesSomewhere, KeepsTables, IsPoolAt, HasFreshFrame, MayStand, ChangesPools, ChangesMasked, MayMake, MakesPool}
use Rattle.registry.specs.Growth.{growing, added_puddle, with_kept_longer, GrowsAt}
use Rattle.registry.proofs.PutBatches.{of_tables, IsFree-puts}
use Rattle.registry.proofs.Moved.{ReadsWorld, reads_world, MovesBy-puts, ChangesPools-moves}
use Rattle.registry.proofs.Changed.{MakesPools-mode, mode_world, MakesPools-drop, drop_world}
use Rattle.registry.proofs.Made.{MakesPools-made, made_world}
use Rattle.registry.proofs.Grown.{MakesPools-grown, MakesPools-wild, grown_world, wild_world}
use Rattle.registry.proofs.Filled.{length-fresh_frame, not_filled, IsQuiescent-filled, HasDurableTables-filled, IsFreeFrame, filled_before, filled_after, ChangesPools-filled}

-- the batch of changes that makes these pools changes the pools wholly or not at all
changes_by : (size : ℕ) (s next : StoredWorld) (number : ℕ) (ps : List (List ℕ × Pool)) (puts : List Put) (has also : Image → Type 0) (fault : Option HostFault) (a b : State) → pools_next s number ps ≡ next
    → IsQuiescent size s a.now.words → HasDurableTables s.frames a.now.words → MakesPools s number ps puts has (tables_of s.frames (reads a.now.words))
    → ((image : Image) → Picks a.now.words image → has (settled_by DAEMON_LOG image))
    → ((image : Image) → IsBetween size s next (puts_batch puts) a.now.words image → also image)
    → (MovesBy size s next (puts_batch puts) a.now.words → Moves size s next (puts_batch puts) fault a b)
    → ChangesPools size s next also fault a b
changes_by size s next number ps puts has also fault a b is settled tables makes before besides moves =
    ChangesPools-moves size s next puts also fault a b (of_tables s.frames puts makes.of) tables besides
    (moves (subst (λ (n : StoredWorld). MovesBy size s n (puts_batch puts) a.now.words) is (MovesBy-puts size s number ps puts a.now.words settled tables has makes before)))

-- a pool's mode is changed
pub ChangesPools-mode : (size : ℕ) (s : StoredWorld) (slot mode : ℕ) (r : PoolRecord) (es : List Entry) (fault : Option HostFault) (a b : State) → slot < POOL_RECORDS → IsQuiescent size s a.now.words
    → IsPoolAt s.frames slot r a.now.words → is_legal_mode mode ≡ true → es ≡ puts_batch (changing slot mode)
    → (MovesBy size s (with_pool_mode r.name mode s) es a.now.words → Moves size s (with_pool_mode r.name mode s) es fault a b)
    → ChangesPools size s (with_pool_mode r.name mode s) (λ _. ⊤) fault a b
ChangesPools-mode size s slot mode r es fault a b within settled at legal is moves =
    let world = reads_world size s a.now.words settled at.tables in
    changes_by size s (with_pool_mode r.name mode s) s.next_number (changed_pool r.name (λ p. record p { mode = mode }) s.pools) (changing slot mode) (λ _. ⊤) (λ _. ⊤) fault a b (mode_world s r.name mode)
    settled at.tables (MakesPools-mode s (reads a.now.words) slot mode r world within at.used legal) (λ image picked. tt) (λ image between. tt)
    (subst (λ (es : List Entry). MovesBy size s (with_pool_mode r.name mode s) es a.now.words → Moves size s (with_pool_mode r.name mode s) es fault a b) is moves)

-- an existing pool has at most 16 puddles
pub few_puddles : (size : ℕ) (s : StoredWorld) (slot : ℕ) (r : PoolRecord) (a : State) → slot < POOL_RECORDS → IsQuiescent size s a.now.words → IsPoolAt s.frames slot r a.now.words
    → count_used (members (tables_of s.frames (reads a.now.words)) slot) 0 s.frames ≤ MAX_PUDDLES
few_puddles size s slot r a within settled at =
    let world = reads_world size s a.now.words settled at.tables in
    let t = tables_of s.frames (reads a.now.words) in
    let few = few_members s.next_number t world.sound slot r within at.used in
    let count = length_puddles s.next_number t world.sound slot within in
    subst (λ (n : ℕ). count_used (members t slot) 0 n ≤ MAX_PUDDLES) (frames_of_tables s.frames (reads a.now.words)) (let most = few.few in omega (arith, count))

-- a pool is dropped
pub ChangesPools-drop : (size : ℕ) (s : StoredWorld) (slot : ℕ) (r : PoolRecord) (es : List Entry) (fault : Option HostFault) (a b : State) → slot < POOL_RECORDS → IsQuiescent size s a.now.words
    → IsPoolAt s.frames slot r a.now.words → es ≡ puts_batch (dropping (tables_of s.frames (reads a.now.words)) slot)
    → (MovesBy size s (without_pool r.name s) es a.now.words → Moves size s (without_pool r.name s) es fault a b)
    → ChangesPools size s (without_pool r.name s) (λ _. ⊤) fault a b
ChangesPools-drop size s slot r es fault a b within settled at is moves =
    let world = reads_world size s a.now.words settled at.tables in
    changes_by size s (without_pool r.name s) s.next_number (without name_cmp r.name s.pools) (dropping (tables_of s.frames (reads a.now.words)) slot) (λ _. ⊤) (λ _. ⊤) fault a b (drop_world s r.name)
    settled at.tables (MakesPools-drop s (reads a.now.words) slot r world within at.used) (λ image picked. tt) (λ image between. tt)
    (subst (λ (es : List Entry). MovesBy size s (without_pool r.name s) es a.now.words → Moves size s (without_pool r.name s) es fault a b) is moves)

-- a pool is dropped after the search for its puddles
pub ChangesPools-dropped : (size : ℕ) (s : StoredWorld) (F slot : ℕ) (r : PoolRecord) (es : List Entry) (fault : Option HostFault) (a b c : State) → b ≡ a → F ≡ s.frames → slot < POOL_RECORDS
    → IsQuiescent size s a.now.words → IsPoolAt s.frames slot r a.now.words
    → (count_used (members (tables_of F (reads a.now.words)) slot) 0 F ≤ MAX_PUDDLES → es ≡ puts_batch (dropping (tables_of F (reads a.now.words)) slot))
    → (IsQuiescent size s b.now.words → MovesBy size s (without_pool r.name s) es b.now.words → Moves size s (without_pool r.name s) es fault b c)
    → ChangesPools size s (without_pool r.name s) (λ _. ⊤) fault a c
ChangesPools-dropped size s F slot r es fault a b c same frames within settled at gathered moves =
    let here = subst (λ (b : State). IsQuiescent size s b.now.words → MovesBy size s (without_pool r.name s) es b.now.words → Moves size s (without_pool r.name s) es fault b c) same moves in
    let batch = subst (λ (n : ℕ). count_used (members (tables_of n (reads a.now.words)) slot) 0 n ≤ MAX_PUDDLES → es ≡ puts_batch (dropping (tables_of n (reads a.now.words)) slot)) frames gathered in
    ChangesPools-drop size s slot r es fault a c within settled at (batch (few_puddles size s slot r a within settled at)) (here settled)

-- the batch that frees the records was gathered whole, if the masked words do not change the tables
pub whole_batch : (size : ℕ) (s : StoredWorld) (F slot : ℕ) (r : PoolRecord) (mask : Write) (a : State) (es : List Entry) → F ≡ s.frames → slot < POOL_RECORDS → IsQuiescent size s (masked mask a.now.words)
    → IsPoolAt s.frames slot r (masked mask a.now.words) → tables_of F (reads (masked mask a.now.words)) ≡ tables_of F (reads a.now.words)
    → (count_used (members (tables_of F (reads a.now.words)) slot) 0 F ≤ MAX_PUDDLES → es ≡ puts_batch (dropping (tables_of F (reads a.now.words)) slot))
    → es ≡ puts_batch (dropping (tables_of F (reads a.now.words)) slot)
whole_batch size s F slot r mask a es frames within settled at same gathered =
    let few = few_puddles size s slot r (masked_state mask a) within settled at in
    let here = subst (λ (n : ℕ). count_used (members (tables_of n (reads (masked mask a.now.words))) slot) 0 n ≤ MAX_PUDDLES) (sym frames) few in
    gathered (subst (λ (u : Tables). count_used (members u slot) 0 F ≤ MAX_PUDDLES) same here)

-- the lowest free frame is free
pub free_there : (t : Tables) (frame : ℕ) → first_free t.puddles 0 t.frames ≡ Some frame → t.puddles frame ≡ None
free_there t frame is = (first_free_some t.puddles 0 t.frames frame is).free

-- ---- a puddle is added

-- its frame was filled, and after that the batch is written
module _ (size : ℕ) (s next : StoredWorld) (F : ℕ) (a : NewPuddle) (es : List Entry) (mask : Write) (fault : Option HostFault) (old mid new : State) (adds : AddsTo size s next F a es mask old.now.words) where
  abbrev start : State
  start = masked_state mask old

  abbrev filled : State
  filled = masked_state mask mid

  abbrev end : State
  end = masked_state mask new

  abbrev MovesThen : Type 0
  MovesThen = IsQuiescent size s filled.now.words → MovesBy size s next es filled.now.words → Moves size s next es fault filled end

  added_here : a.frame < s.frames → Persists (filling s.frames a) None start filled → MovesThen → ChangesPools size s next (IsFilled s.frames a) fault start end
  added_here known fills moves =
      let F = s.frames in
      let words = fresh_frame a.puddle.number a.puddle.ordinal in
      let whole = length-fresh_frame a.puddle.number a.puddle.ordinal in
      let is_free : IsFreeFrame F a.frame start.now.words = record { tables = adds.tables; free = adds.free } in
      let settled_then = IsQuiescent-filled F a.frame words whole known size s refl None start filled adds.settled is_free fills.changes in
      let tables_then = HasDurableTables-filled F a.frame words whole known size s refl None start filled fills.changes adds.tables in
      let kept : (k : ℕ) → k < tables_end F → reads filled.now.words k ≡ reads start.now.words k = λ k below.
      reads_kept (written (filling F a)) start filled k fills.changes (λ v. not_filled F a.frame words whole known k v (omega arith)) in
      let same : tables_of F (reads filled.now.words) ≡ tables_of F (reads start.now.words) =
      tables_of-same F (reads filled.now.words) (reads start.now.words) (λ k low high. kept k (omega arith)) (λ k low high. kept k high) in
      let makes_then = subst (MakesPools s adds.number adds.pools adds.puts (IsFilled F a)) (sym same) adds.makes in
      ChangesPools-filled F a.frame words whole known size s refl next (IsFilled F a) fault start filled end adds.settled is_free fills.changes
      (changes_by size s next adds.number adds.pools adds.puts (IsFilled F a) (IsFilled F a) fault filled end adds.stands settled_then tables_then makes_then
      (λ image picked. record { each = filled_before F a.frame words whole known size s refl filled image settled_then (fills.durable refl) picked })
      (λ image between. record { each = filled_after F a.frame words whole known size s refl adds.puts filled image adds.makes.of (fills.durable refl) between.batched })
      (subst (λ (es : List Entry). MovesBy size s next es filled.now.words → Moves size s next es fault filled end) adds.is (moves settled_then)))

  -- the same on a device of F frames
  pub ChangesPools-added : a.frame < F → Persists (filling F a) None start filled → MovesThen → ChangesPools size s next (IsFilled F a) fault start end
  ChangesPools-added = subst (λ (n : ℕ). a.frame < n → Persists (filling n a) None start filled → MovesThen → ChangesPools size s next (IsFilled n a) fault start end) (sym adds.frames) added_here

-- the puddle by which a pool grows
module _ (size : ℕ) (s next : StoredWorld) (F : ℕ) (a : NewPuddle) (es : List Entry) (mask : Write) (words : Words) (within : a.puddle.pool < POOL_RECORDS) (is : es ≡ puts_batch (growing a)) (g : GrowsAt size s next F a mask words) where
  abbrev read : Image
  read = reads (masked mask words)

  world : ReadsWorld s read
  world = reads_world size s (masked mask words) g.settled g.at.tables

  adds_by : (ps : List (List ℕ × Pool)) → MakesPools s (s.next_number + 1) ps (growing a) (IsFilled s.frames a) (tables_of s.frames read) → pools_next s (s.next_number + 1) ps ≡ next → AddsTo size s next F a es mask words
  adds_by ps makes stands = record {
    frames = g.frames;
    puts = growing a;
    is = is;
    off = g.off;
    settled = g.settled;
    tables = g.at.tables;
    free = free_there (tables_of s.frames read) a.frame g.is.puddle.frame;
    number = s.next_number + 1;
    pools = ps;
    makes = makes;
    stands = stands;
  }

  pub AddsTo-grown : AddsTo size s next F a es mask words
  AddsTo-grown = elim g.grown [
    | inl of ↦ adds_by (changed_pool g.pool.name (with_puddle_more a.puddle.class) s.pools) (MakesPools-grown s read a g.pool world within g.at.used g.is of.0 of.1) (grown_world s g.pool.name a.puddle.class ∙ sym of.2)
    | inr of ↦
        adds_by (changed_pool g.pool.name (with_kept_longer (added_puddle a) of.0) s.pools) (MakesPools-wild s read a g.pool world within g.at.used g.is of.0 of.1)
        (wild_world s g.pool.name (added_puddle a) of.0 ∙ sym of.2)
  ]

-- ---- where a place was found

-- what holds of the tables and of the next number as they are read, if the masked words do not change them
module _ (size : ℕ) (s : StoredWorld) (F : ℕ) (image : Image) (mask : Write) (words : Words) (read : reads words ≡ image) (same : F ≡ s.frames) (keeps : KeepsTables F mask image)
    (settled : IsQuiescent size s (masked mask words)) (tables : HasDurableTables s.frames (masked mask words)) where
  read_masked : reads (masked mask words) ≡ masked_image mask image
  read_masked = reads-masked mask words ∙ ap (masked_image mask) read

  pub tables_masked : tables_of s.frames (reads (masked mask words)) ≡ tables_of F image
  tables_masked = ap (λ (n : ℕ). tables_of n (reads (masked mask words))) (sym same) ∙ ap (tables_of F) read_masked ∙ keeps.tables

  pub number_masked : image NEXT_NUMBER_WORD ≡ s.next_number
  number_masked = sym keeps.number ∙ sym (ap (λ (i : Image). i NEXT_NUMBER_WORD) read_masked) ∙ (reads_world size s (masked mask words) settled tables).number

  pub carried : (Is : Tables → ℕ → Type 0) → Is (tables_of F image) (image NEXT_NUMBER_WORD) → Is (tables_of s.frames (reads (masked mask words))) s.next_number
  carried Is is = subst (λ (t : Tables). Is t s.next_number) (sym tables_masked) (subst (Is (tables_of F image)) number_masked is)

-- the same with a weaker further fact
pub ChangesPools-weaker : (size : ℕ) (s next : StoredWorld) (also besides : Image → Type 0) (fault : Option HostFault) (a c : State) → ((image : Image) → also image → besides image) → ChangesPools size s next also fault a c
    → ChangesPools size s next besides fault a c
ChangesPools-weaker size s next also besides fault a c weaker p = record {
  changes = p.changes;
  moments = Leaves-weaker (Silently (MayStand size s next also)) (Silently (MayStand size s next besides)) a c
      (λ bytes image m. (m.0, elim m.1 [ inl before ↦ inl before | inr after ↦ inr (after.0, weaker image after.1) ])) p.moments;
  settled = p.settled;
  tables = p.tables;
}

-- the number before the puddle's is the pool's
pub record_is : (name : List ℕ) (uid gid mode next : ℕ) (a : NewPuddle) → a.puddle.number ≡ next + 1 → record { name = name; uid = uid; gid = gid; mode = mode; number = a.puddle.number - 1 } ≡ new_record name uid gid mode next
record_is name uid gid mode next a is = ap (new_record name uid gid mode) (let same : a.puddle.number - 1 ≡ next = omega arith in same)

-- a first puddle was found for a new pool, and nothing changed
module _ (F : ℕ) (image : Image) (name : List ℕ) (uid gid mode : ℕ) (a : NewPuddle) (place : IsFirstFor (tables_of F image) (image NEXT_NUMBER_WORD) name a) (fault : Option HostFault) (old mid new : State) (still : mid ≡ old) where
  abbrev r : PoolRecord
  r = new_record name uid gid mode (image NEXT_NUMBER_WORD)

  -- for any content of the device
  pub MakesSomewhere-found : (HasIdleGate DAEMON_LOG mid.now.words → PersistsThenCommits (filling F a) (puts_batch (making r a)) fault mid new) → HasIdleGate DAEMON_LOG old.now.words
      → OrStill (MakesSomewhere (tables_of F image) (image NEXT_NUMBER_WORD) name uid gid mode) fault old new
  unfolding tables_of
  MakesSomewhere-found commits idle =
      inr (record {
        added = a;
        is = place;
        commits = subst (λ (b : State). HasIdleGate DAEMON_LOG b.now.words → PersistsThenCommits (filling F a) (puts_batch (making r a)) fault b new) still commits idle;
      })

fresh_place : (F next n : ℕ) (before : Image) (name : List ℕ) (a : NewPuddle) → IsFirstFor (tables_of F before) next name a → next ≡ n → (image : Image) → IsFilled F a image → HasFreshFrame (tables_of F before) (n + 1) image
unfolding tables_of
fresh_place F next n before name a place is image filled = record {
  frame = a.frame;
  lowest = place.puddle.frame;
  fresh = subst (λ (m : ℕ). IsFreshFrame F a.frame m 0 image) (place.puddle.number_is ∙ ap (λ (m : ℕ). m + 1) is) (subst (λ (m : ℕ). IsFreshFrame F a.frame a.puddle.number m image) place.puddle.ordinal_is filled);
}

-- if each image stands for one world
module _ (size : ℕ) (s : StoredWorld) (F : ℕ) (name : List ℕ) (uid gid mode : ℕ) (mask : Write) (old : State) (may : MayMake size s F name uid gid mode mask old.now.words)
    (a : NewPuddle) (place : IsFirstFor (tables_of F (reads old.now.words)) (reads old.now.words NEXT_NUMBER_WORD) name a) where
  abbrev image : Image
  image = reads old.now.words

  abbrev words : Words
  words = masked mask old.now.words

  abbrev next : StoredWorld
  next = with_new_pool name (owner uid gid) mode s

  tables : HasDurableTables s.frames words
  tables = subst (λ (n : ℕ). HasDurableTables n words) may.frames may.tables

  number_is : image NEXT_NUMBER_WORD ≡ s.next_number
  number_is = number_masked size s F image mask old.now.words refl may.frames may.keeps may.settled tables

  place_masked : IsFirstFor (tables_of s.frames (reads words)) s.next_number name a
  place_masked = carried size s F image mask old.now.words refl may.frames may.keeps may.settled tables (λ t n. IsFirstFor t n name a) place

  adds : (es : List Entry) → es ≡ puts_batch (making (new_record name uid gid mode (image NEXT_NUMBER_WORD)) a) → AddsTo size s next F a es mask old.now.words
  adds es is = record {
    frames = may.frames;
    puts = making (new_record name uid gid mode (image NEXT_NUMBER_WORD)) a;
    is = is;
    off = subst (λ (n : ℕ). IsOffAdding mask n a (making (new_record name uid gid mode (image NEXT_NUMBER_WORD)) a)) (frames_of_tables F image) (may.off.each a place);
    settled = may.settled;
    tables = tables;
    free = free_there (tables_of s.frames (reads words)) a.frame place_masked.puddle.frame;
    number = s.next_number + NUMBERS_DRAWN;
    pools = put name_cmp name (new_pool (owner uid gid) mode s.next_number) s.pools;
    makes = MakesPools-made s (reads words) a (new_record name uid gid mode (image NEXT_NUMBER_WORD)) (reads_world size s words may.settled tables) place_masked may.legal number_is;
    stands = made_world s name (owner uid gid) mode;
  }

  -- what the call that adds the puddle promises from there on
  pub MakesPool-found : (es : List Entry) (fault : Option HostFault) (mid new : State) → mid ≡ old → es ≡ puts_batch (making (new_record name uid gid mode (image NEXT_NUMBER_WORD)) a)
      → (AddsTo size s next F a es mask mid.now.words → ChangesMasked mask size s next (IsFilled F a) fault mid new) → MakesPool size s F name uid gid mode mask fault old new
  MakesPool-found es fault mid new still is makes =
      ChangesPools-weaker size s next (IsFilled F a) (HasFreshFrame (tables_of F image) (s.next_number + 1)) fault (masked_state mask old) (masked_state mask new)
      (fresh_place F (image NEXT_NUMBER_WORD) s.next_number image name a place number_is)
      (subst (λ (b : State). AddsTo size s next F a es mask b.now.words → ChangesMasked mask size s next (IsFilled F a) fault b new) still makes (adds es is))

-- ---- batches on any content

-- the batch of these changes is written after calls that changed nothing
pub Commits-puts : (F size : ℕ) (puts : List Put) (es : List Entry) (fault : Option HostFault) (a b c : State) → b ≡ a → tables_end F ≤ size → AreOfPools F puts → es ≡ puts_batch puts
    → (IsFree size DAEMON_LOG es b.now.words → Commits DAEMON_LOG es fault b c) → HasIdleGate DAEMON_LOG a.now.words → Commits DAEMON_LOG (puts_batch puts) fault a c
Commits-puts F size puts es fault a b c same room of is commits idle =
    subst (λ (es : List Entry). Commits DAEMON_LOG es fault a c) is
    (subst (λ (b : State). IsFree size DAEMON_LOG es b.now.words → Commits DAEMON_LOG es fault b c) same commits
    (subst (λ (es : List Entry). IsFree size DAEMON_LOG es a.now.words) (sym is) (IsFree-puts F size puts a.now.words room of idle)))
