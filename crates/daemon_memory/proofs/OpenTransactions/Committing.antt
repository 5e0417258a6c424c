-- An image that has the graph made by a transaction in a pool's frames stands for the world whose pool has that graph.
use Rattle.std.proofs.Common.{◌≡◌, inl, inr, ℕ, ◌+◌, ◌<◌, ◌≤◌, true, false, List, Option, Some, None, refl, sym, ap, ap₂, ◌∙◌, arith}
use Rattle.std.specs.FinMap.Entries.{put, find}
use Rattle.std.specs.Cmp.Lexicographic.{nat_list_cmp_total}
use Rattle.std.specs.Cmp.{tied_itself}
use Rattle.std.specs.Ordering.{is_eq}
use Rattle.std.proofs.lemmas.Bool.{cases_Bool, cond-true, false_from_ne_true}
use Rattle.std.proofs.lemmas.Option.{same_Some}
use Rattle.pud_defs.specs.declared.layout.TheConstants.{DAEMON_LOG, TYPE_TABLE, FRAME_WORDS}
use Rattle.pud_defs.specs.declared.records.TheConstants.{POOL_RECORDS}
use Rattle.pud_defs.specs.declared.records.PoolRecord.{PoolRecord}
use Rattle.pud_defs.specs.declared.records.Puddle.{Puddle}
use Rattle.pud_defs.specs.Formats.Image.{Image}
use Rattle.pud_defs.specs.Formats.Layout.{frames_at}
use Rattle.pud_defs.specs.Logging.Entries.{is_idle_gate}
use Rattle.pud_defs.specs.Formats.Frames.{frame_at}
use Rattle.pud_defs.specs.PoolGraphs.Graph.{Graph, graph_of}
use Rattle.pud_defs.specs.PoolGraphs.Holdings.{Holding, held_as, holding_in}
use Rattle.pud_defs.specs.PoolGraphs.Holdings.Holding.{Sound}
use Rattle.pud_defs.specs.Formats.Names.{name_cmp}
use Rattle.pud_defs.specs.StateMachine.PoolChanges.{changed_pool}
use Rattle.pud_defs.specs.RegistryTables.Puddles.{Member}
use Rattle.pud_defs.specs.Logging.Replay.{beside_log, is_in_log}
use Rattle.pud_defs.specs.RegistryTables.SoundTables.{are_sound_tables, HasSoundTables}
use Rattle.pud_defs.specs.PoolGraphs.Stored.{stored_in}
use Rattle.pud_defs.specs.RegistryTables.Tables.{Tables, Pool, Reader, tables_of, puddles_of, puddles_in_turn, listed, pool_of, entries, pools_of}
use Rattle.pud_defs.specs.StateMachine.Transactions.{holding_graph}
use Rattle.pud_defs.specs.StateMachine.World.{StoredWorld, idle_world_of}
use Rattle.pud_defs.proofs.PoolGraphs.Holdings.{IsFrameOf, HasSameFrame, frames_listed, stored_in-same}
use Rattle.pud_defs.proofs.StateMachine.IdleWorlds.{standing_idle, idle_world_of-beside, idle_registry_standing}
use Rattle.pud_defs.proofs.KeyedTables.Keyed.{keyed-put, alone_there, is_free_for}
use Rattle.pud_defs.proofs.KeyedTables.KeyedEach.{each-weaker}
use Rattle.pud_defs.proofs.StateMachine.Parts.{StandsFor, standing_with_pools}
use Rattle.pud_defs.proofs.StateMachine.Parts.Part.{Header, Pools}
use Rattle.pud_defs.proofs.RegistryTables.PoolMembers.{members_in_turn}
use Rattle.pud_defs.proofs.RegistryTables.PoolsChanged.{same_name, entry_of, distinct_entries}
use Rattle.pud_defs.proofs.RegistryTables.PuddlesListed.{puddles_in_turn-listed}
use Rattle.pud_defs.proofs.Logging.Replay.{beside_log-outside, outside_log}
use Rattle.pud_defs.proofs.RegistryTables.SoundChanged.{distinct_names, sound_from}
use Rattle.pud_defs.proofs.RegistryTables.TablesOf.{tables_of-same}
use Rattle.registry.proofs.Changed.{found_pool, changed_there}
use Rattle.hybrid_tx.specs.PoolScopes.{pool_has_word}
use Rattle.hybrid_tx.proofs.Open.OpenMasks.{mine_after}
use Rattle.hybrid_tx.proofs.Objects.Opening.{stored_in-has_word}
use Rattle.hybrid_tx.proofs.PoolScope.{pool_has_word-each}

-- ---- pools as they are read from two images

-- Two readers that agree on a record's puddles give the same pool.
entry_read : (hold other : Reader) (t : Tables) (slot : ℕ) (r : Option PoolRecord) → hold (listed (puddles_of t slot)) ≡ other (listed (puddles_of t slot))
    → entry_of hold (puddles_of t slot) r ≡ entry_of other (puddles_of t slot) r
unfolding pool_of
entry_read hold other t slot None same = refl
entry_read hold other t slot (Some r) same = ap (λ (h : Holding). Some (r.name, record (pool_of hold r (puddles_of t slot)) { holding = h })) same

-- A reader that finds a graph in the puddles gives the other's pool, with that graph.
pool_with_graph : (hold other : Reader) (r : PoolRecord) (t : Tables) (slot : ℕ) (g : Graph) → hold (listed (puddles_of t slot)) ≡ Sound g
    → pool_of hold r (puddles_of t slot) ≡ holding_graph g (pool_of other r (puddles_of t slot))
unfolding pool_of
pool_with_graph hold other r t slot g is = ap (λ (h : Holding). record (pool_of hold r (puddles_of t slot)) { holding = h }) is

-- ---- an image that differs in a pool's frames

module _ (size : ℕ) (s : StoredWorld) (i j : Image) (slot : ℕ) (r : PoolRecord) (g : Graph) (stands : StandsFor size i s) (within : slot < POOL_RECORDS)
    (used : (tables_of s.frames i).pools slot ≡ Some r)
    (same : (k : ℕ) → pool_has_word s.frames (puddles_in_turn (tables_of s.frames i) slot) k ≡ false → j k ≡ i k)
    (graph : graph_of s.types (stored_in s.frames (puddles_in_turn (tables_of s.frames i) slot) j) ≡ Some g) where
  abbrev F : ℕ
  F = s.frames

  abbrev t : Tables
  t = tables_of s.frames i

  abbrev at : List (ℕ × Puddle)
  at = puddles_in_turn t slot

  abbrev before : Reader
  before = holding_in s.types s.frames i

  abbrev now : Reader
  now = holding_in s.types s.frames j

  sound : HasSoundTables s.next_number t
  sound = sound_from s.next_number t (stands.holds Pools).sound

  below_same : (k : ℕ) → k < frames_at F → j k ≡ i k
  below_same k below = same k (mine_after F at k below)

  tables_same : tables_of F j ≡ t
  tables_same = tables_of-same F j i (λ k low high. below_same k (omega arith)) (λ k low high. below_same k (omega arith))

  -- A word of another pool's frame is not a word of this pool.
  not_its_own : (other frame k : ℕ) → (other ≡ slot → ⊥) → IsFrameOf t other frame → frame_at F frame ≤ k → k < frame_at F frame + FRAME_WORDS → pool_has_word F at k ≡ false
  not_its_own other frame k apart of low high = false_from_ne_true (pool_has_word F at k) (λ mine.
      let m = pool_has_word-each F at k mine in
      let from = m.low in
      let to = m.high in
      let member = (members_in_turn t slot).each m.ordinal m.puddle m.there in
      let here : frame ≡ m.puddle.0 = omega arith in
      let alike : of.member ≡ member.member = same_Some of.member member.member (sym of.used ∙ ap t.puddles here ∙ member.used) in
      let pool = ap (λ (x : Member). x.pool) alike in
      let first = of.of in
      let second = member.pool in
      apart (omega (arith, pool, first, second)))

  -- What another pool stores is the same.
  others_active : (other : ℕ) → (other ≡ slot → ⊥) → now (listed (puddles_of t other)) ≡ before (listed (puddles_of t other))
  others_active other apart =
      ap (λ st. held_as st (graph_of s.types st)) (stored_in-same F i j (listed (puddles_of t other))
      (each-weaker (λ e. IsFrameOf t other e.0) (λ e. HasSameFrame F i j e.0) (listed (puddles_of t other))
      (λ e of. record { each = λ k high. same (frame_at F e.0 + k) (not_its_own other e.0 (frame_at F e.0 + k) apart of (omega arith) (omega arith)) }) (frames_listed t other)))

  -- This pool stores the graph.
  own_active : now (listed (puddles_of t slot)) ≡ Sound g
  own_active =
      let turned = puddles_in_turn-listed s.next_number t slot r sound within used in
      ap now (sym turned) ∙ ap (held_as (stored_in F at j)) graph

  pools_now : pools_of now t ≡ changed_pool r.name (holding_graph g) s.pools
  unfolding pools_of
  pools_now =
      let distinct = distinct_entries before t (distinct_names s.next_number t sound) in
      let there : entries before t slot ≡ Some (r.name, pool_of before r (puddles_of t slot)) = ap (entry_of before (puddles_of t slot)) used in
      let was = (stands.holds Pools).pools in
      keyed-put name_cmp nat_list_cmp_total same_name (entries before t) (entries now t) 0 POOL_RECORDS slot r.name (pool_of now r (puddles_of t slot)) (record {
        low = omega arith;
        high = omega arith;
        others = λ other apart. entry_read now before t other (t.pools other) (others_active other apart);
        is = ap (entry_of now (puddles_of t slot)) used;
        was = ap (is_free_for name_cmp r.name) there ∙ ap is_eq (tied_itself nat_list_cmp_total r.name);
        alone = alone_there name_cmp nat_list_cmp_total (entries before t) 0 POOL_RECORDS slot (r.name, pool_of before r (puddles_of t slot)) distinct (omega arith) (omega arith) there;
      })
      ∙ ap₂ (λ (p : Pool) (ps : List (List ℕ × Pool)). put name_cmp r.name p ps) (pool_with_graph now before r t slot g own_active) was
      ∙ sym (changed_there r.name (holding_graph g) s.pools (pool_of before r (puddles_of t slot)) (ap (find name_cmp r.name) (sym was) ∙ found_pool before s.next_number t slot r sound within used))

  -- The image stands for the world with this graph in that pool.
  pub standing_with_graph : StandsFor size j (record s { pools = changed_pool r.name (holding_graph g) s.pools })
  standing_with_graph =
      let was = stands.holds Header in
      standing_with_pools size i j s s.next_number (changed_pool r.name (holding_graph g) s.pools) stands (λ k below number pools puddles. below_same k below)
      (below_same _ (omega arith) ∙ was.next_number) was.number_low was.number_high
      (record { pools = ap (pools_of now) tables_same ∙ pools_now; sound = ap (are_sound_tables s.next_number) tables_same ∙ (stands.holds Pools).sound })

-- ---- beside a daemon log that counts nothing

beside_same : (i j : Image) (k : ℕ) → j k ≡ i k → beside_log DAEMON_LOG j k ≡ beside_log DAEMON_LOG i k
beside_same i j k same = elim (cases_Bool (is_in_log DAEMON_LOG k)) [
  | inl inside ↦ cond-true _ _ _ inside ∙ sym (cond-true _ _ _ inside)
  | inr outside ↦ beside_log-outside DAEMON_LOG j k outside ∙ same ∙ sym (beside_log-outside DAEMON_LOG i k outside)
]

module _ (size : ℕ) (s : StoredWorld) (i j : Image) (slot : ℕ) (r : PoolRecord) (at : List (ℕ × Puddle)) (g : Graph) (idle : is_idle_gate (i DAEMON_LOG) ≡ true) (world : idle_world_of size i ≡ Some s)
    (within : slot < POOL_RECORDS) (used : (tables_of s.frames i).pools slot ≡ Some r) (puddles : puddles_in_turn (tables_of s.frames i) slot ≡ at)
    (same : (k : ℕ) → pool_has_word s.frames at k ≡ false → j k ≡ i k) (graph : graph_of s.types (stored_in s.frames at j) ≡ Some g) where
  abbrev near : Image
  near = beside_log DAEMON_LOG i

  abbrev far : Image
  far = beside_log DAEMON_LOG j

  outside_same : (image : Image) (k : ℕ) → TYPE_TABLE ≤ k → beside_log DAEMON_LOG image k ≡ image k
  outside_same image k low = beside_log-outside DAEMON_LOG image k (outside_log DAEMON_LOG k (inr (omega arith)))

  near_tables : tables_of s.frames near ≡ tables_of s.frames i
  near_tables = tables_of-same s.frames near i (λ k low high. outside_same i k (omega arith)) (λ k low high. outside_same i k (omega arith))

  near_puddles : puddles_in_turn (tables_of s.frames near) slot ≡ at
  near_puddles = ap (λ (t : Tables). puddles_in_turn t slot) near_tables ∙ puddles

  pub idle_world_with_graph : idle_world_of size j ≡ Some (record s { pools = changed_pool r.name (holding_graph g) s.pools })
  idle_world_with_graph =
      idle_world_of-beside size j (ap is_idle_gate (same DAEMON_LOG (mine_after s.frames at DAEMON_LOG (omega arith))) ∙ idle)
      ∙ idle_registry_standing size far (record s { pools = changed_pool r.name (holding_graph g) s.pools })
      (standing_with_graph size s near far slot r g (standing_idle size i s idle world) within (ap (λ (t : Tables). t.pools slot) near_tables ∙ used)
      (λ k other. beside_same i j k (same k (sym (ap (λ (a : List (ℕ × Puddle)). pool_has_word s.frames a k) near_puddles) ∙ other)))
      (ap (λ (a : List (ℕ × Puddle)). graph_of s.types (stored_in s.frames a far)) near_puddles
      ∙ ap (graph_of s.types) (stored_in-has_word s.frames at j far (λ k mine. let m = pool_has_word-each s.frames at k mine in let low = m.low in outside_same j k (omega arith))) ∙ graph))
