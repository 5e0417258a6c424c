-- Pools that have a graph keep it, and their puddles, if the records of the puddles, the words of their frames and the
-- types stay. What is known about pools stays true.
use Rattle.std.proofs.Common.{◌≡◌, ◌≢◌, ℕ, ◌+◌, ◌<◌, ◌≤◌, true, List, Option, Some, None, option_map, refl, sym, ap, ◌∙◌, arith}
use Rattle.std.specs.Ordering.{nat_cmp}
use Rattle.std.specs.FinMap.Entries.{find}
use Rattle.std.proofs.lemmas.Option.{none-some, same_Some}
use Rattle.pm_model.specs.Words.{reads}
use Rattle.pm_model.specs.Moments.{State}
use Rattle.pm_model.specs.Changes.{Footprint, Changes}
use Rattle.pud_defs.specs.declared.layout.TheConstants.{FRAME_WORDS, TYPE_TABLE, POOL_TABLE, PUDDLE_TABLE, TYPE_RECORDS}
use Rattle.pud_defs.specs.declared.records.TheConstants.{MAX_PUDDLES}
use Rattle.pud_defs.specs.declared.records.Puddle.{Puddle}
use Rattle.pud_defs.specs.Formats.Image.{Image}
use Rattle.pud_defs.specs.Formats.Frames.{frame_at}
use Rattle.pud_defs.specs.Formats.Layout.{tables_end, frames_at}
use Rattle.pud_defs.specs.RegistryTables.Puddles.{Member}
use Rattle.pud_defs.specs.RegistryTables.Types.{type_record_at, type_at, types_of}
use Rattle.pud_defs.specs.PoolGraphs.Stored.{Stored, stored_in}
use Rattle.pud_defs.specs.PoolGraphs.Graph.{Graph, graph_of}
use Rattle.pud_defs.specs.RegistryTables.Tables.{tables_of, members, member_of, puddles_of, in_turn, puddles_in_turn}
use Rattle.pud_defs.proofs.KeyedTables.Keyed.{keyed-same}
use Rattle.pud_defs.proofs.RegistryTables.TablesOf.{puddles_below, frames_of_tables, puddle_at-same}
use Rattle.pud_defs.proofs.RegistryTables.TypeTable.{type_at-same}
use Rattle.batch.proofs.Tables.{reads_kept}
use Rattle.hybrid_tx.specs.PoolScopes.{pool_has_word}
use Rattle.hybrid_tx.proofs.Objects.Opening.{stored_in-has_word}
use Rattle.hybrid_tx.proofs.PoolScope.{pool_has_word-each}
use Rattle.hybrid_tx.proofs.Open.PoolPlaces.{EachIsOf, each_in_turn}
use Rattle.known_pool.specs.Known.{Known, IsKnown}
use Rattle.known_pool.proofs.KnownKept.{KeepsSerials-stored, IsKnown-kept}
use Rattle.daemon_memory.specs.PoolKnowledge.{known_puddles_in, AreKnownPools}
use Rattle.daemon_memory.specs.PoolKnowledge.{puddles_with_graph}

-- ---- a pool that has a graph

-- The pool in the slot has these puddles as they are read, and they have a graph.
pub record HasGraphIn (F slot : ℕ) (image : Image) (at : List (ℕ × Puddle)) : Type 0 where
  pub graph : Graph
  pub turn : puddles_in_turn (tables_of F image) slot ≡ at
  pub stored : graph_of (types_of image) (stored_in F at image) ≡ Some graph

graph_in_turn : (F slot : ℕ) (image : Image) (at : List (ℕ × Puddle)) (g : Option Graph) → graph_of (types_of image) (stored_in F (puddles_in_turn (tables_of F image) slot) image) ≡ g
    → option_map (λ graph. puddles_in_turn (tables_of F image) slot) g ≡ Some at → HasGraphIn F slot image at
graph_in_turn F slot image at None stored is = absurd (none-some at is)
graph_in_turn F slot image at (Some graph) stored is =
    let turn : puddles_in_turn (tables_of F image) slot ≡ at = same_Some (puddles_in_turn (tables_of F image) slot) at is in
    record { graph = graph; turn = turn; stored = ap (λ puddles. graph_of (types_of image) (stored_in F puddles image)) (sym turn) ∙ stored }

pub graph_parts : (F slot : ℕ) (image : Image) (at : List (ℕ × Puddle)) → puddles_with_graph F image slot ≡ Some at → HasGraphIn F slot image at
unfolding puddles_with_graph
graph_parts F slot image at is = graph_in_turn F slot image at (graph_of (types_of image) (stored_in F (puddles_in_turn (tables_of F image) slot) image)) refl is

pub graph_from : (F slot : ℕ) (image : Image) (at : List (ℕ × Puddle)) → HasGraphIn F slot image at → puddles_with_graph F image slot ≡ Some at
unfolding puddles_with_graph
graph_from F slot image at has =
    ap (λ puddles. option_map (λ graph. puddles) (graph_of (types_of image) (stored_in F puddles image))) has.turn
    ∙ ap (option_map (λ graph. at)) has.stored

-- ---- what the graph depends on

-- Whatever is stored and has a graph has the same graph by the next image's types.
pub record KeepsGraphs (before after : Image) : Type 0 where
  pub each : (st : Stored) (g : Graph) → graph_of (types_of before) st ≡ Some g → graph_of (types_of after) st ≡ Some g

-- The pool in the slot has the same puddles in the next image, and the words of their frames stay.
pub record KeepsPool (F slot : ℕ) (before after : Image) : Type 0 where
  pub puddles : (frame : ℕ) → frame < F → members (tables_of F after) slot frame ≡ members (tables_of F before) slot frame
  pub words : (k : ℕ) → pool_has_word F (puddles_in_turn (tables_of F before) slot) k ≡ true → after k ≡ before k

-- A pool's puddles in turn depend on its members alone.
pub in_turn_kept : (F slot : ℕ) (before after : Image) → ((frame : ℕ) → frame < F → members (tables_of F after) slot frame ≡ members (tables_of F before) slot frame)
    → puddles_in_turn (tables_of F after) slot ≡ puddles_in_turn (tables_of F before) slot
unfolding tables_of puddles_of
in_turn_kept F slot before after same =
    ap (λ (ps : List (ℕ × (ℕ × Puddle))). in_turn (λ ordinal. find nat_cmp ordinal ps) 0 MAX_PUDDLES)
    (keyed-same nat_cmp (members (tables_of F after) slot) (members (tables_of F before) slot) 0 F (λ frame low high. same frame (omega arith)))

pub graph_kept : (F slot : ℕ) (before after : Image) (at : List (ℕ × Puddle)) → KeepsGraphs before after → KeepsPool F slot before after → HasGraphIn F slot before at → HasGraphIn F slot after at
graph_kept F slot before after at graphs pool has = record {
  graph = has.graph;
  turn = in_turn_kept F slot before after pool.puddles ∙ has.turn;
  stored = graphs.each (stored_in F at after) has.graph
      (ap (graph_of (types_of before)) (stored_in-has_word F at before after (λ k mine. pool.words k (ap (λ puddles. pool_has_word F puddles k) has.turn ∙ mine))) ∙ has.stored);
}

-- Each pool that has a graph, except the pool in one slot, keeps its puddles and still has a graph. The words of its
-- frames stay, and what is known about it stays true.
pub record KeepsPools (F : ℕ) (but : Option ℕ) (before after : Image) : Type 0 where
  pub each : (slot : ℕ) (at : List (ℕ × Puddle)) → but ≢ Some slot → HasGraphIn F slot before at → HasGraphIn F slot after at
  pub words : (slot : ℕ) (at : List (ℕ × Puddle)) → but ≢ Some slot → HasGraphIn F slot before at → (k : ℕ) → pool_has_word F at k ≡ true → after k ≡ before k
  pub known : (slot : ℕ) (known : Known) → but ≢ Some slot → HasGraphIn F slot before known.puddles → IsKnown F before known → IsKnown F after known

-- What is known about a pool stays true if its words stay.
known_kept : (F slot : ℕ) (before after : Image) (known : Known) → KeepsGraphs before after → KeepsPool F slot before after → HasGraphIn F slot before known.puddles → IsKnown F before known → IsKnown F after known
known_kept F slot before after known graphs pool has is =
    let at = known.puddles in
    let same = stored_in-has_word F at before after (λ k mine. pool.words k (ap (λ puddles. pool_has_word F puddles k) has.turn ∙ mine)) in
    IsKnown-kept F known at before after has.graph has.stored (graphs.each (stored_in F at after) has.graph (ap (graph_of (types_of before)) same ∙ has.stored)) (KeepsSerials-stored F at before after same) is

pub KeepsPools-each : (F : ℕ) (but : Option ℕ) (before after : Image) → KeepsGraphs before after
    → ((slot : ℕ) (at : List (ℕ × Puddle)) → but ≢ Some slot → HasGraphIn F slot before at → KeepsPool F slot before after) → KeepsPools F but before after
KeepsPools-each F but before after graphs pools = record {
  each = λ slot at apart has. graph_kept F slot before after at graphs (pools slot at apart has) has;
  words = λ slot at apart has k mine. (pools slot at apart has).words k (ap (λ puddles. pool_has_word F puddles k) has.turn ∙ mine);
  known = λ slot known apart has is. known_kept F slot before after known graphs (pools slot known.puddles apart has) has is;
}

-- One change after another.
pub KeepsPools-then : (F : ℕ) (but : Option ℕ) (a b c : Image) → KeepsPools F but a b → KeepsPools F but b c → KeepsPools F but a c
KeepsPools-then F but a b c first later = record {
  each = λ slot at apart has. later.each slot at apart (first.each slot at apart has);
  words = λ slot at apart has k mine. later.words slot at apart (first.each slot at apart has) k mine ∙ first.words slot at apart has k mine;
  known = λ slot known apart has is. later.known slot known apart (first.each slot known.puddles apart has) (first.known slot known apart has is);
}

-- So what is known stays true, if nothing is known about the excepted pool.
pub AreKnownPools-but : (F slot : ℕ) (known_pools : List (Option Known)) (before after : Image) → KeepsPools F (Some slot) before after → known_puddles_in known_pools slot ≡ None → AreKnownPools F known_pools before → AreKnownPools F known_pools after
AreKnownPools-but F slot known_pools before after keeps none are = record {
  each = λ s at known.
      graph_from F s after at (keeps.each s at (λ same. none-some at (sym none ∙ ap (known_puddles_in known_pools) (same_Some slot s same) ∙ known)) (graph_parts F s before at (are.each s at known)));
  known = λ s known is.
      let puddles : known_puddles_in known_pools s ≡ Some known.puddles = ap (option_map (λ (k : Known). k.puddles)) is in
      keeps.known s known (λ same. none-some known.puddles (sym none ∙ ap (known_puddles_in known_pools) (same_Some slot s same) ∙ puddles)) (graph_parts F s before known.puddles (are.each s known.puddles puddles)) (are.known s known is);
}

pub AreKnownPools-all : (F : ℕ) (known_pools : List (Option Known)) (before after : Image) → KeepsPools F None before after → AreKnownPools F known_pools before → AreKnownPools F known_pools after
AreKnownPools-all F known_pools before after keeps are = record {
  each = λ slot at known. graph_from F slot after at (keeps.each slot at (λ no. none-some slot no) (graph_parts F slot before at (are.each slot at known)));
  known = λ slot known is.
      keeps.known slot known (λ no. none-some slot no) (graph_parts F slot before known.puddles (are.each slot known.puddles (ap (option_map (λ (k : Known). k.puddles)) is))) (are.known slot known is);
}

-- ---- the words of its frames

-- The word is in the frame of a puddle of the pool in the slot.
pub record IsOwnWord (F slot : ℕ) (image : Image) (k : ℕ) : Type 0 where
  pub frame : ℕ
  pub below : frame < F
  pub member : Member
  pub used : (tables_of F image).puddles frame ≡ Some member
  pub pool : member.pool ≡ slot + 1
  pub low : frame_at F frame ≤ k
  pub high : k < frame_at F frame + FRAME_WORDS

pub own_by : (F slot : ℕ) (image : Image) (at : List (ℕ × Puddle)) (k : ℕ) → EachIsOf (tables_of F image) slot at → pool_has_word F at k ≡ true → IsOwnWord F slot image k
own_by F slot image at k has mine =
    let own = pool_has_word-each F at k mine in
    let is = has own.ordinal own.puddle own.there in
    let within = is.below in
    record {
      frame = own.puddle.0;
      below = omega (arith, frames_of_tables F image, within);
      member = is.member;
      used = is.used;
      pool = is.pool;
      low = own.low;
      high = own.high;
    }

pub own_word : (F slot : ℕ) (image : Image) (k : ℕ) → pool_has_word F (puddles_in_turn (tables_of F image) slot) k ≡ true → IsOwnWord F slot image k
own_word F slot image k mine = own_by F slot image (puddles_in_turn (tables_of F image) slot) k (each_in_turn (tables_of F image) slot) mine

-- No word belongs to two pools.
pub words_apart : (F slot other : ℕ) (image : Image) (k : ℕ) → IsOwnWord F slot image k → IsOwnWord F other image k → slot ≡ other
words_apart F slot other image k a b =
    let low = a.low in let high = a.high in let from = b.low in let to = b.high in
    let frame : a.frame ≡ b.frame = omega arith in
    let same : a.member ≡ b.member = same_Some a.member b.member (sym a.used ∙ ap (tables_of F image).puddles frame ∙ b.used) in
    let pool : a.member.pool ≡ b.member.pool = ap (λ (m : Member). m.pool) same in
    let one = a.pool in let two = b.pool in
    omega (arith, pool, one, two)

-- ---- by words

-- If the words of the type table are the same, the same types are defined.
pub types_same : (before after : Image) → ((k : ℕ) → TYPE_TABLE ≤ k → k < POOL_TABLE → after k ≡ before k) → types_of after ≡ types_of before
types_same before after same =
    keyed-same nat_cmp (type_at after) (type_at before) 0 TYPE_RECORDS
    (λ n low high. type_at-same before after n (same (type_record_at n) (omega arith) (omega arith)) (same (type_record_at n + 1) (omega arith) (omega arith)))

pub KeepsGraphs-same : (before after : Image) → types_of after ≡ types_of before → KeepsGraphs before after
KeepsGraphs-same before after same = record { each = λ st g is. ap (λ types. graph_of types st) same ∙ is }

-- If the words of the puddle table are the same, each frame has the same record.
pub puddles_same : (F : ℕ) (before after : Image) → ((k : ℕ) → PUDDLE_TABLE ≤ k → k < tables_end F → after k ≡ before k) → (frame : ℕ) → frame < F
    → (tables_of F after).puddles frame ≡ (tables_of F before).puddles frame
puddles_same F before after same frame below =
    puddles_below F after frame below ∙ puddle_at-same after before frame (λ k low high. same k (omega arith) (omega arith)) ∙ sym (puddles_below F before frame below)

-- The calls write nothing to the types or to the records of puddles.
pub record SparesTables (F : ℕ) (may : Footprint) : Type 0 where
  pub types : (k v : ℕ) → TYPE_TABLE ≤ k → k < POOL_TABLE → may k v → ⊥
  pub puddles : (k v : ℕ) → PUDDLE_TABLE ≤ k → k < tables_end F → may k v → ⊥

-- If they also write nothing to the frames of a pool, that pool stays.
pub KeepsPools-changes : (F : ℕ) (but : Option ℕ) (may : Footprint) (old new : State) → Changes may None old new → SparesTables F may
    → ((slot k v : ℕ) → but ≢ Some slot → IsOwnWord F slot (reads old.now.words) k → may k v → ⊥) → KeepsPools F but (reads old.now.words) (reads new.now.words)
KeepsPools-changes F but may old new c tables frames =
    let before = reads old.now.words in
    let after = reads new.now.words in
    KeepsPools-each F but before after
    (KeepsGraphs-same before after (types_same before after (λ k low high. reads_kept may old new k c (λ v. tables.types k v low high))))
    (λ slot at apart has. record {
      puddles = λ frame below. ap (member_of slot frame) (puddles_same F before after (λ k low high. reads_kept may old new k c (λ v. tables.puddles k v low high)) frame below);
      words = λ k mine. reads_kept may old new k c (λ v. frames slot k v apart (own_word F slot before k mine));
    })

-- So calls that write neither these tables nor any frame leave all pools.
pub KeepsPools-apart : (F : ℕ) (may : Footprint) (old new : State) → Changes may None old new → SparesTables F may → ((k v : ℕ) → frames_at F ≤ k → may k v → ⊥)
    → KeepsPools F None (reads old.now.words) (reads new.now.words)
KeepsPools-apart F may old new c tables frames =
    KeepsPools-changes F None may old new c tables (λ slot k v apart own. let low = own.low in frames k v (omega arith))
