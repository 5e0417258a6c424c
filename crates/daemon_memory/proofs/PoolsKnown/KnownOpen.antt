-- What is known about pools beside open transactions: while one begins and ends, and while lines are carried out that
-- touch none.
use Rattle.std.proofs.Common.{◌≡◌, ◌≢◌, inl, inr, ℕ, ◌+◌, ◌<◌, ◌≤◌, List, length, replicate, set, Option, Some, None, option_map, sym, ap, subst, ◌∙◌, arith}
use Rattle.std.proofs.lemmas.Bool.{cases_eq, cases_lt}
use Rattle.std.proofs.lemmas.List.{get_or_past, set-set}
use Rattle.std.proofs.lemmas.Option.{none-some, same_Some}
use Rattle.pm_model.specs.Words.{reads}
use Rattle.pm_model.specs.Moments.{State}
use Rattle.pm_model.specs.Changes.{Footprint, Write, Changes, only, written, Persists}
use Rattle.pm_model.proofs.Words.{only_at}
use Rattle.pud_defs.specs.declared.layout.TheConstants.{LOG_WORDS}
use Rattle.pud_defs.specs.declared.records.Puddle.{Puddle}
use Rattle.pud_defs.specs.Formats.Image.{Image}
use Rattle.pud_defs.specs.Formats.Layout.{tables_end, frames_at}
use Rattle.pud_defs.specs.Logging.Settled.{ALL_LOGS, log_number_at}
use Rattle.pud_defs.specs.RegistryTables.Types.{types_of}
use Rattle.pud_defs.specs.PoolGraphs.Stored.{stored_in}
use Rattle.pud_defs.specs.PoolGraphs.Graph.{Graph, graph_of}
use Rattle.pud_defs.specs.RegistryTables.Tables.{tables_of, member_of, puddles_in_turn}
use Rattle.pud_defs.specs.StateMachine.World.{World}
use Rattle.batch.proofs.Tables.{reads_kept}
use Rattle.word_transaction.specs.Running.{ByTransaction}
use Rattle.hybrid_tx.specs.PoolScopes.{pool_scope, finished_of, pool_has_word}
use Rattle.hybrid_tx.specs.Open.ManyOpen.{OpenTransaction, Opens, none_open, IsOneMore}
use Rattle.hybrid_tx.proofs.Open.PoolPlaces.{EachIsOf}
use Rattle.hybrid_tx.specs.Objects.Transactions.{RestsAs}
use Rattle.pm_model.proofs.Changes.{HasOnly-kept}
use Rattle.known_pool.specs.Known.{Known, IsKnown}
use Rattle.daemon_memory.specs.Memory.{ActiveTransaction}
use Rattle.daemon_memory.specs.ActiveTransactions.{IsActive}
use Rattle.daemon_memory.specs.PoolKnowledge.{known_puddles_in, AreKnownPools}
use Rattle.daemon_memory.specs.KnownPools.{KnowsPools}
use Rattle.daemon_memory.proofs.PoolsKnown.KnownKept.{HasGraphIn, graph_from, KeepsPools, KeepsPools-changes, KeepsPools-apart, SparesTables, AreKnownPools-all, AreKnownPools-but, in_turn_kept, types_same, puddles_same, own_by, words_apart, IsOwnWord, own_word}
use Rattle.daemon_memory.proofs.PoolsKnown.Known.{AreKnownPools-none, AreKnownPools-set, AreKnownPools-forgotten, known_kept_there, known_other}
use Rattle.daemon_memory.proofs.OpenTransactions.ActiveUnder.{nothing_there}
use Rattle.daemon_memory.proofs.PoolChanges.PoolsBeside.{puddles_still}

-- ---- words of one transaction

-- The words of the log whose gate is this word come after the tables and before the frames.
pub record IsLogBeside (F at : ℕ) : Type 0 where
  pub low : tables_end F ≤ at
  pub high : at + LOG_WORDS ≤ frames_at F

-- So do the words of each client's log.
pub log_beside : (F number : ℕ) → number < ALL_LOGS → IsLogBeside F (log_number_at F number)
log_beside F number known = record { low = omega arith; high = omega arith }

-- A log's gate is written.
pub KeepsPools-gate : (F number : ℕ) (may : Footprint) (old new : State) → number < ALL_LOGS → ((k v : ℕ) → may k v → k ≡ log_number_at F number) → Changes may None old new → KeepsPools F None (reads old.now.words) (reads new.now.words)
KeepsPools-gate F number may old new known here c =
    let beside = log_beside F number known in
    let low = beside.low in let high = beside.high in
    KeepsPools-apart F may old new c
    (record { types = λ k v from to wrote. let is = here k v wrote in absurd (omega arith); puddles = λ k v from to wrote. let is = here k v wrote in absurd (omega arith) })
    (λ k v from wrote. let is = here k v wrote in absurd (omega arith))

-- It is written when a transaction begins.
pub KeepsPools-begun : (F number gate : ℕ) (old new : State) → number < ALL_LOGS → Persists (only (log_number_at F number) gate) None old new → KeepsPools F None (reads old.now.words) (reads new.now.words)
KeepsPools-begun F number gate old new known p =
    KeepsPools-gate F number (written (only (log_number_at F number) gate)) old new known (λ k v may. only_at (log_number_at F number) gate k v may) p.changes

-- Words of the transaction's log and of its pool's frames are written.
module _ (F slot log : ℕ) (at : List (ℕ × Puddle)) (old new : State) (beside : IsLogBeside F log) (has : EachIsOf (tables_of F (reads old.now.words)) slot at)
    (c : Changes (ByTransaction (pool_scope F at) log) None old new) where
  abbrev may : Footprint
  may = ByTransaction (pool_scope F at) log

  within_frames : (k v : ℕ) → k < tables_end F → may k v → ⊥
  within_frames k v below (inl inside) = let low = beside.low in let from = inside.low in omega arith
  within_frames k v below (inr mine) = let own = own_by F slot (reads old.now.words) at k has mine in let low = own.low in omega arith

  spares : SparesTables F may
  spares = record { types = λ k v low high. within_frames k v (omega arith); puddles = λ k v low high. within_frames k v high }

  others_apart : (s k v : ℕ) → slot ≢ s → may k v → IsOwnWord F s (reads old.now.words) k → ⊥
  others_apart s k v apart (inl inside) own = let high = beside.high in let to = inside.high in let low = own.low in omega arith
  others_apart s k v apart (inr mine) own = apart (words_apart F slot s (reads old.now.words) k (own_by F slot (reads old.now.words) at k has mine) own)

  -- So all other pools stay.
  pub KeepsPools-within : KeepsPools F (Some slot) (reads old.now.words) (reads new.now.words)
  KeepsPools-within =
      KeepsPools-changes F (Some slot) may old new c spares (λ s k v apart own wrote. others_apart s k v (λ same. apart (ap (λ (n : ℕ). Some n) same)) wrote own)

  -- The pool's own puddles stay the same.
  turn_within : puddles_in_turn (tables_of F (reads new.now.words)) slot ≡ puddles_in_turn (tables_of F (reads old.now.words)) slot
  turn_within =
      in_turn_kept F slot (reads old.now.words) (reads new.now.words)
      (λ frame below. ap (member_of slot frame) (puddles_same F (reads old.now.words) (reads new.now.words) (λ k low high. reads_kept may old new k c (λ v. spares.puddles k v low high)) frame below))

  pub types_within : types_of (reads new.now.words) ≡ types_of (reads old.now.words)
  types_within = types_same (reads old.now.words) (reads new.now.words) (λ k low high. reads_kept may old new k c (λ v. spares.types k v low high))

-- ---- what is known beside it

-- A slot in which a pool is known is one of the list's.
pub known_within : (known_pools : List (Option Known)) (slot : ℕ) (at : List (ℕ × Puddle)) → known_puddles_in known_pools slot ≡ Some at → slot < length known_pools
known_within known_pools slot at known = elim (cases_lt slot (length known_pools)) [
  | inl within ↦ within
  | inr past ↦ absurd (none-some at (sym (ap (option_map (λ (k : Known). k.puddles)) (get_or_past known_pools slot None past)) ∙ known))
]

-- If what is put for a pool has the puddles that were known, the known puddles of each pool stay the same.
pub known_again : (known_pools : List (Option Known)) (slot : ℕ) (known : Known) → known_puddles_in known_pools slot ≡ Some known.puddles → (i : ℕ) → known_puddles_in (set known_pools slot (Some known)) i ≡ known_puddles_in known_pools i
known_again known_pools slot known was i = elim (cases_eq i slot) [
  | inl same ↦ ap (known_puddles_in (set known_pools slot (Some known))) same ∙ known_kept_there known_pools slot known (known_within known_pools slot known.puddles was) ∙ sym was ∙ ap (known_puddles_in known_pools) (sym same)
  | inr other ↦ known_other known_pools slot i (Some known) other
]

-- A start knows nothing, and nothing is open.
pub KnowsPools-none : (F n : ℕ) (image : Image) → KnowsPools F (replicate n None) none_open image
KnowsPools-none F n image = record { known_pools = AreKnownPools-none F n image; open_pools = λ number o there. absurd (none-some o there) }

-- More pools are known, and the puddles that were known still are.
pub KnowsPools-read : (F : ℕ) (known_pools next : List (Option Known)) (opens : Opens) (image : Image) → AreKnownPools F next image
    → ((slot : ℕ) (at : List (ℕ × Puddle)) → known_puddles_in known_pools slot ≡ Some at → known_puddles_in next slot ≡ Some at) → KnowsPools F known_pools opens image → KnowsPools F next opens image
KnowsPools-read F known_pools next opens image right kept knows = record { known_pools = right; open_pools = λ number o there. kept o.pool.slot o.pool.puddles (knows.open_pools number o there) }

-- No transaction is open on the pool in the slot.
abbrev pub IsShut : Opens → (slot : ℕ) → Type 0
IsShut opens slot = (number : ℕ) (o : OpenTransaction) → opens number ≡ Some o → o.pool.slot ≢ slot

-- A pool is forgotten on which no transaction is open.
pub KnowsPools-forgotten : (F slot : ℕ) (known_pools : List (Option Known)) (opens : Opens) (image : Image) → IsShut opens slot → KnowsPools F known_pools opens image
    → KnowsPools F (set known_pools slot None) opens image
KnowsPools-forgotten F slot known_pools opens image shut knows = record {
  known_pools = AreKnownPools-forgotten F known_pools slot image knows.known_pools;
  open_pools = λ number o there. known_other known_pools slot o.pool.slot None (shut number o there) ∙ knows.open_pools number o there;
}

-- ---- lines that leave the active transactions alone

-- Each pool stays.
pub KnowsPools-all : (F : ℕ) (known_pools : List (Option Known)) (opens : Opens) (before after : Image) → KeepsPools F None before after → KnowsPools F known_pools opens before
    → KnowsPools F known_pools opens after
KnowsPools-all F known_pools opens before after keeps knows = record { known_pools = AreKnownPools-all F known_pools before after keeps knows.known_pools; open_pools = knows.open_pools }

-- A pool on which no transaction is open is dropped and forgotten.
pub KnowsPools-dropped : (F slot : ℕ) (known_pools : List (Option Known)) (opens : Opens) (before after : Image) → IsShut opens slot → KeepsPools F (Some slot) before after
    → KnowsPools F known_pools opens before → KnowsPools F (set known_pools slot None) opens after
KnowsPools-dropped F slot known_pools opens before after shut keeps knows =
    let less = KnowsPools-forgotten F slot known_pools opens before shut knows in
    record { known_pools = AreKnownPools-but F slot (set known_pools slot None) before after keeps (ap (option_map (λ (k : Known). k.puddles)) (nothing_there known_pools slot)) less.known_pools; open_pools = less.open_pools }

-- ---- a transaction begins, keeps running and ends

-- The transaction's pool has a graph, and this is then known about it. Each other pool stays.
pub AreKnownPools-own : (F slot : ℕ) (known_pools : List (Option Known)) (known : Known) (before after : Image) → KeepsPools F (Some slot) before after → HasGraphIn F slot after known.puddles → IsKnown F after known
    → AreKnownPools F known_pools before → AreKnownPools F (set known_pools slot (Some known)) after
AreKnownPools-own F slot known_pools known before after keeps has is are =
    let none = ap (option_map (λ (k : Known). k.puddles)) (nothing_there known_pools slot) in
    let less = AreKnownPools-but F slot (set known_pools slot None) before after keeps none (AreKnownPools-forgotten F known_pools slot before are) in
    subst (λ (js : List (Option Known)). AreKnownPools F js after) (set-set known_pools slot None (Some known)) (AreKnownPools-set F (set known_pools slot None) slot known after (graph_from F slot after known.puddles has) is less)

-- What holds for one and for each of the others holds for each that is open.
each_opened : (number : ℕ) (one : OpenTransaction) (others opens : Opens) → IsOneMore number one others opens → (P : OpenTransaction → Type 0) → P one
    → ((m : ℕ) (o : OpenTransaction) → others m ≡ Some o → P o) → (m : ℕ) (o : OpenTransaction) → opens m ≡ Some o → P o
each_opened number one others opens more P its each m o there = elim (cases_eq m number) [
  | inl same ↦ subst P (same_Some one o (sym more.here ∙ ap opens (sym same) ∙ there)) its
  | inr apart ↦ each m o (sym (more.same m apart) ∙ there)
]

-- One more transaction is open, on a pool that is known.
pub KnowsPools-begun : (F : ℕ) (known_pools : List (Option Known)) (number : ℕ) (one : OpenTransaction) (others opens : Opens) (before after : Image) → IsOneMore number one others opens
    → KeepsPools F None before after → known_puddles_in known_pools one.pool.slot ≡ Some one.pool.puddles → KnowsPools F known_pools others before → KnowsPools F known_pools opens after
KnowsPools-begun F known_pools number one others opens before after more keeps known knows = record {
  known_pools = AreKnownPools-all F known_pools before after keeps knows.known_pools;
  open_pools = each_opened number one others opens more (λ o. known_puddles_in known_pools o.pool.slot ≡ Some o.pool.puddles) known knows.open_pools;
}

-- One transaction keeps running, on the same puddles or on more, and no other is open on its pool. The pool has a
-- graph, and this is then known about it.
pub KnowsPools-grown : (F : ℕ) (known_pools : List (Option Known)) (number : ℕ) (one more : OpenTransaction) (others opens then : Opens) (known : Known) (before after : Image) → IsOneMore number one others opens
    → IsOneMore number more others then → more.pool.slot ≡ one.pool.slot → known.puddles ≡ more.pool.puddles → IsShut others one.pool.slot → KeepsPools F (Some one.pool.slot) before after
    → HasGraphIn F one.pool.slot after more.pool.puddles → IsKnown F after known → KnowsPools F known_pools opens before → KnowsPools F (set known_pools one.pool.slot (Some known)) then after
KnowsPools-grown F known_pools number one more others opens then known before after was now same puddles shut keeps has is knows =
    let slot : ℕ = one.pool.slot in
    record {
      known_pools = AreKnownPools-own F slot known_pools known before after keeps (subst (HasGraphIn F slot after) (sym puddles) has) is knows.known_pools;
      open_pools = each_opened number more others then now (λ o. known_puddles_in (set known_pools slot (Some known)) o.pool.slot ≡ Some o.pool.puddles)
          (ap (known_puddles_in (set known_pools slot (Some known))) same ∙ known_kept_there known_pools slot known (known_within known_pools slot one.pool.puddles (knows.open_pools number one was.here)) ∙ ap (λ (at : List (ℕ × Puddle)). Some at) puddles)
          (λ m o there. known_other known_pools slot o.pool.slot (Some known) (shut m o there) ∙ knows.open_pools m o (was.same m (λ here. none-some o (sym was.none ∙ ap others (sym here) ∙ there)) ∙ there));
    }

-- One of all transactions ends, on the same puddles. Its pool has a graph, and this is then known about it.
pub KnowsPools-ended : (F : ℕ) (known_pools : List (Option Known)) (number : ℕ) (one : OpenTransaction) (others opens : Opens) (known : Known) (before after : Image) → IsOneMore number one others opens → known.puddles ≡ one.pool.puddles
    → KeepsPools F (Some one.pool.slot) before after → HasGraphIn F one.pool.slot after one.pool.puddles → IsKnown F after known → KnowsPools F known_pools opens before → KnowsPools F (set known_pools one.pool.slot (Some known)) others after
KnowsPools-ended F known_pools number one others opens known before after more puddles keeps has is knows =
    let was = knows.open_pools number one more.here ∙ ap (λ (at : List (ℕ × Puddle)). Some at) (sym puddles) in
    record {
      known_pools = AreKnownPools-own F one.pool.slot known_pools known before after keeps (subst (HasGraphIn F one.pool.slot after) (sym puddles) has) is knows.known_pools;
      open_pools = λ m o there. elim (cases_eq m number) [
        | inl same ↦ absurd (none-some o (sym more.none ∙ ap others (sym same) ∙ there))
        | inr apart ↦ known_again known_pools one.pool.slot known was o.pool.slot ∙ knows.open_pools m o (more.same m apart ∙ there)
      ];
    }

-- One transaction keeps running, on the same puddles.
pub KnowsPools-later : (F : ℕ) (known_pools : List (Option Known)) (number : ℕ) (one : OpenTransaction) (opens : Opens) (known : Known) (before after : Image) → opens number ≡ Some one → known.puddles ≡ one.pool.puddles
    → KeepsPools F (Some one.pool.slot) before after → HasGraphIn F one.pool.slot after one.pool.puddles → IsKnown F after known → KnowsPools F known_pools opens before → KnowsPools F (set known_pools one.pool.slot (Some known)) opens after
KnowsPools-later F known_pools number one opens known before after there puddles keeps has is knows =
    let was = knows.open_pools number one there ∙ ap (λ (at : List (ℕ × Puddle)). Some at) (sym puddles) in
    record {
      known_pools = AreKnownPools-own F one.pool.slot known_pools known before after keeps (subst (HasGraphIn F one.pool.slot after) (sym puddles) has) is knows.known_pools;
      open_pools = λ m o here. known_again known_pools one.pool.slot known was o.pool.slot ∙ knows.open_pools m o here;
    }

-- More or less is known about a pool, and its puddles are still known.
pub KnowsPools-again : (F slot : ℕ) (known_pools : List (Option Known)) (opens : Opens) (known : Known) (image : Image) → known_puddles_in known_pools slot ≡ Some known.puddles → IsKnown F image known → KnowsPools F known_pools opens image
    → KnowsPools F (set known_pools slot (Some known)) opens image
KnowsPools-again F slot known_pools opens known image was is knows = record {
  known_pools = AreKnownPools-set F known_pools slot known image (knows.known_pools.each slot known.puddles was) is knows.known_pools;
  open_pools = λ m o here. known_again known_pools slot known was o.pool.slot ∙ knows.open_pools m o here;
}

-- What the transaction's calls do.
module _ (w : World) (h : ActiveTransaction) (mask : Write) (old new : State) (is : IsActive w h mask old.now.words) where
  abbrev F : ℕ
  F = w.stored.frames

  -- The transaction's log is a client's.
  pub active_log : IsLogBeside F h.tx.log.gate_at
  active_log = subst (IsLogBeside F) (sym is.own.gate) (log_beside F h.log_number is.pool.known)

  module _ (c : Changes (ByTransaction (pool_scope F (finished_of is.puddles)) h.tx.log.gate_at) None old new) where
    -- Words of the transaction are set.
    pub KeepsPools-active : KeepsPools F (Some h.slot) (reads old.now.words) (reads new.now.words)
    KeepsPools-active = KeepsPools-within F h.slot h.tx.log.gate_at (finished_of is.puddles) old new active_log (puddles_still w h mask old.now.words is).each c

    -- Its pool then has this graph.
    pub graph_active_in : (g : Graph) → types_of (reads old.now.words) ≡ w.stored.types → puddles_in_turn (tables_of F (reads old.now.words)) h.slot ≡ is.puddles
        → graph_of w.stored.types (stored_in F is.puddles (reads new.now.words)) ≡ Some g → HasGraphIn F h.slot (reads new.now.words) is.puddles
    graph_active_in g types turn stored =
        let members = (puddles_still w h mask old.now.words is).each in
        record {
          graph = g;
          turn = turn_within F h.slot h.tx.log.gate_at (finished_of is.puddles) old new active_log members c ∙ turn;
          stored = ap (λ ts. graph_of ts (stored_in F is.puddles (reads new.now.words))) (types_within F h.slot h.tx.log.gate_at (finished_of is.puddles) old new active_log members c ∙ types) ∙ stored;
        }

    -- The words of a pool in another slot that rest still rest.
    pub rest_active : (slot : ℕ) (at : List (ℕ × Puddle)) (before : Image) → h.slot ≢ slot → HasGraphIn F slot (reads old.now.words) at → RestsAs F at before old.now.words → RestsAs F at before new.now.words
    rest_active slot at before apart has rests = record {
      each = λ k mine other.
          HasOnly-kept (ByTransaction (pool_scope F (finished_of is.puddles)) h.tx.log.gate_at) None old new k (before k) c
          (λ v wrote.
          others_apart F h.slot h.tx.log.gate_at (finished_of is.puddles) old new active_log (puddles_still w h mask old.now.words is).each c slot k v apart wrote
          (own_word F slot (reads old.now.words) k (ap (λ (puddles : List (ℕ × Puddle)). pool_has_word F puddles k) has.turn ∙ mine)))
          (rests.each k mine other);
    }
