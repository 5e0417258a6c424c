-- For each pool on which a transaction is active, the words of puddles that are not finished rest beside calls that
-- leave pools as they are.
use Rattle.std.proofs.Common.{◌≡◌, ◌≢◌, inr, ℕ, true, false, Option, Some, None, sym, ap, subst, ◌∙◌, arith, List, inl}
use Rattle.pm_model.specs.Words.{HasOnly, reads}
use Rattle.pm_model.specs.Moments.{State}
use Rattle.pm_model.proofs.Words.{HasOnly-own, HasOnly-newest}
use Rattle.pud_defs.specs.declared.layout.TheConstants.{DAEMON_LOG}
use Rattle.pud_defs.specs.Logging.Replay.{is_in_log}
use Rattle.pud_defs.specs.StateMachine.World.{World}
use Rattle.pud_defs.proofs.Logging.Replay.{outside_log}
use Rattle.hybrid_tx.specs.PoolScopes.{pool_has_word, finished_of}
use Rattle.hybrid_tx.proofs.PoolScope.{pool_has_word-each}
use Rattle.std.proofs.lemmas.Bool.{cases_eq, false_from_ne_true}
use Rattle.std.proofs.lemmas.Option.{same_Some}
use Rattle.pud_defs.specs.declared.records.Puddle.{Puddle}
use Rattle.pud_defs.specs.RegistryTables.Tables.{tables_of, puddles_in_turn}
use Rattle.pud_defs.specs.Logging.Settled.{log_number_at}
use Rattle.hybrid_tx.specs.Open.Masks.{is_open_record}
use Rattle.hybrid_tx.proofs.Open.OpenMasks.{mask_of_others, open_record_place}
use Rattle.hybrid_tx.proofs.Open.OpenPools.{open_on_device}
use Rattle.daemon_memory.proofs.PoolChanges.PoolsBeside.{puddles_still, one_slot}
use Rattle.daemon_memory.specs.Memory.{ActiveTransaction, Memory, active_under}
use Rattle.daemon_memory.specs.ActiveTransactions.{open_transaction_of, IsActive, StaysSingle, open_pool_of}
use Rattle.daemon_memory.specs.Ready.{IsReady}
use Rattle.daemon_memory.proofs.Commands.Beside.{active_is, RestAfter, unmasked_by_each}
use Rattle.daemon_memory.proofs.PoolsKnown.KnownKept.{HasGraphIn, KeepsPools, graph_parts, IsOwnWord, own_word, own_by, words_apart}

module _ (size : ℕ) (w : World) (memory : Memory) (old : State) (ready : IsReady size w memory old) where
  abbrev is_active : (number : ℕ) (h : ActiveTransaction) → active_under memory.active number ≡ Some h → IsActive w h ready.mask old.now.words
  is_active = active_is w memory.active ready.mask old.now.words ready.active

  -- A pool on which a transaction is active has a graph as it is read.
  pub active_graph : (number : ℕ) (h : ActiveTransaction) (there : active_under memory.active number ≡ Some h) → HasGraphIn w.stored.frames h.slot (reads old.now.words) (is_active number h there).puddles
  active_graph number h there =
      let under = ready.active.each number h there in
      let known = ready.knows.open_pools number (open_transaction_of h under.is.puddles under.is.rec under.is.own.who under.is.before) under.opened in
      graph_parts w.stored.frames h.slot (reads old.now.words) under.is.puddles (ready.knows.known_pools.each h.slot under.is.puddles known)

  -- They rest after calls that write none of these words, and that leave each word that has one value with one value.
  pub rest_by_words : (new : State)
      → ((number : ℕ) (h : ActiveTransaction) (there : active_under memory.active number ≡ Some h) (k : ℕ) → pool_has_word w.stored.frames (is_active number h there).puddles k ≡ true → reads new.now.words k ≡ reads old.now.words k)
      → StaysSingle old new → RestAfter w memory.active ready.mask old.now.words ready.active new.now.words
  rest_by_words new stay single = record {
    each = λ number h there.
        let is = is_active number h there in
        record {
          each = λ k mine other.
              let m = pool_has_word-each w.stored.frames is.puddles k mine in
              let low = m.low in
              let was = is.running.rests.each k mine other in
              let read : reads new.now.words k ≡ is.before k = stay number h there k mine ∙ HasOnly-newest (old.now.words k) (is.before k) was in
              let out : is_in_log DAEMON_LOG k ≡ false = outside_log DAEMON_LOG k (inr (omega arith)) in
              subst (λ (v : ℕ). HasOnly (new.now.words k) v) read (single.each k out (HasOnly-own (old.now.words k) (is.before k) was));
        };
  }

  -- So they rest after calls that leave each of these pools as it is.
  pub rest_beside : (but : Option ℕ) (new : State) → ((number : ℕ) (h : ActiveTransaction) → active_under memory.active number ≡ Some h → but ≢ Some h.slot)
      → KeepsPools w.stored.frames but (reads old.now.words) (reads new.now.words) → StaysSingle old new → RestAfter w memory.active ready.mask old.now.words ready.active new.now.words
  rest_beside but new apart keeps = rest_by_words new (λ number h there k mine. keeps.words h.slot (is_active number h there).puddles (apart number h there) (active_graph number h there) k mine)

  -- They rest if nothing happened.
  pub rest_still : RestAfter w memory.active ready.mask old.now.words ready.active old.now.words
  rest_still = record { each = λ number h there. (is_active number h there).running.rests }

  -- No active transaction masks words that rest of another one's pool.
  module _ (number : ℕ) (active : ActiveTransaction) (there : active_under memory.active number ≡ Some active) (k : ℕ) (mine : pool_has_word w.stored.frames (is_active number active there).puddles k ≡ true)
      (other : pool_has_word w.stored.frames (finished_of (is_active number active there).puddles) k ≡ false) where
    abbrev F : ℕ
    F = w.stored.frames

    own : IsOwnWord F active.slot (reads old.now.words) k
    own = own_word F active.slot (reads old.now.words) k (ap (λ (puddles : List (ℕ × Puddle)). pool_has_word F puddles k) (active_graph number active there).turn ∙ mine)

    not_mine : (m : ℕ) (h : ActiveTransaction) (was : active_under memory.active m ≡ Some h) → pool_has_word F (finished_of (is_active m h was).puddles) k ≡ false
    not_mine m h was = elim (cases_eq m number) [
      | inl same ↦
          let one : h ≡ active = same_Some h active (sym was ∙ ap (active_under memory.active) same ∙ there) in
          let a = active_graph m h was in
          let b = active_graph number active there in
          let lists : (is_active m h was).puddles ≡ (is_active number active there).puddles =
          sym a.turn ∙ ap (λ (g : ActiveTransaction). puddles_in_turn (tables_of F (reads old.now.words)) g.slot) one ∙ b.turn in
          ap (λ (puddles : List (ℕ × Puddle)). pool_has_word F (finished_of puddles) k) lists ∙ other
      | inr apart ↦ false_from_ne_true (pool_has_word F (finished_of (is_active m h was).puddles) k) (λ its.
          let word = own_by F h.slot (reads old.now.words) (finished_of (is_active m h was).puddles) k (puddles_still w h ready.mask old.now.words (is_active m h was)).each its in
          apart (one_slot w memory.active ready.mask old.now.words ready.active m number h active was there (words_apart F h.slot active.slot (reads old.now.words) k word own)))
    ]

    pub rest_unmasked : ready.mask k ≡ None
    rest_unmasked =
        let low = own.low in
        unmasked_by_each w memory.active ready.mask old.now.words ready.active k (λ m h was.
        let is = is_active m h was in
        let pool = open_pool_of h is.puddles is.rec is.own.who in
        let few = is.pool.known in
        mask_of_others F pool is.before k (outside_log (log_number_at F h.log_number) k (inr (omega arith))) (not_mine m h was) (false_from_ne_true (is_open_record pool k) (λ of.
        let place = open_record_place F pool k is.pool.slot is.pool.known (open_on_device F pool is.before is.pool) of in
        let high = place.high in
        omega arith)))
