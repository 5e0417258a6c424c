-- A client that has no active transaction: the words of its logs and of its record are not masked, and the active
-- transactions stay while the client is registered or removed.
use Rattle.std.proofs.Common.{◌≡◌, inl, inr, ℕ, ◌+◌, ◌*◌, ◌<◌, ◌≤◌, true, false, ◌||◌, leb, ltb, cond, List, length, Option, Some, None, refl, sym, ap, ◌∙◌, arith, ne_eqb}
use Rattle.std.specs.Prelude.{is_some}
use Rattle.std.proofs.lemmas.Bool.{cases_lt, cond-false, or_cases, and_parts, leb-true, ltb-true, false_from_ne_true}
use Rattle.std.proofs.lemmas.Option.{same_Some}
use Rattle.std.specs.List.{list_any}
use Rattle.pm_model.specs.Words.{Words}
use Rattle.pm_model.specs.Changes.{Write}
use Rattle.pm_model.specs.Masks.{IsOff}
use Rattle.pud_defs.specs.declared.layout.TheConstants.{DAEMON_LOG, CLIENTS, CLIENT_LOGS, SPACE_RECORD_WORDS}
use Rattle.pud_defs.specs.Logging.Replay.{IsInLog}
use Rattle.pud_defs.specs.RegistryTables.Puddles.{puddle_record_at}
use Rattle.pud_defs.specs.RegistryTables.Pools.{pool_record_at}
use Rattle.pud_defs.specs.RegistryTables.Spaces.{Owner, space_record_at, with_owner}
use Rattle.pud_defs.specs.Logging.Settled.{client_of_log, log_number_at}
use Rattle.pud_defs.specs.PoolGraphs.Stored.{IsOnDevice}
use Rattle.pud_defs.specs.StateMachine.Transactions.{OpenTransactions, is_own, without_client}
use Rattle.pud_defs.specs.StateMachine.World.{Transaction, World, open_on}
use Rattle.pud_defs.specs.declared.machine.Command.TheVariants.{Leave}
use Rattle.pud_defs.specs.StateMachine.Step.{after}
use Rattle.pud_defs.proofs.Logging.Replay.{outside_log}
use Rattle.hybrid_tx.specs.Open.Masks.{OpenPool, is_in_pool_record, is_in_space_record, is_in_puddle_record, is_open_record, open_mask}
use Rattle.hybrid_tx.proofs.Open.OpenMasks.{mine_after, mask_below, mask_of_others, open_record_place}
use Rattle.hybrid_tx.proofs.Open.OpenPools.{open_on_device}
use Rattle.hybrid_tx.proofs.Open.OpenSettled.{other_log_apart}
use Rattle.hybrid_tx.proofs.PoolScope.{any_element}
use Rattle.batch.specs.Batches.{batch_write, ByBatch}
use Rattle.log_space.specs.Closed.{ByClosing}
use Rattle.log_space.specs.Records.{record_batch}
use Rattle.log_space.proofs.Writing.{writes_elsewhere}
use Rattle.hybrid_tx.specs.PoolScopes.{finished_of}
use Rattle.daemon_memory.specs.Memory.{ActiveTransaction}
use Rattle.daemon_memory.specs.ActiveTransactions.{open_pool_of, IsActive, AreActive, AreOfOtherClients, KeepsActive}
use Rattle.daemon_memory.proofs.Commands.Beside.{active_is, unmasked_by_all}
use Rattle.daemon_memory.proofs.Commands.Beneath.{IsOff-each}

-- ---- whose they are

-- A client that is not present has no active transaction.
pub others_absent : (w : World) (active : List (Option ActiveTransaction)) (mask : Write) (words : Words) (client : ℕ) → AreActive w active mask words → false ≡ is_some (w.clients client) → AreOfOtherClients client active
others_absent w active mask words client holds absent = record {
  each = λ number h there own.
      let is = active_is w active mask words holds number h there in
      absurd (let it : false ≡ true = absent ∙ ap (λ (c : ℕ). is_some (w.clients c)) (sym own) ∙ ap is_some is.own.present in cc);
}

-- ---- its words

module _ (w : World) (active : ActiveTransaction) (mask : Write) (words : Words) (is : IsActive w active mask words) (client : ℕ) (known : client < CLIENTS) (other : active.client ≡ client → ⊥) where
  abbrev F : ℕ
  F = w.stored.frames

  abbrev p : OpenPool
  p = open_pool_of active is.puddles is.rec is.own.who

  on_device : IsOnDevice F (finished_of is.puddles)
  on_device = open_on_device F p is.before is.pool

  -- The client's logs are not the active transaction's log.
  other_number : (number : ℕ) → number < CLIENT_LOGS → CLIENT_LOGS * client + number ≡ active.log_number → ⊥
  other_number number below here = let by = is.own.owner in other (omega arith)

  gate_unmasked : (k v : ℕ) → ByClosing F client k v → open_mask F p is.before k ≡ None
  gate_unmasked k v gate =
      let below = gate.0.below in
      let at = gate.0.is in
      let inside : IsInLog (log_number_at F (CLIENT_LOGS * client + gate.0.number)) k = record { low = omega arith; high = omega arith } in
      mask_of_others F p is.before k
      (other_log_apart F active.log_number (CLIENT_LOGS * client + gate.0.number) k (other_number gate.0.number below) inside)
      (mine_after F (finished_of is.puddles) k (omega arith))
      (false_from_ne_true (is_open_record p k) (λ of. let place = open_record_place F p k is.pool.slot is.pool.known on_device of in let high = place.high in absurd (omega arith)))

  -- The client's record is not a record that the transaction rests on.
  record_unmasked : (k : ℕ) → space_record_at client ≤ k → k < space_record_at (client + 1) → is_open_record p k ≡ false
  unfolding is_open_record
  record_unmasked k low high = false_from_ne_true (is_open_record p k) (λ of.
      elim (or_cases (is_in_pool_record p.slot k || is_in_space_record (client_of_log p.log_number) k) (list_any (is_in_puddle_record k) (finished_of p.puddles)) of) [
        | inl first ↦ elim (or_cases (is_in_pool_record p.slot k) (is_in_space_record (client_of_log p.log_number) k) first) [
          | inl pool ↦
              let slot = is.pool.slot in
              let parts = and_parts (leb (pool_record_at p.slot) k) (ltb k (pool_record_at (p.slot + 1))) pool in
              let end = ltb-true _ _ parts.1 in
              absurd (omega arith)
          | inr space ↦
              let by = is.own.owner in
              let parts = and_parts (leb (space_record_at (client_of_log p.log_number)) k) (ltb k (space_record_at (client_of_log p.log_number + 1))) space in
              let from = leb-true _ _ parts.0 in
              let end = ltb-true _ _ parts.1 in
              absurd (other (omega arith))
        ]
        | inr puddle ↦
            let found = any_element (is_in_puddle_record k) (finished_of p.puddles) puddle in
            let parts = and_parts (leb (puddle_record_at found.element.0) k) (ltb k (puddle_record_at (found.element.0 + 1))) found.passes in
            let from = leb-true _ _ parts.0 in
            absurd (omega arith)
      ])

  space_unmasked : (k : ℕ) → space_record_at client ≤ k → k < space_record_at (client + 1) → open_mask F p is.before k ≡ None
  space_unmasked k low high =
      mask_of_others F p is.before k (outside_log (log_number_at F active.log_number) k (inl (omega arith))) (mine_after F (finished_of is.puddles) k (omega arith)) (record_unmasked k low high)

  batch_unmasked : (vals : List ℕ) → length vals ≤ SPACE_RECORD_WORDS → (k v : ℕ) → ByBatch DAEMON_LOG (record_batch client vals) k v → open_mask F p is.before k ≡ None
  batch_unmasked vals few k v (inl log) = let high = log.high in mask_below F p is.before is.pool.slot is.pool.known on_device k (omega arith)
  batch_unmasked vals few k v (inr named) =
      let nothing : batch_write (record_batch client vals) k ≡ None → ⊥ = λ none. let it : None ≡ Some named.value = sym none ∙ named.is in cc in
      elim (cases_lt k (space_record_at client)) [
        | inl before ↦ absurd (nothing (writes_elsewhere client k vals (inl before)))
        | inr from ↦ elim (cases_lt k (space_record_at client + length vals)) [
          | inl within ↦ space_unmasked k (omega arith) (omega arith)
          | inr following ↦ absurd (nothing (writes_elsewhere client k vals (inr (omega arith))))
        ]
      ]

-- No active transaction masks any of these words.
module _ (w : World) (active : List (Option ActiveTransaction)) (mask : Write) (words : Words) (client : ℕ) (holds : AreActive w active mask words) (known : client < CLIENTS) where
  pub off_gates : AreOfOtherClients client active → IsOff mask (ByClosing w.stored.frames client)
  off_gates others =
      IsOff-each mask (ByClosing w.stored.frames client)
      (λ k v gate. unmasked_by_all w active mask words holds k (λ number h there is. gate_unmasked w h mask words is client known (others.each number h there) k v gate))

  pub off_record : (vals : List ℕ) → length vals ≤ SPACE_RECORD_WORDS → AreOfOtherClients client active → IsOff mask (ByBatch DAEMON_LOG (record_batch client vals))
  off_record vals few others =
      IsOff-each mask (ByBatch DAEMON_LOG (record_batch client vals))
      (λ k v named. unmasked_by_all w active mask words holds k (λ number h there is. batch_unmasked w h mask words is client known (others.each number h there) vals few k v named))

-- ---- the world

-- The active transactions stay while the client is registered or removed.
pub keeps_active : (w : World) (active : List (Option ActiveTransaction)) (client : ℕ) (now : Option Owner) → AreOfOtherClients client active → KeepsActive w (record w { clients = with_owner client now w.clients }) active
keeps_active w active client now others = record {
  frames = refl;
  transactions = refl;
  present = λ number h there. cond-false _ _ _ (ne_eqb h.client client (others.each number h there));
  stored = λ number h there. refl;
  types = λ id m is. is;
  graphs = λ st g is. is;
}

-- A transaction that is not the client's stays open.
still_open : (client : ℕ) (o : Option Transaction) → is_own client o ≡ false → cond (is_own client o) None o ≡ o
still_open client o others = cond-false _ _ _ others

module _ (w : World) (active : List (Option ActiveTransaction)) (mask : Write) (words : Words) (client : ℕ) (holds : AreActive w active mask words) (others : AreOfOtherClients client active) where
  not_own : (name : List ℕ) (o : Option Transaction) → open_on name w ≡ o → is_own client o ≡ false
  not_own name None e = refl
  not_own name (Some t) e =
      let known = holds.known name t e in
      let is = active_is w active mask words holds known.number known.active known.is in
      let same : is.own.transaction ≡ t = same_Some is.own.transaction t (sym is.own.is ∙ ap w.transactions known.name_is ∙ e) in
      ne_eqb t.client client (λ own. others.each known.number known.active known.is (sym is.own.client ∙ ap (λ (x : Transaction). x.client) same ∙ own))

  pub without_others : without_client client w.transactions ≡ w.transactions
  without_others = λ i name. still_open client (open_on name w) (not_own name (open_on name w) refl) i

  -- So the world that a `Leave` gives differs only in its clients.
  pub gone : after w (Leave client) ≡ record w { clients = with_owner client None w.clients }
  unfolding after
  gone =
      let left = record w { clients = with_owner client None w.clients } in
      ap (λ (opened : OpenTransactions). record left { transactions = opened }) without_others
