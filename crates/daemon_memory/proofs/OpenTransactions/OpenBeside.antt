-- A pool on which a transaction is open, and pools on which none is.
use Rattle.std.proofs.Common.{◌≡◌, ◌≢◌, inr, ℕ, Bool, true, false, List, Option, Some, None, refl, sym, ap, ◌∙◌, arith}
use Rattle.std.proofs.lemmas.Option.{none-some, same_Some}
use Rattle.pm_model.specs.Words.{Words, reads}
use Rattle.pm_model.specs.Changes.{Write}
use Rattle.pm_model.specs.Masks.{masked_image}
use Rattle.pm_model.proofs.Masks.{masked_image-elsewhere}
use Rattle.pud_defs.specs.declared.records.PoolRecord.{PoolRecord}
use Rattle.pud_defs.specs.declared.records.Puddle.{Puddle}
use Rattle.pud_defs.specs.Formats.Image.{Image}
use Rattle.pud_defs.specs.PoolGraphs.Graph.{Graph, graph_of}
use Rattle.pud_defs.specs.StateMachine.PoolChanges.{pool_named}
use Rattle.pud_defs.specs.Logging.Settled.{log_number_at}
use Rattle.pud_defs.specs.StateMachine.Step.{graph_in}
use Rattle.pud_defs.specs.PoolGraphs.Stored.{stored_in}
use Rattle.pud_defs.specs.RegistryTables.Tables.{Tables, tables_of, puddles_in_turn}
use Rattle.pud_defs.specs.StateMachine.World.{Transaction, World, open_on}
use Rattle.pud_defs.proofs.Logging.Replay.{outside_log}
use Rattle.hybrid_tx.specs.PoolScopes.{pool_has_word, finished_of}
use Rattle.hybrid_tx.specs.Open.Masks.{OpenPool, is_open_record, open_mask}
use Rattle.hybrid_tx.proofs.Open.OpenMasks.{open_record_place, mask_of_others}
use Rattle.hybrid_tx.proofs.Objects.Opening.{stored_in-has_word}
use Rattle.hybrid_tx.proofs.Open.OpenPools.{open_on_device}
use Rattle.hybrid_tx.proofs.PoolScope.{pool_has_word-each}
use Rattle.hybrid_tx.proofs.Open.PoolPlaces.{each_in_turn, puddles_apart}
use Rattle.daemon_memory.specs.Memory.{ActiveTransaction, active_under}
use Rattle.daemon_memory.specs.ActiveTransactions.{open_pool_of, IsActive, AreActive, IsOwnTransaction}
use Rattle.daemon_memory.proofs.Commands.Beside.{active_is, unmasked_by_all}
use Rattle.daemon_memory.proofs.PoolChanges.PoolsBeside.{used_still, puddles_still}

-- ---- which pool it is

-- A transaction of this client is open on the pool of the name. The pool had a graph before the transaction. By what is
-- read the pool now has the graph that the transaction shows.
pub record IsOpenHere (w : World) (at : List (ℕ × Puddle)) (image : Image) (name : List ℕ) (client : ℕ) : Type 0 where
  pub transaction : Transaction
  pub is : open_on name w ≡ Some transaction
  pub whose : transaction.client ≡ client
  pub graph_before : Graph
  pub stored : graph_in (pool_named name w.stored) ≡ Some graph_before
  pub now : graph_of w.stored.types (stored_in w.stored.frames at image) ≡ Some transaction.now

-- One is open here if the client's own transaction is active.
pub open_here : (w : World) (active : List (Option ActiveTransaction)) (mask : Write) (words : Words) (name : List ℕ) (client number : ℕ) (holds : AreActive w active mask words) (own : IsOwnTransaction client name number active)
    → IsOpenHere w (active_is w active mask words holds number own.active own.is).puddles (reads words) name client
open_here w active mask words name client number holds own =
    let is = active_is w active mask words holds number own.active own.is in
    record {
      transaction = is.own.transaction;
      is = ap w.transactions (sym own.pool) ∙ is.own.is;
      whose = is.own.client ∙ own.whose;
      graph_before = is.graph_before;
      stored = ap (λ (n : List ℕ). graph_in (pool_named n w.stored)) (sym own.pool) ∙ is.stored;
      now = is.running.is;
    }

-- No active transaction has a name under which none is open.
pub not_named : (w : World) (active : List (Option ActiveTransaction)) (mask : Write) (words : Words) (name : List ℕ) → AreActive w active mask words → open_on name w ≡ None
    → (number : ℕ) (h : ActiveTransaction) → active_under active number ≡ Some h → h.name ≢ name
not_named w active mask words name holds none number h there same =
    let is = active_is w active mask words holds number h there in
    none-some is.own.transaction (sym none ∙ ap w.transactions (sym same) ∙ is.own.is)

-- ---- frames of other pools

module _ (w : World) (active : ActiveTransaction) (mask : Write) (words : Words) (is : IsActive w active mask words) where
  abbrev F : ℕ
  F = w.stored.frames

  abbrev now : Image
  now = reads words

  abbrev t : Tables
  t = tables_of F now

  abbrev p : OpenPool
  p = open_pool_of active is.puddles is.rec is.own.who

  module _ (slot : ℕ) (r : PoolRecord) (used : t.pools slot ≡ Some r) (other : r.name ≢ active.name) where
    -- The other pool is not in the active transaction's slot.
    pub other_slot : slot ≡ active.slot → ⊥
    other_slot same = other (ap (λ (x : PoolRecord). x.name) (same_Some r is.rec (sym used ∙ ap t.pools same ∙ used_still w active mask words is)) ∙ is.name)

    not_mine : (k : ℕ) → pool_has_word F (puddles_in_turn t slot) k ≡ true → pool_has_word F (finished_of is.puddles) k ≡ false
    not_mine = puddles_apart F t slot active.slot (puddles_in_turn t slot) (finished_of is.puddles) (each_in_turn t slot) (puddles_still w active mask words is).each other_slot

    not_record : (k : ℕ) (of : Bool) → is_open_record p k ≡ of → pool_has_word F (puddles_in_turn t slot) k ≡ true → of ≡ false
    not_record k false e mine = refl
    not_record k true e mine =
        let here = pool_has_word-each F (puddles_in_turn t slot) k mine in
        let low = here.low in
        let high = (open_record_place F p k is.pool.slot is.pool.known (open_on_device F p is.before is.pool) e).high in
        absurd (omega arith)

    -- The active transaction masks no word of the other pool's frames.
    pub unmasked_frames : (k : ℕ) → pool_has_word F (puddles_in_turn t slot) k ≡ true → open_mask F p is.before k ≡ None
    unmasked_frames k mine =
        let here = pool_has_word-each F (puddles_in_turn t slot) k mine in
        let low = here.low in
        let few = is.pool.known in
        mask_of_others F p is.before k (outside_log (log_number_at F active.log_number) k (inr (omega arith))) (not_mine k mine) (not_record k (is_open_record p k) refl mine)

-- If no transaction is active on a pool, what it stores is read the same, masked or not.
pub pool_unmasked : (w : World) (active : List (Option ActiveTransaction)) (mask : Write) (words : Words) (name : List ℕ) (slot : ℕ) (r : PoolRecord) → AreActive w active mask words
    → ((number : ℕ) (h : ActiveTransaction) → active_under active number ≡ Some h → h.name ≢ name) → (tables_of w.stored.frames (reads words)).pools slot ≡ Some r → r.name ≡ name
    → stored_in w.stored.frames (puddles_in_turn (tables_of w.stored.frames (reads words)) slot) (masked_image mask (reads words))
    ≡ stored_in w.stored.frames (puddles_in_turn (tables_of w.stored.frames (reads words)) slot) (reads words)
pool_unmasked w active mask words name slot r holds shut used named =
    stored_in-has_word w.stored.frames (puddles_in_turn (tables_of w.stored.frames (reads words)) slot) (reads words) (masked_image mask (reads words))
    (λ k mine. masked_image-elsewhere mask (reads words) k
    (unmasked_by_all w active mask words holds k (λ number h there is. unmasked_frames w h mask words is slot r used (λ same. shut number h there (sym same ∙ named)) k mine)))
