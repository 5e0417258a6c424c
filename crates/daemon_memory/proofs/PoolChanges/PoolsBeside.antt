-- Pools that are made, changed and dropped beside open transactions: which words of the tables these mask, and what
-- stays of each one's pool.
use Rattle.std.proofs.Common.{◌≡◌, ◌⊎◌, inl, inr, ℕ, ◌+◌, ◌<◌, ◌≤◌, true, false, ◌||◌, leb, ltb, List, Option, Some, None, sym, ap, subst, ◌∙◌, arith, eq-eqb}
use Rattle.std.specs.Prelude.{slice_get}
use Rattle.std.specs.List.{list_any}
use Rattle.std.proofs.lemmas.Bool.{and_parts, and_from, or_cases, or_left, or_right, leb-true, ltb-true, le-leb, lt-ltb, eqb-true, false_from_ne_true}
use Rattle.std.proofs.lemmas.Option.{same_Some}
use Rattle.pm_model.specs.Words.{Words, reads}
use Rattle.pm_model.specs.Changes.{Write}
use Rattle.pud_defs.specs.declared.records.TheConstants.{POOL_RECORDS}
use Rattle.pud_defs.specs.declared.records.PoolRecord.{PoolRecord}
use Rattle.pud_defs.specs.declared.records.Puddle.{Puddle}
use Rattle.pud_defs.specs.Formats.Geometry.{steps_of, IsFinished}
use Rattle.pud_defs.specs.Formats.Frames.{frame_at}
use Rattle.pud_defs.specs.Formats.Layout.{IsWithin, tables_end}
use Rattle.pud_defs.specs.RegistryTables.Pools.{pool_record_at}
use Rattle.pud_defs.specs.RegistryTables.Puddles.{Member, puddle_record_at}
use Rattle.pud_defs.specs.RegistryTables.Puts.{is_of_pool}
use Rattle.pud_defs.specs.Logging.Settled.{client_of_log, log_number_at}
use Rattle.pud_defs.specs.RegistryTables.Spaces.{space_record_at}
use Rattle.pud_defs.specs.RegistryTables.Tables.{Tables, tables_of}
use Rattle.pud_defs.specs.StateMachine.World.{World}
use Rattle.pud_defs.proofs.Logging.Replay.{outside_log}
use Rattle.pud_defs.proofs.RegistryTables.TablesOf.{pools_below, puddles_below, frames_of_tables, pool_at-same, puddle_at-same}
use Rattle.hybrid_tx.specs.PoolScopes.{pool_has_word, holds_finished, finished_of}
use Rattle.hybrid_tx.proofs.FinishedPuddles.{stood}
use Rattle.hybrid_tx.specs.Open.Masks.{OpenPool, is_in_pool_record, is_in_space_record, is_in_puddle_record, is_open_record, ArePuddlesOf, open_mask}
use Rattle.hybrid_tx.proofs.Open.OpenMasks.{mine_after, mask_of_others}
use Rattle.hybrid_tx.proofs.Open.OpenPools.{open_on_device}
use Rattle.hybrid_tx.proofs.PoolScope.{all_there, any_element, element_passes, pool_has_word-each}
use Rattle.hybrid_tx.proofs.Open.PoolPlaces.{ArePuddlesOf-same}
use Rattle.daemon_memory.specs.Memory.{ActiveTransaction, active_under}
use Rattle.daemon_memory.specs.ActiveTransactions.{open_pool_of, open_transaction_of, IsActive, AreActive}
use Rattle.daemon_memory.proofs.Commands.Beside.{active_is, unmasked_by_all}

-- ---- which words are masked

-- A word of the record of one of these puddles.
record IsOfPuddle (at : List (ℕ × Puddle)) (k : ℕ) : Type 0 where
  index : ℕ
  element : ℕ × Puddle
  there : slice_get at index ≡ Some element
  within : IsWithin (puddle_record_at element.0) (puddle_record_at (element.0 + 1)) k

-- A word of a transaction's records is in its pool's record, in its client's, or in a puddle's.
open_record_of : (p : OpenPool) (k : ℕ) → is_open_record p k ≡ true
    → IsWithin (pool_record_at p.slot) (pool_record_at (p.slot + 1)) k ⊎ (IsWithin (space_record_at (client_of_log p.log_number)) (space_record_at (client_of_log p.log_number + 1)) k ⊎ IsOfPuddle (finished_of p.puddles) k)
unfolding is_open_record
open_record_of p k is =
    elim (or_cases (is_in_pool_record p.slot k || is_in_space_record (client_of_log p.log_number) k) (list_any (is_in_puddle_record k) (finished_of p.puddles)) is) [
      | inl first ↦ elim (or_cases (is_in_pool_record p.slot k) (is_in_space_record (client_of_log p.log_number) k) first) [
        | inl pool ↦
            let parts = and_parts (leb (pool_record_at p.slot) k) (ltb k (pool_record_at (p.slot + 1))) pool in
            inl (record { low = leb-true _ _ parts.0; high = ltb-true _ _ parts.1 })
        | inr space ↦
            let parts = and_parts (leb (space_record_at (client_of_log p.log_number)) k) (ltb k (space_record_at (client_of_log p.log_number + 1))) space in
            inr (inl (record { low = leb-true _ _ parts.0; high = ltb-true _ _ parts.1 }))
      ]
      | inr puddle ↦
          let found = any_element (is_in_puddle_record k) (finished_of p.puddles) puddle in
          let parts = and_parts (leb (puddle_record_at found.element.0) k) (ltb k (puddle_record_at (found.element.0 + 1))) found.passes in
          inr (inr (record { index = found.index; element = found.element; there = found.there; within = record { low = leb-true _ _ parts.0; high = ltb-true _ _ parts.1 } }))
    ]

of_pool_record : (p : OpenPool) (k : ℕ) → pool_record_at p.slot ≤ k → k < pool_record_at (p.slot + 1) → is_open_record p k ≡ true
unfolding is_open_record
of_pool_record p k low high =
    or_left (is_in_pool_record p.slot k || is_in_space_record (client_of_log p.log_number) k) (list_any (is_in_puddle_record k) (finished_of p.puddles))
    (or_left (is_in_pool_record p.slot k) (is_in_space_record (client_of_log p.log_number) k) (and_from (leb (pool_record_at p.slot) k) (ltb k (pool_record_at (p.slot + 1))) (le-leb _ _ low) (lt-ltb _ _ high)))

of_puddle_record : (p : OpenPool) (k o : ℕ) (e : ℕ × Puddle) → slice_get (finished_of p.puddles) o ≡ Some e → puddle_record_at e.0 ≤ k → k < puddle_record_at (e.0 + 1) → is_open_record p k ≡ true
unfolding is_open_record
of_puddle_record p k o e there low high =
    or_right (is_in_pool_record p.slot k || is_in_space_record (client_of_log p.log_number) k) (list_any (is_in_puddle_record k) (finished_of p.puddles))
    (element_passes (is_in_puddle_record k) (finished_of p.puddles) o e there (and_from (leb (puddle_record_at e.0) k) (ltb k (puddle_record_at (e.0 + 1))) (le-leb _ _ low) (lt-ltb _ _ high)))

module _ (w : World) (active : ActiveTransaction) (mask : Write) (words : Words) (is : IsActive w active mask words) where
  abbrev F : ℕ
  F = w.stored.frames

  abbrev p : OpenPool
  p = open_pool_of active is.puddles is.rec is.own.who

  abbrev now : Tables
  now = tables_of F (reads words)

  -- A word of the tables that is in none of the transaction's records is not masked by it.
  not_record : (k : ℕ) → k < tables_end F → (is_open_record p k ≡ true → ⊥) → open_mask F p is.before k ≡ None
  not_record k below never =
      mask_of_others F p is.before k (outside_log (log_number_at F active.log_number) k (inl (omega arith))) (mine_after F (finished_of is.puddles) k (omega arith)) (false_from_ne_true (is_open_record p k) never)

  -- Its pool's record is read as it was.
  pub used_still : now.pools active.slot ≡ Some is.rec
  used_still =
      pools_below F (reads words) active.slot is.pool.slot ∙ pool_at-same (reads words) is.before active.slot (λ k low high. is.records k (of_pool_record p k low high))
      ∙ sym (pools_below F is.before active.slot is.pool.slot) ∙ is.pool.used

  -- So are the records of its finished puddles.
  pub puddles_still : ArePuddlesOf now active.slot (finished_of is.puddles)
  puddles_still =
      ArePuddlesOf-same (tables_of F is.before) now active.slot (finished_of is.puddles) (frames_of_tables F is.before ∙ sym (frames_of_tables F (reads words)))
      (λ o e there.
      let below = all_there (λ (d : ℕ × Puddle). d.0 < F) (finished_of is.puddles) o e (open_on_device F p is.before is.pool).frames there in
      puddles_below F (reads words) e.0 below ∙ puddle_at-same (reads words) is.before e.0 (λ k low high. is.records k (of_puddle_record p k o e there low high)) ∙ sym (puddles_below F is.before e.0 below))
      is.pool.puddles

  -- A frame that is not its pool's is the frame of none of its finished puddles.
  not_its_own : (frame : ℕ) → is_of_pool active.slot (now.puddles frame) ≡ false → (o : ℕ) (e : ℕ × Puddle) → slice_get (finished_of is.puddles) o ≡ Some e → frame ≡ e.0 → ⊥
  not_its_own frame other o e there same =
      let m = puddles_still.each o e there in
      let of : is_of_pool active.slot (now.puddles frame) ≡ true = ap (λ n. is_of_pool active.slot (now.puddles n)) same ∙ ap (is_of_pool active.slot) m.used ∙ eq-eqb m.member.pool (active.slot + 1) m.pool in
      let no : true ≡ false = sym of ∙ other in
      cc

  other_pool : (slot k : ℕ) → slot < POOL_RECORDS → (slot ≡ active.slot → ⊥) → pool_record_at slot ≤ k → k < pool_record_at (slot + 1) → open_mask F p is.before k ≡ None
  other_pool slot k within apart low high =
      not_record k (omega arith) (λ of. elim (open_record_of p k of) [
        | inl pool ↦ let from = pool.low in let to = pool.high in absurd (apart (omega arith))
        | inr (inl space) ↦ let from = space.low in absurd (omega arith)
        | inr (inr puddle) ↦ let from = puddle.within.low in absurd (omega arith)
      ])

  -- No finished puddle of its pool lies in the frame.
  abbrev IsNoneOfIts : (frame : ℕ) → Type 0
  IsNoneOfIts frame = (o : ℕ) (e : ℕ × Puddle) → slice_get (finished_of is.puddles) o ≡ Some e → frame ≡ e.0 → ⊥

  -- None lies in the frame of a puddle in which steps are left.
  moving_apart : (frame : ℕ) (m : Member) → now.puddles frame ≡ Some m → (IsFinished m.puddle → ⊥) → IsNoneOfIts frame
  moving_apart frame m used moving o e there same =
      let of = puddles_still.each o e there in
      let one : of.member ≡ m = same_Some of.member m (sym of.used ∙ sym (ap now.puddles same) ∙ used) in
      let s = stood holds_finished is.puddles o e there in
      let puddle : m.puddle ≡ e.1 = sym (ap (λ (x : Member). x.puddle) one) ∙ of.puddle in
      moving (subst (λ (d : Puddle). IsFinished d) (sym puddle) (eqb-true e.1.frontier (steps_of e.1) s.passes))

  other_puddle : (frame k : ℕ) → frame < F → IsNoneOfIts frame → puddle_record_at frame ≤ k → k < puddle_record_at (frame + 1) → open_mask F p is.before k ≡ None
  other_puddle frame k below other low high =
      let few = is.pool.known in
      let slot = is.pool.slot in
      not_record k (omega arith) (λ of. elim (open_record_of p k of) [
        | inl pool ↦ let to = pool.high in absurd (omega arith)
        | inr (inl space) ↦ let to = space.high in absurd (omega arith)
        | inr (inr puddle) ↦
            let from = puddle.within.low in let to = puddle.within.high in
            absurd (other puddle.index puddle.element puddle.there (omega arith))
      ])

  other_frame : (frame k : ℕ) → frame < F → IsNoneOfIts frame → frame_at F frame ≤ k → k < frame_at F (frame + 1) → open_mask F p is.before k ≡ None
  other_frame frame k below other low high =
      let few = is.pool.known in
      let slot = is.pool.slot in
      mask_of_others F p is.before k (outside_log (log_number_at F active.log_number) k (inr (omega arith)))
      (false_from_ne_true (pool_has_word F (finished_of is.puddles) k) (λ mine.
      let m = pool_has_word-each F (finished_of is.puddles) k mine in
      let from = m.low in let to = m.high in
      other m.ordinal m.puddle m.there (omega arith)))
      (false_from_ne_true (is_open_record p k) (λ of. elim (open_record_of p k of) [
        | inl pool ↦ let to = pool.high in absurd (omega arith)
        | inr (inl space) ↦ let to = space.high in absurd (omega arith)
        | inr (inr puddle) ↦
            let frames = all_there (λ (d : ℕ × Puddle). d.0 < F) (finished_of is.puddles) puddle.index puddle.element (open_on_device F p is.before is.pool).frames puddle.there in
            let to = puddle.within.high in absurd (omega arith)
      ]))

-- ---- whatever is active

-- The member belongs to no pool on which a transaction is active.
abbrev pub IsOfOthers : List (Option ActiveTransaction) → Option Member → Type 0
IsOfOthers active m = (number : ℕ) (h : ActiveTransaction) → active_under active number ≡ Some h → is_of_pool h.slot m ≡ false

-- No word of these is masked:
module _ (w : World) (active : List (Option ActiveTransaction)) (mask : Write) (words : Words) (holds : AreActive w active mask words) where
  -- of the record of a pool on which no transaction is active
  pub unmasked_pool : (slot k : ℕ) → slot < POOL_RECORDS → ((number : ℕ) (h : ActiveTransaction) → active_under active number ≡ Some h → slot ≡ h.slot → ⊥)
      → pool_record_at slot ≤ k → k < pool_record_at (slot + 1) → mask k ≡ None
  unmasked_pool slot k within apart low high =
      unmasked_by_all w active mask words holds k (λ number h there is. other_pool w h mask words is slot k within (apart number h there) low high)

  -- of the record of another pool's puddle
  pub unmasked_puddle : (frame k : ℕ) → frame < w.stored.frames → IsOfOthers active ((tables_of w.stored.frames (reads words)).puddles frame)
      → puddle_record_at frame ≤ k → k < puddle_record_at (frame + 1) → mask k ≡ None
  unmasked_puddle frame k below other low high =
      unmasked_by_all w active mask words holds k (λ number h there is. other_puddle w h mask words is frame k below (not_its_own w h mask words is frame (other number h there)) low high)

  -- of another pool's frame
  pub unmasked_frame : (frame k : ℕ) → frame < w.stored.frames → IsOfOthers active ((tables_of w.stored.frames (reads words)).puddles frame)
      → frame_at w.stored.frames frame ≤ k → k < frame_at w.stored.frames (frame + 1) → mask k ≡ None
  unmasked_frame frame k below other low high =
      unmasked_by_all w active mask words holds k (λ number h there is. other_frame w h mask words is frame k below (not_its_own w h mask words is frame (other number h there)) low high)

  -- of the record of a puddle in which steps are left, whatever its pool is
  pub unmasked_moving_record : (frame k : ℕ) (m : Member) → frame < w.stored.frames → (tables_of w.stored.frames (reads words)).puddles frame ≡ Some m → (IsFinished m.puddle → ⊥)
      → puddle_record_at frame ≤ k → k < puddle_record_at (frame + 1) → mask k ≡ None
  unmasked_moving_record frame k m below used moving low high =
      unmasked_by_all w active mask words holds k (λ number h there is. other_puddle w h mask words is frame k below (moving_apart w h mask words is frame m used moving) low high)

  -- of that puddle's frame
  pub unmasked_moving_frame : (frame k : ℕ) (m : Member) → frame < w.stored.frames → (tables_of w.stored.frames (reads words)).puddles frame ≡ Some m → (IsFinished m.puddle → ⊥)
      → frame_at w.stored.frames frame ≤ k → k < frame_at w.stored.frames (frame + 1) → mask k ≡ None
  unmasked_moving_frame frame k m below used moving low high =
      unmasked_by_all w active mask words holds k (λ number h there is. other_frame w h mask words is frame k below (moving_apart w h mask words is frame m used moving) low high)

-- No two transactions are active on the pool in one slot.
pub one_slot : (w : World) (active : List (Option ActiveTransaction)) (mask : Write) (words : Words) → AreActive w active mask words → (n m : ℕ) (h g : ActiveTransaction) → active_under active n ≡ Some h → active_under active m ≡ Some g
    → h.slot ≡ g.slot → n ≡ m
one_slot w active mask words holds n m h g here there same =
    let its = holds.each n h here in
    let others = holds.each m g there in
    holds.are.slots n m (open_transaction_of h its.is.puddles its.is.rec its.is.own.who its.is.before) (open_transaction_of g others.is.puddles others.is.rec others.is.own.who others.is.before) its.opened others.opened same

-- The record of the slot is used, and has the name.
pub record IsHeldPool (t : Tables) (h : ActiveTransaction) : Type 0 where
  pub rec : PoolRecord
  pub used : t.pools h.slot ≡ Some rec
  pub name : rec.name ≡ h.name

pub active_pool : (w : World) (active : List (Option ActiveTransaction)) (mask : Write) (words : Words) → AreActive w active mask words → (number : ℕ) (h : ActiveTransaction) → active_under active number ≡ Some h
    → IsHeldPool (tables_of w.stored.frames (reads words)) h
active_pool w active mask words holds number h there =
    let is = active_is w active mask words holds number h there in
    record { rec = is.rec; used = used_still w h mask words is; name = is.name }
