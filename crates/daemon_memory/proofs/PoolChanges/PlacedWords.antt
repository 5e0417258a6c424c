-- Which words a placed pool takes: none of a record that is used, and none of a puddle's frame.
use Rattle.std.proofs.Common.{◌≡◌, ◌⊎◌, inl, inr, ℕ, zero, suc, ◌+◌, ◌-◌, ◌<◌, ◌≤◌, List, [], ◌∷◌, ◌++◌, map, length, take, Option, Some, None, refl, sym, ap, ◌∙◌, arith, length-take}
use Rattle.std.specs.Prelude.{slice_get, ⊤}
use Rattle.std.proofs.lemmas.Option.{none-some, same_Some}
use Rattle.pm_persist.proofs.Ranges.{placed_within}
use Rattle.pud_defs.specs.declared.layout.TheConstants.{DAEMON_LOG, TYPE_RECORDS, POOL_TABLE}
use Rattle.pud_defs.specs.declared.records.TheConstants.{POOL_RECORDS}
use Rattle.pud_defs.specs.declared.records.PoolRecord.{PoolRecord}
use Rattle.pud_defs.specs.declared.records.Puddle.{Puddle}
use Rattle.pud_defs.specs.declared.records.Put.{Put}
use Rattle.pud_defs.specs.Formats.Image.{Image}
use Rattle.pud_defs.specs.Formats.Frames.{frame_at}
use Rattle.pud_defs.specs.Formats.Layout.{IsWithin}
use Rattle.pud_defs.specs.RegistryTables.Placement.{ArePlacedFrom}
use Rattle.pud_defs.specs.RegistryTables.Pools.{pool_record_at}
use Rattle.pud_defs.specs.RegistryTables.Puddles.{Member, puddle_record_at}
use Rattle.pud_defs.specs.RegistryTables.Puts.{pool_put, puddle_put}
use Rattle.pud_defs.specs.Logging.Replay.{value_at}
use Rattle.pud_defs.specs.RegistryTables.Tables.{Tables, tables_of}
use Rattle.pud_defs.specs.RegistryTables.Types.{type_at}
use Rattle.pud_defs.proofs.KeyedTables.Keyed.{first_free_some}
use Rattle.pud_defs.proofs.RegistryTables.TablesOf.{frames_of_tables}
use Rattle.batch.specs.Batches.{batch_write, ByBatch}
use Rattle.registry.specs.declared.adding.NewPuddle.{NewPuddle}
use Rattle.registry.specs.declared.placing.NewType.{NewType}
use Rattle.registry.specs.Puts.{puts_batch}
use Rattle.registry.specs.Adding.{adding}
use Rattle.registry.specs.Placing.{new_type_put, placing, puddle_of_added, HasFreeRecords, IsPlacedFor}
use Rattle.registry.proofs.PutBatches.{either_some}
use Rattle.pm_model.specs.Words.{Words, reads}
use Rattle.pm_model.specs.Changes.{Write}
use Rattle.pud_defs.specs.StateMachine.World.{World}
use Rattle.daemon_memory.specs.Memory.{ActiveTransaction}
use Rattle.daemon_memory.specs.ActiveTransactions.{AreActive}
use Rattle.daemon_memory.proofs.Commands.Beside.{unmasked_before}
use Rattle.daemon_memory.proofs.PoolChanges.PoolsBeside.{unmasked_pool, unmasked_puddle, unmasked_frame}
use Rattle.daemon_memory.proofs.PoolChanges.PoolsApart.{free_apart, free_others}

-- ---- words that are free

-- A word of a pool record that is free.
pub record IsFreeSlotWord (t : Tables) (k : ℕ) : Type 0 where
  pub slot : ℕ
  pub below : slot < POOL_RECORDS
  pub free : t.pools slot ≡ None
  pub within : IsWithin (pool_record_at slot) (pool_record_at (slot + 1)) k

-- A word of a puddle record whose frame is free.
pub record IsFreeRecordWord (F : ℕ) (t : Tables) (k : ℕ) : Type 0 where
  pub frame : ℕ
  pub below : frame < F
  pub free : t.puddles frame ≡ None
  pub within : IsWithin (puddle_record_at frame) (puddle_record_at (frame + 1)) k

-- A word of a frame that is free.
pub record IsFreeFrameWord (F : ℕ) (t : Tables) (k : ℕ) : Type 0 where
  pub frame : ℕ
  pub below : frame < F
  pub free : t.puddles frame ≡ None
  pub within : IsWithin (frame_at F frame) (frame_at F (frame + 1)) k

-- A word before the pool table, or one of a record that is free.
abbrev pub IsFreeWord : (F : ℕ) → Tables → ℕ → Type 0
IsFreeWord F t k = (k < POOL_TABLE) ⊎ (IsFreeSlotWord t k ⊎ IsFreeRecordWord F t k)

-- ---- the words of changes

-- `P` holds for each word of these changes.
abbrev pub AreWords : (ℕ → Type 0) → List Put → Type 0
AreWords P [] = ⊤
AreWords P (p ∷ puts) = ((k : ℕ) → p.w ≤ k → k < p.w + p.n → P k) × AreWords P puts

pub AreWords-append : (P : ℕ → Type 0) (first later : List Put) → AreWords P first → AreWords P later → AreWords P (first ++ later)
AreWords-append P [] later are rest = rest
AreWords-append P (p ∷ first) later are rest = (are.0, AreWords-append P first later are.1 rest)

take_short : (n : ℕ) (vals : List ℕ) → length (take n vals) ≤ n
take_short n vals = omega (arith, length-take n vals)

-- It holds for each word that their batch writes.
pub words_written : (P : ℕ → Type 0) (puts : List Put) (k v : ℕ) → AreWords P puts → batch_write (puts_batch puts) k ≡ Some v → P k
unfolding batch_write
words_written P [] k v are is = absurd (none-some v is)
words_written P (p ∷ puts) k v are is = elim (either_some (value_at p.w (take p.n p.vals) k) (batch_write (puts_batch puts) k) v is) [
  | inl later ↦ words_written P puts k v are.1 later
  | inr first ↦
      let within = placed_within p.w k v (take p.n p.vals) first in
      let high = within.1 in
      are.0 k within.0 (omega (arith, take_short p.n p.vals))
]

-- ---- where a pool is placed

-- A frame of the device that is free.
pub record IsFreeFrame (t : Tables) (frame : ℕ) : Type 0 where
  pub below : frame < t.frames
  pub free : t.puddles frame ≡ None

-- The frame of each placed puddle is free.
pub placed_free : (t : Tables) (from : ℕ) (taken wanted : List ℕ) (at : List (ℕ × Puddle)) → ArePlacedFrom t from taken wanted at → (o : ℕ) (e : ℕ × Puddle) → slice_get at o ≡ Some e → IsFreeFrame t e.0
placed_free t from taken wanted [] placed o e there = absurd (none-some e there)
placed_free t from taken [] (first ∷ at) placed o e there = absurd placed
placed_free t from taken (base ∷ wanted) (first ∷ at) placed zero e there =
    let one = first_free_some t.puddles from (t.frames - from) first.0 placed.0 in
    let low = one.low in let high = one.high in
    let same : first.0 ≡ e.0 = ap (λ (d : ℕ × Puddle). d.0) (same_Some first e there) in
    record { below = omega (arith, same); free = ap t.puddles (sym same) ∙ one.free }
placed_free t from taken (base ∷ wanted) (first ∷ at) placed (suc o) e there = placed_free t (first.0 + 1) (taken ++ first.1.base ∷ []) wanted at placed.3 o e there

pub slice_get-mapped : {A B : Type 0} (f : A → B) (xs : List A) (i : ℕ) (x : A) → slice_get xs i ≡ Some x → slice_get (map f xs) i ≡ Some (f x)
slice_get-mapped f [] i x there = absurd (none-some x there)
slice_get-mapped f (y ∷ xs) zero x there = ap (λ z. Some (f z)) (same_Some y x there)
slice_get-mapped f (y ∷ xs) (suc i) x there = slice_get-mapped f xs i x there

-- Each of these puddles is in a free frame.
abbrev AreFree : (F : ℕ) → Tables → List NewPuddle → Type 0
AreFree F t puddles = (o : ℕ) (a : NewPuddle) → slice_get puddles o ≡ Some a → IsFreeFrame t a.frame

module _ (F : ℕ) (t : Tables) (frames : t.frames ≡ F) where
  type_words : (at : ℕ → Option (ℕ × ℕ)) (from : ℕ) (types : List NewType) → HasFreeRecords at from types → from ≤ TYPE_RECORDS → AreWords (IsFreeWord F t) (map new_type_put types)
  type_words at from [] has known = tt
  type_words at from (new ∷ types) has known =
      let one = first_free_some at from (TYPE_RECORDS - from) new.record_number has.0 in
      let low = one.low in let high = one.high in
      (λ k from_here to. inl (omega arith), type_words at (new.record_number + 1) types has.1 (omega arith))

  record_words : (puddles : List NewPuddle) → AreFree F t puddles → AreWords (IsFreeWord F t) (map (λ (a : NewPuddle). puddle_put a.frame a.puddle) puddles)
  record_words [] free = tt
  record_words (a ∷ puddles) free =
      let here = free 0 a refl in
      let below = here.below in (
        λ k low high. inr (inr (record { frame = a.frame; below = omega (arith, frames); free = here.free; within = record { low = low; high = omega arith } })),
        record_words puddles (λ o b there. free (suc o) b there),
      )

module _ (F : ℕ) (image : Image) (file : List (ℕ × ℕ)) (wanted classes : List ℕ) (slot : ℕ) (r : PoolRecord) (types : List NewType) (puddles : List NewPuddle) (is : IsPlacedFor F image file wanted classes slot r types puddles) where
  abbrev t : Tables
  t = tables_of F image

  -- Each puddle is in a frame that was free.
  pub placed_frame : (o : ℕ) (a : NewPuddle) → slice_get puddles o ≡ Some a → IsFreeFrame t a.frame
  placed_frame o a there = placed_free t 0 [] wanted (map puddle_of_added puddles) is.placed.turn o (puddle_of_added a) (slice_get-mapped puddle_of_added puddles o a there)

  -- The pool's record was free.
  pub placed_slot : (slot < POOL_RECORDS) × (t.pools slot ≡ None)
  placed_slot =
      let one = first_free_some t.pools 0 POOL_RECORDS slot is.slot_is in
      let high = one.high in
      (omega arith, one.free)

  placed_words : AreWords (IsFreeWord F t) (placing slot r types puddles)
  placed_words =
      AreWords-append (IsFreeWord F t) (map new_type_put types) (pool_put slot r ∷ adding (r.number + (1 + length puddles)) puddles)
      (type_words F t (frames_of_tables F image) (type_at image) 0 types is.records (omega arith)) (
        λ k low high. inr (inl (record { slot = slot; below = placed_slot.0; free = placed_slot.1; within = record { low = low; high = omega arith } })),
        (λ k low high. inl (omega arith), record_words F t (frames_of_tables F image) puddles placed_frame),
      )

  -- The batch writes free words and the daemon log.
  pub placing_words : (k v : ℕ) → ByBatch DAEMON_LOG (puts_batch (placing slot r types puddles)) k v → IsFreeWord F t k
  placing_words k v (inl log) = let high = log.high in inl (omega arith)
  placing_words k v (inr named) = words_written (IsFreeWord F t) (placing slot r types puddles) k named.value placed_words named.is

-- ---- beside the active transactions

-- No free word is masked.
module _ (w : World) (active : List (Option ActiveTransaction)) (mask : Write) (words : Words) (holds : AreActive w active mask words) where
  abbrev now : Tables
  now = tables_of w.stored.frames (reads words)

  pub free_unmasked : (k : ℕ) → IsFreeWord w.stored.frames now k → mask k ≡ None
  free_unmasked k (inl front) = unmasked_before w active mask words holds k front
  free_unmasked k (inr (inl of)) = unmasked_pool w active mask words holds of.slot k of.below (free_apart w active mask words holds of.slot of.free) of.within.low of.within.high
  free_unmasked k (inr (inr of)) = unmasked_puddle w active mask words holds of.frame k of.below (free_others w active mask words holds of.frame of.free) of.within.low of.within.high

  pub free_frame_unmasked : (k : ℕ) → IsFreeFrameWord w.stored.frames now k → mask k ≡ None
  free_frame_unmasked k of = unmasked_frame w active mask words holds of.frame k of.below (free_others w active mask words holds of.frame of.free) of.within.low of.within.high

-- ---- records that are used

-- A free word is in no used record of a puddle.
pub free_not_used : (F : ℕ) (t : Tables) (frame k : ℕ) (m : Member) → t.puddles frame ≡ Some m → IsFreeWord F t k → puddle_record_at frame ≤ k → k < puddle_record_at (frame + 1) → ⊥
free_not_used F t frame k m used (inl front) low high = omega arith
free_not_used F t frame k m used (inr (inl of)) low high = let few = of.below in let to = of.within.high in omega arith
free_not_used F t frame k m used (inr (inr of)) low high =
    let from = of.within.low in let to = of.within.high in
    let same : of.frame ≡ frame = omega arith in
    none-some m (sym of.free ∙ ap t.puddles same ∙ used)

-- No word of a frame is in a record of a puddle.
pub free_frame_not_record : (F : ℕ) (t : Tables) (frame k : ℕ) → frame < F → IsFreeFrameWord F t k → puddle_record_at frame ≤ k → k < puddle_record_at (frame + 1) → ⊥
free_frame_not_record F t frame k below of low high = let from = of.within.low in omega arith
