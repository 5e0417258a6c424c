-- A file that is placed beside active transactions: its calls write no masked word, and each pool that has a graph keeps it.
use Rattle.std.proofs.Common.{◌≡◌, ◌⊎◌, inl, inr, ℕ, zero, suc, ◌+◌, ◌-◌, ◌<◌, ◌≤◌, List, [], ◌∷◌, map, Option, Some, None, refl, sym, ap, subst, ◌∙◌, arith}
use Rattle.std.specs.Prelude.{slice_get}
use Rattle.std.proofs.lemmas.Bool.{cases_lt}
use Rattle.std.proofs.lemmas.Option.{none-some, same_Some}
use Rattle.pm_model.specs.declared.host.HostFault.{HostFault}
use Rattle.pm_model.specs.declared.host.HostFault.TheVariants.{Cut}
use Rattle.pm_model.specs.Words.{Words, HasOnly, IsRested, reads}
use Rattle.pm_model.specs.Moments.{State}
use Rattle.pm_model.specs.Changes.{Write, Changes}
use Rattle.pm_model.proofs.Words.{HasOnly-own}
use Rattle.pud_defs.specs.declared.layout.TheConstants.{DAEMON_LOG, NEXT_NUMBER_WORD, FRAME_WORDS}
use Rattle.pud_defs.specs.declared.records.PoolRecord.{PoolRecord}
use Rattle.pud_defs.specs.Formats.Image.{Image}
use Rattle.pud_defs.specs.Formats.Frames.{frame_at}
use Rattle.pud_defs.specs.Formats.Layout.{IsWithin, frames_at}
use Rattle.pud_defs.specs.RegistryTables.Puddles.{Member, puddle_record_at}
use Rattle.pud_defs.specs.PoolGraphs.Stored.{Stored}
use Rattle.pud_defs.specs.RegistryTables.SoundTables.{HasSoundTables}
use Rattle.pud_defs.specs.PoolGraphs.Graph.{graph_of}
use Rattle.pud_defs.specs.RegistryTables.Tables.{tables_of}
use Rattle.pud_defs.specs.RegistryTables.Types.{types_of}
use Rattle.pud_defs.specs.StateMachine.World.{World}
use Rattle.pud_defs.proofs.RegistryTables.TablesOf.{frames_of_tables}
use Rattle.batch.specs.Tables.{HasDurableTables}
use Rattle.batch.specs.Batches.{HasIdleGate, ByBatch}
use Rattle.batch.proofs.Tables.{StaysDurable, reads_kept}
use Rattle.registry.specs.declared.adding.NewPuddle.{NewPuddle}
use Rattle.registry.specs.Puts.{puts_batch}
use Rattle.registry.specs.Pools.{OrStill, CommitsPuts, new_record}
use Rattle.registry.specs.Placing.{placing, IsPlacedFor}
use Rattle.registry.proofs.PutBatches.{puts_batched}
use Rattle.pud_import.specs.Filling.{IsFrameWord, ByFrames, filled_value, AreFilled}
use Rattle.pud_import.specs.Placing.{Placement, PlacesSomewhere, IsOffPlacing}
use Rattle.daemon_memory.specs.Memory.{ActiveTransaction}
use Rattle.daemon_memory.specs.ActiveTransactions.{AreActive, LeavesMasked}
use Rattle.daemon_memory.proofs.Commands.Beneath.{IsOff-each, LeavesMasked-changes, LeavesMasked-commits, LeavesMasked-then}
use Rattle.daemon_memory.proofs.PoolsKnown.KnownKept.{KeepsGraphs, KeepsPools, KeepsPools-then, KeepsPools-changes, types_same}
use Rattle.daemon_memory.proofs.PoolChanges.PlacedPools.{KeepsPools-placing}
use Rattle.daemon_memory.proofs.PoolChanges.PlacedWords.{IsFreeFrameWord, placed_frame, placing_words, free_unmasked, free_frame_unmasked, free_not_used, free_frame_not_record}
use Rattle.daemon_memory.specs.Moves.{Stays, LeavesPuddles}
use Rattle.daemon_memory.proofs.PoolChanges.PoolsApart.{LeavesMasked-still}
use Rattle.daemon_memory.proofs.PoolChanges.PuddlesLeft.{record_mask, masked_record, used_below, LeavesPuddles-beside}

-- ---- the frames that are filled

-- The word is no word of the frame.
abbrev IsOutside : (F frame k : ℕ) → Type 0
IsOutside F frame k = frame_at F frame ≤ k → k < frame_at F frame + FRAME_WORDS → ⊥

among_more : (F : ℕ) (a : NewPuddle) (puddles : List NewPuddle) (k : ℕ) → IsFrameWord F puddles k → IsFrameWord F (a ∷ puddles) k
among_more F a puddles k word = record { ordinal = suc word.ordinal; added = word.added; there = word.there; word = word.word }

among_rest : (F : ℕ) (a : NewPuddle) (puddles : List NewPuddle) (k : ℕ) → IsOutside F a.frame k → (o : ℕ) (b : NewPuddle) → slice_get (a ∷ puddles) o ≡ Some b
    → IsWithin (frame_at F b.frame) (frame_at F b.frame + FRAME_WORDS) k → IsFrameWord F puddles k
among_rest F a puddles k not zero b there word =
    let same : a.frame ≡ b.frame = ap (λ (x : NewPuddle). x.frame) (same_Some a b there) in
    let low = word.low in let high = word.high in
    absurd (not (omega arith) (omega arith))
among_rest F a puddles k not (suc o) b there word = record { ordinal = o; added = b; there = there; word = word }

among_later : (F : ℕ) (a : NewPuddle) (puddles : List NewPuddle) (k : ℕ) → IsOutside F a.frame k → IsFrameWord F puddles k ⊎ (IsFrameWord F puddles k → ⊥)
    → IsFrameWord F (a ∷ puddles) k ⊎ (IsFrameWord F (a ∷ puddles) k → ⊥)
among_later F a puddles k not (inl word) = inl (among_more F a puddles k word)
among_later F a puddles k not (inr none) = inr (λ word. none (among_rest F a puddles k not word.ordinal word.added word.there word.word))

-- A word belongs to one of these frames, or to none.
is_among : (F : ℕ) (puddles : List NewPuddle) (k : ℕ) → IsFrameWord F puddles k ⊎ (IsFrameWord F puddles k → ⊥)
is_among F [] k = inr (λ word. none-some word.added word.there)
is_among F (a ∷ puddles) k = elim (cases_lt k (frame_at F a.frame)) [
  | inl before ↦ among_later F a puddles k (λ low high. omega arith) (is_among F puddles k)
  | inr from ↦ elim (cases_lt k (frame_at F a.frame + FRAME_WORDS)) [
    | inl within ↦ inl (record { ordinal = 0; added = a; there = refl; word = record { low = from; high = within } })
    | inr following ↦ among_later F a puddles k (λ low high. omega arith) (is_among F puddles k)
  ]
]

-- Each of the frames' words that was filled has one value.
filled_single : (F : ℕ) (file : Stored) (puddles : List NewPuddle) (new : State) → AreFilled F file puddles new.now.words → (k : ℕ) → StaysDurable (ByFrames F puddles) new k
filled_single F file puddles new filled k = elim (is_among F puddles k) [
  | inl word ↦
      let low = word.word.low in let high = word.word.high in
      let at : k ≡ frame_at F word.added.frame + (k - frame_at F word.added.frame) = omega arith in
      let value = filled_value file word.ordinal word.added.puddle.number (k - frame_at F word.added.frame) in
      let one : HasOnly (new.now.words k) value =
      subst (λ (n : ℕ). HasOnly (new.now.words n) value) (sym at) (filled.each word.ordinal (k - frame_at F word.added.frame) word.added word.there (omega arith)) in
      inr (HasOnly-own (new.now.words k) value one)
  | inr none ↦ inl (λ v may. none may)
]

module _ (F : ℕ) (image : Image) (file : List (ℕ × ℕ)) (wanted classes : List ℕ) (slot : ℕ) (r : PoolRecord) (p : Placement) (is : IsPlacedFor F image file wanted classes slot r p.types p.puddles) where
  -- The frames are free.
  frame_words : (k v : ℕ) → ByFrames F p.puddles k v → IsFreeFrameWord F (tables_of F image) k
  frame_words k v word =
      let at = placed_frame F image file wanted classes slot r p.types p.puddles is word.ordinal word.added word.there in
      let low = word.word.low in let high = word.word.high in let below = at.below in
      record { frame = word.added.frame; below = omega (arith, frames_of_tables F image); free = at.free; within = record { low = low; high = omega arith } }

-- ---- no masked word is written

-- Placing writes no masked word, whatever transactions are active and wherever the pool is placed.
pub off_placing : (w : World) (active : List (Option ActiveTransaction)) (mask : Write) (words : Words) → AreActive w active mask words → (file : Stored) (types : List (ℕ × ℕ)) (name : List ℕ) (uid gid mode : ℕ)
    → IsOffPlacing mask w.stored.frames (reads words) file types name uid gid mode
off_placing w active mask words holds file types name uid gid mode = record {
  each = λ p is.
      let F = w.stored.frames in
      let image = reads words in
      let r = new_record name uid gid mode (image NEXT_NUMBER_WORD) in
      let wanted = map (λ d. d.base) file.puddles in
      let classes = map (λ d. d.class) file.puddles in (
        IsOff-each mask (ByFrames F p.puddles) (λ k v may. free_frame_unmasked w active mask words holds k (frame_words F image types wanted classes p.slot r p is k v may)),
        IsOff-each mask (ByBatch DAEMON_LOG (puts_batch (placing p.slot r p.types p.puddles)))
            (λ k v may. free_unmasked w active mask words holds k (placing_words F image types wanted classes p.slot r p.types p.puddles is k v may)),
      );
}

-- Placing writes no word of a used puddle's record either.
pub off_used : (F frame : ℕ) (image : Image) (m : Member) → frame < F → (tables_of F image).puddles frame ≡ Some m → (mask : Write)
    → ((k x : ℕ) → mask k ≡ Some x → (puddle_record_at frame ≤ k) × (k < puddle_record_at (frame + 1))) → (file : Stored) (types : List (ℕ × ℕ)) (name : List ℕ) (uid gid mode : ℕ)
    → IsOffPlacing mask F image file types name uid gid mode
off_used F frame image m below used mask record_words file types name uid gid mode = record {
  each = λ p is.
      let r = new_record name uid gid mode (image NEXT_NUMBER_WORD) in
      let wanted = map (λ d. d.base) file.puddles in
      let classes = map (λ d. d.class) file.puddles in (
        record {
          apart = λ k x v masked may.
              let of = record_words k x masked in
              free_frame_not_record F (tables_of F image) frame k below (frame_words F image types wanted classes p.slot r p is k v may) of.0 of.1;
        },
        record {
          apart = λ k x v masked may.
              let of = record_words k x masked in
              free_not_used F (tables_of F image) frame k m used (placing_words F image types wanted classes p.slot r p.types p.puddles is k v may) of.0 of.1;
        },
      );
}

module _ (F : ℕ) (image : Image) (file : Stored) (types : List (ℕ × ℕ)) (name : List ℕ) (uid gid mode : ℕ) where
  -- If a pool was placed somewhere, a mask is left as it was that placing avoids wherever the pool is placed.
  places_beside : (mask : Write) (fault : Option HostFault) (old new : State) → IsOffPlacing mask F image file types name uid gid mode → HasIdleGate DAEMON_LOG old.now.words
      → PlacesSomewhere F image file types name uid gid mode fault old new → LeavesMasked mask fault old new
  places_beside mask fault old new off idle d =
      let p = d.placement in
      let apart = off.each p d.is in
      let puts = placing p.slot (new_record name uid gid mode (image NEXT_NUMBER_WORD)) p.types p.puddles in
      let first : LeavesMasked mask d.first old d.mid =
      LeavesMasked-changes mask (ByFrames F p.puddles) d.first old d.mid apart.0
      (λ v word. let low = word.word.low in absurd (omega arith)) idle (λ none k. filled_single F file p.puddles d.mid (d.filled none) k) d.fills in
      elim d.then [
        | inl end ↦ subst (λ (s : State). LeavesMasked mask fault old s) (sym end.0) (subst (λ (f : Option HostFault). LeavesMasked mask f old d.mid) (sym end.1) first)
        | inr on ↦ LeavesMasked-then mask fault old d.mid new (subst (λ (f : Option HostFault). LeavesMasked mask f old d.mid) on.0 first) (LeavesMasked-commits mask (puts_batch puts) fault d.mid new apart.1 (puts_batched puts) on.1)
      ]

  pub IsBeside-places : (mask : Write) (fault : Option HostFault) (old new : State) → IsOffPlacing mask F image file types name uid gid mode → HasIdleGate DAEMON_LOG old.now.words → (fault ≡ Some Cut → IsRested new.now.words)
      → OrStill (PlacesSomewhere F image file types name uid gid mode) fault old new → LeavesMasked mask fault old new
  IsBeside-places mask fault old new off idle rests (inl still) = LeavesMasked-still mask fault old new idle rests still.0
  IsBeside-places mask fault old new off idle rests (inr places) = places_beside mask fault old new off idle places

-- ---- what is left of the puddles' records

-- No record of a used puddle is written.
pub LeavesPuddles-places : (F : ℕ) (fault : Option HostFault) (old new : State) → HasDurableTables F old.now.words → HasIdleGate DAEMON_LOG old.now.words → (fault ≡ Some Cut → IsRested new.now.words)
    → (file : Stored) (types : List (ℕ × ℕ)) (name : List ℕ) (uid gid mode : ℕ) → OrStill (PlacesSomewhere F (reads old.now.words) file types name uid gid mode) fault old new → LeavesPuddles F Stays old new
LeavesPuddles-places F fault old new tables idle rests file types name uid gid mode does =
    let image = reads old.now.words in
    LeavesPuddles-beside F fault old new tables
    (λ frame m used.
    let own = record_mask frame image in
    let off = off_used F frame image m (used_below F image frame m used) used own (λ k x is. let word = masked_record frame image k x is in (word.low, word.high)) file types name uid gid mode in
    IsBeside-places F image file types name uid gid mode own fault old new off idle rests does)

-- ---- pools that have a graph

module _ (F next : ℕ) (file : Stored) (types : List (ℕ × ℕ)) (name : List ℕ) (uid gid mode : ℕ) (old new : State) (sound : HasSoundTables next (tables_of F (reads old.now.words)))
    (graphs : KeepsGraphs (reads old.now.words) (reads new.now.words)) where
  abbrev image : Image
  image = reads old.now.words

  module _ (p : Placement) (is : IsPlacedFor F image types (map (λ d. d.base) file.puddles) (map (λ d. d.class) file.puddles) p.slot (new_record name uid gid mode (image NEXT_NUMBER_WORD)) p.types p.puddles) (mid : State)
      (fills : Changes (ByFrames F p.puddles) None old mid) where
    words_free : (k v : ℕ) → ByFrames F p.puddles k v → IsFreeFrameWord F (tables_of F image) k
    words_free = frame_words F image types (map (λ d. d.base) file.puddles) (map (λ d. d.class) file.puddles) p.slot (new_record name uid gid mode (image NEXT_NUMBER_WORD)) p is

    -- The frames that are filled belong to no pool.
    frames_filled : KeepsPools F None image (reads mid.now.words)
    frames_filled =
        KeepsPools-changes F None (ByFrames F p.puddles) old mid fills
        (record {
          types = λ k v low high may. let from = may.word.low in absurd (omega arith);
          puddles = λ k v low high may. let from = may.word.low in absurd (omega arith);
        })
        (λ slot k v apart own may.
        let f = words_free k v may in
        let a = f.within.low in let b = f.within.high in let c = own.low in let d = own.high in
        let here : own.frame ≡ f.frame = omega arith in
        none-some own.member (sym f.free ∙ ap (tables_of F image).puddles (sym here) ∙ own.used))

    tables_filled : (k : ℕ) → k < frames_at F → reads mid.now.words k ≡ image k
    tables_filled k below = reads_kept (ByFrames F p.puddles) old mid k fills (λ v may. let from = may.word.low in absurd (omega arith))

    graphs_then : KeepsGraphs (reads mid.now.words) (reads new.now.words)
    graphs_then =
        let same : types_of (reads mid.now.words) ≡ types_of image = types_same image (reads mid.now.words) (λ k low high. tables_filled k (omega arith)) in
        record { each = λ st g has. graphs.each st g (ap (λ (ts : List (ℕ × ℕ)). graph_of ts st) (sym same) ∙ has) }

    keeps_then : CommitsPuts (placing p.slot (new_record name uid gid mode (image NEXT_NUMBER_WORD)) p.types p.puddles) None mid new → KeepsPools F None image (reads new.now.words)
    keeps_then commits =
        KeepsPools-then F None image (reads mid.now.words) (reads new.now.words) frames_filled
        (KeepsPools-placing F image types (map (λ d. d.base) file.puddles) (map (λ d. d.class) file.puddles) p.slot (new_record name uid gid mode (image NEXT_NUMBER_WORD)) p.types p.puddles is next sound mid new tables_filled graphs_then commits)

  -- Each pool that has a graph keeps it once the pool is placed.
  pub KeepsPools-places : PlacesSomewhere F image file types name uid gid mode None old new → KeepsPools F None image (reads new.now.words)
  KeepsPools-places d = elim d.then [
    | inl end ↦ absurd (end.2 (sym end.1))
    | inr on ↦ keeps_then d.placement d.is d.mid (subst (λ (f : Option HostFault). Changes (ByFrames F d.placement.puddles) f old d.mid) on.0 d.fills) on.1
  ]
