-- A frame that is filled while no record names it: each image stands for the same world, and after the batch that names
-- the frame, the frame still has the words that filled it.
use Rattle.std.proofs.Common.{◌≡◌, inl, inr, ℕ, ◌+◌, ◌-◌, ◌<◌, ◌≤◌, true, cond, List, [], length, Option, Some, None, refl, sym, ap, subst, ◌∙◌, arith}
use Rattle.std.specs.Prelude.{slice_index}
use Rattle.std.proofs.lemmas.List.{append-nil, length-replicate}
use Rattle.pm_model.specs.declared.host.HostFault.{HostFault}
use Rattle.pm_model.specs.Words.{Words, HasOnly, Picks, reads}
use Rattle.pm_model.specs.Moments.{State}
use Rattle.pm_model.specs.Changes.{placed, written, IsFrom, Changes, Leaves, Silently}
use Rattle.pm_model.proofs.Changes.{Changes-said, Changes-now, Changes-then, Changes-wider}
use Rattle.pm_model.proofs.Leaves.{Leaves-changes, Leaves-weaker, Leaves-then, Leaves-now}
use Rattle.pm_persist.proofs.Ranges.{placed_at, placed_within}
use Rattle.pud_defs.specs.declared.layout.TheConstants.{DAEMON_LOG, FRAME_WORDS}
use Rattle.pud_defs.specs.declared.records.Put.{Put}
use Rattle.pud_defs.specs.Formats.Image.{Image}
use Rattle.pud_defs.specs.Formats.Layout.{IsWithin, frames_at, device_words}
use Rattle.pud_defs.specs.Formats.Frames.{frame_at, frame_word, fresh_frame}
use Rattle.pud_defs.specs.Logging.Entries.{is_idle_gate}
use Rattle.pud_defs.specs.Logging.Replay.{is_in_log, beside_log, settled_by}
use Rattle.pud_defs.specs.StateMachine.World.{StoredWorld, idle_world_of}
use Rattle.pud_defs.proofs.Logging.Replay.{outside_log, settled_by-beside}
use Rattle.pud_defs.specs.RegistryTables.Tables.{Tables, tables_of}
use Rattle.pud_defs.proofs.StateMachine.Parts.{standing_filled}
use Rattle.pud_defs.proofs.StateMachine.IdleWorlds.{idle_registry_standing, idle_world_of-beside, standing_idle}
use Rattle.batch.specs.Batches.{HasIdleGate, IsBatched}
use Rattle.batch.specs.Worlds.{IsQuiescent}
use Rattle.batch.specs.Tables.{HasDurableTables}
use Rattle.batch.proofs.Tables.{HasDurableTables-kept}
use Rattle.registry.specs.Puts.{puts_batch, AreOfPools, IsPoolsWord, ByPools}
use Rattle.registry.specs.Pools.{MayStand, ChangesPools}
use Rattle.registry.proofs.PutBatches.{puts_write-none}
use Rattle.registry.proofs.Moved.{settled_tables, settled_frames}

-- images that differ only in a frame without a puddle stand for the same world
pub world_beside_frame : (size : ℕ) (s : StoredWorld) (frame : ℕ) (i j : Image) → is_idle_gate (i DAEMON_LOG) ≡ true → idle_world_of size i ≡ Some s → (tables_of s.frames (beside_log DAEMON_LOG i)).puddles frame ≡ None
    → ((k : ℕ) → (IsWithin (frame_at s.frames frame) (frame_at s.frames (frame + 1)) k → ⊥) → j k ≡ i k) → idle_world_of size j ≡ Some s
world_beside_frame size s frame i j idle stands free same =
    let before : (k : ℕ) → k < frames_at s.frames → j k ≡ i k = λ k below. same k (λ of. let low = of.low in absurd (omega arith)) in
    idle_world_of-beside size j (ap is_idle_gate (before DAEMON_LOG (omega arith)) ∙ idle)
    ∙ idle_registry_standing size (beside_log DAEMON_LOG j) s
    (standing_filled size frame (beside_log DAEMON_LOG i) (beside_log DAEMON_LOG j) s (standing_idle size i s idle stands) free (λ k outside below. ap (cond (is_in_log DAEMON_LOG k) 0) (before k below))
    (λ other below apart. record {
      each = λ k high. ap (cond (is_in_log DAEMON_LOG (frame_at s.frames other + k)) 0)
          (same (frame_at s.frames other + k) (λ of. let low = of.low in let to = of.high in apart (omega arith)));
    }))

-- the tables of a device of F frames are durable, and the record of the frame is free
pub record IsFreeFrame (F frame : ℕ) (words : Words) : Type 0 where
  pub tables : HasDurableTables F words
  pub free : (tables_of F (reads words)).puddles frame ≡ None

pub length-fresh_frame : (number ordinal : ℕ) → length (fresh_frame number ordinal) ≡ FRAME_WORDS
unfolding fresh_frame
length-fresh_frame number ordinal = omega (arith, length-replicate {A = ℕ} (FRAME_WORDS - 4) 0)

-- for any words that fill the frame
module _ (F frame : ℕ) (words : List ℕ) (whole : length words ≡ FRAME_WORDS) (known : frame < F) where
  abbrev write : ℕ → Option ℕ
  write = placed (frame_at F frame) words

  -- only words of the frame are filled
  fills_frame : (k v : ℕ) → written write k v → IsWithin (frame_at F frame) (frame_at F (frame + 1)) k
  fills_frame k v may =
      let within = placed_within (frame_at F frame) k v words may in
      let high = within.1 in
      record { low = within.0; high = omega (arith, whole) }

  fills : (k v : ℕ) → written write k v → IsWithin (frames_at F) (device_words F) k
  fills k v may = let of = fills_frame k v may in let low = of.low in let high = of.high in record { low = omega arith; high = omega arith }

  -- so no word before the frames is filled
  pub not_filled : (k v : ℕ) → k < frames_at F → written write k v → ⊥
  not_filled k v below may = let of = fills k v may in let low = of.low in absurd (omega arith)

  filled_from : (before image : Image) → IsFrom (written write) before image → (k : ℕ) → (IsWithin (frame_at F frame) (frame_at F (frame + 1)) k → ⊥) → image k ≡ before k
  filled_from before image from k outside = elim (from.each k) [ inl same ↦ same | inr may ↦ absurd (outside (fills_frame k (image k) may)) ]

  ByPools-filled : (k v : ℕ) → written write k v → ByPools F k v
  ByPools-filled k v may = inr (inr (inl (fills k v may)))

  -- the daemon log still counts nothing
  pub HasIdleGate-filled : (fault : Option HostFault) (a b : State) → Changes (written write) fault a b → HasIdleGate DAEMON_LOG a.now.words → HasIdleGate DAEMON_LOG b.now.words
  HasIdleGate-filled fault a b c idle = record {
    each = λ v had. elim (Changes-now (written write) fault a b c DAEMON_LOG v had) [ inl was ↦ idle.each v was | inr may ↦ absurd (not_filled DAEMON_LOG v (omega arith) may) ];
  }

  -- a frame that was filled has these words in each image
  pub filled_word : (b : State) → ((k v : ℕ) → write k ≡ Some v → HasOnly (b.now.words k) v) → (k : ℕ) → k < FRAME_WORDS → HasOnly (b.now.words (frame_at F frame + k)) (slice_index words k)
  filled_word b durable k below = durable (frame_at F frame + k) (slice_index words k) (placed_at (frame_at F frame) k (frame_at F frame + k) words refl (omega (arith, whole)))

  -- ---- the world stays the same

  module _ (size : ℕ) (s : StoredWorld) (same : F ≡ s.frames) where
    abbrev stands : Image → Type 0
    stands image = idle_world_of size image ≡ Some s

    -- the record of the frame is free in each image
    still_free : (held : Words) → IsQuiescent size s held → IsFreeFrame F frame held → (before : Image) → Picks held before → (tables_of s.frames (beside_log DAEMON_LOG before)).puddles frame ≡ None
    still_free held settled is before picked =
        let here = subst (λ (n : ℕ). IsFreeFrame n frame held) same is in
        let idle = settled.idle (before DAEMON_LOG) (picked.each DAEMON_LOG) in
        ap (λ (i : Image). (tables_of s.frames i).puddles frame) (sym (settled_by-beside DAEMON_LOG before idle))
        ∙ ap (λ (t : Tables). t.puddles frame) (settled_tables size s held before settled here.tables picked)
        ∙ here.free

    still : (held : Words) → IsQuiescent size s held → IsFreeFrame F frame held → (before image : Image) → Picks held before → IsFrom (written write) before image → stands image
    still held settled is before image picked from =
        world_beside_frame size s frame before image (settled.idle (before DAEMON_LOG) (picked.each DAEMON_LOG)) (settled.stands before picked) (still_free held settled is before picked)
        (λ k outside. filled_from before image from k (λ of. let low = of.low in let high = of.high in outside (record { low = omega (arith, same); high = omega (arith, same) })))

    pub Leaves-filled : (fault : Option HostFault) (a b : State) → IsQuiescent size s a.now.words → IsFreeFrame F frame a.now.words → Changes (written write) fault a b → Leaves (Silently stands) a b
    Leaves-filled fault a b settled is c = Leaves-changes stands (written write) fault a b (still a.now.words settled is) c

    pub IsQuiescent-filled : (fault : Option HostFault) (a b : State) → IsQuiescent size s a.now.words → IsFreeFrame F frame a.now.words → Changes (written write) fault a b → IsQuiescent size s b.now.words
    IsQuiescent-filled fault a b settled is c = record {
      stands = λ image picked. (Leaves-now (Silently stands) [] a b (Changes-said (written write) fault a b c ∙ sym (append-nil a.now.said)) (Leaves-filled fault a b settled is c) image picked).1;
      idle = (HasIdleGate-filled fault a b c (record { each = settled.idle })).each;
    }

    pub HasDurableTables-filled : (fault : Option HostFault) (a b : State) → Changes (written write) fault a b → HasDurableTables F a.now.words → HasDurableTables F b.now.words
    HasDurableTables-filled fault a b c = HasDurableTables-kept F (written write) fault a b c (λ k v below may. not_filled k v (omega arith) may)

    -- ---- and after that the batch

    -- in each image that a batch of pools leaves, the frame has the words that filled it
    pub filled_after : (puts : List Put) (b : State) (image : Image) → AreOfPools F puts → ((k v : ℕ) → write k ≡ Some v → HasOnly (b.now.words k) v) → IsBatched b.now.words DAEMON_LOG (puts_batch puts) image
        → (k : ℕ) → k < FRAME_WORDS → frame_word F frame k image ≡ slice_index words k
    filled_after puts b image of durable batched k below =
        let at = frame_at F frame + k in
        batched.outside at (outside_log DAEMON_LOG at (inr (omega arith))) (puts_write-none F puts at of (λ word. not_pools at (omega arith) word))
        ∙ (filled_word b durable k below).each (batched.before at) (batched.picked.each at)
      where
        not_pools : (k : ℕ) → frames_at F ≤ k → IsPoolsWord F k → ⊥
        not_pools k following (inl word) = let high = word.high in absurd (omega arith)
        not_pools k following (inr (inl word)) = let high = word.high in absurd (omega arith)
        not_pools k following (inr (inr word)) = let high = word.high in absurd (omega arith)

    -- the frame also has them in each image before the batch, with the daemon log replayed
    pub filled_before : (b : State) (image : Image) → IsQuiescent size s b.now.words → ((k v : ℕ) → write k ≡ Some v → HasOnly (b.now.words k) v) → Picks b.now.words image
        → (k : ℕ) → k < FRAME_WORDS → frame_word F frame k (settled_by DAEMON_LOG image) ≡ slice_index words k
    filled_before b image settled durable picked k below =
        let at = frame_at F frame + k in
        settled_frames size s b.now.words image at settled picked (omega (arith, same)) ∙ (filled_word b durable k below).each (image at) (picked.each at)

    -- if the frame could not be filled, each image stands for the world before
    pub ChangesPools-unfilled : (next : StoredWorld) (also : Image → Type 0) (fault : HostFault) (a b : State) → IsQuiescent size s a.now.words → IsFreeFrame F frame a.now.words → Changes (written write) (Some fault) a b
        → ChangesPools size s next also (Some fault) a b
    ChangesPools-unfilled next also fault a b settled is c = record {
      changes = subst (λ (n : ℕ). Changes (ByPools n) (Some fault) a b) same (Changes-wider (written write) (ByPools F) (Some fault) a b ByPools-filled c);
      moments = Leaves-weaker (Silently stands) (Silently (MayStand size s next also)) a b (λ bytes image p. (p.0, inl p.1)) (Leaves-filled (Some fault) a b settled is c);
      settled = λ none. absurd (let no : Some fault ≡ None = none in cc);
      tables = λ none. absurd (let no : Some fault ≡ None = none in cc);
    }

    -- if it was filled and pools were changed after that, both together change the pools
    pub ChangesPools-filled : (next : StoredWorld) (also : Image → Type 0) (fault : Option HostFault) (a b c : State) → IsQuiescent size s a.now.words → IsFreeFrame F frame a.now.words → Changes (written write) None a b
        → ChangesPools size s next also fault b c → ChangesPools size s next also fault a c
    ChangesPools-filled next also fault a b c settled is p q = record {
      changes = Changes-then (ByPools s.frames) fault a b c (subst (λ (n : ℕ). Changes (ByPools n) None a b) same (Changes-wider (written write) (ByPools F) None a b ByPools-filled p)) q.changes;
      moments = Leaves-then (Silently stands) (Silently (MayStand size s next also)) (Silently (MayStand size s next also)) [] a b c (Changes-said (written write) None a b p ∙ sym (append-nil a.now.said))
          (λ bytes image m. (m.0, inl m.1)) (λ bytes image m. m) (Leaves-filled None a b settled is p) q.moments;
      settled = q.settled;
      tables = q.tables;
    }
