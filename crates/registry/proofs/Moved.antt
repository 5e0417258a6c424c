-- A batch of changes of pools, on a device whose tables are durable: each image that it leaves stands for the world before or for the next.
use Rattle.std.proofs.Common.{◌≡◌, ◌⊎◌, inl, inr, ⊎_elim, ℕ, ◌<◌, ◌≤◌, true, List, Option, Some, None, is_some, refl, sym, ap, ◌∙◌, arith}
use Rattle.pm_model.specs.declared.host.HostFault.{HostFault}
use Rattle.pm_model.specs.declared.host.HostFault.TheVariants.{Cut}
use Rattle.pm_model.specs.Words.{Words, Picks, reads}
use Rattle.pm_model.specs.Moments.{State}
use Rattle.pm_model.specs.Changes.{Silently}
use Rattle.pm_model.proofs.Words.{Picks-reads}
use Rattle.pm_model.proofs.Changes.{Changes-wider, Changes-still}
use Rattle.pm_model.proofs.Leaves.{Leaves-weaker, Leaves-still}
use Rattle.pud_defs.specs.declared.layout.TheConstants.{NEXT_NUMBER_WORD, DAEMON_LOG, POOL_TABLE, SPACE_TABLE, PUDDLE_TABLE, TYPE_TABLE, NUMBER_LIMIT}
use Rattle.pud_defs.specs.declared.records.Put.{Put}
use Rattle.pud_defs.specs.Formats.Image.{Image}
use Rattle.pud_defs.specs.Formats.Layout.{tables_end, frames_at}
use Rattle.pud_defs.specs.Logging.Replay.{settled_by}
use Rattle.pud_defs.specs.RegistryTables.Tables.{Tables, Pool, tables_of, pools_of}
use Rattle.pud_defs.specs.PoolGraphs.Holdings.{holding_in}
use Rattle.pud_defs.specs.RegistryTables.SoundTables.{are_sound_tables, HasSoundTables}
use Rattle.pud_defs.specs.StateMachine.World.{StoredWorld, pools_in, idle_registry}
use Rattle.pud_defs.proofs.Logging.Replay.{settled_by-idle, outside_log}
use Rattle.pud_defs.proofs.RegistryTables.TablesOf.{tables_of-same, frames_of_tables}
use Rattle.pud_defs.proofs.RegistryTables.SoundChanged.{sound_from, sound_test}
use Rattle.pud_defs.proofs.PoolGraphs.Holdings.{HasSameFrame, frame_among, pools_of-held, pools_in-same}
use Rattle.pud_defs.proofs.StateMachine.Parts.{StandsFor, HasPools, standing_with_pools}
use Rattle.pud_defs.proofs.StateMachine.Parts.Part.{Header, Pools}
use Rattle.pud_defs.proofs.StateMachine.IdleWorlds.{standing_of_idle_world, idle_registry_standing}
use Rattle.batch.specs.Batches.{ByBatch, HasIdleGate}
use Rattle.batch.specs.Worlds.{IsQuiescent, with_batch, MovesBy, IsBetween, Moves}
use Rattle.batch.specs.Tables.{HasDurableTables}
use Rattle.batch.proofs.Tables.{HasDurableTables-committed}
use Rattle.registry.specs.Puts.{puts_batch, with_puts, AreOfTables, IsPoolsWord, ByPools}
use Rattle.registry.specs.Adding.{MakesPools, pools_next}
use Rattle.registry.specs.Pools.{MayStand, ChangesPools}
use Rattle.registry.proofs.PutBatches.{of_tables, overwritten-puts, with_puts-stays, ByPools-batch, puts_allowed}

-- ---- tables that are durable

-- in each image, with the daemon log replayed, a word of the tables is as it is read
pub settled_word : (size : ℕ) (s : StoredWorld) (words : Words) (image : Image) (k : ℕ) → IsQuiescent size s words → HasDurableTables s.frames words → Picks words image
    → (k < DAEMON_LOG) ⊎ (TYPE_TABLE ≤ k) → k < tables_end s.frames → settled_by DAEMON_LOG image k ≡ reads words k
settled_word size s words image k settled tables picked outside below =
    settled_by-idle DAEMON_LOG image k (settled.idle (image DAEMON_LOG) (picked.each DAEMON_LOG)) (outside_log DAEMON_LOG k (⊎_elim (λ low. inl low) (λ high. inr (omega arith)) outside))
    ∙ (tables.each k outside below).each (image k) (picked.each k)

-- the replay of the daemon log changes no word of a frame
pub settled_frames : (size : ℕ) (s : StoredWorld) (words : Words) (image : Image) (k : ℕ) → IsQuiescent size s words → Picks words image → frames_at s.frames ≤ k → settled_by DAEMON_LOG image k ≡ image k
settled_frames size s words image k settled picked above = settled_by-idle DAEMON_LOG image k (settled.idle (image DAEMON_LOG) (picked.each DAEMON_LOG)) (outside_log DAEMON_LOG k (inr (omega arith)))

-- each image has, once the daemon log is replayed, the tables that are read; that log counts nothing
pub tables_picked : (F : ℕ) (words : Words) (image : Image) → HasIdleGate DAEMON_LOG words → HasDurableTables F words → Picks words image → tables_of F (settled_by DAEMON_LOG image) ≡ tables_of F (reads words)
tables_picked F words image idle tables picked =
    let word : (k : ℕ) → TYPE_TABLE ≤ k → k < tables_end F → settled_by DAEMON_LOG image k ≡ reads words k =
    λ k low high.
    settled_by-idle DAEMON_LOG image k (idle.each (image DAEMON_LOG) (picked.each DAEMON_LOG)) (outside_log DAEMON_LOG k (inr (omega arith)))
    ∙ (tables.each k (inr low) high).each (image k) (picked.each k) in
    tables_of-same F (settled_by DAEMON_LOG image) (reads words) (λ k low high. word k (omega arith) (omega arith)) (λ k low high. word k (omega arith) high)

pub settled_tables : (size : ℕ) (s : StoredWorld) (words : Words) (image : Image) → IsQuiescent size s words → HasDurableTables s.frames words → Picks words image
    → tables_of s.frames (settled_by DAEMON_LOG image) ≡ tables_of s.frames (reads words)
settled_tables size s words image settled tables picked = tables_picked s.frames words image (record { each = settled.idle }) tables picked

-- what is read of the tables has the world's pools and its next number
pub record ReadsWorld (s : StoredWorld) (image : Image) : Type 0 where
  pub number : image NEXT_NUMBER_WORD ≡ s.next_number
  pub low : 1 ≤ s.next_number
  pub high : s.next_number ≤ NUMBER_LIMIT
  pub pools : pools_in s.types s.frames image ≡ s.pools
  pub sound : HasSoundTables s.next_number (tables_of s.frames image)

pub reads_world : (size : ℕ) (s : StoredWorld) (words : Words) → IsQuiescent size s words → HasDurableTables s.frames words → ReadsWorld s (reads words)
reads_world size s words settled tables =
    let image = reads words in
    let picked = Picks-reads words in
    let stands = standing_of_idle_world size image s (settled.stands image picked) in
    let same = settled_tables size s words image settled tables picked in
    record {
      number = sym (settled_word size s words image NEXT_NUMBER_WORD settled tables picked (inl (omega arith)) (omega arith)) ∙ (stands.holds Header).next_number;
      low = (stands.holds Header).number_low;
      high = (stands.holds Header).number_high;
      pools =
          sym (pools_in-same s.types s.frames image (settled_by DAEMON_LOG image) same (λ frame below used. frame_among s.frames frame image (settled_by DAEMON_LOG image) below (λ k low high. settled_frames size s words image k settled picked low)))
          ∙ (stands.holds Pools).pools;
      sound = sound_from s.next_number (tables_of s.frames image) (ap (are_sound_tables s.next_number) (sym same) ∙ (stands.holds Pools).sound);
    }

-- ---- a batch that changes pools

-- no word of a frame is a word of pools
frames_apart : (F k : ℕ) → frames_at F ≤ k → IsPoolsWord F k → ⊥
frames_apart F k above (inl of) = let high = of.high in absurd (omega arith)
frames_apart F k above (inr (inl of)) = let high = of.high in absurd (omega arith)
frames_apart F k above (inr (inr of)) = let high = of.high in absurd (omega arith)

not_of_pools : (F k : ℕ) → k < frames_at F → (k ≡ NEXT_NUMBER_WORD → ⊥) → (POOL_TABLE ≤ k → k < SPACE_TABLE → ⊥) → (PUDDLE_TABLE ≤ k → k < tables_end F → ⊥) → IsPoolsWord F k → ⊥
not_of_pools F k below number pools puddles (inl of) = let low = of.low in let high = of.high in number (omega arith)
not_of_pools F k below number pools puddles (inr (inl of)) = pools of.low of.high
not_of_pools F k below number pools puddles (inr (inr of)) = puddles of.low of.high

-- an image that stands for the world, has these tables and has this further fact, stands for the next world once the
-- changes are made
pub standing_with_puts : (size : ℕ) (s : StoredWorld) (number : ℕ) (ps : List (List ℕ × Pool)) (puts : List Put) (has : Image → Type 0) (t : Tables) → MakesPools s number ps puts has t → (i : Image)
    → StandsFor size i s → tables_of s.frames i ≡ t → has i → StandsFor size (with_puts puts i) (pools_next s number ps)
standing_with_puts size s number ps puts has t m i stands tables_before besides =
    let j = with_puts puts i in
    let tables_now = m.tables i tables_before in
    let hold = holding_in s.types s.frames in
    let kept : (frame : ℕ) → frame < m.now.frames → is_some (m.now.puddles frame) ≡ true → HasSameFrame s.frames i j frame = λ frame below used.
    frame_among s.frames frame i j (let F = frames_of_tables s.frames j in let same = ap (λ (t : Tables). t.frames) tables_now in omega (arith, F, same))
    (λ k low high. with_puts-stays s.frames puts i k m.of (frames_apart s.frames k low)) in
    let pools_now : pools_of (hold i) m.now ≡ ps = m.pools i besides (ap (pools_of (hold i)) (sym tables_before) ∙ (stands.holds Pools).pools) in
    let pools : HasPools s.types s.frames number ps j = record { pools = ap (pools_of (hold j)) tables_now ∙ pools_of-held s.types s.frames i j m.now kept ∙ pools_now; sound = ap (are_sound_tables number) tables_now ∙ sound_test number m.now m.sound } in
    standing_with_pools size i j s number ps stands
    (λ k below apart no_pool no_puddle. with_puts-stays s.frames puts i k m.of (not_of_pools s.frames k below apart no_pool no_puddle))
    (m.next i (stands.holds Header).next_number) m.low m.high pools

module _ (size : ℕ) (s : StoredWorld) (number : ℕ) (ps : List (List ℕ × Pool)) (puts : List Put) (words : Words) (settled : IsQuiescent size s words) (tables : HasDurableTables s.frames words)
    (has : Image → Type 0) (m : MakesPools s number ps puts has (tables_of s.frames (reads words))) (besides : (image : Image) → Picks words image → has (settled_by DAEMON_LOG image)) where
  makes : (image : Image) → Picks words image → idle_registry size (with_batch (puts_batch puts) image) ≡ Some (pools_next s number ps)
  makes image picked =
      let i = settled_by DAEMON_LOG image in
      ap (idle_registry size) (overwritten-puts s.frames puts i m.of)
      ∙ idle_registry_standing size (with_puts puts i) (pools_next s number ps)
      (standing_with_puts size s number ps puts has (tables_of s.frames (reads words)) m i (standing_of_idle_world size image s (settled.stands image picked)) (settled_tables size s words image settled tables picked) (besides image picked))

  pub MovesBy-puts : MovesBy size s (pools_next s number ps) (puts_batch puts) words
  MovesBy-puts = record { allowed = puts_allowed s.frames (puts_batch puts) puts (of_tables s.frames puts m.of); stands = makes }

-- ---- what a call promises

-- nothing changed, because a read failed
pub ChangesPools-still : (size : ℕ) (s next : StoredWorld) (also : Image → Type 0) (fault : Option HostFault) (old new : State) → IsQuiescent size s old.now.words → (fault ≡ Some Cut → ⊥) → (fault ≡ None → ⊥)
    → new ≡ old → ChangesPools size s next also fault old new
ChangesPools-still size s next also fault old new settled not_cut not_none same = record {
  changes = Changes-still (ByPools s.frames) fault old new not_cut same;
  moments = Leaves-still (Silently (MayStand size s next also)) old new (λ image picked. (refl, inl (settled.stands image picked))) same;
  settled = λ none. absurd (not_none none);
  tables = λ none. absurd (not_none none);
}

-- a batch of changes of tables moved the world to the next one
pub ChangesPools-moves : (size : ℕ) (s next : StoredWorld) (puts : List Put) (also : Image → Type 0) (fault : Option HostFault) (old new : State) → AreOfTables s.frames puts
    → HasDurableTables s.frames old.now.words
    → ((image : Image) → IsBetween size s next (puts_batch puts) old.now.words image → also image)
    → Moves size s next (puts_batch puts) fault old new → ChangesPools size s next also fault old new
ChangesPools-moves size s next puts also fault old new of tables besides m = record {
  changes = Changes-wider (ByBatch DAEMON_LOG (puts_batch puts)) (ByPools s.frames) fault old new (λ k v may. ByPools-batch s.frames puts k v of may) m.commits.changes;
  moments = Leaves-weaker (Silently (IsBetween size s next (puts_batch puts) old.now.words)) (Silently (MayStand size s next also)) old new
      (λ bytes image p. (p.0, elim p.1.stands [ inl before ↦ inl before.1 | inr after ↦ inr (after.1, besides image p.1) ])) m.moments;
  settled = m.settled;
  tables = λ none. HasDurableTables-committed s.frames (puts_batch puts) fault old new m.commits.changes (m.commits.durable none) tables;
}
