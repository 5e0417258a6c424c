-- Frames that are filled while no record names them: each image stands for the same world.
use Rattle.std.proofs.Common.{◌≡◌, ◌⊎◌, inl, inr, ⊎_elim, ℕ, ◌+◌, ◌<◌, ◌≤◌, true, cond, List, [], Option, Some, None, is_some, sym, ap, subst, ◌∙◌, arith, true≢false}
use Rattle.std.specs.Prelude.{slice_get}
use Rattle.std.proofs.lemmas.Bool.{cases_eq}
use Rattle.std.proofs.lemmas.List.{append-nil}
use Rattle.pm_model.specs.declared.host.HostFault.{HostFault}
use Rattle.pm_model.specs.Words.{Picks, reads}
use Rattle.pm_model.specs.Moments.{State}
use Rattle.pm_model.specs.Changes.{IsFrom, Changes, Leaves, Silently}
use Rattle.pm_model.proofs.Changes.{Changes-said, Changes-now, Changes-then, Changes-wider}
use Rattle.pm_model.proofs.Leaves.{Leaves-changes, Leaves-weaker, Leaves-then, Leaves-now}
use Rattle.pud_defs.specs.declared.layout.TheConstants.{DAEMON_LOG, FRAME_WORDS, TYPE_TABLE}
use Rattle.pud_defs.specs.Formats.Image.{Image}
use Rattle.pud_defs.specs.Formats.Layout.{IsWithin, frames_at, device_words}
use Rattle.pud_defs.specs.Formats.Frames.{frame_at}
use Rattle.pud_defs.specs.Logging.Entries.{is_idle_gate}
use Rattle.pud_defs.specs.Logging.Replay.{is_in_log, beside_log}
use Rattle.pud_defs.specs.RegistryTables.SoundTables.{are_sound_tables}
use Rattle.pud_defs.specs.RegistryTables.Tables.{Tables, tables_of}
use Rattle.pud_defs.specs.StateMachine.World.{StoredWorld, idle_world_of}
use Rattle.pud_defs.proofs.PoolGraphs.Holdings.{HasSameFrame, pools_in-same}
use Rattle.pud_defs.proofs.StateMachine.IdleWorlds.{idle_registry_standing, idle_world_of-beside, standing_idle}
use Rattle.pud_defs.proofs.StateMachine.Parts.{Header, Types, Pools, Spaces, Part, IsReadBy, Holds, Holds-same, part_place, StandsFor}
use Rattle.pud_defs.proofs.Logging.Replay.{settled_by-beside}
use Rattle.pud_defs.proofs.RegistryTables.TablesOf.{tables_of-same}
use Rattle.batch.specs.Worlds.{IsQuiescent}
use Rattle.batch.specs.Tables.{HasDurableTables}
use Rattle.batch.proofs.Tables.{HasDurableTables-kept}
use Rattle.registry.specs.declared.adding.NewPuddle.{NewPuddle}
use Rattle.registry.specs.Pools.{MayStand, ChangesPools}
use Rattle.registry.specs.Puts.{ByPools}
use Rattle.registry.proofs.Moved.{settled_tables}
use Rattle.pud_import.specs.Filling.{IsFrameWord, ByFrames}

-- ---- images

-- images that differ only in frames without a puddle stand for the same world
standing_unnamed : (size : ℕ) (i j : Image) (s : StoredWorld) → StandsFor size i s → ((k : ℕ) → (k < DAEMON_LOG) ⊎ (TYPE_TABLE ≤ k) → k < frames_at s.frames → j k ≡ i k)
    → ((frame : ℕ) → frame < s.frames → is_some ((tables_of s.frames i).puddles frame) ≡ true → HasSameFrame s.frames i j frame) → StandsFor size j s
standing_unnamed size i j s h same frames = record { holds = held }
  where
    read : (p : Part) (k : ℕ) → IsReadBy s.frames p k → k < frames_at s.frames → j k ≡ i k
    read p k of below = let at = part_place s.frames p k of in same k at.beside below

    held : (p : Part) → Holds p size s j
    held Header = Holds-same Header size s i j (λ k of. let high = of.high in read Header k of (omega arith)) (h.holds Header)
    held Types = Holds-same Types size s i j (λ k of. let high = of.high in read Types k of (omega arith)) (h.holds Types)
    held Spaces = Holds-same Spaces size s i j (λ k of. read Spaces k of (⊎_elim (λ table. let high = table.high in omega arith) (λ logs. logs.high) of)) (h.holds Spaces)
    held Pools =
        let tables : tables_of s.frames j ≡ tables_of s.frames i = tables_of-same s.frames j i
        (λ k low high. read Pools k (inl (record { low = low; high = high })) (omega arith)) (λ k low high. read Pools k (inr (inl (record { low = low; high = high }))) (omega arith)) in
        let was = h.holds Pools in
        record {
          pools = pools_in-same s.types s.frames i j tables frames ∙ was.pools;
          sound = ap (are_sound_tables s.next_number) tables ∙ was.sound;
        }

-- each of these puddles has a frame of the device whose record is free
pub record AreFree (F : ℕ) (t : Tables) (puddles : List NewPuddle) : Type 0 where
  pub within : (o : ℕ) (a : NewPuddle) → slice_get puddles o ≡ Some a → a.frame < F
  pub free : (o : ℕ) (a : NewPuddle) → slice_get puddles o ≡ Some a → t.puddles a.frame ≡ None

module _ (size : ℕ) (s : StoredWorld) (puddles : List NewPuddle) where
  abbrev F : ℕ
  F = s.frames

  abbrev stands : Image → Type 0
  stands image = idle_world_of size image ≡ Some s

  -- a word of one of their frames lies in the part of the device where the frames are
  frame_word_in : (t : Tables) → AreFree F t puddles → (k : ℕ) → IsFrameWord F puddles k → IsWithin (frames_at F) (device_words F) k
  frame_word_in t are k of =
      let known = are.within of.ordinal of.added of.there in
      let low = of.word.low in
      let high = of.word.high in
      record { low = omega arith; high = omega arith }

  -- a frame that a record names is none of theirs
  frame_apart : (t : Tables) → AreFree F t puddles → (frame k : ℕ) → is_some (t.puddles frame) ≡ true → k < FRAME_WORDS → IsFrameWord F puddles (frame_at F frame + k) → ⊥
  frame_apart t are frame k used few of =
      let low = of.word.low in
      let high = of.word.high in
      ⊎_elim
      (λ same. true≢false (sym used ∙ ap (λ (n : ℕ). is_some (t.puddles n)) same ∙ ap is_some (are.free of.ordinal of.added of.there)))
      (λ other. absurd (omega arith))
      (cases_eq frame of.added.frame)

  world_beside_frames : (i j : Image) → is_idle_gate (i DAEMON_LOG) ≡ true → stands i → AreFree F (tables_of F (beside_log DAEMON_LOG i)) puddles → IsFrom (ByFrames F puddles) i j → stands j
  world_beside_frames i j idle is are from =
      let t = tables_of F (beside_log DAEMON_LOG i) in
      let same : (k : ℕ) → (IsFrameWord F puddles k → ⊥) → j k ≡ i k = λ k outside. ⊎_elim (λ same. same) (λ of. absurd (outside of)) (from.each k) in
      let before : (k : ℕ) → k < frames_at F → j k ≡ i k = λ k below. same k (λ of. let low = (frame_word_in t are k of).low in absurd (omega arith)) in
      idle_world_of-beside size j (ap is_idle_gate (before DAEMON_LOG (omega arith)) ∙ idle)
      ∙ idle_registry_standing size (beside_log DAEMON_LOG j) s
      (standing_unnamed size (beside_log DAEMON_LOG i) (beside_log DAEMON_LOG j) s (standing_idle size i s idle is) (λ k outside below. ap (cond (is_in_log DAEMON_LOG k) 0) (before k below))
      (λ frame below used. record { each = λ k few. ap (cond (is_in_log DAEMON_LOG (frame_at F frame + k)) 0) (same (frame_at F frame + k) (frame_apart t are frame k used few)) }))

  -- ---- moments

  module _ (fault : Option HostFault) (a b : State) (settled : IsQuiescent size s a.now.words) (tables : HasDurableTables F a.now.words) (are : AreFree F (tables_of F (reads a.now.words)) puddles)
      (c : Changes (ByFrames F puddles) fault a b) where
    tables_then : (before : Image) → Picks a.now.words before → tables_of F (beside_log DAEMON_LOG before) ≡ tables_of F (reads a.now.words)
    tables_then before picked =
        ap (tables_of F) (sym (settled_by-beside DAEMON_LOG before (settled.idle (before DAEMON_LOG) (picked.each DAEMON_LOG)))) ∙ settled_tables size s a.now.words before settled tables picked

    pub Leaves-frames : Leaves (Silently stands) a b
    Leaves-frames = Leaves-changes stands (ByFrames F puddles) fault a b
        (λ before image picked from.
        world_beside_frames before image (settled.idle (before DAEMON_LOG) (picked.each DAEMON_LOG)) (settled.stands before picked)
        (subst (λ (t : Tables). AreFree F t puddles) (sym (tables_then before picked)) are) from) c

    -- no word before the frames is written
    pub not_before : (k v : ℕ) → k < frames_at F → ByFrames F puddles k v → ⊥
    not_before k v below of = let low = (frame_word_in (tables_of F (reads a.now.words)) are k of).low in absurd (omega arith)

    pub IsQuiescent-frames : IsQuiescent size s b.now.words
    IsQuiescent-frames = record {
      stands = λ image picked. (Leaves-now (Silently stands) [] a b (Changes-said (ByFrames F puddles) fault a b c ∙ sym (append-nil a.now.said)) Leaves-frames image picked).1;
      idle = λ v had. ⊎_elim (λ was. settled.idle v was) (λ may. absurd (not_before DAEMON_LOG v (omega arith) may)) (Changes-now (ByFrames F puddles) fault a b c DAEMON_LOG v had);
    }

    pub HasDurableTables-frames : HasDurableTables F b.now.words
    HasDurableTables-frames = HasDurableTables-kept F (ByFrames F puddles) fault a b c (λ k v below may. not_before k v (omega arith) may) tables

    ByPools-frames : (k v : ℕ) → ByFrames F puddles k v → ByPools F k v
    ByPools-frames k v of = inr (inr (inl (frame_word_in (tables_of F (reads a.now.words)) are k of)))

    -- if the frames were not filled, each image stands for the world before
    pub ChangesPools-unfilled : (next : StoredWorld) (also : Image → Type 0) → (fault ≡ None → ⊥) → ChangesPools size s next also fault a b
    ChangesPools-unfilled next also failed = record {
      changes = Changes-wider (ByFrames F puddles) (ByPools F) fault a b ByPools-frames c;
      moments = Leaves-weaker (Silently stands) (Silently (MayStand size s next also)) a b (λ bytes image p. (p.0, inl p.1)) Leaves-frames;
      settled = λ none. absurd (failed none);
      tables = λ none. absurd (failed none);
    }

  -- if they were filled and pools were changed after that, both together change the pools
  pub ChangesPools-filled : (next : StoredWorld) (also : Image → Type 0) (fault : Option HostFault) (a b d : State) → IsQuiescent size s a.now.words → HasDurableTables F a.now.words → AreFree F (tables_of F (reads a.now.words)) puddles
      → Changes (ByFrames F puddles) None a b → ChangesPools size s next also fault b d → ChangesPools size s next also fault a d
  ChangesPools-filled next also fault a b d settled tables are c q = record {
    changes = Changes-then (ByPools F) fault a b d (Changes-wider (ByFrames F puddles) (ByPools F) None a b (λ k v of. inr (inr (inl (frame_word_in (tables_of F (reads a.now.words)) are k of)))) c) q.changes;
    moments = Leaves-then (Silently stands) (Silently (MayStand size s next also)) (Silently (MayStand size s next also)) [] a b d (Changes-said (ByFrames F puddles) None a b c ∙ sym (append-nil a.now.said))
        (λ bytes image m. (m.0, inl m.1)) (λ bytes image m. m) (Leaves-frames None a b settled tables are c) q.moments;
    settled = q.settled;
    tables = q.tables;
  }
