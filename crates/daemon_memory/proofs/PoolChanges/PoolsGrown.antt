-- A pool grows by a puddle beside the active transactions: it writes no masked word, and the puddle is fresh.
use Rattle.std.proofs.Common.{◌≡◌, ◌⊎◌, inl, inr, ℕ, ◌+◌, ◌^◌, ◌<◌, ◌≤◌, List, [], ◌∷◌, length, Option, Some, None, refl, sym, ap, subst, ◌∙◌, arith}
use Rattle.std.proofs.lemmas.Option.{none-some}
use Rattle.pm_model.specs.declared.host.HostFault.{HostFault}
use Rattle.pm_model.specs.Words.{Words, reads}
use Rattle.pm_model.specs.Moments.{State}
use Rattle.pm_model.specs.Changes.{Write, written, Persists}
use Rattle.pm_model.specs.Masks.{IsOff}
use Rattle.pm_model.proofs.Words.{HasOnly-newest}
use Rattle.pud_defs.specs.declared.layout.TheConstants.{DAEMON_LOG, TYPE_TABLE, FRAME_WORDS}
use Rattle.pud_defs.specs.declared.records.TheConstants.{POOL_RECORDS}
use Rattle.pud_defs.specs.declared.records.Put.{Put}
use Rattle.pud_defs.specs.Formats.Image.{Image}
use Rattle.pud_defs.specs.Formats.Frames.{frame_at, fresh_frame}
use Rattle.pud_defs.specs.Formats.Layout.{frames_at}
use Rattle.pud_defs.specs.RegistryTables.Puts.{member_by, with_puddle_at}
use Rattle.pud_defs.specs.RegistryTables.Tables.{tables_of}
use Rattle.pud_defs.specs.StateMachine.World.{World}
use Rattle.pud_defs.specs.RegistryTables.Keyed.{first_free}
use Rattle.pud_defs.proofs.RegistryTables.TablesOf.{tables_of-same, frames_of_tables}
use Rattle.batch.specs.Batches.{ByBatch, Commits}
use Rattle.batch.proofs.Tables.{reads_kept, reads_committed}
use Rattle.registry.specs.declared.adding.NewPuddle.{NewPuddle}
use Rattle.registry.specs.Puts.{puts_batch, with_puts, AreOfPools}
use Rattle.registry.specs.Adding.{filling, IsFilled, PersistsThenCommits, IsOffAdding}
use Rattle.registry.specs.Growth.{growing}
use Rattle.registry.proofs.Filled.{length-fresh_frame, not_filled, filled_word}
use Rattle.registry.proofs.NewPuddles.{adding_of, adding_tables}
use Rattle.registry.proofs.PutBatches.{overwritten-puts, puts_write-none}
use Rattle.daemon_memory.specs.Memory.{ActiveTransaction}
use Rattle.daemon_memory.specs.ActiveTransactions.{AreActive}
use Rattle.daemon_memory.proofs.Commands.Beside.{unmasked_before}
use Rattle.daemon_memory.proofs.PoolChanges.PoolsApart.{IsOff-puts, frame_below, new_frame, filling_off}

-- ---- beside the active transactions

-- No word that one more puddle takes is masked.
pub off_growing : (w : World) (active : List (Option ActiveTransaction)) (mask : Write) (words : Words) → AreActive w active mask words → (a : NewPuddle)
    → first_free (tables_of w.stored.frames (reads words)).puddles 0 (tables_of w.stored.frames (reads words)).frames ≡ Some a.frame → a.puddle.pool < POOL_RECORDS → IsOffAdding mask w.stored.frames a (growing a)
off_growing w active mask words holds a first slot =
    let F = w.stored.frames in
    record {
      frame = subst (λ (n : ℕ). IsOff mask (written (filling n a))) (frames_of_tables F (reads words)) (filling_off w active mask words holds a.frame first a.puddle.number a.puddle.ordinal);
      records = IsOff-puts w active mask words holds (growing a) (adding_of F (a.puddle.number + 1) (a ∷ []) (frame_below w active mask words holds a.frame first, slot, tt))
          (λ k low high. unmasked_before w active mask words holds k (omega arith), (λ k low high. new_frame w active mask words holds a.frame first k low (omega arith), tt));
    }

-- ---- what is read afterwards

module _ (F : ℕ) (a : NewPuddle) (known : a.frame < F) (slot : a.puddle.pool < POOL_RECORDS) (steps : a.puddle.frontier < 2 ^ 32) (old new : State) (commits : PersistsThenCommits (filling F a) (puts_batch (growing a)) None old new) where
  abbrev before : Image
  before = reads old.now.words

  abbrev puts : List Put
  puts = growing a

  abbrev words : List ℕ
  words = fresh_frame a.puddle.number a.puddle.ordinal

  of : AreOfPools F puts
  of = adding_of F (a.puddle.number + 1) (a ∷ []) (known, slot, tt)

  whole : length words ≡ FRAME_WORDS
  whole = length-fresh_frame a.puddle.number a.puddle.ordinal

  module _ (mid : State) (filled : Persists (filling F a) None old mid) where
    -- Filling the frame writes no word before the frames.
    before_frames : (k : ℕ) → k < frames_at F → reads mid.now.words k ≡ before k
    before_frames k below = reads_kept (written (filling F a)) old mid k filled.changes (λ v may. not_filled F a.frame words whole known k v below may)

    module _ (done : Commits DAEMON_LOG (puts_batch puts) None mid new) where
      abbrev mid_image : Image
      mid_image = reads mid.now.words

      table_read : (k : ℕ) → (k < DAEMON_LOG) ⊎ (TYPE_TABLE ≤ k) → reads new.now.words k ≡ with_puts puts mid_image k
      table_read k outside = reads_committed (puts_batch puts) mid new k outside done.changes (done.durable refl) ∙ ap (λ (i : Image). i k) (overwritten-puts F puts mid_image of)

      tables_read : tables_of F (reads new.now.words) ≡ with_puddle_at a.frame (Some (member_by a.puddle)) (tables_of F before)
      tables_read =
          tables_of-same F (reads new.now.words) (with_puts puts mid_image) (λ k low high. table_read k (inr (omega arith))) (λ k low high. table_read k (inr (omega arith)))
          ∙ adding_tables F (a.puddle.number + 1) (a ∷ []) mid_image (known, slot, tt) (steps, tt)
          ∙ ap (with_puddle_at a.frame (Some (member_by a.puddle))) (tables_of-same F mid_image before (λ k low high. before_frames k (omega arith)) (λ k low high. before_frames k (omega arith)))

      -- The batch writes no word of a frame.
      not_batch : (k v : ℕ) → frames_at F ≤ k → ByBatch DAEMON_LOG (puts_batch puts) k v → ⊥
      not_batch k v above (inl log) = let high = log.high in absurd (omega arith)
      not_batch k v above (inr named) =
          none-some named.value (sym (puts_write-none F puts k of (λ word. elim word [
            | inl number ↦ let to = number.high in absurd (omega arith)
            | inr (inl pool) ↦ let to = pool.high in absurd (omega arith)
            | inr (inr puddle) ↦ let to = puddle.high in absurd (omega arith)
          ])) ∙ named.is)

      frame_read : IsFilled F a (reads new.now.words)
      frame_read = record {
        each = λ k below.
            reads_kept (ByBatch DAEMON_LOG (puts_batch puts)) mid new (frame_at F a.frame + k) done.changes (λ v may. not_batch (frame_at F a.frame + k) v (omega arith) may)
            ∙ HasOnly-newest (mid.now.words (frame_at F a.frame + k)) _ (filled_word F a.frame words whole known mid (filled.durable refl) k below);
      }

  -- Without a fault the tables have the puddle too, and its frame is fresh.
  pub grown_read : (tables_of F (reads new.now.words) ≡ with_puddle_at a.frame (Some (member_by a.puddle)) (tables_of F before)) × IsFilled F a (reads new.now.words)
  grown_read =
      let c = commits in
      elim c.then [
        | inl end ↦ absurd (end.2 (sym end.1))
        | inr on ↦
            let filled = subst (λ (f : Option HostFault). Persists (filling F a) f old c.mid) on.0 c.persists in
            (tables_read c.mid filled on.1, frame_read c.mid filled on.1)
      ]
