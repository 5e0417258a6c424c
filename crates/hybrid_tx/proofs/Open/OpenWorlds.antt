-- What an image stands for that is left while transactions are open, each on a pool of its own: the world of the same
-- image with the part of each pool as at the beginning.
use Rattle.std.proofs.Common.{◌≡◌, ℕ, ◌<◌, false, leb, Some, None, ap, ◌∙◌}
use Rattle.std.proofs.lemmas.Bool.{and_from, le-leb, lt-ltb}
use Rattle.pm_model.specs.Changes.{Write}
use Rattle.pm_model.specs.Masks.{masked_image}
use Rattle.pud_defs.specs.declared.layout.TheConstants.{DAEMON_LOG}
use Rattle.pud_defs.specs.Logging.Entries.{log_of}
use Rattle.pud_defs.specs.Formats.Image.{Image}
use Rattle.pud_defs.specs.RegistryTables.Registry.{frames_of}
use Rattle.pud_defs.specs.Logging.Replay.{device_word, new_value, settled_by}
use Rattle.pud_defs.specs.Logging.Settled.{ALL_LOGS, log_number_at, is_refused_log}
use Rattle.pud_defs.specs.RegistryTables.SoundTables.{are_sound_tables, HasSoundTables}
use Rattle.pud_defs.specs.RegistryTables.Tables.{tables_of}
use Rattle.pud_defs.specs.StateMachine.World.{StoredWorld, world_of, idle_world_of}
use Rattle.pud_defs.proofs.StateMachine.Parts.Part.{Pools}
use Rattle.pud_defs.proofs.RegistryTables.SoundChanged.{sound_from}
use Rattle.word_transaction.specs.Running.{RecoversTo}
use Rattle.word_transaction.proofs.Images.{RecoversTo-local}
use Rattle.hybrid_tx.specs.PoolScopes.{pool_scope, finished_of}
use Rattle.hybrid_tx.specs.Open.Masks.{open_mask}
use Rattle.hybrid_tx.specs.Open.ManyOpen.{OpenTransaction, Opens, open_masks, AreOpenPools, HasRecords, AreLeftOpen, MasksAll}
use Rattle.hybrid_tx.proofs.Open.OpenMasks.{mask_of_mine, mask_of_log}
use Rattle.hybrid_tx.proofs.Open.OpenSettled.{GivesOwn, same_tables}
use Rattle.hybrid_tx.proofs.Open.OpenPools.{gives_own}
use Rattle.hybrid_tx.proofs.Open.ManyMasks.{masks_below, left_records, open_masks_all}
use Rattle.hybrid_tx.proofs.Open.OpenImages.{masked_word_stays, record_stays, like_masked, stands, world_of_own, none_refused_of_own}

module _ (size F : ℕ) (s : StoredWorld) (opens : Opens) (mask : Write) (j : Image) (frames : F ≡ s.frames) (are : AreOpenPools F opens) (all : MasksAll F opens mask)
    (world : idle_world_of size (masked_image mask j) ≡ Some s) where
  abbrev following : Image
  following = settled_by DAEMON_LOG j

  -- after the daemon log is replayed, its tables are sound
  pub sound_with_masked : ((k v : ℕ) → mask k ≡ Some v → new_value device_word (log_of j DAEMON_LOG) k ≡ None) → HasRecords opens j → HasSoundTables s.next_number (tables_of F following)
  sound_with_masked unnamed records =
      let m = settled_by DAEMON_LOG (masked_image mask j) in
      let held = (stands F opens mask j are all unnamed records size s frames world).holds Pools in
      sound_from s.next_number (tables_of F following)
      (ap (are_sound_tables s.next_number) (same_tables F opens following m are (like_masked F opens mask j are all unnamed records) ∙ ap (λ (n : ℕ). tables_of n m) frames) ∙ held.sound)

  module _ (left : AreLeftOpen F opens j) where
    unnamed_all : (k v : ℕ) → mask k ≡ Some v → new_value device_word (log_of j DAEMON_LOG) k ≡ None
    unnamed_all k v is = let m = all.each k v is in (left.each m.number m.transaction m.there).unnamed k v m.is

    records_all : HasRecords opens j
    records_all = left_records F opens j left

    module _ (n : ℕ) (o : OpenTransaction) (there : opens n ≡ Some o) where
      stays : (k v : ℕ) → open_mask F o.pool o.before k ≡ Some v → following k ≡ j k
      stays k v is = masked_word_stays mask (masks_below F opens mask are all) j unnamed_all k v (all.has n o there k v is)

      settles_after : RecoversTo (pool_scope F (finished_of o.pool.puddles)) (log_number_at F o.pool.log_number) o.before following
      settles_after =
          RecoversTo-local (pool_scope F (finished_of o.pool.puddles)) (log_number_at F o.pool.log_number) o.before j following
          (λ k inside.
          let v = mask_of_log F o.pool o.before k (and_from (leb (log_number_at F o.pool.log_number) k) _ (le-leb _ _ inside.low) (lt-ltb _ _ inside.high)) in
          stays k v.0 v.1)
          (λ k mine. stays k (o.before k) (mask_of_mine F o.pool o.before k (are.pool n o there).known mine))
          (left.each n o there).recovers

      gives_after : GivesOwn F o.pool o.before following
      gives_after =
          gives_own F o.pool o.before following (are.pool n o there) ((record_stays F opens mask j are all unnamed_all records_all).each n o there) s.next_number
          (sound_with_masked unnamed_all records_all) settles_after

    pub world_with_masked : world_of size j ≡ Some s
    world_with_masked = world_of_own F opens mask j are all unnamed_all records_all size s frames world gives_after

    pub none_refused_with_masked : (number : ℕ) → number < ALL_LOGS → is_refused_log (frames_of j) following number ≡ false
    none_refused_with_masked = none_refused_of_own F opens mask j are all unnamed_all records_all size s frames world gives_after

-- ---- several transactions

module _ (size F : ℕ) (s : StoredWorld) (opens : Opens) (j : Image) (frames : F ≡ s.frames) (are : AreOpenPools F opens) (left : AreLeftOpen F opens j)
    (world : idle_world_of size (masked_image (open_masks F opens) j) ≡ Some s) where
  all_masked : MasksAll F opens (open_masks F opens)
  all_masked = open_masks_all F opens j are (left_records F opens j left)

  -- An image that may be left while they are open stands for the world of the same image with the part of each pool
  -- as at the beginning.
  pub world_with_many : world_of size j ≡ Some s
  world_with_many = world_with_masked size F s opens (open_masks F opens) j frames are all_masked world left

  -- And none of its logs is refused.
  pub none_refused_with_many : (number : ℕ) → number < ALL_LOGS → is_refused_log (frames_of j) (settled_by DAEMON_LOG j) number ≡ false
  none_refused_with_many = none_refused_with_masked size F s opens (open_masks F opens) j frames are all_masked world left
