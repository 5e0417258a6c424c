-- An image that is left while transactions are open, after the daemon log is replayed: if the log of each gives its
-- own words their values, the image stands for the same world as the masked one.
use Rattle.std.proofs.Common.{◌≡◌, ◌⊎◌, inl, inr, ℕ, ◌<◌, ◌≤◌, true, false, Option, Some, None, refl, sym, ap, subst, ◌∙◌, arith}
use Rattle.std.specs.Prelude.{unwrap_or, nat_le, nat_lt}
use Rattle.std.proofs.lemmas.Bool.{cases_Bool, and_left, and_right, lt-leb, le-ltb}
use Rattle.pm_model.specs.Changes.{Write}
use Rattle.pm_model.specs.Masks.{masked_image}
use Rattle.pud_defs.specs.declared.layout.TheConstants.{DAEMON_LOG, FRAMES_WORD, POOL_TABLE}
use Rattle.pud_defs.specs.Formats.Image.{Image}
use Rattle.pud_defs.specs.Formats.Layout.{tables_end, frames_at}
use Rattle.pud_defs.specs.Logging.Entries.{log_of}
use Rattle.pud_defs.specs.RegistryTables.Registry.{frames_of, has_legal_log, are_loggable}
use Rattle.pud_defs.specs.Logging.Replay.{device_word, new_value, overwritten, is_in_log, settled_by}
use Rattle.pud_defs.specs.Logging.Settled.{ALL_LOGS, is_refused_log, is_in_logs, settled}
use Rattle.pud_defs.specs.RegistryTables.Spaces.{are_closed_logs, are_legal_spaces}
use Rattle.pud_defs.specs.StateMachine.World.{StoredWorld, world_of, idle_world_of}
use Rattle.pud_defs.proofs.Logging.Replay.{overwritten-stays, overwritten-there, settled_by-outside, within_log}
use Rattle.pud_defs.proofs.RegistryTables.Spaces.{are_legal_spaces-same}
use Rattle.pud_defs.proofs.Logging.Masked.{IsBesideLog, log_of-masked, settled_by-masked}
use Rattle.pud_defs.proofs.Logging.Idle.{world_of_idle, no_log_is_refused}
use Rattle.pud_defs.proofs.StateMachine.IdleWorlds.{standing_of_idle_world, legal_log_of_idle_world, frames_of_idle_world}
use Rattle.pud_defs.proofs.Logging.LogsBeside.{IsReadBeside, world_again}
use Rattle.pud_defs.proofs.StateMachine.Parts.{StandsFor}
use Rattle.pud_defs.proofs.StateMachine.Parts.Part.{Spaces}
use Rattle.pud_defs.proofs.StateMachine.Worlds.{settled-below}
use Rattle.hybrid_tx.specs.Open.ManyOpen.{OpenTransaction, Opens, AreOpenPools, HasRecords, MasksAll}
use Rattle.hybrid_tx.proofs.Open.OpenSettled.{AreLikeMasked, GivesOwn, same_below, settled_alike, refused_alike}
use Rattle.hybrid_tx.proofs.Open.ManyMasks.{masks_of_mine, masks_of_record, masks_of_none, masks_below, opens_apart}

-- ---- masked words, none before the pool table, that the daemon log does not name

module _ (mask : Write) (below : (k : ℕ) → k < POOL_TABLE → mask k ≡ None) (j : Image) (unnamed : (k v : ℕ) → mask k ≡ Some v → new_value device_word (log_of j DAEMON_LOG) k ≡ None) where
  beside : IsBesideLog DAEMON_LOG mask
  beside = record { each = λ k inside. let high = inside.high in below k (omega arith) }

  -- a masked word is none of the daemon log
  beside_daemon : (k v : ℕ) → mask k ≡ Some v → is_in_log DAEMON_LOG k ≡ false
  beside_daemon k v is = elim (cases_Bool (is_in_log DAEMON_LOG k)) [
    | inr outside ↦ outside
    | inl inside ↦ absurd (
        let none = beside.each k (within_log DAEMON_LOG k inside) in
        let it : Some v ≡ None = sym is ∙ none in cc)
  ]

  -- so it is as it was, with the daemon log replayed
  pub masked_word_stays : (k v : ℕ) → mask k ≡ Some v → settled_by DAEMON_LOG j k ≡ j k
  masked_word_stays k v is = settled_by-outside DAEMON_LOG j k (beside_daemon k v is) ∙ ap (λ (o : Option ℕ). unwrap_or o (j k)) (unnamed k v is)

  -- the masked image has the same number of frames and the same daemon log
  pub same_frames : frames_of (masked_image mask j) ≡ frames_of j
  same_frames = overwritten-stays mask j FRAMES_WORD (below FRAMES_WORD (omega arith))

  pub same_legal : has_legal_log (masked_image mask j) ≡ has_legal_log j
  unfolding has_legal_log
  same_legal =
      let log = log_of-masked DAEMON_LOG mask beside j in
      λ q. are_loggable (same_frames q) (log q) (log q).entries

  pub masked_settles : settled_by DAEMON_LOG (masked_image mask j) ≡ overwritten mask (settled_by DAEMON_LOG j)
  masked_settles = settled_by-masked DAEMON_LOG mask beside j unnamed

  pub masked_word : (k v : ℕ) → mask k ≡ Some v → settled_by DAEMON_LOG (masked_image mask j) k ≡ v
  masked_word k v is = ap (λ (i : Image). i k) masked_settles ∙ overwritten-there mask (settled_by DAEMON_LOG j) k v is

  same_by : (k : ℕ) (o : Option ℕ) → mask k ≡ o → ((v : ℕ) → mask k ≡ Some v → j k ≡ v) → settled_by DAEMON_LOG (masked_image mask j) k ≡ settled_by DAEMON_LOG j k
  same_by k None e has = ap (λ (i : Image). i k) masked_settles ∙ overwritten-stays mask (settled_by DAEMON_LOG j) k e
  same_by k (Some v) e has = masked_word k v e ∙ sym (has v e) ∙ sym (masked_word_stays k v e)

  -- a word that is not masked, or has the value with which it is masked, is the same in the masked image
  pub masked_same : (k : ℕ) → ((v : ℕ) → mask k ≡ Some v → j k ≡ v) → settled_by DAEMON_LOG (masked_image mask j) k ≡ settled_by DAEMON_LOG j k
  masked_same k has = same_by k (mask k) refl has

-- ---- the words of open transactions are masked

-- a word before the end of the tables, or from the frames on, is none of the clients' logs
beside_all_logs : (F k : ℕ) → (k < tables_end F) ⊎ (frames_at F ≤ k) → is_in_logs F k ≡ false
beside_all_logs F k (inl low) = and_left (nat_le (tables_end F) k) (nat_lt k (frames_at F)) (lt-leb (tables_end F) k low)
beside_all_logs F k (inr high) = and_right (nat_le (tables_end F) k) (nat_lt k (frames_at F)) (le-ltb k (frames_at F) high)

module _ (F : ℕ) (opens : Opens) (mask : Write) (j : Image) (are : AreOpenPools F opens) (all : MasksAll F opens mask)
    (unnamed : (k v : ℕ) → mask k ≡ Some v → new_value device_word (log_of j DAEMON_LOG) k ≡ None) (records : HasRecords opens j) where
  none_below : (k : ℕ) → k < POOL_TABLE → mask k ≡ None
  none_below = masks_below F opens mask are all

  -- a word of a record still has its value from the beginning
  pub record_stays : HasRecords opens (settled_by DAEMON_LOG j)
  record_stays = record {
    each = λ n o there k of. masked_word_stays mask none_below j unnamed k (o.before k) (masks_of_record F opens mask are all n o there k of) ∙ records.each n o there k of;
  }

  pub like_masked : AreLikeMasked F opens (settled_by DAEMON_LOG j) (settled_by DAEMON_LOG (masked_image mask j))
  like_masked = record {
    own = λ n o there k mine. masked_word mask none_below j unnamed k (o.before k) (masks_of_mine F opens mask are all n o there k mine);
    others = λ k none. masked_same mask none_below j unnamed k (λ v is. let m = masks_of_none F opens mask are all k v none is in records.each m.number m.transaction m.there k m.of ∙ m.is);
  }

  module _ (size : ℕ) (s : StoredWorld) (frames : F ≡ s.frames) (world : idle_world_of size (masked_image mask j) ≡ Some s) where
    pub stands : StandsFor size (settled_by DAEMON_LOG (masked_image mask j)) s
    stands = standing_of_idle_world size (masked_image mask j) s world

    closed : are_closed_logs (settled_by DAEMON_LOG (masked_image mask j)) F ≡ true
    closed = ap (are_closed_logs (settled_by DAEMON_LOG (masked_image mask j))) frames ∙ (stands.holds Spaces).logs

    masked_frames : frames_of (masked_image mask j) ≡ F
    masked_frames = frames_of_idle_world size (masked_image mask j) s world ∙ sym frames

    legal : has_legal_log j ≡ true
    legal = sym (same_legal mask none_below j unnamed) ∙ legal_log_of_idle_world size (masked_image mask j) s world

    module _ (gives : (n : ℕ) (o : OpenTransaction) → opens n ≡ Some o → GivesOwn F o.pool o.before (settled_by DAEMON_LOG j)) where
      same_settled : (k : ℕ) → IsReadBeside F k → settled F j k ≡ settled F (masked_image mask j) k
      unfolding settled
      same_settled k read =
          settled_alike F opens (settled_by DAEMON_LOG j) (settled_by DAEMON_LOG (masked_image mask j)) are like_masked gives (opens_apart F opens j are records) closed k (beside_all_logs F k read.logs)

      legal_spaces : are_legal_spaces (settled F j) ≡ true
      legal_spaces =
          are_legal_spaces-same (settled F j) (settled_by DAEMON_LOG (masked_image mask j))
          (λ k low high. settled-below F j k (omega arith) ∙ same_below F opens (settled_by DAEMON_LOG j) (settled_by DAEMON_LOG (masked_image mask j)) are like_masked k (omega arith))
          ∙ (stands.holds Spaces).spaces

      abbrev Settles : ℕ → Type 0
      Settles n = ((k : ℕ) → IsReadBeside n k → settled n j k ≡ settled n (masked_image mask j) k) × (are_legal_spaces (settled n j) ≡ true)

      -- the image stands for the same world as the masked one
      pub world_of_own : world_of size j ≡ Some s
      world_of_own =
          let both : Settles s.frames = subst Settles frames (same_settled, legal_spaces) in
          world_again size s (masked_image mask j) j (world_of_idle size (masked_image mask j) s world) legal both.0 both.1

      -- and none of its logs is refused
      pub none_refused_of_own : (number : ℕ) → number < ALL_LOGS → is_refused_log (frames_of j) (settled_by DAEMON_LOG j) number ≡ false
      none_refused_of_own number few =
          let m = settled_by DAEMON_LOG (masked_image mask j) in
          ap (λ (n : ℕ). is_refused_log n (settled_by DAEMON_LOG j) number) (sym (same_frames mask none_below j unnamed) ∙ masked_frames)
          ∙ refused_alike F opens (settled_by DAEMON_LOG j) m are like_masked gives
          (λ n below. ap (λ (f : ℕ). is_refused_log f m n) (sym masked_frames) ∙ no_log_is_refused size (masked_image mask j) s world n below)
          number few
