-- One batch empties the log-space table, and each image left stands for the same world.
use Rattle.std.proofs.Common.{◌≡◌, ◌⊎◌, inl, inr, ℕ, zero, suc, ◌+◌, ◌*◌, ◌<◌, ◌≤◌, true, [], ◌∷◌, ◌++◌, length, Option, Some, None, refl, ap, ap₂, ◌∙◌, arith}
use Rattle.std.specs.Option.{option_or}
use Rattle.std.specs.List.{list_all}
use Rattle.std.proofs.lemmas.Bool.{and_from, cases_eq}
use Rattle.std.proofs.lemmas.List.Sums.{sum_by-append}
use Rattle.std.proofs.lemmas.List.Folds.{list_all-append}
use Rattle.pm_model.specs.declared.host.HostFault.{HostFault}
use Rattle.pm_model.specs.Words.{Words}
use Rattle.pm_model.specs.Moments.{State}
use Rattle.pm_model.specs.Changes.{Silently}
use Rattle.pm_model.proofs.Leaves.{Leaves-weaker}
use Rattle.pud_defs.specs.declared.layout.TheConstants.{DAEMON_LOG, SPACE_TABLE, PUDDLE_TABLE, CLIENTS}
use Rattle.pud_defs.specs.Formats.Image.{Image}
use Rattle.pud_defs.specs.Logging.Entries.{Entry, Log, is_idle_gate}
use Rattle.pud_defs.specs.Logging.Replay.{value_at, overwritten, settled_by}
use Rattle.pud_defs.specs.RegistryTables.Registry.{is_loggable}
use Rattle.pud_defs.specs.RegistryTables.Spaces.{space_record_at, owner_by, owner_of}
use Rattle.pud_defs.specs.StateMachine.World.{StoredWorld, idle_world_of}
use Rattle.pud_defs.proofs.Logging.Replay.{overwritten-stays, overwritten-there, value_at-there, value_at-apart, settled_by-idle, outside_log}
use Rattle.pud_defs.proofs.Logging.Logged.{may_be_logged-table, is_loggable-there}
use Rattle.pud_defs.proofs.RegistryTables.Spaces.{are_legal_spaces-none, are_closed_logs-none}
use Rattle.pud_defs.proofs.StateMachine.Parts.{StandsFor, standing_spaces}
use Rattle.pud_defs.proofs.StateMachine.IdleWorlds.{standing_of_idle_world, idle_registry_standing}
use Rattle.batch.specs.Batches.{batch_entry, word_count_of, batch_write, committed, IsBatched, Commits}
use Rattle.batch.specs.Worlds.{IsQuiescent, with_batch, MovesBy, IsBetween, Moves}
use Rattle.batch.proofs.Writes.{batch_write-append, batch_write-single}
use Rattle.batch.proofs.Worlds.{stands_still}
use Rattle.log_space.specs.Clearing.{clearing, HasNoOwners, MayBeEmptied, Empties, Clears}

-- ---- the batch

pub clearing-none : clearing 0 ≡ []
unfolding clearing
clearing-none = refl

pub clearing-more : (n : ℕ) → clearing (n + 1) ≡ clearing n ++ batch_entry (space_record_at n) (0 ∷ []) ∷ []
unfolding clearing
clearing-more n = ap clearing (let e : n + 1 ≡ suc n = omega arith in e)

pub word_count_of-clearing : (n : ℕ) → word_count_of (clearing n) ≡ 3 * n
unfolding clearing
word_count_of-clearing zero = refl
word_count_of-clearing (suc n) = let before = word_count_of-clearing n in omega (arith, sum_by-append (λ (e : Entry). length e.vals + 2) (clearing n) (batch_entry (space_record_at n) (0 ∷ []) ∷ []))

-- One word's value is given to no other word.
one_apart : (at k : ℕ) → (k ≡ at → ⊥) → value_at at (0 ∷ []) k ≡ None
one_apart at k other = value_at-apart at k (0 ∷ []) (let apart : (k < at) ⊎ (at + 1 ≤ k) = grind (arith, other) in apart)

-- The first words of the records below `n` become 0.
pub clearing-there : (n c : ℕ) → c < n → batch_write (clearing n) (space_record_at c) ≡ Some 0
unfolding clearing
clearing-there zero c below = absurd (omega arith)
clearing-there (suc n) c below =
    let e = batch_entry (space_record_at n) (0 ∷ []) in
    batch_write-append (clearing n) (e ∷ []) (space_record_at c)
    ∙ elim (cases_eq c n) as (λ _. option_or (batch_write (e ∷ []) (space_record_at c)) (batch_write (clearing n) (space_record_at c)) ≡ Some 0) [
      | inl here ↦
          ap (λ (o : Option ℕ). option_or o (batch_write (clearing n) (space_record_at c)))
          (batch_write-single e (space_record_at c) ∙ value_at-there (space_record_at n) 0 (space_record_at c) (0 ∷ []) (omega arith))
      | inr other ↦
          ap₂ option_or (batch_write-single e (space_record_at c) ∙ one_apart (space_record_at n) (space_record_at c) (λ e. other (omega arith)))
          (clearing-there n c (omega arith))
    ]

-- No other word is written.
clearing-elsewhere : (n k : ℕ) → ((c : ℕ) → c < n → k ≡ space_record_at c → ⊥) → batch_write (clearing n) k ≡ None
unfolding clearing batch_write
clearing-elsewhere zero k other = refl
clearing-elsewhere (suc n) k other =
    batch_write-append (clearing n) (batch_entry (space_record_at n) (0 ∷ []) ∷ []) k
    ∙ ap₂ option_or (batch_write-single (batch_entry (space_record_at n) (0 ∷ [])) k ∙ one_apart (space_record_at n) k (other n (omega arith)))
    (clearing-elsewhere n k (λ c below. other c (omega arith)))

-- Outside the table nothing is written.
pub clearing-outside : (n k : ℕ) → n ≤ CLIENTS → (k < SPACE_TABLE) ⊎ (PUDDLE_TABLE ≤ k) → batch_write (clearing n) k ≡ None
clearing-outside n k few (inl before) = clearing-elsewhere n k (λ c below here. absurd (omega arith))
clearing-outside n k few (inr following) = clearing-elsewhere n k (λ c below here. absurd (omega arith))

pub clearing-allowed : (F n : ℕ) (log : Log) → n ≤ CLIENTS → list_all (is_loggable F log) (clearing n) ≡ true
unfolding clearing
clearing-allowed F zero log few = refl
clearing-allowed F (suc n) log few =
    let e = batch_entry (space_record_at n) (0 ∷ []) in
    list_all-append (is_loggable F log) (clearing n) (e ∷ [])
    ∙ and_from (list_all (is_loggable F log) (clearing n)) (list_all (is_loggable F log) (e ∷ [])) (clearing-allowed F n log (omega arith))
    (and_from (is_loggable F log e) true (is_loggable-there F log e (may_be_logged-table F (space_record_at n) 1 (omega arith) (omega arith))) refl)

-- ---- the table is emptied wholly or not at all

-- An image whose records are free has no owners.
no_owners : (image : Image) → ((c : ℕ) → c < CLIENTS → image (space_record_at c) ≡ 0) → HasNoOwners (owner_of image)
no_owners image free = record { each = λ c below. ap (λ (used : ℕ). owner_by used (image (space_record_at c + 1)) (image (space_record_at c + 2))) (free c below) }

may_be_emptied : (words : Words) (image : Image) → IsBatched words DAEMON_LOG (clearing CLIENTS) image → MayBeEmptied words image
may_be_emptied words image b =
    let write = batch_write (clearing CLIENTS) in
    record {
      before = b.before;
      picked = b.picked;
      outside = b.outside;
      table = elim b.settled [
        | inl same ↦ inl (ap owner_of same)
        | inr all ↦ inr (no_owners (settled_by DAEMON_LOG image) (λ c below.
            ap (λ (i : Image). i (space_record_at c)) all ∙ overwritten-there write (settled_by DAEMON_LOG b.before) (space_record_at c) 0 (clearing-there CLIENTS c below)))
      ];
    }

pub Empties-commits : (fault : Option HostFault) (a b : State) → Commits DAEMON_LOG (clearing CLIENTS) fault a b → Empties fault a b
Empties-commits fault a b c = record {
  commits = c;
  moments = Leaves-weaker (Silently (IsBatched a.now.words DAEMON_LOG (clearing CLIENTS))) (Silently (MayBeEmptied a.now.words)) a b
      (λ bytes image p. (p.0, may_be_emptied a.now.words image p.1)) c.moments;
  done = λ none image picked. no_owners (settled_by DAEMON_LOG image) (λ client below.
      let at = space_record_at client in
      settled_by-idle DAEMON_LOG image at (ap is_idle_gate ((c.closed none).each (image DAEMON_LOG) (picked.each DAEMON_LOG))) (outside_log DAEMON_LOG at (inr (omega arith)))
      ∙ (c.durable none at 0 (clearing-there CLIENTS client below)).each (image at) (picked.each at));
}

-- ---- the world stays the same

module _ (size : ℕ) (s : StoredWorld) where
  -- With the records emptied an image stands for the same world.
  standing_cleared : (image : Image) → StandsFor size image s → StandsFor size (overwritten (batch_write (clearing CLIENTS)) image) s
  standing_cleared image h =
      let write = batch_write (clearing CLIENTS) in
      let free : (c : ℕ) → c < CLIENTS → overwritten write image (space_record_at c) ≡ 0 = λ c below. overwritten-there write image (space_record_at c) 0 (clearing-there CLIENTS c below) in
      standing_spaces size image (overwritten write image) s h
      (λ k low. overwritten-stays write image k (clearing-outside CLIENTS k (omega arith) (inl low)))
      (λ k high below. overwritten-stays write image k (clearing-outside CLIENTS k (omega arith) (inr high)))
      (are_legal_spaces-none (overwritten write image) free)
      (are_closed_logs-none (overwritten write image) s.frames free)

  pub MovesBy-clearing : (words : Words) → IsQuiescent size s words → MovesBy size s s (clearing CLIENTS) words
  MovesBy-clearing words settled = record {
    allowed = clearing-allowed s.frames CLIENTS (committed (clearing CLIENTS)) (omega arith);
    stands = λ image picked.
        idle_registry_standing size (with_batch (clearing CLIENTS) image) s (standing_cleared (settled_by DAEMON_LOG image) (standing_of_idle_world size image s (settled.stands image picked)));
  }

  pub Clears-moves : (fault : Option HostFault) (a b : State) → Moves size s s (clearing CLIENTS) fault a b → Clears size s fault a b
  Clears-moves fault a b m = record {
    changes = m.commits.changes;
    moments = Leaves-weaker (Silently (IsBetween size s s (clearing CLIENTS) a.now.words)) (Silently (λ image. idle_world_of size image ≡ Some s)) a b
        (λ bytes image p. (p.0, stands_still size s (clearing CLIENTS) a.now.words image p.1)) m.moments;
    settled = m.settled;
    durable = m.commits.durable;
    cleared = λ none client known. m.commits.durable none (space_record_at client) 0 (clearing-there CLIENTS client known);
  }
