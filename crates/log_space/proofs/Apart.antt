-- The records of the log-space table lie within the device, apart from the daemon log. If that log counts nothing, a
-- batch of such records is free to be written.
use Rattle.std.proofs.Common.{ℕ, zero, suc, ◌<◌, ◌≤◌, inr, List, [], ◌∷◌, length, refl, arith}
use Rattle.std.specs.Prelude.{All}
use Rattle.std.proofs.lemmas.List.Elements.{All-nil, All-cons, All-append}
use Rattle.pm_model.specs.Words.{Words}
use Rattle.pud_defs.specs.declared.layout.TheConstants.{DAEMON_LOG, PUDDLE_TABLE, CLIENTS, SPACE_RECORD_WORDS}
use Rattle.pud_defs.specs.Logging.Replay.{device_word}
use Rattle.pud_defs.specs.RegistryTables.Spaces.{space_record_at}
use Rattle.log_replay.specs.Replaying.{NamesApart}
use Rattle.batch.specs.Batches.{batch_entry, HasIdleGate, IsFree}
use Rattle.log_space.specs.Records.{record_batch}
use Rattle.log_space.specs.Clearing.{clearing}

module _ (size : ℕ) (table : PUDDLE_TABLE ≤ size) where
  record_apart : (slot : ℕ) (vals : List ℕ) → slot < CLIENTS → length vals ≤ SPACE_RECORD_WORDS → NamesApart device_word size DAEMON_LOG (batch_entry (space_record_at slot) vals)
  record_apart slot vals known few = record { first = space_record_at slot; placed = refl; within = omega arith; apart = inr (omega arith) }

  pub IsFree-record : (slot : ℕ) (vals : List ℕ) (words : Words) → slot < CLIENTS → length vals ≤ SPACE_RECORD_WORDS → HasIdleGate DAEMON_LOG words → IsFree size DAEMON_LOG (record_batch slot vals) words
  IsFree-record slot vals words known few idle = record {
    idle = idle.each;
    apart = All-cons (NamesApart device_word size DAEMON_LOG) (batch_entry (space_record_at slot) vals) [] (record_apart slot vals known few) (All-nil (NamesApart device_word size DAEMON_LOG));
  }

  clearing_apart : (n : ℕ) → n ≤ CLIENTS → All (NamesApart device_word size DAEMON_LOG) (clearing n)
  unfolding clearing
  clearing_apart zero few = All-nil (NamesApart device_word size DAEMON_LOG)
  clearing_apart (suc n) few =
      let one = batch_entry (space_record_at n) (0 ∷ []) in
      let P = NamesApart device_word size DAEMON_LOG in
      All-append P (clearing n) (one ∷ []) (clearing_apart n (omega arith)) (All-cons P one [] (record_apart n (0 ∷ []) (omega arith) (omega arith)) (All-nil P))

  pub IsFree-clearing : (words : Words) → HasIdleGate DAEMON_LOG words → IsFree size DAEMON_LOG (clearing CLIENTS) words
  IsFree-clearing words idle = record { idle = idle.each; apart = clearing_apart CLIENTS (omega arith) }
