-- The verdict of a log, by its owner and its copy.
use Rattle.std.proofs.Common.{◌≡◌, ℕ, List, Option, Some, None, option_map, map, sym, ap, ◌∙◌}
use Rattle.pud_defs.specs.Formats.Image.{Image}
use Rattle.pud_defs.specs.Logging.Entries.{Entry, log_of, gate_lo, gate_hi}
use Rattle.pud_defs.specs.RegistryTables.Spaces.{Owner, owner_of}
use Rattle.pud_defs.specs.RegistryTables.Tables.{Tables, tables_of}
use Rattle.pud_defs.specs.Logging.Replay.{AddressMap}
use Rattle.pud_defs.specs.Logging.Settled.{client_of_log, log_number_at}
use Rattle.log_entry.specs.Copying.{Copied, image_of_copy, log_copied}
use Rattle.log_replay.specs.Placing.{placed_entry, placed_log}
use Rattle.recover.specs.declared.judge.Mark.TheVariants.{Replayed, Refused}
use Rattle.recover.specs.Verdicts.{mark_for, verdict_by, verdict_of}
use Rattle.recover.proofs.Marked.{mark_for-spoilt}

-- a log that is not registered has no verdict
pub verdict_of-free : (F : ℕ) (image : Image) (number : ℕ) → owner_of image (client_of_log number) ≡ None → verdict_of F image number ≡ None
unfolding verdict_of
verdict_of-free F image number free = ap (λ (o : Option Owner). verdict_by (tables_of F image) o (log_of image (log_number_at F number))) free

-- the verdict of a registered log is its mark
pub verdict_of-registered : (F : ℕ) (image : Image) (number : ℕ) (who : Owner) → owner_of image (client_of_log number) ≡ Some who
    → verdict_of F image number ≡ Some (mark_for (tables_of F image) who (log_of image (log_number_at F number)))
unfolding verdict_of
verdict_of-registered F image number who registered = ap (λ (o : Option Owner). verdict_by (tables_of F image) o (log_of image (log_number_at F number))) registered

-- ---- a copy whose entries were given device words

-- a log that is replayed is well formed, so a copy of it has each entry with its device word
pub placed_replayed : (t : Tables) (who : Owner) (place : AddressMap) (old new : Copied) (o : Option (List Entry)) → (log_copied old).entries ≡ o → mark_for t who (log_copied old) ≡ Replayed → image_of_copy new 0 ≡ image_of_copy old 0
    → ((es : List Entry) → (log_copied old).entries ≡ Some es → (log_copied new).entries ≡ Some (map (placed_entry place (log_copied old)) es)) → log_copied new ≡ placed_log place (log_copied old)
placed_replayed t who place old new None are mark gate placed = absurd (let it : Refused ≡ Replayed = sym (mark_for-spoilt t who (log_copied old) are) ∙ mark in cc)
placed_replayed t who place old new (Some es) are mark gate placed =
    λ p. record { lo = gate_lo (gate p); hi = gate_hi (gate p); entries = (placed es are ∙ sym (ap (option_map (map (placed_entry place (log_copied old)))) are)) p }
