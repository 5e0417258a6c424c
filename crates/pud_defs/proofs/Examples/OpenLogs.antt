-- An open log on a sound device: it is replayed if it is registered, and it is judged after the daemon log is replayed.
use Rattle.std.proofs.Common.{ℕ, ◌≡◌, ◌+◌, ◌*◌, Bool, true, false, List, [], ◌∷◌, length, refl}
use Rattle.pud_defs.specs.declared.layout.TheConstants.{DAEMON_LOG}
use Rattle.pud_defs.specs.Formats.Image.{Image, image_with}
use Rattle.pud_defs.specs.Formats.Bases.{base_at}
use Rattle.pud_defs.specs.Formats.Frames.{frame_at}
use Rattle.pud_defs.specs.Logging.Entries.{gate_word, entry_word}
use Rattle.pud_defs.specs.Logging.Replay.{settled_by}
use Rattle.pud_defs.specs.Logging.Settled.{settled, is_refused_log}
use Rattle.pud_defs.specs.RegistryTables.Registry.{is_sound}
use Rattle.pud_defs.proofs.Examples.Image.{blank}
use Rattle.pud_defs.proofs.Examples.Logs.{holding}
use Rattle.pud_defs.proofs.Examples.Tables.{pool_there, puddle_there}
use Rattle.pud_defs.proofs.Examples.Opened.{opened}

-- two pools with one puddle each, which only their owner 5 and 5 may write: the first in frame 0 at range 2, the second
-- in frame 1 at range 3
abbrev two_pools : Image
two_pools = pool_there 0 97 384 1 (puddle_there 0 0 0 2 (base_at 2) (base_at 2) 63 (pool_there 1 98 384 3 (puddle_there 1 1 0 4 (base_at 3) (base_at 3) 63 (image_with 4 5 blank))))

-- client 0 is registered with this number as its uid and gid; its first log has this gate, and these words after it
abbrev with_log : (who gate : ℕ) → List ℕ → Image
with_log who gate words = image_with 1472 1 (image_with 1473 who (image_with 1474 who (image_with 1568 gate (holding 1576 words two_pools))))

-- an open log of these words
abbrev open_log : (who : ℕ) → List ℕ → Image
open_log who words = with_log who (gate_word 0 2 (length words)) words

-- an undo entry for one word of a frame, which is given by the range of its puddle
abbrev undo_of : (range word value : ℕ) → List ℕ
undo_of range word value = (base_at range + 8 * word) ∷ entry_word 1 1 0 ∷ value ∷ []

-- word 100 of frame 0, as a start leaves it
abbrev left : Image → ℕ
left image = settled 4 image (frame_at 4 0 + 100)

-- the client's first log is refused
abbrev refused : Image → Bool
refused image = is_refused_log 4 (settled_by DAEMON_LOG image) 0

-- the owner's log is replayed, and the device is sound
own_log : (is_sound 42528 (open_log 5 (undo_of 2 100 9)) ≡ true) × (refused (open_log 5 (undo_of 2 100 9)) ≡ false) × (left (open_log 5 (undo_of 2 100 9)) ≡ 9)
unfolding opened
own_log = (refl, refl, refl)

-- a log that is not registered is not refused, and it is not replayed
free_record : (refused (image_with 1472 0 (open_log 5 (undo_of 2 100 9))) ≡ false) × (left (image_with 1472 0 (open_log 5 (undo_of 2 100 9))) ≡ 0)
unfolding opened
free_record = (refl, refl)

-- logs are judged after the daemon log is replayed: here a batch under way lets others write the first pool
abbrev with_batch : Image → Image
with_batch image = image_with 64 (gate_word 2 4 3) (image_with 72 1219 (image_with 73 (entry_word 1 3 1) (image_with 74 390 image)))

after_the_daemon_log : (refused (with_batch (open_log 6 (undo_of 2 100 9))) ≡ false) × (left (with_batch (open_log 6 (undo_of 2 100 9))) ≡ 9)
unfolding opened
after_the_daemon_log = (refl, refl)
