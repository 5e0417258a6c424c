-- Logs, their entries, and the images that their replay gives.
use Rattle.std.proofs.Common.{◌≡◌, ℕ, ◌+◌, ◌^◌, false, List, [], ◌∷◌, Some, None, refl}
use Rattle.pud_defs.specs.Formats.Image.{Image, image_with}
use Rattle.pud_defs.specs.Logging.Entries.{Entry, gate_word, is_legal_gate, entry_word, is_legal_entry_word, entries_in, entries_of}
use Rattle.pud_defs.specs.Logging.Replay.{device_word, replayed, settled_by}
use Rattle.pud_defs.specs.Logging.Entries.{log_of}
use Rattle.pud_defs.proofs.Examples.Opened.{opened}

gates : (gate_word 0 2 6 ≡ 393728) × (gate_word 0 2 3 ≡ 197120) × (gate_word 0 2 0 ≡ 512) × (gate_word 4 4 0 ≡ 1028)
gates = (refl, refl, refl, refl)

second_words : (entry_word 1 1 0 ≡ 65537) × (entry_word 1 3 1 ≡ 4295163905)
second_words = (refl, refl)

-- one undo entry and one redo entry, each of one word
undo_entry : Entry
undo_entry = record { address = 17592186044944; seq = 1; order = 0; vals = 99 ∷ [] }

one_undo_entry : entries_in 0 (17592186044944 ∷ 65537 ∷ 99 ∷ []) ≡ Some (record { address = 17592186044944; seq = 1; order = 0; vals = 99 ∷ [] } ∷ [])
unfolding opened
one_undo_entry = refl

two_entries : entries_in 0 (1100 ∷ 65537 ∷ 99 ∷ 1101 ∷ 4295163906 ∷ 7 ∷ 8 ∷ []) ≡ Some (record { address = 1100; seq = 1; order = 0; vals = 99 ∷ [] } ∷ record { address = 1101; seq = 3; order = 1; vals = 7 ∷ 8 ∷ [] } ∷ [])
unfolding opened
two_entries = refl

-- words that do not spell whole entries, each for one reason

no_values : entries_in 0 (1100 ∷ entry_word 0 1 0 ∷ []) ≡ None
unfolding opened
no_values = refl

thirty_three_values : is_legal_entry_word (entry_word 33 1 0) ≡ false
thirty_three_values = refl

third_order : entries_in 0 (1100 ∷ entry_word 1 1 2 ∷ 99 ∷ []) ≡ None
unfolding opened
third_order = refl

value_missing : entries_in 0 (1100 ∷ entry_word 2 1 0 ∷ 99 ∷ []) ≡ None
unfolding opened
value_missing = refl

word_left_over : entries_in 0 (1100 ∷ 65537 ∷ 99 ∷ 1101 ∷ []) ≡ None
unfolding opened
word_left_over = refl

-- these words, placed from a word on; then a log at word 64 that stores such words after its gate
abbrev pub holding : ℕ → List ℕ → Image → Image
holding at [] image = image
holding at (w ∷ ws) image = holding (at + 1) ws (image_with at w image)

abbrev pub logged : ℕ → List ℕ → Image
logged gate ws = image_with 64 gate (holding 72 ws (λ _. 0))

upper_bits_of_the_gate : entries_of (logged (197120 + 2 ^ 32) (1100 ∷ 65537 ∷ 99 ∷ [])) 64 ≡ None
unfolding opened
upper_bits_of_the_gate = refl

too_many_words : is_legal_gate (gate_word 0 2 1017) ≡ false
too_many_words = refl

-- words that the gate does not count are not read
counted_alone : entries_of (logged 197120 (1100 ∷ 65537 ∷ 99 ∷ 1101 ∷ 65537 ∷ 98 ∷ [])) 64 ≡ Some (record { address = 1100; seq = 1; order = 0; vals = 99 ∷ [] } ∷ [])
unfolding opened
counted_alone = refl

-- ---- replay

-- of two undo entries of one word, the older one is applied last
undo_entries_newest_first : (let i = logged (gate_word 0 2 6) (1100 ∷ 65537 ∷ 10 ∷ 1100 ∷ 65537 ∷ 20 ∷ []) in replayed device_word (log_of i 64) i 1100) ≡ 10
unfolding opened
undo_entries_newest_first = refl

-- of two redo entries of one word, the newer one is applied last
redo_entries_oldest_first : (let i = logged (gate_word 2 4 6) (1100 ∷ 4295163905 ∷ 10 ∷ 1100 ∷ 4295163905 ∷ 20 ∷ []) in replayed device_word (log_of i 64) i 1100) ≡ 20
unfolding opened
redo_entries_oldest_first = refl

-- if a redo entry and an undo entry name one word, the redo entry counts, in whatever order they are in the log
redo_after_undo : (let i = logged (gate_word 0 4 6) (1100 ∷ 4295163905 ∷ 10 ∷ 1100 ∷ 65537 ∷ 20 ∷ []) in replayed device_word (log_of i 64) i 1100) ≡ 10
unfolding opened
redo_after_undo = refl

-- in a running log the undo entries are in range, and in a committing log the redo entries are
running : (let i = image_with 1100 5 (image_with 1101 6 (logged (gate_word 0 2 6) (1100 ∷ 65537 ∷ 10 ∷ 1101 ∷ 4295163905 ∷ 20 ∷ []))) in (replayed device_word (log_of i 64) i 1100 ≡ 10) × (replayed device_word (log_of i 64) i 1101 ≡ 6))
unfolding opened
running = (refl, refl)

committing : (let i = image_with 1100 5 (image_with 1101 6 (logged (gate_word 2 4 6) (1100 ∷ 65537 ∷ 10 ∷ 1101 ∷ 4295163905 ∷ 20 ∷ []))) in (replayed device_word (log_of i 64) i 1100 ≡ 5) × (replayed device_word (log_of i 64) i 1101 ≡ 20))
unfolding opened
committing = (refl, refl)

-- once the log is replayed, its own words are 0
settled : (let i = image_with 1100 5 (logged (gate_word 2 4 3) (1100 ∷ 4295163905 ∷ 20 ∷ [])) in (settled_by 64 i 1100 ≡ 20) × (settled_by 64 i 64 ≡ 0) × (settled_by 64 i 1088 ≡ 0))
unfolding opened
settled = (refl, refl, refl)
