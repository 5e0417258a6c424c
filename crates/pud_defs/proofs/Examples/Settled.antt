-- Logs of clients on a device of four frames: which are allowed, what they give, and what a start prints about them.
-- Pool a belongs to user 5 and group 5 and has the puddle of frame 0. Pool b belongs to user 6 and group 6 and has the
-- puddle of frame 1. Clients 0 and 1 act as these users. In both pools the first field of the first object is 10.
use Rattle.std.proofs.Common.{◌≡◌, ℕ, ◌+◌, ◌*◌, ◌^◌, true, false, List, [], ◌∷◌, ◌++◌, None, refl}
use Rattle.std.specs.Prelude.{codes}
use Rattle.pud_defs.specs.Formats.Image.{Image, image_with}
use Rattle.pud_defs.specs.Formats.Bases.{base_at}
use Rattle.pud_defs.specs.Formats.Frames.{frame_at}
use Rattle.pud_defs.specs.Formats.Layout.{log_at}
use Rattle.pud_defs.specs.RegistryTables.Pools.{owner_word, pool_record_at}
use Rattle.pud_defs.specs.RegistryTables.Puddles.{member_word, puddle_record_at}
use Rattle.pud_defs.specs.RegistryTables.Spaces.{space_record_at}
use Rattle.pud_defs.specs.Logging.Entries.{gate_word, entry_word, log_of}
use Rattle.pud_defs.specs.RegistryTables.Places.{first_some}
use Rattle.pud_defs.specs.Logging.Allowed.{puddle_word, is_allowed_log, counts_any}
use Rattle.pud_defs.specs.Logging.Settled.{gives_to, given_in_turn, given_by_log, is_refused_log, settled_over, settled}
use Rattle.pud_defs.specs.Output.StartText.{refused_lines, start_text}
use Rattle.pud_defs.specs.Output.Texts.{line_of}
use Rattle.pud_defs.proofs.Examples.Opened.{opened}
use Rattle.pud_defs.proofs.Examples.Logs.{holding}

unfoldable opened_logs : Unit {0}
unfolding opened first_some puddle_word is_allowed_log gives_to given_in_turn settled_over settled refused_lines start_text
opened_logs = tt

-- the first field of the first object of a frame's puddle: its address, and its word
abbrev address_of : ℕ → ℕ
address_of frame = base_at frame + 528

abbrev word_of : ℕ → ℕ
word_of frame = frame_at 4 frame + 66

abbrev pool_there : (slot id name mode : ℕ) → Image → Image
pool_there slot id name mode = holding (pool_record_at slot) (name ∷ 0 ∷ owner_word id id ∷ mode ∷ (2 * slot + 1) ∷ [])

abbrev puddle_there : (slot : ℕ) → Image → Image
puddle_there slot = holding (puddle_record_at slot) (member_word (slot + 1) 0 ∷ (2 * slot + 2) ∷ base_at slot ∷ base_at slot ∷ 63 ∷ [])

abbrev client_there : (client id : ℕ) → Image → Image
client_there client id = holding (space_record_at client) (1 ∷ id ∷ id ∷ [])

-- pool a has this mode, and client 0 acts as this user and group
abbrev device : (mode id : ℕ) → Image
device mode id =
    image_with 3 4 (image_with (word_of 0) 10 (image_with (word_of 1) 10 (client_there 0 id (client_there 1 6 (puddle_there 0 (puddle_there 1
    (pool_there 0 5 97 mode (pool_there 1 6 98 0x180 (λ _. 0)))))))))

-- log 0 of client 0 has this gate, and these words after it
abbrev logged : (gate : ℕ) → List ℕ → Image
logged gate ws = image_with (log_at 4 0 0) gate (holding (log_at 4 0 0 + 8) ws (device 0x180 5))

-- ---- a log that names its own pool and then another owner's pool

abbrev both : ℕ → Image
both gate = logged gate (0x100000000210 ∷ 65537 ∷ 99 ∷ 0x100000004210 ∷ 65537 ∷ 99 ∷ [])

-- it is refused whole: even the word that it names in its own pool does not change
foreign_pool : (is_refused_log 4 (both 393728) 0 ≡ true) × (given_by_log 4 (both 393728) 0 (word_of 0) ≡ None) × (settled 4 (both 393728) (word_of 0) ≡ 10)
unfolding opened_logs
foreign_pool = (refl, refl, refl)

foreign_pool_is_said : start_text (both 393728) ≡ line_of (codes "refused 0 0") ++ line_of (codes "ready")
unfolding opened_logs
foreign_pool_is_said = refl

-- the same log, but the gate counts only the first entry
first_entry_alone : (is_refused_log 4 (both 197120) 0 ≡ false) × (settled 4 (both 197120) (word_of 0) ≡ 99) × (settled 4 (both 197120) (word_of 1) ≡ 10)
unfolding opened_logs
first_entry_alone = (refl, refl, refl)

nothing_is_said : start_text (both 197120) ≡ line_of (codes "ready")
unfolding opened_logs
nothing_is_said = refl

-- ---- gates

upper_bits_of_the_gate : is_refused_log 4 (both (393728 + 2 ^ 32)) 0 ≡ true
unfolding opened_logs
upper_bits_of_the_gate = refl

-- the gate counts more words than a log has
too_many_words : (is_refused_log 4 (both (gate_word 0 2 1017)) 0 ≡ true) × (start_text (both (gate_word 0 2 1017)) ≡ line_of (codes "refused 0 0") ++ line_of (codes "ready"))
unfolding opened_logs
too_many_words = (refl, refl)

-- the counted words end within an entry
cut_short : (is_refused_log 4 (both (gate_word 0 2 4)) 0 ≡ true) × (is_refused_log 4 (both (gate_word 0 2 1)) 0 ≡ true)
unfolding opened_logs
cut_short = (refl, refl)

-- a log that is not well formed is refused, whatever its range
spoilt_and_closed : is_refused_log 4 (both (gate_word 4 4 4)) 0 ≡ true
unfolding opened_logs
spoilt_and_closed = refl

-- ---- entries

-- a log of one entry: these two words and then its values
abbrev one : (gate address word : ℕ) → List ℕ → Image
one gate address word vals = logged gate (address ∷ word ∷ vals)

-- an entry without a value, and one with more values than an entry may have
counts_of_values : (is_refused_log 4 (one 197120 (address_of 0) (entry_word 0 1 0) (99 ∷ [])) 0 ≡ true) × (is_refused_log 4 (one 197120 (address_of 0) (entry_word 33 1 0) (99 ∷ [])) 0 ≡ true)
unfolding opened_logs
counts_of_values = (refl, refl)

-- the last word of a puddle is its own; a second word from there on lies in the next puddle
leaves_its_puddle : (is_refused_log 4 (one 197120 (base_at 0 + 16376) 65537 (99 ∷ [])) 0 ≡ false) × (is_refused_log 4 (one 262656 (base_at 0 + 16376) 65538 (99 ∷ 99 ∷ [])) 0 ≡ true)
unfolding opened_logs
leaves_its_puddle = (refl, refl)

-- this is refused even if the owner may write the next puddle too
leaves_for_its_own : (let own = holding (puddle_record_at 1) (member_word 1 1 ∷ []) in
    (is_refused_log 4 (own (one 262656 (base_at 0 + 16376) 65538 (99 ∷ 99 ∷ []))) 0 ≡ true) × (is_refused_log 4 (own (both 393728)) 0 ≡ false))
unfolding opened_logs
leaves_for_its_own = (refl, refl)

no_multiple_of_8 : is_refused_log 4 (one 197120 (address_of 0 + 4) 65537 (99 ∷ [])) 0 ≡ true
unfolding opened_logs
no_multiple_of_8 = refl

-- an address in no puddle: one in the range of a free frame, and the number of a word of the tables
in_no_puddle : (is_refused_log 4 (one 197120 (base_at 2) 65537 (99 ∷ [])) 0 ≡ true) × (is_refused_log 4 (one 197120 (pool_record_at 0) 65537 (99 ∷ [])) 0 ≡ true)
unfolding opened_logs
in_no_puddle = (refl, refl)

-- the owner may spoil a pool of its own
spoils_its_header : (is_refused_log 4 (one 197120 (base_at 0 + 24) 65537 (0 ∷ [])) 0 ≡ false) × (settled 4 (one 197120 (base_at 0 + 24) 65537 (0 ∷ [])) (frame_at 4 0 + 3) ≡ 0)
unfolding opened_logs
spoils_its_header = (refl, refl)

-- ---- entries that are not in range

-- an entry that is not in range may name anything; the range of a gate has at most the numbers 1 to 254
abbrev not_in_range : (seq : ℕ) → Image
not_in_range seq = one (gate_word 0 255 3) (address_of 1) (entry_word 1 seq 0) (99 ∷ [])

nothing_in_range : (is_refused_log 4 (not_in_range 0) 0 ≡ false) × (is_refused_log 4 (not_in_range 65535) 0 ≡ false) × (is_refused_log 4 (not_in_range 254) 0 ≡ true)
unfolding opened_logs
nothing_in_range = (refl, refl, refl)

nothing_counts : (counts_any (log_of (not_in_range 65535) (log_at 4 0 0)) ≡ false) × (settled 4 (not_in_range 65535) (word_of 1) ≡ 10) × (start_text (not_in_range 65535) ≡ line_of (codes "ready"))
unfolding opened_logs
nothing_counts = (refl, refl, refl)

-- ---- rights, and who has them

-- one entry, for pool a with this mode, in a log of this user and group
abbrev with_rights : (mode id : ℕ) → Image
with_rights mode id = image_with (log_at 4 0 0) 197120 (holding (log_at 4 0 0 + 8) (0x100000000210 ∷ 65537 ∷ 99 ∷ []) (device mode id))

-- the right to write decides, and not the right to read
write_alone : (is_refused_log 4 (with_rights 0x80 5) 0 ≡ false) × (is_refused_log 4 (with_rights 0x100 5) 0 ≡ true)
unfolding opened_logs
write_alone = (refl, refl)

-- user 9 of group 9 is one of the others
of_the_others : (is_refused_log 4 (with_rights 0x180 9) 0 ≡ true) × (is_refused_log 4 (with_rights 0x182 9) 0 ≡ false)
unfolding opened_logs
of_the_others = (refl, refl)

-- on a device that is not sound, an id may have more than 32 bits; no pool has such an id
wide_id : is_refused_log 4 (with_rights 0x180 (5 + 2 ^ 32)) 0 ≡ true
unfolding opened_logs
wide_id = refl

-- the pool that the puddle's record names does not exist
no_pool : is_refused_log 4 (holding (puddle_record_at 0) (member_word 3 0 ∷ []) (with_rights 0x180 5)) 0 ≡ true
unfolding opened_logs
no_pool = refl

-- logs are judged by the tables as the daemon log leaves them: here it gives pool a to user 6
abbrev given_away : Image
given_away = image_with 64 (gate_word 2 4 3) (holding 72 ((pool_record_at 0 + 2) ∷ entry_word 1 3 1 ∷ owner_word 6 6 ∷ []) (with_rights 0x180 5))

judged_after_the_daemon_log : (is_refused_log 4 given_away 0 ≡ false) × (start_text given_away ≡ line_of (codes "refused 0 0") ++ line_of (codes "ready"))
unfolding opened_logs
judged_after_the_daemon_log = (refl, refl)

-- ---- which logs are judged

-- log 3 of client 1 is log 7
last_of_a_client : start_text (image_with (log_at 4 1 3) (2 ^ 32) (both 393728)) ≡ line_of (codes "refused 0 0") ++ line_of (codes "refused 1 3") ++ line_of (codes "ready")
unfolding opened_logs
last_of_a_client = refl

-- client 2 is not registered
not_registered : (is_refused_log 4 (image_with (log_at 4 2 0) (2 ^ 32) (device 0x180 5)) 8 ≡ false) × (start_text (image_with (log_at 4 2 0) (2 ^ 32) (device 0x180 5)) ≡ line_of (codes "ready"))
unfolding opened_logs
not_registered = (refl, refl)
