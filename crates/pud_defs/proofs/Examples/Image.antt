-- Images and what they stand for.
use Rattle.std.proofs.Common.{ℕ, ◌≡◌, ◌+◌, ◌*◌, ◌^◌, true, false, [], ◌∷◌, None, Some, refl}
use Rattle.pud_defs.specs.declared.layout.TheConstants.{DEVICE_MAGIC}
use Rattle.pud_defs.specs.Formats.Layout.{tables_end, frames_at, device_words}
use Rattle.pud_defs.specs.Formats.Image.{Image, image_with}
use Rattle.pud_defs.specs.Logging.Entries.{gate_word, entry_word}
use Rattle.pud_defs.specs.RegistryTables.Types.{free_type}
use Rattle.pud_defs.specs.RegistryTables.Registry.{is_sound}
use Rattle.pud_defs.specs.StateMachine.World.{world_of, idle_world_of, blank_world}
use Rattle.pud_defs.proofs.Examples.Opened.{opened}

four_frames : (tables_end 4 ≡ 1568) × (frames_at 4 ≡ 34336) × (device_words 4 ≡ 42528)
four_frames = (refl, refl, refl)

most_frames : device_words 1024 ≡ 2139648
most_frames = refl

-- the eight bytes `PUDDEV01`, lowest first
magic_by_bytes : DEVICE_MAGIC ≡ 80 + 256 * (85 + 256 * (68 + 256 * (68 + 256 * (69 + 256 * (86 + 256 * (48 + 256 * 49))))))
magic_by_bytes = refl

-- a device of four frames and machine id 7 with nothing in it
abbrev pub blank : Image
blank = image_with 4 1 (image_with 3 4 (image_with 2 7 (image_with 1 2 (image_with 0 DEVICE_MAGIC (λ _. 0)))))

-- the same with the types 1 and 2 defined
abbrev pub two_types : Image
two_types = image_with 1091 129385889793 (image_with 1090 2 (image_with 1089 8589934594 (image_with 1088 1 blank)))

blank_is_the_blank_world : world_of 42528 blank ≡ Some (blank_world 4 7)
unfolding opened
blank_is_the_blank_world = refl

two_types_stand : world_of 42528 two_types ≡ Some (record { frames = 4; machine = 7; next_number = 1; types = (1, 8589934594) ∷ (2, 129385889793) ∷ []; pools = [] })
unfolding opened
two_types_stand = refl

-- the order of the records in the table makes no difference to the world
any_order : world_of 42528 (image_with 1215 8589934594 (image_with 1214 1 (image_with 1089 129385889793 (image_with 1088 2 blank)))) ≡ world_of 42528 two_types
unfolding opened
any_order = refl

third_record_is_free : free_type two_types ≡ Some 2
unfolding opened
third_record_is_free = refl

gaps_are_found : free_type (image_with 1088 0 two_types) ≡ Some 0
unfolding opened
gaps_are_found = refl

-- what is not read does not matter
larger_device : world_of 50000 blank ≡ Some (blank_world 4 7)
unfolding opened
larger_device = refl

words_not_read : world_of 42528 (image_with 5 1 (image_with 63 1 (image_with 65 1 (image_with 1087 1 (image_with 1089 1 (image_with 1221 1 (image_with 1567 1 (image_with 1568 1 blank)))))))) ≡ Some (blank_world 4 7)
unfolding opened
words_not_read = refl

-- images that are not sound, each for one reason

no_magic : is_sound 42528 (image_with 0 0 blank) ≡ false
unfolding opened
no_magic = refl

another_version : (is_sound 42528 (image_with 1 0 blank) ≡ false) × (is_sound 42528 (image_with 1 3 blank) ≡ false)
unfolding opened
another_version = (refl, refl)

-- a device of the first version stands for the same world, but is not idle
first_version : (world_of 42528 (image_with 1 1 blank) ≡ Some (blank_world 4 7)) × (idle_world_of 42528 (image_with 1 1 blank) ≡ None) × (idle_world_of 42528 blank ≡ Some (blank_world 4 7))
unfolding opened
first_version = (refl, refl, refl)

three_frames : is_sound 42528 (image_with 3 3 blank) ≡ false
unfolding opened
three_frames = refl

five_frames_without_room : is_sound 42528 (image_with 3 5 blank) ≡ false
unfolding opened
five_frames_without_room = refl

word_missing : is_sound 42527 blank ≡ false
unfolding opened
word_missing = refl

number_zero : is_sound 42528 (image_with 4 0 blank) ≡ false
unfolding opened
number_zero = refl

last_number : is_sound 42528 (image_with 4 (2 ^ 63) blank) ≡ true
unfolding opened
last_number = refl

number_too_large : is_sound 42528 (image_with 4 (2 ^ 63 + 1) blank) ≡ false
unfolding opened
number_too_large = refl

type_id_too_large : is_sound 42528 (image_with 1088 65536 (image_with 1089 8589934594 blank)) ≡ false
unfolding opened
type_id_too_large = refl

map_without_fields : is_sound 42528 (image_with 1088 1 blank) ≡ false
unfolding opened
map_without_fields = refl

pointer_past_the_fields : is_sound 42528 (image_with 1088 1 (image_with 1089 8589934596 blank)) ≡ false
unfolding opened
pointer_past_the_fields = refl

thirty_one_fields : is_sound 42528 (image_with 1088 1 (image_with 1089 133143986176 blank)) ≡ false
unfolding opened
thirty_one_fields = refl

bit_above_the_fields : is_sound 42528 (image_with 1088 1 (image_with 1089 146028888064 blank)) ≡ false
unfolding opened
bit_above_the_fields = refl

id_twice : is_sound 42528 (image_with 1090 1 two_types) ≡ false
unfolding opened
id_twice = refl

log_not_well_formed : is_sound 42528 (image_with 64 (2 ^ 32) blank) ≡ false
unfolding opened
log_not_well_formed = refl

pool_there : is_sound 42528 (image_with 1216 97 blank) ≡ false
unfolding opened
pool_there = refl

puddle_of_no_pool : is_sound 42528 (image_with 1560 1 blank) ≡ false
unfolding opened
puddle_of_no_pool = refl

client_flag_2 : is_sound 42528 (image_with 1472 2 blank) ≡ false
unfolding opened
client_flag_2 = refl

uid_too_large : is_sound 42528 (image_with 1472 1 (image_with 1473 65536 blank)) ≡ false
unfolding opened
uid_too_large = refl

-- ---- the logs of clients

-- the first client's logs are registered, and the first of them has this gate
abbrev pub first_client : ℕ → Image
first_client gate = image_with 1472 1 (image_with 1473 5 (image_with 1474 5 (image_with 1568 gate blank)))

-- registered logs play no part in soundness, whatever they store
registered_logs : (is_sound 42528 (first_client 0) ≡ true) × (is_sound 42528 (first_client 1028) ≡ true) × (is_sound 42528 (first_client 512) ≡ true) × (is_sound 42528 (first_client (2 ^ 32)) ≡ true)
unfolding opened
registered_logs = (refl, refl, refl, refl)

open_log_is_sound : world_of 42528 (first_client 512) ≡ Some (blank_world 4 7)
unfolding opened
open_log_is_sound = refl

-- a log that was never opened, a log whose range is closed, and an open log that is not registered
closed_logs : (idle_world_of 42528 (first_client 0) ≡ Some (blank_world 4 7)) × (idle_world_of 42528 (first_client 1028) ≡ Some (blank_world 4 7)) × (idle_world_of 42528 (image_with 1472 0 (first_client 512)) ≡ Some (blank_world 4 7))
unfolding opened
closed_logs = (refl, refl, refl)

open_logs : (idle_world_of 42528 (first_client 512) ≡ None) × (idle_world_of 42528 (first_client (2 ^ 32)) ≡ None)
unfolding opened
open_logs = (refl, refl)

last_log_of_the_last_client : idle_world_of 42528 (image_with 1528 1 (image_with 33312 512 blank)) ≡ None
unfolding opened
last_log_of_the_last_client = refl

-- ---- the daemon log

-- the blank image with one entry in the daemon log, which is in range and gives values to two words from this place on
abbrev pub logged_at : ℕ → Image
logged_at place = image_with 64 (gate_word 2 4 4) (image_with 72 place (image_with 73 (entry_word 2 3 1) (image_with 74 1 (image_with 75 8589934594 blank))))

-- a batch that is under way counts
batch_under_way : world_of 42528 (logged_at 1088) ≡ Some (record { frames = 4; machine = 7; next_number = 1; types = (1, 8589934594) ∷ []; pools = [] })
unfolding opened
batch_under_way = refl

-- the same entry does not count if it is out of range
batch_before_its_range : world_of 42528 (image_with 64 (gate_word 0 2 4) (logged_at 1088)) ≡ Some (blank_world 4 7)
unfolding opened
batch_before_its_range = refl

-- all words of an entry in range lie in the tables from the type table on, or in the frames
places_of_entries : (is_sound 42528 (logged_at 3) ≡ false) × (is_sound 42528 (logged_at 1087) ≡ false) × (is_sound 42528 (logged_at 1567) ≡ false) × (is_sound 42528 (logged_at 1568) ≡ false) × (is_sound 42528 (logged_at 34336) ≡ true) × (is_sound 42528 (logged_at 42527) ≡ false)
unfolding opened
places_of_entries = (refl, refl, refl, refl, refl, refl)

-- besides them only the next number may be written
next_number_logged : (is_sound 42528 (image_with 64 (gate_word 2 4 3) (image_with 72 4 (image_with 73 (entry_word 1 3 1) (image_with 74 9 blank)))) ≡ true) × (is_sound 42528 (logged_at 4) ≡ false)
unfolding opened
next_number_logged = (refl, refl)
