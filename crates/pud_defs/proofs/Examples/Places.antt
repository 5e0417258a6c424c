-- Addresses, free bases and headers on a device of four frames. Frame 1 has the first range of the space. Frame 2 has
-- the second range, and its puddle moved there from the third.
use Rattle.std.proofs.Common.{◌≡◌, ℕ, ◌+◌, ◌-◌, true, false, [], ◌∷◌, Some, None, refl}
use Rattle.pud_defs.specs.declared.space.TheConstants.{SPACE_START, FRAME_MAGIC}
use Rattle.pud_defs.specs.Formats.Image.{Image, image_with}
use Rattle.pud_defs.specs.RegistryTables.Spaces.{all_below}
use Rattle.pud_defs.specs.Formats.Bases.{base_at}
use Rattle.pud_defs.specs.Formats.Frames.{frame_at}
use Rattle.pud_defs.specs.RegistryTables.Puddles.{puddle_record_at, member_word, puddle_by, puddle_at}
use Rattle.pud_defs.specs.RegistryTables.Tables.{Tables, tables_of}
use Rattle.pud_defs.specs.Formats.Headers.{header_fits}
use Rattle.pud_defs.specs.RegistryTables.Places.{first_some, located, is_free_base}

-- the image with a used record for this frame, with this base and old base
abbrev with_puddle : (frame ordinal base old_base : ℕ) → Image → Image
with_puddle frame ordinal base old_base image =
    image_with (puddle_record_at frame) (member_word 1 ordinal) (image_with (puddle_record_at frame + 1) (frame + 7) (image_with (puddle_record_at frame + 2) base (image_with (puddle_record_at frame + 3) old_base image)))

abbrev device : Image
device = with_puddle 1 0 (base_at 0) (base_at 0) (with_puddle 2 1 (base_at 1) (base_at 2) (λ _. 0))

abbrev tables : Tables
tables = tables_of 4 device

field_of_an_object : located tables 0x100000000210 ≡ Some (1, 66)
unfolding first_some tables_of puddle_at puddle_by
field_of_an_object = refl

last_of_a_range : located tables (base_at 1 + 16383) ≡ Some (2, 2047)
unfolding first_some tables_of puddle_at puddle_by
last_of_a_range = refl

-- an old base is no address of its puddle
after_all_ranges : located tables (base_at 2) ≡ None
unfolding first_some tables_of puddle_at puddle_by
after_all_ranges = refl

before_all_ranges : located tables (SPACE_START - 1) ≡ None
unfolding first_some tables_of puddle_at puddle_by
before_all_ranges = refl

old_base_is_held : is_free_base tables [] (base_at 2) ≡ false
unfolding all_below tables_of puddle_at puddle_by
old_base_is_held = refl

next_is_free : is_free_base tables [] (base_at 3) ≡ true
unfolding all_below tables_of puddle_at puddle_by
next_is_free = refl

taken_is_not : is_free_base tables (base_at 9 ∷ base_at 3 ∷ []) (base_at 3) ≡ false
unfolding all_below tables_of puddle_at puddle_by
taken_is_not = refl

-- the device with this header in frame 2, word by word
abbrev with_header : (magic number ordinal : ℕ) → Image
with_header magic number ordinal = image_with (frame_at 4 2) magic (image_with (frame_at 4 2 + 1) number (image_with (frame_at 4 2 + 2) ordinal device))

fitting : header_fits 4 2 (with_header FRAME_MAGIC 9 1) ≡ true
unfolding puddle_at puddle_by
fitting = refl

other_magic : header_fits 4 2 (with_header 0 9 1) ≡ false
unfolding puddle_at puddle_by
other_magic = refl

other_number : header_fits 4 2 (with_header FRAME_MAGIC 8 1) ≡ false
unfolding puddle_at puddle_by
other_number = refl

other_ordinal : header_fits 4 2 (with_header FRAME_MAGIC 9 0) ≡ false
unfolding puddle_at puddle_by
other_ordinal = refl

-- frame 3 has no puddle
no_puddle : header_fits 4 3 device ≡ false
unfolding puddle_at puddle_by
no_puddle = refl
