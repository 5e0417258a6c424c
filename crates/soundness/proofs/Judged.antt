-- Whether the daemon log is legal, entry by entry, and whether a device is sound, part by part.
use Rattle.std.proofs.Common.{◌≡◌, inl, inr, ℕ, ◌<◌, Bool, true, false, ◌&&◌, cond, leb, eqb, List, Option, Some, None, refl, sym, ap, ◌∙◌, arith}
use Rattle.std.specs.List.{list_all}
use Rattle.std.specs.Prelude.{is_some}
use Rattle.std.proofs.lemmas.Bool.{and_parts, and_left, and_right, cases_Bool}
use Rattle.std.proofs.lemmas.Option.{cond_some}
use Rattle.pud_defs.specs.declared.layout.TheConstants.{DEVICE_MAGIC, MAGIC_WORD, VERSION_WORD, FRAMES_WORD, MIN_FRAMES, DAEMON_LOG}
use Rattle.pud_defs.specs.Formats.Image.{Image}
use Rattle.pud_defs.specs.Logging.Entries.{Entry, log_of, entries_of}
use Rattle.pud_defs.specs.Formats.Layout.{device_words, is_legal_frame_count}
use Rattle.pud_defs.specs.Logging.Replay.{settled_by}
use Rattle.pud_defs.specs.RegistryTables.Spaces.{are_legal_spaces}
use Rattle.pud_defs.specs.RegistryTables.Registry.{frames_of, is_version, suits_version, has_suitable_puddles, has_magic, has_version, has_room, has_legal_number, has_legal_types, has_sound_tables, has_legal_spaces, is_registry, is_loggable, are_loggable, has_legal_log, is_sound}
use Rattle.pud_defs.specs.RegistryTables.Tables.{Tables, tables_of}
use Rattle.pud_defs.specs.RegistryTables.SoundTables.{has_legal_pools, has_distinct_names, has_legal_puddles, has_distinct_bases, has_distinct_old_bases, has_distinct_ordinals, has_counted_puddles, are_sound_tables}
use Rattle.pud_defs.proofs.Logging.Logged.{settled_by-unlogged}
use Rattle.pud_defs.proofs.StateMachine.Worlds.{holding_by}
use Rattle.log_entry.specs.Copying.{log_copied}
use Rattle.soundness.specs.declared.overlay.Overlay.{Overlay}
use Rattle.soundness.specs.Overlaying.{IsOverlay}
use Rattle.soundness.specs.Distinct.{are_distinct_puddles}
use Rattle.soundness.specs.Judging.{frames_described, has_sound_records}
use Rattle.pud_defs.proofs.KeyedTables.Keyed.{some_there}

-- ---- a legal log

none_of : (o : Option (List Entry)) → is_some o ≡ false → o ≡ None
none_of None e = refl
none_of (Some es) e = absurd (let it : true ≡ false = e in cc)

pub not_legal : (image : Image) → is_some (entries_of image DAEMON_LOG) ≡ false → has_legal_log image ≡ false
unfolding has_legal_log
not_legal image spoilt = ap (are_loggable (frames_of image) (log_of image DAEMON_LOG)) (none_of (entries_of image DAEMON_LOG) spoilt)

-- a well-formed log is legal exactly if its entries are allowed
pub record IsWellFormed (image : Image) : Type 0 where
  pub entries : List Entry
  pub are : entries_of image DAEMON_LOG ≡ Some entries
  pub legal : list_all (is_loggable (frames_of image) (log_of image DAEMON_LOG)) entries ≡ has_legal_log image

pub is_well_formed : (image : Image) → is_some (entries_of image DAEMON_LOG) ≡ true → IsWellFormed image
unfolding has_legal_log
is_well_formed image some =
    let es = some_there (entries_of image DAEMON_LOG) some in
    record { entries = es.0; are = es.1; legal = sym (ap (are_loggable (frames_of image) (log_of image DAEMON_LOG)) es.1) }

pub is_overlay : (o : Overlay) (image : Image) → log_copied o.log ≡ log_of image DAEMON_LOG → has_legal_log image ≡ true → IsOverlay o image
is_overlay o image log legal = elim (cases_Bool (is_some (entries_of image DAEMON_LOG))) [
  | inl formed ↦ let es = some_there (entries_of image DAEMON_LOG) formed in record { log = log; entries = es.0; are = es.1 }
  | inr spoilt ↦ absurd (let it : true ≡ false = sym legal ∙ not_legal image spoilt in cc)
]

-- ---- soundness by its parts

-- the words that describe the device are sound
described : ℕ → Image → Bool
described size image = has_magic image && has_version image && has_room size image

not_described : (b : Bool) (n : ℕ) → cond b (Some n) None ≡ None → b ≡ false
not_described true n e = absurd (let no : Some n ≡ None = e in cc)
not_described false n e = refl

pub frames_are : (size : ℕ) (image : Image) (F : ℕ) → frames_described size image ≡ Some F → F ≡ frames_of image
frames_are size image F some = sym (cond_some (has_magic image && has_version image && has_room size image) (frames_of image) F some).1

-- these words read the same with the daemon log replayed
described_raw : (size : ℕ) (image : Image) → has_legal_log image ≡ true → described size (settled_by DAEMON_LOG image) ≡ described size image
unfolding described
described_raw size image legal =
    let magic = settled_by-unlogged image MAGIC_WORD legal (omega arith) in
    let version = settled_by-unlogged image VERSION_WORD legal (omega arith) in
    let frames = settled_by-unlogged image FRAMES_WORD legal (omega arith) in
    λ p. eqb (magic p) DEVICE_MAGIC && is_version (version p) && (is_legal_frame_count (frames p) && leb (device_words (frames p)) size)

undescribed : (size : ℕ) (image : Image) → described size image ≡ false → is_registry size image ≡ false
unfolding is_registry described
undescribed size image fails =
    ap (λ (b : Bool). b && has_legal_number image && has_legal_types image && has_sound_tables image && has_suitable_puddles image && has_legal_spaces image) fails

pub unsound_header : (size : ℕ) (image : Image) → frames_described size image ≡ None → is_sound size image ≡ false
unfolding is_sound described
unsound_header size image none = elim (cases_Bool (has_legal_log image)) [
  | inl legal ↦ and_right (has_legal_log image) (is_registry size (settled_by DAEMON_LOG image))
      (undescribed size (settled_by DAEMON_LOG image) (described_raw size image legal ∙ not_described (described size image) (frames_of image) none))
  | inr illegal ↦ and_left (has_legal_log image) (is_registry size (settled_by DAEMON_LOG image)) illegal
]

-- if the daemon log is not legal, the device is not sound
pub unsound_log : (size : ℕ) (image : Image) → has_legal_log image ≡ false → is_sound size image ≡ false
unfolding is_sound
unsound_log size image illegal = and_left (has_legal_log image) (is_registry size (settled_by DAEMON_LOG image)) illegal

pub sound_by : (size : ℕ) (image : Image) → has_legal_log image ≡ true → is_registry size (settled_by DAEMON_LOG image) ≡ is_sound size image
unfolding is_sound
sound_by size image legal = sym (ap (λ (b : Bool). b && is_registry size (settled_by DAEMON_LOG image)) legal)

-- a device that is too small for the fewest frames is not sound
pub unsound_small : (size : ℕ) (image : Image) → size < device_words MIN_FRAMES → is_sound size image ≡ false
unfolding is_sound
unsound_small size image small = elim (cases_Bool (is_sound size image)) [
  | inl sound ↦
      let h = holding_by size (settled_by DAEMON_LOG image) (and_parts (has_legal_log image) (is_registry size (settled_by DAEMON_LOG image)) sound).1 in
      let least = h.header.enough_frames in
      let room = h.header.room in
      absurd (omega arith)
  | inr unsound ↦ unsound
]

regrouped : (header number types tables suits spaces : Bool) → header ≡ true → (number && types && tables && suits && spaces) ≡ (header && number && types && tables && suits && spaces)
regrouped header number types tables suits spaces is = ap (λ (b : Bool). b && number && types && tables && suits && spaces) (sym is)

-- if F frames are described, the image is a registry exactly if the two halves that are left hold
pub registry_parts : (size : ℕ) (image : Image) (F : ℕ) → has_legal_log image ≡ true → frames_described size image ≡ Some F
    → (has_sound_records (settled_by DAEMON_LOG image) F && suits_version (settled_by DAEMON_LOG image VERSION_WORD) (tables_of F (settled_by DAEMON_LOG image)) && are_legal_spaces (settled_by DAEMON_LOG image)) ≡ is_registry size (settled_by DAEMON_LOG image)
unfolding is_registry described
registry_parts size image F legal some =
    let settled = settled_by DAEMON_LOG image in
    let parts = cond_some (described size image) (frames_of image) F some in
    let frames : F ≡ frames_of settled = sym parts.1 ∙ sym (settled_by-unlogged image FRAMES_WORD legal (omega arith)) in
    let header : described size settled ≡ true = described_raw size image legal ∙ parts.0 in
    ap (λ (n : ℕ). has_sound_records settled n && suits_version (settled VERSION_WORD) (tables_of n settled) && are_legal_spaces settled) frames
    ∙ regrouped (described size settled) (has_legal_number settled) (has_legal_types settled) (has_sound_tables settled) (has_suitable_puddles settled) (has_legal_spaces settled) header

-- ---- the tables of pools and puddles, each record by itself first

regrouped_tables : (first bases old_bases ordinals counted : Bool) → (first && bases && old_bases && ordinals && counted) ≡ (first && (bases && old_bases && ordinals && counted))
regrouped_tables first bases old_bases ordinals counted = elim first as (λ b. (b && bases && old_bases && ordinals && counted) ≡ (b && (bases && old_bases && ordinals && counted))) [ true ↦ refl | false ↦ refl ]

pub sound_tables : (next : ℕ) (t : Tables) (first : Bool) → first ≡ (has_legal_pools next t && has_distinct_names t && has_legal_puddles next t) → are_sound_tables next t ≡ (first && are_distinct_puddles t)
unfolding are_sound_tables
sound_tables next t first is =
    ap (λ (b : Bool). b && has_distinct_bases t && has_distinct_old_bases t && has_distinct_ordinals t && has_counted_puddles t) (sym is)
    ∙ regrouped_tables first (has_distinct_bases t) (has_distinct_old_bases t) (has_distinct_ordinals t) (has_counted_puddles t)

-- if pools, names and puddles are all legal, the puddles are
pub puddles_of_all : (pools names puddles : Bool) → (pools && names && puddles) ≡ true → puddles ≡ true
puddles_of_all pools names puddles all = (and_parts (pools && names) puddles all).1
