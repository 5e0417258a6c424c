-- What follows if an image stands for a world: first for an image with nothing to replay, and then for one with a
-- daemon log and clients' logs.
use Rattle.std.proofs.Common.{◌≡◌, ◌⊎◌, ◌+◌, inl, inr, Bool, ℕ, ◌<◌, ◌≤◌, true, false, ◌&&◌, leb, eqb, List, Option, Some, None, refl, sym, ap, ap₂, ◌∙◌, arith, eqb-true, eq-eqb, leb-true, le-leb, subst}
use Rattle.std.proofs.lemmas.Bool.{and_parts, and_from, cond-true, cond-false, cases_Bool}
use Rattle.std.proofs.lemmas.Option.{cond_some}
use Rattle.pud_defs.specs.declared.layout.TheConstants.{DEVICE_MAGIC, MIN_FRAMES, MAX_FRAMES, NUMBER_LIMIT, MAGIC_WORD, VERSION_WORD, FRAMES_WORD, NEXT_NUMBER_WORD, DAEMON_LOG, TYPE_TABLE, TYPE_RECORDS}
use Rattle.pud_defs.specs.Formats.Layout.{tables_end, device_words, is_legal_frame_count}
use Rattle.pud_defs.specs.Formats.Image.{Image}
use Rattle.pud_defs.specs.Formats.Identifiers.{is_number}
use Rattle.pud_defs.specs.RegistryTables.Types.{type_record_at, type_at, types_of, are_legal_types}
use Rattle.pud_defs.specs.RegistryTables.Registry.{frames_of, is_sound, has_magic, is_version, has_version, has_room, has_legal_number, has_legal_types, has_sound_tables, suits_version, has_suitable_puddles, has_legal_spaces, is_registry, has_legal_log}
use Rattle.pud_defs.specs.RegistryTables.Tables.{tables_of}
use Rattle.pud_defs.specs.RegistryTables.SoundTables.{are_sound_tables}
use Rattle.pud_defs.specs.StateMachine.World.{StoredWorld, pools_in, stored_by, registry_world, world_of}
use Rattle.pud_defs.specs.Logging.Replay.{settled_by}
use Rattle.pud_defs.specs.Logging.Settled.{settled_over, settled}
use Rattle.pud_defs.proofs.RegistryTables.Spaces.{are_legal_spaces-same}
use Rattle.pud_defs.proofs.Logging.Logged.{settled_by-unlogged}
use Rattle.pud_defs.proofs.KeyedTables.DistinctKeys.{same_tests}
use Rattle.pud_defs.proofs.RegistryTables.TypeTable.{type_at-same, are_legal_types-fewer}
use Rattle.pud_defs.proofs.RegistryTables.TablesOf.{tables_of-same}
use Rattle.pud_defs.proofs.Logging.Settled.{settled_over-below}
use Rattle.pud_defs.proofs.StateMachine.Parts.{HoldsWorld}

none_from : {A : Type 0} (o : Option A) → ((x : A) → o ≡ Some x → ⊥) → o ≡ None
none_from None h = refl
none_from (Some x) h = absurd (h x refl)

-- ---- an image with nothing to replay

pub holds_sound : (size : ℕ) (image : Image) (s : StoredWorld) → HoldsWorld size image s → is_registry size image ≡ true
unfolding is_registry
holds_sound size image s h =
    let header = h.header in
    let frames = header.frames in
    let low : MIN_FRAMES ≤ frames_of image = let few = header.enough_frames in omega arith in
    let high : frames_of image ≤ MAX_FRAMES = let many = header.no_more_frames in omega arith in
    let room : device_words (frames_of image) ≤ size = let words = header.room in omega arith in
    let number = header.next_number in
    let number_low : 1 ≤ image NEXT_NUMBER_WORD = let least = header.number_low in omega arith in
    let number_high : image NEXT_NUMBER_WORD ≤ NUMBER_LIMIT = let most = header.number_high in omega arith in
    let sound : has_sound_tables image ≡ true = (λ p. are_sound_tables (number p) (tables_of (frames p) image)) ∙ h.pools.sound in
    let suits : has_suitable_puddles image ≡ true = ap (λ (n : ℕ). suits_version (image VERSION_WORD) (tables_of n image)) frames ∙ h.suits in
    and_from _ _ (and_from _ _ (and_from _ _ (and_from _ _ (and_from _ _ (and_from _ _ (and_from _ _
    (eq-eqb _ _ header.magic)
    header.version)
    (and_from _ _ (and_from _ _ (le-leb _ _ low) (le-leb _ _ high)) (le-leb _ _ room)))
    (and_from _ _ (le-leb _ _ number_low) (le-leb _ _ number_high)))
    h.types.legal)
    sound)
    suits)
    h.spaces

pub holds_stored : (size : ℕ) (image : Image) (s : StoredWorld) → HoldsWorld size image s → stored_by image ≡ s
unfolding stored_by
holds_stored size image s h =
    let pools : pools_in (types_of image) (frames_of image) image ≡ s.pools = ap₂ (λ (types : List (ℕ × ℕ)) (F : ℕ). pools_in types F image) h.types.types h.header.frames ∙ h.pools.pools in
    λ i. record { frames = h.header.frames i; machine = h.header.machine i; next_number = h.header.next_number i; types = h.types.types i; pools = pools i }

pub registry_world_holding : (size : ℕ) (image : Image) (s : StoredWorld) → HoldsWorld size image s → registry_world size image ≡ Some s
unfolding registry_world
registry_world_holding size image s h = cond-true (is_registry size image) (Some (stored_by image)) None (holds_sound size image s h) ∙ ap Some (holds_stored size image s h)

pub holding_by : (size : ℕ) (image : Image) → is_registry size image ≡ true → HoldsWorld size image (stored_by image)
unfolding is_registry stored_by
holding_by size image sound =
    let spaces = and_parts (has_magic image && has_version image && has_room size image && has_legal_number image && has_legal_types image && has_sound_tables image && has_suitable_puddles image) (has_legal_spaces image) sound in
    let suits = and_parts (has_magic image && has_version image && has_room size image && has_legal_number image && has_legal_types image && has_sound_tables image) (has_suitable_puddles image) spaces.0 in
    let pools = and_parts (has_magic image && has_version image && has_room size image && has_legal_number image && has_legal_types image) (has_sound_tables image) suits.0 in
    let types = and_parts (has_magic image && has_version image && has_room size image && has_legal_number image) (has_legal_types image) pools.0 in
    let number = and_parts (has_magic image && has_version image && has_room size image) (has_legal_number image) types.0 in
    let room = and_parts (has_magic image && has_version image) (has_room size image) number.0 in
    let first = and_parts (has_magic image) (has_version image) room.0 in
    let words = and_parts _ _ room.1 in
    let counts = and_parts _ _ words.0 in
    let numbers = and_parts _ _ number.1 in
    record {
      header = record {
        magic = eqb-true _ _ first.0;
        version = first.1;
        machine = refl;
        frames = refl;
        next_number = refl;
        enough_frames = leb-true _ _ counts.0;
        no_more_frames = leb-true _ _ counts.1;
        room = leb-true _ _ words.1;
        number_low = leb-true _ _ numbers.0;
        number_high = leb-true _ _ numbers.1;
      };
      suits = suits.1;
      types = record { types = refl; legal = types.1 };
      pools = record { pools = refl; sound = pools.1 };
      spaces = spaces.1;
    }

pub holding_of_registry : (size : ℕ) (image : Image) (s : StoredWorld) → registry_world size image ≡ Some s → HoldsWorld size image s
unfolding registry_world
holding_of_registry size image s h =
    let parts = cond_some (is_registry size image) (stored_by image) s h in
    subst (λ w. HoldsWorld size image w) parts.1 (holding_by size image parts.0)

-- images that agree on all words before the clients' logs are both sound, or neither is
pub is_registry-same : (size : ℕ) (i j : Image) → ((k : ℕ) → (k < DAEMON_LOG) ⊎ (TYPE_TABLE ≤ k) → k < tables_end (frames_of i) → j k ≡ i k) → is_registry size j ≡ is_registry size i
unfolding is_registry
is_registry-same size i j same =
    let F = frames_of i in
    let head : (k : ℕ) → k < DAEMON_LOG → j k ≡ i k = λ k below. same k (inl below) (omega arith) in
    let magic = head MAGIC_WORD (omega arith) in
    let version = head VERSION_WORD (omega arith) in
    let frames = head FRAMES_WORD (omega arith) in
    let next = head NEXT_NUMBER_WORD (omega arith) in
    let each : (n : ℕ) → n < TYPE_RECORDS → type_at j n ≡ type_at i n = λ n below.
    type_at-same i j n (same (type_record_at n) (inr (omega arith)) (omega arith)) (same (type_record_at n + 1) (inr (omega arith)) (omega arith)) in
    let types : are_legal_types (type_at j) ≡ are_legal_types (type_at i) = same_tests (are_legal_types (type_at j)) (are_legal_types (type_at i))
    (are_legal_types-fewer (type_at j) (type_at i) (λ n below. inl (sym (each n below))))
    (are_legal_types-fewer (type_at i) (type_at j) (λ n below. inl (each n below))) in
    let tables : tables_of F j ≡ tables_of F i = tables_of-same F j i (λ k low high. same k (inr (omega arith)) (omega arith)) (λ k low high. same k (inr (omega arith)) high) in
    let sound : has_sound_tables j ≡ has_sound_tables i = ap (λ (n : ℕ). are_sound_tables (j NEXT_NUMBER_WORD) (tables_of n j)) frames ∙ ap₂ are_sound_tables next tables in
    let suits : has_suitable_puddles j ≡ has_suitable_puddles i = ap (λ (n : ℕ). suits_version (j VERSION_WORD) (tables_of n j)) frames ∙ ap₂ suits_version version tables in
    let spaces = are_legal_spaces-same j i (λ k low high. same k (inr (omega arith)) (omega arith)) in
    λ p. eqb (magic p) DEVICE_MAGIC && is_version (version p) && (is_legal_frame_count (frames p) && leb (device_words (frames p)) size) && is_number (next p) && types p && sound p && suits p && spaces p

-- ---- with the daemon log and the clients' logs replayed

-- the clients' logs change no word that lies before them
pub settled-below : (F : ℕ) (image : Image) (w : ℕ) → w < tables_end F → settled F image w ≡ settled_by DAEMON_LOG image w
unfolding settled
settled-below F image w below = settled_over-below F (settled_by DAEMON_LOG image) w below

-- so they play no part in soundness
is_registry-settled : (size : ℕ) (image : Image) → has_legal_log image ≡ true → is_registry size (settled (frames_of image) image) ≡ is_registry size (settled_by DAEMON_LOG image)
is_registry-settled size image legal =
    let frames = settled_by-unlogged image FRAMES_WORD legal (omega arith) in
    is_registry-same size (settled_by DAEMON_LOG image) (settled (frames_of image) image) (λ k beside below. settled-below (frames_of image) image k (omega (arith, frames)))

-- an image is sound exactly if it has a world
pub world_of-sound : (size : ℕ) (image : Image) → is_sound size image ≡ true → world_of size image ≡ Some (stored_by (settled (frames_of image) image))
unfolding is_sound world_of registry_world
world_of-sound size image e =
    let parts = and_parts (has_legal_log image) (is_registry size (settled_by DAEMON_LOG image)) e in
    cond-true _ _ _ parts.0 ∙ cond-true _ _ _ (is_registry-settled size image parts.0 ∙ parts.1)

pub world_of-unsound : (size : ℕ) (image : Image) → is_sound size image ≡ false → world_of size image ≡ None
unfolding is_sound world_of registry_world
world_of-unsound size image e = elim (cases_Bool (has_legal_log image)) [
  | inl legal ↦ cond-true _ _ _ legal
      ∙ cond-false _ _ _ (is_registry-settled size image legal ∙ sym (ap (λ (b : Bool). b && is_registry size (settled_by DAEMON_LOG image)) legal) ∙ e)
  | inr illegal ↦ cond-false _ _ _ illegal
]

pub sound_of_world : (size : ℕ) (image : Image) (s : StoredWorld) → world_of size image ≡ Some s → is_sound size image ≡ true
sound_of_world size image s world = elim (cases_Bool (is_sound size image)) [
  | inl sound ↦ sound
  | inr unsound ↦ absurd (let it : None ≡ Some s = sym (world_of-unsound size image unsound) ∙ world in cc)
]

pub unsound_of_none : (size : ℕ) (image : Image) → world_of size image ≡ None → is_sound size image ≡ false
unsound_of_none size image none = elim (cases_Bool (is_sound size image)) [
  | inl sound ↦ absurd (let it : None ≡ Some (stored_by (settled (frames_of image) image)) = sym none ∙ world_of-sound size image sound in cc)
  | inr unsound ↦ unsound
]

-- its daemon log is legal
pub legal_log_of_world : (size : ℕ) (image : Image) (s : StoredWorld) → world_of size image ≡ Some s → has_legal_log image ≡ true
unfolding is_sound
legal_log_of_world size image s world = (and_parts (has_legal_log image) (is_registry size (settled_by DAEMON_LOG image)) (sound_of_world size image s world)).0

-- if its daemon log is legal, an image stands for what the settled image stands for
pub world_of_legal : (size : ℕ) (image : Image) → has_legal_log image ≡ true → world_of size image ≡ registry_world size (settled (frames_of image) image)
unfolding world_of
world_of_legal size image legal = cond-true _ _ _ legal

-- the settled image stores the world
pub holding_of_world : (size : ℕ) (image : Image) (s : StoredWorld) → world_of size image ≡ Some s → HoldsWorld size (settled (frames_of image) image) s
holding_of_world size image s world =
    holding_of_registry size (settled (frames_of image) image) s (sym (world_of_legal size image (legal_log_of_world size image s world)) ∙ world)

pub world_of_holding : (size : ℕ) (image : Image) (s : StoredWorld) → has_legal_log image ≡ true → HoldsWorld size (settled (frames_of image) image) s → world_of size image ≡ Some s
world_of_holding size image s legal h = world_of_legal size image legal ∙ registry_world_holding size (settled (frames_of image) image) s h

-- no replay changes the number of frames
pub frames_of_world : (size : ℕ) (image : Image) (s : StoredWorld) → world_of size image ≡ Some s → image FRAMES_WORD ≡ s.frames
frames_of_world size image s world =
    sym (settled_by-unlogged image FRAMES_WORD (legal_log_of_world size image s world) (omega arith))
    ∙ sym (settled-below (frames_of image) image FRAMES_WORD (omega arith))
    ∙ (holding_of_world size image s world).header.frames

-- images with legal daemon logs that are the same after the replay stand for the same world
pub world_of-settled : (size : ℕ) (i j : Image) → has_legal_log i ≡ true → has_legal_log j ≡ true → settled_by DAEMON_LOG j ≡ settled_by DAEMON_LOG i → world_of size j ≡ world_of size i
unfolding settled
world_of-settled size i j legal_i legal_j same =
    let frames : frames_of j ≡ frames_of i =
    sym (settled_by-unlogged j FRAMES_WORD legal_j (omega arith)) ∙ ap (λ (x : Image). x FRAMES_WORD) same ∙ settled_by-unlogged i FRAMES_WORD legal_i (omega arith) in
    let whole : settled (frames_of j) j ≡ settled (frames_of i) i = ap₂ settled_over frames same in
    world_of_legal size j legal_j ∙ ap (registry_world size) whole ∙ sym (world_of_legal size i legal_i)

-- an image that stands for no world has none
pub no_world : (size : ℕ) (image : Image) → ((s : StoredWorld) → world_of size image ≡ Some s → ⊥) → world_of size image ≡ None
no_world size image h = none_from (world_of size image) h

-- an image without the device magic stands for no world
pub world_of-no_magic : (size : ℕ) (image : Image) → (image MAGIC_WORD ≡ DEVICE_MAGIC → ⊥) → world_of size image ≡ None
world_of-no_magic size image h = no_world size image (λ s world. h
    (sym (settled_by-unlogged image MAGIC_WORD (legal_log_of_world size image s world) (omega arith))
    ∙ sym (settled-below (frames_of image) image MAGIC_WORD (omega arith))
    ∙ (holding_of_world size image s world).header.magic))
