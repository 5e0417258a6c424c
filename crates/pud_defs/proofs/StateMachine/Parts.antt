-- What an image with nothing to replay stores of a world, part by part, and from which words each part is read.
use Rattle.std.proofs.Common.{◌≡◌, ◌⊎◌, inl, inr, ⊎_elim, ℕ, ◌<◌, ◌≤◌, ◌+◌, true, List, None, is_some, nat_cmp, sym, ap, ap₂, ◌∙◌, arith, zero-le, true≢false, eq-eqb}
use Rattle.std.proofs.lemmas.Bool.{cases_lt, or_left}
use Rattle.pud_defs.specs.declared.layout.TheConstants.{DEVICE_MAGIC, VERSION, MIN_FRAMES, MAX_FRAMES, NUMBER_LIMIT, MAGIC_WORD, VERSION_WORD, MACHINE_WORD, FRAMES_WORD, NEXT_NUMBER_WORD, DAEMON_LOG, TYPE_TABLE, POOL_TABLE, SPACE_TABLE, PUDDLE_TABLE, TYPE_RECORDS}
use Rattle.pud_defs.specs.Formats.Layout.{IsWithin, tables_end, frames_at, device_words}
use Rattle.pud_defs.specs.Formats.Image.{Image}
use Rattle.pud_defs.specs.RegistryTables.Types.{type_record_at, type_at, types_of, are_legal_types}
use Rattle.pud_defs.specs.RegistryTables.Spaces.{are_legal_spaces, are_closed_logs}
use Rattle.pud_defs.specs.RegistryTables.Tables.{Pool, tables_of}
use Rattle.pud_defs.specs.RegistryTables.Registry.{is_version, suits_version}
use Rattle.pud_defs.specs.RegistryTables.SoundTables.{are_sound_tables}
use Rattle.pud_defs.specs.StateMachine.World.{StoredWorld, pools_in}
use Rattle.pud_defs.proofs.RegistryTables.Spaces.{are_legal_spaces-same, are_closed_logs-same}
use Rattle.pud_defs.proofs.KeyedTables.Keyed.{keyed-same}
use Rattle.pud_defs.proofs.RegistryTables.TypeTable.{type_at-same, are_legal_types-fewer}
use Rattle.pud_defs.proofs.RegistryTables.TablesOf.{tables_of-same}
use Rattle.pud_defs.proofs.PoolGraphs.Holdings.{HasSameFrame, pools_in-same, frame_among}

-- the parts: the words that describe the device; the types; the pools, with their puddles; the log spaces, with the
-- clients' logs
pub data Part : Type 0 where
  Header : Part
  Types : Part
  Pools : Part
  Spaces : Part

-- the words from which a part is read, on a device of this many frames
abbrev pub IsReadBy : ℕ → Part → ℕ → Type 0
IsReadBy F Header k = IsWithin 0 DAEMON_LOG k
IsReadBy F Types k = IsWithin TYPE_TABLE POOL_TABLE k
IsReadBy F Pools k = IsWithin POOL_TABLE SPACE_TABLE k ⊎ (IsWithin PUDDLE_TABLE (tables_end F) k ⊎ IsWithin (frames_at F) (device_words F) k)
IsReadBy F Spaces k = IsWithin SPACE_TABLE PUDDLE_TABLE k ⊎ IsWithin (tables_end F) (frames_at F) k

pub record HasHeader (size F id number : ℕ) (image : Image) : Type 0 where
  pub magic : image MAGIC_WORD ≡ DEVICE_MAGIC
  pub version : image VERSION_WORD ≡ VERSION
  pub machine : image MACHINE_WORD ≡ id
  pub frames : image FRAMES_WORD ≡ F
  pub next_number : image NEXT_NUMBER_WORD ≡ number
  pub enough_frames : MIN_FRAMES ≤ F
  pub no_more_frames : F ≤ MAX_FRAMES
  pub room : device_words F ≤ size
  pub number_low : 1 ≤ number
  pub number_high : number ≤ NUMBER_LIMIT

pub record HasTypes (ts : List (ℕ × ℕ)) (image : Image) : Type 0 where
  pub types : types_of image ≡ ts
  pub legal : are_legal_types (type_at image) ≡ true

pub record HasSpaces (F : ℕ) (image : Image) : Type 0 where
  pub spaces : are_legal_spaces image ≡ true
  pub logs : are_closed_logs image F ≡ true

pub record HasPools (types : List (ℕ × ℕ)) (F number : ℕ) (ps : List (List ℕ × Pool)) (image : Image) : Type 0 where
  pub pools : pools_in types F image ≡ ps
  pub sound : are_sound_tables number (tables_of F image) ≡ true

-- the image stores this part of a world, on a device of this many words
abbrev pub Holds : Part → ℕ → StoredWorld → Image → Type 0
Holds Header size s image = HasHeader size s.frames s.machine s.next_number image
Holds Types size s image = HasTypes s.types image
Holds Pools size s image = HasPools s.types s.frames s.next_number s.pools image
Holds Spaces size s image = HasSpaces s.frames image

-- images with the same words of a part store the same part
pub Holds-same : (p : Part) (size : ℕ) (s : StoredWorld) (i j : Image) → ((k : ℕ) → IsReadBy s.frames p k → j k ≡ i k) → Holds p size s i → Holds p size s j
Holds-same Header size s i j same h =
    let at : (k : ℕ) → k < DAEMON_LOG → j k ≡ i k = λ k below. same k (record { low = zero-le; high = below }) in
    record {
      magic = at MAGIC_WORD (omega arith) ∙ h.magic;
      version = at VERSION_WORD (omega arith) ∙ h.version;
      machine = at MACHINE_WORD (omega arith) ∙ h.machine;
      frames = at FRAMES_WORD (omega arith) ∙ h.frames;
      next_number = at NEXT_NUMBER_WORD (omega arith) ∙ h.next_number;
      enough_frames = h.enough_frames;
      no_more_frames = h.no_more_frames;
      room = h.room;
      number_low = h.number_low;
      number_high = h.number_high;
    }
Holds-same Types size s i j same h =
    let each : (n : ℕ) → n < TYPE_RECORDS → type_at j n ≡ type_at i n = λ n below.
    type_at-same i j n (same (type_record_at n) (record { low = omega arith; high = omega arith })) (same (type_record_at n + 1) (record { low = omega arith; high = omega arith })) in
    record {
      types = keyed-same nat_cmp (type_at j) (type_at i) 0 TYPE_RECORDS (λ n low high. each n (omega arith)) ∙ h.types;
      legal = are_legal_types-fewer (type_at i) (type_at j) (λ n below. inl (each n below)) h.legal;
    }
Holds-same Pools size s i j same h =
    let tables : tables_of s.frames j ≡ tables_of s.frames i =
    tables_of-same s.frames j i (λ k low high. same k (inl (record { low = low; high = high }))) (λ k low high. same k (inr (inl (record { low = low; high = high })))) in
    let frames : (k : ℕ) → frames_at s.frames ≤ k → k < device_words s.frames → j k ≡ i k = λ k low high. same k (inr (inr (record { low = low; high = high }))) in
    record { pools = pools_in-same s.types s.frames i j tables (λ frame below used. frame_among s.frames frame i j below frames) ∙ h.pools; sound = ap (are_sound_tables s.next_number) tables ∙ h.sound }
Holds-same Spaces size s i j same h = record {
  spaces = are_legal_spaces-same j i (λ k low high. same k (inl (record { low = low; high = high }))) ∙ h.spaces;
  logs = are_closed_logs-same j i s.frames (λ k low high. same k (inl (record { low = low; high = high }))) (λ k low high. same k (inr (record { low = low; high = high }))) ∙ h.logs;
}

-- each part is read from words of the device outside the daemon log
pub record IsOfParts (F k : ℕ) : Type 0 where
  pub beside : (k < DAEMON_LOG) ⊎ (TYPE_TABLE ≤ k)
  pub before : k < device_words F

pub part_place : (F : ℕ) (p : Part) (k : ℕ) → IsReadBy F p k → IsOfParts F k
part_place F Header k of = let high = of.high in record { beside = inl high; before = omega arith }
part_place F Types k of = let low = of.low in let high = of.high in record { beside = inr low; before = omega arith }
part_place F Pools k (inl of) = let low = of.low in let high = of.high in record { beside = inr (omega arith); before = omega arith }
part_place F Pools k (inr (inl of)) = let low = of.low in let high = of.high in record { beside = inr (omega arith); before = omega arith }
part_place F Pools k (inr (inr of)) = let low = of.low in let high = of.high in record { beside = inr (omega arith); before = high }
part_place F Spaces k (inl of) = let low = of.low in let high = of.high in record { beside = inr (omega arith); before = omega arith }
part_place F Spaces k (inr of) = let low = of.low in let high = of.high in record { beside = inr (omega arith); before = omega arith }

-- An image with nothing to replay stands for this world, on a device of this many words.
pub record StandsFor (size : ℕ) (image : Image) (s : StoredWorld) : Type 0 where
  pub holds : (p : Part) → Holds p size s image

-- ---- the same, whatever the clients' logs store

-- the words that describe a device of either version
pub record IsDescribed (size F id number : ℕ) (image : Image) : Type 0 where
  pub magic : image MAGIC_WORD ≡ DEVICE_MAGIC
  pub version : is_version (image VERSION_WORD) ≡ true
  pub machine : image MACHINE_WORD ≡ id
  pub frames : image FRAMES_WORD ≡ F
  pub next_number : image NEXT_NUMBER_WORD ≡ number
  pub enough_frames : MIN_FRAMES ≤ F
  pub no_more_frames : F ≤ MAX_FRAMES
  pub room : device_words F ≤ size
  pub number_low : 1 ≤ number
  pub number_high : number ≤ NUMBER_LIMIT

-- an image with the same words except the version's, if its version is one of the two too
pub described_by : (size F id number : ℕ) (i j : Image) → IsDescribed size F id number i → is_version (j VERSION_WORD) ≡ true
    → ((k : ℕ) → k < DAEMON_LOG → (k ≡ VERSION_WORD → ⊥) → j k ≡ i k) → IsDescribed size F id number j
described_by size F id number i j h version same = record {
  magic = same MAGIC_WORD (omega arith) (λ e. absurd (omega arith)) ∙ h.magic;
  version = version;
  machine = same MACHINE_WORD (omega arith) (λ e. absurd (omega arith)) ∙ h.machine;
  frames = same FRAMES_WORD (omega arith) (λ e. absurd (omega arith)) ∙ h.frames;
  next_number = same NEXT_NUMBER_WORD (omega arith) (λ e. absurd (omega arith)) ∙ h.next_number;
  enough_frames = h.enough_frames;
  no_more_frames = h.no_more_frames;
  room = h.room;
  number_low = h.number_low;
  number_high = h.number_high;
}

-- an image with the same words
pub described_same : (size F id number : ℕ) (i j : Image) → IsDescribed size F id number i → ((k : ℕ) → k < DAEMON_LOG → j k ≡ i k) → IsDescribed size F id number j
described_same size F id number i j h same = described_by size F id number i j h (ap is_version (same VERSION_WORD (omega arith)) ∙ h.version) (λ k below apart. same k below)

-- a device of the present version
pub described_current : (size F id number : ℕ) (image : Image) → HasHeader size F id number image → IsDescribed size F id number image
described_current size F id number image h = record {
  magic = h.magic;
  version = or_left _ _ (eq-eqb _ _ h.version);
  machine = h.machine;
  frames = h.frames;
  next_number = h.next_number;
  enough_frames = h.enough_frames;
  no_more_frames = h.no_more_frames;
  room = h.room;
  number_low = h.number_low;
  number_high = h.number_high;
}

current_described : (size F id number : ℕ) (image : Image) → IsDescribed size F id number image → image VERSION_WORD ≡ VERSION → HasHeader size F id number image
current_described size F id number image h current = record {
  magic = h.magic;
  version = current;
  machine = h.machine;
  frames = h.frames;
  next_number = h.next_number;
  enough_frames = h.enough_frames;
  no_more_frames = h.no_more_frames;
  room = h.room;
  number_low = h.number_low;
  number_high = h.number_high;
}

-- an image with nothing to replay stores this world, on a device of this many words
pub record HoldsWorld (size : ℕ) (image : Image) (s : StoredWorld) : Type 0 where
  pub header : IsDescribed size s.frames s.machine s.next_number image
  pub suits : suits_version (image VERSION_WORD) (tables_of s.frames image) ≡ true
  pub types : HasTypes s.types image
  pub pools : HasPools s.types s.frames s.next_number s.pools image
  pub spaces : are_legal_spaces image ≡ true

pub holds_standing : (size : ℕ) (image : Image) (s : StoredWorld) → StandsFor size image s → HoldsWorld size image s
holds_standing size image s h = record {
  header = described_current size s.frames s.machine s.next_number image (h.holds Header);
  suits = or_left _ _ (eq-eqb _ _ (h.holds Header).version);
  types = h.holds Types;
  pools = h.holds Pools;
  spaces = (h.holds Spaces).spaces;
}

-- it stands for the world if its version is the present one and each registered log is closed too
pub standing_closed : (size : ℕ) (image : Image) (s : StoredWorld) → HoldsWorld size image s → image VERSION_WORD ≡ VERSION → are_closed_logs image s.frames ≡ true → StandsFor size image s
standing_closed size image s h current logs = record { holds = held }
  where
    held : (p : Part) → Holds p size s image
    held Header = current_described size s.frames s.machine s.next_number image h.header current
    held Types = h.types
    held Pools = h.pools
    held Spaces = record { spaces = h.spaces; logs = logs }

-- images that agree on all that is read outside the clients' logs
pub HoldsWorld-same : (size : ℕ) (i j : Image) (s : StoredWorld) → HoldsWorld size i s
    → ((k : ℕ) → (k < DAEMON_LOG) ⊎ (TYPE_TABLE ≤ k) → (k < tables_end s.frames) ⊎ (frames_at s.frames ≤ k) → k < device_words s.frames → j k ≡ i k) → HoldsWorld size j s
HoldsWorld-same size i j s h same = record {
  header = described_same size s.frames s.machine s.next_number i j h.header (λ k low. same k (inl low) (inl (omega arith)) (omega arith));
  suits = ap₂ suits_version (same VERSION_WORD (inl (omega arith)) (inl (omega arith)) (omega arith))
      (tables_of-same s.frames j i (λ k low high. same k (inr (omega arith)) (inl (omega arith)) (omega arith)) (λ k low high. same k (inr (omega arith)) (inl high) (omega arith))) ∙ h.suits;
  types = Holds-same Types size s i j (λ k of. let at = part_place s.frames Types k of in let high = of.high in same k at.beside (inl (omega arith)) at.before) h.types;
  pools = Holds-same Pools size s i j (λ k of. let at = part_place s.frames Pools k of in same k at.beside (apart k of) at.before) h.pools;
  spaces = are_legal_spaces-same j i (λ k low high. same k (inr (omega arith)) (inl (omega arith)) (omega arith)) ∙ h.spaces;
}
  where
    apart : (k : ℕ) → IsReadBy s.frames Pools k → (k < tables_end s.frames) ⊎ (frames_at s.frames ≤ k)
    apart k (inl of) = let high = of.high in inl (omega arith)
    apart k (inr (inl of)) = inl of.high
    apart k (inr (inr of)) = inr of.low

-- and images that also have other log spaces, if these are legal
pub HoldsWorld-spaces : (size : ℕ) (i j : Image) (s : StoredWorld) → HoldsWorld size i s
    → ((k : ℕ) → (k < DAEMON_LOG) ⊎ (TYPE_TABLE ≤ k) → (k < SPACE_TABLE) ⊎ (PUDDLE_TABLE ≤ k) → (k < tables_end s.frames) ⊎ (frames_at s.frames ≤ k) → k < device_words s.frames → j k ≡ i k)
    → are_legal_spaces j ≡ true → HoldsWorld size j s
HoldsWorld-spaces size i j s h same spaces = record {
  header = described_same size s.frames s.machine s.next_number i j h.header (λ k low. same k (inl low) (inl (omega arith)) (inl (omega arith)) (omega arith));
  suits = ap₂ suits_version (same VERSION_WORD (inl (omega arith)) (inl (omega arith)) (inl (omega arith)) (omega arith))
      (tables_of-same s.frames j i (λ k low high. same k (inr (omega arith)) (inl (omega arith)) (inl (omega arith)) (omega arith)) (λ k low high. same k (inr (omega arith)) (inr low) (inl high) (omega arith))) ∙ h.suits;
  types = Holds-same Types size s i j (λ k of. let at = part_place s.frames Types k of in let high = of.high in same k at.beside (inl (omega arith)) (inl (omega arith)) at.before) h.types;
  pools = Holds-same Pools size s i j (λ k of. let at = part_place s.frames Pools k of in same k at.beside (beside_spaces k of) (apart k of) at.before) h.pools;
  spaces = spaces;
}
  where
    beside_spaces : (k : ℕ) → IsReadBy s.frames Pools k → (k < SPACE_TABLE) ⊎ (PUDDLE_TABLE ≤ k)
    beside_spaces k (inl of) = inl of.high
    beside_spaces k (inr (inl of)) = inr of.low
    beside_spaces k (inr (inr of)) = let low = of.low in inr (omega arith)

    apart : (k : ℕ) → IsReadBy s.frames Pools k → (k < tables_end s.frames) ⊎ (frames_at s.frames ≤ k)
    apart k (inl of) = let high = of.high in inl (omega arith)
    apart k (inr (inl of)) = inl of.high
    apart k (inr (inr of)) = inr of.low

-- ---- images that agree

-- on all that is read
pub standing_same : (size : ℕ) (i j : Image) (s : StoredWorld) → StandsFor size i s → ((k : ℕ) → (k < DAEMON_LOG) ⊎ (TYPE_TABLE ≤ k) → k < device_words s.frames → j k ≡ i k) → StandsFor size j s
standing_same size i j s h same = record {
  holds = λ p. Holds-same p size s i j (λ k of. let at = part_place s.frames p k of in same k at.beside at.before) (h.holds p);
}

-- on all but the frame of no puddle
pub standing_filled : (size frame : ℕ) (i j : Image) (s : StoredWorld) → StandsFor size i s → (tables_of s.frames i).puddles frame ≡ None → ((k : ℕ) → (k < DAEMON_LOG) ⊎ (TYPE_TABLE ≤ k) → k < frames_at s.frames → j k ≡ i k)
    → ((other : ℕ) → other < s.frames → (other ≡ frame → ⊥) → HasSameFrame s.frames i j other) → StandsFor size j s
standing_filled size frame i j s h free same frames = record { holds = held }
  where
    read : (p : Part) (k : ℕ) → IsReadBy s.frames p k → k < frames_at s.frames → j k ≡ i k
    read p k of below = let at = part_place s.frames p k of in same k at.beside below

    held : (p : Part) → Holds p size s j
    held Header = Holds-same Header size s i j (λ k of. let high = of.high in read Header k of (omega arith)) (h.holds Header)
    held Types = Holds-same Types size s i j (λ k of. let high = of.high in read Types k of (omega arith)) (h.holds Types)
    held Spaces = Holds-same Spaces size s i j (λ k of. read Spaces k of (⊎_elim (λ table. let high = table.high in omega arith) (λ logs. logs.high) of)) (h.holds Spaces)
    held Pools =
        let tables : tables_of s.frames j ≡ tables_of s.frames i = tables_of-same s.frames j i
        (λ k low high. read Pools k (inl (record { low = low; high = high })) (omega arith)) (λ k low high. read Pools k (inr (inl (record { low = low; high = high }))) (omega arith)) in
        let was = h.holds Pools in
        record {
          pools = pools_in-same s.types s.frames i j tables (λ other below used. frames other below (λ here. true≢false (sym used ∙ ap (λ (n : ℕ). is_some ((tables_of s.frames i).puddles n)) here ∙ ap is_some free))) ∙ was.pools;
          sound = ap (are_sound_tables s.next_number) tables ∙ was.sound;
        }

-- on all but the type table, which has these types, by which the pools are read
module _ (size : ℕ) (i j : Image) (s : StoredWorld) (ts : List (ℕ × ℕ)) (ps : List (List ℕ × Pool)) (h : StandsFor size i s) (same : (k : ℕ) → (TYPE_TABLE ≤ k → k < POOL_TABLE → ⊥) → j k ≡ i k)
    (now : HasTypes ts j) (read : pools_in ts s.frames i ≡ ps) where
  elsewhere : (k : ℕ) → IsReadBy s.frames Pools k → j k ≡ i k
  elsewhere k (inl pools) = let from = pools.low in same k (λ low high. omega arith)
  elsewhere k (inr (inl puddles)) = let from = puddles.low in same k (λ low high. omega arith)
  elsewhere k (inr (inr frames)) = let from = frames.low in same k (λ low high. omega arith)

  with_types : (p : Part) → Holds p size (record s { types = ts; pools = ps }) j
  with_types Types = now
  with_types Spaces =
      Holds-same Spaces size s i j
      (λ k of. same k (λ low high. ⊎_elim (λ table. let from = table.low in omega arith) (λ logs. let from = logs.low in omega arith) of))
      (h.holds Spaces)
  with_types Pools = Holds-same Pools size (record s { types = ts; pools = ps }) i j elsewhere (record { pools = read; sound = (h.holds Pools).sound })
  with_types Header = Holds-same Header size s i j (λ k of. same k (λ low high. let from = of.low in let to = of.high in omega arith)) (h.holds Header)

  pub standing_with_types : StandsFor size j (record s { types = ts; pools = ps })
  standing_with_types = record { holds = with_types }

-- on all but the next number, the tables of pools and puddles, and the frames: these store other pools, and this number
-- is the next
module _ (size : ℕ) (i j : Image) (s : StoredWorld) (number : ℕ) (ps : List (List ℕ × Pool)) (h : StandsFor size i s)
    (same : (k : ℕ) → k < frames_at s.frames → (k ≡ NEXT_NUMBER_WORD → ⊥) → (POOL_TABLE ≤ k → k < SPACE_TABLE → ⊥) → (PUDDLE_TABLE ≤ k → k < tables_end s.frames → ⊥) → j k ≡ i k)
    (next : j NEXT_NUMBER_WORD ≡ number) (low : 1 ≤ number) (high : number ≤ NUMBER_LIMIT) (now : HasPools s.types s.frames number ps j) where
  with_pools : (p : Part) → Holds p size (record s { next_number = number; pools = ps }) j
  with_pools Pools = now
  with_pools Header =
      let was = h.holds Header in
      let at : (k : ℕ) → k < NEXT_NUMBER_WORD → j k ≡ i k = λ k below. same k (omega arith) (λ e. omega arith) (λ l r. omega arith) (λ l r. omega arith) in
      record {
        magic = at MAGIC_WORD (omega arith) ∙ was.magic;
        version = at VERSION_WORD (omega arith) ∙ was.version;
        machine = at MACHINE_WORD (omega arith) ∙ was.machine;
        frames = at FRAMES_WORD (omega arith) ∙ was.frames;
        next_number = next;
        enough_frames = was.enough_frames;
        no_more_frames = was.no_more_frames;
        room = was.room;
        number_low = low;
        number_high = high;
      }
  with_pools Types =
      Holds-same Types size s i j
      (λ k of. let from = of.low in let to = of.high in same k (omega arith) (λ e. omega arith) (λ l r. omega arith) (λ l r. omega arith)) (h.holds Types)
  with_pools Spaces =
      Holds-same Spaces size s i j
      (λ k of. ⊎_elim
      (λ table. let from = table.low in let to = table.high in same k (omega arith) (λ e. omega arith) (λ l r. omega arith) (λ l r. omega arith))
      (λ logs. let from = logs.low in let to = logs.high in same k to (λ e. omega arith) (λ l r. omega arith) (λ l r. omega arith)) of)
      (h.holds Spaces)

  pub standing_with_pools : StandsFor size j (record s { next_number = number; pools = ps })
  standing_with_pools = record { holds = with_pools }

-- on all but the log-space table and the clients' logs, which store these spaces
module _ (size : ℕ) (i j : Image) (s : StoredWorld) (h : StandsFor size i s) (same : (k : ℕ) → k < tables_end s.frames → (SPACE_TABLE ≤ k → k < PUDDLE_TABLE → ⊥) → j k ≡ i k)
    (frames : (k : ℕ) → frames_at s.frames ≤ k → k < device_words s.frames → j k ≡ i k) (now : HasSpaces s.frames j) where
  elsewhere_read : (k : ℕ) → IsReadBy s.frames Pools k → j k ≡ i k
  elsewhere_read k (inl pools) = let from = pools.low in let to = pools.high in same k (omega arith) (λ low high. omega arith)
  elsewhere_read k (inr (inl puddles)) = let from = puddles.low in let to = puddles.high in same k to (λ low high. omega arith)
  elsewhere_read k (inr (inr of)) = frames k of.low of.high

  with_spaces : (p : Part) → Holds p size s j
  with_spaces Spaces = now
  with_spaces Pools = Holds-same Pools size s i j elsewhere_read (h.holds Pools)
  with_spaces p =
      Holds-same p size s i j
      (λ k of. let from = of.low in let to = of.high in same k (omega arith) (λ low high. omega arith))
      (h.holds p)

  pub standing_with_spaces : StandsFor size j s
  standing_with_spaces = record { holds = with_spaces }

pub standing_spaces : (size : ℕ) (i j : Image) (s : StoredWorld) → StandsFor size i s → ((k : ℕ) → k < SPACE_TABLE → j k ≡ i k) → ((k : ℕ) → PUDDLE_TABLE ≤ k → k < device_words s.frames → j k ≡ i k)
    → are_legal_spaces j ≡ true → are_closed_logs j s.frames ≡ true → StandsFor size j s
standing_spaces size i j s h below following spaces logs =
    standing_with_spaces size i j s h (λ k before not. elim (cases_lt k SPACE_TABLE) [
      | inl low ↦ below k low
      | inr from ↦ elim (cases_lt k PUDDLE_TABLE) [ inl to ↦ absurd (not from to) | inr high ↦ following k high (omega arith) ]
    ]) (λ k low high. following k (omega arith) high) (record { spaces = spaces; logs = logs })
