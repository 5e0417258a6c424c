-- What the two writes of a type's definition do to the world that an image stands for.
use Rattle.std.proofs.Common.{◌≡◌, inl, inr, cond, false, eq-eqb, ℕ, ◌+◌, ◌<◌, ◌≤◌, true, nat_cmp, List, Some, None, sym, ap, ◌∙◌, arith, leb-true}
use Rattle.std.proofs.lemmas.Bool.{and_parts, cond-true, cond-false, cases_eq}
use Rattle.pud_defs.specs.declared.layout.TheConstants.{TYPE_RECORDS, DAEMON_LOG}
use Rattle.pud_defs.specs.Formats.Image.{Image, image_with}
use Rattle.pud_defs.specs.Formats.TypeMap.{is_legal_map, is_legal_type_id}
use Rattle.pud_defs.specs.RegistryTables.Types.{type_record_at, type_at, map_of, with_type}
use Rattle.pud_defs.specs.RegistryTables.Tables.{Pool}
use Rattle.pud_defs.specs.StateMachine.World.{StoredWorld, pools_in, idle_registry, idle_world_of}
use Rattle.pud_defs.specs.StateMachine.PoolChanges.{reread_pools, with_type_defined}
use Rattle.pud_defs.specs.Logging.Entries.{is_idle_gate}
use Rattle.pud_defs.specs.Logging.Replay.{is_in_log, beside_log}
use Rattle.pud_defs.proofs.Logging.Replay.{beside_log-outside, outside_log}
use Rattle.pud_defs.proofs.Formats.Images.{written_there, written_other}
use Rattle.pud_defs.proofs.KeyedTables.Keyed.{keyed-same}
use Rattle.pud_defs.proofs.RegistryTables.TypeTable.{type_at-map_written, are_legal_types-fewer, types_of-written, are_legal_types-written}
use Rattle.pud_defs.proofs.StateMachine.Parts.{StandsFor, HasTypes, standing_with_types}
use Rattle.pud_defs.proofs.StateMachine.Parts.Part.{Types, Pools}
use Rattle.pud_defs.proofs.PoolGraphs.Holdings.{pools_in-more}
use Rattle.pud_defs.proofs.StateMachine.IdleWorlds.{idle_registry_standing, standing_idle, idle_world_of-beside, map_of_world}

-- a write to a word of the type table changes nothing else that is read
type_written : (size : ℕ) (image : Image) (s : StoredWorld) (ts : List (ℕ × ℕ)) (ps : List (List ℕ × Pool)) (w v : ℕ) → type_record_at 0 ≤ w → w < type_record_at TYPE_RECORDS → StandsFor size image s
    → HasTypes ts (image_with w v image) → pools_in ts s.frames image ≡ ps → StandsFor size (image_with w v image) (record s { types = ts; pools = ps })
type_written size image s ts ps w v low high h now read =
    standing_with_types size image (image_with w v image) s ts ps h (λ k not. written_other w v image k (λ e. not (omega arith) (omega arith))) now read

-- the map word of a free record is written: the image still stands for the same world
pub standing-map_written : (size : ℕ) (image : Image) (s : StoredWorld) (r v : ℕ) → StandsFor size image s → r < TYPE_RECORDS → image (type_record_at r) ≡ 0 → StandsFor size (image_with (type_record_at r + 1) v image) s
standing-map_written size image s r v h within free =
    let now = image_with (type_record_at r + 1) v image in
    let same : (n : ℕ) → type_at now n ≡ type_at image n = λ n. type_at-map_written image r v n free in
    let types = h.holds Types in
    type_written size image s s.types s.pools (type_record_at r + 1) v (omega arith) (omega arith) h (record {
      types = keyed-same nat_cmp (type_at now) (type_at image) 0 TYPE_RECORDS (λ n low high. same n) ∙ types.types;
      legal = are_legal_types-fewer (type_at image) (type_at now) (λ n below. inl (same n)) types.legal;
    }) (h.holds Pools).pools

-- the id word of a free record is written after its map word: the type is defined
pub standing-id_written : (size : ℕ) (image : Image) (s : StoredWorld) (r id map : ℕ) → StandsFor size image s → r < TYPE_RECORDS → image (type_record_at r) ≡ 0 → image (type_record_at r + 1) ≡ map
    → is_legal_type_id id ≡ true → is_legal_map map ≡ true → map_of id s.types ≡ None
    → StandsFor size (image_with (type_record_at r) id image) (with_type_defined id map s)
unfolding with_type_defined
standing-id_written size image s r id map h within free there legal_id legal_map none =
    let above : 0 < id = leb-true 1 id ((and_parts _ _ legal_id).0) in
    let missing = map_of_world size image s id h ∙ none in
    let types = h.holds Types in
    type_written size image s (with_type id map s.types) (reread_pools (with_type id map s.types) s.pools) (type_record_at r) id (omega arith) (omega arith) h (record {
      types = types_of-written image r id map within above free there missing ∙ ap (with_type id map) types.types;
      legal = are_legal_types-written image r id map within above free there missing legal_id legal_map types.legal;
    }) (pools_in-more id map s.types s.frames image none ∙ ap (reread_pools (with_type id map s.types)) (h.holds Pools).pools)

-- ---- the same two writes, in an image whose daemon log is closed and counts no word

-- a write to a word of the type table does not touch the daemon log
beside_written : (image : Image) (w v : ℕ) → type_record_at 0 ≤ w → beside_log DAEMON_LOG (image_with w v image) ≡ image_with w v (beside_log DAEMON_LOG image)
beside_written image w v low =
    let each : (k : ℕ) → beside_log DAEMON_LOG (image_with w v image) k ≡ image_with w v (beside_log DAEMON_LOG image) k = λ k. elim (cases_eq k w) [
      | inl here ↦
          let outside : is_in_log DAEMON_LOG k ≡ false = outside_log DAEMON_LOG k (inr (omega arith)) in
          cond-false _ _ _ outside ∙ cond-true _ _ _ (eq-eqb k w here) ∙ sym (cond-true _ _ _ (eq-eqb k w here))
      | inr other ↦ ap (λ (x : ℕ). cond (is_in_log DAEMON_LOG k) 0 x) (written_other w v image k other) ∙ sym (written_other w v (beside_log DAEMON_LOG image) k other)
    ] in
    λ p k. each k p

-- the type table reads the same if that log is set to 0
beside_read : (image : Image) (k : ℕ) → type_record_at 0 ≤ k → beside_log DAEMON_LOG image k ≡ image k
beside_read image k low = beside_log-outside DAEMON_LOG image k (outside_log DAEMON_LOG k (inr (omega arith)))

gate_written : (image : Image) (w v : ℕ) → type_record_at 0 ≤ w → is_idle_gate (image DAEMON_LOG) ≡ true → is_idle_gate (image_with w v image DAEMON_LOG) ≡ true
gate_written image w v low closed = ap is_idle_gate (written_other w v image DAEMON_LOG (λ e. absurd (omega arith))) ∙ closed

pub idle_world_of-map_written : (size : ℕ) (image : Image) (s : StoredWorld) (r v : ℕ) → is_idle_gate (image DAEMON_LOG) ≡ true → idle_world_of size image ≡ Some s → r < TYPE_RECORDS → image (type_record_at r) ≡ 0
    → idle_world_of size (image_with (type_record_at r + 1) v image) ≡ Some s
idle_world_of-map_written size image s r v closed h within free =
    let low : type_record_at 0 ≤ type_record_at r + 1 = omega arith in
    idle_world_of-beside size (image_with (type_record_at r + 1) v image) (gate_written image (type_record_at r + 1) v low closed)
    ∙ ap (idle_registry size) (beside_written image (type_record_at r + 1) v low)
    ∙ idle_registry_standing size _ s
    (standing-map_written size (beside_log DAEMON_LOG image) s r v (standing_idle size image s closed h) within (beside_read image (type_record_at r) (omega arith) ∙ free))

pub idle_world_of-id_written : (size : ℕ) (image : Image) (s : StoredWorld) (r id map : ℕ) → is_idle_gate (image DAEMON_LOG) ≡ true → idle_world_of size image ≡ Some s → r < TYPE_RECORDS → image (type_record_at r) ≡ 0
    → image (type_record_at r + 1) ≡ map → is_legal_type_id id ≡ true → is_legal_map map ≡ true → map_of id s.types ≡ None
    → idle_world_of size (image_with (type_record_at r) id image) ≡ Some (with_type_defined id map s)
idle_world_of-id_written size image s r id map closed h within free there legal_id legal_map none =
    let low : type_record_at 0 ≤ type_record_at r = omega arith in
    idle_world_of-beside size (image_with (type_record_at r) id image) (gate_written image (type_record_at r) id low closed)
    ∙ ap (idle_registry size) (beside_written image (type_record_at r) id low)
    ∙ idle_registry_standing size _ _
    (standing-id_written size (beside_log DAEMON_LOG image) s r id map (standing_idle size image s closed h) within
    (beside_read image (type_record_at r) low ∙ free) (beside_read image (type_record_at r + 1) (omega arith) ∙ there) legal_id legal_map none)

-- both writes define the type
pub idle_world_of-defined : (size : ℕ) (image : Image) (s : StoredWorld) (r id map : ℕ) → is_idle_gate (image DAEMON_LOG) ≡ true → idle_world_of size image ≡ Some s → r < TYPE_RECORDS → image (type_record_at r) ≡ 0
    → is_legal_type_id id ≡ true → is_legal_map map ≡ true → map_of id s.types ≡ None
    → idle_world_of size (image_with (type_record_at r) id (image_with (type_record_at r + 1) map image)) ≡ Some (with_type_defined id map s)
idle_world_of-defined size image s r id map closed h within free legal_id legal_map none =
    let placed = image_with (type_record_at r + 1) map image in
    idle_world_of-id_written size placed s r id map (gate_written image (type_record_at r + 1) map (omega arith) closed) (idle_world_of-map_written size image s r map closed h within free) within
    (written_other (type_record_at r + 1) map image (type_record_at r) (λ e. absurd (omega arith)) ∙ free)
    (written_there (type_record_at r + 1) map image)
    legal_id legal_map none
