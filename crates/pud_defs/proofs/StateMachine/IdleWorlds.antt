-- What follows if an image stands for a world in which each registered log is closed: first for an image with nothing
-- to replay, and then for one with a daemon log.
use Rattle.std.proofs.Common.{◌≡◌, ◌⊎◌, ◌+◌, inl, inr, ℕ, ◌<◌, ◌≤◌, true, T, length, Some, None, nat_cmp, sym, ap, ◌∙◌, ◌&&◌, arith, subst, eq-eqb, eqb-true}
use Rattle.std.specs.FinMap.Entries.{is_sorted}
use Rattle.std.proofs.lemmas.Bool.{and_parts, and_from, cond-true, cond-false, cases_Bool}
use Rattle.std.proofs.lemmas.Cmp.{nat_cmp_total}
use Rattle.std.proofs.lemmas.Option.{cond_some}
use Rattle.pud_defs.specs.declared.layout.TheConstants.{FRAMES_WORD, DAEMON_LOG, LOG_WORDS, TYPE_TABLE, TYPE_RECORDS}
use Rattle.pud_defs.specs.Formats.Layout.{tables_end, frames_at, device_words}
use Rattle.pud_defs.specs.Formats.Image.{Image, IsSameBelow}
use Rattle.pud_defs.specs.RegistryTables.Types.{type_at, types_of, free_type, used_types, map_of}
use Rattle.pud_defs.specs.RegistryTables.Registry.{frames_of, is_current, has_all_logs_closed, is_registry, is_idle_registry, has_legal_log, are_loggable}
use Rattle.pud_defs.specs.StateMachine.World.{StoredWorld, stored_by, idle_registry, idle_world_of}
use Rattle.pud_defs.specs.StateMachine.PoolChanges.{reread_pools}
use Rattle.pud_defs.proofs.PoolGraphs.Holdings.{pools_in-again}
use Rattle.pud_defs.specs.Logging.Entries.{is_idle_gate, log_of}
use Rattle.pud_defs.specs.Logging.Replay.{settled_by, beside_log}
use Rattle.pud_defs.specs.RegistryTables.Spaces.{are_closed_logs}
use Rattle.pud_defs.proofs.Logging.Replay.{entries_of-idle, settled_by-beside, beside_log-outside, outside_log}
use Rattle.pud_defs.proofs.RegistryTables.Spaces.{are_legal_spaces-same}
use Rattle.pud_defs.proofs.RegistryTables.TypeTable.{length-types_of}
use Rattle.pud_defs.proofs.Logging.Logged.{settled_by-unlogged}
use Rattle.pud_defs.proofs.KeyedTables.Keyed.{is_sorted-keyed, first_free_some, count_used_most, count_used_full, count_used_room}
use Rattle.pud_defs.proofs.StateMachine.Parts.{StandsFor, holds_standing, standing_closed, standing_same, standing_with_spaces}
use Rattle.pud_defs.proofs.StateMachine.Parts.Part.{Header, Types, Pools, Spaces}
use Rattle.pud_defs.proofs.StateMachine.Worlds.{holds_sound, holds_stored, holding_by}

sound_from : (size : ℕ) (image : Image) (s : StoredWorld) → StandsFor size image s → is_idle_registry size image ≡ true
unfolding is_idle_registry
sound_from size image s h =
    and_from (is_registry size image) (is_current image && has_all_logs_closed image) (holds_sound size image s (holds_standing size image s h))
    (and_from (is_current image) (has_all_logs_closed image) (eq-eqb _ _ (h.holds Header).version) (ap (are_closed_logs image) (h.holds Header).frames ∙ (h.holds Spaces).logs))

pub idle_registry_standing : (size : ℕ) (image : Image) (s : StoredWorld) → StandsFor size image s → idle_registry size image ≡ Some s
unfolding idle_registry
idle_registry_standing size image s h =
    cond-true (is_idle_registry size image) (Some (stored_by image)) None (sound_from size image s h) ∙ ap Some (holds_stored size image s (holds_standing size image s h))

standing_by : (size : ℕ) (image : Image) → is_idle_registry size image ≡ true → StandsFor size image (stored_by image)
unfolding is_idle_registry stored_by
standing_by size image sound =
    let parts = and_parts (is_registry size image) (is_current image && has_all_logs_closed image) sound in
    let rest = and_parts (is_current image) (has_all_logs_closed image) parts.1 in
    standing_closed size image (stored_by image) (holding_by size image parts.0) (eqb-true _ _ rest.0) rest.1

pub standing_of_idle_registry : (size : ℕ) (image : Image) (s : StoredWorld) → idle_registry size image ≡ Some s → StandsFor size image s
unfolding idle_registry
standing_of_idle_registry size image s h =
    let parts = cond_some (is_idle_registry size image) (stored_by image) s h in
    subst (λ w. StandsFor size image w) parts.1 (standing_by size image parts.0)

-- ---- once the daemon log is replayed

-- the image with the daemon log replayed stands for the same world as the image
pub standing_of_idle_world : (size : ℕ) (image : Image) (s : StoredWorld) → idle_world_of size image ≡ Some s → StandsFor size (settled_by DAEMON_LOG image) s
unfolding idle_world_of
standing_of_idle_world size image s h = elim (cases_Bool (has_legal_log image)) [
  | inl legal ↦ standing_of_idle_registry size (settled_by DAEMON_LOG image) s (sym (cond-true _ _ _ legal) ∙ h)
  | inr illegal ↦ absurd (let it : None ≡ Some s = sym (cond-false _ _ _ illegal) ∙ h in cc)
]

pub idle_world_of_standing : (size : ℕ) (image : Image) (s : StoredWorld) → has_legal_log image ≡ true → StandsFor size (settled_by DAEMON_LOG image) s → idle_world_of size image ≡ Some s
unfolding idle_world_of
idle_world_of_standing size image s legal h = cond-true _ _ _ legal ∙ idle_registry_standing size (settled_by DAEMON_LOG image) s h

-- its daemon log is legal
pub legal_log_of_idle_world : (size : ℕ) (image : Image) (s : StoredWorld) → idle_world_of size image ≡ Some s → has_legal_log image ≡ true
unfolding idle_world_of
legal_log_of_idle_world size image s h = elim (cases_Bool (has_legal_log image)) [
  | inl legal ↦ legal
  | inr illegal ↦ absurd (let it : None ≡ Some s = sym (cond-false _ _ _ illegal) ∙ h in cc)
]

-- no replay changes the number of frames
pub frames_of_idle_world : (size : ℕ) (image : Image) (s : StoredWorld) → idle_world_of size image ≡ Some s → image FRAMES_WORD ≡ s.frames
frames_of_idle_world size image s world =
    sym (settled_by-unlogged image FRAMES_WORD (legal_log_of_idle_world size image s world) (omega arith)) ∙ ((standing_of_idle_world size image s world).holds Header).frames

-- if the daemon log is legal, the image stands for what it stands for after the replay
pub idle_world_of_legal : (size : ℕ) (image : Image) → has_legal_log image ≡ true → idle_world_of size image ≡ idle_registry size (settled_by DAEMON_LOG image)
unfolding idle_world_of
idle_world_of_legal size image legal = cond-true _ _ _ legal

-- images with legal daemon logs that are the same after the replay stand for the same world
pub idle_world_of-settled : (size : ℕ) (i j : Image) → has_legal_log i ≡ true → has_legal_log j ≡ true → settled_by DAEMON_LOG j ≡ settled_by DAEMON_LOG i → idle_world_of size j ≡ idle_world_of size i
idle_world_of-settled size i j legal_i legal_j same = idle_world_of_legal size j legal_j ∙ ap (idle_registry size) same ∙ sym (idle_world_of_legal size i legal_i)

-- ---- a daemon log that is closed and counts no word

pub legal_log_idle : (image : Image) → is_idle_gate (image DAEMON_LOG) ≡ true → has_legal_log image ≡ true
unfolding has_legal_log
legal_log_idle image closed = ap (are_loggable (frames_of image) (log_of image DAEMON_LOG)) (entries_of-idle image DAEMON_LOG closed)

-- the image stands for the same world as with 0 in the words of that log
pub idle_world_of-beside : (size : ℕ) (image : Image) → is_idle_gate (image DAEMON_LOG) ≡ true → idle_world_of size image ≡ idle_registry size (beside_log DAEMON_LOG image)
unfolding idle_world_of
idle_world_of-beside size image closed = cond-true _ _ _ (legal_log_idle image closed) ∙ ap (idle_registry size) (settled_by-beside DAEMON_LOG image closed)

pub standing_idle : (size : ℕ) (image : Image) (s : StoredWorld) → is_idle_gate (image DAEMON_LOG) ≡ true → idle_world_of size image ≡ Some s → StandsFor size (beside_log DAEMON_LOG image) s
standing_idle size image s closed h = standing_of_idle_registry size (beside_log DAEMON_LOG image) s (sym (idle_world_of-beside size image closed) ∙ h)

around_log : (k : ℕ) → (k < DAEMON_LOG) ⊎ (TYPE_TABLE ≤ k) → (k < DAEMON_LOG) ⊎ (DAEMON_LOG + LOG_WORDS ≤ k)
around_log k (inl low) = inl low
around_log k (inr high) = inr (omega arith)

-- an image that is the same outside the daemon log stands for the same world
pub standing_beside : (size : ℕ) (image : Image) (s : StoredWorld) → StandsFor size (beside_log DAEMON_LOG image) s → StandsFor size image s
standing_beside size image s h =
    standing_same size (beside_log DAEMON_LOG image) image s h (λ k beside below. sym (beside_log-outside DAEMON_LOG image k (outside_log DAEMON_LOG k (around_log k beside))))

-- an image that differs only in the clients' logs, and whose registered logs are closed, stands for the same world
pub standing_logs : (size : ℕ) (i j : Image) (s : StoredWorld) → StandsFor size i s → IsSameBelow (tables_end s.frames) i j → ((k : ℕ) → frames_at s.frames ≤ k → k < device_words s.frames → j k ≡ i k) → are_closed_logs j s.frames ≡ true → StandsFor size j s
standing_logs size i j s h same frames logs =
    standing_with_spaces size i j s h (λ k below not. sym (same.at k below)) frames
    (record { spaces = are_legal_spaces-same j i (λ k low high. sym (same.at k (omega arith))) ∙ (h.holds Spaces).spaces; logs = logs })

-- ---- the world's types are those of the table

pub types_sorted : (size : ℕ) (image : Image) (s : StoredWorld) → StandsFor size image s → T (is_sorted nat_cmp s.types)
types_sorted size image s h = subst (λ ts. T (is_sorted nat_cmp ts)) (h.holds Types).types (is_sorted-keyed nat_cmp nat_cmp_total (type_at image) 0 TYPE_RECORDS)

pub map_of_world : (size : ℕ) (image : Image) (s : StoredWorld) (id : ℕ) → StandsFor size image s → map_of id (types_of image) ≡ map_of id s.types
map_of_world size image s id h = ap (map_of id) (h.holds Types).types

-- what the pools store does not change if it is read again by the world's types
pub pools_settled : (size : ℕ) (image : Image) (s : StoredWorld) → StandsFor size image s → reread_pools s.types s.pools ≡ s.pools
pools_settled size image s h = let is = (h.holds Pools).pools in ap (reread_pools s.types) (sym is) ∙ pools_in-again s.types s.frames image ∙ is

-- as many records are used as types are defined
pub length_of_world : (size : ℕ) (image : Image) (s : StoredWorld) → StandsFor size image s → used_types image ≡ length s.types
length_of_world size image s h = let types = h.holds Types in sym (length-types_of image types.legal) ∙ ap length types.types

-- all records are used exactly if as many types are defined
pub full_of_world : (size : ℕ) (image : Image) (s : StoredWorld) → StandsFor size image s → free_type image ≡ None → length s.types ≡ TYPE_RECORDS
full_of_world size image s h none = sym (length_of_world size image s h) ∙ count_used_full (type_at image) 0 TYPE_RECORDS none

pub room_of_world : (size : ℕ) (image : Image) (s : StoredWorld) (r : ℕ) → StandsFor size image s → free_type image ≡ Some r → length s.types < TYPE_RECORDS
room_of_world size image s r h some =
    let free = first_free_some (type_at image) 0 TYPE_RECORDS r some in
    omega (arith, length_of_world size image s h, count_used_room (type_at image) 0 TYPE_RECORDS r free.low free.high free.free)

pub at_most_of_world : (size : ℕ) (image : Image) (s : StoredWorld) → StandsFor size image s → length s.types ≤ TYPE_RECORDS
at_most_of_world size image s h = omega (arith, length_of_world size image s h, count_used_most (type_at image) 0 TYPE_RECORDS)
