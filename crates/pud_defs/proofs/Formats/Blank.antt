-- The image of a device that was just formatted.
use Rattle.std.proofs.Common.{nat_le, ◌≡◌, inl, inr, ℕ, ◌<◌, ◌≤◌, true, nat_cmp, [], None, Some, refl, ap, ◌∙◌, arith, leb-true}
use Rattle.std.proofs.lemmas.Bool.{and_parts, and_from, cond-true, cases_Bool}
use Rattle.pud_defs.specs.declared.layout.TheConstants.{TYPE_RECORDS, MIN_FRAMES, MAX_FRAMES, DAEMON_LOG, MAGIC_WORD, VERSION_WORD, MACHINE_WORD, FRAMES_WORD, NEXT_NUMBER_WORD}
use Rattle.pud_defs.specs.Formats.Layout.{device_words, is_legal_frame_count}
use Rattle.pud_defs.specs.Formats.Image.{Image}
use Rattle.pud_defs.specs.RegistryTables.Types.{type_record_at, type_at, is_sound_type}
use Rattle.pud_defs.specs.StateMachine.World.{IsBlank, world_of, idle_world_of, blank_world}
use Rattle.pud_defs.specs.Logging.Entries.{is_idle_gate}
use Rattle.pud_defs.specs.Logging.Replay.{is_in_log, beside_log}
use Rattle.pud_defs.specs.RegistryTables.Spaces.{space_record_at}
use Rattle.pud_defs.proofs.Logging.Replay.{beside_log-outside, outside_log}
use Rattle.pud_defs.proofs.RegistryTables.Spaces.{are_legal_spaces-none, are_closed_logs-none, all_below-from}
use Rattle.pud_defs.proofs.KeyedTables.Keyed.{HasDistinctKeys-one, are_distinct_keys, keyed-none}
use Rattle.pud_defs.proofs.RegistryTables.TypeTable.{type_at-free}
use Rattle.pud_defs.proofs.StateMachine.Parts.{Part, Holds, HasTypes, StandsFor}
use Rattle.pud_defs.proofs.StateMachine.Parts.Part.{Header, Types, Pools, Spaces}
use Rattle.pud_defs.proofs.RegistryTables.NoPools.{empty_tables}
use Rattle.pud_defs.proofs.StateMachine.IdleWorlds.{idle_registry_standing, idle_world_of-beside}
use Rattle.pud_defs.proofs.Logging.Idle.{world_of_idle}

-- a type table whose id words are all 0 has no types
pub no_types : (image : Image) → ((i : ℕ) → i < TYPE_RECORDS → image (type_record_at i) ≡ 0) → HasTypes [] image
no_types image free =
    let none : (i : ℕ) → i < TYPE_RECORDS → type_at image i ≡ None = λ i below. type_at-free image i (free i below) in
    record {
      types = keyed-none nat_cmp (type_at image) 0 TYPE_RECORDS (λ i low high. none i (omega arith));
      legal = and_from _ _
          (all_below-from TYPE_RECORDS (λ i. is_sound_type (type_at image i)) (λ i below. ap is_sound_type (none i below)))
          (are_distinct_keys nat_cmp (type_at image) 0 TYPE_RECORDS (HasDistinctKeys-one nat_cmp (type_at image) 0 TYPE_RECORDS 0 (λ j low high other. none j (omega arith))));
    }

pub standing_blank : (size F machine : ℕ) (image : Image) → is_legal_frame_count F ≡ true → device_words F ≤ size → IsBlank F machine image → StandsFor size image (blank_world F machine)
standing_blank size F machine image legal room h =
    let counts : (nat_le MIN_FRAMES F ≡ true) × (nat_le F MAX_FRAMES ≡ true) = and_parts _ _ legal in
    let held : (p : Part) → Holds p size (blank_world F machine) image = λ p. elim p as (λ p. Holds p size (blank_world F machine) image) [
      | Header ↦ record {
        magic = h.magic;
        version = h.version;
        machine = h.machine;
        frames = h.frames;
        next_number = h.next_number;
        enough_frames = leb-true _ _ counts.0;
        no_more_frames = leb-true _ _ counts.1;
        room = room;
        number_low = omega arith;
        number_high = leb-true _ _ refl;
      }
      | Types ↦ no_types image (λ i below. h.rest (type_record_at i) (omega arith) (omega arith))
      | Pools ↦ empty_tables [] F 1 image (λ k low high. h.rest k (omega arith) (omega arith)) (λ k low high. h.rest k (omega arith) (omega arith))
      | Spaces ↦ record {
        spaces = are_legal_spaces-none image (λ c below. h.rest (space_record_at c) (omega arith) (omega arith));
        logs = are_closed_logs-none image F (λ c below. h.rest (space_record_at c) (omega arith) (omega arith));
      }
    ] in
    record { holds = held }

-- the image of a device that was just formatted stands for the blank world, and each registered log in it is closed
pub idle_world_of-blank : (size F machine : ℕ) (image : Image) → is_legal_frame_count F ≡ true → device_words F ≤ size → IsBlank F machine image → idle_world_of size image ≡ Some (blank_world F machine)
idle_world_of-blank size F machine image legal room h =
    let closed : is_idle_gate (image DAEMON_LOG) ≡ true = ap is_idle_gate (h.rest DAEMON_LOG (omega arith) (omega arith)) in
    let read : (k : ℕ) → k < DAEMON_LOG → beside_log DAEMON_LOG image k ≡ image k = λ k low. beside_log-outside DAEMON_LOG image k (outside_log DAEMON_LOG k (inl low)) in
    idle_world_of-beside size image closed
    ∙ idle_registry_standing size (beside_log DAEMON_LOG image) (blank_world F machine) (standing_blank size F machine (beside_log DAEMON_LOG image) legal room (record {
      magic = read MAGIC_WORD (omega arith) ∙ h.magic;
      version = read VERSION_WORD (omega arith) ∙ h.version;
      machine = read MACHINE_WORD (omega arith) ∙ h.machine;
      frames = read FRAMES_WORD (omega arith) ∙ h.frames;
      next_number = read NEXT_NUMBER_WORD (omega arith) ∙ h.next_number;
      rest = λ k low high. elim (cases_Bool (is_in_log DAEMON_LOG k)) [
        | inl inside ↦ cond-true _ _ _ inside
        | inr outside ↦ beside_log-outside DAEMON_LOG image k outside ∙ h.rest k low high
      ];
    }))

pub world_of-blank : (size F machine : ℕ) (image : Image) → is_legal_frame_count F ≡ true → device_words F ≤ size → IsBlank F machine image → world_of size image ≡ Some (blank_world F machine)
world_of-blank size F machine image legal room h = world_of_idle size image (blank_world F machine) (idle_world_of-blank size F machine image legal room h)
