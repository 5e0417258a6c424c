-- A device of the first version stands for the same world if the present version is written into its version word.
use Rattle.std.proofs.Common.{◌≡◌, inl, inr, ℕ, ◌<◌, ◌≤◌, true, Some, None, sym, ap, ap₂, subst, ◌∙◌, arith}
use Rattle.std.specs.Prelude.{cond, unwrap_or}
use Rattle.pud_defs.specs.declared.layout.TheConstants.{VERSION, VERSION_WORD, FRAMES_WORD, DAEMON_LOG, CLIENTS}
use Rattle.pud_defs.specs.Formats.Image.{Image, image_with}
use Rattle.pud_defs.specs.Logging.Entries.{Log, log_of}
use Rattle.pud_defs.specs.Logging.Replay.{device_word, new_value, is_in_log, settled_by}
use Rattle.pud_defs.specs.Logging.Settled.{settled}
use Rattle.pud_defs.specs.RegistryTables.Spaces.{owner_of, has_closed_logs}
use Rattle.pud_defs.specs.RegistryTables.Registry.{frames_of, are_loggable, has_legal_log, is_version, suits_version}
use Rattle.pud_defs.specs.RegistryTables.Tables.{tables_of}
use Rattle.pud_defs.specs.StateMachine.World.{StoredWorld, world_of, idle_world_of}
use Rattle.pud_defs.proofs.Formats.Images.{written_there, written_other}
use Rattle.pud_defs.proofs.Logging.Logged.{settled_by-unlogged}
use Rattle.pud_defs.proofs.Logging.Idle.{idle_world_of-unowned}
use Rattle.pud_defs.proofs.Logging.LogsBeside.{agree_settled}
use Rattle.pud_defs.proofs.RegistryTables.Spaces.{log_of-within, owner_of-same, has_closed_logs-same, are_legal_spaces-same}
use Rattle.pud_defs.proofs.RegistryTables.TablesOf.{tables_of-same}
use Rattle.pud_defs.proofs.StateMachine.Parts.{HoldsWorld, Holds-same, described_by}
use Rattle.pud_defs.proofs.StateMachine.Parts.Part.{Types, Pools}
use Rattle.pud_defs.proofs.StateMachine.Worlds.{settled-below, holding_of_world, world_of_holding, frames_of_world, legal_log_of_world}

-- the image with the present version
abbrev pub upgraded : Image → Image
upgraded image = image_with VERSION_WORD VERSION image

module _ (image : Image) where
  abbrev j : Image
  j = upgraded image

  same : (k : ℕ) → (k ≡ VERSION_WORD → ⊥) → j k ≡ image k
  same k apart = written_other VERSION_WORD VERSION image k apart

  log_same : log_of j DAEMON_LOG ≡ log_of image DAEMON_LOG
  log_same = log_of-within j image DAEMON_LOG (λ k inside. let low = inside.low in same k (λ e. absurd (omega arith)))

  frames_same : frames_of j ≡ frames_of image
  frames_same = same FRAMES_WORD (λ e. absurd (omega arith))

  pub legal_log_upgraded : has_legal_log image ≡ true → has_legal_log j ≡ true
  unfolding has_legal_log
  legal_log_upgraded legal = ap₂ (λ (F : ℕ) (log : Log). are_loggable F log log.entries) frames_same log_same ∙ legal

  -- after a replay of the daemon log
  replayed_same : (k : ℕ) → (k ≡ VERSION_WORD → ⊥) → settled_by DAEMON_LOG j k ≡ settled_by DAEMON_LOG image k
  unfolding settled_by
  replayed_same k apart =
      ap₂ (λ (log : Log) (v : ℕ). cond (is_in_log DAEMON_LOG k) 0 (unwrap_or (new_value device_word log k) v)) log_same (same k apart)

  -- the same logs are registered
  pub owner_of-upgraded : (client : ℕ) → client < CLIENTS → owner_of (settled_by DAEMON_LOG j) client ≡ owner_of (settled_by DAEMON_LOG image) client
  owner_of-upgraded client known = owner_of-same (settled_by DAEMON_LOG j) (settled_by DAEMON_LOG image) client known (λ k low high. replayed_same k (λ e. absurd (omega arith)))

  -- the same pools and puddles are there
  pub tables_of-upgraded : (F : ℕ) → tables_of F (settled_by DAEMON_LOG j) ≡ tables_of F (settled_by DAEMON_LOG image)
  tables_of-upgraded F = tables_of-same F (settled_by DAEMON_LOG j) (settled_by DAEMON_LOG image) (λ k low high. replayed_same k (λ e. absurd (omega arith))) (λ k low high. replayed_same k (λ e. absurd (omega arith)))

  -- the same clients have all their logs closed
  pub has_closed_logs-upgraded : (F client : ℕ) → client < CLIENTS → has_closed_logs j F client ≡ has_closed_logs image F client
  has_closed_logs-upgraded F client known = has_closed_logs-same j image F client known (λ k low high. same k (λ e. absurd (omega arith)))

  -- and after a replay of the clients' logs too
  settled_same : (F k : ℕ) → (k ≡ VERSION_WORD → ⊥) → settled F j k ≡ settled F image k
  unfolding settled
  settled_same F k apart = agree_settled F (settled_by DAEMON_LOG image) (settled_by DAEMON_LOG j) (λ n low. replayed_same n (λ e. absurd (omega arith))) k (replayed_same k apart)

module _ (size : ℕ) (image : Image) (s : StoredWorld) (world : world_of size image ≡ Some s) where
  F : ℕ
  F = s.frames

  frames : image FRAMES_WORD ≡ s.frames
  frames = frames_of_world size image s world

  legal : has_legal_log (upgraded image) ≡ true
  legal = legal_log_upgraded image (legal_log_of_world size image s world)

  before : HoldsWorld size (settled s.frames image) s
  before = subst (λ (n : ℕ). HoldsWorld size (settled n image) s) frames (holding_of_world size image s world)

  now : Image
  now = settled s.frames (upgraded image)

  version : settled s.frames (upgraded image) VERSION_WORD ≡ VERSION
  version =
      settled-below s.frames (upgraded image) VERSION_WORD (omega arith)
      ∙ settled_by-unlogged (upgraded image) VERSION_WORD legal (omega arith) ∙ written_there VERSION_WORD VERSION image

  others : (k : ℕ) → DAEMON_LOG ≤ k → settled s.frames (upgraded image) k ≡ settled s.frames image k
  others k low = settled_same image s.frames k (λ e. absurd (omega arith))

  holds_now : HoldsWorld size (settled s.frames (upgraded image)) s
  holds_now = record {
    header = described_by size s.frames s.machine s.next_number (settled s.frames image) (settled s.frames (upgraded image)) before.header
        (ap is_version version) (λ k low apart. settled_same image s.frames k apart);
    suits = ap (λ (v : ℕ). suits_version v (tables_of s.frames (settled s.frames (upgraded image)))) version;
    types = Holds-same Types size s (settled s.frames image) (settled s.frames (upgraded image)) (λ k of. let low = of.low in others k (omega arith)) before.types;
    pools = Holds-same Pools size s (settled s.frames image) (settled s.frames (upgraded image)) (λ k of. elim of [
      | inl pools ↦ let low = pools.low in others k (omega arith)
      | inr rest ↦ elim rest [
        | inl puddles ↦ let low = puddles.low in others k (omega arith)
        | inr frame ↦ let low = frame.low in others k (omega arith)
      ]
    ]) before.pools;
    spaces = are_legal_spaces-same (settled s.frames (upgraded image)) (settled s.frames image) (λ k low high. others k (omega arith)) ∙ before.spaces;
  }

  pub world_of-upgraded : world_of size (upgraded image) ≡ Some s
  world_of-upgraded =
      world_of_holding size (upgraded image) s legal
      (subst (λ (n : ℕ). HoldsWorld size (settled n (upgraded image)) s) (sym (frames_same image ∙ frames)) holds_now)

  -- and it is idle if no log is registered
  pub idle_world_of-upgraded : ((client : ℕ) → client < CLIENTS → owner_of (settled_by DAEMON_LOG image) client ≡ None) → idle_world_of size (upgraded image) ≡ Some s
  idle_world_of-upgraded none =
      idle_world_of-unowned size (upgraded image) s world_of-upgraded (written_there VERSION_WORD VERSION image)
      (λ client known. owner_of-upgraded image client known ∙ none client known)
