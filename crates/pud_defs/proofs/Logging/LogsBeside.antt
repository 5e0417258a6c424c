-- What a start makes of images that agree on all that follows the daemon log, and of images that recover to the same
-- words.
use Rattle.std.proofs.Common.{◌≡◌, ◌⊎◌, inl, inr, ℕ, ◌<◌, ◌≤◌, true, false, Option, Some, sym, ap₂, subst, ◌∙◌, arith}
use Rattle.std.specs.Prelude.{unwrap_or}
use Rattle.std.proofs.lemmas.Bool.{cases_Bool, cond-true, cond-false}
use Rattle.pud_defs.specs.declared.layout.TheConstants.{VERSION_WORD, DAEMON_LOG, FRAMES_WORD, TYPE_TABLE, SPACE_TABLE, PUDDLE_TABLE, CLIENTS}
use Rattle.pud_defs.specs.Formats.Image.{Image}
use Rattle.pud_defs.specs.Formats.Layout.{tables_end, frames_at}
use Rattle.pud_defs.specs.Logging.Entries.{log_of, is_idle_gate}
use Rattle.pud_defs.specs.Logging.Replay.{is_in_log, settled_by}
use Rattle.pud_defs.specs.RegistryTables.Spaces.{owner_of, are_legal_spaces}
use Rattle.pud_defs.specs.RegistryTables.Tables.{tables_of}
use Rattle.pud_defs.specs.Logging.Allowed.{is_refused, is_accepted}
use Rattle.pud_defs.specs.Logging.Settled.{gives_to, ALL_LOGS, client_of_log, log_number_at, given_by_log, is_refused_log, is_accepted_log, is_in_logs, settled_over, settled}
use Rattle.pud_defs.specs.RegistryTables.Registry.{frames_of, has_legal_log, suits_version}
use Rattle.pud_defs.specs.StateMachine.World.{StoredWorld, world_of}
use Rattle.pud_defs.proofs.Logging.Replay.{settled_by-idle, outside_log}
use Rattle.pud_defs.proofs.RegistryTables.Spaces.{log_of-within, owner_of-same}
use Rattle.pud_defs.proofs.RegistryTables.TablesOf.{tables_of-same}
use Rattle.pud_defs.proofs.Logging.Settled.{given_in_turn-same}
use Rattle.pud_defs.proofs.Logging.Logged.{settled_by-unlogged}
use Rattle.pud_defs.proofs.StateMachine.Parts.{Holds-same, HoldsWorld, described_same}
use Rattle.pud_defs.proofs.StateMachine.Parts.Part.{Types, Pools}
use Rattle.pud_defs.proofs.StateMachine.Worlds.{settled-below, holding_of_world, world_of_holding, frames_of_world}

-- ---- images that agree on all that follows the daemon log

module _ (F : ℕ) (i j : Image) (same : (k : ℕ) → TYPE_TABLE ≤ k → j k ≡ i k) where
  pub agree_tables : tables_of F j ≡ tables_of F i
  agree_tables = tables_of-same F j i (λ k low high. same k (omega arith)) (λ k low high. same k (omega arith))

  pub agree_owner : (client : ℕ) → client < CLIENTS → owner_of j client ≡ owner_of i client
  agree_owner client few = owner_of-same j i client few (λ k low high. same k (omega arith))

  module _ (number : ℕ) (known : number < ALL_LOGS) where
    pub agree_log : log_of j (log_number_at F number) ≡ log_of i (log_number_at F number)
    agree_log = log_of-within j i (log_number_at F number) (λ k inside. let low = inside.low in same k (omega arith))

    pub agree_given : (w : ℕ) → given_by_log F j number w ≡ given_by_log F i number w
    agree_given w = λ p. gives_to (agree_tables p) (agree_owner (client_of_log number) (omega arith) p) (agree_log p) w

    pub agree_refused : is_refused_log F j number ≡ is_refused_log F i number
    agree_refused = λ p. is_refused (agree_tables p) (agree_owner (client_of_log number) (omega arith) p) (agree_log p)

    pub agree_accepted : is_accepted_log F j number ≡ is_accepted_log F i number
    agree_accepted = λ p. is_accepted (agree_tables p) (agree_owner (client_of_log number) (omega arith) p) (agree_log p)

  -- if they have the same value in a word, they recover to the same value in it
  pub agree_settled : (w : ℕ) → j w ≡ i w → settled_over F j w ≡ settled_over F i w
  unfolding settled_over
  agree_settled w here = elim (cases_Bool (is_in_logs F w)) [
    | inl inside ↦ cond-true (is_in_logs F w) 0 _ inside ∙ sym (cond-true (is_in_logs F w) 0 _ inside)
    | inr outside ↦
        cond-false (is_in_logs F w) 0 _ outside
        ∙ ap₂ (λ (o : Option ℕ) (x : ℕ). unwrap_or o x) (given_in_turn-same (given_by_log F j) (given_by_log F i) 0 ALL_LOGS w (λ number low high. agree_given number (omega arith) w)) here
        ∙ sym (cond-false (is_in_logs F w) 0 _ outside)
  ]

-- ---- an image whose daemon log is closed and counts no word

module _ (F : ℕ) (image : Image) (idle : is_idle_gate (image DAEMON_LOG) ≡ true) where
  following : (k : ℕ) → TYPE_TABLE ≤ k → settled_by DAEMON_LOG image k ≡ image k
  following k low = settled_by-idle DAEMON_LOG image k idle (outside_log DAEMON_LOG k (inr (omega arith)))

  pub idle_given : (number w : ℕ) → number < ALL_LOGS → given_by_log F (settled_by DAEMON_LOG image) number w ≡ given_by_log F image number w
  idle_given number w known = agree_given F image (settled_by DAEMON_LOG image) following number known w

  pub idle_refused : (number : ℕ) → number < ALL_LOGS → is_refused_log F (settled_by DAEMON_LOG image) number ≡ is_refused_log F image number
  idle_refused number known = agree_refused F image (settled_by DAEMON_LOG image) following number known

  pub idle_accepted : (number : ℕ) → number < ALL_LOGS → is_accepted_log F (settled_by DAEMON_LOG image) number ≡ is_accepted_log F image number
  idle_accepted number known = agree_accepted F image (settled_by DAEMON_LOG image) following number known

  -- outside the daemon log it recovers to the same words as without that log
  pub idle_settled : (w : ℕ) → is_in_log DAEMON_LOG w ≡ false → settled F image w ≡ settled_over F image w
  unfolding settled
  idle_settled w outside = agree_settled F image (settled_by DAEMON_LOG image) following w (settled_by-idle DAEMON_LOG image w idle outside)

-- ---- images that recover to the same words

-- a world reads the word, and the word is not in the log-space table
pub record IsReadBeside (F k : ℕ) : Type 0 where
  pub beside : (k < DAEMON_LOG) ⊎ (TYPE_TABLE ≤ k)
  pub spaces : (k < SPACE_TABLE) ⊎ (PUDDLE_TABLE ≤ k)
  pub logs : (k < tables_end F) ⊎ (frames_at F ≤ k)

-- such images stand for the same world, if the second one has a legal daemon log and recovers to a legal log-space
-- table
module _ (size : ℕ) (s : StoredWorld) (i j : Image) (world : world_of size i ≡ Some s) (legal : has_legal_log j ≡ true)
    (same : (k : ℕ) → IsReadBeside s.frames k → settled s.frames j k ≡ settled s.frames i k) (spaces : are_legal_spaces (settled s.frames j) ≡ true) where
  held : HoldsWorld size (settled s.frames i) s
  held = subst (λ (F : ℕ). HoldsWorld size (settled F i) s) (frames_of_world size i s world) (holding_of_world size i s world)

  holds_now : HoldsWorld size (settled s.frames j) s
  holds_now = record {
    header = described_same size s.frames s.machine s.next_number (settled s.frames i) (settled s.frames j) held.header (λ k low. same k (record { beside = inl low; spaces = inl (omega arith); logs = inl (omega arith) }));
    suits = ap₂ suits_version (same VERSION_WORD (record { beside = inl (omega arith); spaces = inl (omega arith); logs = inl (omega arith) }))
        (tables_of-same s.frames (settled s.frames j) (settled s.frames i)
        (λ k low high. same k (record { beside = inr (omega arith); spaces = inl (omega arith); logs = inl (omega arith) }))
        (λ k low high. same k (record { beside = inr (omega arith); spaces = inr low; logs = inl high }))) ∙ held.suits;
    types = Holds-same Types size s (settled s.frames i) (settled s.frames j) (λ k of. let low = of.low in let high = of.high in same k (record { beside = inr low; spaces = inl (omega arith); logs = inl (omega arith) })) held.types;
    pools = Holds-same Pools size s (settled s.frames i) (settled s.frames j) (λ k of. elim of [
      | inl pools ↦ let low = pools.low in let high = pools.high in same k (record { beside = inr (omega arith); spaces = inl (omega arith); logs = inl (omega arith) })
      | inr others ↦ elim others [
        | inl puddles ↦ let low = puddles.low in let high = puddles.high in same k (record { beside = inr (omega arith); spaces = inr low; logs = inl high })
        | inr frames ↦ let low = frames.low in same k (record { beside = inr (omega arith); spaces = inr (omega arith); logs = inr low })
      ]
    ]) held.pools;
    spaces = spaces;
  }

  frames_now : frames_of j ≡ s.frames
  frames_now =
      sym (settled_by-unlogged j FRAMES_WORD legal (omega arith)) ∙ sym (settled-below s.frames j FRAMES_WORD (omega arith)) ∙ holds_now.header.frames

  pub world_again : world_of size j ≡ Some s
  world_again = world_of_holding size j s legal (subst (λ (F : ℕ). HoldsWorld size (settled F j) s) (sym frames_now) holds_now)
