-- The daemon log of a device is applied: what is read afterwards stands for the same world, and on a rested device so
-- does whatever a power loss leaves.
use Rattle.std.proofs.Common.{◌≡◌, inl, inr, ℕ, ◌≤◌, true, false, List, get_or, Option, Some, None, refl, sym, ap, subst, ◌∙◌, arith}
use Rattle.std.specs.List.{list_all}
use Rattle.std.specs.Prelude.{IfSome}
use Rattle.std.proofs.lemmas.Bool.{cases_eq, cases_Bool}
use Rattle.std.proofs.lemmas.List.Sums.{AllPass-from_list_all}
use Rattle.pm_model.specs.declared.host.HostFault.{HostFault}
use Rattle.pm_model.specs.declared.host.HostFault.TheVariants.{Cut}
use Rattle.pm_model.specs.Words.{reads, HasOnly, IsRested}
use Rattle.pm_model.specs.Moments.{State}
use Rattle.pm_model.specs.Changes.{Leaves, Silently}
use Rattle.pm_model.proofs.Words.{HasOnly-own, HasOnly-newest, reads_only}
use Rattle.pm_model.proofs.Changes.{Changes-still, HasOnly-kept}
use Rattle.pm_model.proofs.Leaves.{Leaves-weaker, Leaves-still}
use Rattle.pud_defs.specs.declared.layout.TheConstants.{DAEMON_LOG, FRAMES_WORD}
use Rattle.pud_defs.specs.declared.log_words.TheConstants.{CLOSED_GATE}
use Rattle.pud_defs.specs.Formats.Image.{Image}
use Rattle.pud_defs.specs.Formats.Layout.{device_words}
use Rattle.pud_defs.specs.Logging.Entries.{Entry, log_of, is_idle_gate}
use Rattle.pud_defs.specs.Logging.Replay.{device_word, new_value, is_in_log, settled_by}
use Rattle.pud_defs.specs.RegistryTables.Registry.{frames_of, is_loggable, are_loggable, has_legal_log, is_sound}
use Rattle.pud_defs.specs.Logging.Settled.{settled}
use Rattle.pud_defs.specs.StateMachine.World.{StoredWorld, stored_by, world_of}
use Rattle.pud_defs.proofs.Logging.Replay.{outside_log, settled_by-inside, settled_by-outside, settled_by-idle}
use Rattle.pud_defs.proofs.Logging.Logged.{legal_entries, allowed_in_range, has_legal_log-of, new_value-unlogged}
use Rattle.pud_defs.proofs.StateMachine.Worlds.{legal_log_of_world, holding_of_world, frames_of_world, world_of-settled, world_of-sound}
use Rattle.pud_defs.proofs.StateMachine.IdleWorlds.{legal_log_idle}
use Rattle.log_entry.specs.Copying.{log_copied}
use Rattle.log_replay.specs.declared.Target.TheVariants as targets
use Rattle.log_replay.specs.Replaying.{IsReplayable, IsPlacedCopy, HasDurableLog, ByLog, SettlesSame, SettlesLog}
use Rattle.log_replay.proofs.Closing.{gate_apart}
use Rattle.batch.proofs.Worlds.{names_apart}
use Rattle.soundness.specs.declared.judge.Sound.{Sound}
use Rattle.registry.specs.Registry.{StillStands, AppliesLog}

-- ---- a sound device: its daemon log may be replayed

module _ (size : ℕ) (s : StoredWorld) (image : Image) (world : world_of size image ≡ Some s) where
  legal : has_legal_log image ≡ true
  legal = legal_log_of_world size image s world

  frames_fit : device_words (frames_of image) ≤ size
  frames_fit =
      let frames : frames_of image ≡ s.frames = frames_of_world size image s world in
      let room = (holding_of_world size image s world).header.room in
      omega arith

  entries : List Entry
  entries = (legal_entries image legal).entries

  spelled : (log_of image DAEMON_LOG).entries ≡ Some entries
  unfolding entries
  spelled = (legal_entries image legal).are

  allowed : list_all (is_loggable (frames_of image) (log_of image DAEMON_LOG)) entries ≡ true
  unfolding entries
  allowed = (legal_entries image legal).allowed

  replayable : IsReplayable device_word size DAEMON_LOG entries image
  replayable =
      let F = frames_of image in
      let log = log_of image DAEMON_LOG in
      record {
        spells = spelled;
        apart = λ k d below within.
            let e = get_or entries k d in
            let passes : is_loggable F log e ≡ true = AllPass-from_list_all (is_loggable F log) entries allowed k d below in
            names_apart F size e frames_fit (allowed_in_range F log e passes within);
      }

-- the call that settles the log came after a call that changed nothing, so it settles the log of the state before both
pub settles_sound : (size : ℕ) (fault : Option HostFault) (a b c : State) → b ≡ a → is_sound size (reads a.now.words) ≡ true
    → ((es : List Entry) → IsReplayable device_word size DAEMON_LOG es (reads b.now.words) → SettlesLog targets.Words DAEMON_LOG fault b c) → SettlesLog targets.Words DAEMON_LOG fault a c
settles_sound size fault a b c same sound settles =
    let image = reads b.now.words in
    let world = world_of-sound size image (ap (λ (x : State). is_sound size (reads x.now.words)) same ∙ sound) in
    let s = stored_by (settled (frames_of image) image) in
    subst (λ (x : State). SettlesLog targets.Words DAEMON_LOG fault x c) same (settles (entries size s image world) (replayable size s image world))

-- a copy of the log that a call made which changed nothing is a copy of what is read now
pub copied_before : (found : Option Sound) (sound : Sound) (a b : State) → found ≡ Some sound → IfSome found (λ (x : Sound). log_copied x.log ≡ log_of (reads a.now.words) DAEMON_LOG) → b ≡ a
    → IsPlacedCopy targets.Words DAEMON_LOG (reads b.now.words) sound.log
copied_before found sound a b is log same =
    record {
      log = subst (λ (o : Option Sound). IfSome o (λ (x : Sound). log_copied x.log ≡ log_of (reads a.now.words) DAEMON_LOG)) is log
          ∙ ap (λ (x : State). log_of (reads x.now.words) DAEMON_LOG) (sym same);
    }

-- nothing was done, because a read failed
pub SettlesLog-failed : (fault : HostFault) (a b : State) → (Some fault ≡ Some Cut → ⊥) → b ≡ a → SettlesLog targets.Words DAEMON_LOG (Some fault) a b
SettlesLog-failed fault a b not_cut same =
    record {
      changes = Changes-still (ByLog DAEMON_LOG (new_value device_word (log_of (reads a.now.words) DAEMON_LOG))) (Some fault) a b not_cut same;
      durable = λ none. absurd (let it : None ≡ Some fault = sym none in cc);
      closed = λ none. absurd (let it : None ≡ Some fault = sym none in cc);
      reads_so = λ none. absurd (let it : None ≡ Some fault = sym none in cc);
    }

-- ---- what is read afterwards

-- a word outside the log reads as the replay of the log makes it
pub reads_settled : (a b : State) → SettlesLog targets.Words DAEMON_LOG None a b → (w : ℕ) → is_in_log DAEMON_LOG w ≡ false → reads b.now.words w ≡ settled_by DAEMON_LOG (reads a.now.words) w
reads_settled a b settles w out = settles.reads_so refl w (gate_apart DAEMON_LOG w out) ∙ sym (settled_by-outside DAEMON_LOG (reads a.now.words) w out)

gate_closed : (a b : State) → SettlesLog targets.Words DAEMON_LOG None a b → is_idle_gate (reads b.now.words DAEMON_LOG) ≡ true
gate_closed a b settles = ap is_idle_gate (HasOnly-newest (b.now.words DAEMON_LOG) CLOSED_GATE (settles.closed refl))

settled_word : (a b : State) → SettlesLog targets.Words DAEMON_LOG None a b → (w : ℕ) → settled_by DAEMON_LOG (reads b.now.words) w ≡ settled_by DAEMON_LOG (reads a.now.words) w
settled_word a b settles w = elim (cases_Bool (is_in_log DAEMON_LOG w)) [
  | inl inside ↦ settled_by-inside DAEMON_LOG (reads b.now.words) w inside ∙ sym (settled_by-inside DAEMON_LOG (reads a.now.words) w inside)
  | inr out ↦ settled_by-idle DAEMON_LOG (reads b.now.words) w (gate_closed a b settles) out ∙ reads_settled a b settles w out
]

-- with the log replayed, what is read is the same as before
pub settled_then : (a b : State) → SettlesLog targets.Words DAEMON_LOG None a b → settled_by DAEMON_LOG (reads b.now.words) ≡ settled_by DAEMON_LOG (reads a.now.words)
settled_then a b settles = λ i w. settled_word a b settles w i

-- what is read stands for the same world as before
pub stands_then : (size : ℕ) (a b : State) (o : Option StoredWorld) → world_of size (reads a.now.words) ≡ o → (o ≡ None → ⊥) → SettlesLog targets.Words DAEMON_LOG None a b
    → world_of size (reads b.now.words) ≡ world_of size (reads a.now.words)
stands_then size a b None none sound settles = absurd (sound refl)
stands_then size a b (Some s) world sound settles =
    let before = reads a.now.words in
    let now = reads b.now.words in
    world_of-settled size before now (legal_log_of_world size before s world) (legal_log_idle now (gate_closed a b settles)) (settled_then a b settles)

-- ---- what a rested device leaves at each moment

module _ (size : ℕ) (s : StoredWorld) (a : State) (rested : IsRested a.now.words) (world : world_of size (reads a.now.words) ≡ Some s) where
  durable_log : HasDurableLog targets.Words DAEMON_LOG a.now.words
  durable_log = record { gate = rested.each DAEMON_LOG; counted = λ k low high. rested.each k; table = λ k placing. absurd placing }

  -- an image stands for the same world if its log is unchanged or closed, and it is the same with the log replayed
  stands_still : (image : Image) → SettlesSame a.now.words DAEMON_LOG (log_of (reads a.now.words) DAEMON_LOG) image → StillStands size s (reads a.now.words) image
  stands_still image p =
      let i = reads a.now.words in
      let log = log_of i DAEMON_LOG in
      let legal_log = legal size s i world in
      let before : p.before ≡ i = reads_only a.now.words p.before rested p.picked in
      let frames : image FRAMES_WORD ≡ i FRAMES_WORD =
      p.outside FRAMES_WORD (outside_log DAEMON_LOG FRAMES_WORD (inl (omega arith))) (new_value-unlogged i FRAMES_WORD legal_log (omega arith)) ∙ ap (λ (x : Image). x FRAMES_WORD) before in
      let legal_now : has_legal_log image ≡ true = elim p.gate [
        | inl same ↦ has_legal_log-of image (frames_of i) log frames same (ap (are_loggable (frames_of i) log) (spelled size s i world) ∙ allowed size s i world)
        | inr closed ↦ legal_log_idle image closed
      ] in
      let same : settled_by DAEMON_LOG image ≡ settled_by DAEMON_LOG i = p.same ∙ ap (settled_by DAEMON_LOG) before in
      record { settled = same; stands = world_of-settled size i image legal_log legal_now same ∙ world }

  one_value : (b : State) → SettlesLog targets.Words DAEMON_LOG None a b → (k : ℕ) (o : Option ℕ) → new_value device_word (log_of (reads a.now.words) DAEMON_LOG) k ≡ o → (k ≡ DAEMON_LOG → ⊥) → HasOnly (b.now.words k) (reads b.now.words k)
  one_value b settles k (Some v) named other = HasOnly-own (b.now.words k) v (settles.durable refl k v named)
  one_value b settles k None none other =
      HasOnly-own (b.now.words k) (reads a.now.words k)
      (HasOnly-kept (ByLog DAEMON_LOG (new_value device_word (log_of (reads a.now.words) DAEMON_LOG))) None a b k (reads a.now.words k) settles.changes
      (λ v may. elim may [ inl gate ↦ other gate | inr named ↦ absurd (let it : None ≡ Some named.value = sym none ∙ named.is in cc) ])
      (rested.each k))

  -- each word has one value again: the gate, the words that the log named, and the others, to which nothing was written
  rested_then : (b : State) → SettlesLog targets.Words DAEMON_LOG None a b → IsRested b.now.words
  rested_then b settles =
      let write = new_value device_word (log_of (reads a.now.words) DAEMON_LOG) in
      record {
        each = λ k. elim (cases_eq k DAEMON_LOG) [
          | inl gate ↦ HasOnly-own (b.now.words k) CLOSED_GATE (subst (λ (n : ℕ). HasOnly (b.now.words n) CLOSED_GATE) (sym gate) (settles.closed refl))
          | inr other ↦ one_value b settles k (write k) refl other
        ];
      }

  AppliesLog-settles : (fault : Option HostFault) (b : State) → SettlesLog targets.Words DAEMON_LOG fault a b
      → Leaves (Silently (SettlesSame a.now.words DAEMON_LOG (log_of (reads a.now.words) DAEMON_LOG))) a b → AppliesLog size s fault a b
  AppliesLog-settles fault b settles left =
      record {
        moments = Leaves-weaker (Silently (SettlesSame a.now.words DAEMON_LOG (log_of (reads a.now.words) DAEMON_LOG))) (Silently (StillStands size s (reads a.now.words))) a b
            (λ bytes image p. (p.0, stands_still image p.1)) left;
        idle = λ none. record { each = λ v has. ap is_idle_gate ((settles.closed none).each v has) };
        rested = λ none. rested_then b (subst (λ (f : Option HostFault). SettlesLog targets.Words DAEMON_LOG f a b) none settles);
      }

-- the call that settles the log came after a call that changed nothing, so it settles the log of the state before both
pub AppliesLog-sound : (size : ℕ) (s : StoredWorld) (fault : Option HostFault) (a b c : State) → b ≡ a → IsRested a.now.words → world_of size (reads a.now.words) ≡ Some s
    → ((es : List Entry) → IsReplayable device_word size DAEMON_LOG es (reads b.now.words) → SettlesLog targets.Words DAEMON_LOG fault b c)
    → ((es : List Entry) → IsReplayable device_word size DAEMON_LOG es (reads b.now.words) → HasDurableLog targets.Words DAEMON_LOG b.now.words
    → Leaves (Silently (SettlesSame b.now.words DAEMON_LOG (log_of (reads b.now.words) DAEMON_LOG))) b c)
    → AppliesLog size s fault a c
AppliesLog-sound size s fault a b c same rested world settles left =
    let rested_b : IsRested b.now.words = subst (λ (x : State). IsRested x.now.words) (sym same) rested in
    let world_b : world_of size (reads b.now.words) ≡ Some s = ap (λ (x : State). world_of size (reads x.now.words)) same ∙ world in
    let es = entries size s (reads b.now.words) world_b in
    let r = replayable size s (reads b.now.words) world_b in
    subst (λ (x : State). AppliesLog size s fault x c) same
    (AppliesLog-settles size s b rested_b world_b fault c (settles es r) (left es r (durable_log size s b rested_b world_b)))

-- nothing was done, because a read failed
pub AppliesLog-failed : (size : ℕ) (s : StoredWorld) (fault : HostFault) (a b : State) → IsRested a.now.words → world_of size (reads a.now.words) ≡ Some s → b ≡ a → AppliesLog size s (Some fault) a b
AppliesLog-failed size s fault a b rested world same =
    record {
      moments = Leaves-still (Silently (StillStands size s (reads a.now.words))) a b
          (λ image picked.
          let is = reads_only a.now.words image rested picked in
          (refl, record { settled = ap (settled_by DAEMON_LOG) is; stands = ap (world_of size) is ∙ world })) same;
      idle = λ none. absurd (let it : None ≡ Some fault = sym none in cc);
      rested = λ none. absurd (let it : None ≡ Some fault = sym none in cc);
    }
