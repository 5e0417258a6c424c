-- A line before its reply: its command is carried out, and the daemon restarts if power was lost.
use Rattle.std.proofs.Common.{◌≡◌, ◌≢◌, ◌⊎◌, inl, inr, ℕ, List, [], Option, Some, None, Result, Ok, Err, refl, sym, ap, subst, ◌∙◌}
use Rattle.std.proofs.lemmas.List.{append-nil}
use Rattle.pm_model.specs.declared.host.HostFault.{HostFault}
use Rattle.pm_model.specs.declared.host.HostFault.TheVariants as hosts
use Rattle.pm_model.specs.Counts.{Counts, after_fault}
use Rattle.pm_model.specs.Words.{reads}
use Rattle.pm_model.specs.Moments.{State}
use Rattle.pm_model.specs.Changes.{Leaves, Silently}
use Rattle.pm_model.proofs.Words.{Picks-reads}
use Rattle.pm_model.proofs.Leaves.{Leaves-then, Leaves-now, Leaves-weaker}
use Rattle.pud_defs.specs.declared.machine.Reply.TheVariants as replies
use Rattle.pud_defs.specs.Formats.Image.{Image}
use Rattle.pud_defs.specs.declared.layout.TheConstants.{DAEMON_LOG}
use Rattle.pud_defs.specs.Logging.Replay.{settled_by}
use Rattle.pud_defs.specs.RegistryTables.Tables.{tables_of}
use Rattle.pud_defs.specs.RegistryTables.Puddles.{Member}
use Rattle.pud_defs.specs.declared.machine.Command.{Command}
use Rattle.pud_defs.specs.declared.machine.Command.TheVariants.{Leave}
use Rattle.pud_defs.specs.declared.machine.Refusal.{Refusal}
use Rattle.pud_defs.specs.StateMachine.World.{World, world_of, closed, restart}
use Rattle.pud_defs.specs.StateMachine.Grammar.{command_of}
use Rattle.pud_defs.specs.StateMachine.Step.{refusal_of, after, unless_refused, world_by}
use Rattle.pud_defs.specs.StateMachine.Changing.{Part, part_of, with_part, file_in}
use Rattle.pud_defs.specs.StateMachine.Changing.Part.{types, pools, tables, clients, transactions, nothing}
use Rattle.pud_defs.proofs.StateMachine.Changing.{after-part, shelf_of_gives, Gives-plain_is, KeepsFiles-none}
use Rattle.pud_defs.proofs.StateMachine.Commands.{command_of-legal}
use Rattle.puddled.specs.declared.daemon.StartFault.{StartFault}
use Rattle.puddled.specs.declared.daemon.StartFault.TheVariants as starts
use Rattle.std.specs.Prelude.{IfOk}
use Rattle.puddled.specs.declared.daemon.RunFault.{RunFault}
use Rattle.puddled.specs.declared.daemon.RunFault.TheVariants as faults
use Rattle.puddled.specs.Faults.{start_fault, of_host, of_start, CountsKind, CountsLine, answer_after_loss}
use Rattle.daemon_memory.specs.Counted.{Kind, kind_of, CountsCommand}
use Rattle.daemon_memory.specs.Counted.Kind.{ordinary, loses, arms}
use Rattle.daemon_memory.specs.Memory.{Memory}
use Rattle.daemon_memory.specs.declared.line_answer.LineAnswer.{LineAnswer}
use Rattle.daemon_memory.specs.declared.line_answer.LineAnswer.TheVariants as answers
use Rattle.daemon_memory.specs.Ready.{IsReady, AppliesBy, IsClosedIfFree, IsClosedIfNamed, ClosesFirst, ClosesBefore, ClosesLogs, RefusesNone, StandsBetween}
use Rattle.puddled.specs.Starting.{Recovers, DiffersByStart, IsReplayed}
use Rattle.puddled.specs.Daemon.{CarriesOut, CarriesOutLine}
use Rattle.puddled.specs.DoesLines.{StartsAgain, IsStartedAgain, ActsInLine}
use Rattle.daemon_memory.proofs.Commands.Turns.{turn_of, is_turn_of, cut_turn, is_cut_turn}
use Rattle.puddled.proofs.DeviceStarts.Counted.{counted_step, counted_cut, kind_done, kind_faulty, kind_unstarted, host_is_sound}
use Rattle.puddled.proofs.LinesDone.Carrying.{restart_line, lost_answer}
use Rattle.puddled.proofs.DeviceStarts.Restarts.{closed_if_free}

-- The image stands for the world before a turn or for the one that the turn gives.
abbrev pub Between : (size : ℕ) → World → World → Image → Type 0
Between size w under image = (world_of size image ≡ Some (closed w)) ⊎ (world_of size image ≡ Some (closed under))

-- The images of a command stand for one of these two worlds.
stands_applied : {becomes : Member → Option Member → Type 0} (size : ℕ) (w under : World) (memory : Memory) (fault : Option HostFault) (old mid : State) → AppliesBy becomes size w under memory fault old mid → Leaves (Silently (Between size w under)) old mid
stands_applied size w under memory fault old mid p = Leaves-weaker (Silently (StandsBetween size w under)) (Silently (Between size w under)) old mid (λ bytes image m. (m.0, m.1.0)) p.moments

-- In none of them is a registered log refused.
allowed_applied : {becomes : Member → Option Member → Type 0} (size : ℕ) (w under : World) (memory : Memory) (fault : Option HostFault) (old mid : State) → AppliesBy becomes size w under memory fault old mid → Leaves (λ bytes image. RefusesNone image) old mid
allowed_applied size w under memory fault old mid p = Leaves-weaker (Silently (StandsBetween size w under)) (λ bytes image. RefusesNone image) old mid (λ bytes image m. m.1.1) p.moments

-- Logs that are closed before a batch names the record are closed before the record is free.
closes_first : (w : World) (command : Option Command) (old new : State) → ClosesLogs ClosesBefore w command old new → ClosesLogs ClosesFirst w command old new
closes_first w command old new closes = record {
  first = λ client is present.
      Leaves-weaker (λ bytes image. IsClosedIfNamed w.stored.frames client image) (λ bytes image. IsClosedIfFree w.stored.frames client image) old new
      (λ bytes image m. closed_if_free w.stored.frames client image m) (closes.first client is present);
}

-- If the restart's fault is that the device is not sound, so is the fault of the start.
pub unsound_start : (fault : StartFault) → of_start fault ≡ faults.NotSound → fault ≡ starts.NotSound
unsound_start starts.NotSound is = refl
unsound_start (starts.Host fault) is = absurd (host_is_sound fault (ap Some is))

module _ (size : ℕ) (w : World) (memory : Memory) (line : List ℕ) (before between : Counts) (old mid : State) where
  -- The line was carried out or refused: the reply is the machine's.
  pub Settles-done : (answered : LineAnswer) → CarriesOut size w memory (command_of line) (Ok answered) before between old mid → CarriesOutLine size w line (Ok answered) memory before between old mid
  Settles-done answered k =
      record {
        took = record {
          turn = turn_of line k.said k.under;
          of_line = refl;
          is_turn = is_turn_of w line k.said k.under k.step;
          replied = sym k.replied;
        };
        acts = record { done = Ok answered; mid = mid; acts = k.acts; goes_on = (refl, refl) };
        one_line = k.one_line;
        moments = stands_applied size w k.under memory None old mid k.led.applies.applies;
        quiet = k.led.applies.applies.quiet;
        closes = closes_first w (command_of line) old mid k.closes;
        allowed = allowed_applied size w k.under memory None old mid k.led.applies.applies;
        ready = λ _. k.led.applies.applies.ready refl;
        counted = counted_step w line k.said k.under None before between k.step (kind_done (kind_of (command_of line)) before between k.counted);
        sound = λ no. cc;
        script = k.led.applies.applies.script;
      }

  -- The host failed: nothing was printed of the line.
  pub Settles-failed : (now : Memory) → CarriesOut size w memory (command_of line) (Err hosts.Failed) before between old mid → CarriesOutLine size w line (Err faults.Failed) now before between old mid
  Settles-failed now k =
      record {
        took = record {
          turn = turn_of line k.said k.under;
          of_line = refl;
          is_turn = is_turn_of w line k.said k.under k.step;
          replied = tt;
        };
        acts = record { done = Err hosts.Failed; mid = mid; acts = k.acts; goes_on = (refl, refl) };
        one_line = tt;
        moments = stands_applied size w k.under memory (Some hosts.Failed) old mid k.led.applies.applies;
        quiet = k.led.applies.applies.quiet;
        closes = closes_first w (command_of line) old mid k.closes;
        allowed = allowed_applied size w k.under memory (Some hosts.Failed) old mid k.led.applies.applies;
        ready = λ no. absurd (cc);
        counted = counted_step w line k.said k.under (Some faults.Failed) before between k.step (kind_faulty (kind_of (command_of line)) before between k.counted);
        sound = λ no. cc;
        script = k.led.applies.applies.script;
      }

-- ---- what a power loss leaves

frames_of_part : (p : Part) (v w : World) → (with_part p v w).stored.frames ≡ w.stored.frames
frames_of_part types v w = refl
frames_of_part pools v w = refl
frames_of_part tables v w = refl
frames_of_part clients v w = refl
frames_of_part transactions v w = refl
frames_of_part nothing v w = refl

frames_unless : (r : Option Refusal) (before later : World) → later.stored.frames ≡ before.stored.frames → (unless_refused r before later).stored.frames ≡ before.stored.frames
frames_unless None before later same = same
frames_unless (Some r) before later same = refl

-- No command changes the number of frames.
pub frames_by : (w : World) (c : Option Command) → (world_by w c).stored.frames ≡ w.stored.frames
frames_by w None = refl
frames_by w (Some c) = frames_unless (refusal_of w c) w (after w c) (ap (λ (x : World). x.stored.frames) (after-part w c) ∙ frames_of_part (part_of c) (after w c) w)

-- After a power loss the device reads as one of the two worlds, as a restart leaves it, with its shelf and its number
-- of frames.
record Found (size : ℕ) (w under : World) (mid : State) : Type 0 where
  next : World
  which : (next ≡ restart w) ⊎ (next ≡ restart under)
  stands : world_of size (reads mid.now.words) ≡ Some (closed next)
  shelf : mid.shelf ≡ next.shelf
  again : restart next ≡ next
  frames : next.stored.frames ≡ w.stored.frames

module _ (size : ℕ) (w : World) (memory : Memory) (line : List ℕ) (before between : Counts) (old mid : State)
    (k : CarriesOut size w memory (command_of line) (Err hosts.Cut) before between old mid) (was : old.shelf ≡ w.shelf) where
  -- No file was written, and the line writes none.
  kept : mid.shelf ≡ w.shelf
  kept = KeepsFiles-none (file_in (command_of line)) old.shelf mid.shelf (k.no_file refl) k.files ∙ was

  given : k.under.shelf ≡ w.shelf
  given = shelf_of_gives w (command_of line) k.under (k.no_file refl) (k.gives refl)

  under_is : k.under ≡ world_by w (command_of line)
  under_is = Gives-plain_is w (command_of line) k.under (k.no_file refl) (k.gives refl)

  read_image : StandsBetween size w k.under (reads mid.now.words)
  read_image = (Leaves-now (Silently (StandsBetween size w k.under)) [] old mid (k.led.applies.applies.quiet ∙ sym (append-nil old.now.said)) k.led.applies.applies.moments (reads mid.now.words) (Picks-reads mid.now.words)).1

  found : Found size w k.under mid
  found = elim read_image.0 [
    | inl first ↦ record { next = restart w; which = inl refl; stands = first; shelf = kept; again = refl; frames = refl }
    | inr later ↦ record { next = restart k.under; which = inr refl; stands = later; shelf = kept ∙ sym given; again = refl; frames = ap (λ (v : World). v.stored.frames) under_is ∙ frames_by w (command_of line) }
  ]

  -- The restart finds a sound device.
  pub restart_sound : world_of size (reads mid.now.words) ≢ None
  restart_sound none = let it : Some (closed found.next) ≡ None = sym found.stands ∙ none in cc

  pub found_world : World
  found_world = found.next

  pub found_stands : world_of size (reads mid.now.words) ≡ Some (closed found_world)
  unfolding found_world
  found_stands = found.stands

  pub found_shelf : mid.shelf ≡ found_world.shelf
  unfolding found_world
  found_shelf = found.shelf

  pub found_frames : found_world.stored.frames ≡ w.stored.frames
  unfolding found_world
  found_frames = found.frames

  -- A restart leaves the world that was found as it is.
  found_again : restart found_world ≡ found_world
  unfolding found_world
  found_again = found.again

  stands_between : (image : Image) → world_of size image ≡ Some (closed found_world) → Between size w k.under image
  unfolding found_world
  stands_between image stands = elim found.which [
    | inl first ↦ inl (stands ∙ ap (λ (v : World). Some (closed v)) first)
    | inr later ↦ inr (stands ∙ ap (λ (v : World). Some (closed v)) later)
  ]

  which_world : (found_world ≡ restart w) ⊎ (found_world ≡ restart k.under)
  unfolding found_world
  which_world = found.which

  -- If the line gives the restarted world, the world that was found is the one that the line gives.
  lost_world : world_by w (command_of line) ≡ restart w → found_world ≡ k.under
  lost_world is = elim which_world [
    | inl first ↦ first ∙ sym (under_is ∙ is)
    | inr later ↦ later ∙ ap restart (under_is ∙ is) ∙ sym (under_is ∙ is)
  ]

  command_moments : Leaves (Silently (Between size w k.under)) old mid
  command_moments = stands_applied size w k.under memory (Some hosts.Cut) old mid k.led.applies.applies

  both_moments : (result : Result Memory StartFault) (new : State) → Recovers size found_world result mid new → Leaves (Silently (Between size w k.under)) old new
  both_moments result new r =
      let P = Silently (Between size w k.under) in
      Leaves-then P (Silently (λ image. world_of size image ≡ Some (closed found_world))) P [] old mid new (k.led.applies.applies.quiet ∙ sym (append-nil old.now.said))
      (λ front image m. m) (λ more image m. (m.0, stands_between image m.1)) command_moments r.moments

  -- No log was refused when power was lost, so the restart refuses none.
  allowed_after : (result : Result Memory StartFault) (new : State) → Recovers size found_world result mid new → Leaves (λ bytes image. RefusesNone image) old new
  allowed_after result new r =
      let P : List ℕ → Image → Type 0 = λ bytes image. RefusesNone image in
      Leaves-then P P P [] old mid new (k.led.applies.applies.quiet ∙ sym (append-nil old.now.said)) (λ front image m. m) (λ more image m. m)
      (allowed_applied size w k.under memory (Some hosts.Cut) old mid k.led.applies.applies)
      (r.allowed read_image.1)

  -- When power is lost, a client that is removed has its logs closed or its record used. The restart leaves this so.
  closes_after : (result : Result Memory StartFault) (new : State) → Recovers size found_world result mid new → ClosesLogs ClosesFirst w (command_of line) old new
  closes_after result new r = record {
    first = λ client is present.
        let F = w.stored.frames in
        let P : List ℕ → Image → Type 0 = λ bytes image. IsClosedIfFree F client image in
        let Q : List ℕ → Image → Type 0 = λ bytes image. IsClosedIfNamed F client image in
        let said = k.led.applies.applies.quiet ∙ sym (append-nil old.now.said) in
        let first = k.closes.first client is present in
        let known = command_of-legal line (Leave client) is in
        let at_loss = Leaves-now Q [] old mid said first (reads mid.now.words) (Picks-reads mid.now.words) in
        let here = subst (λ (n : ℕ). IsClosedIfNamed n client (reads mid.now.words)) (sym found_frames) at_loss in
        let logs = subst (λ (n : ℕ). Leaves (λ bytes image. IsClosedIfFree n client image) mid new) found_frames (r.logs read_image.1 client known here) in
        Leaves-then Q P P [] old mid new said (λ front image m. closed_if_free F client image m) (λ more image m. m) first logs;
  }

  -- The line did a part of what its command does, and then a start.
  acts_after : (result : Result Memory StartFault) (new : State) → Recovers size found_world result mid new → (answered : Result LineAnswer RunFault) → IfOk answered (IsStartedAgain (command_of line) mid new)
      → ActsInLine w (command_of line) answered old new
  acts_after result new r answered started =
      let again : StartsAgain w.stored.frames mid new = record {
        rested = k.led.applies.applies.rests refl;
        rights = subst (λ (n : ℕ). Leaves (λ bytes image. DiffersByStart n (reads mid.now.words) image) mid new) found_frames r.rights;
        tables = subst (λ (n : ℕ). Leaves (λ bytes image. tables_of n (settled_by DAEMON_LOG image) ≡ tables_of n (settled_by DAEMON_LOG (reads mid.now.words))) mid new) found_frames r.tables;
        quiet = r.quiet;
        shelf = r.shelf;
      } in
      record { done = Err hosts.Cut; mid = mid; acts = k.acts; goes_on = (again, started) }

  module _ (now : Memory) (after : Counts) (new : State) where
    -- The daemon started again after a line that was cut off.
    Settles-cut : kind_of (command_of line) ≡ ordinary → IsReplayed (reads mid.now.words) (reads new.now.words) → Recovers size found_world (Ok now) mid new → after ≡ between → CarriesOutLine size w line (Ok (answers.Reply replies.Cut)) now before after old new
    Settles-cut is replayed r same =
        let lost : between ≡ after_fault (Some hosts.Cut) before = subst (λ (x : Kind). CountsCommand x (Some hosts.Cut) before between) is k.counted in
        record {
          took = record {
            turn = cut_turn line k.under found_world;
            of_line = refl;
            is_turn = is_cut_turn w line k.under found_world (k.gives refl) which_world;
            replied = refl;
          };
          acts = acts_after (Ok now) new r (Ok (answers.Reply replies.Cut)) (record { replayed = replayed; reply = sym (ap (λ (x : Kind). answers.Reply (answer_after_loss x)) is) });
          one_line = tt;
          moments = both_moments (Ok now) new r;
          quiet = r.quiet ∙ k.led.applies.applies.quiet;
          closes = closes_after (Ok now) new r;
          allowed = allowed_after (Ok now) new r;
          ready = λ _. subst (λ (v : World). IsReady size v now new) found_again r.ready;
          counted = subst (λ (x : Kind). CountsKind x None 1 before after) (sym is) (counted_cut before between after lost same);
          sound = λ no. cc;
          script = r.script ∙ k.led.applies.applies.script;
        }

    -- The daemon started again after a line that asks for the power loss.
    Settles-lost : (pick : ℕ) → kind_of (command_of line) ≡ loses pick → IsReplayed (reads mid.now.words) (reads new.now.words) → Recovers size found_world (Ok now) mid new → after ≡ between → CarriesOutLine size w line (Ok (answers.Reply replies.Ok)) now before after old new
    Settles-lost pick is replayed r same =
        let it = restart_line w (command_of line) pick is in
        let lost = subst (λ (x : Kind). CountsCommand x (Some hosts.Cut) before between) is k.counted in
        let counts : CountsLine (command_of line) None 0 before after = subst (λ (x : Kind). CountsKind x None 0 before after) (sym is) (refl, same ∙ lost.1) in
        record {
          took = record {
            turn = turn_of line k.said k.under;
            of_line = refl;
            is_turn = is_turn_of w line k.said k.under k.step;
            replied = lost_answer w (command_of line) pick k.said k.under is k.step;
          };
          acts = acts_after (Ok now) new r (Ok (answers.Reply replies.Ok)) (record { replayed = replayed; reply = sym (ap (λ (x : Kind). answers.Reply (answer_after_loss x)) is) });
          one_line = tt;
          moments = both_moments (Ok now) new r;
          quiet = r.quiet ∙ k.led.applies.applies.quiet;
          closes = closes_after (Ok now) new r;
          allowed = allowed_after (Ok now) new r;
          ready = λ _. subst (λ (v : World). IsReady size v now new) (found_again ∙ lost_world it.given) r.ready;
          counted = counted_step w line k.said k.under None before after k.step counts;
          sound = λ no. cc;
          script = r.script ∙ k.led.applies.applies.script;
        }

    -- The daemon started again after a line of either kind.
    pub Settles-again : (kind : Kind) → kind_of (command_of line) ≡ kind → IsReplayed (reads mid.now.words) (reads new.now.words) → Recovers size found_world (Ok now) mid new → after ≡ between → CarriesOutLine size w line (Ok (answers.Reply (answer_after_loss kind))) now before after old new
    Settles-again ordinary is replayed r same = Settles-cut is replayed r same
    Settles-again (loses pick) is replayed r same = Settles-lost pick is replayed r same
    Settles-again (arms step pick) is replayed r same =
        absurd (let no : Some hosts.Cut ≡ None = (subst (λ (x : Kind). CountsCommand x (Some hosts.Cut) before between) is k.counted).0 in cc)

    -- The host failed in the restart, or power was lost in it.
    Settles-failed_again : (fault : HostFault) → Recovers size found_world (Err (starts.Host fault)) mid new → CountsLine (command_of line) (Some (of_host fault)) 0 before after
        → CarriesOutLine size w line (Err (of_host fault)) now before after old new
    Settles-failed_again fault r counts =
        record {
          took = record {
            turn = turn_of line k.said k.under;
            of_line = refl;
            is_turn = is_turn_of w line k.said k.under k.step;
            replied = tt;
          };
          acts = acts_after (Err (starts.Host fault)) new r (Err (of_host fault)) tt;
          one_line = tt;
          moments = both_moments (Err (starts.Host fault)) new r;
          quiet = r.quiet ∙ k.led.applies.applies.quiet;
          closes = closes_after (Err (starts.Host fault)) new r;
          allowed = allowed_after (Err (starts.Host fault)) new r;
          ready = λ no. absurd (cc);
          counted = counted_step w line k.said k.under (Some (of_host fault)) before after k.step counts;
          sound = host_is_sound fault;
          script = r.script ∙ k.led.applies.applies.script;
        }

    pub Settles-unstarted : (fault : StartFault) → (fault ≡ starts.NotSound → ⊥) → Recovers size found_world (Err fault) mid new → after ≡ after_fault (start_fault {T = Memory} (Err fault)) between
        → CarriesOutLine size w line (Err (of_start fault)) now before after old new
    Settles-unstarted starts.NotSound sound r last = absurd (sound refl)
    Settles-unstarted (starts.Host fault) sound r last =
        Settles-failed_again fault r (kind_unstarted (kind_of (command_of line)) (starts.Host fault) before between after k.counted last)
