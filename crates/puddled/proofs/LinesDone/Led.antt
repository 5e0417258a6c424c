-- Where frontiers are after a line, and after a restart.
use Rattle.std.proofs.Common.{◌≡◌, ◌⊎◌, inl, inr, ℕ, ◌<◌, ◌≤◌, List, [], Option, Some, None, Result, Ok, Err, refl, sym, ap, subst, ◌∙◌, arith}
use Rattle.std.proofs.lemmas.List.{append-nil}
use Rattle.pm_model.specs.declared.host.HostFault.{HostFault}
use Rattle.pm_model.specs.declared.host.HostFault.TheVariants as hosts
use Rattle.pm_model.specs.Counts.{Counts, fault_of}
use Rattle.pm_model.specs.Words.{reads}
use Rattle.pm_model.specs.Moments.{State}
use Rattle.pm_model.specs.Changes.{Leaves, Silently}
use Rattle.pm_model.specs.Calls.{Says}
use Rattle.pm_model.proofs.Words.{Picks-reads}
use Rattle.pm_model.proofs.Leaves.{Leaves-now, Leaves-then, Leaves-weaker, Leaves-says}
use Rattle.pud_defs.specs.declared.layout.TheConstants.{DAEMON_LOG, POOL_TABLE, SPACE_TABLE, PUDDLE_TABLE}
use Rattle.pud_defs.specs.declared.machine.Command.{Command}
use Rattle.pud_defs.specs.Formats.Image.{Image}
use Rattle.pud_defs.specs.StateMachine.Grammar.{command_of}
use Rattle.pud_defs.specs.Formats.Layout.{tables_end}
use Rattle.pud_defs.specs.RegistryTables.Puddles.{Member}
use Rattle.pud_defs.specs.RegistryTables.Registry.{frames_of}
use Rattle.pud_defs.specs.Logging.Replay.{settled_by}
use Rattle.pud_defs.specs.RegistryTables.Tables.{Tables, tables_of}
use Rattle.pud_defs.specs.StateMachine.World.{World}
use Rattle.pud_defs.proofs.Logging.Replay.{outside_log}
use Rattle.pud_defs.proofs.RegistryTables.TablesOf.{tables_of-same}
use Rattle.pud_defs.proofs.StateMachine.Worlds.{frames_of_world, settled-below}
use Rattle.daemon_memory.specs.Memory.{Memory}
use Rattle.daemon_memory.specs.Moves.{MovesTo, still}
use Rattle.daemon_memory.proofs.PoolChanges.Goals.{stays_still, still_stays}
use Rattle.daemon_memory.specs.declared.line_answer.LineAnswer.{LineAnswer}
use Rattle.puddled.specs.Daemon.{CarriesOut}
use Rattle.daemon_memory.specs.Leading.{LeadsUnless}
use Rattle.puddled.specs.Frontiers.{MovesFrontiers, Leads, LeadFrontiers, MoveOnTheWay}
use Rattle.daemon_memory.specs.Counted.Kind.{ordinary, loses, arms}
use Rattle.puddled.specs.Faults.{answer_after_loss}
use Rattle.daemon_memory.specs.Counted.{Kind, kind_of, CountsCommand}
use Rattle.daemon_memory.specs.declared.line_answer.LineAnswer.TheVariants as answers
use Rattle.pud_defs.specs.declared.machine.Command.TheVariants.{Cut, Arm}
use Rattle.pud_defs.specs.declared.machine.Refusal.{Refusal}
use Rattle.pud_defs.specs.declared.machine.Reply.{Reply}
use Rattle.pud_defs.specs.declared.machine.Reply.TheVariants as replies
use Rattle.pud_defs.specs.StateMachine.Step.{refusal_of}
use Rattle.std.proofs.lemmas.Option.{none-some}
use Rattle.daemon_memory.specs.Arriving.{Arrives, UnlessFailed}
use Rattle.daemon_memory.proofs.PuddlesRewritten.Arriving.{settled_gate}
use Rattle.puddled.specs.declared.daemon.StartFault.{StartFault}
use Rattle.puddled.specs.Starting.{IsReplayed, Recovers}
use Rattle.puddled.proofs.DeviceStarts.Restarts.{below_logs}
use Rattle.puddled.proofs.LinesDone.LinesCarriedOut.{found_world, found_stands, found_frames}

-- At a line that is no command nothing changed.
pub LeadFrontiers-bad : (w : World) (answered : Type 0) (image : Image) → LeadFrontiers w None answered image image
LeadFrontiers-bad w answered image = record {
  goal = still;
  leads = refl;
  each = λ frame m used. stays_still m ((tables_of w.stored.frames image).puddles frame) used;
  arrives = λ done. record { each = λ frame m used. used; come = λ frame m used. refl };
}

-- The statement holds also under a condition from which the one on the answer follows.
pub LeadFrontiers-when : (w : World) (command : Option Command) (answered more : Type 0) (before after : Image) → (more → answered) → LeadFrontiers w command answered before after → LeadFrontiers w command more before after
LeadFrontiers-when w command answered more before after so l = record { goal = l.goal; leads = l.leads; each = l.each; arrives = λ m. l.arrives (so m) }

-- If the host itself did not fail, it is known where the frontiers are led.
known_alone : {failed known unled : Type 0} → UnlessFailed failed known unled → (failed → ⊥) → known
known_alone (inl known) never = known
known_alone (inr not_known) never = absurd (never not_known.0)

-- The statement holds also under a condition that follows from the host's failure.
pub failed_as : {failed known unled told : Type 0} → (failed → told) → UnlessFailed failed known unled → UnlessFailed told known unled
failed_as so (inl known) = inl known
failed_as so (inr not_known) = inr (so not_known.0, not_known.1)

goal_unless : (why : Option Refusal) (F pick : ℕ) (before : Image) (goal : Member → Option ℕ) → LeadsUnless why (MovesFrontiers F (Cut pick) before) goal → goal ≡ still
goal_unless None F pick before goal so = so
goal_unless (Some r) F pick before goal so = so

-- A line that asks for a power loss moves no frontier.
lost_is_still : (w : World) (command : Option Command) (pick : ℕ) → kind_of command ≡ loses pick → (before : Image) (goal : Member → Option ℕ) → Leads w command before goal → goal ≡ still
lost_is_still w (Some (Cut p)) pick is before goal leads = goal_unless (refusal_of w (Cut p)) w.stored.frames p before goal leads
lost_is_still w (Some (Arm step p)) pick is before goal leads = absurd (let no : arms step p ≡ loses pick = is in cc)
lost_is_still w command pick is before goal leads = absurd (let no : ordinary ≡ loses pick = is in cc)

module _ (size : ℕ) (w : World) (memory : Memory) (command : Option Command) (counted between : Counts) (old mid : State) where
  -- What has become of each record at the end of the command, once the daemon log is replayed.
  at_end : (done : Result LineAnswer HostFault) (k : CarriesOut size w memory command done counted between old mid) (now : Tables) → tables_of w.stored.frames (settled_by DAEMON_LOG (reads mid.now.words)) ≡ now
      → (frame : ℕ) (m : Member) → (tables_of w.stored.frames (reads old.now.words)).puddles frame ≡ Some m → MovesTo k.led.goal m (now.puddles frame)
  at_end done k now is frame m used =
      subst (λ (t : Tables). MovesTo k.led.goal m (t.puddles frame)) is
      (Leaves-now (Silently (λ image. MovesTo k.led.goal m ((tables_of w.stored.frames (settled_by DAEMON_LOG image)).puddles frame))) [] old mid (k.led.applies.applies.quiet ∙ sym (append-nil old.now.said))
      (k.led.applies.applies.puddles.each frame m used) (reads mid.now.words) (Picks-reads mid.now.words)).1

  -- The command was carried out or refused.
  pub LeadFrontiers-done : (so : Type 0) (answered : LineAnswer) → CarriesOut size w memory command (Ok answered) counted between old mid → LeadFrontiers w command so (reads old.now.words) (reads mid.now.words)
  LeadFrontiers-done so answered k = record {
    goal = k.led.goal;
    leads = known_alone k.led.leads (λ no. none-some hosts.Failed no);
    arrives = λ it. k.led.applies.arrives refl;
    each = at_end (Ok answered) k (tables_of w.stored.frames (reads mid.now.words)) (settled_gate size k.under memory mid w.stored.frames (k.led.applies.applies.ready refl));
  }

-- ---- at every moment

-- This holds for the command alone.
module _ (size : ℕ) (w : World) (memory : Memory) (command : Option Command) (done : Result LineAnswer HostFault) (counted between : Counts) (old mid : State) (k : CarriesOut size w memory command done counted between old mid) where
  each_moment : (frame : ℕ) (m : Member) → (tables_of w.stored.frames (reads old.now.words)).puddles frame ≡ Some m
      → Leaves (λ bytes image. MovesTo k.led.goal m ((tables_of w.stored.frames (settled_by DAEMON_LOG image)).puddles frame)) old mid
  each_moment frame m used =
      let F = w.stored.frames in
      Leaves-weaker (Silently (λ image. MovesTo k.led.goal m ((tables_of F (settled_by DAEMON_LOG image)).puddles frame))) (λ bytes image. MovesTo k.led.goal m ((tables_of F (settled_by DAEMON_LOG image)).puddles frame)) old mid
      (λ bytes image so. so.1) (k.led.applies.applies.puddles.each frame m used)

  pub MoveOnTheWay-done : (failed : Type 0) → (fault_of done ≡ Some hosts.Failed → failed) → MoveOnTheWay w command failed old mid
  MoveOnTheWay-done failed so = record { goal = k.led.goal; leads = failed_as so k.led.leads; each = each_moment }

-- It holds for a restart after the command.
module _ (size : ℕ) (w : World) (memory : Memory) (line : List ℕ) (counted between : Counts) (old mid : State) (k : CarriesOut size w memory (command_of line) (Err hosts.Cut) counted between old mid)
    (was : old.shelf ≡ w.shelf) (result : Result Memory StartFault) (new : State) (r : Recovers size (found_world size w memory line counted between old mid k was) result mid new) where
  tables_left : Leaves (λ bytes image. tables_of w.stored.frames (settled_by DAEMON_LOG image) ≡ tables_of w.stored.frames (settled_by DAEMON_LOG (reads mid.now.words))) mid new
  tables_left = subst (λ (F : ℕ). Leaves (λ bytes image. tables_of F (settled_by DAEMON_LOG image) ≡ tables_of F (settled_by DAEMON_LOG (reads mid.now.words))) mid new)
      (found_frames size w memory line counted between old mid k was) r.tables

  pub MoveOnTheWay-lost : (failed : Type 0) → MoveOnTheWay w (command_of line) failed old new
  MoveOnTheWay-lost failed = record {
    goal = k.led.goal;
    leads = failed_as (λ no. absurd (let it : Some hosts.Cut ≡ Some hosts.Failed = no in cc)) k.led.leads;
    each = λ frame m used.
        let P : Image → Type 0 = λ image. MovesTo k.led.goal m ((tables_of w.stored.frames (settled_by DAEMON_LOG image)).puddles frame) in
        let here = at_end size w memory (command_of line) counted between old mid (Err hosts.Cut) k (tables_of w.stored.frames (settled_by DAEMON_LOG (reads mid.now.words))) refl frame m used in
        Leaves-then (λ bytes image. P image) (λ bytes image. P image) (λ bytes image. P image) [] old mid new (k.led.applies.applies.quiet ∙ sym (append-nil old.now.said)) (λ front image so. so) (λ more image so. so)
        (each_moment size w memory (command_of line) (Err hosts.Cut) counted between old mid k frame m used)
        (Leaves-weaker (λ bytes image. tables_of w.stored.frames (settled_by DAEMON_LOG image) ≡ tables_of w.stored.frames (settled_by DAEMON_LOG (reads mid.now.words))) (λ bytes image. P image) mid new
        (λ bytes image same. subst (λ (t : Tables). MovesTo k.led.goal m (t.puddles frame)) (sym same) here) tables_left);
  }

-- It holds while an answer is printed after that.
pub MoveOnTheWay-said : (w : World) (command : Option Command) (failed told : Type 0) (old mid new : State) → (failed → told) → mid.now.said ≡ old.now.said → (text : List ℕ) (fault : Option HostFault) → Says text fault mid new
    → MoveOnTheWay w command failed old mid → MoveOnTheWay w command told old new
MoveOnTheWay-said w command failed told old mid new so quiet text fault says moves = record {
  goal = moves.goal;
  leads = failed_as so moves.leads;
  each = λ frame m used.
      let P : List ℕ → Image → Type 0 = λ bytes image. MovesTo moves.goal m ((tables_of w.stored.frames (settled_by DAEMON_LOG image)).puddles frame) in
      let said = quiet ∙ sym (append-nil old.now.said) in
      let before = moves.each frame m used in
      Leaves-then P P P [] old mid new said (λ front image it. it) (λ more image it. it) before
      (Leaves-says text fault P mid new (λ front image prefix picked. Leaves-now P [] old mid said before image picked) says);
}

-- It holds if nothing more was done.
pub MoveOnTheWay-as : (w : World) (command : Option Command) (failed told : Type 0) (old new : State) → (failed → told) → MoveOnTheWay w command failed old new → MoveOnTheWay w command told old new
MoveOnTheWay-as w command failed told old new so moves = record { goal = moves.goal; leads = failed_as so moves.leads; each = moves.each }

-- ---- after a restart

-- Power was lost, and after the restart the device reads as it was settled.
module _ (size : ℕ) (w : World) (memory : Memory) (line : List ℕ) (counted between : Counts) (old mid : State) (k : CarriesOut size w memory (command_of line) (Err hosts.Cut) counted between old mid)
    (was : old.shelf ≡ w.shelf) (now : Image) (replayed : IsReplayed (reads mid.now.words) now) where
  abbrev image : Image
  image = reads mid.now.words

  same_frames : frames_of image ≡ w.stored.frames
  same_frames =
      frames_of_world size image _ (found_stands size w memory line counted between old mid k was) ∙ found_frames size w memory line counted between old mid k was

  settled_word : (n : ℕ) → (n < SPACE_TABLE) ⊎ (PUDDLE_TABLE ≤ n) → POOL_TABLE ≤ n → n < tables_end w.stored.frames → settled_by DAEMON_LOG image n ≡ now n
  settled_word n beside low high =
      let below : n < tables_end (frames_of image) = subst (λ (F : ℕ). n < tables_end F) (sym same_frames) high in
      sym (replayed.each n (λ e. absurd (omega arith)) (outside_log DAEMON_LOG n (inr (omega arith))) (below_logs (frames_of image) n below) beside ∙ settled-below (frames_of image) image n below)

  settled_tables : tables_of w.stored.frames (settled_by DAEMON_LOG image) ≡ tables_of w.stored.frames now
  settled_tables =
      tables_of-same w.stored.frames (settled_by DAEMON_LOG image) now (λ n low high. settled_word n (inl high) low (omega arith)) (λ n low high. settled_word n (inr low) (omega arith) high)

  each_lost : (frame : ℕ) (m : Member) → (tables_of w.stored.frames (reads old.now.words)).puddles frame ≡ Some m → MovesTo k.led.goal m ((tables_of w.stored.frames now).puddles frame)
  each_lost = at_end size w memory (command_of line) counted between old mid (Err hosts.Cut) k (tables_of w.stored.frames now) settled_tables

  leads_lost : Leads w (command_of line) (reads old.now.words) k.led.goal
  leads_lost = known_alone k.led.leads (λ no. let it : Some hosts.Cut ≡ Some hosts.Failed = no in cc)

  -- A line that is answered `cut` promises no more. One that asks for the loss moves no frontier.
  arrives_lost : (kind : Kind) → kind_of (command_of line) ≡ kind → (answers.Reply (answer_after_loss kind) ≡ answers.Reply replies.Cut → ⊥) → Arrives w.stored.frames k.led.goal (reads old.now.words) now
  arrives_lost ordinary is uncut = absurd (uncut refl)
  arrives_lost (loses pick) is uncut =
      let goal = lost_is_still w (command_of line) pick is (reads old.now.words) k.led.goal leads_lost in
      subst (λ (to : Member → Option ℕ). Arrives w.stored.frames to (reads old.now.words) now) (sym goal)
      (record {
        each = λ frame m used. still_stays m ((tables_of w.stored.frames now).puddles frame) (subst (λ (to : Member → Option ℕ). MovesTo to m ((tables_of w.stored.frames now).puddles frame)) goal (each_lost frame m used));
        come = λ frame m used. refl;
      })
  arrives_lost (arms step pick) is uncut = absurd (let no : Some hosts.Cut ≡ None = (subst (λ (x : Kind). CountsCommand x (Some hosts.Cut) counted between) is k.counted).0 in cc)

  pub LeadFrontiers-lost : (reply : Reply) → reply ≡ answer_after_loss (kind_of (command_of line)) → LeadFrontiers w (command_of line) (answers.Reply reply ≡ answers.Reply replies.Cut → ⊥) (reads old.now.words) now
  LeadFrontiers-lost reply is = record {
    goal = k.led.goal;
    leads = leads_lost;
    each = each_lost;
    arrives = λ uncut. arrives_lost (kind_of (command_of line)) refl (λ cut. uncut (ap (λ (r : Reply). answers.Reply r) is ∙ cut));
  }
