-- Lemmas on one run over a script, from the start to the exit.
use Rattle.std.proofs.Common.{◌<◌, ◌≡◌, ℕ, ◌+◌, ◌≤◌, Bool, true, false, List, [], ◌∷◌, ◌++◌, Option, Some, None, Result, Ok, Err, refl, sym, ap, subst, ◌∙◌, arith, append_assoc}
use Rattle.std.proofs.lemmas.List.{append-nil}
use Rattle.pm_model.specs.declared.host.HostFault.{HostFault}
use Rattle.pm_model.specs.declared.host.HostFault.TheVariants as hosts
use Rattle.pm_model.specs.Counts.{Counts, after_fault}
use Rattle.pm_model.specs.Words.{Image, IsRested, reads}
use Rattle.pm_model.specs.Moments.{State}
use Rattle.pm_model.specs.Changes.{Leaves}
use Rattle.pm_model.proofs.Leaves.{Leaves-then, Leaves-weaker, Leaves-each}
use Rattle.pud_defs.specs.StateMachine.Grammar.{command_of}
use Rattle.pud_defs.specs.StateMachine.World.{World, StoredWorld, no_clients, nothing_open, world_of, closed, restart}
use Rattle.pud_defs.specs.StateMachine.Run.{last_world, Turn, cuts_of, newlines}
use Rattle.pud_defs.specs.Output.Texts.{replies_text}
use Rattle.pud_defs.specs.Output.StartText.{start_text}
use Rattle.pud_defs.specs.StateMachine.Stands.{StandsWith, StandsAfterLines}
use Rattle.daemon_memory.proofs.Commands.Beside.{ready_stands}
use Rattle.pud_defs.proofs.StateMachine.Changing.{KeepsFiles-still, KeepsUnwritable-still, KeepsUnwritable-then}
use Rattle.pud_defs.proofs.StateMachine.Lines.{newlines-append, newlines_part, lines_taken-nothing}
use Rattle.pud_defs.proofs.StateMachine.Stands.{StandsAfterLines-closed, StandsAfterLines-after}
use Rattle.recover.specs.Recovery.{RefusesSame}
use Rattle.independence.proofs.Runs.{independent_whole}
use Rattle.puddled.specs.declared.daemon.RunFault.{RunFault}
use Rattle.puddled.specs.declared.daemon.RunFault.TheVariants as faults
use Rattle.puddled.specs.Faults.{risen_by, RoseBy, last_fault, CountsTurns}
use Rattle.puddled.proofs.DeviceStarts.Beginning.{lines_of_start}
use Rattle.puddled.proofs.DeviceStarts.Counted.{risen_by-more, CountsTurns-cuts, counted_ends, cuts_of_ends, lost_in_restart, cuts_after_fault}
use Rattle.puddled.specs.declared.daemon.StartFault.{StartFault}
use Rattle.puddled.specs.declared.daemon.StartFault.TheVariants as starts
use Rattle.daemon_memory.specs.Memory.{Memory}
use Rattle.daemon_memory.specs.Ready.{KeepsInput, IsReady, RefusesNone}
use Rattle.puddled.specs.Starting.{DiffersByStart, HasTablesOf, refused_text, IsReplayed, StandsInStart, Starts, Begins}
use Rattle.puddled.specs.DoesLines.{DoesPending}
use Rattle.puddle_cli.specs.declared.status.TheConstants.{DONE, TOO_LONG}
use Rattle.puddle_cli.specs.Status.{status_fault, run_fault_at, status_at, status_to, IsStatusOfMode}
use Rattle.puddle_cli.specs.declared.run.Served.{Served}
use Rattle.puddle_cli.specs.declared.source.Source.{Source}
use Rattle.puddle_cli.specs.declared.source.Source.TheVariants.{Script, Generated}
use Rattle.puddle_cli.specs.Source.{is_aloud, bytes_left}
use Rattle.puddle_cli.specs.Serving.{TakesTo, TakesBy, CountsPending, AllowsLogs, HasServed, HasServedBy}
use Rattle.puddle_cli.specs.Headline.{TakesScript, cuts_lost, StartMoments, RunCounts, Headline}
use Rattle.puddled.proofs.LinesDone.Lines.{prefix_of_nothing}
use Rattle.puddle_cli.proofs.Statuses.{not_whole_of, fault_at_status, not_whole_at}

-- ---- the counts of all lines, and of what ended the run

rose_pending : (pending : List Turn) (fault : Option RunFault) (a b : Counts) → CountsPending pending fault a b → a.cuts ≤ b.cuts
rose_pending [] fault a b c =
    let later = cuts_after_fault (last_fault fault) a in
    let e : b.cuts ≡ (after_fault (last_fault fault) a).cuts = ap (λ (x : Counts). x.cuts) c.1 in
    omega arith
rose_pending (t ∷ turns) fault a b c = cuts_of_ends fault a b (counted_ends (command_of t.line) fault (cuts_of (t ∷ [])) a b c)

lost_pending : (pending : List Turn) (a b : Counts) → CountsPending pending (Some faults.CutInStart) a b → b.cuts ≡ risen_by (cuts_lost pending) a.cuts
lost_pending [] a b c = absurd (c.0 refl)
lost_pending (t ∷ turns) a b c = lost_in_restart (command_of t.line) (cuts_of (t ∷ [])) a b c

module _ (answered pending : List Turn) (fault : Option RunFault) (before mid after : Counts) (turns : CountsTurns answered before mid) (last : CountsPending pending fault mid after) where
  rose_in_all : RoseBy (cuts_of answered) before.cuts after.cuts
  rose_in_all =
      let first = CountsTurns-cuts answered before mid turns in
      let later = rose_pending pending fault mid after last in
      omega arith

  -- If no line is under way at the end, the cuts counted are exactly those of the answered lines.
  exact_in_all : fault ≡ None → pending ≡ [] → after.cuts ≡ risen_by (cuts_of answered) before.cuts
  exact_in_all none nothing =
      let still : CountsPending [] None mid after = subst (λ (p : List Turn). CountsPending p None mid after) nothing (subst (λ (f : Option RunFault). CountsPending pending f mid after) none last) in
      ap (λ (x : Counts). x.cuts) still.1 ∙ CountsTurns-cuts answered before mid turns

  exact_at_end : fault ≡ Some faults.CutInStart → after.cuts ≡ risen_by (cuts_lost pending + cuts_of answered) before.cuts
  exact_at_end lost =
      lost_pending pending mid after (subst (λ (f : Option RunFault). CountsPending pending f mid after) lost last)
      ∙ ap (λ (x : ℕ). risen_by (cuts_lost pending) x) (CountsTurns-cuts answered before mid turns)
      ∙ sym (risen_by-more (cuts_of answered) (cuts_lost pending) before.cuts)

-- Within the start only its fault is counted.
pub counted_in_start : (fault : HostFault) (status : ℕ) (before after : Counts) → IsStatusOfMode status → status_fault status ≡ Some fault → after ≡ after_fault (Some fault) before → RunCounts false [] [] status before after
counted_in_start fault status before after of_mode is last =
    let not_whole = not_whole_of status fault of_mode is in
    record {
      mid = before;
      in_start = λ _. last ∙ ap (λ (f : Option HostFault). after_fault f before) (sym is);
      turns_counted = refl;
      pending_counted = λ e. absurd (let it : false ≡ true = e in cc);
      cuts = subst (λ (x : Counts). before.cuts ≤ x.cuts) (sym last) (cuts_after_fault (Some fault) before);
      exact = λ none. absurd (not_whole none);
      exact_at_loss = λ lost.
          let cut : Some fault ≡ Some hosts.Cut = sym is ∙ ap status_fault lost in
          ap (λ (x : Counts). x.cuts) (last ∙ ap (λ (f : Option HostFault). after_fault f before) cut);
    }

-- After the start each line is counted, and the end of the line under way.
pub counted_after_start : (status : ℕ) (fault : Option RunFault) (before mid after : Counts) (answered pending : List Turn) → run_fault_at status ≡ fault → (fault ≡ None → pending ≡ [])
    → CountsTurns answered before mid → CountsPending pending fault mid after → RunCounts true answered pending status before after
counted_after_start status fault before mid after answered pending is whole turns last = record {
  mid = mid;
  in_start = λ e. absurd (let it : true ≡ false = e in cc);
  turns_counted = turns;
  pending_counted = λ _. subst (λ (f : Option RunFault). CountsPending pending f mid after) (sym is) last;
  cuts = rose_in_all answered pending fault before mid after turns last;
  exact = λ none. exact_in_all answered pending fault before mid after turns last (sym is ∙ none) (whole (sym is ∙ none));
  exact_at_loss = λ lost. exact_at_end answered pending fault before mid after turns last (sym is ∙ ap run_fault_at lost);
}

-- A start on a rested device whose words stand for this world.
module _ (size : ℕ) (w : World) (start : State) (rested : IsRested start.now.words) (stands : world_of size (reads start.now.words) ≡ Some (closed w)) where
  -- What the start prints.
  abbrev text : List ℕ
  text = start_text (reads start.now.words)

  start_moments : (turns : List Turn) (result : Result Memory StartFault) (now : State) → Starts size w result start now
      → Leaves (λ bytes image. StandsAfterLines (newlines text) size w turns (newlines bytes) image) start now
  start_moments turns result now s =
      Leaves-weaker _ _ start now
      (λ bytes image m.
      let part = newlines_part bytes m.part.rest in
      let whole = ap newlines (sym m.part.is) in
      StandsAfterLines-closed (newlines text) size w turns (newlines bytes) image (omega arith) m.stands) s.moments

  -- Until the start's text is printed whole, an image differs from what was read only where a start may write.
  abbrev Rights : List ℕ → Image → Type 0
  Rights said image = newlines said < newlines text → DiffersByStart w.stored.frames (reads start.now.words) image

  -- Until then no record changes.
  abbrev Tables : List ℕ → Image → Type 0
  Tables said image = newlines said < newlines text → HasTablesOf w.stored.frames (reads start.now.words) image

  -- Until each refused log is reported, the same logs are refused.
  abbrev Untold : List ℕ → Image → Type 0
  Untold said image = newlines said < newlines (refused_text (reads start.now.words)) → RefusesSame w.stored.frames (reads start.now.words) image

  -- Once the text is printed whole, no registered log is refused.
  abbrev Allowed : List ℕ → Image → Type 0
  Allowed said image = newlines text ≤ newlines said → RefusesNone image

  start_rights : (result : Result Memory StartFault) (now : State) → Starts size w result start now → Leaves Rights start now
  start_rights result now s = Leaves-weaker (StandsInStart size (closed w) (reads start.now.words)) Rights start now (λ bytes image m few. m.rights) s.moments

  start_tables : (result : Result Memory StartFault) (now : State) → Starts size w result start now → Leaves Tables start now
  start_tables result now s = Leaves-weaker (StandsInStart size (closed w) (reads start.now.words)) Tables start now (λ bytes image m few. m.tables) s.moments

  start_untold : (result : Result Memory StartFault) (now : State) → Starts size w result start now → Leaves Untold start now
  start_untold result now s = Leaves-weaker (StandsInStart size (closed w) (reads start.now.words)) Untold start now (λ bytes image m few. m.untold few) s.moments

  start_allowed : (result : Result Memory StartFault) (now : State) → Starts size w result start now → Leaves Allowed start now
  start_allowed result now s = Leaves-weaker (StandsInStart size (closed w) (reads start.now.words)) Allowed start now (λ bytes image m whole. m.allowed whole) s.moments

  -- The lines on refused logs are no more than the lines of the text.
  fewer_lines : newlines (refused_text (reads start.now.words)) ≤ newlines text
  fewer_lines = lines_of_start (reads start.now.words)

  pub moments_in_start : (result : Result Memory StartFault) (now : State) → Starts size w result start now → StartMoments w.stored.frames start now
  moments_in_start result now s = record {
    rights = Leaves-each Rights start now (start_rights result now s);
    tables = Leaves-each Tables start now (start_tables result now s);
    untold = Leaves-each Untold start now (start_untold result now s);
    allowed = Leaves-each Allowed start now (start_allowed result now s);
  }

  -- A start that came to its end printed its whole text.
  pub text_said : (memory : Memory) (mid : State) → Starts size w (Ok memory) start mid → mid.now.said ≡ start.now.said ++ text
  text_said memory mid s = s.says.said ∙ ap (λ (l : List ℕ). start.now.said ++ l) (sym (s.says.part ∙ ap (λ (l : List ℕ). s.says.bytes ++ l) (s.says.whole refl) ∙ append-nil s.says.bytes))

  -- That is all that it did.
  pub Begins-said : (memory : Memory) (mid : State) → Starts size w (Ok memory) start mid → IsReplayed (reads start.now.words) (reads mid.now.words) → Begins size (closed w) start mid
  Begins-said memory mid s replayed = record { said = text_said memory mid s; moments = s.moments; last = s.last; replayed = replayed; script = s.script; shelf = s.shelf }

  -- What follows the start adds nothing to its moments, as long as no registered log is refused.
  pub moments_after_start : (P : List ℕ → Image → Type 0) (memory : Memory) (mid now : State) → Starts size w (Ok memory) start mid → mid.now.said ≡ start.now.said ++ text → Leaves P mid now → AllowsLogs mid now → StartMoments w.stored.frames start now
  moments_after_start P memory mid now s first moments allowed = record {
    rights = Leaves-each Rights start now (Leaves-then Rights P Rights text start mid now first (λ front image p. p)
        (λ more image p. λ few. let count = newlines-append text more in absurd (omega arith)) (start_rights (Ok memory) mid s) moments);
    tables = Leaves-each Tables start now (Leaves-then Tables P Tables text start mid now first (λ front image p. p)
        (λ more image p. λ few. let count = newlines-append text more in absurd (omega arith)) (start_tables (Ok memory) mid s) moments);
    untold = Leaves-each Untold start now (Leaves-then Untold P Untold text start mid now first (λ front image p. p)
        (λ more image p. λ few. let count = newlines-append text more in let fewer = fewer_lines in absurd (omega arith)) (start_untold (Ok memory) mid s) moments);
    allowed = Leaves-each Allowed start now (Leaves-then Allowed (λ bytes image. RefusesNone image) Allowed text start mid now first (λ front image p. p)
        (λ more image p. λ whole. p) (start_allowed (Ok memory) mid s) allowed);
  }

  -- The host failed within the start, or power was lost in it.
  pub Headline-in_start : (fault : HostFault) (status : ℕ) (before after : Counts) (now : State) → IsStatusOfMode status → status_fault status ≡ Some fault
      → after ≡ after_fault (Some fault) before → start.shelf ≡ w.shelf → Starts size w (Err (starts.Host fault)) start now → Headline size w status before after start now
  Headline-in_start fault status before after now of_mode is last shelf s =
      let not_whole = not_whole_of status fault of_mode is in
      record {
        run = record {
          begun = false;
          taken = [];
          ended = false;
          script = sym s.script;
          to_end = λ e. absurd (let it : false ≡ true = e in cc);
          answered = [];
          pending = [];
          few = omega arith;
          is_run = tt;
          lines = sym (lines_taken-nothing false);
          nothing_yet = λ _. (refl, refl);
        };
        exit = record {
          bytes = s.says.bytes;
          said = s.says.said;
          in_start = λ _. record { rest = s.says.rest; is = s.says.part };
          starting = λ _. s.moments;
          after_start = λ e. absurd (let it : false ≡ true = e in cc);
          does = λ e. absurd (let it : false ≡ true = e in cc);
          whole = λ none. absurd (not_whole none);
          all_lines = λ done. absurd (not_whole (ap run_fault_at done));
          not_ended = λ _. refl;
          ends = λ none. absurd (not_whole none);
          files = KeepsFiles-still None w.shelf now.shelf (s.shelf ∙ shelf);
          shelf_of_run = λ none. absurd (not_whole none);
        };
        moments = record {
          stands = Leaves-each (λ said image. StandsAfterLines (newlines text) size w [] (newlines said) image) start now (start_moments [] (Err (starts.Host fault)) now s);
          in_start = moments_in_start (Err (starts.Host fault)) now s;
        };
        counted = counted_in_start fault status before after of_mode is last;
        independent = λ done. absurd (not_whole (ap run_fault_at done));
      }

  said_after : (mid now : State) (replies more : List ℕ) → mid.now.said ≡ start.now.said ++ text → now.now.said ≡ mid.now.said ++ replies ++ more
      → now.now.said ≡ start.now.said ++ (text ++ replies ++ more)
  said_after mid now replies more first later =
      later ∙ ap (λ (l : List ℕ). l ++ replies ++ more) first
      ∙ ap (λ (l : List ℕ). l ++ more) (append_assoc start.now.said text replies)
      ∙ append_assoc start.now.said (text ++ replies) more

  -- The start was printed whole, and the script was answered so far.
  pub Headline-after_start : (status : ℕ) (ended : Bool) (fault : Option RunFault) (before after : Counts) (memory : Memory) (mid now : State) → Starts size w (Ok memory) start mid
      → IsReplayed (reads start.now.words) (reads mid.now.words) → run_fault_at status ≡ fault → (status ≡ DONE → ended ≡ true) → (status ≡ TOO_LONG → ended ≡ false)
      → (refused : ℕ) → HasServed size w true mid.script ended fault before after mid now now.script refused → Headline size w status before after start now
  Headline-after_start status ended fault before after memory mid now s replayed is done too_long refused a =
      let first = text_said memory mid s in
      record {
        run = record {
          begun = true;
          taken = a.run.taken;
          ended = ended;
          script = sym s.script ∙ a.run.is;
          to_end = a.run.to_end;
          answered = a.run.answered;
          pending = a.run.pending;
          few = a.run.few;
          is_run = a.run.is_run;
          lines = a.run.lines;
          nothing_yet = λ e. absurd (let it : true ≡ false = e in cc);
        };
        exit = record {
          bytes = text ++ replies_text a.run.answered ++ a.says.more;
          said = said_after mid now (replies_text a.run.answered) a.says.more first a.says.said;
          in_start = λ e. absurd (let it : true ≡ false = e in cc);
          starting = λ e. absurd (let it : true ≡ false = e in cc);
          after_start = λ _. record { more = a.says.more; rest = a.says.rest; said = refl; part = a.says.part };
          does = λ _. record {
            ready = mid;
            begins = Begins-said memory mid s replayed;
            last = a.did.last;
            does = a.did.does;
            under_way = subst (λ (f : Option RunFault). DoesPending (last_world w a.run.answered) a.run.pending f a.did.last now) (sym is) a.did.under_way;
          };
          whole = λ none.
              let nothing = a.run.whole (sym is ∙ none) in
              let no_more = prefix_of_nothing a.says.more a.says.rest (ap replies_text (sym nothing) ∙ a.says.part) in
              (nothing, ap (λ (l : List ℕ). text ++ replies_text a.run.answered ++ l) no_more ∙ append-nil (text ++ replies_text a.run.answered));
          all_lines = done;
          not_ended = too_long;
          ends = λ none image picked. (ready_stands size (last_world w a.run.answered) _ _ (a.ready (sym is ∙ none)) image picked).0;
          files = a.files;
          shelf_of_run = λ none. (a.ready (sym is ∙ none)).shelf;
        };
        moments = record {
          stands = Leaves-each (λ said image. StandsAfterLines (newlines text) size w (a.run.answered ++ a.run.pending) (newlines said) image) start now (Leaves-then _ (StandsWith size w (a.run.answered ++ a.run.pending)) _ text start mid now first
              (λ front image p. p)
              (λ more image p. subst (λ (n : ℕ). StandsAfterLines (newlines text) size w (a.run.answered ++ a.run.pending) n image)
              (sym (newlines-append text more)) (StandsAfterLines-after (newlines text) size w (a.run.answered ++ a.run.pending) (newlines more) image p))
              (start_moments (a.run.answered ++ a.run.pending) (Ok memory) mid s) a.moments);
          in_start = moments_after_start (StandsWith size w (a.run.answered ++ a.run.pending)) memory mid now s first a.moments a.allowed;
        };
        counted = counted_after_start status fault before a.counts.mid after a.run.answered a.run.pending is a.run.whole a.counts.turns_counted a.counts.counted;
        independent = λ end. independent_whole w a.run.taken ended a.run.answered a.run.pending (done end) (a.run.whole (sym is ∙ ap run_fault_at end)) a.run.is_run a.run.lines;
      }

-- A world without clients, in which no transaction is open, is as a start leaves it.
pub is_started : (w : World) → w.clients ≡ no_clients → w.transactions ≡ nothing_open → restart w ≡ w
is_started w none nothing = λ i. record w { clients = sym none i; transactions = sym nothing i }

-- The status, by how the script was answered.
pub fault_at_end : (ended : Bool) (status : ℕ) → status ≡ status_to ended → run_fault_at status ≡ None
fault_at_end true status is = ap run_fault_at is
fault_at_end false status is = ap run_fault_at is

abbrev pub status_by : Result Served RunFault → ℕ
status_by (Ok served) = status_to served.ended
status_by (Err fault) = status_at fault

-- If the replies of a source are printed, its bytes left are those of the script.
pub script_left : (source : Source) (s : State) → is_aloud source ≡ true → bytes_left source s ≡ s.script
script_left Script s aloud = refl
script_left (Generated bytes) s aloud = absurd (let no : false ≡ true = aloud in cc)

-- A start that came to its end, and the script that was answered after it.
module _ (size : ℕ) (begun after : Counts) (memory : Memory) (start mid now : State) where
  served_to : (before : Counts) (w : World) → IsRested start.now.words → world_of size (reads start.now.words) ≡ Some (closed w) → Starts size w (Ok memory) start mid → IsReplayed (reads start.now.words) (reads mid.now.words)
      → (ended : Bool) (refused : ℕ) → HasServed size w true mid.script ended None before after mid now now.script refused → Headline size w (status_to ended) before after start now
  served_to before w rested stands s replayed true refused a =
      Headline-after_start size w start rested stands DONE true None before after memory mid now s replayed refl (λ _. refl) (λ e. absurd (let no : DONE ≡ TOO_LONG = e in cc)) refused a
  served_to before w rested stands s replayed false refused a =
      Headline-after_start size w start rested stands TOO_LONG false None before after memory mid now s replayed refl (λ e. absurd (let no : TOO_LONG ≡ DONE = e in cc)) (λ _. refl) refused a

  served_by : (before : Counts) (w : World) → IsRested start.now.words → world_of size (reads start.now.words) ≡ Some (closed w) → Starts size w (Ok memory) start mid → IsReplayed (reads start.now.words) (reads mid.now.words)
      → (served : Result Served RunFault) → HasServedBy size w true mid.script served before after mid now now.script → Headline size w (status_by served) before after start now
  served_by before w rested stands s replayed (Ok served) a = served_to before w rested stands s replayed served.ended served.refused a
  served_by before w rested stands s replayed (Err fault) a =
      Headline-after_start size w start rested stands (status_at fault) a.0 (Some fault) before after memory mid now s replayed (fault_at_status fault)
      (λ e. absurd (not_whole_at fault DONE refl e)) (λ e. absurd (not_whole_at fault TOO_LONG refl e)) 0 a.1

  pub Headline-served : (before : Counts) (w : World) → IsRested start.now.words → world_of size (reads start.now.words) ≡ Some (closed w) → w.clients ≡ no_clients → w.transactions ≡ nothing_open → Starts size w (Ok memory) start mid → IsReplayed (reads start.now.words) (reads mid.now.words) → begun ≡ before
      → (served : Result Served RunFault) → (IsReady size w memory mid → HasServedBy size w true mid.script served begun after mid now now.script) → Headline size w (status_by served) before after start now
  Headline-served before w rested stands none nothing s replayed counts served answers =
      served_by before w rested stands s replayed served
      (subst (λ (x : Counts). HasServedBy size w true mid.script served x after mid now now.script) counts (answers (subst (λ (v : World). IsReady size v memory mid) (is_started w none nothing) s.ready)))

  -- A run from a device that stands for a world never ends with the device not sound.
  pub never_unsound : (fault : RunFault) → ((w : World) → world_of size (reads start.now.words) ≡ Some (closed w) → start.shelf ≡ w.shelf → Starts size w (Ok memory) start mid)
      → (aloud : Bool) (all left : List ℕ) → ((w : World) → IsReady size w memory mid → HasServedBy size w aloud all (Err fault) begun after mid now left)
      → (s : StoredWorld) → world_of size (reads start.now.words) ≡ Some s → Some fault ≡ Some faults.NotSound → ⊥
  never_unsound fault begins aloud all left answers s stands unsound =
      let w : World = record { stored = s; clients = no_clients; shelf = start.shelf; transactions = nothing_open } in
      (answers w (begins w stands refl).ready).1.sound unsound

-- ---- the bytes taken, whatever the device stores

-- Before the start is printed whole, nothing is taken.
pub TakesScript-unstarted : (status : ℕ) (start end : State) → KeepsInput start end → (run_fault_at status ≡ None → ⊥) → TakesScript status start end
TakesScript-unstarted status start end kept faulty = record {
  taken = [];
  script = sym kept.script;
  within = omega arith;
  done = λ is. absurd (faulty (ap run_fault_at is));
  too_long = λ is. absurd (faulty (ap run_fault_at is));
  exact = λ none. absurd (faulty none);
  files = KeepsUnwritable-still start.shelf end.shelf kept.shelf;
}

-- After the start, what the loop over the script took is taken.
taken_to : (ended : Bool) (start mid end : State) → KeepsInput start mid → TakesTo ended mid.script mid end end.script → TakesScript (status_to ended) start end
taken_to true start mid end kept t =
    let files = KeepsUnwritable-then start.shelf mid.shelf end.shelf (KeepsUnwritable-still start.shelf mid.shelf kept.shelf) t.files in
    let below = t.below in
    record {
      taken = t.taken;
      script = sym kept.script ∙ t.is;
      within = omega arith;
      done = λ _. (t.none_left, t.below);
      too_long = λ is. absurd (let no : DONE ≡ TOO_LONG = is in cc);
      exact = λ _. (λ is. absurd (let no : DONE ≡ TOO_LONG = is in cc), λ all. absurd (omega arith));
      files = files;
    }
taken_to false start mid end kept t =
    let files = KeepsUnwritable-then start.shelf mid.shelf end.shelf (KeepsUnwritable-still start.shelf mid.shelf kept.shelf) t.files in
    let counted = t.counted in
    record {
      taken = t.taken;
      script = sym kept.script ∙ t.is;
      within = omega arith;
      done = λ is. absurd (let no : TOO_LONG ≡ DONE = is in cc);
      too_long = λ _. t.counted;
      exact = λ _. (λ _. t.counted, λ _. refl);
      files = files;
    }

pub TakesScript-served : (served : Result Served RunFault) (start mid end : State) → KeepsInput start mid → TakesBy mid.script served mid end end.script → TakesScript (status_by served) start end
TakesScript-served (Ok served) start mid end kept t = taken_to served.ended start mid end kept t
TakesScript-served (Err fault) start mid end kept t =
    let files = KeepsUnwritable-then start.shelf mid.shelf end.shelf (KeepsUnwritable-still start.shelf mid.shelf kept.shelf) t.files in
    record {
      taken = t.taken;
      script = sym kept.script ∙ t.is;
      within = t.counted;
      done = λ is. absurd (not_whole_at fault DONE refl is);
      too_long = λ is. absurd (not_whole_at fault TOO_LONG refl is);
      exact = λ none. absurd (not_whole_at fault (status_at fault) none refl);
      files = files;
    }
