-- A start, stage by stage: the device is recovered, the lines on refused logs are printed, the log-space table is
-- emptied, the present version is made durable, and `ready` is printed.
use Rattle.std.proofs.Common.{◌≡◌, inl, inr, ℕ, ◌+◌, ◌≤◌, [], List, ◌++◌, Option, Some, None, Result, Err, refl, sym, ap, subst, ◌∙◌, arith}
use Rattle.std.specs.Prelude.{slice_index_or}
use Rattle.std.proofs.lemmas.List.{append-nil, append_assoc, take_all}
use Rattle.pm_model.specs.declared.host.HostFault.{HostFault}
use Rattle.pm_model.specs.Words.{Words, reads}
use Rattle.pm_model.specs.Moments.{State, all_said}
use Rattle.pm_model.specs.Calls.{Says}
use Rattle.pm_model.specs.Changes.{Leaves, Silently}
use Rattle.pm_model.proofs.Changes.{Changes-said}
use Rattle.pm_model.proofs.Leaves.{Leaves-both, Leaves-changes, Leaves-now, Leaves-then, Leaves-weaker, Leaves-says}
use Rattle.pud_defs.specs.declared.layout.TheConstants.{VERSION, VERSION_WORD, DAEMON_LOG, CLIENTS}
use Rattle.pud_defs.specs.Formats.Image.{Image}
use Rattle.pud_defs.specs.StateMachine.Run.{newlines}
use Rattle.pud_defs.specs.Output.StartText.{refused_lines, start_text}
use Rattle.pud_defs.specs.Output.Texts.{ready_text}
use Rattle.pud_defs.specs.StateMachine.World.{World, world_of, closed}
use Rattle.pud_defs.proofs.StateMachine.Lines.{newlines-append, newlines_part}
use Rattle.pud_defs.proofs.Output.StartText.{refused_lines-same}
use Rattle.batch.specs.Batches.{ByBatch, IsBatched}
use Rattle.log_space.specs.Clearing.{clearing, Empties}
use Rattle.recover.specs.declared.judge.Mark.{Mark}
use Rattle.recover.specs.declared.judge.Mark.TheVariants.{Closed}
use Rattle.recover.specs.Verdicts.{is_refused_mark}
use Rattle.recover.specs.declared.recovery.Report.{Report}
use Rattle.recover.specs.declared.recovery.RecoverFault.{RecoverFault}
use Rattle.recover.specs.declared.recovery.RecoverFault.TheVariants as recoveries
use Rattle.recover.specs.Upgrading.{ByUpgrade, Upgrades}
use Rattle.recover.specs.Recovery.{recover_fault, DiffersByRecovery, StandsAsStart, ReplaysLogs, RecoversDevice}
use Rattle.daemon_memory.specs.Memory.{Memory}
use Rattle.daemon_memory.specs.Ready.{KeepsRest, RefusesNone}
use Rattle.puddled.specs.declared.daemon.StartFault.{StartFault}
use Rattle.puddled.specs.declared.daemon.StartFault.TheVariants as starts
use Rattle.puddled.specs.Faults.{start_fault, of_recover}
use Rattle.puddled.specs.Saying.{SaysPart}
use Rattle.puddled.specs.Starting.{AreMarks, ByStart, DiffersByStart, HasTablesOf, UpgradesLast, refused_text, StandsInStart, SaysReady, Starts}
use Rattle.puddled.proofs.DeviceStarts.Emptied.{IsAfterRecovery, IsUpgrading, after_recovery, batched_still, third_may, upgrade_may, upgrades_last, upgrading_refuses_none, still_e, upgrading_e, version_e}
use Rattle.puddled.proofs.LinesDone.Lines.{SaysPart-says, SaysPart-nothing, said_all, words_said}
use Rattle.puddled.proofs.DeviceStarts.Restarts.{tables_still, version_still, wider_rights, refuses_none}

-- A start's text is the lines on refused logs, followed by `ready`.
start_text-is : (image : Image) → start_text image ≡ refused_text image ++ ready_text
unfolding start_text
start_text-is image = refl

newlines_ready : newlines ready_text ≡ 1
unfolding ready_text
newlines_ready = refl

-- It has one line more than the lines on refused logs.
newlines_start : (image : Image) → newlines (start_text image) ≡ newlines (refused_text image) + 1
newlines_start image = ap newlines (start_text-is image) ∙ newlines-append (refused_text image) ready_text ∙ ap (λ (n : ℕ). newlines (refused_text image) + n) newlines_ready

pub lines_of_start : (image : Image) → newlines (refused_text image) ≤ newlines (start_text image)
lines_of_start image = let all = newlines_start image in omega arith

-- The lines by what was found are those of the image that was judged.
pub text_by_marks : (image : Image) (marks : List Mark) (text : List ℕ) → AreMarks image marks → text ≡ refused_lines (λ number. is_refused_mark (slice_index_or marks number Closed))
    → text ≡ refused_text image
text_by_marks image marks text found is = is ∙ refused_lines-same _ _ found.each

-- ---- what is printed

-- An empty text is printed if nothing is printed.
pub Says-nothing : (text : List ℕ) (s : State) → text ≡ [] → Says text None s s
Says-nothing text s none = subst (λ (l : List ℕ). Says l None s s) (sym none) (record { count = 0; within = omega arith; is = refl; whole = λ _. refl })

module _ (image : Image) (a b : State) (quiet : b.now.said ≡ a.now.said) where
  -- If a fault came while the lines on refused logs were printed, a part of the start's text was printed.
  pub SaysPart-lines : {Fault : Type 0} (fault : Fault) (host : HostFault) (c : State) → Says (refused_text image) (Some host) b c → SaysPart (start_text image) (Some fault) a c
  SaysPart-lines fault host c says =
      let p = SaysPart-says (refused_text image) (Some host) b c says in
      record {
        bytes = p.bytes;
        rest = p.rest ++ ready_text;
        part = start_text-is image ∙ ap (λ (l : List ℕ). l ++ ready_text) p.part ∙ append_assoc p.bytes p.rest ready_text;
        said = p.said ∙ ap (λ (l : List ℕ). l ++ p.bytes) quiet;
        whole = λ none. absurd (let it : Some fault ≡ None = none in cc);
      }

  module _ (c : State) (lines : Says (refused_text image) None b c) (d : State) (still : d.now.said ≡ c.now.said) where
    pub said_lines : d.now.said ≡ a.now.said ++ refused_text image
    said_lines = still ∙ said_all (refused_text image) b c lines ∙ ap (λ (l : List ℕ). l ++ refused_text image) quiet

    -- So it was if the fault came after these lines.
    pub SaysPart-after_lines : {Fault : Type 0} (fault : Fault) → SaysPart (start_text image) (Some fault) a d
    SaysPart-after_lines fault = record {
      bytes = refused_text image;
      rest = ready_text;
      part = start_text-is image;
      said = said_lines;
      whole = λ none. absurd (let it : Some fault ≡ None = none in cc);
    }

    -- So it was if `ready` was printed, or a part of it.
    pub SaysPart-ready : (fault : Option HostFault) (e : State) → Says ready_text fault d e → SaysPart (start_text image) fault a e
    SaysPart-ready fault e says =
        let p = SaysPart-says ready_text fault d e says in
        record {
          bytes = refused_text image ++ p.bytes;
          rest = p.rest;
          part = start_text-is image ∙ ap (λ (l : List ℕ). refused_text image ++ l) p.part ∙ sym (append_assoc (refused_text image) p.bytes p.rest);
          said = p.said ∙ ap (λ (l : List ℕ). l ++ p.bytes) said_lines ∙ append_assoc a.now.said (refused_text image) p.bytes;
          whole = p.whole;
        }

-- If `ready` was printed without a fault, nothing was done after it.
pub ready_last : (a b : State) → Says ready_text None a b → SaysReady b
ready_last a b says = record { done = a; is = says.is ∙ ap (λ (l : List ℕ). all_said l a) (take_all says.count ready_text (let whole = says.whole refl in omega arith)) }

-- If a recovery failed and printed nothing, the empty part of the text was printed.
pub SaysPart-unsaid : (text : List ℕ) (fault : RecoverFault) (old new : State) → (◌≡◌ {A = Result Memory StartFault} (Err (of_recover fault)) (Err starts.NotSound) → ⊥) → new.now.said ≡ old.now.said
    → SaysPart text (start_fault {T = Memory} (Err (of_recover fault))) old new
SaysPart-unsaid text recoveries.NotSound old new sound quiet = absurd (sound refl)
SaysPart-unsaid text (recoveries.Host fault) old new sound quiet = SaysPart-nothing text fault old new quiet

-- ---- what may be left

module _ (size : ℕ) (w : World) (a : State) (world : world_of size (reads a.now.words) ≡ Some (closed w)) where
  abbrev i : Image
  i = reads a.now.words

  abbrev F : ℕ
  F = w.stored.frames

  abbrev In : List ℕ → Image → Type 0
  In = StandsInStart size (closed w) i

  -- An image that is left while lines on refused logs are printed is one that a start may leave.
  early : (bytes rest : List ℕ) → refused_text i ≡ bytes ++ rest → (image : Image) → StandsAsStart size (closed w) i image → DiffersByRecovery F i image → In bytes image
  early bytes rest is image still differs =
      let part = newlines_part bytes rest in
      let all = ap newlines is in
      let text = newlines_start i in
      record {
        part = record { rest = rest ++ ready_text; is = start_text-is i ∙ ap (λ (l : List ℕ). l ++ ready_text) is ∙ append_assoc bytes rest ready_text };
        stands = still.stands;
        rights = wider_rights size w a world image differs;
        tables = tables_still size w a world image still;
        untold = λ few. still.refused;
        upgraded = inl (version_still size w a world image still);
        allowed = λ whole. absurd (omega arith);
        current = λ whole. absurd (omega arith);
      }

  -- So is an image that is left after these lines.
  late : (more rest : List ℕ) → ready_text ≡ more ++ rest → (image : Image) → world_of size image ≡ Some (closed w) → DiffersByStart F i image → HasTablesOf F i image → UpgradesLast i image
      → (newlines (start_text i) ≤ newlines (refused_text i ++ more) → RefusesNone image × (image VERSION_WORD ≡ VERSION)) → In (refused_text i ++ more) image
  late more rest is image stands differs tables last finished =
      let count = newlines-append (refused_text i) more in
      record {
        part = record { rest = rest; is = start_text-is i ∙ ap (λ (l : List ℕ). refused_text i ++ l) is ∙ sym (append_assoc (refused_text i) more rest) };
        stands = stands;
        rights = differs;
        tables = tables;
        untold = λ few. absurd (omega arith);
        upgraded = last;
        allowed = λ whole. (finished whole).0;
        current = λ whole. (finished whole).1;
      }

  module _ (b : State) where
    -- So is each image that is left while the device is recovered and nothing is printed.
    pub In-recovered : (fault : Option HostFault) → RecoversDevice size (closed w) fault a b → Leaves In a b
    In-recovered fault r = Leaves-weaker (Silently (λ image. StandsAsStart size (closed w) i image × DiffersByRecovery F i image)) In a b
        (λ bytes image m. subst (λ (l : List ℕ). In l image) (sym m.0) (early [] (refused_text i) refl image m.1.0 m.1.1))
        (Leaves-both (StandsAsStart size (closed w) i) (DiffersByRecovery F i) a b r.moments r.rights)

    -- `Starts` holds if the host failed in the recovery and nothing was printed.
    pub Starts-refused : (fault : RecoverFault) → (fault ≡ recoveries.NotSound → ⊥) → KeepsRest a b → RecoversDevice size (closed w) (recover_fault {T = Report} (Err fault)) a b → Starts size w (Err (of_recover fault)) a b
    Starts-refused recoveries.NotSound sound rest r = absurd (sound refl)
    Starts-refused (recoveries.Host fault) sound rest r = record {
      says = SaysPart-nothing (start_text i) fault a b rest.quiet;
      moments = In-recovered (Some fault) r;
      last = tt;
      ready = tt;
      script = rest.script;
      shelf = rest.shelf;
    }

    module _ (quiet : b.now.said ≡ a.now.said) (p : ReplaysLogs F None a b) (r : RecoversDevice size (closed w) None a b) (c : State) where
      nothing_said : b.now.said ≡ a.now.said ++ []
      nothing_said = quiet ∙ sym (append-nil a.now.said)

      -- Each image that is left while the lines on refused logs are printed is one that a start may leave.
      pub In-lines : (fault : Option HostFault) → Says (refused_text i) fault b c → Leaves In a c
      In-lines fault says = Leaves-then In In In [] a b c nothing_said (λ front image m. m) (λ more image m. m) (In-recovered None r)
          (Leaves-says (refused_text i) fault In b c (λ front image prefix picked. early front prefix.rest prefix.is image
          (Leaves-now (Silently (StandsAsStart size (closed w) i)) [] a b nothing_said r.moments image picked).1
          (Leaves-now (Silently (DiffersByRecovery F i)) [] a b nothing_said r.rights image picked).1) says)

      module _ (lines : Says (refused_text i) None b c) where
        pub recovered_lines : IsAfterRecovery size (closed w) i c.now.words
        recovered_lines = subst (λ (x : Words). IsAfterRecovery size (closed w) i x) (sym (words_said (refused_text i) None b c lines)) (after_recovery size (closed w) a b p r)

        said_c : c.now.said ≡ a.now.said ++ refused_text i
        said_c = said_all (refused_text i) b c lines ∙ ap (λ (l : List ℕ). l ++ refused_text i) quiet

        module _ (d : State) where
          abbrev Batched : Image → Type 0
          Batched = IsBatched c.now.words DAEMON_LOG (clearing CLIENTS)

          differs_d : (fault : Option HostFault) → Empties fault c d → Leaves (Silently (DiffersByStart F i)) c d
          differs_d fault empties = Leaves-changes (DiffersByStart F i) (ByBatch DAEMON_LOG (clearing CLIENTS)) fault c d (λ before image picked from. record {
            each = λ k. elim (from.each k) [
              | inl same ↦ elim ((Leaves-now In (refused_text i) a c said_c (In-lines None lines) before picked).rights.each k) [
                | inl kept ↦ inl (same ∙ kept)
                | inr may ↦ inr (subst (λ (v : ℕ). ByStart F i k v) (sym same) may)
              ]
              | inr by ↦ inr (third_may size (closed w) i world c recovered_lines k (image k) by)
            ];
          }) empties.commits.changes

          -- So is each image that is left while the log-space table is emptied.
          pub In-emptied : (fault : Option HostFault) → Empties fault c d → Leaves In a d
          In-emptied fault empties = Leaves-then In (Silently (λ image. Batched image × DiffersByStart F i image)) In (refused_text i) a c d said_c (λ front image m. m)
              (λ more image m.
              let text = newlines_start i in
              let nothing = ap newlines (append-nil (refused_text i)) in
              let still = batched_still size (closed w) i world c recovered_lines image m.1.0 in
              subst (λ (l : List ℕ). In (refused_text i ++ l) image) (sym m.0)
              (late [] ready_text refl image still.stands m.1.1 still.tables (inl still.version) (λ whole. absurd (omega arith))))
              (In-lines None lines)
              (Leaves-both Batched (DiffersByStart F i) c d empties.commits.moments (differs_d fault empties))

          module _ (empties : Empties None c d) (e : State) where
            said_d : d.now.said ≡ a.now.said ++ refused_text i
            said_d = Changes-said (ByBatch DAEMON_LOG (clearing CLIENTS)) None c d empties.commits.changes ∙ said_c

            abbrev Upgrading : Image → Type 0
            Upgrading = IsUpgrading size (closed w) i (reads c.now.words)

            differs_e : (fault : Option HostFault) → Upgrades fault d e → Leaves (Silently (DiffersByStart F i)) d e
            differs_e fault upgrades = Leaves-changes (DiffersByStart F i) (ByUpgrade (reads d.now.words)) fault d e (λ before image picked from. record {
              each = λ k. elim (from.each k) [
                | inl same ↦ elim ((Leaves-now In (refused_text i) a d said_d (In-emptied None empties) before picked).rights.each k) [
                  | inl kept ↦ inl (same ∙ kept)
                  | inr may ↦ inr (subst (λ (v : ℕ). ByStart F i k v) (sym same) may)
                ]
                | inr by ↦ inr (upgrade_may size (closed w) i world c recovered_lines d empties k (image k) by)
              ];
            }) upgrades.changes

            -- So is each image that is left while the present version is made durable.
            pub In-upgraded : (fault : Option HostFault) → Upgrades fault d e → Leaves In a e
            In-upgraded fault upgrades = Leaves-then In (Silently (λ image. Upgrading image × DiffersByStart F i image)) In (refused_text i) a d e said_d (λ front image m. m)
                (λ more image m.
                let text = newlines_start i in
                let nothing = ap newlines (append-nil (refused_text i)) in
                let still = m.1.0 in
                subst (λ (l : List ℕ). In (refused_text i ++ l) image) (sym m.0)
                (late [] ready_text refl image still.stands m.1.1 still.tables (upgrades_last size (closed w) i (reads c.now.words) image still) (λ whole. absurd (omega arith))))
                (In-emptied None empties)
                (Leaves-both Upgrading (DiffersByStart F i) d e (still_e size (closed w) i world c recovered_lines d empties fault e upgrades) (differs_e fault upgrades))

            -- So is each image that is left while `ready` is printed.
            pub In-ready : Upgrades None d e → (fault : Option HostFault) (f : State) → Says ready_text fault e f → Leaves In a f
            In-ready upgrades fault f says =
                let said_e = Changes-said (ByUpgrade (reads d.now.words)) None d e upgrades.changes ∙ said_d in
                Leaves-then In (λ more image. In (refused_text i ++ more) image) In (refused_text i) a e f said_e (λ front image m. m) (λ more image m. m) (In-upgraded None upgrades)
                (Leaves-says ready_text fault (λ more image. In (refused_text i ++ more) image) e f (λ front image prefix picked.
                let now = Leaves-now In (refused_text i) a e said_e (In-upgraded None upgrades) image picked in
                let still = upgrading_e size (closed w) i world c recovered_lines d empties None e upgrades image picked in
                late front prefix.rest prefix.is image now.stands now.rights now.tables now.upgraded
                (λ whole. (
                  refuses_none size w a world image now.stands (upgrading_refuses_none size (closed w) i (reads c.now.words) image still),
                  (version_e size (closed w) i world c recovered_lines d empties e upgrades).each (image VERSION_WORD) (picked.each VERSION_WORD),
                ))) says)
