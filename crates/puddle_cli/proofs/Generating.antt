-- Lemmas on generated lines that are answered without printing, and then summed up.
use Rattle.std.proofs.Common.{◌≡◌, ◌≤◌, ◌<◌, ◌*◌, ◌+◌, ℕ, Bool, true, false, List, [], ◌++◌, length, map, take, Option, Some, None, Result, Ok, Err, ◌⊎◌, inl, inr, ⊎_elim, refl, sym, ap, subst, ◌∙◌, arith, append_assoc, length-append}
use Rattle.std.specs.Prelude.{All}
use Rattle.std.proofs.lemmas.List.{append-nil, length-map}
use Rattle.pm_model.specs.declared.host.HostFault.{HostFault}
use Rattle.pm_model.specs.declared.host.HostFault.TheVariants as hosts
use Rattle.pm_model.specs.Calls.{Says}
use Rattle.pm_model.specs.Counts.{Counts, after_fault}
use Rattle.pm_model.specs.Words.{Image, Picks, Words, IsRested, reads}
use Rattle.pm_model.specs.Moments.{State}
use Rattle.pm_model.specs.Changes.{Leaves}
use Rattle.pm_model.proofs.Leaves.{Leaves-then, Leaves-weaker, Leaves-each, Leaves-says}
use Rattle.pud_defs.specs.declared.layout.TheConstants.{SCRIPT_LIMIT}
use Rattle.pud_defs.specs.StateMachine.World.{World, StoredWorld, no_clients, nothing_open, stored_by, world_of, closed}
use Rattle.pud_defs.specs.StateMachine.Run.{Turn, IsRun, last_world, lines_taken}
use Rattle.pud_defs.specs.StateMachine.Changing.{KeepsFiles, KeepsUnwritable}
use Rattle.pud_defs.specs.RegistryTables.Registry.{frames_of}
use Rattle.pud_defs.specs.RegistryTables.SoundTables.{HasSoundTables}
use Rattle.pud_defs.specs.RegistryTables.Tables.{tables_of}
use Rattle.pud_defs.specs.Output.StartText.{start_text}
use Rattle.pud_defs.proofs.StateMachine.Changing.{KeepsFiles-still, KeepsUnwritable-still, KeepsUnwritable-then}
use Rattle.pud_check.specs.Summary.{summary_text}
use Rattle.pud_check.specs.SummaryListed.{listed_summary}
use Rattle.gen_work.specs.GenLines.{gen_lines}
use Rattle.daemon_memory.specs.Memory.{Memory}
use Rattle.daemon_memory.specs.Ready.{IsReady, RefusesNone}
use Rattle.daemon_memory.proofs.Commands.Beside.{ready_stands}
use Rattle.puddled.specs.declared.daemon.RunFault.{RunFault}
use Rattle.puddled.specs.declared.daemon.RunFault.TheVariants as faults
use Rattle.puddled.specs.declared.daemon.StartFault.{StartFault}
use Rattle.puddled.specs.declared.daemon.StartFault.TheVariants as starts
use Rattle.puddled.specs.Faults.{of_host}
use Rattle.puddled.specs.Saying.{IsPart, SaysPart}
use Rattle.puddled.specs.Starting.{IsReplayed, Starts}
use Rattle.puddled.specs.DoesLines.{DoesPending}
use Rattle.puddled.proofs.DeviceStarts.Counted.{host_is_sound}
use Rattle.puddled.proofs.LinesDone.Lines.{prefix_of_nothing, SaysPart-says, words_said, script_said, shelf_said}
use Rattle.puddle_cli.specs.Generated.{bytes_of}
use Rattle.puddle_cli.specs.Status.{status_fault, run_fault_at, IsStatusOfMode}
use Rattle.puddle_cli.specs.Serving.{StandsAmong, KeepsScript, CountsPending, file_under_way, TakesTo, TakesBy, HasServed, HasServedBy}
use Rattle.puddle_cli.specs.declared.run.Served.{Served}
use Rattle.puddle_cli.specs.Generating.{LineRun, IsWhole, summary_of, SaysOf, SumsUp, RunsLines, SaysSummary}
use Rattle.puddle_cli.proofs.Answering.{among_first, among_later}
use Rattle.puddle_cli.proofs.NoneOpen.{generated_idle}
use Rattle.puddle_cli.proofs.PlainLines.{plain_lines}
use Rattle.puddle_cli.proofs.Stored.{frames_kept, ready_stored}
use Rattle.daemon_memory.proofs.PoolChanges.TablesBeside.{sound_read, header_read}
use Rattle.puddle_cli.proofs.GeneratedLines.{IsPlainLine, lines_left, few_bytes}
use Rattle.puddle_cli.proofs.Running.{counted_in_start, counted_after_start, moments_in_start, moments_after_start, text_said, Begins-said, is_started}
use Rattle.puddle_cli.proofs.Statuses.{not_whole_of}

-- ---- on a daemon that is ready

-- Fewer than 2^20 bytes are taken to their end.
taken_to_end : (all : List ℕ) (ended : Bool) (start now : State) (left : List ℕ) → TakesTo ended all start now left → length all < SCRIPT_LIMIT → ended ≡ true
taken_to_end all true start now left t few = refl
taken_to_end all false start now left t few =
    let counted = t.counted in
    let all_of : length all ≡ length (t.taken ++ left) = ap length t.is in
    absurd (omega (arith, counted, few, all_of, length-append t.taken left))

module _ (size : ℕ) (w : World) (lines : List (List ℕ)) (plain : All IsPlainLine lines) (ended : Bool) (fault : Option RunFault) (before mid_counts : Counts) (start mid : State) (left : List ℕ) (refused : ℕ)
    (a : HasServed size w false (bytes_of lines) ended fault before mid_counts start mid left refused) where
  following : (more : List (List ℕ)) × (lines ≡ lines_taken a.run.taken ended ++ more) × (ended ≡ true → more ≡ [])
  following = lines_left lines plain a.run.taken left ended a.run.is a.run.to_end

  run_of : LineRun w lines
  run_of = record {
    begun = true;
    answered = a.run.answered;
    pending = a.run.pending;
    few = a.run.few;
    is_run = a.run.is_run;
    following = following.0;
    are = following.1 ∙ ap (λ (l : List (List ℕ)). l ++ following.0) (sym a.run.lines);
    nothing_yet = λ e. absurd (let it : true ≡ false = e in cc);
  }

  -- Nothing was printed.
  silent : mid.now.said ≡ start.now.said
  silent = a.says.said ∙ ap (λ (l : List ℕ). (start.now.said ++ []) ++ l) (prefix_of_nothing a.says.more a.says.rest a.says.part) ∙ append-nil (start.now.said ++ []) ∙ append-nil start.now.said

  -- A line was not answered whole, or the host failed between two lines.
  pub SumsUp-failed : (f : RunFault) → fault ≡ Some f → mid.script ≡ start.script → SumsUp size w lines fault before mid_counts start mid
  unfolding run_of
  SumsUp-failed f is script = record {
    run = run_of;
    says = record {
      bytes = [];
      said = silent ∙ sym (append-nil start.now.said);
      part = inl refl;
      whole = λ none. absurd (let no : Some f ≡ None = sym is ∙ none in cc);
    };
    did = record {
      last = a.did.last;
      does = a.did.does;
      under_way = a.did.under_way;
    };
    summed = mid;
    sums = record { bytes = []; is = refl };
    moments = a.moments;
    allowed = a.allowed;
    ends = λ none. absurd (let no : Some f ≡ None = sym is ∙ none in cc);
    files = a.files;
    counts = record {
      mid = a.counts.mid;
      turns_counted = a.counts.turns_counted;
      counted = a.counts.counted;
    };
    sound = a.sound;
    script = script;
  }

-- The fault of a run, by the host's fault while the summary was printed.
abbrev pub summary_fault : Option HostFault → Option RunFault
summary_fault None = None
summary_fault (Some fault) = Some (of_host fault)

none_of_summary : (fault : Option HostFault) → summary_fault fault ≡ None → fault ≡ None
none_of_summary None none = refl
none_of_summary (Some fault) none = absurd (let no : Some (of_host fault) ≡ None = none in cc)

summary_is_sound : (fault : Option HostFault) → summary_fault fault ≡ Some faults.NotSound → ⊥
summary_is_sound None unsound = absurd (let no : None ≡ Some faults.NotSound = unsound in cc)
summary_is_sound (Some fault) unsound = host_is_sound fault unsound

-- What was counted while the summary was printed.
counted_summary : (fault : Option HostFault) (mid before after : Counts) → before ≡ mid → after ≡ after_fault fault before → (fault ≡ Some hosts.Cut → ⊥) → CountsPending [] (summary_fault fault) mid after
counted_summary None mid before after same last never_cut = (λ lost. cc, last ∙ same)
counted_summary (Some hosts.Failed) mid before after same last never_cut = (λ lost. cc, last ∙ ap (after_fault (Some hosts.Failed)) same)
counted_summary (Some hosts.Cut) mid before after same last never_cut = absurd (never_cut refl)

-- Each line was answered, and the summary is printed.
module _ (size : ℕ) (w : World) (lines : List (List ℕ)) (plain : All IsPlainLine lines) (before mid_counts : Counts) (start mid : State) (left : List ℕ) (refused : ℕ)
    (a : HasServed size w false (bytes_of lines) true None before mid_counts start mid left refused) where
  abbrev whole_run : LineRun w lines
  whole_run = run_of size w lines plain true None before mid_counts start mid left refused a

  abbrev last : World
  last = last_world w a.run.answered

  none_pending : a.run.pending ≡ []
  none_pending = a.run.whole refl

  is_whole : IsWhole w lines whole_run
  unfolding run_of
  is_whole = record { none_pending = none_pending; none_after = (following size w lines plain true None before mid_counts start mid left refused a).2 refl }

  -- The lines are those that were answered.
  pub all_answered : map (λ t. t.line) a.run.answered ≡ lines
  all_answered =
      let there = lines_left lines plain a.run.taken left true a.run.is a.run.to_end in
      let only : a.run.answered ++ a.run.pending ≡ a.run.answered = ap (λ (ts : List Turn). a.run.answered ++ ts) none_pending ∙ append-nil a.run.answered in
      sym (ap (λ (ts : List Turn). map (λ t. t.line) ts) only) ∙ a.run.lines
      ∙ sym (there.1 ∙ ap (λ (l : List (List ℕ)). lines_taken a.run.taken true ++ l) (there.2 refl) ∙ append-nil (lines_taken a.run.taken true))

  -- An image that stands for the last world is one of the run.
  among_last : (image : Image) → world_of size image ≡ Some (closed last) → StandsAmong size w (a.run.answered ++ a.run.pending) image
  among_last image stands = among_later size w a.run.answered a.run.pending image (among_first size last a.run.pending image stands)

  module _ (text : List ℕ) (is : text ≡ summary_of w a.run.answered) (fault : Option HostFault) (after : Counts) (end : State) (says : Says text fault mid end) (cause : after ≡ after_fault fault mid_counts) (never_cut : fault ≡ Some hosts.Cut → ⊥) where
    abbrev part : SaysPart text fault mid end
    part = SaysPart-says text fault mid end says

    quiet : mid.now.said ≡ start.now.said
    quiet = silent size w lines plain true None before mid_counts start mid left refused a

    stands_last : (image : Image) → Picks mid.now.words image → (world_of size image ≡ Some (closed last)) × RefusesNone image
    stands_last image picked = ready_stands size last _ _ (a.ready refl) image picked

    pub SumsUp-said : mid.script ≡ start.script → SumsUp size w lines (summary_fault fault) before after start end
    unfolding run_of
    SumsUp-said script = record {
      run = whole_run;
      says = record {
        bytes = part.bytes;
        said = part.said ∙ ap (λ (l : List ℕ). l ++ part.bytes) quiet;
        part = inr (is_whole, record { rest = part.rest; is = sym is ∙ part.part });
        whole = λ none. (is_whole, sym (append-nil part.bytes) ∙ ap (λ (l : List ℕ). part.bytes ++ l) (sym (part.whole (none_of_summary fault none))) ∙ sym part.part ∙ is);
      };
      did = record {
        last = a.did.last;
        does = a.did.does;
        under_way = subst (λ (ts : List Turn). DoesPending last ts (summary_fault fault) a.did.last mid) (sym none_pending)
            (subst (λ (ts : List Turn). DoesPending last ts None a.did.last mid) none_pending a.did.under_way);
      };
      summed = mid;
      sums = record { bytes = take says.count text; is = says.is };
      moments = Leaves-then (λ bytes image. StandsAmong size w (a.run.answered ++ a.run.pending) image) (λ bytes image. StandsAmong size w (a.run.answered ++ a.run.pending) image) (λ bytes image. StandsAmong size w (a.run.answered ++ a.run.pending) image) [] start mid end
          (quiet ∙ sym (append-nil start.now.said)) (λ front image p. p) (λ more image p. p) a.moments
          (Leaves-says text fault (λ bytes image. StandsAmong size w (a.run.answered ++ a.run.pending) image) mid end (λ front image prefix picked. among_last image (stands_last image picked).0) says);
      allowed = Leaves-then (λ bytes image. RefusesNone image) (λ bytes image. RefusesNone image) (λ bytes image. RefusesNone image) [] start mid end
          (quiet ∙ sym (append-nil start.now.said)) (λ front image p. p) (λ more image p. p) a.allowed
          (Leaves-says text fault (λ bytes image. RefusesNone image) mid end (λ front image prefix picked. (stands_last image picked).1) says);
      ends = λ none image picked. (stands_last image (subst (λ (x : Words). Picks x image) (words_said text fault mid end says) picked)).0;
      files = subst (λ (shelf : List ℕ → Option (List ℕ)). KeepsFiles (file_under_way a.run.pending) last.shelf shelf) (sym (shelf_said text fault mid end says)) a.files;
      counts = record {
        mid = a.counts.mid;
        turns_counted = a.counts.turns_counted;
        counted = subst (λ (ts : List Turn). CountsPending ts (summary_fault fault) a.counts.mid after) (sym none_pending)
            (counted_summary fault a.counts.mid mid_counts after (subst (λ (ts : List Turn). CountsPending ts None a.counts.mid mid_counts) none_pending a.counts.counted).1 cause never_cut);
      };
      sound = summary_is_sound fault;
      script = script_said text fault mid end says ∙ script;
    }

-- ---- a generated script

module _ (size : ℕ) (w : World) (seed count : ℕ) (few : count ≤ 992) (memory : Memory) (before mid_counts : Counts) (start mid : State) (ready : IsReady size w memory start) (all left : List ℕ) (is : all ≡ bytes_of (gen_lines seed count))
    (served : Served) (by : HasServedBy size w false all (Ok served) before mid_counts start mid left) (takes : TakesBy all (Ok served) start mid left) (counted : ℕ) (count_is : length (gen_lines seed count) ≡ counted) (most : counted ≤ 5 * count + 11) where
  abbrev pub script_lines : List (List ℕ)
  script_lines = gen_lines seed count

  pub ended : served.ended ≡ true
  ended =
      let bytes = few_bytes script_lines (plain_lines seed count) in
      let all_of : length all ≡ length (bytes_of script_lines) = ap length is in
      taken_to_end all served.ended start mid left takes (omega (arith, bytes, all_of, count_is, most, few))

  pub answered_whole : HasServed size w false (bytes_of script_lines) true None before mid_counts start mid left served.refused
  answered_whole =
      subst (λ (b : Bool). HasServed size w false (bytes_of script_lines) b None before mid_counts start mid left served.refused) ended
      (subst (λ (l : List ℕ). HasServed size w false l served.ended None before mid_counts start mid left served.refused) is by)

  abbrev pub last_of : World
  last_of = last_world w answered_whole.run.answered

  run_whole : IsRun w answered_whole.run.answered
  run_whole =
      subst (λ (ts : List Turn). IsRun w ts) (ap (λ (ts : List Turn). answered_whole.run.answered ++ ts) (answered_whole.run.whole refl) ∙ append-nil answered_whole.run.answered) answered_whole.run.is_run

  lines_whole : map (λ t. t.line) answered_whole.run.answered ≡ script_lines
  lines_whole = all_answered size w script_lines (plain_lines seed count) before mid_counts start mid left served.refused answered_whole

  ready_last : IsReady size last_of answered_whole.memory mid
  ready_last = answered_whole.ready refl

  frames_last : last_of.stored.frames ≡ memory.frames
  frames_last = frames_kept w answered_whole.run.answered run_whole ∙ sym ready.frames

  -- The tables are sound, for as many frames as the daemon had.
  pub tables_there : (F : ℕ) → F ≡ memory.frames → HasSoundTables last_of.stored.next_number (tables_of F (reads mid.now.words))
  tables_there F same = subst (λ (n : ℕ). HasSoundTables last_of.stored.next_number (tables_of n (reads mid.now.words))) (frames_last ∙ sym same) (sound_read size last_of answered_whole.memory mid ready_last)

  pub frames_there : (F : ℕ) → F ≡ memory.frames → F ≡ frames_of (reads mid.now.words)
  frames_there F same = same ∙ sym frames_last ∙ sym (header_read size last_of answered_whole.memory mid ready_last).frames

  is_summary : summary_text counted served.refused (stored_by (reads mid.now.words)) ≡ summary_of w answered_whole.run.answered
  is_summary =
      let long : counted ≡ length answered_whole.run.answered = sym count_is ∙ sym (ap length lines_whole) ∙ length-map answered_whole.run.answered (λ (t : Turn). t.line) in
      let stored : stored_by (reads mid.now.words) ≡ closed last_of = ready_stored size last_of answered_whole.memory mid ready_last (generated_idle seed count w answered_whole.run.answered run_whole lines_whole) in
      λ i. summary_text (long i) (answered_whole.run.refusals refl i) (stored i)

  pub SumsUp-generated : (fault : Option HostFault) (after : Counts) (end : State) → Says (summary_text counted served.refused (stored_by (reads mid.now.words))) fault mid end → after ≡ after_fault fault mid_counts → (fault ≡ Some hosts.Cut → ⊥)
      → mid.script ≡ start.script → SumsUp size w script_lines (summary_fault fault) before after start end
  SumsUp-generated fault after end says cause never_cut script =
      SumsUp-said size w script_lines (plain_lines seed count) before mid_counts start mid left served.refused answered_whole (summary_text counted served.refused (stored_by (reads mid.now.words))) is_summary fault after end says cause never_cut script

-- ---- what is printed, whatever the device stores

-- A prefix of the text was printed, and nothing after it.
pub SaysSummary-part : {Fault : Type 0} (text : List ℕ) (lines : ℕ) (whole : Type 0) (fault : Option Fault) (start end : State) → (whole → ⊥) → SaysPart text fault start end → SaysSummary text lines whole start end
SaysSummary-part text lines whole fault start end not_whole s = record {
  bytes = s.bytes;
  said = s.said;
  is = record {
    frames = 0;
    refused = 0;
    part = record { rest = s.rest ++ listed_summary 0 (reads end.now.words) lines 0; is = ap (λ (l : List ℕ). l ++ listed_summary 0 (reads end.now.words) lines 0) s.part ∙ append_assoc s.bytes s.rest (listed_summary 0 (reads end.now.words) lines 0) };
    all = λ w. absurd (not_whole w);
  };
}

-- Nothing was printed.
pub SaysSummary-silent : (text : List ℕ) (lines : ℕ) (whole : Type 0) (start end : State) → (whole → ⊥) → end.now.said ≡ start.now.said → SaysSummary text lines whole start end
SaysSummary-silent text lines whole start end not_whole same =
    SaysSummary-part {Fault = HostFault} text lines whole (Some hosts.Failed) start end not_whole (record { bytes = []; rest = text; part = refl; said = same ∙ sym (append-nil start.now.said); whole = λ none. absurd (let no : Some hosts.Failed ≡ None = none in cc) })

-- The summary was printed, as far as this fault allowed.
pub SaysSummary-said : (frames lines refused : ℕ) (fault : Option HostFault) (whole : Type 0) (start mid end : State) → (whole → fault ≡ None) → mid.now.said ≡ start.now.said → Says (listed_summary frames (reads mid.now.words) lines refused) fault mid end
    → SaysSummary [] lines whole start end
SaysSummary-said frames lines refused fault whole start mid end to quiet says =
    let text = listed_summary frames (reads mid.now.words) lines refused in
    let part = SaysPart-says text fault mid end says in
    let same : text ≡ listed_summary frames (reads end.now.words) lines refused = ap (λ (x : Words). listed_summary frames (reads x) lines refused) (sym (words_said text fault mid end says)) in
    record {
      bytes = part.bytes;
      said = part.said ∙ ap (λ (l : List ℕ). l ++ part.bytes) quiet;
      is = record {
        frames = frames;
        refused = refused;
        part = record { rest = part.rest; is = sym same ∙ part.part };
        all = λ w. sym (append-nil part.bytes) ∙ ap (λ (l : List ℕ). part.bytes ++ l) (sym (part.whole (to w))) ∙ sym part.part ∙ same;
      };
    }

-- The text was printed whole before.
pub SaysSummary-after : (text : List ℕ) (lines : ℕ) (early late : Type 0) (start mid end : State) → (late → early) → mid.now.said ≡ start.now.said ++ text → SaysSummary [] lines early mid end → SaysSummary text lines late start end
SaysSummary-after text lines early late start mid end to first s = record {
  bytes = text ++ s.bytes;
  said = s.said ∙ ap (λ (l : List ℕ). l ++ s.bytes) first ∙ append_assoc start.now.said text s.bytes;
  is = record {
    frames = s.is.frames;
    refused = s.is.refused;
    part = record { rest = s.is.part.rest; is = ap (λ (l : List ℕ). text ++ l) s.is.part.is ∙ sym (append_assoc text s.bytes s.is.part.rest) };
    all = λ w. ap (λ (l : List ℕ). text ++ l) (s.is.all (to w));
  };
}

-- A start that came to its end printed its whole text.
pub text_whole : (text : List ℕ) (start mid : State) → SaysPart {Fault = HostFault} text None start mid → mid.now.said ≡ start.now.said ++ text
text_whole text start mid s = s.said ∙ ap (λ (l : List ℕ). start.now.said ++ l) (sym (s.part ∙ ap (λ (l : List ℕ). s.bytes ++ l) (s.whole refl) ∙ append-nil s.bytes))

-- ---- which files do not change

kept_to : (all : List ℕ) (ended : Bool) (start now : State) (left : List ℕ) → TakesTo ended all start now left → KeepsUnwritable start.shelf now.shelf
kept_to all true start now left t = t.files
kept_to all false start now left t = t.files

pub files_kept : (all : List ℕ) (result : Result Served RunFault) (start now : State) (left : List ℕ) → TakesBy all result start now left → KeepsUnwritable start.shelf now.shelf
files_kept all (Ok served) start now left t = kept_to all served.ended start now left t
files_kept all (Err fault) start now left t = t.files

-- What is kept if the summary is printed after the lines.
pub KeepsScript-summed : (all : List ℕ) (result : Result Served RunFault) (start mid end : State) (left text : List ℕ) (fault : Option HostFault) → mid.script ≡ start.script → TakesBy all result start mid left → Says text fault mid end → KeepsScript start end
KeepsScript-summed all result start mid end left text fault script takes says = record {
  script = script_said text fault mid end says ∙ script;
  files = KeepsUnwritable-then start.shelf mid.shelf end.shelf (files_kept all result start mid left takes) (KeepsUnwritable-still mid.shelf end.shelf (shelf_said text fault mid end says));
}

-- ---- from a start on

module _ (size : ℕ) (w : World) (start : State) (rested : IsRested start.now.words) (stands : world_of size (reads start.now.words) ≡ Some (closed w)) (lines : List (List ℕ)) where
  among_start : (turns : List Turn) (result : Result Memory StartFault) (now : State) → Starts size w result start now → Leaves (λ bytes image. StandsAmong size w turns image) start now
  among_start turns result now s = Leaves-weaker _ _ start now (λ bytes image m. among_first size w turns image m.stands) s.moments

  -- The host failed within the start, or power was lost in it.
  pub RunsLines-in_start : (fault : HostFault) (status : ℕ) (before after : Counts) (now : State) → IsStatusOfMode status → status_fault status ≡ Some fault
      → after ≡ after_fault (Some fault) before → start.shelf ≡ w.shelf → Starts size w (Err (starts.Host fault)) start now → RunsLines size w lines status before after start now
  RunsLines-in_start fault status before after now of_mode is last shelf s =
      let not_whole = not_whole_of status fault of_mode is in
      record {
        run = record {
          begun = false;
          answered = [];
          pending = [];
          few = omega arith;
          is_run = tt;
          following = lines;
          are = refl;
          nothing_yet = λ _. refl;
        };
        exit = record {
          bytes = s.says.bytes;
          said = s.says.said;
          part = inl (record { rest = s.says.rest; is = s.says.part });
          whole = λ none. absurd (not_whole none);
          starting = λ _. s.moments;
          does = λ e. absurd (let it : false ≡ true = e in cc);
          ends = λ none. absurd (not_whole none);
          files = KeepsFiles-still None w.shelf now.shelf (s.shelf ∙ shelf);
          script = s.script;
        };
        moments = record {
          stands = Leaves-each (λ bytes image. StandsAmong size w [] image) start now (among_start [] (Err (starts.Host fault)) now s);
          in_start = moments_in_start size w start rested stands (Err (starts.Host fault)) now s;
        };
        counted = counted_in_start fault status before after of_mode is last;
      }

  -- The text of the start and what was printed after it.
  part_after : (run : LineRun w lines) (bytes : List ℕ) → SaysOf w lines run bytes
      → IsPart (start_text (reads start.now.words) ++ bytes) (start_text (reads start.now.words)) ⊎ (IsWhole w lines run × IsPart (start_text (reads start.now.words) ++ bytes) (start_text (reads start.now.words) ++ summary_of w run.answered))
  part_after run bytes (inl none) = inl (record {
    rest = [];
    is = sym (append-nil (start_text (reads start.now.words) ++ bytes) ∙ ap (λ (l : List ℕ). start_text (reads start.now.words) ++ l) none ∙ append-nil (start_text (reads start.now.words)));
  })
  part_after run bytes (inr more) = inr (
    more.0,
    record {
      rest = more.1.rest;
      is = ap (λ (l : List ℕ). start_text (reads start.now.words) ++ l) more.1.is ∙ sym (append_assoc (start_text (reads start.now.words)) bytes more.1.rest);
    },
  )

  begun_run : LineRun w lines → LineRun w lines
  begun_run run = record run { begun = true; nothing_yet = λ e. absurd (let it : true ≡ false = e in cc) }

  whole_begun : (run : LineRun w lines) → IsWhole w lines run → IsWhole w lines (begun_run run)
  unfolding begun_run
  whole_begun run whole = record { none_pending = whole.none_pending; none_after = whole.none_after }

  -- The start was printed whole, and then lines were answered on the daemon that it left.
  pub RunsLines-after_start : (status : ℕ) (fault : Option RunFault) (before after : Counts) (memory : Memory) (mid now : State) → Starts size w (Ok memory) start mid
      → IsReplayed (reads start.now.words) (reads mid.now.words) → run_fault_at status ≡ fault → SumsUp size w lines fault before after mid now → RunsLines size w lines status before after start now
  unfolding begun_run
  RunsLines-after_start status fault before after memory mid now s replayed is a =
      let text = start_text (reads start.now.words) in
      let first = text_said size w start rested stands memory mid s in
      let P : List ℕ → Image → Type 0 = λ bytes image. StandsAmong size w (a.run.answered ++ a.run.pending) image in
      record {
        run = begun_run a.run;
        exit = record {
          bytes = text ++ a.says.bytes;
          said = a.says.said ∙ ap (λ (l : List ℕ). l ++ a.says.bytes) first ∙ append_assoc start.now.said text a.says.bytes;
          part = ⊎_elim inl (λ more. inr (whole_begun a.run more.0, more.1)) (part_after a.run a.says.bytes a.says.part);
          whole = λ none.
              let all = a.says.whole (sym is ∙ none) in
              (whole_begun a.run all.0, ap (λ (l : List ℕ). text ++ l) all.1);
          starting = λ e. absurd (let it : true ≡ false = e in cc);
          does = λ _. record {
            summed = a.summed;
            does = record {
              ready = mid;
              begins = Begins-said size w start rested stands memory mid s replayed;
              last = a.did.last;
              does = a.did.does;
              under_way = subst (λ (f : Option RunFault). DoesPending (last_world w a.run.answered) a.run.pending f a.did.last a.summed) (sym is) a.did.under_way;
            };
            sums = a.sums;
          };
          ends = λ none. a.ends (sym is ∙ none);
          files = a.files;
          script = a.script ∙ s.script;
        };
        moments = record {
          stands = Leaves-each P start now (Leaves-then P P P text start mid now first (λ front image p. p) (λ more image p. p) (among_start (a.run.answered ++ a.run.pending) (Ok memory) mid s) a.moments);
          in_start = moments_after_start size w start rested stands P memory mid now s first a.moments a.allowed;
        };
        counted = counted_after_start status fault before a.counts.mid after a.run.answered a.run.pending is (λ none. (a.says.whole none).0.none_pending) a.counts.turns_counted a.counts.counted;
      }

  pub RunsLines-summed : (status : ℕ) (fault : Option RunFault) (begun before after : Counts) (memory : Memory) (mid now : State) → w.clients ≡ no_clients → w.transactions ≡ nothing_open → Starts size w (Ok memory) start mid
      → IsReplayed (reads start.now.words) (reads mid.now.words) → begun ≡ before → run_fault_at status ≡ fault → (IsReady size w memory mid → SumsUp size w lines fault begun after mid now) → RunsLines size w lines status before after start now
  RunsLines-summed status fault begun before after memory mid now none nothing s replayed same is sums =
      RunsLines-after_start status fault before after memory mid now s replayed is
      (subst (λ (x : Counts). SumsUp size w lines fault x after mid now) same (sums (subst (λ (v : World). IsReady size v memory mid) (is_started w none nothing) s.ready)))

-- A run over lines, from a device that stands for a world, never ends with the device not sound.
pub lines_never_unsound : (size : ℕ) (lines : List (List ℕ)) (begun after : Counts) (memory : Memory) (start mid now : State) (fault : RunFault) → ((w : World) → world_of size (reads start.now.words) ≡ Some (closed w) → start.shelf ≡ w.shelf → Starts size w (Ok memory) start mid)
    → ((w : World) → IsReady size w memory mid → SumsUp size w lines (Some fault) begun after mid now)
    → (s : StoredWorld) → world_of size (reads start.now.words) ≡ Some s → Some fault ≡ Some faults.NotSound → ⊥
lines_never_unsound size lines begun after memory start mid now fault begins sums s stands unsound =
    let w : World = record { stored = s; clients = no_clients; shelf = start.shelf; transactions = nothing_open } in
    (sums w (begins w stands refl).ready).sound unsound
