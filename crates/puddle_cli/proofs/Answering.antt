-- Lemmas on a script that is answered line by line.
use Rattle.std.proofs.Common.{◌≡◌, ℕ, zero, suc, ◌+◌, ◌<◌, ◌≤◌, Bool, true, false, cond, not, List, [], ◌∷◌, ◌++◌, length, map, take, Option, Some, None, Result, Ok, Err, ◌⊎◌, inl, inr, ⊎_elim, refl, sym, ap, subst, ◌∙◌, arith, append_assoc, length-append}
use Rattle.std.specs.Prelude.{IfOk}
use Rattle.std.proofs.lemmas.List.{append-nil, map-append, nil_from_length}
use Rattle.std.proofs.lemmas.List.Sums.{sum_by-append}
use Rattle.pm_model.specs.declared.host.HostFault.{HostFault}
use Rattle.pm_model.specs.declared.host.HostFault.TheVariants as hosts
use Rattle.pm_model.specs.Counts.{Counts, after_fault}
use Rattle.pm_model.specs.Words.{Image, reads}
use Rattle.pm_model.specs.Moments.{State, with_script}
use Rattle.pm_model.specs.Calls.{TakesByte}
use Rattle.pm_model.specs.Changes.{Leaves}
use Rattle.pm_model.proofs.Leaves.{Leaves-then, Leaves-still, Leaves-weaker}
use Rattle.pud_defs.specs.declared.layout.TheConstants.{SCRIPT_LIMIT}
use Rattle.pud_defs.specs.declared.machine.Command.{Command}
use Rattle.pud_defs.specs.StateMachine.World.{World, world_of, closed}
use Rattle.pud_defs.specs.StateMachine.Grammar.{command_of}
use Rattle.pud_defs.specs.StateMachine.Gives.{Gives, StepBy}
use Rattle.pud_defs.specs.StateMachine.Run.{Turn, IsTurn, cuts_of, IsRun, last_world, newlines, open_rest, lines_taken, lines_among}
use Rattle.pud_defs.specs.Output.Texts.{answer_text, begins_with_ok}
use Rattle.pud_defs.specs.StateMachine.Stands.{StandsAfter, StandsWith}
use Rattle.pud_defs.specs.StateMachine.Changing.{file_in, KeepsFiles}
use Rattle.pud_defs.proofs.StateMachine.Changing.{KeepsFiles-still, KeepsUnwritable-still, KeepsUnwritable-then, KeepsUnwritable-line}
use Rattle.pud_defs.proofs.StateMachine.Commands.{command_of-front}
use Rattle.pud_defs.proofs.StateMachine.Lines.{open_rest-newline, open_rest-other, open_rest-nothing, lines_taken-nothing, lines_taken-newline, lines_taken-other, lines_taken-end, lines_among_empty, lines_among_line}
use Rattle.daemon_memory.proofs.Commands.Beside.{ready_stands}
use Rattle.pud_defs.proofs.StateMachine.Runs.{IsRun-append, last_world-append}
use Rattle.pud_defs.proofs.Output.Said.{replies_text-append}
use Rattle.pud_defs.proofs.StateMachine.Stands.{StandsAfter-more, StandsWith-later}
use Rattle.puddled.specs.declared.daemon.RunFault.{RunFault}
use Rattle.puddled.specs.declared.daemon.RunFault.TheVariants.{NotSound}
use Rattle.puddled.specs.Faults.{of_host, run_fault, CountsLine, CountsAnswer, CountsTurns, Grows}
use Rattle.puddled.proofs.DeviceStarts.Counted.{risen_grows, none_is_sound, unsound_unsaid, lost_in_line, CountsTurns-one, CountsTurns-append}
use Rattle.daemon_memory.specs.Memory.{Memory}
use Rattle.puddled.specs.DoesLines.{DoesLine, DoLines}
use Rattle.puddled.specs.Saying.{SaysPart}
use Rattle.puddled.specs.Daemon.{KeepsLine, spoken, Answers}
use Rattle.daemon_memory.specs.Ready.{IsReady, RefusesNone}
use Rattle.puddle_cli.proofs.InTurn.{DoLines-reads, DoLines-then, DoLines-pending}
use Rattle.puddle_cli.specs.declared.source.Source.{Source}
use Rattle.puddle_cli.specs.declared.source.Source.TheVariants.{Script, Generated}
use Rattle.puddle_cli.specs.Source.{is_aloud, bytes_left, TakesNext}
use Rattle.puddle_cli.specs.Serving.{said_of, refused_of, StandsAmong, StandsBy, KeepsScript, IsUnsoundAfterLoss, Takes, TakesAtMost, TakesAll, CountsPending, AllowsLogs, AnswersLine, Serves, HasServed}

-- ---- what is printed for lines, aloud or not

pub said_of-append : (aloud : Bool) (turns more : List Turn) → said_of aloud (turns ++ more) ≡ said_of aloud turns ++ said_of aloud more
said_of-append true turns more = replies_text-append turns more
said_of-append false turns more = refl

pub said_of-none : (aloud : Bool) → said_of aloud [] ≡ []
said_of-none true = refl
said_of-none false = refl

said_of-one : (aloud : Bool) (t : Turn) → said_of aloud (t ∷ []) ≡ spoken aloud t.answer
said_of-one true t = append-nil (answer_text t.answer)
said_of-one false t = refl

-- ---- which world an image stands for meanwhile

pub among_first : (size : ℕ) (w : World) (turns : List Turn) (image : Image) → world_of size image ≡ Some (closed w) → StandsAmong size w turns image
among_first size w [] image is = is
among_first size w (t ∷ turns) image is = inl is

among_more : (size : ℕ) (w : World) (turns more : List Turn) (image : Image) → StandsAmong size w turns image → StandsAmong size w (turns ++ more) image
among_more size w [] more image p = among_first size w more image p
among_more size w (t ∷ turns) more image (inl p) = inl p
among_more size w (t ∷ turns) more image (inr (inl p)) = inr (inl p)
among_more size w (t ∷ turns) more image (inr (inr p)) = inr (inr (among_more size t.next turns more image p))

pub among_later : (size : ℕ) (w : World) (turns more : List Turn) (image : Image) → StandsAmong size (last_world w turns) more image → StandsAmong size w (turns ++ more) image
among_later size w [] more image p = p
among_later size w (t ∷ turns) more image p = inr (inr (among_later size t.next turns more image p))

among_after : (size : ℕ) (w : World) (turns : List Turn) (said : ℕ) (image : Image) → StandsAfter size w turns said image → StandsAmong size w turns image
among_after size w [] zero image p = p
among_after size w [] (suc said) image p = absurd p
among_after size w (t ∷ turns) zero image (inl p) = inl p
among_after size w (t ∷ turns) zero image (inr p) = inr (inl p)
among_after size w (t ∷ turns) (suc said) image p = inr (inr (among_after size t.next turns said image p))

pub StandsBy-line : (aloud : Bool) (size : ℕ) (w : World) (turns : List Turn) (bytes : List ℕ) (image : Image) → StandsWith size w turns bytes image → StandsBy aloud size w turns bytes image
StandsBy-line true size w turns bytes image p = p
StandsBy-line false size w turns bytes image p = among_after size w turns (newlines bytes) image p

-- Before anything is printed, an image that stands for the closed world is as it should be.
pub StandsBy-none : (aloud : Bool) (size : ℕ) (w : World) (image : Image) → world_of size image ≡ Some (closed w) → StandsBy aloud size w [] [] image
StandsBy-none true size w image p = p
StandsBy-none false size w image p = p

StandsBy-more : (aloud : Bool) (size : ℕ) (w : World) (turns more : List Turn) (bytes : List ℕ) (image : Image) → StandsBy aloud size w turns bytes image → StandsBy aloud size w (turns ++ more) bytes image
StandsBy-more true size w turns more bytes image p = StandsAfter-more size w turns more (newlines bytes) image p
StandsBy-more false size w turns more bytes image p = among_more size w turns more image p

StandsBy-later : (aloud : Bool) (size : ℕ) (w : World) (turns more : List Turn) (bytes : List ℕ) (image : Image) → StandsBy aloud size (last_world w turns) more bytes image
    → StandsBy aloud size w (turns ++ more) (said_of aloud turns ++ bytes) image
StandsBy-later true size w turns more bytes image p = StandsWith-later size w turns more bytes image p
StandsBy-later false size w turns more bytes image p = among_later size w turns more image p

refused_of-append : (turns more : List Turn) → refused_of (turns ++ more) ≡ refused_of turns + refused_of more
refused_of-append turns more = sum_by-append (λ (t : Turn). cond (not (begins_with_ok t.answer)) 1 0) turns more

pub nothing_from_take : (line : List ℕ) → take 129 line ≡ [] → line ≡ []
nothing_from_take [] e = refl
nothing_from_take (b ∷ line) e = absurd (cc)

kept_shorter : (n : ℕ) (xs : List ℕ) (byte : ℕ) → take n (take n xs ++ byte ∷ []) ≡ take n (xs ++ byte ∷ [])
kept_shorter zero xs byte = refl
kept_shorter (suc n) [] byte = refl
kept_shorter (suc n) (x ∷ xs) byte = ap (λ (l : List ℕ). x ∷ l) (kept_shorter n xs byte)

-- What is kept of a line with one more byte is what is kept of the kept part with that byte.
pub kept_more : (xs : List ℕ) (byte : ℕ) → take 129 (take 129 xs ++ byte ∷ []) ≡ take 129 (xs ++ byte ∷ [])
kept_more xs byte = kept_shorter 129 xs byte

-- The turn of a line that was kept in part, with the whole line in its place.
relined : Turn → List ℕ → Turn
relined t line = record t { line = line }

module _ (w : World) (t : Turn) (piece line : List ℕ) (of_line : t.line ≡ piece) (kept : piece ≡ take 129 line) where
  same_command : command_of t.line ≡ command_of line
  same_command = ap command_of (of_line ∙ kept) ∙ command_of-front line

  is_turn_relined : IsTurn w t → IsTurn w (relined t line)
  unfolding relined
  is_turn_relined (inl turn) = inl (record { step = subst (λ (c : Option Command). StepBy w c t.answer t.under) same_command turn.step; goes_on = turn.goes_on })
  is_turn_relined (inr turn) =
      inr (record {
        answered = turn.answered;
        given = subst (λ (c : Option Command). Gives w c t.under) same_command turn.given;
        goes_on = turn.goes_on;
      })

-- The number of replies that do not begin with `ok`, from what the call for a line returned.
abbrev pub refused_by : Result Bool RunFault → Result ℕ RunFault
refused_by (Ok ok) = Ok (cond (not ok) 1 0)
refused_by (Err fault) = Err fault

same_fault : (result : Result Bool RunFault) → run_fault (refused_by result) ≡ run_fault result
same_fault (Ok ok) = refl
same_fault (Err fault) = refl

counted_refused : (ok : Bool) (t : Turn) → ok ≡ begins_with_ok t.answer → ◌≡◌ {A = ℕ} (cond (not ok) 1 0) (refused_of (t ∷ []))
counted_refused ok t is = ap (λ (b : Bool). cond (not b) 1 0) is ∙ omega arith

refused_turn : (result : Result Bool RunFault) (t : Turn) → IfOk result (λ ok. ok ≡ begins_with_ok t.answer) → IfOk (refused_by result) (λ count. count ≡ refused_of (t ∷ []))
refused_turn (Ok ok) t is = counted_refused ok t is
refused_turn (Err fault) t is = tt

-- A line that is not empty was answered by one turn.
pub AnswersLine-turn : (size : ℕ) (w : World) (aloud : Bool) (memory : Memory) (piece line : List ℕ) (result : Result Bool RunFault) (before after : Counts) (old new : State) → (piece ≡ [] → ⊥) → piece ≡ take 129 line
    → old.shelf ≡ w.shelf → KeepsLine (file_in (command_of piece)) old new → Answers size w piece aloud result memory before after old new → AnswersLine size w aloud line (refused_by result) memory before after old new
unfolding relined
AnswersLine-turn size w aloud memory piece line result before after old new some kept shelf keeps a =
    let t = relined a.turn line in
    let same : command_of piece ≡ command_of line = ap command_of kept ∙ command_of-front line in
    let counts : CountsLine (command_of line) (run_fault result) (cuts_of (t ∷ [])) before after =
    subst (λ (c : Option Command). CountsLine c (run_fault result) (cuts_of (t ∷ [])) before after) same a.counted in
    let longer : length line ≡ 0 → ⊥ = λ none. some (kept ∙ ap (λ (l : List ℕ). take 129 l) (nil_from_length line none)) in
    let same_end = same_fault result in
    record {
      run = record {
        turns = t ∷ [];
        few = omega arith;
        lines = sym (lines_among_line line longer);
        is_run = (is_turn_relined w a.turn piece line a.of_line kept a.is_turn, tt);
        refused = refused_turn result t a.ok;
      };
      moments = Leaves-weaker (StandsWith size w (t ∷ [])) (λ bytes image. StandsBy aloud size w (t ∷ []) bytes image) old new (λ bytes image p. StandsBy-line aloud size w (t ∷ []) bytes image p) a.moments;
      allowed = a.allowed;
      says = subst (λ (f : Option RunFault). SaysPart (said_of aloud (t ∷ [])) f old new) (sym same_end)
          (subst (λ (text : List ℕ). SaysPart text (run_fault result) old new) (sym (said_of-one aloud t)) a.says);
      does = record {
        from = old;
        read = refl;
        answered = a.answered;
        given = a.given;
        ended = subst (λ (f : Option RunFault). (run_fault a.answered ≡ None) ⊎ (run_fault a.answered ≡ f)) (sym same_end) a.ended;
        does = subst (λ (c : Option Command). DoesLine w c a.answered old new) same a.does;
      };
      ready = λ none. a.ready (sym same_end ∙ none);
      counted = subst (λ (f : Option RunFault). CountsLine (command_of line) f (cuts_of (t ∷ [])) before after) (sym same_end) counts;
      turns_counted = λ none. CountsTurns-one t before after (run_fault result) (sym same_end ∙ none) counts;
      sound = λ unsound. a.sound (sym same_end ∙ unsound);
      script = a.script;
      files = subst (λ (o : Option Command). KeepsFiles (file_in o) w.shelf new.shelf) same (subst (λ (shelf : List ℕ → Option (List ℕ)). KeepsFiles (file_in (command_of piece)) shelf new.shelf) shelf keeps.files);
    }

-- An empty line was answered by no turn.
pub AnswersLine-nothing : (size : ℕ) (w : World) (aloud : Bool) (memory : Memory) (line : List ℕ) (before after : Counts) (old new : State) → IsReady size w memory old → take 129 line ≡ [] → after ≡ before → new ≡ old
    → AnswersLine size w aloud line (Ok 0) memory before after old new
AnswersLine-nothing size w aloud memory line before after old new ready none uncounted same =
    subst (λ (n : State). AnswersLine size w aloud line (Ok 0) memory before after old n) (sym same) (record {
      run = record {
        turns = [];
        few = omega arith;
        lines = sym (lines_among_empty line (ap length (nothing_from_take line none)));
        is_run = tt;
        refused = refl;
      };
      moments = Leaves-still (λ bytes image. StandsBy aloud size w [] bytes image) old old (λ image picked. StandsBy-none aloud size w image (ready_stands size w _ _ ready image picked).0) refl;
      allowed = Leaves-still (λ bytes image. RefusesNone image) old old (λ image picked. (ready_stands size w _ _ ready image picked).1) refl;
      says = record { bytes = []; rest = []; part = said_of-none aloud; said = sym (append-nil old.now.said); whole = λ _. refl };
      does = refl;
      ready = λ _. ready;
      counted = (λ lost. cc, uncounted);
      turns_counted = λ _. uncounted;
      sound = none_is_sound;
      script = refl;
      files = KeepsFiles-still None w.shelf old.shelf ready.shelf;
    })

-- Whether replies are printed may be known in two ways.
pub AnswersLine-as : (size : ℕ) (w : World) (a b : Bool) (line : List ℕ) (result : Result ℕ RunFault) (memory : Memory) (before after : Counts) (old new : State) → a ≡ b
    → AnswersLine size w a line result memory before after old new → AnswersLine size w b line result memory before after old new
AnswersLine-as size w a b line result memory before after old new same it = subst (λ (x : Bool). AnswersLine size w x line result memory before after old new) same it

-- If the host failed while it read, only that fault is counted.
pub counts_nothing_more : (fault : HostFault) (before after : Counts) → after ≡ after_fault (Some fault) before → (Some fault ≡ Some hosts.Cut → ⊥) → CountsPending [] (Some (of_host fault)) before after
counts_nothing_more hosts.Failed before after last never_cut = (λ lost. cc, last)
counts_nothing_more hosts.Cut before after last never_cut = absurd (never_cut refl)

-- Reading adds no moment.
Leaves-script : (P : List ℕ → Image → Type 0) (bytes : List ℕ) (start now : State) → Leaves P start now → Leaves P start (with_script bytes now)
Leaves-script P bytes start now l = record { added = l.added; history = l.history; start = l.start; later = l.later }

IsReady-script : (size : ℕ) (w : World) (memory : Memory) (bytes : List ℕ) (s : State) → IsReady size w memory s → IsReady size w memory (with_script bytes s)
IsReady-script size w memory bytes s r = record { mask = r.mask; settled = r.settled; tables = r.tables; clients = r.clients; frames = r.frames; shelf = r.shelf; active = r.active; sessions = r.sessions; rest = r.rest; logs = r.logs; knows = r.knows }

-- The daemon is still ready after one more byte was read.
pub ready_read : (size : ℕ) (w : World) (aloud : Bool) (all : List ℕ) (before : Counts) (start : State) (counts : Counts) (memory : Memory) (now after : State) (left following piece : List ℕ) (refused : ℕ) (byte : ℕ)
    → (s : Serves size w aloud all before start counts memory now left piece refused) → TakesNext (Some byte) left following now after → IsReady size (last_world w s.run.turns) memory after
ready_read size w aloud all before start counts memory now after left following piece refused byte s took =
    subst (λ (n : State). IsReady size (last_world w s.run.turns) memory n) (sym took.1) (IsReady-script size (last_world w s.run.turns) memory after.script now s.ready)

-- One more line, after those that were answered, at the exit of the call that answered it.
module _ (size : ℕ) (w : World) (aloud : Bool) (all : List ℕ) (before : Counts) (start : State) (counts : Counts) (memory : Memory) (now : State) (read_counts : Counts) (read : State) (left piece : List ℕ) (refused : ℕ)
    (uncounted : read_counts ≡ counts) (s : Serves size w aloud all before start counts memory now left piece refused) where
  abbrev Stands : List Turn → List ℕ → Image → Type 0
  Stands turns bytes image = StandsBy aloud size w turns bytes image

  -- The counts do not change while a byte is read.
  so_far_counted : CountsTurns s.run.turns before read_counts
  so_far_counted = subst (λ (x : Counts). CountsTurns s.run.turns before x) (sym uncounted) s.counted

  joined_moments : (turns : List Turn) (new : State) → Leaves (Stands s.run.turns) start read → read.now.said ≡ start.now.said ++ said_of aloud s.run.turns
      → Leaves (λ bytes image. StandsBy aloud size (last_world w s.run.turns) turns bytes image) read new → Leaves (Stands (s.run.turns ++ turns)) start new
  joined_moments turns new so_far said line =
      Leaves-then (Stands s.run.turns) (λ bytes image. StandsBy aloud size (last_world w s.run.turns) turns bytes image) (Stands (s.run.turns ++ turns)) (said_of aloud s.run.turns) start read new said
      (λ front image p. StandsBy-more aloud size w s.run.turns turns front image p)
      (λ more image p. StandsBy-later aloud size w s.run.turns turns more image p)
      so_far line

  joined_allowed : (new : State) → AllowsLogs start read → read.now.said ≡ start.now.said ++ said_of aloud s.run.turns → AllowsLogs read new → AllowsLogs start new
  joined_allowed new so_far said line =
      let P : List ℕ → Image → Type 0 = λ bytes image. RefusesNone image in
      Leaves-then P P P (said_of aloud s.run.turns) start read new said (λ front image p. p) (λ more image p. p) so_far line

  joined_lines : (taken : List ℕ) (ended : Bool) (turns : List Turn) → lines_taken taken ended ≡ lines_taken s.run.taken false ++ lines_among (open_rest s.run.taken ∷ [])
      → map (λ t. t.line) turns ≡ lines_among (open_rest s.run.taken ∷ []) → map (λ t. t.line) (s.run.turns ++ turns) ≡ lines_taken taken ended
  joined_lines taken ended turns lines line =
      map-append (λ (t : Turn). t.line) s.run.turns turns ∙ (λ i. s.run.lines i ++ line i) ∙ sym lines

  joined_refused : (turns : List Turn) (count : ℕ) → count ≡ refused_of turns → refused + count ≡ refused_of (s.run.turns ++ turns)
  joined_refused turns count is = (λ i. s.run.refusals i + is i) ∙ sym (refused_of-append s.run.turns turns)

  -- The line ended with a fault, maybe at the end of the script.
  pub Answered-line : (next : Memory) (taken : List ℕ) (ended : Bool) (fault : RunFault) (after : Counts) (new : State) (following : List ℕ)
      → lines_taken taken ended ≡ lines_taken s.run.taken false ++ lines_among (open_rest s.run.taken ∷ [])
      → all ≡ taken ++ following → (ended ≡ true → following ≡ [])
      → Leaves (Stands s.run.turns) start read → AllowsLogs start read → read.now.said ≡ start.now.said ++ said_of aloud s.run.turns → DoLines w s.run.turns start read
      → (a : AnswersLine size (last_world w s.run.turns) aloud (open_rest s.run.taken) (Err fault) next read_counts after read new)
      → HasServed size w aloud all ended (Some fault) before after start new following 0
  Answered-line next taken ended fault after new following lines is to_end so_far logs said did a =
      record {
        run = record {
          taken = taken;
          answered = s.run.turns;
          pending = a.run.turns;
          few = a.run.few;
          is_run = IsRun-append w s.run.turns a.run.turns s.run.is_run a.run.is_run;
          lines = joined_lines taken ended a.run.turns lines a.run.lines;
          is = is;
          to_end = to_end;
          refusals = λ none. absurd (let no : Some fault ≡ None = none in cc);
          whole = λ none. absurd (let no : Some fault ≡ None = none in cc);
        };
        says = record {
          more = a.says.bytes;
          rest = a.says.rest;
          said = a.says.said ∙ ap (λ (l : List ℕ). l ++ a.says.bytes) said;
          part = a.says.part;
        };
        did = record {
          last = read;
          does = did;
          under_way = a.does;
        };
        moments = joined_moments a.run.turns new so_far said a.moments;
        allowed = joined_allowed new logs said a.allowed;
        memory = next;
        ready = λ none. absurd (let no : Some fault ≡ None = none in cc);
        files = a.files;
        counts = record {
          mid = read_counts;
          turns_counted = so_far_counted;
          counted = a.counted;
        };
        sound = a.sound;
      }

  all_said_whole : (turns : List Turn) (bytes rest : List ℕ) (old new : State) → said_of aloud turns ≡ bytes ++ rest → rest ≡ [] → new.now.said ≡ old.now.said ++ bytes
      → old.now.said ≡ start.now.said ++ said_of aloud s.run.turns → new.now.said ≡ start.now.said ++ said_of aloud (s.run.turns ++ turns)
  all_said_whole turns bytes rest old new part none new_said said =
      let whole : said_of aloud turns ≡ bytes = part ∙ ap (λ (l : List ℕ). bytes ++ l) none ∙ append-nil bytes in
      new_said ∙ ap (λ (l : List ℕ). l ++ bytes) said ∙ append_assoc start.now.said (said_of aloud s.run.turns) bytes
      ∙ ap (λ (l : List ℕ). start.now.said ++ (said_of aloud s.run.turns ++ l)) (sym whole) ∙ ap (λ (l : List ℕ). start.now.said ++ l) (sym (said_of-append aloud s.run.turns turns))

  -- All lines were answered, to the end of the script.
  pub Answered-end : (next : Memory) (after : Counts) (new : State) (count : ℕ) (following : List ℕ) → read ≡ now → left ≡ [] → following ≡ left
      → (a : AnswersLine size (last_world w s.run.turns) aloud (open_rest s.run.taken) (Ok count) next read_counts after read new) → HasServed size w aloud all true None before after start new following (refused + count)
  Answered-end next after new count following same none_left same_left a =
      let said = ap (λ (x : State). x.now.said) same ∙ s.said in
      let so_far = subst (λ (n : State). Leaves (Stands s.run.turns) start n) (sym same) s.moments in
      let logs = subst (λ (n : State). AllowsLogs start n) (sym same) s.allowed in
      let did = subst (λ (n : State). DoLines w s.run.turns start n) (sym same) s.does in
      let ready_end : IsReady size (last_world w (s.run.turns ++ a.run.turns)) next new = subst (λ (v : World). IsReady size v next new) (sym (last_world-append w s.run.turns a.run.turns)) (a.ready refl) in
      record {
        run = record {
          taken = s.run.taken;
          answered = s.run.turns ++ a.run.turns;
          pending = [];
          few = omega arith;
          is_run = subst (λ (ts : List Turn). IsRun w ts) (sym (append-nil (s.run.turns ++ a.run.turns))) (IsRun-append w s.run.turns a.run.turns s.run.is_run a.run.is_run);
          lines = ap (λ (ts : List Turn). map (λ t. t.line) ts) (append-nil (s.run.turns ++ a.run.turns)) ∙ joined_lines s.run.taken true a.run.turns (lines_taken-end s.run.taken) a.run.lines;
          is = s.run.is ∙ ap (λ (l : List ℕ). s.run.taken ++ l) (sym same_left);
          to_end = λ _. same_left ∙ none_left;
          refusals = λ _. joined_refused a.run.turns count a.run.refused;
          whole = λ _. refl;
        };
        says = record {
          more = [];
          rest = [];
          said = all_said_whole a.run.turns a.says.bytes a.says.rest read new a.says.part (a.says.whole refl) a.says.said said ∙ sym (append-nil (start.now.said ++ said_of aloud (s.run.turns ++ a.run.turns)));
          part = said_of-none aloud;
        };
        did = record {
          last = new;
          does = DoLines-then w s.run.turns a.run.turns start read new did (DoLines-pending (last_world w s.run.turns) a.run.turns read new a.run.few a.does);
          under_way = refl;
        };
        moments = subst (λ (ts : List Turn). Leaves (Stands ts) start new) (sym (append-nil (s.run.turns ++ a.run.turns))) (joined_moments a.run.turns new so_far said a.moments);
        allowed = joined_allowed new logs said a.allowed;
        memory = next;
        ready = λ _. ready_end;
        files = KeepsFiles-still None (last_world w (s.run.turns ++ a.run.turns)).shelf new.shelf ready_end.shelf;
        counts = record {
          mid = after;
          turns_counted = CountsTurns-append s.run.turns a.run.turns before read_counts after so_far_counted (a.turns_counted refl);
          counted = (λ lost. cc, refl);
        };
        sound = none_is_sound;
      }

  -- A byte was taken, and the bytes after it are left.
  module _ (byte : ℕ) (following : List ℕ) (took : TakesNext (Some byte) left following now read) where
    said_read : read.now.said ≡ start.now.said ++ said_of aloud s.run.turns
    said_read = ap (λ (x : State). x.now.said) took.1 ∙ s.said

    moments_read : Leaves (Stands s.run.turns) start read
    moments_read = subst (λ (n : State). Leaves (Stands s.run.turns) start n) (sym took.1) (Leaves-script (Stands s.run.turns) read.script start now s.moments)

    does_read : DoLines w s.run.turns start read
    does_read = DoLines-reads w s.run.turns start now read s.does took.1

    allowed_read : AllowsLogs start read
    allowed_read = subst (λ (n : State). AllowsLogs start n) (sym took.1) (Leaves-script (λ bytes image. RefusesNone image) read.script start now s.allowed)

    taken_more : (after : List ℕ) → after ≡ following → all ≡ (s.run.taken ++ byte ∷ []) ++ after
    taken_more after same = s.run.is ∙ ap (λ (l : List ℕ). s.run.taken ++ l) (took.0 ∙ ap (λ (l : List ℕ). byte ∷ l) (sym same)) ∙ sym (append_assoc s.run.taken (byte ∷ []) after)

    -- The byte is a newline, and the line that it ends was answered.
    pub Serves-line : (next : Memory) (after : Counts) (new : State) (count : ℕ) (later : List ℕ) → later ≡ following → byte ≡ 10
        → (a : AnswersLine size (last_world w s.run.turns) aloud (open_rest s.run.taken) (Ok count) next read_counts after read new) → Serves size w aloud all before start after next new later [] (refused + count)
    Serves-line next after new count later same newline a =
        record {
          run = record {
            taken = s.run.taken ++ byte ∷ [];
            turns = s.run.turns ++ a.run.turns;
            is_run = IsRun-append w s.run.turns a.run.turns s.run.is_run a.run.is_run;
            lines = joined_lines (s.run.taken ++ byte ∷ []) false a.run.turns (lines_taken-newline s.run.taken byte newline) a.run.lines;
            under_way = sym (ap (λ (l : List ℕ). take 129 l) (open_rest-newline s.run.taken byte newline));
            is = taken_more later same;
            refusals = joined_refused a.run.turns count a.run.refused;
          };
          said = all_said_whole a.run.turns a.says.bytes a.says.rest read new a.says.part (a.says.whole refl) a.says.said said_read;
          does = DoLines-then w s.run.turns a.run.turns start read new does_read (DoLines-pending (last_world w s.run.turns) a.run.turns read new a.run.few a.does);
          moments = joined_moments a.run.turns new moments_read said_read a.moments;
          allowed = joined_allowed new allowed_read said_read a.allowed;
          ready = subst (λ (v : World). IsReady size v next new) (sym (last_world-append w s.run.turns a.run.turns)) (a.ready refl);
          counted = CountsTurns-append s.run.turns a.run.turns before read_counts after so_far_counted (a.turns_counted refl);
        }

    -- The byte is a newline, and the line that it ends was not answered whole.
    pub Answered-newline : (next : Memory) (fault : RunFault) (after : Counts) (new : State) (later : List ℕ) → later ≡ following → byte ≡ 10
        → AnswersLine size (last_world w s.run.turns) aloud (open_rest s.run.taken) (Err fault) next read_counts after read new → HasServed size w aloud all false (Some fault) before after start new later 0
    Answered-newline next fault after new later same newline a =
        Answered-line next (s.run.taken ++ byte ∷ []) false fault after new later (lines_taken-newline s.run.taken byte newline) (taken_more later same)
        (λ e. absurd (let no : false ≡ true = e in cc)) moments_read allowed_read said_read does_read a

    -- The byte is no newline, and belongs to the line under way.
    pub Serves-byte : (byte ≡ 10 → ⊥) → Serves size w aloud all before start read_counts memory read following (take 129 (piece ++ byte ∷ [])) refused
    Serves-byte other =
        record {
          run = record {
            taken = s.run.taken ++ byte ∷ [];
            turns = s.run.turns;
            is_run = s.run.is_run;
            lines = s.run.lines ∙ sym (lines_taken-other s.run.taken byte other);
            under_way = ap (λ (l : List ℕ). take 129 (l ++ byte ∷ [])) s.run.under_way ∙ kept_more (open_rest s.run.taken) byte ∙ ap (λ (l : List ℕ). take 129 l) (sym (open_rest-other s.run.taken byte other));
            is = taken_more following refl;
            refusals = s.run.refusals;
          };
          said = said_read;
          does = does_read;
          moments = moments_read;
          allowed = allowed_read;
          ready = ready_read size w aloud all before start counts memory now read left following piece refused byte s took;
          counted = so_far_counted;
        }

  -- The end was reached, and the last line was not answered whole.
  pub Answered-last : (next : Memory) (fault : RunFault) (after : Counts) (new : State) (following : List ℕ) → read ≡ now → left ≡ [] → following ≡ left
      → AnswersLine size (last_world w s.run.turns) aloud (open_rest s.run.taken) (Err fault) next read_counts after read new → HasServed size w aloud all true (Some fault) before after start new following 0
  Answered-last next fault after new following same none_left same_left a =
      Answered-line next s.run.taken true fault after new following (lines_taken-end s.run.taken)
      (s.run.is ∙ ap (λ (l : List ℕ). s.run.taken ++ l) (sym same_left))
      (λ _. same_left ∙ none_left)
      (subst (λ (n : State). Leaves (Stands s.run.turns) start n) (sym same) s.moments)
      (subst (λ (n : State). AllowsLogs start n) (sym same) s.allowed)
      (ap (λ (x : State). x.now.said) same ∙ s.said)
      (subst (λ (n : State). DoLines w s.run.turns start n) (sym same) s.does)
      a

  -- Nothing more was taken or printed.
  pub Answered-so_far : (fault : Option RunFault) (after : Counts) (following : List ℕ) (count : ℕ) → read ≡ now → following ≡ left → (fault ≡ None → count ≡ refused) → CountsPending [] fault read_counts after → (fault ≡ Some NotSound → ⊥)
      → HasServed size w aloud all false fault before after start read following count
  Answered-so_far fault after following count same same_left counts_refused last is_sound =
      subst (λ (n : State). HasServed size w aloud all false fault before after start n following count) (sym same) (record {
        run = record {
          taken = s.run.taken;
          answered = s.run.turns;
          pending = [];
          few = omega arith;
          is_run = subst (λ (ts : List Turn). IsRun w ts) (sym (append-nil s.run.turns)) s.run.is_run;
          lines = ap (λ (ts : List Turn). map (λ t. t.line) ts) (append-nil s.run.turns) ∙ s.run.lines;
          is = s.run.is ∙ ap (λ (l : List ℕ). s.run.taken ++ l) (sym same_left);
          to_end = λ e. absurd (let no : false ≡ true = e in cc);
          refusals = λ none. counts_refused none ∙ s.run.refusals;
          whole = λ _. refl;
        };
        says = record {
          more = [];
          rest = [];
          said = s.said ∙ sym (append-nil (start.now.said ++ said_of aloud s.run.turns));
          part = said_of-none aloud;
        };
        did = record {
          last = now;
          does = s.does;
          under_way = refl;
        };
        moments = subst (λ (ts : List Turn). Leaves (Stands ts) start now) (sym (append-nil s.run.turns)) s.moments;
        allowed = s.allowed;
        memory = memory;
        ready = λ _. s.ready;
        files = KeepsFiles-still None (last_world w s.run.turns).shelf now.shelf s.ready.shelf;
        counts = record {
          mid = read_counts;
          turns_counted = so_far_counted;
          counted = last;
        };
        sound = is_sound;
      })

-- Before any byte is taken, no line was answered.
pub Serves-start : (size : ℕ) (w : World) (aloud : Bool) (memory : Memory) (before : Counts) (start now : State) (all : List ℕ) → now ≡ start → IsReady size w memory start → Serves size w aloud all before start before memory now all [] 0
Serves-start size w aloud memory before start now all same ready =
    subst (λ (n : State). Serves size w aloud all before start before memory n all [] 0) (sym same) (record {
      run = record {
        taken = [];
        turns = [];
        is_run = tt;
        lines = sym (lines_taken-nothing false);
        under_way = sym (ap (λ (l : List ℕ). take 129 l) open_rest-nothing);
        is = refl;
        refusals = refl;
      };
      said = sym (ap (λ (l : List ℕ). start.now.said ++ l) (said_of-none aloud) ∙ append-nil start.now.said);
      does = refl;
      moments = Leaves-still (λ bytes image. StandsBy aloud size w [] bytes image) start start (λ image picked. StandsBy-none aloud size w image (ready_stands size w _ _ ready image picked).0) refl;
      allowed = Leaves-still (λ bytes image. RefusesNone image) start start (λ image picked. (ready_stands size w _ _ ready image picked).1) refl;
      ready = ready;
      counted = refl;
    })

-- ---- which bytes are left

-- The bytes left do not change as long as the script does not.
pub left_kept : (source : Source) (old new : State) → new.script ≡ old.script → bytes_left source new ≡ bytes_left source old
left_kept Script old new same = same
left_kept (Generated bytes) old new same = refl

-- If replies are printed, a byte that was taken was read from the script.
pub took_aloud : (source next : Source) (byte : Option ℕ) (old new : State) → is_aloud source ≡ true → is_aloud next ≡ true → TakesNext byte (bytes_left source old) (bytes_left next new) old new → TakesByte byte old new
took_aloud Script Script None old new said same took = (took.0, took.2)
took_aloud Script Script (Some byte) old new said same took = took
took_aloud Script (Generated bytes) byte old new said same took = absurd (let no : false ≡ true = same in cc)
took_aloud (Generated bytes) next byte old new said same took = absurd (let no : false ≡ true = said in cc)

-- ---- the bytes taken, whatever the device stores

pub KeepsScript-still : (old new : State) → new ≡ old → KeepsScript old new
KeepsScript-still old new same = record { script = ap (λ (x : State). x.script) same; files = KeepsUnwritable-still old.shelf new.shelf (ap (λ (x : State). x.shelf) same) }

pub KeepsScript-line : (line : List ℕ) (old new : State) → KeepsLine (file_in (command_of line)) old new → KeepsScript old new
KeepsScript-line line old new k = record { script = k.script; files = KeepsUnwritable-line line old.shelf new.shelf k.files }

pub Takes-start : (all : List ℕ) (start now : State) → now ≡ start → Takes all 0 start now all
Takes-start all start now same = subst (λ (n : State). Takes all 0 start n all) (sym same) (record { taken = []; counted = refl; is = refl; files = KeepsUnwritable-still start.shelf start.shelf refl })

pub Takes-more : (all : List ℕ) (count byte : ℕ) (left following later : List ℕ) (start now read new : State) → Takes all count start now left → TakesNext (Some byte) left following now read → later ≡ following → KeepsScript read new
    → Takes all (count + 1) start new later
Takes-more all count byte left following later start now read new t took same kept =
    record {
      taken = t.taken ++ byte ∷ [];
      counted = let n = t.counted in omega (arith, length-append t.taken (byte ∷ []));
      is = t.is ∙ ap (λ (l : List ℕ). t.taken ++ l) (took.0 ∙ ap (λ (l : List ℕ). byte ∷ l) (sym same)) ∙ sym (append_assoc t.taken (byte ∷ []) later);
      files = KeepsUnwritable-then start.shelf now.shelf new.shelf t.files
          (KeepsUnwritable-then now.shelf read.shelf new.shelf (KeepsUnwritable-still now.shelf read.shelf (ap (λ (x : State). x.shelf) took.1)) kept.files);
    }

pub TakesAtMost-takes : (all : List ℕ) (count most : ℕ) (start now : State) (left : List ℕ) → count ≤ most → Takes all count start now left → TakesAtMost all most start now left
TakesAtMost-takes all count most start now left below t = record { taken = t.taken; counted = let n = t.counted in omega arith; is = t.is; files = t.files }

pub Takes-same : (all : List ℕ) (count : ℕ) (start now new : State) (left later : List ℕ) → new ≡ now → later ≡ left → Takes all count start now left → Takes all count start new later
Takes-same all count start now new left later same same_left t = subst (λ (n : State). Takes all count start n later) (sym same) (subst (λ (l : List ℕ). Takes all count start now l) (sym same_left) t)

pub Takes-kept : (all : List ℕ) (count : ℕ) (start now new : State) (left later : List ℕ) → later ≡ left → Takes all count start now left → KeepsScript now new → Takes all count start new later
Takes-kept all count start now new left later same t kept =
    record { taken = t.taken; counted = t.counted; is = t.is ∙ ap (λ (l : List ℕ). t.taken ++ l) (sym same); files = KeepsUnwritable-then start.shelf now.shelf new.shelf t.files kept.files }

pub TakesAll-end : (all : List ℕ) (count : ℕ) (start now : State) (left : List ℕ) → count < SCRIPT_LIMIT → left ≡ [] → Takes all count start now left → TakesAll all start now left
TakesAll-end all count start now left below none_left t =
    record { taken = t.taken; below = let n = t.counted in omega arith; is = t.is; none_left = none_left; files = t.files }

-- ---- a device that is not sound, whatever it stores

pub unsound_line : (command : Option Command) (fault : RunFault) (before after : Counts) (now : State) → CountsAnswer command (Err fault) before after
    → (fault ≡ NotSound → world_of before.size (reads now.now.words) ≡ None) → fault ≡ NotSound → IsUnsoundAfterLoss before after now
unsound_line command fault before after now counted unsound is =
    record { lost = lost_in_line command 0 before after (unsound_unsaid command counted.answered fault before counted.mid after counted.replied counted.said is); unsound = unsound is }

-- A loss that was counted after some lines was also counted since before them.
pub unsound_after : (a b c : Counts) (now : State) → Grows a b → IsUnsoundAfterLoss b c now → IsUnsoundAfterLoss a c now
unsound_after a b c now grew u = record {
  lost = ⊎_elim
      (λ cuts. inl (let more = risen_grows a.cuts b.cuts grew.cuts in omega arith))
      (λ losses. inr (let more = risen_grows a.losses b.losses grew.losses in omega arith))
      u.lost;
  unsound = subst (λ (n : ℕ). world_of n (reads now.now.words) ≡ None) grew.size u.unsound;
}

-- The rules that the proof of the loop over the script uses.
pub ruleset taking = (KeepsScript-still, KeepsScript-line, Takes-start, Takes-same, Takes-kept, TakesAtMost-takes, TakesAll-end)
