-- Lemmas on the answers to a script, line by line, whatever the device stores.
use Rattle.std.proofs.Common.{◌≡◌, ℕ, zero, suc, ◌+◌, Bool, true, false, List, [], ◌∷◌, ◌++◌, length, take, Option, Some, None, Result, inl, inr, refl, sym, ap, subst, ◌∙◌, arith, append_assoc, length-append}
use Rattle.std.specs.Prelude.{All}
use Rattle.std.specs.List.{concat}
use Rattle.std.proofs.lemmas.List.{append-nil, nil_from_length}
use Rattle.std.proofs.lemmas.List.Elements.{All-append}
use Rattle.std.proofs.lemmas.List.Folds.{concat-append}
use Rattle.pm_model.specs.Counts.{Counts}
use Rattle.pm_model.specs.Words.{reads}
use Rattle.pm_model.specs.Moments.{State}
use Rattle.pm_model.specs.Calls.{TakesByte}
use Rattle.pud_defs.specs.declared.machine.Command.{Command}
use Rattle.pud_defs.specs.StateMachine.Run.{open_rest, lines_taken, lines_among}
use Rattle.pud_defs.specs.Output.StartText.{start_text}
use Rattle.pud_defs.proofs.StateMachine.Lines.{open_rest-newline, open_rest-other, open_rest-nothing, lines_taken-nothing, lines_taken-newline, lines_taken-other, lines_taken-end, lines_among_empty, lines_among_line}
use Rattle.puddled.specs.declared.daemon.RunFault.{RunFault}
use Rattle.pm_model.specs.declared.host.HostFault.{HostFault}
use Rattle.puddled.specs.Faults.{run_fault}
use Rattle.puddled.specs.Saying.{SaysPart}
use Rattle.puddled.specs.Daemon.{IsAnswerText, SaysAnswer}
use Rattle.puddled.proofs.LinesDone.Lines.{SaysAnswer-text, SaysAnswer-silent}
use Rattle.puddle_cli.specs.Status.{run_fault_at}
use Rattle.puddle_cli.specs.Replying.{HearsLine, Hears, IsReplied, Heard, RunSays}
use Rattle.puddle_cli.proofs.Answering.{nothing_from_take, kept_more}

no_answer : All IsAnswerText []
no_answer k d below = absurd (omega arith)

one_answer : (text : List ℕ) → IsAnswerText text → All IsAnswerText (text ∷ [])
one_answer text is zero d below = is
one_answer text is (suc k) d below = absurd (omega arith)

-- ---- one line

pub HearsLine-turn : (frames : ℕ) (command : Option Command) (aloud : Bool) (piece line : List ℕ) (result : Result Bool RunFault) (before after : Counts) (old new : State) → aloud ≡ true → (piece ≡ [] → ⊥) → piece ≡ take 129 line
    → SaysAnswer frames command aloud result before after old new → new.script ≡ old.script → HearsLine line (run_fault result) old new
HearsLine-turn frames command aloud piece line result before after old new heard some kept as_said script =
    let s = SaysAnswer-text frames command result before after old new (subst (λ (b : Bool). SaysAnswer frames command b result before after old new) heard as_said) in
    let longer : length line ≡ 0 → ⊥ = λ none. some (kept ∙ ap (λ (l : List ℕ). take 129 l) (nil_from_length line none)) in
    record {
      texts = s.text ∷ [];
      few = omega arith;
      answers = one_answer s.text s.is;
      count = ap length (sym (lines_among_line line longer));
      says = subst (λ (l : List ℕ). SaysPart l (run_fault result) old new) (sym (append-nil s.text)) s.says;
      script = script;
    }

pub HearsLine-nothing : (line : List ℕ) (old new : State) → take 129 line ≡ [] → new ≡ old → HearsLine line None old new
HearsLine-nothing line old new none same = record {
  texts = [];
  few = omega arith;
  answers = no_answer;
  count = ap length (sym (lines_among_empty line (ap length (nothing_from_take line none))));
  says = record { bytes = []; rest = []; part = refl; said = ap (λ (s : State). s.now.said) same ∙ sym (append-nil old.now.said); whole = λ _. refl };
  script = ap (λ (s : State). s.script) same;
}

-- A line whose reply is not printed prints nothing.
pub says_nothing : (frames : ℕ) (command : Option Command) (aloud : Bool) (result : Result Bool RunFault) (before after : Counts) (old new : State) → aloud ≡ false → SaysAnswer frames command aloud result before after old new
    → new.now.said ≡ old.now.said
says_nothing frames command aloud result before after old new silent says =
    SaysAnswer-silent frames command result before after old new (subst (λ (b : Bool). SaysAnswer frames command b result before after old new) silent says)

-- ---- before any byte is taken

pub Hears-start : (start now : State) → now ≡ start → Hears start now []
Hears-start start now same = subst (λ (n : State). Hears start n []) (sym same) (record {
  taken = [];
  texts = [];
  answers = no_answer;
  count = ap length (sym (lines_taken-nothing false));
  under_way = sym (ap (λ (l : List ℕ). take 129 l) open_rest-nothing);
  script = refl;
  said = sym (append-nil start.now.said);
})

-- ---- one line more

module _ (start now read : State) (piece : List ℕ) (s : Hears start now piece) where
  joined_count : (taken : List ℕ) (ended : Bool) (texts : List (List ℕ)) → lines_taken taken ended ≡ lines_taken s.taken false ++ lines_among (open_rest s.taken ∷ [])
      → length texts ≡ length (lines_among (open_rest s.taken ∷ [])) → length (s.texts ++ texts) ≡ length (lines_taken taken ended)
  joined_count taken ended texts all line =
      length-append s.texts texts ∙ (λ i. s.count i + line i) ∙ sym (length-append (lines_taken s.taken false) (lines_among (open_rest s.taken ∷ []))) ∙ ap length (sym all)

  joined_said : (texts : List (List ℕ)) (bytes rest : List ℕ) (new : State) → concat texts ≡ bytes ++ rest → rest ≡ [] → new.now.said ≡ read.now.said ++ bytes → read.now.said ≡ start.now.said ++ concat s.texts
      → new.now.said ≡ start.now.said ++ concat (s.texts ++ texts)
  joined_said texts bytes rest new part none new_said said =
      let whole : concat texts ≡ bytes = part ∙ ap (λ (l : List ℕ). bytes ++ l) none ∙ append-nil bytes in
      new_said ∙ ap (λ (l : List ℕ). l ++ bytes) said ∙ append_assoc start.now.said (concat s.texts) bytes
      ∙ ap (λ (l : List ℕ). start.now.said ++ (concat s.texts ++ l)) (sym whole) ∙ ap (λ (l : List ℕ). start.now.said ++ l) (sym (concat-append s.texts texts))

  -- A newline was taken, and the line that it ends was answered.
  pub Hears-line : (byte : ℕ) (new : State) → byte ≡ 10 → TakesByte (Some byte) now read → HearsLine (open_rest s.taken) None read new → Hears start new []
  Hears-line byte new newline took line = record {
    taken = s.taken ++ byte ∷ [];
    texts = s.texts ++ line.texts;
    answers = All-append IsAnswerText s.texts line.texts s.answers line.answers;
    count = joined_count (s.taken ++ byte ∷ []) false line.texts (lines_taken-newline s.taken byte newline) line.count;
    under_way = sym (ap (λ (l : List ℕ). take 129 l) (open_rest-newline s.taken byte newline));
    script = s.script ∙ ap (λ (l : List ℕ). s.taken ++ l) (took.0 ∙ ap (λ (l : List ℕ). byte ∷ l) (sym line.script)) ∙ sym (append_assoc s.taken (byte ∷ []) new.script);
    said = joined_said line.texts line.says.bytes line.says.rest new line.says.part (line.says.whole refl) line.says.said (ap (λ (x : State). x.now.said) took.1 ∙ s.said);
  }

  -- Another byte was taken.
  pub Hears-byte : (byte : ℕ) → (byte ≡ 10 → ⊥) → TakesByte (Some byte) now read → Hears start read (take 129 (piece ++ byte ∷ []))
  Hears-byte byte other took = record {
    taken = s.taken ++ byte ∷ [];
    texts = s.texts;
    answers = s.answers;
    count = s.count ∙ ap length (sym (lines_taken-other s.taken byte other));
    under_way = ap (λ (l : List ℕ). take 129 (l ++ byte ∷ [])) s.under_way ∙ kept_more (open_rest s.taken) byte ∙ ap (λ (l : List ℕ). take 129 l) (sym (open_rest-other s.taken byte other));
    script = s.script ∙ ap (λ (l : List ℕ). s.taken ++ l) took.0 ∙ sym (append_assoc s.taken (byte ∷ []) read.script);
    said = ap (λ (x : State). x.now.said) took.1 ∙ s.said;
  }

  -- A line was answered in part.
  Heard-line : (taken : List ℕ) (ended : Bool) (fault : RunFault) (new : State) → lines_taken taken ended ≡ lines_taken s.taken false ++ lines_among (open_rest s.taken ∷ []) → start.script ≡ taken ++ read.script
      → read.now.said ≡ start.now.said ++ concat s.texts → HearsLine (open_rest s.taken) (Some fault) read new → Heard ended (Some fault) start new
  Heard-line taken ended fault new all script said line = record {
    bytes = concat s.texts ++ line.says.bytes;
    said = line.says.said ∙ ap (λ (l : List ℕ). l ++ line.says.bytes) said ∙ append_assoc start.now.said (concat s.texts) line.says.bytes;
    replied = record {
      taken = taken;
      texts = s.texts;
      pending = line.texts;
      few = line.few;
      answers = All-append IsAnswerText s.texts line.texts s.answers line.answers;
      count = joined_count taken ended line.texts all line.count;
      more = line.says.bytes;
      rest = line.says.rest;
      part = line.says.part;
      whole = λ none. absurd (let no : Some fault ≡ None = none in cc);
      script = script ∙ ap (λ (l : List ℕ). taken ++ l) (sym line.script);
      is = refl;
    };
  }

  pub Heard-newline : (byte : ℕ) (fault : RunFault) (new : State) → byte ≡ 10 → TakesByte (Some byte) now read → HearsLine (open_rest s.taken) (Some fault) read new → Heard false (Some fault) start new
  Heard-newline byte fault new newline took line =
      Heard-line (s.taken ++ byte ∷ []) false fault new (lines_taken-newline s.taken byte newline)
      (s.script ∙ ap (λ (l : List ℕ). s.taken ++ l) took.0 ∙ sym (append_assoc s.taken (byte ∷ []) read.script)) (ap (λ (x : State). x.now.said) took.1 ∙ s.said) line

  -- The end was read, and the last line was answered in part.
  pub Heard-last : (fault : RunFault) (new : State) → read ≡ now → HearsLine (open_rest s.taken) (Some fault) read new → Heard true (Some fault) start new
  Heard-last fault new same line =
      Heard-line s.taken true fault new (lines_taken-end s.taken) (s.script ∙ ap (λ (x : State). s.taken ++ x.script) (sym same)) (ap (λ (x : State). x.now.said) same ∙ s.said) line

  -- Nothing more was taken or printed.
  so_far : (ended : Bool) (fault : Option RunFault) (end : State) (texts : List (List ℕ)) → All IsAnswerText texts → length texts ≡ length (lines_taken s.taken ended) → end.now.said ≡ start.now.said ++ concat texts
      → start.script ≡ s.taken ++ end.script → Heard ended fault start end
  so_far ended fault end texts answers count said script = record {
    bytes = concat texts;
    said = said;
    replied = record {
      taken = s.taken;
      texts = texts;
      pending = [];
      few = omega arith;
      answers = subst (λ (l : List (List ℕ)). All IsAnswerText l) (sym (append-nil texts)) answers;
      count = ap length (append-nil texts) ∙ count;
      more = [];
      rest = [];
      part = refl;
      whole = λ _. refl;
      script = script;
      is = sym (append-nil (concat texts));
    };
  }

  pub Heard-so_far : (fault : Option RunFault) → read ≡ now → Heard false fault start read
  Heard-so_far fault same =
      so_far false fault read s.texts s.answers s.count (ap (λ (x : State). x.now.said) same ∙ s.said) (s.script ∙ ap (λ (x : State). s.taken ++ x.script) (sym same))

  -- The script was answered to its end.
  pub Heard-end : (new : State) → read ≡ now → HearsLine (open_rest s.taken) None read new → Heard true None start new
  Heard-end new same line =
      so_far true None new (s.texts ++ line.texts) (All-append IsAnswerText s.texts line.texts s.answers line.answers) (joined_count s.taken true line.texts (lines_taken-end s.taken) line.count)
      (joined_said line.texts line.says.bytes line.says.rest new line.says.part (line.says.whole refl) line.says.said (ap (λ (x : State). x.now.said) same ∙ s.said))
      (s.script ∙ ap (λ (x : State). s.taken ++ x.script) (sym same) ∙ ap (λ (l : List ℕ). s.taken ++ l) (sym line.script))

-- ---- after a start

-- The start was not printed whole.
pub RunSays-start : (status : ℕ) (fault : Option HostFault) (start end : State) → (run_fault_at status ≡ None → ⊥) → SaysPart (start_text (reads start.now.words)) fault start end → RunSays status start end
RunSays-start status fault start end faulty s = record {
  bytes = s.bytes;
  said = s.said;
  replied = inl (record { rest = s.rest; is = s.part });
  whole = λ none. absurd (faulty none);
}

-- The device was refused, and nothing was printed.
pub RunSays-refused : (status : ℕ) (start end : State) → (run_fault_at status ≡ None → ⊥) → end ≡ start → RunSays status start end
RunSays-refused status start end faulty same = record {
  bytes = [];
  said = ap (λ (s : State). s.now.said) same ∙ sym (append-nil start.now.said);
  replied = inl (record { rest = start_text (reads start.now.words); is = refl });
  whole = λ none. absurd (faulty none);
}

module _ (status : ℕ) (start mid end : State) (started : SaysPart {Fault = HostFault} (start_text (reads start.now.words)) None start mid) (script : mid.script ≡ start.script) where
  abbrev text : List ℕ
  text = start_text (reads start.now.words)

  said_mid : mid.now.said ≡ start.now.said ++ text
  said_mid = started.said ∙ ap (λ (l : List ℕ). start.now.said ++ l) (sym (started.part ∙ ap (λ (l : List ℕ). started.bytes ++ l) (started.whole refl) ∙ append-nil started.bytes))

  following : (ended : Bool) (fault : Option RunFault) (h : Heard ended fault mid end) → IsReplied text ended fault start end (text ++ h.bytes)
  following ended fault h = record {
    taken = h.replied.taken;
    texts = h.replied.texts;
    pending = h.replied.pending;
    few = h.replied.few;
    answers = h.replied.answers;
    count = h.replied.count;
    more = h.replied.more;
    rest = h.replied.rest;
    part = h.replied.part;
    whole = h.replied.whole;
    script = sym script ∙ h.replied.script;
    is = ap (λ (l : List ℕ). text ++ l) h.replied.is ∙ sym (append_assoc text (concat h.replied.texts) h.replied.more);
  }

  pub RunSays-heard : (ended : Bool) (fault : Option RunFault) → run_fault_at status ≡ fault → Heard ended fault mid end → RunSays status start end
  RunSays-heard ended fault same h = record {
    bytes = text ++ h.bytes;
    said = h.said ∙ ap (λ (l : List ℕ). l ++ h.bytes) said_mid ∙ append_assoc start.now.said text h.bytes;
    replied = inr (ended, subst (λ (f : Option RunFault). IsReplied text ended f start end (text ++ h.bytes)) (sym same) (following ended fault h));
    whole = λ none. (ended, subst (λ (f : Option RunFault). IsReplied text ended f start end (text ++ h.bytes)) (sym same ∙ none) (following ended fault h));
  }
