-- One line, from what was done before anything was printed to what was printed of it.
use Rattle.std.proofs.Common.{◌≡◌, ◌≢◌, cond, inl, inr, ℕ, zero, suc, ◌≤◌, Bool, true, false, List, [], ◌∷◌, ◌++◌, take, drop, Option, Some, None, Result, Ok, Err, IfOk, refl, sym, ap, subst, ◌∙◌, arith, take-append-drop}
use Rattle.std.proofs.lemmas.List.{append-nil, drop_all}
use Rattle.pm_model.specs.declared.host.HostFault.{HostFault}
use Rattle.pm_model.specs.Counts.{Counts}
use Rattle.pm_model.specs.Words.{Words, reads}
use Rattle.pm_model.specs.Moments.{State}
use Rattle.pm_model.specs.Calls.{Says}
use Rattle.pm_model.specs.Changes.{Leaves, Silently}
use Rattle.pm_model.proofs.Leaves.{Leaves-then, Leaves-weaker, Leaves-now, Leaves-says, IsPrefix}
use Rattle.pm_model.proofs.Said.{words-all_said, said-all_said, script-all_said, shelf-all_said}
use Rattle.pud_defs.specs.Formats.Image.{Image}
use Rattle.pud_defs.specs.StateMachine.World.{World, world_of, closed}
use Rattle.pud_defs.specs.declared.machine.Command.{Command}
use Rattle.pud_defs.specs.StateMachine.Grammar.{command_of}
use Rattle.pud_defs.specs.StateMachine.Step.{Answer}
use Rattle.pud_defs.specs.StateMachine.Run.{Turn, IsTurn, cuts_of, newlines}
use Rattle.pud_defs.specs.Output.Texts.{answer_text, begins_with_ok}
use Rattle.pud_defs.specs.StateMachine.Stands.{StandsAfter, StandsWith}
use Rattle.pud_defs.proofs.StateMachine.Lines.{newlines_part}
use Rattle.pud_defs.proofs.Output.Said.{newlines-answer_text}
use Rattle.independence.proofs.Turns.{leaves_others}
use Rattle.puddled.specs.declared.daemon.RunFault.{RunFault}
use Rattle.puddled.specs.declared.daemon.RunFault.TheVariants.{NotSound}
use Rattle.daemon_memory.specs.Memory.{Memory}
use Rattle.daemon_memory.specs.declared.line_answer.LineAnswer.{LineAnswer}
use Rattle.daemon_memory.specs.declared.line_answer.LineAnswer.TheVariants as answers
use Rattle.puddled.specs.LineAnswers.{said_text}
use Rattle.daemon_memory.specs.LineAnswers.{answer_of, IsOneLine}
use Rattle.puddled.specs.Faults.{run_fault, CountsLine, CountsReply, CountsToSay}
use Rattle.daemon_memory.proofs.Commands.Beside.{ready_stands}
use Rattle.daemon_memory.specs.Ready.{KeepsRest, KeepsInput, IsReady, IsClosedIfFree, ClosesFirst, ClosesLogs, RefusesNone}
use Rattle.puddled.specs.Saying.{EndsIn, SaysPart}
use Rattle.puddled.specs.Daemon.{KeepsLine, CarriesOutLine, spoken, IsAnswerText, text_answered, SaysAnswer, Answers}
use Rattle.daemon_memory.specs.CarryingOut.{KeepsAllBut}
use Rattle.puddled.proofs.LinesDone.Listed.{said_when_ready}
use Rattle.puddled.proofs.LinesDone.LinesCarriedOut.{Between}
use Rattle.pud_defs.proofs.StateMachine.Changing.{KeepsFiles-still, KeepsFiles-then}
use Rattle.std.proofs.lemmas.Option.{none-some}

-- A prefix of the empty text is empty.
pub prefix_of_nothing : (front rest : List ℕ) → [] ≡ front ++ rest → front ≡ []
prefix_of_nothing [] rest e = refl
prefix_of_nothing (b ∷ front) rest e = absurd (let no : [] ≡ b ∷ (front ++ rest) = e in cc)

-- The bytes that were printed are a prefix of the text, and without a fault the whole text.
pub SaysPart-says : (text : List ℕ) (fault : Option HostFault) (old new : State) → Says text fault old new → SaysPart text fault old new
SaysPart-says text fault old new s =
    record {
      bytes = take s.count text;
      rest = drop s.count text;
      part = sym (take-append-drop s.count text);
      said = ap (λ (x : State). x.now.said) s.is ∙ said-all_said (take s.count text) old;
      whole = λ none. drop_all s.count text (let e = s.whole none in omega arith);
    }

pub SaysPart-nothing : (text : List ℕ) (fault : HostFault) (old new : State) → new.now.said ≡ old.now.said → SaysPart text (Some fault) old new
SaysPart-nothing text fault old new quiet =
    record { bytes = []; rest = text; part = refl; said = quiet ∙ sym (append-nil old.now.said); whole = λ none. absurd (none-some fault (sym none)) }

-- Without a fault the whole text was printed.
pub said_all : (text : List ℕ) (old new : State) → Says text None old new → new.now.said ≡ old.now.said ++ text
said_all text old new says =
    let p = SaysPart-says text None old new says in
    p.said ∙ ap (λ (l : List ℕ). old.now.said ++ l) (sym (p.part ∙ ap (λ (l : List ℕ). p.bytes ++ l) (p.whole refl) ∙ append-nil p.bytes))

-- Without a fault the text was printed last.
said_last : (text : List ℕ) (old new : State) → Says text None old new → EndsIn text new.now.said
said_last text old new says = record { front = old.now.said; is = said_all text old new says }

pub answer_last : (frames : ℕ) (image : Image) (answered answer : LineAnswer) (old new : State) → answered ≡ answer → Says (said_text frames image answered) None old new → EndsIn (said_text frames image answer) new.now.said
answer_last frames image answered answer old new is says = said_last (said_text frames image answer) old new (subst (λ (a : LineAnswer). Says (said_text frames image a) None old new) is says)

pub nothing_last : (s : State) → EndsIn [] s.now.said
nothing_last s = record { front = s.now.said; is = sym (append-nil s.now.said) }

pub words_said : (text : List ℕ) (fault : Option HostFault) (old new : State) → Says text fault old new → new.now.words ≡ old.now.words
words_said text fault old new s = ap (λ (x : State). x.now.words) s.is ∙ words-all_said (take s.count text) old

pub script_said : (text : List ℕ) (fault : Option HostFault) (old new : State) → Says text fault old new → new.script ≡ old.script
script_said text fault old new s = ap (λ (x : State). x.script) s.is ∙ script-all_said (take s.count text) old

pub shelf_said : (text : List ℕ) (fault : Option HostFault) (old new : State) → Says text fault old new → new.shelf ≡ old.shelf
shelf_said text fault old new s = ap (λ (x : State). x.shelf) s.is ∙ shelf-all_said (take s.count text) old

pub IsReady-said : (size : ℕ) (w : World) (memory : Memory) (old new : State) → new.now.words ≡ old.now.words → new.shelf ≡ old.shelf → IsReady size w memory old → IsReady size w memory new
IsReady-said size w memory old new words shelf ready =
    subst (λ (x : Words). IsReady size w memory (record new { now = record new.now { words = x } })) (sym words) (record {
      mask = ready.mask;
      settled = ready.settled;
      tables = ready.tables;
      clients = ready.clients;
      frames = ready.frames;
      shelf = shelf ∙ ready.shelf;
      active = ready.active;
      sessions = ready.sessions;
      logs = ready.logs;
      rest = ready.rest;
      knows = ready.knows;
    })

-- While nothing is printed yet, each image stands as the turn allows.
silent_moments : (size : ℕ) (w : World) (t : Turn) (old new : State) → Leaves (Silently (Between size w t.under)) old new → Leaves (StandsWith size w (t ∷ [])) old new
silent_moments size w t old new moments =
    Leaves-weaker _ _ old new (λ bytes image m. subst (λ (b : List ℕ). StandsWith size w (t ∷ []) b image) (sym m.0) m.1) moments

-- `Answers` holds if a fault came before a byte was printed.
pub Answers-fault : (size : ℕ) (w : World) (memory : Memory) (line : List ℕ) (aloud : Bool) (fault : RunFault) (before after : Counts) (old new : State)
    → CarriesOutLine size w line (Err fault) memory before after old new → Answers size w line aloud (Err fault) memory before after old new
Answers-fault size w memory line aloud fault before after old new s =
    record {
      turn = s.took.turn;
      of_line = s.took.of_line;
      is_turn = s.took.is_turn;
      others = leaves_others w s.took.turn s.took.is_turn;
      answered = Err fault;
      given = tt;
      ended = inr refl;
      does = record { mid = new; acts = s.acts; says = record { bytes = []; is = refl } };
      ok = tt;
      moments = silent_moments size w s.took.turn old new s.moments;
      says = record { bytes = []; rest = spoken aloud s.took.turn.answer; part = refl; said = s.quiet ∙ sym (append-nil old.now.said); whole = λ no. absurd (cc) };
      closes = s.closes;
      allowed = s.allowed;
      ready = s.ready;
      counted = s.counted;
      sound = s.sound;
      script = s.script;
    }

-- It holds if the reply is not to be printed.
pub Answers-unsaid : (size : ℕ) (w : World) (memory : Memory) (line : List ℕ) (answered : LineAnswer) (ok : Bool) (before after : Counts) (old new : State)
    → CarriesOutLine size w line (Ok answered) memory before after old new → ((v : World) → ok ≡ begins_with_ok (answer_of v answered)) → Answers size w line false (Ok ok) memory before after old new
Answers-unsaid size w memory line answered ok before after old new s is =
    record {
      turn = s.took.turn;
      of_line = s.took.of_line;
      is_turn = s.took.is_turn;
      others = leaves_others w s.took.turn s.took.is_turn;
      answered = Ok answered;
      given = s.took.replied;
      ended = inl refl;
      does = record { mid = new; acts = s.acts; says = record { bytes = []; is = refl } };
      ok = is s.took.turn.next ∙ ap begins_with_ok (sym s.took.replied);
      moments = silent_moments size w s.took.turn old new s.moments;
      says = record { bytes = []; rest = []; part = refl; said = s.quiet ∙ sym (append-nil old.now.said); whole = λ _. refl };
      closes = s.closes;
      allowed = s.allowed;
      ready = s.ready;
      counted = s.counted;
      sound = λ no. cc;
      script = s.script;
    }

-- An image that stands for the turn's next world stands for one of the turn's two worlds.
next_between : (size : ℕ) (w : World) (t : Turn) (image : Image) → IsTurn w t → world_of size image ≡ Some (closed t.next) → Between size w t.under image
next_between size w t image (inl step) stands = inr (stands ∙ ap (λ (v : World). Some (closed v)) step.goes_on)
next_between size w t image (inr cut) stands = elim cut.goes_on [
  | inl before ↦ inl (stands ∙ ap (λ (v : World). Some (closed v)) before)
  | inr later ↦ inr (stands ∙ ap (λ (v : World). Some (closed v)) later)
]

stands_by_count : (size : ℕ) (w : World) (t : Turn) (count : ℕ) (image : Image) → IsTurn w t → count ≤ 1 → world_of size image ≡ Some (closed t.next)
    → StandsAfter size w (t ∷ []) count image
stands_by_count size w t zero image is few stands = next_between size w t image is stands
stands_by_count size w t (suc zero) image is few stands = stands
stands_by_count size w t (suc (suc n)) image is few stands = absurd (omega arith)

prefix_of_answer : (answer : Answer) (front : List ℕ) → IsPrefix front (answer_text answer) → newlines front ≤ 1
prefix_of_answer answer front prefix =
    let part = newlines_part front prefix.rest in
    let whole = ap newlines (sym prefix.is) ∙ newlines-answer_text answer in
    omega arith

-- The line was carried out or refused, and its reply is printed.
module _ (size : ℕ) (w : World) (memory : Memory) (line : List ℕ) (answered : LineAnswer) (before between after : Counts) (old mid new : State) (s : CarriesOutLine size w line (Ok answered) memory before between old mid) where
  said_moments : (fault : Option HostFault) → Says (answer_text s.took.turn.answer) fault mid new → Leaves (StandsWith size w (s.took.turn ∷ [])) old new
  said_moments fault says =
      let t = s.took.turn in
      let ready = s.ready refl in
      Leaves-then (StandsWith size w (t ∷ [])) (StandsWith size w (t ∷ [])) (StandsWith size w (t ∷ [])) [] old mid new (s.quiet ∙ sym (append-nil old.now.said))
      (λ front image p. p) (λ more image p. p)
      (silent_moments size w t old mid s.moments)
      (Leaves-says (answer_text t.answer) fault (StandsWith size w (t ∷ [])) mid new
      (λ front image prefix picked. stands_by_count size w t (newlines front) image s.took.is_turn (prefix_of_answer t.answer front prefix)
      (ready_stands size t.next memory mid ready image picked).0) says)

  -- Printing leaves the words as they are.
  closes_said : (text : List ℕ) (fault : Option HostFault) → Says text fault mid new → ClosesLogs ClosesFirst w (command_of line) old new
  closes_said text fault says = record {
    first = λ client is present.
        let P : List ℕ → Image → Type 0 = λ bytes image. IsClosedIfFree w.stored.frames client image in
        let said = s.quiet ∙ sym (append-nil old.now.said) in
        let settled = s.closes.first client is present in
        Leaves-then P P P [] old mid new said (λ front image m. m) (λ more image m. m) settled
        (Leaves-says text fault P mid new (λ front image prefix picked. Leaves-now P [] old mid said settled image picked) says);
  }

  allowed_said : (text : List ℕ) (fault : Option HostFault) → Says text fault mid new → Leaves (λ bytes image. RefusesNone image) old new
  allowed_said text fault says =
      let P : List ℕ → Image → Type 0 = λ bytes image. RefusesNone image in
      let said = s.quiet ∙ sym (append-nil old.now.said) in
      Leaves-then P P P [] old mid new said (λ front image m. m) (λ more image m. m) s.allowed
      (Leaves-says text fault P mid new (λ front image prefix picked. Leaves-now P [] old mid said s.allowed image picked) says)

  -- What is printed on a ready device is the text of the answer.
  text_is : (fault : Option HostFault) → Says (said_text memory.frames (reads mid.now.words) answered) fault mid new → Says (answer_text s.took.turn.answer) fault mid new
  text_is fault says = subst (λ (text : List ℕ). Says text fault mid new) (said_when_ready size s.took.turn.next memory mid answered s.one_line (s.ready refl) ∙ ap answer_text (sym s.took.replied)) says

  pub Answers-said : (result : Result Bool RunFault) (fault : Option HostFault) → Says (said_text memory.frames (reads mid.now.words) answered) fault mid new → (run_fault result ≡ None → fault ≡ None)
      → ((v : World) → IfOk result (λ ok. ok ≡ begins_with_ok (answer_of v answered))) → (run_fault result ≡ Some NotSound → ⊥) → CountsLine (command_of line) (run_fault result) (cuts_of (s.took.turn ∷ [])) before after
      → Answers size w line true result memory before after old new
  Answers-said result fault spoken_text none is sound counts =
      let says = text_is fault spoken_text in
      let part = SaysPart-says (answer_text s.took.turn.answer) fault mid new says in
      record {
        turn = s.took.turn;
        of_line = s.took.of_line;
        is_turn = s.took.is_turn;
        others = leaves_others w s.took.turn s.took.is_turn;
        answered = Ok answered;
        given = s.took.replied;
        ended = inl refl;
        does = record { mid = mid; acts = s.acts; says = record { bytes = take says.count (answer_text s.took.turn.answer); is = says.is } };
        ok = subst (λ (a : Answer). IfOk result (λ ok. ok ≡ begins_with_ok a)) (sym s.took.replied) (is s.took.turn.next);
        moments = said_moments fault says;
        says = record { bytes = part.bytes; rest = part.rest; part = part.part; said = part.said ∙ ap (λ (l : List ℕ). l ++ part.bytes) s.quiet; whole = λ n. part.whole (none n) };
        closes = closes_said (answer_text s.took.turn.answer) fault says;
        allowed = allowed_said (answer_text s.took.turn.answer) fault says;
        ready = λ n. IsReady-said size s.took.turn.next memory mid new (words_said _ fault mid new says) (shelf_said _ fault mid new says) (s.ready refl);
        counted = counts;
        sound = sound;
        script = script_said _ fault mid new says ∙ s.script;
      }

pub KeepsInput-rest : (old new : State) → KeepsRest old new → KeepsInput old new
KeepsInput-rest old new k = record { script = k.script; shelf = k.shelf }

pub KeepsInput-then : (a b c : State) → KeepsInput a b → KeepsRest b c → KeepsInput a c
KeepsInput-then a b c p k = record { script = k.script ∙ p.script; shelf = k.shelf ∙ p.shelf }

pub KeepsInput-says : (text : List ℕ) (fault : Option HostFault) (old mid new : State) → KeepsInput old mid → Says text fault mid new → KeepsInput old new
KeepsInput-says text fault old mid new k says =
    record { script = script_said text fault mid new says ∙ k.script; shelf = shelf_said text fault mid new says ∙ k.shelf }

-- If the words read as a sound registry, they still do once a reply was printed.
pub sound_said : (size : ℕ) (text : List ℕ) (fault : Option HostFault) (mid new : State) → Says text fault mid new → world_of size (reads mid.now.words) ≢ None
    → world_of size (reads new.now.words) ≢ None
sound_said size text fault mid new says sound none = sound (ap (λ (x : Words). world_of size (reads x)) (sym (words_said text fault mid new says)) ∙ none)

pub KeepsLine-says : (file : Option (List ℕ)) (text : List ℕ) (fault : Option HostFault) (old mid new : State) → KeepsAllBut file old mid → Says text fault mid new → KeepsLine file old new
KeepsLine-says file text fault old mid new k says = record {
  script = script_said text fault mid new says ∙ k.script;
  files = KeepsFiles-then file old.shelf mid.shelf new.shelf k.files (KeepsFiles-still file mid.shelf new.shelf (shelf_said text fault mid new says));
}

pub KeepsLine-unsaid : (file : Option (List ℕ)) (old new : State) → KeepsAllBut file old new → KeepsLine file old new
KeepsLine-unsaid file old new k = record { script = k.script; files = k.files }

-- ---- what is printed of a line, whatever the device stores

-- A part of a text is printed after a call that prints nothing.
SaysPart-after : (text : List ℕ) (fault : Option HostFault) (old mid new : State) → mid.now.said ≡ old.now.said → Says text fault mid new → SaysPart text fault old new
SaysPart-after text fault old mid new quiet says =
    let p = SaysPart-says text fault mid new says in
    record { bytes = p.bytes; rest = p.rest; part = p.part; said = p.said ∙ ap (λ (l : List ℕ). l ++ p.bytes) quiet; whole = p.whole }

module _ (now : ℕ) (command : Option Command) (before after : Counts) (old new : State) where
  pub SaysAnswer-aloud : (frames : ℕ) (result : Result Bool RunFault) (fault : Option HostFault) (answered : LineAnswer) (between : Counts) (mid : State) → IfOk result (λ ok. (w : World) → ok ≡ begins_with_ok (answer_of w answered))
      → IsOneLine answered → CountsReply command (Ok answered) before between → CountsToSay (Ok answered) (run_fault result) between after → mid.now.said ≡ old.now.said → frames ≡ now → (run_fault result ≡ None → fault ≡ None)
      → Says (said_text frames (reads mid.now.words) answered) fault mid new → SaysAnswer now command true result before after old new
  SaysAnswer-aloud frames result fault answered between mid is one_line replied counted quiet same none says =
      let text : said_text frames (reads mid.now.words) answered ≡ said_text now (reads new.now.words) answered =
      ap (λ (n : ℕ). said_text n (reads mid.now.words) answered) same ∙ ap (λ (x : Words). said_text now (reads x) answered) (sym (words_said _ fault mid new says)) in
      let p = subst (λ (l : List ℕ). SaysPart l fault old new) text (SaysPart-after _ fault old mid new quiet says) in
      record {
        counted = record { answered = Ok answered; ok = is; mid = between; replied = replied; said = counted };
        one_line = one_line;
        says = record { bytes = p.bytes; rest = p.rest; part = p.part; said = p.said; whole = λ n. p.whole (none n) };
      }

  pub SaysAnswer-unsaid : (ok : Bool) (answered : LineAnswer) → ((w : World) → ok ≡ begins_with_ok (answer_of w answered)) → IsOneLine answered → CountsReply command (Ok answered) before after → new.now.said ≡ old.now.said
      → SaysAnswer now command false (Ok ok) before after old new
  SaysAnswer-unsaid ok answered is one_line replied quiet = record {
    counted = record { answered = Ok answered; ok = is; mid = after; replied = replied; said = refl };
    one_line = one_line;
    says = record { bytes = []; rest = []; part = refl; said = quiet ∙ sym (append-nil old.now.said); whole = λ none. refl };
  }

  -- Nothing was printed before the fault.
  pub SaysAnswer-failed : (aloud : Bool) (fault : RunFault) → CountsReply command (Err fault) before after → new.now.said ≡ old.now.said → SaysAnswer now command aloud (Err fault) before after old new
  SaysAnswer-failed aloud fault replied quiet = record {
    counted = record { answered = Err fault; ok = tt; mid = after; replied = replied; said = (refl, refl) };
    one_line = tt;
    says = record { bytes = []; rest = cond aloud [] []; part = refl; said = quiet ∙ sym (append-nil old.now.said); whole = λ none. absurd (none-some fault (sym none)) };
  }

-- The text of an answer was printed, or with a fault a part of it.
pub record SaysText (fault : Option RunFault) (old new : State) : Type 0 where
  pub text : List ℕ
  pub is : IsAnswerText text
  pub says : SaysPart text fault old new

-- If there was no answer, nothing was printed.
no_answer_said : (text : List ℕ) (fault : Option RunFault) (ended : RunFault) (old new : State) → fault ≡ Some ended → SaysPart [] fault old new → SaysPart text fault old new
no_answer_said text fault ended old new failed says = record {
  bytes = [];
  rest = text;
  part = refl;
  said = says.said ∙ ap (λ (l : List ℕ). old.now.said ++ l) (prefix_of_nothing says.bytes says.rest says.part);
  whole = λ none. absurd (none-some ended (sym none ∙ failed));
}

text_by : (frames : ℕ) (answered : Result LineAnswer RunFault) (fault : Option RunFault) (mid after : Counts) (old new : State) → IfOk answered IsOneLine → CountsToSay answered fault mid after
    → SaysPart (text_answered frames (reads new.now.words) answered) fault old new → SaysText fault old new
text_by frames (Ok a) fault mid after old new one_line said says =
    record { text = said_text frames (reads new.now.words) a; is = record { frames = frames; image = reads new.now.words; answered = a; one_line = one_line; is = refl }; says = says }
text_by frames (Err ended) fault mid after old new one_line said says =
    let image = reads new.now.words in
    record {
      text = said_text frames image answers.Pools;
      is = record { frames = frames; image = image; answered = answers.Pools; one_line = tt; is = refl };
      says = no_answer_said (said_text frames image answers.Pools) fault ended old new said.0 says;
    }

pub SaysAnswer-text : (frames : ℕ) (command : Option Command) (result : Result Bool RunFault) (before after : Counts) (old new : State) → SaysAnswer frames command true result before after old new → SaysText (run_fault result) old new
SaysAnswer-text frames command result before after old new s = text_by frames s.counted.answered (run_fault result) s.counted.mid after old new s.one_line s.counted.said s.says

-- A line whose answer is not to be printed prints nothing.
pub SaysAnswer-silent : (frames : ℕ) (command : Option Command) (result : Result Bool RunFault) (before after : Counts) (old new : State) → SaysAnswer frames command false result before after old new → new.now.said ≡ old.now.said
SaysAnswer-silent frames command result before after old new s =
    s.says.said ∙ ap (λ (l : List ℕ). old.now.said ++ l) (prefix_of_nothing s.says.bytes s.says.rest s.says.part) ∙ append-nil old.now.said
