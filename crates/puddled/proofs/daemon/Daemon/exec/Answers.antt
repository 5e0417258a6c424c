use Rattle.std.proofs.Common.{◌≡◌, Bool, false, [], None, Some, Result, Ok, Err, refl, ap, subst, ◌∙◌, sym, true, ℕ}
use Rattle.std.proofs.lemmas.Result.{err_from_is_err_and}
use Rattle.pm_model.specs.Words.{Words, reads}
use Rattle.pm_model.specs.Counts.{Counts}
use Rattle.puddled.specs.declared.daemon.RunFault.{RunFault}
use Rattle.puddled.specs.declared.daemon.RunFault.TheVariants as faults
use Rattle.puddled.specs.Faults.{of_host, HasLostPower}
use Rattle.puddled.proofs.DeviceStarts.Counted.{not_none, none_is_sound, counted_say, counted_same, one_reply, failed_to_say, cut_is_answered, host_is_sound}
use Rattle.daemon_memory.specs.Memory.{Memory}
use Rattle.pud_defs.specs.declared.machine.Reply.TheVariants as replies
use Rattle.pud_defs.specs.StateMachine.Grammar.{command_of}
use Rattle.pud_defs.specs.StateMachine.Step.Answer.{of_reply}
use Rattle.pud_defs.specs.Output.Texts.{reply_text, begins_with_ok}
use Rattle.pud_defs.specs.StateMachine.World.{World, no_clients, nothing_open}
use Rattle.daemon_memory.specs.declared.line_answer.LineAnswer.{LineAnswer}
use Rattle.daemon_memory.specs.declared.line_answer.LineAnswer.TheVariants as answers
use Rattle.daemon_memory.specs.LineAnswers.{answer_of}
use Rattle.puddled.proofs.LinesDone.Listed.{said_by}
use Rattle.puddled.proofs.LinesDone.Lines.{answer_last, nothing_last, Answers-fault, Answers-unsaid, Answers-said, KeepsLine-says, KeepsLine-unsaid, SaysAnswer-aloud, SaysAnswer-unsaid, SaysAnswer-failed, sound_said, words_said}
use Rattle.puddled.proofs.LinesDone.Led.{LeadFrontiers-when, MoveOnTheWay-said, MoveOnTheWay-as}
use Rattle.puddled.specs.Frontiers.{LeadFrontiers}
use Rattle.pool_lines.specs.Rewriting.{DoesSteps}
use Rattle.puddled.proofs.daemon.Daemon.exec.Goals as goal
use Rattle.puddled.proofs.daemon.Daemon.exec.Goals.{then-aloud+in_ok-say_answer, else-aloud}
use Rattle.pm_model.specs.Moments.{State}
use Rattle.daemon_memory.specs.Ready.{IsReady}
use Rattle.puddled.specs.declared.daemon.Daemon.TheInside.{Inside}

-- The reply `cut` does not begin with `ok`.
cut_is_not_ok : begins_with_ok (of_reply replies.Cut) ≡ false
unfolding reply_text
cut_is_not_ok = refl

-- Whether an answer begins with `ok` is the same in each world.
abbrev no_world : World
no_world = record { stored = record { frames = 0; machine = 0; next_number = 0; types = []; pools = [] }; clients = no_clients; shelf = λ name. None; transactions = nothing_open }

-- An answer is no failure.
answered_none : {A : Type 0} {answered : A} → ◌≡◌ {A = Result A RunFault} (Ok answered) (Err faults.Failed) → ⊥
answered_none same = cc

-- A fault is the same, whatever would have been answered.
same_fault : {fault other : RunFault} → ◌≡◌ {A = Result LineAnswer RunFault} (Err fault) (Err other) → ◌≡◌ {A = Result Bool RunFault} (Err fault) (Err other)
same_fault {fault} {other} same = let it : fault ≡ other = cc in ap (λ (f : RunFault). Err f) it

-- What the daemon keeps is what it is seen as.
held : (size : ℕ) (w : World) (kept seen : Memory) (s : State) → kept ≡ seen → IsReady size w seen s → IsReady size w kept s
held size w kept seen s same = subst (λ (m : Memory). IsReady size w m s) (sym same)

pub returns-clause-cause : goal.returns-clause-cause
returns-clause-cause g c = elim c.if-aloud.branch [
  | then-aloud+in_ok-say_answer b ↦
      rw b.h-is (record { answered = Ok c.in_ok-answered.answered; ok = c.is_ok.ensures; mid = g.H.Host.counts c.carry_out_line.new.h; replied = c.in_ok-answered.ensures.cause; said = b.in_ok-say_answer.ensures.cause })
  | else-aloud b ↦ rw b.h-is (record { answered = Ok c.in_ok-answered.answered; ok = c.is_ok.ensures; mid = g.H.Host.counts c.carry_out_line.new.h; replied = c.in_ok-answered.ensures.cause; said = refl })
]

pub returns-in_err-answered-clause-answers : goal.returns-in_err-answered-clause-answers
returns-in_err-answered-clause-answers g c =
    let p = err_from_is_err_and c.from_residual.result c.from_residual.ensures.1 in
    rw (p.1, p.2) (λ t size e w ready. Answers-fault size w _ c.args.line.now c.args.aloud _ _ _ _ _ (c.in_err-answered.ensures.settles t size e w (held size w _ _ _ c.self.view_is ready)))

pub returns-in_err-say_answer-clause-answers : goal.returns-in_err-say_answer-clause-answers
returns-in_err-say_answer-clause-answers g c =
    let p = err_from_is_err_and c.from_residual-in_err-say_answer.result c.from_residual-in_err-say_answer.ensures.1 in
    rw (p.1, p.2, c.if-aloud.true) (λ t size e w ready.
    let s = c.in_ok-answered.ensures.settles t size e w (held size w _ _ _ c.self.view_is ready) in
    let fault = c.in_err-say_answer.field-0.0 in
    Answers-said size w _ c.args.line.now _ _ _ _ _ _ _ s (Err (of_host fault)) (Some fault) (said_by _ _ (reads (g.H.Host.state c.carry_out_line.new.h).now.words) c.in_ok-answered.answered _ _ _ (ap (λ (d : Inside). d.memory.frames) c.self-inside.view_is) (c.in_err-say_answer.ensures.says t _ refl)) (λ no. absurd (not_none (of_host fault) no)) (λ v. tt) (host_is_sound fault)
    (counted_say _ fault _ _ _ _ (one_reply s.took.turn) s.counted c.in_err-say_answer.ensures.cause c.in_err-say_answer.ensures.never_cut))

pub returns-clause-restarted : goal.returns-clause-restarted
returns-clause-restarted g c = λ t. elim c.if-aloud.branch [
  | then-aloud+in_ok-say_answer b ↦
      rw b.h-is (λ _ moved. sound_said _ _ _ _ _ (b.in_ok-say_answer.ensures.says t _ refl)
      (c.in_ok-answered.ensures.restarted t refl (subst (λ (x : Counts). HasLostPower (command_of c.args.line.now) (g.H.Host.counts c.args.h.now) x) b.in_ok-say_answer.ensures.cause moved)))
  | else-aloud b ↦ rw b.h-is (λ _ moved. c.in_ok-answered.ensures.restarted t refl moved)
]

pub returns-clause-answers : goal.returns-clause-answers
returns-clause-answers g c = λ t size e w ready.
    let s = c.in_ok-answered.ensures.settles t size e w (held size w _ _ _ c.self.view_is ready) in
    elim c.if-aloud.branch [
      | then-aloud+in_ok-say_answer b ↦
          rw (b.if-aloud.true, b.h-is, b.self-is) (Answers-said size w _ c.args.line.now _ _ _ _ _ _ _ s (Ok c.is_ok.result) None (said_by _ _ (reads (g.H.Host.state c.carry_out_line.new.h).now.words) c.in_ok-answered.answered _ _ _ (ap (λ (d : Inside). d.memory.frames) c.self-inside.view_is) (b.in_ok-say_answer.ensures.says t _ refl)) (λ _. refl)
          c.is_ok.ensures (none_is_sound) (counted_same _ _ _ _ _ _ s.counted b.in_ok-say_answer.ensures.cause))
      | else-aloud b ↦ rw (b.if-aloud.false, b.h-is, b.self-is) (Answers-unsaid size w _ c.args.line.now _ c.is_ok.result _ _ _ _ s c.is_ok.ensures)
    ]

pub returns-in_err-answered-clause-cause : goal.returns-in_err-answered-clause-cause
returns-in_err-answered-clause-cause g c =
    let p = err_from_is_err_and c.from_residual.result c.from_residual.ensures.1 in
    rw (p.1, p.2) (record { answered = Err c.in_err-answered.field-0.0; ok = tt; mid = g.H.Host.counts c.carry_out_line.new.h; replied = c.in_err-answered.ensures.cause; said = (refl, refl) })

pub returns-in_err-say_answer-clause-cause : goal.returns-in_err-say_answer-clause-cause
returns-in_err-say_answer-clause-cause g c =
    let p = err_from_is_err_and c.from_residual-in_err-say_answer.result c.from_residual-in_err-say_answer.ensures.1 in
    rw (p.1, p.2) (record {
      answered = Ok c.in_ok-answered.answered;
      ok = tt;
      mid = g.H.Host.counts c.carry_out_line.new.h;
      replied = c.in_ok-answered.ensures.cause;
      said = failed_to_say c.in_ok-answered.answered c.in_err-say_answer.field-0.0 _ _ c.in_err-say_answer.ensures.cause c.in_err-say_answer.ensures.never_cut;
    })

pub returns-clause-told : goal.returns-clause-told
returns-clause-told g c = λ t. elim c.if-aloud.branch [
  | then-aloud+in_ok-say_answer b ↦
      rw (b.if-aloud.true, b.h-is) (λ _ moved.
      let cut = cut_is_answered _ c.in_ok-answered.answered _ _ _ c.in_ok-answered.ensures.cause b.in_ok-say_answer.ensures.cause moved in
      answer_last _ (reads (g.H.Host.state c.carry_out_line.new.h).now.words) c.in_ok-answered.answered _ _ _ cut (b.in_ok-say_answer.ensures.says t _ refl))
  | else-aloud b ↦ rw (b.if-aloud.false, b.h-is) (λ _ moved. nothing_last (g.H.Host.state c.carry_out_line.new.h))
]

pub returns-in_err-say_answer-clause-rest : goal.returns-in_err-say_answer-clause-rest
returns-in_err-say_answer-clause-rest g c = λ t. KeepsLine-says _ _ _ _ _ _ (c.in_ok-answered.ensures.rest t) (c.in_err-say_answer.ensures.says t _ refl)

pub returns-clause-rest : goal.returns-clause-rest
returns-clause-rest g c = λ t. elim c.if-aloud.branch [
  | then-aloud+in_ok-say_answer b ↦ rw b.h-is (KeepsLine-says _ _ _ _ _ _ (c.in_ok-answered.ensures.rest t) (b.in_ok-say_answer.ensures.says t _ refl))
  | else-aloud b ↦ rw b.h-is (KeepsLine-unsaid _ _ _ (c.in_ok-answered.ensures.rest t))
]

pub returns-in_err-answered-clause-rest : goal.returns-in_err-answered-clause-rest
returns-in_err-answered-clause-rest g c = λ t. KeepsLine-unsaid _ _ _ (c.in_err-answered.ensures.rest t)

pub returns-clause-speaks : goal.returns-clause-speaks
returns-clause-speaks g c = λ t. elim c.if-aloud.branch [
  | then-aloud+in_ok-say_answer b ↦
      rw (b.if-aloud.true, b.h-is, b.self-is) (SaysAnswer-aloud _ _ _ _ _ _ _ (Ok c.is_ok.result) None c.in_ok-answered.answered _ _ c.is_ok.ensures c.in_ok-answered.ensures.one_line c.in_ok-answered.ensures.cause b.in_ok-say_answer.ensures.cause
      (c.in_ok-answered.ensures.rest t).quiet (ap (λ (d : Inside). d.memory.frames) c.self-inside.view_is) (λ none. refl) (b.in_ok-say_answer.ensures.says t _ refl))
  | else-aloud b ↦
      rw (b.if-aloud.false, b.h-is, b.self-is) (SaysAnswer-unsaid _ _ _ _ _ _ c.is_ok.result c.in_ok-answered.answered c.is_ok.ensures c.in_ok-answered.ensures.one_line c.in_ok-answered.ensures.cause (c.in_ok-answered.ensures.rest t).quiet)
]

pub returns-in_err-answered-clause-speaks : goal.returns-in_err-answered-clause-speaks
returns-in_err-answered-clause-speaks g c =
    let p = err_from_is_err_and c.from_residual.result c.from_residual.ensures.1 in
    rw (p.1, p.2) (λ t. SaysAnswer-failed _ _ _ _ _ _ c.args.aloud _ c.in_err-answered.ensures.cause (c.in_err-answered.ensures.rest t).quiet)

pub returns-in_err-say_answer-clause-speaks : goal.returns-in_err-say_answer-clause-speaks
returns-in_err-say_answer-clause-speaks g c =
    let p = err_from_is_err_and c.from_residual-in_err-say_answer.result c.from_residual-in_err-say_answer.ensures.1 in
    let fault = c.in_err-say_answer.field-0.0 in
    rw (p.1, p.2, c.if-aloud.true) (λ t. SaysAnswer-aloud _ _ _ _ _ _ _ (Err (of_host fault)) (Some fault) c.in_ok-answered.answered _ _ tt c.in_ok-answered.ensures.one_line c.in_ok-answered.ensures.cause
    (failed_to_say c.in_ok-answered.answered fault _ _ c.in_err-say_answer.ensures.cause c.in_err-say_answer.ensures.never_cut) (c.in_ok-answered.ensures.rest t).quiet (ap (λ (d : Inside). d.memory.frames) c.self-inside.view_is)
    (λ none. absurd (not_none (of_host fault) none)) (c.in_err-say_answer.ensures.says t _ refl))

pub returns-clause-frontiers : goal.returns-clause-frontiers
returns-clause-frontiers g c = λ t size e w ready.
    let old = reads (g.H.Host.state c.args.h.now).now.words in
    let settled = reads (g.H.Host.state c.carry_out_line.new.h).now.words in
    let line = command_of c.args.line.now in
    let uncut : c.is_ok.result ≡ true → c.in_ok-answered.answered ≡ answers.Reply replies.Cut → ⊥ = λ ok cut.
    let no : true ≡ false = sym ok ∙ c.is_ok.ensures no_world ∙ ap (λ (a : LineAnswer). begins_with_ok (answer_of no_world a)) cut ∙ cut_is_not_ok in cc in
    let led = LeadFrontiers-when w line (c.in_ok-answered.answered ≡ answers.Reply replies.Cut → ⊥) (c.is_ok.result ≡ true) old settled uncut (c.in_ok-answered.ensures.frontiers t size e w (held size w _ _ _ c.self.view_is ready)) in
    elim c.if-aloud.branch [
      | then-aloud+in_ok-say_answer b ↦
          rw b.h-is (subst (λ (x : Words). LeadFrontiers w line (c.is_ok.result ≡ true) old (reads x)) (sym (words_said _ _ _ _ (b.in_ok-say_answer.ensures.says t _ refl))) led)
      | else-aloud b ↦ rw b.h-is led
    ]

pub returns-clause-steps : goal.returns-clause-steps
returns-clause-steps g c = λ t size e w ready name n is free.
    let old = reads (g.H.Host.state c.args.h.now).now.words in
    let uncut : c.is_ok.result ≡ true → c.in_ok-answered.answered ≡ answers.Reply replies.Cut → ⊥ = λ ok cut.
    let no : true ≡ false = sym ok ∙ c.is_ok.ensures no_world ∙ ap (λ (a : LineAnswer). begins_with_ok (answer_of no_world a)) cut ∙ cut_is_not_ok in cc in
    elim c.if-aloud.branch [
      | then-aloud+in_ok-say_answer b ↦
          rw b.h-is
          (λ ok. subst (λ (x : Words). DoesSteps w.stored.frames name n old (reads x)) (sym (words_said _ _ _ _ (b.in_ok-say_answer.ensures.says t _ refl)))
          (c.in_ok-answered.ensures.steps t size e w (held size w _ _ _ c.self.view_is ready) name n is free (uncut ok)))
      | else-aloud b ↦ rw b.h-is (λ ok. c.in_ok-answered.ensures.steps t size e w (held size w _ _ _ c.self.view_is ready) name n is free (uncut ok))
    ]

pub returns-in_err-answered-clause-moves : goal.returns-in_err-answered-clause-moves
returns-in_err-answered-clause-moves g c =
    let p = err_from_is_err_and c.from_residual.result c.from_residual.ensures.1 in
    rw (p.1, p.2) (λ t size e w ready. MoveOnTheWay-as w (command_of c.args.line.now) _ _ _ _ same_fault (c.in_err-answered.ensures.moves t size e w (held size w _ _ _ c.self.view_is ready)))

pub returns-in_err-say_answer-clause-moves : goal.returns-in_err-say_answer-clause-moves
returns-in_err-say_answer-clause-moves g c = λ t size e w ready.
    MoveOnTheWay-said w (command_of c.args.line.now) _ _ _ _ _ (λ same. absurd (answered_none same)) (c.in_ok-answered.ensures.rest t).quiet _ _ (c.in_err-say_answer.ensures.says t _ refl) (c.in_ok-answered.ensures.moves t size e w (held size w _ _ _ c.self.view_is ready))

pub returns-clause-moves : goal.returns-clause-moves
returns-clause-moves g c = λ t size e w ready. elim c.if-aloud.branch [
  | then-aloud+in_ok-say_answer b ↦
      rw b.h-is (MoveOnTheWay-said w (command_of c.args.line.now) _ _ _ _ _ (λ same. absurd (answered_none same)) (c.in_ok-answered.ensures.rest t).quiet _ _ (b.in_ok-say_answer.ensures.says t _ refl)
      (c.in_ok-answered.ensures.moves t size e w (held size w _ _ _ c.self.view_is ready)))
  | else-aloud b ↦ rw b.h-is (MoveOnTheWay-as w (command_of c.args.line.now) _ _ _ _ (λ same. absurd (answered_none same)) (c.in_ok-answered.ensures.moves t size e w (held size w _ _ _ c.self.view_is ready)))
]
