use mir.Val.{bool_byte}
use Rattle.std.proofs.Common.{◌≡◌, Bool, [], true, false, cond, refl, sym, ◌∙◌}
use Rattle.std.proofs.lemmas.Result.{err_from_is_err_and}
use Rattle.puddled.proofs.DeviceStarts.Counted.{answer_ends}
use Rattle.puddle_cli.proofs.Answering.{AnswersLine-turn, AnswersLine-nothing, KeepsScript-still, KeepsScript-line}
use Rattle.puddle_cli.proofs.Replying.{HearsLine-turn, HearsLine-nothing, says_nothing}
use Rattle.puddle_cli.proofs.run.answer.Goals as goal

byte_is : (b : Bool) → bool_byte b ≡ cond b 1 0
byte_is true = refl
byte_is false = refl

pub returns-then-is_empty-clause-answers : goal.returns-then-is_empty-clause-answers
returns-then-is_empty-clause-answers g c = λ t size e w ready line kept.
    AnswersLine-nothing size w _ _ line _ _ _ _ ready (sym kept ∙ c.is_empty.ensures.0 c.if-is_empty.true) refl refl

pub returns-in_err-ok-clause-answers : goal.returns-in_err-ok-clause-answers
returns-in_err-ok-clause-answers g c =
    let p = err_from_is_err_and c.from_residual.result c.from_residual.ensures.1 in
    rw (p.1, p.2) (λ t size e w ready line kept.
    let some : c.args.piece.now ≡ [] → ⊥ = λ none. let no : true ≡ false = sym (c.is_empty.ensures.1 none) ∙ c.if-is_empty.false in cc in
    let answers = rw c.bytes.ensures at (c.in_err-ok.ensures.answers t size e w ready) in
    let keeps = rw c.bytes.ensures at (c.in_err-ok.ensures.rest t) in
    AnswersLine-turn size w _ _ c.args.piece.now line _ _ _ _ _ some kept ready.shelf keeps answers)

pub returns-clause-answers : goal.returns-clause-answers
returns-clause-answers g c = λ t size e w ready line kept.
    let some : c.args.piece.now ≡ [] → ⊥ = λ none. let no : true ≡ false = sym (c.is_empty.ensures.1 none) ∙ c.if-is_empty.false in cc in
    let answers = rw c.bytes.ensures at (c.in_ok-ok.ensures.answers t size e w ready) in
    let keeps = rw c.bytes.ensures at (c.in_ok-ok.ensures.rest t) in
    rw (c.from.ensures, byte_is _) (AnswersLine-turn size w _ _ c.args.piece.now line _ _ _ _ _ some kept ready.shelf keeps answers)

pub returns-in_err-ok-clause-cause : goal.returns-in_err-ok-clause-cause
returns-in_err-ok-clause-cause g c =
    let p = err_from_is_err_and c.from_residual.result c.from_residual.ensures.1 in
    rw (p.1, p.2) (answer_ends _ _ _ _ _ _ c.in_err-ok.ensures.cause.replied c.in_err-ok.ensures.cause.said)

pub returns-then-is_empty-clause-rest : goal.returns-then-is_empty-clause-rest
returns-then-is_empty-clause-rest g c = λ t. KeepsScript-still _ _ refl

pub returns-in_err-ok-clause-rest : goal.returns-in_err-ok-clause-rest
returns-in_err-ok-clause-rest g c = λ t. KeepsScript-line _ _ _ (c.in_err-ok.ensures.rest t)

pub returns-clause-rest : goal.returns-clause-rest
returns-clause-rest g c = λ t. KeepsScript-line _ _ _ (c.in_ok-ok.ensures.rest t)

-- ---- whatever the device stores

pub returns-then-is_empty-clause-hears : goal.returns-then-is_empty-clause-hears
returns-then-is_empty-clause-hears g c = λ t heard line kept. HearsLine-nothing line _ _ (sym kept ∙ c.is_empty.ensures.0 c.if-is_empty.true) refl

pub returns-in_err-ok-clause-hears : goal.returns-in_err-ok-clause-hears
returns-in_err-ok-clause-hears g c =
    let p = err_from_is_err_and c.from_residual.result c.from_residual.ensures.1 in
    rw (p.1, p.2) (λ t heard line kept.
    let some : c.args.piece.now ≡ [] → ⊥ = λ none. let no : true ≡ false = sym (c.is_empty.ensures.1 none) ∙ c.if-is_empty.false in cc in
    HearsLine-turn _ _ _ c.args.piece.now line _ _ _ _ _ heard some kept (c.in_err-ok.ensures.speaks t) (c.in_err-ok.ensures.rest t).script)

pub returns-clause-hears : goal.returns-clause-hears
returns-clause-hears g c = λ t heard line kept.
    let some : c.args.piece.now ≡ [] → ⊥ = λ none. let no : true ≡ false = sym (c.is_empty.ensures.1 none) ∙ c.if-is_empty.false in cc in
    HearsLine-turn _ _ _ c.args.piece.now line _ _ _ _ _ heard some kept (c.in_ok-ok.ensures.speaks t) (c.in_ok-ok.ensures.rest t).script

pub returns-in_err-ok-clause-quiet : goal.returns-in_err-ok-clause-quiet
returns-in_err-ok-clause-quiet g c = λ t silent. says_nothing _ _ _ _ _ _ _ _ silent (c.in_err-ok.ensures.speaks t)

pub returns-clause-quiet : goal.returns-clause-quiet
returns-clause-quiet g c = λ t silent. says_nothing _ _ _ _ _ _ _ _ silent (c.in_ok-ok.ensures.speaks t)
