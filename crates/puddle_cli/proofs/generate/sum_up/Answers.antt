use Rattle.std.proofs.Common.{◌≡◌, ◌≤◌, ◌*◌, ◌+◌, Ok, Some, None, refl, arith}
use Rattle.std.proofs.lemmas.Result.{err_from_is_err_and}
use Rattle.gen_work.specs.GenLines.{gen_lines}
use Rattle.gen_work.proofs.WholeScript.{length-gen_lines}
use Rattle.puddled.specs.Faults.{of_host}
use Rattle.puddle_cli.specs.Source.{bytes_left}
use Rattle.puddle_cli.proofs.PlainLines.{plain_lines}
use Rattle.puddle_cli.proofs.Generating.{SumsUp-failed, SumsUp-generated, tables_there, frames_there, SaysSummary-said, KeepsScript-summed}
use Rattle.puddle_cli.proofs.generate.sum_up.Goals as goal

pub returns-in_err-served-clause-sums : goal.returns-in_err-served-clause-sums
returns-in_err-served-clause-sums g c =
    let p = err_from_is_err_and c.from_residual.result c.from_residual.ensures.1 in
    rw (p.1, p.2) (λ t size e w ready.
    let a = c.in_err-served.ensures.answered t size e w ready in
    SumsUp-failed size w (gen_lines c.args.seed c.args.count) (plain_lines c.args.seed c.args.count) a.0 _ _ _ _ _ _ 0 (rw c.new.ensures at a.1) _ refl (c.in_err-served.ensures.quiet t refl).script)

pub returns-in_err-say_summary-clause-sums : goal.returns-in_err-say_summary-clause-sums
returns-in_err-say_summary-clause-sums g c =
    let p = err_from_is_err_and c.from_residual-in_err-say_summary.result c.from_residual-in_err-say_summary.ensures.1 in
    rw (p.1, p.2) (λ t size e w ready.
    let answered = c.in_ok-served.ensures.answered t size e w ready in
    let takes = c.in_ok-served.ensures.takes t in
    let count_is = c.line_count.ensures c.args.seed in
    let long = length-gen_lines c.args.seed c.args.count in
    let most : c.line_count.result ≤ 5 * c.args.count + 11 = omega (arith, count_is, long) in
    let tables = tables_there size w c.args.seed c.args.count c.requires.few c.args.daemon _ _ _ _ ready _ _ c.new.ensures c.in_ok-served.served answered takes _ count_is most _ c.frames-frames.ensures.frames in
    let frames = frames_there size w c.args.seed c.args.count c.requires.few c.args.daemon _ _ _ _ ready _ _ c.new.ensures c.in_ok-served.served answered takes _ count_is most _ c.frames-frames.ensures.frames in
    SumsUp-generated size w c.args.seed c.args.count c.requires.few c.args.daemon _ _ _ _ ready _ _ c.new.ensures c.in_ok-served.served answered takes _ count_is most (Some c.in_err-say_summary.field-0.0) _ _
    (c.in_err-say_summary.ensures.sound t _ refl _ tables frames) c.in_err-say_summary.ensures.cause c.in_err-say_summary.ensures.never_cut (c.in_ok-served.ensures.quiet t refl).script)

pub returns-in_err-say_summary-clause-says : goal.returns-in_err-say_summary-clause-says
returns-in_err-say_summary-clause-says g c =
    let p = err_from_is_err_and c.from_residual-in_err-say_summary.result c.from_residual-in_err-say_summary.ensures.1 in
    rw (p.1, p.2) (λ t.
    rw (c.line_count.ensures c.args.seed)
    (SaysSummary-said c.frames-frames.result _ c.in_ok-served.served.refused (Some c.in_err-say_summary.field-0.0) _ _ _ _ (λ none. absurd (let no : Some (of_host c.in_err-say_summary.field-0.0) ≡ None = none in cc))
    (c.in_ok-served.ensures.quiet t refl).said (c.in_err-say_summary.ensures.says t _ refl)))

pub returns-in_err-say_summary-clause-rest : goal.returns-in_err-say_summary-clause-rest
returns-in_err-say_summary-clause-rest g c = λ t.
    KeepsScript-summed c.new.result (Ok c.in_ok-served.served) _ _ _ (bytes_left c.serve.new.source (g.H.Host.state c.serve.new.h)) _ _ (c.in_ok-served.ensures.quiet t refl).script (c.in_ok-served.ensures.takes t) (c.in_err-say_summary.ensures.says t _ refl)

pub returns-clause-sums : goal.returns-clause-sums
returns-clause-sums g c = λ t size e w ready.
    let answered = c.in_ok-served.ensures.answered t size e w ready in
    let takes = c.in_ok-served.ensures.takes t in
    let count_is = c.line_count.ensures c.args.seed in
    let long = length-gen_lines c.args.seed c.args.count in
    let most : c.line_count.result ≤ 5 * c.args.count + 11 = omega (arith, count_is, long) in
    let tables = tables_there size w c.args.seed c.args.count c.requires.few c.args.daemon _ _ _ _ ready _ _ c.new.ensures c.in_ok-served.served answered takes _ count_is most _ c.frames-frames.ensures.frames in
    let frames = frames_there size w c.args.seed c.args.count c.requires.few c.args.daemon _ _ _ _ ready _ _ c.new.ensures c.in_ok-served.served answered takes _ count_is most _ c.frames-frames.ensures.frames in
    SumsUp-generated size w c.args.seed c.args.count c.requires.few c.args.daemon _ _ _ _ ready _ _ c.new.ensures c.in_ok-served.served answered takes _ count_is most None _ _
    (c.in_ok-say_summary.ensures.sound t _ refl _ tables frames) c.in_ok-say_summary.ensures.cause c.in_ok-say_summary.ensures.never_cut (c.in_ok-served.ensures.quiet t refl).script

pub returns-clause-says : goal.returns-clause-says
returns-clause-says g c = λ t.
    rw (c.line_count.ensures c.args.seed)
    (SaysSummary-said c.frames-frames.result _ c.in_ok-served.served.refused None _ _ _ _ (λ _. refl) (c.in_ok-served.ensures.quiet t refl).said (c.in_ok-say_summary.ensures.says t _ refl))

pub returns-clause-rest : goal.returns-clause-rest
returns-clause-rest g c = λ t.
    KeepsScript-summed c.new.result (Ok c.in_ok-served.served) _ _ _ (bytes_left c.serve.new.source (g.H.Host.state c.serve.new.h)) _ _ (c.in_ok-served.ensures.quiet t refl).script (c.in_ok-served.ensures.takes t) (c.in_ok-say_summary.ensures.says t _ refl)
