use Rattle.std.proofs.Common.{◌∙◌, ◌<◌, Some, ap, arith, length, sym, take}
use Rattle.gen_work.specs.GenLines.{gen_lines}
use Rattle.gen_work.proofs.WholeScript.{length-gen_lines, line_written}
use Rattle.gen_work.proofs.gen_line.Goals as goal

pub returns-clause-line : goal.returns-clause-line
returns-clause-line c =
    let known : c.args.line < length (gen_lines c.args.seed c.args.count) = omega (arith, length-gen_lines c.args.seed c.args.count) in
    line_written (gen_lines c.args.seed c.args.count) c.from_line.result c.next_line.new.self c.args.line c.next_line.new.out c.next_line.result known
    c.from_line.ensures c.next_line.ensures.line c.next_line.ensures.end
    ∙ ap (λ bytes. Some (take bytes c.next_line.new.out)) (sym c.unwrap_or.ensures)
