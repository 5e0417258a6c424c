use Rattle.std.proofs.Common.{◌≡◌, ℕ, ◌++◌, List, [], Bool, cond, length, sym, ap, ◌∙◌, arith, append-nil}
use Rattle.std.specs.Prelude.{slice_index_or}
use Rattle.pud_defs.specs.Logging.Settled.{ALL_LOGS}
use Rattle.pud_defs.specs.Output.StartText.{refused_line}
use Rattle.pud_defs.proofs.Output.StartText.{first_lines, first_lines-none, first_lines-more, first_lines-all}
use Rattle.recover.specs.declared.judge.Mark.TheVariants.{Closed}
use Rattle.recover.specs.Verdicts.{is_refused_mark}
use Rattle.puddled.proofs.starting.refused_text.Goals as goal
use Rattle.puddled.proofs.starting.refused_text.Goals.{then-is_refused, else-is_refused}

pub loop-number-init : goal.loop-number-init
loop-number-init c = record { lines = c.new-text.ensures ∙ sym (first_lines-none _); within = omega (arith, ap length c.new-text.ensures) }

pub loop-number-preserved : goal.loop-number-preserved
loop-number-preserved c =
    let n = c.loop-number.number in
    let refused : ℕ → Bool = λ number. is_refused_mark (slice_index_or c.args.marks.now number Closed) in
    elim c.if-is_refused.branch [
      | then-is_refused w ↦ record {
        lines = rw w.text-is (w.add_refused.ensures.line ∙ ap (λ (l : List ℕ). l ++ refused_line n) c.loop-number.invariant.lines
            ∙ ap (λ (b : Bool). first_lines refused n ++ cond b (refused_line n) []) (sym (sym c.is_refused.ensures ∙ w.if-is_refused.true)) ∙ sym (first_lines-more refused n));
        within = rw w.text-is (omega (arith, w.add_refused.ensures.within, c.loop-number.invariant.within));
      }
      | else-is_refused w ↦ record {
        lines = rw w.text-is (c.loop-number.invariant.lines ∙ sym (append-nil _)
            ∙ ap (λ (b : Bool). first_lines refused n ++ cond b (refused_line n) []) (sym (sym c.is_refused.ensures ∙ w.if-is_refused.false)) ∙ sym (first_lines-more refused n));
        within = rw w.text-is (omega (arith, c.loop-number.invariant.within));
      }
    ]

pub returns : goal.returns
returns c =
    let last : c.loop-number.number ≡ ALL_LOGS = omega (arith, c.loop-number-test.false) in
    c.loop-number.invariant.lines ∙ ap (λ (n : ℕ). first_lines (λ number. is_refused_mark (slice_index_or c.args.marks.now number Closed)) n) last ∙ first_lines-all _
