use Rattle.std.proofs.Common.{ℕ, ◌+◌, Option, sym, ap, subst, ◌∙◌}
use Rattle.std.specs.Prelude.{unwrap_or}
use Rattle.std.proofs.lemmas.Bool.{leb-true}
use Rattle.pud_defs.specs.Formats.Image.{Image}
use Rattle.pud_defs.specs.Logging.Entries.{Log}
use Rattle.log_entry.specs.Ranges.{HasRange}
use Rattle.soundness.specs.Overlaying.{GivesWord}
use Rattle.soundness.proofs.Overlaid.{word_uncounted, word_given}
use Rattle.soundness.proofs.overlay.Overlay.word.Goals as goal

pub returns-then-counts_none-clause-value : goal.returns-then-counts_none-clause-value
returns-then-counts_none-clause-value g c = λ t image same over outside.
    word_uncounted c.range.result image c.args.w c.in_ok-before.before (subst (HasRange c.range.result) over.log c.range.ensures) outside
    (leb-true c.range.result.hi (c.range.result.lo + 1) (sym c.counts_none.ensures ∙ c.if-counts_none.true))
    (c.in_ok-before.ensures.value t ∙ ap (λ (i : Image). i c.args.w) same)

pub returns-clause-value : goal.returns-clause-value
returns-clause-value g c = λ t image same over outside.
    word_given c.args.self.now image c.args.w c.in_ok-before.before c.unwrap_or.result c.given-given.result over outside
    (c.in_ok-before.ensures.value t ∙ ap (λ (i : Image). i c.args.w) same)
    (subst (λ (log : Log). GivesWord log over.entries c.args.w c.given-given.result) over.log (c.given-given.ensures over.entries (ap (λ (l : Log). l.entries) over.log ∙ over.are)))
    (c.unwrap_or.ensures ∙ ap (λ (o : Option ℕ). unwrap_or o c.in_ok-before.before) c.or.ensures)
